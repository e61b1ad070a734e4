use Rattle.std.proofs.Common.{◌<◌, List, length, zero, arith, take, ◌∙◌, refl, subst, take_all}
use Rattle.samoa_model.specs.declared.ids.HandlerId.{HandlerId}
use Rattle.samoa_calls.specs.Tried.{AreAdded}
use Rattle.samoa_calls.proofs.Counts.{added_more, added_none, count_at, room_at}
use Rattle.samoa_calls.proofs.Passes.{refusal_from-passed, refusal_from-refused, refusal_from-none, refusal_in-attempt, nonempty}
use Rattle.samoa_calls.proofs.attempt.refusal.Goals as goal

pub loop-handler-init : goal.loop-handler-init
loop-handler-init c = record { tested = λ entries counts. refl; added = added_none _ c.args.handlers.now c.requires.room }

pub returns-in-Err-clause-refusal : goal.returns-in-Err-clause-refusal
returns-in-Err-clause-refusal c = λ entries counts.
    let hs = c.args.handlers.now in
    let i = c.loop-handler.handler-index in
    let some_there : zero < length hs = omega arith in
    let known = c.requires.counted i _ c.loop-handler-test.true in
    let count = count_at _ _ entries (take i hs) _ counts c.loop-handler.invariant.added known in
    refusal_from-refused _ _ _ _ _ _ _ c.loop-handler-test.true (c.in-Err.ensures.counted entries (take i hs) count)
    ∙ (c.loop-handler.invariant.tested entries counts ∙ refusal_in-attempt c.args.decl.now entries c.args.caller hs some_there)

pub loop-handler-preserved : goal.loop-handler-preserved
loop-handler-preserved c =
    let hs = c.args.handlers.now in
    let i = c.loop-handler.handler-index in
    let known = c.requires.counted i _ c.loop-handler-test.true in
    record {
      tested = λ entries counts.
          let count = count_at _ _ entries (take i hs) _ counts c.loop-handler.invariant.added known in
          refusal_from-passed _ _ _ _ _ _ c.loop-handler-test.true (c.in_default.ensures.counted entries (take i hs) count)
          ∙ c.loop-handler.invariant.tested entries counts;
      added = added_more _ _ _ hs i _ c.loop-handler-test.true c.loop-handler.invariant.added c.add.ensures.counts known;
    }

pub returns-clause-refusal : goal.returns-clause-refusal
returns-clause-refusal c = λ entries counts.
    let hs = c.args.handlers.now in
    let some_there : zero < length hs = nonempty hs _ c.is_empty.ensures c.if-is_empty.false in
    refusal_from-none c.args.decl.now entries c.args.caller hs _ c.loop-handler-test.false
    ∙ (c.loop-handler.invariant.tested entries counts ∙ refusal_in-attempt c.args.decl.now entries c.args.caller hs some_there)

pub returns-clause-added : goal.returns-clause-added
returns-clause-added c = λ none.
    subst (λ (hs : List HandlerId). AreAdded c.args.visits.now hs c.loop-handler.visits) (take_all _ c.args.handlers.now c.loop-handler-test.false) c.loop-handler.invariant.added

pub add-requires : goal.add-requires
add-requires c =
    let known = c.requires.counted c.loop-handler.handler-index _ c.loop-handler-test.true in
    record {
      known = known;
      room = room_at _ _ c.args.handlers.now _ _ c.requires.room c.loop-handler.invariant.added c.loop-handler-test.true known;
    }
