use Rattle.std.proofs.Common.{◌<◌, List, length, reverse, sym, ap, ◌∙◌, arith, length-append, All, Some, subst}
use Rattle.std.proofs.lemmas.List.{length-reverse}
use Rattle.samoa_model.specs.declared.record.Entry.{Entry}
use Rattle.samoa_model.specs.declared.ids.HandlerId.{HandlerId}
use Rattle.samoa_serial.specs.declared.call.Active.{Active}
use Rattle.samoa_serial.specs.declared.call.Waiting.{Waiting}
use Rattle.samoa_model.specs.Entries.{calls_made}
use Rattle.samoa_model.specs.Allowed.{Attempt}
use Rattle.samoa_serial.specs.Calls.{woken}
use Rattle.samoa_serial.specs.World.{attempts_of, handler_of}
use Rattle.samoa_model.specs.Allowed.{attempt_all}
use Rattle.samoa_bind.specs.Bound.{table_at}
use Rattle.samoa_calls.specs.Tried.{active_after, entries_after}
use Rattle.samoa_calls.proofs.Made.{length-entries_of}
use Rattle.samoa_serial.proofs.Lengths.{length-calls_from, length-to_begin, calls_made-append, calls_made-entries_of}
use Rattle.samoa_calls.proofs.Tries.{accepts_is, refuses_is, entries_after-accepted, active_after-accepted}
use Rattle.samoa_calls.proofs.Wakes.{wake_refused, wake_accepted, names_first, names_later, empty_backwards}
use Rattle.samoa_calls.specs.Held.{Calling}
use Rattle.samoa_calls.proofs.Listed.{listed_next}
use Rattle.samoa_calls.specs.Held.{handlers_of}
use Rattle.samoa_calls.proofs.calls.Calls.wake.Goals as goal

pub resolve-handlers-requires-clause-event : goal.resolve-handlers-requires-clause-event
resolve-handlers-requires-clause-event c =
    names_first _ c.loop-self.self-inside.waiting.items c.loop-self.self-inside.taken _ c.index-first.ensures (omega arith) c.loop-self.invariant.names

pub loop-self-init : goal.loop-self-init
loop-self-init c = record {
  kept = c.self.invariant;
  idle = empty_backwards _ (ap (λ (x : Calling). x.active) c.self.view_is ∙ c.requires.idle);
  names = subst (λ (ws : List Waiting). All (λ (w : Waiting). w.event.0 < length (table_at c.args.tables.now c.args.node c.args.epoch)) ws)
      (sym (ap (λ (x : Calling). x.waiting) c.self.view_is)) c.requires.names;
  listed = record {
    within = c.self.invariant.passed;
    list = ap (λ (x : Calling). x.waiting_handlers) c.self.view_is ∙ (c.requires.listed
        ∙ ap (λ (x : Calling). handlers_of (table_at c.args.tables.now c.args.node c.args.epoch) x.waiting) (sym c.self.view_is));
  };
  same = ap (λ (x : Calling). woken (attempts_of c.args.decl.now (table_at c.args.tables.now c.args.node c.args.epoch)) x.waiting x.books x.answer) c.self.view_is;
}

pub invariant_of-self-in-None : goal.invariant_of-self-in-None
invariant_of-self-in-None c =
    let es = c.loop-self.self-inside.entries.entries in
    let first = c.index-first.result.now in
    let acc = accepts_is c.args.decl.now es (handler_of (Some first.asker)) c.resolve-handlers.result.now (sym c.attempt-refused.ensures.refusal ∙ c.in-None.is) in
    let entries_are = c.attempt-refused.ensures.entries ∙ entries_after-accepted es (Some first.asker) first.event first.arg _ _ acc in
    let active_are = c.attempt-refused.ensures.active ∙ active_after-accepted es _ first.arg _ _ acc in
    let entries_len = simp (length-append, length-entries_of, length-calls_from) at (ap (λ (xs : List Entry). length xs) entries_are) in
    let active_len = simp (length-append, length-reverse, length-to_begin, length-calls_from) at (ap (λ (xs : List Active). length xs) active_are) in
    let made_now = simp (calls_made-append, calls_made-entries_of, length-calls_from) at (ap calls_made entries_are) in
    let next = listed_next (table_at c.args.tables.now c.args.node c.args.epoch) c.loop-self.self-inside.handlers.items c.loop-self.self-inside.passed c.loop-self.self-inside.waiting.items
    c.loop-self.self-inside.taken first c.resolve-handlers.result.now c.index-first.ensures (omega arith) c.resolve-handlers.ensures.list c.loop-self.invariant.listed in
    record {
      taken = omega arith;
      made = omega (arith, made_now);
      active_room = omega (arith, active_len);
      waiting_room = omega arith;
      entries_room = omega (arith, active_len, entries_len);
      numbers = omega arith;
      counts = c.attempt-refused.ensures.visits;
      few_active = omega (arith, active_len);
      passed = next.within;
      handlers_room = omega arith;
      few_handlers = omega arith;
      root = λ none. absurd (omega (arith, entries_len, ap (λ (hs : List HandlerId). length hs) acc.list));
    }

pub returns-in-None-clause-woken : goal.returns-in-None-clause-woken
returns-in-None-clause-woken c =
    let es = c.loop-self.self-inside.entries.entries in
    let first = c.index-first.result.now in
    let handlers = c.resolve-handlers.result.now in
    let answer_of : Attempt = attempt_all c.args.decl.now es (handler_of (Some first.asker)) handlers in
    let acc = accepts_is c.args.decl.now es (handler_of (Some first.asker)) handlers (sym c.attempt-refused.ensures.refusal ∙ c.in-None.is) in
    let was_idle = ap (λ (xs : List Active). active_after es (reverse xs) first.arg answer_of) c.loop-self.invariant.idle in
    wake_accepted c.args.decl.now (table_at c.args.tables.now c.args.node c.args.epoch) c.loop-self.self-inside.waiting.items c.loop-self.self-inside.taken c.loop-self.self-inside.units first es _
    c.loop-self.self-inside.answer handlers _ c.index-first.ensures (omega arith) c.resolve-handlers.ensures.list acc
    (c.attempt-refused.ensures.active ∙ was_idle) c.attempt-refused.ensures.entries
    ∙ c.loop-self.invariant.same

pub loop-self-preserved : goal.loop-self-preserved
loop-self-preserved c =
    let es = c.loop-self.self-inside.entries.entries in
    let first = c.index-first.result.now in
    let handlers = c.resolve-handlers.result.now in
    let answer_of : Attempt = attempt_all c.args.decl.now es (handler_of (Some first.asker)) handlers in
    let refuses = refuses_is answer_of c.in-Some.field-0 (sym c.attempt-refused.ensures.refusal ∙ c.in-Some.is) in
    let entries_are = c.attempt-refused.ensures.entries ∙ ap (λ (a : Attempt). entries_after es (Some first.asker) first.event first.arg a) refuses in
    let active_are = c.attempt-refused.ensures.active ∙ ap (λ (a : Attempt). active_after es (reverse c.loop-self.self-inside.active.items) first.arg a) refuses in
    let entries_len = simp length-append at (ap (λ (xs : List Entry). length xs) entries_are) in
    let active_len = simp length-reverse at (ap (λ (xs : List Active). length xs) active_are) in
    let made_now = simp calls_made-append at (ap calls_made entries_are) in
    let next = listed_next (table_at c.args.tables.now c.args.node c.args.epoch) c.loop-self.self-inside.handlers.items c.loop-self.self-inside.passed c.loop-self.self-inside.waiting.items
    c.loop-self.self-inside.taken first c.resolve-handlers.result.now c.index-first.ensures (omega arith) c.resolve-handlers.ensures.list c.loop-self.invariant.listed in
    record {
      kept = record {
        taken = omega arith;
        made = omega (arith, made_now);
        active_room = omega (arith, active_len);
        waiting_room = omega arith;
        entries_room = omega (arith, active_len, entries_len);
        numbers = omega arith;
        counts = c.attempt-refused.ensures.visits;
        few_active = omega (arith, active_len);
        passed = next.within;
        handlers_room = omega arith;
        few_handlers = omega arith;
        root = λ none. absurd (omega (arith, entries_len));
      };
      idle = empty_backwards _ (active_are ∙ ap (λ (xs : List Active). reverse xs) c.loop-self.invariant.idle);
      names = names_later _ c.loop-self.self-inside.waiting.items c.loop-self.self-inside.taken first (omega arith) c.loop-self.invariant.names;
      listed = next;
      same = wake_refused c.args.decl.now (table_at c.args.tables.now c.args.node c.args.epoch) c.loop-self.self-inside.waiting.items c.loop-self.self-inside.taken c.loop-self.self-inside.units first es _
          c.loop-self.self-inside.answer handlers c.in-Some.field-0 c.index-first.ensures (omega arith) c.resolve-handlers.ensures.list refuses c.attempt-refused.ensures.entries
          ∙ c.loop-self.invariant.same;
    }

pub returns-in-None-clause-listed : goal.returns-in-None-clause-listed
returns-in-None-clause-listed c =
    let first = c.index-first.result.now in
    let next = listed_next (table_at c.args.tables.now c.args.node c.args.epoch) c.loop-self.self-inside.handlers.items c.loop-self.self-inside.passed c.loop-self.self-inside.waiting.items
    c.loop-self.self-inside.taken first c.resolve-handlers.result.now c.index-first.ensures (omega arith) c.resolve-handlers.ensures.list c.loop-self.invariant.listed in
    next.list

pub returns-clause-listed : goal.returns-clause-listed
returns-clause-listed c = c.loop-self.invariant.listed.list
