use Rattle.std.proofs.Common.{List, [], ◌∷◌, subst, refl, None}
use Rattle.samoa_model.specs.declared.record.Step.{Step}
use Rattle.samoa_invariant.specs.Runs.{Trace, with_step}
use Rattle.samoa_kernel.specs.Boards.{BoardSeat, Shows}
use Rattle.samoa_kernel.proofs.Found.{IsPut, IsTaken, closed_grown, closed_shows, finds, in_hand, put_back, seen_since, taken_out}
use Rattle.samoa_kernel.proofs.Opening.{abandon_closes}
use Rattle.samoa_kernel.proofs.board.Board.abandon.Goals as goal

pub taken_back-requires-clause-away : goal.taken_back-requires-clause-away
taken_back-requires-clause-away g c =
    let take = c.take.ensures in
    let found : IsTaken c.args.seat.now c.take.new.seat c.into_box-core.result.value =
    taken_out c.args.seat.now c.take.new.seat c.take.result c.into_box-core.result.value c.into_box-core.ensures.core take.fixed take.grown take.hand take.kept c.into_box-core.ensures.run in
    (in_hand c.args.seat.now c.take.new.seat c.into_box-core.result.value c.args.turn found c.requires.hand).2.away

pub put-requires-clause-grown : goal.put-requires-clause-grown
put-requires-clause-grown g c lifetimes outlives =
    let t : Trace = c.into_box-core.result.value in
    let take = c.take.ensures in
    let found : IsTaken c.args.seat.now c.take.new.seat t =
    taken_out c.args.seat.now c.take.new.seat c.take.result t c.into_box-core.ensures.core take.fixed take.grown take.hand take.kept c.into_box-core.ensures.run in
    closed_grown c.args.seat.now c.take.new.seat t c.taken_back.result found c.args.turn (Step.Abandon c.args.turn.comp ∷ []) c.requires.hand c.taken_back.ensures.step (abandon_closes c.args.turn.comp)

pub returns-clause-step : goal.returns-clause-step
returns-clause-step g c =
    let t : Trace = c.into_box-core.result.value in
    let u : Trace = c.taken_back.result in
    let mid : BoardSeat = c.take.new.seat in
    let new : BoardSeat = c.put.new.seat in
    let take = c.take.ensures in
    let found : IsTaken c.args.seat.now mid t =
    taken_out c.args.seat.now mid c.take.result t c.into_box-core.ensures.core take.fixed take.grown take.hand take.kept c.into_box-core.ensures.run in
    let put : IsPut mid new u = put_back mid new u c.put.ensures.kept c.put.ensures.seen c.put.ensures.hand in
    let ys : List Step = Step.Abandon c.args.turn.comp ∷ [] in record {
      found = t;
      finds = finds c.args.seat.now mid t found;
      away = (in_hand c.args.seat.now mid t c.args.turn found c.requires.hand).2.away;
      shows = subst (λ (x : Trace). Shows new x None) c.taken_back.ensures.step
          (closed_shows c.args.seat.now mid t u found c.args.turn ys c.requires.hand c.taken_back.ensures.step (abandon_closes c.args.turn.comp) new put c.taken_back.ensures.run);
    }

pub returns-clause-since : goal.returns-clause-since
returns-clause-since g c =
    let step = returns-clause-step g c in
    seen_since c.args.seat.now c.put.new.seat step.found (with_step step.found (Step.Abandon c.args.turn.comp)) None step.finds step.shows (Step.Abandon c.args.turn.comp ∷ [], refl)

pub returns-clause-hand : goal.returns-clause-hand
returns-clause-hand g c = (returns-clause-step g c).shows.hand
