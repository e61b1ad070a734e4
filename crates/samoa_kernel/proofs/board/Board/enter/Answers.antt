use Rattle.std.proofs.Common.{◌∙◌, sym, append-nil, []}
use Rattle.samoa_invariant.specs.Runs.{Trace}
use Rattle.samoa_kernel.specs.declared.board.Entered.{Entered}
use Rattle.samoa_kernel.specs.Boards.{BoardSeat, IsInHand, begun}
use Rattle.samoa_kernel.specs.Answers.{HasEntered, IfWork, after, hand_after}
use Rattle.samoa_kernel.proofs.Found.{IsPut, IsTaken, entered_grown, entered_shows, finds, more_after, put_back, seen_since, taken_out}
use Rattle.samoa_kernel.proofs.Answering.{exact_is}
use Rattle.samoa_kernel.proofs.board.Board.enter.Goals as goal

in_work : {B : Type 0} (old new : BoardSeat) (answer : Entered B) → HasEntered old answer new → IfWork answer (IsInHand new)
in_work old new (Entered.Work turn) h = record {
  before = h.found;
  basis = h.shows.basis;
  hand = h.shows.hand;
  seen = ([], append-nil (begun h.found turn).journal ∙ sym h.shows.seen);
  away = h.right.away;
}
in_work old new (Entered.Busy out) h = tt
in_work old new Entered.AllEnded h = tt
in_work old new Entered.Stopped h = tt

pub put-requires-clause-grown : goal.put-requires-clause-grown
put-requires-clause-grown g c lifetimes outlives =
    let t : Trace = c.into_box-core.result.value in
    let take = c.take.ensures in
    let found : IsTaken c.args.seat.now c.take.new.seat t =
    taken_out c.args.seat.now c.take.new.seat c.take.result t c.into_box-core.ensures.core take.fixed take.grown take.hand take.kept c.answered-kernel.ensures.run.0 in
    entered_grown c.args.seat.now c.take.new.seat t c.answered-kernel.result.0 found c.requires.hand c.answered-kernel.result.1 c.answered-kernel.ensures.after

pub returns-clause-step : goal.returns-clause-step
returns-clause-step g c =
    let t : Trace = c.into_box-core.result.value in
    let u : Trace = c.answered-kernel.result.0 in
    let answer : Entered g.row.B.Denot = c.answered-kernel.result.1 in
    let mid : BoardSeat = c.take.new.seat in
    let new : BoardSeat = c.put.new.seat in
    let take = c.take.ensures in
    let found : IsTaken c.args.seat.now mid t =
    taken_out c.args.seat.now mid c.take.result t c.into_box-core.ensures.core take.fixed take.grown take.hand take.kept c.answered-kernel.ensures.run.0 in
    let put : IsPut mid new u = put_back mid new u c.put.ensures.kept c.put.ensures.seen c.put.ensures.hand in record {
      found = t;
      finds = finds c.args.seat.now mid t found;
      right = c.answered-kernel.ensures.right;
      exact = exact_is t answer c.answered-kernel.ensures.right;
      shows = entered_shows c.args.seat.now mid t u found c.requires.hand answer c.answered-kernel.ensures.after new put c.answered-kernel.ensures.run.1;
    }

pub returns-clause-turn : goal.returns-clause-turn
returns-clause-turn g c = in_work c.args.seat.now c.put.new.seat c.answered-kernel.result.1 (returns-clause-step g c)

pub returns-clause-since : goal.returns-clause-since
returns-clause-since g c =
    let step = returns-clause-step g c in
    let answer : Entered g.row.B.Denot = c.answered-kernel.result.1 in
    seen_since c.args.seat.now c.put.new.seat step.found (after step.found answer) (hand_after step.found answer) step.finds step.shows (more_after step.found answer)
