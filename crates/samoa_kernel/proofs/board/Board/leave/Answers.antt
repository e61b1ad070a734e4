use Rattle.std.proofs.Common.{None, ap, sym}
use Rattle.samoa_invariant.specs.Runs.{Trace}
use Rattle.samoa_kernel.specs.Boards.{BoardSeat}
use Rattle.samoa_kernel.proofs.Found.{IsLeft, IsPut, IsTaken, closed_fixed, closed_grown, closed_shows, finds, in_hand, left_steps, put_back, seen_since, taken_out}
use Rattle.samoa_kernel.proofs.board.Board.leave.Goals as goal

pub left-requires : goal.left-requires
left-requires g c =
    let take = c.take.ensures in
    let found : IsTaken c.args.seat.now c.take.new.seat c.into_box-core.result.value =
    taken_out c.args.seat.now c.take.new.seat c.take.result c.into_box-core.result.value c.into_box-core.ensures.core take.fixed take.grown take.hand take.kept c.into_box-core.ensures.run in
    record { away = (in_hand c.args.seat.now c.take.new.seat c.into_box-core.result.value c.args.ran found c.requires.hand).2.away }

pub put-requires-clause-fixed : goal.put-requires-clause-fixed
put-requires-clause-fixed g c lifetimes outlives =
    let t : Trace = c.into_box-core.result.value in
    let take = c.take.ensures in
    let found : IsTaken c.args.seat.now c.take.new.seat t =
    taken_out c.args.seat.now c.take.new.seat c.take.result t c.into_box-core.ensures.core take.fixed take.grown take.hand take.kept c.into_box-core.ensures.run in
    let left : IsLeft t c.left.result c.args.ran.comp = left_steps t c.left.result c.args.ran.comp c.left.ensures.settles in
    closed_fixed c.args.seat.now c.take.new.seat t c.left.result found c.args.ran left.steps c.requires.hand left.made left.close

pub put-requires-clause-grown : goal.put-requires-clause-grown
put-requires-clause-grown g c lifetimes outlives =
    let t : Trace = c.into_box-core.result.value in
    let take = c.take.ensures in
    let found : IsTaken c.args.seat.now c.take.new.seat t =
    taken_out c.args.seat.now c.take.new.seat c.take.result t c.into_box-core.ensures.core take.fixed take.grown take.hand take.kept c.into_box-core.ensures.run in
    let left : IsLeft t c.left.result c.args.ran.comp = left_steps t c.left.result c.args.ran.comp c.left.ensures.settles in
    closed_grown c.args.seat.now c.take.new.seat t c.left.result found c.args.ran left.steps c.requires.hand left.made left.close

pub returns-clause-step : goal.returns-clause-step
returns-clause-step g c =
    let t : Trace = c.into_box-core.result.value in
    let u : Trace = c.left.result in
    let mid : BoardSeat = c.take.new.seat in
    let new : BoardSeat = c.put.new.seat in
    let take = c.take.ensures in
    let found : IsTaken c.args.seat.now mid t =
    taken_out c.args.seat.now mid c.take.result t c.into_box-core.ensures.core take.fixed take.grown take.hand take.kept c.into_box-core.ensures.run in
    let put : IsPut mid new u = put_back mid new u c.put.ensures.kept c.put.ensures.seen c.put.ensures.hand in
    let left : IsLeft t u c.args.ran.comp = left_steps t u c.args.ran.comp c.left.ensures.settles in record {
      found = t;
      finds = finds c.args.seat.now mid t found;
      away = (in_hand c.args.seat.now mid t c.args.ran found c.requires.hand).2.away;
      after = u;
      settles = c.left.ensures.settles;
      shows = closed_shows c.args.seat.now mid t u found c.args.ran left.steps c.requires.hand left.made left.close new put c.left.ensures.run;
    }

pub returns-clause-since : goal.returns-clause-since
returns-clause-since g c =
    let step = returns-clause-step g c in
    let left : IsLeft step.found step.after c.args.ran.comp = left_steps step.found step.after c.args.ran.comp step.settles in
    seen_since c.args.seat.now c.put.new.seat step.found step.after None step.finds step.shows (left.steps, sym (ap (λ (x : Trace). x.journal) left.made))

pub returns-clause-hand : goal.returns-clause-hand
returns-clause-hand g c = (returns-clause-step g c).shows.hand
