use Rattle.std.proofs.Common.{ℕ, subst}
use Rattle.samoa_model.specs.declared.record.Step.{Step}
use Rattle.samoa_control.proofs.Facts.{back}
use Rattle.samoa_core.specs.Passing.{HasLeft}
use Rattle.samoa_core.proofs.Coming.{back-here, has-passed, here-after, holds-still, is-over, leave-can, leave-holds, leave-passes}
use Rattle.samoa_core.proofs.keeping.leave.Goals as goal

pub take_note-requires-clause-kept : goal.take_note-requires-clause-kept
take_note-requires-clause-kept g c =
    rw c.comp-comp.ensures
    (here-after c.args.control.now c.leave.new.self (Step.Leave c.args.ran.comp) c.args.ran.comp c.recall.ensures c.leave.ensures.step (back-here c.args.control.now c.args.ran c.recall.ensures c.requires.away)).since

pub take_note-requires-clause-admitted : goal.take_note-requires-clause-admitted
take_note-requires-clause-admitted g c =
    rw c.comp-comp.ensures
    (here-after c.args.control.now c.leave.new.self (Step.Leave c.args.ran.comp) c.args.ran.comp c.recall.ensures c.leave.ensures.step (back-here c.args.control.now c.args.ran c.recall.ensures c.requires.away)).admitted

pub holds-requires-clause-kept : goal.holds-requires-clause-kept
holds-requires-clause-kept g c =
    rw c.comp-comp.ensures
    (here-after c.args.control.now c.leave.new.self (Step.Leave c.args.ran.comp) c.args.ran.comp c.recall.ensures c.leave.ensures.step (back-here c.args.control.now c.args.ran c.recall.ensures c.requires.away)).since

pub holds-requires-clause-admitted : goal.holds-requires-clause-admitted
holds-requires-clause-admitted g c =
    rw c.comp-comp.ensures
    (here-after c.args.control.now c.leave.new.self (Step.Leave c.args.ran.comp) c.args.ran.comp c.recall.ensures c.leave.ensures.step (back-here c.args.control.now c.args.ran c.recall.ensures c.requires.away)).admitted

pub holds-requires-clause-micro : goal.holds-requires-clause-micro
holds-requires-clause-micro g c = rw (c.leave.ensures.step, c.micro-micro.ensures) (back c.args.control.now c.args.ran c.recall.ensures c.requires.away).within

pub pass_on-requires : goal.pass_on-requires
pass_on-requires g c = record {
  can = rw (c.comp-comp.ensures, c.micro-micro.ensures)
      (leave-can c.args.control.now c.leave.new.self c.args.index.now c.take_note.new.index c.args.ran c.recall.ensures c.requires.away c.leave.ensures.step c.requires.indexed
      (λ x keeps. subst (λ (comp : ℕ). HasLeft c.leave.new.self c.take_note.new.index x comp) c.comp-comp.ensures (c.take_note.ensures x keeps)));
}

pub returns-then-not-holds-clause-indexed : goal.returns-then-not-holds-clause-indexed
returns-then-not-holds-clause-indexed g c =
    leave-passes c.args.control.now c.leave.new.self c.args.index.now c.take_note.new.index c.pass_on.new.index c.args.ran c.recall.ensures c.requires.away c.leave.ensures.step c.requires.indexed
    (λ x keeps. subst (λ (comp : ℕ). HasLeft c.leave.new.self c.take_note.new.index x comp) c.comp-comp.ensures (c.take_note.ensures x keeps))
    (λ x keeps. has-passed c.leave.new.self c.pass_on.new.index x c.comp-comp.result c.args.ran.comp c.micro-micro.result c.args.ran.micro c.comp-comp.ensures c.micro-micro.ensures (c.pass_on.ensures x keeps))
    (is-over c.leave.new.self c.comp-comp.result c.args.ran.comp c.micro-micro.result c.args.ran.micro c.holds.result c.comp-comp.ensures c.micro-micro.ensures c.holds.ensures (λ yes. let no = c.if-not-holds.true in cc))

pub returns-else-not-holds-clause-indexed : goal.returns-else-not-holds-clause-indexed
returns-else-not-holds-clause-indexed g c =
    leave-holds c.args.control.now c.leave.new.self c.args.index.now c.take_note.new.index c.args.ran c.recall.ensures c.requires.away c.leave.ensures.step c.requires.indexed
    (λ x keeps. subst (λ (comp : ℕ). HasLeft c.leave.new.self c.take_note.new.index x comp) c.comp-comp.ensures (c.take_note.ensures x keeps))
    (holds-still c.leave.new.self c.comp-comp.result c.args.ran.comp c.micro-micro.result c.args.ran.micro c.holds.result c.comp-comp.ensures c.micro-micro.ensures c.holds.ensures (λ no. let yes = c.if-not-holds.false in cc))
