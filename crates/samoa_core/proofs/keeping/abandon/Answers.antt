use Rattle.std.proofs.Common.{ℕ, subst}
use Rattle.samoa_model.specs.declared.record.Step.{Step}
use Rattle.samoa_core.specs.Passing.{MarksEntry}
use Rattle.samoa_core.proofs.Coming.{abandon-indexed, back-here, here-after}
use Rattle.samoa_core.proofs.keeping.abandon.Goals as goal

pub mark_entry-requires-clause-kept : goal.mark_entry-requires-clause-kept
mark_entry-requires-clause-kept g c =
    rw c.comp-comp.ensures
    (here-after c.args.control.now c.abandon.new.self (Step.Abandon c.args.turn.comp) c.args.turn.comp c.recall.ensures c.abandon.ensures.step (back-here c.args.control.now c.args.turn c.recall.ensures c.requires.away)).since

pub mark_entry-requires-clause-admitted : goal.mark_entry-requires-clause-admitted
mark_entry-requires-clause-admitted g c =
    rw c.comp-comp.ensures
    (here-after c.args.control.now c.abandon.new.self (Step.Abandon c.args.turn.comp) c.args.turn.comp c.recall.ensures c.abandon.ensures.step (back-here c.args.control.now c.args.turn c.recall.ensures c.requires.away)).admitted

pub returns-clause-indexed : goal.returns-clause-indexed
returns-clause-indexed g c =
    abandon-indexed c.args.control.now c.abandon.new.self c.args.index.now c.mark_entry.new.index c.args.turn c.recall.ensures c.requires.away c.abandon.ensures.step c.requires.indexed
    (λ x keeps. subst (λ (comp : ℕ). MarksEntry c.abandon.new.self c.mark_entry.new.index x comp) c.comp-comp.ensures (c.mark_entry.ensures.entry x keeps))
