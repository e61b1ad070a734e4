use Rattle.std.proofs.Common.{arith, sym, ◌∙◌}
use Rattle.samoa_invariant.proofs.representation.Traces.{count-few}
use Rattle.samoa_core.proofs.Past.{pick-due, pick-least, pick-none, ready-admitted}
use Rattle.samoa_core.proofs.steps.pick_counted.Goals as goal

pub comp_at-requires : goal.comp_at-requires
comp_at-requires g c =
    let lt = ready-admitted c.args.control.now c.args.index.now c.in-Some.at c.requires.indexed c.in-Some.ensures.member in
    let few = count-few c.args.control.now c.recall.ensures.run in
    let first = c.cleared.ensures in
    omega (arith, lt, few, first)

pub returns-in-Some-clause-due : goal.returns-in-Some-clause-due
returns-in-Some-clause-due g c =
    rw (c.comp_at.ensures, c.cleared.ensures)
    (pick-due c.args.control.now c.args.index.now c.in-Some.at c.recall.ensures c.requires.indexed (sym c.stopped.ensures ∙ c.if-stopped.false) c.in-Some.ensures.member c.in-Some.ensures.below)

pub returns-in-Some-clause-least : goal.returns-in-Some-clause-least
returns-in-Some-clause-least g c earlier micro lt =
    let e = c.comp_at.ensures in
    let first = c.cleared.ensures in
    pick-least c.args.control.now c.args.index.now c.in-Some.at c.recall.ensures c.requires.indexed (sym c.stopped.ensures ∙ c.if-stopped.false) c.in-Some.ensures.member c.in-Some.ensures.below earlier micro
    (omega (arith, lt, e, first))

pub returns-in-None-clause-none : goal.returns-in-None-clause-none
returns-in-None-clause-none g c = pick-none c.args.control.now c.args.index.now c.recall.ensures c.requires.indexed c.in-None.ensures.none
