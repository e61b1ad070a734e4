use Rattle.std.proofs.Common.{arith}
use Rattle.samoa_invariant.proofs.representation.Traces.{count-few}
use Rattle.samoa_core.proofs.Past.{closing-admitted, ends-come}
use Rattle.samoa_core.proofs.settling.next_closing.Goals as goal

pub comp_at-requires : goal.comp_at-requires
comp_at-requires g c =
    let lt = closing-admitted c.args.control.now c.args.index.now c.in-Some.at c.requires.indexed c.in-Some.ensures.member in
    let few = count-few c.args.control.now c.recall.ensures.run in
    let first = c.cleared.ensures in
    omega (arith, lt, few, first)

pub returns-in-Some-clause-admitted : goal.returns-in-Some-clause-admitted
returns-in-Some-clause-admitted g c =
    let lt = closing-admitted c.args.control.now c.args.index.now c.in-Some.at c.requires.indexed c.in-Some.ensures.member in
    let all = c.recall.ensures.all in
    let e = c.comp_at.ensures in
    let first = c.cleared.ensures in
    omega (arith, lt, all, e, first)

pub returns-in-Some-clause-made : goal.returns-in-Some-clause-made
returns-in-Some-clause-made g c before past is =
    rw (c.comp_at.ensures, c.cleared.ensures) (ends-come before c.args.control.now c.args.index.now past c.in-Some.at c.recall.ensures is c.in-Some.ensures.member c.in-Some.ensures.below)
