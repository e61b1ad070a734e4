use Rattle.std.proofs.Common.{ap, sym, subst, ◌∙◌}
use Rattle.samoa_serial.specs.Calls.{Computation}
use Rattle.samoa_serial.specs.World.{attempts_of}
use Rattle.samoa_bind.specs.Bound.{table_at}
use Rattle.samoa_calls.specs.Held.{Held}
use Rattle.samoa_calls.specs.Handed.{AreNamed, IsBetween}
use Rattle.samoa_calls.proofs.Between.{calls_named, outcome_between}
use Rattle.samoa_calls.proofs.Named.{named-taken}
use Rattle.samoa_calls.proofs.comp.Comp.take_outcome.Goals as goal

pub returns-clause-named : goal.returns-clause-named
returns-clause-named c =
    let table = table_at c.args.tables.now c.args.node c.args.epoch in
    let were = subst (λ (h : Held). AreNamed table h.waiting) (sym c.self.view_is) c.requires.waiting_named in
    subst (λ (x : Computation). AreNamed table x.waiting) (sym c.take_outcome.ensures.taken)
    (named-taken table (attempts_of c.args.decl.now table) c.self.inside.calls.comp c.args.outcome were (calls_named table c.args.outcome c.requires.named))

pub take_outcome-requires-clause-named : goal.take_outcome-requires-clause-named
take_outcome-requires-clause-named c = calls_named (table_at c.args.tables.now c.args.node c.args.epoch) c.args.outcome c.requires.named

pub invariant_of-self : goal.invariant_of-self
invariant_of-self c =
    let active = ap (λ (h : Held). h.active) c.self.view_is ∙ c.requires.active.2 in
    subst IsBetween (sym c.take_outcome.ensures.taken)
    (outcome_between (attempts_of c.args.decl.now (table_at c.args.tables.now c.args.node c.args.epoch)) c.self.inside.calls.comp c.requires.active.0 c.requires.active.1 c.args.outcome active)
