use Rattle.std.proofs.Common.{subst, sym}
use Rattle.samoa_model.specs.Valid.{IsValid}
use Rattle.samoa_laws.specs.trace.Group.{IsGroup}
use Rattle.samoa_generate.proofs.Valid.{generated_group, generated_valid, same_parts}
use Rattle.samoa_generate.proofs.script.generate.Goals as goal

pub returns-clause-valid : goal.returns-clause-valid
returns-clause-valid c =
    subst IsValid
    (sym (same_parts _ _ _ _ _ _ _ _ _ _ _ _ _ _ _ c.in_ok-micros.ensures c.in_ok-decls.ensures c.in_ok-events.ensures c.in_ok-changes.ensures c.in_ok-does.ensures (cc) (cc)))
    (generated_valid c.args.n c.requires.most)

pub returns-clause-group : goal.returns-clause-group
returns-clause-group c =
    subst IsGroup
    (sym (same_parts _ _ _ _ _ _ _ _ _ _ _ _ _ _ _ c.in_ok-micros.ensures c.in_ok-decls.ensures c.in_ok-events.ensures c.in_ok-changes.ensures c.in_ok-does.ensures (cc) (cc)))
    (generated_group c.args.n)
