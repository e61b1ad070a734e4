use Rattle.std.proofs.Common.{sym, subst, ap, ◌∙◌}
use Rattle.std.specs.List.{All}
use Rattle.samoa_grammar.specs.declared.draft.Draft.{Draft}
use Rattle.samoa_naming.specs.Sizes.{FitsLoss, FitsCrash}
use Rattle.samoa_naming.proofs.Passed.{vertices_few}
use Rattle.samoa_naming.proofs.Sizes.{does_fit, losses_fit, crashes_fit}
use Rattle.samoa_naming.proofs.resolving.resolve.Goals as goal

pub decl_defs-requires-clause-within : goal.decl_defs-requires-clause-within
decl_defs-requires-clause-within c = vertices_few c.args.draft.now c.requires.totals

pub do_defs-requires-clause-fits : goal.do_defs-requires-clause-fits
do_defs-requires-clause-fits c = does_fit c.args.draft.now c.requires.limits c.requires.totals

pub loss_defs-requires : goal.loss_defs-requires
loss_defs-requires c =
    subst (All FitsLoss) (sym (c.as_slice.ensures ∙ ap (λ (x : Draft). x.losses) c.draft-whole.ensures)) (losses_fit c.args.draft.now c.requires.limits c.requires.totals)

pub crash_defs-requires : goal.crash_defs-requires
crash_defs-requires c =
    subst (All FitsCrash) (sym (c.as_slice-2.ensures ∙ ap (λ (x : Draft). x.crashes) c.draft-whole.ensures)) (crashes_fit c.args.draft.now c.requires.limits c.requires.totals)
