use Rattle.std.proofs.Common.{rules, subst}
use Rattle.std.proofs.lemmas.Fn.{filter_same}
use Rattle.samoa_repl.specs.Arrived.{comes, IsAtMost}
use Rattle.samoa_repl.specs.declared.early.Over.{Over}
use Rattle.samoa_repl.proofs.Swept.{all_kept}
use Rattle.samoa_repl.proofs.early.drop_over.Goals as goal

pub returns-in-Nothing-clause-kept : goal.returns-in-Nothing-clause-kept
returns-in-Nothing-clause-kept c =
    all_kept (comes c.args.epoch c.args.delivered.now) c.args.early.now.items
    (subst (λ (o : Over). IsAtMost o c.args.epoch c.args.delivered.now c.args.early.now.items) c.in-Nothing.is c.requires.over)

pub returns-in-Anything-clause-kept : goal.returns-in-Anything-clause-kept
returns-in-Anything-clause-kept c = filter_same _ _ _ (λ x b f' k. search rules) _ _ c.retain.ensures.filtered
