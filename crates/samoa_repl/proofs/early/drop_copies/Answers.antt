use Rattle.std.proofs.Common.{rules}
use Rattle.std.proofs.lemmas.Fn.{filter_same}
use Rattle.samoa_repl.specs.Arrived.{is_copy}
use Rattle.samoa_repl.proofs.Swept.{none_copied}
use Rattle.samoa_repl.proofs.early.drop_copies.Goals as goal

pub returns-then-not-has_copy-clause-kept : goal.returns-then-not-has_copy-clause-kept
returns-then-not-has_copy-clause-kept c = none_copied (is_copy c.args.pair) c.args.early.now.items (cc)

pub returns-clause-kept : goal.returns-clause-kept
returns-clause-kept c = filter_same _ _ _ (λ x b f' k. search rules) _ _ c.retain.ensures.filtered
