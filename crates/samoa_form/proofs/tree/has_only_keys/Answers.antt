use Rattle.std.proofs.Common.{rules}
use Rattle.samoa_form.proofs.Views.{known_keys-members_view}
use Rattle.samoa_form.proofs.tree.has_only_keys.Goals as goal

pub returns-in-Some : goal.returns-in-Some
returns-in-Some c =
    let known = known_keys-members_view c.args.keys.now c.in-Some.object.now.entries c.are_among.result c.are_among.ensures in
    search rules
