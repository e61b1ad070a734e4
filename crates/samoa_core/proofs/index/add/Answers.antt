use Rattle.std.proofs.Common.{sym, false}
use Rattle.std.proofs.lemmas.List.{set-get_or}
use Rattle.samoa_core.proofs.index.add.Goals as goal

pub returns-else-member : goal.returns-else-member
returns-else-member c = rw c.if-member.false (sym (set-get_or c.args.members.now c.args.at false))
