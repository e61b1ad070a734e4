use Rattle.std.proofs.Common.{rules, bytes_eq}
use Rattle.samoa_names.proofs.Positions.{found_within}
use Rattle.samoa_names.proofs.index.NameIndex.find.Goals as goal

pub returns-clause-below : goal.returns-clause-below
returns-clause-below c = found_within (bytes_eq c.args.name.now) c.args.self.now c.copied.result (search rules)
