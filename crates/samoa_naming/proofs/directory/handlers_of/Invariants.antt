use Rattle.std.proofs.Common.{◌≡◌, take, map}
use Rattle.samoa_naming.specs.Groups.{own_names}
use Rattle.samoa_naming.proofs.directory.handlers_of.Given as goal

abbrev pub invariant-loop-micro : goal.invariant-loop-micro
invariant-loop-micro l = l.handlers.items ≡ map own_names (take l.micro-index l.micros)
