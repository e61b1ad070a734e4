use Rattle.std.proofs.Common.{◌≡◌, take, map}
use Rattle.samoa_model.specs.Routes.{once}
use Rattle.samoa_grammar.specs.Meaning.{handler_of}
use Rattle.samoa_naming.proofs.routes.roots_once.Given as goal

abbrev pub invariant-loop-root : goal.invariant-loop-root
invariant-loop-root l = l.found.items ≡ once (map (handler_of l.draft.micros) (take l.root-index l.roots))
