use Rattle.std.proofs.Common.{◌≡◌, drop}
use Rattle.samoa_model.specs.Allowed.{bound_in}
use Rattle.samoa_declare.proofs.weights.bound_of.Given as goal

abbrev pub invariant-loop-bound : goal.invariant-loop-bound
invariant-loop-bound l = bound_in l.bounds l.micro ≡ bound_in (drop l.bound-index l.bounds) l.micro
