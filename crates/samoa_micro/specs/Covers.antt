-- What a script takes of each kind.
use Rattle.std.specs.Prelude.{ℕ, ◌*◌, ◌≤◌, List, count_by}
use Rattle.samoa_model.specs.declared.setup.Kind.{Kind}
use Rattle.samoa_model.specs.declared.script.Script.{Script}
use Rattle.samoa_model.specs.contracts.setup.KindPartialEq.TheImpl.{ghosts}

-- how many of a kind there are
abbrev pub count_of : List Kind → Kind → ℕ
count_of kinds kind = count_by (λ k. ghosts.eq k kind) kinds

-- each node has its own copy of each microprotocol
abbrev pub wanted : Script → Kind → ℕ
wanted script kind = script.nodes * count_by (λ micro. ghosts.eq micro.kind kind) script.micros

-- there are at least as many of each kind as the script takes
abbrev pub Covers : Script → List Kind → Type 0
Covers script kinds = (kind : Kind) → wanted script kind ≤ count_of kinds kind
