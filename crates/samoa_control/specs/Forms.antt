-- What a declaration's form says of a release, and of the local version where a call was completed.
use Rattle.std.specs.Prelude.{ℕ, ◌+◌, ◌*◌, Bool, true, false, ◌&&◌, List, get_or, set, Option, Some, None}
use Rattle.samoa_model.specs.Allowed.{declares}
use Rattle.samoa_model.specs.declared.ids.MicroId.{MicroId}
use Rattle.samoa_model.specs.declared.script.Decl.{Decl}
use Rattle.samoa_invariant.specs.Play.{is_bound}
use Rattle.samoa_vca_route.specs.Masks.{AreMasksOf}
use Rattle.samoa_vca_route.specs.Routes.{IsGraph}

-- a declaration by which the tests of its form may be made: a route is a graph of few vertices
abbrev pub IsTestable : Decl → Type 0
IsTestable (Decl.Set micros) = Unit {0}
IsTestable (Decl.Bound bounds) = Unit {0}
IsTestable (Decl.Route vertices roots edges) = IsGraph vertices edges

-- where the declaration is a route, these are its masks
abbrev pub IsMasked : Decl → Option (List ℕ) → Type 0
IsMasked (Decl.Set micros) masks = Unit {0}
IsMasked (Decl.Bound bounds) masks = Unit {0}
IsMasked (Decl.Route vertices roots edges) None = ⊥
IsMasked (Decl.Route vertices roots edges) (Some masks) = AreMasksOf vertices edges masks

-- whether a microprotocol is released only once nothing is left of the computation's calls
abbrev pub waits_for_rest : Decl → Bool
waits_for_rest (Decl.Set micros) = true
waits_for_rest (Decl.Bound bounds) = true
waits_for_rest (Decl.Route vertices roots edges) = false

-- whether a call that is completed at a microprotocol raises its local version
abbrev pub raises : Decl → ℕ → Bool
raises decl p = is_bound decl && declares decl p

-- cells with one of them raised, or not
abbrev pub raised_if : Bool → ℕ → List ℕ → List ℕ
raised_if true at cells = set cells at (get_or cells at 0 + 1)
raised_if false at cells = cells

-- the local versions after a call was completed at this microprotocol of a node, or none
abbrev pub risen : Decl → ℕ → ℕ → Option MicroId → List ℕ → List ℕ
risen decl columns node None cells = cells
risen decl columns node (Some micro) cells = raised_if (raises decl micro.0) (node * columns + micro.0) cells
