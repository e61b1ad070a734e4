-- The first fault of a walk over a tree.
use Rattle.std.specs.Prelude.{List, [], ◌∷◌, Option, Some, None}
use Rattle.samoa_grammar.specs.declared.fault.WalkFault.{WalkFault}

-- the first fault of two tests
infixr 5 ◌then◌
abbrev pub ◌then◌ : Option WalkFault → Option WalkFault → Option WalkFault
None then later = later
(Some fault) then later = Some fault

-- the first fault along a list
abbrev pub first_along : {X : Type 0} → (X → Option WalkFault) → List X → Option WalkFault
first_along fault [] = None
first_along fault (x ∷ xs) = fault x then first_along fault xs
