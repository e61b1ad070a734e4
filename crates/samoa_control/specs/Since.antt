-- What was admitted since the last clear.
use Rattle.std.specs.Prelude.{ℕ, suc, List, [], ◌∷◌, take}
use Rattle.samoa_model.specs.declared.record.Step.{Step}
use Rattle.samoa_invariant.specs.Runs.{Trace}

-- how many of these steps are admissions
abbrev pub admissions : List Step → ℕ
admissions [] = 0
admissions (Step.Admit comp ∷ steps) = suc (admissions steps)
admissions (_ ∷ steps) = admissions steps

-- the last of these lengths, or the one before them all
abbrev pub last_of : ℕ → List ℕ → ℕ
last_of before [] = before
last_of before (clear ∷ clears) = last_of clear clears

-- how many computations were admitted before the last clear: those that were cleared away
unfoldable pub cleared_comps : Trace → ℕ
cleared_comps t = admissions (take (last_of 0 t.clears) t.journal)
