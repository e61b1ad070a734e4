-- The lines of a journal, as bytes. Fields are separated by one space, and each line ends with a line feed.
use Rattle.std.specs.Prelude.{ℕ, List, ◌++◌, codes, decimal, length}
use Rattle.std.specs.List.{flat_map}
use Rattle.samoa_model.specs.declared.record.Step.{Step}

-- a letter and a computation
abbrev pub step_of : List ℕ → ℕ → List ℕ
step_of letter comp = letter ++ decimal comp ++ codes "\n"

-- a letter, a computation and a microprotocol
abbrev pub step_at : List ℕ → ℕ → ℕ → List ℕ
step_at letter comp micro = letter ++ decimal comp ++ codes " " ++ decimal micro ++ codes "\n"

-- the line of a step
abbrev pub step_text : Step → List ℕ
step_text (Step.Admit comp) = step_of (codes "a ") comp
step_text (Step.Enter comp micro) = step_at (codes "e ") comp micro
step_text (Step.Leave comp) = step_of (codes "l ") comp
step_text (Step.Abandon comp) = step_of (codes "b ") comp
step_text (Step.Release comp micro) = step_at (codes "r ") comp micro
step_text (Step.End comp) = step_of (codes "n ") comp

-- the lines of steps
abbrev pub steps_text : List Step → List ℕ
steps_text steps = flat_map step_text steps

-- the line that says how many steps a journal has
abbrev pub journal_head : ℕ → List ℕ
journal_head count = codes "J " ++ decimal count ++ codes "\n"

-- a journal after a report: how many steps it has, and their lines
abbrev pub journal_text : List Step → List ℕ
journal_text steps = journal_head (length steps) ++ steps_text steps
