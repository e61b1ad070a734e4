-- The fields of a step's line: its letter, and one number or two.
use Rattle.std.specs.Prelude.{ℕ, Bool, true, false, List, ◌∷◌, ◌++◌, ◌||◌, ◌==◌, ◌<◌, ◌^◌, codes, decimal}
use Rattle.samoa_model.specs.declared.record.Step.{Step}

-- the step's numbers have 32 bits
abbrev pub FitsStep : Step → Type 0
FitsStep (Step.Admit comp) = comp < 2 ^ 32
FitsStep (Step.Enter comp micro) = (comp < 2 ^ 32) × (micro < 2 ^ 32)
FitsStep (Step.Leave comp) = comp < 2 ^ 32
FitsStep (Step.Abandon comp) = comp < 2 ^ 32
FitsStep (Step.Release comp micro) = (comp < 2 ^ 32) × (micro < 2 ^ 32)
FitsStep (Step.End comp) = comp < 2 ^ 32

-- the letter that its line begins with
abbrev pub letter_of : Step → ℕ
letter_of (Step.Admit comp) = 97
letter_of (Step.Enter comp micro) = 101
letter_of (Step.Leave comp) = 108
letter_of (Step.Abandon comp) = 98
letter_of (Step.Release comp micro) = 114
letter_of (Step.End comp) = 110

abbrev pub comp_of : Step → ℕ
comp_of (Step.Admit comp) = comp
comp_of (Step.Enter comp micro) = comp
comp_of (Step.Leave comp) = comp
comp_of (Step.Abandon comp) = comp
comp_of (Step.Release comp micro) = comp
comp_of (Step.End comp) = comp

-- its microprotocol, 0 where the step has none
abbrev pub micro_of : Step → ℕ
micro_of (Step.Admit comp) = 0
micro_of (Step.Enter comp micro) = micro
micro_of (Step.Leave comp) = 0
micro_of (Step.Abandon comp) = 0
micro_of (Step.Release comp micro) = micro
micro_of (Step.End comp) = 0

-- a line of this letter has a microprotocol
abbrev pub has_micro : ℕ → Bool
has_micro letter = letter == 101 || letter == 114

-- the numbers of a line, with a microprotocol or without
abbrev pub numbers : Bool → ℕ → ℕ → List ℕ
numbers true comp micro = decimal comp ++ codes " " ++ decimal micro
numbers false comp micro = decimal comp

-- a line without its line feed
abbrev pub fields : ℕ → ℕ → ℕ → List ℕ
fields letter comp micro = letter ∷ 32 ∷ numbers (has_micro letter) comp micro

-- the line of a step without its line feed
abbrev pub step_fields : Step → List ℕ
step_fields step = fields (letter_of step) (comp_of step) (micro_of step)
