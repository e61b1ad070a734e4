-- The text of a journal tells nothing: each of its lines begins with a letter that neither heads a computation nor tells a delivery.
use Rattle.std.proofs.Common.{ℕ, refl, List, [], ◌∷◌, ◌++◌, length, codes, decimal}
use Rattle.samoa_model.specs.declared.record.Step.{Step}
use Rattle.samoa_report.specs.Steps.{journal_text, step_text, steps_text}
use Rattle.samoa_laws.specs.text.Clause.{IsMute}
use Rattle.samoa_laws.proofs.text.Mute.{mute_line}
use Rattle.samoa_laws.proofs.text.Texts.{Plain, both, literal, number, space}

-- the rest of a line after its letter
pair : (comp micro : ℕ) → Plain (codes " " ++ decimal comp ++ codes " " ++ decimal micro)
pair comp micro = both (both (both space (number comp)) space) (number micro)

mute_step : (step : Step) (rest : List ℕ) → IsMute rest → IsMute (step_text step ++ rest)
mute_step (Step.Admit comp) rest more = mute_line (codes "a " ++ decimal comp) rest (both (literal (codes "a ") refl) (number comp)) (refl, refl) more
mute_step (Step.Enter comp micro) rest more =
    mute_line (codes "e " ++ decimal comp ++ codes " " ++ decimal micro) rest (both (literal (codes "e") refl) (pair comp micro)) (refl, refl) more
mute_step (Step.Leave comp) rest more = mute_line (codes "l " ++ decimal comp) rest (both (literal (codes "l ") refl) (number comp)) (refl, refl) more
mute_step (Step.Abandon comp) rest more = mute_line (codes "b " ++ decimal comp) rest (both (literal (codes "b ") refl) (number comp)) (refl, refl) more
mute_step (Step.Release comp micro) rest more =
    mute_line (codes "r " ++ decimal comp ++ codes " " ++ decimal micro) rest (both (literal (codes "r") refl) (pair comp micro)) (refl, refl) more
mute_step (Step.End comp) rest more = mute_line (codes "n " ++ decimal comp) rest (both (literal (codes "n ") refl) (number comp)) (refl, refl) more

mute_steps : (steps : List Step) → IsMute (steps_text steps)
mute_steps [] = tt
mute_steps (step ∷ steps) = mute_step step (steps_text steps) (mute_steps steps)

pub mute_journal : (steps : List Step) → IsMute (journal_text steps)
mute_journal steps =
    mute_line (codes "J " ++ decimal (length steps)) (steps_text steps) (both (literal (codes "J ") refl) (number (length steps))) (refl, refl) (mute_steps steps)
