-- What a script that bytes hold keeps to.
use Rattle.std.proofs.Common.{◌≡◌, ℕ, List, None, sym, subst}
use Rattle.serde_json.specs.Data.{Data}
use Rattle.std.specs.Prelude.{◌↔◌}
use Rattle.samoa_model.specs.declared.script.Script.{Script}
use Rattle.samoa_model.specs.Range.{IsInRange}
use Rattle.samoa_grammar.specs.Walks.{◌then◌}
use Rattle.samoa_grammar.specs.Forms.{form_of_all, draft_of}
use Rattle.samoa_grammar.specs.Passes.{twice_fault, unknown_fault, totals_fault}
use Rattle.samoa_grammar.specs.Meaning.{script_of}
use Rattle.samoa_grammar.specs.Held.{walk_fault, script_meant, Holds}
use Rattle.samoa_form.specs.Limits.{HasLimits}
use Rattle.samoa_form.proofs.Limits.{draft_limits}
use Rattle.samoa_model.specs.Valid.{IsValid}
use Rattle.samoa_grammar.proofs.Chains.{then_four}
use Rattle.samoa_naming.proofs.Valid.{script_valid}
use Rattle.samoa_print.specs.Canonical.{tree_of}
use Rattle.samoa_print.proofs.Round.{valid_passes, valid_means}
use Rattle.samoa_script.specs.Meant.{IsMeant}

-- ---- the passes of a tree without a fault

pub record Passes (d : Data) : Type 0 where
  pub form : form_of_all d ≡ None
  pub once : twice_fault (draft_of d) ≡ None
  pub known : unknown_fault (draft_of d) ≡ None
  pub totals : totals_fault (draft_of d) ≡ None

pub passes_of : (d : Data) → walk_fault d ≡ None → Passes d
unfolding walk_fault
passes_of d h =
    let parts = then_four (form_of_all d) (twice_fault (draft_of d)) (unknown_fault (draft_of d)) (totals_fault (draft_of d)) h in
    record { form = parts.0; once = parts.1; known = parts.2; totals = parts.3 }

-- what holds of the script of each draft that passes holds of a script that bytes hold
by_tree : (P : Script → Type 0) → ((d : Data) → Passes d → P (script_of (draft_of d))) → (d : Data) (script : Script) → walk_fault d ≡ None → script ≡ script_meant d → P script
unfolding script_meant
by_tree P each d script passes means = subst P (sym means) (each d (passes_of d passes))

limits_of : (d : Data) → Passes d → HasLimits (draft_of d)
limits_of d p = draft_limits d p.form

pub tree_valid : (d : Data) (script : Script) → walk_fault d ≡ None → script ≡ script_meant d → IsValid script
tree_valid = by_tree IsValid (λ d p. script_valid (draft_of d) (limits_of d p) p.once p.known p.totals)

pub tree_range : (d : Data) (script : Script) → walk_fault d ≡ None → script ≡ script_meant d → IsInRange script
tree_range d script passes means = (tree_valid d script passes means).in_range

pub held_valid : (bytes : List ℕ) (script : Script) → Holds bytes script → IsValid script
held_valid bytes script held = tree_valid held.tree script held.passes held.means

pub valid_meant : (script : Script) → IsValid script ↔ IsMeant script
valid_meant script = (
  λ valid. record { tree = tree_of script; passes = valid_passes script valid; means = sym (valid_means script valid) },
  λ meant. tree_valid meant.tree script meant.passes meant.means,
)
