-- A journal that is written line by line.
use Rattle.std.proofs.Common.{◌≡◌, ◌∙◌, ◌+◌, ◌++◌, ◌<◌, ◌≤◌, ℕ, List, [], ◌∷◌, ap, append_assoc, append-nil, drop, get_or, length, subst, sym, take, take-append-drop}
use Rattle.std.specs.declared.option.Option.{Option}
use Rattle.std.specs.Io.KnownBytes.{Appends}
use Rattle.std.proofs.KnownBytes.{Appends-trans}
use Rattle.std.proofs.lemmas.Grind.{flat_map-append}
use Rattle.std.proofs.lemmas.List.{take_all, take_more}
use Rattle.samoa_model.specs.declared.record.Step.{Step}
use Rattle.samoa_ends.specs.Pieces.{AppendsPrefix}
use Rattle.samoa_report.specs.Steps.{journal_head, journal_text, step_text, steps_text}
use Rattle.samoa_ticks.proofs.Parts.{part_after, part_more}

module _ (steps : List Step) where
  abbrev head : List ℕ
  head = journal_head (length steps)

  -- a part of its first line, and a part of what follows
  pub head_part : (old new : Option (List ℕ)) → AppendsPrefix old new head → AppendsPrefix old new (journal_text steps)
  head_part old new part = part_more old new head (steps_text steps) part

  pub steps_part : (old mid new : Option (List ℕ)) → Appends old mid head → AppendsPrefix mid new (steps_text steps) → AppendsPrefix old new (journal_text steps)
  steps_part old mid new wrote part = part_after old mid new head (steps_text steps) wrote part

  pub whole : (old mid new : Option (List ℕ)) → Appends old mid head → Appends mid new (steps_text steps) → Appends old new (journal_text steps)
  whole old mid new wrote more = Appends-trans old mid new head (steps_text steps) wrote more

  -- one line more
  line_at : (i : ℕ) (d : Step) → i < length steps → steps_text (take (i + 1) steps) ≡ steps_text (take i steps) ++ step_text (get_or steps i d)
  line_at i d less =
      ap steps_text (take_more steps i d less)
      ∙ (flat_map-append step_text (take i steps) (get_or steps i d ∷ []) ∙ ap (λ (text : List ℕ). steps_text (take i steps) ++ text) (append-nil (step_text (get_or steps i d))))

  parts_at : (i : ℕ) (d : Step) → i < length steps → steps_text steps ≡ steps_text (take i steps) ++ (step_text (get_or steps i d) ++ steps_text (drop (i + 1) steps))
  parts_at i d less =
      ap steps_text (sym (take-append-drop (i + 1) steps))
      ∙ (flat_map-append step_text (take (i + 1) steps) (drop (i + 1) steps)
      ∙ (ap (λ (text : List ℕ). text ++ steps_text (drop (i + 1) steps)) (line_at i d less) ∙ append_assoc (steps_text (take i steps)) (step_text (get_or steps i d)) (steps_text (drop (i + 1) steps))))

  pub step_part : (i : ℕ) (d : Step) (old mid new : Option (List ℕ)) → i < length steps → Appends old mid (steps_text (take i steps))
      → AppendsPrefix mid new (step_text (get_or steps i d)) → AppendsPrefix old new (steps_text steps)
  step_part i d old mid new less wrote part =
      subst (λ (text : List ℕ). AppendsPrefix old new text) (sym (parts_at i d less))
      (part_after old mid new (steps_text (take i steps)) (step_text (get_or steps i d) ++ steps_text (drop (i + 1) steps)) wrote
      (part_more mid new (step_text (get_or steps i d)) (steps_text (drop (i + 1) steps)) part))

  -- all its lines
  pub all_lines : (i : ℕ) (old new : Option (List ℕ)) → length steps ≤ i → Appends old new (steps_text (take i steps)) → Appends old new (steps_text steps)
  all_lines i old new past wrote = subst (λ (text : List ℕ). Appends old new text) (ap steps_text (take_all i steps past)) wrote
