-- An input is split at its first line feed.
use Rattle.std.proofs.Common.{◌≡◌, ◌≢◌, ◌+◌, ◌<◌, refl, ap, subst, ◌∙◌, arith, ℕ, zero, suc, Bool, All, List, [], ◌∷◌, ◌++◌, length, take, drop, slice_index, Some, None, if◌then◌else◌}
use Rattle.std.proofs.lemmas.List.Elements.{All-head, All-tail}
use Rattle.std.proofs.lemmas.Bool.{eq-eqb, eqb-true, ne_eqb}
use Rattle.memchr.specs.Find.{IsFirstByte, is_byte}
use Rattle.samoa_run.specs.Replays.{journal_part, script_part}

-- what the first byte adds
abbrev script_if : Bool → ℕ → List ℕ → List ℕ
script_if b c cs = if b then [] else c ∷ script_part cs

abbrev journal_if : Bool → List ℕ → List ℕ
journal_if b cs = if b then cs else journal_part cs

script_here : (c : ℕ) (cs : List ℕ) → c ≡ 10 → script_part (c ∷ cs) ≡ []
script_here c cs e = ap (λ (b : Bool). script_if b c cs) (eq-eqb c 10 e)

script_later : (c : ℕ) (cs : List ℕ) → (c ≡ 10 → ⊥) → script_part (c ∷ cs) ≡ c ∷ script_part cs
script_later c cs not = ap (λ (b : Bool). script_if b c cs) (ne_eqb c 10 not)

journal_here : (c : ℕ) (cs : List ℕ) → c ≡ 10 → journal_part (c ∷ cs) ≡ cs
journal_here c cs e = ap (λ (b : Bool). journal_if b cs) (eq-eqb c 10 e)

journal_later : (c : ℕ) (cs : List ℕ) → (c ≡ 10 → ⊥) → journal_part (c ∷ cs) ≡ journal_part cs
journal_later c cs not = ap (λ (b : Bool). journal_if b cs) (ne_eqb c 10 not)

-- the two parts
pub record AreParts (text first after : List ℕ) : Type 0 where
  pub line : script_part text ≡ first
  pub rest : journal_part text ≡ after

cut_at : (at : ℕ) (text : List ℕ) → at < length text → ((k : ℕ) → k < at → slice_index text k ≡ 10 → ⊥) → slice_index text at ≡ 10 → AreParts text (take at text) (drop (suc at) text)
cut_at at [] within before here = absurd (omega (arith, within))
cut_at zero (c ∷ cs) within before here = record { line = script_here c cs here; rest = journal_here c cs here }
cut_at (suc at) (c ∷ cs) within before here =
    let not : c ≡ 10 → ⊥ = before 0 (omega arith) in
    let later = cut_at at cs (omega (arith, within)) (λ k less. before (suc k) (omega (arith, less))) here in
    record { line = script_later c cs not ∙ ap (λ (l : List ℕ). c ∷ l) later.line; rest = journal_later c cs not ∙ later.rest }

uncut : (text : List ℕ) → ((k : ℕ) → k < length text → slice_index text k ≡ 10 → ⊥) → AreParts text text []
uncut [] before = record { line = refl; rest = refl }
uncut (c ∷ cs) before =
    let not : c ≡ 10 → ⊥ = before 0 (omega arith) in
    let later = uncut cs (λ k less. before (suc k) (omega (arith, less))) in
    record { line = script_later c cs not ∙ ap (λ (l : List ℕ). c ∷ l) later.line; rest = journal_later c cs not ∙ later.rest }

-- as a search finds them
pub found : (at : ℕ) (text : List ℕ) → IsFirstByte (is_byte 10) text (Some at) → AreParts text (take at text) (drop (at + 1) text)
found at text is =
    let next : suc at ≡ at + 1 = omega arith in
    subst (λ (n : ℕ). AreParts text (take at text) (drop n text)) next
    (cut_at at text is.0.high (λ k less e. is.0.before k (omega arith) less (eq-eqb _ _ e)) (eqb-true _ _ is.1))

pub nowhere : (text : List ℕ) → IsFirstByte (is_byte 10) text None → AreParts text text []
nowhere text is = uncut text (λ k less e. is k (omega arith) less (eq-eqb _ _ e))

-- of a line with what comes after it
pub of_line : (line rest : List ℕ) → All (λ (c : ℕ). c ≢ 10) line → AreParts (line ++ 10 ∷ rest) line rest
of_line [] rest lacks = record { line = script_here 10 rest refl; rest = journal_here 10 rest refl }
of_line (c ∷ cs) rest lacks =
    let not : c ≡ 10 → ⊥ = All-head (λ (d : ℕ). d ≢ 10) c cs lacks in
    let later = of_line cs rest (All-tail (λ (d : ℕ). d ≢ 10) c cs lacks) in
    record { line = script_later c (cs ++ 10 ∷ rest) not ∙ ap (λ (l : List ℕ). c ∷ l) later.line; rest = journal_later c (cs ++ 10 ∷ rest) not ∙ later.rest }
