-- The lines of steps: a text begins with at most one, and is the lines of at most one list of steps and a rest that
-- begins with none.
use Rattle.std.proofs.Common.{◌≡◌, ◌≢◌, ℕ, ◌<◌, ◌^◌, ◌==◌, Bool, true, false, cond, List, [], ◌∷◌, ◌++◌, All, drop, get_or, decimal, refl, sym, ap, ◌∙◌, arith, append_assoc}
use Rattle.std.proofs.lemmas.Fmt.{decimal_is_IsNumeral, decimal_injective}
use Rattle.std.proofs.lemmas.Str.Parse.{digit_from_value}
use Rattle.std.proofs.lemmas.List.Elements.{All-head, All-tail}
use Rattle.std.specs.Str.Parse.{AllDigits}
use Rattle.samoa_model.specs.declared.record.Step.{Step}
use Rattle.samoa_report.specs.Steps.{step_text, steps_text}
use Rattle.samoa_report.specs.StepFields.{FitsStep, letter_of, comp_of, micro_of, has_micro, numbers, step_fields}
use Rattle.samoa_report.specs.BadLine.{BeginsWithStep}
use Rattle.samoa_report.proofs.Cuts.{Lacks, lacks_append, same_cut}

-- digits are neither spaces nor line feeds
digits_lack : (b : ℕ) (ds : List ℕ) → b < 48 → AllDigits 10 ds → Lacks b ds
digits_lack b [] l d = tt
digits_lack b (c ∷ cs) l d = ((λ e. omega (arith, digit_from_value c d.0)), digits_lack b cs l d.1)

pub decimal_lacks : (b n : ℕ) → b < 48 → n < 2 ^ 32 → Lacks b (decimal n)
decimal_lacks b n l h = digits_lack b (decimal n) l (decimal_is_IsNumeral n (omega arith)).0.1

-- a pair is cut at its space
pub pair_cut : (m n : ℕ) → decimal m ++ 32 ∷ [] ++ decimal n ≡ decimal m ++ (32 ∷ decimal n)
pair_cut m n = append_assoc (decimal m) (32 ∷ []) (decimal n)

numbers_lack : (paired : Bool) (m n : ℕ) → m < 2 ^ 32 → n < 2 ^ 32 → Lacks 10 (numbers paired m n)
numbers_lack true m n p q =
    let space : Lacks 10 (32 ∷ []) = ((λ e. omega arith), tt) in
    lacks_append 10 (decimal m ++ 32 ∷ []) (decimal n) (lacks_append 10 (decimal m) (32 ∷ []) (decimal_lacks 10 m (omega arith) p) space) (decimal_lacks 10 n (omega arith) q)
numbers_lack false m n p q = decimal_lacks 10 m (omega arith) p

pub comp_fits : (s : Step) → FitsStep s → comp_of s < 2 ^ 32
comp_fits (Step.Admit comp) h = h
comp_fits (Step.Enter comp micro) h = h.0
comp_fits (Step.Leave comp) h = h
comp_fits (Step.Abandon comp) h = h
comp_fits (Step.Release comp micro) h = h.0
comp_fits (Step.End comp) h = h

pub micro_fits : (s : Step) → FitsStep s → micro_of s < 2 ^ 32
micro_fits (Step.Admit comp) h = omega arith
micro_fits (Step.Enter comp micro) h = h.1
micro_fits (Step.Leave comp) h = omega arith
micro_fits (Step.Abandon comp) h = omega arith
micro_fits (Step.Release comp micro) h = h.1
micro_fits (Step.End comp) h = omega arith

letter_no_feed : (s : Step) → letter_of s ≢ 10
letter_no_feed (Step.Admit comp) e = omega arith
letter_no_feed (Step.Enter comp micro) e = omega arith
letter_no_feed (Step.Leave comp) e = omega arith
letter_no_feed (Step.Abandon comp) e = omega arith
letter_no_feed (Step.Release comp micro) e = omega arith
letter_no_feed (Step.End comp) e = omega arith

pub fields_lack : (s : Step) → FitsStep s → Lacks 10 (step_fields s)
fields_lack s h = (letter_no_feed s, ((λ e. omega arith), numbers_lack (has_micro (letter_of s)) (comp_of s) (micro_of s) (comp_fits s h) (micro_fits s h)))

-- a step's line is its fields and a line feed
pub line_is : (s : Step) (after : List ℕ) → step_text s ++ after ≡ step_fields s ++ 10 ∷ after
line_is (Step.Admit comp) after = simp append_assoc
line_is (Step.Enter comp micro) after = simp append_assoc
line_is (Step.Leave comp) after = simp append_assoc
line_is (Step.Abandon comp) after = simp append_assoc
line_is (Step.Release comp micro) after = simp append_assoc
line_is (Step.End comp) after = simp append_assoc

-- the step of a letter and its numbers
made : ℕ → ℕ → ℕ → Step
made letter comp micro =
    cond (letter == 97) (Step.Admit comp) (cond (letter == 101) (Step.Enter comp micro) (cond (letter == 108) (Step.Leave comp)
    (cond (letter == 98) (Step.Abandon comp) (cond (letter == 114) (Step.Release comp micro) (Step.End comp)))))

made_again : (s : Step) → made (letter_of s) (comp_of s) (micro_of s) ≡ s
unfolding made
made_again (Step.Admit comp) = refl
made_again (Step.Enter comp micro) = refl
made_again (Step.Leave comp) = refl
made_again (Step.Abandon comp) = refl
made_again (Step.Release comp micro) = refl
made_again (Step.End comp) = refl

no_micro : (s : Step) → has_micro (letter_of s) ≡ false → micro_of s ≡ 0
no_micro (Step.Admit comp) e = refl
no_micro (Step.Enter comp micro) e = absurd (cc)
no_micro (Step.Leave comp) e = refl
no_micro (Step.Abandon comp) e = refl
no_micro (Step.Release comp micro) e = absurd (cc)
no_micro (Step.End comp) e = refl

same_numbers : (paired : Bool) (a b m n : ℕ) → a < 2 ^ 32 → b < 2 ^ 32 → m < 2 ^ 32 → n < 2 ^ 32 → (paired ≡ false → a ≡ 0) → (paired ≡ false → b ≡ 0) → numbers paired m a ≡ numbers paired n b → (m ≡ n) × (a ≡ b)
same_numbers true a b m n fa fb fm fn za zb e =
    let k = same_cut 32 (decimal m) (decimal n) (decimal a) (decimal b) (decimal_lacks 32 m (omega arith) fm) (decimal_lacks 32 n (omega arith) fn)
    (sym (pair_cut m a) ∙ e ∙ pair_cut n b) in
    (decimal_injective m n (omega arith) (omega arith) k.0, decimal_injective a b (omega arith) (omega arith) k.1)
same_numbers false a b m n fa fb fm fn za zb e = (decimal_injective m n (omega arith) (omega arith) e, za refl ∙ sym (zb refl))

-- a line is that of at most one step
pub same_step : (s t : Step) → FitsStep s → FitsStep t → step_fields s ≡ step_fields t → s ≡ t
same_step s t p q e =
    let letters : letter_of s ≡ letter_of t = ap (λ l. get_or l 0 0) e in
    let both : numbers (has_micro (letter_of s)) (comp_of s) (micro_of s) ≡ numbers (has_micro (letter_of t)) (comp_of t) (micro_of t) = ap (drop 2) e in
    let k = same_numbers (has_micro (letter_of s)) (micro_of s) (micro_of t) (comp_of s) (comp_of t) (micro_fits s p) (micro_fits t q) (comp_fits s p) (comp_fits t q)
    (no_micro s) (λ no. no_micro t (ap has_micro (sym letters) ∙ no))
    (both ∙ ap (λ l. numbers (has_micro l) (comp_of t) (micro_of t)) (sym letters)) in
    let comps : comp_of s ≡ comp_of t = k.0 in
    let micros : micro_of s ≡ micro_of t = k.1 in
    sym (made_again s) ∙ (λ i. made (letters i) (comps i) (micros i)) ∙ made_again t

-- a text begins with the line of at most one step
pub same_first : (s t : Step) (x y : List ℕ) → FitsStep s → FitsStep t → step_text s ++ x ≡ step_text t ++ y → (s ≡ t) × (x ≡ y)
same_first s t x y p q e =
    let k = same_cut 10 (step_fields s) (step_fields t) x y (fields_lack s p) (fields_lack t q) (sym (line_is s x) ∙ e ∙ line_is t y) in
    (same_step s t p q k.0, k.1)

-- the empty text begins with no step's line
pub nothing_begins : BeginsWithStep [] → ⊥
nothing_begins b = let e : [] ≡ step_fields b.step ++ 10 ∷ b.after = b.is ∙ line_is b.step b.after in cc

-- a text is the lines of at most one list of steps and a rest that begins with none
pub same_steps : (a b : List Step) (x y : List ℕ) → All FitsStep a → All FitsStep b → ¬ BeginsWithStep x → ¬ BeginsWithStep y → steps_text a ++ x ≡ steps_text b ++ y → (a ≡ b) × (x ≡ y)
same_steps [] [] x y p q nx ny e = (refl, e)
same_steps [] (t ∷ b) x y p q nx ny e =
    absurd (nx (record { step = t; fits = All-head FitsStep t b q; after = steps_text b ++ y; is = e ∙ append_assoc (step_text t) (steps_text b) y }))
same_steps (s ∷ a) [] x y p q nx ny e =
    absurd (ny (record { step = s; fits = All-head FitsStep s a p; after = steps_text a ++ x; is = sym e ∙ append_assoc (step_text s) (steps_text a) x }))
same_steps (s ∷ a) (t ∷ b) x y p q nx ny e =
    let joined : step_text s ++ (steps_text a ++ x) ≡ step_text t ++ (steps_text b ++ y) = sym (append_assoc (step_text s) (steps_text a) x) ∙ e ∙ append_assoc (step_text t) (steps_text b) y in
    let k = same_first s t (steps_text a ++ x) (steps_text b ++ y) (All-head FitsStep s a p) (All-head FitsStep t b q) joined in
    let r = same_steps a b x y (All-tail FitsStep s a p) (All-tail FitsStep t b q) nx ny k.1 in
    let here : s ≡ t = k.0 in
    let there : a ≡ b = r.0 in
    ((λ i. here i ∷ there i), r.1)

-- one step more
pub more_steps : (steps : List Step) (step : Step) (after : List ℕ) → steps_text (steps ++ step ∷ []) ++ after ≡ steps_text steps ++ (step_text step ++ after)
more_steps [] step after = append_assoc (step_text step) [] after
more_steps (s ∷ steps) step after =
    append_assoc (step_text s) (steps_text (steps ++ step ∷ [])) after ∙ ap (λ r. step_text s ++ r) (more_steps steps step after)
    ∙ sym (append_assoc (step_text s) (steps_text steps) (step_text step ++ after))
