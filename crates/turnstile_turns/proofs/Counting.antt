-- Lists with one item for each turn.
use Rattle.std.proofs.Common.{◌≡◌, ℕ, ◌+◌, ◌-◌, ◌≤◌, List, length, Option, true, false, subst, sym, ap, ◌∙◌, arith, length-append}
use Rattle.std.proofs.lemmas.List.{length-replicate, replicate-append-replicate}
use mathlib.Core.List.{IsPrefix}
use Rattle.samoa_turnstile.specs.Turning.{IsGrown}
use Rattle.samoa_turnstile.specs.Closed.{none_open}
use Rattle.turnstile_turns.specs.Turns.{turns}

-- a list is no longer than one that it begins
pub length-prefix : {A : Type 0} (xs ys : List A) → IsPrefix xs ys → length xs ≤ length ys
length-prefix xs ys p = let e : length xs + length p.0 ≡ length ys = sym (length-append xs p.0) ∙ ap length p.1 in omega arith

turns_prefix : (n m : ℕ) → n ≤ m → IsPrefix (turns n) (turns m)
turns_prefix n m le = let e : n + (m - n) ≡ m = omega arith in (turns (m - n), replicate-append-replicate n (m - n) (tt {0}) ∙ ap turns e)

-- a list of turns may be put back, longer
pub counts_on : (hand : Option ℕ) (old : List (Unit {0})) (was now : ℕ) → old ≡ turns was → was ≤ now → IsGrown none_open hand old (turns now)
counts_on hand old was now is le = record {
  begins = subst (λ (xs : List (Unit {0})). IsPrefix xs (turns now)) (sym is) (turns_prefix was now le);
  others = λ k o ne. let e : false ≡ true = o in absurd (cc e);
  at_most_one = λ k l a o b p. let e : false ≡ true = o in absurd (cc e);
}

-- a list of turns that begins with as many as its goal, and has no more, has just as many
pub counted : (seen : List (Unit {0})) (count goal : ℕ) → IsPrefix seen (turns count) → goal ≤ length seen → count ≤ goal → count ≡ goal
counted seen count goal p reached within = let a = length-prefix seen (turns count) p in let b : length (turns count) ≡ count = length-replicate count (tt {0}) in omega arith
