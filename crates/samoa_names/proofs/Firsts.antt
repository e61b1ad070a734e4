-- A name that gets a number, unless it has one.
use Rattle.std.proofs.Common.{◌≡◌, ℕ, ◌+◌, ◌<◌, Bool, true, false, cond, List, [], ◌∷◌, ◌++◌, length, take, get_or, Option, Some, None, refl, sym, ap, subst, ◌∙◌, arith}
use Rattle.std.specs.Prelude.{not, is_some, bytes_eq}
use Rattle.std.specs.List.{position}
use Rattle.std.proofs.lemmas.List.{take_more, length-take-le}
use Rattle.std.proofs.lemmas.Slice.Eq.{bytes_eq-Decides}
use Rattle.samoa_names.specs.Names.{first_number}
use Rattle.samoa_names.proofs.Positions.{position-push}

pub absent : (o : Option ℕ) → not (is_some o) ≡ true → o ≡ None
absent None h = refl
absent (Some n) h = cc

false_from : (b : Bool) → (b ≡ true → ⊥) → b ≡ false
false_from true h = absurd (h refl)
false_from false h = refl

kept : (o : Option ℕ) (number : ℕ) → o ≡ first_number o false number
kept None number = refl
kept (Some first) number = refl

other_way : (a b : List ℕ) → bytes_eq a b ≡ false → bytes_eq b a ≡ true → ⊥
other_way a b apart same = cc (sym apart ∙ (bytes_eq-Decides a b).1 (sym ((bytes_eq-Decides b a).0 same)))

by_case : (f : List ℕ → Option ℕ) (name q : List ℕ) (number : ℕ) (b : Bool) → bytes_eq q name ≡ b → f name ≡ None
    → cond (bytes_eq name q) (Some number) (f q) ≡ first_number (f q) (bytes_eq q name) number
by_case f name q number true same none =
    let itself : cond (bytes_eq name name) (Some number) (f name) ≡ first_number (f name) (bytes_eq name name) number = rw none refl in
    subst (λ t. cond (bytes_eq name t) (Some number) (f t) ≡ first_number (f t) (bytes_eq t name) number) (sym ((bytes_eq-Decides q name).0 same)) itself
by_case f name q number false apart none =
    let back : bytes_eq name q ≡ false = false_from _ (other_way q name apart) in
    rw (back, apart) (kept (f q) number)

pub numbered : (f : List ℕ → Option ℕ) (name q : List ℕ) (number : ℕ) → f name ≡ None
    → cond (bytes_eq name q) (Some number) (f q) ≡ first_number (f q) (bytes_eq q name) number
numbered f name q number none = by_case f name q number (bytes_eq q name) refl none

pub one_more : (names : List (List ℕ)) (i : ℕ) (name q : List ℕ) → i < length names → name ≡ get_or names i name
    → first_number (position (bytes_eq q) (take i names)) (bytes_eq q name) i ≡ position (bytes_eq q) (take (i + 1) names)
one_more names i name q below here =
    let size : length (take i names) ≡ i = length-take-le i names (omega arith) in
    ap (λ n. first_number (position (bytes_eq q) (take i names)) (bytes_eq q name) n) (sym size)
    ∙ sym (ap (position (bytes_eq q)) (take_more names i name below ∙ ap (λ y. take i names ++ y ∷ []) (sym here)) ∙ position-push (bytes_eq q) (take i names) name)
