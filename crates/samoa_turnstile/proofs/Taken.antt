-- Lists from which the last element is taken, and lists written over a whole slice.
use Rattle.std.proofs.Common.{◌≡◌, ℕ, List, Option, Some, All, IfSome, ◌++◌, length, take, drop, [], subst, ◌∙◌, ap, arith}
use Rattle.std.specs.Prelude.{option_to_list}
use Rattle.std.proofs.lemmas.List.{take_all, append-nil}
use Rattle.std.proofs.lemmas.List.Elements.{All-pop}
use Rattle.std.proofs.Math.Seq.{drop-length}

-- what holds of all holds of the one taken, and of those left
pub popped : {X : Type 0} (P : X → Type 0) (xs ys : List X) (r : Option X) (x : X) → xs ≡ ys ++ option_to_list r → r ≡ Some x → All P xs → All P ys × P x
popped P xs ys r x is here all = let t = All-pop P xs ys r is all in (t.0, subst (λ o. IfSome o P) here t.1)

-- what a slice of a whole list leaves there
pub written : {X : Type 0} (xs ys : List X) (n : ℕ) → length ys ≡ length xs → n ≡ length xs → take n (ys ++ drop (length ys) xs) ≡ ys
written {X} xs ys n same whole =
    let all : drop (length ys) xs ≡ [] = ap (λ k. drop k xs) same ∙ drop-length xs in
    ap (λ l. take n (ys ++ l)) all ∙ (ap (take n) (append-nil ys) ∙ take_all n ys (omega arith))
