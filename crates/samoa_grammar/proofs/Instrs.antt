-- An instruction that a part of the tree is keeps to its limits.
use Rattle.std.proofs.Common.{◌≡◌, ℕ, ◌<◌, ◌≤◌, ◌-◌, Bool, true, false, cond, List, [], ◌∷◌, Option, Some, None, refl, arith}
use Rattle.std.specs.Prelude.{◌&&◌, ◌==◌, unwrap_or, nat_le, option_and_then, option_map, is_some, codes, bytes_eq}
use Rattle.std.proofs.lemmas.Bool.Decides.{nat_tests}
use Rattle.serde_json.specs.Data.{Data}
use Rattle.serde_json.specs.Find.{as_str}
use Rattle.samoa_model.specs.declared.setup.Place.{Place}
use Rattle.samoa_model.specs.declared.setup.Place.TheVariants.{Reg, Local}
use Rattle.samoa_model.specs.declared.setup.Instr.{Instr}
use Rattle.samoa_model.specs.declared.setup.Instr.TheVariants as instr
use Rattle.samoa_model.specs.Range.{IsPlace, IsInstr}
use Rattle.samoa_grammar.specs.Tree.{list_of, number_in}
use Rattle.samoa_grammar.specs.Instrs.{place_at, place_named, place_in, number_between, count_in, skip_in, position_in, after_one, of_places, of_position, after_two, after_three, after_word, instr_among, instr_in, is_instr, instr_of}

-- ---- an option whose value has a property

abbrev ForSome : {X : Type 0} → (X → Type 0) → Option X → Type 0
ForSome P None = Unit {0}
ForSome P (Some x) = P x

some_if : {X : Type 0} (P : X → Type 0) (c : Bool) (x y : Option X) → (c ≡ true → ForSome P x) → (c ≡ false → ForSome P y) → ForSome P (cond c x y)
some_if P true x y p q = p refl
some_if P false x y p q = q refl

some_then : {X Y : Type 0} (Q : X → Type 0) (P : Y → Type 0) (f : X → Option Y) (o : Option X) → ForSome Q o → ((x : X) → Q x → ForSome P (f x)) → ForSome P (option_and_then f o)
some_then Q P f None q p = tt
some_then Q P f (Some x) q p = p x q

some_map : {X Y : Type 0} (Q : X → Type 0) (P : Y → Type 0) (f : X → Y) (o : Option X) → ForSome Q o → ((x : X) → Q x → P (f x)) → ForSome P (option_map f o)
some_map Q P f None q p = tt
some_map Q P f (Some x) q p = p x q

any_some : {X : Type 0} (o : Option X) → ForSome (λ x. Unit {0}) o
any_some None = tt
any_some (Some x) = tt

unwrapped : {X : Type 0} (P : X → Type 0) (o : Option X) (d : X) → is_some o ≡ true → ForSome P o → P (unwrap_or o d)
unwrapped P None d h p = cc
unwrapped P (Some x) d h p = p

-- ---- what a part of the tree tells

small_digit : (digit : ℕ) → (nat_le 48 digit && nat_le digit 51) ≡ true → digit - 48 < 4
small_digit digit h = grind (arith, nat_tests)

place_at_formed : (letter digit : ℕ) → ForSome IsPlace (place_at letter digit)
place_at_formed letter digit =
    some_if IsPlace (nat_le 48 digit && nat_le digit 51) _ None
    (λ h. some_if IsPlace (letter == 114) (Some (Reg (digit - 48))) _ (λ e. small_digit digit h)
    (λ e. some_if IsPlace (letter == 120) (Some (Local (digit - 48))) None (λ f. small_digit digit h) (λ f. tt)))
    (λ h. tt)

place_named_formed : (t : List ℕ) → ForSome IsPlace (place_named t)
place_named_formed [] = tt
place_named_formed (letter ∷ []) = tt
place_named_formed (letter ∷ digit ∷ []) = place_at_formed letter digit
place_named_formed (letter ∷ digit ∷ more ∷ rest) = tt

place_formed : (d : Data) → ForSome IsPlace (place_in d)
place_formed d = some_then (λ t. Unit {0}) IsPlace place_named (as_str d) (any_some (as_str d)) (λ t u. place_named_formed t)

abbrev IsBetween : ℕ → ℕ → ℕ → Type 0
IsBetween least most n = (least ≤ n) × (n ≤ most)

between : (least most n : ℕ) → (nat_le least n && nat_le n most) ≡ true → IsBetween least most n
between least most n h = (grind (arith, nat_tests), grind (arith, nat_tests))

number_formed : (least most n : ℕ) → ForSome (IsBetween least most) (number_between least most n)
number_formed least most n = some_if (IsBetween least most) (nat_le least n && nat_le n most) (Some n) None (between least most n) (λ h. tt)

count_formed : (d : Data) → ForSome (IsBetween 0 4) (count_in d)
count_formed d = some_then (λ n. Unit {0}) (IsBetween 0 4) (number_between 0 4) (number_in d) (any_some (number_in d)) (λ n u. number_formed 0 4 n)

skip_formed : (d : Data) → ForSome (IsBetween 1 31) (skip_in d)
skip_formed d = some_then (λ n. Unit {0}) (IsBetween 1 31) (number_between 1 31) (number_in d) (any_some (number_in d)) (λ n u. number_formed 1 31 n)

of_places_formed : (make : Place → Place → Instr) → ((d s : Place) → IsPlace d → IsPlace s → IsInstr (make d s)) → (a b : Data) → ForSome IsInstr (of_places make a b)
of_places_formed make proper a b =
    some_then IsPlace IsInstr (λ to. option_map (λ from. make to from) (place_in b)) (place_in a) (place_formed a)
    (λ to p. some_map IsPlace IsInstr (λ from. make to from) (place_in b) (place_formed b) (λ from q. proper to from p q))

of_position_formed : (make : ℕ → ℕ → Instr) → ((port k : ℕ) → k ≤ 4 → IsInstr (make port k)) → (a b : Data) → ForSome IsInstr (of_position make a b)
of_position_formed make proper a b =
    some_then (λ p. Unit {0}) IsInstr (λ at. option_map (λ n. make at n) (count_in b)) (position_in a) (any_some (position_in a))
    (λ at p. some_map (IsBetween 0 4) IsInstr (λ n. make at n) (count_in b) (count_formed b) (λ n q. proper at n q.1))

after_one_formed : (word : List ℕ) (k : Data) → ForSome IsInstr (after_one word k)
after_one_formed word k =
    some_if IsInstr (bytes_eq word (codes "deliver")) _ _
    (λ h. some_map (IsBetween 0 4) IsInstr (λ n. instr.Deliver n) (count_in k) (count_formed k) (λ n q. q.1))
    (λ h. some_if IsInstr (bytes_eq word (codes "done")) _ None
    (λ e. some_map (IsBetween 0 4) IsInstr (λ n. instr.Done n) (count_in k) (count_formed k) (λ n q. q.1)) (λ e. tt))

set_formed : (a b : Data) → ForSome IsInstr (option_and_then (λ to. option_map (λ n. instr.Set to n) (number_in b)) (place_in a))
set_formed a b =
    some_then IsPlace IsInstr (λ to. option_map (λ n. instr.Set to n) (number_in b)) (place_in a) (place_formed a)
    (λ to p. some_map (λ n. Unit {0}) IsInstr (λ n. instr.Set to n) (number_in b) (any_some (number_in b)) (λ n u. p))

after_two_formed : (word : List ℕ) (a b : Data) → ForSome IsInstr (after_two word a b)
after_two_formed word a b =
    some_if IsInstr (bytes_eq word (codes "set")) _ _ (λ h. set_formed a b)
    (λ h. some_if IsInstr (bytes_eq word (codes "copy")) _ _ (λ e. of_places_formed (λ to from. instr.Copy to from) (λ d s p q. (p, q)) a b)
    (λ h. some_if IsInstr (bytes_eq word (codes "add")) _ _ (λ e. of_places_formed (λ to from. instr.Add to from) (λ d s p q. (p, q)) a b)
    (λ h. some_if IsInstr (bytes_eq word (codes "sub")) _ _ (λ e. of_places_formed (λ to from. instr.Sub to from) (λ d s p q. (p, q)) a b)
    (λ h. some_if IsInstr (bytes_eq word (codes "call")) _ _ (λ e. of_position_formed (λ port k. instr.Call port k) (λ port k q. q) a b)
    (λ h. some_if IsInstr (bytes_eq word (codes "later")) _ _ (λ e. of_position_formed (λ port k. instr.Later port k) (λ port k q. q) a b)
    (λ h. some_if IsInstr (bytes_eq word (codes "change")) _ None (λ e. of_position_formed (λ c k. instr.Change c k) (λ port k q. q) a b)
    (λ e. tt)))))))

less_formed : (a b c : Data) → ForSome IsInstr (option_and_then (λ s. option_and_then (λ t. option_map (λ j. instr.Less s t j) (skip_in c)) (place_in b)) (place_in a))
less_formed a b c =
    some_then IsPlace IsInstr (λ s. option_and_then (λ t. option_map (λ j. instr.Less s t j) (skip_in c)) (place_in b)) (place_in a) (place_formed a)
    (λ s p. some_then IsPlace IsInstr (λ t. option_map (λ j. instr.Less s t j) (skip_in c)) (place_in b) (place_formed b)
    (λ t q. some_map (IsBetween 1 31) IsInstr (λ j. instr.Less s t j) (skip_in c) (skip_formed c) (λ j r. (p, q, r.0, r.1))))

send_formed : (a b c : Data) → ForSome IsInstr (option_and_then (λ s. option_and_then (λ port. option_map (λ k. instr.Send s port k) (count_in c)) (position_in b)) (place_in a))
send_formed a b c =
    some_then IsPlace IsInstr (λ s. option_and_then (λ port. option_map (λ k. instr.Send s port k) (count_in c)) (position_in b)) (place_in a) (place_formed a)
    (λ s p. some_then (λ p. Unit {0}) IsInstr (λ port. option_map (λ k. instr.Send s port k) (count_in c)) (position_in b) (any_some (position_in b))
    (λ port q. some_map (IsBetween 0 4) IsInstr (λ k. instr.Send s port k) (count_in c) (count_formed c) (λ k r. (p, r.1))))

after_three_formed : (word : List ℕ) (a b c : Data) → ForSome IsInstr (after_three word a b c)
after_three_formed word a b c =
    some_if IsInstr (bytes_eq word (codes "less")) _ _ (λ h. less_formed a b c)
    (λ h. some_if IsInstr (bytes_eq word (codes "send")) _ None (λ e. send_formed a b c) (λ e. tt))

after_word_formed : (word : List ℕ) (ds : List Data) → ForSome IsInstr (after_word word ds)
after_word_formed word [] = tt
after_word_formed word (a ∷ []) = after_one_formed word a
after_word_formed word (a ∷ b ∷ []) = after_two_formed word a b
after_word_formed word (a ∷ b ∷ c ∷ []) = after_three_formed word a b c
after_word_formed word (a ∷ b ∷ c ∷ d ∷ more) = tt

among_formed : (ds : List Data) → ForSome IsInstr (instr_among ds)
among_formed [] = tt
among_formed (word ∷ rest) = some_then (λ t. Unit {0}) IsInstr (λ text. after_word text rest) (as_str word) (any_some (as_str word)) (λ t u. after_word_formed t rest)

instr_in_formed : (d : Data) → ForSome IsInstr (instr_in d)
unfolding instr_in
instr_in_formed d = among_formed (list_of d)

-- an instruction of the tree keeps to its limits
pub instr_kept : (d : Data) → is_instr d ≡ true → IsInstr (instr_of d)
instr_kept d h = unwrapped IsInstr (instr_in d) (instr.Done 0) h (instr_in_formed d)
