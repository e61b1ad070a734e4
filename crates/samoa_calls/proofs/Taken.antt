-- The outcome of the innermost call, case by case.
use Rattle.std.proofs.Common.{arith, ◌≡◌, ◌≢◌, ℕ, zero, suc, ◌-◌, ◌<◌, Bool, true, false, refl, sym, ap, ap₂, ◌∙◌, ◌++◌, set, take, ◌∷◌, [], List, reverse, length, get_or, Option, None, ◌==◌}
use Rattle.std.proofs.lemmas.List.{length-reverse, get_or-reverse, reverse-append, reverse-reverse}
use Rattle.samoa_model.specs.declared.record.Entry.{Entry}
use Rattle.samoa_serial.specs.declared.call.Call.{Call}
use Rattle.samoa_serial.specs.declared.call.Active.{Active}
use Rattle.samoa_model.specs.declared.handler.Outcome.{Outcome}
use Rattle.samoa_model.specs.declared.handler.Reply.{Reply}
use Rattle.samoa_model.specs.declared.record.Ending.{Ending}
use Rattle.samoa_serial.specs.World.{Books, Attempts, noted}
use Rattle.samoa_serial.specs.Calls.{Computation, woken, replied, given, outcome_effect, outcome_spends, outcome_taken, take_outcome, take_outcome_at}
use Rattle.samoa_calls.specs.Handed.{ended_at, handed}

-- the last of a list is the first of it backwards
pub last_is : (xs : List Active) (a : Active) (rest : List Active) (d : Active) (i : ℕ) → reverse xs ≡ a ∷ rest → i ≡ length xs - 1 → get_or xs i d ≡ a
last_is xs a rest d i e is =
    let len : length xs ≡ suc (length rest) = sym (length-reverse xs) ∙ ap (λ (ys : List Active). length ys) e in
    let at : i ≡ length xs - 1 - 0 = omega arith in
    ap (λ (j : ℕ). get_or xs j d) at ∙ (sym (get_or-reverse xs 0 d (omega arith)) ∙ ap (λ (ys : List Active). get_or ys 0 d) e)

set_end : (ys : List Active) (a y : Active) → set (ys ++ a ∷ []) (length ys) y ≡ ys ++ y ∷ []
set_end [] a y = refl
set_end (x ∷ ys) a y = ap (λ (zs : List Active). x ∷ zs) (set_end ys a y)

take_front : (ys : List Active) (a : Active) → take (length ys) (ys ++ a ∷ []) ≡ ys
take_front [] a = refl
take_front (x ∷ ys) a = ap (λ (zs : List Active). x ∷ zs) (take_front ys a)

-- a write to the last of a list is a write to the first of it backwards
pub last_set : (xs : List Active) (a y : Active) (rest : List Active) (i : ℕ) → reverse xs ≡ a ∷ rest → i ≡ length xs - 1 → reverse (set xs i y) ≡ y ∷ rest
last_set xs a y rest i e is =
    let len : length xs ≡ suc (length rest) = sym (length-reverse xs) ∙ ap (λ (ys : List Active). length ys) e in
    let back : List Active = reverse rest in
    let forward : xs ≡ back ++ a ∷ [] = sym (reverse-reverse xs) ∙ (ap (λ (ys : List Active). reverse ys) e ∙ reverse-append (a ∷ []) rest) in
    let at : i ≡ length back = omega (arith, length-reverse rest) in
    ap₂ (λ (zs : List Active) (j : ℕ). reverse (set zs j y)) forward at
    ∙ (ap (λ (zs : List Active). reverse zs) (set_end back a y)
    ∙ (reverse-append back (y ∷ []) ∙ ap (λ (zs : List Active). y ∷ zs) (reverse-reverse rest)))

-- without the last of a list, it is backwards without the first
pub popped_back : (xs : List Active) (a : Active) (rest : List Active) → reverse xs ≡ a ∷ rest → reverse (take (length xs - 1) xs) ≡ rest
popped_back xs a rest e =
    let len : length xs ≡ suc (length rest) = sym (length-reverse xs) ∙ ap (λ (ys : List Active). length ys) e in
    let back : List Active = reverse rest in
    let forward : xs ≡ back ++ a ∷ [] = sym (reverse-reverse xs) ∙ (ap (λ (ys : List Active). reverse ys) e ∙ reverse-append (a ∷ []) rest) in
    let at : length xs - 1 ≡ length back = omega (arith, length-reverse rest) in
    ap₂ (λ (n : ℕ) (zs : List Active). reverse (take n zs)) at forward
    ∙ (ap (λ (zs : List Active). reverse zs) (take_front back a) ∙ reverse-reverse rest)

pub some_first : (ys : List Active) → 0 < length ys → (a : Active) × (rest : List Active) × (ys ≡ a ∷ rest)
some_first [] lt = absurd (omega arith)
some_first (y ∷ ys) lt = (y, ys, refl)

pub not_empty : (xs : List Active) (n : ℕ) (b : Bool) → n ≡ length xs → b ≡ (n == 0) → b ≡ false → 0 < length (reverse xs)
not_empty [] n b len e f = let empty : b ≡ true = e ∙ ap (λ (k : ℕ). k == 0) len in cc
not_empty (x ∷ xs) n b len e f = rw length-reverse (omega arith)

pub handed-some : (active : List Active) (books : Books) (answer : Option Ending) (rest : List Active) (b : Active) (bs : List Active) (r : Reply)
    → rest ≡ b ∷ bs → active ≡ given b.call b.due r ∷ bs → record { active = active; books = books; answer = answer } ≡ handed books answer rest r
handed-some active books answer rest b bs r e is =
    let with_active : List Active → Computation = λ xs. record { active = xs; books = books; answer = answer } in
    ap with_active is ∙ sym (ap (λ (xs : List Active). handed books answer xs r) e)

-- where nobody is left active, the waiting calls are woken after the reply was handed on
pub woken_after : (attempt : Attempts) (books : Books) (answer : Option Ending) (rest : List Active) (r : Reply) (x : Computation)
    → x ≡ handed books answer rest r → x.active ≡ [] → woken attempt x.waiting x.books x.answer ≡ replied attempt books answer rest r
woken_after attempt books answer [] r x e idle = ap (λ (y : Computation). woken attempt y.waiting y.books y.answer) e
woken_after attempt books answer (a ∷ rest) r x e idle =
    let no : given a.call a.due r ∷ rest ≡ [] = sym (ap (λ (y : Computation). y.active) e) ∙ idle in cc

pub handed_is : (attempt : Attempts) (books : Books) (answer : Option Ending) (rest : List Active) (r : Reply) (x : Computation) (b : Active) (bs : List Active)
    → x ≡ handed books answer rest r → x.active ≡ b ∷ bs → x ≡ replied attempt books answer rest r
handed_is attempt books answer [] r x b bs e active =
    let no : [] ≡ b ∷ bs = sym (ap (λ (y : Computation). y.active) e) ∙ active in cc
handed_is attempt books answer (a ∷ rest) r x b bs e active = e

-- the outcome Done of the innermost call
pub take-done : (attempt : Attempts) (comp : Computation) (a : Active) (rest : List Active) (outcome : Outcome) (reply : List ℕ)
    → comp.active ≡ a ∷ rest → outcome ≡ Outcome.Done reply
    → replied attempt (noted comp.books (Entry.Finished a.call.number reply)) comp.answer rest (Reply.Words reply) ≡ take_outcome attempt comp outcome
take-done attempt comp a rest outcome reply e f =
    sym (ap (λ (xs : List Active). take_outcome_at attempt xs comp.books comp.answer outcome) e
    ∙ ap (λ (o : Outcome). take_outcome_at attempt (a ∷ rest) comp.books comp.answer o) f)

spends_one : (attempt : Attempts) (books : Books) (answer : Option Ending) (rest : List Active) (c : Call) (o : Outcome) (units : ℕ) → units ≢ 0
    → outcome_effect attempt (record books { units = units - 1 }) answer rest c o ≡ outcome_spends attempt books answer rest c o units
spends_one attempt books answer rest c o zero ne = absurd (ne refl)
spends_one attempt books answer rest c o (suc left) ne =
    let less : suc left - 1 ≡ left = omega arith in
    ap (λ (u : ℕ). outcome_effect attempt (record books { units = u }) answer rest c o) less

-- another outcome of the innermost call, with a unit left
pub take-spent : (attempt : Attempts) (comp : Computation) (a : Active) (rest : List Active) (c : Call) (outcome : Outcome)
    → comp.active ≡ a ∷ rest → c ≡ a.call → ended_at c outcome ≡ None → comp.units ≢ 0
    → outcome_effect attempt (record comp.books { units = comp.units - 1 }) comp.answer rest c outcome ≡ take_outcome attempt comp outcome
take-spent attempt comp a rest c outcome e f goes_on some_left =
    spends_one attempt comp.books comp.answer rest c outcome comp.units some_left
    ∙ (ap (λ (k : Call). outcome_spends attempt comp.books comp.answer rest k outcome comp.units) f
    ∙ (spends a.call outcome (ap (λ (k : Call). ended_at k outcome) (sym f) ∙ goes_on)
    ∙ sym (ap (λ (xs : List Active). take_outcome_at attempt xs comp.books comp.answer outcome) e)))
  where
    spends : (k : Call) (o : Outcome) → ended_at k o ≡ None
        → outcome_spends attempt comp.books comp.answer rest k o comp.units ≡ outcome_taken attempt comp.books comp.answer rest k o
    spends k (Outcome.Done reply) none = cc
    spends k (Outcome.Call event arg frame) none = refl
    spends k (Outcome.Later event arg frame) none = refl
    spends k (Outcome.Send to event arg frame) none = refl
    spends k (Outcome.Deliver arg frame) none = refl
    spends k (Outcome.Change change arg frame) none = refl

pub not_done : (o : Outcome) → ((reply : List ℕ) → o ≡ Outcome.Done reply → ⊥) → (c : Call) → ended_at c o ≡ None
not_done (Outcome.Done reply) other c = absurd (other reply refl)
not_done (Outcome.Call event arg frame) other c = refl
not_done (Outcome.Later event arg frame) other c = refl
not_done (Outcome.Send to event arg frame) other c = refl
not_done (Outcome.Deliver arg frame) other c = refl
not_done (Outcome.Change change arg frame) other c = refl
