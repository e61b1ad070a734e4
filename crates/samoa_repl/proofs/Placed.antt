-- Where the first message of an epoch stands, and what is left without it.
use Rattle.std.proofs.Common.{◌≡◌, ◌≢◌, ℕ, ◌==◌, ◌+◌, ◌<◌, ◌≤◌, suc, Bool, true, false, not, List, [], ◌∷◌, All, cond, length, get_or, Bor, Option, Some, None, IfSome, refl, sym, ap, ◌∙◌, subst, arith}
use Rattle.std.specs.List.{remove, slice_get}
use Rattle.std.specs.Option.{MatchOption, option_copied}
use Rattle.std.proofs.lemmas.Option.{slice_get_past, slice_get_read}
use Rattle.std.proofs.lemmas.List.Elements.{All-nil, All-cons, All-head, All-tail}
use Rattle.std.proofs.lemmas.List.Folds.{find_at}
use Rattle.std.proofs.lemmas.List.Sums.{fails_before_first, passes_at_first, prefix_len-le-length}
use Rattle.std.proofs.lemmas.Bool.Decides.{nat_tests}
use Rattle.samoa_serial.specs.ReplTable.{first_of, without_first}
use Rattle.samoa_serial.specs.declared.message.Message.{Message}
use Rattle.samoa_repl.specs.Arrived.{place_of}

pub place_within : (e : ℕ) (ms : List Message) → place_of e ms ≤ length ms
place_within e ms = prefix_len-le-length (λ m. not (m.epoch == e)) ms

pub first_at : (e : ℕ) (ms : List Message) → slice_get ms (place_of e ms) ≡ first_of e ms
first_at e ms = sym (find_at (λ m. m.epoch == e) ms)

-- what is read at that place is the first
pub read_there : (e : ℕ) (ms : List Message) (i : ℕ) (P : Bor Message → Type 0) (r : Option (Bor Message)) → i ≡ place_of e ms → IfSome r (λ x. x.now ≡ get_or ms i x.now)
    → MatchOption r (length ms ≤ i) (λ x. (i < length ms) × P x) → option_copied r ≡ first_of e ms
read_there e ms i P None is at past = sym (slice_get_past ms i past) ∙ (ap (slice_get ms) is ∙ first_at e ms)
read_there e ms i P (Some x) is at inside = sym (slice_get_read ms (length ms) i x.now refl inside.0 at) ∙ (ap (slice_get ms) is ∙ first_at e ms)

-- one of the epoch that stands no later than the first is the first
pub here : (e : ℕ) (ms : List Message) (i : ℕ) (d : Message) → i < length ms → i ≤ place_of e ms → (get_or ms i d).epoch ≡ e → i ≡ place_of e ms
here e ms i d inside upto is = grind (arith, nat_tests, fails_before_first (λ (m : Message). m.epoch == e) ms i d)

-- one that isn't stands before the first
pub further : (e : ℕ) (ms : List Message) (i : ℕ) (d : Message) → i < length ms → i ≤ place_of e ms → (get_or ms i d).epoch ≢ e → i + 1 ≤ place_of e ms
further e ms i d inside upto other = grind (arith, nat_tests, passes_at_first (λ (m : Message). m.epoch == e) ms d)

pub taken_out : (e : ℕ) (ms : List Message) → place_of e ms < length ms → remove ms (place_of e ms) ≡ without_first e ms
taken_out e [] h = grind arith
taken_out e (m ∷ ms) h = go (m.epoch == e) (taken_out e ms) h
  where
    n : ℕ
    n = place_of e ms

    go : (b : Bool) → (n < length ms → remove ms n ≡ without_first e ms) → cond (not b) (1 + n) 0 < length (m ∷ ms)
        → remove (m ∷ ms) (cond (not b) (1 + n) 0) ≡ cond b ms (m ∷ without_first e ms)
    go true ih h = refl
    go false ih h =
        let next : 1 + n ≡ suc n = omega arith in
        subst (λ (k : ℕ). remove (m ∷ ms) k ≡ m ∷ without_first e ms) (sym next) (ap (λ (xs : List Message). m ∷ xs) (ih (omega (arith, h))))

pub none_there : (e : ℕ) (ms : List Message) → length ms ≤ place_of e ms → ms ≡ without_first e ms
none_there e [] h = refl
none_there e (m ∷ ms) h = go (m.epoch == e) (none_there e ms) h
  where
    n : ℕ
    n = place_of e ms

    go : (b : Bool) → (length ms ≤ n → ms ≡ without_first e ms) → length (m ∷ ms) ≤ cond (not b) (1 + n) 0 → m ∷ ms ≡ cond b ms (m ∷ without_first e ms)
    go true ih h = grind arith
    go false ih h = ap (λ (xs : List Message). m ∷ xs) (ih (omega arith))

-- the next one doesn't stand before it
pub place_after : (e : ℕ) (ms : List Message) → place_of e ms ≤ place_of e (without_first e ms)
place_after e [] = grind arith
place_after e (m ∷ ms) = go (m.epoch == e) refl (place_after e ms)
  where
    n : ℕ
    n = place_of e ms

    go : (b : Bool) → (m.epoch == e) ≡ b → n ≤ place_of e (without_first e ms) → cond (not b) (1 + n) 0 ≤ place_of e (cond b ms (m ∷ without_first e ms))
    go true t ih = omega arith
    go false t ih = rw t (omega (arith, ih))

pub All-without_first : (P : Message → Type 0) (e : ℕ) (ms : List Message) → All P ms → All P (without_first e ms)
All-without_first P e [] a = All-nil P
All-without_first P e (m ∷ ms) a = go (m.epoch == e) (All-without_first P e ms (All-tail P m ms a))
  where
    go : (b : Bool) → All P (without_first e ms) → All P (cond b ms (m ∷ without_first e ms))
    go true rest = All-tail P m ms a
    go false rest = All-cons P m (without_first e ms) (All-head P m ms a) rest
