-- The counts are those of the calls made.
use Rattle.std.proofs.Common.{arith, ◌≡◌, ℕ, ◌+◌, ◌^◌, ◌<◌, ◌≤◌, ◌⊎◌, Bool, true, false, cond, sym, ap, ◌∙◌, ◌∷◌, [], ◌++◌, ◌==◌, if◌then◌else◌, inl, inr, List, get_or, length, length-set, length-take-le, map, set, slice_index, take}
use Rattle.std.proofs.lemmas.Bool.{cases_eq, eq-eqb, ne_eqb}
use Rattle.std.proofs.lemmas.List.{get_or-set_same, get_or-set_other, take_more}
use Rattle.std.proofs.lemmas.List.Sums.{count_by-le-length}
use Rattle.samoa_model.specs.declared.record.Entry.{Entry}
use Rattle.samoa_model.specs.declared.ids.HandlerId.{HandlerId}
use Rattle.samoa_model.specs.Allowed.{handlers_at}
use Rattle.samoa_model.specs.Entries.{calls_at, calls_made}
use Rattle.samoa_model.proofs.Counts.{calls_at-append, handlers_at-snoc}
use Rattle.samoa_serial.specs.World.{calls_from, entry_of}
use Rattle.samoa_serial.proofs.Lengths.{calls_at-entered}
use Rattle.samoa_calls.specs.Tried.{AreAdded, Counts, HasRoomFor}

handlers_at-le : (hs : List HandlerId) (p : ℕ) → handlers_at hs p ≤ length hs
handlers_at-le hs p = count_by-le-length (λ (x : HandlerId). x.micro.0 == p) hs

calls_at-le : (es : List Entry) (p : ℕ) → calls_at es p ≤ calls_made es
calls_at-le [] p = omega arith
calls_at-le (Entry.Accepted call caller handler arg ∷ es) p = go (handler.micro.0 == p) (calls_at es p) (calls_made es) (calls_at-le es p)
  where
    go : (b : Bool) (x y : ℕ) → x ≤ y → (if b then x + 1 else x) ≤ y + 1
    go true x y le = omega arith
    go false x y le = omega arith
calls_at-le (_ ∷ es) p = calls_at-le es p

-- an entry of another kind counts nowhere
pub counts_noted : (visits : List ℕ) (es : List Entry) (e : Entry) (es' : List Entry) → es' ≡ es ++ e ∷ [] → calls_made (e ∷ []) ≡ 0 → Counts visits es → Counts visits es'
counts_noted visits es e es' is none were = record {
  len = were.len;
  counts = λ p lt.
      let more : calls_at es' p ≡ calls_at es p + calls_at (e ∷ []) p = ap (λ (xs : List Entry). calls_at xs p) is ∙ calls_at-append es (e ∷ []) p in
      let at_most : calls_at (e ∷ []) p ≤ calls_made (e ∷ []) = calls_at-le (e ∷ []) p in
      let before : slice_index visits p ≡ calls_at es p = were.counts p lt in
      omega arith;
}

-- the sums count the calls of the handlers beside those made before
pub counts_entered : (visits sums : List ℕ) (es es' : List Entry) (number : ℕ) (arg : List ℕ) (n : ℕ) (hs : List HandlerId)
    → es' ≡ es ++ map (entry_of number arg) (calls_from n hs) → Counts visits es → AreAdded visits hs sums → Counts sums es'
counts_entered visits sums es es' number arg n hs is were added = record {
  len = added.len;
  counts = λ p lt.
      let entered : List Entry = map (entry_of number arg) (calls_from n hs) in
      let more : calls_at es' p ≡ calls_at es p + calls_at entered p = ap (λ (xs : List Entry). calls_at xs p) is ∙ calls_at-append es entered p in
      let new : calls_at entered p ≡ handlers_at hs p = calls_at-entered number arg n hs p in
      let before : slice_index visits p ≡ calls_at es p = were.counts p lt in
      let sum : slice_index sums p ≡ slice_index visits p + handlers_at hs p = added.counts p lt in
      omega arith;
}

-- a count is at most the number of the calls made, which has room for four more
pub has_room : (visits : List ℕ) (es : List Entry) (made : ℕ) (hs : List HandlerId) → Counts visits es → made ≡ calls_made es → made + 4 < 2 ^ 32 → length hs ≤ 4
    → HasRoomFor visits hs
has_room visits es made hs were is room few = record {
  len = were.len;
  room = λ p lt.
      let count : slice_index visits p ≡ calls_at es p = were.counts p lt in
      let at_most : calls_at es p ≤ calls_made es = calls_at-le es p in
      omega arith;
}

-- nothing is added at first
pub added_none : (visits : List ℕ) (hs : List HandlerId) → HasRoomFor visits hs → AreAdded visits [] visits
added_none visits hs room = record { len = room.len; counts = λ p lt. omega arith }

-- a count that one more is added to doesn't overflow
pub room_at : (visits now : List ℕ) (hs : List HandlerId) (i p : ℕ) → HasRoomFor visits hs → AreAdded visits (take i hs) now → i < length hs → p < 24
    → slice_index now p + 1 < 2 ^ 32
room_at visits now hs i p room added lt known =
    let count : slice_index now p ≡ slice_index visits p + handlers_at (take i hs) p = added.counts p known in
    let few : handlers_at (take i hs) p ≤ length (take i hs) = handlers_at-le (take i hs) p in
    let free : slice_index visits p + length hs < 2 ^ 32 = room.room p known in
    omega (arith, length-take-le i hs (omega arith))

-- the count that a bound is judged by
pub count_at : (visits now : List ℕ) (es : List Entry) (before : List HandlerId) (p : ℕ) → Counts visits es → AreAdded visits before now → p < 24
    → slice_index now p ≡ calls_at es p + handlers_at before p
count_at visits now es before p were added known = added.counts p known ∙ ap (λ (n : ℕ). n + handlers_at before p) (were.counts p known)

bumped : (now : List ℕ) (q p : ℕ) → q < length now → slice_index (set now q (slice_index now q + 1)) p ≡ slice_index now p + cond (q == p) 1 0
bumped now q p lt = go (cases_eq q p)
  where
    go : (q ≡ p) ⊎ (q ≡ p → ⊥) → slice_index (set now q (slice_index now q + 1)) p ≡ slice_index now p + cond (q == p) 1 0
    go (inl same) =
        let one : cond (q == p) 1 0 ≡ 1 = ap (λ (b : Bool). cond b 1 0) (eq-eqb q p same) in
        let at : slice_index (set now q (slice_index now q + 1)) q ≡ slice_index now q + 1 = get_or-set_same now q (slice_index now q + 1) 0 lt in
        ap (λ (k : ℕ). slice_index (set now q (slice_index now q + 1)) k) (sym same)
        ∙ (at ∙ (ap (λ (k : ℕ). slice_index now k + 1) same ∙ ap (λ (n : ℕ). slice_index now p + n) (sym one)))
    go (inr other) =
        let none : cond {A = ℕ} (q == p) 1 0 ≡ 0 = ap (λ (b : Bool). cond b 1 0) (ne_eqb q p other) in
        let at : slice_index (set now q (slice_index now q + 1)) p ≡ slice_index now p + 0 = omega (arith, get_or-set_other now q p (slice_index now q + 1) 0 (λ e. other (sym e))) in
        at ∙ ap (λ (n : ℕ). slice_index now p + n) (sym none)

-- one handler more
pub added_more : (visits now now' : List ℕ) (hs : List HandlerId) (i : ℕ) (d : HandlerId) → i < length hs → AreAdded visits (take i hs) now
    → now' ≡ set now (get_or hs i d).micro.0 (slice_index now (get_or hs i d).micro.0 + 1) → (get_or hs i d).micro.0 < 24 → AreAdded visits (take (i + 1) hs) now'
added_more visits now now' hs i d lt added is known =
    let h : HandlerId = get_or hs i d in
    let q : ℕ = h.micro.0 in
    let within : q < length now = omega (arith, added.len) in
    record {
      len = ap (λ (xs : List ℕ). length xs) is ∙ (length-set now q (slice_index now q + 1) ∙ added.len);
      counts = λ p below.
          let more : handlers_at (take (i + 1) hs) p ≡ handlers_at (take i hs) p + cond (h.micro.0 == p) 1 0 =
          ap (λ (xs : List HandlerId). handlers_at xs p) (take_more hs i d lt) ∙ handlers_at-snoc (take i hs) h p in
          let new : slice_index now' p ≡ slice_index now p + cond (h.micro.0 == p) 1 0 = ap (λ (xs : List ℕ). slice_index xs p) is ∙ bumped now q p within in
          let before : slice_index now p ≡ slice_index visits p + handlers_at (take i hs) p = added.counts p below in
          omega arith;
    }
