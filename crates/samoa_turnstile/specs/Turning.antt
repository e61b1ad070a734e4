-- The rule of the turnstile's table, which has one word and one slot, and what each kind of step tells its seat.
-- The word is 0 while the value is at home, 1 while a seat has it, and 2 before the first take.
use Rattle.std.specs.Prelude.{◌≡◌, ◌≢◌, ◌⊎◌, ◌+◌, ◌-◌, ◌<◌, ◌≤◌, ℕ, Bool, true, List, [], ◌∷◌, length, map, Option, Some, None, slice_index, nat_le, if◌then◌else◌}
use mathlib.Core.Option.{some}
use mathlib.Core.List.{IsPrefix}
use lib.ListN.{get_elem?}
use Rattle.atomic_table.specs.Table.{State, Me, Step}
use Rattle.samoa_turnstile.specs.declared.view.View.{View}

abbrev pub list_or : {I : Type 0} → Option (List I) → List I
list_or (Some xs) = xs
list_or None = []

abbrev pub longer : {I : Type 0} → List I → List I → List I
longer xs ys = if nat_le (length xs) (length ys) then ys else xs

module _ {F I : Type 0} where
  -- the first seat's view until the first put
  abbrev pub fresh : ℕ → View F I
  fresh seats = record {
    fixed = None;
    seats = seats;
    parts = 0;
    seen = [];
    noted = None;
    hand = None;
    missed = 0;
    one = [];
    two = [];
  }

  -- the view of a seat that was joined into another
  abbrev pub spent : View F I
  spent = fresh 0

  -- after a take
  abbrev pub holding : View F I → List I → View F I
  holding v xs = record v { noted = Some xs }

  -- after a put
  abbrev pub shown : View F I → List I → Option ℕ → View F I
  shown v xs hand = record v { seen = xs; noted = None; hand = hand }

  -- after a take that found the value away
  abbrev pub missed_again : View F I → View F I
  missed_again v = record v { missed = v.missed + 1 }

  -- after the first put
  abbrev pub first_view : ℕ → F → List I → View F I
  first_view seats kept xs = record {
    fixed = Some kept;
    seats = seats;
    parts = seats;
    seen = xs;
    noted = None;
    hand = None;
    missed = 0;
    one = [];
    two = [];
  }

  -- after a split
  abbrev pub one_less : View F I → View F I
  one_less v = record v { parts = v.parts - 1 }

  -- the new seat of a split
  abbrev pub one_part : View F I → View F I
  one_part v = record v { parts = 1; noted = None; hand = None; missed = 0 }

  -- after a join
  abbrev pub both : View F I → View F I → View F I
  both v w = record v { parts = v.parts + w.parts; seen = longer v.seen w.seen; one = v.seen; two = w.seen }

  abbrev pub hand_in : View F I → Option ℕ
  hand_in v = v.hand

  abbrev pub parts_in : View F I → ℕ
  parts_in v = v.parts

  -- What the rule says of one view that isn't spent. The word and its holder are the table's, `present` is the list
  -- at home or at the last take, `kept` is the fixed part, and j is the seat's number.
  pub record Fits (seats word holder : ℕ) (present : List I) (kept : F) (j : ℕ) (v : View F I) : Type 0 where
    pub opened : v.fixed ≡ Some kept
    pub all : v.seats ≡ seats
    pub part : 0 < v.parts
    pub sees : IsPrefix v.seen present
    pub saw_one : IsPrefix v.one present
    pub saw_two : IsPrefix v.two present
    -- the one view that holds, while the word is held
    pub holds : (xs : List I) → v.noted ≡ Some xs → (word ≡ 1) × (j ≡ holder) × (xs ≡ present)

-- the place in the hand, or one that came since the list was noted
abbrev pub IsOwn : {I : Type 0} → Option ℕ → List I → ℕ → Type 0
IsOwn hand old k = (hand ≡ Some k) ⊎ (length old ≤ k)

abbrev pub total : List ℕ → ℕ
total [] = 0
total (n ∷ ns) = n + total ns

module _ {I : Type 0} (is_open : List I → ℕ → Bool) where
  -- each open place of the list stands in exactly one hand, and each place in a hand is open
  pub record IsDealt (present : List I) (hands : List (Option ℕ)) : Type 0 where
    pub are_open : (j k : ℕ) → get_elem? hands j ≡ some (Some k) → is_open present k ≡ true
    pub covered : (k : ℕ) → is_open present k ≡ true → (j : ℕ) × (get_elem? hands j ≡ some (Some k))
    pub alone : (j i k : ℕ) → get_elem? hands j ≡ some (Some k) → get_elem? hands i ≡ some (Some k) → j ≡ i

  -- the place in the hand, where there is one, is open
  abbrev pub HandIsOpen : Option ℕ → List I → Type 0
  HandIsOpen hand xs = (k : ℕ) → hand ≡ Some k → is_open xs k ≡ true

  -- a list that a seat with this hand may put back, where `old` is the list at the take
  pub record IsGrown (hand : Option ℕ) (old new : List I) : Type 0 where
    pub begins : IsPrefix old new
    -- what is open in the hands of others stays open
    pub others : (k : ℕ) → is_open old k ≡ true → hand ≢ Some k → is_open new k ≡ true
    -- of the place in the hand and those that came at most one is open
    pub at_most_one : (k l : ℕ) → IsOwn hand old k → is_open new k ≡ true → IsOwn hand old l → is_open new l ≡ true → k ≡ l

  -- the hand after that put: the open place of those, where there is one
  pub record IsHandAfter (hand : Option ℕ) (old new : List I) (after : Option ℕ) : Type 0 where
    pub own : (k : ℕ) → after ≡ Some k → IsOwn hand old k
    pub is_there : (k : ℕ) → after ≡ Some k → is_open new k ≡ true
    pub only : (k : ℕ) → IsOwn hand old k → is_open new k ≡ true → after ≡ Some k

module _ {V F I : Type 0} where
  -- the take in `new` notes the empty list
  abbrev pub begun : Step (Option V) → Me (Option V) (View F I) → ℕ → Me (Option V) (View F I) → Type 0
  begun st m r n = n ≡ (holding m.0 [], (0, None) ∷ [])

  -- a look after a join tells that both old lists are prefixes of one
  abbrev pub looked : Step (Option V) → Me (Option V) (View F I) → ℕ → Me (Option V) (View F I) → Type 0
  looked st m r n = (n ≡ m) × ((present : List I) × IsPrefix m.0.one present × IsPrefix m.0.two present)

module _ {V F I : Type 0} (fixed : V → F) (items : V → List I) (is_open : List I → ℕ → Bool) (seats : ℕ) where
  -- the rule once the first view is opened
  pub record IsRunning (s : State (Option V) (View F I)) : Type 0 where
    pub one_word : length s.words ≡ 1
    pub present : List I
    pub holder : ℕ
    pub kept : F
    pub word : (slice_index s.words 0 ≡ 0) ⊎ (slice_index s.words 0 ≡ 1)
    pub home : slice_index s.words 0 ≡ 0 → (v : V) × (get_elem? s.homes 0 ≡ some (some (Some v))) × (items v ≡ present)
        × (fixed v ≡ kept)
    pub held : slice_index s.words 0 ≡ 1 → (v : View F I) × (get_elem? s.views holder ≡ some v) × (v.noted ≡ Some present)
    pub each : (j : ℕ) (v : View F I) → get_elem? s.views j ≡ some v → (v ≡ spent)
        ⊎ Fits seats (slice_index s.words 0) holder present kept j v
    pub parts : total (map parts_in s.views) ≡ seats
    pub dealt : IsDealt is_open present (map hand_in s.views)

  -- the rule before the first take, and while it lasts
  abbrev pub IsStarting : State (Option V) (View F I) → Type 0
  IsStarting s =
      ((s.words ≡ 2 ∷ []) × (get_elem? s.homes 0 ≡ some (some None)) × (s.views ≡ fresh seats ∷ []))
      ⊎ ((s.words ≡ 1 ∷ []) × (s.views ≡ holding (fresh seats) [] ∷ []))

  abbrev pub Turns : State (Option V) (View F I) → Type 0
  Turns s = IsStarting s ⊎ IsRunning s

module _ {V F I : Type 0} (fixed : V → F) (items : V → List I) where
  -- the first put gives the seat's view the fixed part and all parts
  abbrev pub opened : Step (Option V) → Me (Option V) (View F I) → ℕ → Me (Option V) (View F I) → Type 0
  opened st m r n = (value : V) → m.1 ≡ (0, Some value) ∷ [] → n ≡ (first_view m.0.seats (fixed value) (items value), [])

  -- a take that found the value at home gives it to the seat; another counts one more
  abbrev pub taken : (List I → ℕ → Bool) → Step (Option V) → Me (Option V) (View F I) → ℕ → Me (Option V) (View F I) → Type 0
  taken is_open st m r n =
      (r ≡ 0 → (value : V) × (n ≡ (holding m.0 (items value), (0, Some value) ∷ [])) × (m.0.fixed ≡ Some (fixed value))
      × IsPrefix m.0.seen (items value) × HandIsOpen is_open m.0.hand (items value))
      × (r ≢ 0 → n ≡ (missed_again m.0, m.1))

module _ {V F I : Type 0} (items : V → List I) (is_open : List I → ℕ → Bool) where
  -- a put leaves the seat with the value's list, and with the hand after it
  abbrev pub put_back : Step (Option V) → Me (Option V) (View F I) → ℕ → Me (Option V) (View F I) → Type 0
  put_back st m r n = (value : V) → m.1 ≡ (0, Some value) ∷ [] → (hand : Option ℕ) × (n ≡ (shown m.0 (items value) hand, []))
      × IsHandAfter is_open m.0.hand (list_or m.0.noted) (items value) hand
