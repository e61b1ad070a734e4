-- Seats that are taken from a list one by one, and joined into one.
use Rattle.std.proofs.Common.{◌≡◌, ◌<◌, ◌+◌, ℕ, List, Option, All, length, ◌∙◌, sym, arith}
use Rattle.std.specs.Prelude.{slice_index_or}
use mathlib.Core.List.{IsPrefix}
use Rattle.samoa_turnstile.specs.declared.turnstile.Turnstile.{Turnstile}
use Rattle.samoa_turnstile.specs.Seats.{SeatOf, IsSameSeat, IsIdle, fixed_of, seats_of, parts_of, seen_by, hand_of}
use Rattle.turnstile_turns.specs.Workers.{IsReady, HasWorked, HasReached, IsMember}
use Rattle.turnstile_turns.proofs.Counting.{length-prefix}

module _ {V I : Type 0} (t : Turnstile V ℕ I) (old other new : SeatOf V ℕ I) (own : IsSameSeat old new) (idle : IsIdle new)
    (hand : hand_of new ≡ hand_of old) (fixed : fixed_of new ≡ fixed_of old) (seats : seats_of new ≡ seats_of old) where
  pub joined_ready : IsReady t old → IsReady t new
  joined_ready r = record { own = own.0 ∙ r.own; idle = idle; empty = hand ∙ r.empty }

  pub joined_member : parts_of new ≡ parts_of old + parts_of other → IsPrefix (seen_by old) (seen_by new) → (w n m : ℕ) (goal : Option ℕ) → m ≡ n + 1
      → IsMember t w n goal old × HasReached old → IsMember t w 1 goal other → IsMember t w m goal new × HasReached new
  joined_member parts since w n m goal up a b = (
    record {
      ready = joined_ready a.0.ready;
      all = seats ∙ a.0.all;
      part = let p = a.0.part in let q = b.part in omega arith;
      goal_is = fixed ∙ a.0.goal_is;
    },
    λ g e. let had = a.1 g (sym fixed ∙ e) in let more = length-prefix (seen_by old) (seen_by new) since in omega arith,
  )

module _ {V I : Type 0} (t : Turnstile V ℕ I) (w n : ℕ) (goal : Option ℕ) where
  worked_member : (old new : SeatOf V ℕ I) → HasWorked old new → IsMember t w n goal old → IsMember t w n goal new
  worked_member old new h a = record {
    ready = record { own = h.own.0 ∙ a.ready.own; idle = h.idle; empty = h.empty };
    all = h.all ∙ a.all;
    part = h.part ∙ a.part;
    goal_is = h.goal ∙ a.goal_is;
  }

  pub worked_members : (xs ys : List (SeatOf V ℕ I)) → length ys ≡ length xs
      → ((i : ℕ) (d : SeatOf V ℕ I) → i < length xs → HasWorked (slice_index_or xs i d) (slice_index_or ys i d) × HasReached (slice_index_or ys i d))
      → All (IsMember t w n goal) xs → All (λ s. IsMember t w n goal s × HasReached s) ys
  worked_members xs ys same each all = λ k d h.
      let h' : k < length xs = omega arith in
      let e = each k d h' in
      (worked_member (slice_index_or xs k d) (slice_index_or ys k d) e.0 (all k d h'), e.1)
