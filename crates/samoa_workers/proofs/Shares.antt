-- Seats that are dealt to workers, and taken back one by one.
use Rattle.std.proofs.Common.{arith, ◌≡◌, ◌<◌, ◌+◌, ℕ, List, Option, Some, None, All, ◌++◌, length, [], refl, subst, ◌∙◌, sym, ap}
use Rattle.std.specs.Prelude.{slice_index_or}
use Rattle.std.proofs.lemmas.List.{append-nil}
use mathlib.Core.List.{IsPrefix}
use Rattle.samoa_model.specs.declared.record.Step.{Step}
use Rattle.samoa_invariant.specs.Runs.{IsRun, Trace}
use Rattle.samoa_control.specs.Later.{IsLater}
use Rattle.samoa_turnstile.specs.Seats.{fixed_of, hand_of, parts_of, seats_of, seen_by, IsIdle, IsSameSeat}
use Rattle.samoa_turnstile.proofs.Prefixes.{prefix_trans}
use Rattle.samoa_kernel.specs.declared.basis.Basis.{Basis}
use Rattle.samoa_kernel.specs.declared.board.Board.{Board}
use Rattle.samoa_kernel.specs.Bases.{basis_of}
use Rattle.samoa_control.specs.Since.{cleared_comps}
use Rattle.samoa_control.proofs.Since.{cleared-more}
use Rattle.samoa_kernel.specs.Boards.{BoardSeat, Finds, Shows}
use Rattle.samoa_workers.specs.Seats.{HasWorked, IsReady}
use Rattle.samoa_workers.specs.Members.{GoesOn, IsMember}

module _ {B : Type 0} (board : Board B) where
  pub worked_ready : (old new : BoardSeat) → HasWorked old new → IsReady board old → IsReady board new
  worked_ready old new h r = record { own = h.own.0 ∙ r.own; idle = h.idle; hand = h.hand }

  -- the other seat of a join
  pub joined_ready : (old new : BoardSeat) → IsSameSeat old new → IsIdle new → hand_of new ≡ hand_of old → IsReady board old → IsReady board new
  joined_ready old new own idle hand r = record { own = own.0 ∙ r.own; idle = idle; hand = hand ∙ r.hand }

  pub joined_member : (kept : Option Basis) (start : List Step) (all n m : ℕ) (old other new : BoardSeat) → IsSameSeat old new → IsIdle new → hand_of new ≡ hand_of old
      → parts_of new ≡ parts_of old + parts_of other → seats_of new ≡ seats_of old → fixed_of new ≡ fixed_of old → IsPrefix (seen_by old) (seen_by new) → m ≡ n + 1
      → IsMember board kept start all n old → IsMember board kept start all 1 other → IsMember board kept start all m new
  joined_member kept start all n m old other new own idle hand parts seats fixed since up a b = record {
    ready = joined_ready old new own idle hand a.ready;
    seats = seats ∙ a.seats;
    part = let p = a.part in let q = b.part in omega arith;
    basis = fixed ∙ a.basis;
    since = prefix_trans start (seen_by old) (seen_by new) a.since since;
  }

  module _ (kept : Option Basis) (start : List Step) (all parts : ℕ) where
    pub worked_member : (old new : BoardSeat) → HasWorked old new → IsMember board kept start all parts old → IsMember board kept start all parts new
    worked_member old new h a = record {
      ready = worked_ready old new h a.ready;
      seats = h.share.seats ∙ a.seats;
      part = h.share.parts ∙ a.part;
      basis = h.share.fixed ∙ a.basis;
      since = prefix_trans start (seen_by old) (seen_by new) a.since h.since;
    }

    pub worked_members : (xs ys : List BoardSeat) → length ys ≡ length xs → ((i : ℕ) (d : BoardSeat) → i < length xs → HasWorked (slice_index_or xs i d) (slice_index_or ys i d))
        → All (IsMember board kept start all parts) xs → All (IsMember board kept start all parts) ys
    worked_members xs ys same each members =
        λ k d h. let h' : k < length xs = omega arith in worked_member (slice_index_or xs k d) (slice_index_or ys k d) (each k d h') (members k d h')

-- the first seat of a board is a member, with all parts
pub first_member : {B : Type 0} (board : Board B) (all : ℕ) (first : BoardSeat) → IsReady board first → (parts_of first ≡ all) × (seats_of first ≡ all)
    → IsMember board (fixed_of first) (seen_by first) all all first
first_member board all first ready parts = record { ready = ready; seats = parts.1; part = parts.0; basis = refl; since = ([], append-nil (seen_by first)) }

-- what the last seat's core goes on from
pub goes_on_from : {B : Type 0} (board : Board B) (all parts : ℕ) (first last : BoardSeat) (core : Trace) → IsMember board (fixed_of first) (seen_by first) all parts last
    → Finds last core → GoesOn first core
goes_on_from board all parts first last core m found = record {
  basis = sym m.basis ∙ found.basis;
  since = prefix_trans (seen_by first) (seen_by last) core.journal m.since found.grown;
}

-- a trace of this basis and these steps
abbrev with_basis : Basis → List Step → Trace
with_basis b steps = record { script = b.script; cells = b.cells; exts = b.exts; clears = b.clears; journal = steps }

-- a core that a later call of the same board finds
goes_on : (t u : Trace) → IsRun t → basis_of t ≡ basis_of u → IsPrefix t.journal u.journal → IsLater t u
goes_on t u run same grown =
    let is : record t { journal = t.journal ++ grown.0 } ≡ u = (λ i. with_basis (same i) (grown.1 i)) in record {
      script = ap (λ (b : Basis). b.script) (sym same);
      cells = ap (λ (b : Basis). b.cells) (sym same);
      exts = ap (λ (b : Basis). b.exts) (sym same);
      clears = ap (λ (b : Basis). b.clears) (sym same);
      steps = grown.0;
      journal = sym grown.1;
      cleared = ap cleared_comps (sym is) ∙ cleared-more t grown.0 run;
    }

pub later_than : (t u : Trace) (first : BoardSeat) → IsRun t → Shows first t None → GoesOn first u → IsLater t u
later_than t u first run shows on =
    let both : Some (basis_of t) ≡ Some (basis_of u) = sym shows.basis ∙ on.basis in
    goes_on t u run (cc both) (subst (λ (l : List Step). IsPrefix l u.journal) shows.seen on.since)

pub later_same : (t : Trace) → IsLater t t
later_same t = record { script = refl; cells = refl; exts = refl; clears = refl; steps = []; journal = sym (append-nil t.journal); cleared = refl }
