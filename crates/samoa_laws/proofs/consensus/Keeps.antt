-- What each row does keeps what holds of all boxes.
use Rattle.std.proofs.Common.{◌≡◌, ◌⊎◌, inl, inr, ℕ, ◌<◌, ◌≤◌, Bool, true, false, eqb, List, [], ◌∷◌, ◌++◌, length, refl, sym, ap, ◌∙◌, subst, arith, Option, Some, None, nat_cmp, ◌==◌, if◌then◌else◌}
use Rattle.std.specs.List.{list_any, IsDistinct}
use Rattle.std.specs.BTreeMap.{insert_entry}
use Rattle.std.proofs.lemmas.Bool.Decides.{nat_tests}
use Rattle.std.proofs.lemmas.List.{map-append, length-map}
use Rattle.samoa_serial.specs.contracts.keys.BallotOrd.TheImpl.{ghosts as balloted}
use Rattle.samoa_serial.specs.Rows.{message_of, with_message}
use Rattle.samoa_serial.specs.State.{Round, ConsState}
use Rattle.samoa_serial.specs.ConsTable.{ballot, instance_of, round_at, round_of, with_instance, beats, best_of, is_kept, with_estimate, with_acknowledged}
use Rattle.samoa_serial.specs.declared.keys.Ballot.{Ballot}
use Rattle.samoa_serial.specs.declared.message.Message.{Message}
use Rattle.samoa_serial.specs.declared.message.Instance.{Instance}
use Rattle.samoa_serial.specs.declared.message.Estimate.{Estimate}
use Rattle.samoa_serial.specs.declared.message.Letter.{Letter}
use Rattle.samoa_laws.proofs.lists.Lists.{in_end, in_mapped, in_split, some_same}
use Rattle.samoa_laws.specs.lists.Lists.{In}
use Rattle.samoa_serial.proofs.ListLaws.{in_left}
use Rattle.samoa_laws.proofs.broadcasts.Maps.{HasMore, with_message_is}
use Rattle.samoa_laws.proofs.consensus.Majorities.{majority_of, coordinator_of, distinct_end}
use Rattle.samoa_laws.proofs.consensus.Locked.{senders, Backing, IsLocked}
use Rattle.samoa_laws.proofs.consensus.Entries.{instance_case, instance_put, round_case, round_put, rising_insert, any_mapped, any_flipped}
use Rattle.samoa_laws.proofs.consensus.Inv.{letter, IsPut, HasAcked, IsRound, facts_of, adopted_of, last_round, IsLocal, IsEstimate, Inv, put_made, Sub, more_put, more_round, more_local, Grows, grows_not, set_at, IsNew, step_keeps}

-- ---- more is said
told_more : (ls : List Letter) (an : List (ℕ × Message)) (l : Letter) → Sub ls an (ls ++ l ∷ []) an
told_more ls an l = record { told = λ k h. in_left k ls (l ∷ []) h; announced = λ i m h. h }

announced_more : (ls : List Letter) (an : List (ℕ × Message)) (i : ℕ) (m : Message) → Sub ls an ls (an ++ (i, m) ∷ [])
announced_more ls an i m = record { told = λ k h. h; announced = λ j x h. in_left (j, x) an ((i, m) ∷ []) h }

no_more : (ls : List Letter) (an : List (ℕ × Message)) → Sub ls an ls an
no_more ls an = record { told = λ k h. h; announced = λ i m h. h }

-- one letter more
letter_news : (Phi : ℕ → Message → Type 0) (n : ℕ) (ls : List Letter) (an : List (ℕ × Message)) (v : ℕ) (y : ConsState) (new : Letter)
    → IsNew Phi n (ls ++ new ∷ []) an v y new → (l : Letter) → In l (ls ++ new ∷ []) → In l ls ⊎ IsNew Phi n (ls ++ new ∷ []) an v y l
letter_news Phi n ls an v y new ok l h = go (in_split ls new l h)
  where
    go : In l ls ⊎ (l ≡ new) → In l ls ⊎ IsNew Phi n (ls ++ new ∷ []) an v y l
    go (inl i) = inl i
    go (inr e) = inr (subst (λ (k : Letter). IsNew Phi n (ls ++ new ∷ []) an v y k) (sym e) ok)

-- ---- nothing is told
pub quiet_keeps : (Phi : ℕ → Message → Type 0) (n : ℕ) (states : ℕ → ConsState) (ls : List Letter) (an ds : List (ℕ × Message)) (v : ℕ) (y : ConsState)
    → Inv Phi n states ls an ds → Grows (states v) y → IsLocal Phi ls an y → Inv Phi n (set_at states v y) ls an ds
quiet_keeps Phi n states ls an ds v y inv grows mine = step_keeps Phi n states ls an ds v y ls an ds inv (record {
  sub = no_more ls an;
  grows = grows;
  mine = mine;
  news = λ l h. inl h;
  later = inv.later;
  announced = λ i m h. inl h;
  decided = λ i m h. inl h;
})

pub still_keeps : (Phi : ℕ → Message → Type 0) (n : ℕ) (states : ℕ → ConsState) (ls : List Letter) (an ds : List (ℕ × Message)) (v : ℕ)
    → Inv Phi n states ls an ds → Inv Phi n (set_at states v (states v)) ls an ds
still_keeps Phi n states ls an ds v inv = quiet_keeps Phi n states ls an ds v (states v) inv (grows_not (states v)) (inv.locals v)

-- ---- an instance is set
instance_grows : (s : ConsState) (i : ℕ) (x : Instance) → round_of (instance_of s.instances i) ≤ x.round → adopted_of (instance_of s.instances i) ≤ x.adopted
    → Grows s (with_instance s i x)
instance_grows s i x round adopted = record {
  round = λ j. instance_case (λ (o : Option Instance). round_of (instance_of s.instances j) ≤ round_of o) s.instances i x j
      (λ e. subst (λ (k : ℕ). round_of (instance_of s.instances k) ≤ x.round) e round) (omega arith);
  adopted = λ j. instance_case (λ (o : Option Instance). adopted_of (instance_of s.instances j) ≤ adopted_of o) s.instances i x j
      (λ e. subst (λ (k : ℕ). adopted_of (instance_of s.instances k) ≤ x.adopted) e adopted) (omega arith);
  proposals = λ b m e. e;
}

instance_local : (Phi : ℕ → Message → Type 0) (ls : List Letter) (an : List (ℕ × Message)) (s : ConsState) (i : ℕ) (x : Instance) → IsLocal Phi ls an s
    → x.adopted ≤ x.round → (1 ≤ x.adopted → IsPut ls (ballot i x.adopted) x.estimate) → Phi i x.estimate → x.round ≤ last_round
    → IsLocal Phi ls an (with_instance s i x)
instance_local Phi ls an s i x old lags took valid ends = record {
  lags = λ j y. at (λ (k : ℕ) (z : Instance). z.adopted ≤ z.round) lags j y (old.lags j y);
  took = λ j y. at (λ (k : ℕ) (z : Instance). 1 ≤ z.adopted → IsPut ls (ballot k z.adopted) z.estimate) took j y (old.took j y);
  valid = λ j y. at (λ (k : ℕ) (z : Instance). Phi k z.estimate) valid j y (old.valid j y);
  rounds = old.rounds;
  decided = old.decided;
  rising = rising_insert s.instances i x old.rising;
  ends = λ j y. at (λ (k : ℕ) (z : Instance). z.round ≤ last_round) ends j y (old.ends j y);
}
  where
    at : (P : ℕ → Instance → Type 0) → P i x → (j : ℕ) (y : Instance) → (instance_of s.instances j ≡ Some y → P j y)
        → instance_of (insert_entry nat_cmp s.instances i x) j ≡ Some y → P j y
    at P here j y there = instance_case (λ (o : Option Instance). o ≡ Some y → P j y) s.instances i x j
        (λ e f. subst (λ (k : ℕ). P k y) e (subst (P i) (some_same (Some x) x y refl f) here)) there

-- ---- a node tells an estimate: it enters an instance, or goes to its next round
pub tell_keeps : (Phi : ℕ → Message → Type 0) (n : ℕ) (states : ℕ → ConsState) (ls : List Letter) (an ds : List (ℕ × Message)) (v : ℕ) → Inv Phi n states ls an ds → v < n
    → (i : ℕ) (x : Instance) → round_of (instance_of (states v).instances i) ≤ x.round → adopted_of (instance_of (states v).instances i) ≤ x.adopted
    → 1 ≤ x.round → x.adopted ≤ x.round → (1 ≤ x.adopted → IsPut ls (ballot i x.adopted) x.estimate) → Phi i x.estimate → x.round ≤ last_round
    → Inv Phi n (set_at states v (with_instance (states v) i x)) (ls ++ letter v 1 (ballot i x.round) x.adopted x.estimate ∷ []) an ds
tell_keeps Phi n states ls an ds v inv lt i x round adopted pos lags took valid ends = step_keeps Phi n states ls an ds v y ls' an ds inv (record {
  sub = sub;
  grows = instance_grows (states v) i x round adopted;
  mine = instance_local Phi ls' an (states v) i x (more_local Phi ls ls' an an sub (states v) (inv.locals v)) lags
      (λ h. more_put ls ls' an an sub (ballot i x.adopted) x.estimate (took h)) valid ends;
  news = letter_news Phi n ls an v y new (record {
    estimate = λ t. (
      refl,
      record {
        node = lt;
        positive = pos;
        reached = subst (λ (o : Option Instance). x.round ≤ round_of o) (sym (instance_put (states v).instances i x)) (omega arith);
        ts = lags;
        adopted = from (zero_or x.adopted);
        valid = valid;
      },
    );
    proposal = λ t. absurd (one_two t);
    ack = λ t. absurd (one_three t);
  });
  later = λ a e ha he. late a e (in_split ls new a ha) (in_split ls new e he);
  announced = λ j m h. inl h;
  decided = λ j m h. inl h;
})
  where
    new : Letter
    new = letter v 1 (ballot i x.round) x.adopted x.estimate

    ls' : List Letter
    ls' = ls ++ new ∷ []

    y : ConsState
    y = with_instance (states v) i x

    sub : Sub ls an ls' an
    sub = told_more ls an new

    one_two : ◌≡◌ {A = ℕ} 1 2 → ⊥
    one_two e = omega arith

    one_three : ◌≡◌ {A = ℕ} 1 3 → ⊥
    one_three e = omega arith

    zero_or : (k : ℕ) → (k ≡ 0) ⊎ (1 ≤ k)
    zero_or k = grind arith

    from : (x.adopted ≡ 0) ⊎ (1 ≤ x.adopted) → (x.adopted ≡ 0) ⊎ IsPut ls' (ballot i x.adopted) x.estimate
    from (inl z) = inl z
    from (inr h) = inr (more_put ls ls' an an sub (ballot i x.adopted) x.estimate (took h))

    late : (a e : Letter) → In a ls ⊎ (a ≡ new) → In e ls ⊎ (e ≡ new) → a.tag ≡ 3 → e.tag ≡ 1 → a.sender ≡ e.sender
        → a.ballot.instance ≡ e.ballot.instance → a.ballot.round < e.ballot.round → a.ballot.round ≤ e.adopted
    late a e (inl ha) (inl he) t u same at less = inv.later a e ha he t u same at less
    late a e (inr ea) he t u same at less = absurd (one_three (sym (ap (λ (l : Letter). l.tag) ea) ∙ t))
    late a e (inl ha) (inr ee) t u same at less =
        let sender : a.sender ≡ v = same ∙ ap (λ (l : Letter). l.sender) ee in
        let instance : a.ballot.instance ≡ i = at ∙ ap (λ (l : Letter). l.ballot.instance) ee in
        let ts : e.adopted ≡ x.adopted = ap (λ (l : Letter). l.adopted) ee in
        let reached : a.ballot.round ≤ adopted_of (instance_of (states v).instances i) =
        subst (λ (k : ℕ). a.ballot.round ≤ adopted_of (instance_of (states v).instances k)) instance
        (subst (λ (w : ℕ). a.ballot.round ≤ adopted_of (instance_of (states w).instances a.ballot.instance)) sender (inv.acks a ha t).reached) in
        omega arith

-- ---- a node adopts a proposal and acknowledges it
adopted_le : (Phi : ℕ → Message → Type 0) (ls : List Letter) (an : List (ℕ × Message)) (s : ConsState) → IsLocal Phi ls an s → (i : ℕ) (o : Option Instance)
    → instance_of s.instances i ≡ o → adopted_of o ≤ round_of o
adopted_le Phi ls an s old i None e = omega arith
adopted_le Phi ls an s old i (Some x) e = old.lags i x e

rounds_end : (Phi : ℕ → Message → Type 0) (ls : List Letter) (an : List (ℕ × Message)) (s : ConsState) → IsLocal Phi ls an s → (i : ℕ) (o : Option Instance)
    → instance_of s.instances i ≡ o → round_of o ≤ last_round
rounds_end Phi ls an s old i None e = omega arith
rounds_end Phi ls an s old i (Some x) e = old.ends i x e

pub adopt_keeps : (Phi : ℕ → Message → Type 0) (n : ℕ) (states : ℕ → ConsState) (ls : List Letter) (an ds : List (ℕ × Message)) (v : ℕ) → Inv Phi n states ls an ds → v < n
    → (b : Ballot) (m : Message) → IsPut ls b m → 1 ≤ b.round → round_of (instance_of (states v).instances b.instance) ≤ b.round
    → Inv Phi n (set_at states v (with_instance (states v) b.instance (record { round = b.round; estimate = m; adopted = b.round }))) (ls ++ letter v 3 b 0 m ∷ []) an ds
adopt_keeps Phi n states ls an ds v inv lt b m put pos le = step_keeps Phi n states ls an ds v y ls' an ds inv (record {
  sub = sub;
  grows = instance_grows (states v) b.instance x le (behind (adopted_le Phi ls an (states v) (inv.locals v) b.instance (instance_of (states v).instances b.instance) refl));
  mine = instance_local Phi ls' an (states v) b.instance x (more_local Phi ls ls' an an sub (states v) (inv.locals v)) (omega arith)
      (λ h. more_put ls ls' an an sub b m put) phi ends;
  news = letter_news Phi n ls an v y new (record {
    estimate = λ t. absurd (three_one t);
    proposal = λ t. absurd (three_two t);
    ack = λ t. (
      refl,
      record {
        node = lt;
        positive = pos;
        reached = subst (λ (o : Option Instance). b.round ≤ adopted_of o) (sym (instance_put (states v).instances b.instance x)) (omega arith);
      },
    );
  });
  later = λ a e ha he. late a e (in_split ls new a ha) (in_split ls new e he);
  announced = λ j k h. inl h;
  decided = λ j k h. inl h;
})
  where
    new : Letter
    new = letter v 3 b 0 m

    ls' : List Letter
    ls' = ls ++ new ∷ []

    x : Instance
    x = record { round = b.round; estimate = m; adopted = b.round }

    y : ConsState
    y = with_instance (states v) b.instance x

    sub : Sub ls an ls' an
    sub = told_more ls an new

    three_one : ◌≡◌ {A = ℕ} 3 1 → ⊥
    three_one e = omega arith

    three_two : ◌≡◌ {A = ℕ} 3 2 → ⊥
    three_two e = omega arith

    behind : adopted_of (instance_of (states v).instances b.instance) ≤ round_of (instance_of (states v).instances b.instance)
        → adopted_of (instance_of (states v).instances b.instance) ≤ b.round
    behind h = omega arith

    backing : Backing n (facts_of ls an b.instance) (record { round = b.round; message = m })
    backing = (inv.proposals (letter put.0 2 b put.1 m) put.2 refl).backed

    reached : b.round ≤ round_of (instance_of (states backing.best.sender).instances b.instance)
    reached = (inv.estimates (letter backing.best.sender 1 (ballot b.instance b.round) backing.best.adopted backing.best.message) (backing.told backing.best backing.chosen) refl).reached

    ends : b.round ≤ last_round
    ends = within reached (rounds_end Phi ls an (states backing.best.sender) (inv.locals backing.best.sender) b.instance (instance_of (states backing.best.sender).instances b.instance) refl)
      where
        within : b.round ≤ round_of (instance_of (states backing.best.sender).instances b.instance)
            → round_of (instance_of (states backing.best.sender).instances b.instance) ≤ last_round → b.round ≤ last_round
        within g h = omega arith

    phi : Phi b.instance m
    phi = subst (Phi b.instance) backing.same
        (inv.estimates (letter backing.best.sender 1 (ballot b.instance b.round) backing.best.adopted backing.best.message) (backing.told backing.best backing.chosen) refl).valid

    late : (a e : Letter) → In a ls ⊎ (a ≡ new) → In e ls ⊎ (e ≡ new) → a.tag ≡ 3 → e.tag ≡ 1 → a.sender ≡ e.sender
        → a.ballot.instance ≡ e.ballot.instance → a.ballot.round < e.ballot.round → a.ballot.round ≤ e.adopted
    late a e (inl ha) (inl he) t u same at less = inv.later a e ha he t u same at less
    late a e ha (inr ee) t u same at less = absurd (three_one (sym (ap (λ (l : Letter). l.tag) ee) ∙ u))
    late a e (inr ea) (inl he) t u same at less =
        let sender : e.sender ≡ v = sym same ∙ ap (λ (l : Letter). l.sender) ea in
        let instance : e.ballot.instance ≡ b.instance = sym at ∙ ap (λ (l : Letter). l.ballot.instance) ea in
        let round : a.ballot.round ≡ b.round = ap (λ (l : Letter). l.ballot.round) ea in
        let reached : e.ballot.round ≤ round_of (instance_of (states v).instances b.instance) =
        subst (λ (k : ℕ). e.ballot.round ≤ round_of (instance_of (states v).instances k)) instance
        (subst (λ (w : ℕ). e.ballot.round ≤ round_of (instance_of (states w).instances e.ballot.instance)) sender (inv.estimates e he u).reached) in
        absurd (omega arith)

-- ---- a round is set
abbrev pub set_round : ConsState → Ballot → Round → ConsState
set_round s b r = record s { rounds = insert_entry balloted.cmp s.rounds b r }

round_local : (Phi : ℕ → Message → Type 0) (ls : List Letter) (an : List (ℕ × Message)) (s : ConsState) (b : Ballot) (r : Round) → IsLocal Phi ls an s
    → IsRound ls b r → IsLocal Phi ls an (set_round s b r)
round_local Phi ls an s b r old new = record {
  lags = old.lags;
  took = old.took;
  valid = old.valid;
  rounds = λ c. round_case (IsRound ls c) s.rounds b r c (λ e. subst (λ (d : Ballot). IsRound ls d r) e new) (old.rounds c);
  decided = old.decided;
  rising = old.rising;
  ends = old.ends;
}

round_grows : (s : ConsState) (b : Ballot) (r : Round) → ((m : Message) → (round_at s.rounds b).proposal ≡ Some m → r.proposal ≡ Some m)
    → Grows s (set_round s b r)
round_grows s b r stays = record {
  round = λ i. omega arith;
  adopted = λ i. omega arith;
  proposals = λ c m e. round_case (λ (x : Round). x.proposal ≡ Some m) s.rounds b r c
      (λ same. stays m (subst (λ (d : Ballot). (round_at s.rounds d).proposal ≡ Some m) (sym same) e)) e;
}

pub round_keeps : (Phi : ℕ → Message → Type 0) (n : ℕ) (states : ℕ → ConsState) (ls : List Letter) (an ds : List (ℕ × Message)) (v : ℕ) (b : Ballot) (r : Round) → Inv Phi n states ls an ds
    → ((m : Message) → (round_at (states v).rounds b).proposal ≡ Some m → r.proposal ≡ Some m) → IsRound ls b r
    → Inv Phi n (set_at states v (set_round (states v) b r)) ls an ds
round_keeps Phi n states ls an ds v b r inv stays new =
    quiet_keeps Phi n states ls an ds v (set_round (states v) b r) inv (round_grows (states v) b r stays) (round_local Phi ls an (states v) b r (inv.locals v) new)

-- ---- a round keeps an estimate, and counts an acknowledgement
pub estimate_round : (ls : List Letter) (b : Ballot) (r : Round) (e : Estimate) → IsRound ls b r → In (letter e.sender 1 b e.adopted e.message) ls
    → is_kept r.estimates e.sender ≡ false → IsRound ls b (with_estimate r e)
estimate_round ls b r e old told new = record {
  kept = λ k h. go k (in_split r.estimates e k h);
  apart = subst (λ (l : List ℕ). IsDistinct eqb l) (sym (map-append (λ (k : Estimate). k.sender) r.estimates (e ∷ [])))
      (distinct_end (senders r.estimates) e.sender old.apart (any_mapped (λ (k : Estimate). k.sender) e.sender r.estimates ∙ new));
  made = old.made;
  acked = old.acked;
  ackers = old.ackers;
}
  where
    go : (k : Estimate) → In k r.estimates ⊎ (k ≡ e) → In (letter k.sender 1 b k.adopted k.message) ls
    go k (inl h) = old.kept k h
    go k (inr same) = subst (λ (i : Estimate). In (letter i.sender 1 b i.adopted i.message) ls) (sym same) told

pub acknowledged_round : (ls : List Letter) (b : Ballot) (r : Round) (sender : ℕ) → IsRound ls b r → HasAcked ls b sender
    → IsRound ls b (with_acknowledged r sender)
acknowledged_round ls b r sender old told = record {
  kept = old.kept;
  apart = old.apart;
  made = old.made;
  acked = (go (list_any (λ y. y == sender) r.acknowledged) refl).0;
  ackers = (go (list_any (λ y. y == sender) r.acknowledged) refl).1;
}
  where
    one : (x : ℕ) → In x r.acknowledged ⊎ (x ≡ sender) → HasAcked ls b x
    one x (inl h) = old.acked x h
    one x (inr e) = subst (HasAcked ls b) (sym e) told

    go : (t : Bool) → list_any (λ y. y == sender) r.acknowledged ≡ t
        → ((x : ℕ) → In x (if t then r.acknowledged else r.acknowledged ++ sender ∷ []) → HasAcked ls b x)
        × IsDistinct eqb (if t then r.acknowledged else r.acknowledged ++ sender ∷ [])
    go true t = (old.acked, old.ackers)
    go false t = ((λ x h. one x (in_split r.acknowledged sender x h)), distinct_end r.acknowledged sender old.ackers (any_flipped sender r.acknowledged ∙ t))

-- ---- the best of estimates
pub record IsBest (e : Estimate) (es : List Estimate) (best : Estimate) : Type 0 where
  pub chosen : (best ≡ e) ⊎ In best es
  pub first : e.adopted ≤ best.adopted
  pub greatest : (k : Estimate) → In k es → k.adopted ≤ best.adopted

best_is : (e : Estimate) (es : List Estimate) → IsBest e es (best_of e es)
best_is e [] = record { chosen = inl refl; first = omega arith; greatest = λ k h. absurd h }
best_is e (k ∷ es) = go (beats k e) refl (best_is e es) (best_is k es)
  where
    more : (x : Estimate) → (x ≡ e) ⊎ In x es → (x ≡ e) ⊎ In x (k ∷ es)
    more x (inl f) = inl f
    more x (inr h) = inr (inr h)

    new_more : (x : Estimate) → (x ≡ k) ⊎ In x es → (x ≡ e) ⊎ In x (k ∷ es)
    new_more x (inl f) = inr (inl f)
    new_more x (inr h) = inr (inr h)

    greater : (z : ℕ) → beats k e ≡ true → k.adopted ≤ z → e.adopted ≤ z
    greater z s le = grind (arith, nat_tests)

    lesser : (z : ℕ) → beats k e ≡ false → e.adopted ≤ z → k.adopted ≤ z
    lesser z s le = grind (arith, nat_tests)

    all : (x j : Estimate) → k.adopted ≤ x.adopted → ((i : Estimate) → In i es → i.adopted ≤ x.adopted) → In j (k ∷ es) → j.adopted ≤ x.adopted
    all x j top rest (inl f) = subst (λ (z : Estimate). z.adopted ≤ x.adopted) (sym f) top
    all x j top rest (inr h) = rest j h

    go : (t : Bool) → beats k e ≡ t → IsBest e es (best_of e es) → IsBest k es (best_of k es) → IsBest e (k ∷ es) (best_of (if t then k else e) es)
    go true t old new = record {
      chosen = new_more (best_of k es) new.chosen;
      first = greater (best_of k es).adopted t new.first;
      greatest = λ j h. all (best_of k es) j new.first new.greatest h;
    }
    go false t old new = record {
      chosen = more (best_of e es) old.chosen;
      first = old.first;
      greatest = λ j h. all (best_of e es) j (lesser (best_of e es).adopted t old.first) old.greatest h;
    }

-- ---- a coordinator makes a proposal
no_proposal : (c : Option Message) (m : Message) → c ≡ None → c ≡ Some m → ⊥
no_proposal c m e e' = cc

-- what was told for a round that has no proposal is older than the round
older : (Phi : ℕ → Message → Type 0) (n : ℕ) (states : ℕ → ConsState) (ls : List Letter) (an ds : List (ℕ × Message)) → Inv Phi n states ls an ds
    → (b : Ballot) → (round_at (states (coordinator_of n b.round)).rounds b).proposal ≡ None → (sender ts : ℕ) (m : Message) → In (letter sender 1 b ts m) ls → ts < b.round
older Phi n states ls an ds inv b none sender ts m told = go (split ts b.round o.ts)
  where
    o : IsEstimate Phi n ls (states sender) (letter sender 1 b ts m)
    o = inv.estimates (letter sender 1 b ts m) told refl

    split : (x y : ℕ) → x ≤ y → (x ≡ y) ⊎ (x < y)
    split x y le = grind arith

    from : ts ≡ b.round → (ts ≡ 0) ⊎ IsPut ls (ballot b.instance ts) m → ⊥
    from e (inl z) =
        let pos : 1 ≤ b.round = o.positive in
        omega arith
    from e (inr put) =
        no_proposal (round_at (states (coordinator_of n b.round)).rounds b).proposal m none
        (put_made Phi n states ls an ds inv b m (subst (λ (r : ℕ). IsPut ls (ballot b.instance r) m) e put))

    go : (ts ≡ b.round) ⊎ (ts < b.round) → ts < b.round
    go (inl e) = absurd (from e o.adopted)
    go (inr lt) = lt

abbrev pub proposing : Round → Message → Round
proposing r m = record r { proposal = Some m }

pub make_keeps : (Phi : ℕ → Message → Type 0) (n : ℕ) (states : ℕ → ConsState) (ls : List Letter) (an ds : List (ℕ × Message)) (v : ℕ) (b : Ballot) (e : Estimate) (r : Round) → Inv Phi n states ls an ds
    → coordinator_of n b.round ≡ v → 1 ≤ b.round → (round_at (states v).rounds b).proposal ≡ None → IsRound ls b r → In e r.estimates → majority_of n ≤ length r.estimates
    → Inv Phi n (set_at states v (set_round (states v) b (proposing r (best_of e r.estimates).message))) (ls ++ letter v 2 b 0 (best_of e r.estimates).message ∷ []) an ds
make_keeps Phi n states ls an ds v b e r inv co pos none round one many = step_keeps Phi n states ls an ds v y ls' an ds inv (record {
  sub = sub;
  grows = round_grows s b (proposing r best.message) (λ m f. absurd (no_proposal (round_at s.rounds b).proposal m none f));
  mine = round_local Phi ls' an s b (proposing r best.message) (more_local Phi ls ls' an an sub s (inv.locals v)) (record {
    kept = grown.kept;
    apart = grown.apart;
    made = λ m f. subst (λ (z : Message). IsPut ls' b z) (some_same (Some best.message) best.message m refl f) (v, 0, in_end ls new);
    acked = grown.acked;
    ackers = grown.ackers;
  });
  news = letter_news Phi n ls an v y new (record {
    estimate = λ t. absurd (two_one t);
    proposal = λ t. (sym co, record { positive = pos; made = ap (λ (x : Round). x.proposal) (round_put s.rounds b (proposing r best.message)); backed = backing });
    ack = λ t. absurd (two_three t);
  });
  later = λ a f ha hf. late a f (in_split ls new a ha) (in_split ls new f hf);
  announced = λ j m h. inl h;
  decided = λ j m h. inl h;
})
  where
    s : ConsState
    s = states v

    best : Estimate
    best = best_of e r.estimates

    new : Letter
    new = letter v 2 b 0 best.message

    ls' : List Letter
    ls' = ls ++ new ∷ []

    y : ConsState
    y = set_round s b (proposing r best.message)

    sub : Sub ls an ls' an
    sub = told_more ls an new

    grown : IsRound ls' b r
    grown = more_round ls ls' an an sub b r round

    two_one : ◌≡◌ {A = ℕ} 2 1 → ⊥
    two_one t = omega arith

    two_three : ◌≡◌ {A = ℕ} 2 3 → ⊥
    two_three t = omega arith

    is_best : IsBest e r.estimates best
    is_best = best_is e r.estimates

    is_chosen : (best ≡ e) ⊎ In best r.estimates → In best r.estimates
    is_chosen (inl f) = subst (λ (j : Estimate). In j r.estimates) (sym f) one
    is_chosen (inr h) = h

    backing : Backing n (facts_of ls' an b.instance) (record { round = b.round; message = best.message })
    backing = record {
      from = r.estimates;
      quorum = record {
        distinct = round.apart;
        below = λ x h. let j = in_mapped (λ (k : Estimate). k.sender) r.estimates x h in
            subst (λ (u : ℕ). u < n) j.2 (inv.estimates (letter j.0.sender 1 b j.0.adopted j.0.message) (round.kept j.0 j.1) refl).node;
        many = let l : length (senders r.estimates) ≡ length r.estimates = length-map r.estimates (λ (k : Estimate). k.sender) in omega arith;
      };
      told = λ j h. grown.kept j h;
      earlier = λ j h. older Phi n states ls an ds inv b (subst (λ (u : ℕ). (round_at (states u).rounds b).proposal ≡ None) (sym co) none)
          j.sender j.adopted j.message (round.kept j h);
      best = best;
      chosen = is_chosen is_best.chosen;
      same = refl;
      greatest = is_best.greatest;
    }

    late : (a f : Letter) → In a ls ⊎ (a ≡ new) → In f ls ⊎ (f ≡ new) → a.tag ≡ 3 → f.tag ≡ 1 → a.sender ≡ f.sender
        → a.ballot.instance ≡ f.ballot.instance → a.ballot.round < f.ballot.round → a.ballot.round ≤ f.adopted
    late a f (inl ha) (inl hf) t u same at less = inv.later a f ha hf t u same at less
    late a f (inr ea) hf t u same at less = absurd (two_three (sym (ap (λ (l : Letter). l.tag) ea) ∙ t))
    late a f (inl ha) (inr ef) t u same at less = absurd (two_one (sym (ap (λ (l : Letter). l.tag) ef) ∙ u))

-- ---- a coordinator announces
abbrev pub announcing : Round → Round
announcing r = record r { announced = true }

pub announce_keeps : (Phi : ℕ → Message → Type 0) (n : ℕ) (states : ℕ → ConsState) (ls : List Letter) (an ds : List (ℕ × Message)) (v : ℕ) (b : Ballot) (m : Message) (r : Round) → Inv Phi n states ls an ds
    → 1 ≤ b.round → ((k : Message) → (round_at (states v).rounds b).proposal ≡ Some k → r.proposal ≡ Some k) → r.proposal ≡ Some m
    → IsRound ls b r → majority_of n ≤ length r.acknowledged
    → Inv Phi n (set_at states v (set_round (states v) b (announcing r))) ls (an ++ (b.instance, m) ∷ []) ds
announce_keeps Phi n states ls an ds v b m r inv pos stays put round many = step_keeps Phi n states ls an ds v y ls an' ds inv (record {
  sub = sub;
  grows = round_grows s b (announcing r) stays;
  mine = round_local Phi ls an' s b (announcing r) (more_local Phi ls ls an an' sub s (inv.locals v))
      (record { kept = round.kept; apart = round.apart; made = round.made; acked = round.acked; ackers = round.ackers });
  news = λ l h. inl h;
  later = inv.later;
  announced = λ i k h. news i k (in_split an (b.instance, m) (i, k) h);
  decided = λ i k h. inl h;
})
  where
    s : ConsState
    s = states v

    an' : List (ℕ × Message)
    an' = an ++ (b.instance, m) ∷ []

    y : ConsState
    y = set_round s b (announcing r)

    sub : Sub ls an ls an'
    sub = announced_more ls an b.instance m

    locked : IsLocked n (facts_of ls an' b.instance) m
    locked = record {
      round = b.round;
      positive = pos;
      proposed = round.made m put;
      who = r.acknowledged;
      quorum = record {
        distinct = round.ackers;
        below = λ x h. let a = round.acked x h in (inv.acks (letter x 3 b a.0 a.1) a.2 refl).node;
        many = many;
      };
      acked = round.acked;
    }

    news : (i : ℕ) (k : Message) → In (i, k) an ⊎ ◌≡◌ {A = ℕ × Message} (i, k) (b.instance, m) → In (i, k) an ⊎ IsLocked n (facts_of ls an' i) k
    news i k (inl h) = inl h
    news i k (inr e) =
        let instance : i ≡ b.instance = ap (λ (u : ℕ × Message). u.0) e in
        let it : k ≡ m = ap (λ (u : ℕ × Message). u.1) e in
        inr (subst (λ (j : ℕ). IsLocked n (facts_of ls an' j) k) (sym instance) (subst (λ (z : Message). IsLocked n (facts_of ls an' b.instance) z) (sym it) locked))

-- ---- a decision
abbrev pub deciding : ConsState → ℕ → Message → ConsState
deciding s i m = record s { decisions = with_message s.decisions i m }

pub decide_keeps : (Phi : ℕ → Message → Type 0) (n : ℕ) (states : ℕ → ConsState) (ls : List Letter) (an ds : List (ℕ × Message)) (v i : ℕ) (m : Message) → Inv Phi n states ls an ds
    → In (i, m) an → Inv Phi n (set_at states v (deciding (states v) i m)) ls an (ds ++ (i, m) ∷ [])
decide_keeps Phi n states ls an ds v i m inv told = step_keeps Phi n states ls an ds v (deciding s i m) ls an (ds ++ (i, m) ∷ []) inv (record {
  sub = no_more ls an;
  grows = record { round = λ j. omega arith; adopted = λ j. omega arith; proposals = λ b k e. e };
  mine = record {
    lags = old.lags;
    took = old.took;
    valid = old.valid;
    rounds = old.rounds;
    decided = λ j k e. is j k (more.new j k e);
    rising = old.rising;
    ends = old.ends;
  };
  news = λ l h. inl h;
  later = inv.later;
  announced = λ j k h. inl h;
  decided = λ j k h. news j k (in_split ds (i, m) (j, k) h);
})
  where
    s : ConsState
    s = states v

    old : IsLocal Phi ls an s
    old = inv.locals v

    more : HasMore s.decisions (with_message s.decisions i m) i m
    more = with_message_is s.decisions i m

    at : (j : ℕ) (k : Message) → i ≡ j → m ≡ k → In (j, k) an
    at j k e f = subst (λ (u : ℕ). In (u, k) an) e (subst (λ (z : Message). In (i, z) an) f told)

    is : (j : ℕ) (k : Message) → (message_of s.decisions j ≡ Some k) ⊎ ((i ≡ j) × (m ≡ k)) → In (j, k) an
    is j k (inl e) = old.decided j k e
    is j k (inr e) = at j k e.0 e.1

    news : (j : ℕ) (k : Message) → In (j, k) ds ⊎ ◌≡◌ {A = ℕ × Message} (j, k) (i, m) → In (j, k) ds ⊎ In (j, k) an
    news j k (inl h) = inl h
    news j k (inr e) = inr (at j k (sym (ap (λ (u : ℕ × Message). u.0) e)) (sym (ap (λ (u : ℕ × Message). u.1) e)))
