-- What holds of all boxes of consensus after every step.
use Rattle.std.proofs.Common.{◌≡◌, ◌⊎◌, inl, inr, ℕ, ◌-◌, ◌^◌, ◌<◌, ◌≤◌, Bool, true, false, eqb, List, refl, sym, subst, arith, Option, Some, None, ◌==◌, if◌then◌else◌, eqb-true}
use Rattle.std.specs.List.{IsDistinct}
use Rattle.std.proofs.lemmas.Bool.Decides.{nat_tests}
use Rattle.samoa_serial.specs.Rows.{message_of}
use Rattle.samoa_serial.specs.State.{Round, ConsState}
use Rattle.samoa_serial.specs.ConsTable.{ballot, instance_of, round_at, round_of}
use Rattle.samoa_serial.specs.declared.keys.Ballot.{Ballot}
use Rattle.samoa_serial.specs.declared.message.Message.{Message}
use Rattle.samoa_serial.specs.declared.message.Instance.{Instance}
use Rattle.samoa_serial.specs.declared.message.Estimate.{Estimate}
use Rattle.samoa_serial.specs.declared.message.Letter.{Letter}
use Rattle.samoa_laws.specs.lists.Lists.{In}
use Rattle.samoa_laws.proofs.consensus.Majorities.{coordinator_of}
use Rattle.samoa_serial.proofs.Instances.{IsRising}
use Rattle.samoa_laws.proofs.consensus.Locked.{Put, Facts, senders, Backing, IsLocked, IsSafe}
use Rattle.samoa_laws.proofs.lists.Lists.{some_same}

-- ---- what was told, by letters
abbrev pub letter : ℕ → ℕ → Ballot → ℕ → Message → Letter
letter sender tag b ts m = record { sender = sender; tag = tag; ballot = b; adopted = ts; message = m }

-- m was proposed in a round, by whomever
abbrev pub IsPut : List Letter → Ballot → Message → Type 0
IsPut ls b m = (sender : ℕ) × (ts : ℕ) × In (letter sender 2 b ts m) ls

-- a node acknowledged a round
abbrev pub HasAcked : List Letter → Ballot → ℕ → Type 0
HasAcked ls b node = (ts : ℕ) × (m : Message) × In (letter node 3 b ts m) ls

-- of one instance
abbrev pub facts_of : List Letter → List (ℕ × Message) → ℕ → Facts
facts_of ls an i = record {
  estimates = λ e. In (letter e.node 1 (ballot i e.round) e.ts e.message) ls;
  proposals = λ p. IsPut ls (ballot i p.round) p.message;
  acks = λ a. HasAcked ls (ballot i a.round) a.node;
  announced = λ m. In (i, m) an;
}

-- what the coordinator of a round keeps of it
pub record IsRound (ls : List Letter) (b : Ballot) (r : Round) : Type 0 where
  pub kept : (e : Estimate) → In e r.estimates → In (letter e.sender 1 b e.adopted e.message) ls
  pub apart : IsDistinct eqb (senders r.estimates)
  pub made : (m : Message) → r.proposal ≡ Some m → IsPut ls b m
  pub acked : (v : ℕ) → In v r.acknowledged → HasAcked ls b v
  pub ackers : IsDistinct eqb r.acknowledged

-- the adopted round of an instance, 0 where this node is not in it
abbrev pub adopted_of : Option Instance → ℕ
adopted_of None = 0
adopted_of (Some x) = x.adopted

-- the last number that a round can have
abbrev pub last_round : ℕ
last_round = 2 ^ 64 - 1

pub record IsLocal (Phi : ℕ → Message → Type 0) (ls : List Letter) (an : List (ℕ × Message)) (s : ConsState) : Type 0 where
  pub lags : (i : ℕ) (x : Instance) → instance_of s.instances i ≡ Some x → x.adopted ≤ x.round
  pub took : (i : ℕ) (x : Instance) → instance_of s.instances i ≡ Some x → 1 ≤ x.adopted → IsPut ls (ballot i x.adopted) x.estimate
  pub valid : (i : ℕ) (x : Instance) → instance_of s.instances i ≡ Some x → Phi i x.estimate
  pub rounds : (b : Ballot) → IsRound ls b (round_at s.rounds b)
  pub decided : (i : ℕ) (m : Message) → message_of s.decisions i ≡ Some m → In (i, m) an
  pub rising : IsRising s.instances
  pub ends : (i : ℕ) (x : Instance) → instance_of s.instances i ≡ Some x → x.round ≤ last_round

-- x is the state at the node that told the estimate l
pub record IsEstimate (Phi : ℕ → Message → Type 0) (n : ℕ) (ls : List Letter) (x : ConsState) (l : Letter) : Type 0 where
  pub node : l.sender < n
  pub positive : 1 ≤ l.ballot.round
  pub reached : l.ballot.round ≤ round_of (instance_of x.instances l.ballot.instance)
  pub ts : l.adopted ≤ l.ballot.round
  pub adopted : (l.adopted ≡ 0) ⊎ IsPut ls (ballot l.ballot.instance l.adopted) l.message
  pub valid : Phi l.ballot.instance l.message

-- x is the state at the coordinator of the round of the proposal l
pub record IsProposal (n : ℕ) (ls : List Letter) (an : List (ℕ × Message)) (x : ConsState) (l : Letter) : Type 0 where
  pub positive : 1 ≤ l.ballot.round
  pub made : (round_at x.rounds l.ballot).proposal ≡ Some l.message
  pub backed : Backing n (facts_of ls an l.ballot.instance) (record { round = l.ballot.round; message = l.message })

-- x is the state at the node that acknowledged
pub record IsAck (n : ℕ) (x : ConsState) (l : Letter) : Type 0 where
  pub node : l.sender < n
  pub positive : 1 ≤ l.ballot.round
  pub reached : l.ballot.round ≤ adopted_of (instance_of x.instances l.ballot.instance)

-- who acknowledged a round tells only later estimates that adopted it or a later one
abbrev pub IsLater : List Letter → Type 0
IsLater ls = (a e : Letter) → In a ls → In e ls → a.tag ≡ 3 → e.tag ≡ 1 → a.sender ≡ e.sender → a.ballot.instance ≡ e.ballot.instance
    → a.ballot.round < e.ballot.round → a.ballot.round ≤ e.adopted

pub record Inv (Phi : ℕ → Message → Type 0) (n : ℕ) (states : ℕ → ConsState) (ls : List Letter) (an ds : List (ℕ × Message)) : Type 0 where
  pub locals : (u : ℕ) → IsLocal Phi ls an (states u)
  pub estimates : (l : Letter) → In l ls → l.tag ≡ 1 → IsEstimate Phi n ls (states l.sender) l
  pub proposals : (l : Letter) → In l ls → l.tag ≡ 2 → IsProposal n ls an (states (coordinator_of n l.ballot.round)) l
  pub acks : (l : Letter) → In l ls → l.tag ≡ 3 → IsAck n (states l.sender) l
  pub later : IsLater ls
  pub announced : (i : ℕ) (m : Message) → In (i, m) an → IsLocked n (facts_of ls an i) m
  pub decided : (i : ℕ) (m : Message) → In (i, m) ds → In (i, m) an

-- a proposal of an instance is at its coordinator
pub put_made : (Phi : ℕ → Message → Type 0) (n : ℕ) (states : ℕ → ConsState) (ls : List Letter) (an ds : List (ℕ × Message)) → Inv Phi n states ls an ds
    → (b : Ballot) (m : Message) → IsPut ls b m → (round_at (states (coordinator_of n b.round)).rounds b).proposal ≡ Some m
put_made Phi n states ls an ds inv b m h = (inv.proposals (letter h.0 2 b h.1 m) h.2 refl).made

pub safe : (Phi : ℕ → Message → Type 0) (n : ℕ) (states : ℕ → ConsState) (ls : List Letter) (an ds : List (ℕ × Message)) → Inv Phi n states ls an ds
    → (i : ℕ) → IsSafe n (facts_of ls an i)
safe Phi n states ls an ds inv i = record {
  unique = λ p q hp hq e.
      some_same (round_at (states (coordinator_of n p.round)).rounds (ballot i p.round)).proposal p.message q.message
      (put_made Phi n states ls an ds inv (ballot i p.round) p.message hp)
      (subst (λ (r : ℕ). (round_at (states (coordinator_of n r)).rounds (ballot i r)).proposal ≡ Some q.message) (sym e)
      (put_made Phi n states ls an ds inv (ballot i q.round) q.message hq));
  backed = λ p h. (inv.proposals (letter h.0 2 (ballot i p.round) h.1 p.message) h.2 refl).backed;
  adopted = λ e h. (inv.estimates (letter e.node 1 (ballot i e.round) e.ts e.message) h refl).adopted;
  later = λ a e ha he same less.
      inv.later (letter a.node 3 (ballot i a.round) ha.0 ha.1) (letter e.node 1 (ballot i e.round) e.ts e.message) ha.2 he refl refl same refl less;
  announced = λ m h. inv.announced i m h;
}

-- ---- more was told and announced
pub record Sub (ls : List Letter) (an : List (ℕ × Message)) (ls' : List Letter) (an' : List (ℕ × Message)) : Type 0 where
  pub told : (l : Letter) → In l ls → In l ls'
  pub announced : (i : ℕ) (m : Message) → In (i, m) an → In (i, m) an'

pub more_put : (ls ls' : List Letter) (an an' : List (ℕ × Message)) → Sub ls an ls' an' → (b : Ballot) (m : Message) → IsPut ls b m → IsPut ls' b m
more_put ls ls' an an' sub b m h = (h.0, h.1, sub.told (letter h.0 2 b h.1 m) h.2)

pub more_acked : (ls ls' : List Letter) (an an' : List (ℕ × Message)) → Sub ls an ls' an' → (b : Ballot) (v : ℕ) → HasAcked ls b v → HasAcked ls' b v
more_acked ls ls' an an' sub b v h = (h.0, h.1, sub.told (letter v 3 b h.0 h.1) h.2)

pub more_backing : (n : ℕ) (ls ls' : List Letter) (an an' : List (ℕ × Message)) → Sub ls an ls' an' → (i : ℕ) (p : Put)
    → Backing n (facts_of ls an i) p → Backing n (facts_of ls' an' i) p
more_backing n ls ls' an an' sub i p b = record {
  from = b.from;
  quorum = b.quorum;
  told = λ k h. sub.told (letter k.sender 1 (ballot i p.round) k.adopted k.message) (b.told k h);
  earlier = b.earlier;
  best = b.best;
  chosen = b.chosen;
  same = b.same;
  greatest = b.greatest;
}

more_adopted : (ls ls' : List Letter) (an an' : List (ℕ × Message)) → Sub ls an ls' an' → (l : Letter)
    → (l.adopted ≡ 0) ⊎ IsPut ls (ballot l.ballot.instance l.adopted) l.message → (l.adopted ≡ 0) ⊎ IsPut ls' (ballot l.ballot.instance l.adopted) l.message
more_adopted ls ls' an an' sub l (inl z) = inl z
more_adopted ls ls' an an' sub l (inr h) = inr (more_put ls ls' an an' sub (ballot l.ballot.instance l.adopted) l.message h)

pub more_locked : (n : ℕ) (ls ls' : List Letter) (an an' : List (ℕ × Message)) → Sub ls an ls' an' → (i : ℕ) (m : Message)
    → IsLocked n (facts_of ls an i) m → IsLocked n (facts_of ls' an' i) m
more_locked n ls ls' an an' sub i m l = record {
  round = l.round;
  positive = l.positive;
  proposed = more_put ls ls' an an' sub (ballot i l.round) m l.proposed;
  who = l.who;
  quorum = l.quorum;
  acked = λ x h. more_acked ls ls' an an' sub (ballot i l.round) x (l.acked x h);
}

pub more_round : (ls ls' : List Letter) (an an' : List (ℕ × Message)) → Sub ls an ls' an' → (b : Ballot) (r : Round) → IsRound ls b r → IsRound ls' b r
more_round ls ls' an an' sub b r o = record {
  kept = λ e h. sub.told (letter e.sender 1 b e.adopted e.message) (o.kept e h);
  apart = o.apart;
  made = λ m e. more_put ls ls' an an' sub b m (o.made m e);
  acked = λ v h. more_acked ls ls' an an' sub b v (o.acked v h);
  ackers = o.ackers;
}

pub more_local : (Phi : ℕ → Message → Type 0) (ls ls' : List Letter) (an an' : List (ℕ × Message)) → Sub ls an ls' an' → (s : ConsState)
    → IsLocal Phi ls an s → IsLocal Phi ls' an' s
more_local Phi ls ls' an an' sub s o = record {
  lags = o.lags;
  took = λ i x e h. more_put ls ls' an an' sub (ballot i x.adopted) x.estimate (o.took i x e h);
  valid = o.valid;
  rounds = λ b. more_round ls ls' an an' sub b (round_at s.rounds b) (o.rounds b);
  decided = λ i m e. sub.announced i m (o.decided i m e);
  rising = o.rising;
  ends = o.ends;
}

-- ---- a node goes on
pub record Grows (x y : ConsState) : Type 0 where
  pub round : (i : ℕ) → round_of (instance_of x.instances i) ≤ round_of (instance_of y.instances i)
  pub adopted : (i : ℕ) → adopted_of (instance_of x.instances i) ≤ adopted_of (instance_of y.instances i)
  pub proposals : (b : Ballot) (m : Message) → (round_at x.rounds b).proposal ≡ Some m → (round_at y.rounds b).proposal ≡ Some m

pub grows_not : (x : ConsState) → Grows x x
grows_not x = record { round = λ i. omega arith; adopted = λ i. omega arith; proposals = λ b m e. e }

abbrev pub set_at : (ℕ → ConsState) → ℕ → ConsState → (ℕ → ConsState)
set_at states v y = λ u. if v == u then y else states u

not_equal : (u v : ℕ) → eqb u v ≡ false → u ≡ v → ⊥
not_equal u v t e = grind (arith, nat_tests)

pub set_at-case : (Q : ConsState → Type 0) (states : ℕ → ConsState) (v : ℕ) (y : ConsState) (u : ℕ) → (v ≡ u → Q y) → ((v ≡ u → ⊥) → Q (states u))
    → Q (set_at states v y u)
set_at-case Q states v y u here there = go (eqb v u) refl
  where
    go : (b : Bool) → eqb v u ≡ b → Q (if b then y else states u)
    go true t = here (eqb-true v u t)
    go false t = there (not_equal v u t)

grown_estimate : (Phi : ℕ → Message → Type 0) (n : ℕ) (ls ls' : List Letter) (an an' : List (ℕ × Message)) → Sub ls an ls' an' → (x y : ConsState) (l : Letter)
    → round_of (instance_of x.instances l.ballot.instance) ≤ round_of (instance_of y.instances l.ballot.instance)
    → IsEstimate Phi n ls x l → IsEstimate Phi n ls' y l
grown_estimate Phi n ls ls' an an' sub x y l le o =
    let reached : l.ballot.round ≤ round_of (instance_of x.instances l.ballot.instance) = o.reached in
    record { node = o.node; positive = o.positive; reached = omega arith; ts = o.ts; adopted = more_adopted ls ls' an an' sub l o.adopted; valid = o.valid }

grown_proposal : (n : ℕ) (ls ls' : List Letter) (an an' : List (ℕ × Message)) → Sub ls an ls' an' → (x y : ConsState) (l : Letter)
    → ((round_at x.rounds l.ballot).proposal ≡ Some l.message → (round_at y.rounds l.ballot).proposal ≡ Some l.message)
    → IsProposal n ls an x l → IsProposal n ls' an' y l
grown_proposal n ls ls' an an' sub x y l stays o = record {
  positive = o.positive;
  made = stays o.made;
  backed = more_backing n ls ls' an an' sub l.ballot.instance (record { round = l.ballot.round; message = l.message }) o.backed;
}

grown_ack : (n : ℕ) (x y : ConsState) (l : Letter)
    → adopted_of (instance_of x.instances l.ballot.instance) ≤ adopted_of (instance_of y.instances l.ballot.instance) → IsAck n x l → IsAck n y l
grown_ack n x y l le o =
    let reached : l.ballot.round ≤ adopted_of (instance_of x.instances l.ballot.instance) = o.reached in
    record { node = o.node; positive = o.positive; reached = omega arith }

-- what node v tells now, by tag
pub record IsNew (Phi : ℕ → Message → Type 0) (n : ℕ) (ls : List Letter) (an : List (ℕ × Message)) (v : ℕ) (y : ConsState) (l : Letter) : Type 0 where
  pub estimate : l.tag ≡ 1 → (v ≡ l.sender) × IsEstimate Phi n ls y l
  pub proposal : l.tag ≡ 2 → (v ≡ coordinator_of n l.ballot.round) × IsProposal n ls an y l
  pub ack : l.tag ≡ 3 → (v ≡ l.sender) × IsAck n y l

-- node v goes on to y, and ls', an', ds' have what was said before and what v says now
pub record Step (Phi : ℕ → Message → Type 0) (n : ℕ) (states : ℕ → ConsState) (ls : List Letter) (an ds : List (ℕ × Message)) (v : ℕ) (y : ConsState) (ls' : List Letter) (an' ds' : List (ℕ × Message)) : Type 0 where
  pub sub : Sub ls an ls' an'
  pub grows : Grows (states v) y
  pub mine : IsLocal Phi ls' an' y
  pub news : (l : Letter) → In l ls' → In l ls ⊎ IsNew Phi n ls' an' v y l
  pub later : IsLater ls'
  pub announced : (i : ℕ) (m : Message) → In (i, m) an' → In (i, m) an ⊎ IsLocked n (facts_of ls' an' i) m
  pub decided : (i : ℕ) (m : Message) → In (i, m) ds' → In (i, m) ds ⊎ In (i, m) an'

pub step_keeps : (Phi : ℕ → Message → Type 0) (n : ℕ) (states : ℕ → ConsState) (ls : List Letter) (an ds : List (ℕ × Message)) (v : ℕ) (y : ConsState) (ls' : List Letter) (an' ds' : List (ℕ × Message))
    → Inv Phi n states ls an ds → Step Phi n states ls an ds v y ls' an' ds' → Inv Phi n (set_at states v y) ls' an' ds'
step_keeps Phi n states ls an ds v y ls' an' ds' inv s = record {
  locals = λ u. set_at-case (IsLocal Phi ls' an') states v y u (λ e. s.mine) (λ ne. more_local Phi ls ls' an an' s.sub (states u) (inv.locals u));
  estimates = λ l h t. est l t (s.news l h);
  proposals = λ l h t. pro l t (s.news l h);
  acks = λ l h t. ack l t (s.news l h);
  later = s.later;
  announced = λ i m h. ann i m (s.announced i m h);
  decided = λ i m h. dec i m (s.decided i m h);
}
  where
    est : (l : Letter) → l.tag ≡ 1 → In l ls ⊎ IsNew Phi n ls' an' v y l → IsEstimate Phi n ls' (set_at states v y l.sender) l
    est l t (inl h) = set_at-case (λ (x : ConsState). IsEstimate Phi n ls' x l) states v y l.sender
        (λ eq. grown_estimate Phi n ls ls' an an' s.sub (states v) y l (s.grows.round l.ballot.instance)
        (subst (λ (u : ℕ). IsEstimate Phi n ls (states u) l) (sym eq) (inv.estimates l h t)))
        (λ ne. grown_estimate Phi n ls ls' an an' s.sub (states l.sender) (states l.sender) l (omega arith) (inv.estimates l h t))
    est l t (inr new) = set_at-case (λ (x : ConsState). IsEstimate Phi n ls' x l) states v y l.sender
        (λ eq. (new.estimate t).1) (λ ne. absurd (ne (new.estimate t).0))

    pro : (l : Letter) → l.tag ≡ 2 → In l ls ⊎ IsNew Phi n ls' an' v y l → IsProposal n ls' an' (set_at states v y (coordinator_of n l.ballot.round)) l
    pro l t (inl h) = set_at-case (λ (x : ConsState). IsProposal n ls' an' x l) states v y (coordinator_of n l.ballot.round)
        (λ eq. grown_proposal n ls ls' an an' s.sub (states v) y l (s.grows.proposals l.ballot l.message)
        (subst (λ (u : ℕ). IsProposal n ls an (states u) l) (sym eq) (inv.proposals l h t)))
        (λ ne. grown_proposal n ls ls' an an' s.sub (states (coordinator_of n l.ballot.round)) (states (coordinator_of n l.ballot.round)) l (λ e. e) (inv.proposals l h t))
    pro l t (inr new) = set_at-case (λ (x : ConsState). IsProposal n ls' an' x l) states v y (coordinator_of n l.ballot.round)
        (λ eq. (new.proposal t).1) (λ ne. absurd (ne (new.proposal t).0))

    ack : (l : Letter) → l.tag ≡ 3 → In l ls ⊎ IsNew Phi n ls' an' v y l → IsAck n (set_at states v y l.sender) l
    ack l t (inl h) = set_at-case (λ (x : ConsState). IsAck n x l) states v y l.sender
        (λ eq. grown_ack n (states v) y l (s.grows.adopted l.ballot.instance) (subst (λ (u : ℕ). IsAck n (states u) l) (sym eq) (inv.acks l h t)))
        (λ ne. inv.acks l h t)
    ack l t (inr new) = set_at-case (λ (x : ConsState). IsAck n x l) states v y l.sender
        (λ eq. (new.ack t).1) (λ ne. absurd (ne (new.ack t).0))

    ann : (i : ℕ) (m : Message) → In (i, m) an ⊎ IsLocked n (facts_of ls' an' i) m → IsLocked n (facts_of ls' an' i) m
    ann i m (inl h) = more_locked n ls ls' an an' s.sub i m (inv.announced i m h)
    ann i m (inr l) = l

    dec : (i : ℕ) (m : Message) → In (i, m) ds ⊎ In (i, m) an' → In (i, m) an'
    dec i m (inl h) = s.sub.announced i m (inv.decided i m h)
    dec i m (inr h) = h
