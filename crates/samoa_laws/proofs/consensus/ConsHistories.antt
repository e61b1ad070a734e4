-- What holds after every history of consensus, and the laws.
use Rattle.std.proofs.Common.{◌≡◌, inl, inr, ℕ, ◌<◌, Bool, true, false, List, [], ◌∷◌, refl, sym, ap, ◌∙◌, subst, Some, ◌==◌, if◌then◌else◌}
use Rattle.samoa_serial.specs.Rows.{word, me, message_at, message_of}
use Rattle.samoa_serial.specs.State.{ConsState}
use Rattle.samoa_serial.specs.ConsTable.{ballot, cons_step}
use Rattle.samoa_model.specs.declared.handler.Moment.{Moment}
use Rattle.samoa_model.specs.declared.handler.Outcome.{Outcome}
use Rattle.samoa_serial.specs.declared.message.Message.{Message}
use Rattle.samoa_serial.specs.declared.message.Letter.{Letter}
use Rattle.samoa_model.specs.declared.setup.Setup.{Setup}
use Rattle.samoa_laws.specs.lists.Lists.{In}
use Rattle.samoa_laws.specs.trace.Boxes.{left_by, noted}
use Rattle.samoa_laws.proofs.broadcasts.Maps.{message_of_in, in_message_of}
use Rattle.samoa_laws.specs.consensus.Consensus.{cons_opening, NodeStep, box_of, letter_by, announced_by, decided_by, letters, announced, decided, ConsMay, Follows, IsConsensus, IsSetUp, decision_of, WasProposed}
use Rattle.samoa_laws.proofs.consensus.Majorities.{distinct_none}
use Rattle.samoa_laws.proofs.consensus.Locked.{Backing, IsLocked, announced_agree}
use Rattle.samoa_laws.proofs.consensus.Inv.{letter, facts_of, Inv, set_at, safe}
use Rattle.samoa_laws.proofs.consensus.Rows.{May, step_keeps}

-- the state that each node's last step left
abbrev pub states_of : List (NodeStep ConsState) → (ℕ → ConsState)
states_of steps = λ u. left_by cons_opening (box_of steps u)

abbrev Stands : (ℕ → Message → Type 0) → ℕ → List (NodeStep ConsState) → Type 0
Stands Phi n steps = Inv Phi n (states_of steps) (letters steps) (announced steps) (decided steps)

first_stands : (Phi : ℕ → Message → Type 0) (n : ℕ) → Stands Phi n []
first_stands Phi n = record {
  locals = λ u. record {
    lags = λ i x e. absurd (cc (e));
    took = λ i x e. absurd (cc (e));
    valid = λ i x e. absurd (cc (e));
    rounds = λ b. record { kept = λ e h. absurd h; apart = distinct_none; made = λ m e. absurd (cc (e)); acked = λ v h. absurd h; ackers = distinct_none };
    decided = λ i m e. absurd (cc (e));
    rising = tt;
    ends = λ i x e. absurd (cc (e));
  };
  estimates = λ l h. absurd h;
  proposals = λ l h. absurd h;
  acks = λ l h. absurd h;
  later = λ a e h. absurd h;
  announced = λ i m h. absurd h;
  decided = λ i m h. absurd h;
}

states_set : (s : NodeStep ConsState) (earlier : List (NodeStep ConsState)) → set_at (states_of earlier) s.node s.step.new ≡ states_of (s ∷ earlier)
states_set s earlier = λ k u. pointwise u k
  where
    pointwise : (u : ℕ) → set_at (states_of earlier) s.node s.step.new u ≡ states_of (s ∷ earlier) u
    pointwise u = go (s.node == u)
      where
        go : (b : Bool) → (if b then s.step.new else left_by cons_opening (box_of earlier u))
            ≡ left_by cons_opening (if b then s.step ∷ box_of earlier u else box_of earlier u)
        go true = refl
        go false = refl

-- a step of the box of node v, of n
at_node : (Phi : ℕ → Message → Type 0) (setup : Setup) (states : ℕ → ConsState) (ls : List Letter) (an ds : List (ℕ × Message)) (moment : Moment) (v n : ℕ)
    → me setup ≡ v → setup.nodes ≡ n → Inv Phi n states ls an ds → v < n → May Phi ls an moment
    → Inv Phi n (set_at states v (cons_step setup (states v) moment).0) (noted ls (letter_by v (cons_step setup (states v) moment).1) true)
    (noted an (announced_by (cons_step setup (states v) moment).1) true) (noted ds (decided_by (cons_step setup (states v) moment).1) true)
at_node Phi setup states ls an ds moment v n is_me is_n =
    subst (λ (u : ℕ). At u n) is_me (subst (λ (k : ℕ). At (me setup) k) is_n (λ inv lt may. step_keeps Phi setup states ls an ds inv lt moment may))
  where
    At : ℕ → ℕ → Type 0
    At u k = Inv Phi k states ls an ds → u < k → May Phi ls an moment
        → Inv Phi k (set_at states u (cons_step setup (states u) moment).0) (noted ls (letter_by u (cons_step setup (states u) moment).1) true)
        (noted an (announced_by (cons_step setup (states u) moment).1) true) (noted ds (decided_by (cons_step setup (states u) moment).1) true)

-- what these steps propose is valid
abbrev AreValid : (ℕ → Message → Type 0) → List (NodeStep ConsState) → Type 0
AreValid Phi steps =
    (s : NodeStep ConsState) → In s steps → (arg : List ℕ) → s.step.moment ≡ Moment.Begin 0 arg → Phi (word arg 0) (message_at arg 1)

may : (Phi : ℕ → Message → Type 0) (earlier : List (NodeStep ConsState)) (moment : Moment) → ConsMay earlier moment
    → ((arg : List ℕ) → moment ≡ Moment.Begin 0 arg → Phi (word arg 0) (message_at arg 1)) → May Phi (letters earlier) (announced earlier) moment
may Phi earlier (Moment.Begin handler arg) comes valid = ((λ t. valid arg (ap (λ (h : ℕ). Moment.Begin h arg) t)), comes.0, comes.1)
may Phi earlier (Moment.Resume handler frame reply) comes valid = tt

pub stands : (Phi : ℕ → Message → Type 0) (n : ℕ) (setups : ℕ → Setup) → IsSetUp n setups → (steps : List (NodeStep ConsState)) → IsConsensus n setups steps
    → AreValid Phi steps → Stands Phi n steps
stands Phi n setups group [] history valid = first_stands Phi n
stands Phi n setups group (s ∷ earlier) history valid =
    go history.0 (stands Phi n setups group earlier history.1 (λ t at. valid t (inr at)))
  where
    Result : ConsState → Outcome → Type 0
    Result new outcome = Inv Phi n (set_at (states_of earlier) s.node new) (noted (letters earlier) (letter_by s.node outcome) true)
        (noted (announced earlier) (announced_by outcome) true) (noted (decided earlier) (decided_by outcome) true)

    go : Follows n setups earlier s → Stands Phi n earlier → Stands Phi n (s ∷ earlier)
    go f ih =
        let is = group s.node f.node in
        let setup = setups s.node in
        let after : Result (cons_step (setups s.node) (states_of earlier s.node) s.step.moment).0 (cons_step (setups s.node) (states_of earlier s.node) s.step.moment).1 =
        at_node Phi setup (states_of earlier) (letters earlier) (announced earlier) (decided earlier) s.step.moment s.node n is.0 is.1 ih f.node
        (may Phi earlier s.step.moment f.comes (valid s (inl refl))) in
        let new : s.step.new ≡ (cons_step (setups s.node) (states_of earlier s.node) s.step.moment).0 =
        f.step.new ∙ ap (λ (x : ConsState). (cons_step (setups s.node) x s.step.moment).0) f.step.old in
        let outcome : s.step.outcome ≡ (cons_step (setups s.node) (states_of earlier s.node) s.step.moment).1 =
        f.step.outcome ∙ ap (λ (x : ConsState). (cons_step (setups s.node) x s.step.moment).1) f.step.old in
        subst (λ (x : ℕ → ConsState). Inv Phi n x (letters (s ∷ earlier)) (announced (s ∷ earlier)) (decided (s ∷ earlier))) (states_set s earlier)
        (subst (λ (x : ConsState). Result x s.step.outcome) (sym new)
        (subst (λ (o : Outcome). Result (cons_step (setups s.node) (states_of earlier s.node) s.step.moment).0 o) (sym outcome) after))

proposed_stands : (n : ℕ) (setups : ℕ → Setup) → IsSetUp n setups → (steps : List (NodeStep ConsState)) → IsConsensus n setups steps → Stands (WasProposed steps) n steps
proposed_stands n setups group steps history = stands (WasProposed steps) n setups group steps history (λ s at arg e. (s, arg, at, e, refl, refl))

-- ---- the laws
agreed : (n : ℕ) (setups : ℕ → Setup) → IsSetUp n setups → (steps : List (NodeStep ConsState)) → IsConsensus n setups steps
    → (i : ℕ) (m other : Message) → In (i, m) (announced steps) → In (i, other) (announced steps) → m ≡ other
agreed n setups group steps history i m other a b =
    let inv : Stands (WasProposed steps) n steps = proposed_stands n setups group steps history in
    announced_agree n (facts_of (letters steps) (announced steps) i)
    (safe (WasProposed steps) n (states_of steps) (letters steps) (announced steps) (decided steps) inv i) m other a b

pub agreement : (n : ℕ) (setups : ℕ → Setup) (steps : List (NodeStep ConsState)) → IsSetUp n setups → IsConsensus n setups steps
    → (i : ℕ) (m other : Message) → In (i, m) (decided steps) → In (i, other) (decided steps) → m ≡ other
agreement n setups steps group history i m other a b =
    let inv : Stands (WasProposed steps) n steps = proposed_stands n setups group steps history in
    agreed n setups group steps history i m other (inv.decided i m a) (inv.decided i other b)

-- the decisions are a function of the instance
pub is_decision : (n : ℕ) (setups : ℕ → Setup) (steps : List (NodeStep ConsState)) → IsSetUp n setups → IsConsensus n setups steps
    → (i : ℕ) (m : Message) → In (i, m) (decided steps) → decision_of steps i ≡ Some m
is_decision n setups steps group history i m a =
    let found = in_message_of (decided steps) i m a in
    found.1 ∙ ap (λ (x : Message). Some x) (agreement n setups steps group history i found.0 m (message_of_in (decided steps) i found.0 found.1) a)

-- the decisions that stand at two nodes
pub standing : (n : ℕ) (setups : ℕ → Setup) (steps : List (NodeStep ConsState)) → IsSetUp n setups → IsConsensus n setups steps
    → (i v u : ℕ) (m other : Message) → message_of (states_of steps v).decisions i ≡ Some m → message_of (states_of steps u).decisions i ≡ Some other → m ≡ other
standing n setups steps group history i v u m other a b =
    let inv : Stands (WasProposed steps) n steps = proposed_stands n setups group steps history in
    agreed n setups group steps history i m other ((inv.locals v).decided i m a) ((inv.locals u).decided i other b)

-- what is decided was proposed to that instance
pub validity : (n : ℕ) (setups : ℕ → Setup) (steps : List (NodeStep ConsState)) → IsSetUp n setups → IsConsensus n setups steps
    → (i : ℕ) (m : Message) → In (i, m) (decided steps) → WasProposed steps i m
validity n setups steps group history i m a =
    let inv : Stands (WasProposed steps) n steps = proposed_stands n setups group steps history in
    let l : IsLocked n (facts_of (letters steps) (announced steps) i) m = inv.announced i m (inv.decided i m a) in
    let b : Backing n (facts_of (letters steps) (announced steps) i) (record { round = l.round; message = m }) =
    (inv.proposals (letter l.proposed.0 2 (ballot i l.round) l.proposed.1 m) l.proposed.2 refl).backed in
    subst (WasProposed steps i) b.same
    (inv.estimates (letter b.best.sender 1 (ballot i l.round) b.best.adopted b.best.message) (b.told b.best b.chosen) refl).valid
