-- Each row of the table keeps what holds of all boxes.
use Rattle.std.proofs.Common.{◌≡◌, ℕ, ◌<◌, ◌≤◌, Bool, true, false, not, ◌||◌, nat_lt, nat_le, List, [], ◌∷◌, length, refl, ap, subst, arith, Option, Some, None, is_some, ◌==◌, if◌then◌else◌, eqb-true}
use Rattle.std.specs.Prelude.{⊤, find, unwrap_or}
use Rattle.std.proofs.lemmas.Bool.Decides.{nat_tests}
use Rattle.samoa_serial.specs.Rows.{word, me, up, done, call, message_at, message_words, message_of, with_message}
use Rattle.samoa_serial.specs.State.{Round, ConsState}
use Rattle.samoa_serial.specs.ConsTable.{coordinator, majority, tell, ballot, instance_of, found_round, empty_round, round_at, round_of, cons_propose, cons_proposed, coordinates, with_round, best_of, is_kept, with_estimate, is_to_propose, round_proposes, round_estimated, cons_estimated, with_acknowledged, is_to_announce, round_acknowledged, cons_counted, cons_acknowledged, cons_decide, cons_next_round, cons_advance, waits_for, cons_pass, cons_suspect, letter_at, cons_recv, cons_step, with_instance}
use Rattle.samoa_model.specs.declared.handler.Moment.{Moment}
use Rattle.samoa_model.specs.declared.handler.Outcome.{Outcome}
use Rattle.samoa_serial.specs.declared.keys.Ballot.{Ballot}
use Rattle.samoa_serial.specs.declared.message.Message.{Message}
use Rattle.samoa_serial.specs.declared.message.Instance.{Instance}
use Rattle.samoa_serial.specs.declared.message.Estimate.{Estimate}
use Rattle.samoa_serial.specs.declared.message.Letter.{Letter}
use Rattle.samoa_model.specs.declared.setup.Setup.{Setup}
use Rattle.samoa_laws.proofs.lists.Lists.{in_end, or_false_both}
use Rattle.samoa_laws.specs.lists.Lists.{In}
use Rattle.samoa_laws.specs.trace.Boxes.{noted}
use Rattle.samoa_laws.specs.consensus.Consensus.{letter_by, announced_by, decided_by}
use Rattle.samoa_laws.proofs.consensus.Entries.{found_in}
use Rattle.samoa_serial.proofs.Instances.{rising_finds}
use Rattle.samoa_laws.proofs.consensus.Inv.{letter, IsPut, HasAcked, IsRound, adopted_of, last_round, IsLocal, Inv, set_at}
use Rattle.samoa_laws.proofs.consensus.Keeps.{still_keeps, tell_keeps, adopt_keeps, estimate_round, acknowledged_round, round_keeps, make_keeps, announce_keeps, decide_keeps}
use Rattle.std.proofs.lemmas.Bool.{and_parts}

-- after a step of the box that is set up so, of which r is the result
abbrev pub After : (ℕ → Message → Type 0) → Setup → (ℕ → ConsState) → List Letter → List (ℕ × Message) → List (ℕ × Message) → ConsState × Outcome → Type 0
After Phi setup states ls an ds r =
    Inv Phi setup.nodes (set_at states (me setup) r.0) (noted ls (letter_by (me setup) r.1) true) (noted an (announced_by r.1) true) (noted ds (decided_by r.1) true)

after_if : (Phi : ℕ → Message → Type 0) (setup : Setup) (states : ℕ → ConsState) (ls : List Letter) (an ds : List (ℕ × Message)) (b : Bool) (r q : ConsState × Outcome)
    → (b ≡ true → After Phi setup states ls an ds r) → (b ≡ false → After Phi setup states ls an ds q) → After Phi setup states ls an ds (if b then r else q)
after_if Phi setup states ls an ds true r q first second = first refl
after_if Phi setup states ls an ds false r q first second = second refl

after_round : (Phi : ℕ → Message → Type 0) (setup : Setup) (states : ℕ → ConsState) (ls : List Letter) (an ds : List (ℕ × Message)) (b : Ballot) (t : Bool) (r q : Round × Outcome)
    → (t ≡ true → After Phi setup states ls an ds (with_round (states (me setup)) b r)) → (t ≡ false → After Phi setup states ls an ds (with_round (states (me setup)) b q))
    → After Phi setup states ls an ds (with_round (states (me setup)) b (if t then r else q))
after_round Phi setup states ls an ds b true r q first second = first refl
after_round Phi setup states ls an ds b false r q first second = second refl

nothing : (Phi : ℕ → Message → Type 0) (setup : Setup) (states : ℕ → ConsState) (ls : List Letter) (an ds : List (ℕ × Message)) → Inv Phi setup.nodes states ls an ds
    → After Phi setup states ls an ds (states (me setup), done [])
nothing Phi setup states ls an ds inv = still_keeps Phi setup.nodes states ls an ds (me setup) inv

-- ---- tests
positive : (r : ℕ) → (r == 0) ≡ false → 1 ≤ r
positive r t = grind (arith, nat_tests)

not_false : (a : Bool) → not a ≡ false → a ≡ true
not_false true e = refl
not_false false e = absurd (cc)

not_true : (a : Bool) → not a ≡ true → a ≡ false
not_true true e = absurd (cc)
not_true false e = refl

not_some : (o : Option Message) → not (is_some o) ≡ true → o ≡ None
not_some None e = refl
not_some (Some m) e = absurd (cc)

at_most : (a b : ℕ) → nat_lt a b ≡ false → b ≤ a
at_most a b t = grind (arith, nat_tests)

at_least : (a b : ℕ) → nat_le a b ≡ true → a ≤ b
at_least a b t = grind (arith, nat_tests)

-- ---- the rows
row_propose : (Phi : ℕ → Message → Type 0) (setup : Setup) (states : ℕ → ConsState) (ls : List Letter) (an ds : List (ℕ × Message)) → Inv Phi setup.nodes states ls an ds → me setup < setup.nodes
    → (i : ℕ) (m : Message) → Phi i m → After Phi setup states ls an ds (cons_propose setup (states (me setup)) i m)
row_propose Phi setup states ls an ds inv lt i m phi = go (instance_of s.instances i) refl
  where
    s : ConsState
    s = states (me setup)

    x : Instance
    x = record { round = 1; estimate = m; adopted = 0 }

    go : (o : Option Instance) → instance_of s.instances i ≡ o
        → After Phi setup states ls an ds (if is_some o then (s, done []) else (with_instance s i x, tell setup (coordinator setup 1) 1 (ballot i 1) 0 m []))
    go None e =
        let round : round_of (instance_of s.instances i) ≡ 0 = ap round_of e in
        let adopted : adopted_of (instance_of s.instances i) ≡ 0 = ap adopted_of e in
        tell_keeps Phi setup.nodes states ls an ds (me setup) inv lt i x (omega arith) (omega arith) (omega arith) (omega arith) (λ h. absurd (none h)) phi (omega arith)
      where
        none : 1 ≤ 0 → ⊥
        none h = omega arith
    go (Some y) e = nothing Phi setup states ls an ds inv

row_next : (Phi : ℕ → Message → Type 0) (setup : Setup) (states : ℕ → ConsState) (ls : List Letter) (an ds : List (ℕ × Message)) → Inv Phi setup.nodes states ls an ds → me setup < setup.nodes
    → (i : ℕ) (frame : List ℕ) (o : Option Instance) → instance_of (states (me setup)).instances i ≡ o
    → After Phi setup states ls an ds (cons_next_round setup (states (me setup)) i frame o)
row_next Phi setup states ls an ds inv lt i frame None e = nothing Phi setup states ls an ds inv
row_next Phi setup states ls an ds inv lt i frame (Some x) e =
    tell_keeps Phi setup.nodes states ls an ds (me setup) inv lt i (record x { round = up x.round })
    (grows (ap round_of e) (old.ends i x e)) (same (ap adopted_of e)) (least x.round) (lags (old.lags i x e) (old.ends i x e))
    (old.took i x e) (old.valid i x e) (ends x.round)
  where
    old : IsLocal Phi ls an (states (me setup))
    old = inv.locals (me setup)

    grows : round_of (instance_of (states (me setup)).instances i) ≡ x.round → x.round ≤ last_round → round_of (instance_of (states (me setup)).instances i) ≤ up x.round
    grows f le = omega arith

    same : adopted_of (instance_of (states (me setup)).instances i) ≡ x.adopted → adopted_of (instance_of (states (me setup)).instances i) ≤ x.adopted
    same f = omega arith

    least : (r : ℕ) → 1 ≤ up r
    least r = omega arith

    lags : x.adopted ≤ x.round → x.round ≤ last_round → x.adopted ≤ up x.round
    lags le end = omega arith

    ends : (r : ℕ) → up r ≤ last_round
    ends r = omega arith

row_advance : (Phi : ℕ → Message → Type 0) (setup : Setup) (states : ℕ → ConsState) (ls : List Letter) (an ds : List (ℕ × Message)) → Inv Phi setup.nodes states ls an ds → me setup < setup.nodes
    → (i : ℕ) → After Phi setup states ls an ds (cons_advance setup (states (me setup)) i)
row_advance Phi setup states ls an ds inv lt i =
    after_if Phi setup states ls an ds (is_some (message_of s.decisions i)) (s, done []) (cons_next_round setup s i [] (instance_of s.instances i))
    (λ t. nothing Phi setup states ls an ds inv) (λ t. row_next Phi setup states ls an ds inv lt i [] (instance_of s.instances i) refl)
  where
    s : ConsState
    s = states (me setup)

row_suspect : (Phi : ℕ → Message → Type 0) (setup : Setup) (states : ℕ → ConsState) (ls : List Letter) (an ds : List (ℕ × Message)) → Inv Phi setup.nodes states ls an ds → me setup < setup.nodes
    → (q : ℕ) (x : Option ℕ) → After Phi setup states ls an ds (cons_suspect setup (states (me setup)) q x)
row_suspect Phi setup states ls an ds inv lt q x = go (find (waits_for setup s.decisions q x) s.instances) refl
  where
    s : ConsState
    s = states (me setup)

    go : (o : Option (ℕ × Instance)) → find (waits_for setup s.decisions q x) s.instances ≡ o → After Phi setup states ls an ds (cons_pass setup s q o)
    go None f = nothing Phi setup states ls an ds inv
    go (Some e) f =
        row_next Phi setup states ls an ds inv lt e.0 (1 ∷ q ∷ e.0 ∷ []) (Some e.1)
        (rising_finds s.instances e (inv.locals (me setup)).rising (found_in (waits_for setup s.decisions q x) s.instances e f))

row_proposed : (Phi : ℕ → Message → Type 0) (setup : Setup) (states : ℕ → ConsState) (ls : List Letter) (an ds : List (ℕ × Message)) → Inv Phi setup.nodes states ls an ds → me setup < setup.nodes
    → (b : Ballot) (m : Message) → IsPut ls b m → After Phi setup states ls an ds (cons_proposed setup (states (me setup)) b m)
row_proposed Phi setup states ls an ds inv lt b m put =
    after_if Phi setup states ls an ds (b.round == 0 || nat_lt b.round (round_of (instance_of s.instances b.instance))) (s, done [])
    (with_instance s b.instance (record { round = b.round; estimate = m; adopted = b.round }), tell setup (coordinator setup b.round) 3 b 0 m [])
    (λ t. nothing Phi setup states ls an ds inv)
    (λ t. let both = or_false_both (b.round == 0) (nat_lt b.round (round_of (instance_of s.instances b.instance))) t in
    adopt_keeps Phi setup.nodes states ls an ds (me setup) inv lt b m put (positive b.round both.0) (at_most b.round (round_of (instance_of s.instances b.instance)) both.1))
  where
    s : ConsState
    s = states (me setup)

record Coordinates (setup : Setup) (b : Ballot) : Type 0 where
  positive : 1 ≤ b.round
  is_me : coordinator setup b.round ≡ me setup

coordinates_it : (setup : Setup) (b : Ballot) → not (coordinates setup b) ≡ false → Coordinates setup b
coordinates_it setup b t =
    let both = and_parts (not (b.round == 0)) (coordinator setup b.round == me setup) (not_false (coordinates setup b) t) in
    record { positive = positive b.round (not_true (b.round == 0) both.0); is_me = eqb-true (coordinator setup b.round) (me setup) both.1 }

row_estimated : (Phi : ℕ → Message → Type 0) (setup : Setup) (states : ℕ → ConsState) (ls : List Letter) (an ds : List (ℕ × Message)) → Inv Phi setup.nodes states ls an ds
    → (b : Ballot) (e : Estimate) → In (letter e.sender 1 b e.adopted e.message) ls → After Phi setup states ls an ds (cons_estimated setup (states (me setup)) b e)
row_estimated Phi setup states ls an ds inv b e told =
    after_if Phi setup states ls an ds (not (coordinates setup b)) (s, done []) (with_round s b (round_estimated setup b e old))
    (λ t. nothing Phi setup states ls an ds inv)
    (λ t. after_round Phi setup states ls an ds b (is_kept old.estimates e.sender) (old, done []) (round_proposes setup b e r)
    (λ u. round_keeps Phi setup.nodes states ls an ds (me setup) b old inv (λ m f. f) is_round)
    (λ u. kept (coordinates_it setup b t) (estimate_round ls b old e is_round told u)))
  where
    s : ConsState
    s = states (me setup)

    old : Round
    old = round_at s.rounds b

    r : Round
    r = with_estimate old e

    is_round : IsRound ls b old
    is_round = (inv.locals (me setup)).rounds b

    kept : Coordinates setup b → IsRound ls b r → After Phi setup states ls an ds (with_round s b (round_proposes setup b e r))
    kept mine round =
        after_round Phi setup states ls an ds b (is_to_propose setup r)
        (record r { proposal = Some (best_of e r.estimates).message }, tell setup setup.nodes 2 b 0 (best_of e r.estimates).message [])
        (r, done [])
        (λ u. let both = and_parts (nat_le (majority setup) (length r.estimates)) (not (is_some r.proposal)) u in
        make_keeps Phi setup.nodes states ls an ds (me setup) b e r inv mine.is_me mine.positive (not_some r.proposal both.1) round (in_end old.estimates e)
        (at_least (majority setup) (length r.estimates) both.0))
        (λ u. round_keeps Phi setup.nodes states ls an ds (me setup) b r inv (λ m f. f) round)

row_acknowledged : (Phi : ℕ → Message → Type 0) (setup : Setup) (states : ℕ → ConsState) (ls : List Letter) (an ds : List (ℕ × Message)) → Inv Phi setup.nodes states ls an ds
    → (b : Ballot) (sender : ℕ) → HasAcked ls b sender → After Phi setup states ls an ds (cons_acknowledged setup (states (me setup)) b sender)
row_acknowledged Phi setup states ls an ds inv b sender told =
    after_if Phi setup states ls an ds (not (coordinates setup b)) (s, done []) (cons_counted setup s b sender (found_round s.rounds b))
    (λ t. nothing Phi setup states ls an ds inv) (λ t. by (coordinates_it setup b t) (found_round s.rounds b) refl)
  where
    s : ConsState
    s = states (me setup)

    at : (o : Option Round) → Round
    at o = unwrap_or o empty_round

    announced : Coordinates setup b → (r : Round) → found_round s.rounds b ≡ Some r → (o : Option Message) → r.proposal ≡ o
        → After Phi setup states ls an ds (with_round s b (round_acknowledged setup b sender r o))
    announced mine r f None g =
        round_keeps Phi setup.nodes states ls an ds (me setup) b r inv (λ k h. subst (λ (x : Round). x.proposal ≡ Some k) (ap at f) h)
        (subst (IsRound ls b) (ap at f) ((inv.locals (me setup)).rounds b))
    announced mine r f (Some m) g =
        after_round Phi setup states ls an ds b (is_to_announce setup new) (record new { announced = true }, call setup 1 (1 ∷ b.instance ∷ message_words m) []) (new, done [])
        (λ u. announce_keeps Phi setup.nodes states ls an ds (me setup) b m new inv mine.positive stays g round
        (at_least (majority setup) (length new.acknowledged) (and_parts (nat_le (majority setup) (length new.acknowledged)) (not new.announced) u).0))
        (λ u. round_keeps Phi setup.nodes states ls an ds (me setup) b new inv stays round)
      where
        new : Round
        new = with_acknowledged r sender

        stays : (k : Message) → (round_at s.rounds b).proposal ≡ Some k → new.proposal ≡ Some k
        stays k h = subst (λ (x : Round). x.proposal ≡ Some k) (ap at f) h

        round : IsRound ls b new
        round = acknowledged_round ls b r sender (subst (IsRound ls b) (ap at f) ((inv.locals (me setup)).rounds b)) told

    by : Coordinates setup b → (o : Option Round) → found_round s.rounds b ≡ o → After Phi setup states ls an ds (cons_counted setup s b sender o)
    by mine None f = nothing Phi setup states ls an ds inv
    by mine (Some r) f = announced mine r f r.proposal refl

row_decide : (Phi : ℕ → Message → Type 0) (setup : Setup) (states : ℕ → ConsState) (ls : List Letter) (an ds : List (ℕ × Message)) → Inv Phi setup.nodes states ls an ds
    → (i : ℕ) (m : Message) → In (i, m) an → After Phi setup states ls an ds (cons_decide setup (states (me setup)) i m)
row_decide Phi setup states ls an ds inv i m told =
    after_if Phi setup states ls an ds (is_some (message_of s.decisions i)) (s, done []) (record s { decisions = with_message s.decisions i m }, call setup 2 (i ∷ message_words m) [])
    (λ t. nothing Phi setup states ls an ds inv)
    (λ t. decide_keeps Phi setup.nodes states ls an ds (me setup) i m inv told)
  where
    s : ConsState
    s = states (me setup)

row_recv : (Phi : ℕ → Message → Type 0) (setup : Setup) (states : ℕ → ConsState) (ls : List Letter) (an ds : List (ℕ × Message)) → Inv Phi setup.nodes states ls an ds → me setup < setup.nodes
    → (l : Letter) → In l ls → After Phi setup states ls an ds (cons_recv setup (states (me setup)) l)
row_recv Phi setup states ls an ds inv lt l told =
    after_if Phi setup states ls an ds (l.tag == 1) (cons_estimated setup s l.ballot (record { sender = l.sender; adopted = l.adopted; message = l.message })) _
    (λ t. row_estimated Phi setup states ls an ds inv l.ballot (record { sender = l.sender; adopted = l.adopted; message = l.message }) (is 1 (eqb-true l.tag 1 t)))
    (λ t. after_if Phi setup states ls an ds (l.tag == 2) (cons_proposed setup s l.ballot l.message) _
    (λ u. row_proposed Phi setup states ls an ds inv lt l.ballot l.message (l.sender, l.adopted, is 2 (eqb-true l.tag 2 u)))
    (λ u. after_if Phi setup states ls an ds (l.tag == 3) (cons_acknowledged setup s l.ballot l.sender) (s, done [])
    (λ w. row_acknowledged Phi setup states ls an ds inv l.ballot l.sender (l.adopted, l.message, is 3 (eqb-true l.tag 3 w)))
    (λ w. nothing Phi setup states ls an ds inv)))
  where
    s : ConsState
    s = states (me setup)

    is : (tag : ℕ) → l.tag ≡ tag → In (letter l.sender tag l.ballot l.adopted l.message) ls
    is tag e = subst (λ (t : ℕ). In (letter l.sender t l.ballot l.adopted l.message) ls) e told

-- what may come
abbrev pub May : (ℕ → Message → Type 0) → List Letter → List (ℕ × Message) → Moment → Type 0
May Phi ls an (Moment.Begin handler arg) =
    (handler ≡ 0 → Phi (word arg 0) (message_at arg 1))
    × (handler ≡ 1 → In (letter_at arg) ls)
    × (handler ≡ 2 → word arg 2 ≡ 1 → In (word arg 3, message_at arg 4) an)
May Phi ls an (Moment.Resume handler frame reply) = ⊤

pub step_keeps : (Phi : ℕ → Message → Type 0) (setup : Setup) (states : ℕ → ConsState) (ls : List Letter) (an ds : List (ℕ × Message)) → Inv Phi setup.nodes states ls an ds → me setup < setup.nodes
    → (moment : Moment) → May Phi ls an moment → After Phi setup states ls an ds (cons_step setup (states (me setup)) moment)
step_keeps Phi setup states ls an ds inv lt (Moment.Begin handler arg) may =
    after_if Phi setup states ls an ds (handler == 0) (cons_propose setup s (word arg 0) (message_at arg 1)) _
    (λ t. row_propose Phi setup states ls an ds inv lt (word arg 0) (message_at arg 1) (may.0 (eqb-true handler 0 t)))
    (λ t. after_if Phi setup states ls an ds (handler == 1) (cons_recv setup s (letter_at arg)) _
    (λ u. row_recv Phi setup states ls an ds inv lt (letter_at arg) (may.1 (eqb-true handler 1 u)))
    (λ u. after_if Phi setup states ls an ds (handler == 2) (if word arg 2 == 1 then cons_decide setup s (word arg 3) (message_at arg 4) else (s, done [])) _
    (λ w. after_if Phi setup states ls an ds (word arg 2 == 1) (cons_decide setup s (word arg 3) (message_at arg 4)) (s, done [])
    (λ x. row_decide Phi setup states ls an ds inv (word arg 3) (message_at arg 4) (may.2 (eqb-true handler 2 w) (eqb-true (word arg 2) 1 x)))
    (λ x. nothing Phi setup states ls an ds inv))
    (λ w. after_if Phi setup states ls an ds (handler == 3) (cons_advance setup s (word arg 0)) _
    (λ x. row_advance Phi setup states ls an ds inv lt (word arg 0))
    (λ x. after_if Phi setup states ls an ds (handler == 4) (cons_suspect setup s (word arg 0) None) (s, done [])
    (λ y. row_suspect Phi setup states ls an ds inv lt (word arg 0) None)
    (λ y. nothing Phi setup states ls an ds inv)))))
  where
    s : ConsState
    s = states (me setup)
step_keeps Phi setup states ls an ds inv lt (Moment.Resume handler frame reply) may =
    after_if Phi setup states ls an ds (handler == 4) (if word frame 0 == 1 then cons_suspect setup s (word frame 1) (Some (word frame 2)) else (s, done [])) (s, done [])
    (λ t. after_if Phi setup states ls an ds (word frame 0 == 1) (cons_suspect setup s (word frame 1) (Some (word frame 2))) (s, done [])
    (λ u. row_suspect Phi setup states ls an ds inv lt (word frame 1) (Some (word frame 2)))
    (λ u. nothing Phi setup states ls an ds inv))
    (λ t. nothing Phi setup states ls an ds inv)
  where
    s : ConsState
    s = states (me setup)
