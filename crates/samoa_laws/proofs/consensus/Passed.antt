-- A decision that stands in a box was passed on there.
use Rattle.std.proofs.Common.{◌≡◌, ◌⊎◌, inl, inr, ℕ, Bool, true, false, not, ◌||◌, nat_lt, List, [], ◌∷◌, refl, sym, ap, ◌∙◌, Option, Some, None, is_some, ◌==◌, if◌then◌else◌}
use Rattle.std.specs.Prelude.{find}
use Rattle.std.proofs.lemmas.Bool.Decides.{eqb_tells}
use Rattle.samoa_serial.specs.Rows.{word, message_at, message_of, with_message}
use Rattle.samoa_serial.specs.State.{Round, ConsState}
use Rattle.samoa_serial.specs.ConsTable as co
use Rattle.samoa_model.specs.declared.handler.Moment.{Moment}
use Rattle.samoa_model.specs.declared.handler.Outcome.{Outcome}
use Rattle.samoa_serial.specs.declared.keys.Ballot.{Ballot}
use Rattle.samoa_serial.specs.declared.message.Message.{Message}
use Rattle.samoa_serial.specs.declared.message.Instance.{Instance}
use Rattle.samoa_serial.specs.declared.message.Letter.{Letter}
use Rattle.samoa_model.specs.declared.setup.Setup.{Setup}
use Rattle.samoa_laws.specs.lists.Lists.{In}
use Rattle.samoa_laws.specs.trace.Boxes.{left_by}
use Rattle.samoa_laws.proofs.broadcasts.Maps.{HasMore, with_message_is}
use Rattle.samoa_laws.specs.consensus.Consensus.{cons_opening, NodeStep, box_of, decided_by, decided, Follows, IsConsensus}
use Rattle.samoa_laws.proofs.trace.Boxes.{in_noted, noted_new}

-- a row leaves the decisions, or adds one and passes it on
data Passing (s : ConsState) (r : ConsState × Outcome) : Type 0 where
  Leaves : r.0.decisions ≡ s.decisions → Passing s r
  Adds : (i : ℕ) (m : Message) → r.0.decisions ≡ with_message s.decisions i m → decided_by r.1 ≡ Some (i, m) → Passing s r

either : (s : ConsState) (b : Bool) {r q : ConsState × Outcome} → Passing s r → Passing s q → Passing s (if b then r else q)
either s true p q = p
either s false p q = q

next_round : (setup : Setup) (s : ConsState) (i : ℕ) (frame : List ℕ) (x : Option Instance) → Passing s (co.cons_next_round setup s i frame x)
next_round setup s i frame None = Leaves refl
next_round setup s i frame (Some x) = Leaves refl

pass : (setup : Setup) (s : ConsState) (q : ℕ) (e : Option (ℕ × Instance)) → Passing s (co.cons_pass setup s q e)
pass setup s q None = Leaves refl
pass setup s q (Some e) = next_round setup s e.0 (1 ∷ q ∷ e.0 ∷ []) (Some e.1)

counted : (setup : Setup) (s : ConsState) (b : Ballot) (sender : ℕ) (r : Option Round) → Passing s (co.cons_counted setup s b sender r)
counted setup s b sender None = Leaves refl
counted setup s b sender (Some r) = Leaves refl

recv : (setup : Setup) (s : ConsState) (l : Letter) → Passing s (co.cons_recv setup s l)
recv setup s l =
    either s (l.tag == 1) (either s (not (co.coordinates setup l.ballot)) (Leaves refl) (Leaves refl))
    (either s (l.tag == 2)
    (either s ((l.ballot.round == 0) || nat_lt l.ballot.round (co.round_of (co.instance_of s.instances l.ballot.instance))) (Leaves refl) (Leaves refl))
    (either s (l.tag == 3)
    (either s (not (co.coordinates setup l.ballot)) (Leaves refl) (counted setup s l.ballot l.sender (co.found_round s.rounds l.ballot)))
    (Leaves refl)))

passing : (setup : Setup) (s : ConsState) (moment : Moment) → Passing s (co.cons_step setup s moment)
passing setup s (Moment.Begin handler arg) =
    either s (handler == 0) (either s (is_some (co.instance_of s.instances (word arg 0))) (Leaves refl) (Leaves refl))
    (either s (handler == 1) (recv setup s (co.letter_at arg))
    (either s (handler == 2)
    (either s (word arg 2 == 1)
    (either s (is_some (message_of s.decisions (word arg 3))) (Leaves refl) (Adds (word arg 3) (message_at arg 4) refl refl)) (Leaves refl))
    (either s (handler == 3)
    (either s (is_some (message_of s.decisions (word arg 0))) (Leaves refl) (next_round setup s (word arg 0) [] (co.instance_of s.instances (word arg 0))))
    (either s (handler == 4) (pass setup s (word arg 0) (find (co.waits_for setup s.decisions (word arg 0) None) s.instances)) (Leaves refl)))))
passing setup s (Moment.Resume handler frame reply) =
    either s (handler == 4)
    (either s (word frame 0 == 1) (pass setup s (word frame 1) (find (co.waits_for setup s.decisions (word frame 1) (Some (word frame 2))) s.instances)) (Leaves refl))
    (Leaves refl)

-- one step: a decision stood before, or is the one that is passed on
stood : (s : ConsState) (r : ConsState × Outcome) → Passing s r → (i : ℕ) (m : Message) → message_of r.0.decisions i ≡ Some m
    → (message_of s.decisions i ≡ Some m) ⊎ (decided_by r.1 ≡ Some (i, m))
stood s r (Leaves e) i m is = inl (ap (λ (ds : List (ℕ × Message)). message_of ds i) (sym e) ∙ is)
stood s r (Adds j x e passed) i m is =
    let more : HasMore s.decisions (with_message s.decisions j x) j x = with_message_is s.decisions j x in
    go (more.new i m (ap (λ (ds : List (ℕ × Message)). message_of ds i) (sym e) ∙ is))
  where
    go : (message_of s.decisions i ≡ Some m) ⊎ ((j ≡ i) × (x ≡ m)) → (message_of s.decisions i ≡ Some m) ⊎ (decided_by r.1 ≡ Some (i, m))
    go (inl old) = inl old
    go (inr new) = inr (passed ∙ (ap (λ (k : ℕ). Some (k, x)) new.0 ∙ ap (λ (y : Message). Some (i, y)) new.1))

pub passed_on : (n : ℕ) (setups : ℕ → Setup) (steps : List (NodeStep ConsState)) → IsConsensus n setups steps → (v i : ℕ) (m : Message)
    → message_of (left_by cons_opening (box_of steps v)).decisions i ≡ Some m → In (i, m) (decided steps)
passed_on n setups [] history v i m is = absurd (cc (is))
passed_on n setups (s ∷ earlier) history v i m is =
    go (eqb_tells s.node v) (λ u before. in_noted (decided earlier) (decided_by s.step.outcome) true (i, m) (passed_on n setups earlier history.1 u i m before))
  where
    f : Follows n setups earlier s
    f = history.0

    here : (message_of s.step.old.decisions i ≡ Some m) ⊎ (decided_by (co.cons_step (setups s.node) s.step.old s.step.moment).1 ≡ Some (i, m))
        → ((u : ℕ) → message_of (left_by cons_opening (box_of earlier u)).decisions i ≡ Some m → In (i, m) (decided (s ∷ earlier))) → In (i, m) (decided (s ∷ earlier))
    here (inl old) ih = ih s.node (ap (λ (x : ConsState). message_of x.decisions i) (sym f.step.old) ∙ old)
    here (inr new) ih = noted_new (decided earlier) (decided_by s.step.outcome) true (i, m) (ap decided_by f.step.outcome ∙ new) refl

    go : ((s.node == v) ≡ true) × (s.node ≡ v) ⊎ ((s.node == v) ≡ false) × (s.node ≡ v → ⊥)
        → ((u : ℕ) → message_of (left_by cons_opening (box_of earlier u)).decisions i ≡ Some m → In (i, m) (decided (s ∷ earlier))) → In (i, m) (decided (s ∷ earlier))
    go (inl at) ih =
        let new : message_of s.step.new.decisions i ≡ Some m =
        ap (λ (b : Bool). message_of (left_by cons_opening (if b then s.step ∷ box_of earlier v else box_of earlier v)).decisions i) (sym at.0) ∙ is in
        here (stood s.step.old (co.cons_step (setups s.node) s.step.old s.step.moment) (passing (setups s.node) s.step.old s.step.moment) i m
        (ap (λ (x : ConsState). message_of x.decisions i) (sym f.step.new) ∙ new)) ih
    go (inr away) ih =
        ih v (ap (λ (b : Bool). message_of (left_by cons_opening (if b then s.step ∷ box_of earlier v else box_of earlier v)).decisions i) (sym away.0) ∙ is)
