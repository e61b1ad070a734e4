-- What the tables of the kinds send and ask for, row by row: only the link sends, the event of its first port, and only the
-- replacement asks, for one of its changes.
use Rattle.std.proofs.Common.{◌≡◌, refl, ℕ, ◌+◌, ◌<◌, ◌==◌, Bool, true, false, not, ◌&&◌, ◌||◌, if◌then◌else◌, List, [], ◌∷◌, ◌++◌, length, Option, Some, None, arith}
use Rattle.std.specs.Prelude.{nat_lt, find, filter, is_some}
use Rattle.std.proofs.lemmas.Bool.{ltb-true}
use Rattle.std.proofs.lemmas.Grind.{common_steps}
use Rattle.samoa_model.specs.declared.handler.Moment.{Moment}
use Rattle.samoa_model.specs.declared.handler.Outcome.{Outcome}
use Rattle.samoa_model.specs.declared.setup.Setup.{Setup}
use Rattle.samoa_serial.specs.declared.keys.Ballot.{Ballot}
use Rattle.samoa_serial.specs.declared.message.Estimate.{Estimate}
use Rattle.samoa_serial.specs.declared.message.Instance.{Instance}
use Rattle.samoa_serial.specs.declared.message.Letter.{Letter}
use Rattle.samoa_serial.specs.declared.message.Message.{Message}
use Rattle.samoa_serial.specs.declared.message.Own.{Own}
use Rattle.samoa_serial.specs.declared.message.Watch.{Watch}
use Rattle.samoa_serial.specs.Rows.{V, call, change, change_at_place, deliver, dest_of, done, has_key, has_pair, me, message_at, message_key, message_of, port_at, up, with_message, word}
use Rattle.samoa_serial.specs.State.{AbcastState, ConsState, LinkState, RbcastState, ReplState, Round, SeqcastState, ViewsState}
use Rattle.samoa_serial.specs.AbcastTable as ab
use Rattle.samoa_serial.specs.ConsTable as co
use Rattle.samoa_serial.specs.FdTable as fd
use Rattle.samoa_serial.specs.LinkTable as li
use Rattle.samoa_serial.specs.RbcastTable as rb
use Rattle.samoa_serial.specs.ReplTable as re
use Rattle.samoa_serial.specs.SeqcastTable as sq
use Rattle.samoa_serial.specs.ViewsTable as vi

-- P holds of what every kind does: it is done, calls the event of a port, or delivers
pub record Plain (P : Outcome → Type 0) (setup : Setup) : Type 0 where
  pub is_done : (words : List ℕ) → P (Outcome.Done words)
  pub calls : (port : ℕ) (arg frame : List ℕ) → P (Outcome.Call (port_at setup port) arg frame)
  pub delivers : (arg frame : List ℕ) → P (Outcome.Deliver arg frame)

-- P holds of what a link sends
abbrev pub Sends : (Outcome → Type 0) → Setup → Type 0
Sends P setup = (to : ℕ) (arg frame : List ℕ) → P (Outcome.Send (dest_of setup to) (port_at setup 0) arg frame)

-- P holds of the changes that a replacement asks for
abbrev pub AsksFor : (Outcome → Type 0) → Setup → Type 0
AsksFor P setup = (place : ℕ) (arg frame : List ℕ) → place < length setup.changes → P (Outcome.Change (change_at_place setup place) arg frame)

-- P holds of the outcome of a row
pub record Row {S : Type 0} (P : Outcome → Type 0) (r : S × Outcome) : Type 0 where
  pub holds : P r.1

pub either : {S : Type 0} (P : Outcome → Type 0) (b : Bool) {x y : S × Outcome} → Row P x → Row P y → Row P (if b then x else y)
either P true p q = p
either P false p q = q

pub either_outcome : (P : Outcome → Type 0) (b : Bool) {x y : Outcome} → P x → P y → P (if b then x else y)
either_outcome P true p q = p
either_outcome P false p q = q

rests : {S : Type 0} (P : Outcome → Type 0) (setup : Setup) → Plain P setup → (s : S) (words : List ℕ) → Row P (s, done words)
rests P setup plain s words = record { holds = plain.is_done _ }

calling : {S : Type 0} (P : Outcome → Type 0) (setup : Setup) → Plain P setup → (s : S) (port : ℕ) (arg frame : List ℕ) → Row P (s, call setup port arg frame)
calling P setup plain s port arg frame = record { holds = plain.calls port _ _ }

-- the link
pub link-row : (P : Outcome → Type 0) (setup : Setup) → Plain P setup → Sends P setup → (s : LinkState) (m : Moment) → Row P (li.link_step setup s m)
link-row P setup plain sends s (Moment.Begin handler arg) =
    either P (handler == 0) (record { holds = sends (word arg 0) _ _ })
    (either P (handler == 1)
    (record { holds = either_outcome P (nat_lt (word arg 1 + 1) (length setup.ports)) (plain.calls (word arg 1 + 1) _ _) (plain.is_done _) })
    (rests P setup plain s []))
link-row P setup plain sends s (Moment.Resume handler frame reply) = rests P setup plain s []

-- the failure detector
fd-suspect : (P : Outcome → Type 0) (setup : Setup) → Plain P setup → (s : List Watch) (x : Option ℕ) → Row P (fd.fd_suspect setup s x)
fd-suspect P setup plain s None = record { holds = plain.is_done _ }
fd-suspect P setup plain s (Some x) = record { holds = plain.calls 1 _ _ }

pub fd-row : (P : Outcome → Type 0) (setup : Setup) → Plain P setup → (s : List Watch) (m : Moment) → Row P (fd.fd_step setup s m)
fd-row P setup plain s (Moment.Begin handler arg) =
    either P (handler == 0) (record { holds = plain.calls 0 _ _ }) (either P (handler == 1) (record { holds = plain.is_done _ }) (rests P setup plain s []))
fd-row P setup plain s (Moment.Resume handler frame reply) =
    either P (handler == 0) (fd-suspect P setup plain s (fd.fd_due setup (word frame 0) 0 s)) (rests P setup plain s [])

-- the views
pub views-row : (P : Outcome → Type 0) (setup : Setup) → Plain P setup → (s : ViewsState) (m : Moment) → Row P (vi.views_step setup s m)
views-row P setup plain s (Moment.Begin handler arg) =
    either P (handler == 0) (record { holds = plain.calls 0 _ _ }) (either P (handler == 1) (record { holds = plain.is_done _ }) (rests P setup plain s []))
views-row P setup plain s (Moment.Resume handler frame reply) = rests P setup plain s []

-- reliable broadcast
pub rbcast-row : (P : Outcome → Type 0) (setup : Setup) → Plain P setup → (s : RbcastState) (m : Moment) → Row P (rb.rbcast_step setup s m)
rbcast-row P setup plain s (Moment.Begin handler arg) =
    either P (handler == 0) (record { holds = plain.calls 0 _ _ })
    (either P (handler == 1)
    (either P (has_pair s.seen (record { origin = word arg 1; number = word arg 2 })) (rests P setup plain s []) (record { holds = plain.calls 0 _ _ }))
    (rests P setup plain s []))
rbcast-row P setup plain s (Moment.Resume handler frame reply) =
    either P (handler == 0)
    (record { holds = either_outcome P (word frame 0 == 1) (plain.calls 1 _ _) (either_outcome P (word frame 0 == 2) (plain.is_done _) (plain.is_done _)) })
    (either P (handler == 1) (record { holds = either_outcome P (word frame 0 == 1) (plain.calls 1 _ _) (plain.is_done _) }) (rests P setup plain s []))

-- the sequencer
seqcast-drain : (P : Outcome → Type 0) (setup : Setup) → Plain P setup → (s : SeqcastState) → Row P (sq.seqcast_drain setup s)
seqcast-drain P setup plain s = record { holds = go (message_of s.got s.next) }
  where
    go : (m : Option Message) → P (sq.seqcast_hand_on setup s.next m)
    go None = plain.is_done _
    go (Some m) = plain.calls 1 _ _

seqcast-number : (P : Outcome → Type 0) (setup : Setup) → Plain P setup → (s : SeqcastState) (m : Message) → Row P (sq.seqcast_number setup s m)
seqcast-number P setup plain s m =
    either P (not (me setup == V setup 1) || has_key s.keys (message_key m)) (rests P setup plain s []) (record { holds = plain.calls 0 _ _ })

pub seqcast-row : (P : Outcome → Type 0) (setup : Setup) → Plain P setup → (s : SeqcastState) (m : Moment) → Row P (sq.seqcast_step setup s m)
seqcast-row P setup plain s (Moment.Begin handler arg) =
    either P (handler == 0) (record { holds = plain.calls 0 _ _ })
    (either P (handler == 1)
    (either P (word arg 1 == 0) (seqcast-number P setup plain s (message_at arg 2))
    (either P (word arg 1 == 1) (seqcast-drain P setup plain _) (rests P setup plain s [])))
    (rests P setup plain s []))
seqcast-row P setup plain s (Moment.Resume handler frame reply) =
    either P (handler == 1) (either P (word frame 0 == 1) (seqcast-drain P setup plain _) (rests P setup plain s [])) (rests P setup plain s [])

-- atomic broadcast
abcast-offer : (P : Outcome → Type 0) (setup : Setup) → Plain P setup → (s : AbcastState) (pending : List Message) → Row P (ab.abcast_offer setup s pending)
abcast-offer P setup plain s [] = rests P setup plain s []
abcast-offer P setup plain s (m ∷ ms) = either P (nat_lt s.proposed s.next) (record { holds = plain.calls 1 _ _ }) (rests P setup plain s [])

abcast-hand_on : (P : Outcome → Type 0) (setup : Setup) → Plain P setup → (s : AbcastState) (m : Option Message) → Row P (ab.abcast_hand_on setup s m)
abcast-hand_on P setup plain s None = abcast-offer P setup plain s s.pending
abcast-hand_on P setup plain s (Some m) = record { holds = plain.calls 2 _ _ }

abcast-drain : (P : Outcome → Type 0) (setup : Setup) → Plain P setup → (s : AbcastState) → Row P (ab.abcast_drain setup s)
abcast-drain P setup plain s =
    let next : ℕ = ab.abcast_skip s.done s.decisions (length s.decisions) s.next in
    abcast-hand_on P setup plain (record s { next = next }) (message_of s.decisions next)

abcast-mark : (P : Outcome → Type 0) (setup : Setup) → Plain P setup → (s : AbcastState) (m : Option Message) → Row P (ab.abcast_mark setup s m)
abcast-mark P setup plain s None = rests P setup plain s []
abcast-mark P setup plain s (Some m) = abcast-drain P setup plain (ab.abcast_marked s m)

abcast-heard : (P : Outcome → Type 0) (setup : Setup) → Plain P setup → (s : AbcastState) (m : Message) → Row P (ab.abcast_heard setup s m)
abcast-heard P setup plain s m =
    let pending : List Message = if ab.has_message s.pending (message_key m) || has_key s.done (message_key m) then s.pending else s.pending ++ m ∷ [] in
    abcast-offer P setup plain (record s { pending = pending }) pending

pub abcast-row : (P : Outcome → Type 0) (setup : Setup) → Plain P setup → (s : AbcastState) (m : Moment) → Row P (ab.abcast_step setup s m)
abcast-row P setup plain s (Moment.Begin handler arg) =
    either P (handler == 0) (record { holds = plain.calls 0 _ _ })
    (either P (handler == 1) (either P (word arg 2 == 0) (abcast-heard P setup plain s (message_at arg 3)) (rests P setup plain s []))
    (either P (handler == 2) (abcast-drain P setup plain (record s { decisions = with_message s.decisions (word arg 0) (message_at arg 1) }))
    (rests P setup plain s [])))
abcast-row P setup plain s (Moment.Resume handler frame reply) =
    either P (handler == 2)
    (either P (word frame 0 == 1)
    (either P (s.next == word frame 1) (abcast-mark P setup plain s (message_of s.decisions s.next)) (abcast-drain P setup plain s))
    (rests P setup plain s []))
    (rests P setup plain s [])

-- the replacement
pub and_right : (a b : Bool) → (a && b) ≡ true → b ≡ true
and_right true b e = e
and_right false b e = absurd (grind (arith, common_steps, e))

repl-hand_on : (P : Outcome → Type 0) (setup : Setup) → Plain P setup → AsksFor P setup → (epoch : ℕ) (m : Option Message) → P (re.repl_hand_on setup epoch m)
repl-hand_on P setup plain asks epoch None = plain.is_done _
repl-hand_on P setup plain asks epoch (Some m) = go (re.is_change setup m.kind m.value) refl
  where
    go : (b : Bool) → re.is_change setup m.kind m.value ≡ b
        → P (if b then change setup m.value (up epoch ∷ []) (1 ∷ []) else deliver (m.origin ∷ m.number ∷ m.kind ∷ m.value ∷ []) ((if m.kind == 2 then 2 else 0) ∷ []))
    go true e = asks m.value _ _ (ltb-true m.value (length setup.changes) (and_right (m.kind == 1) (nat_lt m.value (length setup.changes)) e))
    go false e = plain.delivers _ _

repl-drain : (P : Outcome → Type 0) (setup : Setup) → Plain P setup → AsksFor P setup → (s : ReplState) → Row P (re.repl_drain setup s)
repl-drain P setup plain asks s = record { holds = repl-hand_on P setup plain asks s.epoch (re.first_of s.epoch (filter (re.is_to_come s) s.early)) }

repl-recast : (P : Outcome → Type 0) (setup : Setup) → Plain P setup → (epoch : ℕ) (own : Option Own) → P (re.repl_recast setup epoch own)
repl-recast P setup plain epoch None = plain.is_done _
repl-recast P setup plain epoch (Some own) = plain.calls 0 _ _

repl-go_on : (P : Outcome → Type 0) (setup : Setup) → Plain P setup → (s : ReplState) (x : ℕ) → Row P (re.repl_go_on setup s x)
repl-go_on P setup plain s x = record { holds = repl-recast P setup plain s.epoch (find (λ (own : Own). nat_lt x own.number) s.mine) }

repl-cast : (P : Outcome → Type 0) (setup : Setup) → Plain P setup → (s : ReplState) (kind value : ℕ) → Row P (re.repl_cast setup s kind value)
repl-cast P setup plain s kind value =
    either P (nat_lt 2 kind || ((kind == 1) && not (re.is_change setup kind value))) (rests P setup plain s [])
    (record { holds = either_outcome P (s.hold == 0) (plain.calls 0 _ _) (plain.is_done _) })

repl-marked : (P : Outcome → Type 0) (setup : Setup) → Plain P setup → AsksFor P setup → (s : ReplState) (x : ℕ) (m : Option Message)
    → Row P (re.repl_marked setup s x m)
repl-marked P setup plain asks s x None = rests P setup plain s []
repl-marked P setup plain asks s x (Some m) =
    let marked : ReplState = re.repl_mark setup s m in
    either P (x == 0) (repl-drain P setup plain asks marked)
    (either P (x == 1) (repl-drain P setup plain asks (record marked { epoch = up s.epoch; hold = 1 })) (record { holds = plain.calls 1 _ _ }))

pub repl-row : (P : Outcome → Type 0) (setup : Setup) → Plain P setup → AsksFor P setup → (s : ReplState) (m : Moment) → Row P (re.repl_step setup s m)
repl-row P setup plain asks s (Moment.Begin handler arg) =
    either P (handler == 0) (repl-cast P setup plain s (word arg 0) (word arg 1))
    (either P (handler == 1) (repl-drain P setup plain asks _)
    (either P (handler == 2)
    (either P (word arg 0 == s.epoch) (repl-go_on P setup plain (record s { hold = 0 }) 0) (rests P setup plain s []))
    (rests P setup plain s [])))
repl-row P setup plain asks s (Moment.Resume handler frame reply) =
    either P (handler == 0) (record { holds = plain.is_done _ })
    (either P (handler == 1)
    (either P (nat_lt (word frame 0) 3) (repl-marked P setup plain asks s (word frame 0) (re.first_of s.epoch s.early))
    (either P (word frame 0 == 3) (repl-drain P setup plain asks s) (rests P setup plain s [])))
    (either P (handler == 2) (repl-go_on P setup plain s (word frame 0)) (rests P setup plain s [])))

-- consensus
cons-propose : (P : Outcome → Type 0) (setup : Setup) → Plain P setup → (s : ConsState) (i : ℕ) (m : Message) → Row P (co.cons_propose setup s i m)
cons-propose P setup plain s i m = either P (is_some (co.instance_of s.instances i)) (rests P setup plain s []) (record { holds = plain.calls 0 _ _ })

cons-proposed : (P : Outcome → Type 0) (setup : Setup) → Plain P setup → (s : ConsState) (b : Ballot) (m : Message) → Row P (co.cons_proposed setup s b m)
cons-proposed P setup plain s b m =
    either P ((b.round == 0) || nat_lt b.round (co.round_of (co.instance_of s.instances b.instance))) (rests P setup plain s []) (record { holds = plain.calls 0 _ _ })

round-estimated : (P : Outcome → Type 0) (setup : Setup) → Plain P setup → (b : Ballot) (e : Estimate) (r : Round) → Row P (co.round_estimated setup b e r)
round-estimated P setup plain b e r =
    either P (co.is_kept r.estimates e.sender) (rests P setup plain r [])
    (either P (co.is_to_propose setup (co.with_estimate r e)) (record { holds = plain.calls 0 _ _ }) (rests P setup plain _ []))

cons-estimated : (P : Outcome → Type 0) (setup : Setup) → Plain P setup → (s : ConsState) (b : Ballot) (e : Estimate) → Row P (co.cons_estimated setup s b e)
cons-estimated P setup plain s b e =
    either P (not (co.coordinates setup b)) (rests P setup plain s [])
    (record { holds = (round-estimated P setup plain b e (co.round_at s.rounds b)).holds })

round-acknowledged : (P : Outcome → Type 0) (setup : Setup) → Plain P setup → (b : Ballot) (sender : ℕ) (r : Round) (m : Option Message)
    → Row P (co.round_acknowledged setup b sender r m)
round-acknowledged P setup plain b sender r None = rests P setup plain r []
round-acknowledged P setup plain b sender r (Some m) =
    either P (co.is_to_announce setup (co.with_acknowledged r sender)) (record { holds = plain.calls 1 _ _ }) (rests P setup plain _ [])

cons-counted : (P : Outcome → Type 0) (setup : Setup) → Plain P setup → (s : ConsState) (b : Ballot) (sender : ℕ) (r : Option Round)
    → Row P (co.cons_counted setup s b sender r)
cons-counted P setup plain s b sender None = rests P setup plain s []
cons-counted P setup plain s b sender (Some r) = record { holds = (round-acknowledged P setup plain b sender r r.proposal).holds }

cons-acknowledged : (P : Outcome → Type 0) (setup : Setup) → Plain P setup → (s : ConsState) (b : Ballot) (sender : ℕ) → Row P (co.cons_acknowledged setup s b sender)
cons-acknowledged P setup plain s b sender =
    either P (not (co.coordinates setup b)) (rests P setup plain s []) (cons-counted P setup plain s b sender (co.found_round s.rounds b))

cons-decide : (P : Outcome → Type 0) (setup : Setup) → Plain P setup → (s : ConsState) (i : ℕ) (m : Message) → Row P (co.cons_decide setup s i m)
cons-decide P setup plain s i m = either P (is_some (message_of s.decisions i)) (rests P setup plain s []) (record { holds = plain.calls 2 _ _ })

cons-next_round : (P : Outcome → Type 0) (setup : Setup) → Plain P setup → (s : ConsState) (i : ℕ) (frame : List ℕ) (x : Option Instance)
    → Row P (co.cons_next_round setup s i frame x)
cons-next_round P setup plain s i frame None = rests P setup plain s []
cons-next_round P setup plain s i frame (Some x) = record { holds = plain.calls 0 _ _ }

cons-advance : (P : Outcome → Type 0) (setup : Setup) → Plain P setup → (s : ConsState) (i : ℕ) → Row P (co.cons_advance setup s i)
cons-advance P setup plain s i =
    either P (is_some (message_of s.decisions i)) (rests P setup plain s []) (cons-next_round P setup plain s i [] (co.instance_of s.instances i))

cons-pass : (P : Outcome → Type 0) (setup : Setup) → Plain P setup → (s : ConsState) (q : ℕ) (e : Option (ℕ × Instance)) → Row P (co.cons_pass setup s q e)
cons-pass P setup plain s q None = rests P setup plain s []
cons-pass P setup plain s q (Some e) = cons-next_round P setup plain s e.0 (1 ∷ q ∷ e.0 ∷ []) (Some e.1)

cons-suspect : (P : Outcome → Type 0) (setup : Setup) → Plain P setup → (s : ConsState) (q : ℕ) (x : Option ℕ) → Row P (co.cons_suspect setup s q x)
cons-suspect P setup plain s q x = cons-pass P setup plain s q (find (co.waits_for setup s.decisions q x) s.instances)

cons-recv : (P : Outcome → Type 0) (setup : Setup) → Plain P setup → (s : ConsState) (l : Letter) → Row P (co.cons_recv setup s l)
cons-recv P setup plain s l =
    either P (l.tag == 1) (cons-estimated P setup plain s l.ballot _)
    (either P (l.tag == 2) (cons-proposed P setup plain s l.ballot l.message)
    (either P (l.tag == 3) (cons-acknowledged P setup plain s l.ballot l.sender) (rests P setup plain s [])))

pub cons-row : (P : Outcome → Type 0) (setup : Setup) → Plain P setup → (s : ConsState) (m : Moment) → Row P (co.cons_step setup s m)
cons-row P setup plain s (Moment.Begin handler arg) =
    either P (handler == 0) (cons-propose P setup plain s (word arg 0) (message_at arg 1))
    (either P (handler == 1) (cons-recv P setup plain s (co.letter_at arg))
    (either P (handler == 2)
    (either P (word arg 2 == 1) (cons-decide P setup plain s (word arg 3) (message_at arg 4)) (rests P setup plain s []))
    (either P (handler == 3) (cons-advance P setup plain s (word arg 0))
    (either P (handler == 4) (cons-suspect P setup plain s (word arg 0) None) (rests P setup plain s [])))))
cons-row P setup plain s (Moment.Resume handler frame reply) =
    either P (handler == 4)
    (either P (word frame 0 == 1) (cons-suspect P setup plain s (word frame 1) (Some (word frame 2))) (rests P setup plain s []))
    (rests P setup plain s [])
