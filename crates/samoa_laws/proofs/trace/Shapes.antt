-- What the steps of the group stack's kinds ask for, kind by kind.
use Rattle.std.proofs.Common.{Bool, List, None, Option, Some, [], ap, arith, drop, false, if◌then◌else◌, inl, inr, length, not, refl, take, true, ℕ, ◌&&◌, ◌++◌, ◌+◌, ◌<◌, ◌==◌, ◌||◌, ◌∷◌, ◌≡◌, ◌≢◌, ◌≤◌, ◌⊎◌}
use Rattle.std.specs.Prelude.{⊤, ◌%◌, ◌^◌, nat_lt, find, is_some, filter}
use Rattle.samoa_model.specs.declared.handler.Moment.{Moment}
use Rattle.samoa_model.specs.declared.handler.Outcome.{Outcome}
use Rattle.samoa_model.specs.declared.setup.Setup.{Setup}
use Rattle.samoa_serial.specs.declared.keys.Ballot.{Ballot}
use Rattle.samoa_serial.specs.declared.message.Estimate.{Estimate}
use Rattle.samoa_serial.specs.declared.message.Instance.{Instance}
use Rattle.samoa_serial.specs.declared.message.Letter.{Letter}
use Rattle.samoa_serial.specs.declared.message.Message.{Message}
use Rattle.samoa_serial.specs.declared.message.Own.{Own}
use Rattle.samoa_serial.specs.declared.message.Watch.{Watch}
use Rattle.samoa_serial.specs.Rows.{V, call, dest_of, done, has_key, has_pair, message_at, message_key, message_of, message_words, me, port_at, up, with_message, word}
use Rattle.samoa_model.specs.declared.handler.Reply.{Reply}
use Rattle.samoa_model.specs.declared.setup.Kind.TheVariants.{Abcast, Cons, Fd, Link, Rbcast, Repl, Seqcast, Views}
use Rattle.std.proofs.lemmas.Bool.Decides.{eqb_tells}
use Rattle.std.proofs.lemmas.Bool.{eqb-true, ltb-true}
use Rattle.samoa_serial.specs.Kinds.{kind_step}
use Rattle.samoa_serial.specs.State.{AbcastState, ConsState, LinkState, OfAbcast, OfCons, OfFd, OfLink, OfRbcast, OfRepl, OfSeqcast, OfViews, RbcastState, ReplState, Round, SeqcastState, State, ViewsState}
use Rattle.samoa_serial.specs.AbcastTable as ab
use Rattle.samoa_serial.specs.ConsTable as co
use Rattle.samoa_serial.specs.FdTable as fd
use Rattle.samoa_serial.specs.LinkTable as li
use Rattle.samoa_serial.specs.RbcastTable as rb
use Rattle.samoa_serial.specs.ReplTable as re
use Rattle.samoa_serial.specs.SeqcastTable as sq
use Rattle.samoa_serial.specs.ViewsTable as vi
use Rattle.samoa_serial.specs.Lists.{In}
use Rattle.samoa_serial.proofs.RowLaws.{Row, either, either_outcome}

-- asks for no call and sends nothing
abbrev pub IsQuiet : Outcome → Type 0
IsQuiet (Outcome.Done reply) = ⊤
IsQuiet (Outcome.Deliver arg frame) = ⊤
IsQuiet (Outcome.Change change arg frame) = ⊤
IsQuiet (Outcome.Call event arg frame) = ⊥
IsQuiet (Outcome.Later event arg frame) = ⊥
IsQuiet (Outcome.Send to event arg frame) = ⊥

abbrev pub IsDone : Outcome → Type 0
IsDone (Outcome.Done reply) = ⊤
IsDone _ = ⊥

-- quiet, or a call at one of these ports
pub data Asks (setup : Setup) (ports : List ℕ) (o : Outcome) : Type 0 where
  Quiet : IsQuiet o → Asks setup ports o
  AtPort : (port : ℕ) → In port ports → (arg frame : List ℕ) → o ≡ Outcome.Call (port_at setup port) arg frame → Asks setup ports o

-- a message on the own channel, by the first port
pub record Tells (setup : Setup) (o : Outcome) : Type 0 where
  pub to : ℕ
  pub words : List ℕ
  pub frame : List ℕ
  pub is : o ≡ Outcome.Call (port_at setup 0) (to ∷ V setup 0 ∷ words) frame
  pub short : length words ≤ 10

abbrev pub Talks : Setup → List ℕ → Outcome → Type 0
Talks setup ports o = Tells setup o ⊎ Asks setup ports o

either_equal : {S : Type 0} (P : Outcome → Type 0) (a b : ℕ) {x y : S × Outcome} → (a ≡ b → Row P x) → Row P y → Row P (if a == b then x else y)
either_equal P a b {x} {y} p q = go (a == b) refl
  where
    go : (c : Bool) → (a == b) ≡ c → Row P (if c then x else y)
    go true e = p (eqb-true a b e)
    go false e = q

-- link: it sends on what it was called with, or hands on what arrived
pub data LinkShape (setup : Setup) (m : Moment) (o : Outcome) : Type 0 where
  Sends : (arg : List ℕ) → m ≡ Moment.Begin 0 arg
      → o ≡ Outcome.Send (dest_of setup (word arg 0)) (port_at setup 0) (take 12 (me setup ∷ word arg 1 ∷ drop 2 arg)) [] → LinkShape setup m o
  Hands : (arg : List ℕ) → m ≡ Moment.Begin 1 arg → word arg 1 + 1 < length setup.ports
      → o ≡ Outcome.Call (port_at setup (word arg 1 + 1)) (take 12 (word arg 0 ∷ drop 2 arg)) [] → LinkShape setup m o
  Silent : IsQuiet o → LinkShape setup m o

link-shape : (setup : Setup) (s : LinkState) (m : Moment) → Row (LinkShape setup m) (li.link_step setup s m)
link-shape setup s (Moment.Begin handler arg) =
    either_equal (LinkShape setup (Moment.Begin handler arg)) handler 0 (λ e. record { holds = Sends arg (ap (λ (i : ℕ). Moment.Begin i arg) e) refl })
    (either_equal (LinkShape setup (Moment.Begin handler arg)) handler 1
    (λ e. record { holds = (hands e).holds })
    (record { holds = Silent tt }))
  where
    hands : handler ≡ 1 → Row (LinkShape setup (Moment.Begin handler arg)) (li.link_recv setup s (word arg 0) (word arg 1) (drop 2 arg))
    hands e = record { holds = go (nat_lt (word arg 1 + 1) (length setup.ports)) refl }
      where
        go : (b : Bool) → nat_lt (word arg 1 + 1) (length setup.ports) ≡ b
            → LinkShape setup (Moment.Begin handler arg) (if b then call setup (word arg 1 + 1) (word arg 0 ∷ drop 2 arg) [] else done [])
        go true lt = Hands arg (ap (λ (i : ℕ). Moment.Begin i arg) e) (ltb-true (word arg 1 + 1) (length setup.ports) lt) refl
        go false lt = Silent tt
link-shape setup s (Moment.Resume handler frame reply) = record { holds = Silent tt }

-- rbcast: it passes on what it was called with or what it received, and then hands it up
pub data RbShape (setup : Setup) (m : Moment) (o : Outcome) : Type 0 where
  Casts : (arg : List ℕ) → m ≡ Moment.Begin 0 arg → (number : ℕ)
      → o ≡ Outcome.Call (port_at setup 0) (take 12 (setup.nodes ∷ V setup 0 ∷ me setup ∷ number ∷ take 8 arg)) (take 12 (1 ∷ me setup ∷ number ∷ take 8 arg))
      → RbShape setup m o
  Relays : (arg : List ℕ) → m ≡ Moment.Begin 1 arg
      → o ≡ Outcome.Call (port_at setup 0) (take 12 (setup.nodes ∷ V setup 0 ∷ word arg 1 ∷ word arg 2 ∷ take 8 (drop 3 arg)))
      (take 12 (1 ∷ word arg 1 ∷ word arg 2 ∷ take 8 (drop 3 arg)))
      → RbShape setup m o
  HandsUp : (i : ℕ) (frame : List ℕ) (reply : Reply) → m ≡ Moment.Resume i frame reply → word frame 0 ≡ 1 → (next : List ℕ) → word next 0 ≡ 2
      → o ≡ Outcome.Call (port_at setup 1) (take 12 (word frame 1 ∷ word frame 2 ∷ drop 3 frame)) next → RbShape setup m o
  Rests : IsDone o → RbShape setup m o

rbcast-shape : (setup : Setup) (s : RbcastState) (m : Moment) → Row (RbShape setup m) (rb.rbcast_step setup s m)
rbcast-shape setup s (Moment.Begin handler arg) =
    either_equal (RbShape setup (Moment.Begin handler arg)) handler 0
    (λ e. record { holds = Casts arg (ap (λ (i : ℕ). Moment.Begin i arg) e) ((s.seq + 1) % 2 ^ 64) refl })
    (either_equal (RbShape setup (Moment.Begin handler arg)) handler 1
    (λ e. either (RbShape setup (Moment.Begin handler arg)) (has_pair s.seen (record { origin = word arg 1; number = word arg 2 })) (record { holds = Rests tt })
    (record { holds = Relays arg (ap (λ (i : ℕ). Moment.Begin i arg) e) refl }))
    (record { holds = Rests tt }))
rbcast-shape setup s (Moment.Resume handler frame reply) =
    either_equal (RbShape setup (Moment.Resume handler frame reply)) handler 0
    (λ e. record { holds = cast_on (eqb_tells (word frame 0) 1) })
    (either_equal (RbShape setup (Moment.Resume handler frame reply)) handler 1
    (λ e. record { holds = recv_on (eqb_tells (word frame 0) 1) })
    (record { holds = Rests tt }))
  where
    cast_on : ((word frame 0 == 1) ≡ true) × (word frame 0 ≡ 1) ⊎ ((word frame 0 == 1) ≡ false) × (word frame 0 ≢ 1)
        → RbShape setup (Moment.Resume handler frame reply) (rb.rbcast_cast_on setup (word frame 0) (word frame 1) (word frame 2) (drop 3 frame))
    cast_on (inl e) = rw e.0 (HandsUp handler frame reply refl e.1 (2 ∷ word frame 1 ∷ word frame 2 ∷ []) refl refl)
    cast_on (inr e) = rw e.0 (either_outcome (RbShape setup (Moment.Resume handler frame reply)) (word frame 0 == 2) (Rests tt) (Rests tt))

    recv_on : ((word frame 0 == 1) ≡ true) × (word frame 0 ≡ 1) ⊎ ((word frame 0 == 1) ≡ false) × (word frame 0 ≢ 1)
        → RbShape setup (Moment.Resume handler frame reply) (rb.rbcast_recv_on setup (word frame 0) (word frame 1) (word frame 2) (drop 3 frame))
    recv_on (inl e) = rw e.0 (HandsUp handler frame reply refl e.1 (2 ∷ []) refl refl)
    recv_on (inr e) = rw e.0 (Rests tt)

-- fd
abbrev FdTalks : Setup → Outcome → Type 0
FdTalks setup = Talks setup (1 ∷ [])

fd-suspect : (setup : Setup) (s : List Watch) (x : Option ℕ) → Row (FdTalks setup) (fd.fd_suspect setup s x)
fd-suspect setup s None = record { holds = inr (Quiet tt) }
fd-suspect setup s (Some x) = record { holds = inr (AtPort 1 (inl refl) _ _ refl) }

pub fd-talks : (setup : Setup) (s : List Watch) (m : Moment) → Row (FdTalks setup) (fd.fd_step setup s m)
fd-talks setup s (Moment.Begin handler arg) =
    either (FdTalks setup) (handler == 0) (record { holds = inl (record { to = setup.nodes; words = _; frame = _; is = refl; short = omega arith }) })
    (either (FdTalks setup) (handler == 1) (record { holds = inr (Quiet tt) }) (record { holds = inr (Quiet tt) }))
fd-talks setup s (Moment.Resume handler frame reply) =
    either (FdTalks setup) (handler == 0) (fd-suspect setup s (fd.fd_due setup (word frame 0) 0 s)) (record { holds = inr (Quiet tt) })

-- views
abbrev ViAsks : Setup → Outcome → Type 0
ViAsks setup = Asks setup (0 ∷ [])

pub views-asks : (setup : Setup) (s : ViewsState) (m : Moment) → Row (ViAsks setup) (vi.views_step setup s m)
views-asks setup s (Moment.Begin handler arg) =
    either (ViAsks setup) (handler == 0) (record { holds = AtPort 0 (inl refl) _ _ refl })
    (either (ViAsks setup) (handler == 1) (record { holds = Quiet tt }) (record { holds = Quiet tt }))
views-asks setup s (Moment.Resume handler frame reply) = record { holds = Quiet tt }

-- seqcast
abbrev SqTalks : Setup → Outcome → Type 0
SqTalks setup = Talks setup (1 ∷ [])

seqcast-drain : (setup : Setup) (s : SeqcastState) → Row (SqTalks setup) (sq.seqcast_drain setup s)
seqcast-drain setup s = record { holds = go (message_of s.got s.next) }
  where
    go : (m : Option Message) → SqTalks setup (sq.seqcast_hand_on setup s.next m)
    go None = inr (Quiet tt)
    go (Some m) = inr (AtPort 1 (inl refl) _ _ refl)

seqcast-number : (setup : Setup) (s : SeqcastState) (m : Message) → Row (SqTalks setup) (sq.seqcast_number setup s m)
seqcast-number setup s m =
    either (SqTalks setup) (not (me setup == V setup 1) || has_key s.keys (message_key m)) (record { holds = inr (Quiet tt) })
    (record { holds = inl (record { to = setup.nodes; words = _; frame = _; is = refl; short = omega arith }) })

pub seqcast-talks : (setup : Setup) (s : SeqcastState) (m : Moment) → Row (SqTalks setup) (sq.seqcast_step setup s m)
seqcast-talks setup s (Moment.Begin handler arg) =
    either (SqTalks setup) (handler == 0) (record { holds = inl (record { to = V setup 1; words = _; frame = _; is = refl; short = omega arith }) })
    (either (SqTalks setup) (handler == 1)
    (either (SqTalks setup) (word arg 1 == 0) (seqcast-number setup s (message_at arg 2))
    (either (SqTalks setup) (word arg 1 == 1) (seqcast-drain setup _) (record { holds = inr (Quiet tt) })))
    (record { holds = inr (Quiet tt) }))
seqcast-talks setup s (Moment.Resume handler frame reply) =
    either (SqTalks setup) (handler == 1)
    (either (SqTalks setup) (word frame 0 == 1) (seqcast-drain setup _) (record { holds = inr (Quiet tt) }))
    (record { holds = inr (Quiet tt) })

-- abcast: it casts, proposes, and hands on what was decided
pub data AbSays (setup : Setup) (o : Outcome) : Type 0 where
  AbNothing : IsDone o → AbSays setup o
  AbCasts : (m : Message) → o ≡ call setup 0 (0 ∷ message_words m) (0 ∷ []) → AbSays setup o
  AbProposes : (instance : ℕ) (m : Message) → o ≡ call setup 1 (instance ∷ message_words m) (0 ∷ []) → AbSays setup o
  AbHandsOn : (instance : ℕ) (m : Message) → o ≡ call setup 2 (message_words m) (1 ∷ instance ∷ []) → AbSays setup o

abcast-offer : (setup : Setup) (s : AbcastState) (pending : List Message) → Row (AbSays setup) (ab.abcast_offer setup s pending)
abcast-offer setup s [] = record { holds = AbNothing tt }
abcast-offer setup s (m ∷ ms) =
    either (AbSays setup) (nat_lt s.proposed s.next) (record { holds = AbProposes s.next m refl }) (record { holds = AbNothing tt })

abcast-hand_on : (setup : Setup) (s : AbcastState) (m : Option Message) → Row (AbSays setup) (ab.abcast_hand_on setup s m)
abcast-hand_on setup s None = abcast-offer setup s s.pending
abcast-hand_on setup s (Some m) = record { holds = AbHandsOn s.next m refl }

abcast-drain : (setup : Setup) (s : AbcastState) → Row (AbSays setup) (ab.abcast_drain setup s)
abcast-drain setup s =
    let next : ℕ = ab.abcast_skip s.done s.decisions (length s.decisions) s.next in
    abcast-hand_on setup (record s { next = next }) (message_of s.decisions next)

abcast-mark : (setup : Setup) (s : AbcastState) (m : Option Message) → Row (AbSays setup) (ab.abcast_mark setup s m)
abcast-mark setup s None = record { holds = AbNothing tt }
abcast-mark setup s (Some m) = abcast-drain setup (ab.abcast_marked s m)

abcast-heard : (setup : Setup) (s : AbcastState) (m : Message) → Row (AbSays setup) (ab.abcast_heard setup s m)
abcast-heard setup s m =
    let pending : List Message = if ab.has_message s.pending (message_key m) || has_key s.done (message_key m) then s.pending else s.pending ++ m ∷ [] in
    abcast-offer setup (record s { pending = pending }) pending

pub abcast-says : (setup : Setup) (s : AbcastState) (m : Moment) → Row (AbSays setup) (ab.abcast_step setup s m)
abcast-says setup s (Moment.Begin handler arg) =
    either (AbSays setup) (handler == 0) (record { holds = AbCasts (message_at arg 0) refl })
    (either (AbSays setup) (handler == 1) (either (AbSays setup) (word arg 2 == 0) (abcast-heard setup s (message_at arg 3)) (record { holds = AbNothing tt }))
    (either (AbSays setup) (handler == 2) (abcast-drain setup (record s { decisions = with_message s.decisions (word arg 0) (message_at arg 1) })) (record { holds = AbNothing tt })))
abcast-says setup s (Moment.Resume handler frame reply) =
    either (AbSays setup) (handler == 2)
    (either (AbSays setup) (word frame 0 == 1)
    (either (AbSays setup) (s.next == word frame 1) (abcast-mark setup s (message_of s.decisions s.next)) (abcast-drain setup s))
    (record { holds = AbNothing tt }))
    (record { holds = AbNothing tt })

-- repl
abbrev ReAsks : Setup → Outcome → Type 0
ReAsks setup = Asks setup (0 ∷ 1 ∷ [])

repl-hand_on : (setup : Setup) (epoch : ℕ) (m : Option Message) → ReAsks setup (re.repl_hand_on setup epoch m)
repl-hand_on setup epoch None = Quiet tt
repl-hand_on setup epoch (Some m) = either_outcome (ReAsks setup) (re.is_change setup m.kind m.value) (Quiet tt) (Quiet tt)

repl-drain : (setup : Setup) (s : ReplState) → Row (ReAsks setup) (re.repl_drain setup s)
repl-drain setup s = record { holds = repl-hand_on setup s.epoch (re.first_of s.epoch (filter (re.is_to_come s) s.early)) }

repl-recast : (setup : Setup) (epoch : ℕ) (own : Option Own) → ReAsks setup (re.repl_recast setup epoch own)
repl-recast setup epoch None = Quiet tt
repl-recast setup epoch (Some own) = AtPort 0 (inl refl) _ _ refl

repl-go_on : (setup : Setup) (s : ReplState) (x : ℕ) → Row (ReAsks setup) (re.repl_go_on setup s x)
repl-go_on setup s x = record { holds = repl-recast setup s.epoch (find (λ (own : Own). nat_lt x own.number) s.mine) }

repl-cast : (setup : Setup) (s : ReplState) (kind value : ℕ) → Row (ReAsks setup) (re.repl_cast setup s kind value)
repl-cast setup s kind value =
    either (ReAsks setup) (nat_lt 2 kind || ((kind == 1) && not (re.is_change setup kind value))) (record { holds = Quiet tt })
    (record { holds = either_outcome (ReAsks setup) (s.hold == 0) (repl-recast setup s.epoch (Some _)) (Quiet tt) })

repl-marked : (setup : Setup) (s : ReplState) (x : ℕ) (m : Option Message) → Row (ReAsks setup) (re.repl_marked setup s x m)
repl-marked setup s x None = record { holds = Quiet tt }
repl-marked setup s x (Some m) =
    let marked : ReplState = re.repl_mark setup s m in
    either (ReAsks setup) (x == 0) (repl-drain setup marked)
    (either (ReAsks setup) (x == 1) (repl-drain setup (record marked { epoch = up s.epoch; hold = 1 })) (record { holds = AtPort 1 (inr (inl refl)) _ _ refl }))

pub repl-asks : (setup : Setup) (s : ReplState) (m : Moment) → Row (ReAsks setup) (re.repl_step setup s m)
repl-asks setup s (Moment.Begin handler arg) =
    either (ReAsks setup) (handler == 0) (repl-cast setup s (word arg 0) (word arg 1))
    (either (ReAsks setup) (handler == 1) (repl-drain setup _)
    (either (ReAsks setup) (handler == 2)
    (either (ReAsks setup) (word arg 0 == s.epoch) (repl-go_on setup (record s { hold = 0 }) 0) (record { holds = Quiet tt })) (record { holds = Quiet tt })))
repl-asks setup s (Moment.Resume handler frame reply) =
    either (ReAsks setup) (handler == 0) (record { holds = Quiet tt })
    (either (ReAsks setup) (handler == 1)
    (either (ReAsks setup) (nat_lt (word frame 0) 3) (repl-marked setup s (word frame 0) (re.first_of s.epoch s.early))
    (either (ReAsks setup) (word frame 0 == 3) (repl-drain setup s) (record { holds = Quiet tt })))
    (either (ReAsks setup) (handler == 2) (repl-go_on setup s (word frame 0)) (record { holds = Quiet tt })))

-- cons: it tells, announces, and decides
pub data ConsSays (setup : Setup) (o : Outcome) : Type 0 where
  ConsNothing : IsDone o → ConsSays setup o
  ConsTells : (to tag : ℕ) (b : Ballot) (ts : ℕ) (m : Message) (frame : List ℕ) → o ≡ co.tell setup to tag b ts m frame → ConsSays setup o
  ConsAnnounces : (instance : ℕ) (m : Message) → o ≡ call setup 1 (1 ∷ instance ∷ message_words m) [] → ConsSays setup o
  ConsDecides : (instance : ℕ) (m : Message) → o ≡ call setup 2 (instance ∷ message_words m) [] → ConsSays setup o

tells : (setup : Setup) (to tag : ℕ) (b : Ballot) (ts : ℕ) (m : Message) (frame : List ℕ) → ConsSays setup (co.tell setup to tag b ts m frame)
tells setup to tag b ts m frame = ConsTells to tag b ts m frame refl

cons-propose : (setup : Setup) (s : ConsState) (i : ℕ) (m : Message) → Row (ConsSays setup) (co.cons_propose setup s i m)
cons-propose setup s i m =
    either (ConsSays setup) (is_some (co.instance_of s.instances i)) (record { holds = ConsNothing tt }) (record { holds = tells setup _ _ _ _ _ [] })

cons-proposed : (setup : Setup) (s : ConsState) (b : Ballot) (m : Message) → Row (ConsSays setup) (co.cons_proposed setup s b m)
cons-proposed setup s b m =
    either (ConsSays setup) ((b.round == 0) || nat_lt b.round (co.round_of (co.instance_of s.instances b.instance))) (record { holds = ConsNothing tt })
    (record { holds = tells setup _ _ _ _ _ [] })

round-proposes : (setup : Setup) (b : Ballot) (e : Estimate) (r : Round) → Row (ConsSays setup) (co.round_proposes setup b e r)
round-proposes setup b e r =
    either (ConsSays setup) (co.is_to_propose setup r) (record { holds = tells setup _ _ _ _ _ [] }) (record { holds = ConsNothing tt })

round-estimated : (setup : Setup) (b : Ballot) (e : Estimate) (r : Round) → Row (ConsSays setup) (co.round_estimated setup b e r)
round-estimated setup b e r =
    either (ConsSays setup) (co.is_kept r.estimates e.sender) (record { holds = ConsNothing tt }) (round-proposes setup b e (co.with_estimate r e))

cons-estimated : (setup : Setup) (s : ConsState) (b : Ballot) (e : Estimate) → Row (ConsSays setup) (co.cons_estimated setup s b e)
cons-estimated setup s b e =
    either (ConsSays setup) (not (co.coordinates setup b)) (record { holds = ConsNothing tt })
    (record { holds = (round-estimated setup b e (co.round_at s.rounds b)).holds })

round-acknowledged : (setup : Setup) (b : Ballot) (sender : ℕ) (r : Round) (m : Option Message) → Row (ConsSays setup) (co.round_acknowledged setup b sender r m)
round-acknowledged setup b sender r None = record { holds = ConsNothing tt }
round-acknowledged setup b sender r (Some m) =
    either (ConsSays setup) (co.is_to_announce setup (co.with_acknowledged r sender)) (record { holds = ConsAnnounces b.instance m refl }) (record { holds = ConsNothing tt })

cons-counted : (setup : Setup) (s : ConsState) (b : Ballot) (sender : ℕ) (r : Option Round) → Row (ConsSays setup) (co.cons_counted setup s b sender r)
cons-counted setup s b sender None = record { holds = ConsNothing tt }
cons-counted setup s b sender (Some r) = record { holds = (round-acknowledged setup b sender r r.proposal).holds }

cons-acknowledged : (setup : Setup) (s : ConsState) (b : Ballot) (sender : ℕ) → Row (ConsSays setup) (co.cons_acknowledged setup s b sender)
cons-acknowledged setup s b sender =
    either (ConsSays setup) (not (co.coordinates setup b)) (record { holds = ConsNothing tt })
    (cons-counted setup s b sender (co.found_round s.rounds b))

cons-decide : (setup : Setup) (s : ConsState) (i : ℕ) (m : Message) → Row (ConsSays setup) (co.cons_decide setup s i m)
cons-decide setup s i m =
    either (ConsSays setup) (is_some (message_of s.decisions i)) (record { holds = ConsNothing tt }) (record { holds = ConsDecides i m refl })

cons-next_round : (setup : Setup) (s : ConsState) (i : ℕ) (frame : List ℕ) (x : Option Instance) → Row (ConsSays setup) (co.cons_next_round setup s i frame x)
cons-next_round setup s i frame None = record { holds = ConsNothing tt }
cons-next_round setup s i frame (Some x) = record { holds = tells setup _ _ _ _ _ frame }

cons-advance : (setup : Setup) (s : ConsState) (i : ℕ) → Row (ConsSays setup) (co.cons_advance setup s i)
cons-advance setup s i =
    either (ConsSays setup) (is_some (message_of s.decisions i)) (record { holds = ConsNothing tt }) (cons-next_round setup s i [] (co.instance_of s.instances i))

cons-pass : (setup : Setup) (s : ConsState) (q : ℕ) (e : Option (ℕ × Instance)) → Row (ConsSays setup) (co.cons_pass setup s q e)
cons-pass setup s q None = record { holds = ConsNothing tt }
cons-pass setup s q (Some e) = cons-next_round setup s e.0 (1 ∷ q ∷ e.0 ∷ []) (Some e.1)

cons-suspect : (setup : Setup) (s : ConsState) (q : ℕ) (x : Option ℕ) → Row (ConsSays setup) (co.cons_suspect setup s q x)
cons-suspect setup s q x = cons-pass setup s q (find (co.waits_for setup s.decisions q x) s.instances)

cons-recv : (setup : Setup) (s : ConsState) (l : Letter) → Row (ConsSays setup) (co.cons_recv setup s l)
cons-recv setup s l =
    either (ConsSays setup) (l.tag == 1) (cons-estimated setup s l.ballot _)
    (either (ConsSays setup) (l.tag == 2) (cons-proposed setup s l.ballot l.message)
    (either (ConsSays setup) (l.tag == 3) (cons-acknowledged setup s l.ballot l.sender) (record { holds = ConsNothing tt })))

pub cons-says : (setup : Setup) (s : ConsState) (m : Moment) → Row (ConsSays setup) (co.cons_step setup s m)
cons-says setup s (Moment.Begin handler arg) =
    either (ConsSays setup) (handler == 0) (cons-propose setup s (word arg 0) (message_at arg 1))
    (either (ConsSays setup) (handler == 1) (cons-recv setup s (co.letter_at arg))
    (either (ConsSays setup) (handler == 2)
    (either (ConsSays setup) (word arg 2 == 1) (cons-decide setup s (word arg 3) (message_at arg 4)) (record { holds = ConsNothing tt }))
    (either (ConsSays setup) (handler == 3) (cons-advance setup s (word arg 0))
    (either (ConsSays setup) (handler == 4) (cons-suspect setup s (word arg 0) None) (record { holds = ConsNothing tt })))))
cons-says setup s (Moment.Resume handler frame reply) =
    either (ConsSays setup) (handler == 4)
    (either (ConsSays setup) (word frame 0 == 1) (cons-suspect setup s (word frame 1) (Some (word frame 2))) (record { holds = ConsNothing tt }))
    (record { holds = ConsNothing tt })

-- a step of a box, whatever its state
pub fd-step : (setup : Setup) (s : State) (m : Moment) → FdTalks setup (kind_step Fd setup s m).1
fd-step setup (OfFd s) m = (fd-talks setup s m).holds
fd-step setup _ m = inr (Quiet tt)

pub cons-step : (setup : Setup) (s : State) (m : Moment) → ConsSays setup (kind_step Cons setup s m).1
cons-step setup (OfCons s) m = (cons-says setup s m).holds
cons-step setup _ m = ConsNothing tt

pub seqcast-step : (setup : Setup) (s : State) (m : Moment) → SqTalks setup (kind_step Seqcast setup s m).1
seqcast-step setup (OfSeqcast s) m = (seqcast-talks setup s m).holds
seqcast-step setup _ m = inr (Quiet tt)

pub abcast-step : (setup : Setup) (s : State) (m : Moment) → AbSays setup (kind_step Abcast setup s m).1
abcast-step setup (OfAbcast s) m = (abcast-says setup s m).holds
abcast-step setup _ m = AbNothing tt

pub repl-step : (setup : Setup) (s : State) (m : Moment) → ReAsks setup (kind_step Repl setup s m).1
repl-step setup (OfRepl s) m = (repl-asks setup s m).holds
repl-step setup _ m = Quiet tt

pub views-step : (setup : Setup) (s : State) (m : Moment) → ViAsks setup (kind_step Views setup s m).1
views-step setup (OfViews s) m = (views-asks setup s m).holds
views-step setup _ m = Quiet tt

pub link-step : (setup : Setup) (s : State) (m : Moment) → LinkShape setup m (kind_step Link setup s m).1
link-step setup (OfLink s) m = (link-shape setup s m).holds
link-step setup _ m = Silent tt

pub rbcast-step : (setup : Setup) (s : State) (m : Moment) → RbShape setup m (kind_step Rbcast setup s m).1
rbcast-step setup (OfRbcast s) m = (rbcast-shape setup s m).holds
rbcast-step setup _ m = Rests tt
