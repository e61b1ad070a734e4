-- What the boxes of the group stack send and ask for: only the link sends, the event of its first port, and only the replacement asks, for one of its changes.
use Rattle.std.proofs.Common.{Bool, List, None, Option, Some, [], drop, false, if◌then◌else◌, length, not, refl, subst, sym, true, ℕ, ◌&&◌, ◌+◌, ◌<◌, ◌==◌, ◌||◌, ◌∷◌, ◌≡◌}
use Rattle.std.specs.Prelude.{⊤, nat_lt, find, filter}
use Rattle.std.proofs.lemmas.Bool.{ltb-true}
use Rattle.samoa_model.specs.declared.handler.Dest.{Dest}
use Rattle.samoa_model.specs.declared.handler.Moment.{Moment}
use Rattle.samoa_model.specs.declared.handler.Outcome.{Outcome}
use Rattle.samoa_model.specs.declared.ids.ChangeId.{ChangeId}
use Rattle.samoa_model.specs.declared.ids.EventId.{EventId}
use Rattle.samoa_model.specs.declared.setup.Setup.{Setup}
use Rattle.samoa_model.specs.declared.setup.Kind.TheVariants.{Abcast, Cons, Fd, Link, Rbcast, Repl, Seqcast, Views}
use Rattle.samoa_serial.specs.Kinds.{kind_step}
use Rattle.samoa_serial.specs.Rows.{V, call, change, change_at_place, deliver, dest_of, done, has_key, me, message_at, message_key, message_of, port_at, up, word}
use Rattle.samoa_serial.specs.State.{LinkState, OfFd, OfLink, OfRepl, OfSeqcast, OfViews, ReplState, SeqcastState, State, ViewsState}
use Rattle.samoa_serial.specs.declared.message.Message.{Message}
use Rattle.samoa_serial.specs.declared.message.Own.{Own}
use Rattle.samoa_serial.specs.declared.message.Watch.{Watch}
use Rattle.samoa_serial.specs.FdTable as fd
use Rattle.samoa_serial.specs.LinkTable as li
use Rattle.samoa_serial.specs.ReplTable as re
use Rattle.samoa_serial.specs.SeqcastTable as sq
use Rattle.samoa_serial.specs.ViewsTable as vi
use Rattle.samoa_laws.proofs.trace.Shapes.{AbSays, AbNothing, AbCasts, AbProposes, AbHandsOn, ConsSays, ConsNothing, ConsTells, ConsAnnounces, ConsDecides, IsDone, RbShape, Casts, Relays, HandsUp, Rests, abcast-step, cons-step, rbcast-step}
use Rattle.samoa_serial.proofs.RowLaws.{Row}
use Rattle.samoa_serial.proofs.RowLaws.{and_right}

abbrev pub IsNodeOf : Setup → Dest → Type 0
IsNodeOf setup (Dest.One node) = node.0 < setup.nodes
IsNodeOf setup Dest.All = ⊤

-- one of the changes of a setup
pub record IsOneOf (setup : Setup) (change : ChangeId) : Type 0 where
  pub at : ℕ
  pub below : at < length setup.changes
  pub is : change ≡ change_at_place setup at

-- the event that the link sends
abbrev pub wire : EventId
wire = record { 0 = 0 }

abbrev pub IsOut : Setup → Outcome → Type 0
IsOut setup (Outcome.Send to event arg frame) = IsNodeOf setup to × (event ≡ wire)
IsOut setup (Outcome.Change change arg frame) = IsOneOf setup change
IsOut setup _ = ⊤

abbrev Out : {S : Type 0} → Setup → S × Outcome → Type 0
Out setup r = Row (IsOut setup) r

either : {S : Type 0} (setup : Setup) (b : Bool) {x y : S × Outcome} → Out setup x → Out setup y → Out setup (if b then x else y)
either setup true p q = p
either setup false p q = q

either_outcome : (setup : Setup) (b : Bool) (x y : Outcome) → IsOut setup x → IsOut setup y → IsOut setup (if b then x else y)
either_outcome setup true x y p q = p
either_outcome setup false x y p q = q

is_done_out : (setup : Setup) (o : Outcome) → IsDone o → IsOut setup o
is_done_out setup (Outcome.Done reply) h = tt
is_done_out setup (Outcome.Deliver arg frame) h = absurd h
is_done_out setup (Outcome.Change change arg frame) h = absurd h
is_done_out setup (Outcome.Call event arg frame) h = absurd h
is_done_out setup (Outcome.Later event arg frame) h = absurd h
is_done_out setup (Outcome.Send to event arg frame) h = absurd h

-- the link
dest_is : (setup : Setup) (to : ℕ) → IsNodeOf setup (dest_of setup to)
dest_is setup to = go (nat_lt to setup.nodes) refl
  where
    go : (b : Bool) → nat_lt to setup.nodes ≡ b → IsNodeOf setup (if b then Dest.One (record { 0 = to }) else Dest.All)
    go true e = ltb-true to setup.nodes e
    go false e = tt

link-out : (setup : Setup) → port_at setup 0 ≡ wire → (s : LinkState) (m : Moment) → Out setup (li.link_step setup s m)
link-out setup first s (Moment.Begin handler arg) =
    either setup (handler == 0) (record { holds = (dest_is setup (word arg 0), first) })
    (either setup (handler == 1) (record { holds = either_outcome setup (nat_lt (word arg 1 + 1) (length setup.ports)) (call setup (word arg 1 + 1) (word arg 0 ∷ drop 2 arg) []) (done []) tt tt }) (record { holds = tt }))
link-out setup first s (Moment.Resume handler frame reply) = record { holds = tt }

-- the failure detector
fd-suspect : (setup : Setup) (s : List Watch) (x : Option ℕ) → Out setup (fd.fd_suspect setup s x)
fd-suspect setup s None = record { holds = tt }
fd-suspect setup s (Some x) = record { holds = tt }

fd-out : (setup : Setup) (s : List Watch) (m : Moment) → Out setup (fd.fd_step setup s m)
fd-out setup s (Moment.Begin handler arg) =
    either setup (handler == 0) (record { holds = tt }) (either setup (handler == 1) (record { holds = tt }) (record { holds = tt }))
fd-out setup s (Moment.Resume handler frame reply) =
    either setup (handler == 0) (fd-suspect setup s (fd.fd_due setup (word frame 0) 0 s)) (record { holds = tt })

-- the views
views-out : (setup : Setup) (s : ViewsState) (m : Moment) → Out setup (vi.views_step setup s m)
views-out setup s (Moment.Begin handler arg) =
    either setup (handler == 0) (record { holds = tt }) (either setup (handler == 1) (record { holds = tt }) (record { holds = tt }))
views-out setup s (Moment.Resume handler frame reply) = record { holds = tt }

-- the sequencer
seqcast-drain : (setup : Setup) (s : SeqcastState) → Out setup (sq.seqcast_drain setup s)
seqcast-drain setup s = record { holds = go (message_of s.got s.next) }
  where
    go : (m : Option Message) → IsOut setup (sq.seqcast_hand_on setup s.next m)
    go None = tt
    go (Some m) = tt

seqcast-number : (setup : Setup) (s : SeqcastState) (m : Message) → Out setup (sq.seqcast_number setup s m)
seqcast-number setup s m =
    either setup (not (me setup == V setup 1) || has_key s.keys (message_key m)) (record { holds = tt }) (record { holds = tt })

seqcast-out : (setup : Setup) (s : SeqcastState) (m : Moment) → Out setup (sq.seqcast_step setup s m)
seqcast-out setup s (Moment.Begin handler arg) =
    either setup (handler == 0) (record { holds = tt })
    (either setup (handler == 1)
    (either setup (word arg 1 == 0) (seqcast-number setup s (message_at arg 2))
    (either setup (word arg 1 == 1) (seqcast-drain setup _) (record { holds = tt })))
    (record { holds = tt }))
seqcast-out setup s (Moment.Resume handler frame reply) =
    either setup (handler == 1) (either setup (word frame 0 == 1) (seqcast-drain setup _) (record { holds = tt })) (record { holds = tt })

repl-hand_on : (setup : Setup) (epoch : ℕ) (m : Option Message) → IsOut setup (re.repl_hand_on setup epoch m)
repl-hand_on setup epoch None = tt
repl-hand_on setup epoch (Some m) = go (re.is_change setup m.kind m.value) refl
  where
    go : (b : Bool) → re.is_change setup m.kind m.value ≡ b
        → IsOut setup (if b then change setup m.value (up epoch ∷ []) (1 ∷ []) else deliver (m.origin ∷ m.number ∷ m.kind ∷ m.value ∷ []) ((if m.kind == 2 then 2 else 0) ∷ []))
    go true e = record { at = m.value; below = ltb-true m.value (length setup.changes) (and_right (m.kind == 1) (nat_lt m.value (length setup.changes)) e); is = refl }
    go false e = tt

repl-drain : (setup : Setup) (s : ReplState) → Out setup (re.repl_drain setup s)
repl-drain setup s = record { holds = repl-hand_on setup s.epoch (re.first_of s.epoch (filter (re.is_to_come s) s.early)) }

repl-recast : (setup : Setup) (epoch : ℕ) (own : Option Own) → IsOut setup (re.repl_recast setup epoch own)
repl-recast setup epoch None = tt
repl-recast setup epoch (Some own) = tt

repl-go_on : (setup : Setup) (s : ReplState) (x : ℕ) → Out setup (re.repl_go_on setup s x)
repl-go_on setup s x = record { holds = repl-recast setup s.epoch (find (λ (own : Own). nat_lt x own.number) s.mine) }

repl-cast : (setup : Setup) (s : ReplState) (kind value : ℕ) → Out setup (re.repl_cast setup s kind value)
repl-cast setup s kind value =
    either setup (nat_lt 2 kind || ((kind == 1) && not (re.is_change setup kind value))) (record { holds = tt })
    (record {
      holds = let own : Own = record { number = up s.count; kind = kind; value = value } in
          either_outcome setup (s.hold == 0) (re.repl_recast setup s.epoch (Some own)) (done (up s.count ∷ [])) (repl-recast setup s.epoch (Some own)) tt;
    })

repl-marked : (setup : Setup) (s : ReplState) (x : ℕ) (m : Option Message) → Out setup (re.repl_marked setup s x m)
repl-marked setup s x None = record { holds = tt }
repl-marked setup s x (Some m) =
    let marked : ReplState = re.repl_mark setup s m in
    either setup (x == 0) (repl-drain setup marked)
    (either setup (x == 1) (repl-drain setup (record marked { epoch = up s.epoch; hold = 1 })) (record { holds = tt }))

repl-out : (setup : Setup) (s : ReplState) (m : Moment) → Out setup (re.repl_step setup s m)
repl-out setup s (Moment.Begin handler arg) =
    either setup (handler == 0) (repl-cast setup s (word arg 0) (word arg 1))
    (either setup (handler == 1) (repl-drain setup _)
    (either setup (handler == 2)
    (either setup (word arg 0 == s.epoch) (repl-go_on setup (record s { hold = 0 }) 0) (record { holds = tt })) (record { holds = tt })))
repl-out setup s (Moment.Resume handler frame reply) =
    either setup (handler == 0) (record { holds = tt })
    (either setup (handler == 1)
    (either setup (nat_lt (word frame 0) 3) (repl-marked setup s (word frame 0) (re.first_of s.epoch s.early))
    (either setup (word frame 0 == 3) (repl-drain setup s) (record { holds = tt })))
    (either setup (handler == 2) (repl-go_on setup s (word frame 0)) (record { holds = tt })))

-- a step of a box, whatever its state
pub link_given : (setup : Setup) → port_at setup 0 ≡ wire → (s : State) (m : Moment) → IsOut setup (kind_step Link setup s m).1
link_given setup first (OfLink s) m = (link-out setup first s m).holds
link_given setup first _ m = tt

pub fd_given : (setup : Setup) (s : State) (m : Moment) → IsOut setup (kind_step Fd setup s m).1
fd_given setup (OfFd s) m = (fd-out setup s m).holds
fd_given setup _ m = tt

pub views_given : (setup : Setup) (s : State) (m : Moment) → IsOut setup (kind_step Views setup s m).1
views_given setup (OfViews s) m = (views-out setup s m).holds
views_given setup _ m = tt

pub seqcast_given : (setup : Setup) (s : State) (m : Moment) → IsOut setup (kind_step Seqcast setup s m).1
seqcast_given setup (OfSeqcast s) m = (seqcast-out setup s m).holds
seqcast_given setup _ m = tt

pub repl_given : (setup : Setup) (s : State) (m : Moment) → IsOut setup (kind_step Repl setup s m).1
repl_given setup (OfRepl s) m = (repl-out setup s m).holds
repl_given setup _ m = tt

pub cons_given : (setup : Setup) (s : State) (m : Moment) → IsOut setup (kind_step Cons setup s m).1
cons_given setup s m = go (kind_step Cons setup s m).1 (cons-step setup s m)
  where
    go : (o : Outcome) → ConsSays setup o → IsOut setup o
    go o (ConsNothing h) = is_done_out setup o h
    go o (ConsTells to tag b ts x frame e) = subst (IsOut setup) (sym e) tt
    go o (ConsAnnounces instance x e) = subst (IsOut setup) (sym e) tt
    go o (ConsDecides instance x e) = subst (IsOut setup) (sym e) tt

pub abcast_given : (setup : Setup) (s : State) (m : Moment) → IsOut setup (kind_step Abcast setup s m).1
abcast_given setup s m = go (kind_step Abcast setup s m).1 (abcast-step setup s m)
  where
    go : (o : Outcome) → AbSays setup o → IsOut setup o
    go o (AbNothing h) = is_done_out setup o h
    go o (AbCasts x e) = subst (IsOut setup) (sym e) tt
    go o (AbProposes instance x e) = subst (IsOut setup) (sym e) tt
    go o (AbHandsOn instance x e) = subst (IsOut setup) (sym e) tt

pub rbcast_given : (setup : Setup) (s : State) (m : Moment) → IsOut setup (kind_step Rbcast setup s m).1
rbcast_given setup s m = go (kind_step Rbcast setup s m).1 (rbcast-step setup s m)
  where
    go : (o : Outcome) → RbShape setup m o → IsOut setup o
    go o (Casts arg at number e) = subst (IsOut setup) (sym e) tt
    go o (Relays arg at e) = subst (IsOut setup) (sym e) tt
    go o (HandsUp i frame reply at first next second e) = subst (IsOut setup) (sym e) tt
    go o (Rests h) = is_done_out setup o h
