-- What goes on within a call of a broadcast's `cast`: it never comes back to the replacement layer.
use Rattle.std.proofs.Common.{◌≡◌, ◌≢◌, ◌⊎◌, ℕ, suc, inl, inr, refl, sym, ap, subst, ◌∙◌, arith, drop, take, List, [], ◌∷◌, ◌++◌, Some, true, false, ◌==◌, ◌||◌, if◌then◌else◌}
use Rattle.std.specs.Prelude.{is_some, nat_lt}
use Rattle.std.proofs.lemmas.Bool.Decides.{eqb_tells}
use Rattle.samoa_model.specs.declared.ids.EventId.{EventId}
use Rattle.samoa_model.specs.declared.ids.HandlerId.{HandlerId}
use Rattle.samoa_model.specs.declared.handler.Moment.{Moment}
use Rattle.samoa_model.specs.declared.handler.Outcome.{Outcome}
use Rattle.samoa_model.specs.declared.handler.Reply.{Reply}
use Rattle.samoa_model.specs.declared.setup.Kind.TheVariants.{Abcast, Cons, Seqcast}
use Rattle.samoa_model.specs.declared.setup.Setup.{Setup}
use Rattle.samoa_serial.specs.declared.message.Message.{Message}
use Rattle.samoa_serial.specs.AbcastTable as ab
use Rattle.samoa_serial.specs.ConsTable as co
use Rattle.samoa_serial.specs.Kinds.{kind_step}
use Rattle.samoa_serial.specs.Rows.{has_key, me, message_at, message_key, port_at, word}
use Rattle.samoa_serial.specs.SeqcastTable as sq
use Rattle.samoa_serial.specs.State.{AbcastState, ConsState, OfAbcast, OfCons, OfSeqcast, SeqcastState, State}
use Rattle.samoa_serial.specs.Lists.{In}
use Rattle.samoa_laws.specs.trace.Causes.{frame_of}
use Rattle.samoa_laws.specs.trace.Group.{handler}
use Rattle.samoa_laws.proofs.trace.Shapes.{Asks, AtPort, Casts, Hands, HandsUp, IsDone, IsQuiet, LinkShape, Quiet, RbShape, Relays, Rests, Sends, Silent, link-step, rbcast-step}
use Rattle.samoa_serial.proofs.RowLaws.{Row, either}
use Rattle.samoa_laws.proofs.trace.Worlds.{group_micro, group_setup}
use Rattle.samoa_laws.specs.replacement.Casts.{handler_of}
use Rattle.samoa_laws.proofs.streams.Listed.{IsListed}

-- the moments within such a call
pub data Down (h : HandlerId) (m : Moment) : Type 0 where
  DownSends : h ≡ handler 0 0 → Down h m
  DownSpreads : h ≡ handler 2 0 → ((arg : List ℕ) → m ≡ Moment.Begin 0 arg → word arg 0 ≢ 1)
      → ((frame : List ℕ) (reply : Reply) → m ≡ Moment.Resume 0 frame reply → word frame 0 ≡ 1 → word frame 3 ≢ 1) → Down h m
  DownProposes : h ≡ handler 3 0 → Down h m
  DownIgnores : h ≡ handler 3 2 → ((arg : List ℕ) → m ≡ Moment.Begin 2 arg → word arg 2 ≢ 1) → Down h m
  DownCasts : h ≡ handler 4 0 → Down h m
  DownHears : h ≡ handler 4 1 → Down h m
  DownSubmits : h ≡ handler 5 0 → Down h m

-- none of them is the replacement layer's
pub not_repl : (h : HandlerId) (m : Moment) → Down h m → h.micro.0 ≢ 6
not_repl h m (DownSends is) six = let p : h.micro.0 ≡ 0 = ap (λ (g : HandlerId). g.micro.0) is in omega (arith, p, six)
not_repl h m (DownSpreads is b r) six = let p : h.micro.0 ≡ 2 = ap (λ (g : HandlerId). g.micro.0) is in omega (arith, p, six)
not_repl h m (DownProposes is) six = let p : h.micro.0 ≡ 3 = ap (λ (g : HandlerId). g.micro.0) is in omega (arith, p, six)
not_repl h m (DownIgnores is b) six = let p : h.micro.0 ≡ 3 = ap (λ (g : HandlerId). g.micro.0) is in omega (arith, p, six)
not_repl h m (DownCasts is) six = let p : h.micro.0 ≡ 4 = ap (λ (g : HandlerId). g.micro.0) is in omega (arith, p, six)
not_repl h m (DownHears is) six = let p : h.micro.0 ≡ 4 = ap (λ (g : HandlerId). g.micro.0) is in omega (arith, p, six)
not_repl h m (DownSubmits is) six = let p : h.micro.0 ≡ 5 = ap (λ (g : HandlerId). g.micro.0) is in omega (arith, p, six)

-- a call that stays within
pub data Below (e : ℕ) (arg : List ℕ) : Type 0 where
  OfSend : e ≡ 1 → Below e arg
  OfUp : e ≡ 7 → word arg 2 ≢ 1 → Below e arg
  OfSpread : e ≡ 8 → word arg 0 ≢ 1 → Below e arg
  OfPropose : e ≡ 10 → Below e arg

begin_arg : (i : ℕ) (a b : List ℕ) → Moment.Begin i a ≡ Moment.Begin i b → b ≡ a
begin_arg i a b e = cc

pub below_down : (e : ℕ) (arg : List ℕ) → Below e arg → (hs : List HandlerId) → IsListed e hs → (g : HandlerId) → In g hs → Down g (Moment.Begin g.index arg)
below_down e arg (OfSend is) hs l g there = go (subst (λ (xs : List HandlerId). In g xs) (l.send is) there)
  where
    go : In g (handler 0 0 ∷ []) → Down g (Moment.Begin g.index arg)
    go (inl same) = DownSends same
    go (inr out) = absurd out
below_down e arg (OfPropose is) hs l g there = go (subst (λ (xs : List HandlerId). In g xs) (l.propose is) there)
  where
    go : In g (handler 3 0 ∷ []) → Down g (Moment.Begin g.index arg)
    go (inl same) = DownProposes same
    go (inr out) = absurd out
below_down e arg (OfSpread is ne) hs l g there = go (subst (λ (xs : List HandlerId). In g xs) (l.rb_cast is) there)
  where
    go : In g (handler 2 0 ∷ []) → Down g (Moment.Begin g.index arg)
    go (inl same) = DownSpreads same
        (λ a e one. ne (ap (λ (ws : List ℕ). word ws 0) (sym (begin_arg 0 arg a (ap (λ (h : HandlerId). Moment.Begin h.index arg) (sym same) ∙ e))) ∙ one))
        (λ frame reply e. cc)
    go (inr out) = absurd out
below_down e arg (OfUp is ne) hs l g there = go (subst (λ (xs : List HandlerId). In g xs) (l.rb_up is) there)
  where
    go : In g (handler 3 2 ∷ handler 4 1 ∷ []) → Down g (Moment.Begin g.index arg)
    go (inl same) = DownIgnores same
        (λ a e one. ne (ap (λ (ws : List ℕ). word ws 2) (sym (begin_arg 2 arg a (ap (λ (h : HandlerId). Moment.Begin h.index arg) (sym same) ∙ e))) ∙ one))
    go (inr (inl same)) = DownHears same
    go (inr (inr out)) = absurd out

-- ---- the tables
abbrev Only : Setup → ℕ → Outcome → Type 0
Only setup port o = Asks setup (port ∷ []) o

propose_row : (setup : Setup) (s : ConsState) (i : ℕ) (m : Message) → Row (Only setup 0) (co.cons_propose setup s i m)
propose_row setup s i m =
    either (Only setup 0) (is_some (co.instance_of s.instances i)) (record { holds = Quiet tt }) (record { holds = AtPort 0 (inl refl) _ _ refl })

propose_only : (setup : Setup) (s : ConsState) (m : Moment) → handler_of m ≡ 0 → Only setup 0 (co.cons_step setup s m).1
propose_only setup s (Moment.Begin i arg) is =
    subst (λ (n : ℕ). Only setup 0 (co.cons_step setup s (Moment.Begin n arg)).1) (sym is) (propose_row setup s (word arg 0) (message_at arg 1)).holds
propose_only setup s (Moment.Resume i frame reply) is = subst (λ (n : ℕ). Only setup 0 (co.cons_step setup s (Moment.Resume n frame reply)).1) (sym is) (Quiet tt)

ignore_only : (setup : Setup) (s : ConsState) (m : Moment) → handler_of m ≡ 2 → ((arg : List ℕ) → m ≡ Moment.Begin 2 arg → word arg 2 ≢ 1) → IsDone (co.cons_step setup s m).1
ignore_only setup s (Moment.Begin i arg) is ne =
    subst (λ (n : ℕ). IsDone (co.cons_step setup s (Moment.Begin n arg)).1) (sym is) (go (eqb_tells (word arg 2) 1))
  where
    go : ((word arg 2 == 1) ≡ true) × (word arg 2 ≡ 1) ⊎ ((word arg 2 == 1) ≡ false) × (word arg 2 ≢ 1) → IsDone (co.cons_step setup s (Moment.Begin 2 arg)).1
    go (inl e) = absurd (ne arg (ap (λ (n : ℕ). Moment.Begin n arg) is) e.1)
    go (inr e) = rw e.0 tt
ignore_only setup s (Moment.Resume i frame reply) is ne = subst (λ (n : ℕ). IsDone (co.cons_step setup s (Moment.Resume n frame reply)).1) (sym is) tt

offer_row : (setup : Setup) (s : AbcastState) (pending : List Message) → Row (Only setup 1) (ab.abcast_offer setup s pending)
offer_row setup s [] = record { holds = Quiet tt }
offer_row setup s (x ∷ xs) = either (Only setup 1) (nat_lt s.proposed s.next) (record { holds = AtPort 1 (inl refl) _ _ refl }) (record { holds = Quiet tt })

heard_row : (setup : Setup) (s : AbcastState) (m : Message) → Row (Only setup 1) (ab.abcast_heard setup s m)
heard_row setup s m =
    let pending : List Message = if ab.has_message s.pending (message_key m) || has_key s.done (message_key m) then s.pending else s.pending ++ m ∷ [] in
    offer_row setup (record s { pending = pending }) pending

hear_row : (setup : Setup) (s : AbcastState) (arg : List ℕ) → Row (Only setup 1) (ab.abcast_step setup s (Moment.Begin 1 arg))
hear_row setup s arg = either (Only setup 1) (word arg 2 == 0) (heard_row setup s (message_at arg 3)) (record { holds = Quiet tt })

hear_only : (setup : Setup) (s : AbcastState) (m : Moment) → handler_of m ≡ 1 → Only setup 1 (ab.abcast_step setup s m).1
hear_only setup s (Moment.Begin i arg) is = subst (λ (n : ℕ). Only setup 1 (ab.abcast_step setup s (Moment.Begin n arg)).1) (sym is) (hear_row setup s arg).holds
hear_only setup s (Moment.Resume i frame reply) is = subst (λ (n : ℕ). Only setup 1 (ab.abcast_step setup s (Moment.Resume n frame reply)).1) (sym is) (Quiet tt)

-- abcast's cast: what it casts begins with 0
pub data Spreads (setup : Setup) (o : Outcome) : Type 0 where
  SpreadsNot : IsDone o → Spreads setup o
  SpreadsOn : (arg frame : List ℕ) → o ≡ Outcome.Call (port_at setup 0) arg frame → word arg 0 ≡ 0 → Spreads setup o

cast_only : (setup : Setup) (s : AbcastState) (m : Moment) → handler_of m ≡ 0 → Spreads setup (ab.abcast_step setup s m).1
cast_only setup s (Moment.Begin i arg) is = subst (λ (n : ℕ). Spreads setup (ab.abcast_step setup s (Moment.Begin n arg)).1) (sym is) (SpreadsOn _ _ refl refl)
cast_only setup s (Moment.Resume i frame reply) is = subst (λ (n : ℕ). Spreads setup (ab.abcast_step setup s (Moment.Resume n frame reply)).1) (sym is) (SpreadsNot tt)

submit_only : (setup : Setup) (s : SeqcastState) (m : Moment) → handler_of m ≡ 0 → Only setup 0 (sq.seqcast_step setup s m).1
submit_only setup s (Moment.Begin i arg) is = subst (λ (n : ℕ). Only setup 0 (sq.seqcast_step setup s (Moment.Begin n arg)).1) (sym is) (AtPort 0 (inl refl) _ _ refl)
submit_only setup s (Moment.Resume i frame reply) is = subst (λ (n : ℕ). Only setup 0 (sq.seqcast_step setup s (Moment.Resume n frame reply)).1) (sym is) (Quiet tt)

-- ---- a step within calls only what is within
called_event : (o : Outcome) (e : EventId) (a f : List ℕ) (event : EventId) (arg frame : List ℕ) → o ≡ Outcome.Call e a f → o ≡ Outcome.Call event arg frame → (e ≡ event) × (a ≡ arg) × (f ≡ frame)
called_event o e a f event arg frame is calls = let both : Outcome.Call e a f ≡ Outcome.Call event arg frame = sym is ∙ calls in (cc, cc, cc)

only_calls : (setup : Setup) (port : ℕ) (o : Outcome) → Only setup port o → (event : EventId) (arg frame : List ℕ) → o ≡ Outcome.Call event arg frame → event ≡ port_at setup port
only_calls setup port o (Quiet q) event arg frame calls = absurd (subst IsQuiet calls q)
only_calls setup port o (AtPort p (inl same) a f is) event arg frame calls =
    sym (called_event o (port_at setup p) a f event arg frame is calls).0 ∙ ap (port_at setup) same
only_calls setup port o (AtPort p (inr out) a f is) event arg frame calls = absurd out

not_done : (o : Outcome) → IsDone o → (event : EventId) (arg frame : List ℕ) → o ≡ Outcome.Call event arg frame → ⊥
not_done o d event arg frame calls = subst IsDone calls d

word-take : (n : ℕ) (l : List ℕ) → word (take (suc n) l) 0 ≡ word l 0
word-take n [] = refl
word-take n (x ∷ l) = refl

word-drop : (l : List ℕ) → word (drop 3 l) 0 ≡ word l 3
word-drop [] = refl
word-drop (a ∷ []) = refl
word-drop (a ∷ b ∷ []) = refl
word-drop (a ∷ b ∷ c ∷ []) = refl
word-drop (a ∷ b ∷ c ∷ d ∷ l) = refl

index_of : (m : Moment) (i : ℕ) (arg : List ℕ) → m ≡ Moment.Begin i arg → handler_of m ≡ i
index_of m i arg e = ap handler_of e

link_calls : (setup : Setup) (m : Moment) (o : Outcome) → LinkShape setup m o → handler_of m ≡ 0 → (event : EventId) (arg frame : List ℕ) → o ≡ Outcome.Call event arg frame → ⊥
link_calls setup m o (Sends a begun is) zero_is event arg frame calls =
    let both : Outcome.Send _ _ _ _ ≡ Outcome.Call event arg frame = sym is ∙ calls in cc
link_calls setup m o (Hands a begun lt is) zero_is event arg frame calls = let one : handler_of m ≡ 1 = ap handler_of begun in omega (arith, one, zero_is)
link_calls setup m o (Silent q) zero_is event arg frame calls = subst IsQuiet calls q

rb_calls : (nodes v : ℕ) (m : Moment) (o : Outcome) → RbShape (group_setup nodes v 2) m o → handler_of m ≡ 0
    → ((frame : List ℕ) (reply : Reply) → m ≡ Moment.Resume 0 frame reply → word frame 0 ≡ 1 → word frame 3 ≢ 1)
    → (event : EventId) (arg frame : List ℕ) → o ≡ Outcome.Call event arg frame → Below event.0 arg
rb_calls nodes v m o (Casts a begun number is) zero_is passes event arg frame calls =
    OfSend (ap (λ (e : EventId). e.0) (sym (called_event o _ _ _ event arg frame is calls).0))
rb_calls nodes v m o (Relays a begun is) zero_is passes event arg frame calls = absurd (let one : handler_of m ≡ 1 = ap handler_of begun in omega (arith, one, zero_is))
rb_calls nodes v m o (HandsUp i g reply resumed one next two is) zero_is passes event arg frame calls =
    let c = called_event o _ _ _ event arg frame is calls in
    let i_is : i ≡ 0 = sym (ap handler_of resumed) ∙ zero_is in
    OfUp (ap (λ (e : EventId). e.0) (sym c.0))
    (λ bad. passes g reply (resumed ∙ ap (λ (n : ℕ). Moment.Resume n g reply) i_is) one
    (sym (word-take 9 (drop 3 g) ∙ word-drop g) ∙ (ap (λ (ws : List ℕ). word ws 2) c.1 ∙ bad)))
rb_calls nodes v m o (Rests d) zero_is passes event arg frame calls = absurd (not_done o d event arg frame calls)

-- by its kind, whatever the state
cons_only : (nodes v : ℕ) (s : State) (m : Moment) → handler_of m ≡ 0 → Only (group_setup nodes v 3) 0 (kind_step Cons (group_setup nodes v 3) s m).1
cons_only nodes v (OfCons s) m is = propose_only (group_setup nodes v 3) s m is
cons_only nodes v _ m is = Quiet tt

cons_none : (nodes v : ℕ) (s : State) (m : Moment) → handler_of m ≡ 2 → ((arg : List ℕ) → m ≡ Moment.Begin 2 arg → word arg 2 ≢ 1)
    → IsDone (kind_step Cons (group_setup nodes v 3) s m).1
cons_none nodes v (OfCons s) m is ne = ignore_only (group_setup nodes v 3) s m is ne
cons_none nodes v _ m is ne = tt

ab_cast_only : (nodes v : ℕ) (s : State) (m : Moment) → handler_of m ≡ 0 → Spreads (group_setup nodes v 4) (kind_step Abcast (group_setup nodes v 4) s m).1
ab_cast_only nodes v (OfAbcast s) m is = cast_only (group_setup nodes v 4) s m is
ab_cast_only nodes v _ m is = SpreadsNot tt

ab_hear_only : (nodes v : ℕ) (s : State) (m : Moment) → handler_of m ≡ 1 → Only (group_setup nodes v 4) 1 (kind_step Abcast (group_setup nodes v 4) s m).1
ab_hear_only nodes v (OfAbcast s) m is = hear_only (group_setup nodes v 4) s m is
ab_hear_only nodes v _ m is = Quiet tt

sq_only : (nodes v : ℕ) (s : State) (m : Moment) → handler_of m ≡ 0 → Only (group_setup nodes v 5) 0 (kind_step Seqcast (group_setup nodes v 5) s m).1
sq_only nodes v (OfSeqcast s) m is = submit_only (group_setup nodes v 5) s m is
sq_only nodes v _ m is = Quiet tt

-- the outcome of a step of this handler
abbrev pub outcome_at : ℕ → ℕ → HandlerId → State → Moment → Outcome
outcome_at nodes v h s m = (kind_step (group_micro h.micro.0).kind (group_setup nodes v h.micro.0) s m).1

abbrev CallsBelow : ℕ → ℕ → State → Moment → HandlerId → Type 0
CallsBelow nodes v s m h = handler_of m ≡ h.index → (event : EventId) (arg frame : List ℕ) → outcome_at nodes v h s m ≡ Outcome.Call event arg frame → Below event.0 arg

pub down_calls : (nodes v : ℕ) (s : State) (h : HandlerId) (m : Moment) → Down h m → CallsBelow nodes v s m h
down_calls nodes v s h m (DownSends is) =
    subst (CallsBelow nodes v s m) (sym is)
    (λ at event arg frame calls. absurd (link_calls (group_setup nodes v 0) m _ (link-step (group_setup nodes v 0) s m) at event arg frame calls))
down_calls nodes v s h m (DownSpreads is begins passes) =
    subst (CallsBelow nodes v s m) (sym is)
    (λ at event arg frame calls. rb_calls nodes v m _ (rbcast-step (group_setup nodes v 2) s m) at passes event arg frame calls)
down_calls nodes v s h m (DownProposes is) =
    subst (CallsBelow nodes v s m) (sym is)
    (λ at event arg frame calls. OfSend (ap (λ (e : EventId). e.0) (only_calls (group_setup nodes v 3) 0 _ (cons_only nodes v s m at) event arg frame calls)))
down_calls nodes v s h m (DownIgnores is ne) =
    subst (CallsBelow nodes v s m) (sym is)
    (λ at event arg frame calls. absurd (not_done _ (cons_none nodes v s m at ne) event arg frame calls))
down_calls nodes v s h m (DownCasts is) =
    subst (CallsBelow nodes v s m) (sym is)
    (λ at event arg frame calls. spread _ (ab_cast_only nodes v s m at) event arg frame calls)
  where
    spread : (o : Outcome) → Spreads (group_setup nodes v 4) o → (event : EventId) (arg frame : List ℕ) → o ≡ Outcome.Call event arg frame → Below event.0 arg
    spread o (SpreadsNot d) event arg frame calls = absurd (not_done o d event arg frame calls)
    spread o (SpreadsOn a f by first) event arg frame calls =
        let c = called_event o _ a f event arg frame by calls in
        OfSpread (ap (λ (e : EventId). e.0) (sym c.0)) (λ bad. let none : word arg 0 ≡ 0 = ap (λ (ws : List ℕ). word ws 0) (sym c.1) ∙ first in omega (arith, none, bad))
down_calls nodes v s h m (DownHears is) =
    subst (CallsBelow nodes v s m) (sym is)
    (λ at event arg frame calls. OfPropose (ap (λ (e : EventId). e.0) (only_calls (group_setup nodes v 4) 1 _ (ab_hear_only nodes v s m at) event arg frame calls)))
down_calls nodes v s h m (DownSubmits is) =
    subst (CallsBelow nodes v s m) (sym is)
    (λ at event arg frame calls. OfSend (ap (λ (e : EventId). e.0) (only_calls (group_setup nodes v 5) 0 _ (sq_only nodes v s m at) event arg frame calls)))

-- and goes on within
rb_frame : (setup : Setup) (m : Moment) (o : Outcome) → RbShape setup m o → handler_of m ≡ 0 → ((arg : List ℕ) → m ≡ Moment.Begin 0 arg → word arg 0 ≢ 1)
    → (frame : List ℕ) → frame_of o ≡ Some frame → word frame 0 ≡ 1 → word frame 3 ≢ 1
rb_frame setup m o (Casts a begun number is) zero_is ne frame gives one bad =
    let same : take 12 (1 ∷ me setup ∷ number ∷ take 8 a) ≡ frame = some_inj (sym (ap frame_of is) ∙ gives) in
    ne a begun (sym (word-take 7 a) ∙ (sym (word-take 8 (take 8 a)) ∙ (ap (λ (ws : List ℕ). word ws 3) same ∙ bad)))
  where
    some_inj : {a b : List ℕ} → Some a ≡ Some b → a ≡ b
    some_inj e = cc
rb_frame setup m o (Relays a begun is) zero_is ne frame gives one bad = let i : handler_of m ≡ 1 = ap handler_of begun in omega (arith, i, zero_is)
rb_frame setup m o (HandsUp i g reply resumed is_one next two is) zero_is ne frame gives one bad =
    let same : next ≡ frame = some_inj (sym (ap frame_of is) ∙ gives) in
    let is_two : word frame 0 ≡ 2 = ap (λ (ws : List ℕ). word ws 0) (sym same) ∙ two in
    omega (arith, one, is_two)
  where
    some_inj : {a b : List ℕ} → Some a ≡ Some b → a ≡ b
    some_inj e = cc
rb_frame setup m o (Rests d) zero_is ne frame gives one bad = go o d gives
  where
    go : (p : Outcome) → IsDone p → frame_of p ≡ Some frame → ⊥
    go (Outcome.Done reply) e f = cc
    go (Outcome.Call event arg g) e f = e
    go (Outcome.Later event arg g) e f = e
    go (Outcome.Send to event arg g) e f = e
    go (Outcome.Deliver arg g) e f = e
    go (Outcome.Change change arg g) e f = e

abbrev GoesOnBelow : ℕ → ℕ → State → Moment → HandlerId → Type 0
GoesOnBelow nodes v s m h = handler_of m ≡ h.index → (frame : List ℕ) (reply : Reply) → frame_of (outcome_at nodes v h s m) ≡ Some frame → Down h (Moment.Resume h.index frame reply)

resume_frame : (i : ℕ) (f g : List ℕ) (r q : Reply) → Moment.Resume i f r ≡ Moment.Resume i g q → f ≡ g
resume_frame i f g r q e = cc

spread_on : (nodes v : ℕ) (s : State) (m : Moment) → ((arg : List ℕ) → m ≡ Moment.Begin 0 arg → word arg 0 ≢ 1) → GoesOnBelow nodes v s m (handler 2 0)
spread_on nodes v s m ne at frame reply gives =
    DownSpreads refl (λ arg e. cc)
    (λ f r e one bad.
    let same : frame ≡ f = resume_frame 0 frame f reply r e in
    rb_frame (group_setup nodes v 2) m _ (rbcast-step (group_setup nodes v 2) s m) at ne frame gives
    (ap (λ (ws : List ℕ). word ws 0) same ∙ one) (ap (λ (ws : List ℕ). word ws 3) same ∙ bad))

pub down_goes_on : (nodes v : ℕ) (s : State) (h : HandlerId) (m : Moment) → Down h m → GoesOnBelow nodes v s m h
down_goes_on nodes v s h m (DownSends is) = λ at frame reply gives. DownSends is
down_goes_on nodes v s h m (DownProposes is) = λ at frame reply gives. DownProposes is
down_goes_on nodes v s h m (DownIgnores is ne) = λ at frame reply gives. DownIgnores is (λ arg e. cc)
down_goes_on nodes v s h m (DownCasts is) = λ at frame reply gives. DownCasts is
down_goes_on nodes v s h m (DownHears is) = λ at frame reply gives. DownHears is
down_goes_on nodes v s h m (DownSubmits is) = λ at frame reply gives. DownSubmits is
down_goes_on nodes v s h m (DownSpreads is ne passes) = subst (GoesOnBelow nodes v s m) (sym is) (spread_on nodes v s m ne)
