-- The replacement layers of a group history are ordered by the broadcasts below them; so their streams are comparable.
use Rattle.std.proofs.Common.{◌≡◌, ◌≢◌, ◌⊎◌, ◌<◌, ◌≤◌, ◌^◌, ℕ, zero, suc, inl, inr, refl, sym, ap, subst, ◌∙◌, append_assoc, append-nil, arith, List, [], ◌∷◌, ◌++◌, length, length-append, map, Some, Bool, true, false, ◌==◌, if◌then◌else◌}
use Rattle.std.specs.Prelude.{filter, slice_get}
use Rattle.std.proofs.lemmas.Bool.Decides.{eqb_tells}
use Rattle.std.proofs.lemmas.List.{map-append}
use Rattle.samoa_model.specs.declared.ids.ChangeId.{ChangeId}
use Rattle.samoa_model.specs.declared.ids.HandlerId.{HandlerId}
use Rattle.samoa_model.specs.declared.handler.Moment.{Moment}
use Rattle.samoa_model.specs.declared.record.Ext.{Ext}
use Rattle.samoa_model.specs.declared.script.Script.{Script}
use Rattle.samoa_serial.specs.Rows.{change_at_place, message_at, word}
use Rattle.samoa_serial.specs.declared.message.Message.{Message}
use Rattle.samoa_laws.specs.trace.Trace.{HandlerStep, trace}
use Rattle.samoa_laws.specs.trace.Causes.{EndsWell, IsTrace}
use Rattle.samoa_laws.specs.trace.Group.{Asking, IsGroupHistory, handler, rebindings_at}
use Rattle.samoa_laws.proofs.transport.Accepted.{group_length}
use Rattle.samoa_laws.proofs.trace.Points.{point, trace-is_trace}
use Rattle.samoa_laws.proofs.trace.Steps.{Before, before}
use Rattle.samoa_laws.proofs.trace.Worlds.{event_for}
use Rattle.samoa_laws.proofs.lists.Lists.{comparable_begins}
use Rattle.samoa_laws.specs.lists.Lists.{Begins, Comparable}
use Rattle.samoa_laws.specs.lists.Messages.{first_places}
use Rattle.samoa_serial.specs.Lists.{In}
use Rattle.samoa_laws.specs.replacement.Group.{IsGroup as AreBoxes, IsOrdered, Up, called_by, messages_of}
use Rattle.samoa_laws.specs.replacement.History.{IsHistory, Step, asked, asked_at, begun, begun_in, below, last_value, left_by, marks, stream, up_to}
use Rattle.samoa_laws.proofs.replacement.Casts.{got_of_map, got_up_to}
use Rattle.samoa_laws.proofs.replacement.Groups.{streams_comparable}
use Rattle.samoa_laws.proofs.replacement.Histories.{asked_each, settled}
use Rattle.samoa_laws.specs.streams.Ordered.{IsBroadcast, AreSubmitted, KeepsOrder, WasSubmitted, broadcast_of, caller, in_place, protocol, up_in, ups_at}
use Rattle.samoa_laws.specs.streams.Streams.{repl_setup, is_repl, repl_at, repl_step_of, stream_at}
use Rattle.samoa_laws.proofs.streams.Askings.{pair}
use Rattle.samoa_laws.proofs.streams.Bound.{in_place-last}
use Rattle.samoa_laws.proofs.streams.Settled.{are_asked, repl_at-append, stream_extends}
use Rattle.samoa_laws.proofs.streams.Submitted.{GivenBy, IsOfEpoch, given_by, of_epoch}
use Rattle.samoa_laws.proofs.streams.Views.{goes_on_at, history_at, length-repl_at, rests_at}
use Rattle.samoa_laws.proofs.streams.Words.{stream_is}

-- the messages that came up are those with which `deliver` began
messages_in : (by : ℕ) (m : Moment) → messages_of (up_in by m) ≡ begun_in m
messages_in by (Moment.Begin i arg) = go (i == 1)
  where
    go : (b : Bool) → messages_of (if b then record { by = by; message = message_at arg 0 } ∷ [] else []) ≡ (if b then message_at arg 0 ∷ [] else [])
    go true = refl
    go false = refl
messages_in by (Moment.Resume i frame reply) = refl

pub ups_begun : (v : ℕ) (past : List HandlerStep) → messages_of (ups_at v past) ≡ begun (repl_at v past)
ups_begun v [] = refl
ups_begun v (x ∷ past) = go (is_repl v x) (ups_begun v past)
  where
    go : (b : Bool) → messages_of (ups_at v past) ≡ begun (repl_at v past)
        → messages_of (ups_at v past ++ (if b then up_in (caller past) x.moment else [])) ≡ begun (if b then repl_step_of x ∷ repl_at v past else repl_at v past)
    go true ih =
        map-append (λ (c : Up). c.message) (ups_at v past) (up_in (caller past) x.moment)
        ∙ (ap (λ (ms : List Message). ms ++ messages_of (up_in (caller past) x.moment)) ih ∙ ap (λ (ms : List Message). begun (repl_at v past) ++ ms) (messages_in (caller past) x.moment))
    go false ih = ap messages_of (append-nil (ups_at v past)) ∙ ih

-- ---- what the rebindings put in place is what the marks decide
got_in_prefix : {A : Type 0} (l m : List A) (i : ℕ) (x : A) → Begins l m → slice_get l i ≡ Some x → slice_get m i ≡ Some x
got_in_prefix {A} l m i x p e = ap (λ (k : List A). slice_get k i) p.is ∙ go l i e
  where
    go : (k : List A) (j : ℕ) → slice_get k j ≡ Some x → slice_get (k ++ p.rest) j ≡ Some x
    go [] j f = cc
    go (y ∷ k) zero f = f
    go (y ∷ k) (suc j) f = go k j f

record Got (rs : List Asking) (i : ℕ) : Type 0 where
  change : ChangeId
  arg : List ℕ
  there : slice_get (map pair rs) i ≡ Some (change, arg)

got_at : (rs : List Asking) (i : ℕ) → i < length rs → Got rs i
got_at [] i lt = absurd (omega arith)
got_at (r ∷ rs) zero lt = record { change = r.change; arg = r.arg; there = refl }
got_at (r ∷ rs) (suc i) lt = let g : Got rs i = got_at rs i (omega arith) in record { change = g.change; arg = g.arg; there = g.there }

-- the value of a change message says which broadcast
value_says : (script : Script) (w n : ℕ) → broadcast_of (change_at_place (repl_setup script w) n).0 ≡ broadcast_of n
value_says script w zero = refl
value_says script w (suc zero) = refl
value_says script w (suc (suc n)) = go (eqb_tells (suc (suc n)) 1)
  where
    go : ((suc (suc n) == 1) ≡ true) × (suc (suc n) ≡ 1) ⊎ ((suc (suc n) == 1) ≡ false) × (suc (suc n) ≢ 1) → broadcast_of (change_at_place (repl_setup script w) (suc (suc n))).0 ≡ broadcast_of (suc (suc n))
    go (inl e) = absurd (let one : suc (suc n) ≡ 1 = e.1 in omega (arith, one))
    go (inr e) = sym (ap (λ (b : Bool). if b then 4 else 5) e.0)

pub decided : (script : Script) (exts : List Ext) → IsGroupHistory script exts → (w : ℕ) (before later : List Ext) → exts ≡ before ++ later → (e : ℕ) → length (rebindings_at w before) ≡ e
    → in_place 4 (rebindings_at w before) ≡ protocol e (below e (marks (repl_at w (trace script exts))))
decided script exts history w before later is zero len = none (rebindings_at w before) len
  where
    none : (rs : List Asking) → length rs ≡ 0 → in_place 4 rs ≡ 4
    none [] l = refl
    none (r ∷ rs) l = absurd (omega (arith, l))
decided script exts history w before later is (suc e) len =
    in_place-last 4 (rebindings_at w before) e g.change g.arg len g.there
    ∙ (ap (λ (q : ChangeId × List ℕ). broadcast_of q.0.0) (sym n.2) ∙ (ap (λ (k : ℕ). broadcast_of (asked_at (repl_setup script w) (marks steps) k).0.0) place.1
    ∙ value_says script w (last_value 0 (below (suc e) (marks steps)))))
  where
    steps : List Step
    steps = repl_at w (trace script exts)

    t : IsTrace script exts (trace script exts)
    t = trace-is_trace script exts

    small : length steps < 2 ^ 64
    small =
        let short : length (trace script exts) < 2 ^ 32 = group_length script exts history in
        let fewer : length steps ≤ length (trace script exts) = length-repl_at w (trace script exts) in
        omega (arith, short, fewer)

    g : Got (rebindings_at w before) e
    g = got_at (rebindings_at w before) e (omega (arith, len))

    each : asked steps ≡ map (asked_at (repl_setup script w) (marks steps)) (up_to (left_by steps).epoch)
    each =
        asked_each (repl_setup script w) steps (history_at script exts history.group w (trace script exts) t) (goes_on_at script exts history.group w (trace script exts) t) small
        (rests_at script exts history.group w (trace script exts) t (point script exts).ended)

    there : slice_get (map (asked_at (repl_setup script w) (marks steps)) (up_to (left_by steps).epoch)) e ≡ Some (g.change, g.arg)
    there =
        ap (λ (l : List (ChangeId × List ℕ)). slice_get l e) (sym each)
        ∙ got_in_prefix (map pair (rebindings_at w before)) (asked steps) e (g.change, g.arg) (are_asked script exts history w before later is) g.there

    n : (k : ℕ) × (slice_get (up_to (left_by steps).epoch) e ≡ Some k) × (asked_at (repl_setup script w) (marks steps) k ≡ (g.change, g.arg))
    n = got_of_map (asked_at (repl_setup script w) (marks steps)) (up_to (left_by steps).epoch) e (g.change, g.arg) there

    place : (e < (left_by steps).epoch) × (n.0 ≡ e)
    place = got_up_to (left_by steps).epoch e n.0 n.1

-- ---- what the broadcasts owe
-- a message that came up is of an epoch that some node reached, and came by the broadcast that the marks there decide
abbrev Called : Script → List Ext → Up → Type 0
Called script exts c = (w : ℕ) × (c.message.epoch ≤ (left_by (repl_at w (trace script exts))).epoch)
    × (c.by ≡ protocol c.message.epoch (below c.message.epoch (marks (repl_at w (trace script exts)))))

called : (script : Script) (exts : List Ext) → IsGroupHistory script exts → (c : Up) → WasSubmitted (trace script exts) c → Called script exts c
called script exts history c s = (w, reached, by)
  where
    t : IsTrace script exts (trace script exts)
    t = trace-is_trace script exts

    b : Before script exts (trace script exts) s.step
    b = before script exts (trace script exts) s.step t s.there

    stands : event_for s.step.call.handler ≡ 12
    stands = ap event_for s.handler_is ∙ go s.broadcast
      where
        go : (c.by ≡ 4) ⊎ (c.by ≡ 5) → event_for (handler c.by 0) ≡ 12
        go (inl e) = ap (λ (p : ℕ). event_for (handler p 0)) e
        go (inr e) = ap (λ (p : ℕ). event_for (handler p 0)) e

    g : GivenBy script exts b.earlier s.step.call.handler s.arg
    g = given_by script exts history b.earlier s.step b.is_trace b.follows stands s.arg s.moment

    w : ℕ
    w = g.step.node

    y : HandlerStep
    y = g.step

    past : List HandlerStep
    past = g.part.earlier

    more : List HandlerStep
    more = (b.more ++ s.step ∷ []) ++ g.part.more

    split : trace script exts ≡ more ++ y ∷ past
    split =
        b.split ∙ (ap (λ (zs : List HandlerStep). b.more ++ s.step ∷ zs) g.part.split
        ∙ (sym (append_assoc b.more (s.step ∷ []) (g.part.more ++ y ∷ past)) ∙ sym (append_assoc (b.more ++ s.step ∷ []) g.part.more (y ∷ past))))

    small : length (trace script exts) < 2 ^ 32
    small = group_length script exts history

    part_small : length (y ∷ past) < 2 ^ 64
    part_small =
        let all : length (trace script exts) ≡ length (more ++ y ∷ past) = ap (λ (zs : List HandlerStep). length zs) split in
        omega (arith, small, all, length-append more (y ∷ past))

    o : IsOfEpoch script exts past y g.part.follows s.arg
    o = of_epoch script exts history past y (g.part.follows, g.part.is_trace) part_small g.part.follows g.six g.event s.arg g.frame g.outcome g.twelve

    epoch_is : c.message.epoch ≡ word s.arg 0
    epoch_is = ap (λ (m : Message). m.epoch) s.message

    final : List Step
    final = repl_at w (trace script exts)

    final_is : final ≡ repl_at w more ++ repl_at w (y ∷ past)
    final_is = ap (λ (zs : List HandlerStep). repl_at w zs) split ∙ repl_at-append w more (y ∷ past)

    steps : IsHistory (repl_setup script w) (repl_at w more ++ repl_at w (y ∷ past))
    steps = subst (IsHistory (repl_setup script w)) final_is (history_at script exts history.group w (trace script exts) t)

    final_small : length (repl_at w more ++ repl_at w (y ∷ past)) < 2 ^ 64
    final_small =
        let fewer : length final ≤ length (trace script exts) = length-repl_at w (trace script exts) in
        let same : length final ≡ length (repl_at w more ++ repl_at w (y ∷ past)) = ap (λ (l : List Step). length l) final_is in
        omega (arith, small, fewer, same)

    reached : c.message.epoch ≤ (left_by final).epoch
    reached =
        let le : word s.arg 0 ≤ (left_by (repl_at w (y ∷ past))).epoch = let e : word s.arg 0 ≡ (left_by (repl_at w (y ∷ past))).epoch = o.epoch in omega arith in
        let later = settled (repl_setup script w) (repl_at w more) (repl_at w (y ∷ past)) steps final_small (word s.arg 0) le in
        subst (λ (l : List Step). c.message.epoch ≤ (left_by l).epoch) (sym final_is) (subst (λ (e : ℕ). e ≤ (left_by (repl_at w more ++ repl_at w (y ∷ past))).epoch) (sym epoch_is) later.0)

    by : c.by ≡ protocol c.message.epoch (below c.message.epoch (marks final))
    by =
        ap (λ (h : HandlerId). h.micro.0) (sym s.handler_is ∙ g.bound)
        ∙ (decided script exts history w (g.part.follows.before ++ g.part.follows.ext ∷ []) g.part.follows.later
        (g.part.follows.admitted ∙ sym (append_assoc g.part.follows.before (g.part.follows.ext ∷ []) g.part.follows.later)) (word s.arg 0) o.rebindings
        ∙ ap (λ (e : ℕ). protocol e (below e (marks final))) (sym epoch_is))

-- nothing comes by any other
none_by : (p : ℕ) (ups : List Up) → ((c : Up) → In c ups → c.by ≢ p) → called_by p ups ≡ []
none_by p [] none = refl
none_by p (c ∷ ups) none = go (eqb_tells c.by p) (none_by p ups (λ d there. none d (inr there)))
  where
    go : ((c.by == p) ≡ true) × (c.by ≡ p) ⊎ ((c.by == p) ≡ false) × (c.by ≢ p) → called_by p ups ≡ [] → called_by p (c ∷ ups) ≡ []
    go (inl same) ih = absurd (none c (inl refl) same.1)
    go (inr other) ih = ap (λ (b : Bool). messages_of (if b then c ∷ filter (λ (d : Up). d.by == p) ups else filter (λ (d : Up). d.by == p) ups)) other.0 ∙ ih

in_order : (script : Script) (exts : List Ext) → KeepsOrder script exts → AreSubmitted script exts → (p v u : ℕ)
    → Comparable (first_places (called_by p (ups_at v (trace script exts)))) (first_places (called_by p (ups_at u (trace script exts))))
in_order script exts keeps submitted p v u = go (eqb_tells p 4) (eqb_tells p 5)
  where
    none : p ≢ 4 → p ≢ 5 → (w : ℕ) → called_by p (ups_at w (trace script exts)) ≡ []
    none four five w = none_by p (ups_at w (trace script exts)) (λ c there is. other c.by is (submitted w c there).broadcast)
      where
        other : (q : ℕ) → q ≡ p → IsBroadcast q → ⊥
        other q is (inl e) = four (sym is ∙ e)
        other q is (inr e) = five (sym is ∙ e)

    go : ((p == 4) ≡ true) × (p ≡ 4) ⊎ ((p == 4) ≡ false) × (p ≢ 4) → ((p == 5) ≡ true) × (p ≡ 5) ⊎ ((p == 5) ≡ false) × (p ≢ 5)
        → Comparable (first_places (called_by p (ups_at v (trace script exts)))) (first_places (called_by p (ups_at u (trace script exts))))
    go (inl four) five = keeps p (inl four.1) v u
    go (inr four) (inl five) = keeps p (inr five.1) v u
    go (inr four) (inr five) =
        subst (λ (l : List Message). Comparable (first_places l) (first_places (called_by p (ups_at u (trace script exts))))) (sym (none four.1 five.1 v))
        (inl (record { rest = first_places (called_by p (ups_at u (trace script exts))); is = refl }))

pub ordered : (script : Script) (exts : List Ext) → IsGroupHistory script exts → KeepsOrder script exts → AreSubmitted script exts
    → IsOrdered (λ v. repl_at v (trace script exts)) (λ v. ups_at v (trace script exts)) protocol
ordered script exts history keeps submitted = record {
  begun = λ v. ups_begun v (trace script exts);
  called = λ v c there reached. called script exts history c (submitted v c there);
  order = in_order script exts keeps submitted;
}

pub boxes : (script : Script) (exts : List Ext) → IsGroupHistory script exts → AreBoxes 2 (repl_setup script) (λ v. repl_at v (trace script exts))
boxes script exts history = record {
  changes = λ v. refl;
  history = λ v. history_at script exts history.group v (trace script exts) (trace-is_trace script exts);
  short = λ v. small v;
}
  where
    small : (v : ℕ) → length (repl_at v (trace script exts)) < 2 ^ 64
    small v =
        let short : length (trace script exts) < 2 ^ 32 = group_length script exts history in
        let fewer : length (repl_at v (trace script exts)) ≤ length (trace script exts) = length-repl_at v (trace script exts) in
        omega (arith, short, fewer)

-- of the streams of any two nodes one begins the other
pub comparable : (script : Script) (exts : List Ext) → IsGroupHistory script exts → KeepsOrder script exts → AreSubmitted script exts
    → (v u : ℕ) → Comparable (stream_at script exts v) (stream_at script exts u)
comparable script exts history keeps submitted v u =
    subst (λ (l : List (List ℕ)). Comparable l (stream_at script exts u)) (sym (stream_is script exts v))
    (subst (λ (l : List (List ℕ)). Comparable (stream (repl_at v past)) l) (sym (stream_is script exts u))
    (streams_comparable 2 (repl_setup script) (λ w. repl_at w past) (λ w. ups_at w past) protocol (boxes script exts history) (ordered script exts history keeps submitted) v u
    (goes_on_at script exts history.group v past t) (goes_on_at script exts history.group u past t) (rests_at script exts history.group v past t ended) (rests_at script exts history.group u past t ended)))
  where
    past : List HandlerStep
    past = trace script exts

    t : IsTrace script exts past
    t = trace-is_trace script exts

    ended : EndsWell past
    ended = (point script exts).ended

-- at any two times
pub comparable_then : (script : Script) (exts : List Ext) → IsGroupHistory script exts → KeepsOrder script exts → AreSubmitted script exts
    → (now more past later : List Ext) → exts ≡ now ++ more → exts ≡ past ++ later → (v u : ℕ) → Comparable (stream_at script now v) (stream_at script past u)
comparable_then script exts history keeps submitted now more past later is also v u =
    comparable_begins (stream_at script exts v) (stream_at script exts u) (stream_at script now v) (stream_at script past u) (comparable script exts history keeps submitted v u)
    (subst (λ (xs : List Ext). Begins (stream_at script now v) (stream_at script xs v)) (sym is) (stream_extends script now more v))
    (subst (λ (xs : List Ext). Begins (stream_at script past u) (stream_at script xs u)) (sym also) (stream_extends script past later u))
