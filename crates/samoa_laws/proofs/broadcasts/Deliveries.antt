-- What `deliver` of the replacement layer begins with is what the two broadcasts call up.
use Rattle.std.proofs.Common.{◌≡◌, arith, ◌≢◌, ◌⊎◌, ℕ, inl, inr, refl, sym, ap, subst, ◌∙◌, append-nil, List, [], ◌∷◌, ◌++◌, map, filter, Bool, true, false, ◌&&◌, ◌==◌, eq-eqb, if◌then◌else◌, Option, Some, None}
use Rattle.std.proofs.lemmas.Bool.{eqb-true}
use Rattle.std.proofs.lemmas.Bool.Decides.{eqb_tells}
use Rattle.std.proofs.lemmas.List.{map-append}
use Rattle.std.proofs.lemmas.List.Elements.{filter-append}
use Rattle.samoa_model.specs.declared.handler.Moment.{Moment}
use Rattle.samoa_model.specs.declared.handler.Outcome.{Outcome}
use Rattle.samoa_model.specs.declared.ids.HandlerId.{HandlerId}
use Rattle.samoa_model.specs.declared.record.Ext.{Ext}
use Rattle.samoa_model.specs.declared.script.Script.{Script}
use Rattle.samoa_serial.specs.declared.message.Message.{Message}
use Rattle.samoa_serial.specs.Rows.{message_at, message_words, word}
use Rattle.samoa_laws.specs.trace.Trace.{HandlerStep, is_done, micro_of, trace}
use Rattle.samoa_laws.specs.trace.Causes.{BeginsFirst, EndsWell, FollowsIn, IsNext, IsTrace}
use Rattle.samoa_laws.specs.trace.Group.{IsGroupHistory, event, handler}
use Rattle.samoa_laws.proofs.transport.Accepted.{call_begins}
use Rattle.samoa_laws.proofs.trace.Points.{point}
use Rattle.samoa_laws.proofs.trace.Steps.{IsAt, IsAway, at_or_away, goes_on_at_once, setting}
use Rattle.samoa_laws.proofs.trace.Worlds.{event_for}
use Rattle.samoa_laws.specs.broadcasts.Abcast.{listed}
use Rattle.samoa_laws.specs.trace.Boxes.{BoxStep, noted}
use Rattle.samoa_laws.specs.broadcasts.Boxes.{called_up, raised, raised_by}
use Rattle.samoa_laws.specs.broadcasts.Begun.{begun, begun_by, begun_with, caller, delivered_by, with_caller}
use Rattle.samoa_laws.proofs.trace.Boxes.{made_at, steps-away, steps-here, steps_of}
use Rattle.samoa_laws.proofs.broadcasts.Boxes.{own_index, Upward}
use Rattle.samoa_laws.proofs.transport.Events.{CalledAtOnce, at_once, upward_is}
use Rattle.samoa_laws.proofs.transport.Carried.{handler_is}

-- the message of a call upwards that took effect
abbrev pub just : Option (ℕ × Message) → Bool → Option Message
just None counts = None
just (Some e) true = Some e.1
just (Some e) false = None

-- what the box at node v is just calling up: its call was the last step
abbrev pub calling : {S : Type 0} → Upward S → ℕ → List HandlerStep → Option Message
calling b v [] = None
calling b v (x ∷ past) = if v == x.node then (if b.box.number == micro_of x then just (raised_by x.outcome) x.effective else None) else None

-- ---- one more step adds what it calls up
noted_messages : (us : List (ℕ × Message)) (o : Option (ℕ × Message)) (counts : Bool)
    → map (λ (e : ℕ × Message). e.1) (noted us o counts) ≡ map (λ (e : ℕ × Message). e.1) us ++ listed (just o counts)
noted_messages us None counts = sym (append-nil (map (λ (e : ℕ × Message). e.1) us))
noted_messages us (Some e) true = map-append (λ (d : ℕ × Message). d.1) us (e ∷ [])
noted_messages us (Some e) false = sym (append-nil (map (λ (d : ℕ × Message). d.1) us))

calling_here : {S : Type 0} (b : Upward S) (v : ℕ) (x : HandlerStep) (past : List HandlerStep) → IsAt x v b.box.number → calling b v (x ∷ past) ≡ just (raised_by x.outcome) x.effective
calling_here b v x past at = rw (eq-eqb v x.node at.0) (rw (eq-eqb b.box.number (micro_of x) at.1) refl)

calling_away : {S : Type 0} (b : Upward S) (v : ℕ) (x : HandlerStep) (past : List HandlerStep) → IsAway x v b.box.number → calling b v (x ∷ past) ≡ None
calling_away b v x past away = go (eqb_tells v x.node) (eqb_tells b.box.number (micro_of x))
  where
    go : ((v == x.node) ≡ true) × (v ≡ x.node) ⊎ ((v == x.node) ≡ false) × (v ≢ x.node)
        → ((b.box.number == micro_of x) ≡ true) × (b.box.number ≡ micro_of x) ⊎ ((b.box.number == micro_of x) ≡ false) × (b.box.number ≢ micro_of x)
        → calling b v (x ∷ past) ≡ None
    go (inl here) (inl there) = absurd (away (here.1, there.1))
    go (inl here) (inr there) = rw here.0 (rw there.0 refl)
    go (inr here) there = rw here.0 refl

called_more : {S : Type 0} (b : Upward S) (v : ℕ) (x : HandlerStep) (past : List HandlerStep)
    → called_up (steps_of b.box v (x ∷ past)) ≡ called_up (steps_of b.box v past) ++ listed (calling b v (x ∷ past))
called_more {S} b v x past = go (at_or_away x v b.box.number)
  where
    go : IsAt x v b.box.number ⊎ IsAway x v b.box.number → called_up (steps_of b.box v (x ∷ past)) ≡ called_up (steps_of b.box v past) ++ listed (calling b v (x ∷ past))
    go (inl at) =
        ap (λ (ss : List (BoxStep S)). called_up ss) (steps-here b.box.of x past v b.box.number at)
        ∙ (noted_messages (raised (steps_of b.box v past)) (raised_by x.outcome) x.effective
        ∙ ap (λ (o : Option Message). called_up (steps_of b.box v past) ++ listed o) (sym (calling_here b v x past at)))
    go (inr away) =
        ap (λ (ss : List (BoxStep S)). called_up ss) (steps-away b.box.of x past v b.box.number away)
        ∙ (sym (append-nil (called_up (steps_of b.box v past)))
        ∙ ap (λ (o : Option Message). called_up (steps_of b.box v past) ++ listed o) (sym (calling_away b v x past away)))

-- ---- and what it begins with
abbrev begins : ℕ → ℕ → List HandlerStep → HandlerStep → Option Message
begins p v past x = if caller past == p then delivered_by v x else None

one_begun : (p q : ℕ) (o : Option Message) → map (λ (e : ℕ × Message). e.1) (filter (λ (e : ℕ × Message). e.0 == p) (with_caller q o)) ≡ listed (if q == p then o else None)
one_begun p q None = go (q == p)
  where
    go : (b : Bool) → [] ≡ listed (if b then None else None)
    go true = refl
    go false = refl
one_begun p q (Some m) = go (q == p)
  where
    go : (b : Bool) → map (λ (e : ℕ × Message). e.1) (if b then (q, m) ∷ [] else []) ≡ listed (if b then Some m else None)
    go true = refl
    go false = refl

begun_more : (p v : ℕ) (x : HandlerStep) (past : List HandlerStep) → begun_by p v (x ∷ past) ≡ begun_by p v past ++ listed (begins p v past x)
begun_more p v x past =
    ap (map (λ (e : ℕ × Message). e.1)) (filter-append (λ (e : ℕ × Message). e.0 == p) (begun v past) (with_caller (caller past) (delivered_by v x)))
    ∙ (map-append (λ (e : ℕ × Message). e.1) (filter (λ (e : ℕ × Message). e.0 == p) (begun v past)) (filter (λ (e : ℕ × Message). e.0 == p) (with_caller (caller past) (delivered_by v x)))
    ∙ ap (λ (ms : List Message). begun_by p v past ++ ms) (one_begun p (caller past) (delivered_by v x)))

-- ---- these are the same
same_option : (o q : Option Message) → ((m : Message) → o ≡ Some m → q ≡ Some m) → ((m : Message) → q ≡ Some m → o ≡ Some m) → o ≡ q
same_option None None f g = refl
same_option None (Some m) f g = g m refl
same_option (Some m) q f g = sym (f m refl)

record Calling (v p : ℕ) (y : HandlerStep) (m : Message) : Type 0 where
  at : IsAt y v p
  effective : y.effective ≡ true
  number : ℕ
  raised : raised_by y.outcome ≡ Some (number, m)

record Just (o : Option (ℕ × Message)) (counts : Bool) (m : Message) : Type 0 where
  counted : counts ≡ true
  number : ℕ
  is : o ≡ Some (number, m)

just_some : (o : Option (ℕ × Message)) (counts : Bool) (m : Message) → just o counts ≡ Some m → Just o counts m
just_some None counts m e = absurd (cc)
just_some (Some u) true m e = record { counted = refl; number = u.0; is = let same : u.1 ≡ m = cc in ap (λ (k : Message). Some (u.0, k)) same }
just_some (Some u) false m e = absurd (cc)

calling_some : {S : Type 0} (b : Upward S) (v : ℕ) (y : HandlerStep) (past : List HandlerStep) (m : Message) → calling b v (y ∷ past) ≡ Some m → Calling v b.box.number y m
calling_some b v y past m e = go (at_or_away y v b.box.number)
  where
    go : IsAt y v b.box.number ⊎ IsAway y v b.box.number → Calling v b.box.number y m
    go (inl at) =
        let j : Just (raised_by y.outcome) y.effective m = just_some (raised_by y.outcome) y.effective m (sym (calling_here b v y past at) ∙ e) in
        record { at = at; effective = j.counted; number = j.number; raised = j.is }
    go (inr away) = absurd (let none : None ≡ Some m = sym (calling_away b v y past away) ∙ e in cc)

calling_is : {S : Type 0} (b : Upward S) (v : ℕ) (y : HandlerStep) (past : List HandlerStep) (n : ℕ) (m : Message) → IsAt y v b.box.number → y.effective ≡ true → raised_by y.outcome ≡ Some (n, m)
    → calling b v (y ∷ past) ≡ Some m
calling_is b v y past n m at effective is =
    calling_here b v y past at
    ∙ (ap (λ (o : Option (ℕ × Message)). just o y.effective) is ∙ ap (λ (counts : Bool). just (Some (n, m)) counts) effective)

pub record Delivers (v : ℕ) (x : HandlerStep) (m : Message) : Type 0 where
  pub node : x.node ≡ v
  pub micro : micro_of x ≡ 6
  pub arg : List ℕ
  pub moment : x.moment ≡ Moment.Begin 1 arg
  pub message : message_at arg 0 ≡ m

pub delivered_some : (v : ℕ) (x : HandlerStep) (m : Message) → delivered_by v x ≡ Some m → Delivers v x m
delivered_some v x m e = go (eqb_tells x.node v) (eqb_tells (micro_of x) 6)
  where
    none : ((x.node == v) && (micro_of x == 6)) ≡ false → Delivers v x m
    none not_there = absurd (let both : None ≡ Some m = sym (ap (λ (b : Bool). if b then begun_with x.moment else None) not_there) ∙ e in cc)

    begun_so : x.node ≡ v → micro_of x ≡ 6 → (n : Moment) → x.moment ≡ n → begun_with n ≡ Some m → Delivers v x m
    begun_so node micro (Moment.Begin i arg) moment same = one (eqb_tells i 1)
      where
        one : ((i == 1) ≡ true) × (i ≡ 1) ⊎ ((i == 1) ≡ false) × (i ≢ 1) → Delivers v x m
        one (inl is) =
            let some : Some (message_at arg 0) ≡ Some m = sym (ap (λ (b : Bool). if b then Some (message_at arg 0) else None) is.0) ∙ same in
            record { node = node; micro = micro; arg = arg; moment = moment ∙ ap (λ (j : ℕ). Moment.Begin j arg) is.1; message = cc }
        one (inr other) = absurd (let no_some : None ≡ Some m = sym (ap (λ (b : Bool). if b then Some (message_at arg 0) else None) other.0) ∙ same in cc)
    begun_so node micro (Moment.Resume i frame reply) moment same = absurd (let no_some : None ≡ Some m = same in cc)

    go : ((x.node == v) ≡ true) × (x.node ≡ v) ⊎ ((x.node == v) ≡ false) × (x.node ≢ v)
        → ((micro_of x == 6) ≡ true) × (micro_of x ≡ 6) ⊎ ((micro_of x == 6) ≡ false) × (micro_of x ≢ 6)
        → Delivers v x m
    go (inl a) (inl b) =
        let all : ((x.node == v) && (micro_of x == 6)) ≡ true = rw (a.0, b.0) refl in
        begun_so a.1 b.1 x.moment refl (sym (ap (λ (b : Bool). if b then begun_with x.moment else None) all) ∙ e)
    go (inl a) (inr b) = none (rw (a.0, b.0) refl)
    go (inr a) b = none (rw a.0 refl)

-- the handler of such a step
pub delivers_handler : (script : Script) (exts : List Ext) (past : List HandlerStep) (x : HandlerStep) → FollowsIn script exts past x → (v : ℕ) (m : Message) → Delivers v x m
    → x.call.handler ≡ handler 6 1
delivers_handler script exts past x f v m d = handler_is x.call.handler 6 1 d.micro (own_index script exts past x f 1 d.arg d.moment)

delivered_is : (v : ℕ) (x : HandlerStep) (arg : List ℕ) → x.node ≡ v → micro_of x ≡ 6 → x.moment ≡ Moment.Begin 1 arg → delivered_by v x ≡ Some (message_at arg 0)
delivered_is v x arg node micro moment =
    let all : ((x.node == v) && (micro_of x == 6)) ≡ true = rw (eq-eqb x.node v node, eq-eqb (micro_of x) 6 micro) refl in
    ap (λ (b : Bool). if b then begun_with x.moment else None) all ∙ ap begun_with moment

begins_some : (p v : ℕ) (past : List HandlerStep) (x : HandlerStep) (m : Message) → begins p v past x ≡ Some m → (caller past ≡ p) × (delivered_by v x ≡ Some m)
begins_some p v past x m e = go (caller past == p) refl e
  where
    go : (b : Bool) → (caller past == p) ≡ b → (if b then delivered_by v x else None) ≡ Some m → (caller past ≡ p) × (delivered_by v x ≡ Some m)
    go true is same = (eqb-true (caller past) p is, same)
    go false is same = absurd (let none : None ≡ Some m = same in cc)

-- what begins was just called up
was_calling : {S : Type 0} (b : Upward S) (script : Script) (exts : List Ext) → IsGroupHistory script exts → (v : ℕ) (past : List HandlerStep) → IsTrace script exts past
    → (x : HandlerStep) (f : FollowsIn script exts past x) → (m : Message) → begins b.box.number v past x ≡ Some m → calling b v past ≡ Some m
was_calling b script exts history v past trace x f m e =
    let both : (caller past ≡ b.box.number) × (delivered_by v x ≡ Some m) = begins_some b.box.number v past x m e in
    let d : Delivers v x m = delivered_some v x m both.1 in
    let c : CalledAtOnce past x 11 d.arg =
    at_once script exts history past trace x f 11 (omega arith) (omega arith) (λ e. omega (arith, e)) (ap event_for (delivers_handler script exts past x f v m d)) 1 d.arg d.moment in
    let t : IsTrace script exts (c.by ∷ c.earlier) = subst (IsTrace script exts) c.split trace in
    let at : IsAt c.by v b.box.number = (sym d.node ∙ sym c.is.node, sym both.0 ∙ ap caller c.split) in
    let made = made_at b.box script exts history.group v c.earlier t.1 c.by t.0 at in
    ap (calling b v) c.split
    ∙ (calling_is b v c.by c.earlier (word c.is.frame 1) (message_at d.arg 0) at c.is.effective
    (ap raised_by made.outcome ∙ b.reads script.nodes v _ c.by.moment d.arg c.is.frame (sym made.outcome ∙ c.is.outcome))
    ∙ ap (λ (k : Message). Some k) d.message)

-- what is just called up begins next
begins_next : {S : Type 0} (b : Upward S) (script : Script) (exts : List Ext) → IsGroupHistory script exts → (v : ℕ) (past : List HandlerStep) → IsTrace script exts past
    → (x : HandlerStep) (f : FollowsIn script exts past x) → (m : Message) → calling b v past ≡ Some m → begins b.box.number v past x ≡ Some m
begins_next b script exts history v [] trace x f m e = absurd (cc)
begins_next b script exts history v (y ∷ past) trace x f m e =
    let c : Calling v b.box.number y m = calling_some b v y past m e in
    let made = made_at b.box script exts history.group v past trace.1 y trace.0 c.at in
    let is : y.outcome ≡ Outcome.Call (event 11) (message_words m) (1 ∷ c.number ∷ []) =
    made.outcome ∙ b.calls script.nodes v _ y.moment c.number m (sym (ap raised_by made.outcome) ∙ c.raised) in
    let next : IsNext (setting f) y x.call x.moment = goes_on_at_once script exts y past x f c.effective (ap is_done is) in
    let first : BeginsFirst (setting f) (event 11) (message_words m) x.call x.moment =
    call_begins script exts history.group y past x trace f c.effective (event 11) (message_words m) (1 ∷ c.number ∷ []) is in
    let list : handler 6 1 ∷ [] ≡ x.call.handler ∷ first.others = sym (upward_is script exts history.group (y ∷ past) x f (event 11) refl) ∙ first.first in
    let handler_of : x.call.handler ≡ handler 6 1 = cc in
    let node : x.node ≡ v = f.follows.node ∙ (sym next.acts.node ∙ sym c.at.0) in
    let moment : x.moment ≡ Moment.Begin 1 (message_words m) = first.moment ∙ ap (λ (h : HandlerId). Moment.Begin h.index (message_words m)) handler_of in
    ap (λ (b : Bool). if b then delivered_by v x else None) (eq-eqb (micro_of y) b.box.number (sym c.at.1))
    ∙ delivered_is v x (message_words m) node (ap (λ (h : HandlerId). h.micro.0) handler_of) moment

-- ---- at any point: what a box called up began, but for a call that is the last step
pub called_is_begun : {S : Type 0} (b : Upward S) (script : Script) (exts : List Ext) → IsGroupHistory script exts → (v : ℕ) (past : List HandlerStep) → IsTrace script exts past
    → called_up (steps_of b.box v past) ≡ begun_by b.box.number v past ++ listed (calling b v past)
called_is_begun b script exts history v [] trace = refl
called_is_begun b script exts history v (x ∷ past) trace =
    let ih : called_up (steps_of b.box v past) ≡ begun_by b.box.number v past ++ listed (calling b v past) = called_is_begun b script exts history v past trace.1 in
    let same : begins b.box.number v past x ≡ calling b v past =
    same_option (begins b.box.number v past x) (calling b v past) (was_calling b script exts history v past trace.1 x trace.0) (begins_next b script exts history v past trace.1 x trace.0) in
    let now : begun_by b.box.number v (x ∷ past) ≡ begun_by b.box.number v past ++ listed (calling b v past) =
    begun_more b.box.number v x past ∙ ap (λ (o : Option Message). begun_by b.box.number v past ++ listed o) same in
    called_more b v x past ∙ ap (λ (ms : List Message). ms ++ listed (calling b v (x ∷ past))) (ih ∙ sym now)

-- ---- at a boundary
not_done : (o : Outcome) (e : ℕ × Message) → raised_by o ≡ Some e → is_done o ≡ true → ⊥
not_done (Outcome.Done reply) e raised done = cc
not_done (Outcome.Call to arg frame) e raised done = cc
not_done (Outcome.Later to arg frame) e raised done = cc
not_done (Outcome.Send to sent arg frame) e raised done = cc
not_done (Outcome.Deliver arg frame) e raised done = cc
not_done (Outcome.Change change arg frame) e raised done = cc

ended_calling : {S : Type 0} (b : Upward S) (v : ℕ) (past : List HandlerStep) → EndsWell past → calling b v past ≡ None
ended_calling b v [] ended = refl
ended_calling b v (x ∷ past) ended = go (calling b v (x ∷ past)) refl
  where
    go : (o : Option Message) → calling b v (x ∷ past) ≡ o → o ≡ None
    go None e = refl
    go (Some m) e = let c : Calling v b.box.number x m = calling_some b v x past m e in absurd (not_done x.outcome (c.number, m) c.raised (ended c.effective))

pub called_is_begun_at_end : {S : Type 0} (b : Upward S) (script : Script) (exts : List Ext) → IsGroupHistory script exts → (v : ℕ) → IsTrace script exts (trace script exts)
    → called_up (steps_of b.box v (trace script exts)) ≡ begun_by b.box.number v (trace script exts)
called_is_begun_at_end b script exts history v t =
    called_is_begun b script exts history v (trace script exts) t
    ∙ (ap (λ (o : Option Message). begun_by b.box.number v (trace script exts) ++ listed o) (ended_calling b v (trace script exts) (point script exts).ended)
    ∙ append-nil (begun_by b.box.number v (trace script exts)))
