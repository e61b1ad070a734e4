-- The steps of this box in a trace are a history of it.
use Rattle.std.proofs.Common.{ℕ, ◌<◌, ◌==◌, nat_lt, nat_le, eqb, Bool, true, false, not, ◌||◌, ◌&&◌, ◌≡◌, inl, inr, List, [], ◌∷◌, ◌++◌, find, Option, Some, None, refl, sym, ap, ◌∙◌, subst, if◌then◌else◌, arith, eqb-true, true≢false}
use Rattle.std.proofs.lemmas.Bool.{cond_both}
use Rattle.samoa_model.specs.declared.handler.Moment.{Moment}
use Rattle.samoa_model.specs.declared.handler.Moment.TheVariants.{Begin, Resume}
use Rattle.samoa_model.specs.declared.handler.Outcome.{Outcome}
use Rattle.samoa_model.specs.declared.handler.Outcome.TheVariants as gives
use Rattle.samoa_model.specs.declared.handler.Reply.{Reply}
use Rattle.samoa_model.specs.declared.setup.Setup.{Setup}
use Rattle.samoa_serial.specs.declared.message.Message.{Message}
use Rattle.samoa_serial.specs.declared.message.Own.{Own}
use Rattle.samoa_serial.specs.Lists.{In}
use Rattle.samoa_serial.specs.State.{ReplState}
use Rattle.samoa_serial.specs.Rows.{word, up, me, port_at, done, call, change, deliver, message_at}
use Rattle.samoa_serial.specs.ReplTable.{first_of, is_change, repl_hand_on, repl_drain, repl_mark, repl_recast, repl_go_on, repl_cast, repl_deliver, repl_switched, repl_marked, repl_deliver_on, repl_step}
use Rattle.samoa_laws.specs.replacement.History.{Step, frame_of, given, MayCome, IsHistory, GoesOn}
use Rattle.samoa_laws.specs.replacement.Casts.{handler_of, CalledOn, MaySwitch, IsRebound}
use Rattle.samoa_laws.specs.replacement.Trace.{Item, SameCall, box_of, carried, IsCaused, ResumesFrom, awaited, ComesAtOnce, GoesOnAtOnce, IsTrace, IsSwitched, AllSwitched}

-- ---- what the rows give
-- a result that carries a frame below 3 delivers or changes
abbrev Low : List ℕ → ReplState × Outcome → Type 0
Low frame r = carried r.1 ≡ Some frame → word frame 0 < 3 → frame_of r.1 ≡ Some frame

drain_low : (setup : Setup) (s : ReplState) (frame : List ℕ) → Low frame (repl_drain setup s)
drain_low setup s frame = go (first_of s.epoch (repl_drain setup s).0.early)
  where
    at : (x : Message) (b : Bool)
        → carried (if b then change setup x.value (up s.epoch ∷ []) (1 ∷ []) else deliver (x.origin ∷ x.number ∷ x.kind ∷ x.value ∷ []) ((if x.kind == 2 then 2 else 0) ∷ [])) ≡ Some frame
        → frame_of (if b then change setup x.value (up s.epoch ∷ []) (1 ∷ []) else deliver (x.origin ∷ x.number ∷ x.kind ∷ x.value ∷ []) ((if x.kind == 2 then 2 else 0) ∷ [])) ≡ Some frame
    at x true e = e
    at x false e = e

    go : (o : Option Message) → carried (repl_hand_on setup s.epoch o) ≡ Some frame → word frame 0 < 3 → frame_of (repl_hand_on setup s.epoch o) ≡ Some frame
    go None e l = absurd (cc)
    go (Some x) e l = at x (is_change setup x.kind x.value) e

done_low : (s : ReplState) (words frame : List ℕ) → Low frame (s, done words)
done_low s words frame e l = absurd (cc)

three_low : (setup : Setup) (s : ReplState) (value : ℕ) (frame : List ℕ) → Low frame (s, call setup 1 (value ∷ []) (3 ∷ []))
three_low setup s value frame e l = absurd (high (word frame 0) (ap (λ (f : List ℕ). word f 0) (inner (3 ∷ []) frame e)) l)
  where
    inner : (a b : List ℕ) → Some a ≡ Some b → a ≡ b
    inner a b h = cc

    high : (n : ℕ) → 3 ≡ n → n < 3 → ⊥
    high n q l = omega arith

marked_low : (setup : Setup) (s : ReplState) (x : ℕ) (o : Option Message) (frame : List ℕ) → Low frame (repl_marked setup s x o)
marked_low setup s x None frame = done_low s [] frame
marked_low setup s x (Some m) frame = go (eqb x 0) (eqb x 1)
  where
    go : (a b : Bool) → Low frame (if a then repl_drain setup (repl_mark setup s m) else
        if b then repl_drain setup (record (repl_mark setup s m) { epoch = up s.epoch; hold = 1 }) else (repl_mark setup s m, call setup 1 (m.value ∷ []) (3 ∷ [])))
    go true b = drain_low setup (repl_mark setup s m) frame
    go false true = drain_low setup (record (repl_mark setup s m) { epoch = up s.epoch; hold = 1 }) frame
    go false false = three_low setup (repl_mark setup s m) m.value frame

pub deliver_low : (setup : Setup) (s : ReplState) (moment : Moment) → handler_of moment ≡ 1 → (frame : List ℕ) → Low frame (repl_step setup s moment)
deliver_low setup s (Begin handler arg) one frame =
    let P : ℕ → Type 0 = λ n. Low frame (repl_step setup s (Begin n arg)) in
    subst P (sym one) (drain_low setup (record s { early = if nat_le s.epoch (message_at arg 0).epoch then s.early ++ message_at arg 0 ∷ [] else s.early }) frame)
deliver_low setup s (Resume handler words reply) one frame =
    let P : ℕ → Type 0 = λ n. Low frame (repl_step setup s (Resume n words reply)) in
    subst P (sym one) (go (nat_lt (word words 0) 3) (eqb (word words 0) 3))
  where
    go : (a b : Bool) → Low frame (if a then repl_marked setup s (word words 0) (first_of s.epoch s.early) else if b then repl_drain setup s else (s, done []))
    go true b = marked_low setup s (word words 0) (first_of s.epoch s.early) frame
    go false true = drain_low setup s frame
    go false false = done_low s [] frame

-- only `deliver` delivers or changes
recast_quiet : (setup : Setup) (epoch : ℕ) (own : Option Own) → frame_of (repl_recast setup epoch own) ≡ None
recast_quiet setup epoch None = refl
recast_quiet setup epoch (Some own) = refl

cast_quiet : (setup : Setup) (s : ReplState) (kind value : ℕ) → frame_of (repl_cast setup s kind value).1 ≡ None
cast_quiet setup s kind value =
    cond_both (nat_lt 2 kind || ((kind == 1) && not (is_change setup kind value))) (s, done []) (new, held (eqb s.hold 0))
    (λ (r : ReplState × Outcome). frame_of r.1 ≡ None) (λ t. refl) (λ f. at (eqb s.hold 0))
  where
    own : Own
    own = record { number = up s.count; kind = kind; value = value }

    new : ReplState
    new = record s { count = up s.count; mine = s.mine ++ own ∷ [] }

    held : Bool → Outcome
    held b = if b then repl_recast setup s.epoch (Some own) else done (own.number ∷ [])

    at : (b : Bool) → frame_of (held b) ≡ None
    at true = refl
    at false = refl

some_none : (frame : List ℕ) (o : Option (List ℕ)) → o ≡ Some frame → o ≡ None → ⊥
some_none frame o a b = cc

pub only_deliver : (setup : Setup) (s : ReplState) (moment : Moment) (frame : List ℕ) → frame_of (repl_step setup s moment).1 ≡ Some frame → handler_of moment ≡ 1
only_deliver setup s (Begin handler arg) frame e = go (eqb handler 0) (eqb handler 1) (eqb handler 2) refl e
  where
    go : (a b c : Bool) → eqb handler 1 ≡ b
        → frame_of (if a then repl_cast setup s (word arg 0) (word arg 1) else if b then repl_deliver setup s (message_at arg 0) else
        if c then repl_switched setup s (word arg 0) else (s, done [])).1 ≡ Some frame → handler ≡ 1
    go true b c f q = absurd (some_none frame (frame_of (repl_cast setup s (word arg 0) (word arg 1)).1) q (cast_quiet setup s (word arg 0) (word arg 1)))
    go false true c f q = eqb-true handler 1 f
    go false false true f q = absurd (some_none frame (frame_of (repl_switched setup s (word arg 0)).1) q
        (cond_both (eqb (word arg 0) s.epoch) (repl_go_on setup (record s { hold = 0 }) 0) (s, done []) (λ (r : ReplState × Outcome). frame_of r.1 ≡ None)
        (λ t. recast_quiet setup s.epoch (find (λ (own : Own). nat_lt 0 own.number) s.mine)) (λ g. refl)))
    go false false false f q = absurd (some_none frame None q refl)
only_deliver setup s (Resume handler words reply) frame e = go (eqb handler 0) (eqb handler 1) (eqb handler 2) refl e
  where
    go : (a b c : Bool) → eqb handler 1 ≡ b
        → frame_of (if a then (s, done (word words 0 ∷ [])) else if b then repl_deliver_on setup s (word words 0) else
        if c then repl_go_on setup s (word words 0) else (s, done [])).1 ≡ Some frame → handler ≡ 1
    go true b c f q = absurd (some_none frame None q refl)
    go false true c f q = eqb-true handler 1 f
    go false false true f q = absurd (some_none frame (frame_of (repl_go_on setup s (word words 0)).1) q
        (recast_quiet setup s.epoch (find (λ (own : Own). nat_lt (word words 0) own.number) s.mine)))
    go false false false f q = absurd (some_none frame None q refl)

-- ---- the box within the trace
tail_trace : (setup : Setup) (between rest : List Item) → IsTrace setup (between ++ rest) → IsTrace setup rest
tail_trace setup [] rest h = h
tail_trace setup (i ∷ between) rest h = tail_trace setup between rest h.2

-- what the box is to resume is what the trace is to resume
box_awaits : (setup : Setup) (items : List Item) → IsTrace setup items → given (box_of items) ≡ awaited items
box_awaits setup [] h = refl
box_awaits setup (i ∷ earlier) h = go i.here refl (box_awaits setup earlier h.2)
  where
    none : (before : List Item) → GoesOnAtOnce before i → i.here ≡ false → awaited before ≡ None
    none [] on f = refl
    none (last ∷ before) on f = at (awaited (last ∷ before)) refl
      where
        at : (o : Option (List ℕ)) → awaited (last ∷ before) ≡ o → o ≡ None
        at None e = refl
        at (Some frame) e = absurd (true≢false (sym (on frame e).here ∙ f))

    go : (b : Bool) → i.here ≡ b → given (box_of earlier) ≡ awaited earlier
        → given (if b then i.step ∷ box_of earlier else box_of earlier) ≡ (if b then given (i.step ∷ []) else None)
    go true f ih = refl
    go false f ih = ih ∙ none earlier h.1 f

-- an awaited frame is of a step of this box
awaited_here : (last : Item) (before : List Item) (frame : List ℕ) → awaited (last ∷ before) ≡ Some frame
    → (last.here ≡ true) × (frame_of last.step.outcome ≡ Some frame)
awaited_here last before frame e = go last.here last.step.effective refl e
  where
    go : (a b : Bool) → last.here ≡ a → (if a then (if b then frame_of last.step.outcome else None) else None) ≡ Some frame
        → (last.here ≡ true) × (frame_of last.step.outcome ≡ Some frame)
    go true true f q = (f, q)
    go true false f q = absurd (cc)
    go false b f q = absurd (cc)

resumed : (setup : Setup) (i : Item) (earlier : List Item) → IsTrace setup earlier → GoesOnAtOnce earlier i
    → (frame : List ℕ) → awaited earlier ≡ Some frame → (reply : Reply) × (i.step.moment ≡ Resume 1 frame reply)
resumed setup i [] h on frame e = absurd (cc)
resumed setup i (last ∷ before) h on frame e =
    let c : ComesAtOnce last i frame = on frame e in
    let a : (last.here ≡ true) × (frame_of last.step.outcome ≡ Some frame) = awaited_here last before frame e in
    let one : handler_of last.step.moment ≡ 1 =
    only_deliver setup last.step.old last.step.moment frame (ap frame_of (sym (h.0 a.0).outcome) ∙ a.1) in
    (c.reply, c.resumes ∙ ap (λ (n : ℕ). Resume n frame c.reply) one)

-- nothing lies between a delivery or a change and its resume
none_between : (setup : Setup) (x : Item) (between : List Item) (from : Item) (before : List Item) (frame : List ℕ)
    → IsTrace setup (x ∷ between ++ from ∷ before) → awaited (from ∷ before) ≡ Some frame → ((j : Item) → In j (x ∷ between) → SameCall from j → ⊥) → ⊥
none_between setup x [] from before frame h e last = last x (inl refl) (h.1 frame e).same
none_between setup x (y ∷ between) from before frame h e last = none_between setup y between from before frame h.2 e (λ j q. last j (inr q))

caused_comes : (setup : Setup) (i : Item) (earlier : List Item) → IsTrace setup earlier → (m : Moment) → IsCaused earlier i m → MayCome (box_of earlier) m
caused_comes setup i earlier h (Begin handler arg) c = tt
caused_comes setup i earlier h (Resume handler frame reply) c = λ one low. box_awaits setup earlier h ∙ go one low c.between c.is c.last
  where
    T : List Item → Type 0
    T l = IsTrace setup l

    there : (between : List Item) → earlier ≡ between ++ c.from ∷ c.before → IsTrace setup (c.from ∷ c.before)
    there between q = tail_trace setup between (c.from ∷ c.before) (subst T q h)

    gave : handler ≡ 1 → word frame 0 < 3 → IsTrace setup (c.from ∷ c.before) → awaited (c.from ∷ c.before) ≡ Some frame
    gave one low t =
        ap (λ b. if b then given (c.from.step ∷ []) else None) c.here
        ∙ ap (λ b. if b then frame_of c.from.step.outcome else None) c.effective
        ∙ ap frame_of (t.0 c.here).outcome
        ∙ deliver_low setup c.from.step.old c.from.step.moment (c.of ∙ one) frame (ap carried (sym (t.0 c.here).outcome) ∙ c.carries) low

    go : handler ≡ 1 → word frame 0 < 3 → (between : List Item) → earlier ≡ between ++ c.from ∷ c.before
        → ((j : Item) → In j between → SameCall c.from j → ⊥) → awaited earlier ≡ Some frame
    go one low [] q last = ap (λ (l : List Item). awaited l) q ∙ gave one low (there [] q)
    go one low (x ∷ between) q last =
        absurd (none_between setup x between c.from c.before frame (subst T q h) (gave one low (there (x ∷ between) q)) last)

pub trace_history : (setup : Setup) (items : List Item) → IsTrace setup items → IsHistory setup (box_of items)
trace_history setup [] h = tt
trace_history setup (i ∷ earlier) h = go i.here refl (trace_history setup earlier h.2)
  where
    go : (b : Bool) → i.here ≡ b → IsHistory setup (box_of earlier) → IsHistory setup (if b then i.step ∷ box_of earlier else box_of earlier)
    go true e ih =
        (record { old = (h.0 e).old; new = (h.0 e).new; outcome = (h.0 e).outcome; comes = caused_comes setup i earlier h.2 i.step.moment (h.0 e).caused }, ih)
    go false e ih = ih

pub trace_goes_on : (setup : Setup) (items : List Item) → IsTrace setup items → GoesOn (box_of items)
trace_goes_on setup [] h = tt
trace_goes_on setup (i ∷ earlier) h = go i.here (trace_goes_on setup earlier h.2)
  where
    go : (b : Bool) → GoesOn (box_of earlier) → GoesOn (if b then i.step ∷ box_of earlier else box_of earlier)
    go true ih = ((λ frame e. resumed setup i earlier h.2 h.1 frame (sym (box_awaits setup earlier h.2) ∙ e)), ih)
    go false ih = ih

pub trace_rests : (setup : Setup) (items : List Item) → IsTrace setup items → awaited items ≡ None → given (box_of items) ≡ None
trace_rests setup items h e = box_awaits setup items h ∙ e

-- ---- what is known of `switched`
-- a step of it that carries a frame calls, and at port 0
abbrev pub CallsDown : Setup → List ℕ → ReplState × Outcome → Type 0
CallsDown setup frame r = carried r.1 ≡ Some frame → (arg : List ℕ) × (given : List ℕ) × (r.1 ≡ gives.Call (port_at setup 0) arg given)

recast_calls : (setup : Setup) (s : ReplState) (epoch : ℕ) (own : Option Own) (frame : List ℕ) → CallsDown setup frame (s, repl_recast setup epoch own)
recast_calls setup s epoch None frame e = absurd (cc)
recast_calls setup s epoch (Some own) frame e =
    (epoch ∷ me setup ∷ own.number ∷ own.kind ∷ own.value ∷ [], own.number ∷ [], refl)

pub switch_calls : (setup : Setup) (s : ReplState) (moment : Moment) → handler_of moment ≡ 2 → (frame : List ℕ) → CallsDown setup frame (repl_step setup s moment)
switch_calls setup s (Begin handler arg) two frame =
    let P : ℕ → Type 0 = λ n. CallsDown setup frame (repl_step setup s (Begin n arg)) in
    subst P (sym two) (cond_both (eqb (word arg 0) s.epoch) (repl_go_on setup (record s { hold = 0 }) 0) (s, done []) (CallsDown setup frame)
    (λ t. recast_calls setup (record s { hold = 0 }) s.epoch (find (λ (own : Own). nat_lt 0 own.number) s.mine) frame) (λ f e. absurd (cc)))
switch_calls setup s (Resume handler words reply) two frame =
    let P : ℕ → Type 0 = λ n. CallsDown setup frame (repl_step setup s (Resume n words reply)) in
    subst P (sym two) (recast_calls setup s s.epoch (find (λ (own : Own). nat_lt (word words 0) own.number) s.mine) frame)

-- steps of other boxes leave the box's history as it is
box_passes : (between rest : List Item) → ((j : Item) → In j between → j.here ≡ true → ⊥) → box_of (between ++ rest) ≡ box_of rest
box_passes [] rest none = refl
box_passes (i ∷ between) rest none = go i.here refl (box_passes between rest (λ j h. none j (inr h)))
  where
    go : (b : Bool) → i.here ≡ b → box_of (between ++ rest) ≡ box_of rest → (if b then i.step ∷ box_of (between ++ rest) else box_of (between ++ rest)) ≡ box_of rest
    go true e ih = absurd (none i (inl refl) e)
    go false e ih = ih

switch_comes : (setup : Setup) (i : Item) (earlier : List Item) → IsTrace setup earlier → IsSwitched earlier i
    → (m : Moment) → i.step.moment ≡ m → IsCaused earlier i m → MaySwitch (box_of earlier) m
switch_comes setup i earlier h known (Begin handler arg) q c =
    λ two. known.begins arg (q ∙ ap (λ (n : ℕ). Begin n arg) two)
switch_comes setup i earlier h known (Resume handler frame reply) q c = λ two.
    let R : ℕ → Type 0 = λ n. ResumesFrom earlier i n frame in
    at (subst R two c)
  where
    T : List Item → Type 0
    T l = IsTrace setup l

    C : List Step → Type 0
    C l = CalledOn l

    at : ResumesFrom earlier i 2 frame → CalledOn (box_of earlier)
    at r =
        let t : IsTrace setup (r.from ∷ r.before) = tail_trace setup r.between (r.from ∷ r.before) (subst T r.is h) in
        let k : (arg : List ℕ) × (given : List ℕ) × ((repl_step setup r.from.step.old r.from.step.moment).1 ≡ gives.Call (port_at setup 0) arg given) =
        switch_calls setup r.from.step.old r.from.step.moment r.of frame (ap carried (sym (t.0 r.here).outcome) ∙ r.carries) in
        subst C
        (sym (ap (λ (l : List Item). box_of l) r.is ∙ box_passes r.between (r.from ∷ r.before) (known.alone frame r)
        ∙ ap (λ b. if b then r.from.step ∷ box_of r.before else box_of r.before) r.here))
        (r.of, port_at setup 0, k.0, k.1, (t.0 r.here).outcome ∙ k.2)

pub trace_rebound : (setup : Setup) (items : List Item) → IsTrace setup items → AllSwitched items → IsRebound (box_of items)
trace_rebound setup [] h known = tt
trace_rebound setup (i ∷ earlier) h known = go i.here refl (trace_rebound setup earlier h.2 known.1)
  where
    go : (b : Bool) → i.here ≡ b → IsRebound (box_of earlier) → IsRebound (if b then i.step ∷ box_of earlier else box_of earlier)
    go true e ih = (switch_comes setup i earlier h.2 (known.0 e) i.step.moment refl (h.0 e).caused, ih)
    go false e ih = ih
