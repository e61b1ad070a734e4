-- While casts are not held, as many rebindings began as epochs were left; and what goes down is of the present epoch.
use Rattle.std.proofs.Common.{ℕ, zero, suc, ◌+◌, ◌^◌, ◌<◌, ◌==◌, nat_lt, eqb, Bool, true, false, not, ◌||◌, ◌&&◌, ◌≡◌, ◌⊎◌, inl, inr, List, [], ◌∷◌, ◌++◌, map, length, find, Option, Some, None, refl, sym, ap, ◌∙◌, subst, subst₂, if◌then◌else◌, slice_get, arith, eqb-true, add-one, true≢false}
use Rattle.std.proofs.lemmas.Bool.{cond_both, false≢true}
use Rattle.std.proofs.lemmas.List.{length_push}
use Rattle.samoa_model.specs.declared.handler.Moment.{Moment}
use Rattle.samoa_model.specs.declared.handler.Moment.TheVariants.{Begin, Resume}
use Rattle.samoa_model.specs.declared.handler.Outcome.{Outcome}
use Rattle.samoa_model.specs.declared.handler.Outcome.TheVariants as gives
use Rattle.samoa_model.specs.declared.handler.Reply.{Reply}
use Rattle.samoa_model.specs.declared.ids.EventId.{EventId}
use Rattle.samoa_model.specs.declared.ids.ChangeId.{ChangeId}
use Rattle.samoa_model.specs.declared.setup.Setup.{Setup}
use Rattle.samoa_serial.specs.declared.message.Message.{Message}
use Rattle.samoa_serial.specs.declared.message.Own.{Own}
use Rattle.samoa_serial.specs.State.{ReplState}
use Rattle.samoa_serial.specs.Rows.{word, up, me, port_at, done, call, message_at}
use Rattle.samoa_serial.specs.ReplTable.{first_of, is_change, repl_drain, repl_mark, repl_recast, repl_go_on, repl_cast, repl_deliver, repl_switched, repl_marked, repl_deliver_on, repl_step}
use Rattle.samoa_laws.specs.replacement.History.{Step, left_by, given, IsHistory, GoesOn, marks, asked, asked_at, up_to}
use Rattle.samoa_laws.specs.replacement.Casts.{handler_of, begins_switch, switches, MaySwitch, IsRebound, IsCast}
use Rattle.samoa_laws.proofs.replacement.Histories.{shorter, asked_each}

-- ---- how a step moves hold and the epoch
abbrev Moves : ReplState → ReplState → Type 0
Moves s t = ((t.hold ≡ s.hold) × (t.epoch ≡ s.epoch)) ⊎ (t.hold ≡ 1)

marked_moves : (setup : Setup) (s : ReplState) (x : ℕ) (o : Option Message) → Moves s (repl_marked setup s x o).0
marked_moves setup s x None = inl (refl, refl)
marked_moves setup s x (Some m) = go (eqb x 0) (eqb x 1)
  where
    go : (a b : Bool) → Moves s (if a then repl_drain setup (repl_mark setup s m) else
        if b then repl_drain setup (record (repl_mark setup s m) { epoch = up s.epoch; hold = 1 }) else (repl_mark setup s m, call setup 1 (m.value ∷ []) (3 ∷ []))).0
    go true b = inl (refl, refl)
    go false true = inr refl
    go false false = inl (refl, refl)

deliver_on_moves : (setup : Setup) (s : ReplState) (x : ℕ) → Moves s (repl_deliver_on setup s x).0
deliver_on_moves setup s x = go (nat_lt x 3) (eqb x 3)
  where
    go : (a b : Bool) → Moves s (if a then repl_marked setup s x (first_of s.epoch s.early) else if b then repl_drain setup s else (s, done [])).0
    go true b = marked_moves setup s x (first_of s.epoch s.early)
    go false true = inl (refl, refl)
    go false false = inl (refl, refl)

cast_moves : (setup : Setup) (s : ReplState) (kind value : ℕ) → Moves s (repl_cast setup s kind value).0
cast_moves setup s kind value =
    cond_both (nat_lt 2 kind || ((kind == 1) && not (is_change setup kind value))) (s, done []) held
    (λ (r : ReplState × Outcome). Moves s r.0) (λ t. inl (refl, refl)) (λ f. inl (refl, refl))
  where
    own : Own
    own = record { number = up s.count; kind = kind; value = value }

    held : ReplState × Outcome
    held =
        (record s { count = up s.count; mine = s.mine ++ own ∷ [] }, if s.hold == 0 then repl_recast setup s.epoch (Some own) else done (own.number ∷ []))

step_moves : (setup : Setup) (s : ReplState) (moment : Moment) → begins_switch moment ≡ false → Moves s (repl_step setup s moment).0
step_moves setup s (Begin handler arg) other = go (eqb handler 0) (eqb handler 1) (eqb handler 2) other
  where
    go : (a b c : Bool) → c ≡ false → Moves s (if a then repl_cast setup s (word arg 0) (word arg 1) else if b then repl_deliver setup s (message_at arg 0) else
        if c then repl_switched setup s (word arg 0) else (s, done [])).0
    go true b c f = cast_moves setup s (word arg 0) (word arg 1)
    go false true c f = inl (refl, refl)
    go false false true f = absurd (true≢false f)
    go false false false f = inl (refl, refl)
step_moves setup s (Resume handler frame reply) other = go (eqb handler 0) (eqb handler 1) (eqb handler 2)
  where
    go : (a b c : Bool) → Moves s (if a then (s, done (word frame 0 ∷ [])) else if b then repl_deliver_on setup s (word frame 0) else
        if c then repl_go_on setup s (word frame 0) else (s, done [])).0
    go true b c = inl (refl, refl)
    go false true c = deliver_on_moves setup s (word frame 0)
    go false false true = inl (refl, refl)
    go false false false = inl (refl, refl)

-- `switched` begins
abbrev Switches : ReplState → ReplState → ℕ → Type 0
Switches s t e = ((e ≡ s.epoch) × (t.epoch ≡ s.epoch)) ⊎ (t ≡ s)

switch_moves : (setup : Setup) (s : ReplState) (handler : ℕ) (arg : List ℕ) → eqb handler 2 ≡ true
    → Switches s (repl_step setup s (Begin handler arg)).0 (word arg 0)
switch_moves setup s handler arg two =
    let P : ℕ → Type 0 = λ n. Switches s (repl_step setup s (Begin n arg)).0 (word arg 0) in
    subst P (sym (eqb-true handler 2 two)) (go (eqb (word arg 0) s.epoch) refl)
  where
    go : (b : Bool) → eqb (word arg 0) s.epoch ≡ b
        → Switches s (if b then repl_go_on setup (record s { hold = 0 }) 0 else (s, done [])).0 (word arg 0)
    go true t = inl (eqb-true (word arg 0) s.epoch t, refl)
    go false f = inr refl

-- ---- the i-th asked
pub got_of_map : {A B : Type 0} (f : A → B) (l : List A) (i : ℕ) (y : B) → slice_get (map f l) i ≡ Some y → (x : A) × (slice_get l i ≡ Some x) × (f x ≡ y)
got_of_map f [] i y e = absurd (cc)
got_of_map {A} {B} f (x ∷ l) zero y e = (x, refl, inner (f x) y e)
  where
    inner : (a b : B) → Some a ≡ Some b → a ≡ b
    inner a b h = cc
got_of_map f (x ∷ l) (suc i) y e = got_of_map f l i y e

length-up_to : (n : ℕ) → length (up_to n) ≡ n
length-up_to zero = refl
length-up_to (suc n) = length_push (up_to n) n ∙ ap (λ k. k + 1) (length-up_to n) ∙ add-one n

got_push : {A : Type 0} (l : List A) (x y : A) (i : ℕ) → slice_get (l ++ x ∷ []) i ≡ Some y → (slice_get l i ≡ Some y) ⊎ ((i ≡ length l) × (x ≡ y))
got_push {A} [] x y zero e = inr (refl, inner x y e)
  where
    inner : (a b : A) → Some a ≡ Some b → a ≡ b
    inner a b h = cc
got_push [] x y (suc i) e = absurd (cc)
got_push (z ∷ l) x y zero e = inl e
got_push {A} (z ∷ l) x y (suc i) e = go (got_push l x y i e)
  where
    go : (slice_get l i ≡ Some y) ⊎ ((i ≡ length l) × (x ≡ y)) → (slice_get l i ≡ Some y) ⊎ ((suc i ≡ suc (length l)) × (x ≡ y))
    go (inl h) = inl h
    go (inr h) = inr (ap suc h.0, h.1)

pub got_up_to : (n i k : ℕ) → slice_get (up_to n) i ≡ Some k → (i < n) × (k ≡ i)
got_up_to zero i k e = absurd (cc)
got_up_to (suc n) i k e = go (got_push (up_to n) n k i e) (got_up_to n i k)
  where
    go : (slice_get (up_to n) i ≡ Some k) ⊎ ((i ≡ length (up_to n)) × (n ≡ k)) → (slice_get (up_to n) i ≡ Some k → (i < n) × (k ≡ i)) → (i < suc n) × (k ≡ i)
    go (inl h) ih = let r : (i < n) × (k ≡ i) = ih h in (less i n r.0, r.1)
      where
        less : (a b : ℕ) → a < b → a < suc b
        less a b l = omega arith
    go (inr h) ih = (here i (length (up_to n)) n h.0 (length-up_to n), same i (length (up_to n)) n k h.0 (length-up_to n) h.1)
      where
        here : (a b c : ℕ) → a ≡ b → b ≡ c → a < suc c
        here a b c p q = omega arith

        same : (a b c d : ℕ) → a ≡ b → b ≡ c → c ≡ d → d ≡ a
        same a b c d p q r = omega arith

-- where nothing waits for its resume, what is asked i-th is asked with i + 1, and there are as many as epochs were left
nth_asked : (setup : Setup) (steps : List Step) → IsHistory setup steps → GoesOn steps → length steps < 2 ^ 64 → given steps ≡ None
    → (i : ℕ) (c : ChangeId) (arg : List ℕ) → slice_get (asked steps) i ≡ Some (c, arg) → (i < (left_by steps).epoch) × (word arg 0 ≡ suc i)
nth_asked setup steps h on l none i c arg e =
    let g : (n : ℕ) × (slice_get (up_to (left_by steps).epoch) i ≡ Some n) × (asked_at setup (marks steps) n ≡ (c, arg)) =
    got_of_map (asked_at setup (marks steps)) (up_to (left_by steps).epoch) i (c, arg) (ap (λ z. slice_get z i) (sym (asked_each setup steps h on l none)) ∙ e) in
    let k : (i < (left_by steps).epoch) × (g.0 ≡ i) = got_up_to (left_by steps).epoch i g.0 g.1 in
    (k.0, ap (λ (z : ChangeId × List ℕ). word z.1 0) (sym g.2) ∙ ap suc k.1)

-- of one step
count_step : (setup : Setup) (s : Step) (earlier : List Step) → IsHistory setup (s ∷ earlier) → GoesOn (s ∷ earlier) → MaySwitch earlier s.moment
    → suc (length earlier) < 2 ^ 64 → ((left_by earlier).hold ≡ 0 → switches earlier ≡ (left_by earlier).epoch)
    → s.new.hold ≡ 0 → switches (s ∷ earlier) ≡ s.new.epoch
count_step setup s earlier h on may l before free = go (begins_switch s.moment) refl
  where
    old_hold : s.old.hold ≡ (left_by earlier).hold
    old_hold = ap (λ (x : ReplState). x.hold) h.0.old

    old_epoch : s.old.epoch ≡ (left_by earlier).epoch
    old_epoch = ap (λ (x : ReplState). x.epoch) h.0.old

    other : Moves s.old s.new → switches earlier ≡ s.new.epoch
    other (inl m) = before (sym old_hold ∙ sym m.0 ∙ free) ∙ sym old_epoch ∙ sym m.1
    other (inr m) = absurd (no_way (sym m ∙ free))
      where
        no_way : ◌≡◌ {A = ℕ} 1 0 → ⊥
        no_way e = omega arith

    quiet : (m : Moment) → s.moment ≡ m → begins_switch m ≡ true → given earlier ≡ None
    quiet m q b = at (given earlier) refl
      where
        apart : (frame : List ℕ) (reply : Reply) → m ≡ Resume 1 frame reply → ⊥
        apart frame reply e = clash (ap begins_switch e)
          where
            clash : begins_switch m ≡ false → ⊥
            clash f = true≢false (sym b ∙ f)

        at : (o : Option (List ℕ)) → given earlier ≡ o → o ≡ None
        at None e = refl
        at (Some frame) e = let r : (reply : Reply) × (s.moment ≡ Resume 1 frame reply) = on.0 frame e in absurd (apart frame r.0 (sym q ∙ r.1))

    begin : (m : Moment) → s.moment ≡ m → begins_switch m ≡ true → suc (switches earlier) ≡ s.new.epoch
    begin (Resume handler frame reply) q b = absurd (false≢true b)
    begin (Begin handler arg) q b =
        let C : Moment → Type 0 = λ x. MaySwitch earlier x in
        let m : MaySwitch earlier (Begin handler arg) = subst C q may in
        let a : (c : ChangeId) × (slice_get (asked earlier) (switches earlier) ≡ Some (c, arg)) = m (eqb-true handler 2 b) in
        let n : (switches earlier < (left_by earlier).epoch) × (word arg 0 ≡ suc (switches earlier)) =
        nth_asked setup earlier h.1 on.1 (shorter (length earlier) (2 ^ 64) l) (quiet (Begin handler arg) q b) (switches earlier) a.0 arg a.1 in
        let P : ReplState → Type 0 = λ x. Switches s.old x (word arg 0) in
        let Q : Moment → Type 0 = λ x. s.new ≡ (repl_step setup s.old x).0 in
        let made : s.new ≡ (repl_step setup s.old (Begin handler arg)).0 = subst Q q h.0.new in
        at n (subst P (sym made) (switch_moves setup s.old handler arg b))
      where
        behind : (n e o : ℕ) → n < e → o ≡ e → n ≡ e → ⊥
        behind n e o a b c = omega arith

        at : (switches earlier < (left_by earlier).epoch) × (word arg 0 ≡ suc (switches earlier)) → Switches s.old s.new (word arg 0) → suc (switches earlier) ≡ s.new.epoch
        at n (inl r) = sym n.1 ∙ r.0 ∙ sym r.1
        at n (inr r) =
            absurd (behind (switches earlier) (left_by earlier).epoch (left_by earlier).epoch n.0 refl
            (before (sym old_hold ∙ sym (ap (λ (x : ReplState). x.hold) r) ∙ free)))

    go : (b : Bool) → begins_switch s.moment ≡ b → (if b then suc (switches earlier) else switches earlier) ≡ s.new.epoch
    go true b = begin s.moment refl b
    go false b =
        let P : ReplState → Type 0 = λ x. Moves s.old x in
        other (subst P (sym h.0.new) (step_moves setup s.old s.moment b))

-- while casts are not held, as many rebindings began as epochs were left
pub switches_count : (setup : Setup) (steps : List Step) → IsHistory setup steps → GoesOn steps → IsRebound steps → length steps < 2 ^ 64
    → (left_by steps).hold ≡ 0 → switches steps ≡ (left_by steps).epoch
switches_count setup [] h on r l free = refl
switches_count setup (s ∷ earlier) h on r l free =
    count_step setup s earlier h on r.0 l (λ f. switches_count setup earlier h.1 on.1 r.1 (shorter (length earlier) (2 ^ 64) l) f) free

-- ---- what goes down
sent : (setup : Setup) (s : ReplState) (own : Option Own) (event : EventId) (arg frame : List ℕ) → repl_recast setup s.epoch own ≡ gives.Call event arg frame
    → s.hold ≡ 0 → IsCast setup s event arg
sent setup s None event arg frame e free = absurd (cc)
sent setup s (Some own) event arg frame e free = record { port = port e; epoch = ap (λ z. word z 0) (sym (words e)); free = free }
  where
    port : repl_recast setup s.epoch (Some own) ≡ gives.Call event arg frame → event ≡ port_at setup 0
    port e = cc

    words : repl_recast setup s.epoch (Some own) ≡ gives.Call event arg frame → s.epoch ∷ me setup ∷ own.number ∷ own.kind ∷ own.value ∷ [] ≡ arg
    words e = cc

-- of a result: what it calls goes down
abbrev Down : Setup → EventId → List ℕ → List ℕ → ReplState × Outcome → Type 0
Down setup event arg frame r = r.1 ≡ gives.Call event arg frame → IsCast setup r.0 event arg

cast_down : (setup : Setup) (s : ReplState) (kind value : ℕ) (event : EventId) (arg frame : List ℕ) → Down setup event arg frame (repl_cast setup s kind value)
cast_down setup s kind value event arg frame =
    cond_both (nat_lt 2 kind || ((kind == 1) && not (is_change setup kind value))) (s, done []) (new, held (eqb s.hold 0))
    (Down setup event arg frame) (λ t e. absurd (cc)) (λ f e. at (eqb s.hold 0) refl e)
  where
    own : Own
    own = record { number = up s.count; kind = kind; value = value }

    new : ReplState
    new = record s { count = up s.count; mine = s.mine ++ own ∷ [] }

    held : Bool → Outcome
    held b = if b then repl_recast setup s.epoch (Some own) else done (own.number ∷ [])

    at : (b : Bool) → eqb s.hold 0 ≡ b → held b ≡ gives.Call event arg frame → IsCast setup new event arg
    at true t e = sent setup new (Some own) event arg frame e (eqb-true s.hold 0 t)
    at false t e = absurd (cc)

switch_down : (setup : Setup) (s : ReplState) (e : ℕ) (event : EventId) (arg frame : List ℕ) → Down setup event arg frame (repl_switched setup s e)
switch_down setup s e event arg frame =
    cond_both (eqb e s.epoch) (repl_go_on setup free 0) (s, done []) (Down setup event arg frame)
    (λ t q. sent setup free (find (λ (own : Own). nat_lt 0 own.number) s.mine) event arg frame q refl) (λ f q. absurd (cc))
  where
    free : ReplState
    free = record s { hold = 0 }

-- a step of `cast`, or of `switched`
step_down : (setup : Setup) (s : ReplState) (moment : Moment) → (handler_of moment ≡ 0) ⊎ (handler_of moment ≡ 2)
    → ((handler : ℕ) (frame : List ℕ) (reply : Reply) → moment ≡ Resume handler frame reply → handler ≡ 2 → s.hold ≡ 0)
    → (event : EventId) (arg frame : List ℕ) → Down setup event arg frame (repl_step setup s moment)
step_down setup s (Begin handler words) (inl z) held event arg frame =
    let P : ℕ → Type 0 = λ n. Down setup event arg frame (repl_step setup s (Begin n words)) in
    subst P (sym z) (cast_down setup s (word words 0) (word words 1) event arg frame)
step_down setup s (Begin handler words) (inr two) held event arg frame =
    let P : ℕ → Type 0 = λ n. Down setup event arg frame (repl_step setup s (Begin n words)) in
    subst P (sym two) (switch_down setup s (word words 0) event arg frame)
step_down setup s (Resume handler words reply) (inl z) held event arg frame =
    let P : ℕ → Type 0 = λ n. Down setup event arg frame (repl_step setup s (Resume n words reply)) in
    subst P (sym z) (λ e. absurd (cc))
step_down setup s (Resume handler words reply) (inr two) held event arg frame =
    let P : ℕ → Type 0 = λ n. Down setup event arg frame (repl_step setup s (Resume n words reply)) in
    subst P (sym two) (λ e. sent setup s (find (λ (own : Own). nat_lt (word words 0) own.number) s.mine) event arg frame e (held handler words reply refl two))

-- what a step of `cast` or `switched` calls with is a message of the present epoch, and no cast is held
pub casts_down : (setup : Setup) (s : Step) (earlier : List Step) → IsHistory setup (s ∷ earlier) → IsRebound (s ∷ earlier)
    → (handler_of s.moment ≡ 0) ⊎ (handler_of s.moment ≡ 2)
    → (event : EventId) (arg frame : List ℕ) → s.outcome ≡ gives.Call event arg frame → IsCast setup s.new event arg
casts_down setup s [] h r which event arg frame e =
    let P : ReplState → Outcome → Type 0 = λ x o. o ≡ gives.Call event arg frame → IsCast setup x event arg in
    subst₂ P (sym h.0.new) (sym h.0.outcome)
    (step_down setup s.old s.moment which (λ handler words reply m two. ap (λ (x : ReplState). x.hold) h.0.old) event arg frame) e
casts_down setup s (p ∷ earlier) h r which event arg frame e =
    let P : ReplState → Outcome → Type 0 = λ x o. o ≡ gives.Call event arg frame → IsCast setup x event arg in
    let ih : (handler_of p.moment ≡ 0) ⊎ (handler_of p.moment ≡ 2) → (event : EventId) (arg frame : List ℕ) → p.outcome ≡ gives.Call event arg frame → IsCast setup p.new event arg =
    casts_down setup p earlier h.1 r.1 in
    subst₂ P (sym h.0.new) (sym h.0.outcome)
    (step_down setup s.old s.moment which (λ handler words reply m two. held ih handler words reply m two) event arg frame) e
  where
    held : ((handler_of p.moment ≡ 0) ⊎ (handler_of p.moment ≡ 2) → (event : EventId) (arg frame : List ℕ) → p.outcome ≡ gives.Call event arg frame → IsCast setup p.new event arg)
        → (handler : ℕ) (words : List ℕ) (reply : Reply) → s.moment ≡ Resume handler words reply → handler ≡ 2 → s.old.hold ≡ 0
    held ih handler words reply m two =
        let C : Moment → Type 0 = λ x. MaySwitch (p ∷ earlier) x in
        let may : MaySwitch (p ∷ earlier) (Resume handler words reply) = subst C m r.0 in
        let c : (handler_of p.moment ≡ 2) × (event : EventId) × (arg : List ℕ) × (frame : List ℕ) × (p.outcome ≡ gives.Call event arg frame) = may two in
        ap (λ (x : ReplState). x.hold) h.0.old ∙ (ih (inr c.0) c.1 c.2 c.3 c.4).free
