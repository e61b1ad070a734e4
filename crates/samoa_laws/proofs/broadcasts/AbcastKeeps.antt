-- Each step of abcast keeps what holds of its box.
use Rattle.std.proofs.Common.{◌≡◌, ◌⊎◌, inl, inr, ℕ, zero, suc, ◌+◌, ◌-◌, ◌^◌, ◌<◌, ◌≤◌, Bool, true, false, ◌||◌, nat_lt, List, [], ◌∷◌, ◌++◌, length, refl, sym, ap, ◌∙◌, subst, arith, ◌==◌, if◌then◌else◌, eqb-true, Option, Some, None}
use Rattle.samoa_serial.specs.Rows.{word, up, done, call, message_at, message_words, message_key, same_key, has_key, message_of, with_message}
use Rattle.samoa_serial.specs.State.{AbcastState}
use Rattle.samoa_serial.specs.AbcastTable.{abcast_offer, abcast_is_done, abcast_skip, abcast_hand_on, abcast_drain, has_message, abcast_heard, abcast_decided, abcast_marked, abcast_mark, abcast_decided_on, abcast_step}
use Rattle.samoa_model.specs.declared.handler.Moment.{Moment}
use Rattle.samoa_model.specs.declared.handler.Outcome.{Outcome}
use Rattle.samoa_serial.specs.declared.keys.Key.{Key}
use Rattle.samoa_serial.specs.declared.message.Message.{Message}
use Rattle.samoa_model.specs.declared.setup.Setup.{Setup}
use Rattle.samoa_serial.proofs.DrainLaws.{drain_passes}
use Rattle.samoa_laws.proofs.lists.Messages.{has_end, has_end_old, up_to_some}
use Rattle.samoa_laws.specs.lists.Lists.{In}
use Rattle.samoa_laws.specs.trace.Boxes.{noted}
use Rattle.samoa_laws.specs.broadcasts.Boxes.{raised_by}
use Rattle.samoa_laws.specs.broadcasts.Abcast.{up_to}
use Rattle.samoa_laws.proofs.broadcasts.Maps.{HasMore, with_message_is, has-with_key}
use Rattle.samoa_laws.proofs.broadcasts.Handed.{Handed, gets_more, skips, hands_on, moves_on, few_passed}
use Rattle.samoa_laws.proofs.lists.Lists.{some_same}

-- what holds of the state's decisions, keys handed on and next instance, where us was called up
pub record Stands (message : ℕ → Option Message) (Phi : ℕ → Message → Type 0) (es : List (ℕ × Message)) (done : List Key) (next : ℕ) (us : List (ℕ × Message)) : Type 0 where
  pub passed : ℕ
  pub comes : next ≡ suc passed
  pub handed : Handed message Phi es passed us
  pub keys : (k : Key) → has_key done k ≡ has_message (up_to message passed) k

-- the same, after so many steps
pub record Kept (message : ℕ → Option Message) (Phi : ℕ → Message → Type 0) (n : ℕ) (es : List (ℕ × Message)) (done : List Key) (next : ℕ) (us : List (ℕ × Message)) : Type 0 where
  pub stands : Stands message Phi es done next us
  pub few : length es ≤ n

abbrev pub KeptBy : (ℕ → Option Message) → (ℕ → Message → Type 0) → ℕ → AbcastState → List (ℕ × Message) → Type 0
KeptBy message Phi n s us = Kept message Phi n s.decisions s.done s.next us

-- after a step, whether or not its outcome takes effect
abbrev pub After : (ℕ → Option Message) → (ℕ → Message → Type 0) → ℕ → List (ℕ × Message) → AbcastState × Outcome → Type 0
After message Phi n us r = (effective : Bool) → KeptBy message Phi n r.0 (noted us (raised_by r.1) effective)

-- the end of the numbers is far
abbrev pub IsShort : ℕ → Type 0
IsShort n = n < 2 ^ 32

after_if : (message : ℕ → Option Message) (Phi : ℕ → Message → Type 0) (n : ℕ) (us : List (ℕ × Message)) (b : Bool) (r q : AbcastState × Outcome)
    → (b ≡ true → After message Phi n us r) → After message Phi n us q → After message Phi n us (if b then r else q)
after_if message Phi n us true r q first second = first refl
after_if message Phi n us false r q first second = second

-- ---- the drain
next_is : (next p n : ℕ) → next ≡ suc p → p ≤ n → IsShort n → up next ≡ suc next
next_is next p n e le small = omega arith

skip_stands : (message : ℕ → Option Message) (Phi : ℕ → Message → Type 0) (n : ℕ) (es : List (ℕ × Message)) (done : List Key) (us : List (ℕ × Message))
    → IsShort n → length es ≤ n → (fuel next : ℕ) → Stands message Phi es done next us → Stands message Phi es done (abcast_skip done es fuel next) us
skip_stands message Phi n es done us small few zero next st = st
skip_stands message Phi n es done us small few (suc more) next st =
    go (skip_stands message Phi n es done us small few more (up next)) (message_of es next) refl (abcast_is_done done (message_of es next)) refl
  where
    passes : (m : Message) → message_of es next ≡ Some m → has_key done (message_key m) ≡ true → Stands message Phi es done (up next) us
    passes m e t =
        let le : st.passed ≤ length es = few_passed message Phi es st.passed us st.handed in
        let here : message_of es (suc st.passed) ≡ Some m = ap (λ (k : ℕ). message_of es k) (sym st.comes) ∙ e in
        let old : has_message (up_to message st.passed) (message_key m) ≡ true = sym (st.keys (message_key m)) ∙ t in
        let known : message (suc st.passed) ≡ Some m = st.handed.known (suc st.passed) m here in
        record {
          passed = suc st.passed;
          comes = next_is next st.passed n st.comes (omega arith) small ∙ ap suc st.comes;
          handed = skips message Phi es st.passed us m st.handed here old;
          keys = λ k. st.keys k
              ∙ (sym (has_end_old (up_to message st.passed) m k old) ∙ ap (λ (l : List Message). has_message l k) (sym (up_to_some message st.passed m known)));
        }

    go : (Stands message Phi es done (up next) us → Stands message Phi es done (abcast_skip done es more (up next)) us)
        → (o : Option Message) → message_of es next ≡ o → (b : Bool) → abcast_is_done done o ≡ b
        → Stands message Phi es done (if b then abcast_skip done es more (up next) else next) us
    go ih None e true t = absurd (cc)
    go ih (Some m) e true t = ih (passes m e t)
    go ih o e false t = st

-- ---- the drain
offer_keeps : (message : ℕ → Option Message) (Phi : ℕ → Message → Type 0) (n : ℕ) (us : List (ℕ × Message)) (setup : Setup) (s : AbcastState)
    → KeptBy message Phi n s us → (pending : List Message) → After message Phi n us (abcast_offer setup s pending)
offer_keeps message Phi n us setup s kept [] = λ effective. kept
offer_keeps message Phi n us setup s kept (m ∷ pending) = go (nat_lt s.proposed s.next)
  where
    go : (b : Bool) → After message Phi n us (if b then (record s { proposed = s.next }, call setup 1 (s.next ∷ message_words m) (0 ∷ [])) else (s, done []))
    go true = λ effective. kept
    go false = λ effective. kept

drain_keeps : (message : ℕ → Option Message) (Phi : ℕ → Message → Type 0) (n : ℕ) (us : List (ℕ × Message)) (setup : Setup) (s : AbcastState)
    → IsShort n → KeptBy message Phi n s us → After message Phi n us (abcast_drain setup s)
drain_keeps message Phi n us setup s small kept = go (message_of s.decisions next) refl
  where
    next : ℕ
    next = abcast_skip s.done s.decisions (length s.decisions) s.next

    st : Stands message Phi s.decisions s.done next us
    st = skip_stands message Phi n s.decisions s.done us small kept.few (length s.decisions) s.next kept.stands

    early : s.next + length s.decisions < 2 ^ 64 - 1
    early =
        let le : kept.stands.passed ≤ length s.decisions = few_passed message Phi s.decisions kept.stands.passed us kept.stands.handed in
        let comes : s.next ≡ suc kept.stands.passed = kept.stands.comes in
        let few : length s.decisions ≤ n = kept.few in
        omega arith

    new : (m : Message) → message_of s.decisions next ≡ Some m → has_message (up_to message st.passed) (message_key m) ≡ false
    new m e =
        sym (st.keys (message_key m))
        ∙ (ap (λ (o : Option Message). abcast_is_done s.done o) (sym e) ∙ drain_passes s.done s.decisions s.next early)

    hands : (m : Message) → message_of s.decisions next ≡ Some m → (effective : Bool)
        → Kept message Phi n s.decisions s.done next (noted us (Some (next, m)) effective)
    hands m e false = record { stands = st; few = kept.few }
    hands m e true = record {
      stands = record {
        passed = st.passed;
        comes = st.comes;
        handed = subst (λ (k : ℕ). Handed message Phi s.decisions st.passed (us ++ (k, m) ∷ [])) (sym st.comes)
            (hands_on message Phi s.decisions st.passed us m st.handed (ap (λ (k : ℕ). message_of s.decisions k) (sym st.comes) ∙ e) (new m e));
        keys = st.keys;
      };
      few = kept.few;
    }

    go : (o : Option Message) → message_of s.decisions next ≡ o → After message Phi n us (abcast_hand_on setup (record s { next = next }) o)
    go None e = offer_keeps message Phi n us setup (record s { next = next }) (record { stands = st; few = kept.few }) s.pending
    go (Some m) e = λ effective. hands m e effective

-- ---- the rows
heard_keeps : (message : ℕ → Option Message) (Phi : ℕ → Message → Type 0) (n : ℕ) (us : List (ℕ × Message)) (setup : Setup) (s : AbcastState) (m : Message)
    → KeptBy message Phi n s us → After message Phi n us (abcast_heard setup s m)
heard_keeps message Phi n us setup s m kept =
    offer_keeps message Phi n us setup (record s { pending = pending }) kept pending
  where
    pending : List Message
    pending = if has_message s.pending (message_key m) || has_key s.done (message_key m) then s.pending else s.pending ++ m ∷ []

decided_keeps : (message : ℕ → Option Message) (Phi : ℕ → Message → Type 0) (n : ℕ) (us : List (ℕ × Message)) (setup : Setup) (s : AbcastState) (i : ℕ) (m : Message)
    → IsShort (suc n) → message i ≡ Some m → Phi i m → KeptBy message Phi n s us → After message Phi (suc n) us (abcast_decided setup s i m)
decided_keeps message Phi n us setup s i m small known valid kept =
    drain_keeps message Phi (suc n) us setup (record s { decisions = decisions }) small (record {
      stands = record {
        passed = kept.stands.passed;
        comes = kept.stands.comes;
        handed = gets_more message Phi s.decisions decisions kept.stands.passed us h more.stays
            (λ j x e. knows j x (more.new j x e)) (λ j x e. holds j x (more.new j x e));
        keys = kept.stands.keys;
      };
      few = fewer more.few kept.few;
    })
  where
    decisions : List (ℕ × Message)
    decisions = with_message s.decisions i m

    more : HasMore s.decisions decisions i m
    more = with_message_is s.decisions i m

    h : Handed message Phi s.decisions kept.stands.passed us
    h = kept.stands.handed

    fewer : length decisions ≤ length s.decisions + 1 → length s.decisions ≤ n → length decisions ≤ suc n
    fewer a b = omega arith

    knows : (j : ℕ) (x : Message) → (message_of s.decisions j ≡ Some x) ⊎ ((i ≡ j) × (m ≡ x)) → message j ≡ Some x
    knows j x (inl e) = h.known j x e
    knows j x (inr e) = ap message (sym e.0) ∙ (known ∙ ap (λ (y : Message). Some y) e.1)

    holds : (j : ℕ) (x : Message) → (message_of s.decisions j ≡ Some x) ⊎ ((i ≡ j) × (m ≡ x)) → Phi j x
    holds j x (inl e) = h.valid j x e
    holds j x (inr e) = subst (λ (k : ℕ). Phi k x) e.0 (subst (λ (y : Message). Phi i y) e.1 valid)

marked_keeps : (message : ℕ → Option Message) (Phi : ℕ → Message → Type 0) (n : ℕ) (us : List (ℕ × Message)) (s : AbcastState) (m : Message)
    → IsShort n → In (s.next, m) us → KeptBy message Phi n s us → KeptBy message Phi n (abcast_marked s m) us
marked_keeps message Phi n us s m small called kept = record {
  stands = record {
    passed = suc st.passed;
    comes = next_is s.next st.passed n st.comes (le kept.few) small ∙ ap suc st.comes;
    handed = moves_on message Phi s.decisions st.passed us m st.handed at;
    keys = λ k. has-with_key s.done (message_key m) k ∙ same k;
  };
  few = kept.few;
}
  where
    st : Stands message Phi s.decisions s.done s.next us
    st = kept.stands

    le : length s.decisions ≤ n → st.passed ≤ n
    le few =
        let passed : st.passed ≤ length s.decisions = few_passed message Phi s.decisions st.passed us st.handed in omega arith

    at : In (suc st.passed, m) us
    at = subst (λ (k : ℕ). In (k, m) us) st.comes called

    known : message (suc st.passed) ≡ Some m
    known = st.handed.known (suc st.passed) m (st.handed.raised (suc st.passed) m at)

    turned : (a b c : Bool) → b ≡ c → (a || b) ≡ (c || a)
    turned true true true e = refl
    turned true true false e = refl
    turned true false true e = refl
    turned true false false e = refl
    turned false true true e = refl
    turned false true false e = absurd (cc)
    turned false false true e = absurd (cc)
    turned false false false e = refl

    same : (k : Key) → (same_key (message_key m) k || has_key s.done k) ≡ has_message (up_to message (suc st.passed)) k
    same k =
        turned (same_key (message_key m) k) (has_key s.done k) (has_message (up_to message st.passed) k) (st.keys k)
        ∙ (sym (has_end (up_to message st.passed) m k) ∙ ap (λ (l : List Message). has_message l k) (sym (up_to_some message st.passed m known)))

resumed_keeps : (message : ℕ → Option Message) (Phi : ℕ → Message → Type 0) (n : ℕ) (us : List (ℕ × Message)) (setup : Setup) (s : AbcastState) (x : ℕ) (m : Message)
    → IsShort n → In (x, m) us → KeptBy message Phi n s us → After message Phi n us (abcast_decided_on setup s x)
resumed_keeps message Phi n us setup s x m small called kept =
    after_if message Phi n us (s.next == x) (abcast_mark setup s (message_of s.decisions s.next)) (abcast_drain setup s)
    (λ t. marks (eqb-true s.next x t) (message_of s.decisions s.next) refl)
    (drain_keeps message Phi n us setup s small kept)
  where
    marks : s.next ≡ x → (o : Option Message) → message_of s.decisions s.next ≡ o → After message Phi n us (abcast_mark setup s o)
    marks same None e = λ effective. kept
    marks same (Some y) e =
        let at : In (s.next, m) us = subst (λ (k : ℕ). In (k, m) us) (sym same) called in
        let it : m ≡ y = some_same (message_of s.decisions s.next) m y (kept.stands.handed.raised s.next m at) e in
        drain_keeps message Phi n us setup (abcast_marked s y) small
        (marked_keeps message Phi n us s y small (subst (λ (z : Message). In (s.next, z) us) it at) kept)

later : (message : ℕ → Option Message) (Phi : ℕ → Message → Type 0) (n : ℕ) (s : AbcastState) (us : List (ℕ × Message)) → KeptBy message Phi n s us → KeptBy message Phi (suc n) s us
later message Phi n s us kept =
    let few : length s.decisions ≤ n = kept.few in
    record { stands = kept.stands; few = omega arith }

-- what may come: a decision that is known and valid, a resume after its call
abbrev pub Fits : (ℕ → Option Message) → (ℕ → Message → Type 0) → List (ℕ × Message) → Moment → Type 0
Fits message Phi us (Moment.Begin handler arg) =
    handler ≡ 2 → (message (word arg 0) ≡ Some (message_at arg 1)) × Phi (word arg 0) (message_at arg 1)
Fits message Phi us (Moment.Resume handler frame reply) = handler ≡ 2 → word frame 0 ≡ 1 → (m : Message) × In (word frame 1, m) us

pub step_keeps : (message : ℕ → Option Message) (Phi : ℕ → Message → Type 0) (n : ℕ) (us : List (ℕ × Message)) (setup : Setup) (s : AbcastState) (moment : Moment)
    → IsShort (suc n) → Fits message Phi us moment → KeptBy message Phi n s us → After message Phi (suc n) us (abcast_step setup s moment)
step_keeps message Phi n us setup s (Moment.Begin handler arg) small fits kept =
    after_if message Phi (suc n) us (handler == 0) (s, call setup 0 (0 ∷ message_words (message_at arg 0)) (0 ∷ [])) _
    (λ t. λ effective. kept')
    (after_if message Phi (suc n) us (handler == 1) (if word arg 2 == 0 then abcast_heard setup s (message_at arg 3) else (s, done [])) _
    (λ t. after_if message Phi (suc n) us (word arg 2 == 0) (abcast_heard setup s (message_at arg 3)) (s, done [])
    (λ u. heard_keeps message Phi (suc n) us setup s (message_at arg 3) kept') (λ effective. kept'))
    (after_if message Phi (suc n) us (handler == 2) (abcast_decided setup s (word arg 0) (message_at arg 1)) (s, done [])
    (λ t. decided_keeps message Phi n us setup s (word arg 0) (message_at arg 1) small (fits (eqb-true handler 2 t)).0 (fits (eqb-true handler 2 t)).1 kept)
    (λ effective. kept')))
  where
    kept' : KeptBy message Phi (suc n) s us
    kept' = later message Phi n s us kept
step_keeps message Phi n us setup s (Moment.Resume handler frame reply) small fits kept =
    after_if message Phi (suc n) us (handler == 2) (if word frame 0 == 1 then abcast_decided_on setup s (word frame 1) else (s, done [])) (s, done [])
    (λ t. after_if message Phi (suc n) us (word frame 0 == 1) (abcast_decided_on setup s (word frame 1)) (s, done [])
    (λ u. let m = fits (eqb-true handler 2 t) (eqb-true (word frame 0) 1 u) in
    resumed_keeps message Phi (suc n) us setup s (word frame 1) m.0 small m.1 kept')
    (λ effective. kept'))
    (λ effective. kept')
  where
    kept' : KeptBy message Phi (suc n) s us
    kept' = later message Phi n s us kept
