-- Each step of seqcast keeps what holds of the numbers that its box told.
use Rattle.std.proofs.Common.{◌≡◌, inl, inr, ℕ, suc, ◌+◌, ◌^◌, ◌<◌, ◌≤◌, Bool, true, false, ◌||◌, not, List, [], ◌∷◌, ◌++◌, length, refl, sym, ap, ◌∙◌, subst, arith, ◌==◌, if◌then◌else◌, eqb-true, Option, Some, None}
use Rattle.std.specs.Prelude.{⊤}
use Rattle.std.proofs.lemmas.List.{length_push}
use Rattle.samoa_serial.specs.Rows.{word, me, V, up, done, call, message_at, message_words, message_key, same_key, has_key, with_key, message_of, with_message}
use Rattle.samoa_serial.specs.State.{SeqcastState}
use Rattle.samoa_serial.specs.AbcastTable.{has_message}
use Rattle.samoa_serial.specs.SeqcastTable.{seqcast_hand_on, seqcast_drain, seqcast_cast, seqcast_number, seqcast_get, seqcast_got_on, seqcast_step}
use Rattle.samoa_model.specs.declared.handler.Moment.{Moment}
use Rattle.samoa_model.specs.declared.handler.Outcome.{Outcome}
use Rattle.samoa_serial.specs.declared.keys.Key.{Key}
use Rattle.samoa_serial.specs.declared.message.Message.{Message}
use Rattle.samoa_model.specs.declared.setup.Setup.{Setup}
use Rattle.samoa_laws.proofs.lists.Messages.{has_end}
use Rattle.samoa_laws.specs.lists.Lists.{In}
use Rattle.samoa_laws.specs.trace.Boxes.{BoxStep, IsStep, left_by, noted}
use Rattle.samoa_laws.specs.broadcasts.Seqcast.{seqcast_opening, told_by, told, IsSeqcastBox, WasSubmitted}
use Rattle.samoa_laws.proofs.broadcasts.Maps.{has-with_key}
use Rattle.samoa_laws.proofs.broadcasts.Handed.{messages, messages_end}
use Rattle.samoa_laws.proofs.broadcasts.Numbers.{Told, none_told, tells}
use Rattle.samoa_laws.proofs.lists.Lists.{or_false_both}

-- what holds of the state's number and keys, where ts was told
pub record Numbered (Psi : Message → Type 0) (n : ℕ) (count : ℕ) (keys : List Key) (ts : List (ℕ × Message)) : Type 0 where
  pub told : Told Psi ts
  pub counted : count ≡ length ts
  pub few : length ts ≤ n
  pub same : (k : Key) → has_key keys k ≡ has_message (messages ts) k

abbrev pub NumberedBy : (Message → Type 0) → ℕ → SeqcastState → List (ℕ × Message) → Type 0
NumberedBy Psi n s ts = Numbered Psi n s.numbered s.keys ts

abbrev After : (Message → Type 0) → ℕ → List (ℕ × Message) → SeqcastState × Outcome → Type 0
After Psi n ts r = NumberedBy Psi n r.0 (noted ts (told_by r.1) true)

after_if : (Psi : Message → Type 0) (n : ℕ) (ts : List (ℕ × Message)) (b : Bool) (r q : SeqcastState × Outcome)
    → (b ≡ true → After Psi n ts r) → (b ≡ false → After Psi n ts q) → After Psi n ts (if b then r else q)
after_if Psi n ts true r q first second = first refl
after_if Psi n ts false r q first second = second refl

later : (Psi : Message → Type 0) (n count : ℕ) (keys : List Key) (ts : List (ℕ × Message)) → Numbered Psi n count keys ts → Numbered Psi (suc n) count keys ts
later Psi n count keys ts o =
    let few : length ts ≤ n = o.few in
    record { told = o.told; counted = o.counted; few = omega arith; same = o.same }

turned : (a b c : Bool) → b ≡ c → (a || b) ≡ (c || a)
turned true true true e = refl
turned true true false e = refl
turned true false true e = refl
turned true false false e = refl
turned false true true e = refl
turned false true false e = absurd (cc)
turned false false true e = absurd (cc)
turned false false false e = refl

number_keeps : (Psi : Message → Type 0) (n : ℕ) (ts : List (ℕ × Message)) (setup : Setup) (s : SeqcastState) (m : Message)
    → suc n < 2 ^ 32 → Psi m → NumberedBy Psi n s ts → After Psi (suc n) ts (seqcast_number setup s m)
number_keeps Psi n ts setup s m small valid o =
    after_if Psi (suc n) ts (not (me setup == V setup 1) || has_key s.keys (message_key m)) (s, done [])
    (record s { numbered = up s.numbered; keys = with_key s.keys (message_key m) }, call setup 0 (setup.nodes ∷ V setup 0 ∷ 1 ∷ up s.numbered ∷ message_words m) (0 ∷ []))
    (λ t. later Psi n s.numbered s.keys ts o)
    (λ t. new (or_false_both (not (me setup == V setup 1)) (has_key s.keys (message_key m)) t).1)
  where
    next : s.numbered ≡ length ts → length ts ≤ n → up s.numbered ≡ suc (length ts)
    next e few = omega arith

    more : length (ts ++ (suc (length ts), m) ∷ []) ≡ length ts + 1 → length ts ≤ n → length (ts ++ (suc (length ts), m) ∷ []) ≤ suc n
    more e few = omega arith

    longer : length (ts ++ (suc (length ts), m) ∷ []) ≡ length ts + 1 → suc (length ts) ≡ length (ts ++ (suc (length ts), m) ∷ [])
    longer e = omega arith

    new : has_key s.keys (message_key m) ≡ false
        → Numbered Psi (suc n) (up s.numbered) (with_key s.keys (message_key m)) (ts ++ (up s.numbered, m) ∷ [])
    new t =
        subst (λ (x : ℕ). Numbered Psi (suc n) x (with_key s.keys (message_key m)) (ts ++ (x, m) ∷ [])) (sym (next o.counted o.few)) (record {
          told = tells Psi ts m o.told (sym (o.same (message_key m)) ∙ t) valid;
          counted = longer (length_push ts (suc (length ts), m));
          few = more (length_push ts (suc (length ts), m)) o.few;
          same = λ k. has-with_key s.keys (message_key m) k
              ∙ (turned (same_key (message_key m) k) (has_key s.keys k) (has_message (messages ts) k) (o.same k)
              ∙ (sym (has_end (messages ts) m k) ∙ ap (λ (l : List Message). has_message l k) (sym (messages_end ts (suc (length ts)) m))));
        })

drain_numbers : (Psi : Message → Type 0) (n : ℕ) (ts : List (ℕ × Message)) (setup : Setup) (s : SeqcastState) (o : Option Message)
    → NumberedBy Psi n s ts → After Psi n ts (s, seqcast_hand_on setup s.next o)
drain_numbers Psi n ts setup s None kept = kept
drain_numbers Psi n ts setup s (Some m) kept = kept

-- a message that is submitted for numbering is valid
abbrev pub Submits : (Message → Type 0) → Moment → Type 0
Submits Psi (Moment.Begin handler arg) = handler ≡ 1 → word arg 1 ≡ 0 → Psi (message_at arg 2)
Submits Psi (Moment.Resume handler frame reply) = ⊤

pub step_numbers : (Psi : Message → Type 0) (n : ℕ) (ts : List (ℕ × Message)) (setup : Setup) (s : SeqcastState) (moment : Moment)
    → suc n < 2 ^ 32 → Submits Psi moment → NumberedBy Psi n s ts → After Psi (suc n) ts (seqcast_step setup s moment)
step_numbers Psi n ts setup s (Moment.Begin handler arg) small valid o =
    after_if Psi (suc n) ts (handler == 0) (s, seqcast_cast setup (message_at arg 0)) _ (λ t. o')
    (λ t. after_if Psi (suc n) ts (handler == 1)
    (if word arg 1 == 0 then seqcast_number setup s (message_at arg 2)
    else if word arg 1 == 1 then seqcast_get setup s (word arg 2) (message_at arg 3) else (s, done []))
    (s, done [])
    (λ u. after_if Psi (suc n) ts (word arg 1 == 0) (seqcast_number setup s (message_at arg 2)) _
    (λ w. number_keeps Psi n ts setup s (message_at arg 2) small (valid (eqb-true handler 1 u) (eqb-true (word arg 1) 0 w)) o)
    (λ w. after_if Psi (suc n) ts (word arg 1 == 1) (seqcast_get setup s (word arg 2) (message_at arg 3)) (s, done [])
    (λ x. drain_numbers Psi (suc n) ts setup (record s { got = with_message s.got (word arg 2) (message_at arg 3) })
    (message_of (with_message s.got (word arg 2) (message_at arg 3)) s.next) o')
    (λ x. o')))
    (λ u. o'))
  where
    o' : NumberedBy Psi (suc n) s ts
    o' = later Psi n s.numbered s.keys ts o
step_numbers Psi n ts setup s (Moment.Resume handler frame reply) small valid o =
    after_if Psi (suc n) ts (handler == 1) (if word frame 0 == 1 then seqcast_got_on setup s (word frame 1) else (s, done [])) (s, done [])
    (λ t. after_if Psi (suc n) ts (word frame 0 == 1) (seqcast_got_on setup s (word frame 1)) (s, done [])
    (λ u. drains (s.next == word frame 1))
    (λ u. o'))
    (λ t. o')
  where
    o' : NumberedBy Psi (suc n) s ts
    o' = later Psi n s.numbered s.keys ts o

    drains : (b : Bool) → After Psi (suc n) ts (seqcast_drain setup (if b then record s { next = up s.next } else s))
    drains true = drain_numbers Psi (suc n) ts setup (record s { next = up s.next }) (message_of s.got (up s.next)) o'
    drains false = drain_numbers Psi (suc n) ts setup s (message_of s.got s.next) o'

-- ---- every history of a box
abbrev AreSubmitted : (Message → Type 0) → List (BoxStep SeqcastState) → Type 0
AreSubmitted Psi steps =
    (s : BoxStep SeqcastState) → In s steps → (arg : List ℕ) → s.moment ≡ Moment.Begin 1 arg → word arg 1 ≡ 0 → Psi (message_at arg 2)

submits : (Psi : Message → Type 0) (moment : Moment) → ((arg : List ℕ) → moment ≡ Moment.Begin 1 arg → word arg 1 ≡ 0 → Psi (message_at arg 2)) → Submits Psi moment
submits Psi (Moment.Begin handler arg) valid = λ t. valid arg (ap (λ (h : ℕ). Moment.Begin h arg) t)
submits Psi (Moment.Resume handler frame reply) valid = tt

numbers : (Psi : Message → Type 0) (setup : Setup) (steps : List (BoxStep SeqcastState)) → IsSeqcastBox setup steps → AreSubmitted Psi steps → length steps < 2 ^ 32
    → NumberedBy Psi (length steps) (left_by seqcast_opening steps) (told steps)
numbers Psi setup [] history valid small = record { told = none_told Psi; counted = refl; few = omega arith; same = λ k. refl }
numbers Psi setup (s ∷ earlier) history valid small =
    go history.0 (numbers Psi setup earlier history.2 (λ t at. valid t (inr at)) (omega arith))
  where
    Result : SeqcastState → Outcome → Type 0
    Result new outcome = NumberedBy Psi (suc (length earlier)) new (noted (told earlier) (told_by outcome) true)

    go : IsStep (seqcast_step setup) seqcast_opening earlier s → NumberedBy Psi (length earlier) (left_by seqcast_opening earlier) (told earlier)
        → Result s.new s.outcome
    go step ih =
        let old : NumberedBy Psi (length earlier) s.old (told earlier) =
        subst (λ (x : SeqcastState). NumberedBy Psi (length earlier) x (told earlier)) (sym step.old) ih in
        let after : After Psi (suc (length earlier)) (told earlier) (seqcast_step setup s.old s.moment) =
        step_numbers Psi (length earlier) (told earlier) setup s.old s.moment small (submits Psi s.moment (valid s (inl refl))) old in
        subst (λ (x : SeqcastState). Result x s.outcome) (sym step.new)
        (subst (λ (o : Outcome). Result (seqcast_step setup s.old s.moment).0 o) (sym step.outcome) after)

-- what a box told with numbers is of messages that were submitted to it
pub all_told : (setup : Setup) (steps : List (BoxStep SeqcastState)) → IsSeqcastBox setup steps → length steps < 2 ^ 32 → Told (WasSubmitted steps) (told steps)
all_told setup steps history small =
    (numbers (WasSubmitted steps) setup steps history (λ s at arg e z. (s, arg, at, e, z, refl)) small).told

-- its number is how many it told, one a step at most
pub number_is_low : (setup : Setup) (steps : List (BoxStep SeqcastState)) → IsSeqcastBox setup steps → length steps < 2 ^ 32
    → ((left_by seqcast_opening steps).numbered ≡ length (told steps)) × (length (told steps) ≤ length steps)
number_is_low setup steps history small =
    let n = numbers (WasSubmitted steps) setup steps history (λ s at arg e z. (s, arg, at, e, z, refl)) small in
    (n.counted, n.few)

-- what it told with a number is the message of that number, and the numbers are those from 1 on
pub told_is : (setup : Setup) (steps : List (BoxStep SeqcastState)) → IsSeqcastBox setup steps → length steps < 2 ^ 32
    → (x : ℕ) (m : Message) → In (x, m) (told steps) → (message_of (told steps) x ≡ Some m) × (1 ≤ x) × (x ≤ length (told steps))
told_is setup steps history small x m h =
    let t : Told (WasSubmitted steps) (told steps) = all_told setup steps history small in
    let b = t.bounds x m (t.finds x m h) in
    (t.finds x m h, b.0, b.1)

-- ---- elsewhere nothing is numbered
quiet_if : (b : Bool) (r q : SeqcastState × Outcome) → (b ≡ true → told_by r.1 ≡ None) → (b ≡ false → told_by q.1 ≡ None) → told_by (if b then r else q).1 ≡ None
quiet_if true r q first second = first refl
quiet_if false r q first second = second refl

quiet_up : (setup : Setup) (next : ℕ) (o : Option Message) → told_by (seqcast_hand_on setup next o) ≡ None
quiet_up setup next None = refl
quiet_up setup next (Some m) = refl

quiet_number : (setup : Setup) (s : SeqcastState) (m : Message) → (me setup ≡ V setup 1 → ⊥) → told_by (seqcast_number setup s m).1 ≡ None
quiet_number setup s m elsewhere =
    quiet_if (not (me setup == V setup 1) || has_key s.keys (message_key m)) (s, done [])
    (record s { numbered = up s.numbered; keys = with_key s.keys (message_key m) }, call setup 0 (setup.nodes ∷ V setup 0 ∷ 1 ∷ up s.numbered ∷ message_words m) (0 ∷ []))
    (λ t. refl) (λ t. absurd (elsewhere (eqb-true (me setup) (V setup 1) (is (me setup == V setup 1) (or_false_both (not (me setup == V setup 1)) (has_key s.keys (message_key m)) t).0))))
  where
    is : (b : Bool) → not b ≡ false → b ≡ true
    is true e = refl
    is false e = absurd (cc)

quiet_step : (setup : Setup) (s : SeqcastState) (moment : Moment) → (me setup ≡ V setup 1 → ⊥) → told_by (seqcast_step setup s moment).1 ≡ None
quiet_step setup s (Moment.Begin handler arg) elsewhere =
    quiet_if (handler == 0) (s, seqcast_cast setup (message_at arg 0)) _ (λ t. refl)
    (λ t. quiet_if (handler == 1)
    (if word arg 1 == 0 then seqcast_number setup s (message_at arg 2)
    else if word arg 1 == 1 then seqcast_get setup s (word arg 2) (message_at arg 3) else (s, done []))
    (s, done [])
    (λ u. quiet_if (word arg 1 == 0) (seqcast_number setup s (message_at arg 2)) _ (λ w. quiet_number setup s (message_at arg 2) elsewhere)
    (λ w. quiet_if (word arg 1 == 1) (seqcast_get setup s (word arg 2) (message_at arg 3)) (s, done [])
    (λ x. quiet_up setup s.next (message_of (with_message s.got (word arg 2) (message_at arg 3)) s.next)) (λ x. refl)))
    (λ u. refl))
quiet_step setup s (Moment.Resume handler frame reply) elsewhere =
    quiet_if (handler == 1) (if word frame 0 == 1 then seqcast_got_on setup s (word frame 1) else (s, done [])) (s, done [])
    (λ t. quiet_if (word frame 0 == 1) (seqcast_got_on setup s (word frame 1)) (s, done []) (λ u. drains (s.next == word frame 1)) (λ u. refl))
    (λ t. refl)
  where
    drains : (b : Bool) → told_by (seqcast_drain setup (if b then record s { next = up s.next } else s)).1 ≡ None
    drains true = quiet_up setup (up s.next) (message_of s.got (up s.next))
    drains false = quiet_up setup s.next (message_of s.got s.next)

pub elsewhere_nothing : (setup : Setup) (steps : List (BoxStep SeqcastState)) → IsSeqcastBox setup steps → (me setup ≡ V setup 1 → ⊥) → told steps ≡ []
elsewhere_nothing setup [] history elsewhere = refl
elsewhere_nothing setup (s ∷ earlier) history elsewhere =
    let none : told_by s.outcome ≡ None = ap told_by history.0.outcome ∙ quiet_step setup s.old s.moment elsewhere in
    ap (λ (o : Option (ℕ × Message)). noted (told earlier) o true) none ∙ elsewhere_nothing setup earlier history.2 elsewhere
