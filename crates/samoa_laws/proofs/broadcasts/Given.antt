-- What the boxes answer: by moment, and by what was given to them.
use Rattle.std.proofs.Common.{◌≡◌, ◌⊎◌, inl, inr, ℕ, Bool, true, false, not, ◌||◌, nat_lt, filter, List, [], ◌∷◌, ◌++◌, length, refl, sym, ap, subst, Option, Some, None, cond, ◌==◌, if◌then◌else◌, eqb-true}
use Rattle.samoa_serial.specs.Rows.{word, me, V, up, done, call, message_at, message_words, message_key, same_key, has_key, with_key, message_of, with_message}
use Rattle.samoa_serial.specs.State.{AbcastState, SeqcastState}
use Rattle.samoa_serial.specs.AbcastTable.{abcast_offer, abcast_skip, abcast_hand_on, abcast_drain, has_message, abcast_heard, abcast_decided, abcast_marked, abcast_mark, abcast_decided_on, abcast_step}
use Rattle.samoa_serial.specs.SeqcastTable.{seqcast_hand_on, seqcast_drain, seqcast_cast, seqcast_number, seqcast_get, seqcast_got_on, seqcast_step}
use Rattle.samoa_model.specs.declared.handler.Moment.{Moment}
use Rattle.samoa_model.specs.declared.handler.Outcome.{Outcome}
use Rattle.samoa_serial.specs.declared.message.Message.{Message}
use Rattle.samoa_model.specs.declared.setup.Setup.{Setup}
use Rattle.samoa_laws.proofs.lists.Lists.{in_split}
use Rattle.samoa_laws.specs.lists.Lists.{In}

-- ---- abcast: an answer to a moment, where the messages that wait are valid
pub data Given (Psi : Message → Type 0) (setup : Setup) (moment : Moment) (o : Outcome) : Type 0 where
  NoCall : o ≡ done [] → Given Psi setup moment o
  OfCast : (arg : List ℕ) → moment ≡ Moment.Begin 0 arg → o ≡ call setup 0 (0 ∷ message_words (message_at arg 0)) (0 ∷ []) → Given Psi setup moment o
  OfPending : (i : ℕ) (m : Message) → Psi m → o ≡ call setup 1 (i ∷ message_words m) (0 ∷ []) → Given Psi setup moment o
  Upwards : (x : ℕ) (m : Message) → o ≡ call setup 2 (message_words m) (1 ∷ x ∷ []) → Given Psi setup moment o

abbrev pub AreGood : (Message → Type 0) → List Message → Type 0
AreGood Psi ms = (m : Message) → In m ms → Psi m

-- what waits after a step, and the answer
abbrev pub Fine : (Message → Type 0) → Setup → Moment → AbcastState × Outcome → Type 0
Fine Psi setup moment r = AreGood Psi r.0.pending × Given Psi setup moment r.1

fine_if : (Psi : Message → Type 0) (setup : Setup) (moment : Moment) (b : Bool) (r q : AbcastState × Outcome) → (b ≡ true → Fine Psi setup moment r) → Fine Psi setup moment q
    → Fine Psi setup moment (if b then r else q)
fine_if Psi setup moment true r q first second = first refl
fine_if Psi setup moment false r q first second = second

offer_fine : (Psi : Message → Type 0) (setup : Setup) (moment : Moment) (s : AbcastState) (pending : List Message) → AreGood Psi s.pending → AreGood Psi pending
    → Fine Psi setup moment (abcast_offer setup s pending)
offer_fine Psi setup moment s [] kept good = (kept, NoCall refl)
offer_fine Psi setup moment s (m ∷ pending) kept good =
    fine_if Psi setup moment (nat_lt s.proposed s.next) (record s { proposed = s.next }, call setup 1 (s.next ∷ message_words m) (0 ∷ [])) (s, done [])
    (λ t. (kept, OfPending s.next m (good m (inl refl)) refl)) (kept, NoCall refl)

hand_on_fine : (Psi : Message → Type 0) (setup : Setup) (moment : Moment) (s : AbcastState) (o : Option Message) → AreGood Psi s.pending → Fine Psi setup moment (abcast_hand_on setup s o)
hand_on_fine Psi setup moment s None good = offer_fine Psi setup moment s s.pending good good
hand_on_fine Psi setup moment s (Some m) good = (good, Upwards s.next m refl)

drain_fine : (Psi : Message → Type 0) (setup : Setup) (moment : Moment) (s : AbcastState) → AreGood Psi s.pending → Fine Psi setup moment (abcast_drain setup s)
drain_fine Psi setup moment s good =
    hand_on_fine Psi setup moment (record s { next = abcast_skip s.done s.decisions (length s.decisions) s.next })
    (message_of s.decisions (abcast_skip s.done s.decisions (length s.decisions) s.next)) good

in_filtered : (p : Message → Bool) (ms : List Message) (m : Message) → In m (filter p ms) → In m ms
in_filtered p [] m h = absurd h
in_filtered p (x ∷ ms) m h = go (p x) (in_filtered p ms m) h
  where
    go : (b : Bool) → (In m (filter p ms) → In m ms) → In m (cond b (x ∷ filter p ms) (filter p ms)) → In m (x ∷ ms)
    go true ih (inl e) = inl e
    go true ih (inr i) = inr (ih i)
    go false ih i = inr (ih i)

mark_fine : (Psi : Message → Type 0) (setup : Setup) (moment : Moment) (s : AbcastState) (o : Option Message) → AreGood Psi s.pending → Fine Psi setup moment (abcast_mark setup s o)
mark_fine Psi setup moment s None good = (good, NoCall refl)
mark_fine Psi setup moment s (Some m) good =
    drain_fine Psi setup moment (abcast_marked s m) (λ k h. good k (in_filtered (λ (x : Message). not (same_key (message_key x) (message_key m))) s.pending k h))

heard_fine : (Psi : Message → Type 0) (setup : Setup) (moment : Moment) (s : AbcastState) (m : Message) → AreGood Psi s.pending → Psi m → Fine Psi setup moment (abcast_heard setup s m)
heard_fine Psi setup moment s m good new =
    offer_fine Psi setup moment (record s { pending = pending }) pending more more
  where
    known : Bool
    known = has_message s.pending (message_key m) || has_key s.done (message_key m)

    pending : List Message
    pending = if known then s.pending else s.pending ++ m ∷ []

    one : (k : Message) → In k s.pending ⊎ (k ≡ m) → Psi k
    one k (inl h) = good k h
    one k (inr e) = subst Psi (sym e) new

    more : AreGood Psi pending
    more = go known
      where
        go : (b : Bool) → AreGood Psi (if b then s.pending else s.pending ++ m ∷ [])
        go true = good
        go false = λ k h. one k (in_split s.pending m k h)

-- what is heard is valid
abbrev pub Hears : (Message → Type 0) → Moment → Type 0
Hears Psi moment = (arg : List ℕ) → moment ≡ Moment.Begin 1 arg → word arg 2 ≡ 0 → Psi (message_at arg 3)

pub step_fine : (Psi : Message → Type 0) (setup : Setup) (s : AbcastState) (moment : Moment) → AreGood Psi s.pending → Hears Psi moment → Fine Psi setup moment (abcast_step setup s moment)
step_fine Psi setup s (Moment.Begin handler arg) good hears =
    fine_if Psi setup moment (handler == 0) (s, call setup 0 (0 ∷ message_words (message_at arg 0)) (0 ∷ [])) _
    (λ t. (good, OfCast arg (ap (λ (h : ℕ). Moment.Begin h arg) (eqb-true handler 0 t)) refl))
    (fine_if Psi setup moment (handler == 1) (if word arg 2 == 0 then abcast_heard setup s (message_at arg 3) else (s, done [])) _
    (λ t. fine_if Psi setup moment (word arg 2 == 0) (abcast_heard setup s (message_at arg 3)) (s, done [])
    (λ u. heard_fine Psi setup moment s (message_at arg 3) good (hears arg (ap (λ (h : ℕ). Moment.Begin h arg) (eqb-true handler 1 t)) (eqb-true (word arg 2) 0 u)))
    (good, NoCall refl))
    (fine_if Psi setup moment (handler == 2) (abcast_decided setup s (word arg 0) (message_at arg 1)) (s, done [])
    (λ t. drain_fine Psi setup moment (record s { decisions = with_message s.decisions (word arg 0) (message_at arg 1) }) good)
    (good, NoCall refl)))
  where
    moment : Moment
    moment = Moment.Begin handler arg
step_fine Psi setup s (Moment.Resume handler frame reply) good hears =
    fine_if Psi setup moment (handler == 2) (if word frame 0 == 1 then abcast_decided_on setup s (word frame 1) else (s, done [])) (s, done [])
    (λ t. fine_if Psi setup moment (word frame 0 == 1) (abcast_decided_on setup s (word frame 1)) (s, done [])
    (λ u. fine_if Psi setup moment (s.next == word frame 1) (abcast_mark setup s (message_of s.decisions s.next)) (abcast_drain setup s)
    (λ w. mark_fine Psi setup moment s (message_of s.decisions s.next) good) (drain_fine Psi setup moment s good))
    (good, NoCall refl))
    (good, NoCall refl)
  where
    moment : Moment
    moment = Moment.Resume handler frame reply

-- ---- seqcast: an answer to a moment
pub data Sent (setup : Setup) (moment : Moment) (o : Outcome) : Type 0 where
  NotSent : o ≡ done [] → Sent setup moment o
  SentCast : (arg : List ℕ) → moment ≡ Moment.Begin 0 arg → o ≡ call setup 0 (V setup 1 ∷ V setup 0 ∷ 0 ∷ message_words (message_at arg 0)) (0 ∷ []) → Sent setup moment o
  SentNumber : (x : ℕ) (m : Message) → o ≡ call setup 0 (setup.nodes ∷ V setup 0 ∷ 1 ∷ x ∷ message_words m) (0 ∷ []) → Sent setup moment o
  SentUp : (x : ℕ) (m : Message) → o ≡ call setup 1 (message_words m) (1 ∷ x ∷ []) → Sent setup moment o

sent_if : (setup : Setup) (moment : Moment) (b : Bool) (r q : SeqcastState × Outcome) → (b ≡ true → Sent setup moment r.1) → Sent setup moment q.1
    → Sent setup moment (if b then r else q).1
sent_if setup moment true r q first second = first refl
sent_if setup moment false r q first second = second

sent_up : (setup : Setup) (moment : Moment) (next : ℕ) (o : Option Message) → Sent setup moment (seqcast_hand_on setup next o)
sent_up setup moment next None = NotSent refl
sent_up setup moment next (Some m) = SentUp next m refl

sent_number : (setup : Setup) (moment : Moment) (s : SeqcastState) (m : Message) → Sent setup moment (seqcast_number setup s m).1
sent_number setup moment s m =
    sent_if setup moment (not (me setup == V setup 1) || has_key s.keys (message_key m)) (s, done [])
    (record s { numbered = up s.numbered; keys = with_key s.keys (message_key m) }, call setup 0 (setup.nodes ∷ V setup 0 ∷ 1 ∷ up s.numbered ∷ message_words m) (0 ∷ []))
    (λ t. NotSent refl) (SentNumber (up s.numbered) m refl)

pub step_sent : (setup : Setup) (s : SeqcastState) (moment : Moment) → Sent setup moment (seqcast_step setup s moment).1
step_sent setup s (Moment.Begin handler arg) =
    sent_if setup moment (handler == 0) (s, seqcast_cast setup (message_at arg 0)) _ (λ t. SentCast arg (ap (λ (h : ℕ). Moment.Begin h arg) (eqb-true handler 0 t)) refl)
    (sent_if setup moment (handler == 1)
    (if word arg 1 == 0 then seqcast_number setup s (message_at arg 2)
    else if word arg 1 == 1 then seqcast_get setup s (word arg 2) (message_at arg 3) else (s, done []))
    (s, done [])
    (λ t. sent_if setup moment (word arg 1 == 0) (seqcast_number setup s (message_at arg 2)) _ (λ u. sent_number setup moment s (message_at arg 2))
    (sent_if setup moment (word arg 1 == 1) (seqcast_get setup s (word arg 2) (message_at arg 3)) (s, done [])
    (λ u. sent_up setup moment s.next (message_of (with_message s.got (word arg 2) (message_at arg 3)) s.next)) (NotSent refl)))
    (NotSent refl))
  where
    moment : Moment
    moment = Moment.Begin handler arg
step_sent setup s (Moment.Resume handler frame reply) =
    sent_if setup moment (handler == 1) (if word frame 0 == 1 then seqcast_got_on setup s (word frame 1) else (s, done [])) (s, done [])
    (λ t. sent_if setup moment (word frame 0 == 1) (seqcast_got_on setup s (word frame 1)) (s, done []) (λ u. drains (s.next == word frame 1)) (NotSent refl))
    (NotSent refl)
  where
    moment : Moment
    moment = Moment.Resume handler frame reply

    drains : (b : Bool) → Sent setup moment (seqcast_drain setup (if b then record s { next = up s.next } else s)).1
    drains true = sent_up setup moment (up s.next) (message_of s.got (up s.next))
    drains false = sent_up setup moment s.next (message_of s.got s.next)
