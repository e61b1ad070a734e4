-- Each step of seqcast keeps what holds of its box; what follows of every history.
use Rattle.std.proofs.Common.{◌≡◌, ◌⊎◌, inl, inr, ℕ, suc, ◌+◌, ◌^◌, ◌<◌, ◌≤◌, Bool, true, false, ◌||◌, not, List, [], ◌∷◌, ◌++◌, length, refl, sym, ap, ◌∙◌, subst, arith, ◌==◌, if◌then◌else◌, eqb-true, Option, Some, None}
use Rattle.std.specs.Prelude.{⊤}
use Rattle.samoa_serial.specs.Rows.{word, me, V, up, done, call, message_at, message_words, message_key, has_key, with_key, message_of, with_message}
use Rattle.samoa_serial.specs.State.{SeqcastState}
use Rattle.samoa_serial.specs.SeqcastTable.{seqcast_hand_on, seqcast_drain, seqcast_cast, seqcast_number, seqcast_get, seqcast_got_on, seqcast_step}
use Rattle.samoa_model.specs.declared.handler.Moment.{Moment}
use Rattle.samoa_model.specs.declared.handler.Outcome.{Outcome}
use Rattle.samoa_serial.specs.declared.message.Message.{Message}
use Rattle.samoa_model.specs.declared.setup.Setup.{Setup}
use Rattle.samoa_laws.proofs.lists.Lists.{begin_one}
use Rattle.samoa_laws.specs.lists.Lists.{Begins, Comparable, In}
use Rattle.samoa_laws.specs.lists.Messages.{first_places}
use Rattle.samoa_laws.specs.trace.Boxes.{BoxStep, IsStep, left_by, noted}
use Rattle.samoa_laws.specs.broadcasts.Boxes.{raised_by, raised, called_up}
use Rattle.samoa_laws.specs.broadcasts.Abcast.{up_to}
use Rattle.samoa_laws.specs.broadcasts.Seqcast.{seqcast_opening, told, numbered, SeqcastMay, IsSeqcast, IsSeqcastBox, WasSubmitted}
use Rattle.samoa_laws.proofs.broadcasts.Maps.{HasMore, with_message_is, message_of_in}
use Rattle.samoa_laws.proofs.broadcasts.Handed.{Handed, none_handed, gets_more, hands_on, moves_on, shape, called_valid}
use Rattle.samoa_laws.proofs.broadcasts.Numbers.{Apart, apart_first, up_to_all, Told, none_past}
use Rattle.samoa_laws.proofs.broadcasts.NumbersKeep.{all_told}

-- what is valid of a message that was got: nothing is asked
abbrev Any : ℕ → Message → Type 0
Any i m = ⊤

pub record Kept (message : ℕ → Option Message) (n : ℕ) (es : List (ℕ × Message)) (next : ℕ) (us : List (ℕ × Message)) : Type 0 where
  pub passed : ℕ
  pub comes : next ≡ suc passed
  pub few : passed ≤ n
  pub handed : Handed message Any es passed us

abbrev KeptBy : (ℕ → Option Message) → ℕ → SeqcastState → List (ℕ × Message) → Type 0
KeptBy message n s us = Kept message n s.got s.next us

abbrev After : (ℕ → Option Message) → ℕ → List (ℕ × Message) → SeqcastState × Outcome → Type 0
After message n us r = (effective : Bool) → KeptBy message n r.0 (noted us (raised_by r.1) effective)

after_if : (message : ℕ → Option Message) (n : ℕ) (us : List (ℕ × Message)) (b : Bool) (r q : SeqcastState × Outcome)
    → (b ≡ true → After message n us r) → (b ≡ false → After message n us q) → After message n us (if b then r else q)
after_if message n us true r q first second = first refl
after_if message n us false r q first second = second refl

later : (message : ℕ → Option Message) (n : ℕ) (s : SeqcastState) (us : List (ℕ × Message)) → KeptBy message n s us → KeptBy message (suc n) s us
later message n s us kept =
    let few : kept.passed ≤ n = kept.few in
    record { passed = kept.passed; comes = kept.comes; few = omega arith; handed = kept.handed }

-- ---- the rows
drain_keeps : (message : ℕ → Option Message) (n : ℕ) (us : List (ℕ × Message)) (setup : Setup) (s : SeqcastState)
    → Apart message → KeptBy message n s us → After message n us (seqcast_drain setup s)
drain_keeps message n us setup s apart kept = go (message_of s.got s.next) refl
  where
    hands : (m : Message) → message_of s.got s.next ≡ Some m → (effective : Bool) → KeptBy message n s (noted us (Some (s.next, m)) effective)
    hands m e false = kept
    hands m e true =
        let here : message_of s.got (suc kept.passed) ≡ Some m = ap (λ (k : ℕ). message_of s.got k) (sym kept.comes) ∙ e in
        record {
          passed = kept.passed;
          comes = kept.comes;
          few = kept.few;
          handed = subst (λ (k : ℕ). Handed message Any s.got kept.passed (us ++ (k, m) ∷ [])) (sym kept.comes)
              (hands_on message Any s.got kept.passed us m kept.handed here (apart kept.passed m (kept.handed.known (suc kept.passed) m here)));
        }

    go : (o : Option Message) → message_of s.got s.next ≡ o → After message n us (s, seqcast_hand_on setup s.next o)
    go None e = λ effective. kept
    go (Some m) e = λ effective. hands m e effective

got_keeps : (message : ℕ → Option Message) (n : ℕ) (us : List (ℕ × Message)) (setup : Setup) (s : SeqcastState) (x : ℕ) (m : Message)
    → Apart message → message x ≡ Some m → KeptBy message n s us → After message n us (seqcast_get setup s x m)
got_keeps message n us setup s x m apart known kept =
    drain_keeps message n us setup (record s { got = got }) apart (record {
      passed = kept.passed;
      comes = kept.comes;
      few = kept.few;
      handed = gets_more message Any s.got got kept.passed us kept.handed more.stays (λ j y e. knows j y (more.new j y e)) (λ j y e. tt);
    })
  where
    got : List (ℕ × Message)
    got = with_message s.got x m

    more : HasMore s.got got x m
    more = with_message_is s.got x m

    knows : (j : ℕ) (y : Message) → (message_of s.got j ≡ Some y) ⊎ ((x ≡ j) × (m ≡ y)) → message j ≡ Some y
    knows j y (inl e) = kept.handed.known j y e
    knows j y (inr e) = ap message (sym e.0) ∙ (known ∙ ap (λ (z : Message). Some z) e.1)

resumed_keeps : (message : ℕ → Option Message) (n : ℕ) (us : List (ℕ × Message)) (setup : Setup) (s : SeqcastState) (x : ℕ) (m : Message)
    → Apart message → suc n < 2 ^ 32 → In (x, m) us → KeptBy message n s us → After message (suc n) us (seqcast_got_on setup s x)
resumed_keeps message n us setup s x m apart small called kept = go (s.next == x) refl
  where
    next_is : s.next ≡ suc kept.passed → kept.passed ≤ n → up s.next ≡ suc s.next
    next_is comes few = omega arith

    moved : s.next ≡ x → KeptBy message (suc n) (record s { next = up s.next }) us
    moved same =
        let few : kept.passed ≤ n = kept.few in
        record {
          passed = suc kept.passed;
          comes = next_is kept.comes kept.few ∙ ap suc kept.comes;
          few = omega arith;
          handed = moves_on message Any s.got kept.passed us m kept.handed (subst (λ (k : ℕ). In (k, m) us) (sym same ∙ kept.comes) called);
        }

    go : (b : Bool) → (s.next == x) ≡ b → After message (suc n) us (seqcast_drain setup (if b then record s { next = up s.next } else s))
    go true t = drain_keeps message (suc n) us setup (record s { next = up s.next }) apart (moved (eqb-true s.next x t))
    go false t = drain_keeps message (suc n) us setup s apart (later message n s us kept)

-- what may come: a message with its number, a resume after its call
abbrev Fits : (ℕ → Option Message) → List (ℕ × Message) → Moment → Type 0
Fits message us (Moment.Begin handler arg) = handler ≡ 1 → word arg 1 ≡ 1 → message (word arg 2) ≡ Some (message_at arg 3)
Fits message us (Moment.Resume handler frame reply) = handler ≡ 1 → word frame 0 ≡ 1 → (m : Message) × In (word frame 1, m) us

number_still : (message : ℕ → Option Message) (n : ℕ) (us : List (ℕ × Message)) (setup : Setup) (s : SeqcastState) (m : Message)
    → KeptBy message n s us → After message n us (seqcast_number setup s m)
number_still message n us setup s m kept =
    after_if message n us (not (me setup == V setup 1) || has_key s.keys (message_key m)) (s, done [])
    (record s { numbered = up s.numbered; keys = with_key s.keys (message_key m) }, call setup 0 (setup.nodes ∷ V setup 0 ∷ 1 ∷ up s.numbered ∷ message_words m) (0 ∷ []))
    (λ t. λ effective. kept) (λ t. λ effective. kept)

step_keeps : (message : ℕ → Option Message) (n : ℕ) (us : List (ℕ × Message)) (setup : Setup) (s : SeqcastState) (moment : Moment)
    → Apart message → suc n < 2 ^ 32 → Fits message us moment → KeptBy message n s us → After message (suc n) us (seqcast_step setup s moment)
step_keeps message n us setup s (Moment.Begin handler arg) apart small fits kept =
    after_if message (suc n) us (handler == 0) (s, seqcast_cast setup (message_at arg 0)) _ (λ t. λ effective. kept')
    (λ t. after_if message (suc n) us (handler == 1)
    (if word arg 1 == 0 then seqcast_number setup s (message_at arg 2)
    else if word arg 1 == 1 then seqcast_get setup s (word arg 2) (message_at arg 3) else (s, done []))
    (s, done [])
    (λ u. after_if message (suc n) us (word arg 1 == 0) (seqcast_number setup s (message_at arg 2)) _
    (λ w. number_still message (suc n) us setup s (message_at arg 2) kept')
    (λ w. after_if message (suc n) us (word arg 1 == 1) (seqcast_get setup s (word arg 2) (message_at arg 3)) (s, done [])
    (λ x. got_keeps message (suc n) us setup s (word arg 2) (message_at arg 3) apart (fits (eqb-true handler 1 u) (eqb-true (word arg 1) 1 x)) kept')
    (λ x. λ effective. kept')))
    (λ u. λ effective. kept'))
  where
    kept' : KeptBy message (suc n) s us
    kept' = later message n s us kept
step_keeps message n us setup s (Moment.Resume handler frame reply) apart small fits kept =
    after_if message (suc n) us (handler == 1) (if word frame 0 == 1 then seqcast_got_on setup s (word frame 1) else (s, done [])) (s, done [])
    (λ t. after_if message (suc n) us (word frame 0 == 1) (seqcast_got_on setup s (word frame 1)) (s, done [])
    (λ u. let m = fits (eqb-true handler 1 t) (eqb-true (word frame 0) 1 u) in
    resumed_keeps message n us setup s (word frame 1) m.0 apart small m.1 kept)
    (λ u. λ effective. kept'))
    (λ t. λ effective. kept')
  where
    kept' : KeptBy message (suc n) s us
    kept' = later message n s us kept

-- ---- every history
fits : (message : ℕ → Option Message) (ts : List (ℕ × Message)) → ((i : ℕ) (m : Message) → In (i, m) ts → message i ≡ Some m)
    → (earlier : List (BoxStep SeqcastState)) (moment : Moment) → SeqcastMay ts earlier moment → Fits message (raised earlier) moment
fits message ts finds earlier (Moment.Begin handler arg) may = λ t u. finds (word arg 2) (message_at arg 3) (may t u)
fits message ts finds earlier (Moment.Resume handler frame reply) may = may

kept : (message : ℕ → Option Message) (ts : List (ℕ × Message)) → Apart message → ((i : ℕ) (m : Message) → In (i, m) ts → message i ≡ Some m)
    → (setup : Setup) (steps : List (BoxStep SeqcastState)) → IsSeqcast setup ts steps → length steps < 2 ^ 32
    → KeptBy message (length steps) (left_by seqcast_opening steps) (raised steps)
kept message ts apart finds setup [] history small = record { passed = 0; comes = refl; few = omega arith; handed = none_handed message Any }
kept message ts apart finds setup (s ∷ earlier) history small =
    go history.0 (kept message ts apart finds setup earlier history.2 (omega arith))
  where
    us : List (ℕ × Message)
    us = raised earlier

    Result : SeqcastState → Outcome → Type 0
    Result new outcome = KeptBy message (suc (length earlier)) new (noted us (raised_by outcome) s.effective)

    go : IsStep (seqcast_step setup) seqcast_opening earlier s → KeptBy message (length earlier) (left_by seqcast_opening earlier) us → Result s.new s.outcome
    go step ih =
        let old : KeptBy message (length earlier) s.old us = subst (λ (x : SeqcastState). KeptBy message (length earlier) x us) (sym step.old) ih in
        let after : After message (suc (length earlier)) us (seqcast_step setup s.old s.moment) =
        step_keeps message (length earlier) us setup s.old s.moment apart small (fits message ts finds earlier s.moment history.1) old in
        subst (λ (x : SeqcastState). Result x s.outcome) (sym step.new)
        (subst (λ (o : Outcome). Result (seqcast_step setup s.old s.moment).0 o) (sym step.outcome) (after s.effective))

-- ---- the laws
kept_of : (sequencer : Setup) (numbering : List (BoxStep SeqcastState)) → IsSeqcastBox sequencer numbering → length numbering < 2 ^ 32
    → (setup : Setup) (steps : List (BoxStep SeqcastState)) → IsSeqcast setup (told numbering) steps → length steps < 2 ^ 32
    → KeptBy (message_of (told numbering)) (length steps) (left_by seqcast_opening steps) (raised steps)
kept_of sequencer numbering box short setup steps history small =
    let t : Told (WasSubmitted numbering) (told numbering) = all_told sequencer numbering box short in
    kept (message_of (told numbering)) (told numbering) t.apart t.finds setup steps history small

-- what a box calls up, each message at its first place, is a beginning of what the sequencer numbered
pub order_is : (sequencer : Setup) (numbering : List (BoxStep SeqcastState)) → IsSeqcastBox sequencer numbering → length numbering < 2 ^ 32
    → (setup : Setup) (steps : List (BoxStep SeqcastState)) → IsSeqcast setup (told numbering) steps → length steps < 2 ^ 32
    → Begins (first_places (called_up steps)) (numbered numbering)
order_is sequencer numbering box short setup steps history small =
    let ts = told numbering in
    let t : Told (WasSubmitted numbering) (told numbering) = all_told sequencer numbering box short in
    let k : KeptBy (message_of (told numbering)) (length steps) (left_by seqcast_opening steps) (raised steps) = kept_of sequencer numbering box short setup steps history small in
    let is = shape (message_of (told numbering)) Any (left_by seqcast_opening steps).got k.passed (raised steps) k.handed in
    subst (λ (l : List Message). Begins l (numbered numbering)) (sym (is.1 ∙ apart_first (message_of (told numbering)) t.apart is.0))
    (subst (λ (l : List Message). Begins (up_to (message_of (told numbering)) is.0) l) t.all
    (up_to_all (message_of (told numbering)) (length (told numbering)) (none_past (WasSubmitted numbering) (told numbering) t) is.0))

pub orders_agree : (sequencer : Setup) (numbering : List (BoxStep SeqcastState)) → IsSeqcastBox sequencer numbering → length numbering < 2 ^ 32
    → (setup other : Setup) (steps more : List (BoxStep SeqcastState)) → IsSeqcast setup (told numbering) steps → IsSeqcast other (told numbering) more
    → length steps < 2 ^ 32 → length more < 2 ^ 32 → Comparable (first_places (called_up steps)) (first_places (called_up more))
orders_agree sequencer numbering box short setup other steps more history history' small small' =
    begin_one (first_places (called_up steps)) (first_places (called_up more)) (numbered numbering)
    (order_is sequencer numbering box short setup steps history small)
    (order_is sequencer numbering box short other more history' small')

-- each message called up was submitted to the sequencer
pub called_was_submitted : (sequencer : Setup) (numbering : List (BoxStep SeqcastState)) → IsSeqcastBox sequencer numbering → length numbering < 2 ^ 32
    → (setup : Setup) (steps : List (BoxStep SeqcastState)) → IsSeqcast setup (told numbering) steps → length steps < 2 ^ 32
    → (m : Message) → In m (called_up steps) → WasSubmitted numbering m
called_was_submitted sequencer numbering box short setup steps history small m at =
    let t : Told (WasSubmitted numbering) (told numbering) = all_told sequencer numbering box short in
    let k : KeptBy (message_of (told numbering)) (length steps) (left_by seqcast_opening steps) (raised steps) = kept_of sequencer numbering box short setup steps history small in
    let c = called_valid (message_of (told numbering)) Any (left_by seqcast_opening steps).got k.passed (raised steps) k.handed m at in
    t.valid c.0 m (message_of_in (told numbering) c.0 m c.1)

-- the next number is at most the steps and one more
pub next_is_low : (sequencer : Setup) (numbering : List (BoxStep SeqcastState)) → IsSeqcastBox sequencer numbering → length numbering < 2 ^ 32
    → (setup : Setup) (steps : List (BoxStep SeqcastState)) → IsSeqcast setup (told numbering) steps → length steps < 2 ^ 32
    → (left_by seqcast_opening steps).next ≤ length steps + 1
next_is_low sequencer numbering box short setup steps history small =
    let k : KeptBy (message_of (told numbering)) (length steps) (left_by seqcast_opening steps) (raised steps) = kept_of sequencer numbering box short setup steps history small in
    let comes : (left_by seqcast_opening steps).next ≡ suc k.passed = k.comes in
    let few : k.passed ≤ length steps = k.few in
    omega arith

-- a history is one whatever comes
pub is_box : (setup : Setup) (ts : List (ℕ × Message)) (steps : List (BoxStep SeqcastState)) → IsSeqcast setup ts steps → IsSeqcastBox setup steps
is_box setup ts [] history = tt
is_box setup ts (s ∷ earlier) history = (history.0, tt, is_box setup ts earlier history.2)
