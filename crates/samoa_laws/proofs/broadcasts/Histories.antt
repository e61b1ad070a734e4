-- The boxes of the two broadcasts have their histories.
use Rattle.std.proofs.Common.{◌≡◌, ◌≢◌, ◌⊎◌, ℕ, inl, inr, refl, sym, ap, subst, ◌∙◌, arith, append_assoc, List, [], ◌∷◌, ◌++◌, ◌==◌, Option, Some, None, true, false}
use Rattle.std.proofs.lemmas.Bool.Decides.{eqb_tells}
use Rattle.samoa_model.specs.declared.handler.Moment.{Moment}
use Rattle.samoa_model.specs.declared.handler.Outcome.{Outcome}
use Rattle.samoa_model.specs.declared.record.Ext.{Ext}
use Rattle.samoa_model.specs.declared.script.Script.{Script}
use Rattle.samoa_serial.specs.declared.message.Message.{Message}
use Rattle.samoa_serial.specs.Rows.{message_at, word}
use Rattle.samoa_serial.specs.State.{SeqcastState}
use Rattle.samoa_serial.specs.Lists.{In}
use Rattle.samoa_laws.specs.trace.Trace.{HandlerStep, micro_of, trace}
use Rattle.samoa_laws.specs.trace.Causes.{FollowsIn, IsTrace}
use Rattle.samoa_laws.specs.trace.Group.{IsGroup, IsGroupHistory, event, handler}
use Rattle.samoa_laws.specs.transport.Transport.{BeginsAt, IsHeard}
use Rattle.samoa_serial.proofs.ListLaws.{in_right}
use Rattle.samoa_laws.proofs.trace.Points.{trace-is_trace}
use Rattle.samoa_laws.proofs.transport.Received.{heard}
use Rattle.samoa_laws.proofs.trace.Steps.{IsAt, before, trace-rest}
use Rattle.samoa_laws.proofs.trace.Worlds.{group_setup}
use Rattle.samoa_laws.specs.trace.Boxes.{Anything, BoxStep, left_by, noted}
use Rattle.samoa_laws.specs.broadcasts.Abcast.{AbcastMay, IsAbcast, IsAbcastBox}
use Rattle.samoa_laws.specs.broadcasts.Seqcast.{IsSeqcast, IsSeqcastBox, SeqcastMay, told, told_by}
use Rattle.samoa_laws.proofs.broadcasts.AnswersByPort.{told_read}
use Rattle.samoa_laws.proofs.broadcasts.NumbersKeep.{elsewhere_nothing}
use Rattle.samoa_laws.specs.broadcasts.Begun.{IsDecided, IsPart, abcast_steps, seqcast_of, seqcast_steps}
use Rattle.samoa_laws.specs.trace.Boxes.{box_step}
use Rattle.samoa_laws.proofs.trace.Boxes.{Made, MayCome, in_box, is_history, made_at, steps_of}
use Rattle.samoa_laws.proofs.broadcasts.Boxes.{own_index, resumed, Upward}
use Rattle.samoa_laws.proofs.broadcasts.Both.{abcast_box, apart, seqcast_box}
use Rattle.samoa_laws.proofs.transport.Carried.{handler_is}
use Rattle.samoa_laws.proofs.trace.Boxes.{noted_new}

pub part_trace : (script : Script) (exts : List Ext) (past : List HandlerStep) → IsPart script exts past → IsTrace script exts past
part_trace script exts past part = trace-rest script exts part.more past (subst (IsTrace script exts) part.split (trace-is_trace script exts))

-- what a step of a box in the trace did
pub record MadeThere {S : Type 0} (b : Upward S) (nodes v : ℕ) (x : HandlerStep) : Type 0 where
  pub found : S
  pub made : Made b.box nodes v found x

pub made_there : {S : Type 0} (b : Upward S) (script : Script) (exts : List Ext) → IsGroup script → (v : ℕ) (past : List HandlerStep) → IsTrace script exts past
    → (x : HandlerStep) → In x past → IsAt x v b.box.number → MadeThere b script.nodes v x
made_there b script exts group v past trace x there at =
    let f = before script exts past x trace there in
    record { found = left_by b.box.start (steps_of b.box v f.earlier); made = made_at b.box script exts group v f.earlier f.is_trace x f.follows at }

-- where a step of a part begins a handler
begins_at : (script : Script) (exts : List Ext) (past : List HandlerStep) → IsPart script exts past → (more : List HandlerStep) (x : HandlerStep) (earlier : List HandlerStep)
    → past ≡ more ++ x ∷ earlier → FollowsIn script exts earlier x → (v p : ℕ) → IsAt x v p → (i j : ℕ) (arg : List ℕ) → x.moment ≡ Moment.Begin i arg → i ≡ j
    → BeginsAt script exts earlier v (handler p j) arg
begins_at script exts past part more x earlier split f v p at i j arg is same = record {
  step = x;
  more = part.more ++ more;
  split = part.split ∙ (ap (λ (ys : List HandlerStep). part.more ++ ys) split ∙ sym (append_assoc part.more more (x ∷ earlier)));
  node_is = sym at.0;
  handler_is = handler_is x.call.handler p j (sym at.1) (own_index script exts earlier x f i arg is ∙ same);
  moment = is ∙ ap (λ (k : ℕ). Moment.Begin k arg) same;
}

-- ---- abcast
abcast_may : (decision : ℕ → Option Message) (script : Script) (exts : List Ext) → IsGroup script → (v : ℕ) (past : List HandlerStep) → IsPart script exts past
    → IsDecided script exts decision → MayCome abcast_box.box script exts v (AbcastMay decision) past
abcast_may decision script exts group v past part decided more x earlier split t f at = go x.moment refl
  where
    go : (m : Moment) → x.moment ≡ m → AbcastMay decision (abcast_steps v earlier) m
    go (Moment.Begin i arg) is = λ two. decided earlier v arg (begins_at script exts past part more x earlier split f v 4 at i 2 arg is two)
    go (Moment.Resume i frame reply) is = λ two one. resumed abcast_box script exts group v earlier t x f at i frame reply is one

pub abcast_history : (decision : ℕ → Option Message) (script : Script) (exts : List Ext) → IsGroup script → (v : ℕ) (past : List HandlerStep) → IsPart script exts past
    → IsDecided script exts decision → IsAbcast (group_setup script.nodes v 4) decision (abcast_steps v past)
abcast_history decision script exts group v past part decided =
    is_history abcast_box.box script exts group v (AbcastMay decision) past (part_trace script exts past part) (abcast_may decision script exts group v past part decided)

pub abcast_any : (script : Script) (exts : List Ext) → IsGroup script → (v : ℕ) (past : List HandlerStep) → IsTrace script exts past
    → IsAbcastBox (group_setup script.nodes v 4) (abcast_steps v past)
abcast_any script exts group v past trace = is_history abcast_box.box script exts group v Anything past trace (λ more x earlier split t f at. tt)

-- ---- seqcast
pub seqcast_any : (script : Script) (exts : List Ext) → IsGroup script → (v : ℕ) (past : List HandlerStep) → IsTrace script exts past
    → IsSeqcastBox (group_setup script.nodes v 5) (seqcast_steps v past)
seqcast_any script exts group v past trace = is_history seqcast_box.box script exts group v Anything past trace (λ more x earlier split t f at. tt)

told_more : (ts : List (ℕ × Message)) (o : Option (ℕ × Message)) (e : ℕ × Message) → In e ts → In e (noted ts o true)
told_more ts None e i = i
told_more ts (Some y) e i = go ts i
  where
    go : (ts : List (ℕ × Message)) → In e ts → In e (ts ++ y ∷ [])
    go [] i = absurd i
    go (t ∷ ts) (inl same) = inl same
    go (t ∷ ts) (inr i) = inr (go ts i)

in_told : (steps : List (BoxStep SeqcastState)) (s : BoxStep SeqcastState) (e : ℕ × Message) → In s steps → told_by s.outcome ≡ Some e → In e (told steps)
in_told [] s e there is = absurd there
in_told (t ∷ steps) s e (inl same) is =
    subst (λ (u : BoxStep SeqcastState). In e (noted (told steps) (told_by u.outcome) true)) same (noted_new (told steps) (told_by s.outcome) true e is refl)
in_told (t ∷ steps) s e (inr there) is = told_more (told steps) (told_by t.outcome) e (in_told steps s e there is)

-- a step of the box that passes on a message with a number told it, at the sequencer
tells_number : (script : Script) (exts : List Ext) → IsGroup script → (past : List HandlerStep) → IsTrace script exts past → (y : HandlerStep) → In y past → micro_of y ≡ 5
    → (arg frame : List ℕ) → y.outcome ≡ Outcome.Call (event 1) arg frame → word arg 2 ≡ 1 → In (word arg 3, message_at arg 4) (told (seqcast_steps 0 past))
tells_number script exts group past trace y there micro arg frame is tag = go (eqb_tells y.node 0)
  where
    at : IsAt y y.node 5
    at = (refl, sym micro)

    m : MadeThere seqcast_box script.nodes y.node y
    m = made_there seqcast_box script exts group y.node past trace y there at

    told_there : In (word arg 3, message_at arg 4) (told (seqcast_steps y.node past))
    told_there =
        in_told (seqcast_steps y.node past) (box_step seqcast_of y) (word arg 3, message_at arg 4) (in_box seqcast_of y past y.node 5 at there)
        (ap told_by m.made.outcome
        ∙ told_read (group_setup script.nodes y.node 5) m.found y.moment arg frame (apart 11 1 (λ e. omega (arith, e))) tag (sym m.made.outcome ∙ is))

    go : ((y.node == 0) ≡ true) × (y.node ≡ 0) ⊎ ((y.node == 0) ≡ false) × (y.node ≢ 0) → In (word arg 3, message_at arg 4) (told (seqcast_steps 0 past))
    go (inl zero) = subst (λ (v : ℕ). In (word arg 3, message_at arg 4) (told (seqcast_steps v past))) zero.1 told_there
    go (inr other) =
        absurd (subst (λ (ts : List (ℕ × Message)). In (word arg 3, message_at arg 4) ts)
        (elsewhere_nothing (group_setup script.nodes y.node 5) (seqcast_steps y.node past) (seqcast_any script exts group y.node past trace) (λ e. other.1 e)) told_there)

-- what the receive handler of seqcast begins with was told by a box of seqcast
pub record SeqHeard (script : Script) (exts : List Ext) (past : List HandlerStep) (arg : List ℕ) : Type 0 where
  pub step : HandlerStep
  pub there : In step past
  pub micro : micro_of step ≡ 5
  pub from : ℕ
  pub to : ℕ
  pub words : List ℕ
  pub frame : List ℕ
  pub is : arg ≡ from ∷ words
  pub outcome : step.outcome ≡ Outcome.Call (event 1) (to ∷ 3 ∷ words) frame

pub seq_heard : (script : Script) (exts : List Ext) → IsGroupHistory script exts → (past : List HandlerStep) (v : ℕ) (arg : List ℕ)
    → BeginsAt script exts past v (handler 5 1) arg → SeqHeard script exts past arg
seq_heard script exts history past v arg begins =
    let h : IsHeard script past 3 v arg = heard script exts history past 3 v arg (omega arith) begins in
    record {
      step = h.told.step;
      there = h.told.there;
      micro = h.told.micro;
      from = h.from;
      to = h.told.to;
      words = h.words;
      frame = h.told.frame;
      is = h.is;
      outcome = h.told.outcome;
    }

seqcast_may : (script : Script) (exts : List Ext) → IsGroupHistory script exts → (v : ℕ) (past : List HandlerStep) → IsPart script exts past
    → MayCome seqcast_box.box script exts v (SeqcastMay (told (seqcast_steps 0 (trace script exts)))) past
seqcast_may script exts history v past part more x earlier split t f at = go x.moment refl
  where
    numbers : List (ℕ × Message)
    numbers = told (seqcast_steps 0 (trace script exts))

    whole : trace script exts ≡ (part.more ++ more) ++ x ∷ earlier
    whole = part.split ∙ (ap (λ (ys : List HandlerStep). part.more ++ ys) split ∙ sym (append_assoc part.more more (x ∷ earlier)))

    in_whole : (y : HandlerStep) → In y earlier → In y (trace script exts)
    in_whole y there = subst (λ (ys : List HandlerStep). In y ys) (sym whole) (in_right y (part.more ++ more) (x ∷ earlier) (inr there))

    number : (i : ℕ) (arg : List ℕ) → x.moment ≡ Moment.Begin i arg → i ≡ 1 → word arg 1 ≡ 1 → In (word arg 2, message_at arg 3) numbers
    number i arg is one tag =
        let h : SeqHeard script exts earlier arg =
        seq_heard script exts history earlier v arg (begins_at script exts past part more x earlier split f v 5 at i 1 arg is one) in
        subst (λ (ws : List ℕ). In (word ws 2, message_at ws 3) numbers) (sym h.is)
        (tells_number script exts history.group (trace script exts) (trace-is_trace script exts) h.step (in_whole h.step h.there) h.micro (h.to ∷ 3 ∷ h.words) h.frame h.outcome
        (sym (ap (λ (ws : List ℕ). word ws 1) h.is) ∙ tag))

    go : (m : Moment) → x.moment ≡ m → SeqcastMay numbers (seqcast_steps v earlier) m
    go (Moment.Begin i arg) is = number i arg is
    go (Moment.Resume i frame reply) is = λ one up. resumed seqcast_box script exts history.group v earlier t x f at i frame reply is up

pub seqcast_history : (script : Script) (exts : List Ext) → IsGroupHistory script exts → (v : ℕ) (past : List HandlerStep) → IsPart script exts past
    → IsSeqcast (group_setup script.nodes v 5) (told (seqcast_steps 0 (trace script exts))) (seqcast_steps v past)
seqcast_history script exts history v past part =
    is_history seqcast_box.box script exts history.group v (SeqcastMay (told (seqcast_steps 0 (trace script exts)))) past (part_trace script exts past part)
    (seqcast_may script exts history v past part)
