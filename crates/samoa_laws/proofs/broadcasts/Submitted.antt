-- What is proposed, and what is given to the sequencer, was cast.
use Rattle.std.proofs.Common.{◌≡◌, ◌⊎◌, ◌<◌, ℕ, zero, suc, inl, inr, refl, sym, ap, subst, ◌∙◌, arith, append_assoc, List, [], ◌∷◌, ◌++◌, take}
use Rattle.samoa_model.specs.declared.handler.Moment.{Moment}
use Rattle.samoa_model.specs.declared.handler.Outcome.{Outcome}
use Rattle.samoa_model.specs.declared.record.Ext.{Ext}
use Rattle.samoa_model.specs.declared.script.Script.{Script}
use Rattle.samoa_serial.specs.State.{State}
use Rattle.samoa_serial.specs.declared.message.Message.{Message}
use Rattle.samoa_serial.specs.Rows.{message_at, word}
use Rattle.samoa_serial.specs.Lists.{In}
use Rattle.samoa_laws.specs.trace.Trace.{HandlerStep, micro_of, trace}
use Rattle.samoa_laws.specs.trace.Causes.{FollowsIn, IsTrace}
use Rattle.samoa_laws.specs.trace.Group.{IsGroupHistory, event, handler}
use Rattle.samoa_laws.specs.transport.Transport.{BeginsAt, IsCalled, IsCast}
use Rattle.samoa_serial.proofs.ListLaws.{in_middle, in_right}
use Rattle.samoa_laws.proofs.transport.Received.{upward}
use Rattle.samoa_laws.proofs.trace.Steps.{before}
use Rattle.samoa_laws.proofs.trace.Worlds.{event_for, group_setup}
use Rattle.samoa_laws.specs.trace.Boxes.{BoxStep}
use Rattle.samoa_laws.specs.broadcasts.Boxes.{WasCast}
use Rattle.samoa_laws.specs.broadcasts.Abcast.{WasHeard}
use Rattle.samoa_laws.specs.broadcasts.Seqcast as sequencer
use Rattle.samoa_laws.proofs.broadcasts.BoxSubmitted.{broadcasts_cast, proposes_heard, submits_cast}
use Rattle.samoa_laws.specs.broadcasts.Begun.{IsPart, WasSubmitted, abcast_of, abcast_steps, seqcast_of, seqcast_steps}
use Rattle.samoa_laws.specs.trace.Boxes.{box_step, box_steps}
use Rattle.samoa_laws.specs.consensus.Decisions.{WasProposed}
use Rattle.samoa_laws.proofs.trace.Boxes.{FromTrace, from_box, in_box}
use Rattle.samoa_laws.proofs.broadcasts.Boxes.{own_index}
use Rattle.samoa_laws.proofs.broadcasts.Both.{apart}
use Rattle.samoa_laws.proofs.transport.Events.{CalledBy, called, proposes}
use Rattle.samoa_laws.proofs.broadcasts.Histories.{SeqHeard, abcast_any, part_trace, seq_heard, seqcast_any}
use Rattle.samoa_laws.proofs.transport.Carried.{handler_is}

-- one of the steps of a part, and the part before it
pub record PartAt (script : Script) (exts : List Ext) (past : List HandlerStep) (x : HandlerStep) : Type 0 where
  pub earlier : List HandlerStep
  pub part : IsPart script exts (x ∷ earlier)
  pub follows : FollowsIn script exts earlier x
  pub is_trace : IsTrace script exts earlier
  pub within : (y : HandlerStep) → In y earlier → In y past

pub part_at : (script : Script) (exts : List Ext) (past : List HandlerStep) → IsPart script exts past → (x : HandlerStep) → In x past → PartAt script exts past x
part_at script exts past part x there =
    let b = before script exts past x (part_trace script exts past part) there in
    record {
      earlier = b.earlier;
      part = record {
        more = part.more ++ b.more;
        split = part.split ∙ (ap (λ (ys : List HandlerStep). part.more ++ ys) b.split ∙ sym (append_assoc part.more b.more (x ∷ b.earlier)));
      };
      follows = b.follows;
      is_trace = b.is_trace;
      within = λ y i. subst (λ (ys : List HandlerStep). In y ys) (sym b.split) (in_right y b.more (x ∷ b.earlier) (inr i));
    }

pub before_part : (script : Script) (exts : List Ext) (x : HandlerStep) (past : List HandlerStep) → IsPart script exts (x ∷ past) → IsPart script exts past
before_part script exts x past part = record { more = part.more ++ x ∷ []; split = part.split ∙ sym (append_assoc part.more (x ∷ []) past) }

-- one of these steps begins this handler with these words
pub record Began (past : List HandlerStep) (p i : ℕ) (arg : List ℕ) : Type 0 where
  pub step : HandlerStep
  pub there : In step past
  pub handler_is : step.call.handler ≡ handler p i
  pub moment : step.moment ≡ Moment.Begin i arg

-- `cast` of a broadcast began with the message
pub record SubmittedIn (past : List HandlerStep) (p : ℕ) (m : Message) : Type 0 where
  pub arg : List ℕ
  pub began : Began past p 0 arg
  pub message_is : message_at arg 0 ≡ m

-- the same, of the whole trace
began_at : (script : Script) (exts : List Ext) (past : List HandlerStep) (node p i : ℕ) (arg : List ℕ) → BeginsAt script exts past node (handler p i) arg → Began (trace script exts) p i arg
began_at script exts past node p i arg b =
    record { step = b.step; there = subst (λ (ys : List HandlerStep). In b.step ys) (sym b.split) (in_middle b.step b.more past); handler_is = b.handler_is; moment = b.moment }

submitted_at : (script : Script) (exts : List Ext) (p : ℕ) (m : Message) → SubmittedIn (trace script exts) p m → WasSubmitted script exts p m
submitted_at script exts p m s =
    let at : PartAt script exts (trace script exts) s.began.step = part_at script exts (trace script exts) (record { more = []; split = refl }) s.began.step s.began.there in
    record {
      node = s.began.step.node;
      arg = s.arg;
      past = at.earlier;
      begins = record { step = s.began.step; more = at.part.more; split = at.part.split; node_is = refl; handler_is = s.began.handler_is; moment = s.began.moment };
      message = s.message_is;
    }

-- a begin at a box is one in the trace
pub record BeganThere (past : List HandlerStep) (v p i : ℕ) (arg : List ℕ) : Type 0 where
  pub step : HandlerStep
  pub there : In step past
  pub node : v ≡ step.node
  pub handler_is : step.call.handler ≡ handler p i
  pub moment : step.moment ≡ Moment.Begin i arg

pub began_there : {S : Type 0} (of : State → S) (script : Script) (exts : List Ext) (past : List HandlerStep) → IsTrace script exts past → (v p : ℕ) (s : BoxStep S)
    → In s (box_steps of v p past) → (i : ℕ) (arg : List ℕ) → s.moment ≡ Moment.Begin i arg → BeganThere past v p i arg
began_there of script exts past trace v p s there i arg is =
    let t : FromTrace of past v p s = from_box of past v p s there in
    let moment : t.step.moment ≡ Moment.Begin i arg = ap (λ (u : BoxStep _). u.moment) (sym t.is) ∙ is in
    let b = before script exts past t.step trace t.there in
    record {
      step = t.step;
      there = t.there;
      node = t.at.0;
      handler_is = handler_is t.step.call.handler p i (sym t.at.1) (own_index script exts b.earlier t.step b.follows i arg moment);
      moment = moment;
    }

-- ---- the first words are the words
word_of_none : (n i : ℕ) → word (take n []) i ≡ word [] i
word_of_none zero i = refl
word_of_none (suc n) i = refl

take_word : (ws : List ℕ) (n i : ℕ) → i < n → word (take n ws) i ≡ word ws i
take_word [] n i lt = word_of_none n i
take_word (w ∷ ws) zero i lt = absurd (omega (arith, lt))
take_word (w ∷ ws) (suc n) zero lt = refl
take_word (w ∷ ws) (suc n) (suc i) lt = take_word ws n i (omega (arith, lt))

take_message : (ws : List ℕ) → message_at (take 8 ws) 1 ≡ message_at ws 1
take_message ws =
    rw (take_word ws 8 1 (omega arith), take_word ws 8 2 (omega arith), take_word ws 8 3 (omega arith), take_word ws 8 4 (omega arith), take_word ws 8 5 (omega arith)) refl

-- ---- abcast: what is heard with the tag 0 was cast
heard_submitted : (script : Script) (exts : List Ext) → IsGroupHistory script exts → (past : List HandlerStep) → IsPart script exts past → (z : HandlerStep) → In z past
    → z.call.handler ≡ handler 4 1 → (arg : List ℕ) → z.moment ≡ Moment.Begin 1 arg → word arg 2 ≡ 0 → SubmittedIn past 4 (message_at arg 3)
heard_submitted script exts history past part z there is arg moment tag = go c.cast.called.by
  where
    at : PartAt script exts past z
    at = part_at script exts past part z there

    c : IsCast at.earlier arg
    c = upward script exts history at.earlier z.node (handler 4 1) arg (inr refl)
        (record { step = z; more = at.part.more; split = at.part.split; node_is = refl; handler_is = is; moment = moment })

    words : List ℕ
    words = c.cast.arg

    arg_is : arg ≡ c.origin ∷ c.number ∷ take 8 words
    arg_is = c.is ∙ ap (λ (ws : List ℕ). c.origin ∷ c.number ∷ ws) (sym c.cast.first)

    tag_is : word words 0 ≡ 0
    tag_is = sym (take_word words 8 0 (omega arith)) ∙ (sym (ap (λ (ws : List ℕ). word ws 2) arg_is) ∙ tag)

    message_is : message_at words 1 ≡ message_at arg 3
    message_is = sym (take_message words) ∙ sym (ap (λ (ws : List ℕ). message_at ws 3) arg_is)

    submitted : (y : HandlerStep) → In y at.earlier → micro_of y ≡ 4 → (frame : List ℕ) → y.outcome ≡ Outcome.Call (event 8) words frame → SubmittedIn past 4 (message_at arg 3)
    submitted y in_earlier micro frame outcome =
        let cast : (word words 0 ≡ 0) × WasCast (abcast_steps y.node at.earlier) (message_at words 1) =
        broadcasts_cast (group_setup script.nodes y.node 4) (abcast_steps y.node at.earlier) (abcast_any script exts history.group y.node at.earlier at.is_trace)
        (apart 8 10 (λ e. omega (arith, e))) (apart 8 11 (λ e. omega (arith, e))) (box_step abcast_of y) words frame
        (in_box abcast_of y at.earlier y.node 4 (refl, sym micro) in_earlier) outcome in
        let s = cast.1 in
        let b : BeganThere at.earlier y.node 4 0 s.1 = began_there abcast_of script exts at.earlier at.is_trace y.node 4 s.0 s.2 0 s.1 s.3 in
        record {
          arg = s.1;
          began = record { step = b.step; there = at.within b.step b.there; handler_is = b.handler_is; moment = b.moment };
          message_is = s.4 ∙ message_is;
        }

    called_by : IsCalled at.earlier c.cast.step.node words
    called_by = c.cast.called

    go : ((micro_of called_by.step ≡ 3) × (word words 0 ≡ 1)) ⊎ ((micro_of called_by.step ≡ 4) × (word words 0 ≡ 0)) → SubmittedIn past 4 (message_at arg 3)
    go (inl announced) = absurd (omega (arith, announced.1, tag_is))
    go (inr cast) = submitted called_by.step called_by.there cast.0 called_by.frame called_by.outcome

submitted_more : (past more : List HandlerStep) → ((y : HandlerStep) → In y past → In y more) → (p : ℕ) (m : Message) → SubmittedIn past p m → SubmittedIn more p m
submitted_more past more within p m s =
    record {
      arg = s.arg;
      began = record { step = s.began.step; there = within s.began.step s.began.there; handler_is = s.began.handler_is; moment = s.began.moment };
      message_is = s.message_is;
    }

-- what is proposed was cast
proposed_in : (script : Script) (exts : List Ext) → IsGroupHistory script exts → (past : List HandlerStep) → IsPart script exts past → (arg : List ℕ)
    → Began past 3 0 arg → SubmittedIn past 4 (message_at arg 1)
proposed_in script exts history past part arg p =
    subst (λ (k : Message). SubmittedIn past 4 k) heard.5
    (submitted_more at.earlier past at.within 4 (message_at heard.1 3)
    (heard_submitted script exts history at.earlier (before_part script exts p.step at.earlier at.part) z.step z.there z.handler_is heard.1 z.moment heard.4))
  where
    at : PartAt script exts past p.step
    at = part_at script exts past part p.step p.there

    c : CalledBy at.earlier p.step 10 arg
    c = called script exts history at.earlier at.is_trace p.step at.follows 10 (omega arith) (omega arith) (ap event_for p.handler_is) 0 arg p.moment

    abcast_calls : micro_of c.by ≡ 4
    abcast_calls =
        let b = before script exts at.earlier c.by at.is_trace c.there in
        proposes script exts history.group b.earlier c.by b.follows arg c.is.frame c.is.outcome

    heard : WasHeard (abcast_steps c.by.node at.earlier) (message_at arg 1)
    heard =
        proposes_heard (group_setup script.nodes c.by.node 4) (abcast_steps c.by.node at.earlier) (abcast_any script exts history.group c.by.node at.earlier at.is_trace)
        (apart 10 8 (λ e. omega (arith, e))) (apart 10 11 (λ e. omega (arith, e))) (box_step abcast_of c.by) arg c.is.frame
        (in_box abcast_of c.by at.earlier c.by.node 4 (refl, sym abcast_calls) c.there) c.is.outcome

    z : BeganThere at.earlier c.by.node 4 1 heard.1
    z = began_there abcast_of script exts at.earlier at.is_trace c.by.node 4 heard.0 heard.2 1 heard.1 heard.3

pub proposed_submitted : (script : Script) (exts : List Ext) → IsGroupHistory script exts → (i : ℕ) (m : Message) → WasProposed script exts i m → WasSubmitted script exts 4 m
proposed_submitted script exts history i m p =
    submitted_at script exts 4 m
    (subst (λ (k : Message). SubmittedIn (trace script exts) 4 k) p.message
    (proposed_in script exts history (trace script exts) (record { more = []; split = refl }) p.arg (began_at script exts p.past p.node 3 0 p.arg p.begins)))

-- ---- seqcast: what is given to the sequencer was cast
sequenced_in : (script : Script) (exts : List Ext) → IsGroupHistory script exts → (past : List HandlerStep) → IsPart script exts past → (v : ℕ) (m : Message)
    → sequencer.WasSubmitted (seqcast_steps v past) m → SubmittedIn past 5 m
sequenced_in script exts history past part v m w = record {
  arg = cast.1;
  began = record { step = z.step; there = at.within z.step z.there; handler_is = z.handler_is; moment = z.moment };
  message_is = cast.4 ∙ (sym (ap (λ (ws : List ℕ). message_at ws 2) h.is) ∙ w.5);
}
  where
    x : BeganThere past v 5 1 w.1
    x = began_there seqcast_of script exts past (part_trace script exts past part) v 5 w.0 w.2 1 w.1 w.3

    at : PartAt script exts past x.step
    at = part_at script exts past part x.step x.there

    h : SeqHeard script exts at.earlier w.1
    h = seq_heard script exts history at.earlier v w.1
        (record { step = x.step; more = at.part.more; split = at.part.split; node_is = sym x.node; handler_is = x.handler_is; moment = x.moment })

    tag : word h.words 0 ≡ 0
    tag = sym (ap (λ (ws : List ℕ). word ws 1) h.is) ∙ w.4

    cast : WasCast (seqcast_steps h.step.node at.earlier) (message_at (h.to ∷ 3 ∷ h.words) 3)
    cast =
        submits_cast (group_setup script.nodes h.step.node 5) (seqcast_steps h.step.node at.earlier) (seqcast_any script exts history.group h.step.node at.earlier at.is_trace)
        (apart 1 11 (λ e. omega (arith, e))) (box_step seqcast_of h.step) (h.to ∷ 3 ∷ h.words) h.frame
        (in_box seqcast_of h.step at.earlier h.step.node 5 (refl, sym h.micro) h.there) h.outcome tag

    z : BeganThere at.earlier h.step.node 5 0 cast.1
    z = began_there seqcast_of script exts at.earlier at.is_trace h.step.node 5 cast.0 cast.2 0 cast.1 cast.3

pub sequenced_submitted : (script : Script) (exts : List Ext) → IsGroupHistory script exts → (v : ℕ) (m : Message)
    → sequencer.WasSubmitted (seqcast_steps v (trace script exts)) m → WasSubmitted script exts 5 m
sequenced_submitted script exts history v m w =
    submitted_at script exts 5 m (sequenced_in script exts history (trace script exts) (record { more = []; split = refl }) v m w)
