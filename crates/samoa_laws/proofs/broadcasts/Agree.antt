-- The two broadcasts call `deliver` of the replacement layer in one order at all nodes, with what was given to them.
use Rattle.std.proofs.Common.{◌≡◌, ◌⊎◌, ◌<◌, ◌^◌, ◌+◌, ℕ, inl, inr, refl, sym, ap, subst, ◌∙◌, arith, append-nil, List, [], ◌∷◌, ◌++◌, length, length-append, Option, Some, None}
use Rattle.samoa_model.specs.Scripts.{setup_of}
use Rattle.samoa_model.specs.declared.handler.Moment.{Moment}
use Rattle.samoa_model.specs.declared.record.Ext.{Ext}
use Rattle.samoa_model.specs.declared.script.Script.{Script}
use Rattle.samoa_model.specs.declared.setup.Setup.{Setup}
use Rattle.samoa_serial.specs.declared.message.Message.{Message}
use Rattle.samoa_serial.specs.Lists.{In}
use Rattle.samoa_laws.specs.trace.Trace.{HandlerStep, trace}
use Rattle.samoa_laws.specs.trace.Causes.{IsTrace}
use Rattle.samoa_laws.specs.trace.Group.{IsGroupHistory, handler}
use Rattle.samoa_laws.proofs.transport.Accepted.{group_length}
use Rattle.samoa_serial.proofs.ListLaws.{in_append, in_left}
use Rattle.samoa_laws.proofs.trace.Points.{trace-is_trace}
use Rattle.samoa_laws.proofs.trace.Worlds.{event_for}
use Rattle.samoa_laws.proofs.lists.Lists.{comparable_begins}
use Rattle.samoa_laws.proofs.lists.Messages.{first_places_begin}
use Rattle.samoa_laws.specs.lists.Lists.{Begins, Comparable}
use Rattle.samoa_laws.specs.lists.Messages.{first_places}
use Rattle.samoa_laws.specs.broadcasts.Abcast.{IsAbcast, IsAbcastBox, listed}
use Rattle.samoa_laws.specs.broadcasts.Boxes.{called_up}
use Rattle.samoa_laws.specs.broadcasts.Seqcast.{IsSeqcast, IsSeqcastBox, told}
use Rattle.samoa_laws.proofs.broadcasts.AbcastHistories as abcast
use Rattle.samoa_laws.proofs.broadcasts.SeqcastHistories as seqcast
use Rattle.samoa_laws.specs.broadcasts.Begun.{AreProposed, IsAheadBy, IsCastDown, IsDecided, IsHandedOn, IsPart, WasSubmitted, abcast_of, abcast_steps, begun, begun_by, caller, delivered_by, seqcast_of, seqcast_steps, with_caller}
use Rattle.samoa_laws.proofs.trace.Boxes.{steps-few, steps_of}
use Rattle.samoa_laws.proofs.broadcasts.Boxes.{Upward}
use Rattle.samoa_laws.proofs.broadcasts.Both.{abcast_box, seqcast_box}
use Rattle.samoa_laws.proofs.transport.Events.{CalledAtOnce, at_once, calls_down, calls_up}
use Rattle.samoa_laws.proofs.broadcasts.Histories.{abcast_any, abcast_history, part_trace, seqcast_any, seqcast_history}
use Rattle.samoa_laws.proofs.broadcasts.Deliveries.{Delivers, called_is_begun, called_is_begun_at_end, calling, delivered_some, delivers_handler}
use Rattle.samoa_laws.proofs.broadcasts.Submitted.{before_part, proposed_submitted, sequenced_submitted}
use Rattle.samoa_laws.proofs.trace.Boxes.{setup_is}

pub part_of_itself : (script : Script) (exts : List Ext) → IsPart script exts (trace script exts)
part_of_itself script exts = record { more = []; split = refl }

part_short : (script : Script) (exts : List Ext) → IsGroupHistory script exts → (past : List HandlerStep) → IsPart script exts past → length past < 2 ^ 32
part_short script exts history past part =
    let few : length (trace script exts) < 2 ^ 32 = group_length script exts history in
    let all : length (trace script exts) ≡ length part.more + length past = ap (λ (ys : List HandlerStep). length ys) part.split ∙ length-append part.more past in
    omega (arith, few, all)

pub abcast_short : (script : Script) (exts : List Ext) → IsGroupHistory script exts → (v : ℕ) (past : List HandlerStep) → IsPart script exts past → length (abcast_steps v past) < 2 ^ 32
abcast_short script exts history v past part = omega (arith, steps-few abcast_of v 4 past, part_short script exts history past part)

pub seqcast_short : (script : Script) (exts : List Ext) → IsGroupHistory script exts → (v : ℕ) (past : List HandlerStep) → IsPart script exts past → length (seqcast_steps v past) < 2 ^ 32
seqcast_short script exts history v past part = omega (arith, steps-few seqcast_of v 5 past, part_short script exts history past part)

-- ---- histories, by the script's own setups
pub is_abcast : (decision : ℕ → Option Message) (script : Script) (exts : List Ext) (past : List HandlerStep) (v : ℕ) → IsGroupHistory script exts → IsPart script exts past
    → IsDecided script exts decision → IsAbcast (setup_of script v 4) decision (abcast_steps v past)
is_abcast decision script exts past v history part decided =
    subst (λ (setup : Setup). IsAbcast setup decision (abcast_steps v past)) (setup_is script history.group v 4)
    (abcast_history decision script exts history.group v past part decided)

pub is_seqcast : (script : Script) (exts : List Ext) (past : List HandlerStep) (v : ℕ) → IsGroupHistory script exts → IsPart script exts past
    → IsSeqcast (setup_of script v 5) (told (seqcast_steps 0 (trace script exts))) (seqcast_steps v past)
is_seqcast script exts past v history part =
    subst (λ (setup : Setup). IsSeqcast setup (told (seqcast_steps 0 (trace script exts))) (seqcast_steps v past)) (setup_is script history.group v 5)
    (seqcast_history script exts history v past part)

pub is_abcast_box : (script : Script) (exts : List Ext) (past : List HandlerStep) (v : ℕ) → IsGroupHistory script exts → IsPart script exts past
    → IsAbcastBox (setup_of script v 4) (abcast_steps v past) × (length (abcast_steps v past) < 2 ^ 32)
is_abcast_box script exts past v history part = (
  subst (λ (setup : Setup). IsAbcastBox setup (abcast_steps v past)) (setup_is script history.group v 4) (abcast_any script exts history.group v past (part_trace script exts past part)),
  abcast_short script exts history v past part,
)

pub is_seqcast_box : (script : Script) (exts : List Ext) (past : List HandlerStep) (v : ℕ) → IsGroupHistory script exts → IsPart script exts past
    → IsSeqcastBox (setup_of script v 5) (seqcast_steps v past) × (length (seqcast_steps v past) < 2 ^ 32)
is_seqcast_box script exts past v history part = (
  subst (λ (setup : Setup). IsSeqcastBox setup (seqcast_steps v past)) (setup_is script history.group v 5) (seqcast_any script exts history.group v past (part_trace script exts past part)),
  seqcast_short script exts history v past part,
)

-- ---- what began is the beginning of what was called up
ahead : (called began : List Message) (o : Option Message) → called ≡ began ++ listed o → IsAheadBy called began
ahead called began None e = inl (e ∙ append-nil began)
ahead called began (Some m) e = inr (m, e)

pub is_ahead : {S : Type 0} (b : Upward S) (script : Script) (exts : List Ext) → IsGroupHistory script exts → (v : ℕ) (past : List HandlerStep) → IsPart script exts past
    → IsAheadBy (called_up (steps_of b.box v past)) (begun_by b.box.number v past)
is_ahead b script exts history v past part =
    ahead (called_up (steps_of b.box v past)) (begun_by b.box.number v past) (calling b v past) (called_is_begun b script exts history v past (part_trace script exts past part))

is_beginning : {S : Type 0} (b : Upward S) (script : Script) (exts : List Ext) → IsGroupHistory script exts → (v : ℕ) (past : List HandlerStep) → IsPart script exts past
    → Begins (begun_by b.box.number v past) (called_up (steps_of b.box v past))
is_beginning b script exts history v past part =
    record { rest = listed (calling b v past); is = called_is_begun b script exts history v past (part_trace script exts past part) }

first_beginning : {S : Type 0} (b : Upward S) (script : Script) (exts : List Ext) → IsGroupHistory script exts → (v : ℕ) (past : List HandlerStep) → IsPart script exts past
    → Begins (first_places (begun_by b.box.number v past)) (first_places (called_up (steps_of b.box v past)))
first_beginning b script exts history v past part =
    first_places_begin (begun_by b.box.number v past) (called_up (steps_of b.box v past)) (is_beginning b script exts history v past part)

was_called : {S : Type 0} (b : Upward S) (script : Script) (exts : List Ext) → IsGroupHistory script exts → (v : ℕ) (past : List HandlerStep) → IsPart script exts past
    → (m : Message) → In m (begun_by b.box.number v past) → In m (called_up (steps_of b.box v past))
was_called b script exts history v past part m there =
    subst (λ (ms : List Message). In m ms) (sym (called_is_begun b script exts history v past (part_trace script exts past part)))
    (in_left m (begun_by b.box.number v past) (listed (calling b v past)) there)

pub called_at_end : {S : Type 0} (b : Upward S) (script : Script) (exts : List Ext) → IsGroupHistory script exts → (v : ℕ)
    → called_up (steps_of b.box v (trace script exts)) ≡ begun_by b.box.number v (trace script exts)
called_at_end b script exts history v = called_is_begun_at_end b script exts history v (trace-is_trace script exts)

-- ---- one order
pub abcast_agrees : (decision : ℕ → Option Message) (script : Script) (exts : List Ext) (past other : List HandlerStep) (v u : ℕ) → IsGroupHistory script exts
    → IsPart script exts past → IsPart script exts other → IsDecided script exts decision
    → Comparable (first_places (begun_by 4 v past)) (first_places (begun_by 4 u other))
abcast_agrees decision script exts past other v u history part part' decided =
    comparable_begins (first_places (called_up (abcast_steps v past))) (first_places (called_up (abcast_steps u other))) (first_places (begun_by 4 v past)) (first_places (begun_by 4 u other))
    (abcast.orders_agree decision (setup_of script v 4) (setup_of script u 4) (abcast_steps v past) (abcast_steps u other)
    (is_abcast decision script exts past v history part decided)
    (is_abcast decision script exts other u history part' decided)
    (abcast_short script exts history v past part) (abcast_short script exts history u other part'))
    (first_beginning abcast_box script exts history v past part) (first_beginning abcast_box script exts history u other part')

pub seqcast_agrees : (script : Script) (exts : List Ext) (past other : List HandlerStep) (v u : ℕ) → IsGroupHistory script exts
    → IsPart script exts past → IsPart script exts other
    → Comparable (first_places (begun_by 5 v past)) (first_places (begun_by 5 u other))
seqcast_agrees script exts past other v u history part part' =
    let own = is_seqcast_box script exts (trace script exts) 0 history (part_of_itself script exts) in
    comparable_begins (first_places (called_up (seqcast_steps v past))) (first_places (called_up (seqcast_steps u other))) (first_places (begun_by 5 v past)) (first_places (begun_by 5 u other))
    (seqcast.orders_agree (setup_of script 0 5) (seqcast_steps 0 (trace script exts)) own.0 own.1 (setup_of script v 5) (setup_of script u 5) (seqcast_steps v past) (seqcast_steps u other)
    (is_seqcast script exts past v history part) (is_seqcast script exts other u history part')
    (seqcast_short script exts history v past part) (seqcast_short script exts history u other part'))
    (first_beginning seqcast_box script exts history v past part) (first_beginning seqcast_box script exts history u other part')

-- ---- validity
pub begun_decided : (decision : ℕ → Option Message) (script : Script) (exts : List Ext) (past : List HandlerStep) (v : ℕ) (m : Message) → IsGroupHistory script exts
    → IsPart script exts past → IsDecided script exts decision → In m (begun_by 4 v past) → (i : ℕ) × (decision i ≡ Some m)
begun_decided decision script exts past v m history part decided there =
    let d = abcast.called_was_decided decision (setup_of script v 4) (abcast_steps v past) (is_abcast decision script exts past v history part decided)
    (abcast_short script exts history v past part) m (was_called abcast_box script exts history v past part m there) in
    (d.0, d.1)

pub abcast_valid : (decision : ℕ → Option Message) (script : Script) (exts : List Ext) (past : List HandlerStep) (v : ℕ) (m : Message) → IsGroupHistory script exts
    → IsPart script exts past → IsDecided script exts decision → AreProposed script exts decision → In m (begun_by 4 v past) → WasSubmitted script exts 4 m
abcast_valid decision script exts past v m history part decided proposed there =
    let d : (i : ℕ) × (decision i ≡ Some m) = begun_decided decision script exts past v m history part decided there in
    proposed_submitted script exts history d.0 m (proposed d.0 m d.1)

pub seqcast_valid : (script : Script) (exts : List Ext) (past : List HandlerStep) (v : ℕ) (m : Message) → IsGroupHistory script exts
    → IsPart script exts past → In m (begun_by 5 v past) → WasSubmitted script exts 5 m
seqcast_valid script exts past v m history part there =
    let own = is_seqcast_box script exts (trace script exts) 0 history (part_of_itself script exts) in
    sequenced_submitted script exts history 0 m
    (seqcast.called_was_submitted (setup_of script 0 5) (seqcast_steps 0 (trace script exts)) own.0 own.1 (setup_of script v 5) (seqcast_steps v past)
    (is_seqcast script exts past v history part) (seqcast_short script exts history v past part) m (was_called seqcast_box script exts history v past part m there))

-- ---- who calls
pub handed_on : (script : Script) (exts : List Ext) (past : List HandlerStep) (x : HandlerStep) → IsGroupHistory script exts → IsPart script exts (x ∷ past)
    → x.call.handler ≡ handler 6 1 → (i : ℕ) (arg : List ℕ) → x.moment ≡ Moment.Begin i arg → IsHandedOn past x arg
handed_on script exts past x history part is i arg moment =
    let t : IsTrace script exts (x ∷ past) = part_trace script exts (x ∷ past) part in
    let c : CalledAtOnce past x 11 arg =
    at_once script exts history past t.1 x t.0 11 (omega arith) (omega arith) (λ e. omega (arith, e)) (ap event_for is) i arg moment in
    let u : IsTrace script exts (c.by ∷ c.earlier) = subst (IsTrace script exts) c.split t.1 in
    record {
      by = c.by;
      earlier = c.earlier;
      split = c.split;
      comp = c.is.comp;
      node = c.is.node;
      effective = c.is.effective;
      frame = c.is.frame;
      outcome = c.is.outcome;
      broadcast = calls_up script exts history.group c.earlier c.by u.0 arg c.is.frame c.is.outcome;
    }

pub cast_down : (script : Script) (exts : List Ext) (past : List HandlerStep) (x : HandlerStep) → IsGroupHistory script exts → IsPart script exts (x ∷ past)
    → (x.call.handler ≡ handler 4 0) ⊎ (x.call.handler ≡ handler 5 0) → (arg : List ℕ) → x.moment ≡ Moment.Begin 0 arg → IsCastDown past x arg
cast_down script exts past x history part is arg moment =
    let t : IsTrace script exts (x ∷ past) = part_trace script exts (x ∷ past) part in
    let c : CalledAtOnce past x 12 arg = at_once script exts history past t.1 x t.0 12 (omega arith) (omega arith) (λ e. omega (arith, e)) (at is) 0 arg moment in
    let u : IsTrace script exts (c.by ∷ c.earlier) = subst (IsTrace script exts) c.split t.1 in
    record {
      by = c.by;
      earlier = c.earlier;
      split = c.split;
      comp = c.is.comp;
      node = c.is.node;
      effective = c.is.effective;
      frame = c.is.frame;
      outcome = c.is.outcome;
      micro = calls_down script exts history.group c.earlier c.by u.0 arg c.is.frame c.is.outcome;
    }
  where
    at : (x.call.handler ≡ handler 4 0) ⊎ (x.call.handler ≡ handler 5 0) → event_for x.call.handler ≡ 12
    at (inl e) = ap event_for e
    at (inr e) = ap event_for e

pub callers : (script : Script) (exts : List Ext) → IsGroupHistory script exts → (past : List HandlerStep) → IsPart script exts past → (v p : ℕ) (m : Message)
    → In (p, m) (begun v past) → (p ≡ 4) ⊎ (p ≡ 5)
callers script exts history [] part v p m there = absurd there
callers script exts history (x ∷ past) part v p m there =
    go (λ i. callers script exts history past earlier v p m i) (in_append (p, m) (begun v past) (with_caller (caller past) (delivered_by v x)) there)
  where
    earlier : IsPart script exts past
    earlier = before_part script exts x past part

    one : (o : Option Message) → delivered_by v x ≡ o → In (p, m) (with_caller (caller past) o) → (p ≡ 4) ⊎ (p ≡ 5)
    one None is i = absurd i
    one (Some k) is (inl same) =
        let d : Delivers v x k = delivered_some v x k is in
        let h : IsHandedOn past x d.arg = handed_on script exts past x history part (delivers_handler script exts past x (part_trace script exts (x ∷ past) part).0 v k d) 1 d.arg d.moment in
        let number : p ≡ caller past = ap (λ (e : ℕ × Message). e.0) same in
        subst (λ (q : ℕ). (q ≡ 4) ⊎ (q ≡ 5)) (sym (number ∙ ap caller h.split)) h.broadcast
    one (Some k) is (inr out) = absurd out

    go : (In (p, m) (begun v past) → (p ≡ 4) ⊎ (p ≡ 5)) → In (p, m) (begun v past) ⊎ In (p, m) (with_caller (caller past) (delivered_by v x)) → (p ≡ 4) ⊎ (p ≡ 5)
    go ih (inl i) = ih i
    go ih (inr i) = one (delivered_by v x) refl i
