-- What the broadcasts owe to the replacement layer: consensus decides for abcast, and so both keep their order.
use Rattle.std.proofs.Common.{ℕ, inl, inr, sym, subst, List}
use Rattle.samoa_model.specs.declared.record.Ext.{Ext}
use Rattle.samoa_model.specs.declared.script.Script.{Script}
use Rattle.samoa_serial.specs.declared.message.Message.{Message}
use Rattle.samoa_serial.specs.Lists as laws
use Rattle.samoa_laws.specs.trace.Trace.{HandlerStep, trace}
use Rattle.samoa_laws.specs.trace.Group.{IsGroupHistory}
use Rattle.samoa_serial.proofs.ListLaws.{in_middle}
use Rattle.samoa_laws.specs.lists.Lists.{Comparable}
use Rattle.samoa_laws.specs.lists.Messages.{first_places}
use Rattle.samoa_laws.specs.consensus.Decisions.{decision}
use Rattle.samoa_laws.proofs.consensus.Agreed.{given_decision, valid}
use Rattle.samoa_laws.specs.broadcasts.Begun as broadcasts
use Rattle.samoa_laws.specs.broadcasts.Begun.{AreProposed, IsDecided, IsPart, begun, begun_by}
use Rattle.samoa_laws.proofs.broadcasts.Agree.{abcast_agrees, abcast_valid, callers, part_of_itself, seqcast_agrees, seqcast_valid}
use Rattle.samoa_laws.specs.streams.Ordered.{AreSubmitted, IsBroadcast, KeepsOrder}
use Rattle.samoa_laws.proofs.streams.Ups.{WasBegun, comparable_ups, was_begun}

-- ---- what consensus owes to abcast
pub is_decided : (script : Script) (exts : List Ext) → IsGroupHistory script exts → IsDecided script exts (decision script exts)
is_decided script exts history past node arg begins = given_decision script exts history past node arg begins

pub are_proposed : (script : Script) (exts : List Ext) → IsGroupHistory script exts → AreProposed script exts (decision script exts)
are_proposed script exts history i m is = valid script exts history i m is

-- ---- order
pub keeps_order : (script : Script) (exts : List Ext) → IsGroupHistory script exts → KeepsOrder script exts
keeps_order script exts history p broadcast v u = comparable_ups p v u past (go broadcast)
  where
    past : List HandlerStep
    past = trace script exts

    whole : IsPart script exts past
    whole = part_of_itself script exts

    go : IsBroadcast p → Comparable (first_places (begun_by p v past)) (first_places (begun_by p u past))
    go (inl four) =
        subst (λ (q : ℕ). Comparable (first_places (begun_by q v past)) (first_places (begun_by q u past))) (sym four)
        (abcast_agrees (decision script exts) script exts past past v u history whole whole (is_decided script exts history))
    go (inr five) =
        subst (λ (q : ℕ). Comparable (first_places (begun_by q v past)) (first_places (begun_by q u past))) (sym five)
        (seqcast_agrees script exts past past v u history whole whole)

-- ---- validity
-- a message with which one of the two broadcasts begins `deliver` was given to it
was_given : (script : Script) (exts : List Ext) → IsGroupHistory script exts → (p v : ℕ) (m : Message) → IsBroadcast p → laws.In m (begun_by p v (trace script exts))
    → broadcasts.WasSubmitted script exts p m
was_given script exts history p v m broadcast there = go broadcast
  where
    past : List HandlerStep
    past = trace script exts

    whole : IsPart script exts past
    whole = part_of_itself script exts

    go : IsBroadcast p → broadcasts.WasSubmitted script exts p m
    go (inl four) =
        subst (λ (q : ℕ). broadcasts.WasSubmitted script exts q m) (sym four)
        (abcast_valid (decision script exts) script exts past v m history whole (is_decided script exts history) (are_proposed script exts history)
        (subst (λ (q : ℕ). laws.In m (begun_by q v past)) four there))
    go (inr five) =
        subst (λ (q : ℕ). broadcasts.WasSubmitted script exts q m) (sym five)
        (seqcast_valid script exts past v m history whole (subst (λ (q : ℕ). laws.In m (begun_by q v past)) five there))

pub are_submitted : (script : Script) (exts : List Ext) → IsGroupHistory script exts → AreSubmitted script exts
are_submitted script exts history v c there =
    let began : WasBegun (begun v (trace script exts)) c = was_begun v (trace script exts) c there in
    let by : IsBroadcast c.by = callers script exts history (trace script exts) (part_of_itself script exts) v c.by c.message began.there in
    let s : broadcasts.WasSubmitted script exts c.by c.message = was_given script exts history c.by v c.message by began.by in
    record {
      step = s.begins.step;
      there = subst (λ (steps : List HandlerStep). laws.In s.begins.step steps) (sym s.begins.split) (in_middle s.begins.step s.begins.more s.past);
      broadcast = by;
      handler_is = s.begins.handler_is;
      arg = s.arg;
      moment = s.begins.moment;
      message = sym s.message;
    }
