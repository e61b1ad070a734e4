-- A computation whose root call is accepted has a step.
use Rattle.std.proofs.Common.{◌≡◌, ◌≢◌, ℕ, suc, ◌+◌, refl, sym, ap, ◌∙◌, arith, List, [], ◌∷◌, ◌++◌, length, None}
use Rattle.samoa_model.specs.Allowed.{Attempt}
use Rattle.samoa_model.specs.Scripts.{decl_of, root_of}
use Rattle.samoa_model.specs.declared.ids.EventId.{EventId}
use Rattle.samoa_model.specs.declared.ids.HandlerId.{HandlerId}
use Rattle.samoa_model.specs.declared.record.Ext.{Ext}
use Rattle.samoa_model.specs.declared.script.Script.{Script}
use Rattle.samoa_serial.specs.Alone.{Machine, after, opening}
use Rattle.samoa_serial.specs.Calls.{Computation, attempted, replied}
use Rattle.samoa_serial.specs.SerialRun.{ran_of, rules_of, serial}
use Rattle.samoa_serial.specs.Whole.{event_whole}
use Rattle.samoa_serial.specs.World.{Rules, States, Turn}
use Rattle.samoa_serial.proofs.Refine.{after-turns_of_event, ended}
use Rattle.samoa_laws.specs.trace.Trace.{HandlerStep, first_walk, trace}
use Rattle.samoa_laws.proofs.trace.Counts.{walk-length}
use Rattle.samoa_laws.proofs.trace.Points.{Adds, trace-append}

some_turns : (rules : Rules) (budget : ℕ) (states : States) (event : EventId) (arg : List ℕ) (h : HandlerId) (hs : List HandlerId)
    → rules.attempt [] None event ≡ Attempt.Accepts h hs → (event_whole rules budget states event arg).world.turns ≢ []
some_turns rules budget states event arg h hs accepts none = absurd (clash first)
  where
    o : Machine
    o = opening rules budget states event arg

    start : o ≡ ended (event_whole rules budget states event arg)
    start = ap (λ (ts : List Turn). after rules o (length ts)) (sym none) ∙ after-turns_of_event rules budget states event arg

    comp : Attempt → Computation
    comp a =
        attempted (record { units = budget; waiting = []; entries = [] }) None event arg None []
        (λ books reply. replied rules.attempt books None [] reply) a

    first : (comp (Attempt.Accepts h hs)).active ≡ []
    first = ap (λ (a : Attempt). (comp a).active) (sym accepts) ∙ ap (λ (m : Machine). m.comp.active) start

    clash : (comp (Attempt.Accepts h hs)).active ≡ [] → ⊥
    clash e = cc

-- the steps that the computation adds
pub adds_some : (script : Script) (exts before : List Ext) (ext : Ext) (h : HandlerId) (hs : List HandlerId) → (a : Adds script exts before ext)
    → (rules_of script before ext).attempt [] None (root_of script ext.cause) ≡ Attempt.Accepts h hs → a.own ≢ []
adds_some script exts before ext h hs a accepts none =
    some_turns (rules_of script before ext) (decl_of script ext).budget ((serial script before).states ext.node.0) (root_of script ext.cause) ext.args h hs accepts (empty turns refl)
  where
    turns : List Turn
    turns = (ran_of script before ((serial script before).states ext.node.0) ext).world.turns

    no_more : length (trace script before) ≡ length (trace script before) + length turns
    no_more =
        ap (λ (own : List HandlerStep). length (own ++ trace script before)) (sym none)
        ∙ (ap (λ (past : List HandlerStep). length past) (sym a.over ∙ trace-append script before ext)
        ∙ walk-length (length before) ext.node.0 (first_walk script (serial script before) (trace script before) ext) turns)

    empty : (ts : List Turn) → turns ≡ ts → turns ≡ []
    empty [] e = e
    empty (t ∷ ts) e =
        let len : length turns ≡ suc (length ts) = ap (λ (us : List Turn). length us) e in
        absurd (omega (arith, no_more, len))
