-- Decisions agree, at all nodes and after any part of a group history.
use Rattle.std.proofs.Common.{◌≡◌, ◌≢◌, ◌⊎◌, ℕ, inl, inr, refl, sym, ap, subst, ◌∙◌, arith, append_assoc, List, [], ◌∷◌, ◌++◌, Bool, true, false, Some, ◌==◌, if◌then◌else◌}
use Rattle.std.proofs.lemmas.Bool.Decides.{eqb_tells}
use Rattle.samoa_model.specs.declared.handler.Moment.{Moment}
use Rattle.samoa_model.specs.declared.handler.Outcome.{Outcome}
use Rattle.samoa_model.specs.declared.record.Ext.{Ext}
use Rattle.samoa_model.specs.declared.script.Script.{Script}
use Rattle.samoa_serial.specs.Rows.{message_at, message_of, word}
use Rattle.samoa_serial.specs.State.{ConsState, OfCons}
use Rattle.samoa_serial.specs.declared.message.Message.{Message}
use Rattle.samoa_laws.specs.transport.Callers.{WasCalled}
use Rattle.samoa_serial.specs.Lists.{In}
use Rattle.samoa_laws.specs.trace.Trace.{HandlerStep, micro_of, trace}
use Rattle.samoa_laws.specs.trace.Causes.{IsTrace}
use Rattle.samoa_laws.specs.trace.Group.{IsGroupHistory, event, handler}
use Rattle.samoa_laws.specs.transport.Transport.{BeginsAt}
use Rattle.samoa_laws.proofs.transport.Callers.{begins_called}
use Rattle.samoa_laws.proofs.trace.Entries.{Extends, trace-extends}
use Rattle.samoa_laws.proofs.trace.Points.{Point, point_at, trace-is_trace}
use Rattle.samoa_laws.proofs.trace.Shapes.{ConsSays}
use Rattle.samoa_laws.proofs.trace.Steps.{trace-rest}
use Rattle.samoa_laws.proofs.trace.Worlds.{group_setup}
use Rattle.samoa_laws.specs.trace.Boxes.{left_by}
use Rattle.samoa_laws.specs.lists.Lists.{Begins}
use Rattle.samoa_laws.proofs.broadcasts.Maps.{message_of_in}
use Rattle.samoa_laws.specs.consensus.Consensus.{IsConsensus, NodeStep, box_of, cons_opening, decided, decided_by}
use Rattle.samoa_laws.specs.consensus.Consensus as consensus
use Rattle.samoa_laws.proofs.consensus.ConsHistories.{is_decision, validity}
use Rattle.samoa_laws.proofs.consensus.Passed.{passed_on}
use Rattle.samoa_laws.specs.consensus.AtBoxes.{cons_of, cons_setup, cons_steps, node_step}
use Rattle.samoa_laws.specs.consensus.Decisions.{HasDecided, WasProposed, decision}
use Rattle.samoa_laws.proofs.consensus.Begins.{begins_at}
use Rattle.samoa_laws.proofs.consensus.BoxHistories.{node_steps-append, node_steps-in, state_is}
use Rattle.samoa_laws.proofs.consensus.ConsTrace.{cons_history, decided-in, decision-read, is_consensus, says, set_up}
use Rattle.samoa_laws.proofs.trace.Boxes.{in_noted}

-- what was decided stays decided
decided-more : (more steps : List (NodeStep ConsState)) (d : ℕ × Message) → In d (decided steps) → In d (decided (more ++ steps))
decided-more [] steps d there = there
decided-more (s ∷ more) steps d there = in_noted (decided (more ++ steps)) (decided_by s.step.outcome) true d (decided-more more steps d there)

decided-later : (more past : List HandlerStep) (d : ℕ × Message) → In d (decided (cons_steps past)) → In d (decided (cons_steps (more ++ past)))
decided-later more past d there =
    subst (λ (steps : List (NodeStep ConsState)). In d (decided steps)) (sym (node_steps-append 3 cons_of more past)) (decided-more (cons_steps more) (cons_steps past) d there)

-- what was decided is the decision
pub decision_is : (script : Script) (exts : List Ext) → IsGroupHistory script exts → (i : ℕ) (m : Message) → In (i, m) (decided (cons_steps (trace script exts)))
    → decision script exts i ≡ Some m
decision_is script exts history i m there =
    is_decision script.nodes (cons_setup script) (cons_steps (trace script exts)) (set_up script) (cons_history script exts history) i m there

-- so is what a box has decided after a part of the history
box_decided : (script : Script) (exts : List Ext) → IsGroupHistory script exts → (before : List Ext) → Begins before exts → (v i : ℕ) (m : Message) → HasDecided script before v i m
    → In (i, m) (decided (cons_steps (trace script exts)))
box_decided script exts history before part v i m d =
    let p : Point script exts before = point_at script exts before part.rest part.is in
    let x : Extends script before part.rest = trace-extends script before part.rest in
    let whole : trace script exts ≡ x.more ++ trace script before = ap (λ (xs : List Ext). trace script xs) part.is ∙ x.is in
    let left : ConsState = left_by cons_opening (box_of (cons_steps (trace script before)) v) in
    let found : OfCons d.state ≡ OfCons left = sym d.found ∙ (p.found v 3 ∙ state_is script exts history.group (trace script before) p.fact v) in
    let same : d.state ≡ left = cc in
    let there : In (i, m) (decided (cons_steps (trace script before))) =
    passed_on script.nodes (cons_setup script) (cons_steps (trace script before)) (is_consensus script exts history x.more (trace script before) whole p.fact) v i m
    (ap (λ (s : ConsState). message_of s.decisions i) (sym same) ∙ d.decision) in
    subst (λ (past : List HandlerStep). In (i, m) (decided (cons_steps past))) (sym whole) (decided-later x.more (trace script before) (i, m) there)

pub standing : (script : Script) (exts : List Ext) → IsGroupHistory script exts → (before : List Ext) → Begins before exts → (v i : ℕ) (m : Message) → HasDecided script before v i m
    → decision script exts i ≡ Some m
standing script exts history before part v i m d = decision_is script exts history i m (box_decided script exts history before part v i m d)

same_some : (m other : Message) → Some m ≡ Some other → m ≡ other
same_some m other e = cc

pub agree : (script : Script) (exts before other : List Ext) → IsGroupHistory script exts → Begins before exts → Begins other exts
    → (v u i : ℕ) (m n : Message) → HasDecided script before v i m → HasDecided script other u i n → m ≡ n
agree script exts before other history part part' v u i m n d d' =
    same_some m n (sym (standing script exts history before part v i m d) ∙ standing script exts history other part' u i n d')

-- ---- `decided` begins with decisions
pub given-past : (script : Script) (exts : List Ext) → IsGroupHistory script exts → (past : List HandlerStep) (node : ℕ) (arg : List ℕ)
    → BeginsAt script exts past node (handler 4 2) arg → In (word arg 0, message_at arg 1) (decided (cons_steps past))
given-past script exts history past node arg b = go c.by
  where
    c : WasCalled script exts past node (handler 4 2) arg
    c = begins_called script exts history past node (handler 4 2) arg (omega arith) (omega arith) b

    t : IsTrace script exts (b.step ∷ past)
    t = trace-rest script exts b.more (b.step ∷ past) (subst (IsTrace script exts) b.split (trace-is_trace script exts))

    go : In (micro_of c.caller) (3 ∷ []) → In (word arg 0, message_at arg 1) (decided (cons_steps past))
    go (inl micro) =
        let said : ConsSays (group_setup script.nodes c.caller.node 3) (Outcome.Call (event 9) arg c.frame) =
        subst (ConsSays (group_setup script.nodes c.caller.node 3)) c.outcome (says script exts history.group past c.caller t.1 c.there micro) in
        decided-in (cons_steps past) (node_step cons_of c.caller) (word arg 0, message_at arg 1) (node_steps-in 3 cons_of past c.caller c.there micro)
        (ap decided_by c.outcome ∙ decision-read script.nodes c.caller.node arg c.frame said)
    go (inr none) = absurd none

pub given : (script : Script) (exts : List Ext) → IsGroupHistory script exts → (past : List HandlerStep) (node : ℕ) (arg : List ℕ)
    → BeginsAt script exts past node (handler 4 2) arg → In (word arg 0, message_at arg 1) (decided (cons_steps (trace script exts)))
given script exts history past node arg b =
    subst (λ (steps : List HandlerStep). In (word arg 0, message_at arg 1) (decided (cons_steps steps))) (sym b.split)
    (subst (λ (steps : List HandlerStep). In (word arg 0, message_at arg 1) (decided (cons_steps steps))) (append_assoc b.more (b.step ∷ []) past)
    (decided-later (b.more ++ b.step ∷ []) past (word arg 0, message_at arg 1) (given-past script exts history past node arg b)))

pub given_decision : (script : Script) (exts : List Ext) → IsGroupHistory script exts → (past : List HandlerStep) (node : ℕ) (arg : List ℕ)
    → BeginsAt script exts past node (handler 4 2) arg → decision script exts (word arg 0) ≡ Some (message_at arg 1)
given_decision script exts history past node arg b = decision_is script exts history (word arg 0) (message_at arg 1) (given script exts history past node arg b)

-- ---- what was decided was proposed
-- a step of a microprotocol stands in the trace
record Stands (past : List HandlerStep) (s : NodeStep ConsState) : Type 0 where
  step : HandlerStep
  more : List HandlerStep
  earlier : List HandlerStep
  split : past ≡ more ++ step ∷ earlier
  micro : micro_of step ≡ 3
  is : s ≡ node_step cons_of step

stands : (past : List HandlerStep) (s : NodeStep ConsState) → In s (cons_steps past) → Stands past s
stands [] s there = absurd there
stands (x ∷ past) s there = go (eqb_tells (micro_of x) 3) (λ i. stands past s i)
  where
    later : Stands past s → Stands (x ∷ past) s
    later t = record { step = t.step; more = x ∷ t.more; earlier = t.earlier; split = ap (λ (ys : List HandlerStep). x ∷ ys) t.split; micro = t.micro; is = t.is }

    cases : (b : Bool) → (micro_of x == 3) ≡ b → In s (if b then node_step cons_of x ∷ cons_steps past else cons_steps past)
    cases b e = subst (λ (c : Bool). In s (if c then node_step cons_of x ∷ cons_steps past else cons_steps past)) e there

    go : ((micro_of x == 3) ≡ true) × (micro_of x ≡ 3) ⊎ ((micro_of x == 3) ≡ false) × (micro_of x ≢ 3) → (In s (cons_steps past) → Stands past s) → Stands (x ∷ past) s
    go (inl at) ih = one (cases true at.0)
      where
        one : (s ≡ node_step cons_of x) ⊎ In s (cons_steps past) → Stands (x ∷ past) s
        one (inl e) = record { step = x; more = []; earlier = past; split = refl; micro = at.1; is = e }
        one (inr i) = later (ih i)
    go (inr away) ih = later (ih (cases false away.0))

pub proposed_in_trace : (script : Script) (exts : List Ext) (i : ℕ) (m : Message) → consensus.WasProposed (cons_steps (trace script exts)) i m → WasProposed script exts i m
proposed_in_trace script exts i m p =
    let t : Stands (trace script exts) p.0 = stands (trace script exts) p.0 p.2 in
    let traced : IsTrace script exts (t.step ∷ t.earlier) = trace-rest script exts t.more (t.step ∷ t.earlier) (subst (IsTrace script exts) t.split (trace-is_trace script exts)) in
    let moment : t.step.moment ≡ Moment.Begin 0 p.1 = ap (λ (s : NodeStep ConsState). s.step.moment) (sym t.is) ∙ p.3 in
    record {
      node = t.step.node;
      arg = p.1;
      past = t.earlier;
      begins = begins_at script exts t.more t.step t.earlier t.split traced.0 3 0 p.1 t.micro moment;
      instance = p.4;
      message = p.5;
    }

pub decided_was_proposed : (script : Script) (exts : List Ext) → IsGroupHistory script exts → (i : ℕ) (m : Message) → In (i, m) (decided (cons_steps (trace script exts)))
    → WasProposed script exts i m
decided_was_proposed script exts history i m there =
    proposed_in_trace script exts i m
    (validity script.nodes (cons_setup script) (cons_steps (trace script exts)) (set_up script) (cons_history script exts history) i m there)

pub valid : (script : Script) (exts : List Ext) → IsGroupHistory script exts → (i : ℕ) (m : Message) → decision script exts i ≡ Some m → WasProposed script exts i m
valid script exts history i m is = decided_was_proposed script exts history i m (message_of_in (decided (cons_steps (trace script exts))) i m is)
