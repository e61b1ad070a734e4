-- The consensus steps of a group history are a history of consensus.
use Rattle.std.proofs.Common.{◌≡◌, ◌≢◌, ◌<◌, ◌⊎◌, ℕ, inl, inr, refl, sym, ap, subst, ◌∙◌, arith, append_assoc, List, [], ◌∷◌, ◌++◌, Bool, true, false, ◌==◌, take, Some, if◌then◌else◌}
use Rattle.std.proofs.lemmas.Bool.Decides.{eqb_tells}
use Rattle.samoa_model.specs.Range.{IsExtOf}
use Rattle.samoa_model.specs.declared.handler.Moment.{Moment}
use Rattle.samoa_model.specs.declared.handler.Outcome.{Outcome}
use Rattle.samoa_model.specs.declared.record.Ext.{Ext}
use Rattle.samoa_model.specs.declared.script.Script.{Script}
use Rattle.samoa_model.specs.declared.ids.EventId.{EventId}
use Rattle.samoa_serial.specs.ConsTable.{letter_at}
use Rattle.samoa_serial.specs.Kinds.{kind_step}
use Rattle.samoa_serial.specs.Rows.{message_at, message_words, word}
use Rattle.samoa_serial.specs.State.{ConsState}
use Rattle.samoa_serial.specs.declared.message.Letter.{Letter}
use Rattle.samoa_serial.specs.declared.message.Message.{Message}
use Rattle.samoa_serial.specs.Lists.{In}
use Rattle.samoa_laws.specs.trace.Trace.{HandlerStep, micro_of, trace}
use Rattle.samoa_laws.specs.trace.Causes.{FollowsIn, IsTrace}
use Rattle.samoa_laws.specs.trace.Group.{IsGroup, IsGroupHistory, event, handler}
use Rattle.samoa_laws.specs.transport.Transport.{IsCalled, IsCast, IsHeard}
use Rattle.samoa_serial.proofs.ListLaws.{each_in, in_middle}
use Rattle.samoa_laws.proofs.trace.Points.{trace-is_trace}
use Rattle.samoa_laws.proofs.transport.Received.{heard, upward}
use Rattle.samoa_laws.proofs.trace.Shapes.{ConsAnnounces, ConsDecides, ConsNothing, ConsSays, ConsTells, cons-step}
use Rattle.samoa_laws.proofs.trace.Steps.{Before, before}
use Rattle.samoa_laws.proofs.trace.Worlds.{group_micro, group_setup, outcome_is}
use Rattle.samoa_laws.proofs.broadcasts.Outcomes.{same_event, same_words}
use Rattle.samoa_laws.specs.consensus.Consensus.{ConsMay, IsConsensus, IsSetUp, NodeStep, announced, announced_by, decided, decided_by, letter_by, letters}
use Rattle.samoa_laws.specs.consensus.AtBoxes.{cons_of, cons_setup, cons_steps, node_step}
use Rattle.samoa_laws.proofs.consensus.Begins.{begins_at}
use Rattle.samoa_laws.proofs.consensus.BoxHistories.{is_step, node_steps-in}
use Rattle.samoa_laws.proofs.trace.Boxes.{in_noted, noted_new}

-- ---- what a step said stands in the lists
pub letter-in : (steps : List (NodeStep ConsState)) (s : NodeStep ConsState) (l : Letter) → In s steps → letter_by s.node s.step.outcome ≡ Some l → In l (letters steps)
letter-in [] s l there is = absurd there
letter-in (t ∷ steps) s l (inl same) is =
    noted_new (letters steps) (letter_by t.node t.step.outcome) true l (ap (λ (u : NodeStep ConsState). letter_by u.node u.step.outcome) (sym same) ∙ is) refl
letter-in (t ∷ steps) s l (inr there) is = in_noted (letters steps) (letter_by t.node t.step.outcome) true l (letter-in steps s l there is)

pub announced-in : (steps : List (NodeStep ConsState)) (s : NodeStep ConsState) (d : ℕ × Message) → In s steps → announced_by s.step.outcome ≡ Some d → In d (announced steps)
announced-in [] s d there is = absurd there
announced-in (t ∷ steps) s d (inl same) is =
    noted_new (announced steps) (announced_by t.step.outcome) true d (ap (λ (u : NodeStep ConsState). announced_by u.step.outcome) (sym same) ∙ is) refl
announced-in (t ∷ steps) s d (inr there) is = in_noted (announced steps) (announced_by t.step.outcome) true d (announced-in steps s d there is)

pub decided-in : (steps : List (NodeStep ConsState)) (s : NodeStep ConsState) (d : ℕ × Message) → In s steps → decided_by s.step.outcome ≡ Some d → In d (decided steps)
decided-in [] s d there is = absurd there
decided-in (t ∷ steps) s d (inl same) is =
    noted_new (decided steps) (decided_by t.step.outcome) true d (ap (λ (u : NodeStep ConsState). decided_by u.step.outcome) (sym same) ∙ is) refl
decided-in (t ∷ steps) s d (inr there) is = in_noted (decided steps) (decided_by t.step.outcome) true d (decided-in steps s d there is)

-- ---- the calls of consensus, by event
pub says : (script : Script) (exts : List Ext) → IsGroup script → (past : List HandlerStep) (x : HandlerStep) → IsTrace script exts past → In x past → micro_of x ≡ 3
    → ConsSays (group_setup script.nodes x.node 3) x.outcome
says script exts group past x trace there micro =
    let b : Before script exts past x = before script exts past x trace there in
    let is : x.outcome ≡ (kind_step (group_micro 3).kind (group_setup script.nodes x.node 3) x.old x.moment).1 =
    outcome_is script exts group b.earlier x b.follows
    ∙ ap (λ (p : ℕ). (kind_step (group_micro p).kind (group_setup script.nodes x.node p) x.old x.moment).1) micro in
    subst (ConsSays (group_setup script.nodes x.node 3)) (sym is) (cons-step (group_setup script.nodes x.node 3) x.old x.moment)

pub differ : (a b : ℕ) → a ≢ b → event a ≡ event b → ⊥
differ a b ne e = ne (ap (λ (x : EventId). x.0) e)

-- a call of `send` is a letter
letter-read : (nodes v from to : ℕ) (words frame : List ℕ) → ConsSays (group_setup nodes v 3) (Outcome.Call (event 1) (to ∷ 2 ∷ words) frame)
    → letter_by from (Outcome.Call (event 1) (to ∷ 2 ∷ words) frame) ≡ Some (letter_at (from ∷ words))
letter-read nodes v from to words frame (ConsNothing d) = absurd d
letter-read nodes v from to words frame (ConsTells other tag b ts m rest is) =
    let told : List ℕ = tag ∷ b.instance ∷ b.round ∷ ts ∷ message_words m in
    let whole : to ∷ 2 ∷ words ≡ other ∷ 2 ∷ told = same_words (event 1) (event 1) (to ∷ 2 ∷ words) (other ∷ 2 ∷ told) frame (take 12 rest) is in
    let same : words ≡ told = cc in
    ap (letter_by from) is ∙ ap (λ (ws : List ℕ). Some (letter_at (from ∷ ws))) (sym same)
letter-read nodes v from to words frame (ConsAnnounces i m is) =
    let e : event 1 ≡ event 8 = same_event (event 1) (event 8) (to ∷ 2 ∷ words) (1 ∷ i ∷ message_words m) frame [] is in
    absurd (differ 1 8 (omega arith) e)
letter-read nodes v from to words frame (ConsDecides i m is) =
    let e : event 1 ≡ event 9 = same_event (event 1) (event 9) (to ∷ 2 ∷ words) (i ∷ message_words m) frame [] is in
    absurd (differ 1 9 (omega arith) e)

-- a call of `rb_cast` is an announcement
record IsAnnouncement (o : Outcome) (arg : List ℕ) : Type 0 where
  instance : ℕ
  message : Message
  words : arg ≡ 1 ∷ instance ∷ message_words message
  read : announced_by o ≡ Some (instance, message)

announcement-read : (nodes v : ℕ) (arg frame : List ℕ) → ConsSays (group_setup nodes v 3) (Outcome.Call (event 8) arg frame) → IsAnnouncement (Outcome.Call (event 8) arg frame) arg
announcement-read nodes v arg frame (ConsNothing d) = absurd d
announcement-read nodes v arg frame (ConsTells to tag b ts m rest is) =
    absurd (differ 8 1 (omega arith) (same_event (event 8) (event 1) arg (to ∷ 2 ∷ tag ∷ b.instance ∷ b.round ∷ ts ∷ message_words m) frame (take 12 rest) is))
announcement-read nodes v arg frame (ConsAnnounces i m is) =
    record { instance = i; message = m; words = same_words (event 8) (event 8) arg (1 ∷ i ∷ message_words m) frame [] is; read = ap announced_by is }
announcement-read nodes v arg frame (ConsDecides i m is) = absurd (differ 8 9 (omega arith) (same_event (event 8) (event 9) arg (i ∷ message_words m) frame [] is))

-- a call of `decided` is a decision
pub decision-read : (nodes v : ℕ) (arg frame : List ℕ) → ConsSays (group_setup nodes v 3) (Outcome.Call (event 9) arg frame)
    → decided_by (Outcome.Call (event 9) arg frame) ≡ Some (word arg 0, message_at arg 1)
decision-read nodes v arg frame (ConsNothing d) = absurd d
decision-read nodes v arg frame (ConsTells to tag b ts m rest is) =
    absurd (differ 9 1 (omega arith) (same_event (event 9) (event 1) arg (to ∷ 2 ∷ tag ∷ b.instance ∷ b.round ∷ ts ∷ message_words m) frame (take 12 rest) is))
decision-read nodes v arg frame (ConsAnnounces i m is) = absurd (differ 9 8 (omega arith) (same_event (event 9) (event 8) arg (1 ∷ i ∷ message_words m) frame [] is))
decision-read nodes v arg frame (ConsDecides i m is) =
    ap decided_by is ∙ ap (λ (ws : List ℕ). Some (word ws 0, message_at ws 1)) (sym (same_words (event 9) (event 9) arg (i ∷ message_words m) frame [] is))

-- ---- what comes in
told_before : (script : Script) (exts : List Ext) → IsGroup script → (past : List HandlerStep) → IsTrace script exts past → (node : ℕ) (arg : List ℕ)
    → IsHeard script past 2 node arg → In (letter_at arg) (letters (cons_steps past))
told_before script exts group past trace node arg h =
    let x : HandlerStep = h.told.step in
    let said : ConsSays (group_setup script.nodes x.node 3) (Outcome.Call (event 1) (h.told.to ∷ 2 ∷ h.words) h.told.frame) =
    subst (ConsSays (group_setup script.nodes x.node 3)) h.told.outcome (says script exts group past x trace h.told.there h.told.micro) in
    let read : letter_by x.node x.outcome ≡ Some (letter_at (x.node ∷ h.words)) =
    ap (letter_by x.node) h.told.outcome ∙ letter-read script.nodes x.node x.node h.told.to h.words h.told.frame said in
    let is : x.node ∷ h.words ≡ arg = ap (λ (v : ℕ). v ∷ h.words) h.told.sender ∙ sym h.is in
    letter-in (cons_steps past) (node_step cons_of x) (letter_at arg) (node_steps-in 3 cons_of past x h.told.there h.told.micro)
    (read ∙ ap (λ (ws : List ℕ). Some (letter_at ws)) is)

announced_before : (script : Script) (exts : List Ext) → IsGroup script → (past : List HandlerStep) → IsTrace script exts past → (arg : List ℕ) → IsCast past arg → word arg 2 ≡ 1
    → In (word arg 3, message_at arg 4) (announced (cons_steps past))
announced_before script exts group past trace arg c tag = go called.by
  where
    called : IsCalled past c.cast.step.node c.cast.arg
    called = c.cast.called

    is : arg ≡ c.origin ∷ c.number ∷ take 8 c.cast.arg
    is = c.is ∙ ap (λ (ws : List ℕ). c.origin ∷ c.number ∷ ws) (sym c.cast.first)

    first : (ws : List ℕ) → word (take 8 ws) 0 ≡ word ws 0
    first [] = refl
    first (w ∷ ws) = refl

    tag_is : word c.cast.arg 0 ≡ 1
    tag_is = sym (first c.cast.arg) ∙ (sym (ap (λ (ws : List ℕ). word ws 2) is) ∙ tag)

    go : ((micro_of called.step ≡ 3) × (word c.cast.arg 0 ≡ 1)) ⊎ ((micro_of called.step ≡ 4) × (word c.cast.arg 0 ≡ 0)) → In (word arg 3, message_at arg 4) (announced (cons_steps past))
    go (inr other) = absurd (let e : word c.cast.arg 0 ≡ 0 = other.1 in omega (arith, e, tag_is))
    go (inl by) =
        let x : HandlerStep = called.step in
        let a : IsAnnouncement (Outcome.Call (event 8) c.cast.arg called.frame) c.cast.arg =
        announcement-read script.nodes x.node c.cast.arg called.frame
        (subst (ConsSays (group_setup script.nodes x.node 3)) called.outcome (says script exts group past x trace called.there by.0)) in
        let whole : arg ≡ c.origin ∷ c.number ∷ 1 ∷ a.instance ∷ message_words a.message =
        is ∙ ap (λ (ws : List ℕ). c.origin ∷ c.number ∷ take 8 ws) a.words in
        announced-in (cons_steps past) (node_step cons_of x) (word arg 3, message_at arg 4) (node_steps-in 3 cons_of past x called.there by.0)
        (ap announced_by called.outcome ∙ (a.read ∙ ap (λ (ws : List ℕ). Some (word ws 3, message_at ws 4)) (sym whole)))

-- ---- the history
node_small : (script : Script) (exts : List Ext) → IsGroupHistory script exts → (past : List HandlerStep) (x : HandlerStep) → FollowsIn script exts past x → x.node < script.nodes
node_small script exts history past x f =
    let known : IsExtOf script f.ext = each_in (IsExtOf script) exts f.ext history.known (subst (λ (xs : List Ext). In f.ext xs) (sym f.admitted) (in_middle f.ext f.before f.later)) in
    subst (λ (v : ℕ). v < script.nodes) (sym f.follows.node) known.node

may : (script : Script) (exts : List Ext) → IsGroupHistory script exts → (more : List HandlerStep) (x : HandlerStep) (past : List HandlerStep) → trace script exts ≡ more ++ x ∷ past
    → IsTrace script exts past → FollowsIn script exts past x → micro_of x ≡ 3 → ConsMay (cons_steps past) x.moment
may script exts history more x past split trace f micro = go x.moment refl
  where
    begun : (handler i : ℕ) (arg : List ℕ) → handler ≡ i → x.moment ≡ Moment.Begin handler arg → x.moment ≡ Moment.Begin i arg
    begun handler i arg e is = is ∙ ap (λ (h : ℕ). Moment.Begin h arg) e

    go : (m : Moment) → x.moment ≡ m → ConsMay (cons_steps past) m
    go (Moment.Begin handler' arg) is = (
      λ e. told_before script exts history.group past trace x.node arg
          (heard script exts history past 2 x.node arg (omega arith) (begins_at script exts more x past split f 3 1 arg micro (begun handler' 1 arg e is))),
      λ e tag. announced_before script exts history.group past trace arg
          (upward script exts history past x.node (handler 3 2) arg (inl refl) (begins_at script exts more x past split f 3 2 arg micro (begun handler' 2 arg e is))) tag,
    )
    go (Moment.Resume handler' frame reply) is = tt

pub is_consensus : (script : Script) (exts : List Ext) → IsGroupHistory script exts → (more past : List HandlerStep) → trace script exts ≡ more ++ past → IsTrace script exts past
    → IsConsensus script.nodes (cons_setup script) (cons_steps past)
is_consensus script exts history more [] split trace = tt
is_consensus script exts history more (x ∷ past) split trace =
    go (eqb_tells (micro_of x) 3) (is_consensus script exts history (more ++ x ∷ []) past (split ∙ sym (append_assoc more (x ∷ []) past)) trace.1)
  where
    go : ((micro_of x == 3) ≡ true) × (micro_of x ≡ 3) ⊎ ((micro_of x == 3) ≡ false) × (micro_of x ≢ 3)
        → IsConsensus script.nodes (cons_setup script) (cons_steps past) → IsConsensus script.nodes (cons_setup script) (cons_steps (x ∷ past))
    go (inl at) ih =
        subst (λ (b : Bool). IsConsensus script.nodes (cons_setup script) (if b then node_step cons_of x ∷ cons_steps past else cons_steps past)) (sym at.0) (
          record {
            node = node_small script exts history past x trace.0;
            step = is_step script exts history.group past trace.1 x trace.0 at.1;
            comes = may script exts history more x past split trace.1 trace.0 at.1;
          },
          ih,
        )
    go (inr away) ih =
        subst (λ (b : Bool). IsConsensus script.nodes (cons_setup script) (if b then node_step cons_of x ∷ cons_steps past else cons_steps past)) (sym away.0) ih

-- of the whole trace
pub cons_history : (script : Script) (exts : List Ext) → IsGroupHistory script exts → IsConsensus script.nodes (cons_setup script) (cons_steps (trace script exts))
cons_history script exts history = is_consensus script exts history [] (trace script exts) refl (trace-is_trace script exts)

pub set_up : (script : Script) → IsSetUp script.nodes (cons_setup script)
set_up script v lt = (refl, refl)
