-- The entries of a computation and its steps: what was sent, delivered and asked for.
use Rattle.std.proofs.Common.{◌≡◌, ◌⊎◌, ℕ, inl, inr, refl, sym, ap, subst, ◌∙◌, append_assoc, append-nil, List, [], ◌∷◌, ◌++◌, length, Bool, true, false, if◌then◌else◌, ◌==◌, arith}
use Rattle.std.proofs.lemmas.Grind.{flat_map-append}
use Rattle.std.specs.List.{flat_map}
use Rattle.samoa_model.specs.declared.ids.EventId.{EventId}
use Rattle.samoa_model.specs.declared.handler.Dest.{Dest}
use Rattle.samoa_model.specs.declared.handler.Outcome.{Outcome}
use Rattle.samoa_model.specs.declared.record.Entry.{Entry}
use Rattle.samoa_model.specs.declared.record.Ext.{Ext}
use Rattle.samoa_model.specs.declared.script.Script.{Script}
use Rattle.samoa_serial.specs.Whole.{Ran}
use Rattle.samoa_serial.specs.SerialRun.{ran_of, serial}
use Rattle.samoa_serial.proofs.SerialLaws.{comps-append, length-comps}
use Rattle.samoa_serial.specs.Lists.{Each, In}
use Rattle.samoa_laws.specs.trace.Trace.{HandlerStep, given, given_at, is_output, output_of, outputs, outputs_at, trace}
use Rattle.samoa_serial.proofs.ListLaws.{each_in, each_weaker, in_append, in_left, in_right}
use Rattle.samoa_laws.proofs.trace.Outputs.{given-append}
use Rattle.samoa_laws.proofs.trace.Points.{Adds, adds_at}

in_outputs : (e : Entry) (es : List Entry) → is_output e ≡ true → In e es → In e (outputs es)
in_outputs e [] is there = absurd there
in_outputs e (x ∷ es) is (inl same) =
    subst (λ (b : Bool). In e (if b then x ∷ outputs es else outputs es)) (sym (sym (ap is_output same) ∙ is)) (inl same)
in_outputs e (x ∷ es) is (inr there) = go (is_output x) (in_outputs e es is there)
  where
    go : (b : Bool) → In e (outputs es) → In e (if b then x ∷ outputs es else outputs es)
    go true i = inr i
    go false i = i

-- a step of these gave the entry
pub record GaveIt (e : Entry) (steps : List HandlerStep) : Type 0 where
  pub step : HandlerStep
  pub there : In step steps
  pub effective : step.effective ≡ true
  pub output : In e (output_of step.call step.outcome)

in_given : (e : Entry) (steps : List HandlerStep) → In e (given steps) → GaveIt e steps
in_given e [] there = absurd there
in_given e (x ∷ past) there = go (λ i. in_given e past i) (in_append e (given past) _ there)
  where
    here : (b : Bool) → x.effective ≡ b → In e (if b then output_of x.call x.outcome else []) → GaveIt e (x ∷ past)
    here true is i = record { step = x; there = inl refl; effective = is; output = i }
    here false is i = absurd i

    go : (In e (given past) → GaveIt e past) → In e (given past) ⊎ In e (if x.effective then output_of x.call x.outcome else []) → GaveIt e (x ∷ past)
    go ih (inl i) = let g = ih i in record { step = g.step; there = inr g.there; effective = g.effective; output = g.output }
    go ih (inr i) = here x.effective refl i

-- one of these computations is that of its admission
pub record CompOf (script : Script) (exts : List Ext) (ran : Ran) : Type 0 where
  pub before : List Ext
  pub ext : Ext
  pub later : List Ext
  pub admitted : exts ≡ before ++ ext ∷ later
  pub is : ran ≡ ran_of script before ((serial script before).states ext.node.0) ext

comp_more : (script : Script) (exts more : List Ext) (ran : Ran) → CompOf script exts ran → CompOf script (exts ++ more) ran
comp_more script exts more ran c = record {
  before = c.before;
  ext = c.ext;
  later = c.later ++ more;
  admitted = ap (λ (xs : List Ext). xs ++ more) c.admitted ∙ append_assoc c.before (c.ext ∷ c.later) more;
  is = c.is;
}

pub comp_of : (script : Script) (exts : List Ext) (ran : Ran) → In ran (serial script exts).comps → CompOf script exts ran
comp_of script exts ran there = go [] exts (λ i. absurd i) there
  where
    one : (before : List Ext) (ext : Ext) → (In ran (serial script before).comps → CompOf script before ran)
        → In ran (serial script before).comps ⊎ In ran (ran_of script before ((serial script before).states ext.node.0) ext ∷ []) → CompOf script (before ++ ext ∷ []) ran
    one before ext ih (inl i) = comp_more script before (ext ∷ []) ran (ih i)
    one before ext ih (inr (inl e)) = record { before = before; ext = ext; later = []; admitted = refl; is = e }
    one before ext ih (inr (inr out)) = absurd out

    go : (before later : List Ext) → (In ran (serial script before).comps → CompOf script before ran) → In ran (serial script (before ++ later)).comps → CompOf script (before ++ later) ran
    go before [] ih i =
        subst (λ (xs : List Ext). CompOf script xs ran) (sym (append-nil before)) (ih (subst (λ (xs : List Ext). In ran (serial script xs).comps) (append-nil before) i))
    go before (ext ∷ later) ih i =
        subst (λ (xs : List Ext). CompOf script xs ran) (append_assoc before (ext ∷ []) later)
        (go (before ++ ext ∷ []) later
        (λ j. one before ext ih (in_append ran (serial script before).comps _ (subst (λ (rans : List Ran). In ran rans) (comps-append script before ext) j)))
        (subst (λ (xs : List Ext). In ran (serial script xs).comps) (sym (append_assoc before (ext ∷ []) later)) i))

-- the trace of the first computations is a part of the trace
pub record Extends (script : Script) (before later : List Ext) : Type 0 where
  pub more : List HandlerStep
  pub is : trace script (before ++ later) ≡ more ++ trace script before

pub trace-extends : (script : Script) (before later : List Ext) → Extends script before later
trace-extends script before [] = record { more = []; is = ap (λ (xs : List Ext). trace script xs) (append-nil before) }
trace-extends script before (ext ∷ later) =
    let one : Adds script (before ++ ext ∷ []) before ext = adds_at script (before ++ ext ∷ []) before ext [] refl in
    let rest : Extends script (before ++ ext ∷ []) later = trace-extends script (before ++ ext ∷ []) later in
    record {
      more = rest.more ++ one.own;
      is = ap (λ (xs : List Ext). trace script xs) (sym (append_assoc before (ext ∷ []) later))
          ∙ (rest.is ∙ (ap (λ (past : List HandlerStep). rest.more ++ past) one.over ∙ sym (append_assoc rest.more one.own (trace script before))));
    }

-- what was sent, delivered or asked for in one of these computations was given by a step of it
pub record Given (script : Script) (exts : List Ext) (ran : Ran) (e : Entry) : Type 0 where
  pub comp : CompOf script exts ran
  pub step : HandlerStep
  pub there : In step (trace script exts)
  pub in_comp : step.comp ≡ length comp.before
  pub effective : step.effective ≡ true
  pub output : In e (output_of step.call step.outcome)

pub output_given : (script : Script) (exts : List Ext) (ran : Ran) (e : Entry) → In ran (serial script exts).comps → is_output e ≡ true → In e ran.world.entries
    → Given script exts ran e
output_given script exts ran e served is there =
    let c : CompOf script exts ran = comp_of script exts ran served in
    let a : Adds script exts c.before c.ext = adds_at script exts c.before c.ext c.later c.admitted in
    let here : In e (outputs ran.world.entries) = in_outputs e ran.world.entries is there in
    let given_here : In e (given a.own) = subst (λ (es : List Entry). In e es) (ap (λ (r : Ran). outputs r.world.entries) c.is ∙ a.outputs_are) here in
    let g : GaveIt e a.own = in_given e a.own given_here in
    let x : Extends script (c.before ++ c.ext ∷ []) c.later = trace-extends script (c.before ++ c.ext ∷ []) c.later in
    let whole : trace script exts ≡ x.more ++ (a.own ++ trace script c.before) =
    ap (λ (xs : List Ext). trace script xs) (c.admitted ∙ sym (append_assoc c.before (c.ext ∷ []) c.later))
    ∙ (x.is ∙ ap (λ (past : List HandlerStep). x.more ++ past) a.over) in
    record {
      comp = c;
      step = g.step;
      there = subst (λ (past : List HandlerStep). In g.step past) (sym whole)
          (in_right g.step x.more (a.own ++ trace script c.before) (in_left g.step a.own (trace script c.before) g.there));
      in_comp = (each_in _ a.own g.step a.own_steps g.there).0;
      effective = g.effective;
      output = g.output;
    }

-- a message that was sent
pub record SentBy (script : Script) (exts : List Ext) (to : Dest) (event : EventId) (arg : List ℕ) : Type 0 where
  pub step : HandlerStep
  pub there : In step (trace script exts)
  pub effective : step.effective ≡ true
  pub frame : List ℕ
  pub outcome : step.outcome ≡ Outcome.Send to event arg frame

same_send : (to to' : Dest) (event event' : EventId) (arg arg' frame : List ℕ) → to ≡ to' → event ≡ event' → arg ≡ arg'
    → Outcome.Send to event arg frame ≡ Outcome.Send to' event' arg' frame
same_send to to' event event' arg arg' frame a b c = rw (a, b, c) refl

pub sent_by : (script : Script) (exts : List Ext) (ran : Ran) (call : ℕ) (to : Dest) (event : EventId) (arg : List ℕ)
    → In ran (serial script exts).comps → In (Entry.Sent call to event arg) ran.world.entries → SentBy script exts to event arg
sent_by script exts ran call to event arg served there = go g.step.outcome refl
  where
    g : Given script exts ran (Entry.Sent call to event arg)
    g = output_given script exts ran (Entry.Sent call to event arg) served refl there

    sent : Entry
    sent = Entry.Sent call to event arg

    out : (o : Outcome) → g.step.outcome ≡ o → In sent (output_of g.step.call o)
    out o e = subst (λ (p : Outcome). In sent (output_of g.step.call p)) e g.output

    go : (o : Outcome) → g.step.outcome ≡ o → SentBy script exts to event arg
    go (Outcome.Send to' event' arg' frame) e = one (out (Outcome.Send to' event' arg' frame) e)
      where
        one : In sent (Entry.Sent g.step.call.number to' event' arg' ∷ []) → SentBy script exts to event arg
        one (inl same) =
            let both : Entry.Sent call to event arg ≡ Entry.Sent g.step.call.number to' event' arg' = same in
            let to_is : to ≡ to' = cc in
            let event_is : event ≡ event' = cc in
            let arg_is : arg ≡ arg' = cc in
            record {
              step = g.step;
              there = g.there;
              effective = g.effective;
              frame = frame;
              outcome = e ∙ sym (same_send to to' event event' arg arg' frame to_is event_is arg_is);
            }
        one (inr more) = absurd more
    go (Outcome.Done reply) e = absurd (out (Outcome.Done reply) e)
    go (Outcome.Call event' arg' frame) e = absurd (out (Outcome.Call event' arg' frame) e)
    go (Outcome.Later event' arg' frame) e = absurd (out (Outcome.Later event' arg' frame) e)
    go (Outcome.Deliver arg' frame) e = no_delivery (out (Outcome.Deliver arg' frame) e)
      where
        no_delivery : In sent (Entry.Delivered g.step.call.number g.step.call.handler.micro arg' ∷ []) → SentBy script exts to event arg
        no_delivery (inl same) = let both : Entry.Sent call to event arg ≡ Entry.Delivered g.step.call.number g.step.call.handler.micro arg' = same in cc
        no_delivery (inr more) = absurd more
    go (Outcome.Change change arg' frame) e = no_change (out (Outcome.Change change arg' frame) e)
      where
        no_change : In sent (Entry.Asked g.step.call.number change arg' ∷ []) → SentBy script exts to event arg
        no_change (inl same) = let both : Entry.Sent call to event arg ≡ Entry.Asked g.step.call.number change arg' = same in cc
        no_change (inr more) = absurd more

-- the outputs of all computations are those of the steps
pub all_outputs : (script : Script) (exts : List Ext) → flat_map (λ (ran : Ran). outputs ran.world.entries) (serial script exts).comps ≡ given (trace script exts)
all_outputs script exts = go [] exts refl
  where
    go : (before later : List Ext) → flat_map (λ (ran : Ran). outputs ran.world.entries) (serial script before).comps ≡ given (trace script before)
        → flat_map (λ (ran : Ran). outputs ran.world.entries) (serial script (before ++ later)).comps ≡ given (trace script (before ++ later))
    go before [] ih =
        subst (λ (xs : List Ext). flat_map (λ (ran : Ran). outputs ran.world.entries) (serial script xs).comps ≡ given (trace script xs)) (sym (append-nil before)) ih
    go before (ext ∷ later) ih =
        let a : Adds script (before ++ ext ∷ []) before ext = adds_at script (before ++ ext ∷ []) before ext [] refl in
        let ran : Ran = ran_of script before ((serial script before).states ext.node.0) ext in
        let now : flat_map (λ (r : Ran). outputs r.world.entries) (serial script (before ++ ext ∷ [])).comps ≡ given (trace script (before ++ ext ∷ [])) =
        ap (λ (rans : List Ran). flat_map (λ (r : Ran). outputs r.world.entries) rans) (comps-append script before ext)
        ∙ (flat_map-append (λ (r : Ran). outputs r.world.entries) (serial script before).comps (ran ∷ [])
        ∙ (ap (λ (es : List Entry). es ++ (outputs ran.world.entries ++ [])) ih
        ∙ (ap (λ (es : List Entry). given (trace script before) ++ es) (append-nil (outputs ran.world.entries) ∙ a.outputs_are)
        ∙ (sym (given-append a.own (trace script before)) ∙ ap (λ (past : List HandlerStep). given past) (sym a.over))))) in
        subst (λ (xs : List Ext). flat_map (λ (r : Ran). outputs r.world.entries) (serial script xs).comps ≡ given (trace script xs)) (append_assoc before (ext ∷ []) later)
        (go (before ++ ext ∷ []) later now)

outputs_at-append : (node : ℕ) (xs : List Ext) (rans : List Ran) (ext : Ext) (ran : Ran) → length rans ≡ length xs
    → outputs_at node (xs ++ ext ∷ []) (rans ++ ran ∷ []) ≡ outputs_at node xs rans ++ (if ext.node.0 == node then outputs ran.world.entries else [])
outputs_at-append node [] [] ext ran len = append-nil (if ext.node.0 == node then outputs ran.world.entries else [])
outputs_at-append node [] (r ∷ rans) ext ran len = absurd (omega (arith, len))
outputs_at-append node (x ∷ xs) [] ext ran len = absurd (omega (arith, len))
outputs_at-append node (x ∷ xs) (r ∷ rans) ext ran len =
    let first : List Entry = if x.node.0 == node then outputs r.world.entries else [] in
    ap (λ (es : List Entry). first ++ es) (outputs_at-append node xs rans ext ran (omega (arith, len)))
    ∙ sym (append_assoc first (outputs_at node xs rans) (if ext.node.0 == node then outputs ran.world.entries else []))

-- the steps of one computation are all at its node
given_at-own : (node v : ℕ) (own past : List HandlerStep) → Each (λ (b : HandlerStep). b.node ≡ v) own
    → given_at node (own ++ past) ≡ given_at node past ++ (if v == node then given own else [])
given_at-own node v [] past all = sym (go (v == node))
  where
    go : (b : Bool) → given_at node past ++ (if b then [] else []) ≡ given_at node past
    go true = append-nil (given_at node past)
    go false = append-nil (given_at node past)
given_at-own node v (x ∷ own) past all =
    let out : List Entry = if x.effective then output_of x.call x.outcome else [] in
    ap (λ (u : ℕ). given_at node (own ++ past) ++ (if u == node then out else [])) all.0
    ∙ (ap (λ (es : List Entry). es ++ (if v == node then out else [])) (given_at-own node v own past all.1) ∙ go (v == node))
  where
    go : (b : Bool) → (given_at node past ++ (if b then given own else [])) ++ (if b then (if x.effective then output_of x.call x.outcome else []) else [])
        ≡ given_at node past ++ (if b then given (x ∷ own) else [])
    go true = append_assoc (given_at node past) (given own) (if x.effective then output_of x.call x.outcome else [])
    go false = append_assoc (given_at node past) [] []

-- the outputs of the computations at a node are those of the steps there
pub node_outputs : (script : Script) (exts : List Ext) (node : ℕ) → outputs_at node exts (serial script exts).comps ≡ given_at node (trace script exts)
node_outputs script exts node = go [] exts refl
  where
    go : (before later : List Ext) → outputs_at node before (serial script before).comps ≡ given_at node (trace script before)
        → outputs_at node (before ++ later) (serial script (before ++ later)).comps ≡ given_at node (trace script (before ++ later))
    go before [] ih = subst (λ (xs : List Ext). outputs_at node xs (serial script xs).comps ≡ given_at node (trace script xs)) (sym (append-nil before)) ih
    go before (ext ∷ later) ih =
        let a : Adds script (before ++ ext ∷ []) before ext = adds_at script (before ++ ext ∷ []) before ext [] refl in
        let ran : Ran = ran_of script before ((serial script before).states ext.node.0) ext in
        let nodes : Each (λ (b : HandlerStep). b.node ≡ ext.node.0) a.own = each_weaker _ (λ (b : HandlerStep). b.node ≡ ext.node.0) (λ b own. own.1) a.own a.own_steps in
        let now : outputs_at node (before ++ ext ∷ []) (serial script (before ++ ext ∷ [])).comps ≡ given_at node (trace script (before ++ ext ∷ [])) =
        ap (λ (rans : List Ran). outputs_at node (before ++ ext ∷ []) rans) (comps-append script before ext)
        ∙ (outputs_at-append node before (serial script before).comps ext ran (length-comps script before)
        ∙ (ap (λ (es : List Entry). es ++ (if ext.node.0 == node then outputs ran.world.entries else [])) ih
        ∙ (ap (λ (es : List Entry). given_at node (trace script before) ++ (if ext.node.0 == node then es else [])) a.outputs_are
        ∙ (sym (given_at-own node ext.node.0 a.own (trace script before) nodes) ∙ ap (λ (past : List HandlerStep). given_at node past) (sym a.over))))) in
        subst (λ (xs : List Ext). outputs_at node xs (serial script xs).comps ≡ given_at node (trace script xs)) (append_assoc before (ext ∷ []) later)
        (go (before ++ ext ∷ []) later now)
