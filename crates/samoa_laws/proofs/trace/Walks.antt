-- A computation walks along its turns: each step follows those before it.
use Rattle.std.proofs.Common.{◌≡◌, ◌<◌, ◌≤◌, ℕ, zero, suc, inl, inr, refl, sym, ap, subst, ◌∙◌, arith, List, [], ◌∷◌, ◌++◌, length, Some, None, Bool, true, false, ◌==◌, if◌then◌else◌, eq-eqb}
use Rattle.std.proofs.lemmas.Bool.{eqb-true}
use Rattle.samoa_model.specs.Entries.{calls_made}
use Rattle.samoa_model.specs.declared.handler.Moment.{Moment}
use Rattle.samoa_model.specs.declared.handler.Outcome.{Outcome}
use Rattle.samoa_model.specs.declared.record.Entry.{Entry}
use Rattle.samoa_serial.specs.declared.call.Active.{Active}
use Rattle.samoa_serial.specs.declared.call.Call.{Call}
use Rattle.samoa_serial.specs.State.{State}
use Rattle.samoa_serial.specs.World.{States, Turn, World, put, stepped}
use Rattle.samoa_serial.specs.Whole.{event_whole}
use Rattle.samoa_serial.specs.Calls.{Computation, replied, take_outcome_at}
use Rattle.samoa_serial.specs.Alone.{Machine, after, next_of, next_at, next_step, opening, turn, turn_of}
use Rattle.samoa_serial.proofs.End.{turn-idle}
use Rattle.samoa_serial.proofs.Point.{turn_is}
use Rattle.samoa_serial.proofs.Refine.{ended, after-turns_of_event}
use Rattle.samoa_serial.specs.Lists.{Each}
use Rattle.samoa_laws.specs.trace.Trace.{HandlerStep, Walk, given, has_effect, micro_of, output_of, outputs, state_at, step_of, units_after, walk, walked}
use Rattle.samoa_laws.specs.trace.Causes.{Cause, Comes, EndsWell, Follows, IsFirst, IsNextIn, IsRoot, Setting}
use Rattle.samoa_serial.proofs.ListLaws.{each_in, each_weaker}
use Rattle.samoa_laws.proofs.trace.Levels.{Base, Ground, Outside, begin-append, begin-map, push}
use Rattle.samoa_laws.proofs.trace.Numbers.{AllUpTo}
use Rattle.samoa_laws.proofs.trace.Outputs.{start-outputs, taken-outputs}
use Rattle.samoa_laws.proofs.trace.Stands.{Resolves, Runs, Standing, Stands, attempted-stands, deferred-more}
use Rattle.samoa_laws.proofs.trace.Taken.{Makes, StandsAfter, taken-stands}
use Rattle.samoa_laws.proofs.trace.Units.{start-units, taken-units}

pub walk-append : (comp node : ℕ) (w : Walk) (ts : List Turn) (t : Turn) → walk comp node w (ts ++ t ∷ []) ≡ walked comp node (walk comp node w ts) t
walk-append comp node w [] t = refl
walk-append comp node w (u ∷ us) t = walk-append comp node (walked comp node w u) us t

-- the states of all nodes, with those of one
abbrev pub states_with : (ℕ → States) → ℕ → States → ℕ → States
states_with served node states u = if u == node then states else served u

-- the machine and the walk go together, with a fact of the steps that each step which follows keeps
pub record Fits (S : Setting) (first : ℕ → States) (Fact : List HandlerStep → Type 0) (earlier : List HandlerStep) (served : ℕ → States) (m : Machine) (w : Walk) : Type 0 where
  pub units : w.units ≡ m.units
  pub states : w.states ≡ m.states
  pub standing : Standing S w.past (IsNextIn S w.past) (EndsWell w.past) m.comp
  pub found : (u p : ℕ) → states_with served S.node w.states u p ≡ state_at first w.past u p
  pub comps : Each (λ (b : HandlerStep). b.comp ≤ S.comp) w.past
  pub own : List HandlerStep
  pub over : w.past ≡ own ++ earlier
  pub own_steps : Each (λ (b : HandlerStep). (b.comp ≡ S.comp) × (b.node ≡ S.node)) own
  pub outputs_are : outputs m.entries ≡ given own
  pub fact : Fact w.past

-- a fact of the steps that each step of this computation keeps
abbrev pub IsKept : Setting → (ℕ → States) → (List HandlerStep → Type 0) → List HandlerStep → Type 0
IsKept S first Fact earlier = (past : List HandlerStep) (x : HandlerStep) (own : List HandlerStep) → past ≡ own ++ earlier → Each (λ (b : HandlerStep). (b.comp ≡ S.comp) × (b.node ≡ S.node)) own
    → Follows S first past x → Fact past → Fact (x ∷ past)

-- the turn that the innermost call makes
abbrev pub turn_made : Setting → Machine → Call → Moment → Turn
turn_made S m c moment =
    let new = stepped S.rules m.states c moment in
    record { call = c; moment = moment; state = new.0; outcome = new.1; before = length m.entries }

found-after : (first : ℕ → States) (served : ℕ → States) (node : ℕ) (states : States) (past : List HandlerStep) (x : HandlerStep) → x.node ≡ node
    → ((u p : ℕ) → states_with served node states u p ≡ state_at first past u p)
    → (u p : ℕ) → states_with served node (put states (micro_of x) x.new) u p ≡ state_at first (x ∷ past) u p
found-after first served node states past x is found u p = rw is (go (u == node) refl (found u p))
  where
    go : (b : Bool) → (u == node) ≡ b → (if b then states else served u) p ≡ state_at first past u p
        → (if b then put states (micro_of x) x.new else served u) p ≡ (if b then (if p == micro_of x then x.new else state_at first past u p) else state_at first past u p)
    go true e h = ap (λ (s : State). if p == micro_of x then x.new else s) h
    go false e h = h

-- the innermost call makes its step
fits-turn : (S : Setting) → Resolves S.rules.attempt S.handlers → (first : ℕ → States) (Fact : List HandlerStep → Type 0)
    (earlier : List HandlerStep) → IsKept S first Fact earlier
    → (served : ℕ → States) (m : Machine) (w : Walk) → Fits S first Fact earlier served m w
    → (a : Active) (rest : List Active) → m.active ≡ a ∷ rest → (run : Runs S w.past (IsNextIn S w.past) a rest)
    → Fits S first Fact earlier served (turn_of S.rules m a.call run.moment) (walked S.comp S.node w (turn_made S m a.call run.moment))
fits-turn S resolves first Fact earlier more served m w fits a rest is run =
    let t : Turn = turn_made S m a.call run.moment in
    let o : Outcome = t.outcome in
    let x : HandlerStep = step_of S.comp S.node w t in
    let comp_is : take_outcome_at S.rules.attempt m.active m.books m.answer o ≡ take_outcome_at S.rules.attempt (a ∷ rest) m.books m.answer o =
    ap (λ (active : List Active). take_outcome_at S.rules.attempt active m.books m.answer o) is in
    let numbers : AllUpTo (calls_made m.entries) (a ∷ rest) = subst (λ (active : List Active). AllUpTo (calls_made m.entries) active) is fits.standing.numbers in
    let makes : Makes S w.past x m.books rest = record {
      comp = refl;
      node = refl;
      within = push S x run.top w.past rest run.levels run.inside refl refl;
      waiting = each_weaker _ _ (deferred-more S w.past x) m.waiting fits.standing.waiting;
      number = numbers.0;
      numbers = numbers.1;
    } in
    let old : w.states (micro_of x) ≡ state_at first w.past S.node (micro_of x) = rw (eq-eqb S.node S.node refl) at (fits.found S.node (micro_of x)) in
    record {
      units = ap (λ (units : ℕ). units_after units o) fits.units ∙ sym (ap (λ (c : Computation). c.units) comp_is ∙ taken-units S.rules.attempt m.books m.answer rest a.call o);
      states = ap (λ (states : States). put states (micro_of x) t.state) fits.states;
      standing = subst (λ (c : Computation). StandsAfter S w.past x c) (sym comp_is)
          (taken-stands S resolves w.past x m.books m.answer rest makes o refl (ap (λ (units : ℕ). has_effect units o) fits.units));
      found = found-after first served S.node w.states w.past x refl fits.found;
      comps = (omega arith, fits.comps);
      own = x ∷ fits.own;
      over = ap (λ (xs : List HandlerStep). x ∷ xs) fits.over;
      own_steps = ((refl, refl), fits.own_steps);
      outputs_are = ap (λ (c : Computation). outputs c.entries) comp_is
          ∙ (taken-outputs S.rules.attempt m.books m.answer rest a.call o
          ∙ (ap (λ (es : List Entry). es ++ (if has_effect m.books.units o then output_of a.call o else [])) fits.outputs_are
          ∙ ap (λ (units : ℕ). given fits.own ++ (if has_effect units o then output_of a.call o else [])) (sym fits.units)));
      fact = more w.past x fits.own fits.over fits.own_steps (record {
        comp = refl;
        node = refl;
        old = old;
        step = ap (λ (states : States). S.rules.step a.call.handler.micro (states (micro_of x)) run.moment) fits.states;
        cause = run.cause;
        next = run.next;
        comes = run.comes;
      }) fits.fact;
    }

-- where the walk along the turns fits, it fits after one more turn
fits-next : (S : Setting) → Resolves S.rules.attempt S.handlers → (first : ℕ → States) (Fact : List HandlerStep → Type 0)
    (earlier : List HandlerStep) → IsKept S first Fact earlier
    → (served : ℕ → States) (w : Walk) (m : Machine) → Fits S first Fact earlier served m (walk S.comp S.node w m.turns)
    → Fits S first Fact earlier served (turn S.rules m) (walk S.comp S.node w (turn S.rules m).turns)
fits-next S resolves first Fact earlier more served w m fits = go m.active refl
  where
    now : Walk
    now = walk S.comp S.node w m.turns

    go : (active : List Active) → m.active ≡ active → Fits S first Fact earlier served (turn S.rules m) (walk S.comp S.node w (turn S.rules m).turns)
    go [] e = subst (λ (n : Machine). Fits S first Fact earlier served n (walk S.comp S.node w n.turns)) (sym (turn-idle S.rules m e)) fits
    go (a ∷ rest) e =
        let run : Runs S now.past (IsNextIn S now.past) a rest =
        subst (λ (active : List Active). Stands S now.past (IsNextIn S now.past) (EndsWell now.past) active) e fits.standing.stands in
        let next : next_step m.comp ≡ Some (a.call, run.moment) = ap next_of e ∙ ap (next_at a.call) run.due in
        subst (λ (n : Machine). Fits S first Fact earlier served n (walk S.comp S.node w n.turns)) (sym (turn_is S.rules m a.call run.moment next))
        (subst (λ (v : Walk). Fits S first Fact earlier served (turn_of S.rules m a.call run.moment) v) (sym (walk-append S.comp S.node w m.turns (turn_made S m a.call run.moment)))
        (fits-turn S resolves first Fact earlier more served m now fits a rest e run))

fits-after : (S : Setting) → Resolves S.rules.attempt S.handlers → (first : ℕ → States) (Fact : List HandlerStep → Type 0)
    (earlier : List HandlerStep) → IsKept S first Fact earlier
    → (served : ℕ → States) (w : Walk) (m : Machine) → m.turns ≡ [] → Fits S first Fact earlier served m w → (n : ℕ)
    → Fits S first Fact earlier served (after S.rules m n) (walk S.comp S.node w (after S.rules m n).turns)
fits-after S resolves first Fact earlier more served w m none fits zero =
    subst (λ (ts : List Turn). Fits S first Fact earlier served m (walk S.comp S.node w ts)) (sym none) fits
fits-after S resolves first Fact earlier more served w m none fits (suc n) =
    fits-next S resolves first Fact earlier more served w (after S.rules m n) (fits-after S resolves first Fact earlier more served w m none fits n)

-- what stands before a computation
pub record Before (S : Setting) (first : ℕ → States) (Fact : List HandlerStep → Type 0) (served : ℕ → States) (past : List HandlerStep) : Type 0 where
  pub ended : EndsWell past
  pub comps : Each (λ (b : HandlerStep). b.comp < S.comp) past
  pub found : (u p : ℕ) → served u p ≡ state_at first past u p
  pub fact : Fact past

first_next : (S : Setting) (past : List HandlerStep) (c : Call) (m : Moment) → IsFirst S past c m → IsNextIn S past c m
first_next S [] c m first = first
first_next S (b ∷ past) c m first = inr first

-- a computation begins
fits-opening : (S : Setting) → Resolves S.rules.attempt S.handlers → (first : ℕ → States) (Fact : List HandlerStep → Type 0)
    (served : ℕ → States) (past : List HandlerStep) (budget : ℕ) → Before S first Fact served past
    → Fits S first Fact past served (opening S.rules budget (served S.node) S.root S.arg) (record { units = budget; states = served S.node; past = past })
fits-opening S resolves first Fact served past budget before = record {
  units = sym (start-units S.rules.attempt budget S.root S.arg);
  states = refl;
  standing = attempted-stands S resolves past (IsNextIn S past) (EndsWell past) (record { units = budget; waiting = []; entries = [] }) None S.root S.arg None []
      (λ b r. replied S.rules.attempt b None [] r) (IsRoot S)
      (record {
        comes = λ d i lt. record { bound = i; moment = refl };
        cause = λ d m root. Cause.Root root;
        next = λ d m begins. first_next S past d m (record { ended = before.ended; earlier = λ b i. each_in _ past b before.comps i; begins = begins });
        when = λ d m root. Comes.AsFirst root (λ b i. each_in _ past b before.comps i);
        top = Ground;
        levels = λ begun all. Base (begin-append (Outside S past) begun [] (begin-map _ (Outside S past) (λ c m from. inl from) begun all) tt);
        inside = λ d m root. tt;
      })
      tt tt (λ r refuses. record { stands = before.ended; waiting = tt; numbers = tt });
  found = λ u p. served_is u p (u == S.node) refl;
  comps = each_weaker _ _ (λ b lt. omega arith) past before.comps;
  own = [];
  over = refl;
  own_steps = tt;
  outputs_are = start-outputs S.rules.attempt budget S.root S.arg;
  fact = before.fact;
}
  where
    served_is : (u p : ℕ) (b : Bool) → (u == S.node) ≡ b → (if b then served S.node else served u) p ≡ state_at first past u p
    served_is u p true e = let is : u ≡ S.node = eqb-true u S.node e in ap (λ (v : ℕ). served v p) (sym is) ∙ before.found u p
    served_is u p false e = before.found u p

-- a computation has ended with these entries, states and steps
pub record Over (S : Setting) (first : ℕ → States) (Fact : List HandlerStep → Type 0) (earlier : List HandlerStep) (served : ℕ → States) (w : World) (past : List HandlerStep) : Type 0 where
  pub ended : EndsWell past
  pub comps : Each (λ (b : HandlerStep). b.comp ≤ S.comp) past
  pub found : (u p : ℕ) → states_with served S.node w.states u p ≡ state_at first past u p
  pub own : List HandlerStep
  pub over : past ≡ own ++ earlier
  pub own_steps : Each (λ (b : HandlerStep). (b.comp ≡ S.comp) × (b.node ≡ S.node)) own
  pub outputs_are : outputs w.entries ≡ given own
  pub fact : Fact past

-- each step of an event run whole follows those before it, and those before the event
pub event-walks : (S : Setting) → Resolves S.rules.attempt S.handlers → (first : ℕ → States) (Fact : List HandlerStep → Type 0) (past : List HandlerStep)
    → IsKept S first Fact past → (served : ℕ → States) (budget : ℕ) → Before S first Fact served past
    → let ran = event_whole S.rules budget (served S.node) S.root S.arg in
    Over S first Fact past served ran.world (walk S.comp S.node (record { units = budget; states = served S.node; past = past }) ran.world.turns).past
event-walks S resolves first Fact past more served budget before =
    let ran = event_whole S.rules budget (served S.node) S.root S.arg in
    let o : Machine = opening S.rules budget (served S.node) S.root S.arg in
    let w : Walk = record { units = budget; states = served S.node; past = past } in
    let at_end : Fits S first Fact past served (after S.rules o (length ran.world.turns)) (walk S.comp S.node w (after S.rules o (length ran.world.turns)).turns) =
    fits-after S resolves first Fact past more served w o refl (fits-opening S resolves first Fact served past budget before) (length ran.world.turns) in
    let all : Fits S first Fact past served (ended ran) (walk S.comp S.node w ran.world.turns) =
    subst (λ (m : Machine). Fits S first Fact past served m (walk S.comp S.node w m.turns)) (after-turns_of_event S.rules budget (served S.node) S.root S.arg) at_end in
    record {
      ended = all.standing.stands;
      comps = all.comps;
      found = λ u p. ap (λ (states : States). states_with served S.node states u p) (sym all.states) ∙ all.found u p;
      own = all.own;
      over = all.over;
      own_steps = all.own_steps;
      outputs_are = all.outputs_are;
      fact = all.fact;
    }
