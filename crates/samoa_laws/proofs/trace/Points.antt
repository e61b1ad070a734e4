-- The trace of a serial run: each step follows those before it.
use Rattle.std.proofs.Common.{◌≡◌, ◌<◌, ℕ, refl, sym, ap, subst, ◌∙◌, arith, append_assoc, append-nil, List, [], ◌∷◌, ◌++◌, length, length-append, Option, Some, None}
use Rattle.samoa_model.specs.Allowed.{Attempt, attempt_all, first_refusal, unless_refused}
use Rattle.samoa_model.specs.Scripts.{Table, decl_of, resolve}
use Rattle.samoa_model.specs.declared.ids.HandlerId.{HandlerId}
use Rattle.samoa_model.specs.declared.handler.Refusal.{Refusal}
use Rattle.samoa_model.specs.declared.record.Entry.{Entry}
use Rattle.samoa_model.specs.declared.record.Ext.{Ext}
use Rattle.samoa_model.specs.declared.script.Decl.{Decl}
use Rattle.samoa_model.specs.declared.script.Script.{Script}
use Rattle.samoa_serial.specs.World.{attempts_of, handler_of}
use Rattle.samoa_serial.specs.SerialRun.{Served, opening_states, ran_of, serial, serve_from, serve_one}
use Rattle.samoa_serial.proofs.SerialLaws.{serial-append}
use Rattle.samoa_serial.specs.Lists.{Each}
use Rattle.samoa_laws.specs.trace.Trace.{HandlerStep, given, outputs, state_at, trace, trace_from, traced}
use Rattle.samoa_laws.specs.trace.Causes.{EndsWell, IsTrace, Setting, setting_of}
use Rattle.samoa_serial.proofs.ListLaws.{each_weaker}
use Rattle.samoa_laws.proofs.trace.Stands.{Resolves}
use Rattle.samoa_laws.proofs.trace.Walks.{event-walks}

-- an attempt that accepts, accepts all handlers of the event
accepts_all : (decl : Decl) (entries : List Entry) (caller : Option HandlerId) (hs : List HandlerId) (h : HandlerId) (others : List HandlerId)
    → attempt_all decl entries caller hs ≡ Attempt.Accepts h others → hs ≡ h ∷ others
accepts_all decl entries caller [] h others e = cc
accepts_all decl entries caller (g ∷ gs) h others e = go (first_refusal decl entries caller [] (g ∷ gs)) e
  where
    go : (r : Option Refusal) → unless_refused r g gs ≡ Attempt.Accepts h others → g ∷ gs ≡ h ∷ others
    go (Some r) e = cc
    go None e = cc

pub resolves : (decl : Decl) (table : Table) → Resolves (attempts_of decl table) (resolve table)
resolves decl table = record { all = λ entries caller event h hs e. accepts_all decl entries (handler_of caller) (resolve table event) h hs e }

-- later computations only add steps
pub trace_from-append : (script : Script) (before : List Ext) (served : Served) (past : List HandlerStep) (xs ys : List Ext)
    → trace_from script before served past (xs ++ ys) ≡ trace_from script (before ++ xs) (serve_from script before served xs) (trace_from script before served past xs) ys
trace_from-append script before served past [] ys = ap (λ (b : List Ext). trace_from script b served past ys) (sym (append-nil before))
trace_from-append script before served past (x ∷ xs) ys =
    trace_from-append script (before ++ x ∷ []) (serve_one script before served x) (traced script before served past x) xs ys
    ∙ ap (λ (b : List Ext). trace_from script b (serve_from script (before ++ x ∷ []) (serve_one script before served x) xs)
    (trace_from script (before ++ x ∷ []) (serve_one script before served x) (traced script before served past x) xs) ys)
    (append_assoc before (x ∷ []) xs)

pub trace-append : (script : Script) (xs : List Ext) (ext : Ext) → trace script (xs ++ ext ∷ []) ≡ traced script xs (serial script xs) (trace script xs) ext
trace-append script xs ext = trace_from-append script [] _ [] xs (ext ∷ [])

-- what stands after these computations
pub record Point (script : Script) (exts : List Ext) (before : List Ext) : Type 0 where
  pub ended : EndsWell (trace script before)
  pub comps : Each (λ (b : HandlerStep). b.comp < length before) (trace script before)
  pub found : (u p : ℕ) → (serial script before).states u p ≡ state_at (opening_states script) (trace script before) u p
  pub fact : IsTrace script exts (trace script before)

-- the steps of one more computation
pub record Adds (script : Script) (exts before : List Ext) (ext : Ext) : Type 0 where
  pub own : List HandlerStep
  pub over : trace script (before ++ ext ∷ []) ≡ own ++ trace script before
  pub own_steps : Each (λ (b : HandlerStep). (b.comp ≡ length before) × (b.node ≡ ext.node.0)) own
  pub outputs_are : outputs (ran_of script before ((serial script before).states ext.node.0) ext).world.entries ≡ given own
  pub point : Point script exts (before ++ ext ∷ [])

pub adds : (script : Script) (exts before : List Ext) (ext : Ext) (later : List Ext) → exts ≡ before ++ ext ∷ later → Point script exts before → Adds script exts before ext
adds script exts before ext later admitted p =
    let S : Setting = setting_of script before ext in
    let over = event-walks S (resolves _ _) (opening_states script) (IsTrace script exts) (trace script before)
    (λ past x own over comps follows fact.
    (record { before = before; ext = ext; later = later; admitted = admitted; own = own; over = over; own_steps = comps; follows = follows }, fact))
    (serial script before).states (decl_of script ext).budget
    (record { ended = p.ended; comps = p.comps; found = p.found; fact = p.fact }) in
    let is : trace script (before ++ ext ∷ []) ≡ traced script before (serial script before) (trace script before) ext = trace-append script before ext in
    record {
      own = over.own;
      over = is ∙ over.over;
      own_steps = over.own_steps;
      outputs_are = over.outputs_are;
      point = record {
        ended = subst EndsWell (sym is) over.ended;
        comps = subst (Each (λ (b : HandlerStep). b.comp < length (before ++ ext ∷ []))) (sym is)
            (each_weaker _ _ (λ b le. omega (arith, length-append before (ext ∷ []))) _ over.comps);
        found = λ u p. ap (λ (served : Served). served.states u p) (serial-append script before ext)
            ∙ (over.found u p ∙ ap (λ (past : List HandlerStep). state_at (opening_states script) past u p) (sym is));
        fact = subst (IsTrace script exts) (sym is) over.fact;
      };
    }

point-start : (script : Script) (exts : List Ext) → Point script exts []
point-start script exts = record { ended = tt; comps = tt; found = λ u p. refl; fact = tt }

point-from : (script : Script) (exts before later more : List Ext) → exts ≡ (before ++ later) ++ more → Point script exts before → Point script exts (before ++ later)
point-from script exts before [] more is p = subst (λ (xs : List Ext). Point script exts xs) (sym (append-nil before)) p
point-from script exts before (ext ∷ later) more is p =
    subst (λ (xs : List Ext). Point script exts xs) (append_assoc before (ext ∷ []) later)
    (point-from script exts (before ++ ext ∷ []) later more (is ∙ ap (λ (xs : List Ext). xs ++ more) (sym (append_assoc before (ext ∷ []) later)))
    (adds script exts before ext (later ++ more) (is ∙ append_assoc before (ext ∷ later) more) p).point)

-- after the first of them
pub point_at : (script : Script) (exts before later : List Ext) → exts ≡ before ++ later → Point script exts before
point_at script exts before later is = point-from script exts [] before later is (point-start script exts)

-- one of them adds its steps
pub adds_at : (script : Script) (exts before : List Ext) (ext : Ext) (later : List Ext) → exts ≡ before ++ ext ∷ later → Adds script exts before ext
adds_at script exts before ext later is = adds script exts before ext later is (point_at script exts before (ext ∷ later) is)

-- after all of them
pub point : (script : Script) (exts : List Ext) → Point script exts exts
point script exts = point_at script exts exts [] (sym (append-nil exts))

-- each step of the trace follows those before it
pub trace-is_trace : (script : Script) (exts : List Ext) → IsTrace script exts (trace script exts)
trace-is_trace script exts = (point script exts).fact
