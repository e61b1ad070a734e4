-- What was decided of a box stays: its epochs, its early marks, and what it asked for.
use Rattle.std.proofs.Common.{◌≡◌, ◌⊎◌, ℕ, inl, inr, refl, sym, ap, subst, ◌∙◌, append_assoc, append-nil, List, [], ◌∷◌, ◌++◌, map, Bool, true, false, ◌==◌, if◌then◌else◌}
use Rattle.std.proofs.lemmas.Bool.Decides.{eqb_tells}
use Rattle.std.proofs.lemmas.List.{map-append}
use Rattle.samoa_model.specs.declared.record.Cause.{Cause as Reason}
use Rattle.samoa_model.specs.declared.record.Ext.{Ext}
use Rattle.samoa_model.specs.declared.script.Script.{Script}
use Rattle.samoa_serial.specs.SerialRun.{serial}
use Rattle.samoa_serial.proofs.RebindingLaws.{rebindings_at-append}
use Rattle.samoa_laws.specs.trace.Trace.{HandlerStep, trace}
use Rattle.samoa_laws.specs.trace.Causes.{IsTrace}
use Rattle.samoa_laws.specs.trace.Group.{Asking, IsFree, IsGroupHistory, IsRebinding, IsWire, asked_at, event, rebinding_of, rebindings_at}
use Rattle.samoa_laws.proofs.trace.Entries.{Extends, trace-extends}
use Rattle.samoa_laws.proofs.trace.Points.{point_at}
use Rattle.samoa_laws.specs.lists.Lists.{Begins}
use Rattle.samoa_serial.proofs.ListLaws.{begins-append, begins-refl, begins-trans}
use Rattle.samoa_laws.specs.replacement.History.{Step, asked, stream}
use Rattle.samoa_laws.proofs.replacement.Histories.{stream_grows}
use Rattle.samoa_laws.specs.streams.Streams.{is_repl, repl_at, repl_step_of, stream_at}
use Rattle.samoa_laws.proofs.streams.Askings.{asked_is, pair}
use Rattle.samoa_laws.proofs.streams.Switches.{rebindings_of}
use Rattle.samoa_laws.proofs.streams.Words.{stream_is}

pub repl_at-append : (v : ℕ) (more past : List HandlerStep) → repl_at v (more ++ past) ≡ repl_at v more ++ repl_at v past
repl_at-append v [] past = refl
repl_at-append v (x ∷ more) past = go (is_repl v x) (repl_at-append v more past)
  where
    go : (b : Bool) → repl_at v (more ++ past) ≡ repl_at v more ++ repl_at v past
        → (if b then repl_step_of x ∷ repl_at v (more ++ past) else repl_at v (more ++ past)) ≡ (if b then repl_step_of x ∷ repl_at v more else repl_at v more) ++ repl_at v past
    go true ih = ap (λ (l : List Step). repl_step_of x ∷ l) ih
    go false ih = ih

asked_grows : (later earlier : List Step) → Begins (asked earlier) (asked (later ++ earlier))
asked_grows [] earlier = begins-refl (asked earlier)
asked_grows (s ∷ later) earlier = begins-trans (asked earlier) (asked (later ++ earlier)) (asked (s ∷ later ++ earlier)) (asked_grows later earlier) (begins-append (asked (later ++ earlier)) _)

asked_later : (v : ℕ) (more past : List HandlerStep) → Begins (asked (repl_at v past)) (asked (repl_at v (more ++ past)))
asked_later v more past = subst (λ (l : List Step). Begins (asked (repl_at v past)) (asked l)) (sym (repl_at-append v more past)) (asked_grows (repl_at v more) (repl_at v past))

asked_through : (script : Script) (v : ℕ) (before later : List Ext) → Begins (asked (repl_at v (trace script before))) (asked (repl_at v (trace script (before ++ later))))
asked_through script v before later =
    let x : Extends script before later = trace-extends script before later in
    subst (λ (zs : List HandlerStep). Begins (asked (repl_at v (trace script before))) (asked (repl_at v zs))) (sym x.is) (asked_later v x.more (trace script before))

-- a stream only grows
pub stream_extends : (script : Script) (before later : List Ext) (v : ℕ) → Begins (stream_at script before v) (stream_at script (before ++ later) v)
stream_extends script before later v =
    let x : Extends script before later = trace-extends script before later in
    subst (λ (l : List (List ℕ)). Begins l (stream_at script (before ++ later) v)) (sym (stream_is script before v))
    (subst (λ (l : List (List ℕ)). Begins (stream (repl_at v (trace script before))) l) (sym (stream_is script (before ++ later) v))
    (subst (λ (zs : List HandlerStep). Begins (stream (repl_at v (trace script before))) (stream (repl_at v zs))) (sym x.is)
    (subst (λ (l : List Step). Begins (stream (repl_at v (trace script before))) (stream l)) (sym (repl_at-append v x.more (trace script before)))
    (stream_grows (repl_at v x.more) (repl_at v (trace script before))))))

-- the rebindings at a node begin what was asked for there
abbrev AreAsked : Script → ℕ → List Ext → Type 0
AreAsked script v before = Begins (map pair (rebindings_at v before)) (asked (repl_at v (trace script before)))

asked_one : (script : Script) (exts : List Ext) → IsGroupHistory script exts → (v : ℕ) (before : List Ext) (ext : Ext) (later : List Ext) → exts ≡ before ++ ext ∷ later
    → AreAsked script v before → AreAsked script v (before ++ ext ∷ [])
asked_one script exts history v before ext later is h = go (eqb_tells ext.node.0 v) ext.cause refl
  where
    t : IsTrace script exts (trace script before)
    t = (point_at script exts before (ext ∷ later) is).fact

    same : rebindings_of v ext ≡ [] → AreAsked script v (before ++ ext ∷ [])
    same none =
        subst (λ (rs : List Asking). Begins (map pair rs) (asked (repl_at v (trace script (before ++ ext ∷ [])))))
        (sym (rebindings_at-append v before (ext ∷ []) ∙ (ap (λ (rs : List Asking). rebindings_at v before ++ rs) none ∙ append-nil (rebindings_at v before))))
        (begins-trans (map pair (rebindings_at v before)) (asked (repl_at v (trace script before))) (asked (repl_at v (trace script (before ++ ext ∷ [])))) h (asked_through script v before (ext ∷ [])))

    new : ext.node.0 ≡ v → IsRebinding script before ext → AreAsked script v (before ++ ext ∷ [])
    new here r =
        let first : asked_at v before (serial script before).comps ≡ rebindings_at v (before ++ ext ∷ []) ++ r.rest =
        subst (λ (u : ℕ). asked_at u before (serial script before).comps ≡ rebindings_at u (before ++ ext ∷ []) ++ r.rest) here r.first in
        begins-trans (map pair (rebindings_at v (before ++ ext ∷ []))) (asked (repl_at v (trace script before))) (asked (repl_at v (trace script (before ++ ext ∷ []))))
        (record {
          rest = map pair r.rest;
          is = sym (asked_is script exts before history.group v t) ∙ (ap (map pair) first ∙ map-append pair (rebindings_at v (before ++ ext ∷ [])) r.rest);
        }) (asked_through script v before (ext ∷ []))

    go : ((ext.node.0 == v) ≡ true) × (ext.node.0 ≡ v) ⊎ ((ext.node.0 == v) ≡ false) × (ext.node.0 ≡ v → ⊥) → (c : Reason) → ext.cause ≡ c → AreAsked script v (before ++ ext ∷ [])
    go (inr away) c e = same (ap (λ (b : Bool). if b then rebinding_of ext.cause ext.args ++ [] else []) away.0)
    go (inl here) (Reason.Event ev) e =
        same (ap (λ (b : Bool). if b then rebinding_of ext.cause ext.args ++ [] else []) here.0 ∙ ap (λ (c : Reason). rebinding_of c ext.args ++ []) e)
    go (inl here) (Reason.Change change) e = new here.1 (changes (history.allowed before ext later is))
      where
        free : {R : Type 0} → (n : ℕ) → ext.cause ≡ Reason.Event (event n) → R
        free n f = absurd (let both : Reason.Change change ≡ Reason.Event (event n) = sym e ∙ f in cc)

        changes : IsFree ext.cause ⊎ (IsWire script before ext ⊎ IsRebinding script before ext) → IsRebinding script before ext
        changes (inl (inl f)) = free 14 f
        changes (inl (inr (inl f))) = free 15 f
        changes (inl (inr (inr (inl f)))) = free 16 f
        changes (inl (inr (inr (inr (inl f))))) = free 17 f
        changes (inl (inr (inr (inr (inr out))))) = absurd out
        changes (inr (inl wire)) = free 0 wire.cause
        changes (inr (inr r)) = r

asked_from : (script : Script) (exts : List Ext) → IsGroupHistory script exts → (v : ℕ) (before later more : List Ext) → exts ≡ (before ++ later) ++ more
    → AreAsked script v before → AreAsked script v (before ++ later)
asked_from script exts history v before [] more is h = subst (AreAsked script v) (sym (append-nil before)) h
asked_from script exts history v before (ext ∷ later) more is h =
    subst (AreAsked script v) (append_assoc before (ext ∷ []) later)
    (asked_from script exts history v (before ++ ext ∷ []) later more (is ∙ ap (λ (xs : List Ext). xs ++ more) (sym (append_assoc before (ext ∷ []) later)))
    (asked_one script exts history v before ext (later ++ more) (is ∙ append_assoc before (ext ∷ later) more) h))

pub are_asked : (script : Script) (exts : List Ext) → IsGroupHistory script exts → (v : ℕ) (before later : List Ext) → exts ≡ before ++ later
    → Begins (map pair (rebindings_at v before)) (asked (repl_at v (trace script exts)))
are_asked script exts history v before later is =
    begins-trans (map pair (rebindings_at v before)) (asked (repl_at v (trace script before))) (asked (repl_at v (trace script exts)))
    (asked_from script exts history v [] before later is (begins-refl []))
    (subst (λ (xs : List Ext). Begins (asked (repl_at v (trace script before))) (asked (repl_at v (trace script xs)))) (sym is) (asked_through script v before later))
