-- The box of a node is rebound as it asked: its rebindings begin with what was asked for, in order.
use Rattle.std.proofs.Common.{◌≡◌, ℕ, refl, sym, ap, ◌∙◌, append_assoc, List, [], ◌∷◌, ◌++◌, length, map, Some, Bool, true, false, if◌then◌else◌, eq-eqb}
use Rattle.std.specs.Prelude.{slice_get}
use Rattle.samoa_model.specs.declared.ids.ChangeId.{ChangeId}
use Rattle.samoa_model.specs.declared.handler.Moment.{Moment}
use Rattle.samoa_model.specs.declared.record.Cause.{Cause as Reason}
use Rattle.samoa_model.specs.declared.record.Ext.{Ext}
use Rattle.samoa_model.specs.declared.script.Script.{Script}
use Rattle.samoa_serial.specs.SerialRun.{serial}
use Rattle.samoa_serial.proofs.RebindingLaws.{rebindings_at-append}
use Rattle.samoa_laws.specs.trace.Trace.{HandlerStep, trace}
use Rattle.samoa_laws.specs.trace.Causes.{FollowsIn, IsTrace}
use Rattle.samoa_laws.specs.trace.Group.{Asking, IsGroupHistory, IsRebinding, asked_at, rebinding_of, rebindings_at}
use Rattle.samoa_laws.proofs.trace.Points.{point_at}
use Rattle.samoa_laws.proofs.trace.Steps.{IsAt}
use Rattle.samoa_laws.specs.replacement.Casts.{IsRebound, MaySwitch, begins_switch, switches}
use Rattle.samoa_laws.specs.replacement.History.{asked}
use Rattle.samoa_laws.specs.streams.Streams.{is_repl, repl_at, repl_step_of}
use Rattle.samoa_laws.proofs.streams.Askings.{asked_is, pair}
use Rattle.samoa_laws.proofs.trace.Boxes.{is_here}
use Rattle.samoa_laws.proofs.streams.Nesting.{called_on}
use Rattle.samoa_laws.proofs.streams.Switches.{SwitchBegin, is_rebinding, switch_begin, switch_count}

got_there : {A B : Type 0} (f : A → B) (l : List A) (x : A) (rest : List A) → slice_get (map f (l ++ x ∷ rest)) (length l) ≡ Some (f x)
got_there f [] x rest = refl
got_there f (y ∷ l) x rest = got_there f l x rest

-- the rebindings up to one at this node
rebindings_to : (v : ℕ) (before : List Ext) (ext : Ext) (change : ChangeId) → ext.node.0 ≡ v → ext.cause ≡ Reason.Change change
    → rebindings_at v (before ++ ext ∷ []) ≡ rebindings_at v before ++ record { change = change; arg = ext.args } ∷ []
rebindings_to v before ext change here cause =
    rebindings_at-append v before (ext ∷ [])
    ∙ ap (λ (rs : List Asking). rebindings_at v before ++ rs)
    (ap (λ (b : Bool). if b then rebinding_of ext.cause ext.args ++ [] else []) (eq-eqb ext.node.0 v here) ∙ ap (λ (c : Reason). rebinding_of c ext.args ++ []) cause)

may_begin : (script : Script) (exts : List Ext) → IsGroupHistory script exts → (v : ℕ) (past : List HandlerStep) (x : HandlerStep) → IsTrace script exts past
    → (f : FollowsIn script exts past x) → IsAt x v 6 → (arg : List ℕ) → x.moment ≡ Moment.Begin 2 arg
    → (c : ChangeId) × (slice_get (asked (repl_at v past)) (switches (repl_at v past)) ≡ Some (c, arg))
may_begin script exts history v past x t f at arg e = (
  r.change,
  ap (λ (l : List (ChangeId × List ℕ)). slice_get l (switches (repl_at v past))) asked_here ∙ (ap (λ (n : ℕ). slice_get (map pair (rebindings_at v f.before ++ one ∷ r.rest)) n) count
      ∙ (got_there pair (rebindings_at v f.before) one r.rest ∙ ap (λ (ws : List ℕ). Some (r.change, ws)) args)),
)
  where
    b : SwitchBegin script exts past x f
    b = switch_begin script exts history.group v past x t f at (ap begins_switch e)

    r : IsRebinding script f.before f.ext
    r = is_rebinding script exts history f.before f.ext f.later f.admitted b.root

    here : f.ext.node.0 ≡ v
    here = sym f.follows.node ∙ sym at.0

    one : Asking
    one = record { change = r.change; arg = f.ext.args }

    args : f.ext.args ≡ arg
    args = let both : Moment.Begin 2 f.ext.args ≡ Moment.Begin 2 arg = sym b.moment ∙ e in cc

    before_trace : IsTrace script exts (trace script f.before)
    before_trace = (point_at script exts f.before (f.ext ∷ f.later) f.admitted).fact

    first : asked_at v f.before (serial script f.before).comps ≡ rebindings_at v f.before ++ one ∷ r.rest
    first =
        ap (λ (u : ℕ). asked_at u f.before (serial script f.before).comps) (sym here)
        ∙ (r.first ∙ (ap (λ (u : ℕ). rebindings_at u (f.before ++ f.ext ∷ []) ++ r.rest) here
        ∙ (ap (λ (rs : List Asking). rs ++ r.rest) (rebindings_to v f.before f.ext r.change here r.cause) ∙ append_assoc (rebindings_at v f.before) (one ∷ []) r.rest)))

    asked_here : asked (repl_at v past) ≡ map pair (rebindings_at v f.before ++ one ∷ r.rest)
    asked_here =
        ap (λ (zs : List HandlerStep). asked (repl_at v zs)) b.first
        ∙ (sym (asked_is script exts f.before history.group v before_trace) ∙ ap (map pair) first)

    count : switches (repl_at v past) ≡ length (rebindings_at v f.before)
    count = ap (λ (zs : List HandlerStep). switches (repl_at v zs)) b.first ∙ switch_count script exts history v f.before (f.ext ∷ f.later) f.admitted

may_switch : (script : Script) (exts : List Ext) → IsGroupHistory script exts → (v : ℕ) (past : List HandlerStep) (x : HandlerStep) → IsTrace script exts past
    → (f : FollowsIn script exts past x) → IsAt x v 6 → (m : Moment) → x.moment ≡ m → MaySwitch (repl_at v past) m
may_switch script exts history v past x t f at (Moment.Begin i arg) e =
    λ two. may_begin script exts history v past x t f at arg (e ∙ ap (λ (n : ℕ). Moment.Begin n arg) two)
may_switch script exts history v past x t f at (Moment.Resume i frame reply) e =
    λ two. called_on script exts history.group v past x t f at frame reply (e ∙ ap (λ (n : ℕ). Moment.Resume n frame reply) two)

pub rebound_at : (script : Script) (exts : List Ext) → IsGroupHistory script exts → (v : ℕ) (past : List HandlerStep) → IsTrace script exts past → IsRebound (repl_at v past)
rebound_at script exts history v [] t = tt
rebound_at script exts history v (x ∷ past) t = go (is_repl v x) refl (rebound_at script exts history v past t.1)
  where
    go : (b : Bool) → is_repl v x ≡ b → IsRebound (repl_at v past) → IsRebound (if b then repl_step_of x ∷ repl_at v past else repl_at v past)
    go true e ih = (may_switch script exts history v past x t.1 t.0 (is_here v 6 x e) x.moment refl, ih)
    go false e ih = ih
