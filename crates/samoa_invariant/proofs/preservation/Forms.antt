-- Each form of declaration meets what it owes: sets, bounds and routes.
use Rattle.std.proofs.Common.{arith, ◌≡◌, ◌<◌, ◌≤◌, ℕ, suc, refl, ap, sym, subst, List, [], ◌∷◌, map}
use Rattle.std.specs.List.{All}
use Rattle.std.proofs.lemmas.List.Elements.{All-nil}
use Rattle.samoa_model.specs.declared.ids.HandlerId.{HandlerId}
use Rattle.samoa_model.specs.Paths.{IsSafe, NothingLeft, handlers_by}
use Rattle.samoa_serial.specs.declared.call.Active.{Active}
use Rattle.samoa_model.specs.declared.script.Decl.{Decl}
use Rattle.samoa_serial.specs.declared.call.Waiting.{Waiting}
use Rattle.samoa_model.specs.Allowed.{weight}
use Rattle.samoa_model.specs.Scripts.{Table}
use Rattle.samoa_serial.specs.World.{attempts_of}
use Rattle.samoa_serial.specs.Calls.{Computation}
use Rattle.samoa_invariant.specs.Play.{Play, attempts, table_of, point, version, IsIdle, Never}
use Rattle.samoa_invariant.specs.State.{CanRelease, Core, Step, Quiet, IsEnabled, made_by}
use Rattle.samoa_invariant.specs.Inv.{Meets, Invariant}
use Rattle.samoa_invariant.proofs.preservation.Accepts.{meets_declared, idle_never}
use Rattle.samoa_invariant.proofs.preservation.Bounds.{meets_counting}
use Rattle.samoa_invariant.proofs.preservation.Routes.{route_never}
use Rattle.samoa_invariant.proofs.preservation.Steps.{step_keeps}

no_active : (active : List Active) → map (λ a. a.call.handler) active ≡ [] → active ≡ []
no_active [] none = refl
no_active (a ∷ rest) none = cc

quiet_never : (decl : Decl) (table : Table) (comp : Computation) (p : ℕ) → Quiet decl table comp p → Never (attempts_of decl table) comp p
quiet_never (Decl.Set micros) table comp p quiet = idle_never (attempts_of (Decl.Set micros) table) comp p (no_active comp.active quiet.none_active)
quiet_never (Decl.Bound bounds) table comp p quiet = idle_never (attempts_of (Decl.Bound bounds) table) comp p (no_active comp.active quiet.none_active)
quiet_never (Decl.Route vertices roots edges) table comp p quiet = route_never vertices roots edges table comp p quiet

nothing_left : (table : Table) (comp : Computation) → IsIdle comp → NothingLeft (map (λ a. a.call.handler) comp.active) (handlers_by table (map (λ w. w.event) comp.waiting))
nothing_left table comp idle = record {
  none_active = ap (λ (xs : List Active). map (λ a. a.call.handler) xs) idle.active;
  none_waiting = ap (λ (ws : List Waiting). handlers_by table (map (λ w. w.event) ws)) idle.waiting;
}

idle_quiet : (decl : Decl) (table : Table) (comp : Computation) (p : ℕ) → IsIdle comp → Quiet decl table comp p
idle_quiet (Decl.Set micros) table comp p idle = nothing_left table comp idle
idle_quiet (Decl.Bound bounds) table comp p idle = nothing_left table comp idle
idle_quiet (Decl.Route vertices roots edges) table comp p idle =
    let left = nothing_left table comp idle in
    record {
      active_away = subst (λ (hs : List HandlerId). All (IsSafe vertices edges p) hs) (sym left.none_active) (All-nil (IsSafe vertices edges p));
      waiting_away = subst (λ (hs : List HandlerId). All (IsSafe vertices edges p) hs) (sym left.none_waiting) (All-nil (IsSafe vertices edges p));
    }

pub meets : (P : Play) (k : ℕ) → Meets P k
meets P k = record {
  declared = λ n c m e. meets_declared P k n c m e;
  sound = λ n p quiet. quiet_never (P.decl k) (table_of P k) (point P k n).comp p quiet;
  rest = λ n p idle. idle_quiet (P.decl k) (table_of P k) (point P k n).comp p idle;
  counting = λ n p b w le. meets_counting P k n p b le;
}

-- the main theorem, for all three forms
pub enabled_keeps : (P : Play) (core : Core) (step : Step) → Invariant P core → IsEnabled P core step → Invariant P (made_by P core step)
enabled_keeps P core step i can = step_keeps P (meets P) core step i can

-- what may be released is never met again, and neither is what is past
pub released_never : (P : Play) (core : Core) (k p : ℕ) → Invariant P core → CanRelease P core k p → Never (attempts P k) (core.comp k) p
released_never P core k p i can =
    let quiet : Quiet (P.decl k) (table_of P k) (core.comp k) p = subst (λ (t : Table). Quiet (P.decl k) t (core.comp k) p) (i.booked.table k can.turn.admitted) can.quiet in
    quiet_never (P.decl k) (table_of P k) (core.comp k) p quiet

pub past_never : (P : Play) (core : Core) (k p : ℕ) → Invariant P core → k < core.count → 0 < weight (P.decl k) p
    → core.private k (P.node k) p ≤ core.local (P.node k) p → Never (attempts P k) (core.comp k) p
past_never P core k p i lt some past =
    let private : core.private k (P.node k) p ≡ version P (suc k) (P.node k) p = i.booked.private k (P.node k) p lt in
    subst (λ (c : Computation). Never (attempts P k) c p) (sym (i.calls.comp k lt)) (i.no_more k p lt some (omega (arith, private, past)))
