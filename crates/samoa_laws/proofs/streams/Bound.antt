-- What `ab_cast` is bound to: the cast of the broadcast that the rebindings of the node put in place.
use Rattle.std.proofs.Common.{◌≡◌, ◌<◌, ℕ, zero, suc, refl, sym, ap, subst, arith, List, [], ◌∷◌, ◌++◌, length, map, get_or, set, Some, Bool, true, false, ◌==◌, if◌then◌else◌}
use Rattle.std.specs.Prelude.{slice_get}
use Rattle.samoa_model.specs.Range.{IsCauseOf, IsExtOf}
use Rattle.samoa_model.specs.Scripts.{Table, caused, first_table, no_change, rebound, table_from, table_of}
use Rattle.samoa_model.specs.declared.ids.ChangeId.{ChangeId}
use Rattle.samoa_model.specs.declared.ids.HandlerId.{HandlerId}
use Rattle.samoa_model.specs.declared.record.Cause.{Cause as Reason}
use Rattle.samoa_model.specs.declared.record.Ext.{Ext}
use Rattle.samoa_model.specs.declared.script.ChangeDef.{ChangeDef}
use Rattle.samoa_model.specs.declared.script.EventDef.{EventDef}
use Rattle.samoa_model.specs.declared.script.Script.{Script}
use Rattle.samoa_serial.specs.Lists.{Each}
use Rattle.samoa_laws.specs.trace.Group.{Asking, IsGroup, group_changes, handler, rebinding_of, rebindings_at}
use Rattle.samoa_laws.specs.streams.Ordered.{broadcast_of, in_place}
use Rattle.samoa_laws.proofs.streams.Askings.{pair}

-- a list that is there can be replaced
set-there : (table : Table) (i : ℕ) (new : List HandlerId) (h : HandlerId) (hs : List HandlerId) → get_or table i [] ≡ h ∷ hs → get_or (set table i new) i [] ≡ new
set-there [] i new h hs e = cc
set-there (xs ∷ table) zero new h hs e = refl
set-there (xs ∷ table) (suc i) new h hs e = set-there table i new h hs e

abbrev IsCastTo : Table → ℕ → Type 0
IsCastTo table p = get_or table 12 [] ≡ handler p 0 ∷ []

changed-cast : (c : ℕ) → c < length group_changes → (table : Table) (p : ℕ) → IsCastTo table p → IsCastTo (rebound (get_or group_changes c no_change).table table) (broadcast_of c)
changed-cast zero lt table p is = set-there table 12 (handler 5 0 ∷ []) (handler p 0) [] is
changed-cast (suc zero) lt table p is = set-there table 12 (handler 4 0 ∷ []) (handler p 0) [] is
changed-cast (suc (suc c)) lt table p is = absurd (omega arith)

cast_from : (script : Script) → IsGroup script → (v : ℕ) (exts : List Ext) → Each (IsExtOf script) exts → (table : Table) (p : ℕ) → IsCastTo table p
    → IsCastTo (table_from script v table exts) (in_place p (rebindings_at v exts))
cast_from script group v [] known table p is = is
cast_from script group v (ext ∷ exts) known table p is =
    go (ext.node.0 == v) ext.cause refl (λ t q e. cast_from script group v exts known.1 t q e)
  where
    go : (b : Bool) (c : Reason) → ext.cause ≡ c
        → ((t : Table) (q : ℕ) → IsCastTo t q → IsCastTo (table_from script v t exts) (in_place q (rebindings_at v exts)))
        → IsCastTo (table_from script v (if b then caused script ext.cause table else table) exts)
        (in_place p (if b then rebinding_of ext.cause ext.args ++ rebindings_at v exts else rebindings_at v exts))
    go false c e ih = ih table p is
    go true (Reason.Event ev) e ih =
        subst (λ (d : Reason). IsCastTo (table_from script v (caused script d table) exts) (in_place p (rebinding_of d ext.args ++ rebindings_at v exts))) (sym e) (ih table p is)
    go true (Reason.Change change) e ih =
        let in_range : change.0 < length script.changes = let k : IsExtOf script ext = known.0 in subst (IsCauseOf script) e k.cause in
        let lt : change.0 < length group_changes = subst (λ (cs : List ChangeDef). change.0 < length cs) group.changes in_range in
        subst (λ (d : Reason). IsCastTo (table_from script v (caused script d table) exts) (in_place p (rebinding_of d ext.args ++ rebindings_at v exts))) (sym e)
        (ih (rebound (get_or script.changes change.0 no_change).table table) (broadcast_of change.0)
        (subst (λ (cs : List ChangeDef). IsCastTo (rebound (get_or cs change.0 no_change).table table) (broadcast_of change.0)) (sym group.changes)
        (changed-cast change.0 lt table p is)))

-- of a node after these admissions
pub cast_bound : (script : Script) → IsGroup script → (v : ℕ) (exts : List Ext) → Each (IsExtOf script) exts
    → get_or (table_of script exts v) 12 [] ≡ handler (in_place 4 (rebindings_at v exts)) 0 ∷ []
cast_bound script group v exts known =
    cast_from script group v exts known (first_table script) 4
    (ap (λ (ds : List EventDef). get_or (map (λ (d : EventDef). d.handlers) ds) 12 []) group.events)

-- the last rebinding decides
pub in_place-last : (p : ℕ) (rs : List Asking) (e : ℕ) (c : ChangeId) (arg : List ℕ) → length rs ≡ suc e → slice_get (map pair rs) e ≡ Some (c, arg) → in_place p rs ≡ broadcast_of c.0
in_place-last p [] e c arg len got = absurd (omega (arith, len))
in_place-last p (r ∷ []) zero c arg len got =
    let same : Some (pair r) ≡ Some (c, arg) = got in
    let change : r.change ≡ c = ap (λ (q : ChangeId × List ℕ). q.0) (some_inj same) in
    ap (λ (d : ChangeId). broadcast_of d.0) change
  where
    some_inj : {A : Type 0} {a b : A} → Some a ≡ Some b → a ≡ b
    some_inj e = cc
in_place-last p (r ∷ []) (suc e) c arg len got = absurd (omega (arith, len))
in_place-last p (r ∷ q ∷ rs) zero c arg len got = absurd (omega (arith, len))
in_place-last p (r ∷ q ∷ rs) (suc e) c arg len got = in_place-last (broadcast_of r.change.0) (q ∷ rs) e c arg (omega (arith, len)) got
