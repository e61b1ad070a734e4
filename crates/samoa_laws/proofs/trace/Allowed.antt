-- That a list of admissions is allowed, one admission after another: for examples.
use Rattle.std.proofs.Common.{◌≡◌, ◌⊎◌, sym, ap, subst, ◌∙◌, List, [], ◌∷◌, ◌++◌, append-nil, append_assoc}
use Rattle.std.specs.Prelude.{⊤}
use Rattle.samoa_model.specs.declared.record.Ext.{Ext}
use Rattle.samoa_model.specs.declared.script.Script.{Script}
use Rattle.samoa_laws.specs.trace.Group.{IsFree, IsRebinding, IsWire}

abbrev pub Allowed : Script → List Ext → Ext → Type 0
Allowed script before ext = IsFree ext.cause ⊎ (IsWire script before ext ⊎ IsRebinding script before ext)

abbrev pub AllAllowed : Script → List Ext → List Ext → Type 0
AllAllowed script before [] = ⊤
AllAllowed script before (ext ∷ later) = Allowed script before ext × AllAllowed script (before ++ ext ∷ []) later

pub allowed_at : (script : Script) (start all : List Ext) → AllAllowed script start all → (before : List Ext) (ext : Ext) (later : List Ext) → all ≡ before ++ ext ∷ later
    → Allowed script (start ++ before) ext
allowed_at script start [] all [] ext later e = cc
allowed_at script start [] all (y ∷ before) ext later e = cc
allowed_at script start (x ∷ xs) all [] ext later e =
    let same : x ≡ ext = cc in
    subst (λ (xs : List Ext). Allowed script xs ext) (sym (append-nil start)) (subst (Allowed script start) same all.0)
allowed_at script start (x ∷ xs) all (y ∷ before) ext later e =
    let both : x ∷ xs ≡ y ∷ (before ++ ext ∷ later) = e in
    let head : x ≡ y = cc in
    let tail : xs ≡ before ++ ext ∷ later = cc in
    subst (λ (zs : List Ext). Allowed script zs ext) (append_assoc start (x ∷ []) before ∙ ap (λ (z : Ext). start ++ z ∷ before) head)
    (allowed_at script (start ++ x ∷ []) xs all.1 before ext later tail)
