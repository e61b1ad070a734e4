-- What the declarations of a script in range name and allow.
use Rattle.std.proofs.Common.{◌≡◌, ℕ, ◌<◌, ◌≤◌, ◌⊎◌, inl, inr, Bool, true, false, ◌||◌, ◌==◌, List, [], ◌∷◌, length, map, refl, ap, ◌∙◌, subst, arith, eq-eqb, if◌then◌else◌}
use Rattle.std.specs.List.{All, list_any}
use Rattle.std.proofs.lemmas.Bool.{cases_lt}
use Rattle.std.proofs.lemmas.List.{get_or_past}
use Rattle.std.proofs.lemmas.List.Elements.{All-get_or, All-head, All-tail}
use Rattle.samoa_model.specs.Allowed.{bound_in, declares, weight}
use Rattle.samoa_model.specs.Range.{IsDeclOf, IsInRange}
use Rattle.samoa_model.specs.Scripts.{decl_at, no_decl}
use Rattle.samoa_model.specs.declared.ids.HandlerId.{HandlerId}
use Rattle.samoa_model.specs.declared.script.Decl.{Decl}
use Rattle.samoa_model.specs.declared.script.DeclDef.{DeclDef}
use Rattle.samoa_model.specs.declared.script.Script.{Script}
use Rattle.samoa_invariant.specs.State.{named}
use Rattle.samoa_invariant.proofs.progress.Progress.{IsIn, declared_named}

-- what is declared is named, and what is named is of the script
in_all : (n p : ℕ) (ps : List ℕ) → All (λ (q : ℕ). q < n) ps → IsIn p ps → p < n
in_all n p [] all never = absurd never
in_all n p (q ∷ qs) all (inl e) = subst (λ (r : ℕ). r < n) e (All-head (λ (r : ℕ). r < n) q qs all)
in_all n p (q ∷ qs) all (inr is) = in_all n p qs (All-tail (λ (r : ℕ). r < n) q qs all) is

at_all : (n p : ℕ) (vs : List HandlerId) → All (λ (v : HandlerId). v.micro.0 < n) vs → IsIn p (map (λ (v : HandlerId). v.micro.0) vs) → p < n
at_all n p [] all never = absurd never
at_all n p (v ∷ vs) all (inl e) = subst (λ (r : ℕ). r < n) e (All-head (λ (w : HandlerId). w.micro.0 < n) v vs all)
at_all n p (v ∷ vs) all (inr is) = at_all n p vs (All-tail (λ (w : HandlerId). w.micro.0 < n) v vs all) is

named_known : (script : Script) (d : Decl) (p : ℕ) → IsDeclOf script d → IsIn p (named d) → p < length script.micros
named_known script (Decl.Set micros) p has is = in_all (length script.micros) p micros has.known is
named_known script (Decl.Bound bounds) p has is = in_all (length script.micros) p (map (λ (b : ℕ × ℕ). b.0) bounds) has.0.known is
named_known script (Decl.Route vertices roots edges) p has is = at_all (length script.micros) p vertices has.known is

pub declares_known : (script : Script) → IsInRange script → (number p : ℕ) → 0 < weight (decl_at script number).decl p → p < length script.micros
declares_known script in_range number p declared = go (cases_lt number (length script.decls))
  where
    go : (number < length script.decls) ⊎ (length script.decls ≤ number) → p < length script.micros
    go (inl lt) =
        named_known script (decl_at script number).decl p
        (All-get_or (λ (d : DeclDef). IsDeclOf script d.decl) script.decls number no_decl lt in_range.decls)
        (declared_named (decl_at script number).decl p declared)
    go (inr le) =
        let none : decl_at script number ≡ no_decl = get_or_past script.decls number no_decl le in
        let some : 0 < weight no_decl.decl p = subst (λ (d : DeclDef). 0 < weight d.decl p) none declared in
        absurd (omega (arith, some))

-- no weight is more than 256
one_or_none : (b : Bool) → (if b then 1 else 0) ≤ 256
one_or_none true = omega arith
one_or_none false = omega arith

bound-most : (bounds : List (ℕ × ℕ)) (p : ℕ) → All (λ (b : ℕ × ℕ). (1 ≤ b.1) × (b.1 ≤ 256)) bounds → bound_in bounds p ≤ 256
bound-most [] p all = omega arith
bound-most (b ∷ bs) p all = go (b.0 == p) (All-head (λ (c : ℕ × ℕ). (1 ≤ c.1) × (c.1 ≤ 256)) b bs all).1 (bound-most bs p (All-tail (λ (c : ℕ × ℕ). (1 ≤ c.1) × (c.1 ≤ 256)) b bs all))
  where
    go : (same : Bool) → b.1 ≤ 256 → bound_in bs p ≤ 256 → (if same then b.1 else bound_in bs p) ≤ 256
    go true here rest = here
    go false here rest = rest

pub weight-most : (script : Script) (d : Decl) (p : ℕ) → IsDeclOf script d → weight d p ≤ 256
weight-most script (Decl.Set micros) p has = one_or_none (declares (Decl.Set micros) p)
weight-most script (Decl.Bound bounds) p has = bound-most bounds p has.1
weight-most script (Decl.Route vertices roots edges) p has = one_or_none (declares (Decl.Route vertices roots edges) p)

-- what is named has a weight
either_right : (a : Bool) → (a || true) ≡ true
either_right true = refl
either_right false = refl

in_any : (q : ℕ) (qs : List ℕ) → IsIn q qs → list_any (λ (r : ℕ). r == q) qs ≡ true
in_any q [] never = absurd never
in_any q (r ∷ rs) (inl e) = ap (λ (b : Bool). b || list_any (λ (s : ℕ). s == q) rs) (eq-eqb r q e)
in_any q (r ∷ rs) (inr is) = ap (λ (b : Bool). (r == q) || b) (in_any q rs is) ∙ either_right (r == q)

at_any : (q : ℕ) (vs : List HandlerId) → IsIn q (map (λ (v : HandlerId). v.micro.0) vs) → list_any (λ (v : HandlerId). v.micro.0 == q) vs ≡ true
at_any q [] never = absurd never
at_any q (v ∷ vs) (inl e) = ap (λ (b : Bool). b || list_any (λ (w : HandlerId). w.micro.0 == q) vs) (eq-eqb v.micro.0 q e)
at_any q (v ∷ vs) (inr is) = ap (λ (b : Bool). (v.micro.0 == q) || b) (at_any q vs is) ∙ either_right (v.micro.0 == q)

bound-some : (bounds : List (ℕ × ℕ)) (q : ℕ) → All (λ (b : ℕ × ℕ). (1 ≤ b.1) × (b.1 ≤ 256)) bounds → IsIn q (map (λ (b : ℕ × ℕ). b.0) bounds) → 0 < bound_in bounds q
bound-some [] q all never = absurd never
bound-some (b ∷ bs) q all is =
    go (b.0 == q) refl is (All-head (λ (c : ℕ × ℕ). (1 ≤ c.1) × (c.1 ≤ 256)) b bs all).0 (bound-some bs q (All-tail (λ (c : ℕ × ℕ). (1 ≤ c.1) × (c.1 ≤ 256)) b bs all))
  where
    go : (same : Bool) → (b.0 == q) ≡ same → IsIn q (map (λ (c : ℕ × ℕ). c.0) (b ∷ bs)) → 1 ≤ b.1 → (IsIn q (map (λ (c : ℕ × ℕ). c.0) bs) → 0 < bound_in bs q)
        → 0 < (if same then b.1 else bound_in bs q)
    go true e is here rest = omega (arith, here)
    go false e (inl same) here rest = let no : (b.0 == q) ≡ true = eq-eqb b.0 q same in cc
    go false e (inr is) here rest = rest is

some_weight : (b : Bool) → b ≡ true → 0 < (if b then 1 else 0)
some_weight true e = omega arith
some_weight false e = cc

pub named_declared : (script : Script) (d : Decl) (q : ℕ) → IsDeclOf script d → IsIn q (named d) → 0 < weight d q
named_declared script (Decl.Set micros) q has is = some_weight (declares (Decl.Set micros) q) (in_any q micros is)
named_declared script (Decl.Bound bounds) q has is = bound-some bounds q has.1 is
named_declared script (Decl.Route vertices roots edges) q has is = some_weight (declares (Decl.Route vertices roots edges) q) (at_any q vertices is)
