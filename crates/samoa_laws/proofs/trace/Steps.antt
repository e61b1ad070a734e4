-- What a later proof reads off a trace.
use Rattle.std.proofs.Common.{◌≡◌, ◌≢◌, ◌⊎◌, ℕ, inl, inr, refl, sym, ap, subst, ◌∙◌, arith, List, [], ◌∷◌, ◌++◌, length, true, false, ◌==◌, eq-eqb}
use Rattle.std.proofs.lemmas.Bool.Decides.{eqb_tells}
use Rattle.samoa_model.specs.declared.record.Ext.{Ext}
use Rattle.samoa_model.specs.declared.script.Script.{Script}
use Rattle.samoa_serial.specs.World.{States}
use Rattle.samoa_serial.specs.Lists.{Each, In}
use Rattle.samoa_laws.specs.trace.Trace.{HandlerStep, is_done, micro_of, state_at}
use Rattle.samoa_laws.specs.trace.Causes.{FollowsIn, IsNext, IsNextIn, IsTrace, Setting, setting_of}

-- the step is at box p of node v
abbrev pub IsAt : HandlerStep → ℕ → ℕ → Type 0
IsAt x v p = (v ≡ x.node) × (p ≡ micro_of x)

abbrev pub IsAway : HandlerStep → ℕ → ℕ → Type 0
IsAway x v p = IsAt x v p → ⊥

pub at_or_away : (x : HandlerStep) (v p : ℕ) → IsAt x v p ⊎ IsAway x v p
at_or_away x v p = go (eqb_tells v x.node) (eqb_tells p (micro_of x))
  where
    go : ((v == x.node) ≡ true) × (v ≡ x.node) ⊎ ((v == x.node) ≡ false) × (v ≢ x.node)
        → ((p == micro_of x) ≡ true) × (p ≡ micro_of x) ⊎ ((p == micro_of x) ≡ false) × (p ≢ micro_of x) → IsAt x v p ⊎ IsAway x v p
    go (inl here) (inl there) = inl (here.1, there.1)
    go (inl here) (inr there) = inr (λ at. there.1 at.1)
    go (inr here) there = inr (λ at. here.1 at.0)

-- the state of a box after a step there is the step's new state, and a step elsewhere leaves it
pub state_at-here : (opening : ℕ → States) (x : HandlerStep) (past : List HandlerStep) (v p : ℕ) → IsAt x v p → state_at opening (x ∷ past) v p ≡ x.new
state_at-here opening x past v p at = rw (eq-eqb v x.node at.0) (rw (eq-eqb p (micro_of x) at.1) refl)

pub state_at-away : (opening : ℕ → States) (x : HandlerStep) (past : List HandlerStep) (v p : ℕ) → IsAway x v p
    → state_at opening (x ∷ past) v p ≡ state_at opening past v p
state_at-away opening x past v p away = go (eqb_tells v x.node) (eqb_tells p (micro_of x))
  where
    go : ((v == x.node) ≡ true) × (v ≡ x.node) ⊎ ((v == x.node) ≡ false) × (v ≢ x.node)
        → ((p == micro_of x) ≡ true) × (p ≡ micro_of x) ⊎ ((p == micro_of x) ≡ false) × (p ≢ micro_of x)
        → state_at opening (x ∷ past) v p ≡ state_at opening past v p
    go (inl here) (inl there) = absurd (away (here.1, there.1))
    go (inl here) (inr there) = rw here.0 (rw there.0 refl)
    go (inr here) there = rw here.0 refl

-- steps elsewhere leave the state of a box
pub state_at-all_away : (opening : ℕ → States) (more past : List HandlerStep) (v p : ℕ) → Each (λ (z : HandlerStep). IsAway z v p) more
    → state_at opening (more ++ past) v p ≡ state_at opening past v p
state_at-all_away opening [] past v p away = refl
state_at-all_away opening (z ∷ more) past v p away =
    state_at-away opening z (more ++ past) v p away.0 ∙ state_at-all_away opening more past v p away.1

-- the part of a trace before one of its steps
pub record Before (script : Script) (exts : List Ext) (past : List HandlerStep) (x : HandlerStep) : Type 0 where
  pub more : List HandlerStep
  pub earlier : List HandlerStep
  pub split : past ≡ more ++ x ∷ earlier
  pub follows : FollowsIn script exts earlier x
  pub is_trace : IsTrace script exts earlier

pub before : (script : Script) (exts : List Ext) (past : List HandlerStep) (x : HandlerStep) → IsTrace script exts past → In x past → Before script exts past x
before script exts [] x trace there = absurd there
before script exts (y ∷ past) x trace (inl e) =
    subst (λ (z : HandlerStep). Before script exts (y ∷ past) z) (sym e)
    (record { more = []; earlier = past; split = refl; follows = trace.0; is_trace = trace.1 })
before script exts (y ∷ past) x trace (inr there) =
    let b = before script exts past x trace.1 there in
    record { more = y ∷ b.more; earlier = b.earlier; split = ap (λ (zs : List HandlerStep). y ∷ zs) b.split; follows = b.follows; is_trace = b.is_trace }

-- a later part of a trace leaves a trace
pub trace-rest : (script : Script) (exts : List Ext) (more past : List HandlerStep) → IsTrace script exts (more ++ past) → IsTrace script exts past
trace-rest script exts [] past trace = trace
trace-rest script exts (x ∷ more) past trace = trace-rest script exts more past trace.1

-- one number, one computation
pub same_admission : (before before' : List Ext) (ext ext' : Ext) (later later' : List Ext) → length before ≡ length before'
    → before ++ ext ∷ later ≡ before' ++ ext' ∷ later' → (before ≡ before') × (ext ≡ ext')
same_admission [] [] ext ext' later later' len e = (refl, let both : ext ∷ later ≡ ext' ∷ later' = e in cc)
same_admission [] (y ∷ ys) ext ext' later later' len e = absurd (omega (arith, len))
same_admission (x ∷ xs) [] ext ext' later later' len e = absurd (omega (arith, len))
same_admission (x ∷ xs) (y ∷ ys) ext ext' later later' len e =
    let both : x ∷ (xs ++ ext ∷ later) ≡ y ∷ (ys ++ ext' ∷ later') = e in
    let tails : xs ++ ext ∷ later ≡ ys ++ ext' ∷ later' = cc in
    let heads : x ≡ y = cc in
    let ih = same_admission xs ys ext ext' later later' (omega (arith, len)) tails in
    (ap (λ (zs : List Ext). x ∷ zs) ih.0 ∙ ap (λ (z : Ext). z ∷ ys) heads, ih.1)

-- the setting of a step's computation
abbrev pub setting : {script : Script} {exts : List Ext} {past : List HandlerStep} {x : HandlerStep} → FollowsIn script exts past x → Setting
setting {script} f = setting_of script f.before f.ext

pub same_setting : (script : Script) (exts : List Ext) (past past' : List HandlerStep) (x y : HandlerStep) (f : FollowsIn script exts past x) (g : FollowsIn script exts past' y)
    → x.comp ≡ y.comp → setting f ≡ setting g
same_setting script exts past past' x y f g e =
    let len : length f.before ≡ length g.before = sym f.follows.comp ∙ (e ∙ g.follows.comp) in
    let same = same_admission f.before g.before f.ext g.ext f.later g.later len (sym f.admitted ∙ g.admitted) in
    ap (λ (before : List Ext). setting_of script before f.ext) same.0 ∙ ap (λ (ext : Ext). setting_of script g.before ext) same.1

-- after a step that took effect and is not done comes the next step of its computation
pub goes_on_at_once : (script : Script) (exts : List Ext) (b : HandlerStep) (past : List HandlerStep) (x : HandlerStep) (f : FollowsIn script exts (b ∷ past) x)
    → b.effective ≡ true → is_done b.outcome ≡ false → IsNext (setting f) b x.call x.moment
goes_on_at_once script exts b past x f effective asks = go f.follows.next
  where
    go : IsNextIn (setting f) (b ∷ past) x.call x.moment → IsNext (setting f) b x.call x.moment
    go (inl next) = next
    go (inr first) = absurd (let both : true ≡ false = sym (first.ended effective) ∙ asks in cc)
