-- What is known of an accepted list, and that each handler step is at a declared microprotocol.
use Rattle.std.proofs.Common.{arith, ◌≡◌, ℕ, zero, suc, ◌+◌, ◌<◌, refl, sym, ap, ◌∙◌, subst, Bool, true, false, List, [], ◌∷◌, ◌++◌, Option, Some, None, if◌then◌else◌}
use Rattle.std.specs.Prelude.{nat_le}
use Rattle.std.proofs.lemmas.Bool.{leb-false}
use Rattle.samoa_serial.specs.declared.call.Active.{Active}
use Rattle.samoa_serial.specs.declared.call.Call.{Call}
use Rattle.samoa_serial.specs.declared.call.Due.{Due}
use Rattle.samoa_model.specs.declared.script.Decl.{Decl}
use Rattle.samoa_model.specs.declared.record.Entry.{Entry}
use Rattle.samoa_model.specs.declared.ids.EventId.{EventId}
use Rattle.samoa_model.specs.declared.ids.HandlerId.{HandlerId}
use Rattle.samoa_model.specs.declared.handler.Moment.{Moment}
use Rattle.samoa_model.specs.declared.handler.Outcome.{Outcome}
use Rattle.samoa_model.specs.declared.handler.Refusal.{Refusal}
use Rattle.samoa_serial.specs.declared.call.Waiting.{Waiting}
use Rattle.samoa_model.specs.Allowed.{Attempt, attempt_all, bound_in, declares, first_refusal, form_refuses, handlers_at, or_next, refusal_of, unless_refused, weight}
use Rattle.samoa_serial.specs.World.{Attempts, attempts_of, handler_of}
use Rattle.samoa_serial.specs.Calls.{Computation, take_outcome, take_outcome_at}
use Rattle.samoa_serial.specs.Alone.{next_at, next_of, next_step}
use Rattle.samoa_model.specs.Scripts.{resolve, Table}
use Rattle.samoa_model.specs.Entries.{calls_at}
use Rattle.samoa_serial.proofs.Declared.{AllActive, AllOf, begun_active}
use Rattle.samoa_invariant.specs.Play.{Play, table_of, point, drive, Never}
use Rattle.samoa_invariant.proofs.preservation.Steps.{some_injective}
use Rattle.samoa_invariant.proofs.preservation.Closed.{begun, IsClosed, closed_points}

or_next-none : (a b : Option Refusal) → or_next a b ≡ None → (a ≡ None) × (b ≡ None)
or_next-none None b e = (refl, e)
or_next-none (Some r) b e = cc

-- each handler of the list passes its test, after those before it
abbrev pub AllPass : Decl → List Entry → Option HandlerId → List HandlerId → List HandlerId → Type 0
AllPass decl es caller before [] = Unit {0}
AllPass decl es caller before (h ∷ hs) = (refusal_of decl es before caller h ≡ None) × AllPass decl es caller (before ++ h ∷ []) hs

all_pass : (decl : Decl) (es : List Entry) (caller : Option HandlerId) (before hs : List HandlerId) → first_refusal decl es caller before hs ≡ None
    → AllPass decl es caller before hs
all_pass decl es caller before [] e = tt
all_pass decl es caller before (h ∷ hs) e =
    let both : (refusal_of decl es before caller h ≡ None) × (first_refusal decl es caller (before ++ h ∷ []) hs ≡ None) = or_next-none _ _ e in
    (both.0, all_pass decl es caller (before ++ h ∷ []) hs both.1)

-- an accepted list is what the table has, and passed
pub record IsAccepted (decl : Decl) (table : Table) (es : List Entry) (caller : Option Call) (event : EventId) (h : HandlerId) (hs : List HandlerId) : Type 0 where
  pub is : resolve table event ≡ h ∷ hs
  pub pass : AllPass decl es (handler_of caller) [] (h ∷ hs)

pub is_accepted : (decl : Decl) (table : Table) (es : List Entry) (caller : Option Call) (event : EventId) (h : HandlerId) (hs : List HandlerId)
    → attempts_of decl table es caller event ≡ Attempt.Accepts h hs → IsAccepted decl table es caller event h hs
is_accepted decl table es caller event h hs e = go (resolve table event) refl e
  where
    unrefused : (r : Option Refusal) (g : HandlerId) (gs : List HandlerId) → unless_refused r g gs ≡ Attempt.Accepts h hs → (r ≡ None) × (g ∷ gs ≡ h ∷ hs)
    unrefused None g gs eq = let a : g ≡ h = cc in let b : gs ≡ hs = cc in (refl, cc)
    unrefused (Some r) g gs eq = cc

    go : (list : List HandlerId) → resolve table event ≡ list → attempt_all decl es (handler_of caller) list ≡ Attempt.Accepts h hs → IsAccepted decl table es caller event h hs
    go [] is eq = cc
    go (g ∷ gs) is eq =
        let both : (first_refusal decl es (handler_of caller) [] (g ∷ gs) ≡ None) × (g ∷ gs ≡ h ∷ hs) = unrefused (first_refusal decl es (handler_of caller) [] (g ∷ gs)) g gs eq in
        let none : first_refusal decl es (handler_of caller) [] (h ∷ hs) ≡ None =
        ap (λ (xs : List HandlerId). first_refusal decl es (handler_of caller) [] xs) (sym both.1) ∙ both.0 in
        record { is = is ∙ both.1; pass = all_pass decl es (handler_of caller) [] (h ∷ hs) none }

unless_else : {A : Type 0} (b : Bool) (x : Option A) (y : A) → (if b then x else Some y) ≡ None → (b ≡ true) × (x ≡ None)
unless_else true x y e = (refl, e)
unless_else false x y e = cc

some_unless : {A : Type 0} (b : Bool) (y : A) → (if b then Some y else None) ≡ None → b ≡ false
some_unless true y e = cc
some_unless false y e = refl

pub none_unless : {A : Type 0} (b : Bool) (y : A) → (if b then None else Some y) ≡ None → b ≡ true
none_unless true y e = refl
none_unless false y e = cc

one_if : (b : Bool) → b ≡ true → 0 < (if b then suc zero else zero)
one_if true e = omega arith
one_if false e = cc

pub passed_form : (decl : Decl) (es : List Entry) (caller : Option HandlerId) (before : List HandlerId) (h : HandlerId) → refusal_of decl es before caller h ≡ None
    → (declares decl h.micro.0 ≡ true) × (form_refuses decl es before caller h ≡ None)
passed_form decl es caller before h e = unless_else (declares decl h.micro.0) (form_refuses decl es before caller h) Refusal.Undeclared e

-- under a bound, what is called and what stands before in the list is below it
pub passed_bound : (bound n : ℕ) → (if nat_le bound n then Some Refusal.OverBound else None) ≡ None → n < bound
passed_bound bound n e = leb-false bound n (some_unless (nat_le bound n) Refusal.OverBound e)

pub passed_declared : (decl : Decl) (es : List Entry) (caller : Option HandlerId) (before : List HandlerId) (h : HandlerId) → refusal_of decl es before caller h ≡ None
    → 0 < weight decl h.micro.0
passed_declared (Decl.Set micros) es caller before h e =
    let both : (declares (Decl.Set micros) h.micro.0 ≡ true) × (form_refuses (Decl.Set micros) es before caller h ≡ None) = passed_form (Decl.Set micros) es caller before h e in
    one_if (declares (Decl.Set micros) h.micro.0) both.0
passed_declared (Decl.Bound bounds) es caller before h e =
    let both : (declares (Decl.Bound bounds) h.micro.0 ≡ true) × (form_refuses (Decl.Bound bounds) es before caller h ≡ None) = passed_form (Decl.Bound bounds) es caller before h e in
    let below : calls_at es h.micro.0 + handlers_at before h.micro.0 < bound_in bounds h.micro.0 = passed_bound _ _ both.1 in
    omega arith
passed_declared (Decl.Route vertices roots edges) es caller before h e =
    let both : (declares (Decl.Route vertices roots edges) h.micro.0 ≡ true) × (form_refuses (Decl.Route vertices roots edges) es before caller h ≡ None) =
    passed_form (Decl.Route vertices roots edges) es caller before h e in
    one_if (declares (Decl.Route vertices roots edges) h.micro.0) both.0

abbrev pub IsDeclared : Decl → HandlerId → Type 0
IsDeclared decl h = 0 < weight decl h.micro.0

all_declared : (decl : Decl) (es : List Entry) (caller : Option HandlerId) (before hs : List HandlerId) → AllPass decl es caller before hs → AllOf (IsDeclared decl) hs
all_declared decl es caller before [] all = tt
all_declared decl es caller before (h ∷ hs) all = (passed_declared decl es caller before h all.0, all_declared decl es caller (before ++ h ∷ []) hs all.1)

abbrev pub ActiveDeclared : Decl → List Active → List Waiting → List Entry → Type 0
ActiveDeclared decl active w es = AllActive (IsDeclared decl) active

accepted_declared : (decl : Decl) (table : Table) (es : List Entry) (caller : Option Call) (event : EventId) (arg : List ℕ) (h : HandlerId) (hs : List HandlerId) (rest : List Active)
    → attempts_of decl table es caller event ≡ Attempt.Accepts h hs → AllActive (IsDeclared decl) rest → AllActive (IsDeclared decl) (begun es arg (h ∷ hs) ++ rest)
accepted_declared decl table es caller event arg h hs rest e all =
    let a : IsAccepted decl table es caller event h hs = is_accepted decl table es caller event h hs e in
    begun_active (IsDeclared decl) arg _ (h ∷ hs) rest (all_declared decl es (handler_of caller) [] (h ∷ hs) a.pass) all

declared_closed : (decl : Decl) (table : Table) → IsClosed (attempts_of decl table) (ActiveDeclared decl)
declared_closed decl table = record {
  due = λ c d e rest w es k. k;
  drop = λ a rest w es k. k.1;
  cut = λ active w es k. tt;
  noted = λ active w es e plain k. k;
  later = λ a rest w es event arg k. k;
  called = λ a rest w es event arg h hs e k. accepted_declared decl table es (Some a.call) event arg h hs (a ∷ rest) e k;
  woken = λ first w es h hs e k. accepted_declared decl table es (Some first.asker) first.event first.arg h hs [] e tt;
  unwoken = λ first w es k. tt;
}

-- the next handler step is that of the innermost call
pub next_is_head : (Q : HandlerId → Type 0) (comp : Computation) (c : Call) (m : Moment) → AllActive Q comp.active → next_step comp ≡ Some (c, m) → Q c.handler
next_is_head Q comp c m all e = go comp.active all e
  where
    due : (a : Call) (d : Due) → Q a.handler → next_at a d ≡ Some (c, m) → Q c.handler
    due a (Due.Next now) q eq =
        let X : Type 0 = Call × Moment in
        let x : X = (a, now) in
        let y : X = (c, m) in
        let same : x ≡ y = some_injective {A = X} x y eq in
        subst (λ (z : Call × Moment). Q z.0.handler) same q
    due a (Due.Frame frame) q eq = cc

    go : (active : List Active) → AllActive Q active → next_of active ≡ Some (c, m) → Q c.handler
    go [] h eq = cc
    go (a ∷ rest) h eq = due a.call a.due h.0 eq

-- each handler step is at a declared microprotocol
pub meets_declared : (P : Play) (k n : ℕ) (c : Call) (m : Moment) → next_step (point P k n).comp ≡ Some (c, m) → 0 < weight (P.decl k) c.handler.micro.0
meets_declared P k n c m e =
    next_is_head (IsDeclared (P.decl k)) (point P k n).comp c m
    (closed_points P k (ActiveDeclared (P.decl k)) (declared_closed (P.decl k) (table_of P k)) tt
    (λ event arg h hs is. accepted_declared (P.decl k) (table_of P k) [] None event arg h hs [] is tt) n) e

-- with no call active nothing comes
pub idle_never : (attempt : Attempts) (comp : Computation) (p : ℕ) → comp.active ≡ [] → Never attempt comp p
idle_never attempt comp p idle os c m e = absurd (no (drive attempt comp os).active (stays comp os idle) e)
  where
    no : (active : List Active) → active ≡ [] → next_of active ≡ Some (c, m) → ⊥
    no [] none eq = cc
    no (a ∷ rest) none eq = cc

    take : (comp : Computation) (o : Outcome) (active : List Active) → active ≡ [] → (take_outcome_at attempt active comp.books comp.answer o).active ≡ []
    take x o [] none = refl
    take x o (a ∷ rest) none = cc

    stays : (x : Computation) (os : List Outcome) → x.active ≡ [] → (drive attempt x os).active ≡ []
    stays x [] none = none
    stays x (o ∷ os) none = stays (take_outcome attempt x o) os (take x o x.active none)
