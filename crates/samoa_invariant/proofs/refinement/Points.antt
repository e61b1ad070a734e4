-- The serial run of one computation, handler step by handler step.
use Rattle.std.proofs.Common.{arith, ◌≡◌, ◌≢◌, ℕ, zero, suc, ◌+◌, ◌≤◌, ◌<◌, ◌⊎◌, inl, inr, refl, sym, ap, ◌∙◌, subst, List, [], ◌∷◌, ◌++◌, length, Option, Some, None, ne_eqb, add-zero}
use Rattle.samoa_serial.specs.declared.call.Call.{Call}
use Rattle.samoa_serial.specs.declared.call.Due.{Due}
use Rattle.samoa_serial.specs.declared.call.Active.{Active}
use Rattle.samoa_model.specs.declared.handler.Moment.{Moment}
use Rattle.samoa_model.specs.declared.handler.Outcome.{Outcome}
use Rattle.samoa_serial.specs.State.{State}
use Rattle.samoa_serial.specs.World.{Attempts, Rules, stepped, Turn}
use Rattle.samoa_serial.specs.Calls.{Computation, take_outcome}
use Rattle.samoa_serial.specs.Alone.{after, Machine, next_at, next_of, next_step, turn, turn_at, turn_due, turn_of}
use Rattle.samoa_serial.proofs.Point.{turn_is}
use Rattle.samoa_serial.proofs.Reach.{after-add}
use Rattle.samoa_serial.proofs.Refine.{ended, after-turns_of_event}
use Rattle.samoa_serial.proofs.End.{idle_is_ended}
use Rattle.samoa_model.specs.Allowed.{weight}
use Rattle.samoa_invariant.specs.Play.{Play, version, weight_at, rules, attempts, opened, point, stood, turns, whole_of, NotAt, Never, NotYet, done, done_one}
use Rattle.samoa_invariant.specs.Inv.{Meets}
use Rattle.std.proofs.lemmas.Bool.{cases_eq}
use Rattle.samoa_invariant.proofs.preservation.Versions.{if_here, if_else, version-mono, weight_at-is}

pub some_or_none : {A : Type 0} (x : Option A) → (x ≡ None) ⊎ ((y : A) × (x ≡ Some y))
some_or_none None = inl refl
some_or_none (Some y) = inr (y, refl)

pub turn_still : (rs : Rules) (m : Machine) → next_step m.comp ≡ None → turn rs m ≡ m
turn_still rs m e = go m.active e
  where
    due : (a : Call) (d : Due) → next_at a d ≡ None → turn_due rs m a d ≡ m
    due a (Due.Next now) e = cc
    due a (Due.Frame frame) e = refl

    go : (active : List Active) → next_of active ≡ None → turn_at rs m active ≡ m
    go [] e = refl
    go (a ∷ rest) e = due a.call a.due e

pub never_now : (attempt : Attempts) (comp : Computation) (p : ℕ) → Never attempt comp p → NotAt comp p
never_now attempt comp p h = h []

pub never_taken : (attempt : Attempts) (comp : Computation) (p : ℕ) (o : Outcome) → Never attempt comp p → Never attempt (take_outcome attempt comp o) p
never_taken attempt comp p o h = λ os. h (o ∷ os)

pub done-append : (ts : List Turn) (t : Turn) (p : ℕ) → done (ts ++ t ∷ []) p ≡ done ts p + done_one t p
done-append [] t p = omega arith
done-append (u ∷ us) t p = let ih : done (us ++ t ∷ []) p ≡ done us p + done_one t p = done-append us t p in omega arith

-- what one turn at another slot leaves alone
pub record Apart (attempt : Attempts) (m m' : Machine) (p : ℕ) : Type 0 where
  pub states : m'.states p ≡ m.states p
  pub done : done m'.turns p ≡ done m.turns p
  pub never : Never attempt m.comp p → Never attempt m'.comp p

pub apart_of : (rs : Rules) (m : Machine) (c : Call) (moment : Moment) (p : ℕ) → c.handler.micro.0 ≢ p → Apart rs.attempt m (turn_of rs m c moment) p
apart_of rs m c moment p ne =
    let ne' : p ≢ c.handler.micro.0 = λ e. ne (sym e) in
    let o : Outcome = (stepped rs m.states c moment).1 in
    let none : done_one (record { call = c; moment = moment; state = (stepped rs m.states c moment).0; outcome = o; before = length m.entries }) p ≡ zero =
    rw (ne_eqb p c.handler.micro.0 ne') refl in
    record {
      states = rw (ne_eqb p c.handler.micro.0 ne') refl;
      done = done-append m.turns _ p ∙ (ap (λ (x : ℕ). done m.turns p + x) none ∙ add-zero (done m.turns p));
      never = λ h. never_taken rs.attempt m.comp p o h;
    }

-- one turn, where the next handler step, if any, isn't at p
pub apart : (rs : Rules) (m : Machine) (p : ℕ) → NotAt m.comp p → Apart rs.attempt m (turn rs m) p
apart rs m p not_at = go (some_or_none (next_step m.comp))
  where
    go : (next_step m.comp ≡ None) ⊎ ((y : Call × Moment) × (next_step m.comp ≡ Some y)) → Apart rs.attempt m (turn rs m) p
    go (inl none) = subst (λ (x : Machine). Apart rs.attempt m x p) (sym (turn_still rs m none)) (record { states = refl; done = refl; never = λ h. h })
    go (inr some) =
        let c : Call = some.0.0 in
        let moment : Moment = some.0.1 in
        let is : next_step m.comp ≡ Some (c, moment) = some.1 in
        subst (λ (x : Machine). Apart rs.attempt m x p) (sym (turn_is rs m c moment is)) (apart_of rs m c moment p (not_at c moment is))

pub record Kept (attempt : Attempts) (m m' : Machine) (p : ℕ) : Type 0 where
  pub states : m'.states p ≡ m.states p
  pub never : Never attempt m'.comp p

-- where nothing comes at p any more, the state there stays
pub never_kept : (rs : Rules) (m : Machine) (p : ℕ) → Never rs.attempt m.comp p → (i : ℕ) → Kept rs.attempt m (after rs m i) p
never_kept rs m p h zero = record { states = refl; never = h }
never_kept rs m p h (suc i) =
    let ih : Kept rs.attempt m (after rs m i) p = never_kept rs m p h i in
    let one : Apart rs.attempt (after rs m i) (turn rs (after rs m i)) p = apart rs (after rs m i) p (never_now rs.attempt _ p ih.never) in
    record { states = one.states ∙ ih.states; never = one.never ih.never }

-- where no step was at p so far, nothing there has changed
pub record Untouched (P : Play) (k n p : ℕ) : Type 0 where
  pub states : (point P k n).states p ≡ stood P k (P.node k) p
  pub done : done (point P k n).turns p ≡ zero

pub untouched : (P : Play) (k n p : ℕ) → NotYet P k n p → Untouched P k n p
untouched P k zero p h = record { states = refl; done = refl }
untouched P k (suc n) p h =
    let ih : Untouched P k n p = untouched P k n p (λ i le. h i (omega arith)) in
    let one : Apart (attempts P k) (point P k n) (point P k (suc n)) p = apart (rules P k) (point P k n) p (h n (omega arith)) in
    record { states = one.states ∙ ih.states; done = one.done ∙ ih.done }

pub point_end : (P : Play) (k : ℕ) → point P k (turns P k) ≡ ended (whole_of P k)
point_end P k = after-turns_of_event (rules P k) (P.budget k) (stood P k (P.node k)) (P.root k) (P.args k)

-- nothing active: the end of the whole event
pub point_idle : (P : Play) (k n : ℕ) → (point P k n).active ≡ [] → point P k n ≡ ended (whole_of P k)
point_idle P k n e = idle_is_ended (rules P k) (P.budget k) (stood P k (P.node k)) (P.root k) (P.args k) n e

pub stood-own : (P : Play) (k p : ℕ) → stood P (suc k) (P.node k) p ≡ (point P k (turns P k)).states p
stood-own P k p = if_here {A = State} (P.node k) (P.node k) ((whole_of P k).world.states p) (stood P k (P.node k) p) refl ∙ sym (ap (λ (m : Machine). m.states p) (point_end P k))

pub stood-else : (P : Play) (k v p : ℕ) → v ≢ P.node k → stood P (suc k) v p ≡ stood P k v p
stood-else P k v p ne = if_else {A = State} v (P.node k) ((whole_of P k).world.states p) (stood P k v p) ne

-- the step that is made isn't past the end
pub next_within : (P : Play) (k n : ℕ) (c : Call) (m : Moment) → next_step (point P k n).comp ≡ Some (c, m) → n ≤ turns P k → suc n ≤ turns P k
next_within P k n c m next le = go (cases_eq n (turns P k))
  where
    go : (n ≡ turns P k) ⊎ (n ≢ turns P k) → suc n ≤ turns P k
    go (inl e) =
        let at_end : point P k n ≡ ended (whole_of P k) = ap (λ (i : ℕ). point P k i) e ∙ point_end P k in
        let none : next_step (point P k n).comp ≡ None = ap (λ (x : Machine). next_step x.comp) at_end in
        absurd (let no : Some (c, m) ≡ None = sym next ∙ none in cc)
    go (inr ne) = omega arith

-- nothing comes at p any more: what k leaves there stands already
pub never_ends : (P : Play) (k n p : ℕ) → Never (attempts P k) (point P k n).comp p → stood P (suc k) (P.node k) p ≡ (point P k n).states p
never_ends P k n p h =
    let later : Kept (attempts P k) (point P k n) (after (rules P k) (point P k n) (turns P k)) p = never_kept (rules P k) (point P k n) p h (turns P k) in
    let both : n + turns P k ≡ turns P k + n = omega arith in
    let first : after (rules P k) (point P k n) (turns P k) ≡ after (rules P k) (point P k (turns P k)) n =
    sym (after-add (rules P k) (opened P k) n (turns P k)) ∙ (ap (λ (i : ℕ). point P k i) both ∙ after-add (rules P k) (opened P k) (turns P k) n) in
    let idle : NotAt (point P k (turns P k)).comp p =
    λ c m e. absurd (let none : next_step (point P k (turns P k)).comp ≡ None = ap (λ (x : Machine). next_step x.comp) (point_end P k) in
    let no : Some (c, m) ≡ None = sym e ∙ none in cc) in
    let still : after (rules P k) (point P k (turns P k)) n ≡ ended (whole_of P k) =
    sym (after-add (rules P k) (opened P k) (turns P k) n)
    ∙ point_idle P k (turns P k + n) (ap (λ (x : Machine). x.active) (after-add (rules P k) (opened P k) (turns P k) n) ∙ stays (rules P k) (point P k (turns P k)) n (ap (λ (x : Machine). x.active) (point_end P k))) in
    stood-own P k p ∙ (ap (λ (x : Machine). x.states p) (point_end P k ∙ (sym still ∙ sym first)) ∙ later.states)
  where
    stays : (rs : Rules) (m : Machine) (i : ℕ) → m.active ≡ [] → (after rs m i).active ≡ []
    stays rs m zero e = e
    stays rs m (suc i) e =
        let ih : (after rs m i).active ≡ [] = stays rs m i e in
        ap (λ (x : Machine). x.active) (turn_still rs (after rs m i) (ap (λ (xs : List Active). next_of xs) ih)) ∙ ih

-- an undeclared microprotocol is left alone
pub undeclared : (P : Play) (k p : ℕ) → Meets P k → weight (P.decl k) p ≡ zero → stood P (suc k) (P.node k) p ≡ stood P k (P.node k) p
undeclared P k p meets none =
    let no : NotYet P k (turns P k) p =
    λ i le c m e is. let w : 0 < weight (P.decl k) c.handler.micro.0 = meets.declared i c m e in
    let same : weight (P.decl k) c.handler.micro.0 ≡ weight (P.decl k) p = ap (λ (q : ℕ). weight (P.decl k) q) is in omega arith in
    let u : Untouched P k (turns P k) p = untouched P k (turns P k) p no in
    stood-own P k p ∙ u.states

pub undeclared_at : (P : Play) (k v p : ℕ) → Meets P k → weight_at P k v p ≡ zero → stood P (suc k) v p ≡ stood P k v p
undeclared_at P k v p meets none = go (cases_eq v (P.node k))
  where
    go : (v ≡ P.node k) ⊎ (v ≢ P.node k) → stood P (suc k) v p ≡ stood P k v p
    go (inl e) =
        let w : weight (P.decl k) p ≡ zero = sym (weight_at-is P k v p e) ∙ none in
        subst (λ (u : ℕ). stood P (suc k) u p ≡ stood P k u p) (sym e) (undeclared P k p meets w)
    go (inr ne) = stood-else P k v p ne

-- where nobody from j to k declares a slot, its state stands
pub stood_same : (P : Play) (j k v p : ℕ) → ((i : ℕ) → i < k → Meets P i) → j ≤ k → version P j v p ≡ version P k v p → stood P k v p ≡ stood P j v p
stood_same P j zero v p meets le e = let z : zero ≡ j = omega arith in ap (λ (i : ℕ). stood P i v p) z
stood_same P j (suc k) v p meets le e =
    go (cases_eq j (suc k)) (λ h. stood_same P j k v p (λ i lt. meets i (omega arith)) h)
  where
    go : (j ≡ suc k) ⊎ (j ≢ suc k) → (j ≤ k → version P j v p ≡ version P k v p → stood P k v p ≡ stood P j v p) → stood P (suc k) v p ≡ stood P j v p
    go (inl is) ih = ap (λ (i : ℕ). stood P i v p) (sym is)
    go (inr ne) ih =
        let up : version P j v p ≤ version P k v p = version-mono P j k v p (omega arith) in
        let none : weight_at P k v p ≡ zero = omega arith in
        undeclared_at P k v p (meets k (omega arith)) none ∙ ih (omega arith) (omega arith)
