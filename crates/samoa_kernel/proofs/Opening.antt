-- What further steps do to the open places of a journal.
use Rattle.std.proofs.Common.{arith, ◌≡◌, ◌≢◌, inl, inr, ℕ, zero, suc, ◌-◌, ◌<◌, ◌≤◌, List, [], ◌∷◌, ◌++◌, ◌||◌, length, Bool, true, false, not, Option, Some, None, refl, ap, sym, ◌∙◌, subst, length-append, append_assoc, append-nil, le_refl, eq-eqb, ne_eqb}
use Rattle.std.specs.List.{All}
use Rattle.std.proofs.Math.Bool.{or_assoc}
use Rattle.std.proofs.lemmas.Bool.{not-true, or_parts}
use Rattle.std.proofs.lemmas.List.Elements.{All-cons, All-head, All-nil, All-tail}
use Rattle.samoa_model.specs.declared.record.Step.{Step}
use Rattle.samoa_invariant.specs.Picking.{BringsBack}
use Rattle.samoa_turnstile.specs.Turning.{IsOwn, IsGrown, IsHandAfter}
use Rattle.samoa_kernel.specs.Opens.{closes, is_closed, is_open, open_below, stays_open}

-- an open step is an Enter that none of these closes
record IsBegun (x : Step) (later : List Step) : Type 0 where
  comp : ℕ
  micro : ℕ
  is : Step.Enter comp micro ≡ x
  unclosed : is_closed comp later ≡ false

begun_is : (x : Step) (later : List Step) → stays_open x later ≡ true → IsBegun x later
begun_is (Step.Admit comp) later e = absurd (cc e)
begun_is (Step.Enter comp micro) later e = record { comp = comp; micro = micro; is = refl; unclosed = not-true (is_closed comp later) e }
begun_is (Step.Leave comp) later e = absurd (cc e)
begun_is (Step.Abandon comp) later e = absurd (cc e)
begun_is (Step.Release comp micro) later e = absurd (cc e)
begun_is (Step.End comp) later e = absurd (cc e)

-- an open place: the Enter there, what stands before it, and the later steps, none of which closes it
pub record OpenAt (xs : List Step) (k : ℕ) : Type 0 where
  pub before : List Step
  pub comp : ℕ
  pub micro : ℕ
  pub later : List Step
  pub is : before ++ Step.Enter comp micro ∷ later ≡ xs
  pub place : length before ≡ k
  pub unclosed : is_closed comp later ≡ false

pub open_at : (xs : List Step) (k : ℕ) → is_open xs k ≡ true → OpenAt xs k
open_at [] k e = absurd (cc e)
open_at (x ∷ xs) zero e =
    let b = begun_is x xs e in record {
      before = [];
      comp = b.comp;
      micro = b.micro;
      later = xs;
      is = ap (λ (y : Step). y ∷ xs) b.is;
      place = refl;
      unclosed = b.unclosed;
    }
open_at (x ∷ xs) (suc k) e =
    let o = open_at xs k e in record {
      before = x ∷ o.before;
      comp = o.comp;
      micro = o.micro;
      later = o.later;
      is = ap (λ (ys : List Step). x ∷ ys) o.is;
      place = ap suc o.place;
      unclosed = o.unclosed;
    }

pub open_here : (xs : List Step) (x : Step) (ys : List Step) → is_open (xs ++ x ∷ ys) (length xs) ≡ stays_open x ys
open_here [] x ys = refl
open_here (y ∷ xs) x ys = open_here xs x ys

closed-append : (c : ℕ) (xs ys : List Step) → is_closed c (xs ++ ys) ≡ is_closed c xs || is_closed c ys
closed-append c [] ys = refl
closed-append c (x ∷ xs) ys = ap (λ (b : Bool). closes c x || b) (closed-append c xs ys) ∙ sym (or_assoc (closes c x) (is_closed c xs) (is_closed c ys))

-- an open place stays open exactly where none of the further steps closes it
open-append : (xs ys : List Step) (k : ℕ) (o : OpenAt xs k) → is_open (xs ++ ys) k ≡ not (is_closed o.comp ys)
open-append xs ys k o =
    let x : Step = Step.Enter o.comp o.micro in
    let split : xs ++ ys ≡ o.before ++ x ∷ (o.later ++ ys) = ap (λ (l : List Step). l ++ ys) (sym o.is) ∙ append_assoc o.before (x ∷ o.later) ys in
    ap (λ (l : List Step). is_open l k) split
    ∙ (ap (λ (n : ℕ). is_open (o.before ++ x ∷ (o.later ++ ys)) n) (sym o.place)
    ∙ (open_here o.before x (o.later ++ ys)
    ∙ ap not (closed-append o.comp o.later ys ∙ ap (λ (b : Bool). b || is_closed o.comp ys) o.unclosed)))

-- a place within the further steps
open_later : (xs ys : List Step) (k : ℕ) → length xs ≤ k → is_open (xs ++ ys) k ≡ is_open ys (k - length xs)
open_later [] ys k le = ap (is_open ys) (let e : k ≡ k - 0 = omega arith in e)
open_later (x ∷ xs) ys zero le = absurd (omega arith)
open_later (x ∷ xs) ys (suc k) le = open_later xs ys k (omega arith) ∙ ap (is_open ys) (let e : k - length xs ≡ suc k - suc (length xs) = omega arith in e)

-- steps that close what one computation has open and nothing else, and open nothing
pub record CloseOne (c : ℕ) (ys : List Step) : Type 0 where
  pub one : is_closed c ys ≡ true
  pub others : (d : ℕ) → d ≢ c → is_closed d ys ≡ false
  pub none : (k : ℕ) → is_open ys k ≡ false

module _ (old : List Step) (k : ℕ) (ys : List Step) (o : OpenAt old k) (close : CloseOne o.comp ys) where
  none_own : (l : ℕ) → IsOwn (Some k) old l → is_open (old ++ ys) l ≡ false
  none_own l (inl e) =
      let same : k ≡ l = cc e in
      subst (λ (n : ℕ). is_open (old ++ ys) n ≡ false) same (open-append old ys k o ∙ ap not close.one)
  none_own l (inr late) = open_later old ys l late ∙ close.none (l - length old)

  pub grown_closed : ((l : ℕ) (other : OpenAt old l) → other.comp ≡ o.comp → l ≡ k) → IsGrown is_open (Some k) old (old ++ ys)
  grown_closed alone = record {
    begins = (ys, refl);
    others = λ l opened ne.
        let other = open_at old l opened in
        let apart : other.comp ≢ o.comp = (λ e. ne (ap Some (sym (alone l other e)))) in
        open-append old ys l other ∙ ap not (close.others other.comp apart);
    at_most_one = λ l m a opened b also. let shut = none_own l a in absurd (cc (opened, shut));
  }

  pub hand_closed : (after : Option ℕ) → IsHandAfter is_open (Some k) old (old ++ ys) after → after ≡ None
  hand_closed None h = refl
  hand_closed (Some l) h = let opened = h.is_there l refl in let shut = none_own l (h.own l refl) in absurd (cc (opened, shut))

own_late : (old : List Step) (k : ℕ) → IsOwn None old k → length old ≤ k
own_late old k (inl e) = absurd (cc e)
own_late old k (inr le) = le

module _ (old : List Step) (c p : ℕ) where
  last_only : (k : ℕ) → IsOwn None old k → is_open (old ++ Step.Enter c p ∷ []) k ≡ true → k ≡ length old
  last_only k own opened =
      let late : length old ≤ k = own_late old k own in
      let below : k < length (old ++ Step.Enter c p ∷ []) = open_below (old ++ Step.Enter c p ∷ []) k opened in
      omega (arith, length-append old (Step.Enter c p ∷ []))

  pub grown_entered : IsGrown is_open None old (old ++ Step.Enter c p ∷ [])
  grown_entered = record {
    begins = (Step.Enter c p ∷ [], refl);
    others = λ k opened ne. open-append old (Step.Enter c p ∷ []) k (open_at old k opened);
    at_most_one = λ k l a opened b also. last_only k a opened ∙ sym (last_only l b also);
  }

  pub hand_entered : (after : Option ℕ) → IsHandAfter is_open None old (old ++ Step.Enter c p ∷ []) after → after ≡ Some (length old)
  hand_entered after h = h.only (length old) (inr (le_refl (length old))) (open_here old (Step.Enter c p) [])

module _ (old : List Step) where
  none_same : (k : ℕ) → IsOwn None old k → is_open old k ≡ true → ⊥
  none_same k own opened =
      let late : length old ≤ k = own_late old k own in
      let below : k < length old = open_below old k opened in
      absurd (omega arith)

  pub grown_same : IsGrown is_open None old old
  grown_same = record {
    begins = ([], append-nil old);
    others = λ k opened ne. opened;
    at_most_one = λ k l a opened b also. absurd (none_same k a opened);
  }

  pub hand_same : (after : Option ℕ) → IsHandAfter is_open None old old after → after ≡ None
  hand_same None h = refl
  hand_same (Some k) h = absurd (none_same k (h.own k refl) (h.is_there k refl))

-- a release or an end, which neither opens nor closes anything
abbrev pub IsPlain : Step → Type 0
IsPlain (Step.Release comp micro) = Unit {0}
IsPlain (Step.End comp) = Unit {0}
IsPlain _ = ⊥

plain_closes : (x : Step) (d : ℕ) → IsPlain x → closes d x ≡ false
plain_closes (Step.Admit comp) d plain = refl
plain_closes (Step.Enter comp micro) d plain = refl
plain_closes (Step.Leave comp) d plain = absurd plain
plain_closes (Step.Abandon comp) d plain = absurd plain
plain_closes (Step.Release comp micro) d plain = refl
plain_closes (Step.End comp) d plain = refl

plain_opens : (x : Step) (later : List Step) → IsPlain x → stays_open x later ≡ false
plain_opens (Step.Enter comp micro) later plain = absurd plain
plain_opens (Step.Admit comp) later plain = refl
plain_opens (Step.Leave comp) later plain = refl
plain_opens (Step.Abandon comp) later plain = refl
plain_opens (Step.Release comp micro) later plain = refl
plain_opens (Step.End comp) later plain = refl

plain_closed : (xs : List Step) (d : ℕ) → All IsPlain xs → is_closed d xs ≡ false
plain_closed [] d plain = refl
plain_closed (x ∷ xs) d plain =
    ap (λ (b : Bool). b || is_closed d xs) (plain_closes x d (All-head IsPlain x xs plain))
    ∙ plain_closed xs d (All-tail IsPlain x xs plain)

plain_open : (xs : List Step) (k : ℕ) → All IsPlain xs → is_open xs k ≡ false
plain_open [] k plain = refl
plain_open (x ∷ xs) zero plain = plain_opens x xs (All-head IsPlain x xs plain)
plain_open (x ∷ xs) (suc k) plain = plain_open xs k (All-tail IsPlain x xs plain)

-- a Leave and what is released and ends then
pub leave_closes : (c : ℕ) (ys : List Step) → All IsPlain ys → CloseOne c (Step.Leave c ∷ ys)
leave_closes c ys plain = record {
  one = ap (λ (b : Bool). b || is_closed c ys) (eq-eqb c c refl);
  others = λ d ne. ap (λ (b : Bool). b || is_closed d ys) (ne_eqb d c ne) ∙ plain_closed ys d plain;
  none = go;
}
  where
    go : (k : ℕ) → is_open (Step.Leave c ∷ ys) k ≡ false
    go zero = refl
    go (suc k) = plain_open ys k plain

pub abandon_closes : (c : ℕ) → CloseOne c (Step.Abandon c ∷ [])
abandon_closes c = record {
  one = ap (λ (b : Bool). b || false) (eq-eqb c c refl);
  others = λ d ne. ap (λ (b : Bool). b || false) (ne_eqb d c ne);
  none = go;
}
  where
    go : (k : ℕ) → is_open (Step.Abandon c ∷ []) k ≡ false
    go zero = refl
    go (suc k) = refl

-- steps that don't close what a computation has open don't bring it back
closes_not : (c : ℕ) (x : Step) → closes c x ≡ false → BringsBack c x → ⊥
closes_not c (Step.Admit comp) none back = back
closes_not c (Step.Enter comp micro) none back = back
closes_not c (Step.Leave comp) none back = let both = eq-eqb c comp (sym back) in cc (none, both)
closes_not c (Step.Abandon comp) none back = let both = eq-eqb c comp (sym back) in cc (none, both)
closes_not c (Step.Release comp micro) none back = back
closes_not c (Step.End comp) none back = back

pub closed_not : (c : ℕ) (xs : List Step) → is_closed c xs ≡ false → All (λ step. BringsBack c step → ⊥) xs
closed_not c [] none = All-nil (λ step. BringsBack c step → ⊥)
closed_not c (x ∷ xs) none =
    let both = or_parts (closes c x) (is_closed c xs) none in
    All-cons (λ step. BringsBack c step → ⊥) x xs (closes_not c x both.0) (closed_not c xs both.1)
