-- Journals that grow by steps that are due, one after another.
use Rattle.std.proofs.Common.{arith, ◌≡◌, suc, ◌⊎◌, inl, inr, refl, sym, ap, subst, ◌∙◌, List, [], ◌∷◌, ◌++◌, append_assoc}
use Rattle.std.specs.List.{All, AllPairs}
use Rattle.std.proofs.lemmas.List.{append-nil}
use Rattle.std.proofs.lemmas.List.Elements.{All-append, All-cons, All-head, All-tail, All-weaker}
use Rattle.std.proofs.lemmas.List.Kept.{AllPairs-cons}
use Rattle.samoa_model.specs.declared.record.Step.{Step}
use Rattle.samoa_invariant.specs.State.{Core}
use Rattle.samoa_invariant.specs.Runs.{CanMake, IsDue, IsRun, Trace, after_step, play, state, with_step}
use Rattle.samoa_invariant.specs.Settling.{AreDue, with_steps}
use Rattle.samoa_invariant.proofs.representation.Traces.{is_run-with_step, state-step}

pub with-none : (t : Trace) → with_steps t [] ≡ t
with-none t = ap (λ (xs : List Step). record t { journal = xs }) (append-nil t.journal)

pub with-more : (t : Trace) (x : Step) (xs : List Step) → with_steps t (x ∷ xs) ≡ with_steps (with_step t x) xs
with-more t x xs = ap (λ (ys : List Step). record t { journal = ys }) (sym (append_assoc t.journal (x ∷ []) xs))

pub with-both : (t : Trace) (xs ys : List Step) → with_steps t (xs ++ ys) ≡ with_steps (with_steps t xs) ys
with-both t xs ys = ap (λ (zs : List Step). record t { journal = zs }) (sym (append_assoc t.journal xs ys))

-- a step is due after another where it is enabled in the core that the other leaves
pub due-after : (t : Trace) (x y : Step) → IsRun t → IsDue (with_step t x) y → CanMake (play t) (after_step (play t) (state t) x) y
due-after t x y run due = subst (λ (c : Core). CanMake (play t) c y) (state-step t x run) due

pub after-due : (t : Trace) (x y : Step) → IsRun t → CanMake (play t) (after_step (play t) (state t) x) y → IsDue (with_step t x) y
after-due t x y run can = subst (λ (c : Core). CanMake (play t) c y) (sym (state-step t x run)) can

-- steps that are due make a run longer
pub run-with_steps : (t : Trace) (xs : List Step) → IsRun t → AreDue t xs → IsRun (with_steps t xs)
run-with_steps t [] run due = subst (λ (u : Trace). IsRun u) (sym (with-none t)) run
run-with_steps t (x ∷ xs) run due = subst (λ (u : Trace). IsRun u) (sym (with-more t x xs)) (run-with_steps (with_step t x) xs (is_run-with_step t x run due.0) due.1)

pub due-append : (t : Trace) (xs ys : List Step) → AreDue t xs → AreDue (with_steps t xs) ys → AreDue t (xs ++ ys)
due-append t [] ys due more = subst (λ (u : Trace). AreDue u ys) (with-none t) more
due-append t (x ∷ xs) ys due more = (due.0, due-append (with_step t x) xs ys due.1 (subst (λ (u : Trace). AreDue u ys) (with-more t x xs) more))

-- pairs of a list
pub pairs-head : {A : Type 0} (R : A → A → Type 0) (x : A) (xs : List A) → AllPairs R (x ∷ xs) → All (R x) xs
pairs-head R x xs pairs = λ k d lt. pairs 0 (suc k) d (omega arith) (omega arith)

pub pairs-tail : {A : Type 0} (R : A → A → Type 0) (x : A) (xs : List A) → AllPairs R (x ∷ xs) → AllPairs R xs
pairs-tail R x xs pairs = λ i j d less lt. pairs (suc i) (suc j) d (omega arith) (omega arith)

pub pairs-append : {A : Type 0} (R : A → A → Type 0) (xs ys : List A) → AllPairs R xs → AllPairs R ys → All (λ x. All (R x) ys) xs → AllPairs R (xs ++ ys)
pairs-append R [] ys first second cross = second
pairs-append R (x ∷ xs) ys first second cross =
    AllPairs-cons R x (xs ++ ys) (All-append (R x) xs ys (pairs-head R x xs first) (All-head (λ y. All (R y) ys) x xs cross))
    (pairs-append R xs ys (pairs-tail R x xs first) second (All-tail (λ y. All (R y) ys) x xs cross))

-- Of two lists of due steps of one kind, each in its order, that leave none of the kind due, each step of the one stands in
-- the other: a due step stays due while others are made.
module _ (Kind : Step → Type 0) (First : Step → Step → Type 0)
    (stays : (t : Trace) (x y : Step) → IsRun t → IsDue t x → IsDue t y → First x y → IsDue (with_step t y) x)
    (follows : (x y z : Step) → First x y → First y z → First x z)
    (order : (x y : Step) → Kind x → Kind y → First x y ⊎ ((x ≡ y) ⊎ First y x)) where
  remains : (t : Trace) (x : Step) (ys : List Step) → IsRun t → IsDue t x → AreDue t ys → All (First x) ys → IsDue (with_steps t ys) x
  remains t x [] run due dues first = subst (λ (u : Trace). IsDue u x) (sym (with-none t)) due
  remains t x (y ∷ ys) run due dues first =
      subst (λ (u : Trace). IsDue u x) (sym (with-more t y ys))
      (remains (with_step t y) x ys (is_run-with_step t y run dues.0) (stays t x y run due dues.0 (All-head (First x) y ys first)) dues.1 (All-tail (First x) y ys first))

  -- the first of the one list that the other lacks would be due at its end
  lacks : (t : Trace) (x y : Step) (ys : List Step) → IsRun t → Kind x → IsDue t x → AreDue t (y ∷ ys) → AllPairs First (y ∷ ys) → First x y
      → ((z : Step) → Kind z → IsDue (with_steps t (y ∷ ys)) z → ⊥) → ⊥
  lacks t x y ys run kind due dues rising first none =
      none x kind (remains t x (y ∷ ys) run due dues
      (All-cons (First x) y ys first (All-weaker (First y) (First x) (λ z. follows x y z first) ys (pairs-head First y ys rising))))

  pub same-steps : (t : Trace) (xs ys : List Step) → IsRun t → AreDue t xs → AreDue t ys → All Kind xs → All Kind ys → AllPairs First xs → AllPairs First ys
      → ((x : Step) → Kind x → IsDue (with_steps t xs) x → ⊥) → ((x : Step) → Kind x → IsDue (with_steps t ys) x → ⊥) → xs ≡ ys
  same-steps t [] [] run a b kinds others rising rises none no_other = refl
  same-steps t [] (y ∷ ys) run a b kinds others rising rises none no_other =
      absurd (none y (All-head Kind y ys others) (subst (λ (u : Trace). IsDue u y) (sym (with-none t)) b.0))
  same-steps t (x ∷ xs) [] run a b kinds others rising rises none no_other =
      absurd (no_other x (All-head Kind x xs kinds) (subst (λ (u : Trace). IsDue u x) (sym (with-none t)) a.0))
  same-steps t (x ∷ xs) (y ∷ ys) run a b kinds others rising rises none no_other =
      go (order x y (All-head Kind x xs kinds) (All-head Kind y ys others))
      (λ dues none_left. same-steps (with_step t x) xs ys (is_run-with_step t x run a.0) a.1 dues (All-tail Kind x xs kinds) (All-tail Kind y ys others)
      (pairs-tail First x xs rising) (pairs-tail First y ys rises) (λ z kind due. none z kind (subst (λ (u : Trace). IsDue u z) (sym (with-more t x xs)) due)) none_left)
    where
      go : First x y ⊎ ((x ≡ y) ⊎ First y x) → (AreDue (with_step t x) ys → ((z : Step) → Kind z → IsDue (with_steps (with_step t x) ys) z → ⊥) → xs ≡ ys) → x ∷ xs ≡ y ∷ ys
      go (inl first) ih = absurd (lacks t x y ys run (All-head Kind x xs kinds) a.0 b rises first no_other)
      go (inr (inr first)) ih = absurd (lacks t y x xs run (All-head Kind y ys others) b.0 a rising first none)
      go (inr (inl e)) ih =
          let back : y ≡ x = sym e in
          let same : xs ≡ ys = ih (subst (λ (z : Step). AreDue (with_step t z) ys) back b.1)
          (λ z kind due. no_other z kind (subst (λ (u : Trace). IsDue u z) (sym (with-more t y ys)) (subst (λ (w : Step). IsDue (with_steps (with_step t w) ys) z) e due))) in
          ap (λ (z : Step). z ∷ xs) e ∙ ap (λ (zs : List Step). y ∷ zs) same
