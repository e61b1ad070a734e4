-- The handlers of an attempt are tested one after another.
use Rattle.std.proofs.Common.{arith, ◌≤◌, ◌<◌, ◌+◌, suc, zero, take, drop, get_or, drop-cons, drop_of_length-le, add-one, ◌≡◌, ℕ, Bool, false, refl, sym, ap, ◌∙◌, ◌∷◌, [], List, length, Option, Some, None, ◌==◌}
use Rattle.std.proofs.lemmas.List.{take_more}
use Rattle.samoa_model.specs.declared.record.Entry.{Entry}
use Rattle.samoa_model.specs.declared.script.Decl.{Decl}
use Rattle.samoa_model.specs.declared.ids.HandlerId.{HandlerId}
use Rattle.samoa_model.specs.declared.handler.Refusal.{Refusal}
use Rattle.samoa_model.specs.Allowed.{refusal_of, first_refusal, attempt_all, or_next, unless_refused}
use Rattle.samoa_calls.specs.Tried.{refusal_in}

-- the first refusal among the handlers from a place on
abbrev pub refusal_from : Decl → List Entry → Option HandlerId → List HandlerId → ℕ → Option Refusal
refusal_from decl entries caller hs i = first_refusal decl entries caller (take i hs) (drop i hs)

pub refusal_from-at : (decl : Decl) (entries : List Entry) (caller : Option HandlerId) (hs : List HandlerId) (i : ℕ) (d : HandlerId) → i < length hs
    → refusal_from decl entries caller hs i ≡ or_next (refusal_of decl entries (take i hs) caller (get_or hs i d)) (refusal_from decl entries caller hs (i + 1))
refusal_from-at decl entries caller hs i d lt =
    let h : HandlerId = get_or hs i d in
    let tested : Option Refusal = refusal_of decl entries (take i hs) caller h in
    ap (λ (later : List HandlerId). first_refusal decl entries caller (take i hs) later) (drop-cons hs i d lt)
    ∙ (ap (λ (before : List HandlerId). or_next tested (first_refusal decl entries caller before (drop (suc i) hs))) (sym (take_more hs i d lt))
    ∙ ap (λ (j : ℕ). or_next tested (first_refusal decl entries caller (take (i + 1) hs) (drop j hs))) (sym (add-one i)))

-- a handler that is allowed is passed by
pub refusal_from-passed : (decl : Decl) (entries : List Entry) (caller : Option HandlerId) (hs : List HandlerId) (i : ℕ) (d : HandlerId) → i < length hs
    → None ≡ refusal_of decl entries (take i hs) caller (get_or hs i d) → refusal_from decl entries caller hs (i + 1) ≡ refusal_from decl entries caller hs i
refusal_from-passed decl entries caller hs i d lt none =
    sym (refusal_from-at decl entries caller hs i d lt
    ∙ ap (λ (r : Option Refusal). or_next r (refusal_from decl entries caller hs (i + 1))) (sym none))

pub refusal_from-refused : (decl : Decl) (entries : List Entry) (caller : Option HandlerId) (hs : List HandlerId) (i : ℕ) (d : HandlerId) (r : Refusal) → i < length hs
    → Some r ≡ refusal_of decl entries (take i hs) caller (get_or hs i d) → Some r ≡ refusal_from decl entries caller hs i
refusal_from-refused decl entries caller hs i d r lt some =
    sym (refusal_from-at decl entries caller hs i d lt
    ∙ ap (λ (q : Option Refusal). or_next q (refusal_from decl entries caller hs (i + 1))) (sym some))

-- all were passed by
pub refusal_from-none : (decl : Decl) (entries : List Entry) (caller : Option HandlerId) (hs : List HandlerId) (i : ℕ) → length hs ≤ i
    → None ≡ refusal_from decl entries caller hs i
refusal_from-none decl entries caller hs i le =
    sym (ap (λ (later : List HandlerId). first_refusal decl entries caller (take i hs) later) (drop_of_length-le hs le))

pub refusal_in-attempt : (decl : Decl) (entries : List Entry) (caller : Option HandlerId) (hs : List HandlerId) → zero < length hs
    → refusal_from decl entries caller hs 0 ≡ refusal_in (attempt_all decl entries caller hs)
refusal_in-attempt decl entries caller [] lt = absurd (omega arith)
refusal_in-attempt decl entries caller (h ∷ hs) lt = go (first_refusal decl entries caller [] (h ∷ hs))
  where
    go : (r : Option Refusal) → r ≡ refusal_in (unless_refused r h hs)
    go None = refl
    go (Some r) = refl

pub nonempty : (hs : List HandlerId) (b : Bool) → b ≡ (length hs == 0) → b ≡ false → zero < length hs
nonempty [] b e f = cc
nonempty (h ∷ hs) b e f = omega arith
