-- How many handlers and calls there are at a microprotocol, over lists.
use Rattle.std.proofs.Common.{arith, ◌≡◌, ℕ, ◌+◌, Bool, true, false, cond, refl, ap, ◌∙◌, ◌∷◌, [], ◌++◌, ◌==◌, if◌then◌else◌, List, zero-add}
use Rattle.std.proofs.lemmas.List.Sums.{sum_by-append, sum_by_push}
use Rattle.samoa_model.specs.declared.record.Entry.{Entry}
use Rattle.samoa_model.specs.declared.ids.HandlerId.{HandlerId}
use Rattle.samoa_model.specs.Allowed.{handlers_at}
use Rattle.samoa_model.specs.Entries.{calls_at}

pub handlers_at-cons : (h : HandlerId) (hs : List HandlerId) (p : ℕ) → handlers_at (h ∷ hs) p ≡ cond (h.micro.0 == p) 1 0 + handlers_at hs p
handlers_at-cons h hs p =
    sum_by-append (λ (x : HandlerId). cond (x.micro.0 == p) 1 0) (h ∷ []) hs
    ∙ ap (λ (n : ℕ). n + handlers_at hs p) (zero-add (cond (h.micro.0 == p) 1 0))

pub handlers_at-snoc : (hs : List HandlerId) (h : HandlerId) (p : ℕ) → handlers_at (hs ++ h ∷ []) p ≡ handlers_at hs p + cond (h.micro.0 == p) 1 0
handlers_at-snoc hs h p = sum_by_push (λ (x : HandlerId). cond (x.micro.0 == p) 1 0) hs h

pub calls_at-append : (es fs : List Entry) (p : ℕ) → calls_at (es ++ fs) p ≡ calls_at es p + calls_at fs p
calls_at-append [] fs p = omega arith
calls_at-append (Entry.Accepted call caller handler arg ∷ es) fs p =
    let ih : calls_at (es ++ fs) p ≡ calls_at es p + calls_at fs p = calls_at-append es fs p in
    ap (λ (x : ℕ). if handler.micro.0 == p then x + 1 else x) ih ∙ go (handler.micro.0 == p) (calls_at es p) (calls_at fs p)
  where
    go : (b : Bool) (x y : ℕ) → (if b then x + y + 1 else x + y) ≡ (if b then x + 1 else x) + y
    go true x y = omega arith
    go false x y = refl
calls_at-append (_ ∷ es) fs p = calls_at-append es fs p
