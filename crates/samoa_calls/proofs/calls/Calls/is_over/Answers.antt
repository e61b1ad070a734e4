use Rattle.std.proofs.Common.{◌≡◌, length, ap, sym, ◌∙◌, arith}
use Rattle.std.proofs.lemmas.Bool.{eqb-true, eq-eqb}
use Rattle.samoa_calls.proofs.Nexts.{none_active, none_waits, all_taken}
use Rattle.samoa_calls.specs.Held.{Calling}
use Rattle.samoa_calls.proofs.calls.Calls.is_over.Goals as goal

pub returns-then-is_empty : goal.returns-then-is_empty
returns-then-is_empty c =
    let a = c.self.inside in
    let len : c.len.result ≡ length a.waiting.items = omega arith in
    let active = sym (ap (λ (x : Calling). x.active) c.self.view_is) ∙ none_active a.active.items _ _ (omega arith) c.is_empty.ensures c.if-is_empty.true in
    let waiting = ap (λ (x : Calling). x.waiting) c.self.view_is in (
      λ same. (active, sym waiting ∙ none_waits a.waiting.items a.taken (eqb-true _ _ same ∙ len)),
      λ none. eq-eqb _ _ (all_taken a.waiting.items a.taken c.self.invariant.taken (waiting ∙ none.1) ∙ sym len),
    )
