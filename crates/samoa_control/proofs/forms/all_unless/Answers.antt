use Rattle.std.proofs.Common.{◌≡◌, ◌∙◌, sym, true, false}
use Rattle.std.proofs.lemmas.Nat.Bits.{bit_at_ones}
use Rattle.samoa_control.proofs.forms.all_unless.Goals as goal

pub returns-else-done : goal.returns-else-done
returns-else-done c = λ p within. (
  (λ clear. absurd (let e : 1 ≡ 0 = sym (bit_at_ones 32 p within) ∙ clear in cc)),
  (λ done. absurd (let e : false ≡ true = sym c.if-done.false ∙ done in cc)),
)
