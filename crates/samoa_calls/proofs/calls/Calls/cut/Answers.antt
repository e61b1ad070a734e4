use Rattle.std.proofs.Common.{arith, ap, ◌∙◌, refl}
use Rattle.samoa_model.specs.Entries.{calls_made}
use Rattle.samoa_calls.proofs.Made.{length_of_reverse}
use Rattle.samoa_serial.proofs.Lengths.{calls_made-append}
use Rattle.samoa_calls.specs.Held.{Calling}
use Rattle.samoa_calls.proofs.Counts.{counts_noted}
use Rattle.samoa_calls.proofs.calls.Calls.cut.Goals as goal

pub invariant_of-self : goal.invariant_of-self
invariant_of-self c =
    let nonempty = length_of_reverse c.self.inside.active.items _ _ (ap (λ (x : Calling). x.active) c.self.view_is ∙ c.requires.active.2) in
    let entered = c.push.ensures.len in
    let made_now = simp calls_made-append at (ap calls_made c.push.ensures.entries) in
    record {
      taken = omega arith;
      made = omega (arith, made_now);
      active_room = omega arith;
      waiting_room = omega arith;
      entries_room = omega arith;
      numbers = omega arith;
      counts = counts_noted _ _ _ _ c.push.ensures.entries refl c.self.invariant.counts;
      few_active = omega arith;
      passed = omega arith;
      handlers_room = omega arith;
      few_handlers = omega arith;
      root = λ none. absurd (omega (arith, entered));
    }
