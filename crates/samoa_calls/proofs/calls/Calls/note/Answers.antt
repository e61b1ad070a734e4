use Rattle.std.proofs.Common.{◌∷◌, [], arith, ap, ◌∙◌}
use Rattle.samoa_model.specs.Entries.{calls_made}
use Rattle.samoa_calls.proofs.Made.{length_of_reverse}
use Rattle.samoa_serial.proofs.Lengths.{calls_made-append}
use Rattle.samoa_calls.specs.Held.{Calling}
use Rattle.samoa_calls.proofs.Counts.{counts_noted}
use Rattle.samoa_calls.proofs.calls.Calls.note.Goals as goal

pub go_on-requires : goal.go_on-requires
go_on-requires c =
    let nonempty = length_of_reverse c.self.inside.active.items _ _ (ap (λ (x : Calling). x.active) c.self.view_is ∙ c.requires.active.2) in
    omega arith

pub invariant_of-self : goal.invariant_of-self
invariant_of-self c =
    let units_are = ap (λ (x : Calling). x.units) c.self.view_is in
    let made_now = ap calls_made c.push.ensures.entries in
    let entered = c.push.ensures.len in
    record {
      taken = omega arith;
      made = omega (arith, made_now, calls_made-append c.self.inside.entries.entries (c.args.entry ∷ []));
      active_room = omega (arith, units_are);
      waiting_room = omega (arith, units_are);
      entries_room = omega (arith, units_are);
      numbers = omega (arith, units_are);
      counts = counts_noted _ _ _ _ c.push.ensures.entries c.requires.no_call c.self.invariant.counts;
      few_active = omega arith;
      passed = omega arith;
      handlers_room = omega (arith, units_are);
      few_handlers = omega (arith, units_are);
      root = λ none. absurd (omega (arith, entered));
    }
