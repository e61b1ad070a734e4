use Rattle.std.proofs.Common.{List, length, reverse, arith, length-append, ap, ◌∙◌, sym, Some}
use Rattle.std.proofs.lemmas.List.{length-reverse}
use Rattle.samoa_model.specs.declared.ids.HandlerId.{HandlerId}
use Rattle.samoa_serial.specs.declared.call.Active.{Active}
use Rattle.samoa_model.specs.declared.record.Entry.{Entry}
use Rattle.samoa_model.specs.Entries.{calls_made}
use Rattle.samoa_calls.proofs.Made.{length-entries_of, length_of_reverse}
use Rattle.samoa_serial.proofs.Lengths.{length-calls_from, length-to_begin, calls_made-append, calls_made-entries_of}
use Rattle.samoa_model.specs.Allowed.{Attempt}
use Rattle.samoa_model.specs.Allowed.{attempt_all}
use Rattle.samoa_serial.specs.World.{handler_of}
use Rattle.samoa_calls.specs.Tried.{active_after, entries_after}
use Rattle.samoa_calls.proofs.Tries.{accepts_is, refuses_is, entries_after-accepted, active_after-accepted}
use Rattle.samoa_calls.specs.Held.{Calling}
use Rattle.samoa_calls.proofs.calls.Calls.call.Goals as goal

pub wait-requires : goal.wait-requires
wait-requires c =
    let nonempty = length_of_reverse c.self.inside.active.items _ _ (ap (λ (x : Calling). x.active) c.self.view_is ∙ c.requires.active.2) in
    omega arith

pub invariant_of-self : goal.invariant_of-self
invariant_of-self c =
    let es = c.self.inside.entries.entries in
    let acc = accepts_is c.args.decl.now es (handler_of (Some c.innermost-call.result)) c.args.handlers.now (sym c.attempt-refused.ensures.refusal ∙ c.in-None.is) in
    let entries_are = c.attempt-refused.ensures.entries ∙ entries_after-accepted es (Some c.innermost-call.result) c.args.event c.args.arg _ _ acc in
    let active_are = c.attempt-refused.ensures.active ∙ active_after-accepted es _ c.args.arg _ _ acc in
    let entries_len = simp (length-append, length-entries_of, length-calls_from) at (ap (λ (xs : List Entry). length xs) entries_are) in
    let active_len = simp (length-append, length-reverse, length-to_begin, length-calls_from) at (ap (λ (xs : List Active). length xs) active_are) in
    let made_now = simp (calls_made-append, calls_made-entries_of, length-calls_from) at (ap calls_made entries_are) in
    let units_are = ap (λ (x : Calling). x.units) c.self.view_is in
    record {
      taken = omega arith;
      made = omega (arith, made_now);
      active_room = omega (arith, active_len, units_are);
      waiting_room = omega arith;
      entries_room = omega (arith, active_len, entries_len, units_are);
      numbers = omega (arith, units_are);
      counts = c.attempt-refused.ensures.visits;
      few_active = omega (arith, active_len);
      passed = omega arith;
      handlers_room = omega (arith, units_are);
      few_handlers = omega (arith, units_are);
      root = λ none. absurd (omega (arith, entries_len, ap (λ (hs : List HandlerId). length hs) acc.list));
    }

pub invariant_of-self-in-Some : goal.invariant_of-self-in-Some
invariant_of-self-in-Some c =
    let es = c.self.inside.entries.entries in
    let answer_of : Attempt = attempt_all c.args.decl.now es (handler_of (Some c.innermost-call.result)) c.args.handlers.now in
    let refuses = refuses_is answer_of c.in-Some.refusal (sym c.attempt-refused.ensures.refusal ∙ c.in-Some.is) in
    let entries_are = c.attempt-refused.ensures.entries ∙ ap (λ (a : Attempt). entries_after es (Some c.innermost-call.result) c.args.event c.args.arg a) refuses in
    let active_are = c.attempt-refused.ensures.active ∙ ap (λ (a : Attempt). active_after es (reverse c.wait.new.active.items) c.args.arg a) refuses in
    let entries_len = simp length-append at (ap (λ (xs : List Entry). length xs) entries_are) in
    let active_len = simp length-reverse at (ap (λ (xs : List Active). length xs) active_are) in
    let made_now = simp calls_made-append at (ap calls_made entries_are) in
    let units_are = ap (λ (x : Calling). x.units) c.self.view_is in
    record {
      taken = omega arith;
      made = omega (arith, made_now);
      active_room = omega (arith, active_len, units_are);
      waiting_room = omega arith;
      entries_room = omega (arith, active_len, entries_len, units_are);
      numbers = omega (arith, units_are);
      counts = c.attempt-refused.ensures.visits;
      few_active = omega (arith, active_len);
      passed = omega arith;
      handlers_room = omega (arith, units_are);
      few_handlers = omega (arith, units_are);
      root = λ none. absurd (omega (arith, entries_len));
    }
