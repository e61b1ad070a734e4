use Rattle.std.proofs.Common.{◌≡◌, List, length, reverse, arith, length-append, length-drop, ap, ◌∙◌, sym, None}
use Rattle.std.proofs.lemmas.List.{length-reverse}
use Rattle.samoa_model.specs.declared.record.Entry.{Entry}
use Rattle.samoa_model.specs.declared.ids.HandlerId.{HandlerId}
use Rattle.samoa_model.specs.Entries.{calls_made}
use Rattle.samoa_model.specs.Allowed.{Attempt, attempt_all}
use Rattle.samoa_serial.specs.declared.call.Active.{Active}
use Rattle.samoa_serial.specs.World.{handler_of}
use Rattle.samoa_serial.specs.Calls.{Computation}
use Rattle.samoa_calls.specs.Tried.{active_after, entries_after}
use Rattle.samoa_calls.proofs.Made.{length-entries_of}
use Rattle.samoa_serial.proofs.Lengths.{length-calls_from, length-to_begin, calls_made-append, calls_made-entries_of}
use Rattle.samoa_calls.proofs.Tries.{accepts_is, refuses_is, entries_after-accepted, active_after-accepted}
use Rattle.samoa_calls.specs.Held.{Calling}
use Rattle.samoa_calls.proofs.calls.Calls.start.Goals as goal

pub invariant_of-self : goal.invariant_of-self
invariant_of-self c =
    let es = c.self.inside.entries.entries in
    let was = ap (λ (x : Calling). x.comp) c.self.view_is ∙ c.requires.fresh in
    let no_entries : length es ≡ 0 = ap (λ (x : Computation). length x.entries) was in
    let none_active = simp length-reverse at (ap (λ (x : Computation). length x.active) was) in
    let none_waits = simp length-drop at (ap (λ (x : Computation). length x.waiting) was) in
    let room = c.self.invariant.root no_entries in
    let acc = accepts_is c.args.decl.now es (handler_of None) c.args.handlers.now (sym c.attempt-refused.ensures.refusal ∙ c.in-None.is) in
    let entries_are = c.attempt-refused.ensures.entries ∙ entries_after-accepted es None c.args.event c.args.arg _ _ acc in
    let active_are = c.attempt-refused.ensures.active ∙ active_after-accepted es _ c.args.arg _ _ acc in
    let entries_len = simp (length-append, length-entries_of, length-calls_from) at (ap (λ (xs : List Entry). length xs) entries_are) in
    let active_len = simp (length-append, length-reverse, length-to_begin, length-calls_from) at (ap (λ (xs : List Active). length xs) active_are) in
    let made_now = simp (calls_made-append, calls_made-entries_of, length-calls_from) at (ap calls_made entries_are) in
    record {
      taken = omega arith;
      made = omega (arith, made_now);
      active_room = omega (arith, active_len, none_active, none_waits, room.active);
      waiting_room = omega arith;
      entries_room = omega (arith, active_len, entries_len, none_active, none_waits, room.entries);
      numbers = omega (arith, none_waits, room.numbers);
      counts = c.attempt-refused.ensures.visits;
      few_active = omega (arith, active_len);
      passed = omega arith;
      handlers_room = omega arith;
      few_handlers = omega arith;
      root = λ none. absurd (omega (arith, entries_len, ap (λ (hs : List HandlerId). length hs) acc.list));
    }

pub invariant_of-self-in-Some : goal.invariant_of-self-in-Some
invariant_of-self-in-Some c =
    let es = c.self.inside.entries.entries in
    let was = ap (λ (x : Calling). x.comp) c.self.view_is ∙ c.requires.fresh in
    let no_entries : length es ≡ 0 = ap (λ (x : Computation). length x.entries) was in
    let none_active = simp length-reverse at (ap (λ (x : Computation). length x.active) was) in
    let none_waits = simp length-drop at (ap (λ (x : Computation). length x.waiting) was) in
    let room = c.self.invariant.root no_entries in
    let answer_of : Attempt = attempt_all c.args.decl.now es (handler_of None) c.args.handlers.now in
    let refuses = refuses_is answer_of c.in-Some.refusal (sym c.attempt-refused.ensures.refusal ∙ c.in-Some.is) in
    let entries_are = c.attempt-refused.ensures.entries ∙ ap (λ (a : Attempt). entries_after es None c.args.event c.args.arg a) refuses in
    let active_are = c.attempt-refused.ensures.active ∙ ap (λ (a : Attempt). active_after es (reverse c.self.inside.active.items) c.args.arg a) refuses in
    let entries_len = simp length-append at (ap (λ (xs : List Entry). length xs) entries_are) in
    let active_len = simp length-reverse at (ap (λ (xs : List Active). length xs) active_are) in
    let made_now = simp calls_made-append at (ap calls_made entries_are) in
    record {
      taken = omega arith;
      made = omega (arith, made_now);
      active_room = omega (arith, active_len, none_active, none_waits, room.active);
      waiting_room = omega arith;
      entries_room = omega (arith, active_len, entries_len, none_active, none_waits, room.entries);
      numbers = omega (arith, none_waits, room.numbers);
      counts = c.attempt-refused.ensures.visits;
      few_active = omega (arith, active_len);
      passed = omega arith;
      handlers_room = omega arith;
      few_handlers = omega arith;
      root = λ none. absurd (omega (arith, entries_len));
    }
