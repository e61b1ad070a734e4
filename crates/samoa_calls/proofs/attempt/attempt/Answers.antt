use Rattle.std.proofs.Common.{List, length, arith, length-append, ap, refl}
use Rattle.samoa_model.specs.declared.record.Entry.{Entry}
use Rattle.samoa_calls.proofs.Counts.{counts_entered, counts_noted, has_room}
use Rattle.samoa_calls.proofs.Made.{length-entries_of}
use Rattle.samoa_serial.proofs.Lengths.{length-calls_from}
use Rattle.samoa_calls.proofs.attempt.attempt.Goals as goal

pub refusal-refused-requires-clause-room : goal.refusal-refused-requires-clause-room
refusal-refused-requires-clause-room c = has_room _ _ _ c.args.handlers.now c.requires.visits c.requires.made c.requires.numbers c.requires.few

pub returns-in-None-clause-entries_capacity : goal.returns-in-None-clause-entries_capacity
returns-in-None-clause-entries_capacity c =
    let lengths = ap (λ (xs : List Entry). length xs) c.enter.ensures.entries in
    omega (arith, simp (length-append, length-entries_of, length-calls_from) at lengths)

pub returns-in-Some-clause-visits : goal.returns-in-Some-clause-visits
returns-in-Some-clause-visits c = counts_noted _ _ _ _ c.push.ensures.entries refl c.requires.visits

pub returns-in-None-clause-visits : goal.returns-in-None-clause-visits
returns-in-None-clause-visits c = counts_entered _ _ _ _ _ _ _ c.args.handlers.now c.enter.ensures.entries c.requires.visits (c.in-None.ensures.added refl)
