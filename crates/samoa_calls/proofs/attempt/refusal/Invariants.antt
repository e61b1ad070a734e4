use Rattle.std.proofs.Common.{◌≡◌, List, take}
use Rattle.samoa_model.specs.declared.record.Entry.{Entry}
use Rattle.samoa_calls.specs.Tried.{AreAdded, Counts}
use Rattle.samoa_calls.proofs.Passes.{refusal_from}
use Rattle.samoa_calls.proofs.attempt.refusal.Given as goal

abbrev pub invariant-loop-handler : goal.invariant-loop-handler
invariant-loop-handler l = record {
  tested : (entries : List Entry) → Counts l.initial.visits entries
      → refusal_from l.decl entries l.caller l.handlers l.handler-index ≡ refusal_from l.decl entries l.caller l.handlers 0;
  added : AreAdded l.initial.visits (take l.handler-index l.handlers) l.visits;
}
