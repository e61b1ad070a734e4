use Rattle.std.proofs.Common.{◌≡◌, ◌<◌, ◌-◌, [], drop, length, All}
use Rattle.samoa_serial.specs.declared.call.Waiting.{Waiting}
use Rattle.samoa_serial.specs.World.{attempts_of}
use Rattle.samoa_serial.specs.Calls.{woken, Computation}
use Rattle.samoa_bind.specs.Bound.{table_at}
use Rattle.samoa_calls.specs.Kept.{IsKept, computation_of}
use Rattle.samoa_calls.proofs.Listed.{AreListed}
use Rattle.samoa_calls.proofs.calls.Calls.wake.Given as goal

abbrev pub invariant-loop-self : goal.invariant-loop-self
invariant-loop-self l = record {
  kept : IsKept l.self-inside;
  idle : l.self-inside.active.items ≡ [];
  names : All (λ (w : Waiting). w.event.0 < length (table_at l.tables l.node l.epoch)) (drop l.self-inside.taken l.self-inside.waiting.items);
  listed : AreListed (table_at l.tables l.node l.epoch) l.self-inside.handlers.items l.self-inside.passed (drop l.self-inside.taken l.self-inside.waiting.items);
  same : let now : Computation = computation_of l.self-inside in
      woken (attempts_of l.decl (table_at l.tables l.node l.epoch)) now.waiting now.books now.answer
      ≡ woken (attempts_of l.decl (table_at l.tables l.node l.epoch)) l.fn.self.waiting l.fn.self.books l.fn.self.answer;
}

abbrev pub decreases-loop-self : goal.decreases-loop-self
decreases-loop-self l = length l.self-inside.waiting.items - l.self-inside.taken
