use Rattle.std.proofs.Common.{◌≡◌, ◌≤◌, ◌-◌, ◌*◌}
use Rattle.std.specs.List.{count_by}
use Rattle.samoa_model.specs.declared.setup.Kind.{Kind}
use Rattle.samoa_model.specs.declared.script.MicroDef.{MicroDef}
use Rattle.samoa_model.specs.contracts.setup.KindPartialEq.TheImpl.{ghosts}
use Rattle.samoa_micro.specs.Covers.{count_of}
use Rattle.samoa_control.specs.Slots.{rows_of}
use Rattle.samoa_control.proofs.slots.Slots.set_up.Given as goal

-- the slots of the nodes so far are filled, and those of the others are still in the stock
abbrev pub invariant-loop-node : goal.invariant-loop-node
invariant-loop-node g l = record {
  filled : l.boxes.items ≡ rows_of l.script l.node;
  covers : (kind : Kind) → (l.script.nodes - l.node) * count_by (λ (micro : MicroDef). ghosts.eq micro.kind kind) l.script.micros ≤ count_of l.stock kind;
}
