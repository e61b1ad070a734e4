use Rattle.std.proofs.Common.{◌≡◌, ◌≤◌, ◌+◌, ◌++◌, map, take, drop}
use Rattle.std.specs.List.{count_by}
use Rattle.samoa_model.specs.declared.setup.Kind.{Kind}
use Rattle.samoa_model.specs.declared.script.MicroDef.{MicroDef}
use Rattle.samoa_model.specs.contracts.setup.KindPartialEq.TheImpl.{ghosts}
use Rattle.samoa_micro.specs.Covers.{count_of}
use Rattle.samoa_control.specs.Slots.{set_up_at}
use Rattle.samoa_control.proofs.slots.fill_node.Given as goal

-- the slots of the microprotocols so far are filled; the others are still in the stock, and as many are gone as were filled
abbrev pub invariant-loop-micro : goal.invariant-loop-micro
invariant-loop-micro g l = record {
  filled : l.boxes.items ≡ l.initial.boxes.items ++ map (set_up_at l.script l.node.0) (take l.micro-index l.micro-items);
  counts : (kind : Kind) → count_of l.initial.stock kind ≡ count_of l.stock kind + count_by (λ (micro : MicroDef). ghosts.eq micro.kind kind) (take l.micro-index l.micro-items);
  covers : (kind : Kind) → count_by (λ (micro : MicroDef). ghosts.eq micro.kind kind) (drop l.micro-index l.micro-items) ≤ count_of l.stock kind;
}
