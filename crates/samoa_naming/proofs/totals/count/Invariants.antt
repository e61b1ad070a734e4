use Rattle.std.proofs.Common.{◌≡◌, ◌≤◌, take}
use Rattle.std.specs.List.{count_by}
use Rattle.samoa_model.specs.contracts.setup.KindPartialEq.TheImpl.{ghosts}
use Rattle.samoa_grammar.specs.declared.draft.MicroDraft.{MicroDraft}
use Rattle.samoa_naming.proofs.totals.count.Given as goal

abbrev pub invariant-loop-micro : goal.invariant-loop-micro
invariant-loop-micro l = record {
  value : l.count ≡ count_by (λ (m : MicroDraft). ghosts.eq m.kind l.kind) (take l.micro-index l.micros);
  most : l.count ≤ l.micro-index;
}
