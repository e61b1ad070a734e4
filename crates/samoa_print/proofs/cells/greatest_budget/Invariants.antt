use Rattle.std.proofs.Common.{◌≡◌, ◌≤◌, drop}
use Rattle.std.specs.Prelude.{max}
use Rattle.samoa_model.specs.Cells.{greatest_budget}
use Rattle.samoa_print.proofs.cells.greatest_budget.Given as goal

abbrev pub invariant-loop-decl : goal.invariant-loop-decl
invariant-loop-decl l = record {
  so_far : max l.most (greatest_budget (drop l.decl-index l.decls)) ≡ greatest_budget l.decls;
  few : l.most ≤ 256;
}
