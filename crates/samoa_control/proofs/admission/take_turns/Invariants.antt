use Rattle.std.proofs.Common.{◌-◌, ◌≡◌, ◌≤◌}
use Rattle.std.specs.Prelude.{vec_capacity}
use Rattle.samoa_control.specs.Admission.{raised, turns_taken}
use Rattle.samoa_control.proofs.admission.take_turns.Given as goal

abbrev pub invariant-loop-micro : goal.invariant-loop-micro
invariant-loop-micro l = record {
  turns : l.turns.items ≡ turns_taken l.decl l.columns l.node l.fn.versions.gv l.micro;
  gv : l.versions.gv ≡ raised l.decl l.columns l.node l.fn.versions.gv l.micro;
  lv : l.versions.lv ≡ l.fn.versions.lv;
  room : l.columns ≤ vec_capacity l.turns;
  below : l.micro ≤ l.columns;
}

abbrev pub decreases-loop-micro : goal.decreases-loop-micro
decreases-loop-micro l = l.columns - l.micro
