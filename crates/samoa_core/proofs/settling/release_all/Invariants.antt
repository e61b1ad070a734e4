use Rattle.std.proofs.Common.{◌-◌, ◌≡◌, ◌≤◌, length}
use Rattle.samoa_core.specs.Indexed.{IsIndexedBy}
use Rattle.samoa_core.specs.Settling.{ReleasesPast}
use Rattle.samoa_core.proofs.settling.release_all.Given as goal

abbrev pub invariant-loop-comp : goal.invariant-loop-comp
invariant-loop-comp g l = record {
  past : ReleasesPast l.fn.control l.control l.index l.past;
  indexed : IsIndexedBy l.control l.index;
  admitted : length l.control.exts ≡ l.admitted;
  below : l.past ≤ l.admitted;
}

abbrev pub decreases-loop-comp : goal.decreases-loop-comp
decreases-loop-comp g l = l.admitted - l.past
