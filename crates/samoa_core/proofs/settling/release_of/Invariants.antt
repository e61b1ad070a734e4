use Rattle.std.proofs.Common.{◌-◌, ◌≡◌, ◌≤◌, ◌<◌, ℕ, length}
use Rattle.samoa_versions.specs.Ready.{is_member}
use Rattle.samoa_invariant.specs.Settling.{ReleasesOf}
use Rattle.samoa_control.specs.Since.{cleared_comps}
use Rattle.samoa_control.specs.Sound.{StillNeeds}
use Rattle.samoa_core.specs.Indexed.{IsIndexedBy}
use Rattle.samoa_core.specs.Passing.{place}
use Rattle.samoa_core.proofs.settling.release_of.Given as goal

abbrev pub invariant-loop-micro : goal.invariant-loop-micro
invariant-loop-micro g l = record {
  made : ReleasesOf l.fn.control l.control l.comp l.micro;
  indexed : IsIndexedBy l.control l.index;
  calm : (i : ℕ) → i ≤ place l.fn.control l.comp → is_member l.index.restless i ≡ is_member l.fn.index.restless i;
  kept : cleared_comps l.control < l.comp;
  same : cleared_comps l.control ≡ cleared_comps l.fn.control;
  admitted : l.comp ≤ length l.control.exts;
  needed : StillNeeds l.control l.comp l.needed;
  micros : length l.control.script.micros ≡ l.micros;
  below : l.micro ≤ l.micros;
}

abbrev pub decreases-loop-micro : goal.decreases-loop-micro
decreases-loop-micro g l = l.micros - l.micro
