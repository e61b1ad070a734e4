-- What is due is of the script.
use Rattle.std.proofs.Common.{◌≡◌, Some, slice_get, List}
use Rattle.samoa_model.specs.declared.record.Ext.{Ext}
use Rattle.samoa_model.specs.Range.{IsExtOf, IsInRange}
use Rattle.samoa_invariant.specs.Runs.{Trace}
use Rattle.samoa_control.specs.Turns.{Going}
use Rattle.samoa_replay.specs.declared.course.Course.{Course}
use Rattle.samoa_replay.specs.Following.{IsReady, rest_of}
use Rattle.samoa_ledger.proofs.Histories.{first_of, part_named}

pub known : (t : Trace) (course : Course) (turns : List Going) → IsReady t course turns → IsInRange t.script → (ext : Ext) → slice_get (rest_of course) 0 ≡ Some ext → IsExtOf t.script ext
known t course turns r range ext there =
    first_of (IsExtOf t.script) (rest_of course) ext (part_named t.script t.exts course.tick (rest_of course) range r.follows.on_course.left) there
