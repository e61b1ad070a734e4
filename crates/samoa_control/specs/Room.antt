-- How many steps are still to come, those that are abandoned included.
use Rattle.std.specs.Prelude.{ℕ, ◌+◌, ◌-◌, ◌*◌, Bool, true, false}
use Rattle.samoa_serial.specs.Alone.{next_step}
use Rattle.samoa_invariant.specs.Play.{Play}
use Rattle.samoa_invariant.specs.State.{Core, home_of, left, sum_to}

-- how many more handler steps of a computation may be abandoned: one, and in a stopped core only one that is out
abbrev pub spare_when : Bool → ℕ → ℕ
spare_when true home = 1 - home
spare_when false home = 1

abbrev pub spare_of : Play → Core → ℕ → ℕ
spare_of P core k = spare_when core.stopped (home_of P core k (next_step (core.comp k)))

-- what goes on, and for each handler step that may be abandoned its Abandon and the Enter that was in vain
abbrev pub to_come : Play → Core → ℕ
to_come P core = left P core + 2 * sum_to (spare_of P core) core.count
