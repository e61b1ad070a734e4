use Rattle.std.proofs.Math.Path.{subst₂}
use Rattle.samoa_workers.specs.Seats.{HasWorked}
use Rattle.samoa_workers.proofs.crew.work_all.Goals as goal

pub returns : goal.returns
returns g c = λ i d h. let t = (c.for_each_mut.ensures i d h).1 in subst₂ HasWorked t.argument_is t.left t.call
