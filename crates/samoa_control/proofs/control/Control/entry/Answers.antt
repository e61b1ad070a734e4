use Rattle.std.proofs.Common.{ap}
use Rattle.std.specs.Prelude.{slice_get}
use Rattle.samoa_control.proofs.Answered.{entries_are}
use Rattle.samoa_control.proofs.control.Control.entry.Goals as goal

pub returns : goal.returns
returns g c =
    rw (c.entry.ensures, c.running.ensures.comp) (ap (λ es. slice_get es c.args.at) (entries_are c.args.self.now c.args.comp c.recall.ensures c.requires.kept c.requires.admitted c.requires.ended))
