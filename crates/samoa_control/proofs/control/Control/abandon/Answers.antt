use Rattle.samoa_model.specs.declared.record.Step.{Step}
use Rattle.samoa_control.proofs.Facts.{back}
use Rattle.samoa_control.proofs.Later.{later-step}
use Rattle.samoa_control.proofs.control.Control.abandon.Goals as goal

pub go_back-requires-clause-due : goal.go_back-requires-clause-due
go_back-requires-clause-due g c =
    rw c.comp-comp.ensures (record { number = c.requires.away.first; enabled = (back c.args.self.now c.args.turn c.recall.ensures c.requires.away).leaves })

pub go_back-requires-clause-kept : goal.go_back-requires-clause-kept
go_back-requires-clause-kept g c = rw c.comp-comp.ensures (back c.args.self.now c.args.turn c.recall.ensures c.requires.away).since

pub go_back-requires-clause-within : goal.go_back-requires-clause-within
go_back-requires-clause-within g c = rw c.micro-micro.ensures (back c.args.self.now c.args.turn c.recall.ensures c.requires.away).within

pub returns-clause-later : goal.returns-clause-later
returns-clause-later g c = later-step c.args.self.now _ (Step.Abandon c.comp-comp.result) c.recall.ensures.run c.go_back.ensures.step
