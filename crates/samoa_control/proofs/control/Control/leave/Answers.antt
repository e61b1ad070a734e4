use Rattle.samoa_model.specs.declared.record.Step.{Step}
use Rattle.samoa_invariant.proofs.representation.Traces.{fewer}
use Rattle.samoa_control.proofs.Facts.{back}
use Rattle.samoa_control.proofs.Later.{later-step}
use Rattle.samoa_control.proofs.control.Control.leave.Goals as goal

pub go_home-requires-clause-due : goal.go_home-requires-clause-due
go_home-requires-clause-due g c =
    rw c.comp-comp.ensures (record { number = c.requires.away.first; enabled = (back c.args.self.now c.args.ran c.recall.ensures c.requires.away).leaves })

pub go_home-requires-clause-kept : goal.go_home-requires-clause-kept
go_home-requires-clause-kept g c = rw c.comp-comp.ensures (back c.args.self.now c.args.ran c.recall.ensures c.requires.away).since

pub go_home-requires-clause-within : goal.go_home-requires-clause-within
go_home-requires-clause-within g c = rw c.micro-micro.ensures (back c.args.self.now c.args.ran c.recall.ensures c.requires.away).within

pub returns-clause-later : goal.returns-clause-later
returns-clause-later g c = later-step c.args.self.now _ (Step.Leave c.comp-comp.result) c.recall.ensures.run c.go_home.ensures.step

pub returns-clause-fewer : goal.returns-clause-fewer
returns-clause-fewer g c =
    rw (c.go_home.ensures.step, c.comp-comp.ensures)
    (fewer c.args.self.now (Step.Leave c.args.ran.comp) c.recall.ensures.run tt (record { number = c.requires.away.first; enabled = (back c.args.self.now c.args.ran c.recall.ensures c.requires.away).leaves }))
