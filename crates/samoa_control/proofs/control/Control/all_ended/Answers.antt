use Rattle.std.proofs.Common.{subst, ◌≡◌, ◌↔◌, ◌==◌, true}
use Rattle.samoa_invariant.specs.State as model
use Rattle.samoa_invariant.specs.Runs.{Trace, state}
use Rattle.samoa_control.specs.Fields.{fields_of}
use Rattle.samoa_control.specs.Kept.{Fields, trace_of}
use Rattle.samoa_control.proofs.Counts.{ended-test}
use Rattle.samoa_control.proofs.control.Control.all_ended.Goals as goal

pub returns : goal.returns
returns g c =
    let fs : Fields = fields_of c.self.inside in
    subst (λ (x : Trace). ((fs.unended == 0) ≡ true) ↔ model.AllEnded (state x)) c.self.view_is (ended-test (state (trace_of fs)) fs.unended c.self.invariant.holds.unended)
