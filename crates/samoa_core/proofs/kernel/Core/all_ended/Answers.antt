use Rattle.std.proofs.Common.{◌↔◌, subst}
use Rattle.std.specs.Prelude.{IsTrue}
use Rattle.samoa_invariant.specs.State as model
use Rattle.samoa_invariant.specs.Runs.{Trace, state}
use Rattle.samoa_core.proofs.kernel.Core.all_ended.Goals as goal

pub returns : goal.returns
returns g c = subst (λ (x : Trace). IsTrue c.all_ended.result ↔ model.AllEnded (state x)) c.self.view_is c.all_ended.ensures
