use Rattle.std.proofs.Common.{inl, inr, refl}
use Rattle.samoa_run.specs.declared.status.Status.TheVariants.{Refused}
use Rattle.samoa_run.proofs.Replays.{gives}
use Rattle.samoa_run.proofs.replaying.refuse_script.Goals as goal

pub returns : goal.returns
returns g c = gives Refused _ c.refuse.result (inr (inl refl)) (cc, refl, refl) c.refuse.ensures.written c.refuse.ensures.statuses c.refuse.ensures.sink_failed
