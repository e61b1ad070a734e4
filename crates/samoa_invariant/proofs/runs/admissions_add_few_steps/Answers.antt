use Rattle.samoa_invariant.proofs.measure.Room.{admitted_left, turns-most}
use Rattle.samoa_invariant.proofs.runs.admissions_add_few_steps.Goals as goal

pub returns : goal.returns
returns c = record { added = admitted_left; steps = turns-most }
