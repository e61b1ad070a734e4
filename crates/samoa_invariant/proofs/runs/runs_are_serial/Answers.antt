use Rattle.samoa_invariant.specs.Runs.{play, state}
use Rattle.samoa_invariant.proofs.refinement.Ends.{all_home}
use Rattle.samoa_invariant.proofs.representation.Traces.{final, invariant, points, served}
use Rattle.samoa_invariant.proofs.runs.runs_are_serial.Goals as goal

pub returns : goal.returns
returns c = record {
  answers = served;
  points = points;
  states = λ t node p run admitted all. final t run admitted all node p;
  home = λ t run. all_home (play t) (state t) (invariant t run);
}
