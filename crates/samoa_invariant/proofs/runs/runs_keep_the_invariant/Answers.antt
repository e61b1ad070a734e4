use Rattle.samoa_invariant.specs.Runs.{play, state}
use Rattle.samoa_invariant.proofs.refinement.Parts.{stands_serially}
use Rattle.samoa_invariant.proofs.representation.Traces.{count-few, count-most, invariant, reached}
use Rattle.samoa_invariant.proofs.runs.runs_keep_the_invariant.Goals as goal

pub returns : goal.returns
returns c = record {
  reached = reached;
  kept = invariant;
  parts = λ t run. stands_serially (play t) (state t) (invariant t run);
  admitted = count-most;
  few = count-few;
}
