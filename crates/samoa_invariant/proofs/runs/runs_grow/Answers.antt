use Rattle.samoa_invariant.proofs.representation.Traces.{held_not_cleared, is_run-with_clear, is_run-with_ext, is_run-with_step, opening_is_run, state-clear, state-ext, state-step}
use Rattle.samoa_invariant.proofs.runs.runs_grow.Goals as goal

pub returns : goal.returns
returns c = record {
  opening = opening_is_run;
  step = is_run-with_step;
  step_state = state-step;
  clear = λ t run all held. is_run-with_clear t run all (held_not_cleared t held);
  clear_state = state-clear;
  ext = is_run-with_ext;
  ext_state = state-ext;
}
