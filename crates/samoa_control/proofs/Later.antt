-- What a core that goes on keeps.
use Rattle.std.proofs.Common.{◌≡◌, ap, ◌∙◌, List, [], ◌∷◌, ◌++◌, append_assoc}
use Rattle.samoa_model.specs.declared.record.Step.{Step}
use Rattle.samoa_invariant.specs.Runs.{IsRun, Trace, state, with_step}
use Rattle.samoa_invariant.specs.Settling.{IsUnmoved, with_steps}
use Rattle.samoa_control.specs.Later.{IsLater, IsStill}
use Rattle.samoa_control.specs.Since.{cleared_comps}
use Rattle.samoa_control.proofs.Since.{cleared-more}

pub later-trans : (t u w : Trace) → IsLater t u → IsLater u w → IsLater t w
later-trans t u w a b = record {
  script = b.script ∙ a.script;
  cells = b.cells ∙ a.cells;
  exts = b.exts ∙ a.exts;
  clears = b.clears ∙ a.clears;
  steps = a.steps ++ b.steps;
  journal = b.journal ∙ (ap (λ (xs : List Step). xs ++ b.steps) a.journal ∙ append_assoc t.journal a.steps b.steps);
  cleared = b.cleared ∙ a.cleared;
}

-- more steps were made
pub later-made : (t u : Trace) (steps : List Step) → IsRun t → u ≡ with_steps t steps → IsLater t u
later-made t u steps run made = record {
  script = ap (λ (x : Trace). x.script) made;
  cells = ap (λ (x : Trace). x.cells) made;
  exts = ap (λ (x : Trace). x.exts) made;
  clears = ap (λ (x : Trace). x.clears) made;
  steps = steps;
  journal = ap (λ (x : Trace). x.journal) made;
  cleared = ap cleared_comps made ∙ cleared-more t steps run;
}

pub later-step : (t u : Trace) (step : Step) → IsRun t → u ≡ with_step t step → IsLater t u
later-step t u step run made = later-made t u (step ∷ []) run made

-- what has not moved is still
pub still-unmoved : (t u : Trace) → IsUnmoved (state t) (state u) → IsStill (state t) u
still-unmoved t u e = record { out = λ v p. ap (λ f. f v p) e.out; stopped = e.stopped }
