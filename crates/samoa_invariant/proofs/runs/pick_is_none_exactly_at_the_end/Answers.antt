use Rattle.samoa_invariant.proofs.progress.Onward.{ended-none, least-first, none-ended, pick-same}
use Rattle.samoa_invariant.proofs.runs.pick_is_none_exactly_at_the_end.Goals as goal

pub returns : goal.returns
returns c = record { determined = pick-same; ended = none-ended; none = ended-none; least = least-first }
