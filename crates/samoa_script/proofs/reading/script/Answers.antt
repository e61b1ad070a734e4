use Rattle.std.proofs.Common.{sym, subst}
use Rattle.serde_json.specs.View.{view}
use Rattle.samoa_form.specs.Limits.{HasLimits}
use Rattle.samoa_form.proofs.Limits.{draft_limits}
use Rattle.samoa_script.proofs.reading.script.Goals as goal

pub named-requires : goal.named-requires
named-requires c = subst HasLimits (sym c.in_ok-draft.ensures.reads.1) (draft_limits (view c.args.value.now) c.in_ok-draft.ensures.reads.0)
