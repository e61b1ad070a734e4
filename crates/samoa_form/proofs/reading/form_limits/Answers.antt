use Rattle.samoa_form.proofs.Limits.{draft_limits}
use Rattle.samoa_form.proofs.reading.form_limits.Goals as goal

pub returns : goal.returns
returns c = draft_limits
