use Rattle.serde_json.specs.View.{view}
use Rattle.samoa_script.proofs.Held.{tree_range}
use Rattle.samoa_script.proofs.reading.read_script.Goals as goal

pub returns-in-Ok-script-clause-in_range : goal.returns-in-Ok-script-clause-in_range
returns-in-Ok-script-clause-in_range c = tree_range (view c.in-Ok.value) c.in-Ok-script.script c.in-Ok-script.ensures.0 c.in-Ok-script.ensures.1
