use Rattle.samoa_ledger.proofs.Closing.{closing_text-built}
use Rattle.samoa_ledger.proofs.text.push_closing.Goals as goal

pub returns : goal.returns
returns g c = closing_text-built _ c.args.core.now _ _ _ _ c.requires.script c.requires.counted c.in_ok-push_states.ensures c.in_ok-total_line.ensures.ok
