use Rattle.samoa_laws.proofs.text.Laws.{all_told, all_told_to}
use Rattle.samoa_laws.proofs.written.reports_tell_deliveries.Goals as goal

pub returns : goal.returns
returns c = record { all = all_told; limited = all_told_to }
