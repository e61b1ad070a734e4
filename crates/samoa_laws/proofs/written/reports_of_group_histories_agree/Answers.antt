use Rattle.samoa_laws.proofs.text.Laws.{history_apart, history_comparable, report_streams}
use Rattle.samoa_laws.proofs.written.reports_of_group_histories_agree.Goals as goal

pub returns : goal.returns
returns c = record {
  told = λ script calls exts v range history. report_streams script history.group range calls exts history v;
  order = λ script calls others exts first second v u range history p q. history_comparable script range exts history calls others first second v u p q;
  apart = λ script calls exts first v range history p. history_apart script range exts history calls first v p;
}
