use Rattle.samoa_laws.proofs.text.Laws.{answers_agree, appends_order, appends_order_then, mute_order}
use Rattle.samoa_laws.proofs.written.what_is_appended_agrees.Goals as goal

pub returns : goal.returns
returns c = record {
  prefix = λ script calls old new group range written. appends_order script group range calls old new written;
  followed = λ script calls more old new group range mute written. appends_order_then script group range calls more old new mute written;
  mute = mute_order;
  at_any_status = λ script due status calls old new group range whole failed memory unread which.
      answers_agree script group range due status calls old new whole failed memory unread which;
}
