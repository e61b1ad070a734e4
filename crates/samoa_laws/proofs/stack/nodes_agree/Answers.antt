use Rattle.samoa_laws.proofs.streams.Order.{comparable, comparable_then}
use Rattle.samoa_laws.proofs.streams.Words.{apart}
use Rattle.samoa_laws.proofs.consensus.Decided.{decisions}
use Rattle.samoa_laws.proofs.streams.Owed.{are_submitted, keeps_order}
use Rattle.samoa_laws.proofs.stack.nodes_agree.Goals as goal

pub returns : goal.returns
returns c = record {
  decisions = decisions;
  streams = λ script exts v u history. comparable script exts history (keeps_order script exts history) (are_submitted script exts history) v u;
  streams_then = λ script exts before after earlier later v u history is also.
      comparable_then script exts history (keeps_order script exts history) (are_submitted script exts history) before after earlier later is also v u;
  apart = apart;
}
