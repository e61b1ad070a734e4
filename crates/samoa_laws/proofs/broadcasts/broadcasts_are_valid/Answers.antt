use Rattle.samoa_laws.proofs.broadcasts.Agree.{abcast_valid, begun_decided, seqcast_valid}
use Rattle.samoa_laws.proofs.broadcasts.Submitted.{proposed_submitted}
use Rattle.samoa_laws.proofs.broadcasts.broadcasts_are_valid.Goals as goal

pub returns : goal.returns
returns c = record {
  proposed = λ script exts i m history p. proposed_submitted script exts history i m p;
  decided = begun_decided;
  abcast = abcast_valid;
  seqcast = seqcast_valid;
}
