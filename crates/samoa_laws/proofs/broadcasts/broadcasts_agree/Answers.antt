use Rattle.samoa_laws.proofs.broadcasts.Agree.{abcast_agrees, seqcast_agrees}
use Rattle.samoa_laws.proofs.broadcasts.broadcasts_agree.Goals as goal

pub returns : goal.returns
returns c = record { abcast = abcast_agrees; seqcast = seqcast_agrees }
