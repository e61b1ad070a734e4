use Rattle.samoa_laws.proofs.broadcasts.Agree.{is_abcast, is_abcast_box, is_seqcast, is_seqcast_box}
use Rattle.samoa_laws.proofs.broadcasts.boxes_have_histories.Goals as goal

pub returns : goal.returns
returns c = record { abcast = is_abcast; seqcast = is_seqcast; abcast_any = is_abcast_box; seqcast_any = is_seqcast_box }
