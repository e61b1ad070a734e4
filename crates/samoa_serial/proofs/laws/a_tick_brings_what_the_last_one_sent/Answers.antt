use Rattle.samoa_serial.proofs.KeptLaws.{sent_by_none}
use Rattle.samoa_serial.proofs.LimitLaws.{by_each-one_more}
use Rattle.samoa_serial.proofs.RebindingLaws.{asked_by_none}
use Rattle.samoa_serial.proofs.laws.a_tick_brings_what_the_last_one_sent.Goals as goal

pub returns : goal.returns
returns c = record { sent = sent_by_none; asked = asked_by_none; one_more = by_each-one_more }
