use Rattle.samoa_serial.proofs.Refine.{after-turns_of_event}
use Rattle.samoa_serial.proofs.End.{idle_is_ended}
use Rattle.samoa_serial.proofs.laws.turns_agree_with_the_recursion.Goals as goal

pub returns : goal.returns
returns c = record { agree = after-turns_of_event; idle = idle_is_ended }
