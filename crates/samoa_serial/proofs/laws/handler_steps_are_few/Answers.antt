use Rattle.samoa_serial.proofs.Bound.{turns_of_event-at_most}
use Rattle.samoa_serial.proofs.laws.handler_steps_are_few.Goals as goal

pub returns : goal.returns
returns c = record { few = turns_of_event-at_most }
