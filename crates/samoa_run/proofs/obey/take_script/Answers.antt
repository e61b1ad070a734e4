use Rattle.std.proofs.Common.{Err, arith, refl}
use Rattle.samoa_script.proofs.Held.{held_valid}
use Rattle.samoa_run.specs.Readings.{IsFaultOf}
use Rattle.samoa_run.proofs.Obeying.{refused, stopped_by_memory}
use Rattle.samoa_run.proofs.Served.{no_longer, not_memory, reading_of_input}
use Rattle.samoa_run.proofs.obey.take_script.Goals as goal

pub returns-in-Ok-read_script-clause-valid : goal.returns-in-Ok-read_script-clause-valid
returns-in-Ok-read_script-clause-valid g c = held_valid _ _ c.in-Ok-read_script.ensures.ok

pub returns-in-Err-Memory-clause-refused : goal.returns-in-Err-Memory-clause-refused
returns-in-Err-Memory-clause-refused g c order = stopped_by_memory order _ refl

pub returns-in-Err-clause-refused : goal.returns-in-Err-clause-refused
returns-in-Err-clause-refused g c order = stopped_by_memory order _ refl

pub returns-clause-refused : goal.returns-clause-refused
returns-clause-refused g c order =
    let fails : IsFaultOf c.deref.result.now c.in-Err.fault = (c.in-Err.ensures.fault, not_memory c.in-Err.fault (cc)) in
    refused order c.in-Err.fault _ c.refuse.result
    (λ input left. reading_of_input _ _ input c.in-Ok.bytes.items c.deref.result.now (Err c.in-Err.fault) left c.in-Ok.ensures.read c.in-Ok.ensures.whole c.deref.ensures.value fails)
    (λ input left short. c.in-Ok.ensures.whole (omega (arith, short, no_longer _ _ input c.in-Ok.bytes.items left c.in-Ok.ensures.read)))
    c.refuse.ensures.written c.refuse.ensures.statuses c.refuse.ensures.sink_failed
