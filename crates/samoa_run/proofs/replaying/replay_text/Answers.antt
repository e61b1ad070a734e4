use Rattle.std.proofs.Common.{List, ℕ, subst}
use Rattle.samoa_grammar.specs.Held.{Holds}
use Rattle.samoa_script.proofs.Held.{held_valid}
use Rattle.samoa_run.specs.Readings.{IsFaultOf}
use Rattle.samoa_run.specs.Replays.{IsDueForJournal, held, refused, script_part}
use Rattle.samoa_run.proofs.Replays.{gives_more}
use Rattle.samoa_run.proofs.Served.{not_memory}
use Rattle.samoa_run.proofs.replaying.replay_text.Goals as goal

pub replay-requires-clause-valid : goal.replay-requires-clause-valid
replay-requires-clause-valid g c = held_valid _ _ c.in-Ok.ensures.ok

pub returns-in-Ok : goal.returns-in-Ok
returns-in-Ok g c =
    let holds : Holds (script_part c.args.text.now) c.in-Ok.script = subst (λ (t : List ℕ). Holds t c.in-Ok.script) c.split_line.ensures.line c.in-Ok.ensures.ok in
    gives_more (λ due text is. held c.in-Ok.script c.requires.short holds (subst (λ (t : List ℕ). IsDueForJournal c.in-Ok.script t due text) c.split_line.ensures.rest is)) c.replay.ensures

pub returns-in-Err : goal.returns-in-Err
returns-in-Err g c =
    gives_more (λ due text is.
    refused c.in-Err.fault c.requires.short
    (subst (λ (t : List ℕ). IsFaultOf t c.in-Err.fault) c.split_line.ensures.line (c.in-Err.ensures.fault, not_memory c.in-Err.fault is.0)) is.1 is.2)
    c.refuse_script.ensures
