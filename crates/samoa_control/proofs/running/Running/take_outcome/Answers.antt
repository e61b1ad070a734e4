use Rattle.std.proofs.Common.{refl}
use Rattle.samoa_control.proofs.running.Running.take_outcome.Goals as goal

pub raise-requires-clause-there : goal.raise-requires-clause-there
raise-requires-clause-there c = rw (c.len.ensures, c.take_outcome-completed.ensures.ended c.requires.takes.first c.requires.takes.rest c.requires.takes.active) c.requires.takes.there

pub raise-requires-clause-below : goal.raise-requires-clause-below
raise-requires-clause-below c = rw (c.len.ensures, c.take_outcome-completed.ensures.ended c.requires.takes.first c.requires.takes.rest c.requires.takes.active) c.requires.takes.below

pub returns-clause-lv : goal.returns-clause-lv
returns-clause-lv c a rest is = rw (c.raise.ensures.lv, c.take_outcome-completed.ensures.ended a rest is, c.len.ensures, c.decl_in.ensures, c.decl.ensures) refl
