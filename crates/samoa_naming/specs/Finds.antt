-- What a test of a script answers.
use Rattle.std.specs.Prelude.{◌≡◌, Result, Ok, Err, Option, None}
use Rattle.samoa_grammar.specs.declared.fault.WalkFault.{WalkFault}
use Rattle.samoa_form.specs.declared.stop.Stop.{Stop}
use Rattle.samoa_form.specs.Reads.{Stops}

-- It passes only where there is no fault, and each fault that it answers is the first. Want of memory says nothing.
abbrev pub Finds : {X : Type 0} → Result X Stop → Option WalkFault → Type 0
Finds (Ok x) fault = fault ≡ None
Finds (Err e) fault = Stops e fault
