-- What a reader of a part of the tree returned.
use Rattle.std.specs.Prelude.{◌≡◌, ℕ, Bool, List, Vec, Result, Ok, Err, Option, Some, None, if◌then◌else◌}
use Rattle.std.specs.List.{list_all}
use Rattle.std.specs.declared.alloc.Global.{Global}
use Rattle.serde_json.specs.Data.{Data}
use Rattle.samoa_grammar.specs.Names.{is_name, is_handler_name}
use Rattle.samoa_grammar.specs.declared.fault.WalkFault.{WalkFault}
use Rattle.samoa_grammar.specs.declared.fault.WalkFault.TheVariants.{WrongForm}
use Rattle.samoa_form.specs.declared.stop.Stop.{Stop}
use Rattle.samoa_form.specs.declared.stop.Stop.TheVariants as stops
use Rattle.samoa_form.specs.declared.names.NameForm.{NameForm}
use Rattle.samoa_form.specs.declared.names.NameForm.TheVariants.{Plain, OfHandler}

-- A reader stopped at the first fault. Want of memory says nothing.
abbrev pub Stops : Stop → Option WalkFault → Type 0
Stops (stops.Fault f) fault = fault ≡ Some f
Stops stops.Memory fault = Unit {0}

-- A value exactly where the part has no fault, and then what the part means.
abbrev pub Reads : {X : Type 0} → Result X Stop → Option WalkFault → X → Type 0
Reads (Ok x) fault meaning = (fault ≡ None) × (x ≡ meaning)
Reads (Err e) fault meaning = Stops e fault

-- the same of a list on the heap
abbrev pub ReadsVec : {X : Type 0} → Result (Vec X Global) Stop → Option WalkFault → List X → Type 0
ReadsVec (Ok v) fault meaning = (fault ≡ None) × (v.items ≡ meaning)
ReadsVec (Err e) fault meaning = Stops e fault

-- The same in words of the whole tree: a value where it has no fault, and each fault is the first.
abbrev pub ReadsForm : {X : Type 0} → Result X Stop → Option WalkFault → X → Type 0
ReadsForm (Ok d) fault meaning = (fault ≡ None) × (d ≡ meaning)
ReadsForm (Err e) fault meaning = (f : WalkFault) → e ≡ stops.Fault f → fault ≡ Some f

-- items without keys, each of which passes
abbrev pub all_fault : (Data → Bool) → List ℕ → List Data → Option WalkFault
all_fault passes key ds = if list_all passes ds then None else Some (WrongForm key)

-- whether a part is a name of this form
abbrev pub is_named : NameForm → Data → Bool
is_named Plain d = is_name d
is_named OfHandler d = is_handler_name d
