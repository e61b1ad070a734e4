-- What a reader of the whole tree returned, fault by fault.
use Rattle.std.proofs.Common.{◌≡◌, Result, Ok, Err, Option, Some}
use Rattle.samoa_grammar.specs.declared.fault.WalkFault.{WalkFault}
use Rattle.samoa_form.specs.declared.stop.Stop.{Stop}
use Rattle.samoa_form.specs.declared.stop.Stop.TheVariants as stops
use Rattle.samoa_form.specs.Reads.{Stops, Reads, ReadsForm}

stop_is : (e : Stop) (fault : Option WalkFault) → Stops e fault → (f : WalkFault) → e ≡ stops.Fault f → fault ≡ Some f
stop_is (stops.Fault g) fault h f same = cc
stop_is stops.Memory fault h f same = absurd (cc)

pub reads_form : {X : Type 0} (r : Result X Stop) (fault : Option WalkFault) (meaning : X) → Reads r fault meaning → ReadsForm r fault meaning
reads_form (Ok x) fault meaning h = h
reads_form (Err e) fault meaning h = stop_is e fault h
