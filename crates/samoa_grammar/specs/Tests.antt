-- The tests of the walk on one part of the tree. A key's value is tested under the key's name.
use Rattle.std.specs.Prelude.{ℕ, Bool, ◌&&◌, List, length, nat_le, nat_lt, Option, Some, None, if◌then◌else◌}
use Rattle.std.specs.List.{list_all}
use Rattle.std.specs.Option.{option_map_or}
use Rattle.serde_json.specs.Data.{Data}
use Rattle.serde_json.specs.Find.{get}
use Rattle.samoa_grammar.specs.declared.fault.WalkFault.{WalkFault}
use Rattle.samoa_grammar.specs.declared.fault.WalkFault.TheVariants.{Missing, WrongForm, Over}
use Rattle.samoa_grammar.specs.Tree.{has_only, is_list, list_of, is_number, number_of}
use Rattle.samoa_grammar.specs.Names.{is_name}
use Rattle.samoa_grammar.specs.Walks.{◌then◌, first_along}

-- an object under this name, with keys from its table alone
abbrev pub object_fault : List ℕ → List (List ℕ) → Data → Option WalkFault
object_fault name keys d = if has_only keys d then None else Some (WrongForm name)

-- a key that must be there
abbrev pub required : List ℕ → (List ℕ → Data → Option WalkFault) → Data → Option WalkFault
required key test d = option_map_or (test key) (get key d) (Some (Missing key))

-- a key that may be left out
abbrev pub optional : List ℕ → (List ℕ → Data → Option WalkFault) → Data → Option WalkFault
optional key test d = option_map_or (test key) (get key d) None

-- a test that knows one fault, of the form
abbrev pub form_test : (Data → Bool) → List ℕ → Data → Option WalkFault
form_test passes key d = if passes d then None else Some (WrongForm key)

abbrev pub name_fault : List ℕ → Data → Option WalkFault
name_fault key d = form_test is_name key d

abbrev pub within_fault : ℕ → ℕ → ℕ → List ℕ → Option WalkFault
within_fault least most found key = if nat_lt found least then Some (WrongForm key) else (if nat_lt most found then Some (Over key most) else None)

abbrev pub number_fault : ℕ → ℕ → List ℕ → Data → Option WalkFault
number_fault least most key d = if is_number d then within_fault least most (number_of d) key else Some (WrongForm key)

-- a number with no limit of its own
abbrev pub is_number_from : ℕ → Data → Bool
is_number_from least d = is_number d && nat_le least (number_of d)

abbrev pub number_from_fault : ℕ → List ℕ → Data → Option WalkFault
number_from_fault least key d = form_test (is_number_from least) key d

-- a list of numbers, names or other items without keys: their form belongs to the form of the list
abbrev pub is_list_of : ℕ → (Data → Bool) → Data → Bool
is_list_of least passes d = is_list d && (list_all passes (list_of d) && nat_le least (length (list_of d)))

abbrev pub items_fault : ℕ → ℕ → (Data → Bool) → List ℕ → Data → Option WalkFault
items_fault least most passes key d =
    if is_list_of least passes d then (if nat_lt most (length (list_of d)) then Some (Over key most) else None) else Some (WrongForm key)

-- a list of objects: the number of its items, and then each object in turn, under the list's key
abbrev pub list_fault : ℕ → ℕ → (List ℕ → Data → Option WalkFault) → List ℕ → Data → Option WalkFault
list_fault least most object key d =
    if is_list d then (within_fault least most (length (list_of d)) key then first_along (object key) (list_of d)) else Some (WrongForm key)
