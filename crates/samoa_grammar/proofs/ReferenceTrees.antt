-- Words in which trees and faults are written short, for the files that run the definitions beside the reference program.
use Prim.Native.String.{String}
use Rattle.std.specs.Prelude.{◌≡◌, ℕ, zero, suc, List, [], ◌∷◌, codes, bytes_eq, map, Option, Some, if◌then◌else◌}
use Rattle.serde_json.specs.Data.{Data, number, string, array, object, unsigned, Items, no_items, item, Members, no_members, member, put}
use Rattle.samoa_model.specs.declared.ids.EventId.{EventId}
use Rattle.samoa_model.specs.declared.ids.ChangeId.{ChangeId}
use Rattle.samoa_model.specs.declared.ids.HandlerId.{HandlerId}
use Rattle.samoa_model.specs.declared.ids.NodeId.{NodeId}
use Rattle.samoa_grammar.specs.declared.fault.WalkFault.{WalkFault}
use Rattle.samoa_grammar.specs.declared.fault.WalkFault.TheVariants.{Missing, WrongForm, Unknown, Twice, Over}

-- ---- trees

abbrev pub str : String → Data
str text = string (codes text)

abbrev pub num : ℕ → Data
num n = number (unsigned n)

abbrev pub items : List Data → Items
items [] = no_items
items (d ∷ ds) = item d (items ds)

abbrev pub arr : List Data → Data
arr ds = array (items ds)

-- an object, with its keys in any order
abbrev pub members : List (String × Data) → Members
members [] = no_members
members (m ∷ ms) = put (codes m.0) m.1 (members ms)

abbrev pub obj : List (String × Data) → Data
obj ms = object (members ms)

-- an object, with this at a key
abbrev pub but : Data → String → Data → Data
but (object ms) key d = object (put (codes key) d ms)
but other key d = other

-- an object without a key
abbrev pub left : List ℕ → Members → Members
left key no_members = no_members
left key (member k d ms) = if bytes_eq k key then ms else member k d (left key ms)

abbrev pub without : Data → String → Data
without (object ms) key = object (left (codes key) ms)
without other key = other

abbrev pub times : {X : Type 0} → ℕ → X → List X
times zero x = []
times (suc n) x = x ∷ times n x

-- ---- faults

abbrev pub missing : String → Option WalkFault
missing key = Some (Missing (codes key))

abbrev pub wrong : String → Option WalkFault
wrong key = Some (WrongForm (codes key))

abbrev pub unknown : String → Option WalkFault
unknown name = Some (Unknown (codes name))

abbrev pub twice : String → Option WalkFault
twice name = Some (Twice (codes name))

abbrev pub over : String → ℕ → Option WalkFault
over name limit = Some (Over (codes name) limit)

-- each tree has the fault that stands beside it
abbrev pub Answers : (Data → Option WalkFault) → List (Data × Option WalkFault) → Type 0
Answers test rows = map (λ row. test row.0) rows ≡ map (λ row. row.1) rows

-- ---- parts of a script by their numbers

abbrev pub event : ℕ → EventId
event n = record { 0 = n }

abbrev pub change : ℕ → ChangeId
change n = record { 0 = n }

abbrev pub handler : ℕ → ℕ → HandlerId
handler p n = record { micro = record { 0 = p }; index = n }

abbrev pub node : ℕ → NodeId
node n = record { 0 = n }
