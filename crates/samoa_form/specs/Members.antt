-- Members of an object that are taken one after another.
use Rattle.std.specs.Prelude.{◌≡◌, ℕ, List, [], ◌∷◌, Bool, true, false, Option, Some, None, String, ⊤}
use Rattle.std.specs.declared.alloc.Global.{Global}
use Rattle.serde_json.specs.Data.{Data, Members, no_members, member}
use Rattle.serde_json.specs.declared.value.Value.{Value}
use Rattle.std.specs.Prelude.{option_map, codes}
use Rattle.serde_json.specs.Find.{get}
use Rattle.serde_json.specs.View.{view}
use denote.Ref.{Bor}

-- an entry that was looked at, before those behind it
abbrev pub left_of : Option (Bor (String Global) × Bor Value) → List (String Global × Value) → List (String Global × Value)
left_of None rest = rest
left_of (Some p) rest = (p.0.now, p.1.now) ∷ rest

-- nothing is behind where no entry was found
abbrev pub EndsWith : Option (Bor (String Global) × Bor Value) → List (String Global × Value) → Type 0
EndsWith None rest = rest ≡ []
EndsWith (Some p) rest = ⊤

-- the members, behind one with this key where it has a value
abbrev pub with_member : List ℕ → Option Data → Members → Members
with_member key None ms = ms
with_member key (Some d) ms = member key d ms

abbrev pub IsDoneOf : Bool → Members → Type 0
IsDoneOf true ms = ms ≡ no_members
IsDoneOf false ms = ⊤

-- what was found at a key of a value
abbrev pub IsPart : List ℕ → Value → Option (Bor Value) → Type 0
IsPart key object part = option_map (λ v. view v.now) part ≡ get key (view object)

-- the keys of an item of `do`
abbrev pub do_keys : List (List ℕ)
do_keys = codes "tick" ∷ codes "node" ∷ codes "event" ∷ codes "change" ∷ codes "args" ∷ []
