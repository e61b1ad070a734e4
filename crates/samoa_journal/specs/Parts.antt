-- A journal in parts: each part is admitted together, run to its end, and then cleared away.
use Rattle.std.specs.Prelude.{◌≡◌, ℕ, ◌+◌, ◌<◌, Bool, false, List, [], ◌∷◌, ◌++◌, length, slice_get, Some}
use Rattle.std.specs.List.{flat_map}
use Rattle.samoa_model.specs.declared.record.Ext.{Ext}
use Rattle.samoa_model.specs.declared.record.Step.{Step}
use Rattle.samoa_model.specs.declared.script.Script.{Script}
use Rattle.samoa_model.specs.Cells.{cells_of}
use Rattle.samoa_serial.specs.Lists.{Each}
use Rattle.samoa_invariant.specs.Runs.{Trace, ext_at}

-- a part: what it admits, and the steps that follow its admissions
pub record Part : Type 0 where
  pub exts : List Ext
  pub others : List Step

-- the admissions of these after n others
abbrev pub admits : ℕ → List Ext → List Step
admits n [] = []
admits n (ext ∷ exts) = Step.Admit (n + 1) ∷ admits (n + 1) exts

-- the steps of a part, before which n were admitted
abbrev pub part_steps : ℕ → Part → List Step
part_steps n part = admits n part.exts ++ part.others

-- what the parts admit, their steps, and the lengths of the journal at their ends
abbrev pub exts_of : List Part → List Ext
exts_of parts = flat_map (λ part. part.exts) parts

abbrev pub steps_from : ℕ → List Part → List Step
steps_from n [] = []
steps_from n (part ∷ parts) = part_steps n part ++ steps_from (n + length part.exts) parts

abbrev pub ends_from : ℕ → ℕ → List Part → List ℕ
ends_from made n [] = []
ends_from made n (part ∷ parts) =
    let end = made + length (part_steps n part) in
    end ∷ ends_from end (n + length part.exts) parts

-- a step that admits no computation
abbrev pub AdmitsNone : Step → Type 0
AdmitsNone (Step.Admit comp) = ⊥
AdmitsNone _ = Unit {0}

-- the tick of a part
abbrev pub tick_of : Part → ℕ
tick_of part = (ext_at part.exts 0).tick

-- a part admits some computations of one tick, and none after its other steps began
pub record IsPart (part : Part) : Type 0 where
  pub some : 0 < length part.exts
  pub of_tick : Each (λ ext. ext.tick ≡ tick_of part) part.exts
  pub others : Each AdmitsNone part.others

-- the cells that these hold together
abbrev pub cells_for : Script → List Ext → ℕ
cells_for script [] = 0
cells_for script (ext ∷ exts) = cells_of script ext + cells_for script exts

-- the next computation would not have fitted into this part, if it is of the same tick
abbrev pub IsLongest : Script → ℕ → Part → Ext → Type 0
IsLongest script cells part next = next.tick ≡ tick_of part → cells < cells_for script part.exts + cells_of script next

-- the same of the last of these parts, if there is one
abbrev pub IsLastLongest : Script → ℕ → List Part → Ext → Type 0
IsLastLongest script cells [] next = Unit {0}
IsLastLongest script cells (part ∷ []) next = IsLongest script cells part next
IsLastLongest script cells (part ∷ other ∷ parts) next = IsLastLongest script cells (other ∷ parts) next

-- each part is the longest that fits of what was left of its tick
abbrev pub AreLongest : Script → ℕ → List Part → Type 0
AreLongest script cells [] = Unit {0}
AreLongest script cells (part ∷ []) = Unit {0}
AreLongest script cells (part ∷ other ∷ parts) = IsLongest script cells part (ext_at other.exts 0) × AreLongest script cells (other ∷ parts)

-- a core has run these parts, one after another, and was cleared after each
pub record HasParts (t : Trace) (parts : List Part) : Type 0 where
  pub exts : t.exts ≡ exts_of parts
  pub journal : t.journal ≡ steps_from 0 parts
  pub clears : t.clears ≡ ends_from 0 0 parts
  pub each : Each IsPart parts

-- a core has run in parts. Where computations aren't run one by one, each part was the longest that fits, and of what is
-- still to be run the first computation would not have fitted into the last part
pub record IsPacked (alone : Bool) (t : Trace) (next : List Ext) : Type 0 where
  pub parts : List Part
  pub in_parts : HasParts t parts
  pub longest : alone ≡ false → AreLongest t.script t.cells parts
  pub new_part : alone ≡ false → (ext : Ext) → slice_get next 0 ≡ Some ext → IsLastLongest t.script t.cells parts ext
