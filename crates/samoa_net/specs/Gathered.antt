-- What is gathered in a tick, and what the script has of its own in the ticks after it.
use Rattle.std.specs.Prelude.{◌≡◌, ◌<◌, ℕ, suc, ◌==◌, Option, Some, None, List, filter}
use Rattle.std.specs.List.{All}
use Rattle.std.specs.List.Sorted.{IsNonDecreasingBy}
use Rattle.samoa_model.specs.declared.record.Ext.{Ext}
use Rattle.samoa_model.specs.declared.script.Script.{Script}
use Rattle.samoa_serial.specs.History.{batch}
use Rattle.samoa_serial.specs.Ticks.{most_admitted}

-- how many messages, and how many changes, of a tick are kept: one more than are admitted at all, which decides all that
-- is admitted
abbrev pub most_kept : ℕ
most_kept = suc most_admitted

pub record Gathered : Type 0 where
  -- that of the last batch, 0 before the first
  pub tick : ℕ
  -- the last computation of which something was gathered, 0 where there is none
  pub comp : ℕ
  -- the script's items of later ticks, by tick; none before the first batch
  pub own : Option (List Ext)
  -- the changes of the next tick
  pub asked : List Ext
  -- the messages of the next tick
  pub sent : List Ext

abbrev pub of_tick : ℕ → List Ext → List Ext
of_tick tick exts = filter (λ (ext : Ext). ext.tick == tick) exts

-- the script's items of the ticks after this one: the ticks never fall, and those of one tick stand in script order
pub record IsPlan (script : Script) (before : ℕ) (items : List Ext) : Type 0 where
  pub rises : IsNonDecreasingBy (λ (ext : Ext). ext.tick) items
  pub later : All (λ (ext : Ext). before < ext.tick) items
  pub same : (tick : ℕ) → before < tick → of_tick tick items ≡ batch script tick

-- where there are items, they are the script's of later ticks
abbrev pub IsPlanIfAny : Script → ℕ → Option (List Ext) → Type 0
IsPlanIfAny script before None = Unit {0}
IsPlanIfAny script before (Some items) = IsPlan script before items

abbrev pub IsPlanFor : Script → Gathered → Type 0
IsPlanFor script gathered = IsPlanIfAny script gathered.tick gathered.own
