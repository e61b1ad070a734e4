-- What is gathered of a tick for the next.
use Rattle.std.specs.Prelude.{◌≡◌, ◌≤◌, ◌+◌, ℕ, List, ◌++◌, length, filter, take}
use Rattle.std.specs.List.{flat_map}
use Rattle.samoa_model.specs.declared.record.Entry.{Entry}
use Rattle.samoa_model.specs.declared.record.Ext.{Ext}
use Rattle.samoa_model.specs.declared.script.Script.{Script}
use Rattle.samoa_serial.specs.Batch.{asked_by, by_each, is_up, sent_by}
use Rattle.samoa_serial.specs.Lists.{Each}
use Rattle.samoa_serial.specs.SerialRun.{serial}
use Rattle.samoa_net.specs.Gathered.{Gathered, IsPlanFor, most_kept}

-- a list that keeps the first of some keeps these after them
abbrev pub KeepsAfter : List Ext → List Ext → List Ext → Type 0
KeepsAfter before more after = (all : List Ext) → before ≡ take most_kept all → after ≡ take most_kept (all ++ more)

-- what these entries of a computation sent and asked for was gathered
pub record Gathers (script : Script) (ext : Ext) (entries : List Entry) (before after : Gathered) : Type 0 where
  pub tick : after.tick ≡ before.tick
  pub own : after.own ≡ before.own
  pub asked : KeepsAfter before.asked (filter (is_up script (before.tick + 1)) (flat_map (asked_by (before.tick + 1) ext) entries)) after.asked
  pub sent : KeepsAfter before.sent (filter (is_up script (before.tick + 1)) (flat_map (sent_by script (before.tick + 1) ext) entries)) after.sent

-- the first of these that are at nodes that are up in a tick
abbrev pub kept_for : Script → ℕ → List Ext → List Ext
kept_for script tick exts = take most_kept (filter (is_up script tick) exts)

-- all that these computations bring the next tick is gathered, as far as it is kept. None of them is of a later tick
pub record HasGathered (script : Script) (past : List Ext) (net : Gathered) : Type 0 where
  pub plan : IsPlanFor script net
  pub within : net.tick ≤ script.ticks
  pub comp : net.comp ≤ length past
  pub ticks : Each (λ (ext : Ext). ext.tick ≤ net.tick) past
  pub asked : net.asked ≡ kept_for script (net.tick + 1) (by_each (asked_by (net.tick + 1)) past (serial script past).comps)
  pub sent : net.sent ≡ kept_for script (net.tick + 1) (by_each (sent_by script (net.tick + 1)) past (serial script past).comps)
