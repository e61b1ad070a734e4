-- How far a pass of releases or of ends has come.
use Rattle.std.specs.Prelude.{◌≡◌, ◌-◌, ◌<◌, ◌≤◌, ◌+◌, ℕ, List, Bool, false}
use Rattle.samoa_versions.specs.Ready.{is_member}
use Rattle.samoa_invariant.specs.Runs.{Trace}
use Rattle.samoa_invariant.specs.Settling.{EndsBefore, ReleasesBefore}
use Rattle.samoa_control.specs.Since.{cleared_comps}
use Rattle.samoa_core.specs.Indexed.{IsIndexedBy}
use Rattle.samoa_core.specs.Rows.{Rows}

-- no place before this one is a member
abbrev pub NoneBelow : List Bool → ℕ → Type 0
NoneBelow members n = (i : ℕ) → i < n → is_member members i ≡ false

-- the releases of the computations up to one were made, and of none of these may another be due
pub record ReleasesPast (before now : Trace) (rows : Rows) (past : ℕ) : Type 0 where
  pub made : ReleasesBefore before now (past + 1)
  pub below : NoneBelow rows.restless (past - cleared_comps now)
  pub from : cleared_comps now ≤ past
  pub indexed : IsIndexedBy now rows

-- the same of ends
pub record EndsPast (before now : Trace) (rows : Rows) (past : ℕ) : Type 0 where
  pub made : EndsBefore before now (past + 1)
  pub below : NoneBelow rows.closing (past - cleared_comps now)
  pub from : cleared_comps now ≤ past
  pub indexed : IsIndexedBy now rows
