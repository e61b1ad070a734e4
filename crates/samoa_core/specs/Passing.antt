-- What a step changes of an index.
use Rattle.std.specs.Prelude.{◌≡◌, ◌-◌, ◌<◌, ◌≤◌, ℕ, length, Bool, true, Some}
use Rattle.samoa_invariant.specs.Index.{Index, Notes, TellsEntry, TellsNext, TellsNotes, abandoned, left, passed_on, released}
use Rattle.samoa_invariant.specs.State.{put}
use Rattle.samoa_invariant.specs.Runs.{Trace, play, state}
use Rattle.samoa_control.specs.Since.{cleared_comps}
use Rattle.samoa_core.specs.Indexed.{IsKeptAt}
use Rattle.samoa_core.specs.Rows.{Rows}

-- the place of a computation among those since the last clear
abbrev pub place : Trace → ℕ → ℕ
place t comp = comp - 1 - cleared_comps t

-- whether a computation may enter is noted
pub record MarksEntry (t : Trace) (rows : Rows) (g : Index) (comp : ℕ) : Type 0 where
  pub enters : Bool
  pub tells : TellsEntry (play t) (state t) (comp - 1) enters
  pub keeps : IsKeptAt t rows (abandoned g (comp - 1) enters)

-- a computation's handler step came back
pub record HasLeft (t : Trace) (rows : Rows) (g : Index) (comp : ℕ) : Type 0 where
  pub notes : Notes
  pub tells : TellsNotes (play t) (state t) (comp - 1) notes
  pub keeps : IsKeptAt t rows (left g (comp - 1) notes)

-- the queue of a microprotocol may go on after a computation: who comes next was admitted since the last clear
pub record CanPass (t : Trace) (rows : Rows) (comp micro : ℕ) : Type 0 where
  pub index : Index
  pub keeps : IsKeptAt t rows index
  pub since : cleared_comps t < comp
  pub admitted : comp ≤ length t.exts
  pub within : micro < length t.script.micros
  pub next : (j : ℕ) → index.next (comp - 1) micro ≡ Some j → (cleared_comps t ≤ j) × (j < length t.exts)

-- it has gone on
pub record Passes (t : Trace) (rows : Rows) (g : Index) (comp micro : ℕ) : Type 0 where
  pub enters : Bool
  pub tells : TellsNext (play t) (state t) (g.next (comp - 1) micro) enters
  pub keeps : IsKeptAt t rows (passed_on g ((play t).node (comp - 1)) micro (g.next (comp - 1) micro) enters)

-- who comes first in a queue may enter, or not, and may have a release due
pub record IsGreeted (t : Trace) (rows : Rows) (g : Index) (number : ℕ) : Type 0 where
  pub enters : Bool
  pub tells : TellsEntry (play t) (state t) number enters
  pub keeps : IsKeptAt t rows (record g { ready = put g.ready number enters; restless = put g.restless number true })

-- it has gone on, since the computation was done with the microprotocol
pub record HasReleased (t : Trace) (rows : Rows) (g : Index) (comp micro : ℕ) : Type 0 where
  pub enters : Bool
  pub tells : TellsNext (play t) (state t) (g.next (comp - 1) micro) enters
  pub keeps : IsKeptAt t rows (released g (comp - 1) ((play t).node (comp - 1)) micro enters)
