-- How far a journal is replayed.
use Rattle.std.specs.Prelude.{◌≡◌, ◌≢◌, ◌⊎◌, ℕ, ◌-◌, ◌<◌, ◌≤◌, true, false, List, [], ◌∷◌, ◌++◌, length, take, drop}
use Rattle.std.specs.List.{All, AllPairs}
use Rattle.samoa_model.specs.declared.record.Ext.{Ext}
use Rattle.samoa_model.specs.declared.record.Step.{Step}
use Rattle.samoa_model.specs.declared.script.Script.{Script}
use Rattle.samoa_serial.specs.Ticks.{is_limited_by, most_admitted}
use Rattle.samoa_invariant.specs.State.{AllEnded}
use Rattle.samoa_invariant.specs.Runs.{IsDue, Trace, ext_at, state}
use Rattle.samoa_control.specs.Since.{cleared_comps}
use Rattle.samoa_control.specs.Turns.{Going, IsAway}
use Rattle.samoa_journal.specs.Finished.{most_cells}
use Rattle.samoa_ledger.specs.Gathering.{HasGathered}
use Rattle.samoa_ledger.specs.Left.{IsLeft}
use Rattle.samoa_ledger.specs.Written.{AreTotals, later_text}
use Rattle.samoa_replay.specs.declared.course.Course.{Course}
use Rattle.samoa_replay.specs.Steady.{IsSteady, steady, swept}

-- what is left of the tick at hand
abbrev pub rest_of : Course → List Ext
rest_of course = drop course.next course.batch.items

-- what is written
abbrev pub past_of : Trace → Course → List Ext
past_of t course = take course.totals.comps t.exts

-- the last of these is of the tick
pub record EndsWith (exts : List Ext) (tick : ℕ) : Type 0 where
  pub some : 0 < length exts
  pub last : (ext_at exts (length exts - 1)).tick ≡ tick

-- a core has run a script so far: what is written has ended, the rest of what it was given is of the tick at hand
pub record IsOnCourse (script : Script) (t : Trace) (course : Course) : Type 0 where
  pub of_script : t.script ≡ script
  pub counted : AreTotals script (past_of t course) course.totals
  pub gathered : HasGathered script (past_of t course) course.net
  pub cleared : cleared_comps t ≤ course.totals.comps
  pub past : (k : ℕ) → k < course.totals.comps → (state t).ended k ≡ true
  pub since : All (λ (ext : Ext). ext.tick ≡ course.tick) (drop course.totals.comps t.exts)
  pub tick : course.net.tick ≡ course.tick
  pub left : IsLeft script t.exts course.tick (rest_of course)
  pub within : course.next ≤ length course.batch.items
  pub last : 0 < course.next → EndsWith t.exts course.tick
  pub limited : course.limited ≡ is_limited_by most_admitted script course.tick
  pub text : course.text.items ≡ later_text script false [] (past_of t course)

-- all that was admitted is written, no cells are held, and where nothing is left of the tick, no later tick has more
pub record IsFilled (script : Script) (t : Trace) (course : Course) : Type 0 where
  pub written : course.totals.comps ≡ length t.exts
  pub none_held : (state t).cells ≡ 0
  pub more : (course.next < length course.batch.items) ⊎ ((course.limited ≡ true) ⊎ (script.ticks ≤ course.tick))

-- these handler steps are out, one of each computation that is out
pub record AreOut (t : Trace) (turns : List Going) : Type 0 where
  pub away : All (IsAway t) turns
  pub apart : AllPairs (λ (g h : Going). g.comp ≢ h.comp) turns
  pub whole : (comp : ℕ) → IsDue t (Step.Leave comp) → All (λ (g : Going). g.comp ≢ comp) turns → ⊥

-- the core made the steps of a journal that may be the first of a finished one
pub record Follows (t : Trace) (course : Course) (turns : List Going) : Type 0 where
  pub most : t.cells ≡ most_cells
  pub on_course : IsOnCourse t.script t course
  pub is_steady : IsSteady t.script t.journal
  pub stands : swept (state t) ≡ steady t.script t.journal
  pub fresh : course.next ≡ 0 → AllEnded (state t)
  pub out : AreOut t turns

-- and is ready for the next line
pub record IsReady (t : Trace) (course : Course) (turns : List Going) : Type 0 where
  pub follows : Follows t course turns
  pub filled : AllEnded (state t) → IsFilled t.script t course

-- it made one step more
pub record HasMade (step : Step) (t u : Trace) (course : Course) (turns : List Going) : Type 0 where
  pub of_script : u.script ≡ t.script
  pub journal : u.journal ≡ t.journal ++ step ∷ []
  pub follows : Follows u course turns

-- a step doesn't go on with the journal
abbrev pub IsRefused : Trace → Step → Type 0
IsRefused t step = IsSteady t.script (t.journal ++ step ∷ []) → ⊥

-- all have ended, and nothing is left to admit
pub record IsOver (t : Trace) (course : Course) : Type 0 where
  pub all : AllEnded (state t)
  pub none : rest_of course ≡ []
