-- What the lists of an index hold.
use Rattle.std.specs.Prelude.{◌≡◌, ◌+◌, ◌*◌, ◌-◌, ◌<◌, ℕ, List, [], length, replicate, set, slice_get, Bool, false, Option, Some, None}
use Rattle.samoa_control.specs.Admission.{most_admitted}

-- by slot the first and the last computation of its queue; by place of a computation, and microprotocol, who comes next; and by
-- place who may begin a handler step, and who may have a release or an end due
pub record Rows : Type 0 where
  pub micros : ℕ
  pub heads : List (Option ℕ)
  pub tails : List (Option ℕ)
  pub nexts : List (Option ℕ)
  pub ready : List Bool
  pub restless : List Bool
  pub closing : List Bool

-- no computation is in them
abbrev pub no_rows : ℕ → ℕ → Rows
no_rows slots micros = record {
  micros = micros;
  heads = replicate slots None;
  tails = replicate slots None;
  nexts = [];
  ready = replicate most_admitted false;
  restless = replicate most_admitted false;
  closing = replicate most_admitted false;
}

-- the queues and the sets are empty
abbrev pub emptied : Rows → Rows
emptied rows = record {
  micros = rows.micros;
  heads = replicate (length rows.heads) None;
  tails = replicate (length rows.tails) None;
  nexts = rows.nexts;
  ready = replicate (length rows.ready) false;
  restless = replicate (length rows.restless) false;
  closing = replicate (length rows.closing) false;
}

-- there is a place for each computation that may be admitted
pub record IsSized (rows : Rows) : Type 0 where
  pub ready : length rows.ready ≡ most_admitted
  pub restless : length rows.restless ≡ most_admitted
  pub closing : length rows.closing ≡ most_admitted

-- no one comes next after the computation at a place, and the places before it are as they were
pub record IsBlank (columns place : ℕ) (old new : List (Option ℕ)) : Type 0 where
  pub size : length new ≡ length old
  pub blank : (p : ℕ) → p < columns → slice_get new (place * columns + p) ≡ Some None
  pub before : (i : ℕ) → i < place * columns → slice_get new i ≡ slice_get old i

-- the last one of a queue, if there is one, has another that comes next
abbrev pub linked : Rows → ℕ → Option ℕ → ℕ → ℕ → Rows
linked rows first None micro number = rows
linked rows first (Some last) micro number = record rows { nexts = set rows.nexts ((last - first) * rows.micros + micro) (Some number) }
