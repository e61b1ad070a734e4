-- The lists of an index of which one item is changed.
use Rattle.std.proofs.Common.{◌≡◌, ℕ, ◌+◌, ◌-◌, ◌*◌, ◌<◌, ◌≤◌, sym, ap, subst, ◌∙◌, List, length, length-set, set, Bool, ◌==◌, if◌then◌else◌, Option}
use Rattle.samoa_invariant.specs.Index.{Index}
use Rattle.samoa_invariant.specs.Slots.{put_at}
use Rattle.samoa_invariant.specs.State.{put}
use Rattle.samoa_invariant.proofs.indexing.Placed.{placed-set}
use Rattle.samoa_control.specs.Admission.{most_admitted}
use Rattle.samoa_control.proofs.Grids.{grid-put}
use Rattle.samoa_core.specs.Indexed.{Keeps, Marks}
use Rattle.samoa_core.specs.Rows.{Rows}

marks-set : (first : ℕ) (members : List Bool) (marked : ℕ → Bool) (at : ℕ) (b : Bool) → length members ≡ most_admitted → first ≤ at → at - first < most_admitted → Marks first members marked
    → Marks first (set members (at - first) b) (put marked at b)
marks-set first members marked at b size le lt marks k from =
    placed-set first members at b k le (subst (λ (n : ℕ). at - first < n) (sym size) lt) from ∙ ap (λ (c : Bool). if k == at then b else c) (marks k from)

-- a mark is set, or taken away
pub keeps-ready : (nodes columns first count : ℕ) (rows : Rows) (g : Index) (k : ℕ) (b : Bool) → first ≤ k → k - first < most_admitted → Keeps nodes columns first count rows g
    → Keeps nodes columns first count (record rows { ready = set rows.ready (k - first) b }) (record g { ready = put g.ready k b })
keeps-ready nodes columns first count rows g k b le lt keeps = record {
  micros = keeps.micros;
  heads = keeps.heads;
  tails = keeps.tails;
  nexts = keeps.nexts;
  sized = record { ready = length-set rows.ready (k - first) b ∙ keeps.sized.ready; restless = keeps.sized.restless; closing = keeps.sized.closing };
  ready = marks-set first rows.ready g.ready k b keeps.sized.ready le lt keeps.ready;
  restless = keeps.restless;
  closing = keeps.closing;
}

pub keeps-restless : (nodes columns first count : ℕ) (rows : Rows) (g : Index) (k : ℕ) (b : Bool) → first ≤ k → k - first < most_admitted → Keeps nodes columns first count rows g
    → Keeps nodes columns first count (record rows { restless = set rows.restless (k - first) b }) (record g { restless = put g.restless k b })
keeps-restless nodes columns first count rows g k b le lt keeps = record {
  micros = keeps.micros;
  heads = keeps.heads;
  tails = keeps.tails;
  nexts = keeps.nexts;
  sized = record { ready = keeps.sized.ready; restless = length-set rows.restless (k - first) b ∙ keeps.sized.restless; closing = keeps.sized.closing };
  ready = keeps.ready;
  restless = marks-set first rows.restless g.restless k b keeps.sized.restless le lt keeps.restless;
  closing = keeps.closing;
}

pub keeps-closing : (nodes columns first count : ℕ) (rows : Rows) (g : Index) (k : ℕ) (b : Bool) → first ≤ k → k - first < most_admitted → Keeps nodes columns first count rows g
    → Keeps nodes columns first count (record rows { closing = set rows.closing (k - first) b }) (record g { closing = put g.closing k b })
keeps-closing nodes columns first count rows g k b le lt keeps = record {
  micros = keeps.micros;
  heads = keeps.heads;
  tails = keeps.tails;
  nexts = keeps.nexts;
  sized = record { ready = keeps.sized.ready; restless = keeps.sized.restless; closing = length-set rows.closing (k - first) b ∙ keeps.sized.closing };
  ready = keeps.ready;
  restless = keeps.restless;
  closing = marks-set first rows.closing g.closing k b keeps.sized.closing le lt keeps.closing;
}

-- a queue has another first one
pub keeps-head : (nodes columns first count : ℕ) (rows : Rows) (g : Index) (v p : ℕ) (x : Option ℕ) → v < nodes → p < columns → Keeps nodes columns first count rows g
    → Keeps nodes columns first count (record rows { heads = set rows.heads (v * columns + p) x }) (record g { head = put_at g.head v p x })
keeps-head nodes columns first count rows g v p x lt below keeps = record {
  micros = keeps.micros;
  heads = grid-put nodes columns rows.heads g.head v p x lt below keeps.heads;
  tails = keeps.tails;
  nexts = keeps.nexts;
  sized = record { ready = keeps.sized.ready; restless = keeps.sized.restless; closing = keeps.sized.closing };
  ready = keeps.ready;
  restless = keeps.restless;
  closing = keeps.closing;
}
