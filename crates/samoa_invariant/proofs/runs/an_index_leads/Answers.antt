use Rattle.samoa_invariant.proofs.indexing.Leading.{ends_done, ends_on, least_enters, none_enters, releases_done, releases_on}
use Rattle.samoa_invariant.proofs.runs.an_index_leads.Goals as goal

pub returns : goal.returns
returns c = record {
  first = least_enters;
  none = none_enters;
  releases = releases_on;
  released = releases_done;
  ends = ends_on;
  ended = ends_done;
}
