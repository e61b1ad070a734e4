use Rattle.std.proofs.Common.{◌≡◌, ◌+◌, ◌-◌, ◌≤◌, ◌++◌, length, take, count_by}
use Rattle.samoa_serial.specs.Report.{entries_text, is_delivery, is_refusal}
use Rattle.samoa_invariant.specs.Runs.{ext_at, served_at}
use Rattle.samoa_ledger.specs.Gathering.{Gathers}
use Rattle.samoa_ledger.proofs.text.push_entries.Given as goal

abbrev pub invariant-loop-entry : goal.invariant-loop-entry
invariant-loop-entry g l =
    let entries = (served_at l.core l.comp).world.entries in record {
      within : l.at ≤ length entries;
      text : l.text.items ≡ l.initial.text.items ++ entries_text l.script l.comp l.calls (take l.at entries);
      comps : l.totals.comps ≡ l.initial.totals.comps;
      deliveries : l.totals.deliveries ≡ l.initial.totals.deliveries + count_by is_delivery (take l.at entries);
      refusals : l.totals.refusals ≡ l.initial.totals.refusals + count_by is_refusal (take l.at entries);
      gathered : Gathers l.script (ext_at l.core.exts (l.comp - 1)) (take l.at entries) l.initial.net l.net;
      next : l.net.comp ≤ l.comp;
    }

abbrev pub decreases-loop-entry : goal.decreases-loop-entry
decreases-loop-entry g l = length (served_at l.core l.comp).world.entries - l.at
