use Rattle.std.proofs.Common.{◌≡◌, ◌-◌, ◌≤◌, ◌++◌, length, take, drop}
use Rattle.samoa_ledger.specs.Gathering.{HasGathered}
use Rattle.samoa_ledger.specs.Written.{AreTotals, later_text}
use Rattle.samoa_ledger.proofs.text.push_comps.Given as goal

abbrev pub invariant-loop-totals : goal.invariant-loop-totals
invariant-loop-totals g l = record {
  least : l.initial.totals.comps ≤ l.totals.comps;
  most : l.totals.comps ≤ length l.core.exts;
  text : l.text.items ++ later_text l.script l.calls (take l.totals.comps l.core.exts) (drop l.totals.comps l.core.exts)
      ≡ l.initial.text.items ++ later_text l.script l.calls (take l.initial.totals.comps l.core.exts) (drop l.initial.totals.comps l.core.exts);
  counted : AreTotals l.script (take l.totals.comps l.core.exts) l.totals;
  gathered : HasGathered l.script (take l.totals.comps l.core.exts) l.net;
  tick : l.net.tick ≡ l.initial.net.tick;
}

abbrev pub decreases-loop-totals : goal.decreases-loop-totals
decreases-loop-totals g l = length l.core.exts - l.totals.comps
