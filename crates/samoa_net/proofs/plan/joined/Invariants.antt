use Rattle.std.proofs.Common.{◌≡◌, ◌++◌, filter, take}
use Rattle.samoa_serial.specs.Batch.{is_up}
use Rattle.samoa_net.proofs.plan.joined.Given as goal

-- the changes, and those of the items so far whose nodes are up
abbrev pub invariant-loop-item : goal.invariant-loop-item
invariant-loop-item l = l.exts.items ≡ l.asked ++ filter (is_up l.script l.tick) (take l.item-index l.own)
