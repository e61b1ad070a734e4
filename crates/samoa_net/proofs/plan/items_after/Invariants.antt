use Rattle.std.proofs.Common.{◌≡◌, filter, map, take}
use Rattle.std.specs.Prelude.{nat_lt}
use Rattle.samoa_model.specs.declared.record.Ext.{Ext}
use Rattle.samoa_serial.specs.History.{ext_of}
use Rattle.samoa_net.proofs.plan.items_after.Given as goal

-- the later ones of the items so far
abbrev pub invariant-loop-item : goal.invariant-loop-item
invariant-loop-item l = l.exts.items ≡ filter (λ (ext : Ext). nat_lt l.before ext.tick) (map ext_of (take l.item-index l.does))
