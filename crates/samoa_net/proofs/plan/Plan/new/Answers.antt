use Rattle.std.proofs.Common.{◌≡◌, ◌∙◌, ap, filter, map, rules}
use Rattle.std.specs.Prelude.{nat_lt, List}
use Rattle.samoa_model.specs.declared.record.Ext.{Ext}
use Rattle.samoa_model.specs.declared.script.DoDef.{DoDef}
use Rattle.samoa_serial.specs.History.{ext_of}
use Rattle.samoa_net.proofs.Plans.{sorted_is_plan}
use Rattle.samoa_net.proofs.plan.Plan.new.Goals as goal

pub returns : goal.returns
returns c =
    let later : List DoDef → List Ext = λ (does : List DoDef). filter (λ (ext : Ext). nat_lt c.args.before ext.tick) (map ext_of does) in
    let own : c.in_ok-items.items.items ≡ later c.args.script.now.does = c.in_ok-items.ensures ∙ ap later c.as_slice.ensures in
    sorted_is_plan c.args.script.now c.args.before c.in_ok-items.items.items c.sort_by_key.new.self.items own c.in_ok-sort_by_key.ensures.permutation c.in_ok-sort_by_key.ensures.sorted c.in_ok-sort_by_key.ensures.stable (λ a r q k. search rules)
