use Rattle.std.proofs.Common.{◌≡◌, ◌∙◌, ap, subst, sym, ◌+◌, ◌-◌, ◌++◌, take, drop, length, filter, List}
use Rattle.std.proofs.lemmas.List.{drop-drop}
use Rattle.samoa_model.specs.declared.record.Ext.{Ext}
use Rattle.samoa_serial.specs.Batch.{is_up}
use Rattle.samoa_net.specs.Gathered.{IsPlan}
use Rattle.samoa_net.proofs.Plans.{next_of_plan, slice_is_rest}
use Rattle.samoa_net.proofs.plan.Plan.batch.Goals as goal

pub returns-clause-items : goal.returns-clause-items
returns-clause-items c = λ before e plan.
    let script = c.args.script.now in
    let count = c.count_of_tick-count.result in
    let xs = c.deref.result.now in
    let given : List Ext = take (length xs - c.self.inside.next) (drop c.self.inside.next xs) in
    let same : given ≡ c.args.self.now = slice_is_rest c.self.inside.next xs c.self.inside.items.items c.args.self.now c.deref.ensures.value c.self.view_is in
    let next = next_of_plan script c.args.self.now given before c.args.tick count e same plan c.count_of_tick-count.ensures.before c.count_of_tick-count.ensures.next in
    c.in_ok-exts.ensures ∙ ap (λ (own : List Ext). c.args.asked.now ++ filter (is_up script c.args.tick) own ++ c.args.sent.now) next.0

pub returns-clause-plan : goal.returns-clause-plan
returns-clause-plan c = λ before e plan.
    let script = c.args.script.now in
    let count = c.count_of_tick-count.result in
    let xs = c.deref.result.now in
    let items = c.self.inside.items.items in
    let given : List Ext = take (length xs - c.self.inside.next) (drop c.self.inside.next xs) in
    let same : given ≡ c.args.self.now = slice_is_rest c.self.inside.next xs items c.args.self.now c.deref.ensures.value c.self.view_is in
    let next = next_of_plan script c.args.self.now given before c.args.tick count e same plan c.count_of_tick-count.ensures.before c.count_of_tick-count.ensures.next in
    let rest : drop count c.args.self.now ≡ drop (c.self.inside.next + count) items =
    ap (drop count) (sym c.self.view_is) ∙ drop-drop count c.self.inside.next items in
    subst (IsPlan script c.args.tick) rest next.1
