use Rattle.std.proofs.Common.{rules, ◌≡◌, true}
use Rattle.serde_json.specs.View.{view}
use Rattle.samoa_form.proofs.Taken.{all_taken}
use Rattle.samoa_form.proofs.does.DoParts.in_order.Goals as goal

pub invariant_of-result : goal.invariant_of-result
invariant_of-result c =
    let done : c.is_done.result ≡ true = search rules in
    let found = all_taken (view c.args.value.now) _ _ _ _ _ _ _ _ _ _ _ c.is_done.result c.in_ok-members.ensures
    c.take-args.ensures c.take-change.ensures c.take-event.ensures c.take-node.ensures c.take-tick.ensures c.is_done.ensures done in
    (found.tick, found.node, found.event, found.change, found.args)

pub returns-clause-known : goal.returns-clause-known
returns-clause-known c =
    let done : c.is_done.result ≡ true = search rules in
    (all_taken (view c.args.value.now) _ _ _ _ _ _ _ _ _ _ _ c.is_done.result c.in_ok-members.ensures
    c.take-args.ensures c.take-change.ensures c.take-event.ensures c.take-node.ensures c.take-tick.ensures c.is_done.ensures done).known
