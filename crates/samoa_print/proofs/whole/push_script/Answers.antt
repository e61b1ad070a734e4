use Rattle.std.proofs.Common.{string_bytes}
use Rattle.std.proofs.lemmas.Result.{on_ok_weaker}
use Rattle.samoa_print.proofs.Plain.{losses_no_float, losses_flat, crashes_no_float, crashes_flat}
use Rattle.samoa_print.proofs.Sound.{script_adds}
use Rattle.samoa_print.proofs.whole.push_script.Goals as goal

pub push_list-requires-2-clause-plain : goal.push_list-requires-2-clause-plain
push_list-requires-2-clause-plain c = crashes_no_float _

pub push_list-requires-2-clause-flat : goal.push_list-requires-2-clause-flat
push_list-requires-2-clause-flat c = crashes_flat _

pub push_list-requires-5-clause-plain : goal.push_list-requires-5-clause-plain
push_list-requires-5-clause-plain c = losses_no_float _

pub push_list-requires-5-clause-flat : goal.push_list-requires-5-clause-flat
push_list-requires-5-clause-flat c = losses_flat _

pub returns : goal.returns
returns c =
    on_ok_weaker c.push.result
    (λ e. script_adds c.args.script.now _ _ _ _ _ _ _ _ c.as_slice.ensures c.as_slice-2.ensures c.as_slice-3.ensures c.as_slice-4.ensures c.as_slice-5.ensures
    c.as_slice-6.ensures c.from.ensures c.from-2.ensures (string_bytes c.args.out.now) _ _ _ _ _ _ _ _ _ _ _ c.in_ok-push_list.ensures c.in_ok-push_list-2.ensures c.in_ok-push_list-3.ensures
    c.in_ok-push_does.ensures c.in_ok-push_list-4.ensures c.in_ok-push_list-5.ensures c.in_ok-push_list-6.ensures c.in_ok-push_number.ensures c.in_ok-push_number-2.ensures
    c.in_ok-push_number-3.ensures e)
    c.push.ensures
