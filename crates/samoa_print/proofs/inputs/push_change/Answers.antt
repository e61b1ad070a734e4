use Rattle.std.proofs.Common.{string_bytes}
use Rattle.std.proofs.lemmas.Result.{on_ok_weaker}
use Rattle.samoa_print.proofs.Sound.{change_adds}
use Rattle.samoa_print.proofs.inputs.push_change.Goals as goal

pub returns : goal.returns
returns c =
    on_ok_weaker c.push-2.result
    (λ e. change_adds c.args.script.now c.args.item.now c.args.begin.now (string_bytes c.args.out.now) _ _ _ _ _ _ _ _ _ _ c.as_slice.ensures c.from.ensures c.from-2.ensures c.in_ok-push.ensures
    c.in_ok-push_numbers.ensures c.in_ok-push_number.ensures c.in_ok-push_number-2.ensures e c.args.change c.change_name.ensures c.in_ok-push_string.ensures)
    c.push-2.ensures
