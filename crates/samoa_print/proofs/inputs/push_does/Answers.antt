use Rattle.std.proofs.Common.{length, string_bytes, ap, arith}
use Rattle.std.proofs.lemmas.Result.{on_ok_weaker}
use Rattle.samoa_print.specs.Canonical.{do_tree}
use Rattle.samoa_print.proofs.Sound.{all_written}
use Rattle.samoa_print.proofs.inputs.push_does.Goals as goal

pub returns : goal.returns
returns c =
    let script = c.args.script.now in
    on_ok_weaker c.push-3.result
    (λ e. all_written (do_tree script) script.does c.loop-i.i c.args.begin.now (string_bytes c.args.out.now) _ _ _ _ (omega (arith, ap length c.as_slice-item-items.ensures)) c.in_ok-push.ensures c.in_ok-push-2.ensures c.loop-i.invariant e)
    c.push-3.ensures
