use Rattle.std.proofs.Common.{string_bytes, arith}
use Rattle.std.proofs.lemmas.Result.{on_ok_weaker}
use Rattle.samoa_print.specs.Canonical.{number_tree}
use Rattle.samoa_print.proofs.Sound.{all_written}
use Rattle.samoa_print.proofs.text.push_numbers.Goals as goal

pub returns : goal.returns
returns c =
    on_ok_weaker c.push-3.result
    (λ e. all_written number_tree c.args.numbers.now c.loop-i.i c.args.begin.now (string_bytes c.args.out.now) _ _ _ _ (omega arith) c.in_ok-push.ensures c.in_ok-push-2.ensures c.loop-i.invariant e)
    c.push-3.ensures
