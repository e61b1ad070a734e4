use Rattle.std.proofs.Common.{◌++◌, string_bytes, ap, ◌∙◌, arith}
use Rattle.std.proofs.lemmas.Result.{on_ok_weaker}
use Rattle.samoa_print.proofs.Sound.{after, sound_number}
use Rattle.samoa_print.proofs.text.push_number.Goals as goal

pub returns : goal.returns
returns c =
    let old = string_bytes c.args.out.now in
    let begin = c.args.begin.now in
    on_ok_weaker c.push-2.result (λ e. (
      after old _ _ begin _ c.in_ok-push.ensures e ∙ ap (λ l. old ++ (begin ++ l)) c.format.ensures.text,
      sound_number c.args.number (omega arith),
    )) c.push-2.ensures
