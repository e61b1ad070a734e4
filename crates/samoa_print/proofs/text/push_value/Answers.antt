use Rattle.std.proofs.Common.{◌≡◌, ◌++◌, string_bytes, ap, ◌∙◌}
use Rattle.std.proofs.lemmas.Result.{on_ok_weaker}
use Rattle.serde_json.specs.View.{view}
use Rattle.serde_json.specs.Written.{compact_text}
use Rattle.samoa_print.proofs.Sound.{after, sound_read}
use Rattle.samoa_print.proofs.text.push_value.Goals as goal

pub returns : goal.returns
returns c =
    let old = string_bytes c.args.out.now in
    let begin = c.args.begin.now in
    let d = view c.args.value.now in
    let text = c.in_ok-text.ensures in
    let same : c.as_str.result.now ≡ compact_text d = c.as_str.ensures.value ∙ text.text c.requires.plain in
    on_ok_weaker c.push-2.result (λ e. (
      after old _ _ begin _ c.in_ok-push.ensures e ∙ ap (λ l. old ++ (begin ++ l)) same,
      sound_read _ d text.order (text.reads_back c.requires.flat) c.requires.plain c.requires.flat,
    )) c.push-2.ensures
