use Rattle.std.proofs.Common.{◌≡◌, ◌++◌, ◌∷◌, [], codes, string_bytes, ap, ◌∙◌, sym}
use Rattle.std.proofs.lemmas.Result.{on_ok_weaker}
use Rattle.json.specs.Print.{escape}
use Rattle.samoa_print.proofs.Sound.{after, plain_name, sound_string}
use Rattle.samoa_print.proofs.text.push_name.Goals as goal

pub returns : goal.returns
returns c =
    let old = string_bytes c.args.out.now in
    let begin = c.args.begin.now in
    let name = c.args.name.now in
    let quoted : codes "\"" ++ (name ++ codes "\"") ≡ 34 ∷ (escape name ++ 34 ∷ []) = ap (λ l. 34 ∷ (l ++ 34 ∷ [])) (sym (plain_name name c.requires)) in
    on_ok_weaker c.push-4.result (λ e. (
      after old _ _ begin _ c.in_ok-push.ensures (after _ _ _ (codes "\"") _ c.in_ok-push-2.ensures (after _ _ _ name (codes "\"") c.in_ok-push-3.ensures e))
          ∙ ap (λ l. old ++ (begin ++ l)) quoted,
      sound_string name,
    )) c.push-4.ensures
