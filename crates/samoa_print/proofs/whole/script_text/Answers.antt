use Rattle.std.proofs.Common.{◌≡◌, ◌++◌, string_bytes, ap, ◌∙◌, subst, IsUtf8, sym}
use Rattle.std.proofs.lemmas.Str.{IsUtf8-string_bytes}
use Rattle.serde_json.specs.Written.{compact_text}
use Rattle.samoa_print.specs.Canonical.{tree_of}
use Rattle.samoa_print.proofs.Plain.{is_flat}
use Rattle.samoa_print.proofs.Sound.{sound_text}
use Rattle.samoa_print.proofs.whole.script_text.Goals as goal

pub returns-clause-holds : goal.returns-clause-holds
returns-clause-holds c =
    let tree = tree_of c.args.script.now in
    let adds = c.in_ok-push_script.ensures in
    let same : c.into_bytes.result.items ≡ string_bytes c.push_script.new.out = ap (λ v. v.items) c.into_bytes.ensures.value in
    let text : c.into_bytes.result.items ≡ compact_text tree = same ∙ adds.0 ∙ ap (λ l. l ++ compact_text tree) c.new-out.ensures.bytes in
    sound_text c.into_bytes.result.items tree (subst IsUtf8 (sym same) (IsUtf8-string_bytes c.push_script.new.out)) text adds.1 (is_flat c.args.script.now)
