use Rattle.std.proofs.Common.{arith, ap, ◌≡◌, ◌∙◌, Global, List, ℕ, codes, length, map, string_bytes, sym}
use Rattle.std.specs.Str.{bytes_eq}
use Rattle.samoa_run.specs.Words.{is_replay}
use Rattle.samoa_run.proofs.OneWord.{the_word}
use Rattle.samoa_run.proofs.Replays.{no_order}
use Rattle.samoa_run.proofs.words.asks_replay.Goals as goal

pub returns-in-len1-clause-no_order : goal.returns-in-len1-clause-no_order
returns-in-len1-clause-no_order c = λ e.
    let words : List (List ℕ) = map (string_bytes {Z = Global}) c.args.words.now in
    let one : length c.args.words.now ≡ 1 = omega (arith, c.in-len1.len_at_least, c.in-len1.len_below) in
    let is : is_replay words ≡ c.eq.result = ap is_replay (the_word (string_bytes {Z = Global}) c.args.words.now c.word-item.result one c.word-item.is) ∙ (ap (λ (w : List ℕ). bytes_eq w (codes "replay")) (sym c.as_str.ensures.value) ∙ sym c.eq.ensures) in
    no_order words (is ∙ e)
