use Rattle.std.proofs.Common.{◌≡◌, ◌∙◌, ap, sym, refl, Some}
use Rattle.samoa_calls.specs.Handed.{ending_of}
use Rattle.samoa_invariant.specs.Runs.{served_at}
use Rattle.samoa_control.proofs.Answered.{ending_is}
use Rattle.samoa_control.proofs.control.Control.ending.Goals as goal

pub unwrap-requires : goal.unwrap-requires
unwrap-requires g c =
    rw (c.ending.ensures.ending, c.running.ensures.comp, ending_is c.args.self.now c.args.comp c.recall.ensures c.requires.kept c.requires.admitted c.requires.ended) refl

pub returns : goal.returns
returns g c =
    let is : c.ending.result ≡ Some (served_at c.args.self.now c.args.comp).value =
    c.ending.ensures.ending ∙ (ap ending_of c.running.ensures.comp ∙ ending_is c.args.self.now c.args.comp c.recall.ensures c.requires.kept c.requires.admitted c.requires.ended) in
    let same : Some c.unwrap.result ≡ Some (served_at c.args.self.now c.args.comp).value = sym c.unwrap.ensures ∙ is in
    let here : c.unwrap.result ≡ (served_at c.args.self.now c.args.comp).value = cc in
    here
