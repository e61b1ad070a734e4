use Rattle.std.proofs.Common.{arith, ◌∙◌, ap, sym, length}
use Rattle.samoa_control.specs.Later.{IsLater}
use Rattle.samoa_control.proofs.Later.{later-made}
use Rattle.samoa_core.proofs.settling.release_of.Goals as goal

pub loop-micro-preserved : goal.loop-micro-preserved
loop-micro-preserved g c =
    let made = c.try_release.ensures.releases c.args.control.now c.recall.ensures.run c.loop-micro.invariant.made in
    let later : IsLater c.args.control.now c.try_release.new.control = later-made c.args.control.now c.try_release.new.control made.steps c.recall.ensures.run made.made in
    let kept = c.requires.kept in
    let admitted = c.requires.admitted in
    let same = c.loop-micro.invariant.same in
    record {
      made = made;
      indexed = c.try_release.ensures.indexed;
      calm = λ i le. c.try_release.ensures.calm i (omega (arith, le, same)) ∙ c.loop-micro.invariant.calm i le;
      kept = rw later.cleared kept;
      same = later.cleared;
      admitted = rw later.exts admitted;
      needed = c.try_release.ensures.needed;
      micros = ap (λ s. length s.micros) later.script ∙ sym c.micros-micros.ensures;
      below = omega arith;
    }
