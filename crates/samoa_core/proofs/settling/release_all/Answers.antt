use Rattle.std.proofs.Common.{arith, ap, length, sym, ◌∙◌}
use Rattle.samoa_core.proofs.Past.{releases-begin, releases-passed}
use Rattle.samoa_core.proofs.settling.release_all.Goals as goal

pub loop-comp-init : goal.loop-comp-init
loop-comp-init g c = record {
  past = rw c.cleared-past.ensures (releases-begin c.args.control.now c.args.index.now c.recall.ensures c.requires.indexed);
  indexed = c.requires.indexed;
  admitted = sym c.admitted-admitted.ensures.count;
  below = (let e = c.cleared-past.ensures in let n = c.admitted-admitted.ensures.count in let le = c.admitted-admitted.ensures.cleared in omega (arith, e, n, le));
}

pub loop-comp-smaller : goal.loop-comp-smaller
loop-comp-smaller g c =
    let lt = c.in-Some.ensures.past c.args.control.now c.loop-comp.past c.loop-comp.invariant.past in
    let le = c.in-Some.ensures.admitted in
    let n = c.loop-comp.invariant.admitted in
    omega (arith, lt, le, n)

pub loop-comp-preserved : goal.loop-comp-preserved
loop-comp-preserved g c =
    let le = c.in-Some.ensures.admitted in
    let n = c.loop-comp.invariant.admitted in
    record {
      past = c.release_next.ensures.past c.args.control.now c.recall.ensures.run (c.in-Some.ensures.made c.args.control.now c.loop-comp.past c.loop-comp.invariant.past);
      indexed = c.release_next.ensures.indexed;
      admitted = ap length c.release_next.ensures.later.exts ∙ n;
      below = omega (arith, le, n);
    }

pub returns-clause-releases : goal.returns-clause-releases
returns-clause-releases g c = c.in_default.ensures.all c.args.control.now c.loop-comp.past c.loop-comp.invariant.past

pub returns-clause-still : goal.returns-clause-still
returns-clause-still g c =
    (releases-passed c.args.control.now c.loop-comp.control c.recall.ensures.run (c.in_default.ensures.all c.args.control.now c.loop-comp.past c.loop-comp.invariant.past)).still

pub returns-clause-later : goal.returns-clause-later
returns-clause-later g c =
    (releases-passed c.args.control.now c.loop-comp.control c.recall.ensures.run (c.in_default.ensures.all c.args.control.now c.loop-comp.past c.loop-comp.invariant.past)).later

pub returns-clause-not_more : goal.returns-clause-not_more
returns-clause-not_more g c =
    (releases-passed c.args.control.now c.loop-comp.control c.recall.ensures.run (c.in_default.ensures.all c.args.control.now c.loop-comp.past c.loop-comp.invariant.past)).not_more
