use Rattle.std.proofs.Common.{arith}
use Rattle.samoa_model.specs.declared.record.Step.{Step}
use Rattle.samoa_invariant.specs.Runs.{IsDue}
use Rattle.samoa_core.proofs.Past.{needs-on, released}
use Rattle.samoa_core.proofs.settling.try_release.Goals as goal

pub returns-then-has_turn-clause-releases : goal.returns-then-has_turn-clause-releases
returns-then-has_turn-clause-releases g c before run made =
    let kept = c.requires.kept in
    let micro = c.requires.micro in
    let few = c.recall.ensures.in_range.few_micros in
    let due : IsDue c.args.control.now (Step.Release c.args.comp c.args.micro) = record {
      number = omega (arith, kept);
      enabled = record {
        turn = c.has_turn.ensures.0 c.if-has_turn.true;
        quiet = (c.requires.needed.bits c.args.micro (omega (arith, micro, few))).0 (c.is_clear.ensures.0 c.if-is_clear.true);
      };
    } in
    released before c.args.control.now _ c.args.comp c.args.micro run made due c.release.ensures.step

pub returns-then-has_turn-clause-needed : goal.returns-then-has_turn-clause-needed
returns-then-has_turn-clause-needed g c =
    needs-on c.args.control.now c.release.new.control c.args.comp c.args.micro c.args.needed c.recall.ensures.run c.release.ensures.step c.requires.needed
