use Rattle.std.proofs.Common.{refl}
use Rattle.samoa_ticks.proofs.Standing.{stands_more}
use Rattle.samoa_ticks.proofs.report.Report.close.Goals as goal

pub returns-clause-stands : goal.returns-clause-stands
returns-clause-stands g c =
    stands_more c.args.script.now c.args.core.now c.clear-2.new.self c.args.self.now _ c.args.count c.requires.ended c.admitted-admitted.ensures.all
    c.in_ok-push_comps.ensures.counted c.in_ok-push_comps.ensures.gathered c.in_ok-push_comps.ensures.tick refl refl refl refl refl c.clear-2.ensures.clear
