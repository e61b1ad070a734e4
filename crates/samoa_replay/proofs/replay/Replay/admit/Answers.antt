use Rattle.std.proofs.Common.{◌∙◌, ap, arith, refl, sym}
use Rattle.std.proofs.lemmas.Bool.{false≢true}
use Rattle.samoa_control.specs.Since.{cleared_comps}
use Rattle.samoa_replay.specs.Following.{rest_of}
use Rattle.samoa_replay.proofs.Admitting.{admit_made, few, none_refused, number_refused, wide_refused}
use Rattle.samoa_ledger.proofs.Histories.{part_few}
use Rattle.samoa_replay.proofs.Knowing.{known}
use Rattle.samoa_replay.proofs.replay.Replay.admit.Goals as goal

pub overflow_add-admitted : goal.overflow_add-admitted
overflow_add-admitted g c =
    omega (
      arith,
      c.admitted-admitted.ensures.count,
      part_few c.args.self.now.core.script c.args.self.now.core.exts c.args.self.now.course.tick (rest_of c.args.self.now.course) c.requires.ready.follows.on_course.left,
    )

pub returns-then-comp-admitted-clause-refused : goal.returns-then-comp-admitted-clause-refused
returns-then-comp-admitted-clause-refused g c none =
    number_refused _ _ _ c.requires.ready c.admitted-admitted.ensures.all c.args.comp (λ same. c.if-comp-admitted.true (omega (arith, same, c.admitted-admitted.ensures.count)))

pub returns-in_default-clause-refused : goal.returns-in_default-clause-refused
returns-in_default-clause-refused g c none =
    none_refused _ _ _ c.requires.ready c.admitted-admitted.ensures.all c.args.comp c.in_default.ensures.none c.requires.going

pub fits-requires : goal.fits-requires
fits-requires g c = known _ _ _ c.requires.ready c.admitted-admitted.ensures.in_range c.in-Some.ext c.in-Some.ensures.some

pub returns-then-not-fits-clause-refused : goal.returns-then-not-fits-clause-refused
returns-then-not-fits-clause-refused g c none =
    wide_refused _ _ _ c.requires.ready c.admitted-admitted.ensures.run c.admitted-admitted.ensures.all c.in-Some.ext c.in-Some.ensures.some c.args.comp
    (λ fits. false≢true (sym c.if-not-fits.true ∙ c.fits.ensures.1 fits))

pub admit-requires-clause-few : goal.admit-requires-clause-few
admit-requires-clause-few g c =
    few _ _ _ c.requires.ready c.admitted-admitted.ensures.run c.admitted-admitted.ensures.all c.in-Some.ext c.in-Some.ensures.some

pub admit-requires-clause-known : goal.admit-requires-clause-known
admit-requires-clause-known g c = known _ _ _ c.requires.ready c.admitted-admitted.ensures.in_range c.in-Some.ext c.in-Some.ensures.some

pub returns-in-Ok-clause-made : goal.returns-in-Ok-clause-made
returns-in-Ok-clause-made g c made =
    admit_made _ _ _ c.requires.ready c.admitted-admitted.ensures.run c.admitted-admitted.ensures.all c.in-Some.ext c.in-Some.ensures.some (c.fits.ensures.0 c.if-not-fits.false) c.in-Some.ensures.more
    (ap cleared_comps (sym c.in-Ok.ensures.step) ∙ c.admit.ensures.cleared) c.args.comp _ _ _ (omega (arith, c.if-comp-admitted.false, c.admitted-admitted.ensures.count)) c.in-Ok.ensures.step refl refl

pub returns-in-Ok-clause-out : goal.returns-in-Ok-clause-out
returns-in-Ok-clause-out g c =
    (admit_made _ _ _ c.requires.ready c.admitted-admitted.ensures.run c.admitted-admitted.ensures.all c.in-Some.ext c.in-Some.ensures.some (c.fits.ensures.0 c.if-not-fits.false) c.in-Some.ensures.more
    (ap cleared_comps (sym c.in-Ok.ensures.step) ∙ c.admit.ensures.cleared) c.args.comp _ _ _ (omega (arith, c.if-comp-admitted.false, c.admitted-admitted.ensures.count)) c.in-Ok.ensures.step refl refl).follows.out
