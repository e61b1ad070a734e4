use Rattle.std.proofs.Common.{◌≡◌, Some, refl, subst, sym}
use Rattle.std.proofs.Common.{ℕ, Bool}
use Rattle.samoa_serial.specs.LimitedReport.{report_in_full}
use Rattle.samoa_run.specs.declared.words.Order.TheVariants.{Serial}
use Rattle.samoa_run.specs.Statuses.{number}
use Rattle.samoa_run.specs.Serving.{Answers}
use Rattle.samoa_run.specs.Due.{run_status}
use Rattle.samoa_run.proofs.OneOrder.{obeys_order, usage_order}
use Rattle.samoa_run.proofs.Served.{the_one}
use Rattle.samoa_run.proofs.top.serve_serial.Goals as goal

pub returns-in-Some-Serial-clause-report : goal.returns-in-Some-Serial-clause-report
returns-in-Some-Serial-clause-report g c =
    λ input script calls words left held.
    let given : Some (Serial c.in-Some-Serial.calls) ≡ Some (Serial calls) = cc in
    let same : c.in-Some-Serial.calls ≡ calls = cc in
    let S : ℕ → Type 0 = Answers (run_status script) (report_in_full script calls) (g.K.Sink.written c.args.sink.now) (g.K.Sink.written c.obey_serial.new.sink) in
    let T : Bool → Type 0 = λ asked. Answers (run_status script) (report_in_full script asked) (g.K.Sink.written c.args.sink.now) (g.K.Sink.written c.obey_serial.new.sink) (number c.obey_serial.result) in
    subst S (sym c.number.ensures) (subst T same (the_one (report_in_full script c.in-Some-Serial.calls) (c.obey_serial.ensures.done input script left held refl)))

pub returns-in-Some-Serial-clause-one_order : goal.returns-in-Some-Serial-clause-one_order
returns-in-Some-Serial-clause-one_order g c = λ input script left held group. obeys_order input script c.obey_serial.ensures left held group

pub returns-in_default-clause-one_order : goal.returns-in_default-clause-one_order
returns-in_default-clause-one_order g c = λ input script left held group. usage_order input script c.refuse_words.ensures.written held group
