use Rattle.std.proofs.Common.{◌≡◌, ◌∙◌, Global, List, ℕ, map, string_bytes, subst, sym, true, false}
use Rattle.std.proofs.lemmas.Bool.{le-leb}
use Rattle.samoa_model.specs.Cells.{need}
use Rattle.samoa_serial.specs.LimitedReport.{report_in_full}
use Rattle.samoa_run.specs.declared.words.Order.{Order}
use Rattle.samoa_run.specs.declared.words.Order.TheVariants.{Run}
use Rattle.samoa_run.specs.Statuses.{number}
use Rattle.samoa_run.specs.Serving.{Answers, AnswersOne}
use Rattle.samoa_run.specs.Due.{IsBegun, IsOutput, IsRunOutput, has_cells, done_status, run_status}
use Rattle.samoa_grammar.specs.Held.{Holds}
use Rattle.samoa_run.specs.Replays.{script_part}
use Rattle.samoa_run.specs.Words.{is_replay}
use Rattle.samoa_run.proofs.OneOrder.{made_order, obeys_order, replay_order, usage_order}
use Rattle.samoa_run.proofs.Replays.{of_order, of_replay}
use Rattle.samoa_run.proofs.Served.{only_report}
use Rattle.samoa_run.proofs.top.serve.Goals as goal

pub returns-in-Some-order_in-clause-report : goal.returns-in-Some-order_in-clause-report
returns-in-Some-order_in-clause-report g c =
    λ input script workers cells calls words left held enough.
    let same : c.in-Some-order_in.order ≡ Run workers cells calls false = cc in
    let P : Order → Type 0 = λ order. has_cells order script ≡ true
    → AnswersOne (done_status order script) (IsOutput order script) (IsBegun order script) (g.K.Sink.written c.args.sink.now) (g.K.Sink.written c.obey.new.sink) (number c.obey.result) in
    let S : ℕ → Type 0 = Answers (run_status script) (report_in_full script calls) (g.K.Sink.written c.args.sink.now) (g.K.Sink.written c.obey.new.sink) in
    subst S (sym c.number-in-Some-order_in.ensures) (only_report workers cells script calls (subst P same (c.obey.ensures.done input script left held) (le-leb (need script) cells enough)))

pub returns-in-Some-order_in-clause-journal : goal.returns-in-Some-order_in-clause-journal
returns-in-Some-order_in-clause-journal g c =
    λ input script workers cells calls words left held enough.
    let same : c.in-Some-order_in.order ≡ Run workers cells calls true = cc in
    let P : Order → Type 0 = λ order. has_cells order script ≡ true
    → AnswersOne (done_status order script) (IsOutput order script) (IsBegun order script) (g.K.Sink.written c.args.sink.now) (g.K.Sink.written c.obey.new.sink) (number c.obey.result) in
    let S : ℕ → Type 0 = AnswersOne (run_status script) (IsRunOutput true script calls) (IsBegun (Run workers cells calls true) script) (g.K.Sink.written c.args.sink.now) (g.K.Sink.written c.obey.new.sink) in
    subst S (sym c.number-in-Some-order_in.ensures) (subst P same (c.obey.ensures.done input script left held) (le-leb (need script) cells enough))

pub returns-then-asks_replay-clause-one_order : goal.returns-then-asks_replay-clause-one_order
returns-then-asks_replay-clause-one_order g c = λ input script left holds group.
    let words : List (List ℕ) = map (string_bytes {Z = Global}) c.args.words.now in
    let asked : is_replay words ≡ true = sym c.asks_replay.ensures.replay ∙ c.if-asks_replay.true in
    let held : Holds (script_part input) script = subst (λ (t : List ℕ). Holds t script) (of_replay words input asked) holds in
    replay_order input script c.obey_replay.ensures left held group

pub returns-in-Some-clause-one_order : goal.returns-in-Some-clause-one_order
returns-in-Some-clause-one_order g c = λ input script left holds group.
    let words : List (List ℕ) = map (string_bytes {Z = Global}) c.args.words.now in
    let held : Holds input script = subst (λ (t : List ℕ). Holds t script) (of_order words input (sym c.asks_replay.ensures.replay ∙ c.if-asks_replay.false)) holds in
    made_order c.in-Some.n input script c.make.ensures.written held group

pub returns-in-Some-order_in-clause-one_order : goal.returns-in-Some-order_in-clause-one_order
returns-in-Some-order_in-clause-one_order g c = λ input script left holds group.
    let words : List (List ℕ) = map (string_bytes {Z = Global}) c.args.words.now in
    let held : Holds input script = subst (λ (t : List ℕ). Holds t script) (of_order words input (sym c.asks_replay.ensures.replay ∙ c.if-asks_replay.false)) holds in
    obeys_order input script c.obey.ensures left held group

pub returns-in-None-clause-one_order : goal.returns-in-None-clause-one_order
returns-in-None-clause-one_order g c = λ input script left holds group.
    let words : List (List ℕ) = map (string_bytes {Z = Global}) c.args.words.now in
    let held : Holds input script = subst (λ (t : List ℕ). Holds t script) (of_order words input (sym c.asks_replay.ensures.replay ∙ c.if-asks_replay.false)) holds in
    usage_order input script c.refuse_words.ensures.written held group
