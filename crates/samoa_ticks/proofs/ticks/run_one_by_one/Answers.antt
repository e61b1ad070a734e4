use Rattle.std.proofs.Common.{◌≡◌, ◌∙◌, ◌<◌, ℕ, List, [], ap, arith, subst, sym}
use Rattle.std.specs.Io.KnownBytes.{Appends}
use Rattle.std.proofs.KnownBytes.{Appends-nil}
use Rattle.samoa_model.specs.declared.record.Ext.{Ext}
use Rattle.samoa_invariant.specs.Runs.{Trace}
use Rattle.samoa_ledger.specs.Written.{later_text}
use Rattle.samoa_ledger.proofs.LaterText.{later_text-none}
use Rattle.samoa_ticks.specs.Stands.{HasPartRun}
use Rattle.samoa_ticks.proofs.Parts.{on_err}
use Rattle.samoa_ticks.proofs.Standing.{stands_first}
use Rattle.samoa_ticks.proofs.Written.{fewer_left, report_part, report_whole, stood_part, text_more, text_part}
use Rattle.samoa_ticks.proofs.ticks.run_one_by_one.Goals as goal

pub loop-report-init : goal.loop-report-init
loop-report-init g c =
    let empty : c.args.core.now.exts ≡ [] = ap (λ (t : Trace). t.exts) c.requires.unused in
    let W : List ℕ → Type 0 = Appends (g.K.Sink.written c.args.sink.now) (g.K.Sink.written c.args.sink.now) in
    record {
      stands = stands_first c.args.script.now c.args.core.now c.new-report.result c.requires.unused c.requires.room (c.new-report.ensures.counted c.args.script.now)
          (c.new-report.ensures.gathered c.args.script.now) c.new-report.ensures.batch c.new-report.ensures.next c.new-report.ensures.ticks.0 c.new-report.ensures.ticks.1 c.new-report.ensures.free;
      written = subst W (sym (ap (later_text c.args.script.now c.args.calls []) empty ∙ later_text-none c.args.script.now c.args.calls [])) (Appends-nil (g.K.Sink.written c.args.sink.now));
      later = omega arith;
    }

pub returns-in_err-count-clause-part : goal.returns-in_err-count-clause-part
returns-in_err-count-clause-part g c =
    on_err c.from_residual.result (stood_part c.args.script.now c.args.calls c.loop-report.core c.loop-report.report _ _ c.loop-report.invariant.stands c.loop-report.invariant.written)

pub returns-in_err-run_to_end-clause-part : goal.returns-in_err-run_to_end-clause-part
returns-in_err-run_to_end-clause-part g c =
    on_err c.from_residual-in_err-run_to_end.result (stood_part c.args.script.now c.args.calls c.loop-report.core c.loop-report.report _ _ c.loop-report.invariant.stands c.loop-report.invariant.written)

pub loop-report-preserved : goal.loop-report-preserved
loop-report-preserved g c =
    let some : 0 < c.in_ok-count.count = omega (arith, c.if-count-eq0.false) in
    let p : HasPartRun c.args.script.now c.run_to_end.new.core c.open.new.self c.in_ok-count.count = record {
      before = c.loop-report.core;
      opened = c.open.new.core;
      stands = c.in_ok-count.ensures.stands;
      some = some;
      within = c.in_ok-count.ensures.within;
      has_opened = c.in_ok-count.ensures.opened;
      admitted = c.admitted-opened.ensures.all;
      held = c.in_ok-count.ensures.held some;
      longest = c.in_ok-count.ensures.longest some;
      later = c.run_to_end.ensures.later;
      cleared = c.run_to_end.ensures.cleared;
      still_held = c.run_to_end.ensures.held;
      all = c.in_ok-run_to_end.ensures.all;
      home = c.run_to_end.ensures.home;
    } in
    record {
      stands = c.in_ok-close.ensures.stands;
      written = subst (λ (xs : List Ext). Appends (g.K.Sink.written c.args.sink.now) (g.K.Sink.written c.close.new.sink) (later_text c.args.script.now c.args.calls [] xs)) (sym c.close.ensures.exts)
          (text_more c.args.script.now c.args.calls c.run_to_end.new.core c.open.new.self c.in_ok-count.count p _ _ _ c.loop-report.invariant.written c.in_ok-close.ensures.all);
      later = omega (arith, c.loop-report.invariant.later, c.close.ensures.cause.later);
    }

pub loop-report-smaller : goal.loop-report-smaller
loop-report-smaller g c =
    let some : 0 < c.in_ok-count.count = omega (arith, c.if-count-eq0.false) in
    let p : HasPartRun c.args.script.now c.run_to_end.new.core c.open.new.self c.in_ok-count.count = record {
      before = c.loop-report.core;
      opened = c.open.new.core;
      stands = c.in_ok-count.ensures.stands;
      some = some;
      within = c.in_ok-count.ensures.within;
      has_opened = c.in_ok-count.ensures.opened;
      admitted = c.admitted-opened.ensures.all;
      held = c.in_ok-count.ensures.held some;
      longest = c.in_ok-count.ensures.longest some;
      later = c.run_to_end.ensures.later;
      cleared = c.run_to_end.ensures.cleared;
      still_held = c.run_to_end.ensures.held;
      all = c.in_ok-run_to_end.ensures.all;
      home = c.run_to_end.ensures.home;
    } in
    fewer_left c.args.script.now c.args.calls c.run_to_end.new.core c.open.new.self c.in_ok-count.count p c.close.new.core c.close.new.self c.close.ensures.exts c.in_ok-close.ensures.stands

pub returns-in_err-close-clause-part : goal.returns-in_err-close-clause-part
returns-in_err-close-clause-part g c =
    let some : 0 < c.in_ok-count.count = omega (arith, c.if-count-eq0.false) in
    let p : HasPartRun c.args.script.now c.run_to_end.new.core c.open.new.self c.in_ok-count.count = record {
      before = c.loop-report.core;
      opened = c.open.new.core;
      stands = c.in_ok-count.ensures.stands;
      some = some;
      within = c.in_ok-count.ensures.within;
      has_opened = c.in_ok-count.ensures.opened;
      admitted = c.admitted-opened.ensures.all;
      held = c.in_ok-count.ensures.held some;
      longest = c.in_ok-count.ensures.longest some;
      later = c.run_to_end.ensures.later;
      cleared = c.run_to_end.ensures.cleared;
      still_held = c.run_to_end.ensures.held;
      all = c.in_ok-run_to_end.ensures.all;
      home = c.run_to_end.ensures.home;
    } in
    on_err c.from_residual-in_err-close.result
    (text_part c.args.script.now c.args.calls c.run_to_end.new.core c.open.new.self c.in_ok-count.count p _ _ _ c.loop-report.invariant.written c.in_err-close.ensures.part)

pub returns-in_err-limited-clause-part : goal.returns-in_err-limited-clause-part
returns-in_err-limited-clause-part g c =
    let none : c.in_ok-count.count ≡ 0 = omega (arith, c.if-count-eq0.true) in
    let end = c.in_ok-count.ensures.end none in
    let W : List Ext → Type 0 = λ exts. Appends (g.K.Sink.written c.args.sink.now) (g.K.Sink.written c.loop-report.sink) (later_text c.args.script.now c.args.calls [] exts) in
    on_err c.from_residual-in_err-limited.result
    (report_part c.args.script.now c.args.calls c.open.new.self.limited c.open.new.core.exts _ _ _ end.1.0 end.1.1 (subst W (sym (ap (λ (t : Trace). t.exts) end.0)) c.loop-report.invariant.written)
    c.in_err-limited.ensures.part)

pub returns-clause-all : goal.returns-clause-all
returns-clause-all g c =
    let none : c.in_ok-count.count ≡ 0 = omega (arith, c.if-count-eq0.true) in
    let end = c.in_ok-count.ensures.end none in
    let W : List Ext → Type 0 = λ exts. Appends (g.K.Sink.written c.args.sink.now) (g.K.Sink.written c.loop-report.sink) (later_text c.args.script.now c.args.calls [] exts) in
    report_whole c.args.script.now c.args.calls c.open.new.self.limited c.open.new.core.exts _ _ _ end.1.0 end.1.1 (subst W (sym (ap (λ (t : Trace). t.exts) end.0)) c.loop-report.invariant.written)
    c.in_ok-limited.ensures.all
