use Rattle.std.proofs.Common.{◌≡◌, ◌∙◌, ◌<◌, ℕ, List, [], ap, arith, refl, subst, sym}
use Rattle.std.specs.Io.KnownBytes.{Appends}
use Rattle.std.proofs.KnownBytes.{Appends-nil}
use Rattle.samoa_model.specs.declared.record.Ext.{Ext}
use Rattle.samoa_invariant.specs.Runs.{Trace}
use Rattle.samoa_ledger.specs.Written.{later_text}
use Rattle.samoa_ledger.proofs.LaterText.{later_text-none}
use Rattle.samoa_ticks.specs.Stands.{HasPartRun, Stands}
use Rattle.samoa_ticks.proofs.Parts.{at_ok}
use Rattle.samoa_ticks.proofs.RunOnce.{home_opened}
use Rattle.samoa_ticks.proofs.Standing.{stands_first}
use Rattle.samoa_ticks.proofs.Whole.{whole_run}
use Rattle.samoa_ticks.proofs.Written.{fewer_left, report_part, report_whole, stood_part, text_more, text_part}
use Rattle.samoa_ticks.proofs.ticks.run_on_workers.Goals as goal

pub loop-count-init : goal.loop-count-init
loop-count-init g c =
    let empty : c.args.core.exts ≡ [] = ap (λ (t : Trace). t.exts) c.requires.unused in
    let W : List ℕ → Type 0 = Appends (g.K.Sink.written c.args.sink.now) (g.K.Sink.written c.args.sink.now) in
    record {
      stands = stands_first c.args.script.now c.args.core c.new-report.result c.requires.unused c.requires.room (c.new-report.ensures.counted c.args.script.now)
          (c.new-report.ensures.gathered c.args.script.now) c.new-report.ensures.batch c.new-report.ensures.next c.new-report.ensures.ticks.0 c.new-report.ensures.ticks.1 c.new-report.ensures.free;
      together = c.new-report.ensures.alone;
      cells = refl;
      written = subst W (sym (ap (later_text c.args.script.now c.args.calls []) empty ∙ later_text-none c.args.script.now c.args.calls [])) (Appends-nil (g.K.Sink.written c.args.sink.now));
      later = omega arith;
    }

pub returns-in_default-clause-part : goal.returns-in_default-clause-part
returns-in_default-clause-part g c =
    stood_part c.args.script.now c.args.calls c.loop-count.core c.loop-count.report _ _ c.loop-count.invariant.stands c.loop-count.invariant.written

pub returns-in_default-ended-clause-part : goal.returns-in_default-ended-clause-part
returns-in_default-ended-clause-part g c =
    stood_part c.args.script.now c.args.calls c.loop-count.core c.loop-count.report _ _ c.loop-count.invariant.stands c.loop-count.invariant.written

pub work_to_end-later-requires-clause-home : goal.work_to_end-later-requires-clause-home
work_to_end-later-requires-clause-home g c κs within v p =
    home_opened c.args.script.now _ _ _ _ _ c.loop-count.invariant.stands.has_run c.in-Ok.ensures.opened v p

pub close-requires-clause-ended : goal.close-requires-clause-ended
close-requires-clause-ended g c =
    let some : 0 < c.in-Ok.count = omega (arith, c.if-count-eq0.false) in
    let p : HasPartRun c.args.script.now c.work_to_end-later.result.0 c.open.new.self c.in-Ok.count = record {
      before = c.loop-count.core;
      opened = c.open.new.core;
      stands = c.in-Ok.ensures.stands;
      some = some;
      within = c.in-Ok.ensures.within;
      has_opened = c.in-Ok.ensures.opened;
      admitted = c.admitted-opened.ensures.all;
      held = c.in-Ok.ensures.held some;
      longest = c.in-Ok.ensures.longest some;
      later = c.work_to_end-later.ensures.later;
      cleared = c.work_to_end-later.ensures.cleared;
      still_held = c.work_to_end-later.ensures.held;
      all = at_ok _ _ c.in-Ok-ended.is c.work_to_end-later.ensures.all;
      home = c.work_to_end-later.ensures.home;
    } in
    p

pub loop-count-preserved : goal.loop-count-preserved
loop-count-preserved g c =
    let some : 0 < c.in-Ok.count = omega (arith, c.if-count-eq0.false) in
    let p : HasPartRun c.args.script.now c.work_to_end-later.result.0 c.open.new.self c.in-Ok.count = record {
      before = c.loop-count.core;
      opened = c.open.new.core;
      stands = c.in-Ok.ensures.stands;
      some = some;
      within = c.in-Ok.ensures.within;
      has_opened = c.in-Ok.ensures.opened;
      admitted = c.admitted-opened.ensures.all;
      held = c.in-Ok.ensures.held some;
      longest = c.in-Ok.ensures.longest some;
      later = c.work_to_end-later.ensures.later;
      cleared = c.work_to_end-later.ensures.cleared;
      still_held = c.work_to_end-later.ensures.held;
      all = at_ok _ _ c.in-Ok-ended.is c.work_to_end-later.ensures.all;
      home = c.work_to_end-later.ensures.home;
    } in
    record {
      stands = c.in_default-close.ensures.stands;
      together = c.close.ensures.alone ∙ (c.open.ensures.alone ∙ c.loop-count.invariant.together);
      cells = c.close.ensures.cells ∙ (c.work_to_end-later.ensures.later.cells ∙ (c.in-Ok.ensures.opened.cells ∙ c.loop-count.invariant.cells));
      written = subst (λ (xs : List Ext). Appends (g.K.Sink.written c.args.sink.now) (g.K.Sink.written c.close.new.sink) (later_text c.args.script.now c.args.calls [] xs)) (sym c.close.ensures.exts)
          (text_more c.args.script.now c.args.calls c.work_to_end-later.result.0 c.open.new.self c.in-Ok.count p _ _ _ c.loop-count.invariant.written c.in_default-close.ensures.all);
      later = omega (arith, c.loop-count.invariant.later, c.close.ensures.cause.later);
    }

pub loop-count-smaller : goal.loop-count-smaller
loop-count-smaller g c =
    let some : 0 < c.in-Ok.count = omega (arith, c.if-count-eq0.false) in
    let p : HasPartRun c.args.script.now c.work_to_end-later.result.0 c.open.new.self c.in-Ok.count = record {
      before = c.loop-count.core;
      opened = c.open.new.core;
      stands = c.in-Ok.ensures.stands;
      some = some;
      within = c.in-Ok.ensures.within;
      has_opened = c.in-Ok.ensures.opened;
      admitted = c.admitted-opened.ensures.all;
      held = c.in-Ok.ensures.held some;
      longest = c.in-Ok.ensures.longest some;
      later = c.work_to_end-later.ensures.later;
      cleared = c.work_to_end-later.ensures.cleared;
      still_held = c.work_to_end-later.ensures.held;
      all = at_ok _ _ c.in-Ok-ended.is c.work_to_end-later.ensures.all;
      home = c.work_to_end-later.ensures.home;
    } in
    fewer_left c.args.script.now c.args.calls c.work_to_end-later.result.0 c.open.new.self c.in-Ok.count p c.close.new.core c.close.new.self c.close.ensures.exts c.in_default-close.ensures.stands

pub returns-in-Err-clause-part : goal.returns-in-Err-clause-part
returns-in-Err-clause-part g c =
    let some : 0 < c.in-Ok.count = omega (arith, c.if-count-eq0.false) in
    let p : HasPartRun c.args.script.now c.work_to_end-later.result.0 c.open.new.self c.in-Ok.count = record {
      before = c.loop-count.core;
      opened = c.open.new.core;
      stands = c.in-Ok.ensures.stands;
      some = some;
      within = c.in-Ok.ensures.within;
      has_opened = c.in-Ok.ensures.opened;
      admitted = c.admitted-opened.ensures.all;
      held = c.in-Ok.ensures.held some;
      longest = c.in-Ok.ensures.longest some;
      later = c.work_to_end-later.ensures.later;
      cleared = c.work_to_end-later.ensures.cleared;
      still_held = c.work_to_end-later.ensures.held;
      all = at_ok _ _ c.in-Ok-ended.is c.work_to_end-later.ensures.all;
      home = c.work_to_end-later.ensures.home;
    } in
    text_part c.args.script.now c.args.calls c.work_to_end-later.result.0 c.open.new.self c.in-Ok.count p _ _ _ c.loop-count.invariant.written c.in-Err.ensures.part

pub returns-in-Ok-finish-clause-all : goal.returns-in-Ok-finish-clause-all
returns-in-Ok-finish-clause-all g c =
    let none : c.in-Ok.count ≡ 0 = omega (arith, c.if-count-eq0.true) in
    let end = c.in-Ok.ensures.end none in
    let W : List Ext → Type 0 = λ exts. Appends (g.K.Sink.written c.args.sink.now) (g.K.Sink.written c.loop-count.sink) (later_text c.args.script.now c.args.calls [] exts) in
    report_whole c.args.script.now c.args.calls c.open.new.self.limited c.open.new.core.exts _ _ _ end.1.0 end.1.1 (subst W (sym (ap (λ (t : Trace). t.exts) end.0)) c.loop-count.invariant.written)
    c.in-Ok-finish.ensures.all

pub returns-in-Ok-finish-clause-finished : goal.returns-in-Ok-finish-clause-finished
returns-in-Ok-finish-clause-finished g c few =
    let none : c.in-Ok.count ≡ 0 = omega (arith, c.if-count-eq0.true) in
    let end = c.in-Ok.ensures.end none in
    let same : c.open.new.core ≡ c.loop-count.core = end.0 in
    whole_run c.args.script.now c.open.new.core c.open.new.self (subst (λ (t : Trace). Stands c.args.script.now t c.open.new.self) (sym same) c.in-Ok.ensures.stands) end.1.0
    c.admitted-all.ensures.run c.admitted-all.ensures.all (omega (arith, few, ap (λ (t : Trace). t.cells) same, c.loop-count.invariant.cells))

pub returns-clause-part : goal.returns-clause-part
returns-clause-part g c =
    let none : c.in-Ok.count ≡ 0 = omega (arith, c.if-count-eq0.true) in
    let end = c.in-Ok.ensures.end none in
    let W : List Ext → Type 0 = λ exts. Appends (g.K.Sink.written c.args.sink.now) (g.K.Sink.written c.loop-count.sink) (later_text c.args.script.now c.args.calls [] exts) in
    report_part c.args.script.now c.args.calls c.open.new.self.limited c.open.new.core.exts _ _ _ end.1.0 end.1.1 (subst W (sym (ap (λ (t : Trace). t.exts) end.0)) c.loop-count.invariant.written)
    c.in-Err-finish.ensures.part
