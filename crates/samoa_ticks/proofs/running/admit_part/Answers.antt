use Rattle.std.proofs.Common.{◌∷◌, [], ◌≤◌, List, arith, length, subst, sym, take}
use Rattle.samoa_model.specs.declared.record.Ext.{Ext}
use Rattle.samoa_ticks.specs.Running.{HasOpened}
use Rattle.samoa_ledger.proofs.EntrySteps.{take_one_more}
use Rattle.samoa_ticks.proofs.Opened.{opened_more, some_opened}
use Rattle.samoa_ticks.proofs.running.admit_part.Goals as goal

pub loop-ext-preserved : goal.loop-ext-preserved
loop-ext-preserved g c =
    let exts : List Ext = c.args.exts.now in
    let H : List Ext → Type 0 = λ l. HasOpened c.args.core.now l c.admit.new.core in
    record {
      most = omega (arith, c.in-Some.ensures.more);
      opened = subst H (sym (take_one_more exts c.loop-ext.count c.in-Some.ext (sym c.in-Some.ensures.item)))
          (opened_more c.args.core.now c.loop-ext.core c.admit.new.core (take c.loop-ext.count exts) (c.in-Some.ext ∷ []) c.loop-ext.invariant.opened c.in_ok-admit.ensures.opened);
      none_held = λ none. absurd (omega (arith, none));
      held = λ some. c.in_ok-admit.ensures.held;
    }

pub returns-clause-some : goal.returns-clause-some
returns-clause-some g c =
    let exts : List Ext = c.args.exts.now in
    let within : c.args.most ≤ length exts = c.requires.within in
    some_opened c.args.core.now c.loop-ext.core exts c.loop-ext.count c.args.most c.requires.some within c.requires.room c.loop-ext.invariant.opened c.loop-ext.invariant.none_held c.in_default.ensures.none

pub returns-clause-held : goal.returns-clause-held
returns-clause-held g c =
    let exts : List Ext = c.args.exts.now in
    let within : c.args.most ≤ length exts = c.requires.within in
    c.loop-ext.invariant.held (some_opened c.args.core.now c.loop-ext.core exts c.loop-ext.count c.args.most c.requires.some within c.requires.room c.loop-ext.invariant.opened c.loop-ext.invariant.none_held c.in_default.ensures.none)
