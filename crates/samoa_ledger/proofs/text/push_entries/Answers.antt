use Rattle.std.proofs.Common.{◌≡◌, ◌+◌, ◌-◌, ◌++◌, ◌∙◌, ℕ, List, ap, append_assoc, arith, count_by, filter, subst, sym, take}
use Rattle.std.proofs.lemmas.Option.{get_or_from_slice_get}
use Rattle.samoa_model.specs.declared.record.Entry.{Entry}
use Rattle.samoa_serial.specs.Lines.{entry_text}
use Rattle.samoa_serial.specs.Report.{entries_text, is_delivery, is_refusal}
use Rattle.samoa_model.specs.declared.record.Ext.{Ext}
use Rattle.samoa_model.specs.declared.script.Script.{Script}
use Rattle.samoa_model.specs.Range.{IsInRange}
use Rattle.samoa_serial.specs.Batch.{asked_by, is_up, sent_by}
use Rattle.samoa_serial.specs.Known.{IsKnown}
use Rattle.samoa_serial.proofs.SerialLaws.{length-comps}
use Rattle.samoa_invariant.specs.Runs.{Trace, ext_at, no_ext, no_ran, served_at}
use Rattle.samoa_net.specs.Gathered.{Gathered, most_kept}
use Rattle.samoa_ledger.specs.Gathering.{Gathers}
use Rattle.samoa_ledger.proofs.Gathering.{entry_known, gathers_more}
use Rattle.samoa_ledger.proofs.EntrySteps.{count_by-one_more, entries_text-one_more, found_within, room_for_one, take_one_more, take_whole}
use Rattle.samoa_ledger.proofs.text.push_entries.Goals as goal

pub count-requires-clause-deliveries : goal.count-requires-clause-deliveries
count-requires-clause-deliveries g c =
    room_for_one is_delivery _ c.loop-entry.at c.in-Some.entry _ _ c.in-Some.ensures c.loop-entry.invariant.deliveries c.requires.deliveries

pub count-requires-clause-refusals : goal.count-requires-clause-refusals
count-requires-clause-refusals g c =
    room_for_one is_refusal _ c.loop-entry.at c.in-Some.entry _ _ c.in-Some.ensures c.loop-entry.invariant.refusals c.requires.refusals

pub gather-requires-clause-known : goal.gather-requires-clause-known
gather-requires-clause-known g c =
    let core : Trace = c.args.core.now in
    let range : IsInRange core.script = subst IsInRange (sym c.requires.script) c.requires.in_range in
    let K : Script → Type 0 = λ script. IsKnown script c.in-Some.entry in
    subst K c.requires.script
    (entry_known core.script core.exts (c.args.comp - 1) c.loop-entry.at no_ran c.in-Some.entry range
    (omega (arith, length-comps core.script core.exts)) (sym c.in-Some.ensures))

pub overflow_add-at : goal.overflow_add-at
overflow_add-at g c = omega (arith, found_within _ c.loop-entry.at c.in-Some.entry c.in-Some.ensures, c.requires.deliveries)

pub loop-entry-smaller : goal.loop-entry-smaller
loop-entry-smaller g c = omega (arith, found_within _ c.loop-entry.at c.in-Some.entry c.in-Some.ensures)

pub loop-entry-preserved : goal.loop-entry-preserved
loop-entry-preserved g c =
    let script = c.args.script.now in
    let comp = c.args.comp in
    let calls = c.args.calls in
    let entries = (served_at c.args.core.now comp).world.entries in
    let at = c.loop-entry.at in
    let entry = c.in-Some.entry in
    let start = c.args.text.now.items in
    let before = entries_text script comp calls (take at entries) in
    let line = entry_text script comp calls entry in
    let net : Gathered = c.loop-entry.net in
    let ext : Ext = ext_at c.args.core.now.exts (comp - 1) in
    let same : ext ≡ c.ext-ext.result = get_or_from_slice_get c.args.core.now.exts (comp - 1) c.ext-ext.result no_ext c.ext-ext.ensures in
    let of_node : ext.node ≡ c.ext-ext.result.node = ap (λ (x : Ext). x.node) same in
    let of_tick : ext.tick ≡ c.ext-ext.result.tick = ap (λ (x : Ext). x.tick) same in
    let now : c.ext-ext.result.tick ≡ net.tick = sym of_tick ∙ (c.requires.tick ∙ sym c.loop-entry.invariant.gathered.tick) in
    let G : List Entry → Type 0 = λ es. Gathers script ext es c.args.net.now c.gather.new.self in
    let A : ℕ → Type 0 = λ t. c.gather.new.self.asked ≡ take most_kept (net.asked ++ filter (is_up script (t + 1)) (asked_by (t + 1) ext entry)) in
    let S : ℕ → Type 0 = λ t. c.gather.new.self.sent ≡ take most_kept (net.sent ++ filter (is_up script (t + 1)) (sent_by script (t + 1) ext entry)) in
    record {
      within = omega (arith, found_within _ at entry c.in-Some.ensures);
      text = c.in_ok-entry_line.ensures.ok
          ∙ ap (λ (text : List _). text ++ line) c.loop-entry.invariant.text
          ∙ append_assoc start before line
          ∙ ap (λ (text : List _). start ++ text) (sym (entries_text-one_more script comp calls entries at entry c.in-Some.ensures));
      comps = c.count.ensures.comps ∙ c.loop-entry.invariant.comps;
      deliveries = omega (arith, c.count.ensures.deliveries, c.loop-entry.invariant.deliveries, count_by-one_more is_delivery entries at entry c.in-Some.ensures);
      refusals = omega (arith, c.count.ensures.refusals, c.loop-entry.invariant.refusals, count_by-one_more is_refusal entries at entry c.in-Some.ensures);
      gathered = subst G (sym (take_one_more entries at entry c.in-Some.ensures))
          (gathers_more script ext (take at entries) entry c.args.net.now net c.gather.new.self c.loop-entry.invariant.gathered
          c.in_ok-gather.ensures.tick c.in_ok-gather.ensures.own (subst A now (c.in_ok-gather.ensures.asked ext of_node of_tick)) (subst S now (c.in_ok-gather.ensures.sent ext of_node of_tick)));
      next = omega (arith, c.in_ok-gather.ensures.comp);
    }

pub returns-clause-text : goal.returns-clause-text
returns-clause-text g c =
    c.loop-entry.invariant.text
    ∙ ap (λ (es : List Entry). c.args.text.now.items ++ entries_text c.args.script.now c.args.comp c.args.calls es) (take_whole _ c.loop-entry.at c.in_default.ensures)

pub returns-clause-totals : goal.returns-clause-totals
returns-clause-totals g c =
    let whole = take_whole _ c.loop-entry.at c.in_default.ensures in
    record {
      comps = c.loop-entry.invariant.comps;
      deliveries = c.loop-entry.invariant.deliveries ∙ ap (λ (es : List Entry). c.args.totals.now.deliveries + count_by is_delivery es) whole;
      refusals = c.loop-entry.invariant.refusals ∙ ap (λ (es : List Entry). c.args.totals.now.refusals + count_by is_refusal es) whole;
    }

pub returns-clause-gathered : goal.returns-clause-gathered
returns-clause-gathered g c =
    let G : List Entry → Type 0 = λ es. Gathers c.args.script.now (ext_at c.args.core.now.exts (c.args.comp - 1)) es c.args.net.now c.loop-entry.net in
    subst G (take_whole _ c.loop-entry.at c.in_default.ensures) c.loop-entry.invariant.gathered
