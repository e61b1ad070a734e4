use Rattle.std.proofs.Common.{◌≡◌, ◌+◌, ◌-◌, ◌<◌, ◌≤◌, ◌++◌, ◌∙◌, ℕ, Some, ap, arith, drop, length, length-take, slice_get, subst, sym, take}
use Rattle.std.proofs.lemmas.Option.{slice_get-get_or}
use Rattle.samoa_model.specs.declared.record.Ext.{Ext}
use Rattle.samoa_serial.specs.Report.{is_delivery, is_refusal}
use Rattle.samoa_invariant.specs.Runs.{Trace, ext_at, no_ext, served_at}
use Rattle.samoa_invariant.proofs.representation.Traces.{count-few}
use Rattle.samoa_ledger.specs.Gathering.{Gathers, HasGathered}
use Rattle.samoa_ledger.specs.Written.{AreTotals, later_text}
use Rattle.samoa_ledger.proofs.OneMore.{IsAt, gathered_at, later_at, room_for, text_all, text_more, totals_more}
use Rattle.samoa_ledger.proofs.text.push_comps.Goals as goal

pub push_comp-requires-clause-deliveries : goal.push_comp-requires-clause-deliveries
push_comp-requires-clause-deliveries g c =
    let core : Trace = c.args.core.now in
    let k : ℕ = c.loop-totals.totals.comps in
    let lt : k < length core.exts = omega (arith, c.loop-totals-test.true, c.admitted.ensures.count) in
    let few : k < 100000 = omega (arith, lt, c.admitted.ensures.all, count-few core c.admitted.ensures.run) in
    let is : IsAt c.args.script.now core k (ext_at core.exts k) = record { of_script = c.requires.script; there = slice_get-get_or core.exts k no_ext lt } in
    room_for is_delivery c.args.script.now core k (ext_at core.exts k) _ c.requires.in_range few is c.loop-totals.invariant.counted.deliveries

pub push_comp-requires-clause-refusals : goal.push_comp-requires-clause-refusals
push_comp-requires-clause-refusals g c =
    let core : Trace = c.args.core.now in
    let k : ℕ = c.loop-totals.totals.comps in
    let lt : k < length core.exts = omega (arith, c.loop-totals-test.true, c.admitted.ensures.count) in
    let few : k < 100000 = omega (arith, lt, c.admitted.ensures.all, count-few core c.admitted.ensures.run) in
    let is : IsAt c.args.script.now core k (ext_at core.exts k) = record { of_script = c.requires.script; there = slice_get-get_or core.exts k no_ext lt } in
    room_for is_refusal c.args.script.now core k (ext_at core.exts k) _ c.requires.in_range few is c.loop-totals.invariant.counted.refusals

pub push_comp-requires-clause-tick : goal.push_comp-requires-clause-tick
push_comp-requires-clause-tick g c =
    let core : Trace = c.args.core.now in
    let k : ℕ = c.loop-totals.totals.comps in
    let lt : k < length core.exts = omega (arith, c.loop-totals-test.true, c.admitted.ensures.count) in
    let place : k + 1 - 1 ≡ k = omega arith in
    ap (λ (n : ℕ). (ext_at core.exts n).tick) place
    ∙ (later_at (λ (ext : Ext). ext.tick ≡ c.args.net.now.tick) core.exts c.args.totals.now.comps k no_ext c.requires.of_tick c.loop-totals.invariant.least lt
    ∙ sym c.loop-totals.invariant.tick)

pub push_comp-requires-clause-next : goal.push_comp-requires-clause-next
push_comp-requires-clause-next g c =
    omega (arith, c.loop-totals.invariant.gathered.comp, length-take c.loop-totals.totals.comps c.args.core.now.exts)

pub loop-totals-preserved : goal.loop-totals-preserved
loop-totals-preserved g c =
    let core : Trace = c.args.core.now in
    let k : ℕ = c.loop-totals.totals.comps in
    let ext : Ext = ext_at core.exts k in
    let lt : k < length core.exts = omega (arith, c.loop-totals-test.true, c.admitted.ensures.count) in
    let is : IsAt c.args.script.now core k ext = record { of_script = c.requires.script; there = slice_get-get_or core.exts k no_ext lt } in
    let place : k + 1 - 1 ≡ k = omega arith in
    let there : slice_get core.exts (k + 1 - 1) ≡ Some ext = ap (λ (n : ℕ). slice_get core.exts n) place ∙ is.there in
    let same : c.push_comp.new.totals.comps ≡ k = c.in_ok-push_comp.ensures.totals.comps in
    let A : ℕ → Type 0 = λ n. AreTotals c.args.script.now (take (n + 1) core.exts) (record c.push_comp.new.totals { comps = c.push_comp.new.totals.comps + 1 }) in
    let of_tick : ext.tick ≡ c.loop-totals.net.tick
    = later_at (λ (ext : Ext). ext.tick ≡ c.args.net.now.tick) core.exts c.args.totals.now.comps k no_ext c.requires.of_tick c.loop-totals.invariant.least lt
    ∙ sym c.loop-totals.invariant.tick in
    let own : Gathers c.args.script.now ext (served_at core (k + 1)).world.entries c.loop-totals.net c.push_comp.new.net
    = subst (λ (n : ℕ). Gathers c.args.script.now (ext_at core.exts n) (served_at core (k + 1)).world.entries c.loop-totals.net c.push_comp.new.net) place
    c.in_ok-push_comp.ensures.gathered in
    let G : ℕ → Type 0 = λ n. HasGathered c.args.script.now (take (n + 1) core.exts) c.push_comp.new.net in
    record {
      least = omega (arith, same, c.loop-totals.invariant.least);
      most = omega (arith, same, lt);
      text = ap (λ (n : ℕ). c.push_comp.new.text.items ++ later_text c.args.script.now c.args.calls (take (n + 1) core.exts) (drop (n + 1) core.exts)) same
          ∙ text_more c.args.script.now c.args.calls core k ext c.loop-totals.text.items c.push_comp.new.text.items _ is c.loop-totals.invariant.text (c.in_ok-push_comp.ensures.text ext there);
      gathered = subst G (sym same) (gathered_at c.args.script.now core k ext c.loop-totals.net c.push_comp.new.net is c.loop-totals.invariant.gathered of_tick own c.in_ok-push_comp.ensures.comp);
      tick = c.in_ok-push_comp.ensures.gathered.tick ∙ c.loop-totals.invariant.tick;
      counted = subst A (sym same) (totals_more c.args.script.now core k ext c.loop-totals.totals c.push_comp.new.totals is c.loop-totals.invariant.counted c.in_ok-push_comp.ensures.totals);
    }

pub returns-clause-text : goal.returns-clause-text
returns-clause-text g c =
    let past : length c.args.core.now.exts ≤ c.loop-totals.totals.comps = omega (arith, c.loop-totals-test.false, c.admitted.ensures.count) in
    text_all c.args.script.now c.args.calls c.args.core.now.exts c.loop-totals.totals.comps c.loop-totals.text.items _ past c.loop-totals.invariant.text
