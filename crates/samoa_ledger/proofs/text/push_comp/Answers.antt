use Rattle.std.proofs.Common.{◌≡◌, ◌++◌, ◌∙◌, ap}
use Rattle.std.proofs.lemmas.Result.{on_ok_weaker}
use Rattle.samoa_model.specs.declared.record.Ext.{Ext}
use Rattle.samoa_serial.specs.Lines.{ext_text, end_text}
use Rattle.samoa_invariant.specs.Runs.{served_at}
use Rattle.samoa_ledger.proofs.EntrySteps.{comp_text-built}
use Rattle.samoa_ledger.proofs.text.push_comp.Goals as goal

pub returns-clause-text : goal.returns-clause-text
returns-clause-text g c =
    on_ok_weaker c.end_line.result (λ last ext at.
    let same : c.ext-ext.result ≡ ext = cc in
    comp_text-built c.args.script.now c.args.calls c.args.comp ext (served_at c.args.core.now c.args.comp) c.args.text.now.items c.ext_line.new.out.items c.push_entries.new.text.items c.end_line.new.out.items
    (c.in_ok-ext_line.ensures.ok ∙ ap (λ (e : Ext). c.args.text.now.items ++ ext_text c.args.script.now c.args.comp e) same)
    c.in_ok-push_entries.ensures.text
    (last ∙ ap (λ (e : _). c.push_entries.new.text.items ++ end_text c.args.comp e) c.ending-ending.ensures)) c.end_line.ensures.ok
