use Rattle.std.proofs.Common.{◌∙◌, ◌*◌, ℕ, ap, replicate, subst, sym}
use Rattle.samoa_model.specs.declared.script.Script.{Script}
use Rattle.samoa_model.specs.Range.{IsInRange}
use Rattle.samoa_micro.specs.Covers.{Covers}
use Rattle.samoa_versions.specs.Counters.{Counters}
use Rattle.samoa_control.proofs.Keeps.{kept-new}
use Rattle.samoa_control.proofs.control.Control.new.Goals as goal

pub set_up-requires : goal.set_up-requires
set_up-requires g c = subst (λ (s : Script). Covers s c.args.stock) (sym c.in_ok-script.ensures) c.requires.covers

pub invariant_of-result : goal.invariant_of-result
invariant_of-result g c =
    let script : Script = c.in_ok-script.script in
    let many = ap (λ (n : ℕ). replicate {A = ℕ} (script.nodes * n) 0) c.len.ensures in
    rw (c.new-3.ensures.items, c.new-4.ensures.items, c.new-5.ensures, c.new-6.ensures.items)
    (kept-new script c.in_ok-tables.tables c.in_ok-masks.masks.items c.in_ok-slots.slots c.in_ok-versions.versions.gv c.in_ok-versions.versions.lv c.args.cells _
    (subst IsInRange (sym c.in_ok-script.ensures) c.requires.in_range) c.in_ok-masks.ensures
    c.in_ok-tables.ensures c.in_ok-slots.ensures
    (ap (λ (v : Counters). v.gv) c.in_ok-versions.ensures ∙ many) (ap (λ (v : Counters). v.lv) c.in_ok-versions.ensures ∙ many))
