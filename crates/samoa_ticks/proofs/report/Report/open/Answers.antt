use Rattle.std.proofs.Common.{◌≡◌, ◌∙◌, ◌<◌, Bool, List, [], ap, arith, if◌then◌else◌, length, refl, rules, slice_get, Some, subst, sym}
use Rattle.std.specs.List.{All}
use Rattle.std.proofs.lemmas.List.{nil_from_length}
use Rattle.std.proofs.lemmas.Option.{slice_get_within}
use Rattle.samoa_model.specs.declared.record.Ext.{Ext}
use Rattle.samoa_model.specs.declared.script.Script.{Script}
use Rattle.samoa_model.specs.Range.{IsExtOf}
use Rattle.samoa_ticks.specs.Stands.{rest_of}
use Rattle.samoa_ledger.proofs.Histories.{part_few, part_named}
use Rattle.samoa_ticks.proofs.Standing.{at_end}
use Rattle.samoa_ticks.proofs.report.Report.open.Goals as goal

pub returns-then-is_empty-clause-end : goal.returns-then-is_empty-clause-end
returns-then-is_empty-clause-end g c none_open =
    let empty : length c.rest-rest.result.now ≡ 0 = search rules in
    let none : rest_of c.refill.new.self ≡ [] = sym c.rest-rest.ensures ∙ nil_from_length c.rest-rest.result.now empty in
    (refl, at_end c.args.script.now c.args.core.now c.refill.new.self c.in_ok-refill.ensures.stands none c.in_ok-refill.ensures.some_or_end)

pub admit_part-requires-clause-named : goal.admit_part-requires-clause-named
admit_part-requires-clause-named g c =
    subst (λ (xs : List Ext). All (IsExtOf c.args.core.now.script) xs) (sym c.rest-rest.ensures)
    (subst (λ (s : Script). All (IsExtOf s) (rest_of c.refill.new.self)) (sym c.requires.stands.has_run.of_script)
    (part_named c.args.script.now c.args.core.now.exts c.refill.new.self.tick (rest_of c.refill.new.self) c.requires.in_range c.in_ok-refill.ensures.stands.left))

pub admit_part-requires-clause-few : goal.admit_part-requires-clause-few
admit_part-requires-clause-few g c =
    omega (
      arith,
      part_few c.args.script.now c.args.core.now.exts c.refill.new.self.tick (rest_of c.refill.new.self) c.in_ok-refill.ensures.stands.left,
      ap (λ (xs : List Ext). length xs) c.rest-rest.ensures,
    )

pub returns-clause-longest : goal.returns-clause-longest
returns-clause-longest g c some together ext is =
    let there : slice_get c.rest-rest.result.now c.in_ok-count.count ≡ Some ext = ap (λ (xs : List Ext). slice_get xs c.in_ok-count.count) c.rest-rest.ensures ∙ is in
    let within : c.in_ok-count.count < length c.rest-rest.result.now = slice_get_within c.rest-rest.result.now c.in_ok-count.count ext there in
    let most : c.most.result ≡ length c.rest-rest.result.now = c.most.ensures ∙ ap (λ (b : Bool). if b then 1 else length c.rest-rest.result.now) together in
    c.in_ok-count.ensures.longest ext (omega (arith, within, most)) there
