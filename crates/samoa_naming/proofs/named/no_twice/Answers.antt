use Rattle.std.proofs.Common.{◌≡◌, true, false, Some, take, bytes_eq, arith, sym, ap, ◌∙◌}
use Rattle.std.proofs.lemmas.Grind.{common_steps}
use Rattle.std.specs.List.{list_any}
use Rattle.samoa_grammar.specs.declared.fault.WalkFault.TheVariants.{Twice}
use Rattle.samoa_naming.proofs.Twice.{twice_here, twice_more}
use Rattle.samoa_naming.proofs.named.no_twice.Goals as goal

pub returns-then-is_among : goal.returns-then-is_among
returns-then-is_among g c =
    let again : list_any (λ item. bytes_eq (g.T.Named.called c.index-items-i.result) (g.T.Named.called item)) (take c.loop-i.i c.args.items.now) ≡ true = grind (arith, common_steps) in
    let first = sym c.loop-i.invariant ∙ twice_here g.T.Named.called c.args.items.now c.loop-i.i c.index-items-i.result (omega arith) c.index-items-i.is again in
    rw c.twice.ensures (first ∙ ap (λ n. Some (Twice n)) (sym c.name-then-is_among.ensures))

pub loop-i-preserved : goal.loop-i-preserved
loop-i-preserved g c =
    let apart : list_any (λ item. bytes_eq (g.T.Named.called c.index-items-i.result) (g.T.Named.called item)) (take c.loop-i.i c.args.items.now) ≡ false = grind (arith, common_steps) in
    twice_more g.T.Named.called c.args.items.now c.loop-i.i c.index-items-i.result (omega arith) c.index-items-i.is apart ∙ c.loop-i.invariant
