use Rattle.std.proofs.Common.{◌∷◌, [], ◌++◌, arith, sym, ap₂, ◌∙◌}
use Rattle.std.proofs.lemmas.List.{map_more}
use Rattle.samoa_grammar.specs.Meaning.{vertex_of}
use Rattle.samoa_naming.proofs.resolving.root_numbers.Goals as goal

pub loop-root-preserved : goal.loop-root-preserved
loop-root-preserved c =
    c.in_ok-push.ensures.items
    ∙ ap₂ (λ l v. l ++ v ∷ []) c.loop-root.invariant c.vertex.ensures
    ∙ sym (map_more (vertex_of c.args.vertices.now) c.args.roots.now c.loop-root.root-index _ (omega arith))
