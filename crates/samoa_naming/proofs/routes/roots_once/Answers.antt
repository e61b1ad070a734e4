use Rattle.std.proofs.Common.{arith, sym, ap₂, ◌∙◌}
use Rattle.samoa_grammar.specs.Meaning.{handler_of}
use Rattle.samoa_naming.specs.Routes.{with_handler}
use Rattle.samoa_naming.proofs.Once.{once_more}
use Rattle.samoa_naming.proofs.routes.roots_once.Goals as goal

pub loop-root-preserved : goal.loop-root-preserved
loop-root-preserved c =
    c.in_ok-add_handler.ensures
    ∙ ap₂ (λ hs h. with_handler hs h) c.loop-root.invariant c.handler.ensures
    ∙ sym (once_more (handler_of c.args.draft.now.micros) c.args.roots.now c.loop-root.root-index c.root-item.result (omega arith) c.root-item.is)
