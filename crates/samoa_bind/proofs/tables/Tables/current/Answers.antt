use Rattle.std.proofs.Common.{◌≡◌, ◌<◌, ◌+◌, ◌∙◌, ℕ, ap, length, subst, sym}
use Rattle.samoa_bind.specs.Bound.{Bindings, epochs_of}
use Rattle.samoa_bind.proofs.Fields.{length-epochs, node-there}
use Rattle.samoa_bind.proofs.tables.Tables.current.Goals as goal

pub returns : goal.returns
returns c =
    let lt = node-there c.self.inside c.args.node.0 (subst (λ (v : Bindings). c.args.node.0 < length v.epochs) (sym c.self.view_is) c.requires) in
    let long = length-epochs c.self.inside c.args.node.0 c.index.result.now lt c.index.ensures in
    subst (λ (v : Bindings). c.last.result + 1 ≡ length (epochs_of v c.args.node)) c.self.view_is (ap (λ (n : ℕ). n + 1) c.last.ensures ∙ sym long)
