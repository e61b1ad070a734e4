-- Bytes hold at most one script, and none beside a fault.
use Rattle.std.proofs.Common.{◌≡◌, ℕ, List, Some, None, refl, sym, ap, ◌∙◌, arith}
use Rattle.serde_json.specs.Data.{Data}
use Rattle.samoa_model.specs.declared.script.Script.{Script}
use Rattle.samoa_grammar.specs.declared.fault.WalkFault.{WalkFault}
use Rattle.samoa_grammar.specs.declared.fault.WalkFault.TheVariants as walks
use Rattle.samoa_grammar.specs.Tree.{IsJson}
use Rattle.samoa_grammar.specs.Held.{walk_fault, script_meant, Holds, WalkFails}
use Rattle.samoa_script.specs.declared.fault.ScriptFault.{ScriptFault}
use Rattle.samoa_script.specs.declared.fault.ScriptFault.TheVariants.{TooLong, NotJson, Missing, WrongForm, Unknown, Twice, Over, Memory}
use Rattle.samoa_script.specs.Fails.{Fails}

same_tree : (bytes : List ℕ) (d e : Data) → IsJson bytes d → IsJson bytes e → d ≡ e
same_tree bytes d e p q = let both : Some d ≡ Some e = sym p.1 ∙ q.1 in cc

pub one_script : (bytes : List ℕ) (s t : Script) → Holds bytes s → Holds bytes t → s ≡ t
one_script bytes s t p q = p.means ∙ ap script_meant (same_tree bytes p.tree q.tree p.json q.json) ∙ sym q.means

walk_apart : (bytes : List ℕ) (s : Script) (f : WalkFault) → Holds bytes s → WalkFails bytes f → ⊥
walk_apart bytes s f p q =
    let both : None ≡ Some f = sym p.passes ∙ ap walk_fault (same_tree bytes p.tree q.tree p.json q.json) ∙ q.fails in
    cc

pub answers_apart : (bytes : List ℕ) (s : Script) (f : ScriptFault) → Holds bytes s → Fails bytes f → f ≡ Memory
answers_apart bytes s TooLong p q = let short = p.short in absurd (omega arith)
answers_apart bytes s NotJson p q = absurd (q.none p.tree p.json)
answers_apart bytes s (Missing key) p q = absurd (walk_apart bytes s (walks.Missing key) p q)
answers_apart bytes s (WrongForm key) p q = absurd (walk_apart bytes s (walks.WrongForm key) p q)
answers_apart bytes s (Unknown name) p q = absurd (walk_apart bytes s (walks.Unknown name) p q)
answers_apart bytes s (Twice name) p q = absurd (walk_apart bytes s (walks.Twice name) p q)
answers_apart bytes s (Over name limit) p q = absurd (walk_apart bytes s (walks.Over name limit) p q)
answers_apart bytes s Memory p q = refl
