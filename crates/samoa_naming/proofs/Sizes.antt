-- The numbers of a draft that passes fit into those of a script.
use Rattle.std.proofs.Common.{◌≡◌, ℕ, ◌<◌, ◌≤◌, Bool, true, false, cond, List, get_or, codes, ltb, Some, None, refl, arith}
use Rattle.std.specs.List.{All}
use Rattle.std.proofs.lemmas.Bool.{ltb-true, ltb-false}
use Rattle.std.proofs.lemmas.List.{length-map}
use Rattle.samoa_grammar.specs.declared.fault.WalkFault.{WalkFault}
use Rattle.samoa_grammar.specs.declared.draft.DoDraft.{DoDraft}
use Rattle.samoa_grammar.specs.declared.draft.LossDraft.{LossDraft}
use Rattle.samoa_grammar.specs.declared.draft.Draft.{Draft}
use Rattle.samoa_grammar.specs.Passes.{node_fault, loss_total, tick_fault, totals_fault}
use Rattle.samoa_form.specs.Limits.{HasLimits}
use Rattle.samoa_naming.specs.Sizes.{FitsDo, FitsLoss, FitsCrash}
use Rattle.samoa_grammar.proofs.Chains.{then_none}
use Rattle.samoa_naming.proofs.Passed.{does_inside, losses_inside, crashes_inside, ticks_inside}

pub ruleset mapped_lists = (length-map)

pub when_passes : (b : Bool) (f : WalkFault) → cond b None (Some f) ≡ None → b ≡ true
when_passes true f h = refl
when_passes false f h = absurd (cc)

pub when_fails : (b : Bool) (f : WalkFault) → cond b (Some f) None ≡ None → b ≡ false
when_fails true f h = absurd (cc)
when_fails false f h = refl

pub node_below : (nodes : ℕ) (key : List ℕ) (node : ℕ) → node_fault nodes key node ≡ None → node < nodes
node_below nodes key node h = ltb-true node nodes (when_passes (ltb node nodes) _ h)

pub tick_upto : (ticks : ℕ) (item : DoDraft) → tick_fault ticks item ≡ None → item.tick ≤ ticks
tick_upto ticks item h = let e : ltb ticks item.tick ≡ false = when_fails (ltb ticks item.tick) _ h in ltb-false ticks item.tick e

pub loss_below : (nodes : ℕ) (l : LossDraft) → loss_total nodes l ≡ None → (l.from < nodes) × (l.to < nodes)
loss_below nodes l h =
    let parts = then_none (node_fault nodes (codes "from") l.from) (node_fault nodes (codes "to") l.to) h in
    (node_below nodes (codes "from") l.from parts.0, node_below nodes (codes "to") l.to parts.1)

pub does_fit : (x : Draft) → HasLimits x → totals_fault x ≡ None → All FitsDo x.does
does_fit x limits h k d below =
    let node = node_below x.nodes (codes "node") (get_or x.does k d).node (does_inside x h k d below) in
    let tick = tick_upto x.ticks (get_or x.does k d) (ticks_inside x h k d below) in
    let few = limits.few_nodes in
    let short = limits.few_ticks in
    (omega arith, omega arith)

pub losses_fit : (x : Draft) → HasLimits x → totals_fault x ≡ None → All FitsLoss x.losses
losses_fit x limits h k d below =
    let nodes = loss_below x.nodes (get_or x.losses k d) (losses_inside x h k d below) in
    let few = limits.few_nodes in
    (omega arith, omega arith)

pub crashes_fit : (x : Draft) → HasLimits x → totals_fault x ≡ None → All FitsCrash x.crashes
crashes_fit x limits h k d below =
    let node = node_below x.nodes (codes "node") (get_or x.crashes k d).node (crashes_inside x h k d below) in
    let few = limits.few_nodes in
    omega arith
