use Rattle.std.proofs.Common.{◌++◌, ◌∙◌, List, ap, append-nil, append_assoc, length, sym}
use Rattle.samoa_serial.specs.Report.{node_text, states_text}
use Rattle.samoa_serial.proofs.ReportLaws.{states_text-none, states_text-one_more}
use Rattle.samoa_ledger.specs.Written.{states_of}
use Rattle.samoa_ledger.proofs.text.push_states.Goals as goal

pub loop-node-init : goal.loop-node-init
loop-node-init g c =
    sym (append-nil c.args.text.now.items) ∙ ap (λ (text : List _). c.args.text.now.items ++ text) (sym (states_text-none c.args.script.now (states_of c.args.core.now)))

pub loop-node-preserved : goal.loop-node-preserved
loop-node-preserved g c =
    let script = c.args.script.now in
    let states = states_of c.args.core.now in
    let lines = node_text script states c.loop-node.node (length script.micros) in
    c.in_ok-push_node.ensures
    ∙ ap (λ (text : List _). text ++ lines) c.loop-node.invariant
    ∙ append_assoc c.args.text.now.items (states_text script states c.loop-node.node) lines
    ∙ ap (λ (text : List _). c.args.text.now.items ++ text) (sym (states_text-one_more script states c.loop-node.node))
