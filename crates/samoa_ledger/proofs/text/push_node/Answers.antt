use Rattle.std.proofs.Common.{◌≡◌, ◌++◌, ◌∙◌, List, ap, append-nil, append_assoc, sym}
use Rattle.samoa_model.specs.declared.script.Script.{Script}
use Rattle.samoa_model.specs.Scripts.{micro_at}
use Rattle.samoa_serial.specs.Kinds.{shown}
use Rattle.samoa_serial.specs.Lines.{state_text}
use Rattle.samoa_serial.specs.Report.{node_text, shown_at}
use Rattle.samoa_serial.proofs.ReportLaws.{node_text-none, node_text-one_more}
use Rattle.samoa_ledger.specs.Written.{states_of}
use Rattle.samoa_ledger.proofs.text.push_node.Goals as goal

pub loop-micro-init : goal.loop-micro-init
loop-micro-init g c =
    sym (append-nil c.args.text.now.items)
    ∙ ap (λ (text : List _). c.args.text.now.items ++ text) (sym (node_text-none c.args.script.now (states_of c.args.core.now) c.args.node.0))

pub loop-micro-preserved : goal.loop-micro-preserved
loop-micro-preserved g c =
    let script = c.args.script.now in
    let node = c.args.node.0 in
    let micro = c.loop-micro.micro in
    let states = states_of c.args.core.now in
    let words : c.shown-words.result ≡ shown_at script states node micro
    = c.shown-words.ensures.serial c.requires.all ∙ ap (λ (s : Script). shown (micro_at s micro).kind (states node micro)) c.requires.script in
    let line = state_text script node micro (shown_at script states node micro) in
    c.in_ok-state_line.ensures.ok
    ∙ ap (λ (ws : List _). c.loop-micro.text.items ++ state_text script node micro ws) words
    ∙ ap (λ (text : List _). text ++ line) c.loop-micro.invariant
    ∙ append_assoc c.args.text.now.items (node_text script states node micro) line
    ∙ ap (λ (text : List _). c.args.text.now.items ++ text) (sym (node_text-one_more script states node micro))
