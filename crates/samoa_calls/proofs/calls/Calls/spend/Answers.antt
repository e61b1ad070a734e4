use Rattle.std.proofs.Common.{◌≡◌, [], ◌∷◌, ◌++◌, List, None, ap, ap₂, sym, ◌∙◌}
use Rattle.samoa_model.specs.declared.ids.HandlerId.{HandlerId}
use Rattle.samoa_model.specs.declared.handler.Outcome.{Outcome}
use Rattle.samoa_serial.specs.declared.call.Waiting.{Waiting}
use Rattle.samoa_serial.specs.Calls.{Computation}
use Rattle.samoa_bind.specs.Bound.{table_at}
use Rattle.samoa_calls.specs.Handed.{ended_at}
use Rattle.samoa_calls.specs.Held.{handlers_of}
use Rattle.samoa_calls.proofs.Listed.{handlers_of-push}
use Rattle.samoa_calls.proofs.calls.Calls.spend.Goals as goal

pub unreachable-requires : goal.unreachable-requires
unreachable-requires c =
    let call = c.innermost-call.result in
    let none : ended_at call (Outcome.Done c.in-Done.reply) ≡ None = ap (λ (o : Outcome). ended_at call o) (sym c.in-Done.is) ∙ c.requires.not_done call in
    cc

pub returns-in-Later-clause-listed : goal.returns-in-Later-clause-listed
returns-in-Later-clause-listed c =
    let table = table_at c.args.tables.now c.args.node c.args.epoch in
    let before : List Waiting = c.args.self.now.waiting in
    let asked : Waiting = record { asker = c.requires.active.0.call; event = c.in-Later.event; arg = c.in-Later.arg } in
    let waiting : c.ask.new.self.waiting ≡ before ++ asked ∷ [] =
    ap (λ (x : Computation). x.waiting) (c.ask.ensures.asked c.requires.active.0 c.requires.active.1 c.requires.active.2) in
    c.ask.ensures.waiting_handlers
    ∙ (ap₂ (λ (xs ys : List HandlerId). xs ++ ys) c.requires.listed c.resolve-handlers-in-Later.ensures.list
    ∙ (sym (handlers_of-push table before asked) ∙ ap (λ (ws : List Waiting). handlers_of table ws) (sym waiting)))
