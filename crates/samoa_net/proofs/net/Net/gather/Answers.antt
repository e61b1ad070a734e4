use Rattle.std.proofs.Common.{◌≡◌, ◌∙◌, ◌+◌, ◌++◌, [], ◌∷◌, List, ap, sym, take}
use Rattle.std.specs.Prelude.{filter}
use Rattle.samoa_model.specs.declared.record.Entry.{Entry}
use Rattle.samoa_model.specs.declared.record.Ext.{Ext}
use Rattle.samoa_model.specs.declared.record.Cause.{Cause}
use Rattle.samoa_serial.specs.Batch.{admission, asked_by, is_up, sent_by}
use Rattle.samoa_net.specs.Gathered.{Gathered, most_kept}
use Rattle.samoa_net.specs.declared.net.Net.TheInside.{Inside}
use Rattle.samoa_net.proofs.Entries.{asked_by-alike, asked_by-next, asks_nothing, nothing_more, sends_nothing, sent_by-alike}
use Rattle.samoa_net.proofs.net.Net.gather.Goals as goal
use Rattle.samoa_net.proofs.net.Net.gather.Goals.{in-Sent+in_ok-keep_message-in-Sent, in-Asked+in_ok-keep_change-in-Asked, in_default}

pub returns-clause-asked : goal.returns-clause-asked
returns-clause-asked c = λ ext node at.
    let up = is_up c.args.script.now (c.args.tick + 1) in
    let olds = c.self.inside.asked.items in
    let same : olds ≡ c.args.self.now.asked = ap (λ (g : Gathered). g.asked) c.self.view_is in
    let news = c.match-entry.self-inside.asked.items in
    elim c.match-entry.branch [
      | in-Sent+in_ok-keep_message-in-Sent w ↦
          nothing_more most_kept up olds c.args.self.now.asked news (asked_by (c.args.tick + 1) ext c.args.entry.now) c.self.invariant.0 same
          (ap (λ (n : Inside). n.asked.items) w.self-inside-is)
          (ap (asked_by (c.args.tick + 1) ext) w.in-Sent.is)
      | in-Asked+in_ok-keep_change-in-Asked w ↦
          let asker : Ext = record { node = c.args.node; tick = c.args.tick; cause = Cause.Change w.in-Asked.change; args = [] } in
          let change : Ext = admission (c.args.tick + 1) c.args.node.0 (Cause.Change w.in-Asked.change) w.in-Asked.arg in
          let one : asked_by (c.args.tick + 1) ext c.args.entry.now ≡ change ∷ [] =
          ap (asked_by (c.args.tick + 1) ext) w.in-Asked.is
          ∙ asked_by-alike ext asker (c.args.tick + 1) (Entry.Asked w.in-Asked.call w.in-Asked.change w.in-Asked.arg) node at
          ∙ asked_by-next asker w.in-Asked.call w.in-Asked.change w.in-Asked.arg in
          ap (λ (n : Inside). n.asked.items) w.self-inside-is ∙ w.in_ok-keep_change-in-Asked.ensures.kept
          ∙ ap (λ (xs : List Ext). take most_kept (xs ++ filter up (change ∷ []))) same
          ∙ ap (λ (xs : List Ext). take most_kept (c.args.self.now.asked ++ filter up xs)) (sym one)
      | in_default w ↦
          nothing_more most_kept up olds c.args.self.now.asked news (asked_by (c.args.tick + 1) ext c.args.entry.now) c.self.invariant.0 same
          (ap (λ (n : Inside). n.asked.items) w.self-inside-is)
          (asks_nothing ext (c.args.tick + 1) c.args.entry.now w.in_default.not-Asked)
    ]

pub returns-clause-sent : goal.returns-clause-sent
returns-clause-sent c = λ ext node at.
    let script = c.args.script.now in
    let up = is_up script (c.args.tick + 1) in
    let olds = c.self.inside.sent.items in
    let same : olds ≡ c.args.self.now.sent = ap (λ (g : Gathered). g.sent) c.self.view_is in
    let news = c.match-entry.self-inside.sent.items in
    elim c.match-entry.branch [
      | in-Sent+in_ok-keep_message-in-Sent w ↦
          let sender : Ext = record { node = c.args.node; tick = c.args.tick; cause = Cause.Event w.in-Sent.event; args = [] } in
          let entry : Entry = Entry.Sent w.in-Sent.call w.in-Sent.to w.in-Sent.event w.in-Sent.arg in
          let by : sent_by script (c.args.tick + 1) ext c.args.entry.now ≡ sent_by script (c.args.tick + 1) sender entry =
          ap (sent_by script (c.args.tick + 1) ext) w.in-Sent.is ∙ sent_by-alike script ext sender (c.args.tick + 1) entry node at in
          ap (λ (n : Inside). n.sent.items) w.self-inside-is ∙ w.in_ok-keep_message-in-Sent.ensures.kept
          ∙ ap (λ (xs : List Ext). take most_kept (xs ++ filter up (sent_by script (c.args.tick + 1) sender entry))) same
          ∙ ap (λ (xs : List Ext). take most_kept (c.args.self.now.sent ++ filter up xs)) (sym by)
      | in-Asked+in_ok-keep_change-in-Asked w ↦
          nothing_more most_kept up olds c.args.self.now.sent news (sent_by script (c.args.tick + 1) ext c.args.entry.now) c.self.invariant.1 same
          (ap (λ (n : Inside). n.sent.items) w.self-inside-is)
          (ap (sent_by script (c.args.tick + 1) ext) w.in-Asked.is)
      | in_default w ↦
          nothing_more most_kept up olds c.args.self.now.sent news (sent_by script (c.args.tick + 1) ext c.args.entry.now) c.self.invariant.1 same
          (ap (λ (n : Inside). n.sent.items) w.self-inside-is)
          (sends_nothing script ext (c.args.tick + 1) c.args.entry.now w.in_default.not-Sent)
    ]
