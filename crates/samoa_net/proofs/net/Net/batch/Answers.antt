use Rattle.std.proofs.Common.{◌≡◌, ◌∙◌, ℕ, ◌+◌, ◌++◌, List, Option, Some, ap, sym, subst, filter}
use Rattle.samoa_model.specs.declared.record.Ext.{Ext}
use Rattle.samoa_model.specs.declared.script.Script.{Script}
use Rattle.samoa_serial.specs.Batch.{is_up}
use Rattle.samoa_serial.specs.History.{batch}
use Rattle.samoa_net.specs.declared.net.Net.TheInside.{Inside}
use Rattle.samoa_net.specs.Gathered.{Gathered, IsPlan, IsPlanIfAny}
use Rattle.samoa_net.proofs.net.Net.batch.Goals as goal
use Rattle.samoa_net.proofs.net.Net.batch.Goals.{in-Some+in_ok-exts-in-Some, in-None+in_ok-plan-in-None+in_ok-exts-in-None, in-Some-1, in-None-1}

-- the items that stand there are the plan
plan_there : (script : Script) (own : Option (List Ext)) (tick : ℕ) (items : List Ext) → IsPlanIfAny script tick own → own ≡ Some items → IsPlan script tick items
plan_there script own tick items plan is = let P : Option (List Ext) → Type 0 = IsPlanIfAny script tick in subst P is plan

-- the list that was made of these parts
joined_are : (up : Ext → _) (own asked sent asked' sent' exts : List Ext) → exts ≡ asked ++ filter up own ++ sent → asked ≡ asked' → sent ≡ sent' → exts ≡ asked' ++ filter up own ++ sent'
joined_are up own asked sent asked' sent' exts are same_asked same_sent = cc

pub returns-clause-items : goal.returns-clause-items
returns-clause-items c =
    let up = is_up c.args.script.now c.args.tick in
    let own = batch c.args.script.now c.args.tick in
    let asked : c.as_slice-asked.result.now ≡ c.args.self.now.asked = c.as_slice-asked.ensures.value ∙ ap (λ (g : Gathered). g.asked) c.self.view_is in
    let sent : c.as_slice-sent.result.now ≡ c.args.self.now.sent = c.as_slice-sent.ensures.value ∙ ap (λ (g : Gathered). g.sent) c.self.view_is in
    elim c.match-self.branch [
      | in-Some+in_ok-exts-in-Some w ↦
          let plan : IsPlan c.args.script.now c.args.self.now.tick w.in-Some.plan =
          plan_there c.args.script.now c.args.self.now.own c.args.self.now.tick w.in-Some.plan c.requires.plan (sym (ap (λ (g : Gathered). g.own) c.self.view_is) ∙ w.in-Some.is) in
          ap (λ (v : _). v.items) w.exts-is
          ∙ joined_are up own c.as_slice-asked.result.now c.as_slice-sent.result.now c.args.self.now.asked c.args.self.now.sent w.in_ok-exts-in-Some.exts.items
          (w.in_ok-exts-in-Some.ensures.items c.args.self.now.tick c.requires.tick plan) asked sent
      | in-None+in_ok-plan-in-None+in_ok-exts-in-None w ↦
          ap (λ (v : _). v.items) w.exts-is
          ∙ joined_are up own c.as_slice-asked.result.now c.as_slice-sent.result.now c.args.self.now.asked c.args.self.now.sent w.in_ok-exts-in-None.exts.items
          (w.in_ok-exts-in-None.ensures.items c.self.inside.tick (c.requires.tick ∙ ap (λ (g : Gathered). g.tick + 1) (sym c.self.view_is)) w.in_ok-plan-in-None.ensures) asked sent
    ]

pub returns-clause-plan : goal.returns-clause-plan
returns-clause-plan c =
    let script = c.args.script.now in
    let P : Option (List Ext) → Type 0 = IsPlanIfAny script c.args.tick in
    elim c.match-self.branch [
      | in-Some+in_ok-exts-in-Some w ↦
          let plan : IsPlan script c.args.self.now.tick w.in-Some.plan =
          plan_there script c.args.self.now.own c.args.self.now.tick w.in-Some.plan c.requires.plan (sym (ap (λ (g : Gathered). g.own) c.self.view_is) ∙ w.in-Some.is) in
          let own : c.match-self.self-inside.own ≡ Some w.batch.new.self = ap (λ (n : Inside). n.own) w.self-inside-is in
          subst P (sym own) (w.in_ok-exts-in-Some.ensures.plan c.args.self.now.tick c.requires.tick plan)
      | in-None+in_ok-plan-in-None+in_ok-exts-in-None w ↦
          let own : c.match-self.self-inside.own ≡ Some w.batch-in-None.new.self = ap (λ (n : Inside). n.own) w.self-inside-is in
          subst P (sym own) (w.in_ok-exts-in-None.ensures.plan c.self.inside.tick (c.requires.tick ∙ ap (λ (g : Gathered). g.tick + 1) (sym c.self.view_is)) w.in_ok-plan-in-None.ensures)
    ]
