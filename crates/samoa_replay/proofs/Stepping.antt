-- The steps of a journal other than admissions, each made or refused.
use Rattle.std.proofs.Common.{◌≡◌, ◌≢◌, ℕ, ◌-◌, ◌<◌, List, [], ◌∷◌, ◌++◌, length, Some, ap, sym, ◌∙◌, subst}
use Rattle.std.specs.Prelude.{slice_index_or}
use Rattle.std.specs.List.{All, remove}
use Rattle.samoa_model.specs.declared.record.Step.{Step}
use Rattle.samoa_serial.specs.declared.call.Call.{Call}
use Rattle.samoa_serial.specs.Alone.{next_step}
use Rattle.samoa_invariant.specs.State.{Core}
use Rattle.samoa_invariant.specs.Runs.{IsDue, IsRun, Trace, state, with_step}
use Rattle.samoa_invariant.proofs.representation.Traces.{is_run-with_step, state-step}
use Rattle.samoa_control.specs.Turns.{Going, IsAway}
use Rattle.samoa_control.proofs.Facts.{same-call}
use Rattle.samoa_replay.specs.declared.course.Course.{Course}
use Rattle.samoa_replay.specs.Following.{AreOut, HasMade, IsReady, IsRefused}
use Rattle.samoa_replay.proofs.Making.{step-made, step-refused}
use Rattle.samoa_replay.proofs.Out.{away-due, out-abandoned, out-entered, out-left, out-other, was_away}

module _ (t : Trace) (course : Course) (turns : List Going) (r : IsReady t course turns) (run : IsRun t) (counted : (state t).count ≡ length t.exts) where
  -- a release, or an end
  pub released : (comp micro : ℕ) (u : Trace) → IsDue t (Step.Release comp micro) → u ≡ with_step t (Step.Release comp micro) → HasMade (Step.Release comp micro) t u course turns
  released comp micro u due is =
      let step : Step = Step.Release comp micro in
      step-made t course turns step r run counted tt due u turns is
      (subst (λ (v : Trace). AreOut v turns) (sym is) (out-other t step turns run (is_run-with_step t step run due) due (λ k. ((λ b. b), λ e. e)) r.follows.out))

  pub ended : (comp : ℕ) (u : Trace) → IsDue t (Step.End comp) → u ≡ with_step t (Step.End comp) → HasMade (Step.End comp) t u course turns
  ended comp u due is =
      let step : Step = Step.End comp in
      step-made t course turns step r run counted tt due u turns is
      (subst (λ (v : Trace). AreOut v turns) (sym is) (out-other t step turns run (is_run-with_step t step run due) due (λ k. ((λ b. b), λ e. e)) r.follows.out))

  -- a handler step that begins
  entered_at : (comp micro : ℕ) (g : Going) → IsDue t (Step.Enter comp micro) → g.comp ≡ comp → IsAway (with_step t (Step.Enter comp g.micro)) g → g.micro ≡ micro
  entered_at comp micro g due its away =
      let now : next_step ((state t).comp (comp - 1)) ≡ Some (away.next.call, g.moment)
      = ap (λ (k : ℕ). next_step ((state t).comp (k - 1))) (sym its)
      ∙ (ap (λ (c : Core). next_step (c.comp (g.comp - 1))) (sym (state-step t (Step.Enter comp g.micro) run)) ∙ away.next.next) in
      let same : away.next.call ≡ due.enabled.next.call
      = same-call (next_step ((state t).comp (comp - 1))) away.next.call due.enabled.next.call g.moment due.enabled.next.moment now due.enabled.next.next in
      sym away.next.is_at ∙ (ap (λ (c : Call). c.handler.micro.0) same ∙ due.enabled.next.is_at)

  pub entered : (comp micro : ℕ) (u : Trace) (g : Going) → IsDue t (Step.Enter comp micro) → g.comp ≡ comp → u ≡ with_step t (Step.Enter comp g.micro) → IsAway u g
      → HasMade (Step.Enter comp micro) t u course (turns ++ g ∷ [])
  entered comp micro u g due its is away =
      let step : Step = Step.Enter comp micro in
      let at : g.micro ≡ micro = entered_at comp micro g due its (subst (λ (v : Trace). IsAway v g) is away) in
      let here : u ≡ with_step t step = is ∙ ap (λ (p : ℕ). with_step t (Step.Enter comp p)) at in
      step-made t course turns step r run counted tt due u (turns ++ g ∷ []) here
      (subst (λ (v : Trace). AreOut v (turns ++ g ∷ [])) (sym here)
      (out-entered t turns g comp micro run (is_run-with_step t step run due) due its (subst (λ (v : Trace). IsAway v g) here away) r.follows.out))

  pub entered_by : (comp micro : ℕ) (u : Trace) (g : Going) (us : List Going) → us ≡ turns ++ g ∷ [] → IsDue t (Step.Enter comp micro) → g.comp ≡ comp
      → u ≡ with_step t (Step.Enter comp g.micro) → IsAway u g → HasMade (Step.Enter comp micro) t u course us
  entered_by comp micro u g us items due its is away = subst (λ (xs : List Going). HasMade (Step.Enter comp micro) t u course xs) (sym items) (entered comp micro u g due its is away)

  -- a handler step that comes back
  module _ (n comp : ℕ) (g : Going) (less : n < length turns) (number : (d : Going) → (slice_index_or turns n d).comp ≡ comp) (is_it : g ≡ slice_index_or turns n g) where
    pub away_of : IsAway t g
    away_of = subst (λ (h : Going). IsAway t h) (sym is_it) (was_away t turns n comp g run less (number g) r.follows.out)

    its : g.comp ≡ comp
    its = ap (λ (h : Going). h.comp) is_it ∙ number g

    due_of : IsDue t (Step.Leave comp) × IsDue t (Step.Abandon comp)
    due_of =
        let both = away-due t g run away_of in
        (subst (λ (k : ℕ). IsDue t (Step.Leave k)) its both.0, subst (λ (k : ℕ). IsDue t (Step.Abandon k)) its both.1)

    pub left : (u : Trace) → u ≡ with_step t (Step.Leave g.comp) → HasMade (Step.Leave comp) t u course (remove turns n)
    left u is =
        let step : Step = Step.Leave comp in
        let here : u ≡ with_step t step = is ∙ ap (λ (k : ℕ). with_step t (Step.Leave k)) its in
        step-made t course turns step r run counted tt due_of.0 u (remove turns n) here
        (subst (λ (v : Trace). AreOut v (remove turns n)) (sym here)
        (out-left t turns n comp g run less (number g) r.follows.out (is_run-with_step t step run due_of.0) due_of.0))

    pub abandoned : (u : Trace) → u ≡ with_step t (Step.Abandon g.comp) → HasMade (Step.Abandon comp) t u course (remove turns n)
    abandoned u is =
        let step : Step = Step.Abandon comp in
        let here : u ≡ with_step t step = is ∙ ap (λ (k : ℕ). with_step t (Step.Abandon k)) its in
        step-made t course turns step r run counted tt due_of.1 u (remove turns n) here
        (subst (λ (v : Trace). AreOut v (remove turns n)) (sym here)
        (out-abandoned t turns n comp g run less (number g) r.follows.out (is_run-with_step t step run due_of.1) due_of.1))

    pub left_by : (u : Trace) (ran : Going) (us : List Going) → ran ≡ g → us ≡ remove turns n → u ≡ with_step t (Step.Leave ran.comp) → HasMade (Step.Leave comp) t u course us
    left_by u ran us same items is =
        subst (λ (xs : List Going). HasMade (Step.Leave comp) t u course xs) (sym items) (left u (is ∙ ap (λ (h : Going). with_step t (Step.Leave h.comp)) same))

    pub abandoned_by : (u : Trace) (turn : Going) (us : List Going) → turn ≡ g → us ≡ remove turns n → u ≡ with_step t (Step.Abandon turn.comp) → HasMade (Step.Abandon comp) t u course us
    abandoned_by u turn us same items is =
        subst (λ (xs : List Going). HasMade (Step.Abandon comp) t u course xs) (sym items) (abandoned u (is ∙ ap (λ (h : Going). with_step t (Step.Abandon h.comp)) same))

    pub left_away : (ran : Going) → ran ≡ g → IsAway t ran
    left_away ran same = subst (λ (h : Going). IsAway t h) (sym same) away_of

  -- what isn't out doesn't come back
  leave_of-abandon : (comp : ℕ) → IsDue t (Step.Abandon comp) → IsDue t (Step.Leave comp)
  leave_of-abandon comp due = record { number = due.number; enabled = due.enabled }

  pub leave_refused : (comp : ℕ) → All (λ (g : Going). g.comp ≢ comp) turns → IsRefused t (Step.Leave comp)
  leave_refused comp none = step-refused t course turns (Step.Leave comp) r run counted tt (λ due. r.follows.out.whole comp due none)

  pub abandon_refused : (comp : ℕ) → All (λ (g : Going). g.comp ≢ comp) turns → IsRefused t (Step.Abandon comp)
  abandon_refused comp none = step-refused t course turns (Step.Abandon comp) r run counted tt (λ due. r.follows.out.whole comp (leave_of-abandon comp due) none)
