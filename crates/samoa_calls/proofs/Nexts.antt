-- The next handler step, and what is left.
use Rattle.std.proofs.Common.{arith, ◌≡◌, ℕ, ◌≤◌, Bool, true, refl, sym, ap, ◌∙◌, ◌∷◌, [], List, drop, drop_of_length-le, length, length-drop, reverse, Option, option_map, ◌==◌}
use Rattle.std.proofs.lemmas.Bool.{eqb-true}
use Rattle.samoa_model.specs.declared.ids.MicroId.{MicroId}
use Rattle.samoa_model.specs.declared.handler.Moment.{Moment}
use Rattle.samoa_serial.specs.declared.call.Active.{Active}
use Rattle.samoa_serial.specs.declared.call.Call.{Call}
use Rattle.samoa_serial.specs.declared.call.Due.{Due}
use Rattle.samoa_serial.specs.declared.call.Waiting.{Waiting}
use Rattle.samoa_serial.specs.Calls.{Computation}
use Rattle.samoa_serial.specs.Alone.{next_at, next_of}
use Rattle.samoa_calls.specs.Handed.{next_moment}

abbrev micro_moment : Option (Call × Moment) → Option (MicroId × Moment)
micro_moment next = option_map (λ step. (step.0.handler.micro, step.1)) next

pub next-due : (comp : Computation) (x a : Active) (rest : List Active) (due : Due) → comp.active ≡ a ∷ rest → x ≡ a → x.due ≡ due
    → micro_moment (next_at x.call due) ≡ next_moment comp
next-due comp x a rest due e at is =
    sym (ap (λ (xs : List Active). micro_moment (next_of xs)) e
    ∙ (ap (λ (y : Active). micro_moment (next_at y.call y.due)) (sym at)
    ∙ ap (λ (d : Due). micro_moment (next_at x.call d)) is))

pub none_active : (xs : List Active) (n : ℕ) (b : Bool) → n ≡ length xs → b ≡ (n == 0) → b ≡ true → reverse xs ≡ []
none_active [] n b len e f = refl
none_active (x ∷ xs) n b len e f = let none : n ≡ 0 = eqb-true n 0 (sym e ∙ f) in absurd (omega arith)

pub none_waits : (ws : List Waiting) (i : ℕ) → i ≡ length ws → drop i ws ≡ []
none_waits ws i e = drop_of_length-le ws (omega arith)

pub all_taken : (ws : List Waiting) (i : ℕ) → i ≤ length ws → drop i ws ≡ [] → i ≡ length ws
all_taken ws i le e = let len = ap (λ (vs : List Waiting). length vs) e in omega (arith, length-drop i ws)
