-- What is at each slot.
use Rattle.std.specs.Prelude.{ℕ, ◌==◌, ◌&&◌, if◌then◌else◌}

-- by node and microprotocol
abbrev pub At : Type 0 → Type 0
At A = ℕ → ℕ → A

-- with another at one slot
abbrev pub put_at : {A : Type 0} → At A → ℕ → ℕ → A → At A
put_at f node p new = λ n q. if (n == node) && (q == p) then new else f n q
