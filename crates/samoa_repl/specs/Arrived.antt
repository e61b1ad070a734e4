-- What came early, beside what was delivered.
use Rattle.std.specs.Prelude.{◌≡◌, ℕ, ◌==◌, nat_lt, Bool, true, not, ◌||◌, ◌&&◌, List, All, filter}
use Rattle.std.specs.List.{position_or_len}
use Rattle.samoa_serial.specs.Rows.{has_pair}
use Rattle.samoa_serial.specs.ReplTable.{pair_of}
use Rattle.samoa_serial.specs.declared.message.Message.{Message}
use Rattle.samoa_serial.specs.declared.keys.Pair.{Pair}
use Rattle.samoa_repl.specs.declared.early.Over.{Over}
use Rattle.samoa_repl.specs.declared.early.Over.TheVariants.{Nothing, Copies, Anything}

pub record Arrived : Type 0 where
  pub epoch : ℕ
  pub delivered : List Pair
  pub early : List Message

-- whether a message is of an earlier epoch or was delivered, and whether it may still be delivered
abbrev pub is_over : ℕ → List Pair → Message → Bool
is_over epoch delivered m = nat_lt m.epoch epoch || has_pair delivered (pair_of m)

abbrev pub comes : ℕ → List Pair → Message → Bool
comes epoch delivered m = not (is_over epoch delivered m)

abbrev pub is_copy : Pair → Message → Bool
is_copy pair m = (m.number == pair.number) && (m.origin == pair.origin)

abbrev pub is_other : Pair → Message → Bool
is_other pair m = not (is_copy pair m)

-- where the first message of an epoch stands; the length where there is none
abbrev pub place_of : ℕ → List Message → ℕ
place_of epoch early = position_or_len (λ m. m.epoch == epoch) early

-- what may be over, once a message came that isn't, and once a pair was delivered
abbrev pub pushed : Over → Over
pushed Nothing = Nothing
pushed (Copies pair) = Anything
pushed Anything = Anything

abbrev pub marked : Over → Pair → Over
marked Nothing pair = Copies pair
marked (Copies other) pair = Anything
marked Anything pair = Anything

-- no more of the early messages is over than is said here
abbrev pub IsAtMost : Over → ℕ → List Pair → List Message → Type 0
IsAtMost Nothing epoch delivered early = All (λ m. comes epoch delivered m ≡ true) early
IsAtMost (Copies pair) epoch delivered early = filter (comes epoch delivered) early ≡ filter (is_other pair) early
IsAtMost Anything epoch delivered early = Unit {0}
