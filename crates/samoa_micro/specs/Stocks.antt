-- A stock that has enough for every script.
use Rattle.std.specs.Prelude.{ℕ, zero, suc, ◌≤◌, List, [], ◌∷◌, ◌++◌}
use Rattle.samoa_model.specs.declared.setup.Kind.{Kind}
use Rattle.samoa_model.specs.declared.setup.Kind.TheVariants.{Prog, Link, Fd, Rbcast, Cons, Abcast, Seqcast, Repl, Views}
use Rattle.samoa_micro.specs.Covers.{count_of}

-- as many of each kind as any script can take
abbrev pub HasEnough : List Kind → Type 0
HasEnough kinds = (kind : Kind) → 32 ≤ count_of kinds kind

-- one of each kind
abbrev pub all_kinds : List Kind
all_kinds = Prog ∷ Link ∷ Fd ∷ Rbcast ∷ Cons ∷ Abcast ∷ Seqcast ∷ Repl ∷ Views ∷ []

-- so many of each kind
abbrev pub rounds : ℕ → List Kind
rounds zero = []
rounds (suc n) = rounds n ++ all_kinds
