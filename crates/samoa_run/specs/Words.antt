-- The words of the command line, and what they ask for.
use Rattle.std.specs.Prelude.{ℕ, ◌≡◌, ◌≤◌, ◌+◌, ◌*◌, ◌-◌, Bool, true, false, ◌&&◌, ◌||◌, not, List, [], ◌∷◌, nat_le, codes, bytes_eq, Option, Some, None, is_none, is_some, IfSome, option_map, option_and_then, if◌then◌else◌}
use Rattle.samoa_generate.specs.declared.script.TheConstants.{MOST_GENERATED}
use Rattle.samoa_run.specs.declared.words.TheConstants.{CELLS, MOST_CELLS, MOST_WORKERS, WORKERS}
use Rattle.samoa_run.specs.declared.words.Numbered.{Numbered}
use Rattle.samoa_run.specs.declared.words.Numbered.TheVariants.{Cells, Workers}
use Rattle.samoa_run.specs.declared.words.Options.{Options}
use Rattle.samoa_run.specs.declared.words.Order.{Order}
use Rattle.samoa_run.specs.declared.words.Order.TheVariants.{Run, Serial, Check}
use Rattle.samoa_run.specs.declared.words.Taken.{Taken}

abbrev pub is_digit : ℕ → Bool
is_digit d = nat_le 48 d && nat_le d 57

-- the number that digits come to, after those before them, where it is at most the greatest
abbrev pub number_from : ℕ → ℕ → List ℕ → Option ℕ
number_from most n [] = Some n
number_from most n (d ∷ ds) = if is_digit d && nat_le (10 * n + (d - 48)) most then number_from most (10 * n + (d - 48)) ds else None

-- a number from 1 on, in plain digits of which the first is no zero
abbrev pub number_in : ℕ → List ℕ → Option ℕ
number_in most [] = None
number_in most (d ∷ ds) = if nat_le 49 d && nat_le d 57 then number_from most (d - 48) ds else None

-- no option yet
abbrev pub no_options : Options
no_options = record { workers = None; cells = None; calls = false; journal = false }

-- after an option's word, which stood nowhere before
abbrev pub with_option : Options → List ℕ → Option Taken
with_option options word =
    if bytes_eq word (codes "--calls") && not options.calls then Some (record { options = record options { calls = true }; awaits = None }) else
    if bytes_eq word (codes "--journal") && not options.journal then Some (record { options = record options { journal = true }; awaits = None }) else
    if bytes_eq word (codes "--workers") && is_none options.workers then Some (record { options = options; awaits = Some Workers }) else
    if bytes_eq word (codes "--cells") && is_none options.cells then Some (record { options = options; awaits = Some Cells }) else
    None

-- after the number of an option: from 1 to 64 workers, from 1 to 1,048,576 cells
abbrev pub with_number : Options → Numbered → List ℕ → Option Options
with_number options Workers word = option_map (λ workers. record options { workers = Some workers }) (number_in MOST_WORKERS word)
with_number options Cells word = option_map (λ cells. record options { cells = Some cells }) (number_in MOST_CELLS word)

-- after one word more: the number of the option that awaits one, else an option's word
abbrev pub word_after : Options → Option Numbered → List ℕ → Option Taken
word_after options None word = with_option options word
word_after options (Some numbered) word = option_map (λ more. record { options = more; awaits = None }) (with_number options numbered word)

abbrev pub with_word : Taken → List ℕ → Option Taken
with_word taken word = word_after taken.options taken.awaits word

-- the options, unless the number of one is missing
abbrev pub unless_awaiting : Options → Option Numbered → Option Options
unless_awaiting options None = Some options
unless_awaiting options (Some numbered) = None

-- the options that stand in the words, after those before them
abbrev pub options_from : Option Taken → List (List ℕ) → Option Options
options_from None words = None
options_from (Some taken) [] = unless_awaiting taken.options taken.awaits
options_from (Some taken) (word ∷ rest) = options_from (with_word taken word) rest

-- the options, in any order, each at most once
abbrev pub options_in : List (List ℕ) → Option Options
options_in words = options_from (Some (record { options = no_options; awaits = None })) words

abbrev pub number_or : ℕ → Option ℕ → ℕ
number_or default None = default
number_or default (Some number) = number

-- 4 workers and 65,536 cells where none are given
abbrev pub run_with : Options → Order
run_with options = Run (number_or WORKERS options.workers) (number_or CELLS options.cells) options.calls options.journal

-- a serial run takes no workers, no cells and no journal
abbrev pub serial_with : Options → Option Order
serial_with options = if is_some options.workers || is_some options.cells || options.journal then None else Some (Serial options.calls)

abbrev pub when_alone : List (List ℕ) → Option Order
when_alone [] = Some Check
when_alone (option ∷ rest) = None

-- the order that the words give, if they give one
abbrev pub order_in : List (List ℕ) → Option Order
order_in [] = None
order_in (word ∷ options) =
    if bytes_eq word (codes "run") then option_map run_with (options_in options) else
    if bytes_eq word (codes "serial") then option_and_then serial_with (options_in options) else
    if bytes_eq word (codes "check") then when_alone options else
    None

-- the one word that asks for a replay, which is no order
abbrev pub is_replay : List (List ℕ) → Bool
is_replay [] = false
is_replay (word ∷ []) = bytes_eq word (codes "replay")
is_replay (word ∷ option ∷ rest) = false

-- the number of the generated script that the words ask to be made, from 1 to 600, which is no order
abbrev pub made_in : List (List ℕ) → Option ℕ
made_in [] = None
made_in (word ∷ []) = None
made_in (word ∷ number ∷ []) = if bytes_eq word (codes "make") then number_in MOST_GENERATED number else None
made_in (word ∷ number ∷ option ∷ rest) = None

-- the words ask for nothing
abbrev pub AreOther : List (List ℕ) → Type 0
AreOther words = (order_in words ≡ None) × (is_replay words ≡ false) × (made_in words ≡ None)

-- the order that `serve_serial` takes
abbrev pub serial_only : Order → Option Order
serial_only (Serial calls) = Some (Serial calls)
serial_only _ = None

-- the order that `check_only` takes
abbrev pub check_only : Order → Option Order
check_only Check = Some Check
check_only _ = None

-- the words ask for nothing that `check_only` does
abbrev pub AreNoCheck : List (List ℕ) → Type 0
AreNoCheck words = (option_and_then check_only (order_in words) ≡ None) × (is_replay words ≡ false)

-- the numbers that were given are in their ranges
abbrev pub HasRanges : Options → Type 0
HasRanges options = IfSome options.workers (λ workers. (1 ≤ workers) × (workers ≤ MOST_WORKERS)) × IfSome options.cells (λ cells. cells ≤ MOST_CELLS)

-- the numbers of an order are those that its words can give
abbrev pub HasNumbers : Order → Type 0
HasNumbers (Run workers cells calls journal) = (1 ≤ workers) × (workers ≤ MOST_WORKERS) × (cells ≤ MOST_CELLS)
HasNumbers _ = Unit {0}
