-- Words in which moments, scripts and reports are written short, for the files that run the definitions beside the reference program.
use Prim.Native.String.{String}
use Rattle.std.specs.Prelude.{◌≡◌, ℕ, List, [], ◌∷◌, ◌++◌, codes, map}
use Rattle.samoa_model.specs.declared.ids.EventId.{EventId}
use Rattle.samoa_model.specs.declared.ids.ChangeId.{ChangeId}
use Rattle.samoa_model.specs.declared.ids.HandlerId.{HandlerId}
use Rattle.samoa_model.specs.declared.ids.MicroId.{MicroId}
use Rattle.samoa_model.specs.declared.ids.NodeId.{NodeId}
use Rattle.samoa_model.specs.declared.handler.Moment.{Moment}
use Rattle.samoa_model.specs.declared.handler.Moment.TheVariants.{Resume}
use Rattle.samoa_model.specs.declared.handler.Reply.TheVariants.{Words}
use Rattle.samoa_model.specs.declared.handler.Outcome.{Outcome}
use Rattle.samoa_model.specs.declared.setup.Kind.{Kind}
use Rattle.samoa_model.specs.declared.setup.Setup.{Setup}
use Rattle.samoa_serial.specs.State.{State}
use Rattle.samoa_serial.specs.Kinds.{kind_step, opening, shown}

-- ---- parts of a script by their numbers

abbrev pub event : ℕ → EventId
event n = record { 0 = n }

abbrev pub change : ℕ → ChangeId
change n = record { 0 = n }

abbrev pub micro : ℕ → MicroId
micro n = record { 0 = n }

abbrev pub handler : ℕ → ℕ → HandlerId
handler p n = record { micro = record { 0 = p }; index = n }

abbrev pub node : ℕ → NodeId
node n = record { 0 = n }

-- ---- moments

-- a handler goes on with a frame and the empty reply
abbrev pub goes_on : ℕ → List ℕ → Moment
goes_on handler frame = Resume handler frame (Words [])

-- a moment, what it gives, and what is shown after it
abbrev pub Row : Type 0
Row = Moment × Outcome × List ℕ

-- what the moments of these rows give and what is shown, one after another
abbrev pub gives_from : Kind → Setup → State → List Row → List (Outcome × List ℕ)
gives_from kind setup state [] = []
gives_from kind setup state (row ∷ rows) =
    let next = kind_step kind setup state row.0 in
    (next.1, shown kind next.0) ∷ gives_from kind setup next.0 rows

-- from the opening on, each moment gives what stands beside it
abbrev pub Gives : Kind → Setup → List Row → Type 0
Gives kind setup rows = gives_from kind setup (opening kind setup) rows ≡ map (λ row. (row.1, row.2)) rows

-- ---- reports

-- lines, each with its line feed
abbrev pub report_of_lines : List String → List ℕ
report_of_lines [] = []
report_of_lines (line ∷ lines) = codes line ++ 10 ∷ report_of_lines lines
