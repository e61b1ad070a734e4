-- The line of a generated script.
use Rattle.std.specs.Prelude.{ℕ, List, ◌++◌, length, codes, decimal}
use Rattle.samoa_model.specs.declared.script.Script.{Script}
use Rattle.samoa_serial.specs.Report.{entries_of_sort, is_delivery, is_refusal}
use Rattle.samoa_serial.specs.SerialRun.{serial}
use Rattle.samoa_serial.specs.Ticks.{admitted}
use Rattle.samoa_generate.specs.Generated.{generated_script}

-- a number, and how many computations, deliveries and refusals there are
abbrev pub counts_line : ℕ → ℕ → ℕ → ℕ → List ℕ
counts_line n comps deliveries refusals =
    codes "G " ++ (decimal n ++ (codes " " ++ (decimal comps ++ (codes " " ++ (decimal deliveries ++ (codes " " ++ (decimal refusals ++ codes "\n")))))))

-- how many computations a script admits, and how many deliveries and refusals their serial run has
unfoldable pub line_for : ℕ → Script → List ℕ
line_for n script =
    let comps = (serial script (admitted script)).comps in
    counts_line n (length (admitted script)) (entries_of_sort is_delivery comps) (entries_of_sort is_refusal comps)

-- the line of the script that is generated for a number
abbrev pub made_line : ℕ → List ℕ
made_line n = line_for n (generated_script n)
