-- How many payload cells computations hold.
use Rattle.std.specs.Prelude.{ℕ, ◌+◌, ◌*◌, max, List, [], ◌∷◌}
use Rattle.samoa_model.specs.declared.record.Ext.{Ext}
use Rattle.samoa_model.specs.declared.script.DeclDef.{DeclDef}
use Rattle.samoa_model.specs.declared.script.Script.{Script}
use Rattle.samoa_model.specs.Scripts.{decl_of}

-- the cells that a computation of so many units holds from its admission on
abbrev pub cells_for : ℕ → ℕ
cells_for budget = 16 * budget + 16

abbrev pub cells_of : Script → Ext → ℕ
cells_of script ext = cells_for (decl_of script ext).budget

abbrev pub greatest_budget : List DeclDef → ℕ
greatest_budget [] = 0
greatest_budget (decl ∷ decls) = max decl.budget (greatest_budget decls)

-- the cells that a script needs: those of a computation of its greatest budget
abbrev pub need : Script → ℕ
need script = cells_for (greatest_budget script.decls)
