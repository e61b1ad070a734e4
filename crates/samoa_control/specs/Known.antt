-- The number of a computation's declaration.
use Rattle.std.specs.Prelude.{ℕ}
use Rattle.samoa_model.specs.declared.record.Ext.{Ext}
use Rattle.samoa_model.specs.declared.script.Script.{Script}
use Rattle.samoa_model.specs.Scripts.{event_at, root_of}

-- the number of the declaration that an admission is judged by
abbrev pub decl_number : Script → Ext → ℕ
decl_number script ext = (event_at script (root_of script ext.cause).0).decl
