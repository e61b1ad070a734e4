-- The decision that a node has.
use Rattle.std.specs.Prelude.{ℕ, List, Option}
use Rattle.samoa_model.specs.declared.record.Ext.{Ext}
use Rattle.samoa_model.specs.declared.script.Script.{Script}
use Rattle.samoa_serial.specs.Rows.{message_of}
use Rattle.samoa_serial.specs.SerialRun.{serial}
use Rattle.samoa_serial.specs.declared.message.Message.{Message}
use Rattle.samoa_laws.specs.consensus.AtBoxes.{cons_of}

-- the decision of instance i in the box of consensus, microprotocol 3, at node v after the serial run of these admissions, or none
abbrev pub decided_at : Script → List Ext → ℕ → ℕ → Option Message
decided_at script exts v i = message_of (cons_of ((serial script exts).states v 3)).decisions i
