-- Messages on their way.
use Rattle.std.specs.Prelude.{ℕ, ◌+◌, Bool, ◌&&◌, []}
use Rattle.samoa_model.specs.declared.record.Cause.TheVariants.{Event}
use Rattle.samoa_model.specs.declared.record.Ext.{Ext}
use Rattle.samoa_model.specs.declared.script.Script.{Script}
use Rattle.samoa_serial.specs.Batch.{admission, is_due, is_up}
use Rattle.samoa_net.specs.declared.sent.Message.{Message}

-- the admission by a message at a node
abbrev pub admission_at : Message → ℕ → Ext
admission_at message node = admission (message.tick + 1) node (Event message.event) message.args

-- the computation that sent it, as far as its messages rest on it
abbrev pub sender_of : Message → Ext
sender_of message = record { node = message.from; tick = message.tick; cause = Event message.event; args = [] }

-- whether it is due at this admission, and the node is up then
abbrev pub reaches : Script → Message → Ext → Bool
reaches script message ext = is_due script message.from.0 ext.node.0 message.tick ext.tick && is_up script ext.tick ext
