-- When two messages are the same, and the first places of messages in a list.
use Rattle.std.specs.Prelude.{Bool, ◌&&◌, ◌==◌, List}
use Rattle.samoa_serial.specs.Rows.{message_key, same_key}
use Rattle.samoa_serial.specs.declared.message.Message.{Message}
use Rattle.samoa_laws.specs.lists.Lists.{firsts, unknown}

-- of the same key, and the same in all five words
abbrev pub alike_keys : Message → Message → Bool
alike_keys a b = same_key (message_key a) (message_key b)

abbrev pub same_message : Message → Message → Bool
same_message a b = alike_keys a b && (a.kind == b.kind) && (a.value == b.value)

-- each message at its first place only
abbrev pub first_places : List Message → List Message
first_places ms = firsts same_message unknown ms

-- the messages whose key does not occur earlier
abbrev pub first_of_keys : List Message → List Message
first_of_keys ms = firsts alike_keys unknown ms
