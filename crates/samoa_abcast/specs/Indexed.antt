-- The keys beside the messages that wait.
use Rattle.std.specs.Prelude.{◌≡◌, true, List}
use Rattle.samoa_serial.specs.Rows.{has_key}
use Rattle.samoa_serial.specs.AbcastTable.{has_message}
use Rattle.samoa_serial.specs.declared.message.Message.{Message}
use Rattle.samoa_serial.specs.declared.keys.Key.{Key}

-- each message has its key there
abbrev pub IsIndexed : List Message → List Key → Type 0
IsIndexed messages keys = (key : Key) → has_message messages key ≡ true → has_key keys key ≡ true
