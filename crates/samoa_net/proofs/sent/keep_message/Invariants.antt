use Rattle.std.proofs.Common.{◌≡◌, ◌≤◌, ◌+◌, ◌-◌, ◌++◌, length, take, vec_capacity}
use Rattle.std.specs.List.{range_with_len}
use Rattle.samoa_net.specs.Gathered.{most_kept}
use Rattle.samoa_net.proofs.Messages.{arrived}
use Rattle.samoa_net.proofs.sent.keep_message.Given as goal

-- the message is kept at the receivers so far, and there is room for the others
abbrev pub invariant-loop-offset : goal.invariant-loop-offset
invariant-loop-offset l = record {
  kept : l.sent.items ≡ take most_kept (l.initial.sent.items ++ arrived l.script l.message (range_with_len l.first l.offset));
  few : length l.sent.items ≤ most_kept;
  room : length l.sent.items + (l.count - l.offset) ≤ vec_capacity l.sent;
}
