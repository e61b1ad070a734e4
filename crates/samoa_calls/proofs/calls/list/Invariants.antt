use Rattle.std.proofs.Common.{◌≡◌, ◌++◌, take, vec_capacity}
use Rattle.samoa_calls.proofs.calls.list.Given as goal

abbrev pub invariant-loop-handler : goal.invariant-loop-handler
invariant-loop-handler l = record {
  listed : l.listed.items ≡ l.initial.listed.items ++ take l.handler-index l.handlers;
  capacity : vec_capacity l.listed ≡ vec_capacity l.initial.listed;
}
