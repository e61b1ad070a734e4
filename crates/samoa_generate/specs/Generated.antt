-- The script of the group stack that is generated for a number.
use Rattle.std.specs.Prelude.{ℕ, ◌+◌, ◌*◌, ◌%◌, List, [], ◌∷◌, ◌++◌, map}
use Rattle.std.specs.List.{range_with_len}
use Rattle.samoa_model.specs.declared.record.Cause.{Cause}
use Rattle.samoa_model.specs.declared.script.DoDef.{DoDef}
use Rattle.samoa_model.specs.declared.script.Script.{Script}
use Rattle.samoa_laws.specs.trace.Group.{event, group_changes, group_decls, group_events, group_micros}

-- a cast in a tick, at a node: a message of this kind, with this value
abbrev pub cast_at : ℕ → ℕ → ℕ → ℕ → DoDef
cast_at tick node kind value = record { tick = tick; node = record { 0 = node }; cause = Cause.Event (event 14); args = kind ∷ value ∷ [] }

-- so many messages, one each eighth tick, by the nodes in turn
abbrev pub casts_before : ℕ → List DoDef
casts_before n = map (λ j. cast_at (1 + 8 * j) (j % 8) 0 j) (range_with_len 0 n)

-- as many messages more after the change, one each tick, by the nodes in turn
abbrev pub casts_after : ℕ → List DoDef
casts_after n = map (λ j. cast_at (9 + 8 * n + j) (j % 8) 0 (n + j)) (range_with_len 0 n)

-- messages, a change of the broadcast, and messages
abbrev pub generated_does : ℕ → List DoDef
generated_does n = casts_before n ++ cast_at (1 + 8 * n) 0 1 0 ∷ casts_after n

-- the group stack on eight nodes, with no losses and no crashes
abbrev pub generated_script : ℕ → Script
generated_script n = record {
  nodes = 8;
  ticks = 10 + 9 * n;
  micros = group_micros;
  decls = group_decls;
  events = group_events;
  changes = group_changes;
  does = generated_does n;
  losses = [];
  crashes = [];
}
