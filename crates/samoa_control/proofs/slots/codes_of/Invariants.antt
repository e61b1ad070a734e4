use Rattle.std.proofs.Common.{◌≡◌, map, take}
use Rattle.samoa_model.specs.declared.script.CodeDef.{CodeDef}
use Rattle.samoa_control.proofs.slots.codes_of.Given as goal

-- the codes so far are those of the handlers so far
abbrev pub invariant-loop-handler : goal.invariant-loop-handler
invariant-loop-handler l = l.codes.items ≡ map (λ (c : CodeDef). c.code) (take l.handler-index l.handlers)
