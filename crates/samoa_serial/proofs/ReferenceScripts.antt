-- Scripts whose runs and reports stand in other files of this folder.
use Rattle.std.specs.Prelude.{[], ◌∷◌, codes}
use Rattle.samoa_model.specs.declared.record.Cause.TheVariants as causes
use Rattle.samoa_model.specs.declared.script.Decl.{Decl}
use Rattle.samoa_model.specs.declared.script.Script.{Script}
use Rattle.samoa_model.specs.declared.setup.Instr.TheVariants as instr
use Rattle.samoa_model.specs.declared.setup.Kind.TheVariants as kinds
use Rattle.samoa_model.specs.declared.setup.Place.TheVariants.{Reg, Local}
use Rattle.samoa_serial.proofs.ReferenceWords.{event, change, handler, node}

-- three scripted microprotocols, with declarations of each form, and nothing that happens
abbrev pub stack : Script
stack = record {
  nodes = 1;
  ticks = 1;
  does = [];
  losses = [];
  crashes = [];
  micros =
      record {
        name = codes "a";
        kind = kinds.Prog;
        nums = [];
        ports = event 0 ∷ event 1 ∷ event 2 ∷ event 3 ∷ event 4 ∷ event 5 ∷ [];
        changes = change 0 ∷ change 1 ∷ [];
        handlers =
            record { name = codes "add"; code = instr.Add (Reg 0) (Local 0) ∷ instr.Copy (Local 0) (Reg 0) ∷ instr.Done 1 ∷ [] } ∷
            record { name = codes "ask_b"; code = instr.Call 0 1 ∷ instr.Deliver 2 ∷ instr.Done 1 ∷ [] } ∷
            record { name = codes "loop"; code = instr.Add (Reg 1) (Local 0) ∷ instr.Call 3 1 ∷ [] } ∷
            record { name = codes "thrice"; code = instr.Call 0 1 ∷ instr.Call 0 1 ∷ instr.Call 0 1 ∷ instr.Deliver 2 ∷ [] } ∷
            record { name = codes "later"; code = instr.Later 4 1 ∷ instr.Set (Local 0) 9 ∷ instr.Later 2 1 ∷ instr.Call 0 1 ∷ instr.Done 1 ∷ [] } ∷
            record { name = codes "send"; code = instr.Send (Local 0) 1 2 ∷ [] } ∷
            record { name = codes "flood"; code = instr.Set (Local 1) 9 ∷ instr.Send (Local 1) 5 0 ∷ [] } ∷
            record { name = codes "ask"; code = instr.Change 0 1 ∷ instr.Send (Local 0) 4 1 ∷ instr.Change 1 2 ∷ [] } ∷
            record { name = codes "loop_later"; code = instr.Later 3 1 ∷ instr.Later 1 1 ∷ [] } ∷
            [];
      } ∷
      record {
        name = codes "b";
        kind = kinds.Prog;
        nums = 100 ∷ [];
        ports = [];
        changes = [];
        handlers =
            record { name = codes "add"; code = instr.Add (Reg 0) (Local 0) ∷ instr.Copy (Local 0) (Reg 0) ∷ instr.Done 1 ∷ [] } ∷
            [];
      } ∷
      record {
        name = codes "c";
        kind = kinds.Prog;
        nums = [];
        ports = [];
        changes = [];
        handlers =
            record { name = codes "tell"; code = instr.Add (Reg 0) (Local 0) ∷ instr.Deliver 1 ∷ instr.Done 1 ∷ [] } ∷
            [];
      } ∷
      [];
  decls =
      record { name = codes "only_a"; budget = 32; decl = Decl.Set (0 ∷ []) } ∷
      record { name = codes "all"; budget = 32; decl = Decl.Set (0 ∷ 1 ∷ 2 ∷ []) } ∷
      record { name = codes "two_units"; budget = 2; decl = Decl.Set (0 ∷ []) } ∷
      record { name = codes "twice_b"; budget = 32; decl = Decl.Bound ((0, 1) ∷ (1, 2) ∷ []) } ∷
      record { name = codes "route"; budget = 32; decl = Decl.Route (handler 0 4 ∷ handler 1 0 ∷ handler 2 0 ∷ []) (0 ∷ []) ((0, 1) ∷ (1, 2) ∷ []) } ∷
      [];
  events =
      record { name = codes "b_add"; decl = 1; handlers = handler 1 0 ∷ [] } ∷
      record { name = codes "add"; decl = 0; handlers = handler 0 0 ∷ [] } ∷
      record { name = codes "tell"; decl = 1; handlers = handler 2 0 ∷ [] } ∷
      record { name = codes "loop"; decl = 2; handlers = handler 0 2 ∷ handler 0 0 ∷ [] } ∷
      record { name = codes "moving"; decl = 1; handlers = handler 1 0 ∷ [] } ∷
      record { name = codes "flood"; decl = 0; handlers = handler 0 6 ∷ [] } ∷
      record { name = codes "ask_b"; decl = 1; handlers = handler 0 1 ∷ [] } ∷
      record { name = codes "alone"; decl = 0; handlers = handler 0 1 ∷ [] } ∷
      record { name = codes "outside"; decl = 0; handlers = handler 0 0 ∷ handler 2 0 ∷ [] } ∷
      record { name = codes "unbound"; decl = 0; handlers = [] } ∷
      record { name = codes "thrice"; decl = 3; handlers = handler 0 3 ∷ [] } ∷
      record { name = codes "along"; decl = 4; handlers = handler 0 4 ∷ [] } ∷
      record { name = codes "astray"; decl = 4; handlers = handler 0 1 ∷ [] } ∷
      record { name = codes "later"; decl = 1; handlers = handler 0 4 ∷ [] } ∷
      record { name = codes "three"; decl = 1; handlers = handler 0 0 ∷ handler 1 0 ∷ handler 2 0 ∷ [] } ∷
      record { name = codes "send"; decl = 0; handlers = handler 0 5 ∷ [] } ∷
      record { name = codes "ask"; decl = 0; handlers = handler 0 7 ∷ [] } ∷
      record { name = codes "loop_later"; decl = 2; handlers = handler 0 8 ∷ [] } ∷
      record { name = codes "twice_a"; decl = 3; handlers = handler 0 5 ∷ handler 0 0 ∷ [] } ∷
      record { name = codes "a_and_b"; decl = 3; handlers = handler 0 0 ∷ handler 1 0 ∷ [] } ∷
      [];
  changes =
      record { name = codes "to_c"; event = event 1; table = record { event = event 4; handlers = handler 2 0 ∷ [] } ∷ [] } ∷
      record { name = codes "to_both"; event = event 1; table = record { event = event 4; handlers = handler 1 0 ∷ handler 2 0 ∷ [] } ∷ [] } ∷
      [];
}

-- calls one within another, several at once and later ones; each refusal, cuts, messages, changes that are asked for, and one that is made
abbrev pub computations : Script
computations = record stack {
  nodes = 2;
  ticks = 2;
  does =
      record { tick = 2; node = node 0; cause = causes.Event (event 4); args = 1 ∷ [] } ∷
      record { tick = 1; node = node 0; cause = causes.Event (event 2); args = 5 ∷ [] } ∷
      record { tick = 1; node = node 0; cause = causes.Event (event 6); args = 3 ∷ [] } ∷
      record { tick = 1; node = node 1; cause = causes.Event (event 7); args = 3 ∷ [] } ∷
      record { tick = 1; node = node 0; cause = causes.Event (event 8); args = 1 ∷ [] } ∷
      record { tick = 1; node = node 0; cause = causes.Event (event 9); args = [] } ∷
      record { tick = 1; node = node 0; cause = causes.Event (event 3); args = 1 ∷ [] } ∷
      record { tick = 1; node = node 0; cause = causes.Event (event 17); args = 1 ∷ [] } ∷
      record { tick = 1; node = node 0; cause = causes.Event (event 10); args = 1 ∷ [] } ∷
      record { tick = 1; node = node 0; cause = causes.Event (event 18); args = 1 ∷ [] } ∷
      record { tick = 1; node = node 0; cause = causes.Event (event 19); args = 2 ∷ [] } ∷
      record { tick = 1; node = node 0; cause = causes.Event (event 11); args = 2 ∷ [] } ∷
      record { tick = 1; node = node 0; cause = causes.Event (event 12); args = 2 ∷ [] } ∷
      record { tick = 1; node = node 0; cause = causes.Event (event 14); args = 4 ∷ [] } ∷
      record { tick = 1; node = node 0; cause = causes.Event (event 13); args = 6 ∷ [] } ∷
      record { tick = 2; node = node 0; cause = causes.Change (change 0); args = 3 ∷ [] } ∷
      record { tick = 2; node = node 0; cause = causes.Event (event 4); args = 2 ∷ [] } ∷
      record { tick = 2; node = node 1; cause = causes.Event (event 4); args = 4 ∷ [] } ∷
      record { tick = 2; node = node 0; cause = causes.Event (event 13); args = 1 ∷ [] } ∷
      record { tick = 2; node = node 1; cause = causes.Event (event 15); args = 0 ∷ 9 ∷ [] } ∷
      record { tick = 2; node = node 0; cause = causes.Event (event 15); args = 7 ∷ 8 ∷ [] } ∷
      record { tick = 2; node = node 0; cause = causes.Event (event 16); args = 1 ∷ 2 ∷ [] } ∷
      [];
}
