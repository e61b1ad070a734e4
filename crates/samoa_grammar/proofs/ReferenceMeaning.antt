-- What trees without a fault mean: the scripts that the reference program reads in them.
use Rattle.std.specs.Prelude.{◌≡◌, List, [], ◌∷◌, codes, refl}
use Rattle.serde_json.specs.Data.{Data}
use Rattle.samoa_model.specs.declared.setup.Place.TheVariants.{Reg, Local}
use Rattle.samoa_model.specs.declared.setup.Instr.TheVariants as instr
use Rattle.samoa_model.specs.declared.setup.Kind.TheVariants as kinds
use Rattle.samoa_model.specs.declared.record.Cause.TheVariants as causes
use Rattle.samoa_model.specs.declared.script.Decl.{Decl}
use Rattle.samoa_grammar.specs.Held.{script_meant}
use Rattle.samoa_grammar.specs.Instrs.{instr_in}
use Rattle.samoa_grammar.specs.Forms.{draft_of, micro_of, code_of, bound_of, decl_of, event_of, table_of, change_of, do_of, loss_of, crash_of}
use Rattle.samoa_grammar.specs.Meaning.{script_of, micro_meant, decl_meant, event_meant, table_meant, change_meant, do_meant}
use Rattle.samoa_grammar.proofs.ReferenceTrees.{event, change, handler, node, str, num, arr, obj}

-- something of each sort
abbrev everything_micros : List Data
everything_micros =
    obj (("name", str "a") ∷ ("kind", str "prog") ∷ ("nums", arr (num 5 ∷ num 6 ∷ [])) ∷ ("ports", arr (str "e" ∷ str "f" ∷ [])) ∷ ("changes", arr (str "d" ∷ str "c" ∷ [])) ∷ ("handlers", arr (obj (("name", str "h") ∷ ("code", arr (arr (str "set" ∷ str "r0" ∷ num 7 ∷ []) ∷ arr (str "copy" ∷ str "x1" ∷ str "r0" ∷ []) ∷ arr (str "add" ∷ str "r2" ∷ str "x0" ∷ []) ∷ arr (str "sub" ∷ str "r3" ∷ str "x1" ∷ []) ∷ arr (str "less" ∷ str "x0" ∷ str "x1" ∷ num 2 ∷ []) ∷ arr (str "call" ∷ num 1 ∷ num 2 ∷ []) ∷ arr (str "later" ∷ num 0 ∷ num 0 ∷ []) ∷ arr (str "send" ∷ str "x3" ∷ num 1 ∷ num 4 ∷ []) ∷ arr (str "deliver" ∷ num 3 ∷ []) ∷ arr (str "change" ∷ num 1 ∷ num 1 ∷ []) ∷ arr (str "done" ∷ num 1 ∷ []) ∷ [])) ∷ []) ∷ obj (("name", str "g") ∷ ("code", arr []) ∷ []) ∷ [])) ∷ []) ∷
    obj (("name", str "l") ∷ ("kind", str "link") ∷ ("ports", arr (str "f" ∷ [])) ∷ []) ∷
    obj (("name", str "k_fd") ∷ ("kind", str "fd") ∷ ("ports", arr (str "f" ∷ str "e" ∷ [])) ∷ []) ∷
    obj (("name", str "k_rbcast") ∷ ("kind", str "rbcast") ∷ ("ports", arr (str "f" ∷ str "e" ∷ [])) ∷ []) ∷
    obj (("name", str "k_cons") ∷ ("kind", str "cons") ∷ ("ports", arr (str "f" ∷ str "e" ∷ str "f" ∷ [])) ∷ []) ∷
    obj (("name", str "k_abcast") ∷ ("kind", str "abcast") ∷ ("ports", arr (str "f" ∷ str "e" ∷ str "f" ∷ [])) ∷ []) ∷
    obj (("name", str "k_seqcast") ∷ ("kind", str "seqcast") ∷ ("ports", arr (str "f" ∷ str "e" ∷ [])) ∷ []) ∷
    obj (("name", str "k_repl") ∷ ("kind", str "repl") ∷ ("ports", arr (str "f" ∷ str "e" ∷ [])) ∷ []) ∷
    obj (("name", str "k_views") ∷ ("kind", str "views") ∷ ("ports", arr (str "f" ∷ [])) ∷ []) ∷
    []

abbrev everything_decls : List Data
everything_decls =
    obj (("name", str "s") ∷ ("form", str "set") ∷ ("micros", arr (str "l" ∷ str "a" ∷ [])) ∷ []) ∷
    obj (("name", str "b") ∷ ("form", str "bound") ∷ ("budget", num 7) ∷ ("bounds", arr (obj (("micro", str "l") ∷ ("calls", num 1) ∷ []) ∷ obj (("micro", str "a") ∷ ("calls", num 3) ∷ []) ∷ [])) ∷ []) ∷
    obj (("name", str "r") ∷ ("form", str "route") ∷ ("budget", num 256) ∷ ("roots", arr (str "a.h" ∷ str "l.recv" ∷ str "a.h" ∷ [])) ∷ ("edges", arr (arr (str "a.g" ∷ str "a.h" ∷ []) ∷ arr (str "a.g" ∷ str "k_cons.suspect" ∷ []) ∷ arr (str "a.g" ∷ str "a.h" ∷ []) ∷ [])) ∷ []) ∷
    []

abbrev everything_events : List Data
everything_events =
    obj (("name", str "e") ∷ ("decl", str "r") ∷ ("handlers", arr (str "a.g" ∷ str "k_abcast.decided" ∷ [])) ∷ []) ∷
    obj (("name", str "f") ∷ ("decl", str "b") ∷ ("handlers", arr []) ∷ []) ∷
    []

abbrev everything_changes : List Data
everything_changes =
    obj (("name", str "c") ∷ ("event", str "f") ∷ ("table", arr (obj (("event", str "e") ∷ ("handlers", arr (str "k_repl.switched" ∷ str "k_seqcast.recv" ∷ [])) ∷ []) ∷ [])) ∷ []) ∷
    obj (("name", str "d") ∷ ("event", str "e") ∷ ("table", arr (obj (("event", str "f") ∷ ("handlers", arr []) ∷ []) ∷ obj (("event", str "e") ∷ ("handlers", arr (str "a.h" ∷ [])) ∷ []) ∷ [])) ∷ []) ∷
    []

abbrev everything_do : List Data
everything_do =
    obj (("tick", num 3) ∷ ("node", num 1) ∷ ("event", str "f") ∷ ("args", arr (num 1 ∷ num 2 ∷ [])) ∷ []) ∷
    obj (("tick", num 1) ∷ ("node", num 0) ∷ ("change", str "d") ∷ []) ∷
    []

abbrev everything : Data
everything = obj (("version", num 1) ∷ ("nodes", num 2) ∷ ("ticks", num 3) ∷ ("micros", arr everything_micros) ∷ ("decls", arr everything_decls) ∷ ("events", arr everything_events) ∷ ("changes", arr everything_changes) ∷ ("do", arr everything_do) ∷ ("lose", arr (obj (("from", num 0) ∷ ("to", num 1) ∷ ("first", num 2) ∷ ("last", num 18446744073709551615) ∷ []) ∷ [])) ∷ ("crash", arr (obj (("node", num 1) ∷ ("tick", num 9) ∷ []) ∷ [])) ∷ [])

everything_meant : script_meant everything ≡ record {
  nodes = 2;
  ticks = 3;
  does =
      record { tick = 3; node = node 1; cause = causes.Event (event 1); args = 1 ∷ 2 ∷ [] } ∷
      record { tick = 1; node = node 0; cause = causes.Change (change 1); args = [] } ∷
      [];
  losses =
      record { from = node 0; to = node 1; first = 2; last = 18446744073709551615 } ∷
      [];
  crashes =
      record { node = node 1; tick = 9 } ∷
      [];
  micros =
      record {
        name = codes "a";
        kind = kinds.Prog;
        nums = 5 ∷ 6 ∷ [];
        ports = event 0 ∷ event 1 ∷ [];
        changes = change 1 ∷ change 0 ∷ [];
        handlers =
            record { name = codes "h"; code = instr.Set (Reg 0) 7 ∷ instr.Copy (Local 1) (Reg 0) ∷ instr.Add (Reg 2) (Local 0) ∷ instr.Sub (Reg 3) (Local 1) ∷ instr.Less (Local 0) (Local 1) 2 ∷ instr.Call 1 2 ∷ instr.Later 0 0 ∷ instr.Send (Local 3) 1 4 ∷ instr.Deliver 3 ∷ instr.Change 1 1 ∷ instr.Done 1 ∷ [] } ∷
            record { name = codes "g"; code = [] } ∷
            [];
      } ∷
      record {
        name = codes "l";
        kind = kinds.Link;
        nums = [];
        ports = event 1 ∷ [];
        changes = [];
        handlers = [];
      } ∷
      record {
        name = codes "k_fd";
        kind = kinds.Fd;
        nums = [];
        ports = event 1 ∷ event 0 ∷ [];
        changes = [];
        handlers = [];
      } ∷
      record {
        name = codes "k_rbcast";
        kind = kinds.Rbcast;
        nums = [];
        ports = event 1 ∷ event 0 ∷ [];
        changes = [];
        handlers = [];
      } ∷
      record {
        name = codes "k_cons";
        kind = kinds.Cons;
        nums = [];
        ports = event 1 ∷ event 0 ∷ event 1 ∷ [];
        changes = [];
        handlers = [];
      } ∷
      record {
        name = codes "k_abcast";
        kind = kinds.Abcast;
        nums = [];
        ports = event 1 ∷ event 0 ∷ event 1 ∷ [];
        changes = [];
        handlers = [];
      } ∷
      record {
        name = codes "k_seqcast";
        kind = kinds.Seqcast;
        nums = [];
        ports = event 1 ∷ event 0 ∷ [];
        changes = [];
        handlers = [];
      } ∷
      record {
        name = codes "k_repl";
        kind = kinds.Repl;
        nums = [];
        ports = event 1 ∷ event 0 ∷ [];
        changes = [];
        handlers = [];
      } ∷
      record {
        name = codes "k_views";
        kind = kinds.Views;
        nums = [];
        ports = event 1 ∷ [];
        changes = [];
        handlers = [];
      } ∷
      [];
  decls =
      record { name = codes "s"; budget = 32; decl = Decl.Set (1 ∷ 0 ∷ []) } ∷
      record { name = codes "b"; budget = 7; decl = Decl.Bound ((1, 1) ∷ (0, 3) ∷ []) } ∷
      record { name = codes "r"; budget = 256; decl = Decl.Route (handler 0 0 ∷ handler 1 1 ∷ handler 0 1 ∷ handler 4 4 ∷ []) (0 ∷ 1 ∷ []) ((2, 0) ∷ (2, 3) ∷ []) } ∷
      [];
  events =
      record { name = codes "e"; decl = 2; handlers = handler 0 1 ∷ handler 5 2 ∷ [] } ∷
      record { name = codes "f"; decl = 1; handlers = [] } ∷
      [];
  changes =
      record { name = codes "c"; event = event 1; table = record { event = event 0; handlers = handler 7 2 ∷ handler 6 1 ∷ [] } ∷ [] } ∷
      record { name = codes "d"; event = event 0; table = record { event = event 1; handlers = [] } ∷ record { event = event 0; handlers = handler 0 0 ∷ [] } ∷ [] } ∷
      [];
}
unfolding script_meant script_of draft_of micro_of code_of bound_of decl_of event_of table_of change_of do_of loss_of crash_of micro_meant decl_meant event_meant table_meant change_meant do_meant instr_in
everything_meant = refl

-- a script without the keys that may be left out
abbrev fewest_keys : Data
fewest_keys = obj (("version", num 1) ∷ ("nodes", num 1) ∷ ("ticks", num 1) ∷ ("micros", arr (obj (("name", str "m") ∷ ("kind", str "prog") ∷ ("handlers", arr (obj (("name", str "h") ∷ ("code", arr []) ∷ []) ∷ [])) ∷ []) ∷ [])) ∷ ("decls", arr (obj (("name", str "d") ∷ ("form", str "route") ∷ ("roots", arr (str "m.h" ∷ [])) ∷ []) ∷ [])) ∷ ("events", arr (obj (("name", str "e") ∷ ("decl", str "d") ∷ ("handlers", arr (str "m.h" ∷ [])) ∷ []) ∷ [])) ∷ [])

fewest_keys_meant : script_meant fewest_keys ≡ record {
  nodes = 1;
  ticks = 1;
  does = [];
  losses = [];
  crashes = [];
  micros =
      record {
        name = codes "m";
        kind = kinds.Prog;
        nums = [];
        ports = [];
        changes = [];
        handlers =
            record { name = codes "h"; code = [] } ∷
            [];
      } ∷
      [];
  decls =
      record { name = codes "d"; budget = 32; decl = Decl.Route (handler 0 0 ∷ []) (0 ∷ []) [] } ∷
      [];
  events =
      record { name = codes "e"; decl = 0; handlers = handler 0 0 ∷ [] } ∷
      [];
  changes = [];
}
unfolding script_meant script_of draft_of micro_of code_of bound_of decl_of event_of table_of change_of do_of loss_of crash_of micro_meant decl_meant event_meant table_meant change_meant do_meant instr_in
fewest_keys_meant = refl
