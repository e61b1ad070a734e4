-- The form of each object of a script: trees, and beside each the fault that the reference program finds in it.
use Rattle.std.specs.Prelude.{negsuc, true, [], ◌∷◌, codes, None, refl}
use Rattle.serde_json.specs.Data.{null, boolean, number, negative}
use Rattle.samoa_grammar.specs.Instrs.{instr_in}
use Rattle.samoa_grammar.specs.Forms.{micro_fault, code_fault, bound_fault, decl_fault, event_fault, table_fault, change_fault, do_fault, loss_fault, crash_fault}
use Rattle.samoa_grammar.proofs.ReferenceParts.{handler_h, micro_a, micro_l, set_s, bound_of_a, bound_b, route_r, event_e, row_e, change_c, item_e, loss_of_all, crash_of_1}
use Rattle.samoa_grammar.proofs.ReferenceTrees.{str, num, arr, obj, but, without, times, missing, wrong, over, Answers}

-- a handler of a microprotocol
faults_of_handlers : Answers (code_fault (codes "handlers")) (
    -- names have up to sixteen small letters, digits and _, and begin with a letter
    (but handler_h "name" (num 5), wrong "name") ∷
    (but handler_h "name" (str ""), wrong "name") ∷
    (but handler_h "name" (str "abcdefghijklmnopq"), wrong "name") ∷
    (but handler_h "name" (str "abcdefghijklmnop"), None) ∷
    (but handler_h "name" (str "a_9z"), None) ∷
    (but handler_h "name" (str "9"), wrong "name") ∷
    (but handler_h "name" (str "_a"), wrong "name") ∷
    (but handler_h "name" (str "A"), wrong "name") ∷
    (but handler_h "name" (str "a-b"), wrong "name") ∷
    (but handler_h "name" (str "a.b"), wrong "name") ∷
    -- keys
    (without handler_h "name", missing "name") ∷
    (without handler_h "code", missing "code") ∷
    (but handler_h "more" (num 1), wrong "handlers") ∷
    (arr [], wrong "handlers") ∷
    (null, wrong "handlers") ∷
    -- a list of instructions, 32 at most; the form of its items comes before its length
    (but handler_h "code" (obj []), wrong "code") ∷
    (but handler_h "code" (arr (arr [] ∷ [])), wrong "code") ∷
    (but handler_h "code" (arr (times 32 (arr (str "done" ∷ num 1 ∷ [])))), None) ∷
    (but handler_h "code" (arr (times 33 (arr (str "done" ∷ num 1 ∷ [])))), over "code" 32) ∷
    (but handler_h "code" (arr (times 33 (arr (str "done" ∷ num 5 ∷ [])))), wrong "code") ∷
    [])
unfolding code_fault instr_in
faults_of_handlers = refl

-- a microprotocol
faults_of_microprotocols : Answers (micro_fault (codes "micros")) (
    (micro_l, None) ∷
    (micro_a, None) ∷
    (without micro_l "ports", None) ∷
    -- every kind, and none
    (but micro_l "kind" (str "fd"), None) ∷
    (but micro_l "kind" (str "rbcast"), None) ∷
    (but micro_l "kind" (str "cons"), None) ∷
    (but micro_l "kind" (str "abcast"), None) ∷
    (but micro_l "kind" (str "seqcast"), None) ∷
    (but micro_l "kind" (str "repl"), None) ∷
    (but micro_l "kind" (str "views"), None) ∷
    (but micro_l "kind" (str "linked"), wrong "kind") ∷
    (but micro_l "kind" (num 1), wrong "kind") ∷
    (without micro_l "kind", missing "kind") ∷
    -- handlers belong to the scripted kind, and to a kind that isn't known
    (but micro_l "handlers" (arr (handler_h ∷ [])), wrong "micros") ∷
    (but micro_a "kind" (str "x"), wrong "kind") ∷
    (without micro_a "kind", missing "kind") ∷
    (without micro_a "handlers", missing "handlers") ∷
    (but micro_a "handlers" (arr []), wrong "handlers") ∷
    (but micro_a "handlers" (num 5), wrong "handlers") ∷
    (but micro_a "handlers" (arr (times 16 handler_h)), None) ∷
    (but micro_a "handlers" (arr (times 17 handler_h)), over "handlers" 16) ∷
    (but micro_a "handlers" (arr (handler_h ∷ num 5 ∷ [])), wrong "handlers") ∷
    (but micro_a "handlers" (arr (handler_h ∷ without handler_h "code" ∷ [])), missing "code") ∷
    -- other keys
    (without micro_l "name", missing "name") ∷
    (but micro_l "name" (str "L"), wrong "name") ∷
    (but micro_l "form" (str "set"), wrong "micros") ∷
    (arr (micro_l ∷ []), wrong "micros") ∷
    -- lists with a limit
    (but micro_l "nums" (arr (times 12 (num 18446744073709551615))), None) ∷
    (but micro_l "nums" (arr (times 13 (num 0))), over "nums" 12) ∷
    (but micro_l "nums" (arr (number (negative (negsuc 0)) ∷ [])), wrong "nums") ∷
    (but micro_l "nums" (num 1), wrong "nums") ∷
    (but micro_l "nums" (arr []), None) ∷
    (but micro_l "ports" (arr (times 16 (str "e"))), None) ∷
    (but micro_l "ports" (arr (times 17 (str "e"))), over "ports" 16) ∷
    (but micro_l "ports" (arr (times 17 (num 1))), wrong "ports") ∷
    (but micro_l "ports" (str "e"), wrong "ports") ∷
    (but micro_l "changes" (arr (times 16 (str "c"))), None) ∷
    (but micro_l "changes" (arr (times 17 (str "c"))), over "changes" 16) ∷
    (but micro_l "changes" (arr (str "c" ∷ str "" ∷ [])), wrong "changes") ∷
    (but micro_l "changes" (arr []), None) ∷
    -- the first key of the table that has a fault tells it
    (but (but (but micro_l "ports" (num 1)) "nums" (num 1)) "changes" (num 1), wrong "nums") ∷
    (but (but micro_l "ports" (num 1)) "changes" (num 1), wrong "ports") ∷
    (obj (("kind", num 1) ∷ ("name", num 1) ∷ []), wrong "name") ∷
    [])
unfolding micro_fault code_fault instr_in
faults_of_microprotocols = refl

-- an item of bounds
faults_of_bounds : Answers (bound_fault (codes "bounds")) (
    (bound_of_a, None) ∷
    (without bound_of_a "micro", missing "micro") ∷
    (but bound_of_a "micro" (num 1), wrong "micro") ∷
    (without bound_of_a "calls", missing "calls") ∷
    (but bound_of_a "calls" (num 1), None) ∷
    (but bound_of_a "calls" (num 0), wrong "calls") ∷
    (but bound_of_a "calls" (num 256), None) ∷
    (but bound_of_a "calls" (num 257), over "calls" 256) ∷
    (but bound_of_a "calls" (boolean true), wrong "calls") ∷
    (but bound_of_a "budget" (num 1), wrong "bounds") ∷
    [])
unfolding bound_fault
faults_of_bounds = refl

-- a declaration
faults_of_declarations : Answers (decl_fault (codes "decls")) (
    (set_s, None) ∷
    (bound_b, None) ∷
    (route_r, None) ∷
    -- the form, and the keys of each
    (without set_s "form", missing "form") ∷
    (but set_s "form" (str "sets"), wrong "form") ∷
    (but set_s "form" (arr []), wrong "form") ∷
    (but set_s "bounds" (arr []), wrong "decls") ∷
    (but bound_b "edges" (arr []), wrong "decls") ∷
    (but route_r "micros" (arr []), wrong "decls") ∷
    (obj (("name", str "d") ∷ ("form", str "x") ∷ ("micros", arr []) ∷ ("bounds", arr []) ∷ ("roots", arr []) ∷ ("edges", arr []) ∷ []), wrong "form") ∷
    (obj (("name", str "d") ∷ ("micros", arr []) ∷ ("bounds", arr []) ∷ ("roots", arr []) ∷ ("edges", arr []) ∷ []), missing "form") ∷
    (but set_s "other" (num 1), wrong "decls") ∷
    -- the name and the budget
    (without set_s "name", missing "name") ∷
    (but set_s "name" (num 1), wrong "name") ∷
    (but set_s "budget" (num 1), None) ∷
    (but set_s "budget" (num 0), wrong "budget") ∷
    (but set_s "budget" (num 256), None) ∷
    (but set_s "budget" (num 257), over "budget" 256) ∷
    (but set_s "budget" (str "1"), wrong "budget") ∷
    -- a set
    (without set_s "micros", missing "micros") ∷
    (but set_s "micros" (arr []), wrong "micros") ∷
    (but set_s "micros" (arr (times 24 (str "a"))), None) ∷
    (but set_s "micros" (arr (times 25 (str "a"))), over "micros" 24) ∷
    (but set_s "micros" (arr (num 1 ∷ [])), wrong "micros") ∷
    -- a bound
    (without bound_b "bounds", missing "bounds") ∷
    (but bound_b "bounds" (arr []), wrong "bounds") ∷
    (but bound_b "bounds" (arr (times 24 bound_of_a)), None) ∷
    (but bound_b "bounds" (arr (times 25 bound_of_a)), over "bounds" 24) ∷
    (but bound_b "bounds" (arr (str "a" ∷ [])), wrong "bounds") ∷
    (but bound_b "bounds" (arr (without bound_of_a "calls" ∷ [])), missing "calls") ∷
    -- a route
    (without route_r "roots", missing "roots") ∷
    (but route_r "roots" (arr []), None) ∷
    (but route_r "roots" (arr (times 32 (str "a.h"))), None) ∷
    (but route_r "roots" (arr (times 33 (str "a.h"))), over "roots" 32) ∷
    (but route_r "roots" (arr (str "a" ∷ [])), wrong "roots") ∷
    (but route_r "roots" (arr (str "a.h.h" ∷ [])), wrong "roots") ∷
    (but route_r "roots" (arr (str "a." ∷ [])), wrong "roots") ∷
    (but route_r "roots" (arr (str ".h" ∷ [])), wrong "roots") ∷
    (but route_r "roots" (arr (num 1 ∷ [])), wrong "roots") ∷
    (without route_r "edges", None) ∷
    (but route_r "edges" (arr (times 256 (arr (str "a.h" ∷ str "a.g" ∷ [])))), None) ∷
    (but route_r "edges" (arr (times 257 (arr (str "a.h" ∷ str "a.g" ∷ [])))), over "edges" 256) ∷
    (but route_r "edges" (arr (arr (str "a.h" ∷ []) ∷ [])), wrong "edges") ∷
    (but route_r "edges" (arr (arr (str "a.h" ∷ str "a.g" ∷ str "a.g" ∷ []) ∷ [])), wrong "edges") ∷
    (but route_r "edges" (arr (arr (str "a.h" ∷ str "g" ∷ []) ∷ [])), wrong "edges") ∷
    (but route_r "edges" (arr (arr (str "h" ∷ str "a.g" ∷ []) ∷ [])), wrong "edges") ∷
    (but route_r "edges" (obj []), wrong "edges") ∷
    (but route_r "edges" (arr (num 1 ∷ [])), wrong "edges") ∷
    [])
unfolding decl_fault bound_fault
faults_of_declarations = refl

-- an event
faults_of_events : Answers (event_fault (codes "events")) (
    (event_e, None) ∷
    (but event_e "handlers" (arr []), None) ∷
    (without event_e "name", missing "name") ∷
    (but event_e "name" (num 1), wrong "name") ∷
    (without event_e "decl", missing "decl") ∷
    (but event_e "decl" (arr []), wrong "decl") ∷
    (without event_e "handlers", missing "handlers") ∷
    (but event_e "handlers" (arr (times 4 (str "a.h"))), None) ∷
    (but event_e "handlers" (arr (times 5 (str "a.h"))), over "handlers" 4) ∷
    (but event_e "handlers" (arr (str "a" ∷ [])), wrong "handlers") ∷
    (but event_e "event" (str "e"), wrong "events") ∷
    [])
unfolding event_fault
faults_of_events = refl

-- a row of a change's table
faults_of_rows : Answers (table_fault (codes "table")) (
    (row_e, None) ∷
    (without row_e "event", missing "event") ∷
    (but row_e "event" (num 1), wrong "event") ∷
    (without row_e "handlers", missing "handlers") ∷
    (but row_e "handlers" (arr (times 4 (str "a.h"))), None) ∷
    (but row_e "handlers" (arr (times 5 (str "a.h"))), over "handlers" 4) ∷
    (but row_e "handlers" (arr (str "h" ∷ [])), wrong "handlers") ∷
    (but row_e "name" (str "e"), wrong "table") ∷
    [])
unfolding table_fault
faults_of_rows = refl

-- a change of bindings
faults_of_changes : Answers (change_fault (codes "changes")) (
    (change_c, None) ∷
    (without change_c "name", missing "name") ∷
    (but change_c "name" (num 1), wrong "name") ∷
    (without change_c "event", missing "event") ∷
    (but change_c "event" (num 1), wrong "event") ∷
    (without change_c "table", missing "table") ∷
    (but change_c "table" (arr []), wrong "table") ∷
    (but change_c "table" (arr (times 16 row_e)), None) ∷
    (but change_c "table" (arr (times 17 row_e)), over "table" 16) ∷
    (but change_c "table" (arr (num 1 ∷ [])), wrong "table") ∷
    (but change_c "table" (arr (row_e ∷ without row_e "event" ∷ [])), missing "event") ∷
    (but change_c "handlers" (arr []), wrong "changes") ∷
    [])
unfolding change_fault table_fault
faults_of_changes = refl

-- an item of do
faults_of_items : Answers (do_fault (codes "do")) (
    (item_e, None) ∷
    (but (without item_e "event") "change" (str "c"), None) ∷
    -- one of event and change
    (but item_e "change" (str "c"), wrong "do") ∷
    (without item_e "event", wrong "do") ∷
    (but item_e "event" (num 1), wrong "event") ∷
    (but (without item_e "event") "change" (num 1), wrong "change") ∷
    -- ticks begin at 1, nodes at 0
    (without item_e "tick", missing "tick") ∷
    (but item_e "tick" (num 0), wrong "tick") ∷
    (but item_e "tick" (num 18446744073709551615), None) ∷
    (without item_e "node", missing "node") ∷
    (but item_e "node" (str "0"), wrong "node") ∷
    (but item_e "node" (num 18446744073709551615), None) ∷
    -- arguments
    (but item_e "args" (arr (times 12 (num 1))), None) ∷
    (but item_e "args" (arr (times 13 (num 1))), over "args" 12) ∷
    (but item_e "args" (arr (str "1" ∷ [])), wrong "args") ∷
    (but item_e "args" (arr []), None) ∷
    (but item_e "arg" (num 1), wrong "do") ∷
    [])
unfolding do_fault
faults_of_items = refl

-- a loss
faults_of_losses : Answers (loss_fault (codes "lose")) (
    (loss_of_all, None) ∷
    (without loss_of_all "from", missing "from") ∷
    (without loss_of_all "to", missing "to") ∷
    (without loss_of_all "first", missing "first") ∷
    (without loss_of_all "last", missing "last") ∷
    (but loss_of_all "from" (str "1"), wrong "from") ∷
    (but loss_of_all "to" (str "1"), wrong "to") ∷
    (but loss_of_all "first" (str "1"), wrong "first") ∷
    (but loss_of_all "last" (str "1"), wrong "last") ∷
    (but loss_of_all "node" (num 0), wrong "lose") ∷
    [])
unfolding loss_fault
faults_of_losses = refl

-- a crash
faults_of_crashes : Answers (crash_fault (codes "crash")) (
    (crash_of_1, None) ∷
    (without crash_of_1 "node", missing "node") ∷
    (without crash_of_1 "tick", missing "tick") ∷
    (but crash_of_1 "node" (str "1"), wrong "node") ∷
    (but crash_of_1 "tick" (str "1"), wrong "tick") ∷
    (but crash_of_1 "to" (num 0), wrong "crash") ∷
    [])
unfolding crash_fault
faults_of_crashes = refl
