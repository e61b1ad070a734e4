-- Positions and totals of a script: trees whose names are defined, and beside each the fault that the reference program finds then.
use Rattle.std.specs.Prelude.{[], ◌∷◌, None, refl}
use Rattle.samoa_grammar.specs.Instrs.{instr_in}
use Rattle.samoa_grammar.specs.Forms.{draft_of, micro_of, code_of, bound_of, decl_of, event_of, table_of, change_of, do_of, loss_of, crash_of}
use Rattle.samoa_grammar.specs.Passes.{totals_fault}
use Rattle.samoa_grammar.proofs.ReferenceParts.{handler_h, handler_g, micro_a, micro_l, item_e, loss_of_all, crash_of_1, plain}
use Rattle.samoa_grammar.proofs.ReferenceTrees.{str, num, arr, but, times, wrong, over, Answers}

-- the ports that each kind needs
ports_that_are_needed : Answers (λ d. totals_fault (draft_of d)) (
    (but plain "micros" (arr (but micro_l "ports" (arr []) ∷ [])), wrong "ports") ∷
    (but plain "micros" (arr (but micro_l "kind" (str "fd") ∷ [])), wrong "ports") ∷
    (but plain "micros" (arr (but micro_l "kind" (str "rbcast") ∷ [])), wrong "ports") ∷
    (but plain "micros" (arr (but (but micro_l "kind" (str "cons")) "ports" (arr (str "e" ∷ str "e" ∷ [])) ∷ [])), wrong "ports") ∷
    (but plain "micros" (arr (but (but micro_l "kind" (str "abcast")) "ports" (arr (str "e" ∷ str "e" ∷ [])) ∷ [])), wrong "ports") ∷
    (but plain "micros" (arr (but micro_l "kind" (str "seqcast") ∷ [])), wrong "ports") ∷
    (but plain "micros" (arr (but micro_l "kind" (str "repl") ∷ [])), wrong "ports") ∷
    (but plain "micros" (arr (but (but micro_l "kind" (str "views")) "ports" (arr []) ∷ [])), wrong "ports") ∷
    (but plain "micros" (arr (micro_l ∷ [])), None) ∷
    (but plain "micros" (arr (but (but micro_l "kind" (str "fd")) "ports" (arr (str "e" ∷ str "e" ∷ [])) ∷ [])), None) ∷
    (but plain "micros" (arr (but (but micro_l "kind" (str "rbcast")) "ports" (arr (str "e" ∷ str "e" ∷ [])) ∷ [])), None) ∷
    (but plain "micros" (arr (but (but micro_l "kind" (str "cons")) "ports" (arr (str "e" ∷ str "e" ∷ str "e" ∷ [])) ∷ [])), None) ∷
    (but plain "micros" (arr (but (but micro_l "kind" (str "abcast")) "ports" (arr (str "e" ∷ str "e" ∷ str "e" ∷ [])) ∷ [])), None) ∷
    (but plain "micros" (arr (but (but micro_l "kind" (str "seqcast")) "ports" (arr (str "e" ∷ str "e" ∷ [])) ∷ [])), None) ∷
    (but plain "micros" (arr (but (but micro_l "kind" (str "repl")) "ports" (arr (str "e" ∷ str "e" ∷ [])) ∷ [])), None) ∷
    (but plain "micros" (arr (but micro_l "kind" (str "views") ∷ [])), None) ∷
    (but plain "micros" (arr (but micro_a "ports" (arr []) ∷ [])), None) ∷
    [])
unfolding totals_fault draft_of micro_of code_of bound_of decl_of event_of table_of change_of do_of loss_of crash_of instr_in
ports_that_are_needed = refl

-- ports and changes that code speaks of
positions_in_code : Answers (λ d. totals_fault (draft_of d)) (
    (but plain "micros" (arr (but micro_a "handlers" (arr (handler_h ∷ but handler_g "code" (arr (arr (str "done" ∷ num 0 ∷ []) ∷ arr (str "call" ∷ num 0 ∷ num 1 ∷ []) ∷ [])) ∷ [])) ∷ micro_l ∷ [])), None) ∷
    (but plain "micros" (arr (but micro_a "handlers" (arr (handler_h ∷ but handler_g "code" (arr (arr (str "done" ∷ num 0 ∷ []) ∷ arr (str "call" ∷ num 1 ∷ num 1 ∷ []) ∷ [])) ∷ [])) ∷ micro_l ∷ [])), wrong "code") ∷
    (but plain "micros" (arr (but micro_a "handlers" (arr (handler_h ∷ but handler_g "code" (arr (arr (str "done" ∷ num 0 ∷ []) ∷ arr (str "later" ∷ num 0 ∷ num 1 ∷ []) ∷ [])) ∷ [])) ∷ micro_l ∷ [])), None) ∷
    (but plain "micros" (arr (but micro_a "handlers" (arr (handler_h ∷ but handler_g "code" (arr (arr (str "done" ∷ num 0 ∷ []) ∷ arr (str "later" ∷ num 1 ∷ num 1 ∷ []) ∷ [])) ∷ [])) ∷ micro_l ∷ [])), wrong "code") ∷
    (but plain "micros" (arr (but micro_a "handlers" (arr (handler_h ∷ but handler_g "code" (arr (arr (str "done" ∷ num 0 ∷ []) ∷ arr (str "send" ∷ str "x0" ∷ num 0 ∷ num 1 ∷ []) ∷ [])) ∷ [])) ∷ micro_l ∷ [])), None) ∷
    (but plain "micros" (arr (but micro_a "handlers" (arr (handler_h ∷ but handler_g "code" (arr (arr (str "done" ∷ num 0 ∷ []) ∷ arr (str "send" ∷ str "x0" ∷ num 1 ∷ num 1 ∷ []) ∷ [])) ∷ [])) ∷ micro_l ∷ [])), wrong "code") ∷
    (but plain "micros" (arr (but micro_a "handlers" (arr (handler_h ∷ but handler_g "code" (arr (arr (str "done" ∷ num 0 ∷ []) ∷ arr (str "change" ∷ num 0 ∷ num 1 ∷ []) ∷ [])) ∷ [])) ∷ micro_l ∷ [])), None) ∷
    (but plain "micros" (arr (but micro_a "handlers" (arr (handler_h ∷ but handler_g "code" (arr (arr (str "done" ∷ num 0 ∷ []) ∷ arr (str "change" ∷ num 1 ∷ num 1 ∷ []) ∷ [])) ∷ [])) ∷ micro_l ∷ [])), wrong "code") ∷
    (but plain "micros" (arr (but micro_a "handlers" (arr (handler_h ∷ but handler_g "code" (arr (arr (str "done" ∷ num 0 ∷ []) ∷ arr (str "call" ∷ num 18446744073709551615 ∷ num 0 ∷ []) ∷ [])) ∷ [])) ∷ micro_l ∷ [])), wrong "code") ∷
    [])
unfolding totals_fault draft_of micro_of code_of bound_of decl_of event_of table_of change_of do_of loss_of crash_of instr_in
positions_in_code = refl

-- nodes and ticks
nodes_and_ticks_in_range : Answers (λ d. totals_fault (draft_of d)) (
    (but plain "do" (arr (but item_e "node" (num 2) ∷ [])), over "node" 1) ∷
    (but plain "do" (arr (but item_e "tick" (num 4) ∷ [])), over "tick" 3) ∷
    (but plain "do" (arr (but (but item_e "tick" (num 3)) "node" (num 1) ∷ [])), None) ∷
    (but plain "lose" (arr (but loss_of_all "from" (num 2) ∷ [])), over "from" 1) ∷
    (but plain "lose" (arr (but loss_of_all "to" (num 2) ∷ [])), over "to" 1) ∷
    (but plain "lose" (arr (but loss_of_all "first" (num 10) ∷ [])), None) ∷
    (but plain "crash" (arr (but crash_of_1 "node" (num 2) ∷ [])), over "node" 1) ∷
    (but plain "crash" (arr (but crash_of_1 "tick" (num 99) ∷ [])), None) ∷
    [])
unfolding totals_fault draft_of micro_of code_of bound_of decl_of event_of table_of change_of do_of loss_of crash_of instr_in
nodes_and_ticks_in_range = refl

-- nodes times the microprotocols of a kind
microprotocols_in_all : Answers (λ d. totals_fault (draft_of d)) (
    (but (but plain "nodes" (num 8)) "micros" (arr (times 5 micro_a)), over "prog" 32) ∷
    (but (but plain "nodes" (num 8)) "micros" (arr (times 5 micro_l)), over "link" 32) ∷
    (but (but plain "nodes" (num 8)) "micros" (arr (times 5 (but (but micro_l "kind" (str "fd")) "ports" (arr (str "e" ∷ str "e" ∷ []))))), over "fd" 32) ∷
    (but (but plain "nodes" (num 8)) "micros" (arr (times 5 (but (but micro_l "kind" (str "rbcast")) "ports" (arr (str "e" ∷ str "e" ∷ []))))), over "rbcast" 32) ∷
    (but (but plain "nodes" (num 8)) "micros" (arr (times 5 (but (but micro_l "kind" (str "cons")) "ports" (arr (str "e" ∷ str "e" ∷ str "e" ∷ []))))), over "cons" 32) ∷
    (but (but plain "nodes" (num 8)) "micros" (arr (times 5 (but (but micro_l "kind" (str "abcast")) "ports" (arr (str "e" ∷ str "e" ∷ str "e" ∷ []))))), over "abcast" 32) ∷
    (but (but plain "nodes" (num 8)) "micros" (arr (times 5 (but (but micro_l "kind" (str "seqcast")) "ports" (arr (str "e" ∷ str "e" ∷ []))))), over "seqcast" 32) ∷
    (but (but plain "nodes" (num 8)) "micros" (arr (times 5 (but (but micro_l "kind" (str "repl")) "ports" (arr (str "e" ∷ str "e" ∷ []))))), over "repl" 32) ∷
    (but (but plain "nodes" (num 8)) "micros" (arr (times 5 (but micro_l "kind" (str "views")))), over "views" 32) ∷
    (but (but plain "nodes" (num 8)) "micros" (arr (times 4 micro_a)), None) ∷
    (but (but plain "nodes" (num 8)) "micros" (arr (times 4 (but micro_l "kind" (str "views")))), None) ∷
    [])
unfolding totals_fault draft_of micro_of code_of bound_of decl_of event_of table_of change_of do_of loss_of crash_of instr_in
microprotocols_in_all = refl

-- faults of two groups of tests, of which the first group tells its own
first_group_that_has_a_fault : Answers (λ d. totals_fault (draft_of d)) (
    (but (but plain "nodes" (num 8)) "micros" (arr (but micro_a "handlers" (arr (but handler_h "code" (arr (arr (str "call" ∷ num 1 ∷ num 1 ∷ []) ∷ [])) ∷ [])) ∷ but micro_l "kind" (str "fd") ∷ [])), wrong "ports") ∷
    (but (but plain "micros" (arr (but micro_a "handlers" (arr (handler_h ∷ but handler_g "code" (arr (arr (str "done" ∷ num 0 ∷ []) ∷ arr (str "call" ∷ num 1 ∷ num 1 ∷ []) ∷ [])) ∷ [])) ∷ micro_l ∷ []))) "do" (arr (but item_e "node" (num 2) ∷ [])), wrong "code") ∷
    (but plain "do" (arr (but item_e "tick" (num 4) ∷ but item_e "node" (num 2) ∷ [])), over "node" 1) ∷
    (but (but (but plain "do" (arr (but item_e "tick" (num 4) ∷ []))) "lose" (arr (but (but loss_of_all "from" (num 2)) "to" (num 2) ∷ []))) "crash" (arr (but crash_of_1 "node" (num 3) ∷ [])), over "from" 1) ∷
    (but (but plain "do" (arr (but item_e "tick" (num 4) ∷ []))) "crash" (arr (but crash_of_1 "node" (num 2) ∷ [])), over "node" 1) ∷
    (but (but (but plain "nodes" (num 8)) "micros" (arr (times 5 (but (but micro_l "kind" (str "fd")) "ports" (arr (str "e" ∷ str "e" ∷ [])))))) "do" (arr (but item_e "tick" (num 4) ∷ [])), over "tick" 3) ∷
    (but (but plain "nodes" (num 8)) "micros" (arr (but micro_l "kind" (str "views") ∷ but micro_l "kind" (str "views") ∷ but micro_l "kind" (str "views") ∷ but micro_l "kind" (str "views") ∷ but micro_l "kind" (str "views") ∷ micro_a ∷ micro_a ∷ micro_a ∷ micro_a ∷ micro_a ∷ [])), over "prog" 32) ∷
    [])
unfolding totals_fault draft_of micro_of code_of bound_of decl_of event_of table_of change_of do_of loss_of crash_of instr_in
first_group_that_has_a_fault = refl
