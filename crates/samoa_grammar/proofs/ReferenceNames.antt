-- Names of a script: trees that are well formed, and beside each the fault that the reference program finds in its names.
use Rattle.std.specs.Prelude.{[], ◌∷◌, None, refl}
use Rattle.samoa_grammar.specs.Instrs.{instr_in}
use Rattle.samoa_grammar.specs.Forms.{draft_of, micro_of, code_of, bound_of, decl_of, event_of, table_of, change_of, do_of, loss_of, crash_of}
use Rattle.samoa_grammar.specs.Passes.{twice_fault, unknown_fault}
use Rattle.samoa_grammar.proofs.ReferenceParts.{handler_h, handler_g, micro_a, micro_l, set_s, bound_of_a, bound_b, route_r, event_e, row_e, change_c, item_e, plain}
use Rattle.samoa_grammar.proofs.ReferenceTrees.{str, num, arr, obj, but, without, unknown, twice, Answers}

-- names that stand twice
repeated_names : Answers (λ d. twice_fault (draft_of d)) (
    (plain, None) ∷
    (but plain "micros" (arr (micro_a ∷ micro_l ∷ micro_a ∷ [])), twice "a") ∷
    (but plain "micros" (arr (but micro_a "handlers" (arr (handler_h ∷ handler_g ∷ handler_h ∷ [])) ∷ micro_l ∷ [])), twice "h") ∷
    (but plain "decls" (arr (set_s ∷ set_s ∷ [])), twice "s") ∷
    (but plain "events" (arr (event_e ∷ event_e ∷ [])), twice "e") ∷
    (but plain "changes" (arr (change_c ∷ change_c ∷ [])), twice "c") ∷
    (but plain "decls" (arr (set_s ∷ but (but set_s "name" (str "t")) "micros" (arr (str "a" ∷ str "l" ∷ str "a" ∷ [])) ∷ [])), twice "a") ∷
    (but plain "decls" (arr (set_s ∷ but bound_b "bounds" (arr (bound_of_a ∷ but bound_of_a "calls" (num 1) ∷ [])) ∷ [])), twice "a") ∷
    (but plain "events" (arr (but event_e "handlers" (arr (str "a.h" ∷ str "a.g" ∷ str "a.h" ∷ [])) ∷ [])), twice "a.h") ∷
    (but plain "changes" (arr (but change_c "table" (arr (row_e ∷ row_e ∷ [])) ∷ [])), twice "e") ∷
    (but plain "changes" (arr (but change_c "table" (arr (but row_e "handlers" (arr (str "a.g" ∷ str "a.g" ∷ [])) ∷ [])) ∷ [])), twice "a.g") ∷
    -- of two names that stand twice, that whose second place comes first
    (but plain "micros" (arr (micro_a ∷ micro_l ∷ micro_l ∷ micro_a ∷ [])), twice "l") ∷
    -- allowed: handlers of two microprotocols, ports, changes, and the parts of a route, which are taken once
    (but plain "micros" (arr (micro_a ∷ micro_l ∷ but micro_a "name" (str "b") ∷ [])), None) ∷
    (but plain "micros" (arr (but (but micro_a "ports" (arr (str "e" ∷ str "e" ∷ []))) "changes" (arr (str "c" ∷ str "c" ∷ [])) ∷ micro_l ∷ [])), None) ∷
    (but plain "decls" (arr (set_s ∷ but (but route_r "roots" (arr (str "a.h" ∷ str "a.h" ∷ []))) "edges" (arr (arr (str "a.h" ∷ str "a.g" ∷ []) ∷ arr (str "a.h" ∷ str "a.g" ∷ []) ∷ [])) ∷ [])), None) ∷
    -- groups of names, in their order
    (but (but plain "micros" (arr (micro_a ∷ micro_a ∷ []))) "decls" (arr (set_s ∷ set_s ∷ [])), twice "a") ∷
    (but (but plain "micros" (arr (but micro_a "handlers" (arr (handler_h ∷ handler_h ∷ [])) ∷ []))) "decls" (arr (set_s ∷ set_s ∷ [])), twice "h") ∷
    (but (but plain "decls" (arr (set_s ∷ set_s ∷ []))) "events" (arr (event_e ∷ event_e ∷ [])), twice "s") ∷
    (but (but plain "events" (arr (event_e ∷ event_e ∷ []))) "changes" (arr (change_c ∷ change_c ∷ [])), twice "e") ∷
    (but (but plain "decls" (arr (set_s ∷ but (but set_s "name" (str "t")) "micros" (arr (str "l" ∷ str "l" ∷ [])) ∷ []))) "events" (arr (but event_e "handlers" (arr (str "a.h" ∷ str "a.h" ∷ [])) ∷ [])), twice "l") ∷
    (but (but plain "events" (arr (but event_e "handlers" (arr (str "a.h" ∷ str "a.h" ∷ [])) ∷ []))) "changes" (arr (but change_c "table" (arr (row_e ∷ row_e ∷ [])) ∷ [])), twice "a.h") ∷
    (but plain "changes" (arr (but change_c "table" (arr (but row_e "handlers" (arr (str "a.g" ∷ str "a.g" ∷ [])) ∷ [])) ∷ but (but change_c "name" (str "d")) "table" (arr (row_e ∷ row_e ∷ [])) ∷ [])), twice "e") ∷
    [])
unfolding twice_fault draft_of micro_of code_of bound_of decl_of event_of table_of change_of do_of loss_of crash_of instr_in
repeated_names = refl

-- names that aren't defined
unknown_names : Answers (λ d. unknown_fault (draft_of d)) (
    (but plain "micros" (arr (but micro_a "ports" (arr (str "e" ∷ str "f" ∷ [])) ∷ micro_l ∷ [])), unknown "f") ∷
    (but plain "micros" (arr (but micro_a "changes" (arr (str "c" ∷ str "d" ∷ [])) ∷ micro_l ∷ [])), unknown "d") ∷
    (but plain "decls" (arr (set_s ∷ but (but set_s "name" (str "t")) "micros" (arr (str "a" ∷ str "m" ∷ [])) ∷ [])), unknown "m") ∷
    (but plain "decls" (arr (set_s ∷ but bound_b "bounds" (arr (obj (("micro", str "m") ∷ ("calls", num 1) ∷ []) ∷ [])) ∷ [])), unknown "m") ∷
    (but plain "decls" (arr (set_s ∷ but (but route_r "roots" (arr (str "m.h" ∷ []))) "edges" (arr []) ∷ [])), unknown "m.h") ∷
    (but plain "decls" (arr (set_s ∷ but (but route_r "roots" (arr (str "a.k" ∷ []))) "edges" (arr []) ∷ [])), unknown "a.k") ∷
    (but plain "decls" (arr (set_s ∷ but (but route_r "roots" (arr (str "l.h" ∷ []))) "edges" (arr []) ∷ [])), unknown "l.h") ∷
    (but plain "decls" (arr (set_s ∷ but (but route_r "roots" (arr (str "l.recv" ∷ []))) "edges" (arr []) ∷ [])), None) ∷
    (but plain "decls" (arr (set_s ∷ but route_r "edges" (arr (arr (str "a.k" ∷ str "a.g" ∷ []) ∷ [])) ∷ [])), unknown "a.k") ∷
    (but plain "decls" (arr (set_s ∷ but route_r "edges" (arr (arr (str "a.h" ∷ str "m.g" ∷ []) ∷ [])) ∷ [])), unknown "m.g") ∷
    (but plain "events" (arr (but event_e "decl" (str "t") ∷ [])), unknown "t") ∷
    (but plain "events" (arr (but event_e "handlers" (arr (str "a.h" ∷ str "a.k" ∷ [])) ∷ [])), unknown "a.k") ∷
    (but plain "changes" (arr (but change_c "event" (str "f") ∷ [])), unknown "f") ∷
    (but plain "changes" (arr (but change_c "table" (arr (but row_e "event" (str "f") ∷ [])) ∷ [])), unknown "f") ∷
    (but plain "changes" (arr (but change_c "table" (arr (but row_e "handlers" (arr (str "a.k" ∷ [])) ∷ [])) ∷ [])), unknown "a.k") ∷
    (but plain "do" (arr (but item_e "event" (str "f") ∷ [])), unknown "f") ∷
    (but plain "do" (arr (but (without item_e "event") "change" (str "d") ∷ [])), unknown "d") ∷
    (but plain "do" (arr (but (without item_e "event") "change" (str "c") ∷ [])), None) ∷
    -- groups of names, in their order
    (but (but plain "micros" (arr (but (but micro_a "ports" (arr (str "f" ∷ []))) "changes" (arr (str "d" ∷ [])) ∷ micro_l ∷ []))) "decls" (arr (but set_s "micros" (arr (str "m" ∷ [])) ∷ [])), unknown "f") ∷
    (but (but plain "decls" (arr (but set_s "micros" (arr (str "m" ∷ [])) ∷ []))) "events" (arr (but event_e "decl" (str "t") ∷ [])), unknown "m") ∷
    (but (but plain "events" (arr (but (but event_e "decl" (str "t")) "handlers" (arr (str "a.k" ∷ [])) ∷ []))) "changes" (arr (but change_c "event" (str "f") ∷ [])), unknown "t") ∷
    (but (but plain "changes" (arr (but change_c "event" (str "f") ∷ []))) "do" (arr (but item_e "event" (str "g") ∷ [])), unknown "f") ∷
    [])
unfolding unknown_fault draft_of micro_of code_of bound_of decl_of event_of table_of change_of do_of loss_of crash_of instr_in
unknown_names = refl
