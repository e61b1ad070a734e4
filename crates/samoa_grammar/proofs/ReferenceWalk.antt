-- Whole scripts: trees, and beside each the fault that the reference program finds in the first pass or in all four.
use Rattle.std.specs.Prelude.{[], ◌∷◌, None, refl}
use Rattle.samoa_grammar.specs.Held.{walk_fault}
use Rattle.samoa_grammar.specs.Instrs.{instr_in}
use Rattle.samoa_grammar.specs.Forms.{form_of_all, draft_of, micro_fault, code_fault, bound_fault, decl_fault, event_fault, table_fault, change_fault, do_fault, loss_fault, crash_fault, micro_of, code_of, bound_of, decl_of, event_of, table_of, change_of, do_of, loss_of, crash_of}
use Rattle.samoa_grammar.specs.Passes.{twice_fault, unknown_fault, totals_fault}
use Rattle.samoa_grammar.proofs.ReferenceParts.{micro_l, set_s, event_e, change_c, item_e, loss_of_all, crash_of_1, plain}
use Rattle.samoa_grammar.proofs.ReferenceTrees.{str, num, arr, obj, but, without, times, missing, wrong, unknown, twice, over, Answers}

-- the keys of a script
keys_of_a_script : Answers form_of_all (
    (plain, None) ∷
    (without plain "changes", None) ∷
    (arr (plain ∷ []), wrong "script") ∷
    (but plain "more" (num 1), wrong "script") ∷
    (without plain "version", missing "version") ∷
    (without plain "nodes", missing "nodes") ∷
    (without plain "ticks", missing "ticks") ∷
    (without plain "micros", missing "micros") ∷
    (without plain "decls", missing "decls") ∷
    (without plain "events", missing "events") ∷
    (but plain "version" (num 2), wrong "version") ∷
    (but plain "version" (str "1"), wrong "version") ∷
    (but plain "nodes" (num 0), wrong "nodes") ∷
    (but plain "nodes" (num 8), None) ∷
    (but plain "nodes" (num 9), over "nodes" 8) ∷
    (but plain "nodes" (arr []), wrong "nodes") ∷
    (but plain "ticks" (num 0), wrong "ticks") ∷
    (but plain "ticks" (num 10000), None) ∷
    (but plain "ticks" (num 10001), over "ticks" 10000) ∷
    (but plain "ticks" (str "1"), wrong "ticks") ∷
    -- of two keys the first one of the table tells its fault
    (but (but plain "version" (num 0)) "nodes" (num 0), wrong "version") ∷
    (but (but plain "nodes" (num 0)) "ticks" (num 0), wrong "nodes") ∷
    (but (but plain "ticks" (num 0)) "micros" (num 0), wrong "ticks") ∷
    (but (but plain "micros" (num 0)) "decls" (num 0), wrong "micros") ∷
    (but (but plain "decls" (num 0)) "events" (num 0), wrong "decls") ∷
    (but (but plain "events" (num 0)) "changes" (num 0), wrong "events") ∷
    (but (but plain "changes" (num 0)) "do" (num 0), wrong "changes") ∷
    (but (but plain "do" (num 0)) "lose" (num 0), wrong "do") ∷
    (but (but plain "lose" (num 0)) "crash" (num 0), wrong "lose") ∷
    [])
unfolding form_of_all micro_fault code_fault bound_fault decl_fault event_fault table_fault change_fault do_fault loss_fault crash_fault instr_in
keys_of_a_script = refl

-- its lists
lists_of_a_script : Answers form_of_all (
    (but plain "micros" (obj []), wrong "micros") ∷
    (but plain "micros" (arr []), wrong "micros") ∷
    (but plain "micros" (arr (micro_l ∷ num 1 ∷ [])), wrong "micros") ∷
    (but plain "micros" (arr (times 24 micro_l)), None) ∷
    (but plain "micros" (arr (times 25 micro_l)), over "micros" 24) ∷
    (but plain "decls" (obj []), wrong "decls") ∷
    (but plain "decls" (arr []), wrong "decls") ∷
    (but plain "decls" (arr (set_s ∷ num 1 ∷ [])), wrong "decls") ∷
    (but plain "decls" (arr (times 64 set_s)), None) ∷
    (but plain "decls" (arr (times 65 set_s)), over "decls" 64) ∷
    (but plain "events" (obj []), wrong "events") ∷
    (but plain "events" (arr []), wrong "events") ∷
    (but plain "events" (arr (event_e ∷ num 1 ∷ [])), wrong "events") ∷
    (but plain "events" (arr (times 64 event_e)), None) ∷
    (but plain "events" (arr (times 65 event_e)), over "events" 64) ∷
    (but plain "changes" (obj []), wrong "changes") ∷
    (but plain "changes" (arr []), None) ∷
    (but plain "changes" (arr (change_c ∷ num 1 ∷ [])), wrong "changes") ∷
    (but plain "changes" (arr (times 16 change_c)), None) ∷
    (but plain "changes" (arr (times 17 change_c)), over "changes" 16) ∷
    (but plain "do" (obj []), wrong "do") ∷
    (but plain "do" (arr []), None) ∷
    (but plain "do" (arr (item_e ∷ num 1 ∷ [])), wrong "do") ∷
    (but plain "do" (arr (times 8193 item_e)), over "do" 8192) ∷
    (but plain "lose" (obj []), wrong "lose") ∷
    (but plain "lose" (arr []), None) ∷
    (but plain "lose" (arr (loss_of_all ∷ num 1 ∷ [])), wrong "lose") ∷
    (but plain "lose" (arr (times 256 loss_of_all)), None) ∷
    (but plain "lose" (arr (times 257 loss_of_all)), over "lose" 256) ∷
    (but plain "crash" (obj []), wrong "crash") ∷
    (but plain "crash" (arr []), None) ∷
    (but plain "crash" (arr (crash_of_1 ∷ num 1 ∷ [])), wrong "crash") ∷
    (but plain "crash" (arr (times 8 crash_of_1)), None) ∷
    (but plain "crash" (arr (times 9 crash_of_1)), over "crash" 8) ∷
    [])
unfolding form_of_all micro_fault code_fault bound_fault decl_fault event_fault table_fault change_fault do_fault loss_fault crash_fault instr_in
lists_of_a_script = refl

-- a fault of each pass: each goes over the whole tree before the next
first_pass_that_has_a_fault : Answers walk_fault (
    (but (but (but (but plain "decls" (arr (but set_s "micros" (arr (str "m" ∷ [])) ∷ []))) "events" (arr (event_e ∷ event_e ∷ []))) "crash" (arr (but crash_of_1 "node" (num 2) ∷ []))) "lose" (arr (num 1 ∷ [])), wrong "lose") ∷
    (but (but (but plain "decls" (arr (but set_s "micros" (arr (str "m" ∷ [])) ∷ []))) "events" (arr (event_e ∷ event_e ∷ []))) "crash" (arr (but crash_of_1 "node" (num 2) ∷ [])), twice "e") ∷
    (but (but plain "decls" (arr (but set_s "micros" (arr (str "m" ∷ [])) ∷ []))) "crash" (arr (but crash_of_1 "node" (num 2) ∷ [])), unknown "m") ∷
    (but plain "crash" (arr (but crash_of_1 "node" (num 2) ∷ [])), over "node" 1) ∷
    (but (but (but plain "do" (arr (item_e ∷ []))) "lose" (arr (loss_of_all ∷ []))) "crash" (arr (crash_of_1 ∷ [])), None) ∷
    [])
unfolding walk_fault form_of_all draft_of twice_fault unknown_fault totals_fault micro_fault code_fault bound_fault decl_fault event_fault table_fault change_fault do_fault loss_fault crash_fault micro_of code_of bound_of decl_of event_of table_of change_of do_of loss_of crash_of instr_in
first_pass_that_has_a_fault = refl
