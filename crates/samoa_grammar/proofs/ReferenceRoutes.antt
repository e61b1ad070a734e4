-- How many handlers a route may have, as the reference program tells it.
use Rattle.std.specs.Prelude.{◌≡◌, [], ◌∷◌, None, refl}
use Rattle.serde_json.specs.Data.{Data}
use Rattle.samoa_grammar.specs.Instrs.{instr_in}
use Rattle.samoa_grammar.specs.Forms.{draft_of, micro_of, code_of, bound_of, decl_of, event_of, table_of, change_of, do_of, loss_of, crash_of}
use Rattle.samoa_grammar.proofs.ReferenceParts.{handler_h, plain}
use Rattle.samoa_grammar.proofs.RouteFaults.{route_fault, route_fault_is}
use Rattle.samoa_grammar.proofs.ReferenceTrees.{str, arr, obj, but, over}

abbrev wide_w : Data
wide_w = obj (("name", str "w") ∷ ("kind", str "prog") ∷ ("handlers", arr (but handler_h "name" (str "a") ∷ but handler_h "name" (str "b") ∷ but handler_h "name" (str "c") ∷ but handler_h "name" (str "d") ∷ but handler_h "name" (str "e") ∷ but handler_h "name" (str "f") ∷ but handler_h "name" (str "g") ∷ handler_h ∷ but handler_h "name" (str "i") ∷ but handler_h "name" (str "j") ∷ but handler_h "name" (str "k") ∷ but handler_h "name" (str "l") ∷ but handler_h "name" (str "m") ∷ but handler_h "name" (str "n") ∷ but handler_h "name" (str "o") ∷ but handler_h "name" (str "p") ∷ [])) ∷ [])

abbrev three_wide : Data
three_wide = but plain "micros" (arr (wide_w ∷ but wide_w "name" (str "x") ∷ but wide_w "name" (str "y") ∷ []))

abbrev route_of_32 : Data
route_of_32 = obj (("name", str "r") ∷ ("form", str "route") ∷ ("roots", arr []) ∷ ("edges", arr (arr (str "w.a" ∷ str "x.a" ∷ []) ∷ arr (str "w.b" ∷ str "x.b" ∷ []) ∷ arr (str "w.c" ∷ str "x.c" ∷ []) ∷ arr (str "w.d" ∷ str "x.d" ∷ []) ∷ arr (str "w.e" ∷ str "x.e" ∷ []) ∷ arr (str "w.f" ∷ str "x.f" ∷ []) ∷ arr (str "w.g" ∷ str "x.g" ∷ []) ∷ arr (str "w.h" ∷ str "x.h" ∷ []) ∷ arr (str "w.i" ∷ str "x.i" ∷ []) ∷ arr (str "w.j" ∷ str "x.j" ∷ []) ∷ arr (str "w.k" ∷ str "x.k" ∷ []) ∷ arr (str "w.l" ∷ str "x.l" ∷ []) ∷ arr (str "w.m" ∷ str "x.m" ∷ []) ∷ arr (str "w.n" ∷ str "x.n" ∷ []) ∷ arr (str "w.o" ∷ str "x.o" ∷ []) ∷ arr (str "w.p" ∷ str "x.p" ∷ []) ∷ [])) ∷ [])

a_route_of_32_handlers : route_fault three_wide route_of_32 ≡ None
unfolding draft_of micro_of code_of bound_of decl_of event_of table_of change_of do_of loss_of crash_of instr_in
a_route_of_32_handlers = route_fault_is three_wide route_of_32 refl refl

a_route_of_33_handlers : route_fault three_wide (but route_of_32 "roots" (arr (str "y.a" ∷ []))) ≡ over "edges" 32
unfolding draft_of micro_of code_of bound_of decl_of event_of table_of change_of do_of loss_of crash_of instr_in
a_route_of_33_handlers = route_fault_is three_wide (but route_of_32 "roots" (arr (str "y.a" ∷ []))) refl refl
