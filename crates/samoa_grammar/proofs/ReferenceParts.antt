-- The parts of a small script, by which the trees of other files in this folder are written.
use Rattle.std.specs.Prelude.{[], ◌∷◌}
use Rattle.serde_json.specs.Data.{Data}
use Rattle.samoa_grammar.proofs.ReferenceTrees.{str, num, arr, obj, but}

abbrev pub handler_h : Data
handler_h = obj (("name", str "h") ∷ ("code", arr []) ∷ [])

abbrev pub handler_g : Data
handler_g = but handler_h "name" (str "g")

abbrev pub micro_a : Data
micro_a = obj (("name", str "a") ∷ ("kind", str "prog") ∷ ("ports", arr (str "e" ∷ [])) ∷ ("changes", arr (str "c" ∷ [])) ∷ ("handlers", arr (handler_h ∷ handler_g ∷ [])) ∷ [])

abbrev pub micro_l : Data
micro_l = obj (("name", str "l") ∷ ("kind", str "link") ∷ ("ports", arr (str "e" ∷ [])) ∷ [])

abbrev pub set_s : Data
set_s = obj (("name", str "s") ∷ ("form", str "set") ∷ ("micros", arr (str "a" ∷ [])) ∷ [])

abbrev pub bound_of_a : Data
bound_of_a = obj (("micro", str "a") ∷ ("calls", num 3) ∷ [])

abbrev pub bound_b : Data
bound_b = obj (("name", str "b") ∷ ("form", str "bound") ∷ ("bounds", arr (bound_of_a ∷ [])) ∷ [])

abbrev pub route_r : Data
route_r = obj (("name", str "r") ∷ ("form", str "route") ∷ ("roots", arr (str "a.h" ∷ [])) ∷ ("edges", arr (arr (str "a.h" ∷ str "a.g" ∷ []) ∷ [])) ∷ [])

abbrev pub event_e : Data
event_e = obj (("name", str "e") ∷ ("decl", str "s") ∷ ("handlers", arr (str "a.h" ∷ [])) ∷ [])

abbrev pub row_e : Data
row_e = obj (("event", str "e") ∷ ("handlers", arr (str "a.g" ∷ [])) ∷ [])

abbrev pub change_c : Data
change_c = obj (("name", str "c") ∷ ("event", str "e") ∷ ("table", arr (row_e ∷ [])) ∷ [])

abbrev pub item_e : Data
item_e = obj (("tick", num 1) ∷ ("node", num 0) ∷ ("event", str "e") ∷ [])

abbrev pub loss_of_all : Data
loss_of_all = obj (("from", num 0) ∷ ("to", num 1) ∷ ("first", num 0) ∷ ("last", num 9) ∷ [])

abbrev pub crash_of_1 : Data
crash_of_1 = obj (("node", num 1) ∷ ("tick", num 2) ∷ [])

abbrev pub plain : Data
plain = obj (("version", num 1) ∷ ("nodes", num 2) ∷ ("ticks", num 3) ∷ ("micros", arr (micro_a ∷ micro_l ∷ [])) ∷ ("decls", arr (set_s ∷ [])) ∷ ("events", arr (event_e ∷ [])) ∷ ("changes", arr (change_c ∷ [])) ∷ [])
