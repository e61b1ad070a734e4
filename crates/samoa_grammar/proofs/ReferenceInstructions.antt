-- Instructions: trees, and beside each the instruction that the reference program reads in it, or none.
use Rattle.std.specs.Prelude.{◌≡◌, negsuc, List, [], ◌∷◌, map, Option, Some, None, refl}
use Rattle.serde_json.specs.Data.{Data, number, negative}
use Rattle.samoa_model.specs.declared.setup.Place.TheVariants.{Reg, Local}
use Rattle.samoa_model.specs.declared.setup.Instr.{Instr}
use Rattle.samoa_model.specs.declared.setup.Instr.TheVariants as instr
use Rattle.samoa_grammar.specs.Instrs.{instr_in}
use Rattle.samoa_grammar.proofs.ReferenceTrees.{str, num, arr, obj}

-- each tree is read as what stands beside it
abbrev Reads : List (Data × Option Instr) → Type 0
Reads rows = map (λ row. instr_in row.0) rows ≡ map (λ row. row.1) rows

instructions_and_what_is_none : Reads (
    (arr (str "set" ∷ str "r0" ∷ num 7 ∷ []), Some (instr.Set (Reg 0) 7)) ∷
    (arr (str "set" ∷ str "x3" ∷ num 18446744073709551615 ∷ []), Some (instr.Set (Local 3) 18446744073709551615)) ∷
    (arr (str "set" ∷ str "r4" ∷ num 1 ∷ []), None) ∷
    (arr (str "set" ∷ str "y0" ∷ num 1 ∷ []), None) ∷
    (arr (str "set" ∷ str "r" ∷ num 1 ∷ []), None) ∷
    (arr (str "set" ∷ str "r00" ∷ num 1 ∷ []), None) ∷
    (arr (str "set" ∷ num 0 ∷ num 1 ∷ []), None) ∷
    (arr (str "set" ∷ str "r0" ∷ str "1" ∷ []), None) ∷
    (arr (str "set" ∷ str "r0" ∷ []), None) ∷
    (arr (str "set" ∷ str "r0" ∷ num 1 ∷ num 1 ∷ []), None) ∷
    (arr (str "copy" ∷ str "x1" ∷ str "r2" ∷ []), Some (instr.Copy (Local 1) (Reg 2))) ∷
    (arr (str "copy" ∷ str "x1" ∷ num 1 ∷ []), None) ∷
    (arr (str "copy" ∷ str "r9" ∷ str "r2" ∷ []), None) ∷
    (arr (str "add" ∷ str "r3" ∷ str "x0" ∷ []), Some (instr.Add (Reg 3) (Local 0))) ∷
    (arr (str "add" ∷ str "r3" ∷ num 1 ∷ []), None) ∷
    (arr (str "sub" ∷ str "x2" ∷ str "r1" ∷ []), Some (instr.Sub (Local 2) (Reg 1))) ∷
    (arr (str "sub" ∷ num 1 ∷ str "r1" ∷ []), None) ∷
    (arr (str "less" ∷ str "x0" ∷ str "x1" ∷ num 1 ∷ []), Some (instr.Less (Local 0) (Local 1) 1)) ∷
    (arr (str "less" ∷ str "r0" ∷ str "r1" ∷ num 31 ∷ []), Some (instr.Less (Reg 0) (Reg 1) 31)) ∷
    (arr (str "less" ∷ str "r0" ∷ str "r1" ∷ num 0 ∷ []), None) ∷
    (arr (str "less" ∷ str "r0" ∷ str "r1" ∷ num 32 ∷ []), None) ∷
    (arr (str "less" ∷ str "r0" ∷ str "r1" ∷ []), None) ∷
    (arr (str "less" ∷ str "r0" ∷ num 1 ∷ num 1 ∷ []), None) ∷
    (arr (str "less" ∷ num 1 ∷ str "r0" ∷ num 1 ∷ []), None) ∷
    (arr (str "less" ∷ str "r0" ∷ str "r1" ∷ str "1" ∷ []), None) ∷
    (arr (str "call" ∷ num 15 ∷ num 4 ∷ []), Some (instr.Call 15 4)) ∷
    (arr (str "call" ∷ num 0 ∷ num 5 ∷ []), None) ∷
    (arr (str "call" ∷ str "x0" ∷ num 1 ∷ []), None) ∷
    (arr (str "call" ∷ num 0 ∷ []), None) ∷
    (arr (str "later" ∷ num 1 ∷ num 0 ∷ []), Some (instr.Later 1 0)) ∷
    (arr (str "later" ∷ num 1 ∷ num 5 ∷ []), None) ∷
    (arr (str "later" ∷ str "x0" ∷ num 0 ∷ []), None) ∷
    (arr (str "send" ∷ str "x3" ∷ num 2 ∷ num 4 ∷ []), Some (instr.Send (Local 3) 2 4)) ∷
    (arr (str "send" ∷ str "x3" ∷ num 2 ∷ num 5 ∷ []), None) ∷
    (arr (str "send" ∷ num 3 ∷ num 2 ∷ num 4 ∷ []), None) ∷
    (arr (str "send" ∷ str "x3" ∷ str "2" ∷ num 4 ∷ []), None) ∷
    (arr (str "send" ∷ str "x3" ∷ num 2 ∷ []), None) ∷
    (arr (str "deliver" ∷ num 4 ∷ []), Some (instr.Deliver 4)) ∷
    (arr (str "deliver" ∷ num 5 ∷ []), None) ∷
    (arr (str "deliver" ∷ str "x0" ∷ []), None) ∷
    (arr (str "deliver" ∷ []), None) ∷
    (arr (str "change" ∷ num 0 ∷ num 3 ∷ []), Some (instr.Change 0 3)) ∷
    (arr (str "change" ∷ num 0 ∷ num 5 ∷ []), None) ∷
    (arr (str "change" ∷ str "x0" ∷ num 3 ∷ []), None) ∷
    (arr (str "done" ∷ num 0 ∷ []), Some (instr.Done 0)) ∷
    (arr (str "done" ∷ num 5 ∷ []), None) ∷
    (arr (str "done" ∷ num 1 ∷ num 1 ∷ []), None) ∷
    (arr (str "done" ∷ []), None) ∷
    (arr (str "stop" ∷ num 1 ∷ []), None) ∷
    (arr (str "Done" ∷ num 1 ∷ []), None) ∷
    (arr (num 1 ∷ num 1 ∷ []), None) ∷
    (arr (arr [] ∷ []), None) ∷
    (arr [], None) ∷
    (obj [], None) ∷
    (str "done", None) ∷
    (num 5, None) ∷
    (arr (str "done" ∷ number (negative (negsuc 0)) ∷ []), None) ∷
    (arr (str "call" ∷ num 0 ∷ num 0 ∷ num 0 ∷ num 0 ∷ []), None) ∷
    [])
unfolding instr_in
instructions_and_what_is_none = refl
