-- Scripted handlers: moments, and beside each what the reference program gives and shows.
use Rattle.std.specs.Prelude.{[], ◌∷◌, refl}
use Rattle.samoa_model.specs.declared.handler.Moment.TheVariants.{Begin, Resume}
use Rattle.samoa_model.specs.declared.handler.Dest.TheVariants.{One, All}
use Rattle.samoa_model.specs.declared.handler.Refusal.TheVariants.{Unbound, Undeclared, OverBound, OffRoute}
use Rattle.samoa_model.specs.declared.handler.Reply.TheVariants.{Words, Refused}
use Rattle.samoa_model.specs.declared.handler.Outcome.TheVariants as gives
use Rattle.samoa_model.specs.declared.setup.Instr.TheVariants as instr
use Rattle.samoa_model.specs.declared.setup.Kind.TheVariants as kinds
use Rattle.samoa_model.specs.declared.setup.Place.TheVariants.{Reg, Local}
use Rattle.samoa_serial.proofs.ReferenceWords.{event, change, node, goes_on, Gives}

-- scripted handlers: registers, which stay, and locals, which go with the frame
each_instruction_of_a_handler : Gives kinds.Prog (record { node = node 1; nodes = 3; ports = event 10 ∷ event 11 ∷ event 12 ∷ []; changes = change 20 ∷ change 21 ∷ []; nums = 5 ∷ 18446744073709551615 ∷ 3 ∷ []; codes = (instr.Set (Reg 2) 9 ∷ instr.Add (Reg 0) (Local 0) ∷ instr.Sub (Local 1) (Reg 0) ∷ instr.Copy (Local 2) (Reg 1) ∷ instr.Add (Local 2) (Local 2) ∷ instr.Sub (Reg 3) (Local 3) ∷ instr.Copy (Reg 1) (Local 1) ∷ instr.Set (Local 3) 18446744073709551615 ∷ instr.Done 4 ∷ []) ∷ (instr.Less (Local 0) (Local 1) 2 ∷ instr.Set (Local 2) 5 ∷ instr.Done 3 ∷ instr.Less (Reg 0) (Local 1) 1 ∷ instr.Done 2 ∷ instr.Done 1 ∷ []) ∷ (instr.Call 1 2 ∷ instr.Later 0 1 ∷ instr.Send (Local 0) 2 3 ∷ instr.Deliver 2 ∷ instr.Change 1 4 ∷ instr.Call 0 0 ∷ instr.Copy (Reg 3) (Local 1) ∷ instr.Done 2 ∷ []) ∷ (instr.Less (Local 0) (Local 1) 31 ∷ instr.Change 0 0 ∷ instr.Later 2 4 ∷ []) ∷ [] ∷ [] }) (
    -- sums and differences wrap round
    (Begin 0 (3 ∷ 2 ∷ []), gives.Done (3 ∷ 18446744073709551610 ∷ 18446744073709551614 ∷ 18446744073709551615 ∷ []), 8 ∷ 18446744073709551610 ∷ 9 ∷ 0 ∷ []) ∷
    (Begin 0 [], gives.Done (0 ∷ 18446744073709551608 ∷ 18446744073709551604 ∷ 18446744073709551615 ∷ []), 8 ∷ 18446744073709551608 ∷ 9 ∷ 0 ∷ []) ∷
    (Begin 0 (18446744073709551615 ∷ 0 ∷ 1 ∷ 1 ∷ []), gives.Done (18446744073709551615 ∷ 18446744073709551609 ∷ 18446744073709551600 ∷ 18446744073709551615 ∷ []), 7 ∷ 18446744073709551609 ∷ 9 ∷ 18446744073709551615 ∷ []) ∷
    (Begin 0 (1 ∷ 2 ∷ 3 ∷ 4 ∷ 5 ∷ []), gives.Done (1 ∷ 18446744073709551610 ∷ 18446744073709551602 ∷ 18446744073709551615 ∷ []), 8 ∷ 18446744073709551610 ∷ 9 ∷ 18446744073709551611 ∷ []) ∷
    -- an instruction is skipped, or none
    (Begin 1 (1 ∷ 2 ∷ []), gives.Done (1 ∷ 2 ∷ []), 8 ∷ 18446744073709551610 ∷ 9 ∷ 18446744073709551611 ∷ []) ∷
    (Begin 1 (2 ∷ 2 ∷ []), gives.Done (2 ∷ 2 ∷ 5 ∷ []), 8 ∷ 18446744073709551610 ∷ 9 ∷ 18446744073709551611 ∷ []) ∷
    (Begin 1 (3 ∷ 2 ∷ 1 ∷ []), gives.Done (3 ∷ 2 ∷ 5 ∷ []), 8 ∷ 18446744073709551610 ∷ 9 ∷ 18446744073709551611 ∷ []) ∷
    (Begin 1 (7 ∷ 8 ∷ []), gives.Done (7 ∷ 8 ∷ []), 8 ∷ 18446744073709551610 ∷ 9 ∷ 18446744073709551611 ∷ []) ∷
    (Begin 3 (0 ∷ 1 ∷ []), gives.Done [], 8 ∷ 18446744073709551610 ∷ 9 ∷ 18446744073709551611 ∷ []) ∷
    (Begin 3 (1 ∷ 1 ∷ []), gives.Change (change 20) [] (2 ∷ 1 ∷ 1 ∷ 0 ∷ 0 ∷ []), 8 ∷ 18446744073709551610 ∷ 9 ∷ 18446744073709551611 ∷ []) ∷
    (goes_on 3 (2 ∷ 1 ∷ 1 ∷ 0 ∷ 0 ∷ []), gives.Later (event 12) (1 ∷ 1 ∷ 0 ∷ 0 ∷ []) (3 ∷ 1 ∷ 1 ∷ 0 ∷ 0 ∷ []), 8 ∷ 18446744073709551610 ∷ 9 ∷ 18446744073709551611 ∷ []) ∷
    (goes_on 3 (3 ∷ 1 ∷ 1 ∷ 0 ∷ 0 ∷ []), gives.Done [], 8 ∷ 18446744073709551610 ∷ 9 ∷ 18446744073709551611 ∷ []) ∷
    (Begin 4 (1 ∷ 2 ∷ []), gives.Done [], 8 ∷ 18446744073709551610 ∷ 9 ∷ 18446744073709551611 ∷ []) ∷
    -- each outcome, and the frame that it goes on with
    (Begin 2 (2 ∷ 8 ∷ 7 ∷ 6 ∷ 5 ∷ []), gives.Call (event 11) (2 ∷ 8 ∷ []) (1 ∷ 2 ∷ 8 ∷ 7 ∷ 6 ∷ []), 8 ∷ 18446744073709551610 ∷ 9 ∷ 18446744073709551611 ∷ []) ∷
    (goes_on 2 (1 ∷ 2 ∷ 8 ∷ 7 ∷ 6 ∷ []), gives.Later (event 10) (0 ∷ []) (2 ∷ 0 ∷ 0 ∷ 7 ∷ 6 ∷ []), 8 ∷ 18446744073709551610 ∷ 9 ∷ 18446744073709551611 ∷ []) ∷
    (goes_on 2 (2 ∷ 0 ∷ 0 ∷ 7 ∷ 6 ∷ []), gives.Send (One (node 0)) (event 12) (0 ∷ 0 ∷ 7 ∷ []) (3 ∷ 0 ∷ 0 ∷ 7 ∷ 6 ∷ []), 8 ∷ 18446744073709551610 ∷ 9 ∷ 18446744073709551611 ∷ []) ∷
    (goes_on 2 (3 ∷ 0 ∷ 0 ∷ 7 ∷ 6 ∷ []), gives.Deliver (0 ∷ 0 ∷ []) (4 ∷ 0 ∷ 0 ∷ 7 ∷ 6 ∷ []), 8 ∷ 18446744073709551610 ∷ 9 ∷ 18446744073709551611 ∷ []) ∷
    (goes_on 2 (4 ∷ 0 ∷ 0 ∷ 7 ∷ 6 ∷ []), gives.Change (change 21) (0 ∷ 0 ∷ 7 ∷ 6 ∷ []) (5 ∷ 0 ∷ 0 ∷ 7 ∷ 6 ∷ []), 8 ∷ 18446744073709551610 ∷ 9 ∷ 18446744073709551611 ∷ []) ∷
    (goes_on 2 (5 ∷ 0 ∷ 0 ∷ 7 ∷ 6 ∷ []), gives.Call (event 10) [] (6 ∷ 0 ∷ 0 ∷ 7 ∷ 6 ∷ []), 8 ∷ 18446744073709551610 ∷ 9 ∷ 18446744073709551611 ∷ []) ∷
    (goes_on 2 (6 ∷ 0 ∷ 0 ∷ 7 ∷ 6 ∷ []), gives.Done (0 ∷ 0 ∷ []), 8 ∷ 18446744073709551610 ∷ 9 ∷ 0 ∷ []) ∷
    -- to a node, and to all where there is no such node
    (goes_on 2 (2 ∷ 2 ∷ 9 ∷ []), gives.Send (One (node 2)) (event 12) (2 ∷ 9 ∷ 0 ∷ []) (3 ∷ 2 ∷ 9 ∷ 0 ∷ 0 ∷ []), 8 ∷ 18446744073709551610 ∷ 9 ∷ 0 ∷ []) ∷
    (goes_on 2 (2 ∷ 3 ∷ 9 ∷ []), gives.Send All (event 12) (3 ∷ 9 ∷ 0 ∷ []) (3 ∷ 3 ∷ 9 ∷ 0 ∷ 0 ∷ []), 8 ∷ 18446744073709551610 ∷ 9 ∷ 0 ∷ []) ∷
    (goes_on 2 (2 ∷ 18446744073709551615 ∷ []), gives.Send All (event 12) (18446744073709551615 ∷ 0 ∷ 0 ∷ []) (3 ∷ 18446744073709551615 ∷ 0 ∷ 0 ∷ 0 ∷ []), 8 ∷ 18446744073709551610 ∷ 9 ∷ 0 ∷ []) ∷
    -- other frames
    (goes_on 2 [], gives.Call (event 11) (0 ∷ 0 ∷ []) (1 ∷ 0 ∷ 0 ∷ 0 ∷ 0 ∷ []), 8 ∷ 18446744073709551610 ∷ 9 ∷ 0 ∷ []) ∷
    (goes_on 2 (7 ∷ 1 ∷ 4 ∷ []), gives.Done (1 ∷ 4 ∷ []), 8 ∷ 18446744073709551610 ∷ 9 ∷ 0 ∷ []) ∷
    (goes_on 2 (6 ∷ []), gives.Done (0 ∷ 0 ∷ []), 8 ∷ 18446744073709551610 ∷ 9 ∷ 0 ∷ []) ∷
    [])
each_instruction_of_a_handler = refl

-- scripted handlers: the reply to a call stands in the first two locals
replies_to_a_call : Gives kinds.Prog (record { node = node 1; nodes = 3; ports = event 10 ∷ event 11 ∷ event 12 ∷ []; changes = change 20 ∷ change 21 ∷ []; nums = 1 ∷ 2 ∷ 3 ∷ 4 ∷ 5 ∷ []; codes = (instr.Set (Reg 2) 9 ∷ instr.Add (Reg 0) (Local 0) ∷ instr.Sub (Local 1) (Reg 0) ∷ instr.Copy (Local 2) (Reg 1) ∷ instr.Add (Local 2) (Local 2) ∷ instr.Sub (Reg 3) (Local 3) ∷ instr.Copy (Reg 1) (Local 1) ∷ instr.Set (Local 3) 18446744073709551615 ∷ instr.Done 4 ∷ []) ∷ (instr.Less (Local 0) (Local 1) 2 ∷ instr.Set (Local 2) 5 ∷ instr.Done 3 ∷ instr.Less (Reg 0) (Local 1) 1 ∷ instr.Done 2 ∷ instr.Done 1 ∷ []) ∷ (instr.Call 1 2 ∷ instr.Later 0 1 ∷ instr.Send (Local 0) 2 3 ∷ instr.Deliver 2 ∷ instr.Change 1 4 ∷ instr.Call 0 0 ∷ instr.Copy (Reg 3) (Local 1) ∷ instr.Done 2 ∷ []) ∷ (instr.Less (Local 0) (Local 1) 31 ∷ instr.Change 0 0 ∷ instr.Later 2 4 ∷ []) ∷ [] ∷ [] }) (
    (Resume 2 (6 ∷ 9 ∷ 8 ∷ 7 ∷ 6 ∷ []) (Words (21 ∷ 22 ∷ 23 ∷ [])), gives.Done (21 ∷ 0 ∷ []), 1 ∷ 2 ∷ 3 ∷ 0 ∷ []) ∷
    (Resume 2 (6 ∷ 9 ∷ 8 ∷ []) (Words (21 ∷ [])), gives.Done (21 ∷ 0 ∷ []), 1 ∷ 2 ∷ 3 ∷ 0 ∷ []) ∷
    (goes_on 2 (6 ∷ 9 ∷ 8 ∷ 7 ∷ 6 ∷ []), gives.Done (0 ∷ 0 ∷ []), 1 ∷ 2 ∷ 3 ∷ 0 ∷ []) ∷
    (Resume 2 (6 ∷ 9 ∷ 8 ∷ 7 ∷ 6 ∷ []) (Refused Undeclared), gives.Done (0 ∷ 1 ∷ []), 1 ∷ 2 ∷ 3 ∷ 1 ∷ []) ∷
    (Resume 2 (6 ∷ 9 ∷ 8 ∷ 7 ∷ 6 ∷ []) (Refused OverBound), gives.Done (0 ∷ 2 ∷ []), 1 ∷ 2 ∷ 3 ∷ 2 ∷ []) ∷
    (Resume 2 (6 ∷ 9 ∷ 8 ∷ 7 ∷ 6 ∷ []) (Refused OffRoute), gives.Done (0 ∷ 3 ∷ []), 1 ∷ 2 ∷ 3 ∷ 3 ∷ []) ∷
    (Resume 2 (6 ∷ 9 ∷ 8 ∷ 7 ∷ 6 ∷ []) (Refused Unbound), gives.Done (0 ∷ 4 ∷ []), 1 ∷ 2 ∷ 3 ∷ 4 ∷ []) ∷
    -- the reply to another instruction changes nothing
    (Resume 2 (2 ∷ 9 ∷ 8 ∷ 7 ∷ 6 ∷ []) (Words (21 ∷ 22 ∷ [])), gives.Send All (event 12) (9 ∷ 8 ∷ 7 ∷ []) (3 ∷ 9 ∷ 8 ∷ 7 ∷ 6 ∷ []), 1 ∷ 2 ∷ 3 ∷ 4 ∷ []) ∷
    (Resume 2 (4 ∷ 9 ∷ 8 ∷ 7 ∷ 6 ∷ []) (Refused OffRoute), gives.Change (change 21) (9 ∷ 8 ∷ 7 ∷ 6 ∷ []) (5 ∷ 9 ∷ 8 ∷ 7 ∷ 6 ∷ []), 1 ∷ 2 ∷ 3 ∷ 4 ∷ []) ∷
    [])
replies_to_a_call = refl
