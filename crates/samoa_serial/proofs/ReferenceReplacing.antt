-- The replacement layer: moments, and beside each what the reference program gives and shows.
use Rattle.std.specs.Prelude.{[], ◌∷◌, refl}
use Rattle.samoa_model.specs.declared.handler.Moment.TheVariants.{Begin}
use Rattle.samoa_model.specs.declared.handler.Outcome.TheVariants as gives
use Rattle.samoa_model.specs.declared.setup.Kind.TheVariants as kinds
use Rattle.samoa_serial.proofs.ReferenceWords.{event, change, node, goes_on, Gives}

-- replacement: casts, and deliveries of one epoch
the_layer_delivers_its_epoch : Gives kinds.Repl (record { node = node 1; nodes = 3; ports = event 10 ∷ event 11 ∷ []; changes = change 20 ∷ change 21 ∷ []; nums = []; codes = [] }) (
    -- a message, a view, a change that there is, and casts that aren't taken
    (Begin 0 (0 ∷ 7 ∷ []), gives.Call (event 10) (0 ∷ 1 ∷ 1 ∷ 0 ∷ 7 ∷ []) (1 ∷ []), 0 ∷ 1 ∷ 0 ∷ 0 ∷ []) ∷
    (goes_on 0 (1 ∷ []), gives.Done (1 ∷ []), 0 ∷ 1 ∷ 0 ∷ 0 ∷ []) ∷
    (Begin 0 (2 ∷ 5 ∷ []), gives.Call (event 10) (0 ∷ 1 ∷ 2 ∷ 2 ∷ 5 ∷ []) (2 ∷ []), 0 ∷ 2 ∷ 0 ∷ 0 ∷ []) ∷
    (Begin 0 (1 ∷ 1 ∷ []), gives.Call (event 10) (0 ∷ 1 ∷ 3 ∷ 1 ∷ 1 ∷ []) (3 ∷ []), 0 ∷ 3 ∷ 0 ∷ 0 ∷ []) ∷
    (Begin 0 (1 ∷ 2 ∷ []), gives.Done [], 0 ∷ 3 ∷ 0 ∷ 0 ∷ []) ∷
    (Begin 0 (3 ∷ 0 ∷ []), gives.Done [], 0 ∷ 3 ∷ 0 ∷ 0 ∷ []) ∷
    (Begin 0 [], gives.Call (event 10) (0 ∷ 1 ∷ 4 ∷ 0 ∷ 0 ∷ []) (4 ∷ []), 0 ∷ 4 ∷ 0 ∷ 0 ∷ []) ∷
    -- a message is delivered, once for each origin and number
    (Begin 1 (0 ∷ 0 ∷ 1 ∷ 0 ∷ 72 ∷ []), gives.Deliver (0 ∷ 1 ∷ 0 ∷ 72 ∷ []) (0 ∷ []), 0 ∷ 4 ∷ 0 ∷ 0 ∷ []) ∷
    (goes_on 1 (0 ∷ []), gives.Done [], 0 ∷ 4 ∷ 1 ∷ 0 ∷ []) ∷
    (Begin 1 (0 ∷ 0 ∷ 1 ∷ 0 ∷ 72 ∷ []), gives.Done [], 0 ∷ 4 ∷ 1 ∷ 0 ∷ []) ∷
    (Begin 1 (0 ∷ 2 ∷ 1 ∷ 0 ∷ 9 ∷ []), gives.Deliver (2 ∷ 1 ∷ 0 ∷ 9 ∷ []) (0 ∷ []), 0 ∷ 4 ∷ 1 ∷ 0 ∷ []) ∷
    (goes_on 1 (0 ∷ []), gives.Done [], 0 ∷ 4 ∷ 2 ∷ 0 ∷ []) ∷
    -- a view is delivered and then installed
    (Begin 1 (0 ∷ 1 ∷ 2 ∷ 2 ∷ 5 ∷ []), gives.Deliver (1 ∷ 2 ∷ 2 ∷ 5 ∷ []) (2 ∷ []), 0 ∷ 4 ∷ 2 ∷ 0 ∷ []) ∷
    (goes_on 1 (2 ∷ []), gives.Call (event 11) (5 ∷ []) (3 ∷ []), 0 ∷ 4 ∷ 3 ∷ 0 ∷ []) ∷
    (goes_on 1 (3 ∷ []), gives.Done [], 0 ∷ 4 ∷ 3 ∷ 0 ∷ []) ∷
    -- an old epoch and a later one, and a change that there isn't
    (Begin 1 (1 ∷ 2 ∷ 4 ∷ 0 ∷ 8 ∷ []), gives.Done [], 0 ∷ 4 ∷ 3 ∷ 0 ∷ []) ∷
    (Begin 1 (0 ∷ 2 ∷ 3 ∷ 1 ∷ 2 ∷ []), gives.Deliver (2 ∷ 3 ∷ 1 ∷ 2 ∷ []) (0 ∷ []), 0 ∷ 4 ∷ 3 ∷ 0 ∷ []) ∷
    (goes_on 1 (0 ∷ []), gives.Done [], 0 ∷ 4 ∷ 4 ∷ 0 ∷ []) ∷
    -- several came before the first was marked
    (Begin 1 (0 ∷ 0 ∷ 5 ∷ 0 ∷ 1 ∷ []), gives.Deliver (0 ∷ 5 ∷ 0 ∷ 1 ∷ []) (0 ∷ []), 0 ∷ 4 ∷ 4 ∷ 0 ∷ []) ∷
    (Begin 1 (0 ∷ 0 ∷ 6 ∷ 0 ∷ 2 ∷ []), gives.Deliver (0 ∷ 5 ∷ 0 ∷ 1 ∷ []) (0 ∷ []), 0 ∷ 4 ∷ 4 ∷ 0 ∷ []) ∷
    (goes_on 1 (0 ∷ []), gives.Deliver (0 ∷ 6 ∷ 0 ∷ 2 ∷ []) (0 ∷ []), 0 ∷ 4 ∷ 5 ∷ 0 ∷ []) ∷
    (goes_on 1 (0 ∷ []), gives.Done [], 0 ∷ 4 ∷ 6 ∷ 0 ∷ []) ∷
    (goes_on 1 (0 ∷ []), gives.Done [], 0 ∷ 4 ∷ 6 ∷ 0 ∷ []) ∷
    (goes_on 1 (2 ∷ []), gives.Done [], 0 ∷ 4 ∷ 6 ∷ 0 ∷ []) ∷
    (goes_on 1 (3 ∷ []), gives.Done [], 0 ∷ 4 ∷ 6 ∷ 0 ∷ []) ∷
    -- nothing is held, and what isn't delivered is cast again
    (Begin 2 (0 ∷ []), gives.Call (event 10) (0 ∷ 1 ∷ 1 ∷ 0 ∷ 7 ∷ []) (1 ∷ []), 0 ∷ 4 ∷ 6 ∷ 0 ∷ []) ∷
    (goes_on 2 (1 ∷ []), gives.Call (event 10) (0 ∷ 1 ∷ 3 ∷ 1 ∷ 1 ∷ []) (3 ∷ []), 0 ∷ 4 ∷ 6 ∷ 0 ∷ []) ∷
    (goes_on 2 (3 ∷ []), gives.Call (event 10) (0 ∷ 1 ∷ 4 ∷ 0 ∷ 0 ∷ []) (4 ∷ []), 0 ∷ 4 ∷ 6 ∷ 0 ∷ []) ∷
    (Begin 2 (1 ∷ []), gives.Done [], 0 ∷ 4 ∷ 6 ∷ 0 ∷ []) ∷
    [])
the_layer_delivers_its_epoch = refl

-- replacement: two changes of the epoch
the_layer_changes_its_epoch : Gives kinds.Repl (record { node = node 1; nodes = 3; ports = event 10 ∷ event 11 ∷ []; changes = change 20 ∷ change 21 ∷ []; nums = []; codes = [] }) (
    -- a later epoch's messages come first; the change is asked for and then made
    (Begin 0 (0 ∷ 7 ∷ []), gives.Call (event 10) (0 ∷ 1 ∷ 1 ∷ 0 ∷ 7 ∷ []) (1 ∷ []), 0 ∷ 1 ∷ 0 ∷ 0 ∷ []) ∷
    (Begin 0 (1 ∷ 1 ∷ []), gives.Call (event 10) (0 ∷ 1 ∷ 2 ∷ 1 ∷ 1 ∷ []) (2 ∷ []), 0 ∷ 2 ∷ 0 ∷ 0 ∷ []) ∷
    (Begin 1 (1 ∷ 2 ∷ 1 ∷ 0 ∷ 8 ∷ []), gives.Done [], 0 ∷ 2 ∷ 0 ∷ 0 ∷ []) ∷
    (Begin 1 (2 ∷ 2 ∷ 2 ∷ 0 ∷ 9 ∷ []), gives.Done [], 0 ∷ 2 ∷ 0 ∷ 0 ∷ []) ∷
    (Begin 1 (0 ∷ 1 ∷ 2 ∷ 1 ∷ 1 ∷ []), gives.Change (change 21) (1 ∷ []) (1 ∷ []), 0 ∷ 2 ∷ 0 ∷ 0 ∷ []) ∷
    (goes_on 1 (1 ∷ []), gives.Deliver (2 ∷ 1 ∷ 0 ∷ 8 ∷ []) (0 ∷ []), 1 ∷ 2 ∷ 1 ∷ 1 ∷ []) ∷
    -- what was cast in the epoch before isn't delivered any more
    (Begin 1 (0 ∷ 1 ∷ 1 ∷ 0 ∷ 7 ∷ []), gives.Deliver (2 ∷ 1 ∷ 0 ∷ 8 ∷ []) (0 ∷ []), 1 ∷ 2 ∷ 1 ∷ 1 ∷ []) ∷
    -- casts are held until the switch of this epoch, and then all own ones go again
    (goes_on 1 (0 ∷ []), gives.Done [], 1 ∷ 2 ∷ 2 ∷ 1 ∷ []) ∷
    (Begin 0 (0 ∷ 4 ∷ []), gives.Done (3 ∷ []), 1 ∷ 3 ∷ 2 ∷ 1 ∷ []) ∷
    (Begin 2 (0 ∷ []), gives.Done [], 1 ∷ 3 ∷ 2 ∷ 1 ∷ []) ∷
    (Begin 2 (2 ∷ []), gives.Done [], 1 ∷ 3 ∷ 2 ∷ 1 ∷ []) ∷
    (Begin 2 (1 ∷ []), gives.Call (event 10) (1 ∷ 1 ∷ 1 ∷ 0 ∷ 7 ∷ []) (1 ∷ []), 1 ∷ 3 ∷ 2 ∷ 0 ∷ []) ∷
    (goes_on 2 (1 ∷ []), gives.Call (event 10) (1 ∷ 1 ∷ 3 ∷ 0 ∷ 4 ∷ []) (3 ∷ []), 1 ∷ 3 ∷ 2 ∷ 0 ∷ []) ∷
    (goes_on 2 (3 ∷ []), gives.Done [], 1 ∷ 3 ∷ 2 ∷ 0 ∷ []) ∷
    (goes_on 2 [], gives.Call (event 10) (1 ∷ 1 ∷ 1 ∷ 0 ∷ 7 ∷ []) (1 ∷ []), 1 ∷ 3 ∷ 2 ∷ 0 ∷ []) ∷
    (Begin 0 (0 ∷ 6 ∷ []), gives.Call (event 10) (1 ∷ 1 ∷ 4 ∷ 0 ∷ 6 ∷ []) (4 ∷ []), 1 ∷ 4 ∷ 2 ∷ 0 ∷ []) ∷
    -- of a change that goes on elsewhere, the second change
    (Begin 1 (1 ∷ 0 ∷ 3 ∷ 1 ∷ 0 ∷ []), gives.Change (change 20) (2 ∷ []) (1 ∷ []), 1 ∷ 4 ∷ 2 ∷ 0 ∷ []) ∷
    (goes_on 1 (1 ∷ []), gives.Deliver (2 ∷ 2 ∷ 0 ∷ 9 ∷ []) (0 ∷ []), 2 ∷ 4 ∷ 3 ∷ 1 ∷ []) ∷
    (Begin 1 (1 ∷ 0 ∷ 4 ∷ 0 ∷ 1 ∷ []), gives.Deliver (2 ∷ 2 ∷ 0 ∷ 9 ∷ []) (0 ∷ []), 2 ∷ 4 ∷ 3 ∷ 1 ∷ []) ∷
    (goes_on 1 (0 ∷ []), gives.Done [], 2 ∷ 4 ∷ 4 ∷ 1 ∷ []) ∷
    (Begin 0 (2 ∷ 1 ∷ []), gives.Done (5 ∷ []), 2 ∷ 5 ∷ 4 ∷ 1 ∷ []) ∷
    (Begin 2 (2 ∷ []), gives.Call (event 10) (2 ∷ 1 ∷ 1 ∷ 0 ∷ 7 ∷ []) (1 ∷ []), 2 ∷ 5 ∷ 4 ∷ 0 ∷ []) ∷
    (Begin 1 (2 ∷ 1 ∷ 1 ∷ 0 ∷ 7 ∷ []), gives.Deliver (1 ∷ 1 ∷ 0 ∷ 7 ∷ []) (0 ∷ []), 2 ∷ 5 ∷ 4 ∷ 0 ∷ []) ∷
    (goes_on 1 (0 ∷ []), gives.Done [], 2 ∷ 5 ∷ 5 ∷ 0 ∷ []) ∷
    (goes_on 2 (1 ∷ []), gives.Call (event 10) (2 ∷ 1 ∷ 3 ∷ 0 ∷ 4 ∷ []) (3 ∷ []), 2 ∷ 5 ∷ 5 ∷ 0 ∷ []) ∷
    (goes_on 2 (4 ∷ []), gives.Call (event 10) (2 ∷ 1 ∷ 5 ∷ 2 ∷ 1 ∷ []) (5 ∷ []), 2 ∷ 5 ∷ 5 ∷ 0 ∷ []) ∷
    (goes_on 2 (5 ∷ []), gives.Done [], 2 ∷ 5 ∷ 5 ∷ 0 ∷ []) ∷
    (goes_on 1 (3 ∷ []), gives.Done [], 2 ∷ 5 ∷ 5 ∷ 0 ∷ []) ∷
    [])
the_layer_changes_its_epoch = refl
