-- The two ordered broadcasts: moments, and beside each what the reference program gives and shows.
use Rattle.std.specs.Prelude.{[], ◌∷◌, refl}
use Rattle.samoa_model.specs.declared.handler.Moment.TheVariants.{Begin}
use Rattle.samoa_model.specs.declared.handler.Outcome.TheVariants as gives
use Rattle.samoa_model.specs.declared.setup.Kind.TheVariants as kinds
use Rattle.samoa_serial.proofs.ReferenceWords.{event, node, goes_on, Gives}

-- ordered broadcast at the sequencer
a_sequencer_numbers_what_it_gets : Gives kinds.Seqcast (record { node = node 1; nodes = 3; ports = event 10 ∷ event 11 ∷ []; changes = []; nums = 6 ∷ 1 ∷ []; codes = [] }) (
    -- a message goes to the sequencer, which gives each a number once
    (Begin 0 (0 ∷ 2 ∷ 1 ∷ 0 ∷ 70 ∷ []), gives.Call (event 10) (1 ∷ 6 ∷ 0 ∷ 0 ∷ 2 ∷ 1 ∷ 0 ∷ 70 ∷ []) (0 ∷ []), 0 ∷ 1 ∷ []) ∷
    (goes_on 0 (0 ∷ []), gives.Done [], 0 ∷ 1 ∷ []) ∷
    (Begin 1 (2 ∷ 0 ∷ 0 ∷ 2 ∷ 1 ∷ 0 ∷ 70 ∷ []), gives.Call (event 10) (3 ∷ 6 ∷ 1 ∷ 1 ∷ 0 ∷ 2 ∷ 1 ∷ 0 ∷ 70 ∷ []) (0 ∷ []), 1 ∷ 1 ∷ []) ∷
    (goes_on 1 (0 ∷ []), gives.Done [], 1 ∷ 1 ∷ []) ∷
    (Begin 1 (2 ∷ 0 ∷ 0 ∷ 2 ∷ 1 ∷ 0 ∷ 70 ∷ []), gives.Done [], 1 ∷ 1 ∷ []) ∷
    (Begin 1 (0 ∷ 0 ∷ 1 ∷ 2 ∷ 1 ∷ 2 ∷ 74 ∷ []), gives.Call (event 10) (3 ∷ 6 ∷ 1 ∷ 2 ∷ 1 ∷ 2 ∷ 1 ∷ 2 ∷ 74 ∷ []) (0 ∷ []), 2 ∷ 1 ∷ []) ∷
    (Begin 1 (0 ∷ 0 ∷ 0 ∷ 0 ∷ 1 ∷ 0 ∷ 72 ∷ []), gives.Call (event 10) (3 ∷ 6 ∷ 1 ∷ 3 ∷ 0 ∷ 0 ∷ 1 ∷ 0 ∷ 72 ∷ []) (0 ∷ []), 3 ∷ 1 ∷ []) ∷
    -- messages go up in the order of their numbers
    (Begin 1 (1 ∷ 1 ∷ 2 ∷ 0 ∷ 0 ∷ 1 ∷ 0 ∷ 72 ∷ []), gives.Done [], 3 ∷ 1 ∷ []) ∷
    (Begin 1 (1 ∷ 1 ∷ 4 ∷ 0 ∷ 0 ∷ 2 ∷ 1 ∷ 73 ∷ []), gives.Done [], 3 ∷ 1 ∷ []) ∷
    (Begin 1 (1 ∷ 1 ∷ 1 ∷ 0 ∷ 2 ∷ 1 ∷ 0 ∷ 70 ∷ []), gives.Call (event 11) (0 ∷ 2 ∷ 1 ∷ 0 ∷ 70 ∷ []) (1 ∷ 1 ∷ []), 3 ∷ 1 ∷ []) ∷
    (goes_on 1 (1 ∷ 1 ∷ []), gives.Call (event 11) (0 ∷ 0 ∷ 1 ∷ 0 ∷ 72 ∷ []) (1 ∷ 2 ∷ []), 3 ∷ 2 ∷ []) ∷
    (goes_on 1 (1 ∷ 2 ∷ []), gives.Done [], 3 ∷ 3 ∷ []) ∷
    -- of a number the first message stays; what was handed up twice is passed once
    (Begin 1 (1 ∷ 1 ∷ 4 ∷ 0 ∷ 2 ∷ 2 ∷ 0 ∷ 71 ∷ []), gives.Done [], 3 ∷ 3 ∷ []) ∷
    (Begin 1 (1 ∷ 1 ∷ 1 ∷ 0 ∷ 2 ∷ 2 ∷ 0 ∷ 71 ∷ []), gives.Done [], 3 ∷ 3 ∷ []) ∷
    (Begin 1 (1 ∷ 1 ∷ 3 ∷ 1 ∷ 2 ∷ 1 ∷ 2 ∷ 74 ∷ []), gives.Call (event 11) (1 ∷ 2 ∷ 1 ∷ 2 ∷ 74 ∷ []) (1 ∷ 3 ∷ []), 3 ∷ 3 ∷ []) ∷
    (Begin 1 (1 ∷ 1 ∷ 3 ∷ 1 ∷ 2 ∷ 1 ∷ 2 ∷ 74 ∷ []), gives.Call (event 11) (1 ∷ 2 ∷ 1 ∷ 2 ∷ 74 ∷ []) (1 ∷ 3 ∷ []), 3 ∷ 3 ∷ []) ∷
    (goes_on 1 (1 ∷ 3 ∷ []), gives.Call (event 11) (0 ∷ 0 ∷ 2 ∷ 1 ∷ 73 ∷ []) (1 ∷ 4 ∷ []), 3 ∷ 4 ∷ []) ∷
    (goes_on 1 (1 ∷ 3 ∷ []), gives.Call (event 11) (0 ∷ 0 ∷ 2 ∷ 1 ∷ 73 ∷ []) (1 ∷ 4 ∷ []), 3 ∷ 4 ∷ []) ∷
    (goes_on 1 (1 ∷ 4 ∷ []), gives.Done [], 3 ∷ 5 ∷ []) ∷
    (Begin 1 (1 ∷ 1 ∷ 0 ∷ 1 ∷ 2 ∷ 1 ∷ 2 ∷ 74 ∷ []), gives.Done [], 3 ∷ 5 ∷ []) ∷
    -- other tags and frames
    (Begin 1 (1 ∷ 2 ∷ 0 ∷ 2 ∷ 1 ∷ 0 ∷ 70 ∷ []), gives.Done [], 3 ∷ 5 ∷ []) ∷
    (Begin 1 (1 ∷ 1 ∷ []), gives.Done [], 3 ∷ 5 ∷ []) ∷
    (goes_on 1 (0 ∷ []), gives.Done [], 3 ∷ 5 ∷ []) ∷
    (goes_on 1 (2 ∷ 5 ∷ []), gives.Done [], 3 ∷ 5 ∷ []) ∷
    (goes_on 0 (1 ∷ 5 ∷ []), gives.Done [], 3 ∷ 5 ∷ []) ∷
    [])
a_sequencer_numbers_what_it_gets = refl

-- ordered broadcast at another node
another_node_numbers_nothing : Gives kinds.Seqcast (record { node = node 0; nodes = 3; ports = event 10 ∷ event 11 ∷ []; changes = []; nums = 6 ∷ 1 ∷ []; codes = [] }) (
    (Begin 0 (0 ∷ 2 ∷ 1 ∷ 0 ∷ 70 ∷ []), gives.Call (event 10) (1 ∷ 6 ∷ 0 ∷ 0 ∷ 2 ∷ 1 ∷ 0 ∷ 70 ∷ []) (0 ∷ []), 0 ∷ 1 ∷ []) ∷
    (Begin 1 (2 ∷ 0 ∷ 0 ∷ 2 ∷ 1 ∷ 0 ∷ 70 ∷ []), gives.Done [], 0 ∷ 1 ∷ []) ∷
    (Begin 1 (1 ∷ 1 ∷ 1 ∷ 0 ∷ 2 ∷ 1 ∷ 0 ∷ 70 ∷ []), gives.Call (event 11) (0 ∷ 2 ∷ 1 ∷ 0 ∷ 70 ∷ []) (1 ∷ 1 ∷ []), 0 ∷ 1 ∷ []) ∷
    (goes_on 1 (1 ∷ 1 ∷ []), gives.Done [], 0 ∷ 2 ∷ []) ∷
    [])
another_node_numbers_nothing = refl

-- atomic broadcast: one instance of consensus after another
messages_go_up_in_the_order_of_decisions : Gives kinds.Abcast (record { node = node 1; nodes = 3; ports = event 10 ∷ event 11 ∷ event 12 ∷ []; changes = []; nums = []; codes = [] }) (
    -- a message is cast; what is heard waits, and the first is proposed once in an instance
    (Begin 0 (0 ∷ 2 ∷ 1 ∷ 0 ∷ 70 ∷ []), gives.Call (event 10) (0 ∷ 0 ∷ 2 ∷ 1 ∷ 0 ∷ 70 ∷ []) (0 ∷ []), 1 ∷ 0 ∷ []) ∷
    (goes_on 0 (0 ∷ []), gives.Done [], 1 ∷ 0 ∷ []) ∷
    (Begin 1 (2 ∷ 1 ∷ 0 ∷ 0 ∷ 2 ∷ 1 ∷ 0 ∷ 70 ∷ []), gives.Call (event 11) (1 ∷ 0 ∷ 2 ∷ 1 ∷ 0 ∷ 70 ∷ []) (0 ∷ []), 1 ∷ 1 ∷ []) ∷
    (goes_on 1 (0 ∷ []), gives.Done [], 1 ∷ 1 ∷ []) ∷
    (Begin 1 (2 ∷ 1 ∷ 0 ∷ 0 ∷ 2 ∷ 1 ∷ 0 ∷ 70 ∷ []), gives.Done [], 1 ∷ 1 ∷ []) ∷
    (Begin 1 (2 ∷ 2 ∷ 0 ∷ 0 ∷ 2 ∷ 2 ∷ 0 ∷ 71 ∷ []), gives.Done [], 1 ∷ 2 ∷ []) ∷
    (Begin 1 (0 ∷ 1 ∷ 1 ∷ 0 ∷ 0 ∷ 1 ∷ 0 ∷ 72 ∷ []), gives.Done [], 1 ∷ 2 ∷ []) ∷
    (Begin 1 (0 ∷ 1 ∷ 0 ∷ 0 ∷ 0 ∷ 1 ∷ 0 ∷ 72 ∷ []), gives.Done [], 1 ∷ 3 ∷ []) ∷
    -- a decision of a later instance is kept; of an instance the first one stays
    (Begin 2 (2 ∷ 0 ∷ 2 ∷ 1 ∷ 0 ∷ 70 ∷ []), gives.Done [], 1 ∷ 3 ∷ []) ∷
    (Begin 2 (1 ∷ 0 ∷ 2 ∷ 2 ∷ 0 ∷ 71 ∷ []), gives.Call (event 12) (0 ∷ 2 ∷ 2 ∷ 0 ∷ 71 ∷ []) (1 ∷ 1 ∷ []), 1 ∷ 3 ∷ []) ∷
    (goes_on 2 (0 ∷ 1 ∷ []), gives.Done [], 1 ∷ 3 ∷ []) ∷
    (goes_on 1 (1 ∷ 1 ∷ []), gives.Done [], 1 ∷ 3 ∷ []) ∷
    (goes_on 0 (1 ∷ 1 ∷ []), gives.Done [], 1 ∷ 3 ∷ []) ∷
    (Begin 2 (1 ∷ 0 ∷ 0 ∷ 1 ∷ 0 ∷ 72 ∷ []), gives.Call (event 12) (0 ∷ 2 ∷ 2 ∷ 0 ∷ 71 ∷ []) (1 ∷ 1 ∷ []), 1 ∷ 3 ∷ []) ∷
    (goes_on 2 (1 ∷ 1 ∷ []), gives.Call (event 12) (0 ∷ 2 ∷ 1 ∷ 0 ∷ 70 ∷ []) (1 ∷ 2 ∷ []), 2 ∷ 2 ∷ []) ∷
    (goes_on 2 (1 ∷ 2 ∷ []), gives.Call (event 11) (3 ∷ 0 ∷ 0 ∷ 1 ∷ 0 ∷ 72 ∷ []) (0 ∷ []), 3 ∷ 1 ∷ []) ∷
    -- what was handed up isn't heard or handed up again
    (Begin 1 (2 ∷ 2 ∷ 0 ∷ 0 ∷ 2 ∷ 2 ∷ 0 ∷ 71 ∷ []), gives.Done [], 3 ∷ 1 ∷ []) ∷
    (Begin 2 (4 ∷ 1 ∷ 2 ∷ 1 ∷ 2 ∷ 74 ∷ []), gives.Done [], 3 ∷ 1 ∷ []) ∷
    (Begin 2 (3 ∷ 0 ∷ 2 ∷ 1 ∷ 0 ∷ 70 ∷ []), gives.Call (event 12) (1 ∷ 2 ∷ 1 ∷ 2 ∷ 74 ∷ []) (1 ∷ 4 ∷ []), 4 ∷ 1 ∷ []) ∷
    (goes_on 2 (1 ∷ 4 ∷ []), gives.Call (event 11) (5 ∷ 0 ∷ 0 ∷ 1 ∷ 0 ∷ 72 ∷ []) (0 ∷ []), 5 ∷ 1 ∷ []) ∷
    -- the next that waits is proposed in the next instance, and what never waited can be decided
    (Begin 1 (0 ∷ 2 ∷ 0 ∷ 0 ∷ 0 ∷ 2 ∷ 1 ∷ 73 ∷ []), gives.Done [], 5 ∷ 2 ∷ []) ∷
    (Begin 2 (5 ∷ 0 ∷ 0 ∷ 2 ∷ 1 ∷ 73 ∷ []), gives.Call (event 12) (0 ∷ 0 ∷ 2 ∷ 1 ∷ 73 ∷ []) (1 ∷ 5 ∷ []), 5 ∷ 2 ∷ []) ∷
    (goes_on 2 (1 ∷ 5 ∷ []), gives.Call (event 11) (6 ∷ 0 ∷ 0 ∷ 1 ∷ 0 ∷ 72 ∷ []) (0 ∷ []), 6 ∷ 1 ∷ []) ∷
    (Begin 2 (6 ∷ 0 ∷ 0 ∷ 1 ∷ 0 ∷ 72 ∷ []), gives.Call (event 12) (0 ∷ 0 ∷ 1 ∷ 0 ∷ 72 ∷ []) (1 ∷ 6 ∷ []), 6 ∷ 1 ∷ []) ∷
    (goes_on 2 (1 ∷ 6 ∷ []), gives.Done [], 7 ∷ 0 ∷ []) ∷
    -- frames of an instance that was passed and of one with no decision
    (goes_on 2 (1 ∷ 3 ∷ []), gives.Done [], 7 ∷ 0 ∷ []) ∷
    (goes_on 2 (1 ∷ 7 ∷ []), gives.Done [], 7 ∷ 0 ∷ []) ∷
    [])
messages_go_up_in_the_order_of_decisions = refl

-- atomic broadcast: decisions that came early and were handed up
decisions_that_are_handed_up_are_skipped : Gives kinds.Abcast (record { node = node 1; nodes = 3; ports = event 10 ∷ event 11 ∷ event 12 ∷ []; changes = []; nums = []; codes = [] }) (
    (Begin 2 (2 ∷ 0 ∷ 2 ∷ 1 ∷ 0 ∷ 70 ∷ []), gives.Done [], 1 ∷ 0 ∷ []) ∷
    (Begin 2 (3 ∷ 0 ∷ 2 ∷ 1 ∷ 0 ∷ 70 ∷ []), gives.Done [], 1 ∷ 0 ∷ []) ∷
    (Begin 2 (4 ∷ 0 ∷ 2 ∷ 2 ∷ 0 ∷ 71 ∷ []), gives.Done [], 1 ∷ 0 ∷ []) ∷
    (Begin 2 (1 ∷ 0 ∷ 2 ∷ 1 ∷ 0 ∷ 70 ∷ []), gives.Call (event 12) (0 ∷ 2 ∷ 1 ∷ 0 ∷ 70 ∷ []) (1 ∷ 1 ∷ []), 1 ∷ 0 ∷ []) ∷
    (goes_on 2 (1 ∷ 1 ∷ []), gives.Call (event 12) (0 ∷ 2 ∷ 2 ∷ 0 ∷ 71 ∷ []) (1 ∷ 4 ∷ []), 4 ∷ 0 ∷ []) ∷
    (goes_on 2 (1 ∷ 4 ∷ []), gives.Done [], 5 ∷ 0 ∷ []) ∷
    (Begin 1 (1 ∷ 1 ∷ 0 ∷ 0 ∷ 0 ∷ 1 ∷ 0 ∷ 72 ∷ []), gives.Call (event 11) (5 ∷ 0 ∷ 0 ∷ 1 ∷ 0 ∷ 72 ∷ []) (0 ∷ []), 5 ∷ 1 ∷ []) ∷
    [])
decisions_that_are_handed_up_are_skipped = refl
