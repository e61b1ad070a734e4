-- Consensus: moments, and beside each what the reference program gives and shows.
use Rattle.std.specs.Prelude.{[], ◌∷◌, refl}
use Rattle.samoa_model.specs.declared.handler.Moment.TheVariants.{Begin}
use Rattle.samoa_model.specs.declared.handler.Outcome.TheVariants as gives
use Rattle.samoa_model.specs.declared.setup.Kind.TheVariants as kinds
use Rattle.samoa_serial.proofs.ReferenceWords.{event, node, goes_on, Gives}

-- consensus at the coordinator of the first round
a_coordinator_proposes_and_announces : Gives kinds.Cons (record { node = node 0; nodes = 3; ports = event 10 ∷ event 11 ∷ event 12 ∷ []; changes = []; nums = 6 ∷ []; codes = [] }) (
    -- an acknowledgement before there is a proposal, which isn't counted
    (Begin 1 (2 ∷ 3 ∷ 4 ∷ 1 ∷ 0 ∷ 0 ∷ 2 ∷ 1 ∷ 0 ∷ 70 ∷ []), gives.Done [], 0 ∷ 0 ∷ []) ∷
    -- its own proposal, once in an instance
    (Begin 0 (4 ∷ 0 ∷ 2 ∷ 1 ∷ 0 ∷ 70 ∷ []), gives.Call (event 10) (0 ∷ 6 ∷ 1 ∷ 4 ∷ 1 ∷ 0 ∷ 0 ∷ 2 ∷ 1 ∷ 0 ∷ 70 ∷ []) [], 0 ∷ 1 ∷ []) ∷
    (goes_on 0 [], gives.Done [], 0 ∷ 1 ∷ []) ∷
    (Begin 0 (4 ∷ 0 ∷ 2 ∷ 2 ∷ 0 ∷ 71 ∷ []), gives.Done [], 0 ∷ 1 ∷ []) ∷
    -- the second estimate is a majority; of each sender the first one counts
    (Begin 1 (0 ∷ 1 ∷ 4 ∷ 1 ∷ 0 ∷ 0 ∷ 2 ∷ 1 ∷ 0 ∷ 70 ∷ []), gives.Done [], 0 ∷ 1 ∷ []) ∷
    (Begin 1 (0 ∷ 1 ∷ 4 ∷ 1 ∷ 5 ∷ 0 ∷ 0 ∷ 1 ∷ 0 ∷ 72 ∷ []), gives.Done [], 0 ∷ 1 ∷ []) ∷
    (Begin 1 (2 ∷ 1 ∷ 4 ∷ 1 ∷ 0 ∷ 0 ∷ 2 ∷ 2 ∷ 0 ∷ 71 ∷ []), gives.Call (event 10) (3 ∷ 6 ∷ 2 ∷ 4 ∷ 1 ∷ 0 ∷ 0 ∷ 2 ∷ 1 ∷ 0 ∷ 70 ∷ []) [], 0 ∷ 1 ∷ []) ∷
    (goes_on 1 [], gives.Done [], 0 ∷ 1 ∷ []) ∷
    (Begin 1 (1 ∷ 1 ∷ 4 ∷ 1 ∷ 9 ∷ 0 ∷ 0 ∷ 1 ∷ 0 ∷ 72 ∷ []), gives.Done [], 0 ∷ 1 ∷ []) ∷
    -- the proposal is adopted and acknowledged
    (Begin 1 (0 ∷ 2 ∷ 4 ∷ 1 ∷ 0 ∷ 0 ∷ 2 ∷ 1 ∷ 0 ∷ 70 ∷ []), gives.Call (event 10) (0 ∷ 6 ∷ 3 ∷ 4 ∷ 1 ∷ 0 ∷ 0 ∷ 2 ∷ 1 ∷ 0 ∷ 70 ∷ []) [], 0 ∷ 1 ∷ []) ∷
    (goes_on 1 [], gives.Done [], 0 ∷ 1 ∷ []) ∷
    (Begin 0 (4 ∷ 0 ∷ 2 ∷ 2 ∷ 0 ∷ 71 ∷ []), gives.Done [], 0 ∷ 1 ∷ []) ∷
    -- the second acknowledgement is a majority; one of each sender counts, and it is announced once
    (Begin 1 (0 ∷ 3 ∷ 4 ∷ 1 ∷ 0 ∷ 0 ∷ 2 ∷ 1 ∷ 0 ∷ 70 ∷ []), gives.Done [], 0 ∷ 1 ∷ []) ∷
    (Begin 1 (0 ∷ 3 ∷ 4 ∷ 1 ∷ 0 ∷ 0 ∷ 2 ∷ 1 ∷ 0 ∷ 70 ∷ []), gives.Done [], 0 ∷ 1 ∷ []) ∷
    (Begin 1 (1 ∷ 3 ∷ 4 ∷ 1 ∷ 0 ∷ 0 ∷ 2 ∷ 1 ∷ 0 ∷ 70 ∷ []), gives.Call (event 11) (1 ∷ 4 ∷ 0 ∷ 2 ∷ 1 ∷ 0 ∷ 70 ∷ []) [], 0 ∷ 1 ∷ []) ∷
    (goes_on 1 [], gives.Done [], 0 ∷ 1 ∷ []) ∷
    (Begin 1 (2 ∷ 3 ∷ 4 ∷ 1 ∷ 0 ∷ 0 ∷ 2 ∷ 1 ∷ 0 ∷ 70 ∷ []), gives.Done [], 0 ∷ 1 ∷ []) ∷
    -- the first decision of an instance stays
    (Begin 2 (0 ∷ 1 ∷ 0 ∷ 4 ∷ 0 ∷ 2 ∷ 2 ∷ 0 ∷ 71 ∷ []), gives.Done [], 0 ∷ 1 ∷ []) ∷
    (Begin 2 (0 ∷ 1 ∷ 1 ∷ 4 ∷ 0 ∷ 2 ∷ 1 ∷ 0 ∷ 70 ∷ []), gives.Call (event 12) (4 ∷ 0 ∷ 2 ∷ 1 ∷ 0 ∷ 70 ∷ []) [], 1 ∷ 1 ∷ []) ∷
    (goes_on 2 [], gives.Done [], 1 ∷ 1 ∷ []) ∷
    (Begin 2 (0 ∷ 1 ∷ 1 ∷ 4 ∷ 0 ∷ 2 ∷ 2 ∷ 0 ∷ 71 ∷ []), gives.Done [], 1 ∷ 1 ∷ []) ∷
    (Begin 2 (0 ∷ 2 ∷ 1 ∷ 9 ∷ 0 ∷ 0 ∷ 1 ∷ 0 ∷ 72 ∷ []), gives.Call (event 12) (9 ∷ 0 ∷ 0 ∷ 1 ∷ 0 ∷ 72 ∷ []) [], 2 ∷ 1 ∷ []) ∷
    -- nothing moves where it is decided
    (Begin 3 (4 ∷ []), gives.Done [], 2 ∷ 1 ∷ []) ∷
    (Begin 4 (0 ∷ []), gives.Done [], 2 ∷ 1 ∷ []) ∷
    (Begin 3 (9 ∷ []), gives.Done [], 2 ∷ 1 ∷ []) ∷
    [])
a_coordinator_proposes_and_announces = refl

-- consensus of five nodes: the estimate of the greatest round, and of equal ones that of the least sender
the_latest_adopted_estimate_is_proposed : Gives kinds.Cons (record { node = node 1; nodes = 5; ports = event 10 ∷ event 11 ∷ event 12 ∷ []; changes = []; nums = 6 ∷ []; codes = [] }) (
    (Begin 1 (4 ∷ 1 ∷ 1 ∷ 2 ∷ 0 ∷ 0 ∷ 2 ∷ 1 ∷ 0 ∷ 70 ∷ []), gives.Done [], 0 ∷ 0 ∷ []) ∷
    (Begin 1 (3 ∷ 1 ∷ 1 ∷ 2 ∷ 1 ∷ 0 ∷ 2 ∷ 2 ∷ 0 ∷ 71 ∷ []), gives.Done [], 0 ∷ 0 ∷ []) ∷
    (Begin 1 (0 ∷ 1 ∷ 1 ∷ 2 ∷ 1 ∷ 0 ∷ 0 ∷ 1 ∷ 0 ∷ 72 ∷ []), gives.Call (event 10) (5 ∷ 6 ∷ 2 ∷ 1 ∷ 2 ∷ 0 ∷ 0 ∷ 0 ∷ 1 ∷ 0 ∷ 72 ∷ []) [], 0 ∷ 0 ∷ []) ∷
    (goes_on 1 [], gives.Done [], 0 ∷ 0 ∷ []) ∷
    -- the greatest round came first, in the middle and last
    (Begin 1 (4 ∷ 1 ∷ 2 ∷ 2 ∷ 1 ∷ 0 ∷ 2 ∷ 1 ∷ 0 ∷ 70 ∷ []), gives.Done [], 0 ∷ 0 ∷ []) ∷
    (Begin 1 (0 ∷ 1 ∷ 2 ∷ 2 ∷ 0 ∷ 0 ∷ 2 ∷ 2 ∷ 0 ∷ 71 ∷ []), gives.Done [], 0 ∷ 0 ∷ []) ∷
    (Begin 1 (1 ∷ 1 ∷ 2 ∷ 2 ∷ 0 ∷ 0 ∷ 0 ∷ 1 ∷ 0 ∷ 72 ∷ []), gives.Call (event 10) (5 ∷ 6 ∷ 2 ∷ 2 ∷ 2 ∷ 0 ∷ 0 ∷ 2 ∷ 1 ∷ 0 ∷ 70 ∷ []) [], 0 ∷ 0 ∷ []) ∷
    (Begin 1 (4 ∷ 1 ∷ 3 ∷ 2 ∷ 0 ∷ 0 ∷ 2 ∷ 1 ∷ 0 ∷ 70 ∷ []), gives.Done [], 0 ∷ 0 ∷ []) ∷
    (Begin 1 (0 ∷ 1 ∷ 3 ∷ 2 ∷ 2 ∷ 0 ∷ 2 ∷ 2 ∷ 0 ∷ 71 ∷ []), gives.Done [], 0 ∷ 0 ∷ []) ∷
    (Begin 1 (1 ∷ 1 ∷ 3 ∷ 2 ∷ 1 ∷ 0 ∷ 0 ∷ 1 ∷ 0 ∷ 72 ∷ []), gives.Call (event 10) (5 ∷ 6 ∷ 2 ∷ 3 ∷ 2 ∷ 0 ∷ 0 ∷ 2 ∷ 2 ∷ 0 ∷ 71 ∷ []) [], 0 ∷ 0 ∷ []) ∷
    (Begin 1 (0 ∷ 1 ∷ 3 ∷ 7 ∷ 0 ∷ 0 ∷ 2 ∷ 1 ∷ 0 ∷ 70 ∷ []), gives.Done [], 0 ∷ 0 ∷ []) ∷
    (Begin 1 (1 ∷ 1 ∷ 3 ∷ 7 ∷ 4 ∷ 0 ∷ 2 ∷ 2 ∷ 0 ∷ 71 ∷ []), gives.Done [], 0 ∷ 0 ∷ []) ∷
    (Begin 1 (2 ∷ 1 ∷ 3 ∷ 7 ∷ 6 ∷ 0 ∷ 0 ∷ 1 ∷ 0 ∷ 72 ∷ []), gives.Call (event 10) (5 ∷ 6 ∷ 2 ∷ 3 ∷ 7 ∷ 0 ∷ 0 ∷ 0 ∷ 1 ∷ 0 ∷ 72 ∷ []) [], 0 ∷ 0 ∷ []) ∷
    -- acknowledgements of one round count for that alone, and three are wanted
    (Begin 1 (0 ∷ 3 ∷ 3 ∷ 7 ∷ 0 ∷ 0 ∷ 2 ∷ 1 ∷ 0 ∷ 70 ∷ []), gives.Done [], 0 ∷ 0 ∷ []) ∷
    (Begin 1 (0 ∷ 3 ∷ 3 ∷ 2 ∷ 0 ∷ 0 ∷ 2 ∷ 1 ∷ 0 ∷ 70 ∷ []), gives.Done [], 0 ∷ 0 ∷ []) ∷
    (Begin 1 (1 ∷ 3 ∷ 3 ∷ 7 ∷ 0 ∷ 0 ∷ 2 ∷ 1 ∷ 0 ∷ 70 ∷ []), gives.Done [], 0 ∷ 0 ∷ []) ∷
    (Begin 1 (2 ∷ 3 ∷ 3 ∷ 7 ∷ 0 ∷ 0 ∷ 2 ∷ 1 ∷ 0 ∷ 70 ∷ []), gives.Call (event 11) (1 ∷ 3 ∷ 0 ∷ 0 ∷ 1 ∷ 0 ∷ 72 ∷ []) [], 0 ∷ 0 ∷ []) ∷
    [])
the_latest_adopted_estimate_is_proposed = refl

-- consensus: letters that are for another round or node
what_a_node_does_not_take : Gives kinds.Cons (record { node = node 1; nodes = 3; ports = event 10 ∷ event 11 ∷ event 12 ∷ []; changes = []; nums = 6 ∷ []; codes = [] }) (
    -- estimates and acknowledgements are for the coordinator, which is node 1 in the second round and the fifth
    (Begin 1 (0 ∷ 1 ∷ 1 ∷ 1 ∷ 0 ∷ 0 ∷ 2 ∷ 1 ∷ 0 ∷ 70 ∷ []), gives.Done [], 0 ∷ 0 ∷ []) ∷
    (Begin 1 (2 ∷ 1 ∷ 1 ∷ 1 ∷ 0 ∷ 0 ∷ 2 ∷ 1 ∷ 0 ∷ 70 ∷ []), gives.Done [], 0 ∷ 0 ∷ []) ∷
    (Begin 1 (0 ∷ 1 ∷ 1 ∷ 3 ∷ 0 ∷ 0 ∷ 2 ∷ 1 ∷ 0 ∷ 70 ∷ []), gives.Done [], 0 ∷ 0 ∷ []) ∷
    (Begin 1 (0 ∷ 1 ∷ 1 ∷ 0 ∷ 0 ∷ 0 ∷ 2 ∷ 1 ∷ 0 ∷ 70 ∷ []), gives.Done [], 0 ∷ 0 ∷ []) ∷
    (Begin 1 (0 ∷ 3 ∷ 1 ∷ 1 ∷ 0 ∷ 0 ∷ 2 ∷ 1 ∷ 0 ∷ 70 ∷ []), gives.Done [], 0 ∷ 0 ∷ []) ∷
    (Begin 1 (0 ∷ 3 ∷ 1 ∷ 2 ∷ 0 ∷ 0 ∷ 2 ∷ 1 ∷ 0 ∷ 70 ∷ []), gives.Done [], 0 ∷ 0 ∷ []) ∷
    (Begin 1 (0 ∷ 1 ∷ 1 ∷ 2 ∷ 0 ∷ 0 ∷ 2 ∷ 1 ∷ 0 ∷ 70 ∷ []), gives.Done [], 0 ∷ 0 ∷ []) ∷
    (Begin 1 (0 ∷ 3 ∷ 1 ∷ 2 ∷ 0 ∷ 0 ∷ 2 ∷ 1 ∷ 0 ∷ 70 ∷ []), gives.Done [], 0 ∷ 0 ∷ []) ∷
    (Begin 1 (0 ∷ 3 ∷ 1 ∷ 0 ∷ 0 ∷ 0 ∷ 2 ∷ 1 ∷ 0 ∷ 70 ∷ []), gives.Done [], 0 ∷ 0 ∷ []) ∷
    -- other tags and instances, and no words
    (Begin 1 (0 ∷ 4 ∷ 1 ∷ 2 ∷ 0 ∷ 0 ∷ 2 ∷ 1 ∷ 0 ∷ 70 ∷ []), gives.Done [], 0 ∷ 0 ∷ []) ∷
    (Begin 1 (0 ∷ 0 ∷ 1 ∷ 2 ∷ 0 ∷ 0 ∷ 2 ∷ 1 ∷ 0 ∷ 70 ∷ []), gives.Done [], 0 ∷ 0 ∷ []) ∷
    (Begin 1 [], gives.Done [], 0 ∷ 0 ∷ []) ∷
    (Begin 2 [], gives.Done [], 0 ∷ 0 ∷ []) ∷
    (Begin 0 [], gives.Call (event 10) (0 ∷ 6 ∷ 1 ∷ 0 ∷ 1 ∷ 0 ∷ 0 ∷ 0 ∷ 0 ∷ 0 ∷ 0 ∷ []) [], 0 ∷ 1 ∷ []) ∷
    (Begin 3 (7 ∷ []), gives.Done [], 0 ∷ 1 ∷ []) ∷
    (Begin 4 (0 ∷ []), gives.Call (event 10) (1 ∷ 6 ∷ 1 ∷ 0 ∷ 2 ∷ 0 ∷ 0 ∷ 0 ∷ 0 ∷ 0 ∷ 0 ∷ []) (1 ∷ 0 ∷ 0 ∷ []), 0 ∷ 2 ∷ []) ∷
    (Begin 4 (2 ∷ []), gives.Done [], 0 ∷ 2 ∷ []) ∷
    -- a proposal of an earlier round, of the same and of a later one
    (Begin 1 (2 ∷ 2 ∷ 1 ∷ 3 ∷ 0 ∷ 0 ∷ 2 ∷ 2 ∷ 0 ∷ 71 ∷ []), gives.Call (event 10) (2 ∷ 6 ∷ 3 ∷ 1 ∷ 3 ∷ 0 ∷ 0 ∷ 2 ∷ 2 ∷ 0 ∷ 71 ∷ []) [], 0 ∷ 3 ∷ []) ∷
    (Begin 1 (0 ∷ 2 ∷ 1 ∷ 1 ∷ 0 ∷ 0 ∷ 2 ∷ 1 ∷ 0 ∷ 70 ∷ []), gives.Done [], 0 ∷ 3 ∷ []) ∷
    (Begin 1 (1 ∷ 2 ∷ 1 ∷ 2 ∷ 0 ∷ 0 ∷ 2 ∷ 1 ∷ 0 ∷ 70 ∷ []), gives.Done [], 0 ∷ 3 ∷ []) ∷
    (Begin 1 (2 ∷ 2 ∷ 1 ∷ 3 ∷ 0 ∷ 0 ∷ 0 ∷ 1 ∷ 0 ∷ 72 ∷ []), gives.Call (event 10) (2 ∷ 6 ∷ 3 ∷ 1 ∷ 3 ∷ 0 ∷ 0 ∷ 0 ∷ 1 ∷ 0 ∷ 72 ∷ []) [], 0 ∷ 3 ∷ []) ∷
    (Begin 1 (0 ∷ 2 ∷ 1 ∷ 4 ∷ 0 ∷ 0 ∷ 0 ∷ 2 ∷ 1 ∷ 73 ∷ []), gives.Call (event 10) (0 ∷ 6 ∷ 3 ∷ 1 ∷ 4 ∷ 0 ∷ 0 ∷ 0 ∷ 2 ∷ 1 ∷ 73 ∷ []) [], 0 ∷ 4 ∷ []) ∷
    (Begin 1 (0 ∷ 2 ∷ 1 ∷ 0 ∷ 0 ∷ 0 ∷ 2 ∷ 1 ∷ 0 ∷ 70 ∷ []), gives.Done [], 0 ∷ 4 ∷ []) ∷
    (Begin 0 (1 ∷ 0 ∷ 2 ∷ 2 ∷ 0 ∷ 71 ∷ []), gives.Done [], 0 ∷ 4 ∷ []) ∷
    -- frames of other handlers than suspect
    (goes_on 0 (1 ∷ 0 ∷ 0 ∷ []), gives.Done [], 0 ∷ 4 ∷ []) ∷
    (goes_on 1 (1 ∷ 0 ∷ 0 ∷ []), gives.Done [], 0 ∷ 4 ∷ []) ∷
    (goes_on 2 (1 ∷ 0 ∷ 0 ∷ []), gives.Done [], 0 ∷ 4 ∷ []) ∷
    (goes_on 3 (1 ∷ 0 ∷ 0 ∷ []), gives.Done [], 0 ∷ 4 ∷ []) ∷
    [])
what_a_node_does_not_take = refl

-- consensus: rounds that are given up, one after another or with a suspect
instances_go_to_their_next_round : Gives kinds.Cons (record { node = node 2; nodes = 3; ports = event 10 ∷ event 11 ∷ event 12 ∷ []; changes = []; nums = 6 ∷ []; codes = [] }) (
    -- the estimate goes with the round in which it was adopted to the next coordinator
    (Begin 0 (5 ∷ 0 ∷ 2 ∷ 1 ∷ 0 ∷ 70 ∷ []), gives.Call (event 10) (0 ∷ 6 ∷ 1 ∷ 5 ∷ 1 ∷ 0 ∷ 0 ∷ 2 ∷ 1 ∷ 0 ∷ 70 ∷ []) [], 0 ∷ 1 ∷ []) ∷
    (Begin 3 (5 ∷ []), gives.Call (event 10) (1 ∷ 6 ∷ 1 ∷ 5 ∷ 2 ∷ 0 ∷ 0 ∷ 2 ∷ 1 ∷ 0 ∷ 70 ∷ []) [], 0 ∷ 2 ∷ []) ∷
    (goes_on 3 [], gives.Done [], 0 ∷ 2 ∷ []) ∷
    (Begin 1 (1 ∷ 2 ∷ 5 ∷ 2 ∷ 0 ∷ 0 ∷ 2 ∷ 2 ∷ 0 ∷ 71 ∷ []), gives.Call (event 10) (1 ∷ 6 ∷ 3 ∷ 5 ∷ 2 ∷ 0 ∷ 0 ∷ 2 ∷ 2 ∷ 0 ∷ 71 ∷ []) [], 0 ∷ 2 ∷ []) ∷
    (Begin 3 (5 ∷ []), gives.Call (event 10) (2 ∷ 6 ∷ 1 ∷ 5 ∷ 3 ∷ 2 ∷ 0 ∷ 2 ∷ 2 ∷ 0 ∷ 71 ∷ []) [], 0 ∷ 3 ∷ []) ∷
    -- the suspect's instances, in the order of their numbers; not those that are decided or have another coordinator
    (Begin 0 (9 ∷ 0 ∷ 0 ∷ 1 ∷ 0 ∷ 72 ∷ []), gives.Call (event 10) (0 ∷ 6 ∷ 1 ∷ 9 ∷ 1 ∷ 0 ∷ 0 ∷ 0 ∷ 1 ∷ 0 ∷ 72 ∷ []) [], 0 ∷ 3 ∷ []) ∷
    (Begin 0 (2 ∷ 0 ∷ 2 ∷ 1 ∷ 0 ∷ 70 ∷ []), gives.Call (event 10) (0 ∷ 6 ∷ 1 ∷ 2 ∷ 1 ∷ 0 ∷ 0 ∷ 2 ∷ 1 ∷ 0 ∷ 70 ∷ []) [], 0 ∷ 3 ∷ []) ∷
    (Begin 0 (7 ∷ 0 ∷ 0 ∷ 2 ∷ 1 ∷ 73 ∷ []), gives.Call (event 10) (0 ∷ 6 ∷ 1 ∷ 7 ∷ 1 ∷ 0 ∷ 0 ∷ 0 ∷ 2 ∷ 1 ∷ 73 ∷ []) [], 0 ∷ 3 ∷ []) ∷
    (Begin 0 (3 ∷ 0 ∷ 2 ∷ 1 ∷ 0 ∷ 70 ∷ []), gives.Call (event 10) (0 ∷ 6 ∷ 1 ∷ 3 ∷ 1 ∷ 0 ∷ 0 ∷ 2 ∷ 1 ∷ 0 ∷ 70 ∷ []) [], 0 ∷ 3 ∷ []) ∷
    (Begin 2 (0 ∷ 1 ∷ 1 ∷ 3 ∷ 0 ∷ 2 ∷ 1 ∷ 0 ∷ 70 ∷ []), gives.Call (event 12) (3 ∷ 0 ∷ 2 ∷ 1 ∷ 0 ∷ 70 ∷ []) [], 1 ∷ 3 ∷ []) ∷
    (goes_on 2 [], gives.Done [], 1 ∷ 3 ∷ []) ∷
    (Begin 4 (0 ∷ []), gives.Call (event 10) (1 ∷ 6 ∷ 1 ∷ 2 ∷ 2 ∷ 0 ∷ 0 ∷ 2 ∷ 1 ∷ 0 ∷ 70 ∷ []) (1 ∷ 0 ∷ 2 ∷ []), 1 ∷ 3 ∷ []) ∷
    (goes_on 4 (1 ∷ 0 ∷ 2 ∷ []), gives.Call (event 10) (1 ∷ 6 ∷ 1 ∷ 7 ∷ 2 ∷ 0 ∷ 0 ∷ 0 ∷ 2 ∷ 1 ∷ 73 ∷ []) (1 ∷ 0 ∷ 7 ∷ []), 1 ∷ 3 ∷ []) ∷
    (goes_on 4 (1 ∷ 0 ∷ 7 ∷ []), gives.Call (event 10) (1 ∷ 6 ∷ 1 ∷ 9 ∷ 2 ∷ 0 ∷ 0 ∷ 0 ∷ 1 ∷ 0 ∷ 72 ∷ []) (1 ∷ 0 ∷ 9 ∷ []), 1 ∷ 3 ∷ []) ∷
    (goes_on 4 (1 ∷ 0 ∷ 9 ∷ []), gives.Done [], 1 ∷ 3 ∷ []) ∷
    (Begin 4 (2 ∷ []), gives.Call (event 10) (0 ∷ 6 ∷ 1 ∷ 5 ∷ 4 ∷ 2 ∷ 0 ∷ 2 ∷ 2 ∷ 0 ∷ 71 ∷ []) (1 ∷ 2 ∷ 5 ∷ []), 1 ∷ 4 ∷ []) ∷
    (goes_on 4 (1 ∷ 2 ∷ 5 ∷ []), gives.Done [], 1 ∷ 4 ∷ []) ∷
    (Begin 4 (3 ∷ []), gives.Done [], 1 ∷ 4 ∷ []) ∷
    (goes_on 4 (0 ∷ 1 ∷ 1 ∷ []), gives.Done [], 1 ∷ 4 ∷ []) ∷
    (goes_on 4 (1 ∷ 1 ∷ 2 ∷ []), gives.Call (event 10) (2 ∷ 6 ∷ 1 ∷ 7 ∷ 3 ∷ 0 ∷ 0 ∷ 0 ∷ 2 ∷ 1 ∷ 73 ∷ []) (1 ∷ 1 ∷ 7 ∷ []), 1 ∷ 4 ∷ []) ∷
    (goes_on 4 [], gives.Done [], 1 ∷ 4 ∷ []) ∷
    -- the last round is the greatest number
    (Begin 1 (0 ∷ 2 ∷ 8 ∷ 18446744073709551615 ∷ 0 ∷ 1 ∷ 2 ∷ 1 ∷ 2 ∷ 74 ∷ []), gives.Call (event 10) (2 ∷ 6 ∷ 3 ∷ 8 ∷ 18446744073709551615 ∷ 0 ∷ 1 ∷ 2 ∷ 1 ∷ 2 ∷ 74 ∷ []) [], 1 ∷ 18446744073709551615 ∷ []) ∷
    (Begin 3 (8 ∷ []), gives.Call (event 10) (2 ∷ 6 ∷ 1 ∷ 8 ∷ 18446744073709551615 ∷ 18446744073709551615 ∷ 1 ∷ 2 ∷ 1 ∷ 2 ∷ 74 ∷ []) [], 1 ∷ 18446744073709551615 ∷ []) ∷
    (Begin 3 (8 ∷ []), gives.Call (event 10) (2 ∷ 6 ∷ 1 ∷ 8 ∷ 18446744073709551615 ∷ 18446744073709551615 ∷ 1 ∷ 2 ∷ 1 ∷ 2 ∷ 74 ∷ []) [], 1 ∷ 18446744073709551615 ∷ []) ∷
    [])
instances_go_to_their_next_round = refl

-- consensus of one node, which coordinates every round
one_node_decides_alone : Gives kinds.Cons (record { node = node 0; nodes = 1; ports = event 10 ∷ event 11 ∷ event 12 ∷ []; changes = []; nums = 6 ∷ []; codes = [] }) (
    (Begin 0 (1 ∷ 0 ∷ 2 ∷ 1 ∷ 0 ∷ 70 ∷ []), gives.Call (event 10) (0 ∷ 6 ∷ 1 ∷ 1 ∷ 1 ∷ 0 ∷ 0 ∷ 2 ∷ 1 ∷ 0 ∷ 70 ∷ []) [], 0 ∷ 1 ∷ []) ∷
    (Begin 1 (0 ∷ 1 ∷ 1 ∷ 1 ∷ 0 ∷ 0 ∷ 2 ∷ 1 ∷ 0 ∷ 70 ∷ []), gives.Call (event 10) (1 ∷ 6 ∷ 2 ∷ 1 ∷ 1 ∷ 0 ∷ 0 ∷ 2 ∷ 1 ∷ 0 ∷ 70 ∷ []) [], 0 ∷ 1 ∷ []) ∷
    (Begin 1 (0 ∷ 2 ∷ 1 ∷ 1 ∷ 0 ∷ 0 ∷ 2 ∷ 1 ∷ 0 ∷ 70 ∷ []), gives.Call (event 10) (0 ∷ 6 ∷ 3 ∷ 1 ∷ 1 ∷ 0 ∷ 0 ∷ 2 ∷ 1 ∷ 0 ∷ 70 ∷ []) [], 0 ∷ 1 ∷ []) ∷
    (Begin 1 (0 ∷ 3 ∷ 1 ∷ 1 ∷ 0 ∷ 0 ∷ 2 ∷ 1 ∷ 0 ∷ 70 ∷ []), gives.Call (event 11) (1 ∷ 1 ∷ 0 ∷ 2 ∷ 1 ∷ 0 ∷ 70 ∷ []) [], 0 ∷ 1 ∷ []) ∷
    (Begin 3 (1 ∷ []), gives.Call (event 10) (0 ∷ 6 ∷ 1 ∷ 1 ∷ 2 ∷ 1 ∷ 0 ∷ 2 ∷ 1 ∷ 0 ∷ 70 ∷ []) [], 0 ∷ 2 ∷ []) ∷
    (Begin 1 (0 ∷ 1 ∷ 1 ∷ 2 ∷ 1 ∷ 0 ∷ 2 ∷ 1 ∷ 0 ∷ 70 ∷ []), gives.Call (event 10) (1 ∷ 6 ∷ 2 ∷ 1 ∷ 2 ∷ 0 ∷ 0 ∷ 2 ∷ 1 ∷ 0 ∷ 70 ∷ []) [], 0 ∷ 2 ∷ []) ∷
    (Begin 2 (0 ∷ 1 ∷ 1 ∷ 1 ∷ 0 ∷ 2 ∷ 1 ∷ 0 ∷ 70 ∷ []), gives.Call (event 12) (1 ∷ 0 ∷ 2 ∷ 1 ∷ 0 ∷ 70 ∷ []) [], 1 ∷ 2 ∷ []) ∷
    (goes_on 2 [], gives.Done [], 1 ∷ 2 ∷ []) ∷
    [])
one_node_decides_alone = refl
