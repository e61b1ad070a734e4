-- Links, the detector, reliable broadcast and views: moments, and beside each what the reference program gives and shows.
use Rattle.std.specs.Prelude.{[], ◌∷◌, refl}
use Rattle.samoa_model.specs.declared.handler.Moment.TheVariants.{Begin}
use Rattle.samoa_model.specs.declared.handler.Dest.TheVariants.{One, All}
use Rattle.samoa_model.specs.declared.handler.Outcome.TheVariants as gives
use Rattle.samoa_model.specs.declared.setup.Kind.TheVariants as kinds
use Rattle.samoa_serial.proofs.ReferenceWords.{event, node, goes_on, Gives}

-- a link: what it sent, what it got, and the channel by which it hands on
a_link_counts_and_carries : Gives kinds.Link (record { node = node 1; nodes = 3; ports = event 10 ∷ event 11 ∷ event 12 ∷ event 13 ∷ []; changes = []; nums = []; codes = [] }) (
    -- to a node, and to all where there is no such node
    (Begin 0 (2 ∷ 1 ∷ 17 ∷ 18 ∷ []), gives.Send (One (node 2)) (event 10) (1 ∷ 1 ∷ 17 ∷ 18 ∷ []) [], 1 ∷ 0 ∷ []) ∷
    (goes_on 0 [], gives.Done [], 1 ∷ 0 ∷ []) ∷
    (Begin 0 (3 ∷ 0 ∷ 5 ∷ []), gives.Send All (event 10) (1 ∷ 0 ∷ 5 ∷ []) [], 2 ∷ 0 ∷ []) ∷
    (Begin 0 (18446744073709551615 ∷ 18446744073709551615 ∷ []), gives.Send All (event 10) (1 ∷ 18446744073709551615 ∷ []) [], 3 ∷ 0 ∷ []) ∷
    (Begin 0 [], gives.Send (One (node 0)) (event 10) (1 ∷ 0 ∷ []) [], 4 ∷ 0 ∷ []) ∷
    (Begin 0 (0 ∷ 4 ∷ 1 ∷ 2 ∷ 3 ∷ 4 ∷ 5 ∷ 6 ∷ 7 ∷ 8 ∷ 9 ∷ 10 ∷ []), gives.Send (One (node 0)) (event 10) (1 ∷ 4 ∷ 1 ∷ 2 ∷ 3 ∷ 4 ∷ 5 ∷ 6 ∷ 7 ∷ 8 ∷ 9 ∷ 10 ∷ []) [], 5 ∷ 0 ∷ []) ∷
    -- by the channels that it has, and by one that it hasn't
    (Begin 1 (2 ∷ 0 ∷ 7 ∷ 8 ∷ []), gives.Call (event 11) (2 ∷ 7 ∷ 8 ∷ []) [], 5 ∷ 1 ∷ []) ∷
    (goes_on 1 [], gives.Done [], 5 ∷ 1 ∷ []) ∷
    (Begin 1 (0 ∷ 2 ∷ 7 ∷ []), gives.Call (event 13) (0 ∷ 7 ∷ []) [], 5 ∷ 2 ∷ []) ∷
    (Begin 1 (0 ∷ 3 ∷ 7 ∷ []), gives.Done [], 5 ∷ 3 ∷ []) ∷
    (Begin 1 (1 ∷ 18446744073709551615 ∷ []), gives.Done [], 5 ∷ 4 ∷ []) ∷
    (Begin 1 [], gives.Call (event 11) (0 ∷ []) [], 5 ∷ 5 ∷ []) ∷
    (Begin 1 (0 ∷ 1 ∷ 0 ∷ 1 ∷ 2 ∷ 3 ∷ 4 ∷ 5 ∷ 6 ∷ 7 ∷ 8 ∷ 9 ∷ []), gives.Call (event 12) (0 ∷ 0 ∷ 1 ∷ 2 ∷ 3 ∷ 4 ∷ 5 ∷ 6 ∷ 7 ∷ 8 ∷ 9 ∷ []) [], 5 ∷ 6 ∷ []) ∷
    [])
a_link_counts_and_carries = refl

-- a detector: who was quiet for more than two beats is suspected, once
a_detector_suspects_the_quiet : Gives kinds.Fd (record { node = node 1; nodes = 3; ports = event 10 ∷ event 11 ∷ []; changes = []; nums = 6 ∷ 2 ∷ []; codes = [] }) (
    -- two beats, and node 2 is heard after the first
    (Begin 0 [], gives.Call (event 10) (3 ∷ 6 ∷ []) (0 ∷ []), 0 ∷ []) ∷
    (goes_on 0 (0 ∷ []), gives.Done (0 ∷ []), 0 ∷ []) ∷
    (Begin 1 (2 ∷ []), gives.Done [], 0 ∷ []) ∷
    (Begin 0 [], gives.Call (event 10) (3 ∷ 6 ∷ []) (0 ∷ []), 0 ∷ []) ∷
    (goes_on 0 (0 ∷ []), gives.Done (0 ∷ []), 0 ∷ []) ∷
    -- node 0 is suspected after the third, node 2 after the fourth
    (Begin 0 [], gives.Call (event 10) (3 ∷ 6 ∷ []) (0 ∷ []), 0 ∷ []) ∷
    (goes_on 0 (0 ∷ []), gives.Call (event 11) (0 ∷ []) (1 ∷ []), 1 ∷ []) ∷
    (goes_on 0 (1 ∷ []), gives.Done (1 ∷ []), 1 ∷ []) ∷
    (Begin 0 [], gives.Call (event 10) (3 ∷ 6 ∷ []) (0 ∷ []), 1 ∷ []) ∷
    (goes_on 0 (0 ∷ []), gives.Call (event 11) (2 ∷ []) (3 ∷ []), 5 ∷ []) ∷
    (goes_on 0 (3 ∷ []), gives.Done (5 ∷ []), 5 ∷ []) ∷
    -- who is suspected stays so until it is heard, and is suspected again
    (Begin 0 [], gives.Call (event 10) (3 ∷ 6 ∷ []) (0 ∷ []), 5 ∷ []) ∷
    (goes_on 0 (0 ∷ []), gives.Done (5 ∷ []), 5 ∷ []) ∷
    (Begin 1 (0 ∷ []), gives.Done [], 4 ∷ []) ∷
    (goes_on 1 [], gives.Done [], 4 ∷ []) ∷
    (Begin 0 [], gives.Call (event 10) (3 ∷ 6 ∷ []) (0 ∷ []), 4 ∷ []) ∷
    (goes_on 0 (0 ∷ []), gives.Done (4 ∷ []), 4 ∷ []) ∷
    (Begin 0 [], gives.Call (event 10) (3 ∷ 6 ∷ []) (0 ∷ []), 4 ∷ []) ∷
    (Begin 0 [], gives.Call (event 10) (3 ∷ 6 ∷ []) (0 ∷ []), 4 ∷ []) ∷
    (goes_on 0 (0 ∷ []), gives.Call (event 11) (0 ∷ []) (1 ∷ []), 5 ∷ []) ∷
    (goes_on 0 (1 ∷ []), gives.Done (5 ∷ []), 5 ∷ []) ∷
    -- heard are itself and a node that isn't there; a frame leaves out the nodes below it
    (Begin 1 (1 ∷ []), gives.Done [], 5 ∷ []) ∷
    (Begin 1 (3 ∷ []), gives.Done [], 5 ∷ []) ∷
    (Begin 1 (18446744073709551615 ∷ []), gives.Done [], 5 ∷ []) ∷
    (Begin 1 [], gives.Done [], 4 ∷ []) ∷
    (Begin 1 (2 ∷ []), gives.Done [], 0 ∷ []) ∷
    (Begin 0 [], gives.Call (event 10) (3 ∷ 6 ∷ []) (0 ∷ []), 0 ∷ []) ∷
    (Begin 0 [], gives.Call (event 10) (3 ∷ 6 ∷ []) (0 ∷ []), 0 ∷ []) ∷
    (Begin 0 [], gives.Call (event 10) (3 ∷ 6 ∷ []) (0 ∷ []), 0 ∷ []) ∷
    (goes_on 0 (1 ∷ []), gives.Call (event 11) (2 ∷ []) (3 ∷ []), 4 ∷ []) ∷
    (goes_on 0 (3 ∷ []), gives.Done (4 ∷ []), 4 ∷ []) ∷
    (goes_on 0 (18446744073709551615 ∷ []), gives.Done (4 ∷ []), 4 ∷ []) ∷
    (goes_on 0 (0 ∷ []), gives.Call (event 11) (0 ∷ []) (1 ∷ []), 5 ∷ []) ∷
    [])
a_detector_suspects_the_quiet = refl

-- reliable broadcast: what is new goes to all and then up
a_broadcast_is_passed_on_once : Gives kinds.Rbcast (record { node = node 1; nodes = 3; ports = event 10 ∷ event 11 ∷ []; changes = []; nums = 6 ∷ []; codes = [] }) (
    -- its own, by its numbers
    (Begin 0 (7 ∷ 8 ∷ []), gives.Call (event 10) (3 ∷ 6 ∷ 1 ∷ 1 ∷ 7 ∷ 8 ∷ []) (1 ∷ 1 ∷ 1 ∷ 7 ∷ 8 ∷ []), 1 ∷ 1 ∷ []) ∷
    (goes_on 0 (1 ∷ 1 ∷ 1 ∷ 7 ∷ 8 ∷ []), gives.Call (event 11) (1 ∷ 1 ∷ 7 ∷ 8 ∷ []) (2 ∷ 1 ∷ 1 ∷ []), 1 ∷ 1 ∷ []) ∷
    (goes_on 0 (2 ∷ 1 ∷ 1 ∷ []), gives.Done (1 ∷ 1 ∷ []), 1 ∷ 1 ∷ []) ∷
    (Begin 0 (1 ∷ 2 ∷ 3 ∷ 4 ∷ 5 ∷ 6 ∷ 7 ∷ 8 ∷ 9 ∷ []), gives.Call (event 10) (3 ∷ 6 ∷ 1 ∷ 2 ∷ 1 ∷ 2 ∷ 3 ∷ 4 ∷ 5 ∷ 6 ∷ 7 ∷ 8 ∷ []) (1 ∷ 1 ∷ 2 ∷ 1 ∷ 2 ∷ 3 ∷ 4 ∷ 5 ∷ 6 ∷ 7 ∷ 8 ∷ []), 2 ∷ 2 ∷ []) ∷
    (goes_on 0 (1 ∷ 1 ∷ 2 ∷ 1 ∷ 2 ∷ 3 ∷ 4 ∷ 5 ∷ 6 ∷ 7 ∷ 8 ∷ []), gives.Call (event 11) (1 ∷ 2 ∷ 1 ∷ 2 ∷ 3 ∷ 4 ∷ 5 ∷ 6 ∷ 7 ∷ 8 ∷ []) (2 ∷ 1 ∷ 2 ∷ []), 2 ∷ 2 ∷ []) ∷
    (goes_on 0 (2 ∷ 1 ∷ 2 ∷ []), gives.Done (1 ∷ 2 ∷ []), 2 ∷ 2 ∷ []) ∷
    (Begin 0 [], gives.Call (event 10) (3 ∷ 6 ∷ 1 ∷ 3 ∷ []) (1 ∷ 1 ∷ 3 ∷ []), 3 ∷ 3 ∷ []) ∷
    (goes_on 0 (1 ∷ 1 ∷ 3 ∷ []), gives.Call (event 11) (1 ∷ 3 ∷ []) (2 ∷ 1 ∷ 3 ∷ []), 3 ∷ 3 ∷ []) ∷
    -- that of others, once; its own comes back
    (Begin 1 (0 ∷ 2 ∷ 5 ∷ 9 ∷ []), gives.Call (event 10) (3 ∷ 6 ∷ 2 ∷ 5 ∷ 9 ∷ []) (1 ∷ 2 ∷ 5 ∷ 9 ∷ []), 3 ∷ 4 ∷ []) ∷
    (goes_on 1 (1 ∷ 2 ∷ 5 ∷ 9 ∷ []), gives.Call (event 11) (2 ∷ 5 ∷ 9 ∷ []) (2 ∷ []), 3 ∷ 4 ∷ []) ∷
    (goes_on 1 (2 ∷ []), gives.Done [], 3 ∷ 4 ∷ []) ∷
    (Begin 1 (0 ∷ 2 ∷ 5 ∷ 9 ∷ []), gives.Done [], 3 ∷ 4 ∷ []) ∷
    (Begin 1 (2 ∷ 1 ∷ 2 ∷ 7 ∷ 8 ∷ []), gives.Done [], 3 ∷ 4 ∷ []) ∷
    (Begin 1 (2 ∷ 1 ∷ 9 ∷ 1 ∷ []), gives.Call (event 10) (3 ∷ 6 ∷ 1 ∷ 9 ∷ 1 ∷ []) (1 ∷ 1 ∷ 9 ∷ 1 ∷ []), 3 ∷ 5 ∷ []) ∷
    (Begin 1 (0 ∷ 2 ∷ 6 ∷ 1 ∷ 2 ∷ 3 ∷ 4 ∷ 5 ∷ 6 ∷ 7 ∷ 8 ∷ 9 ∷ []), gives.Call (event 10) (3 ∷ 6 ∷ 2 ∷ 6 ∷ 1 ∷ 2 ∷ 3 ∷ 4 ∷ 5 ∷ 6 ∷ 7 ∷ 8 ∷ []) (1 ∷ 2 ∷ 6 ∷ 1 ∷ 2 ∷ 3 ∷ 4 ∷ 5 ∷ 6 ∷ 7 ∷ 8 ∷ []), 3 ∷ 6 ∷ []) ∷
    (goes_on 1 (1 ∷ 2 ∷ 6 ∷ 1 ∷ 2 ∷ 3 ∷ 4 ∷ 5 ∷ 6 ∷ 7 ∷ 8 ∷ []), gives.Call (event 11) (2 ∷ 6 ∷ 1 ∷ 2 ∷ 3 ∷ 4 ∷ 5 ∷ 6 ∷ 7 ∷ 8 ∷ []) (2 ∷ []), 3 ∷ 6 ∷ []) ∷
    (goes_on 1 (2 ∷ []), gives.Done [], 3 ∷ 6 ∷ []) ∷
    (Begin 1 (0 ∷ 5 ∷ 2 ∷ []), gives.Call (event 10) (3 ∷ 6 ∷ 5 ∷ 2 ∷ []) (1 ∷ 5 ∷ 2 ∷ []), 3 ∷ 7 ∷ []) ∷
    (Begin 1 [], gives.Call (event 10) (3 ∷ 6 ∷ 0 ∷ 0 ∷ []) (1 ∷ 0 ∷ 0 ∷ []), 3 ∷ 8 ∷ []) ∷
    (Begin 1 [], gives.Done [], 3 ∷ 8 ∷ []) ∷
    [])
a_broadcast_is_passed_on_once = refl

-- views: all nodes are members first
views_are_asked_for_and_installed : Gives kinds.Views (record { node = node 1; nodes = 3; ports = event 10 ∷ []; changes = []; nums = []; codes = [] }) (
    (Begin 0 (5 ∷ []), gives.Call (event 10) (2 ∷ 5 ∷ []) [], 0 ∷ 7 ∷ []) ∷
    (goes_on 0 [], gives.Done [], 0 ∷ 7 ∷ []) ∷
    (Begin 0 [], gives.Call (event 10) (2 ∷ 0 ∷ []) [], 0 ∷ 7 ∷ []) ∷
    (Begin 1 (5 ∷ []), gives.Done [], 1 ∷ 5 ∷ []) ∷
    (Begin 1 (3 ∷ []), gives.Done [], 2 ∷ 3 ∷ []) ∷
    (Begin 1 [], gives.Done [], 3 ∷ 0 ∷ []) ∷
    (goes_on 1 [], gives.Done [], 3 ∷ 0 ∷ []) ∷
    [])
views_are_asked_for_and_installed = refl

-- a view of one node
a_view_of_one_node : Gives kinds.Views (record { node = node 0; nodes = 1; ports = event 10 ∷ []; changes = []; nums = []; codes = [] }) (
    (Begin 0 (1 ∷ []), gives.Call (event 10) (2 ∷ 1 ∷ []) [], 0 ∷ 1 ∷ []) ∷
    [])
a_view_of_one_node = refl
