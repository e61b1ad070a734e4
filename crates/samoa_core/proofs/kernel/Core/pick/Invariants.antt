use Rattle.samoa_core.proofs.kernel.Core.pick.Given as goal

abbrev pub ghosts-pick_by : goal.ghosts-pick_by
ghosts-pick_by g a = record { name = a.blank.name; parts = a.blank.parts }
