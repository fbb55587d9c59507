use Rattle.shared_tests.proofs.hubs.two_handles_in_turn.Given as goal

abbrev pub ghosts-in_turn : goal.ghosts-in_turn
ghosts-in_turn g a = record { name = a.entries.name; parts = a.entries.parts }
