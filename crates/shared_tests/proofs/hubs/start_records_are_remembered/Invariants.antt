use Rattle.shared_tests.proofs.hubs.start_records_are_remembered.Given as goal

abbrev pub ghosts-starts_again : goal.ghosts-starts_again
ghosts-starts_again g a = record { name = a.entries.name; parts = a.entries.parts }
