use Rattle.shared_tests.proofs.hubs.a_handle_is_missing.Given as goal

abbrev pub ghosts-one_is_missing : goal.ghosts-one_is_missing
ghosts-one_is_missing g a = record { name = a.entries.name; parts = a.entries.parts }
