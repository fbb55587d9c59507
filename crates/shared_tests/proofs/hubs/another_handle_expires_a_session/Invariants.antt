use Rattle.shared_tests.proofs.hubs.another_handle_expires_a_session.Given as goal

abbrev pub ghosts-another_expires : goal.ghosts-another_expires
ghosts-another_expires g a = record { name = a.entries.name; parts = a.entries.parts }
