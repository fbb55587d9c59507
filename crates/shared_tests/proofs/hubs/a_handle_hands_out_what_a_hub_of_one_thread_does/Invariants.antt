use Rattle.shared_tests.proofs.hubs.a_handle_hands_out_what_a_hub_of_one_thread_does.Given as goal

abbrev pub ghosts-heard_over_a_handle : goal.ghosts-heard_over_a_handle
ghosts-heard_over_a_handle g a = record { name = a.entries.name; parts = a.entries.parts }
