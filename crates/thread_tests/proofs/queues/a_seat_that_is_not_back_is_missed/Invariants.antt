use Rattle.thread_tests.proofs.queues.a_seat_that_is_not_back_is_missed.Given as goal

abbrev pub ghosts-kept_back : goal.ghosts-kept_back
ghosts-kept_back g a = record { table = a.opened.ring.table.shared.table_id }
