use Rattle.thread_tests.proofs.two_threads.jobs_go_from_one_thread_to_another.Given as goal

abbrev pub ghosts-between : goal.ghosts-between
ghosts-between g a = record { table = a.opened.ring.table.shared.table_id }
