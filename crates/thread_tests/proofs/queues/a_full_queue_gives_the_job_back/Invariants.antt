use Rattle.thread_tests.proofs.queues.a_full_queue_gives_the_job_back.Given as goal

abbrev pub ghosts-full : goal.ghosts-full
ghosts-full g a = record { table = a.opened.ring.table.shared.table_id }
