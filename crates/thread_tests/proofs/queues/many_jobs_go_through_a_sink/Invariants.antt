use Rattle.thread_tests.proofs.queues.many_jobs_go_through_a_sink.Given as goal

abbrev pub ghosts-many : goal.ghosts-many
ghosts-many g a = record { table = a.opened.ring.table.shared.table_id }
