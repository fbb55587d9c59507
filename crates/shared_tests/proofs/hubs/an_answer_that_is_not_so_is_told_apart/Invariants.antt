use Rattle.shared_tests.proofs.hubs.an_answer_that_is_not_so_is_told_apart.Given as goal

abbrev pub ghosts-untrue_answer : goal.ghosts-untrue_answer
ghosts-untrue_answer g a = record { name = a.entries.name; parts = a.entries.parts }
