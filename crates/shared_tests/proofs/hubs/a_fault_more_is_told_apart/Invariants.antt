use Rattle.shared_tests.proofs.hubs.a_fault_more_is_told_apart.Given as goal

abbrev pub ghosts-faults_differ : goal.ghosts-faults_differ
ghosts-faults_differ g a = record { name = a.entries.name; parts = a.entries.parts }
