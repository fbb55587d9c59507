use Rattle.shared_tests.proofs.hubs.a_keeper_fails_three_times.Given as goal

abbrev pub ghosts-faults_agree : goal.ghosts-faults_agree
ghosts-faults_agree g a = record { name = a.entries.name; parts = a.entries.parts }
