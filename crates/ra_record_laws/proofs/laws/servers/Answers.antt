use Rattle.ra_record_laws.proofs.ServerLemmas.{run_kept, run_behind, run_due, run_empty, run_over}
use Rattle.ra_record_laws.proofs.laws.servers.Goals as goal

pub returns : goal.returns
returns c = record { kept = run_kept; behind = run_behind; due = run_due; empty = run_empty; over = run_over }
