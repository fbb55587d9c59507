use Rattle.ra_shake.proofs.VerdictLemmas.{first_that-append, judge_both_is, refuses_first, judges_both}
use Rattle.ra_shake.proofs.laws.one_verdict.Goals as goal

pub returns : goal.returns
returns c = record { joined = first_that-append; both = judge_both_is; first = refuses_first; second = judges_both }
