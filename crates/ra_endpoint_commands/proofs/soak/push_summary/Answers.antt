use Rattle.ra_endpoint_commands.proofs.SoakLemmas.{sums_printed}
use Rattle.ra_endpoint_commands.proofs.soak.push_summary.Goals as goal

pub returns : goal.returns
returns c =
    sums_printed c.args.sums.now _ _ _ _ _ _ _ _ _ _ c.in_ok-push_between.ensures c.in_ok-push_decimal.ensures c.in_ok-push_between-2.ensures c.in_ok-push_decimal-2.ensures c.in_ok-push_text.ensures c.in_ok-push_sums.ensures
    c.in_ok-push_text-2.ensures c.in_ok-push_sums-2.ensures c.in_ok-push_text-3.ensures
