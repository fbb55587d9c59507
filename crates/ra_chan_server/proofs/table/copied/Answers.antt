use Rattle.std.proofs.Common.{◌++◌, sym, ap, ◌∙◌}
use Rattle.ra_chan_server.proofs.Arrivals.{arrivals_before}
use Rattle.ra_chan_server.proofs.table.copied.Goals as goal

pub insert-requires : goal.insert-requires
insert-requires c =
    (arrivals_before c.loop-arrival.copy.entries (c.in-Some.arrival.now, c.in-Some.request.now) c.next.new.self c.args.requests.now.entries
    (ap (λ w. c.loop-arrival.copy.entries ++ w) (sym c.in-Some.ensures.steps) ∙ c.loop-arrival.invariant) c.requires).below
