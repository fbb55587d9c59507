use Rattle.ra_chan_server.proofs.Entries.{active_found, active_not_found}
use Rattle.ra_chan_server.proofs.requests.Requests.find.Goals as goal

pub returns-in_err-request-clause-found : goal.returns-in_err-request-clause-found
returns-in_err-request-clause-found c = rw (c.from_residual.ensures, ← c.self.view_is) (active_not_found c.args.id c.self.inside.by_arrival.entries c.in_err-request.ensures.request)

pub returns-clause-found : goal.returns-clause-found
returns-clause-found c = rw (← c.self.view_is) (active_found c.args.id c.self.inside.by_arrival.entries c.in_ok-request.request.now c.in_ok-request.ensures.request)
