use Rattle.std.proofs.Common.{sym, ap, ◌∙◌, is_some}
use Rattle.ra_chan_server.specs.View.{active_of}
use Rattle.ra_chan_server.proofs.Lists.{any_holds, some_map}
use Rattle.ra_chan_server.proofs.requests.Requests.has.Goals as goal

pub returns : goal.returns
returns c = c.is_some.ensures ∙ sym (some_map (λ r. active_of r.now) c.find.result) ∙ ap is_some c.find.ensures.found ∙ any_holds c.args.id c.args.self.now
