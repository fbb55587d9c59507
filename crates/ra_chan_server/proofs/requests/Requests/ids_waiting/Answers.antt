use Rattle.std.proofs.Common.{map, ap, ◌∙◌}
use Rattle.std.proofs.lemmas.Result.{IfOk-weaker}
use Rattle.std.specs.List.{filter}
use Rattle.ra_chan_server.specs.Requests.{id_in, waits_for}
use Rattle.ra_chan_server.specs.View.{active_of}
use Rattle.ra_chan_server.proofs.Several.{here_filter_is, waits_here}
use Rattle.ra_chan_server.proofs.requests.Requests.ids_waiting.Goals as goal

pub returns-clause-ids : goal.returns-clause-ids
returns-clause-ids c =
    IfOk-weaker c.waiting_among.result _ _
    (λ ids h. h ∙ ap (λ rs. map id_in (filter (waits_for c.args.channel.now) (map (λ r. active_of r.now) rs))) c.as_slice.ensures.value ∙ ap (λ xs. map id_in (filter (waits_for c.args.channel.now) xs)) c.in_ok-found.ensures.found
    ∙ ap (map id_in) (here_filter_is (waits_for c.args.channel.now) (waits_here c.args.channel.now) c.args.self.now)) c.waiting_among.ensures
