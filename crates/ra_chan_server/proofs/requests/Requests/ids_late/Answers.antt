use Rattle.std.proofs.Common.{map, ap, ◌∙◌}
use Rattle.std.proofs.lemmas.Result.{IfOk-weaker}
use Rattle.std.specs.List.{filter}
use Rattle.ra_ipc.specs.ChannelServers.{is_timed_out}
use Rattle.ra_chan_server.specs.Requests.{id_in}
use Rattle.ra_chan_server.specs.View.{active_of}
use Rattle.ra_chan_server.proofs.Several.{here_filter_is, late_here}
use Rattle.ra_chan_server.proofs.requests.Requests.ids_late.Goals as goal

pub returns-clause-ids : goal.returns-clause-ids
returns-clause-ids c =
    IfOk-weaker c.late_among.result _ _
    (λ ids h. h ∙ ap (λ rs. map id_in (filter (is_timed_out c.args.now) (map (λ r. active_of r.now) rs))) c.as_slice.ensures.value ∙ ap (λ xs. map id_in (filter (is_timed_out c.args.now) xs)) c.in_ok-found.ensures.found
    ∙ ap (map id_in) (here_filter_is (is_timed_out c.args.now) (late_here c.args.now) c.args.self.now)) c.late_among.ensures
