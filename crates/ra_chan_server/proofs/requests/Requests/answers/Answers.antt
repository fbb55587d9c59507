use Rattle.std.proofs.Common.{map, ap, ◌∙◌}
use Rattle.std.proofs.lemmas.Result.{IfOk-weaker}
use Rattle.std.specs.List.{filter_map}
use Rattle.ra_ipc.specs.ChannelServers.{timeout_one}
use Rattle.ra_chan_server.specs.Requests.{is_here, ActiveFits}
use Rattle.ra_chan_server.specs.View.{active_of}
use Rattle.ra_chan_server.proofs.Arrivals.{all_filter}
use Rattle.ra_chan_server.proofs.Several.{here_map_is, timeout_here}
use Rattle.ra_chan_server.proofs.requests.Requests.answers.Goals as goal

pub answers_among-requires : goal.answers_among-requires
answers_among-requires c = rw (c.as_slice.ensures.value, c.in_ok-found.ensures.found) (all_filter ActiveFits is_here c.args.self.now c.in_ok-found.ensures.fits)

pub returns-clause-packets : goal.returns-clause-packets
returns-clause-packets c =
    IfOk-weaker c.answers_among.result _ _
    (λ packets h. h ∙ ap (λ rs. filter_map (timeout_one c.args.now) (map (λ r. active_of r.now) rs)) c.as_slice.ensures.value ∙ ap (filter_map (timeout_one c.args.now)) c.in_ok-found.ensures.found
    ∙ here_map_is (timeout_one c.args.now) (timeout_here c.args.now) c.args.self.now) c.answers_among.ensures.packets
