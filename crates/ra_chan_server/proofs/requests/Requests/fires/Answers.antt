use Rattle.std.proofs.Common.{map, ap, ◌∙◌}
use Rattle.std.proofs.lemmas.Result.{IfOk-weaker}
use Rattle.std.specs.List.{filter_map}
use Rattle.ra_values.specs.View.{tree}
use Rattle.ra_ipc.specs.ChannelServers.{fire_one}
use Rattle.ra_chan_server.specs.Requests.{is_here, ActiveFits}
use Rattle.ra_chan_server.specs.View.{active_of}
use Rattle.ra_chan_server.proofs.Arrivals.{all_filter}
use Rattle.ra_chan_server.proofs.Several.{here_map_is, fire_here}
use Rattle.ra_chan_server.proofs.requests.Requests.fires.Goals as goal

pub fires_among-requires-clause-requests : goal.fires_among-requires-clause-requests
fires_among-requires-clause-requests c = rw (c.as_slice.ensures.value, c.in_ok-found.ensures.found) (all_filter ActiveFits is_here c.args.self.now c.in_ok-found.ensures.fits)

pub returns-clause-packets : goal.returns-clause-packets
returns-clause-packets c =
    IfOk-weaker c.fires_among.result _ _
    (λ packets h. h ∙ ap (λ rs. filter_map (fire_one c.args.fire.now.channel c.args.fire.now.event (tree c.args.fire.now.body)) (map (λ r. active_of r.now) rs)) c.as_slice.ensures.value
    ∙ ap (filter_map (fire_one c.args.fire.now.channel c.args.fire.now.event (tree c.args.fire.now.body))) c.in_ok-found.ensures.found
    ∙ here_map_is (fire_one c.args.fire.now.channel c.args.fire.now.event (tree c.args.fire.now.body)) (fire_here c.args.fire.now.channel c.args.fire.now.event (tree c.args.fire.now.body)) c.args.self.now) c.fires_among.ensures.packets
