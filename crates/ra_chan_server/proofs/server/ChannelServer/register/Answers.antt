use Rattle.std.proofs.Common.{◌≡◌, ◌++◌, map, false, refl, sym, ap, ◌∙◌}
use Rattle.std.specs.List.{list_any, filter_map}
use Rattle.std.specs.Str.{bytes_eq}
use Rattle.ra_ipc.specs.ChannelServers.{call_one}
use Rattle.ra_chan_server.specs.View.{call_of}
use Rattle.ra_chan_server.proofs.Several.{calls_fit}
use Rattle.ra_chan_server.proofs.server.ChannelServer.register.Goals as goal

pub returns-clause-calls : goal.returns-clause-calls
returns-clause-calls c =
    let unknown : list_any (bytes_eq c.args.channel.now) c.self.inside.channels.items ≡ false = ap (list_any (bytes_eq c.args.channel.now)) (sym c.as_slice.ensures.value) ∙ sym c.is_among.ensures ∙ c.if-is_among.false in
    let given : map call_of c.open_all.new.calls.items ≡ filter_map (call_one c.args.channel.now) c.self.inside.requests =
    c.open_all.ensures.calls c.args.channel.now (c.as_slice-2.ensures.value ∙ c.in_ok-ids.ensures.ids)
    ∙ ap (λ calls. map call_of calls ++ filter_map (call_one c.args.channel.now) c.self.inside.requests) c.in_ok-calls.ensures.items in
    rw (← c.self.view_is, unknown) given

pub returns-clause-fits : goal.returns-clause-fits
returns-clause-fits c =
    let given : map call_of c.open_all.new.calls.items ≡ filter_map (call_one c.args.channel.now) c.self.inside.requests =
    c.open_all.ensures.calls c.args.channel.now (c.as_slice-2.ensures.value ∙ c.in_ok-ids.ensures.ids)
    ∙ ap (λ calls. map call_of calls ++ filter_map (call_one c.args.channel.now) c.self.inside.requests) c.in_ok-calls.ensures.items in
    rw given (calls_fit c.args.channel.now c.self.inside.requests c.in_ok-ids.ensures.fits)

pub returns-clause-after : goal.returns-clause-after
returns-clause-after c =
    let unknown : list_any (bytes_eq c.args.channel.now) c.self.inside.channels.items ≡ false = ap (list_any (bytes_eq c.args.channel.now)) (sym c.as_slice.ensures.value) ∙ sym c.is_among.ensures ∙ c.if-is_among.false in
    rw (← c.self.view_is, unknown, c.in_ok-push.ensures.items, c.in_ok-copy.ensures, c.as_str.ensures, c.open_all.ensures.after c.args.channel.now (c.as_slice-2.ensures.value ∙ c.in_ok-ids.ensures.ids)) refl
