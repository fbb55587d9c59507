use Rattle.std.proofs.Common.{◌∙◌}
use Rattle.ra_ipc.specs.ChannelServers.{shown_name}
use Rattle.ra_chan_server.proofs.Texts.{error_of_told}
use Rattle.ra_chan_server.proofs.unknown.error.Goals as goal

pub returns-clause-text : goal.returns-clause-text
returns-clause-text c =
    c.in_ok-text.ensures ∙ c.as_slice.ensures.value ∙ c.in_ok-bytes.ensures.text
    ∙ error_of_told (shown_name c.args.channel.now) c.as_str.result.now (c.as_str.ensures.value ∙ c.in_ok-said.ensures)
