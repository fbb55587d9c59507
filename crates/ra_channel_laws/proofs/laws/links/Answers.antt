use Rattle.ra_channel_laws.proofs.Links.{client_silent, server_silent}
use Rattle.ra_channel_laws.proofs.Silence.{silent_attach, silent_feed, silent_out, silent_lose, silent_leave, silent_end}
use Rattle.ra_channel_laws.proofs.laws.links.Goals as goal

pub returns-clause-client : goal.returns-clause-client
returns-clause-client c = client_silent

pub returns-clause-server : goal.returns-clause-server
returns-clause-server c = server_silent

pub returns-clause-attach : goal.returns-clause-attach
returns-clause-attach c = silent_attach

pub returns-clause-feed : goal.returns-clause-feed
returns-clause-feed c = silent_feed

pub returns-clause-take_out : goal.returns-clause-take_out
returns-clause-take_out c = silent_out

pub returns-clause-lose : goal.returns-clause-lose
returns-clause-lose c = silent_lose

pub returns-clause-leave : goal.returns-clause-leave
returns-clause-leave c = silent_leave

pub returns-clause-end : goal.returns-clause-end
returns-clause-end c = silent_end
