use Rattle.ra_channel_laws.proofs.Frames.{never_bad}
use Rattle.ra_channel_laws.proofs.ClientHearing.{client_turn, client_means}
use Rattle.ra_channel_laws.proofs.ServerHearing.{server_turn, server_means}
use Rattle.ra_channel_laws.proofs.laws.hearing.Goals as goal

pub returns-clause-client : goal.returns-clause-client
returns-clause-client c = client_turn

pub returns-clause-server : goal.returns-clause-server
returns-clause-server c = server_turn

pub returns-clause-client_good : goal.returns-clause-client_good
returns-clause-client_good c context d s settled fired i j now links bad body v h =
    never_bad now d bad body (client_means context d s settled fired i j now links v h)

pub returns-clause-server_good : goal.returns-clause-server_good
returns-clause-server_good c context d s settled fired i j now links bad body v h =
    never_bad now s bad body (server_means context d s settled fired i j now links v h)
