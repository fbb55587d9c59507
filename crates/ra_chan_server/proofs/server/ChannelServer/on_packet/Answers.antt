use Rattle.std.proofs.Common.{◌≡◌, w32, to_z, of_z}
use Rattle.ra_ipc.specs.View.{id_of}
use Rattle.ra_chan_server.proofs.Ids.{same_id}
use Rattle.ra_chan_server.proofs.server.ChannelServer.on_packet.Goals as goal

pub returns-in-Promise-clause-refused : goal.returns-in-Promise-clause-refused
returns-in-Promise-clause-refused c =
    let fits = rw c.in-Promise.is at c.requires.fits in
    let same : id_of (to_z w32 (of_z w32 c.in-Promise.id)) ≡ id_of c.in-Promise.id = same_id c.in-Promise.id fits.0 in
    rw (c.in-Promise.is, ← same) c.promise.ensures.refused

pub returns-in-EventListen-clause-refused : goal.returns-in-EventListen-clause-refused
returns-in-EventListen-clause-refused c =
    let fits = rw c.in-EventListen.is at c.requires.fits in
    let same : id_of (to_z w32 (of_z w32 c.in-EventListen.id)) ≡ id_of c.in-EventListen.id = same_id c.in-EventListen.id fits.0 in
    rw (c.in-EventListen.is, ← same) c.listen.ensures.refused
