use Rattle.ra_ipc.specs.ReadMessage.{message_at}
use Rattle.ra_session.proofs.Meanings.{unread_is}
use Rattle.ra_session.proofs.TurnSteps.{no_reading}
use Rattle.ra_session.proofs.session.Session.take_packet.Goals as goal

pub spoil-requires : goal.spoil-requires
spoil-requires c =
    let reads = rw c.as_slice.ensures at c.in-Err.ensures.answer in
    let bad = no_reading _ _ (message_at c.args.next.body) c.in-Some.ensures reads in
    record {
      comes = c.requires.comes;
      bad = rw bad.1 (unread_is _ _ _ _ c.args.next.id c.args.next.body c.args.now _ c.requires.kind c.requires.packet bad.0);
    }
