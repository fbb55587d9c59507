use Rattle.ra_model.specs.Timing.{watched}
use Rattle.ra_model.proofs.Consistent.{said_consistent}
use Rattle.ra_model.proofs.Stands.{say_stands}
use Rattle.ra_proto.proofs.endpoint.Endpoint.say_checked.Goals as goal

pub invariant_of-self-2 : goal.invariant_of-self-2
unfolding watched
invariant_of-self-2 c =
    let k = said_consistent c.args.body c.later-now.result _ c.requires.limit c.self.invariant.0 in
    (rw (c.in_ok-enqueue.ensures.queue, c.written_at.ensures, c.is_up-is_up.ensures) (record { all = k.all; id = k.id; fits = k.fits; told = k.told }), rw (c.watched-self-inside.ensures) c.later-now.ensures.bound, rw (c.watched-self-inside.ensures) c.self.invariant.2)

pub returns-clause-stands : goal.returns-clause-stands
returns-clause-stands c =
    let going = rw (← c.self.view_is) at c.requires.going in
    let room = rw (← c.self.view_is) at c.requires.ids in
    rw (c.watched-self-inside.ensures, c.waits.ensures, c.oldest_written.ensures, c.in_ok-enqueue.ensures.queue, c.in_ok-enqueue.ensures.unwritten, c.written_at.ensures, c.is_up-is_up.ensures, c.later-now.ensures.value, ← c.self.view_is)
    (say_stands c.args.body c.args.now _ c.self.invariant.0 going c.requires.limit room)
