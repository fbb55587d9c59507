use Rattle.std.proofs.Common.{◌≡◌, length, rules}
use Rattle.ra_model.specs.Timing.{watched}
use Rattle.ra_proto.proofs.SayingAll.{said_all_consistent, said_all_stands}
use Rattle.ra_proto.proofs.endpoint.Endpoint.say_each.Goals as goal

pub invariant_of-self-2 : goal.invariant_of-self-2
unfolding watched
invariant_of-self-2 c =
    let count : c.len-count.result ≡ length c.args.bodies.items = search rules in
    let k = said_all_consistent c.args.bodies.items c.later-now.result _ c.requires.some c.self.invariant.0 c.requires.sizes in
    (rw (count, c.in_ok-enqueue_all.ensures.queue, c.is_up-is_up.ensures) (record { all = k.all; id = k.id; fits = k.fits; told = k.told }), rw (c.watched-self-inside.ensures) c.later-now.ensures.bound, rw (c.watched-self-inside.ensures) c.self.invariant.2)

pub returns-clause-stands : goal.returns-clause-stands
returns-clause-stands c =
    let count : c.len-count.result ≡ length c.args.bodies.items = search rules in
    let going = rw (← c.self.view_is) at c.requires.going in
    let room = rw (← c.self.view_is) at c.requires.ids in
    rw (c.watched-self-inside.ensures, c.waits.ensures, c.oldest_written.ensures, c.in_ok-enqueue_all.ensures.queue, c.in_ok-enqueue_all.ensures.unwritten, c.is_up-is_up.ensures, count, c.later-now.ensures.value, ← c.self.view_is)
    (said_all_stands c.args.bodies.items c.args.now _ c.requires.some c.self.invariant.0 going c.requires.sizes room)
