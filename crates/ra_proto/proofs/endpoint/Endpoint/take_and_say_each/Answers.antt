use Rattle.std.proofs.Common.{◌≡◌, ◌≤◌, length, ap, sym, subst, ◌∙◌, arith, rules}
use Rattle.ra_model.specs.EndpointStates.{EndpointState, StandsFor}
use Rattle.ra_model.specs.Timing.{watched}
use Rattle.ra_model.specs.Taking.{take_frame}
use Rattle.ra_proto.specs.SayAll.{say_all}
use Rattle.ra_proto.proofs.TakenThenSaid.{closed, put_consistent, answered_stands}
use Rattle.ra_proto.proofs.endpoint.Endpoint.take_and_say_each.Goals as goal

pub invariant_of-self-2 : goal.invariant_of-self-2
invariant_of-self-2 c =
    let count : c.len-count.result ≡ length c.args.bodies.items = search rules in
    let before : c.self.inside.received ≡ c.args.self.now.received = ap (λ (x : EndpointState). x.received) c.self.view_is in
    let later : c.self.inside.received ≤ c.args.id = omega (arith, c.requires.next.next) in
    let k = put_consistent c.args.bodies.items c.args.id c.later-moment.result _ c.requires.some later c.requires.sizes c.self.invariant.0 in
    (rw (count, c.in_ok-enqueue_all.ensures.queue, c.is_up-is_up.ensures) (record { all = k.all; id = k.id; fits = k.fits; told = k.told }), c.self.invariant.1, c.self.invariant.2)

pub invariant_of-self-3 : goal.invariant_of-self-3
unfolding watched
invariant_of-self-3 c =
    let k = c.self-2.invariant.0 in
    let last : c.self-2.inside.received ≡ c.args.id = ap (λ (x : EndpointState). x.received) (c.self-2.view_is ∙ c.receive.ensures.received) in
    (record { all = k.all; id = k.id; fits = k.fits; told = omega (arith, last) }, rw (c.watched-self-inside.ensures) c.self-2.invariant.1, rw (c.watched-self-inside.ensures) c.self-2.invariant.2)

pub returns-clause-stands : goal.returns-clause-stands
returns-clause-stands c =
    let count : c.len-count.result ≡ length c.args.bodies.items = search rules in
    let going = rw (← c.self.view_is) at c.requires.going in
    let room = rw (← c.self.view_is) at c.requires.ids in
    let next = rw (← c.self.view_is) at c.requires.next in
    rw (c.watched-self-inside.ensures, c.waits.ensures, c.oldest_written.ensures, c.skip.ensures)
    (λ e h. subst (λ (x : EndpointState). StandsFor (closed c.is_up-is_up.result c.args.id c.args.len c.later-moment.result x) (say_all c.args.bodies.items c.args.now (take_frame c.args.now e))) (sym (c.self-2.view_is ∙ c.receive.ensures.received))
    (let stands = rw (← c.self.view_is) at h in
    rw (c.min-acknowledged.ensures, c.in_ok-enqueue_all.ensures.queue, c.in_ok-enqueue_all.ensures.unwritten, count, c.is_up-is_up.ensures, c.later-moment.ensures.value)
    (answered_stands next c.args.bodies.items c.args.now c.requires.some c.self.invariant.0 going c.requires.sizes room e stands)))
