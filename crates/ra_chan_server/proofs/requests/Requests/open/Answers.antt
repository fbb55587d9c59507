use Rattle.std.proofs.Common.{sym, ap, ◌∙◌}
use Rattle.std.specs.Option.{option_and_then}
use Rattle.ra_chan_server.specs.Requests.{opened, opened_call}
use Rattle.ra_chan_server.specs.Held.{actives}
use Rattle.ra_chan_server.specs.View.{call_of}
use Rattle.ra_chan_server.proofs.Lists.{none_changes}
use Rattle.ra_chan_server.proofs.Entries.{held_open_call, held_open_other, at_arrival, active_found, active_not_found, lacks, here_ascending}
use Rattle.ra_chan_server.proofs.requests.Requests.open.Goals as goal

pub returns-in_err-arrival-clause-after : goal.returns-in_err-arrival-clause-after
returns-in_err-arrival-clause-after c =
    rw (← c.self.view_is) (sym (none_changes c.args.id opened (actives c.self.inside.by_arrival.entries) (lacks c.args.id c.self.inside.by_arrival.entries (sym c.in_err-arrival.ensures.arrival))))

pub returns-in_err-arrival-clause-call : goal.returns-in_err-arrival-clause-call
returns-in_err-arrival-clause-call c = rw (c.from_residual.ensures, ← c.self.view_is) (ap (option_and_then opened_call) (active_not_found c.args.id c.self.inside.by_arrival.entries c.in_err-arrival.ensures.request))

pub invariant_of-self : goal.invariant_of-self
invariant_of-self c =
    let looks = at_arrival c.args.id c.in_ok-arrival.arrival c.self.inside.by_arrival.entries c.in_ok-arrival.field-0-1.now c.in_ok-arrival.ensures.arrival c.in_ok-arrival.ensures.request c.self.invariant.order.ascending in
    (held_open_other c.self.inside.next c.args.id c.in_ok-arrival.arrival c.self.inside.by_arrival.entries c.open.new.requests.entries c.self.inside.arrivals.entries c.self.inside.not_handed.keys c.in_ok-arrival.field-0-1.now
    c.self.invariant c.in_ok-arrival.ensures.arrival c.in_ok-arrival.ensures.request c.open.ensures.after (sym (c.in_err-call.ensures.call c.in_ok-arrival.field-0-1.now looks))).0

pub returns-in_err-call-clause-after : goal.returns-in_err-call-clause-after
returns-in_err-call-clause-after c =
    let looks = at_arrival c.args.id c.in_ok-arrival.arrival c.self.inside.by_arrival.entries c.in_ok-arrival.field-0-1.now c.in_ok-arrival.ensures.arrival c.in_ok-arrival.ensures.request c.self.invariant.order.ascending in
    rw (← c.self.view_is)
    (held_open_other c.self.inside.next c.args.id c.in_ok-arrival.arrival c.self.inside.by_arrival.entries c.open.new.requests.entries c.self.inside.arrivals.entries c.self.inside.not_handed.keys c.in_ok-arrival.field-0-1.now
    c.self.invariant c.in_ok-arrival.ensures.arrival c.in_ok-arrival.ensures.request c.open.ensures.after (sym (c.in_err-call.ensures.call c.in_ok-arrival.field-0-1.now looks))).1

pub returns-in_err-call-clause-call : goal.returns-in_err-call-clause-call
returns-in_err-call-clause-call c =
    let looks = at_arrival c.args.id c.in_ok-arrival.arrival c.self.inside.by_arrival.entries c.in_ok-arrival.field-0-1.now c.in_ok-arrival.ensures.arrival c.in_ok-arrival.ensures.request c.self.invariant.order.ascending in
    rw (c.from_residual-in_err-call.ensures, ← c.self.view_is)
    (c.in_err-call.ensures.call c.in_ok-arrival.field-0-1.now looks ∙ ap (option_and_then opened_call) (active_found c.args.id c.self.inside.by_arrival.entries c.in_ok-arrival.field-0-1.now c.in_ok-arrival.ensures.request))

pub invariant_of-self-2 : goal.invariant_of-self-2
invariant_of-self-2 c =
    let looks = at_arrival c.args.id c.in_ok-arrival.arrival c.self.inside.by_arrival.entries c.in_ok-arrival.field-0-1.now c.in_ok-arrival.ensures.arrival c.in_ok-arrival.ensures.request c.self.invariant.order.ascending in
    (held_open_call c.self.inside.next c.args.id c.in_ok-arrival.arrival c.self.inside.by_arrival.entries c.open.new.requests.entries c.self.inside.arrivals.entries c.self.inside.not_handed.keys c.take.new.arrivals.keys c.in_ok-arrival.field-0-1.now (call_of c.in_ok-call.call)
    c.self.invariant c.in_ok-arrival.ensures.arrival c.in_ok-arrival.ensures.request c.open.ensures.after (sym (c.in_ok-call.ensures.call c.in_ok-arrival.field-0-1.now looks))
    (c.take.ensures (rw c.self.invariant.here (here_ascending c.self.inside.by_arrival.entries c.self.invariant.order.ascending)))).0

pub returns-clause-after : goal.returns-clause-after
returns-clause-after c =
    let looks = at_arrival c.args.id c.in_ok-arrival.arrival c.self.inside.by_arrival.entries c.in_ok-arrival.field-0-1.now c.in_ok-arrival.ensures.arrival c.in_ok-arrival.ensures.request c.self.invariant.order.ascending in
    rw (← c.self.view_is)
    (held_open_call c.self.inside.next c.args.id c.in_ok-arrival.arrival c.self.inside.by_arrival.entries c.open.new.requests.entries c.self.inside.arrivals.entries c.self.inside.not_handed.keys c.take.new.arrivals.keys c.in_ok-arrival.field-0-1.now (call_of c.in_ok-call.call)
    c.self.invariant c.in_ok-arrival.ensures.arrival c.in_ok-arrival.ensures.request c.open.ensures.after (sym (c.in_ok-call.ensures.call c.in_ok-arrival.field-0-1.now looks))
    (c.take.ensures (rw c.self.invariant.here (here_ascending c.self.inside.by_arrival.entries c.self.invariant.order.ascending)))).1

pub returns-clause-call : goal.returns-clause-call
returns-clause-call c =
    let looks = at_arrival c.args.id c.in_ok-arrival.arrival c.self.inside.by_arrival.entries c.in_ok-arrival.field-0-1.now c.in_ok-arrival.ensures.arrival c.in_ok-arrival.ensures.request c.self.invariant.order.ascending in
    rw (← c.self.view_is)
    (c.in_ok-call.ensures.call c.in_ok-arrival.field-0-1.now looks ∙ ap (option_and_then opened_call) (active_found c.args.id c.self.inside.by_arrival.entries c.in_ok-arrival.field-0-1.now c.in_ok-arrival.ensures.request))
