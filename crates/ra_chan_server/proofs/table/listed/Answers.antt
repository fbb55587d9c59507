use Rattle.std.proofs.Common.{map, sym}
use Rattle.std.proofs.lemmas.List.{map-append}
use Rattle.ra_chan_server.specs.View.{active_of}
use Rattle.ra_chan_server.proofs.Entries.{all_shown, next_shown, none_shown, none_left}
use Rattle.ra_chan_server.proofs.table.listed.Goals as goal

pub loop-arrival-init : goal.loop-arrival-init
loop-arrival-init c =
    rw (c.new-found.ensures.items, c.into_iter-arrival-iterator.ensures.into_iter_gives, c.iter-arrival-items.ensures.rest, c.requires.here) (all_shown c.args.requests.now.entries c.requires.order)

pub loop-arrival-preserved-in-Continue-1 : goal.loop-arrival-preserved-in-Continue-1
loop-arrival-preserved-in-Continue-1 c =
    rw (c.in_ok-push.ensures.items, map-append) (next_shown c.args.requests.now.entries (map (λ r. active_of r.now) c.loop-arrival.found.items) _ c.loop-arrival.arrival-iterator c.in-Some.arrival.now c.next.new.self c.in-Some-get.request.now
    c.in-Some.ensures.steps (sym c.in-Some-get.ensures.value) c.loop-arrival.invariant)

pub loop-arrival-preserved : goal.loop-arrival-preserved
loop-arrival-preserved c =
    none_shown c.args.requests.now.entries (map (λ r. active_of r.now) c.loop-arrival.found.items) _ c.loop-arrival.arrival-iterator c.in-Some.arrival.now c.next.new.self
    c.in-Some.ensures.steps (sym c.in_default.ensures.value) c.loop-arrival.invariant

pub returns : goal.returns
returns c = none_left c.args.requests.now.entries (map (λ r. active_of r.now) c.loop-arrival.found.items) _ c.loop-arrival.arrival-iterator c.in-None.ensures.steps.0 c.loop-arrival.invariant
