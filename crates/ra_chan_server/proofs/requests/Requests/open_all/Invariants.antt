use Rattle.std.proofs.Common.{◌≡◌, ◌≤◌, ◌+◌, ◌-◌, ◌++◌, map, drop, length, vec_len, vec_capacity}
use Rattle.ra_chan_server.specs.View.{call_of}
use Rattle.ra_chan_server.proofs.Several.{opened_after, calls_after}
use Rattle.ra_chan_server.proofs.requests.Requests.open_all.Given as goal

abbrev pub invariant-loop-id : goal.invariant-loop-id
invariant-loop-id l = record {
  after : opened_after (drop l.id-index l.ids) l.self ≡ opened_after l.ids l.fn.self;
  calls : map call_of l.calls.items ++ calls_after (drop l.id-index l.ids) l.self ≡ map call_of l.fn.calls.items ++ calls_after l.ids l.fn.self;
  room : vec_len l.calls + (length l.ids - l.id-index) ≤ vec_capacity l.calls;
}
