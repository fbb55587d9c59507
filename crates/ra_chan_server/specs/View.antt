-- How a contract sees what the calls of a channel server take and give.
use Rattle.std.specs.Prelude.{◌≡◌, ℕ, Option, Some}
use Rattle.ra_values.specs.View.{tree}
use Rattle.ra_ipc.specs.View.{id_of}
use Rattle.ra_ipc.specs.ChannelServers as model
use Rattle.ra_chan_server.specs.declared.call.Call.{Call}
use Rattle.ra_chan_server.specs.declared.fault.ServerFault.{ServerFault}
use Rattle.ra_chan_server.specs.declared.fault.ServerFault.TheVariants as fault
use Rattle.ra_chan_server.specs.declared.request.Request.{Request}
use Rattle.ra_chan_server.specs.declared.request.Request.TheVariants as request

abbrev pub call_of : Call → model.Call
call_of c = record { id = id_of c.id; channel = c.channel; name = c.name; arg = tree c.arg; cancelled = c.cancelled }

abbrev pub active_of : Request → model.Active
active_of (request.WaitingCall call until) = model.waiting_call (id_of call.id) call.channel call.name (tree call.arg) call.cancelled until
active_of (request.HandedCall id) = model.handed_call (id_of id)
active_of (request.WaitingListen id channel event until) = model.waiting_listen (id_of id) channel event until
active_of (request.Listener id channel event) = model.listener (id_of id) channel event

-- the refusal that an id is active, and of which; want of memory may come at any time
abbrev pub IsActiveId : ServerFault → Option ℕ → Type 0
IsActiveId (fault.ActiveId id) active = active ≡ Some (id_of id)
IsActiveId (fault.NoSuchCall id) active = ⊥
IsActiveId fault.NoMemory active = Unit {0}
