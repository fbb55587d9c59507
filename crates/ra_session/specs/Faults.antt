-- What faults of an endpoint, of a channel client and of a channel server are to a session.
use Rattle.ra_base.specs.declared.key.Cause.TheVariants.{Disconnected}
use Rattle.ra_model.specs.declared.fault.EndFault.{EndFault}
use Rattle.ra_model.specs.declared.fault.EndFault.TheVariants as ends
use Rattle.ra_chan_client.specs.declared.fault.ClientFault.{ClientFault}
use Rattle.ra_chan_client.specs.declared.fault.ClientFault.TheVariants as client
use Rattle.std.specs.Prelude.{Option, Some, None}
use Rattle.ra_chan_server.specs.declared.fault.ServerFault.{ServerFault}
use Rattle.ra_chan_server.specs.declared.fault.ServerFault.TheVariants as server
use Rattle.ra_ipc.specs.declared.fault.PacketFault.{PacketFault}
use Rattle.ra_ipc.specs.declared.fault.PacketFault.TheVariants as packet
use Rattle.ra_session.specs.declared.values.IpcFault.{IpcFault}
use Rattle.ra_session.specs.declared.values.IpcFault.TheVariants as ipc
use Rattle.ra_session.specs.declared.values.SessionFault.{SessionFault}
use Rattle.ra_session.specs.declared.values.SessionFault.TheVariants as faults

abbrev pub fault_of : EndFault → SessionFault
fault_of ends.Ended = faults.Ended Disconnected
fault_of (ends.Stale current) = faults.Stale current
fault_of ends.NoLink = faults.NoLink
fault_of ends.NotJoining = faults.NoLink
fault_of (ends.TooLarge len) = faults.TooLarge len
fault_of ends.IdsSpent = faults.IdsSpent
fault_of (ends.TooLong stated) = faults.TooLong stated
fault_of ends.NoMemory = faults.NoMemory

abbrev pub client_fault_of : ClientFault → SessionFault
client_fault_of client.IdsSpent = faults.IdsSpent
client_fault_of (client.NoSuchCall id) = faults.NoSuchCall id
client_fault_of client.NoMemory = faults.NoMemory

-- what is wrong with a request that the server refuses
abbrev pub bad_request : ServerFault → Option IpcFault
bad_request (server.ActiveId id) = Some (ipc.ActiveId id)
bad_request (server.NoSuchCall id) = None
bad_request server.NoMemory = None

-- what is wrong with a message that has no reading
abbrev pub bad_reading : PacketFault → Option IpcFault
bad_reading (packet.Value at what) = Some (ipc.Packet (packet.Value at what))
bad_reading (packet.BadHeader at) = Some (ipc.Packet (packet.BadHeader at))
bad_reading packet.BadBody = Some (ipc.Packet packet.BadBody)
bad_reading (packet.Trailing at) = Some (ipc.Packet (packet.Trailing at))
bad_reading packet.NoMemory = None
