-- The message that a packet stands for.
use Rattle.std.specs.Prelude.{ℕ, ℤ}
use Rattle.std.specs.Int.{w32, cast_unsigned}
use Rattle.ra_values.specs.View.{tree}
use Rattle.ra_ipc.specs.Messages.{Reply, success, error, error_obj, Message, promise, promise_cancel, event_listen, event_dispose, initialize, response, event_fire}
use Rattle.ra_ipc.specs.declared.packet.Packet.{Packet}
use Rattle.ra_ipc.specs.declared.packet.Packet.TheVariants as packet
use Rattle.ra_ipc.specs.declared.packet.Answer.{Answer}
use Rattle.ra_ipc.specs.declared.packet.Answer.TheVariants as answer

-- an id, as its 32 bits
abbrev pub id_of : ℤ → ℕ
id_of n = cast_unsigned w32 n

abbrev pub message : Packet → Message
message (packet.Promise id channel name arg) = promise (id_of id) channel name (tree arg)
message (packet.PromiseCancel id) = promise_cancel (id_of id)
message (packet.EventListen id channel name arg) = event_listen (id_of id) channel name (tree arg)
message (packet.EventDispose id) = event_dispose (id_of id)
message packet.Initialize = initialize
message (packet.PromiseSuccess id body) = response (id_of id) (success (tree body))
message (packet.PromiseError id body) = response (id_of id) (error (tree body))
message (packet.PromiseErrorObj id body) = response (id_of id) (error_obj (tree body))
message (packet.EventFire id body) = event_fire (id_of id) (tree body)

abbrev pub reply : Answer → Reply
reply (answer.Success body) = success (tree body)
reply (answer.Error body) = error (tree body)
reply (answer.ErrorObj body) = error_obj (tree body)
