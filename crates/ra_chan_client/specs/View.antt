-- How a contract sees what the calls of a channel client take and give.
use Rattle.std.specs.Prelude.{ℕ, ◌<◌, ◌^◌, List, length, Option, Some, None, map, Bool, if◌then◌else◌}
use Rattle.std.specs.List.{AllByRecursion}
use Rattle.ra_values.specs.Tree.{Tree}
use Rattle.ra_values.specs.Spelling.{Fits, levels}
use Rattle.ra_values.specs.View.{tree}
use Rattle.ra_ipc.specs.Messages.{Message}
use Rattle.ra_ipc.specs.Packets.{MessageFits}
use Rattle.ra_ipc.specs.View.{message, id_of, reply}
use Rattle.ra_ipc.specs.ChannelPackets.{Notice, ready, settled, fired}
use Rattle.ra_chan_client.specs.declared.hearing.Heard.{Heard}
use Rattle.ra_chan_client.specs.declared.hearing.Heard.TheVariants as heard

-- a text as a channel, one as a name, and an argument can be written
abbrev pub RequestFits : List ℕ → List ℕ → Tree → Type 0
RequestFits channel name arg = (length channel < 2 ^ 32) × (length name < 2 ^ 32) × Fits levels arg

-- a packet that goes out now, if the server is ready
abbrev pub if_ready : Bool → Message → Option Message
if_ready is_ready m = if is_ready then Some m else None

abbrev pub notice : Heard → Option Notice
notice (heard.Ready packets) = Some (ready (map message packets.items))
notice (heard.Settled id answer) = Some (settled (id_of id) (reply answer))
notice (heard.Fired id body) = Some (fired (id_of id) (tree body))
notice heard.Ignored = None

-- the requests can be written
abbrev pub NoticeFits : Heard → Type 0
NoticeFits (heard.Ready packets) = AllByRecursion (λ p. MessageFits (message p)) packets.items
NoticeFits _ = Unit {0}
