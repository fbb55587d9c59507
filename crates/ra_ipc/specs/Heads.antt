-- A header that the code took apart, as the tree that it came from.
use Rattle.std.specs.Prelude.{◌≡◌, ℕ, ℤ, ◌<◌, ◌^◌, Bool, true, false, not, Result, Ok, Err, if◌then◌else◌}
use Rattle.ra_values.specs.Tree.{Tree, int, text, Trees, none, more}
use Rattle.ra_ipc.specs.View.{id_of}
use Rattle.ra_ipc.specs.Packets.{single}
use Rattle.ra_ipc.specs.ReadMessage.{is_undefined}
use Rattle.ra_ipc.specs.Messages.{success, error, error_obj, Message, promise, promise_cancel, event_listen, event_dispose, initialize, response, event_fire}
use Rattle.ra_ipc.specs.declared.fault.PacketFault.{PacketFault}
use Rattle.ra_ipc.specs.declared.fault.PacketFault.TheVariants as faults
use Rattle.ra_ipc.specs.declared.header.Head.{Head}
use Rattle.ra_ipc.specs.declared.header.Head.TheVariants.{Promise, Cancel, Listen, Dispose, Initialize, Success, Error, ErrorObj, Fire}
use Rattle.ra_ipc.specs.declared.header.Target.{Target}

abbrev pub IsTarget : Target → Trees → Type 0
IsTarget t elements = (elements ≡ more (int (id_of t.id)) (more (text t.channel.now) (single (text t.name.now)))) × (id_of t.id < 2 ^ 31)

abbrev pub IsAlone : ℤ → Trees → Type 0
IsAlone id elements = (elements ≡ single (int (id_of id))) × (id_of id < 2 ^ 31)

-- the code, and what follows it
abbrev pub IsHead : Head → ℕ → Trees → Type 0
IsHead (Promise t) code elements = (code ≡ 100) × IsTarget t elements
IsHead (Cancel id) code elements = (code ≡ 101) × IsAlone id elements
IsHead (Listen t) code elements = (code ≡ 102) × IsTarget t elements
IsHead (Dispose id) code elements = (code ≡ 103) × IsAlone id elements
IsHead Initialize code elements = (code ≡ 200) × (elements ≡ none)
IsHead (Success id) code elements = (code ≡ 201) × IsAlone id elements
IsHead (Error id) code elements = (code ≡ 202) × IsAlone id elements
IsHead (ErrorObj id) code elements = (code ≡ 203) × IsAlone id elements
IsHead (Fire id) code elements = (code ≡ 204) × IsAlone id elements

-- whether the body is any value
abbrev pub takes_body : Head → Bool
takes_body (Promise t) = true
takes_body (Cancel id) = false
takes_body (Listen t) = true
takes_body (Dispose id) = false
takes_body Initialize = false
takes_body (Success id) = true
takes_body (Error id) = true
takes_body (ErrorObj id) = true
takes_body (Fire id) = true

-- the message with this header and this body
abbrev pub head_message : Head → Tree → Message
head_message (Promise t) b = promise (id_of t.id) t.channel.now t.name.now b
head_message (Cancel id) b = promise_cancel (id_of id)
head_message (Listen t) b = event_listen (id_of t.id) t.channel.now t.name.now b
head_message (Dispose id) b = event_dispose (id_of id)
head_message Initialize b = initialize
head_message (Success id) b = response (id_of id) (success b)
head_message (Error id) b = response (id_of id) (error b)
head_message (ErrorObj id) b = response (id_of id) (error_obj b)
head_message (Fire id) b = event_fire (id_of id) b

-- a body that the header does not allow
abbrev pub refuses_body : Head → Tree → Bool
refuses_body h b = if takes_body h then false else not (is_undefined b)

abbrev pub head_with_body : Head → Tree → Result Message PacketFault
head_with_body h b = if refuses_body h b then Err faults.BadBody else Ok (head_message h b)
