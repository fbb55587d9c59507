-- The spelling of a message: its header value followed by its body value.
use Rattle.std.specs.Prelude.{◌≡◌, ℕ, ◌<◌, ◌^◌, List, ◌++◌}
use Rattle.ra_values.specs.Tree.{Tree, undefined, text, array, int, Trees, none, more}
use Rattle.ra_values.specs.Spelling.{Spells, Fits, levels}
use Rattle.ra_values.specs.ValueBytes.{value_bytes}
use Rattle.ra_ipc.specs.Messages.{Reply, success, error, error_obj, Message, promise, promise_cancel, event_listen, event_dispose, initialize, response, event_fire}

abbrev pub single : Tree → Trees
single t = more t none

abbrev pub reply_code : Reply → ℕ
reply_code (success body) = 201
reply_code (error body) = 202
reply_code (error_obj body) = 203

abbrev pub reply_body : Reply → Tree
reply_body (success body) = body
reply_body (error body) = body
reply_body (error_obj body) = body

-- a code, and what the code asks for
abbrev pub header : Message → Tree
header (promise id channel name arg) = array (more (int 100) (more (int id) (more (text channel) (single (text name)))))
header (promise_cancel id) = array (more (int 101) (single (int id)))
header (event_listen id channel event arg) = array (more (int 102) (more (int id) (more (text channel) (single (text event)))))
header (event_dispose id) = array (more (int 103) (single (int id)))
header initialize = array (single (int 200))
header (response id reply) = array (more (int (reply_code reply)) (single (int id)))
header (event_fire id body) = array (more (int 204) (single (int id)))

abbrev pub body : Message → Tree
body (promise id channel name arg) = arg
body (promise_cancel id) = undefined
body (event_listen id channel event arg) = arg
body (event_dispose id) = undefined
body initialize = undefined
body (response id reply) = reply_body reply
body (event_fire id b) = b

abbrev pub id_fits : Message → Type 0
id_fits (promise id channel name arg) = id < 2 ^ 31
id_fits (promise_cancel id) = id < 2 ^ 31
id_fits (event_listen id channel event arg) = id < 2 ^ 31
id_fits (event_dispose id) = id < 2 ^ 31
id_fits initialize = Unit {0}
id_fits (response id reply) = id < 2 ^ 31
id_fits (event_fire id b) = id < 2 ^ 31

-- header and body, and nothing else
abbrev pub SpellsMessage : Message → List ℕ → Type 0
SpellsMessage m bytes = (h : List ℕ) × (b : List ℕ) × id_fits m × Spells levels (header m) h × Spells levels (body m) b × (bytes ≡ h ++ b)

-- what can be written
abbrev pub MessageFits : Message → Type 0
MessageFits m = id_fits m × Fits levels (header m) × Fits levels (body m)

-- The spelling as a function. That it is the spelling is a law.
unfoldable pub message_bytes : Message → List ℕ
message_bytes m = value_bytes (header m) ++ value_bytes (body m)
