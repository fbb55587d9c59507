-- What holds of the spellings of messages, apart from reading and writing in code.
use Rattle.std.specs.Prelude.{◌≡◌, ℕ, List, ◌++◌, Ok}
use Rattle.ra_ipc.specs.Messages.{Message}
use Rattle.ra_ipc.specs.Packets.{SpellsMessage, MessageFits, message_bytes}
use Rattle.ra_ipc.specs.ReadMessage.{message_at}

-- A message that fits has a spelling, which the function of bytes gives.
abbrev pub EachIsSpelled : Type 0
EachIsSpelled = (m : Message) → MessageFits m → SpellsMessage m (message_bytes m)

-- Any other message has none.
abbrev pub OthersAreNotSpelled : Type 0
OthersAreNotSpelled = (m : Message) (bytes : List ℕ) → SpellsMessage m bytes → MessageFits m

-- A message has one spelling, and no spelling begins another, also of another message.
abbrev pub NoneBeginsAnother : Type 0
NoneBeginsAnother = (m n : Message) (a b x y : List ℕ) → SpellsMessage m a → SpellsMessage n b → a ++ x ≡ b ++ y → (m ≡ n) × (a ≡ b)

-- A spelling is read as its message.
abbrev pub SpelledIsRead : Type 0
SpelledIsRead = (m : Message) (bytes : List ℕ) → SpellsMessage m bytes → message_at bytes ≡ Ok m
