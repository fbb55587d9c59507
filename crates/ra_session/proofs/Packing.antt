-- Lists of packets.
use Rattle.std.proofs.Common.{◌≡◌, List, [], ◌∷◌, ◌++◌, map, refl, ap}
use Rattle.std.specs.List.{AllByRecursion}
use Rattle.ra_ipc.specs.Messages.{Message}
use Rattle.ra_ipc.specs.Packets.{MessageFits}
use Rattle.ra_ipc.specs.View.{message}
use Rattle.ra_ipc.specs.declared.packet.Packet.{Packet}

-- packets that can be written, one by one and as messages
pub all_fit : (ps : List Packet) → AllByRecursion (λ p. MessageFits (message p)) ps → AllByRecursion MessageFits (map message ps)
all_fit [] fit = tt
all_fit (p ∷ ps) fit = (fit.0, all_fit ps fit.1)

pub all_push : {X : Type 0} (P : X → Type 0) (xs : List X) (x : X) → AllByRecursion P xs → P x → AllByRecursion P (xs ++ x ∷ [])
all_push P [] x h p = (p, tt)
all_push P (y ∷ ys) x h p = (h.0, all_push P ys x h.1 p)

pub messages_push : (ps : List Packet) (p : Packet) → map message (ps ++ p ∷ []) ≡ map message ps ++ message p ∷ []
messages_push [] p = refl
messages_push (q ∷ ps) p = ap (λ (ms : List Message). message q ∷ ms) (messages_push ps p)
