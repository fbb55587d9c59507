-- Messages that are said one after the other, all or none.
use Rattle.std.specs.Prelude.{ℕ, ◌+◌, ◌-◌, nat_lt, Option, None, List, [], ◌∷◌, length, map, if◌then◌else◌, Bool}
use Rattle.ra_model.specs.declared.frame.Frame.{Frame}
use Rattle.ra_model.specs.declared.session.Entry.{Entry}
use Rattle.ra_model.specs.declared.session.Phase.{Phase}
use Rattle.ra_model.specs.declared.fault.EndFault.{EndFault}
use Rattle.ra_model.specs.declared.fault.EndFault.TheVariants.{IdsSpent}
use Rattle.ra_model.specs.Frames.{last_id}
use Rattle.ra_model.specs.Endpoints.{Endpoint, entry_frame}
use Rattle.ra_model.specs.Calls.{say}
use Rattle.ra_model.specs.Refusals.{or_fault, fault_if, if_ended, if_large}

unfoldable pub say_all : List (List ℕ) → ℕ → Endpoint → Endpoint
say_all [] now e = e
say_all (body ∷ bodies) now e = say_all bodies now (say body now e)

-- of the first of these bodies that is above the limit
abbrev pub first_large : List (List ℕ) → Option EndFault
first_large [] = None
first_large (body ∷ bodies) = or_fault (if_large (length body)) (first_large bodies)

-- where `last` is the last id given: all bodies get ids, or none does
abbrev pub say_all_fault : Phase → (last : ℕ) → List (List ℕ) → Option EndFault
say_all_fault phase last bodies =
    or_fault (if_ended phase) (or_fault (first_large bodies) (fault_if (nat_lt (last_id - last) (length bodies)) IdsSpent))

-- Parts of it

-- the messages in the queue, with the ids behind the last one
abbrev pub said_entries : (last ack : ℕ) → (written : Option ℕ) → List (List ℕ) → List Entry
said_entries last ack written [] = []
said_entries last ack written (body ∷ bodies) =
    record { id = last + 1; ack = ack; body = body; written = written } ∷ said_entries (last + 1) ack written bodies

-- the frames of messages, where they are written
abbrev pub frames_when : Bool → List Entry → List Frame
frames_when b entries = if b then map entry_frame entries else []
