-- The acks of the frames that an endpoint applied.
use Rattle.std.specs.Prelude.{ℕ, min, max, Bool, true, false, if◌then◌else◌, Option, Some, None, List, [], ◌∷◌, ◌++◌}
use Rattle.ra_model.specs.declared.frame.Frame.{Frame}
use Rattle.ra_base.specs.declared.event.Side.{Side}
use Rattle.ra_base.specs.declared.event.Side.TheVariants.{A, B}
use Rattle.ra_base.specs.declared.event.Event.{Event}
use Rattle.ra_base.specs.declared.event.Event.TheVariants.{Take}
use Rattle.ra_model.specs.declared.fault.EventFault.{EventFault}
use Rattle.ra_model.specs.Endpoints.{Endpoint, sent}
use Rattle.ra_model.specs.Taking.{next_frame}
use Rattle.ra_model.specs.Worlds.{World, peer}
use Rattle.ra_model.specs.Refusals.{refusal}
use Rattle.ra_model.specs.Events.{after}

abbrev pub is_same : Side → Side → Bool
is_same A A = true
is_same A B = false
is_same B A = false
is_same B B = true

-- no more counts than was sent by then
abbrev pub counted_ack : Endpoint → Option (Frame × List ℕ) → List ℕ
counted_ack e None = []
counted_ack e (Some next) = min next.0.ack (sent e) ∷ []

-- the ack that an event applies at a side, where it applies one
abbrev pub acks_of : Side → World → Event → List ℕ
acks_of s w (Take side) =
    let e = (peer side w).endpoint in if is_same s side then counted_ack e (next_frame e) else []
acks_of s w event = []

abbrev pub unless_acks : Option EventFault → List ℕ → List ℕ
unless_acks None acks = acks
unless_acks (Some fault) acks = []

-- the acks that a side applied in a run
abbrev pub run_acks : Side → List Event → World → List ℕ
run_acks s [] w = []
run_acks s (event ∷ events) w = unless_acks (refusal w event) (acks_of s w event) ++ run_acks s events (after event w)

-- the greatest of a number and the numbers of a list
abbrev pub greatest : ℕ → List ℕ → ℕ
greatest n [] = n
greatest n (m ∷ ms) = greatest (max n m) ms
