-- A conversation of two ends, without links, ids and acknowledgements: messages are said, and heard in order.
use Rattle.std.specs.Prelude.{ℕ, Option, Some, None, List, [], ◌∷◌, ◌++◌, length, slice_get}
use Rattle.ra_model.specs.Worlds.{World, peer}
use Rattle.ra_base.specs.declared.event.Side.{Side}
use Rattle.ra_base.specs.declared.event.Side.TheVariants.{A, B}
use Rattle.ra_base.specs.declared.event.Event.{Event}
use Rattle.ra_base.specs.declared.event.Event.TheVariants.{Say, Take}
use Rattle.ra_model.specs.declared.fault.EventFault.{EventFault}
use Rattle.ra_model.specs.declared.session.Up.{Up as Delivery}
use Rattle.ra_model.specs.declared.session.Up.TheVariants.{Message, Control as ControlBody, Quiet, Ended as Closed}
use Rattle.ra_model.specs.Taking.{delivery}
use Rattle.ra_model.specs.Refusals.{refusal}
use Rattle.ra_model.specs.Events.{after}
use Rattle.ra_model.specs.Pairs.{messages}

pub record Conversation : Type 0 where
  pub said_a : List (List ℕ)
  pub heard_a : List (List ℕ)
  pub said_b : List (List ℕ)
  pub heard_b : List (List ℕ)

abbrev pub new_conversation : Conversation
new_conversation = record { said_a = []; heard_a = []; said_b = []; heard_b = [] }

pub data Step : Type 0 where
  Says : (side : Side) (message : List ℕ) → Step
  Hears : (side : Side) → Step

-- the message that follows what was heard, where there is one
abbrev pub with_next : Option (List ℕ) → List (List ℕ) → List (List ℕ)
with_next None heard = heard
with_next (Some message) heard = heard ++ message ∷ []

abbrev pub conversation_after : Step → Conversation → Conversation
conversation_after (Says A message) t = record t { said_a = t.said_a ++ message ∷ [] }
conversation_after (Says B message) t = record t { said_b = t.said_b ++ message ∷ [] }
conversation_after (Hears A) t = record t { heard_a = with_next (slice_get t.said_b (length t.heard_a)) t.heard_a }
conversation_after (Hears B) t = record t { heard_b = with_next (slice_get t.said_a (length t.heard_b)) t.heard_b }

abbrev pub conversed : List Step → Conversation → Conversation
conversed [] t = t
conversed (step ∷ steps) t = conversed steps (conversation_after step t)

-- what the two ends of a world said and heard
abbrev pub conversation_of : World → Conversation
conversation_of w = record { said_a = messages w.a.endpoint; heard_a = w.a.heard; said_b = messages w.b.endpoint; heard_b = w.b.heard }

-- what an end hears by what is handed up to it
abbrev pub steps_of_delivery : Side → Option Delivery → List Step
steps_of_delivery side None = []
steps_of_delivery side (Some (Message id body)) = Hears side ∷ []
steps_of_delivery side (Some (ControlBody body)) = []
steps_of_delivery side (Some Quiet) = []
steps_of_delivery side (Some Closed) = []

-- an event that is not refused is one step, or none
abbrev pub steps_of : World → Event → List Step
steps_of w (Say side body) = Says side body ∷ []
steps_of w (Take side) = steps_of_delivery side (delivery (peer side w).endpoint)
steps_of w event = []

abbrev pub unless_steps : Option EventFault → List Step → List Step
unless_steps None steps = steps
unless_steps (Some fault) steps = []

-- the steps of a run
abbrev pub run_steps : List Event → World → List Step
run_steps [] w = []
run_steps (event ∷ events) w = unless_steps (refusal w event) (steps_of w event) ++ run_steps events (after event w)
