-- Which client an event is about.
use Rattle.std.specs.Prelude.{◌≢◌, ℕ, ◌+◌, Option, Some, None, option_map, List, [], ◌∷◌, length, ⊤}
use Rattle.ra_model.specs.Links.{at_number}
use Rattle.ra_script.specs.declared.grand_line.GrandEvent.{GrandEvent}
use Rattle.ra_script.specs.declared.grand_line.GrandEvent.TheVariants as events
use Rattle.ra_grand_runs.specs.GrandRuns.{after}
use Rattle.ra_grand_runs.specs.Grands.{Grand, Place}
use Rattle.ra_grand_runs.specs.Marks.{Entry}

-- the client of a link
abbrev pub owner_of : Option Place → Option ℕ
owner_of place = option_map (λ p. p.client) place

-- The number of the client that an event names, of that whose link it names, or of the one that it makes. The moment, a sweep and a job
-- are about no client.
abbrev pub owner : GrandEvent → Grand → Option ℕ
owner (events.At now) w = None
owner (events.Client key) w = Some (length w.clients + 1)
owner (events.Step n) w = Some n
owner (events.Linked n) w = Some n
owner (events.NoLink n) w = Some n
owner (events.Up link count) w = owner_of (at_number w.places link)
owner (events.Idle link) w = owner_of (at_number w.places link)
owner (events.Down link count) w = owner_of (at_number w.places link)
owner (events.Frame n) w = Some n
owner (events.Cut link) w = owner_of (at_number w.places link)
owner (events.Gone link) w = owner_of (at_number w.places link)
owner (events.Lost n) w = Some n
owner events.Sweep w = None
owner (events.Work job) w = None
owner (events.Call n channel name arg) w = Some n
owner (events.CallText n channel name arg) w = Some n
owner (events.Listen n channel name) w = Some n
owner (events.Cancel n id) w = Some n
owner (events.Dispose n id) w = Some n
owner (events.Say n body) w = Some n
owner (events.Stop n) w = Some n

-- no event of the run is about this client
abbrev pub AboutOthers : ℕ → List Entry → Grand → Type 0
AboutOthers n [] w = ⊤
AboutOthers n (entry ∷ entries) w = (owner entry.event w ≢ Some n) × AboutOthers n entries (after entry w)
