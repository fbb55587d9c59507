-- Whether the mark of an event fits the world before it.
use Rattle.std.specs.Prelude.{ℕ, ◌+◌, ◌≤◌, Option, Some, None, List, [], ◌∷◌, length, take, drop, ⊤}
use Rattle.ra_link_core.specs.HubEvents.{events_done, events_bytes}
use Rattle.ra_link_core.specs.LinkRuns.{Serving}
use Rattle.ra_script.specs.declared.grand_line.GrandEvent.{GrandEvent}
use Rattle.ra_script.specs.declared.grand_line.GrandEvent.TheVariants as events
use Rattle.ra_grand_runs.specs.GrandRuns.{bytes_up, after}
use Rattle.ra_grand_runs.specs.Grands.{Grand, Found, find_link}
use Rattle.ra_grand_runs.specs.Marks.{Mark, Entry, whole, short, unticked}
use Rattle.ra_grand_runs.specs.ServedLinks.{serving_at, served}

-- what a link writes for its calls of the hub behind the first ones
abbrev pub bytes_behind : ℕ → Serving → Serving → List ℕ
bytes_behind calls s u = events_bytes (drop calls u.events) (events_done (take calls u.events) s.hub)

-- So much is a part of what leads from the one served link, which has made no call, to the other. What is written for the calls that are
-- left is left too: only the opening, and the calls that were made, had bytes put out.
pub record IsPart (draws calls bytes : ℕ) (s u : Serving) : Type 0 where
  pub draws_made : s.drawn + draws ≤ u.drawn
  pub calls_made : calls ≤ length u.events
  pub bytes_put : length s.out + bytes + length (bytes_behind calls s u) ≤ length u.out

abbrev pub MarkFits : Mark → Serving → Serving → Type 0
MarkFits whole s u = ⊤
MarkFits (short draws calls bytes) s u = IsPart draws calls bytes s u
MarkFits (unticked keys) s u = ⊤

-- bytes come up on the link that was found
abbrev pub MovesFit : Mark → (Found → List ℕ) → Option Found → Grand → Type 0
MovesFit mark bytes None w = ⊤
MovesFit mark bytes (Some f) w = MarkFits mark (serving_at f.link w) (served (bytes f) f.link w)

abbrev pub EventFits : Mark → GrandEvent → Grand → Type 0
EventFits mark (events.At now) w = ⊤
EventFits mark (events.Client key) w = ⊤
EventFits mark (events.Step n) w = ⊤
EventFits mark (events.Linked n) w = ⊤
EventFits mark (events.NoLink n) w = ⊤
EventFits mark (events.Up link count) w = MovesFit mark (λ f. bytes_up count f.link) (find_link link w) w
EventFits mark (events.Idle link) w = MovesFit mark (λ f. []) (find_link link w) w
EventFits mark (events.Down link count) w = ⊤
EventFits mark (events.Frame n) w = ⊤
EventFits mark (events.Cut link) w = ⊤
EventFits mark (events.Gone link) w = ⊤
EventFits mark (events.Lost n) w = ⊤
EventFits mark events.Sweep w = ⊤
EventFits mark (events.Work job) w = ⊤
EventFits mark (events.Call n channel name arg) w = ⊤
EventFits mark (events.CallText n channel name arg) w = ⊤
EventFits mark (events.Listen n channel name) w = ⊤
EventFits mark (events.Cancel n id) w = ⊤
EventFits mark (events.Dispose n id) w = ⊤
EventFits mark (events.Say n body) w = ⊤
EventFits mark (events.Stop n) w = ⊤

-- each mark of a run fits the world before its event
abbrev pub RunFits : List Entry → Grand → Type 0
RunFits [] w = ⊤
RunFits (entry ∷ entries) w = EventFits entry.mark entry.event w × RunFits entries (after entry w)
