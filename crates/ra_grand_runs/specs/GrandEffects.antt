-- What an event answers.
use Rattle.std.specs.Prelude.{ℕ, ◌+◌, Option, Some, None, List, [], length}
use Rattle.ra_base.specs.declared.event.Count.{Count}
use Rattle.ra_model.specs.Links.{at_number}
use Rattle.ra_ipc.specs.ChannelPairs.{Outcome, cancelled}
use Rattle.ra_link_core.specs.LinkRuns.{End, Serving}
use Rattle.ra_dial.specs.Acts.{Act, nothing}
use Rattle.ra_dial.specs.declared.values.DialEvent.{DialEvent}
use Rattle.ra_dial.specs.declared.values.DialEvent.TheVariants as dial_events
use Rattle.ra_script.specs.declared.grand_line.GrandEvent.{GrandEvent}
use Rattle.ra_script.specs.declared.grand_line.GrandEvent.TheVariants as events
use Rattle.ra_grand_runs.specs.GrandClients.{Client, dials}
use Rattle.ra_grand_runs.specs.Grands.{Grand, Found, find_link}
use Rattle.ra_grand_runs.specs.GrandRuns.{bytes_up, bytes_down}
use Rattle.ra_grand_runs.specs.GrandSweeps.{expired_keys, left_by}
use Rattle.ra_grand_runs.specs.Marks.{Mark, whole, short, unticked}
use Rattle.ra_grand_runs.specs.ServedLinks.{served}

pub data Effect : Type 0 where
  done : Effect
  made : (number : ℕ) → Effect
  acts : Act → Effect
  -- bytes were taken from a link, whose end at the server may have come with them
  moved : (bytes : List ℕ) → Option End → Effect
  -- and memory ran out there
  broke : (bytes : List ℕ) → Effect
  swept : (expired short : ℕ) → Effect
  issued : (id : ℕ) → Effect
  outcome : Outcome → Effect

-- what the dialer of a client does
abbrev pub act_at : DialEvent → ℕ → Option Client → Act
act_at event now None = nothing
act_at event now (Some c) = (dials event now c).0

abbrev pub act_of : DialEvent → ℕ → Grand → Effect
act_of event n w = acts (act_at event w.now (at_number w.clients n))

-- what comes of a piece at the server
abbrev pub moved_by : Mark → List ℕ → Serving → Effect
moved_by whole bytes u = moved bytes u.end
moved_by (short draws calls put) bytes u = broke bytes
moved_by (unticked keys) bytes u = moved bytes u.end

abbrev pub moved_up : Mark → (Found → List ℕ) → Option Found → Grand → Effect
moved_up mark bytes None w = done
moved_up mark bytes (Some f) w = moved_by mark (bytes f) (served (bytes f) f.link w)

abbrev pub moved_down : Count → Option Found → Effect
moved_down count None = done
moved_down count (Some f) = moved (bytes_down count f.link) None

-- the id of the client's next request
abbrev pub next_id : Option Client → Effect
next_id None = done
next_id (Some c) = issued c.dialer.session.client.next

unfoldable pub effect : Mark → GrandEvent → Grand → Effect
effect mark (events.At now) w = done
effect mark (events.Client key) w = made (length w.clients + 1)
effect mark (events.Step n) w = act_of dial_events.Tick n w
effect mark (events.Linked n) w = made (length w.places + 1)
effect mark (events.NoLink n) w = act_of dial_events.NoLink n w
effect mark (events.Up link count) w = moved_up mark (λ f. bytes_up count f.link) (find_link link w) w
effect mark (events.Idle link) w = moved_up mark (λ f. []) (find_link link w) w
effect mark (events.Down link count) w = moved_down count (find_link link w)
effect mark (events.Frame n) w = act_of dial_events.Frame n w
effect mark (events.Cut link) w = done
effect mark (events.Gone link) w = done
effect mark (events.Lost n) w = act_of dial_events.LinkLost n w
effect mark events.Sweep w = swept (length (expired_keys w)) (length (left_by mark))
effect mark (events.Work job) w = done
effect mark (events.Call n channel name arg) w = next_id (at_number w.clients n)
effect mark (events.CallText n channel name arg) w = next_id (at_number w.clients n)
effect mark (events.Listen n channel name) w = next_id (at_number w.clients n)
effect mark (events.Cancel n id) w = outcome cancelled
effect mark (events.Dispose n id) w = done
effect mark (events.Say n body) w = done
effect mark (events.Stop n) w = act_of dial_events.Stop n w
