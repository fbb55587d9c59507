-- The server's end of a link, when a piece comes to it or it is left: it is a served link, and what it writes is put on the link at once.
use Rattle.std.specs.Prelude.{ℕ, ◌+◌, ◌-◌, ◌==◌, Bool, true, if◌then◌else◌, None, List, [], ◌++◌, length, take, drop, ◌≡◌, false}
use Rattle.std.specs.Option.{is_some}
use Rattle.ra_base.specs.declared.event.Side.TheVariants.{A, B}
use Rattle.ra_model.specs.Links.{read_on, written_to, readable}
use Rattle.ra_items.specs.Heads.{IsRequestOf}
use Rattle.ra_link_core.specs.HubEvents.{HubEvent, events_done, events_jobs, seats_by}
use Rattle.ra_link_core.specs.LinkRuns.{Serving, piece_done, hub_left, asks_framing}
use Rattle.ra_grand_runs.specs.Draws.{draws_after, own_then, first_draws}
use Rattle.ra_grand_runs.specs.SetUps.{grounds}
use Rattle.ra_grand_runs.specs.GrandClients.{ServerEnd, GrandLink}
use Rattle.ra_grand_runs.specs.Grands.{Grand, Found, put_link}
use Rattle.ra_grand_runs.specs.Marks.{Mark, whole, short, unticked}

-- the draws of this link, and then those that the server makes next
abbrev pub draw_at : GrandLink → Grand → ℕ → List ℕ
draw_at l w = own_then l.server.drawn (draws_after w.drawn)

-- the served link that stands here, with the hub and the jobs
abbrev pub serving_at : GrandLink → Grand → Serving
serving_at l w = record {
  seat = l.server.seat;
  welcome = l.server.welcome;
  out = l.server.out;
  drawn = length l.server.drawn;
  events = [];
  hub = w.hub;
  jobs = w.jobs;
  end = None;
}

-- what it becomes by a piece
unfoldable pub served : List ℕ → GrandLink → Grand → Serving
served bytes l w = piece_done (grounds (draw_at l w)) l.server.head l.server.seen (record { bytes = bytes; now = w.now }) (serving_at l w)

-- ---- where memory ran out

-- The link comes so far from the one to the other: so many draws, these events, and so many bytes. A welcome comes with the first event.
abbrev pub came : ℕ → List HubEvent → ℕ → Serving → Serving → Serving
came draws events bytes s u = record s {
  seat = seats_by events s.hub s.seat;
  welcome = if length events == 0 then s.welcome else u.welcome;
  out = s.out ++ take bytes (drop (length s.out) u.out);
  drawn = s.drawn + draws;
  events = events;
  hub = events_done events s.hub;
  jobs = s.jobs ++ events_jobs events s.hub;
}

-- ---- its end

-- a served link, and whether it is over
pub record Came : Type 0 where
  pub link : Serving
  pub is_over : Bool

abbrev pub came_whole : Serving → Came
came_whole u = record { link = u; is_over = is_some u.end }

abbrev pub came_by : Mark → Serving → Serving → Came
came_by whole s u = came_whole u
came_by (short draws calls bytes) s u = record { link = came draws (take calls u.events) bytes s u; is_over = true }
came_by (unticked keys) s u = came_whole u

-- the served link after a piece, so far as the mark tells
abbrev pub came_at : Mark → List ℕ → GrandLink → Grand → Came
came_at mark bytes l w = came_by mark (serving_at l w) (served bytes l w)

-- a link that is left loses its seat
abbrev pub left : ℕ → Serving → Serving
left now s = record s { seat = None; hub = hub_left s.seat now s.hub }

-- a link that is over is left
abbrev pub settled : ℕ → Came → Serving
settled now c = if c.is_over then left now c.link else c.link

-- the server's end after these bytes more
abbrev pub end_after : List ℕ → (ℕ → List ℕ) → Bool → Serving → ServerEnd → ServerEnd
end_after bytes draw is_over s old = record {
  head = old.head;
  seen = old.seen ++ bytes;
  seat = s.seat;
  welcome = s.welcome;
  out = s.out;
  drawn = first_draws s.drawn draw;
  is_over = is_over;
}

-- all of it after these bytes were read: the link, the hub, the jobs and the draws
abbrev pub put_served : List ℕ → Bool → Serving → Found → Grand → Grand
put_served bytes is_over s f w =
    put_link f
    (record {
      link = written_to A (drop (length f.link.server.out) s.out) (read_on B (length bytes) f.link.link);
      server = end_after bytes (draw_at f.link w) is_over s f.link.server;
    })
    (record w { hub = s.hub; jobs = s.jobs; drawn = w.drawn + (s.drawn - length f.link.server.drawn) })

-- a piece comes
unfoldable pub piece_came : Mark → List ℕ → Found → Grand → Grand
piece_came mark bytes f w =
    let c = came_by mark (serving_at f.link w) (served bytes f.link w) in put_served bytes c.is_over (settled w.now c) f w

-- the server's end is left
unfoldable pub server_left : Found → Grand → Grand
server_left f w = put_served [] true (left w.now (serving_at f.link w)) f w

-- ---- bytes that may come

-- they are the first of those that the server can read
pub record IsNext (bytes : List ℕ) (l : GrandLink) : Type 0 where
  pub count : ℕ
  pub is : bytes ≡ take count (readable B l.link)

-- the end of a link is not over, and these bytes go on with its request
pub record Continues (bytes : List ℕ) (l : GrandLink) : Type 0 where
  pub going : l.server.is_over ≡ false
  pub request : IsRequestOf (l.server.seen ++ bytes) l.server.head
  pub unframed : asks_framing l.server.head.says ≡ false
