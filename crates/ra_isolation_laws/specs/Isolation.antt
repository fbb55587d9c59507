-- What the part of one key sees of a run, and the run of that part alone.
use Rattle.std.specs.Prelude.{ℕ, ◌-◌, max, Bool, true, false, if◌then◌else◌, Option, Some, None, List, [], ◌∷◌, ◌++◌, length, take, drop, filter}
use Rattle.std.specs.List.{list_any}
use Rattle.ra_base.specs.declared.event.Side.TheVariants.{A, B}
use Rattle.ra_base.specs.declared.handshake.Reason.TheVariants.{UnknownKind}
use Rattle.ra_base.specs.declared.key.Key.{Key}
use Rattle.ra_model.specs.Links.{at_number, read_on, written_to}
use Rattle.ra_registry.specs.declared.past.Did.TheVariants.{Refused}
use Rattle.ra_registry.specs.Rows.{same_key}
use Rattle.ra_hub.specs.Hubs.{enter, entry_of}
use Rattle.ra_hub.specs.Jobs.{SeenJob}
use Rattle.ra_link_core.specs.HubEvents.{HubEvent}
use Rattle.ra_link_core.specs.HubEvents.HubEvent.{Admit, Attach, Turn, Lose, Close}
use Rattle.ra_link_core.specs.LinkRuns.{Serving, piece_done}
use Rattle.ra_script.specs.declared.grand_line.GrandEvent.{GrandEvent}
use Rattle.ra_script.specs.declared.grand_line.GrandEvent.TheVariants as events
use Rattle.ra_grand_runs.specs.Draws.{own_then, draws_after, first_draws}
use Rattle.ra_grand_runs.specs.GrandClients.{GrandLink, Client}
use Rattle.ra_grand_runs.specs.GrandRefusals.{Refusal, refusal}
use Rattle.ra_grand_runs.specs.GrandRuns.{bytes_up, happens, after}
use Rattle.ra_grand_runs.specs.GrandSweeps.{sweeps}
use Rattle.ra_grand_runs.specs.Grands.{Grand, Found, find_link, put_link, on_link}
use Rattle.ra_grand_runs.specs.Marks.{whole, Entry}
use Rattle.ra_grand_runs.specs.ServedLinks.{serving_at, served, settled, came_whole, end_after}
use Rattle.ra_grand_runs.specs.SetUps.{grounds}

-- ---- what a part sees

-- The moment; a sweep; that another session's request was judged; or an event of its own. There it is client 1, its links are numbered in
-- their own order and its jobs among its own, and the draws that the server made are told.
pub data Sight : Type 0 where
  moment : (now : ℕ) → Sight
  sweep : Sight
  judged : Sight
  own : GrandEvent → (draws : List (List ℕ)) → Sight

-- the client with this number has this key
abbrev pub is_of : Key → Option Client → Bool
is_of key None = false
is_of key (Some c) = same_key key c.key

abbrev pub if_own : Bool → GrandEvent → List Sight
if_own b event = if b then own event [] ∷ [] else []

abbrev pub is_admit : HubEvent → Bool
is_admit (Admit ask now) = true
is_admit (Attach seat chunk now) = false
is_admit (Turn seat piece now) = false
is_admit (Lose seat now) = false
is_admit (Close seat cause now) = false

-- the draws that a piece made
abbrev pub drawn_by : GrandLink → Serving → ℕ → List (List ℕ)
drawn_by l u drawn = first_draws (u.drawn - length l.server.drawn) (draws_after drawn)

-- what is seen of a piece on a link that becomes this
abbrev pub piece_seen : Bool → GrandEvent → Found → Serving → Grand → List Sight
piece_seen true event f u w = own event (drawn_by f.link u w.drawn) ∷ []
piece_seen false event f u w = if list_any is_admit u.events then judged ∷ [] else []

abbrev pub up_seen : Key → (ℕ → GrandEvent) → (Found → List ℕ) → Option Found → Grand → List Sight
up_seen key event bytes None w = []
up_seen key event bytes (Some f) w = piece_seen (same_key key f.client.key) (event f.place.link) f (served (bytes f) f.link w) w

abbrev pub link_seen : Key → (ℕ → GrandEvent) → Option Found → List Sight
link_seen key event None = []
link_seen key event (Some f) = if_own (same_key key f.client.key) (event f.place.link)

-- the jobs of a key
abbrev pub jobs_for : Key → List SeenJob → List SeenJob
jobs_for key jobs = filter (λ j. same_key key j.key) jobs

abbrev pub job_seen : Key → ℕ → Option SeenJob → List SeenJob → List Sight
job_seen key n None jobs = []
job_seen key n (Some job) jobs = if_own (same_key key job.key) (events.Work (length (jobs_for key (take n jobs))))

unfoldable pub seen : Key → GrandEvent → Grand → List Sight
seen key (events.At now) w = moment now ∷ []
seen key (events.Client k) w = if_own (same_key key k) (events.Client k)
seen key (events.Step n) w = if_own (is_of key (at_number w.clients n)) (events.Step 1)
seen key (events.Linked n) w = if_own (is_of key (at_number w.clients n)) (events.Linked 1)
seen key (events.NoLink n) w = if_own (is_of key (at_number w.clients n)) (events.NoLink 1)
seen key (events.Up link count) w = up_seen key (λ l. events.Up l count) (λ f. bytes_up count f.link) (find_link link w) w
seen key (events.Idle link) w = up_seen key (λ l. events.Idle l) (λ f. []) (find_link link w) w
seen key (events.Down link count) w = link_seen key (λ l. events.Down l count) (find_link link w)
seen key (events.Frame n) w = if_own (is_of key (at_number w.clients n)) (events.Frame 1)
seen key (events.Cut link) w = link_seen key (λ l. events.Cut l) (find_link link w)
seen key (events.Gone link) w = link_seen key (λ l. events.Gone l) (find_link link w)
seen key (events.Lost n) w = if_own (is_of key (at_number w.clients n)) (events.Lost 1)
seen key events.Sweep w = sweep ∷ []
seen key (events.Work job) w = job_seen key job (at_number w.jobs job) w.jobs
seen key (events.Call n channel name arg) w = if_own (is_of key (at_number w.clients n)) (events.Call 1 channel name arg)
seen key (events.CallText n channel name arg) w = if_own (is_of key (at_number w.clients n)) (events.CallText 1 channel name arg)
seen key (events.Listen n channel name) w = if_own (is_of key (at_number w.clients n)) (events.Listen 1 channel name)
seen key (events.Cancel n id) w = if_own (is_of key (at_number w.clients n)) (events.Cancel 1 id)
seen key (events.Dispose n id) w = if_own (is_of key (at_number w.clients n)) (events.Dispose 1 id)
seen key (events.Say n body) w = if_own (is_of key (at_number w.clients n)) (events.Say 1 body)
seen key (events.Stop n) w = if_own (is_of key (at_number w.clients n)) (events.Stop 1)

-- a refused event is not seen
abbrev pub unless_refused : Option Refusal → List Sight → List Sight
unless_refused None sights = sights
unless_refused (Some refused) sights = []

-- all that the part of a key sees of a run
abbrev pub view_of : Key → List Entry → Grand → List Sight
view_of key [] w = []
view_of key (entry ∷ entries) w = unless_refused (refusal entry.event w) (seen key entry.event w) ++ view_of key entries (after entry w)

-- ---- the part alone

-- a piece on a link, whose draws are these and those that were made before
abbrev pub piece_drawn : List (List ℕ) → List ℕ → Found → Grand → Grand
piece_drawn draws bytes f w =
    let draw = own_then (f.link.server.drawn ++ draws) (λ n. []) in
    let u = piece_done (grounds draw) f.link.server.head f.link.server.seen (record { bytes = bytes; now = w.now }) (serving_at f.link w) in
    let c = came_whole u in
    let s = settled w.now c in
    put_link f
    (record {
      link = written_to A (drop (length f.link.server.out) s.out) (read_on B (length bytes) f.link.link);
      server = end_after bytes draw c.is_over s f.link.server;
    })
    (record w { hub = s.hub; jobs = s.jobs })

abbrev pub own_after : GrandEvent → List (List ℕ) → Grand → Grand
own_after (events.Up link count) draws w = on_link (λ f. piece_drawn draws (bytes_up count f.link) f) (find_link link w) w
own_after (events.Idle link) draws w = on_link (piece_drawn draws []) (find_link link w) w
own_after event draws w = happens whole event w

-- Another session's request that is judged shortens the grace of a lost one.
abbrev pub alone_after : Key → Sight → Grand → Grand
alone_after key (moment now) w = record w { now = max w.now now }
alone_after key sweep w = sweeps whole w
alone_after key judged w = record w { hub = enter (entry_of key w.now (Refused None false UnknownKind)) w.hub }
alone_after key (own event draws) w = own_after event draws w

-- the run of the part alone
abbrev pub alone : Key → List Sight → Grand → Grand
alone key [] w = w
alone key (s ∷ ss) w = alone key ss (alone_after key s w)
