-- Why an event is refused, if it is. The first cause counts.
use Rattle.std.specs.Prelude.{ℕ, ◌+◌, if◌then◌else◌, nat_lt, Option, Some, None, option_map, List, [], ◌∷◌, length}
use Rattle.ra_base.specs.declared.event.Count.{Count}
use Rattle.ra_base.specs.declared.event.Count.TheVariants.{All, Exact, Most}
use Rattle.ra_base.specs.declared.event.Side.{Side}
use Rattle.ra_base.specs.declared.event.Side.TheVariants.{A, B}
use Rattle.ra_base.specs.declared.key.Key.{Key}
use Rattle.ra_model.specs.Links.{at_number, readable}
use Rattle.ra_model.specs.Refusals.{or_fault, fault_if}
use Rattle.ra_registry.specs.Rows.{same_key}
use Rattle.ra_values.specs.Tree.{undefined, text, buffer}
use Rattle.ra_ipc.specs.View.{id_of}
use Rattle.ra_hub.specs.Jobs.{SeenJob}
use Rattle.ra_session.specs.Sessions.{Session}
use Rattle.ra_session.specs.SessionRefusals as session_refusals
use Rattle.ra_dial.specs.Calling.{is_calling}
use Rattle.ra_script.specs.declared.grand_line.GrandEvent.{GrandEvent}
use Rattle.ra_script.specs.declared.grand_line.GrandEvent.TheVariants as events
use Rattle.ra_grand_runs.specs.GrandClients.{GrandLink, Client}
use Rattle.ra_grand_runs.specs.Grands.{Grand, Found, find_link}
use Rattle.ra_grand_runs.specs.Works.{told_by, told_refusal}

pub data Refusal : Type 0 where
  no_such_link : (link : ℕ) → Refusal
  no_such_client : (client : ℕ) → Refusal
  no_such_job : (job there : ℕ) → Refusal
  token_taken : (client : ℕ) → Refusal
  not_dialling : (client : ℕ) → Refusal
  link_over : (link : ℕ) → Refusal
  too_many : (asked there : ℕ) → Refusal
  of_session : session_refusals.Refusal → Refusal

-- ---- links

-- the link is there, and then it may be refused for another cause
abbrev pub of_link : ℕ → (GrandLink → Option Refusal) → Option Found → Option Refusal
of_link link further None = Some (no_such_link link)
of_link link further (Some f) = further f.link

abbrev pub if_over : ℕ → GrandLink → Option Refusal
if_over link l = fault_if l.server.is_over (link_over link)

-- more bytes are asked for than are there
abbrev pub if_many : Count → ℕ → Option Refusal
if_many All there = None
if_many (Exact n) there = fault_if (nat_lt there n) (too_many n there)
if_many (Most n) there = None

abbrev pub if_unread : Side → Count → GrandLink → Option Refusal
if_unread side count l = if_many count (length (readable side l.link))

-- ---- clients

abbrev pub of_client : ℕ → (Client → Option Refusal) → Option Client → Option Refusal
of_client n further None = Some (no_such_client n)
of_client n further (Some c) = further c

-- the number of the first client with this key, where the first of all has this number
abbrev pub holder : ℕ → Key → List Client → Option ℕ
holder n key [] = None
holder n key (c ∷ cs) = if same_key key c.key then Some n else holder (n + 1) key cs

abbrev pub if_taken : Key → List Client → Option Refusal
if_taken key clients = option_map (λ n. token_taken n) (holder 1 key clients)

abbrev pub if_not_dialling : ℕ → Client → Option Refusal
if_not_dialling n c = if is_calling c.dialer.stage then None else Some (not_dialling n)

-- nothing more is asked of a client
abbrev pub unrefused : Client → Option Refusal
unrefused c = None

abbrev pub by_session : Option session_refusals.Refusal → Option Refusal
by_session refusal = option_map (λ r. of_session r) refusal

abbrev pub if_session : (Session → Option session_refusals.Refusal) → Client → Option Refusal
if_session refused c = by_session (refused c.dialer.session)

-- ---- jobs

abbrev pub of_job : ℕ → Grand → Option SeenJob → Option Refusal
of_job n w None = Some (no_such_job n (length w.jobs))
of_job n w (Some job) = by_session (told_refusal (told_by job w))

-- ---- any event

unfoldable pub refusal : GrandEvent → Grand → Option Refusal
refusal (events.At now) w = None
refusal (events.Client key) w = if_taken key w.clients
refusal (events.Step n) w = of_client n unrefused (at_number w.clients n)
refusal (events.Linked n) w = of_client n (if_not_dialling n) (at_number w.clients n)
refusal (events.NoLink n) w = of_client n (if_not_dialling n) (at_number w.clients n)
refusal (events.Up link count) w = of_link link (λ l. or_fault (if_over link l) (if_unread B count l)) (find_link link w)
refusal (events.Idle link) w = of_link link (if_over link) (find_link link w)
refusal (events.Down link count) w = of_link link (if_unread A count) (find_link link w)
refusal (events.Frame n) w = of_client n unrefused (at_number w.clients n)
refusal (events.Cut link) w = of_link link (λ l. None) (find_link link w)
refusal (events.Gone link) w = of_link link (if_over link) (find_link link w)
refusal (events.Lost n) w = of_client n unrefused (at_number w.clients n)
refusal events.Sweep w = None
refusal (events.Work job) w = of_job job w (at_number w.jobs job)
refusal (events.Call n channel name arg) w = of_client n (if_session (session_refusals.call_refusal channel name (buffer arg))) (at_number w.clients n)
refusal (events.CallText n channel name arg) w = of_client n (if_session (session_refusals.call_refusal channel name (text arg))) (at_number w.clients n)
refusal (events.Listen n channel name) w = of_client n (if_session (session_refusals.listen_refusal channel name undefined)) (at_number w.clients n)
refusal (events.Cancel n id) w = of_client n (if_session (session_refusals.cancel_refusal (id_of id))) (at_number w.clients n)
refusal (events.Dispose n id) w = of_client n (if_session (session_refusals.dispose_refusal (id_of id))) (at_number w.clients n)
refusal (events.Say n body) w = of_client n (if_session (session_refusals.say_refusal body)) (at_number w.clients n)
refusal (events.Stop n) w = of_client n unrefused (at_number w.clients n)
