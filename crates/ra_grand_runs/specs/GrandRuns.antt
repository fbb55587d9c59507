-- What an event changes, and a whole run. An event that is refused changes nothing.
use Rattle.std.specs.Prelude.{ℕ, ◌+◌, max, Bool, true, false, ◌&&◌, is_none, Option, Some, None, List, [], ◌∷◌, ◌++◌, length, take}
use Rattle.ra_base.specs.declared.event.Count.{Count}
use Rattle.ra_base.specs.declared.event.Side.TheVariants.{A, B}
use Rattle.ra_base.specs.declared.key.Key.{Key}
use Rattle.ra_model.specs.Links.{at_number, amount, readable, read_on, cut_off}
use Rattle.ra_values.specs.Tree.{undefined, text, buffer}
use Rattle.ra_ipc.specs.View.{id_of}
use Rattle.ra_session.specs.Sessions.{Session}
use Rattle.ra_session.specs.SessionCalls as calls
use Rattle.ra_dial.specs.declared.values.DialEvent.{DialEvent}
use Rattle.ra_dial.specs.declared.values.DialEvent.TheVariants as dial_events
use Rattle.ra_script.specs.declared.grand_line.GrandEvent.{GrandEvent}
use Rattle.ra_script.specs.declared.grand_line.GrandEvent.TheVariants as events
use Rattle.ra_grand_runs.specs.GrandClients.{GrandLink, Client, new_client, dialled, linked, asked}
use Rattle.ra_grand_runs.specs.Grands.{Grand, Place, Found, with_client, find_link, put_link, on_link}
use Rattle.ra_grand_runs.specs.GrandRefusals.{Refusal, refusal}
use Rattle.ra_grand_runs.specs.GrandSweeps.{sweeps}
use Rattle.ra_grand_runs.specs.Marks.{Mark, Entry}
use Rattle.ra_grand_runs.specs.ServedLinks.{piece_came, server_left}
use Rattle.ra_grand_runs.specs.Works.{worked}

-- ---- clients

abbrev pub joins : Key → Grand → Grand
joins key w = record w { clients = w.clients ++ new_client key w.now ∷ [] }

-- a client's dialer has an event, or its session a call
abbrev pub on_dialer : ℕ → DialEvent → Grand → Grand
on_dialer n event w = with_client n (dialled event w.now) w

abbrev pub on_session : ℕ → (ℕ → Session → Session) → Grand → Grand
on_session n call w = with_client n (asked (call w.now)) w

-- a link is made, and has the next number
abbrev pub with_place : ℕ → Option Client → Grand → Grand
with_place n None w = w
with_place n (Some c) w = record w { places = w.places ++ record { client = n; link = length c.links } ∷ [] }

abbrev pub links : ℕ → Grand → Grand
links n w = let v = with_client n (linked w.now) w in with_place n (at_number v.clients n) v

-- ---- links

-- the bytes that come to the server, and to the client
abbrev pub bytes_up : Count → GrandLink → List ℕ
bytes_up count l = take (amount count (length (readable B l.link))) (readable B l.link)

abbrev pub bytes_down : Count → GrandLink → List ℕ
bytes_down count l = take (amount count (length (readable A l.link))) (readable A l.link)

-- a client takes bytes of its last link alone
abbrev pub takes : Bool → List ℕ → ℕ → Client → Client
takes true bytes now c = dialled (dial_events.Piece bytes) now c
takes false bytes now c = c

abbrev pub is_last : Place → Client → Bool
is_last place c = is_none (at_number c.links (place.link + 1))

abbrev pub comes_down : List ℕ → Found → Grand → Grand
comes_down bytes f w =
    with_client f.place.client (takes (is_last f.place f.client) bytes w.now)
    (put_link f (record f.link { link = read_on A (length bytes) f.link.link }) w)

abbrev pub cuts : Found → Grand → Grand
cuts f w = put_link f (record f.link { link = cut_off f.link.link }) w

-- ---- any event

unfoldable pub happens : Mark → GrandEvent → Grand → Grand
happens mark (events.At now) w = record w { now = max w.now now }
happens mark (events.Client key) w = joins key w
happens mark (events.Step n) w = on_dialer n dial_events.Tick w
happens mark (events.Linked n) w = links n w
happens mark (events.NoLink n) w = on_dialer n dial_events.NoLink w
happens mark (events.Up link count) w = on_link (λ f. piece_came mark (bytes_up count f.link) f) (find_link link w) w
happens mark (events.Idle link) w = on_link (piece_came mark []) (find_link link w) w
happens mark (events.Down link count) w = on_link (λ f. comes_down (bytes_down count f.link) f) (find_link link w) w
happens mark (events.Frame n) w = on_dialer n dial_events.Frame w
happens mark (events.Cut link) w = on_link cuts (find_link link w) w
happens mark (events.Gone link) w = on_link server_left (find_link link w) w
happens mark (events.Lost n) w = on_dialer n dial_events.LinkLost w
happens mark events.Sweep w = sweeps mark w
happens mark (events.Work job) w = worked job w
happens mark (events.Call n channel name arg) w = on_session n (calls.call channel name (buffer arg)) w
happens mark (events.CallText n channel name arg) w = on_session n (calls.call channel name (text arg)) w
happens mark (events.Listen n channel name) w = on_session n (calls.listen channel name undefined) w
happens mark (events.Cancel n id) w = on_session n (calls.cancel (id_of id)) w
happens mark (events.Dispose n id) w = on_session n (calls.dispose (id_of id)) w
happens mark (events.Say n body) w = on_session n (calls.say_body body) w
happens mark (events.Stop n) w = on_dialer n dial_events.Stop w

abbrev pub unless : Option Refusal → Grand → Grand → Grand
unless None new old = new
unless (Some refusal) new old = old

abbrev pub after : Entry → Grand → Grand
after entry w = unless (refusal entry.event w) (happens entry.mark entry.event w) w

-- a whole run, from the beginning
abbrev pub run : List Entry → Grand → Grand
run [] w = w
run (entry ∷ entries) w = run entries (after entry w)

abbrev pub is_accepted : List Entry → Grand → Bool
is_accepted [] w = true
is_accepted (entry ∷ entries) w = is_none (refusal entry.event w) && is_accepted entries (after entry w)
