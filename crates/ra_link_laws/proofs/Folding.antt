-- Every event of a run keeps what holds of a world.
use Rattle.std.proofs.Common.{◌≡◌, ℕ, zero, suc, ◌≤◌, Bool, true, false, Option, Some, None, is_none, List, [], ◌∷◌, length, refl, ap, sym, subst, arith}
use Rattle.std.specs.Prelude.{if◌then◌else◌, slice_get, take}
use Rattle.ra_base.specs.declared.event.Count.{Count}
use Rattle.ra_base.specs.declared.event.Side.TheVariants.{A, B}
use Rattle.ra_model.specs.Links.{at_number, amount, readable, read_on}
use Rattle.ra_model.specs.Refusals.{or_fault, fault_if}
use Rattle.ra_values.specs.Tree.{undefined, text, buffer}
use Rattle.ra_ipc.specs.View.{id_of}
use Rattle.ra_registry.specs.Rows.{row_of, start_row}
use Rattle.ra_session.specs.Sessions.{Session}
use Rattle.ra_hub.specs.Hubs.{row}
use Rattle.ra_session.specs.SessionCalls as calls
use Rattle.ra_dial.specs.declared.values.DialEvent.{DialEvent}
use Rattle.ra_dial.specs.declared.values.DialEvent.TheVariants as dial_events
use Rattle.ra_dial.specs.Calling.{is_calling}
use Rattle.ra_views.specs.SessionLinks.{KeepsLink}
use Rattle.ra_views.specs.SessionViews.{KeepsSessionViews}
use Rattle.ra_views.proofs.SessionLinks.{link_call, link_listen, link_cancel, link_dispose, link_say}
use Rattle.ra_views.proofs.SessionMoves.{keeps_call, keeps_listen, keeps_cancel, keeps_dispose, keeps_say}
use Rattle.ra_script.specs.declared.grand_line.GrandEvent.{GrandEvent}
use Rattle.ra_script.specs.declared.grand_line.GrandEvent.TheVariants as events
use Rattle.ra_grand_runs.specs.GrandClients.{Client, dialled, linked, asked}
use Rattle.ra_grand_runs.specs.GrandRefusals.{Refusal, not_dialling, link_over, of_client, if_over, if_unread, if_not_dialling, refusal}
use Rattle.ra_grand_runs.specs.GrandRuns.{on_dialer, links, bytes_up, bytes_down, takes, comes_down, cuts, happens, unless, after}
use Rattle.ra_grand_runs.specs.Grands.{Grand, Found, with_client, with_link, new_grand}
use Rattle.ra_grand_runs.specs.Marks.{Mark, whole, short, unticked, Entry}
use Rattle.ra_grand_runs.specs.Reached.{BringsNothing}
use Rattle.ra_grand_runs.specs.ServedLinks.{piece_came, server_left}
use Rattle.ra_run_laws.specs.Runs.{IsUnbroken, HasKey}
use Rattle.ra_run_laws.proofs.Lists.{none_there, there_is}
use Rattle.ra_link_laws.specs.Parts.{PartHolds, WorldKeeps}
use Rattle.ra_link_laws.proofs.ClientCuts.{part_cut}
use Rattle.ra_link_laws.proofs.ClientLinked.{part_linked, part_new}
use Rattle.ra_link_laws.proofs.ClientParts.{part_asked, part_dialled}
use Rattle.ra_link_laws.proofs.ClientPieces.{part_down}
use Rattle.ra_link_laws.proofs.HubSteps.{keeps_sweep, keeps_work}
use Rattle.ra_link_laws.proofs.ServedParts.{piece_changes, left_changes}
use Rattle.ra_link_laws.proofs.WorldClients.{world_client, world_place, world_joins}
use Rattle.ra_link_laws.proofs.WorldLinks.{IsHere, StandsAt, stands_at, world_link, world_cuts, world_down, chosen}
use Rattle.ra_link_laws.proofs.WorldSteps.{world_changes}

-- ---- clients

keeps_dialer : (n : ℕ) (event : DialEvent) (w : Grand) → BringsNothing event → WorldKeeps w → WorldKeeps (on_dialer n event w)
unfolding dialled
keeps_dialer n event w brings keeps =
    world_client n (dialled event w.now) w (record { key = λ c. refl; part = λ s o c there part. part_dialled s o c event w.now brings part }) keeps

keeps_asked : (n : ℕ) (call : Session → Session) (w : Grand) → KeepsSessionViews call → KeepsLink call → WorldKeeps w → WorldKeeps (with_client n (asked call) w)
unfolding asked
keeps_asked n call w views link keeps =
    world_client n (asked call) w (record { key = λ c. refl; part = λ s o c there part. part_asked s o c call views link part }) keeps

-- a client that makes a link is calling
calling : (b : Bool) (r : Refusal) → (if b then None else Some r) ≡ None → b ≡ true
calling true r none = refl
calling false r none = absurd cc

calls_at : (n : ℕ) (o : Option Client) (c : Client) → of_client n (if_not_dialling n) o ≡ None → o ≡ Some c → is_calling c.dialer.stage ≡ true
calls_at n None c none is = none_there is
calls_at n (Some d) c none is =
    subst (λ (x : Client). is_calling x.dialer.stage ≡ true) (there_is is) (calling (is_calling d.dialer.stage) (not_dialling n) none)

keeps_links : (n : ℕ) (w : Grand) → of_client n (if_not_dialling n) (at_number w.clients n) ≡ None → WorldKeeps w → WorldKeeps (links n w)
unfolding dialled
keeps_links n w none keeps =
    let v = with_client n (linked w.now) w in
    world_place n (at_number v.clients n) v
    (world_client n (linked w.now) w (record { key = λ c. refl; part = λ s o c there part. part_linked s o c w.now (calls_at n (at_number w.clients n) c none there) part }) keeps)

-- ---- links

part_there : (f : Found) (w : Grand) (n m : ℕ) → WorldKeeps w → StandsAt f w n m → PartHolds (w.hub.session f.client.key) (row w.hub f.client.key) f.client
part_there f w n m keeps at = keeps.parts n f.client at.client

keeps_cut : (link : ℕ) (w : Grand) → WorldKeeps w → (f : Found) → IsHere f w → WorldKeeps (cuts f w)
keeps_cut link w keeps f here =
    world_cuts f w here (λ n m at. part_cut (w.hub.session f.client.key) (row w.hub f.client.key) f.client m f.link at.link (part_there f w n m keeps at)) keeps

takes_key : (now : ℕ) (bytes : List ℕ) (c : Client) (b : Bool) → (takes b bytes now c).key ≡ c.key
unfolding dialled
takes_key now bytes c true = refl
takes_key now bytes c false = refl

-- so many of the bytes that are there
taken : (k : ℕ) (bytes : List ℕ) → k ≤ length bytes → length (take k bytes) ≡ k
taken zero bytes fits = refl
taken (suc k) [] fits = absurd (above k fits)
  where
    above : (n : ℕ) → suc n ≤ 0 → ⊥
    above n le = omega (arith, le)
taken (suc k) (b ∷ bytes) fits = ap (λ (n : ℕ). suc n) (taken k bytes (below k (length bytes) fits))
  where
    below : (a n : ℕ) → suc a ≤ suc n → a ≤ n
    below a n le = omega (arith, le)

keeps_down : (count : Count) (w : Grand) → WorldKeeps w → (f : Found) → IsHere f w → WorldKeeps (comes_down (bytes_down count f.link) f w)
keeps_down count w keeps f here =
    let bytes = readable A f.link.link in
    let k = amount count (length bytes) in
    world_down (take k bytes) f w here (takes_key w.now (take k bytes))
    (λ n m at. subst (λ (j : ℕ). PartHolds (w.hub.session f.client.key) (row w.hub f.client.key)
    (takes (is_none (slice_get f.client.links (suc m))) (take k bytes) w.now (with_link (suc m) (record f.link { link = read_on A j f.link.link }) f.client)))
    (sym (taken k bytes (chosen count bytes)))
    (part_down (w.hub.session f.client.key) (row w.hub f.client.key) f.client m k w.now f.link at.link (chosen count bytes) (part_there f w n m keeps at)))
    keeps

-- a link that is not over
pub not_over : (b : Bool) (r : Refusal) (next : Option Refusal) → or_fault (fault_if b r) next ≡ None → b ≡ false
not_over true r next none = absurd cc
not_over false r next none = refl

pub not_over_at : (b : Bool) (r : Refusal) → fault_if b r ≡ None → b ≡ false
not_over_at true r none = absurd cc
not_over_at false r none = refl

keeps_piece : (k : ℕ) (w : Grand) → WorldKeeps w → (f : Found) → IsHere f w → f.link.server.is_over ≡ false → k ≤ length (readable B f.link.link)
    → WorldKeeps (piece_came whole (take k (readable B f.link.link)) f w)
keeps_piece k w keeps f here over fits = by (stands_at f w here)
  where
    by : (n m : ℕ) × StandsAt f w n m → WorldKeeps (piece_came whole (take k (readable B f.link.link)) f w)
    by (n, m, at) =
        world_changes n f.client _ w (piece_came whole (take k (readable B f.link.link)) f w) keeps
        (piece_changes (take k (readable B f.link.link)) k n m f w keeps at.client_number at.link_number at.client at.link over fits refl)

keeps_left : (w : Grand) → WorldKeeps w → (f : Found) → IsHere f w → f.link.server.is_over ≡ false → WorldKeeps (server_left f w)
keeps_left w keeps f here over = by (stands_at f w here)
  where
    by : (n m : ℕ) × StandsAt f w n m → WorldKeeps (server_left f w)
    by (n, m, at) =
        world_changes n f.client _ w (server_left f w) keeps (left_changes n m f w keeps at.client_number at.link_number at.client at.link over)

-- a piece of any mark but that of a want of memory
piece_by : (mark : Mark) (bytes : List ℕ) (f : Found) (w : Grand) → IsUnbroken mark → WorldKeeps (piece_came whole bytes f w) → WorldKeeps (piece_came mark bytes f w)
unfolding piece_came
piece_by whole bytes f w unbroken keeps = keeps
piece_by (short draws calls put) bytes f w unbroken keeps = absurd unbroken
piece_by (unticked keys) bytes f w unbroken keeps = keeps

-- ---- any event

pub keeps_event : (mark : Mark) (event : GrandEvent) (w : Grand) → IsUnbroken mark → HasKey event → refusal event w ≡ None → WorldKeeps w → WorldKeeps (happens mark event w)
unfolding refusal happens
keeps_event mark (events.At now) w unbroken key none keeps = record { parts = keeps.parts; keys = keeps.keys; unknown = keeps.unknown }
keeps_event mark (events.Client k) w unbroken key none keeps = world_joins k w none (part_new k w.now key.0 key.1) keeps
keeps_event mark (events.Step n) w unbroken key none keeps = keeps_dialer n dial_events.Tick w tt keeps
keeps_event mark (events.Linked n) w unbroken key none keeps = keeps_links n w none keeps
keeps_event mark (events.NoLink n) w unbroken key none keeps = keeps_dialer n dial_events.NoLink w tt keeps
keeps_event mark (events.Up link count) w unbroken key none keeps =
    world_link (λ f. piece_came mark (bytes_up count f.link) f) link (λ l. or_fault (if_over link l) (if_unread B count l)) w keeps
    (λ f here free. piece_by mark (bytes_up count f.link) f w unbroken
    (keeps_piece (amount count (length (readable B f.link.link))) w keeps f here
    (not_over f.link.server.is_over (link_over link) (if_unread B count f.link) free) (chosen count (readable B f.link.link)))) none
keeps_event mark (events.Idle link) w unbroken key none keeps =
    world_link (piece_came mark []) link (if_over link) w keeps
    (λ f here free. piece_by mark [] f w unbroken
    (keeps_piece 0 w keeps f here (not_over_at f.link.server.is_over (link_over link) free) (omega arith))) none
keeps_event mark (events.Down link count) w unbroken key none keeps =
    world_link (λ f. comes_down (bytes_down count f.link) f) link (if_unread A count) w keeps (λ f here free. keeps_down count w keeps f here) none
keeps_event mark (events.Frame n) w unbroken key none keeps = keeps_dialer n dial_events.Frame w tt keeps
keeps_event mark (events.Cut link) w unbroken key none keeps = world_link cuts link (λ l. None) w keeps (λ f here free. keeps_cut link w keeps f here) none
keeps_event mark (events.Gone link) w unbroken key none keeps =
    world_link server_left link (if_over link) w keeps (λ f here free. keeps_left w keeps f here (not_over_at f.link.server.is_over (link_over link) free)) none
keeps_event mark (events.Lost n) w unbroken key none keeps = keeps_dialer n dial_events.LinkLost w tt keeps
keeps_event mark events.Sweep w unbroken key none keeps = keeps_sweep mark w keeps
keeps_event mark (events.Work job) w unbroken key none keeps = keeps_work job w keeps
keeps_event mark (events.Call n channel name arg) w unbroken key none keeps =
    keeps_asked n (calls.call channel name (buffer arg) w.now) w (keeps_call channel name (buffer arg) w.now) (link_call channel name (buffer arg) w.now) keeps
keeps_event mark (events.CallText n channel name arg) w unbroken key none keeps =
    keeps_asked n (calls.call channel name (text arg) w.now) w (keeps_call channel name (text arg) w.now) (link_call channel name (text arg) w.now) keeps
keeps_event mark (events.Listen n channel name) w unbroken key none keeps =
    keeps_asked n (calls.listen channel name undefined w.now) w (keeps_listen channel name undefined w.now) (link_listen channel name undefined w.now) keeps
keeps_event mark (events.Cancel n id) w unbroken key none keeps =
    keeps_asked n (calls.cancel (id_of id) w.now) w (keeps_cancel (id_of id) w.now) (link_cancel (id_of id) w.now) keeps
keeps_event mark (events.Dispose n id) w unbroken key none keeps =
    keeps_asked n (calls.dispose (id_of id) w.now) w (keeps_dispose (id_of id) w.now) (link_dispose (id_of id) w.now) keeps
keeps_event mark (events.Say n body) w unbroken key none keeps =
    keeps_asked n (calls.say_body body w.now) w (keeps_say body w.now) (link_say body w.now) keeps
keeps_event mark (events.Stop n) w unbroken key none keeps = keeps_dialer n dial_events.Stop w tt keeps

-- ---- a run

pub keeps_unless : (o : Option Refusal) (w v : Grand) → WorldKeeps w → (o ≡ None → WorldKeeps v) → WorldKeeps (unless o v w)
keeps_unless None w v keeps more = more refl
keeps_unless (Some refused) w v keeps more = keeps

pub keeps_after : (entry : Entry) (w : Grand) → IsUnbroken entry.mark → HasKey entry.event → WorldKeeps w → WorldKeeps (after entry w)
keeps_after entry w unbroken key keeps =
    keeps_unless (refusal entry.event w) w (happens entry.mark entry.event w) keeps (λ none. keeps_event entry.mark entry.event w unbroken key none keeps)

pub keeps_new : WorldKeeps new_grand
unfolding row_of start_row
keeps_new = record {
  parts = λ n c is. none_there is;
  keys = λ n m c d one other same. none_there one;
  unknown = λ key none. (refl, refl);
}
