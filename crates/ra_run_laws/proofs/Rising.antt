-- An event takes nothing back from any session, and each session of the server keeps its row.
use Rattle.std.proofs.Common.{◌≡◌, inl, inr, ℕ, Bool, true, false, Option, Some, None, List, [], ◌∷◌, ◌++◌, take, refl, ap, sym, ◌∙◌, subst}
use Rattle.std.specs.Prelude.{◌⊎◌, if◌then◌else◌}
use Rattle.ra_base.specs.declared.event.Side.TheVariants.{A}
use Rattle.ra_base.specs.declared.key.Key.{Key}
use Rattle.ra_base.specs.declared.key.Seat.{Seat}
use Rattle.ra_model.specs.Links.{at_number, put_number, read_on, cut_off}
use Rattle.ra_model.specs.Pairs.{IsLater}
use Rattle.ra_model.proofs.Later.{later_refl, later_trans}
use Rattle.ra_values.specs.Tree.{undefined, text, buffer}
use Rattle.ra_ipc.specs.View.{id_of}
use Rattle.ra_upgrade.specs.declared.request_head.HeadFault.{HeadFault}
use Rattle.ra_upgrade.specs.declared.request_head.Upgrade.{Upgrade}
use Rattle.ra_items.specs.Heads.{Head}
use Rattle.ra_opening.specs.Openings.{Grounds, Stage, opened}
use Rattle.ra_opening.specs.Openings.Stage.{Heading, Shaking, Asked, Over}
use Rattle.ra_registry.specs.declared.row.Row.{Row}
use Rattle.ra_session.specs.SessionCalls as calls
use Rattle.ra_session.specs.SessionRefusals.{Refusal as SessionRefusal}
use Rattle.ra_session.specs.Sessions.{Session}
use Rattle.ra_views.specs.SessionViews.{SessionOnlyGrows}
use Rattle.ra_views.proofs.SessionsRise.{rises_call, rises_listen, rises_cancel, rises_dispose, rises_answer, rises_say}
use Rattle.ra_hub.specs.Hubs.{Hub, row}
use Rattle.ra_hub.specs.Jobs.{SeenJob}
use Rattle.ra_link_core.specs.LinkRuns.{Piece, End, Serving, opening_by, piece_by, piece_done, turns_for, with_piece, hub_left}
use Rattle.ra_link_core.specs.Makes.{Happens}
use Rattle.ra_link_core.proofs.GrowLemmas.{grows_served, grows_asked}
use Rattle.ra_dial.specs.declared.values.DialEvent.{DialEvent}
use Rattle.ra_dial.specs.declared.values.DialEvent.TheVariants as dial_events
use Rattle.ra_script.specs.declared.grand_line.GrandEvent.{GrandEvent}
use Rattle.ra_script.specs.declared.grand_line.GrandEvent.TheVariants as events
use Rattle.ra_grand_runs.specs.GrandClients.{GrandLink, Client, new_client, dialled, fresh_link, linked, asked}
use Rattle.ra_grand_runs.specs.GrandRefusals.{Refusal, refusal}
use Rattle.ra_grand_runs.specs.GrandRuns.{joins, on_dialer, on_session, with_place, links, bytes_up, bytes_down, takes, is_last, comes_down, cuts, happens, unless, after, run}
use Rattle.ra_grand_runs.specs.Grands.{Grand, Place, Found, changed, with_client, with_link, found_link, found_client, found_at, put_link, on_link, new_grand}
use Rattle.ra_grand_runs.specs.GrandSweeps.{expired_keys, left_by, sweeps}
use Rattle.ra_grand_runs.specs.Marks.{Mark, whole, short, unticked, Entry}
use Rattle.ra_grand_runs.specs.ServedLinks.{draw_at, serving_at, served, came_by, left, piece_came, server_left}
use Rattle.ra_grand_runs.specs.SetUps.{grounds}
use Rattle.ra_grand_runs.specs.Works.{Telling, answers, speaks, told, telling, telling_refusal, Told, told_to, told_by, session_by, unless_ended, misses, tells, without_job, work_by, worked}
use Rattle.ra_run_laws.specs.Rising.{ClientsRise}
use Rattle.ra_run_laws.proofs.Lists.{there_is, same_or_not, put_other, number_same, number_front}
use Rattle.ra_run_laws.proofs.RisingClients.{ClientRises, rises_dialled, rises_linked, rises_asked}
use Rattle.ra_run_laws.proofs.RisingHubs.{HaveRows, HubStep, step_itself, step_trans, step_at, step_events, step_left, step_swept, step_missed}

-- ---- clients

rise_itself : (w : Grand) → ClientsRise w w
rise_itself w n c is = (c, is, refl, later_refl c.dialer.session.peer)

rise_trans : (w v u : Grand) → ClientsRise w v → ClientsRise v u → ClientsRise w u
rise_trans w v u a b n c is =
    let d = a n c is in
    let e = b n d.0 d.1 in
    (e.0, e.1, e.2 ∙ d.2, later_trans c.dialer.session.peer d.0.dialer.session.peer e.0.dialer.session.peer d.3 e.3)

-- one client becomes another
rise_put : (w v : Grand) (m : ℕ) (c d : Client) → at_number w.clients m ≡ Some c → v.clients ≡ put_number w.clients m d → d.key ≡ c.key → ClientRises c d → ClientsRise w v
rise_put w v m c d there clients key rises n e is = by (same_or_not m n)
  where
    by : (m ≡ n) ⊎ (m ≡ n → ⊥) → (x : Client) × (at_number v.clients n ≡ Some x) × (x.key ≡ e.key) × IsLater e.dialer.session.peer x.dialer.session.peer
    by (inl same) =
        let both : c ≡ e = there_is (sym there ∙ ap (λ (k : ℕ). at_number w.clients k) same ∙ is) in (
          d,
          ap (λ (l : List Client). at_number l n) clients ∙ ap (λ (k : ℕ). at_number (put_number w.clients m d) k) (sym same) ∙ number_same w.clients m d c there,
          key ∙ ap (λ (x : Client). x.key) both,
          subst (λ (x : Client). ClientRises x d) both rises,
        )
    by (inr not) = (e, ap (λ (l : List Client). at_number l n) clients ∙ put_other w.clients m n d not ∙ is, refl, later_refl e.dialer.session.peer)

rise_changed : (w : Grand) (m : ℕ) (f : Client → Client) (o : Option Client) → at_number w.clients m ≡ o → ((c : Client) → ((f c).key ≡ c.key) × ClientRises c (f c))
    → ClientsRise w (record w { clients = changed m f o w.clients })
rise_changed w m f None is rises = rise_itself w
rise_changed w m f (Some c) is rises = rise_put w (record w { clients = put_number w.clients m (f c) }) m c (f c) is refl (rises c).0 (rises c).1

rise_client : (w : Grand) (m : ℕ) (f : Client → Client) → ((c : Client) → ((f c).key ≡ c.key) × ClientRises c (f c)) → ClientsRise w (with_client m f w)
rise_client w m f rises = rise_changed w m f (at_number w.clients m) refl rises

rise_place : (w v : Grand) (n : ℕ) (o : Option Client) → ClientsRise w v → ClientsRise w (with_place n o v)
rise_place w v n None rises = rises
rise_place w v n (Some c) rises = rises

-- ---- links

-- a link changes, which its client's session does not see
rise_link : (w v : Grand) (f : Found) (l : GrandLink) → at_number w.clients f.place.client ≡ Some f.client
    → v.clients ≡ put_number w.clients f.place.client (with_link f.place.link l f.client) → ClientsRise w v
rise_link w v f l there clients = rise_put w v f.place.client f.client (with_link f.place.link l f.client) there clients refl (later_refl f.client.dialer.session.peer)

dialled_key : (event : DialEvent) (now : ℕ) (c : Client) → (dialled event now c).key ≡ c.key
unfolding dialled
dialled_key event now c = refl

asked_key : (call : Session → Session) (c : Client) → (asked call c).key ≡ c.key
unfolding asked
asked_key call c = refl

rise_takes : (b : Bool) (bytes : List ℕ) (now : ℕ) (c : Client) → ((takes b bytes now c).key ≡ c.key) × ClientRises c (takes b bytes now c)
rise_takes true bytes now c = (dialled_key (dial_events.Piece bytes) now c, rises_dialled (dial_events.Piece bytes) now c)
rise_takes false bytes now c = (refl, later_refl c.dialer.session.peer)

-- ---- a step of a world

pub record WorldStep (w v : Grand) : Type 0 where
  pub clients : ClientsRise w v
  pub hub : HubStep w.hub v.hub

step_by_clients : (w v : Grand) → HaveRows w.hub → v.hub ≡ w.hub → ClientsRise w v → WorldStep w v
step_by_clients w v rows same rise = record { clients = rise; hub = subst (λ (h : Hub). HubStep w.hub h) (sym same) (step_itself w.hub rows) }

-- ---- pieces

grown : (s t : Serving) → Happens s t → HaveRows s.hub → HubStep s.hub t.hub
grown s t happens rows = subst (λ (h : Hub). HubStep s.hub h) (sym happens.hub) (step_events happens.more s.hub rows)

opened_so : (stage : Stage) (came : List ℕ) (now : ℕ) (s : Serving) → HaveRows s.hub → HubStep s.hub (opening_by stage came now s).hub
opened_so Heading came now s rows = step_itself s.hub rows
opened_so (Shaking shake) came now s rows = step_itself s.hub rows
opened_so (Asked request place) came now s rows = grown s _ (grows_asked request place _ now s).happens rows
opened_so (Over end) came now s rows = step_itself s.hub rows

by_piece : (end : Option End) (seat : Option Seat) (g : Grounds) (came : List ℕ) (head : Head Upgrade HeadFault) (piece : Piece) (s : Serving)
    → HaveRows s.hub → HubStep s.hub (piece_by end seat g came head piece s).hub
by_piece (Some end) seat g came head piece s rows = step_itself s.hub rows
by_piece None (Some seat) g came head piece s rows = grown s _ (grows_served (turns_for piece.bytes) seat piece.bytes piece.now s).happens rows
by_piece None None g came head piece s rows =
    let o = opened g head came in opened_so o.stage came piece.now (record s { out = o.out; drawn = o.drawn }) rows

served_step : (bytes : List ℕ) (l : GrandLink) (w : Grand) → HaveRows w.hub → HubStep w.hub (served bytes l w).hub
unfolding served piece_done
served_step bytes l w rows =
    by_piece None l.server.seat (grounds (draw_at l w)) (with_piece l.server.head l.server.seen bytes) l.server.head (record { bytes = bytes; now = w.now })
    (serving_at l w) rows

pub came_step : (mark : Mark) (bytes : List ℕ) (l : GrandLink) (w : Grand) → HaveRows w.hub → HubStep w.hub (came_by mark (serving_at l w) (served bytes l w)).link.hub
came_step whole bytes l w rows = served_step bytes l w rows
came_step (short draws made put) bytes l w rows = step_events (take made (served bytes l w).events) w.hub rows
came_step (unticked keys) bytes l w rows = served_step bytes l w rows

settled_step : (b : Bool) (now : ℕ) (h : Hub) (s : Serving) → HubStep h s.hub → HubStep h (if b then left now s else s).hub
settled_step true now h s step = step_trans h s.hub (hub_left s.seat now s.hub) step (λ rows. step_left s.seat now s.hub rows)
settled_step false now h s step = step

step_piece : (mark : Mark) (bytes : List ℕ) (f : Found) (w : Grand) → HaveRows w.hub → at_number w.clients f.place.client ≡ Some f.client → WorldStep w (piece_came mark bytes f w)
unfolding piece_came
step_piece mark bytes f w rows there =
    let c = came_by mark (serving_at f.link w) (served bytes f.link w) in record {
      clients = rise_link w (piece_came mark bytes f w) f _ there refl;
      hub = settled_step c.is_over w.now w.hub c.link (came_step mark bytes f.link w rows);
    }

step_gone : (f : Found) (w : Grand) → HaveRows w.hub → at_number w.clients f.place.client ≡ Some f.client → WorldStep w (server_left f w)
unfolding server_left
step_gone f w rows there = record {
  clients = rise_link w (server_left f w) f _ there refl;
  hub = step_left f.link.server.seat w.now w.hub rows;
}

step_down : (bytes : List ℕ) (f : Found) (w : Grand) → HaveRows w.hub → at_number w.clients f.place.client ≡ Some f.client → WorldStep w (comes_down bytes f w)
step_down bytes f w rows there =
    let v = put_link f (record f.link { link = read_on A _ f.link.link }) w in
    step_by_clients w (comes_down bytes f w) rows refl
    (rise_trans w v (comes_down bytes f w) (rise_link w v f _ there refl)
    (rise_client v f.place.client (takes (is_last f.place f.client) bytes w.now) (λ c. rise_takes (is_last f.place f.client) bytes w.now c)))

step_cut : (f : Found) (w : Grand) → HaveRows w.hub → at_number w.clients f.place.client ≡ Some f.client → WorldStep w (cuts f w)
step_cut f w rows there = step_by_clients w (cuts f w) rows refl (rise_link w (cuts f w) f (record f.link { link = cut_off f.link.link }) there refl)

world_itself : (w : Grand) → HaveRows w.hub → WorldStep w w
world_itself w rows = step_by_clients w w rows refl (rise_itself w)

on_found : (change : Found → Grand → Grand) (w : Grand) → HaveRows w.hub
    → ((f : Found) → at_number w.clients f.place.client ≡ Some f.client → WorldStep w (change f w))
    → (p : Place) (c : Client) (o : Option GrandLink) → at_number w.clients p.client ≡ Some c → WorldStep w (on_link change (found_link p c o) w)
on_found change w rows step p c None is = world_itself w rows
on_found change w rows step p c (Some l) is = step (record { place = p; client = c; link = l }) is

on_client : (change : Found → Grand → Grand) (w : Grand) → HaveRows w.hub
    → ((f : Found) → at_number w.clients f.place.client ≡ Some f.client → WorldStep w (change f w))
    → (p : Place) (o : Option Client) → at_number w.clients p.client ≡ o → WorldStep w (on_link change (found_client p o) w)
on_client change w rows step p None is = world_itself w rows
on_client change w rows step p (Some c) is = on_found change w rows step p c (at_number c.links p.link) is

on_place : (change : Found → Grand → Grand) (w : Grand) → HaveRows w.hub
    → ((f : Found) → at_number w.clients f.place.client ≡ Some f.client → WorldStep w (change f w))
    → (o : Option Place) → WorldStep w (on_link change (found_at o w.clients) w)
on_place change w rows step None = world_itself w rows
on_place change w rows step (Some p) = on_client change w rows step p (at_number w.clients p.client) refl

-- ---- jobs

later_told : (t : Telling) (now : ℕ) → SessionOnlyGrows (told t now)
later_told (answers id reply fire) now = rises_answer id reply fire now
later_told (speaks body) now = rises_say body now

step_telling : (refused : Option SessionRefusal) (key : Key) (t : Telling) (s : Session) (w : Grand) → w.hub.session key ≡ Some s → HaveRows w.hub
    → HubStep w.hub (unless_ended refused key t s w).hub
step_telling None key t s w is rows = step_at w.hub key s (told t w.now s) is (later_told t w.now s) rows
step_telling (Some refused) key t s w is rows = step_itself w.hub rows

-- who is told is the session of the job's key
pub told_session : (t : Option Telling) (r : Option Row) (o : Option Session) (found : Told) → told_to t (session_by r o) ≡ Some found → o ≡ Some found.session
told_session None r o found is = absurd cc
told_session (Some t) None o found is = absurd cc
told_session (Some t) (Some r) None found is = absurd cc
told_session (Some t) (Some r) (Some s) found is = ap (λ (x : Session). Some x) (ap (λ (x : Told). x.session) (there_is is))

step_missing : (o : Option Row) (key : Key) (w : Grand) → HaveRows w.hub → HubStep w.hub (misses o key w).hub
step_missing None key w rows = step_missed key w.now w.hub rows
step_missing (Some r) key w rows = step_itself w.hub rows

step_tells : (key : Key) (found : Option Told) (w : Grand) → ((t : Told) → found ≡ Some t → w.hub.session key ≡ Some t.session) → HaveRows w.hub → HubStep w.hub (tells key found w).hub
step_tells key None w is rows = step_missing (row w.hub key) key w rows
step_tells key (Some t) w is rows = step_telling (telling_refusal t.telling t.session) key t.telling t.session w (is t refl) rows

step_job : (o : Option SeenJob) (n : ℕ) (w : Grand) → HaveRows w.hub → HubStep w.hub (work_by o n w).hub
step_job None n w rows = step_itself w.hub rows
step_job (Some job) n w rows =
    step_tells job.key (told_by job w) (without_job n w)
    (λ t is. told_session (telling job.work) (row w.hub job.key) (w.hub.session job.key) t is) rows

work_clients : (o : Option SeenJob) (n : ℕ) (w : Grand) → (work_by o n w).clients ≡ w.clients
work_clients None n w = refl
work_clients (Some job) n w = by (told_by job w)
  where
    telling_clients : (refused : Option SessionRefusal) (key : Key) (t : Telling) (s : Session) (v : Grand) → (unless_ended refused key t s v).clients ≡ v.clients
    telling_clients None key t s v = refl
    telling_clients (Some refused) key t s v = refl

    missing_clients : (r : Option Row) (key : Key) (v : Grand) → (misses r key v).clients ≡ v.clients
    missing_clients None key v = refl
    missing_clients (Some r) key v = refl

    by : (found : Option Told) → (tells job.key found (without_job n w)).clients ≡ w.clients
    by None = missing_clients (row w.hub job.key) job.key (without_job n w)
    by (Some t) = telling_clients (telling_refusal t.telling t.session) job.key t.telling t.session (without_job n w)

rise_same : (w v : Grand) → v.clients ≡ w.clients → ClientsRise w v
rise_same w v same n c is = (c, ap (λ (l : List Client). at_number l n) same ∙ is, refl, later_refl c.dialer.session.peer)

step_work : (n : ℕ) (w : Grand) → HaveRows w.hub → WorldStep w (worked n w)
unfolding worked
step_work n w rows = record {
  clients = rise_same w (worked n w) (work_clients (at_number w.jobs n) n w);
  hub = step_job (at_number w.jobs n) n w rows;
}

-- ---- any event

step_dialer : (n : ℕ) (event : DialEvent) (w : Grand) → HaveRows w.hub → WorldStep w (on_dialer n event w)
step_dialer n event w rows = step_by_clients w (on_dialer n event w) rows refl (rise_client w n (dialled event w.now) (λ c. (dialled_key event w.now c, rises_dialled event w.now c)))

step_asked : (n : ℕ) (call : ℕ → Session → Session) (w : Grand) → HaveRows w.hub → SessionOnlyGrows (call w.now) → WorldStep w (on_session n call w)
step_asked n call w rows grows = step_by_clients w (on_session n call w) rows refl (rise_client w n (asked (call w.now)) (λ c. (asked_key (call w.now) c, rises_asked (call w.now) c grows)))

step_links : (n : ℕ) (w : Grand) → HaveRows w.hub → WorldStep w (links n w)
step_links n w rows =
    let v = with_client n (linked w.now) w in record {
      clients = rise_place w v n (at_number v.clients n) (rise_client w n (linked w.now) (λ c. (dialled_key dial_events.Linked w.now (record c { links = c.links ++ fresh_link c ∷ [] }), rises_linked w.now c)));
      hub = place_hub (at_number v.clients n) v (step_itself w.hub rows);
    }
  where
    place_hub : (o : Option Client) (v : Grand) → HubStep w.hub v.hub → HubStep w.hub (with_place n o v).hub
    place_hub None v step = step
    place_hub (Some c) v step = step

step_happens : (mark : Mark) (event : GrandEvent) (w : Grand) → HaveRows w.hub → WorldStep w (happens mark event w)
unfolding happens sweeps
step_happens mark (events.At now) w rows = step_by_clients w (happens mark (events.At now) w) rows refl (rise_same w (happens mark (events.At now) w) refl)
step_happens mark (events.Client key) w rows =
    step_by_clients w (joins key w) rows refl
    (λ n c is. (c, number_front w.clients (new_client key w.now ∷ []) n c is, refl, later_refl c.dialer.session.peer))
step_happens mark (events.Step n) w rows = step_dialer n dial_events.Tick w rows
step_happens mark (events.Linked n) w rows = step_links n w rows
step_happens mark (events.NoLink n) w rows = step_dialer n dial_events.NoLink w rows
step_happens mark (events.Up link count) w rows =
    on_place (λ f. piece_came mark (bytes_up count f.link) f) w rows (λ f is. step_piece mark (bytes_up count f.link) f w rows is) (at_number w.places link)
step_happens mark (events.Idle link) w rows = on_place (piece_came mark []) w rows (λ f is. step_piece mark [] f w rows is) (at_number w.places link)
step_happens mark (events.Down link count) w rows =
    on_place (λ f. comes_down (bytes_down count f.link) f) w rows (λ f is. step_down (bytes_down count f.link) f w rows is) (at_number w.places link)
step_happens mark (events.Frame n) w rows = step_dialer n dial_events.Frame w rows
step_happens mark (events.Cut link) w rows = on_place cuts w rows (λ f is. step_cut f w rows is) (at_number w.places link)
step_happens mark (events.Gone link) w rows = on_place server_left w rows (λ f is. step_gone f w rows is) (at_number w.places link)
step_happens mark (events.Lost n) w rows = step_dialer n dial_events.LinkLost w rows
step_happens mark events.Sweep w rows = record {
  clients = rise_same w (happens mark events.Sweep w) refl;
  hub = step_swept w.now (expired_keys w) (left_by mark) w.hub rows;
}
step_happens mark (events.Work job) w rows = step_work job w rows
step_happens mark (events.Call n channel name arg) w rows = step_asked n (calls.call channel name (buffer arg)) w rows (rises_call channel name (buffer arg) w.now)
step_happens mark (events.CallText n channel name arg) w rows = step_asked n (calls.call channel name (text arg)) w rows (rises_call channel name (text arg) w.now)
step_happens mark (events.Listen n channel name) w rows = step_asked n (calls.listen channel name undefined) w rows (rises_listen channel name undefined w.now)
step_happens mark (events.Cancel n id) w rows = step_asked n (calls.cancel (id_of id)) w rows (rises_cancel (id_of id) w.now)
step_happens mark (events.Dispose n id) w rows = step_asked n (calls.dispose (id_of id)) w rows (rises_dispose (id_of id) w.now)
step_happens mark (events.Say n body) w rows = step_asked n (calls.say_body body) w rows (rises_say body w.now)
step_happens mark (events.Stop n) w rows = step_dialer n dial_events.Stop w rows

step_unless : (o : Option Refusal) (w v : Grand) → HaveRows w.hub → WorldStep w v → WorldStep w (unless o v w)
step_unless None w v rows step = step
step_unless (Some refused) w v rows step = world_itself w rows

pub step_after : (entry : Entry) (w : Grand) → HaveRows w.hub → WorldStep w (after entry w)
step_after entry w rows = step_unless (refusal entry.event w) w (happens entry.mark entry.event w) rows (step_happens entry.mark entry.event w rows)

rows_run : (entries : List Entry) (w : Grand) → HaveRows w.hub → HaveRows (run entries w).hub
rows_run [] w rows = rows
rows_run (entry ∷ entries) w rows = rows_run entries (after entry w) (step_after entry w rows).hub.1

pub rows_new : HaveRows new_grand.hub
rows_new key none = refl

-- of a world that is reached
pub rows_reached : (entries : List Entry) → HaveRows (run entries new_grand).hub
rows_reached entries = rows_run entries new_grand rows_new

steps_trans : (w v u : Grand) → WorldStep w v → (HaveRows v.hub → WorldStep v u) → WorldStep w u
steps_trans w v u a b =
    let c = b a.hub.1 in record {
      clients = rise_trans w v u a.clients c.clients;
      hub = step_trans w.hub v.hub u.hub a.hub (λ rows. c.hub);
    }

pub step_run : (entries : List Entry) (w : Grand) → HaveRows w.hub → WorldStep w (run entries w)
step_run [] w rows = world_itself w rows
step_run (entry ∷ entries) w rows =
    steps_trans w (after entry w) (run entries (after entry w)) (step_after entry w rows) (λ more. step_run entries (after entry w) more)

-- from each world of a run to each later one
pub rises_later : (entries later : List Entry) → WorldStep (run entries new_grand) (run later (run entries new_grand))
rises_later entries later = step_run later (run entries new_grand) (rows_reached entries)
