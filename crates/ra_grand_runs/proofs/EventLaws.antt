-- What any event keeps of a world.
use Rattle.std.proofs.Common.{◌≡◌, ℕ, ◌+◌, ◌≤◌, max, Bool, true, false, Option, Some, None, List, [], ◌∷◌, ◌++◌, length, refl, ap, sym, ◌∙◌, append-nil, arith}
use Rattle.std.specs.Prelude.{◌≢◌}
use Rattle.std.proofs.lemmas.List.{map-append}
use Rattle.ra_base.specs.declared.event.Count.{Count}
use Rattle.ra_base.specs.declared.key.Key.{Key}
use Rattle.ra_model.specs.Links.{at_number, cut_off}
use Rattle.ra_values.specs.Tree.{undefined, text, buffer}
use Rattle.ra_ipc.specs.View.{id_of}
use Rattle.ra_registry.specs.declared.row.Row.{Row}
use Rattle.ra_session.specs.Sessions.{Session}
use Rattle.ra_session.specs.SessionCalls as calls
use Rattle.ra_session.specs.SessionRefusals as session_refusals
use Rattle.ra_dial.specs.declared.values.DialEvent.{DialEvent}
use Rattle.ra_dial.specs.declared.values.DialEvent.TheVariants as dial_events
use Rattle.ra_hub.specs.Hubs.{row, missed}
use Rattle.ra_hub.specs.Jobs.{SeenJob}
use Rattle.ra_script.specs.declared.grand_line.GrandEvent.{GrandEvent}
use Rattle.ra_script.specs.declared.grand_line.GrandEvent.TheVariants as events
use Rattle.ra_grand_runs.specs.GrandClients.{GrandLink, Client, new_client, dialled, linked, asked}
use Rattle.ra_grand_runs.specs.GrandRuns.{joins, on_dialer, on_session, with_place, links, bytes_up, bytes_down, takes, is_last, comes_down, cuts, happens}
use Rattle.ra_grand_runs.specs.Grands.{Grand, Place, Found, with_client, with_link, found_link, found_client, found_at, put_link, on_link}
use Rattle.ra_grand_runs.specs.GrandSweeps.{sweeps}
use Rattle.ra_grand_runs.specs.Lasting.{BeginsWith, history_of}
use Rattle.ra_grand_runs.specs.Marks.{Mark}
use Rattle.ra_grand_runs.specs.Owners.{owner_of, owner}
use Rattle.ra_grand_runs.specs.ServedLinks.{piece_came, server_left}
use Rattle.ra_grand_runs.specs.Works.{Telling, Told, told_by, telling_refusal, unless_ended, misses, tells, without_job, work_by, worked}
use Rattle.ra_grand_runs.proofs.KeptClients.{keys, put_other, changed_other, number_more, put_keys, changed_keys}
use Rattle.ra_grand_runs.proofs.KeptHistories.{begins_itself, begins_trans, longer_left, piece_longer}

-- the keys of the clients that an event makes
abbrev pub made_keys : GrandEvent → List Key
made_keys (events.At now) = []
made_keys (events.Client key) = key ∷ []
made_keys (events.Step n) = []
made_keys (events.Linked n) = []
made_keys (events.NoLink n) = []
made_keys (events.Up link count) = []
made_keys (events.Idle link) = []
made_keys (events.Down link count) = []
made_keys (events.Frame n) = []
made_keys (events.Cut link) = []
made_keys (events.Gone link) = []
made_keys (events.Lost n) = []
made_keys events.Sweep = []
made_keys (events.Work job) = []
made_keys (events.Call n channel name arg) = []
made_keys (events.CallText n channel name arg) = []
made_keys (events.Listen n channel name) = []
made_keys (events.Cancel n id) = []
made_keys (events.Dispose n id) = []
made_keys (events.Say n body) = []
made_keys (events.Stop n) = []

-- the one world becomes the other by an event about this client, which makes clients with these keys
pub record Keeps (about : Option ℕ) (made : List Key) (w v : Grand) : Type 0 where
  pub now : w.now ≤ v.now
  pub places : BeginsWith v.places w.places
  pub keys_are : keys v.clients ≡ keys w.clients ++ made
  pub others : (n : ℕ) → about ≢ Some n → at_number v.clients n ≡ at_number w.clients n
  pub history : BeginsWith (history_of v) (history_of w)

stays_at : (n : ℕ) → n ≤ n
stays_at n = omega arith

pub keeps_itself : (about : Option ℕ) (w : Grand) → Keeps about [] w w
keeps_itself about w = record {
  now = stays_at w.now;
  places = begins_itself w.places;
  keys_are = sym (append-nil (keys w.clients));
  others = λ n ne. refl;
  history = begins_itself (history_of w);
}

keeps_both : (about : Option ℕ) (w v u : Grand) → Keeps about [] w v → Keeps about [] v u → Keeps about [] w u
keeps_both about w v u a b = record {
  now = omega (arith, a.now, b.now);
  places = begins_trans w.places v.places u.places a.places b.places;
  keys_are = b.keys_are ∙ append-nil (keys v.clients) ∙ a.keys_are;
  others = λ n ne. b.others n ne ∙ a.others n ne;
  history = begins_trans (history_of w) (history_of v) (history_of u) a.history b.history;
}

-- ---- clients

later : (a b : ℕ) → a ≤ max a b
later a b = omega arith

keeps_at : (now : ℕ) (w : Grand) → Keeps None [] w (record w { now = max w.now now })
keeps_at now w = record {
  now = later w.now now;
  places = begins_itself w.places;
  keys_are = sym (append-nil (keys w.clients));
  others = λ n ne. refl;
  history = begins_itself (history_of w);
}

keeps_joins : (key : Key) (w : Grand) → Keeps (Some (length w.clients + 1)) (key ∷ []) w (joins key w)
keeps_joins key w = record {
  now = stays_at w.now;
  places = begins_itself w.places;
  keys_are = map-append (λ (c : Client). c.key) w.clients (new_client key w.now ∷ []);
  others = λ n ne. number_more w.clients (new_client key w.now) n (λ e. ne (ap (λ (m : ℕ). Some m) e));
  history = begins_itself (history_of w);
}

keeps_client : (n : ℕ) (f : Client → Client) (w : Grand) → ((c : Client) → (f c).key ≡ c.key) → Keeps (Some n) [] w (with_client n f w)
keeps_client n f w same = record {
  now = stays_at w.now;
  places = begins_itself w.places;
  keys_are = changed_keys n f (at_number w.clients n) w.clients refl same ∙ sym (append-nil (keys w.clients));
  others = λ m ne. changed_other n m f (at_number w.clients n) w.clients (λ e. ne (ap (λ (k : ℕ). Some k) e));
  history = begins_itself (history_of w);
}

dialled_key : (event : DialEvent) (now : ℕ) (c : Client) → (dialled event now c).key ≡ c.key
unfolding dialled
dialled_key event now c = refl

asked_key : (call : Session → Session) (c : Client) → (asked call c).key ≡ c.key
unfolding asked
asked_key call c = refl

linked_key : (now : ℕ) (c : Client) → (linked now c).key ≡ c.key
unfolding dialled
linked_key now c = refl

takes_key : (b : Bool) (bytes : List ℕ) (now : ℕ) (c : Client) → (takes b bytes now c).key ≡ c.key
takes_key true bytes now c = dialled_key (dial_events.Piece bytes) now c
takes_key false bytes now c = refl

keeps_dialer : (n : ℕ) (event : DialEvent) (w : Grand) → Keeps (Some n) [] w (on_dialer n event w)
keeps_dialer n event w = keeps_client n (dialled event w.now) w (λ c. dialled_key event w.now c)

keeps_session : (n : ℕ) (call : ℕ → Session → Session) (w : Grand) → Keeps (Some n) [] w (on_session n call w)
keeps_session n call w = keeps_client n (asked (call w.now)) w (λ c. asked_key (call w.now) c)

keeps_place : (n : ℕ) (o : Option Client) (w v : Grand) → Keeps (Some n) [] w v → Keeps (Some n) [] w (with_place n o v)
keeps_place n None w v keeps = keeps
keeps_place n (Some c) w v keeps = record {
  now = keeps.now;
  places = begins_trans w.places v.places (v.places ++ record { client = n; link = length c.links } ∷ []) keeps.places (_, refl);
  keys_are = keeps.keys_are;
  others = keeps.others;
  history = keeps.history;
}

keeps_links : (n : ℕ) (w : Grand) → Keeps (Some n) [] w (links n w)
keeps_links n w =
    let v = with_client n (linked w.now) w in
    keeps_place n (at_number v.clients n) w v (keeps_client n (linked w.now) w (λ c. linked_key w.now c))

-- ---- links

-- a change of a link that is there
abbrev KeepsFound : (Found → Grand → Grand) → Grand → Type 0
KeepsFound change w = (f : Found) → at_number w.clients f.place.client ≡ Some f.client → Keeps (Some f.place.client) [] w (change f w)

by_link : (change : Found → Grand → Grand) (w : Grand) → KeepsFound change w
    → (p : Place) (c : Client) (o : Option GrandLink) → at_number w.clients p.client ≡ Some c → Keeps (Some p.client) [] w (on_link change (found_link p c o) w)
by_link change w keeps p c None is = keeps_itself (Some p.client) w
by_link change w keeps p c (Some l) is = keeps (record { place = p; client = c; link = l }) is

by_client : (change : Found → Grand → Grand) (w : Grand) → KeepsFound change w
    → (p : Place) (o : Option Client) → at_number w.clients p.client ≡ o → Keeps (Some p.client) [] w (on_link change (found_client p o) w)
by_client change w keeps p None is = keeps_itself (Some p.client) w
by_client change w keeps p (Some c) is = by_link change w keeps p c (at_number c.links p.link) is

by_place : (change : Found → Grand → Grand) (w : Grand) → KeepsFound change w
    → (o : Option Place) → Keeps (owner_of o) [] w (on_link change (found_at o w.clients) w)
by_place change w keeps None = keeps_itself None w
by_place change w keeps (Some p) = by_client change w keeps p (at_number w.clients p.client) refl

-- a link becomes another, in a world with another hub and other jobs
keeps_put : (f : Found) (l : GrandLink) (w v : Grand) → w.now ≤ v.now → v.places ≡ w.places → v.clients ≡ w.clients → BeginsWith (history_of v) (history_of w)
    → at_number w.clients f.place.client ≡ Some f.client → Keeps (Some f.place.client) [] w (put_link f l v)
keeps_put f l w v now places clients history is = record {
  now = now;
  places = ([], places ∙ sym (append-nil w.places));
  keys_are =
      ap (λ (cs : List Client). keys (put_of f l cs)) clients
      ∙ put_keys w.clients f.place.client f.client (with_link f.place.link l f.client) is refl
      ∙ sym (append-nil (keys w.clients));
  others = λ n ne.
      ap (λ (cs : List Client). at_number (put_of f l cs) n) clients
      ∙ put_other w.clients f.place.client n (with_link f.place.link l f.client) (λ e. ne (ap (λ (m : ℕ). Some m) e));
  history = history;
}
  where
    put_of : Found → GrandLink → List Client → List Client
    put_of f l cs = (put_link f l (record { now = 0; hub = w.hub; drawn = 0; jobs = []; clients = cs; places = [] })).clients

keeps_same : (f : Found) (l : GrandLink) (w : Grand) → at_number w.clients f.place.client ≡ Some f.client → Keeps (Some f.place.client) [] w (put_link f l w)
keeps_same f l w is = keeps_put f l w w (stays_at w.now) refl refl (begins_itself (history_of w)) is

keeps_cuts : (w : Grand) (f : Found) → at_number w.clients f.place.client ≡ Some f.client → Keeps (Some f.place.client) [] w (cuts f w)
keeps_cuts w f is = keeps_same f (record f.link { link = cut_off f.link.link }) w is

keeps_down : (count : Count) (w : Grand) (f : Found) → at_number w.clients f.place.client ≡ Some f.client
    → Keeps (Some f.place.client) [] w (comes_down (bytes_down count f.link) f w)
keeps_down count w f is =
    let bytes = bytes_down count f.link in
    let v = put_link f _ w in
    keeps_both (Some f.place.client) w v (comes_down bytes f w) (keeps_same f _ w is)
    (keeps_client f.place.client (takes (is_last f.place f.client) bytes w.now) v (λ c. takes_key (is_last f.place f.client) bytes w.now c))

keeps_piece : (mark : Mark) (bytes : List ℕ) (w : Grand) (f : Found) → at_number w.clients f.place.client ≡ Some f.client
    → Keeps (Some f.place.client) [] w (piece_came mark bytes f w)
unfolding piece_came
keeps_piece mark bytes w f is = keeps_put f _ w _ (stays_at w.now) refl refl (piece_longer mark bytes f.link w) is

keeps_left : (w : Grand) (f : Found) → at_number w.clients f.place.client ≡ Some f.client → Keeps (Some f.place.client) [] w (server_left f w)
unfolding server_left
keeps_left w f is = keeps_put f _ w _ (stays_at w.now) refl refl (longer_left f.link.server.seat w.now w.hub) is

-- ---- sweeps and jobs

keeps_sweep : (mark : Mark) (w : Grand) → Keeps None [] w (sweeps mark w)
unfolding sweeps
keeps_sweep mark w = record {
  now = stays_at w.now;
  places = begins_itself w.places;
  keys_are = sym (append-nil (keys w.clients));
  others = λ n ne. refl;
  history = (_, refl);
}

keeps_ended : (o : Option session_refusals.Refusal) (key : Key) (t : Telling) (s : Session) (w v : Grand) → Keeps None [] w v → Keeps None [] w (unless_ended o key t s v)
keeps_ended None key t s w v keeps = record { now = keeps.now; places = keeps.places; keys_are = keeps.keys_are; others = keeps.others; history = keeps.history }
keeps_ended (Some refusal) key t s w v keeps = keeps

keeps_misses : (o : Option Row) (key : Key) (w v : Grand) → Keeps None [] w v → Keeps None [] w (misses o key v)
unfolding missed
keeps_misses None key w v keeps = record {
  now = keeps.now;
  places = keeps.places;
  keys_are = keeps.keys_are;
  others = keeps.others;
  history = begins_trans (history_of w) (history_of v) _ keeps.history (_, refl);
}
keeps_misses (Some r) key w v keeps = keeps

keeps_tells : (o : Option Told) (key : Key) (w v : Grand) → Keeps None [] w v → Keeps None [] w (tells key o v)
keeps_tells None key w v keeps = keeps_misses (row v.hub key) key w v keeps
keeps_tells (Some t) key w v keeps = keeps_ended (telling_refusal t.telling t.session) key t.telling t.session w v keeps

keeps_job : (o : Option SeenJob) (n : ℕ) (w : Grand) → Keeps None [] w (work_by o n w)
keeps_job None n w = keeps_itself None w
keeps_job (Some job) n w = keeps_tells (told_by job w) job.key w (without_job n w) (record {
  now = stays_at w.now;
  places = begins_itself w.places;
  keys_are = sym (append-nil (keys w.clients));
  others = λ m ne. refl;
  history = begins_itself (history_of w);
})

keeps_work : (n : ℕ) (w : Grand) → Keeps None [] w (worked n w)
unfolding worked
keeps_work n w = keeps_job (at_number w.jobs n) n w

-- ---- any event

pub keeps : (mark : Mark) (event : GrandEvent) (w : Grand) → Keeps (owner event w) (made_keys event) w (happens mark event w)
unfolding happens
keeps mark (events.At now) w = keeps_at now w
keeps mark (events.Client key) w = keeps_joins key w
keeps mark (events.Step n) w = keeps_dialer n dial_events.Tick w
keeps mark (events.Linked n) w = keeps_links n w
keeps mark (events.NoLink n) w = keeps_dialer n dial_events.NoLink w
keeps mark (events.Up link count) w =
    by_place (λ f. piece_came mark (bytes_up count f.link) f) w (λ f. keeps_piece mark (bytes_up count f.link) w f) (at_number w.places link)
keeps mark (events.Idle link) w = by_place (piece_came mark []) w (λ f. keeps_piece mark [] w f) (at_number w.places link)
keeps mark (events.Down link count) w =
    by_place (λ f. comes_down (bytes_down count f.link) f) w (λ f. keeps_down count w f) (at_number w.places link)
keeps mark (events.Frame n) w = keeps_dialer n dial_events.Frame w
keeps mark (events.Cut link) w = by_place cuts w (λ f. keeps_cuts w f) (at_number w.places link)
keeps mark (events.Gone link) w = by_place server_left w (λ f. keeps_left w f) (at_number w.places link)
keeps mark (events.Lost n) w = keeps_dialer n dial_events.LinkLost w
keeps mark events.Sweep w = keeps_sweep mark w
keeps mark (events.Work job) w = keeps_work job w
keeps mark (events.Call n channel name arg) w = keeps_session n (calls.call channel name (buffer arg)) w
keeps mark (events.CallText n channel name arg) w = keeps_session n (calls.call channel name (text arg)) w
keeps mark (events.Listen n channel name) w = keeps_session n (calls.listen channel name undefined) w
keeps mark (events.Cancel n id) w = keeps_session n (calls.cancel (id_of id)) w
keeps mark (events.Dispose n id) w = keeps_session n (calls.dispose (id_of id)) w
keeps mark (events.Say n body) w = keeps_session n (calls.say_body body) w
keeps mark (events.Stop n) w = keeps_dialer n dial_events.Stop w
