-- The packets that the session of a key has said, but for Initialize, over a run.
use Rattle.std.proofs.Common.{◌≡◌, ℕ, Bool, true, false, cond, Option, Some, None, List, [], ◌∷◌, ◌++◌, refl, ap, sym, ◌∙◌, subst, append-nil, append_assoc}
use Rattle.ra_base.specs.declared.key.Key.{Key}
use Rattle.ra_ipc.specs.Messages.{Message}
use Rattle.ra_model.specs.Links.{at_number}
use Rattle.ra_registry.specs.declared.row.Row.{Row}
use Rattle.ra_registry.specs.Rows.{same_key}
use Rattle.ra_registry.proofs.SameKeys.{same_key_is, same_key_other_way}
use Rattle.ra_session.specs.SessionCalls.{say_body}
use Rattle.ra_session.specs.SessionRefusals.{Refusal as SessionRefusal}
use Rattle.ra_session.specs.Sessions.{Session}
use Rattle.ra_hub.specs.Hubs.{Hub, row, missed}
use Rattle.ra_hub.specs.Jobs.{SeenJob}
use Rattle.ra_script.specs.declared.grand_line.GrandEvent.{GrandEvent}
use Rattle.ra_script.specs.declared.grand_line.GrandEvent.TheVariants as events
use Rattle.ra_grand_runs.specs.GrandClients.{Client, linked}
use Rattle.ra_grand_runs.specs.GrandRefusals.{Refusal, refusal}
use Rattle.ra_grand_runs.specs.GrandRuns.{bytes_up, with_place, links, happens, unless as kept_unless, after, run}
use Rattle.ra_grand_runs.specs.Grands.{Grand, Found, with_client, find_link, on_link, new_grand}
use Rattle.ra_grand_runs.specs.GrandSweeps.{expired_keys, left_by, sweeps}
use Rattle.ra_grand_runs.specs.Marks.{Mark, Entry}
use Rattle.ra_grand_runs.specs.ServedLinks.{serving_at, served, came_by, piece_came, server_left}
use Rattle.ra_grand_runs.specs.Works.{Telling, answers, speaks, told, telling, telling_refusal, Told, told_by, unless_ended, misses, tells, without_job, work_by, worked}
use Rattle.ra_run_laws.specs.Runs.{unless}
use Rattle.ra_run_laws.specs.SaidPackets.{without_initialize, packets_told, unless_refused, packets_of, job_packets, packets_by, packets_over}
use Rattle.ra_run_laws.proofs.HubPackets.{SaidOf, HubSaid, said_left, said_came, said_settled, said_sweep}
use Rattle.ra_run_laws.proofs.Lists.{by_bool}
use Rattle.ra_run_laws.proofs.Rising.{came_step, step_after, rows_new, told_session}
use Rattle.ra_run_laws.proofs.RisingHubs.{HaveRows}
use Rattle.ra_run_laws.proofs.SessionPackets.{HasSaid, said_body, said_answer}

-- nothing is added
same : (key : Key) (said : List Message) (h : Hub) → HubSaid key said h → HubSaid key (said ++ []) h
same key said h has = subst (λ (l : List Message). HubSaid key l h) (sym (append-nil said)) has

-- ---- links

link_said : (key : Key) (said : List Message) (change : Found → Grand → Grand) (o : Option Found) (w : Grand) → HubSaid key said w.hub → ((f : Found) → HubSaid key said (change f w).hub)
    → HubSaid key said (on_link change o w).hub
link_said key said change None w has more = has
link_said key said change (Some f) w has more = more f

said_piece : (key : Key) (said : List Message) (mark : Mark) (bytes : List ℕ) (f : Found) (w : Grand) → HaveRows w.hub → HubSaid key said w.hub → HubSaid key said (piece_came mark bytes f w).hub
unfolding piece_came
said_piece key said mark bytes f w rows has =
    let c = came_by mark (serving_at f.link w) (served bytes f.link w) in
    said_settled key said c.is_over w.now c.link (came_step mark bytes f.link w rows).1 (said_came key said mark bytes f.link w rows has)

said_gone : (key : Key) (said : List Message) (f : Found) (w : Grand) → HaveRows w.hub → HubSaid key said w.hub → HubSaid key said (server_left f w).hub
unfolding server_left
said_gone key said f w rows has = said_left key said f.link.server.seat w.now w.hub rows has

-- ---- jobs

said_told : (said : List Message) (t : Telling) (now : ℕ) (s : Session) → HasSaid said s → HasSaid (said ++ packets_told t s) (told t now s)
said_told said (answers id reply fire) now s has = said_answer said id reply fire now s has
said_told said (speaks body) now s has = subst (λ (l : List Message). HasSaid l (say_body body now s)) (sym (append-nil said)) (said_body said body now s has)

nothing_if : (b : Bool) → ◌≡◌ {A = List Message} (cond b [] []) []
nothing_if true = refl
nothing_if false = refl

said_missing : (o : Option Row) (key of : Key) (said : List Message) (w : Grand) → HubSaid key said w.hub → HubSaid key said (misses o of w).hub
unfolding missed
said_missing None key of said w has = has
said_missing (Some r) key of said w has = has

-- the session of the job's key is told, or has ended
said_telling : (refused : Option SessionRefusal) (key of : Key) (t : Telling) (s : Session) (said : List Message) (w : Grand) → w.hub.session of ≡ Some s → HubSaid key said w.hub
    → HubSaid key (said ++ cond (same_key key of) (unless_refused refused (packets_told t s)) []) (unless_ended refused of t s w).hub
said_telling (Some r) key of t s said w is has =
    subst (λ (l : List Message). HubSaid key (said ++ l) w.hub) (sym (nothing_if (same_key key of))) (same key said w.hub has)
said_telling None key of t s said w is has = by_bool (same_key key of) here elsewhere
  where
    other_way : same_key of key ≡ same_key key of
    other_way = same_key_other_way of key

    here : same_key key of ≡ true → SaidOf (said ++ cond (same_key key of) (packets_told t s) []) (cond (same_key of key) (Some (told t w.now s)) (w.hub.session key))
    here alike =
        subst (λ (b : Bool). SaidOf (said ++ cond (same_key key of) (packets_told t s) []) (cond b (Some (told t w.now s)) (w.hub.session key))) (sym (other_way ∙ alike))
        (subst (λ (b : Bool). SaidOf (said ++ cond b (packets_told t s) []) (Some (told t w.now s))) (sym alike)
        (said_told said t w.now s (subst (λ (o : Option Session). SaidOf said o) (ap w.hub.session (same_key_is key of alike) ∙ is) has)))

    elsewhere : same_key key of ≡ false → SaidOf (said ++ cond (same_key key of) (packets_told t s) []) (cond (same_key of key) (Some (told t w.now s)) (w.hub.session key))
    elsewhere apart =
        subst (λ (b : Bool). SaidOf (said ++ cond (same_key key of) (packets_told t s) []) (cond b (Some (told t w.now s)) (w.hub.session key))) (sym (other_way ∙ apart))
        (subst (λ (b : Bool). SaidOf (said ++ cond b (packets_told t s) []) (w.hub.session key)) (sym apart)
        (subst (λ (l : List Message). SaidOf l (w.hub.session key)) (sym (append-nil said)) has))

said_tells : (key of : Key) (found : Option Told) (said : List Message) (w : Grand) → ((t : Told) → found ≡ Some t → w.hub.session of ≡ Some t.session) → HubSaid key said w.hub
    → HubSaid key (said ++ cond (same_key key of) (packets_of found) []) (tells of found w).hub
said_tells key of None said w is has =
    subst (λ (l : List Message). HubSaid key (said ++ l) (misses (row w.hub of) of w).hub) (sym (nothing_if (same_key key of)))
    (same key said (misses (row w.hub of) of w).hub (said_missing (row w.hub of) key of said w has))
said_tells key of (Some t) said w is has = said_telling (telling_refusal t.telling t.session) key of t.telling t.session said w (is t refl) has

said_job : (o : Option SeenJob) (key : Key) (n : ℕ) (said : List Message) (w : Grand) → HubSaid key said w.hub → HubSaid key (said ++ job_packets key o w) (work_by o n w).hub
said_job None key n said w has = same key said w.hub has
said_job (Some job) key n said w has =
    said_tells key job.key (told_by job w) said (without_job n w)
    (λ t is. told_session (telling job.work) (row w.hub job.key) (w.hub.session job.key) t is) has

place_hub : (key : Key) (said : List Message) (n : ℕ) (o : Option Client) (v : Grand) → HubSaid key said v.hub → HubSaid key said (with_place n o v).hub
place_hub key said n None v has = has
place_hub key said n (Some c) v has = has

-- ---- any event

said_happens : (key : Key) (said : List Message) (mark : Mark) (event : GrandEvent) (w : Grand) → HaveRows w.hub → HubSaid key said w.hub
    → HubSaid key (said ++ packets_by key mark event w) (happens mark event w).hub
unfolding happens sweeps worked packets_by
said_happens key said mark (events.At now) w rows has = same key said w.hub has
said_happens key said mark (events.Client k) w rows has = same key said w.hub has
said_happens key said mark (events.Step n) w rows has = same key said w.hub has
said_happens key said mark (events.Linked n) w rows has =
    let v = with_client n (linked w.now) w in same key said (links n w).hub (place_hub key said n (at_number v.clients n) v has)
said_happens key said mark (events.NoLink n) w rows has = same key said w.hub has
said_happens key said mark (events.Up link count) w rows has =
    same key said (on_link (λ f. piece_came mark (bytes_up count f.link) f) (find_link link w) w).hub
    (link_said key said (λ f. piece_came mark (bytes_up count f.link) f) (find_link link w) w has (λ f. said_piece key said mark (bytes_up count f.link) f w rows has))
said_happens key said mark (events.Idle link) w rows has =
    same key said (on_link (piece_came mark []) (find_link link w) w).hub
    (link_said key said (piece_came mark []) (find_link link w) w has (λ f. said_piece key said mark [] f w rows has))
said_happens key said mark (events.Down link count) w rows has =
    same key said (happens mark (events.Down link count) w).hub (link_said key said _ (find_link link w) w has (λ f. has))
said_happens key said mark (events.Frame n) w rows has = same key said w.hub has
said_happens key said mark (events.Cut link) w rows has =
    same key said (happens mark (events.Cut link) w).hub (link_said key said _ (find_link link w) w has (λ f. has))
said_happens key said mark (events.Gone link) w rows has =
    same key said (on_link server_left (find_link link w) w).hub (link_said key said server_left (find_link link w) w has (λ f. said_gone key said f w rows has))
said_happens key said mark (events.Lost n) w rows has = same key said w.hub has
said_happens key said mark events.Sweep w rows has = said_sweep key said w.now (expired_keys w) (left_by mark) w.hub has
said_happens key said mark (events.Work job) w rows has = said_job (at_number w.jobs job) key job said w has
said_happens key said mark (events.Call n channel name arg) w rows has = same key said w.hub has
said_happens key said mark (events.CallText n channel name arg) w rows has = same key said w.hub has
said_happens key said mark (events.Listen n channel name) w rows has = same key said w.hub has
said_happens key said mark (events.Cancel n id) w rows has = same key said w.hub has
said_happens key said mark (events.Dispose n id) w rows has = same key said w.hub has
said_happens key said mark (events.Say n body) w rows has = same key said w.hub has
said_happens key said mark (events.Stop n) w rows has = same key said w.hub has

said_unless : (o : Option Refusal) (key : Key) (said new : List Message) (w v : Grand) → HubSaid key said w.hub → HubSaid key (said ++ new) v.hub → HubSaid key (said ++ unless o new) (kept_unless o v w).hub
said_unless None key said new w v has more = more
said_unless (Some r) key said new w v has more = same key said w.hub has

said_run : (key : Key) (said : List Message) (entries : List Entry) (w : Grand) → HaveRows w.hub → HubSaid key said w.hub → HubSaid key (said ++ packets_over key entries w) (run entries w).hub
said_run key said [] w rows has = same key said w.hub has
said_run key said (entry ∷ entries) w rows has =
    let v = after entry w in
    let new : List Message = unless (refusal entry.event w) (packets_by key entry.mark entry.event w) in
    subst (λ (l : List Message). HubSaid key l (run entries v).hub) (append_assoc said new (packets_over key entries v))
    (said_run key (said ++ new) entries v (step_after entry w rows).hub.1
    (said_unless (refusal entry.event w) key said (packets_by key entry.mark entry.event w) w (happens entry.mark entry.event w) has
    (said_happens key said entry.mark entry.event w rows has)))

pub packets_of_run : (entries : List Entry) (key : Key) (s : Session) → (run entries new_grand).hub.session key ≡ Some s → without_initialize s.packets ≡ packets_over key entries new_grand
packets_of_run entries key s is =
    (subst (λ (o : Option Session). SaidOf (packets_over key entries new_grand) o) is (said_run key [] entries new_grand rows_new refl)).packets
