-- An event that is applied whole.
use Rattle.std.proofs.Common.{◌≡◌, ℕ, ◌+◌, List, [], length, Option, None, Some, Result, Ok, Err, max, refl, subst}
use Rattle.std.specs.Prelude.{ℤ}
use Rattle.ra_base.specs.declared.event.Count.{Count}
use Rattle.ra_base.specs.declared.event.Side.TheVariants.{A, B}
use Rattle.ra_base.specs.declared.key.Key.{Key}
use Rattle.ra_model.specs.Links.{at_number}
use Rattle.ra_model.specs.Refusals.{or_fault}
use Rattle.ra_values.specs.Tree.{Tree, undefined, text, buffer}
use Rattle.ra_ipc.specs.ChannelPairs.{cancelled}
use Rattle.ra_ipc.specs.View.{id_of}
use Rattle.ra_session.specs.SessionCalls as calls
use Rattle.ra_session.specs.SessionRefusals as session_refusals
use Rattle.ra_session.specs.Sessions.{Session}
use Rattle.ra_dial.specs.declared.values.DialEvent.{DialEvent}
use Rattle.ra_dial.specs.declared.values.DialEvent.TheVariants as dial_events
use Rattle.ra_script.specs.declared.grand_line.GrandEvent.{GrandEvent}
use Rattle.ra_script.specs.declared.grand_line.GrandEvent.TheVariants as events
use Rattle.ra_grand_runs.specs.declared.effect.GrandEffect.{GrandEffect}
use Rattle.ra_grand_runs.specs.declared.fault.GrandFault.{GrandFault}
use Rattle.ra_grand_runs.specs.Fits.{MovesFit, EventFits}
use Rattle.ra_grand_runs.specs.GrandEffects.{Effect, done, made, outcome, act_of, next_id, moved_up, moved_down, effect}
use Rattle.ra_grand_runs.specs.GrandRefusals.{of_link, if_over, if_unread, of_client, if_taken, if_not_dialling, unrefused, if_session, refusal}
use Rattle.ra_grand_runs.specs.GrandRuns.{joins, on_dialer, on_session, links, bytes_up, bytes_down, comes_down, cuts, happens}
use Rattle.ra_grand_runs.specs.GrandViews.{Answers, Applies, effect_of}
use Rattle.ra_grand_runs.specs.Grands.{Grand, Found, find_link, on_link}
use Rattle.ra_grand_runs.specs.Marks.{Mark, whole}
use Rattle.ra_grand_runs.specs.ServedLinks.{piece_came, server_left}

-- ---- marks

moves_fit : (bytes : Found → List ℕ) (found : Option Found) (w : Grand) → MovesFit whole bytes found w
moves_fit bytes None w = tt {0}
moves_fit bytes (Some f) w = tt {0}

-- an event that is applied whole fits any world
whole_fits : (event : GrandEvent) (w : Grand) → EventFits whole event w
whole_fits (events.At now) w = tt {0}
whole_fits (events.Client key) w = tt {0}
whole_fits (events.Step n) w = tt {0}
whole_fits (events.Linked n) w = tt {0}
whole_fits (events.NoLink n) w = tt {0}
whole_fits (events.Up link count) w = moves_fit (λ f. bytes_up count f.link) (find_link link w) w
whole_fits (events.Idle link) w = moves_fit (λ f. []) (find_link link w) w
whole_fits (events.Down link count) w = tt {0}
whole_fits (events.Frame n) w = tt {0}
whole_fits (events.Cut link) w = tt {0}
whole_fits (events.Gone link) w = tt {0}
whole_fits (events.Lost n) w = tt {0}
whole_fits events.Sweep w = tt {0}
whole_fits (events.Work job) w = tt {0}
whole_fits (events.Call n channel name arg) w = tt {0}
whole_fits (events.CallText n channel name arg) w = tt {0}
whole_fits (events.Listen n channel name) w = tt {0}
whole_fits (events.Cancel n id) w = tt {0}
whole_fits (events.Dispose n id) w = tt {0}
whole_fits (events.Say n body) w = tt {0}
whole_fits (events.Stop n) w = tt {0}

-- ---- events

pub applies_whole : (result : Result GrandEffect GrandFault) (event : GrandEvent) (w : Grand) (After : Grand → Type 0)
    → Answers result (refusal event w) (effect whole event w) (After (happens whole event w)) (After w) → Applies result event w After
applies_whole (Ok answer) event w After is = (whole, is.0, is.1, is.2, whole_fits event w)
applies_whole (Err fault) event w After is = is

pub applies_at : (answer : GrandEffect) (now : ℕ) (w : Grand) (After : Grand → Type 0) → effect_of answer ≡ done → After (record w { now = max w.now now })
    → Applies (Ok answer) (events.At now) w After
unfolding refusal effect happens
applies_at answer now w After is then = (whole, refl, is, then, tt {0})

abbrev Dials : Result GrandEffect GrandFault → ℕ → DialEvent → Grand → (Grand → Type 0) → Type 0
Dials result client event w After =
    Answers result (of_client client unrefused (at_number w.clients client)) (act_of event client w) (After (on_dialer client event w)) (After w)

pub applies_step : (result : Result GrandEffect GrandFault) (client : ℕ) (w : Grand) (After : Grand → Type 0) → Dials result client dial_events.Tick w After
    → Applies result (events.Step client) w After
unfolding refusal effect happens
applies_step result client w After is = applies_whole result (events.Step client) w After is

pub applies_frame : (result : Result GrandEffect GrandFault) (client : ℕ) (w : Grand) (After : Grand → Type 0) → Dials result client dial_events.Frame w After
    → Applies result (events.Frame client) w After
unfolding refusal effect happens
applies_frame result client w After is = applies_whole result (events.Frame client) w After is

pub applies_lost : (result : Result GrandEffect GrandFault) (client : ℕ) (w : Grand) (After : Grand → Type 0) → Dials result client dial_events.LinkLost w After
    → Applies result (events.Lost client) w After
unfolding refusal effect happens
applies_lost result client w After is = applies_whole result (events.Lost client) w After is

pub applies_stop : (result : Result GrandEffect GrandFault) (client : ℕ) (w : Grand) (After : Grand → Type 0) → Dials result client dial_events.Stop w After
    → Applies result (events.Stop client) w After
unfolding refusal effect happens
applies_stop result client w After is = applies_whole result (events.Stop client) w After is

-- ---- calls

abbrev Asks : Result GrandEffect GrandFault → ℕ → (Session → Option session_refusals.Refusal) → Effect → (ℕ → Session → Session) → Grand → (Grand → Type 0) → Type 0
Asks result client refused answer call w After =
    Answers result (of_client client (if_session refused) (at_number w.clients client)) answer (After (on_session client call w)) (After w)

pub applies_call : (result : Result GrandEffect GrandFault) (client : ℕ) (channel name arg : List ℕ) (t : Tree) → t ≡ buffer arg → (w : Grand) (After : Grand → Type 0)
    → Asks result client (session_refusals.call_refusal channel name t) (next_id (at_number w.clients client)) (calls.call channel name t) w After
    → Applies result (events.Call client channel name arg) w After
unfolding refusal effect happens
applies_call result client channel name arg t same w After is =
    applies_whole result (events.Call client channel name arg) w After
    (subst (λ (x : Tree). Asks result client (session_refusals.call_refusal channel name x) (next_id (at_number w.clients client)) (calls.call channel name x) w After) same is)

pub applies_text : (result : Result GrandEffect GrandFault) (client : ℕ) (channel name arg : List ℕ) (t : Tree) → t ≡ text arg → (w : Grand) (After : Grand → Type 0)
    → Asks result client (session_refusals.call_refusal channel name t) (next_id (at_number w.clients client)) (calls.call channel name t) w After
    → Applies result (events.CallText client channel name arg) w After
unfolding refusal effect happens
applies_text result client channel name arg t same w After is =
    applies_whole result (events.CallText client channel name arg) w After
    (subst (λ (x : Tree). Asks result client (session_refusals.call_refusal channel name x) (next_id (at_number w.clients client)) (calls.call channel name x) w After) same is)

pub applies_listen : (result : Result GrandEffect GrandFault) (client : ℕ) (channel name : List ℕ) (t : Tree) → t ≡ undefined → (w : Grand) (After : Grand → Type 0)
    → Asks result client (session_refusals.listen_refusal channel name t) (next_id (at_number w.clients client)) (calls.listen channel name t) w After
    → Applies result (events.Listen client channel name) w After
unfolding refusal effect happens
applies_listen result client channel name t same w After is =
    applies_whole result (events.Listen client channel name) w After
    (subst (λ (x : Tree). Asks result client (session_refusals.listen_refusal channel name x) (next_id (at_number w.clients client)) (calls.listen channel name x) w After) same is)

pub applies_cancel : (result : Result GrandEffect GrandFault) (client : ℕ) (id : ℤ) (w : Grand) (After : Grand → Type 0)
    → Asks result client (session_refusals.cancel_refusal (id_of id)) (outcome cancelled) (calls.cancel (id_of id)) w After
    → Applies result (events.Cancel client id) w After
unfolding refusal effect happens
applies_cancel result client id w After is = applies_whole result (events.Cancel client id) w After is

pub applies_dispose : (result : Result GrandEffect GrandFault) (client : ℕ) (id : ℤ) (w : Grand) (After : Grand → Type 0)
    → Asks result client (session_refusals.dispose_refusal (id_of id)) done (calls.dispose (id_of id)) w After
    → Applies result (events.Dispose client id) w After
unfolding refusal effect happens
applies_dispose result client id w After is = applies_whole result (events.Dispose client id) w After is

pub applies_say : (result : Result GrandEffect GrandFault) (client : ℕ) (body : List ℕ) (w : Grand) (After : Grand → Type 0)
    → Asks result client (session_refusals.say_refusal body) done (calls.say_body body) w After
    → Applies result (events.Say client body) w After
unfolding refusal effect happens
applies_say result client body w After is = applies_whole result (events.Say client body) w After is

-- ---- clients and links

pub applies_client : (result : Result GrandEffect GrandFault) (key : Key) (w : Grand) (After : Grand → Type 0)
    → Answers result (if_taken key w.clients) (made (length w.clients + 1)) (After (joins key w)) (After w) → Applies result (events.Client key) w After
unfolding refusal effect happens
applies_client result key w After is = applies_whole result (events.Client key) w After is

pub applies_linked : (result : Result GrandEffect GrandFault) (client : ℕ) (w : Grand) (After : Grand → Type 0)
    → Answers result (of_client client (if_not_dialling client) (at_number w.clients client)) (made (length w.places + 1)) (After (links client w)) (After w)
    → Applies result (events.Linked client) w After
unfolding refusal effect happens
applies_linked result client w After is = applies_whole result (events.Linked client) w After is

pub applies_no_link : (result : Result GrandEffect GrandFault) (client : ℕ) (w : Grand) (After : Grand → Type 0)
    → Answers result (of_client client (if_not_dialling client) (at_number w.clients client)) (act_of dial_events.NoLink client w) (After (on_dialer client dial_events.NoLink w)) (After w)
    → Applies result (events.NoLink client) w After
unfolding refusal effect happens
applies_no_link result client w After is = applies_whole result (events.NoLink client) w After is

pub applies_down : (result : Result GrandEffect GrandFault) (link : ℕ) (count : Count) (w : Grand) (After : Grand → Type 0)
    → Answers result (of_link link (if_unread A count) (find_link link w)) (moved_down count (find_link link w))
    (After (on_link (λ f. comes_down (bytes_down count f.link) f) (find_link link w) w)) (After w)
    → Applies result (events.Down link count) w After
unfolding refusal effect happens
applies_down result link count w After is = applies_whole result (events.Down link count) w After is

pub applies_cut : (result : Result GrandEffect GrandFault) (link : ℕ) (w : Grand) (After : Grand → Type 0)
    → Answers result (of_link link (λ l. None) (find_link link w)) done (After (on_link cuts (find_link link w) w)) (After w) → Applies result (events.Cut link) w After
unfolding refusal effect happens
applies_cut result link w After is = applies_whole result (events.Cut link) w After is

pub applies_gone : (result : Result GrandEffect GrandFault) (link : ℕ) (w : Grand) (After : Grand → Type 0)
    → Answers result (of_link link (if_over link) (find_link link w)) done (After (on_link server_left (find_link link w) w)) (After w) → Applies result (events.Gone link) w After
unfolding refusal effect happens
applies_gone result link w After is = applies_whole result (events.Gone link) w After is

applies_marked : (result : Result GrandEffect GrandFault) (event : GrandEvent) (w : Grand) (After : Grand → Type 0) (mark : Mark)
    → Answers result (refusal event w) (effect mark event w) (After (happens mark event w) × EventFits mark event w) (After w) → Applies result event w After
applies_marked (Ok answer) event w After mark is = (mark, is.0, is.1, is.2.0, is.2.1)
applies_marked (Err fault) event w After mark is = is

pub applies_up : (result : Result GrandEffect GrandFault) (link : ℕ) (count : Count) (w : Grand) (After : Grand → Type 0)
    → (mark : Mark) × Answers result (of_link link (λ l. or_fault (if_over link l) (if_unread B count l)) (find_link link w)) (moved_up mark (λ f. bytes_up count f.link) (find_link link w) w)
    (After (on_link (λ f. piece_came mark (bytes_up count f.link) f) (find_link link w) w) × MovesFit mark (λ f. bytes_up count f.link) (find_link link w) w) (After w)
    → Applies result (events.Up link count) w After
unfolding refusal effect happens
applies_up result link count w After is = applies_marked result (events.Up link count) w After is.0 is.1

pub applies_idle : (result : Result GrandEffect GrandFault) (link : ℕ) (w : Grand) (After : Grand → Type 0)
    → (mark : Mark) × Answers result (of_link link (if_over link) (find_link link w)) (moved_up mark (λ f. []) (find_link link w) w)
    (After (on_link (piece_came mark []) (find_link link w) w) × MovesFit mark (λ f. []) (find_link link w) w) (After w)
    → Applies result (events.Idle link) w After
unfolding refusal effect happens
applies_idle result link w After is = applies_marked result (events.Idle link) w After is.0 is.1
