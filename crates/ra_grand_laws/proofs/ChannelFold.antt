-- Every event of a run goes on with what holds of the channels.
use Rattle.std.proofs.Common.{◌≡◌, ℕ, suc, ◌≤◌, Bool, true, false, Option, Some, None, List, [], ◌++◌, length, refl, ap, sym, ◌∙◌, subst, arith}
use Rattle.std.specs.Prelude.{◌==◌, slice_get, take}
use Rattle.std.proofs.lemmas.Bool.{cond_both, eqb-true}
use Rattle.std.proofs.lemmas.List.{append-nil}
use Rattle.ra_base.specs.declared.event.Side.TheVariants.{A, B}
use Rattle.ra_model.specs.Links.{at_number, amount, readable, cut_off}
use Rattle.ra_model.specs.Refusals.{or_fault, fault_if}
use Rattle.ra_values.specs.Tree.{Tree, undefined, text, buffer}
use Rattle.ra_ipc.specs.ChannelPairs.{Outcome}
use Rattle.ra_ipc.specs.View.{id_of}
use Rattle.ra_session.specs.Hearing.{Happening}
use Rattle.ra_session.specs.SessionCalls as calls
use Rattle.ra_session.specs.SessionRefusals as session_refusals
use Rattle.ra_session.specs.Sessions.{Session}
use Rattle.ra_dial.specs.declared.values.DialEvent.TheVariants as dial_events
use Rattle.ra_channel_laws.specs.Channels.{settled_in, fired_in}
use Rattle.ra_script.specs.GrandLines.{GrandEventFits}
use Rattle.ra_script.specs.declared.grand_line.GrandEvent.{GrandEvent}
use Rattle.ra_script.specs.declared.grand_line.GrandEvent.TheVariants as events
use Rattle.ra_grand_runs.specs.GrandClients.{GrandLink, Client}
use Rattle.ra_grand_runs.specs.GrandRefusals.{Refusal, link_over, of_link, of_client, unrefused, if_session, if_over, if_unread, if_not_dialling, refusal}
use Rattle.ra_grand_runs.specs.GrandRuns.{on_session, bytes_up, bytes_down, comes_down, cuts, happens, unless as kept_unless, after}
use Rattle.ra_grand_runs.specs.Grands.{Grand, Found, find_link, on_link, new_grand}
use Rattle.ra_grand_runs.specs.Marks.{Mark, whole, short, unticked, Entry}
use Rattle.ra_grand_runs.specs.ServedLinks.{piece_came, server_left}
use Rattle.ra_run_laws.specs.Runs.{IsUnbroken, unless}
use Rattle.ra_run_laws.proofs.Lists.{none_there, there_is}
use Rattle.ra_run_laws.proofs.Rising.{step_after}
use Rattle.ra_run_laws.proofs.RisingHubs.{HaveRows}
use Rattle.ra_link_laws.specs.Parts.{WorldKeeps}
use Rattle.ra_link_laws.proofs.WorldLinks.{IsHere, chosen}
use Rattle.ra_grand_laws.specs.ChannelParts.{ChannelsKeep}
use Rattle.ra_grand_laws.specs.Outcomes.{framed, settled_by, fired_by}
use Rattle.ra_grand_laws.proofs.ChannelAsks.{call_stays, listen_stays, dispose_stays, say_stays}
use Rattle.ra_grand_laws.proofs.ChannelEvents.{client_there, unrefused_by, for_number, dialer_quiet, asks_quiet, links_quiet, frame_handed, cancel_handed, channels_joins, found_here, put_quiet, down_quiet}
use Rattle.ra_grand_laws.proofs.ChannelHubs.{channels_sweep, channels_work}
use Rattle.ra_grand_laws.proofs.ChannelSides.{Stays}
use Rattle.ra_grand_laws.proofs.ChannelSteps.{Settled, Fired, channels_same, channels_left}

-- ---- what other files prove

-- a piece comes to the server, on a link that is not over
abbrev pub PiecesKeep : Type 0
PiecesKeep = (k : ℕ) (f : Found) (w : Grand) (settled : Settled) (fired : Fired) → WorldKeeps w → IsHere f w → f.link.server.is_over ≡ false
    → k ≤ length (readable B f.link.link) → ChannelsKeep w settled fired → ChannelsKeep (piece_came whole (take k (readable B f.link.link)) f w) settled fired

-- a client that is not there has handed up nothing
abbrev pub Unmade : Grand → Settled → Fired → Type 0
Unmade w settled fired = (n : ℕ) → slice_get w.clients n ≡ None → (settled (suc n) ≡ []) × (fired (suc n) ≡ [])

-- ---- events

-- with what this event hands up
abbrev With : GrandEvent → Grand → Grand → Settled → Fired → Type 0
With event w v settled fired = ChannelsKeep v (λ n. settled n ++ settled_by n event w) (λ n. fired n ++ fired_by n event w)

pub nothing_more : (w : Grand) (settled : Settled) (fired : Fired) → ChannelsKeep w settled fired → ChannelsKeep w (λ n. settled n ++ []) (λ n. fired n ++ [])
nothing_more w settled fired keep =
    channels_same w settled (λ n. settled n ++ []) fired (λ n. fired n ++ []) (λ n. sym (append-nil (settled n))) (λ n. sym (append-nil (fired n))) keep

-- a link that was found changes
on_found : (change : Found → Grand → Grand) (link : ℕ) (further : GrandLink → Option Refusal) (w : Grand) (settled : Settled) (fired : Fired)
    → of_link link further (find_link link w) ≡ None → ((f : Found) → IsHere f w → further f.link ≡ None → ChannelsKeep (change f w) settled fired)
    → ChannelsKeep (on_link change (find_link link w) w) settled fired
on_found change link further w settled fired none changed =
    let there = found_here link further w none in
    subst (λ (o : Option Found). ChannelsKeep (on_link change o w) settled fired) (sym there.is) (changed there.found there.here there.free)

not_over : (b : Bool) (r : Refusal) (next : Option Refusal) → or_fault (fault_if b r) next ≡ None → b ≡ false
not_over true r next none = absurd cc
not_over false r next none = refl

not_over_at : (b : Bool) (r : Refusal) → fault_if b r ≡ None → b ≡ false
not_over_at true r none = absurd cc
not_over_at false r none = refl

-- a piece of any mark but that of a want of memory
piece_by : (mark : Mark) (bytes : List ℕ) (f : Found) (w : Grand) (settled : Settled) (fired : Fired) → IsUnbroken mark → ChannelsKeep (piece_came whole bytes f w) settled fired
    → ChannelsKeep (piece_came mark bytes f w) settled fired
unfolding piece_came
piece_by whole bytes f w settled fired unbroken keep = keep
piece_by (short draws calls put) bytes f w settled fired unbroken keep = absurd unbroken
piece_by (unticked keys) bytes f w settled fired unbroken keep = keep

-- a client's session is asked for something that is not refused
asks_free : (n : ℕ) (call : ℕ → Session → Session) (refused : Session → Option session_refusals.Refusal) (w : Grand) (settled : Settled) (fired : Fired)
    → of_client n (if_session refused) (at_number w.clients n) ≡ None
    → ((d : Client) → refused d.dialer.session ≡ None → Stays d.key.kind (w.hub.session d.key) d.dialer.session (call w.now d.dialer.session))
    → ChannelsKeep w settled fired → ChannelsKeep (on_session n call w) settled fired
asks_free n call refused w settled fired none stays keep =
    let there = client_there n (if_session refused) (at_number w.clients n) none in
    asks_quiet n (call w.now) w settled fired there.client there.is
    (λ d is. stays d (unrefused_by (refused d.dialer.session)
    (subst (λ (x : Client). if_session refused x ≡ None) (there_is (sym there.is ∙ is)) there.free))) keep

channels_event : PiecesKeep → (mark : Mark) (event : GrandEvent) (w : Grand) (settled : Settled) (fired : Fired) → IsUnbroken mark → GrandEventFits event
    → refusal event w ≡ None → WorldKeeps w → Unmade w settled fired → ChannelsKeep w settled fired → With event w (happens mark event w) settled fired
unfolding refusal happens settled_by fired_by
channels_event pieces mark (events.At now) w settled fired unbroken fits none keeps unmade keep =
    nothing_more (happens mark (events.At now) w) settled fired (record { parts = keep.parts; jobs = keep.jobs })
channels_event pieces mark (events.Client key) w settled fired unbroken fits none keeps unmade keep =
    nothing_more (happens mark (events.Client key) w) settled fired (channels_joins key w settled fired none keeps unmade keep)
channels_event pieces mark (events.Step n) w settled fired unbroken fits none keeps unmade keep =
    let there = client_there n unrefused (at_number w.clients n) none in
    nothing_more (happens mark (events.Step n) w) settled fired (dialer_quiet n dial_events.Tick w settled fired there.client there.is refl keep)
channels_event pieces mark (events.Linked n) w settled fired unbroken fits none keeps unmade keep =
    let there = client_there n (if_not_dialling n) (at_number w.clients n) none in
    nothing_more (happens mark (events.Linked n) w) settled fired (links_quiet n w settled fired there.client there.is keep)
channels_event pieces mark (events.NoLink n) w settled fired unbroken fits none keeps unmade keep =
    let there = client_there n (if_not_dialling n) (at_number w.clients n) none in
    nothing_more (happens mark (events.NoLink n) w) settled fired (dialer_quiet n dial_events.NoLink w settled fired there.client there.is refl keep)
channels_event pieces mark (events.Up link count) w settled fired unbroken fits none keeps unmade keep =
    nothing_more (happens mark (events.Up link count) w) settled fired
    (on_found (λ f. piece_came mark (bytes_up count f.link) f) link (λ l. or_fault (if_over link l) (if_unread B count l)) w settled fired none
    (λ f here free. piece_by mark (bytes_up count f.link) f w settled fired unbroken
    (pieces (amount count (length (readable B f.link.link))) f w settled fired keeps here
    (not_over f.link.server.is_over (link_over link) (if_unread B count f.link) free) (chosen count (readable B f.link.link)) keep)))
channels_event pieces mark (events.Idle link) w settled fired unbroken fits none keeps unmade keep =
    nothing_more (happens mark (events.Idle link) w) settled fired
    (on_found (piece_came mark []) link (if_over link) w settled fired none
    (λ f here free. piece_by mark [] f w settled fired unbroken
    (pieces 0 f w settled fired keeps here (not_over_at f.link.server.is_over (link_over link) free) (omega arith) keep)))
channels_event pieces mark (events.Down link count) w settled fired unbroken fits none keeps unmade keep =
    nothing_more (happens mark (events.Down link count) w) settled fired
    (on_found (λ f. comes_down (bytes_down count f.link) f) link (if_unread A count) w settled fired none
    (λ f here free. down_quiet (bytes_down count f.link) f w settled fired here keep))
channels_event pieces mark (events.Frame n) w settled fired unbroken fits none keeps unmade keep =
    let there = client_there n unrefused (at_number w.clients n) none in
    frame_handed n w settled fired there.client there.is keeps keep
channels_event pieces mark (events.Cut link) w settled fired unbroken fits none keeps unmade keep =
    nothing_more (happens mark (events.Cut link) w) settled fired
    (on_found cuts link (λ l. None) w settled fired none (λ f here free. put_quiet f (record f.link { link = cut_off f.link.link }) w settled fired here keep))
channels_event pieces mark (events.Gone link) w settled fired unbroken fits none keeps unmade keep =
    nothing_more (happens mark (events.Gone link) w) settled fired
    (on_found server_left link (if_over link) w settled fired none (λ f here free. channels_left f w settled fired here keep))
channels_event pieces mark (events.Lost n) w settled fired unbroken fits none keeps unmade keep =
    let there = client_there n unrefused (at_number w.clients n) none in
    nothing_more (happens mark (events.Lost n) w) settled fired (dialer_quiet n dial_events.LinkLost w settled fired there.client there.is refl keep)
channels_event pieces mark events.Sweep w settled fired unbroken fits none keeps unmade keep =
    nothing_more (happens mark events.Sweep w) settled fired (channels_sweep mark w settled fired keep)
channels_event pieces mark (events.Work job) w settled fired unbroken fits none keeps unmade keep =
    nothing_more (happens mark (events.Work job) w) settled fired (channels_work job w settled fired keep)
channels_event pieces mark (events.Call n channel name arg) w settled fired unbroken fits none keeps unmade keep =
    nothing_more (happens mark (events.Call n channel name arg) w) settled fired
    (asks_free n (calls.call channel name (buffer arg)) (session_refusals.call_refusal channel name (buffer arg)) w settled fired none
    (λ d free. call_stays d.key.kind (w.hub.session d.key) channel name (buffer arg) w.now d.dialer.session fits.0 fits.1 fits.2 free) keep)
channels_event pieces mark (events.CallText n channel name arg) w settled fired unbroken fits none keeps unmade keep =
    nothing_more (happens mark (events.CallText n channel name arg) w) settled fired
    (asks_free n (calls.call channel name (text arg)) (session_refusals.call_refusal channel name (text arg)) w settled fired none
    (λ d free. call_stays d.key.kind (w.hub.session d.key) channel name (text arg) w.now d.dialer.session fits.0 fits.1 fits.2 free) keep)
channels_event pieces mark (events.Listen n channel name) w settled fired unbroken fits none keeps unmade keep =
    nothing_more (happens mark (events.Listen n channel name) w) settled fired
    (asks_free n (calls.listen channel name undefined) (session_refusals.listen_refusal channel name undefined) w settled fired none
    (λ d free. listen_stays d.key.kind (w.hub.session d.key) channel name w.now d.dialer.session fits.0 fits.1 free) keep)
channels_event pieces mark (events.Cancel n id) w settled fired unbroken fits none keeps unmade keep =
    let there = client_there n (if_session (session_refusals.cancel_refusal (id_of id))) (at_number w.clients n) none in
    channels_same (happens mark (events.Cancel n id) w) _ (λ k. settled k ++ settled_by k (events.Cancel n id) w) fired (λ k. fired k ++ []) (λ k. refl) (λ k. sym (append-nil (fired k)))
    (cancel_handed n (id_of id) w settled fired there.client there.is (unrefused_by _ there.free) keep)
channels_event pieces mark (events.Dispose n id) w settled fired unbroken fits none keeps unmade keep =
    nothing_more (happens mark (events.Dispose n id) w) settled fired
    (asks_free n (calls.dispose (id_of id)) (session_refusals.dispose_refusal (id_of id)) w settled fired none
    (λ d free. dispose_stays d.key.kind (w.hub.session d.key) (id_of id) w.now d.dialer.session free) keep)
channels_event pieces mark (events.Say n body) w settled fired unbroken fits none keeps unmade keep =
    nothing_more (happens mark (events.Say n body) w) settled fired
    (asks_free n (calls.say_body body) (session_refusals.say_refusal body) w settled fired none
    (λ d free. say_stays d.key.kind (w.hub.session d.key) body w.now d.dialer.session free) keep)
channels_event pieces mark (events.Stop n) w settled fired unbroken fits none keeps unmade keep =
    let there = client_there n unrefused (at_number w.clients n) none in
    nothing_more (happens mark (events.Stop n) w) settled fired (dialer_quiet n dial_events.Stop w settled fired there.client there.is refl keep)

channels_unless : (o : Option Refusal) (event : GrandEvent) (w v : Grand) (settled : Settled) (fired : Fired) → (o ≡ None → With event w v settled fired) → ChannelsKeep w settled fired
    → ChannelsKeep (kept_unless o v w) (λ n. settled n ++ unless o (settled_by n event w)) (λ n. fired n ++ unless o (fired_by n event w))
channels_unless None event w v settled fired more keep = more refl
channels_unless (Some r) event w v settled fired more keep = nothing_more w settled fired keep

pub channels_after : PiecesKeep → (entry : Entry) (w : Grand) (settled : Settled) (fired : Fired) → IsUnbroken entry.mark → GrandEventFits entry.event → WorldKeeps w
    → Unmade w settled fired → ChannelsKeep w settled fired
    → ChannelsKeep (after entry w) (λ n. settled n ++ unless (refusal entry.event w) (settled_by n entry.event w))
    (λ n. fired n ++ unless (refusal entry.event w) (fired_by n entry.event w))
channels_after pieces entry w settled fired unbroken fits keeps unmade keep =
    channels_unless (refusal entry.event w) entry.event w (happens entry.mark entry.event w) settled fired
    (λ none. channels_event pieces entry.mark entry.event w settled fired unbroken fits none keeps unmade keep) keep

-- ---- clients that are not there

abbrev HandsNothing : ℕ → GrandEvent → Grand → Option Refusal → Type 0
HandsNothing n event w o = (unless o (settled_by n event w) ≡ []) × (unless o (fired_by n event w) ≡ [])

refused_nothing : (n : ℕ) (event : GrandEvent) (w : Grand) (r : Refusal) → HandsNothing n event w (Some r)
refused_nothing n event w r = (refl, refl)

-- an event that names no client, or one that hands up nothing
of_number : {X : Type 0} → (n k : ℕ) (xs : List X) → (n ≡ k → xs ≡ []) → for_number n xs k ≡ []
of_number n k xs none = cond_both (n == k) xs [] (λ (ys : List _). ys ≡ []) (λ same. none (eqb-true n k same)) (λ differs. refl)

framed_none : (n k : ℕ) (w : Grand) → at_number w.clients k ≡ None → n ≡ k → framed w.now (at_number w.clients n) ≡ None
framed_none n k w none same = ap (λ (o : Option Client). framed w.now o) (ap (λ (i : ℕ). at_number w.clients i) same ∙ none)

hands_nothing : (k : ℕ) (event : GrandEvent) (w : Grand) (o : Option Refusal) → refusal event w ≡ o → at_number w.clients k ≡ None → HandsNothing k event w o
unfolding refusal settled_by fired_by
hands_nothing k event w (Some r) is none = refused_nothing k event w r
hands_nothing k (events.At now) w None is none = (refl, refl)
hands_nothing k (events.Client key) w None is none = (refl, refl)
hands_nothing k (events.Step n) w None is none = (refl, refl)
hands_nothing k (events.Linked n) w None is none = (refl, refl)
hands_nothing k (events.NoLink n) w None is none = (refl, refl)
hands_nothing k (events.Up link count) w None is none = (refl, refl)
hands_nothing k (events.Idle link) w None is none = (refl, refl)
hands_nothing k (events.Down link count) w None is none = (refl, refl)
hands_nothing k (events.Frame n) w None is none = (
  of_number n k (settled_in (framed w.now (at_number w.clients n))) (λ same. ap (λ (h : Option Happening). settled_in h) (framed_none n k w none same)),
  of_number n k (fired_in (framed w.now (at_number w.clients n))) (λ same. ap (λ (h : Option Happening). fired_in h) (framed_none n k w none same)),
)
hands_nothing k (events.Cut link) w None is none = (refl, refl)
hands_nothing k (events.Gone link) w None is none = (refl, refl)
hands_nothing k (events.Lost n) w None is none = (refl, refl)
hands_nothing k events.Sweep w None is none = (refl, refl)
hands_nothing k (events.Work job) w None is none = (refl, refl)
hands_nothing k (events.Call n channel name arg) w None is none = (refl, refl)
hands_nothing k (events.CallText n channel name arg) w None is none = (refl, refl)
hands_nothing k (events.Listen n channel name) w None is none = (refl, refl)
hands_nothing k (events.Cancel n id) w None is none =
    let there = client_there n (if_session (session_refusals.cancel_refusal (id_of id))) (at_number w.clients n) is in
    (of_number n k _ (λ same. none_there (sym none ∙ ap (λ (i : ℕ). at_number w.clients i) (sym same) ∙ there.is)), refl)
hands_nothing k (events.Dispose n id) w None is none = (refl, refl)
hands_nothing k (events.Say n body) w None is none = (refl, refl)
hands_nothing k (events.Stop n) w None is none = (refl, refl)

-- one that is not there after an event was not there before
was_none : (n : ℕ) (entry : Entry) (w : Grand) → HaveRows w.hub → slice_get (after entry w).clients n ≡ None → slice_get w.clients n ≡ None
was_none n entry w rows none = by (slice_get w.clients n) refl
  where
    by : (o : Option Client) → slice_get w.clients n ≡ o → o ≡ None
    by None is = refl
    by (Some c) is = let d = (step_after entry w rows).clients (suc n) c is in none_there (sym none ∙ d.1)

pub unmade_after : (entry : Entry) (w : Grand) (settled : Settled) (fired : Fired) → HaveRows w.hub → Unmade w settled fired
    → Unmade (after entry w) (λ n. settled n ++ unless (refusal entry.event w) (settled_by n entry.event w))
    (λ n. fired n ++ unless (refusal entry.event w) (fired_by n entry.event w))
unmade_after entry w settled fired rows unmade n none =
    let before = was_none n entry w rows none in
    let old = unmade n before in
    let more = hands_nothing (suc n) entry.event w (refusal entry.event w) refl before in (
      ap (λ (xs : List (ℕ × Outcome)). settled (suc n) ++ xs) more.0 ∙ append-nil (settled (suc n)) ∙ old.0,
      ap (λ (xs : List (ℕ × Tree)). fired (suc n) ++ xs) more.1 ∙ append-nil (fired (suc n)) ∙ old.1,
    )

-- ---- the beginning

pub channels_begun : ChannelsKeep new_grand (λ n. []) (λ n. [])
channels_begun = record { parts = λ n c is. none_there is; jobs = tt }
