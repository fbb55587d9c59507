-- Every event of a run whose marks fit keeps what holds of both ends and of their channels, also where memory ran out at the server's end of
-- a link.
use Rattle.std.proofs.Common.{◌≡◌, inl, inr, ℕ, suc, ◌≤◌, false, Option, Some, None, List, [], ◌∷◌, ◌++◌, length, refl, sym, subst, arith, append_assoc}
use Rattle.std.specs.Prelude.{◌⊎◌, take, ⊤}
use Rattle.ra_base.specs.declared.event.Side.TheVariants.{B}
use Rattle.ra_model.specs.Links.{at_number, amount, readable}
use Rattle.ra_model.specs.Refusals.{or_fault}
use Rattle.ra_values.specs.Tree.{Tree}
use Rattle.ra_ipc.specs.ChannelPairs.{Outcome}
use Rattle.ra_link_core.specs.LinkRuns.{Serving, End}
use Rattle.ra_script.specs.GrandLines.{GrandEventFits}
use Rattle.ra_script.specs.declared.grand_line.GrandEvent.{GrandEvent}
use Rattle.ra_script.specs.declared.grand_line.GrandEvent.TheVariants as events
use Rattle.ra_grand_runs.specs.Fits.{IsPart, MarkFits, MovesFit, EventFits, RunFits}
use Rattle.ra_grand_runs.specs.GrandClients.{GrandLink, Client}
use Rattle.ra_grand_runs.specs.GrandRefusals.{Refusal, link_over, of_link, if_over, if_unread, refusal}
use Rattle.ra_grand_runs.specs.GrandRuns.{bytes_up, happens, unless as kept_unless, after, run}
use Rattle.ra_grand_runs.specs.Grands.{Grand, Place, Found, with_link, found_link, found_client, found_at, on_link, new_grand}
use Rattle.ra_grand_runs.specs.GrandSweeps.{sweeps}
use Rattle.ra_grand_runs.specs.Marks.{Mark, whole, short, unticked, Entry}
use Rattle.ra_grand_runs.specs.ServedLinks.{serving_at, served, piece_came}
use Rattle.ra_run_laws.specs.Runs.{IsUnbroken, HasKey, HaveKeys, HaveRequests, unless}
use Rattle.ra_run_laws.proofs.Rising.{step_after, rows_new}
use Rattle.ra_run_laws.proofs.RisingHubs.{HaveRows}
use Rattle.ra_link_laws.specs.Parts.{WorldKeeps}
use Rattle.ra_link_laws.proofs.Folding.{keeps_after, keeps_new, not_over, not_over_at}
use Rattle.ra_link_laws.proofs.WorldLinks.{IsHere, StandsAt, stands_at, chosen}
use Rattle.ra_link_laws.proofs.WorldSteps.{world_changes}
use Rattle.ra_grand_laws.specs.ChannelParts.{ChannelsKeep}
use Rattle.ra_grand_laws.specs.GoodEnds.{IsGoodIfAny}
use Rattle.ra_grand_laws.specs.Outcomes.{settled_by, fired_by, settled as settled_over, fired as fired_over}
use Rattle.ra_grand_laws.proofs.ChannelFold.{Unmade, unmade_after, channels_after, channels_begun}
use Rattle.ra_grand_laws.proofs.ChannelFold.{nothing_more}
use Rattle.ra_grand_laws.proofs.ChannelSteps.{channels_same}
use Rattle.ra_grand_laws.proofs.PiecesKept.{channels_served, pieces_keep}
use Rattle.ra_grand_laws.proofs.ServedEnds.{piece_ends}
use Rattle.ra_grand_laws.proofs.ShortChannels.{short_channels}
use Rattle.ra_grand_laws.proofs.ShortParts.{short_link, short_changes}
use Rattle.ra_grand_laws.proofs.ShortRuns.{IsSpoiled}

abbrev Settled : Type 0
Settled = ℕ → List (ℕ × Outcome)

abbrev Fired : Type 0
Fired = ℕ → List (ℕ × Tree)

-- what holds of a world, with these lists
abbrev Both : Grand → Settled → Fired → Type 0
Both w settled fired = WorldKeeps w × ChannelsKeep w settled fired

-- ---- a piece on which memory ran out

unspoiled : (u : Serving) → IsGoodIfAny u.end → IsSpoiled u → ⊥
unspoiled u good (bad, message, is) = subst (λ (o : Option End). IsGoodIfAny o) is good

short_piece : (draws calls put k : ℕ) (f : Found) (w : Grand) (settled : Settled) (fired : Fired) → IsHere f w → f.link.server.is_over ≡ false
    → k ≤ length (readable B f.link.link) → IsPart draws calls put (serving_at f.link w) (served (take k (readable B f.link.link)) f.link w) → Both w settled fired
    → Both (piece_came (short draws calls put) (take k (readable B f.link.link)) f w) settled fired
short_piece draws calls put k f w settled fired here over fits part both = by (stands_at f w here)
  where
    by : (n m : ℕ) × StandsAt f w n m → Both (piece_came (short draws calls put) (take k (readable B f.link.link)) f w) settled fired
    by (n, m, at) =
        let bytes = take k (readable B f.link.link) in
        let v = piece_came (short draws calls put) bytes f w in
        let held = both.1.parts n f.client at.client in
        let good = piece_ends bytes k n m f w both.0 at.client_number at.link_number at.client at.link over fits refl (settled (suc n)) (fired (suc n)) held both.1.jobs in
        let change = short_changes draws calls put bytes k n m f w both.0 at.client_number at.link_number at.client at.link over fits refl part (unspoiled (served bytes f.link w) good) in
        let own = short_channels draws calls put bytes k n m f w both.0 at.client_number at.link_number at.client at.link over fits refl (settled (suc n)) (fired (suc n)) held both.1.jobs in
        (world_changes n f.client (with_link (suc m) (short_link draws calls put bytes f w) f.client) w v both.0 change, channels_served n (suc m) f.client (short_link draws calls put bytes f w) w v settled fired both.0 change own.0 own.1 both.1)

-- ---- the link that was found

fit_link : (P : Grand → Type 0) (mark : Mark) (bytes : Found → List ℕ) (link : ℕ) (further : GrandLink → Option Refusal) (w : Grand) → P w
    → ((f : Found) → IsHere f w → further f.link ≡ None → MarkFits mark (serving_at f.link w) (served (bytes f) f.link w) → P (piece_came mark (bytes f) f w))
    → (p : Place) (c : Client) (o : Option GrandLink) → at_number w.clients p.client ≡ Some c → at_number c.links p.link ≡ o → of_link link further (found_link p c o) ≡ None
    → MovesFit mark bytes (found_link p c o) w → P (on_link (λ f. piece_came mark (bytes f) f) (found_link p c o) w)
fit_link P mark bytes link further w holds kept p c None is there none fits = holds
fit_link P mark bytes link further w holds kept p c (Some l) is there none fits =
    kept (record { place = p; client = c; link = l }) (record { client = is; link = there }) none fits

fit_client : (P : Grand → Type 0) (mark : Mark) (bytes : Found → List ℕ) (link : ℕ) (further : GrandLink → Option Refusal) (w : Grand) → P w
    → ((f : Found) → IsHere f w → further f.link ≡ None → MarkFits mark (serving_at f.link w) (served (bytes f) f.link w) → P (piece_came mark (bytes f) f w))
    → (p : Place) (o : Option Client) → at_number w.clients p.client ≡ o → of_link link further (found_client p o) ≡ None
    → MovesFit mark bytes (found_client p o) w → P (on_link (λ f. piece_came mark (bytes f) f) (found_client p o) w)
fit_client P mark bytes link further w holds kept p None is none fits = holds
fit_client P mark bytes link further w holds kept p (Some c) is none fits = fit_link P mark bytes link further w holds kept p c (at_number c.links p.link) is refl none fits

fit_place : (P : Grand → Type 0) (mark : Mark) (bytes : Found → List ℕ) (link : ℕ) (further : GrandLink → Option Refusal) (w : Grand) → P w
    → ((f : Found) → IsHere f w → further f.link ≡ None → MarkFits mark (serving_at f.link w) (served (bytes f) f.link w) → P (piece_came mark (bytes f) f w))
    → (o : Option Place) → of_link link further (found_at o w.clients) ≡ None
    → MovesFit mark bytes (found_at o w.clients) w → P (on_link (λ f. piece_came mark (bytes f) f) (found_at o w.clients) w)
fit_place P mark bytes link further w holds kept None none fits = holds
fit_place P mark bytes link further w holds kept (Some p) none fits = fit_client P mark bytes link further w holds kept p (at_number w.clients p.client) refl none fits

-- ---- any event

-- it brings bytes to the server
abbrev IsPiece : GrandEvent → Type 0
IsPiece (events.At now) = ⊥
IsPiece (events.Client key) = ⊥
IsPiece (events.Step n) = ⊥
IsPiece (events.Linked n) = ⊥
IsPiece (events.NoLink n) = ⊥
IsPiece (events.Up link count) = ⊤
IsPiece (events.Idle link) = ⊤
IsPiece (events.Down link count) = ⊥
IsPiece (events.Frame n) = ⊥
IsPiece (events.Cut link) = ⊥
IsPiece (events.Gone link) = ⊥
IsPiece (events.Lost n) = ⊥
IsPiece events.Sweep = ⊥
IsPiece (events.Work job) = ⊥
IsPiece (events.Call n channel name arg) = ⊥
IsPiece (events.CallText n channel name arg) = ⊥
IsPiece (events.Listen n channel name) = ⊥
IsPiece (events.Cancel n id) = ⊥
IsPiece (events.Dispose n id) = ⊥
IsPiece (events.Say n body) = ⊥
IsPiece (events.Stop n) = ⊥

-- where no bytes come, the mark of a link does not matter
as_whole : (draws calls put : ℕ) (event : GrandEvent) (w : Grand) → (IsPiece event → ⊥) → happens (short draws calls put) event w ≡ happens whole event w
unfolding happens sweeps
as_whole draws calls put (events.At now) w not = refl
as_whole draws calls put (events.Client key) w not = refl
as_whole draws calls put (events.Step n) w not = refl
as_whole draws calls put (events.Linked n) w not = refl
as_whole draws calls put (events.NoLink n) w not = refl
as_whole draws calls put (events.Up link count) w not = absurd (not tt)
as_whole draws calls put (events.Idle link) w not = absurd (not tt)
as_whole draws calls put (events.Down link count) w not = refl
as_whole draws calls put (events.Frame n) w not = refl
as_whole draws calls put (events.Cut link) w not = refl
as_whole draws calls put (events.Gone link) w not = refl
as_whole draws calls put (events.Lost n) w not = refl
as_whole draws calls put events.Sweep w not = refl
as_whole draws calls put (events.Work job) w not = refl
as_whole draws calls put (events.Call n channel name arg) w not = refl
as_whole draws calls put (events.CallText n channel name arg) w not = refl
as_whole draws calls put (events.Listen n channel name) w not = refl
as_whole draws calls put (events.Cancel n id) w not = refl
as_whole draws calls put (events.Dispose n id) w not = refl
as_whole draws calls put (events.Say n body) w not = refl
as_whole draws calls put (events.Stop n) w not = refl

is_piece : (event : GrandEvent) → (IsPiece event) ⊎ (IsPiece event → ⊥)
is_piece (events.At now) = inr (λ x. x)
is_piece (events.Client key) = inr (λ x. x)
is_piece (events.Step n) = inr (λ x. x)
is_piece (events.Linked n) = inr (λ x. x)
is_piece (events.NoLink n) = inr (λ x. x)
is_piece (events.Up link count) = inl tt
is_piece (events.Idle link) = inl tt
is_piece (events.Down link count) = inr (λ x. x)
is_piece (events.Frame n) = inr (λ x. x)
is_piece (events.Cut link) = inr (λ x. x)
is_piece (events.Gone link) = inr (λ x. x)
is_piece (events.Lost n) = inr (λ x. x)
is_piece events.Sweep = inr (λ x. x)
is_piece (events.Work job) = inr (λ x. x)
is_piece (events.Call n channel name arg) = inr (λ x. x)
is_piece (events.CallText n channel name arg) = inr (λ x. x)
is_piece (events.Listen n channel name) = inr (λ x. x)
is_piece (events.Cancel n id) = inr (λ x. x)
is_piece (events.Dispose n id) = inr (λ x. x)
is_piece (events.Say n body) = inr (λ x. x)
is_piece (events.Stop n) = inr (λ x. x)

-- with what the event hands up
abbrev After : Entry → Grand → Grand → Settled → Fired → Type 0
After entry w v settled fired = Both v (λ n. settled n ++ unless (refusal entry.event w) (settled_by n entry.event w)) (λ n. fired n ++ unless (refusal entry.event w) (fired_by n entry.event w))

fit_event : (draws calls put : ℕ) (event : GrandEvent) (w : Grand) (settled : Settled) (fired : Fired) → IsPiece event → EventFits (short draws calls put) event w → refusal event w ≡ None
    → Both w settled fired → Both (happens (short draws calls put) event w) (λ n. settled n ++ settled_by n event w) (λ n. fired n ++ fired_by n event w)
unfolding refusal happens settled_by fired_by
fit_event draws calls put (events.At now) w settled fired piece fits none both = absurd piece
fit_event draws calls put (events.Client key) w settled fired piece fits none both = absurd piece
fit_event draws calls put (events.Step n) w settled fired piece fits none both = absurd piece
fit_event draws calls put (events.Linked n) w settled fired piece fits none both = absurd piece
fit_event draws calls put (events.NoLink n) w settled fired piece fits none both = absurd piece
fit_event draws calls put (events.Up link count) w settled fired piece fits none both =
    let v = happens (short draws calls put) (events.Up link count) w in
    let r : Both v settled fired =
    fit_place (λ (x : Grand). Both x settled fired) (short draws calls put) (λ f. bytes_up count f.link) link (λ l. or_fault (if_over link l) (if_unread B count l)) w both
    (λ f here free part. short_piece draws calls put (amount count (length (readable B f.link.link))) f w settled fired here
    (not_over f.link.server.is_over (link_over link) (if_unread B count f.link) free) (chosen count (readable B f.link.link)) part both)
    (at_number w.places link) none fits in
    (r.0, nothing_more v settled fired r.1)
fit_event draws calls put (events.Idle link) w settled fired piece fits none both =
    let v = happens (short draws calls put) (events.Idle link) w in
    let r : Both v settled fired =
    fit_place (λ (x : Grand). Both x settled fired) (short draws calls put) (λ f. []) link (if_over link) w both
    (λ f here free part. short_piece draws calls put 0 f w settled fired here (not_over_at f.link.server.is_over (link_over link) free) (omega arith) part both)
    (at_number w.places link) none fits in
    (r.0, nothing_more v settled fired r.1)
fit_event draws calls put (events.Down link count) w settled fired piece fits none both = absurd piece
fit_event draws calls put (events.Frame n) w settled fired piece fits none both = absurd piece
fit_event draws calls put (events.Cut link) w settled fired piece fits none both = absurd piece
fit_event draws calls put (events.Gone link) w settled fired piece fits none both = absurd piece
fit_event draws calls put (events.Lost n) w settled fired piece fits none both = absurd piece
fit_event draws calls put events.Sweep w settled fired piece fits none both = absurd piece
fit_event draws calls put (events.Work job) w settled fired piece fits none both = absurd piece
fit_event draws calls put (events.Call n channel name arg) w settled fired piece fits none both = absurd piece
fit_event draws calls put (events.CallText n channel name arg) w settled fired piece fits none both = absurd piece
fit_event draws calls put (events.Listen n channel name) w settled fired piece fits none both = absurd piece
fit_event draws calls put (events.Cancel n id) w settled fired piece fits none both = absurd piece
fit_event draws calls put (events.Dispose n id) w settled fired piece fits none both = absurd piece
fit_event draws calls put (events.Say n body) w settled fired piece fits none both = absurd piece
fit_event draws calls put (events.Stop n) w settled fired piece fits none both = absurd piece

fit_unless : (o : Option Refusal) (event : GrandEvent) (w v : Grand) (settled : Settled) (fired : Fired)
    → (o ≡ None → Both v (λ n. settled n ++ settled_by n event w) (λ n. fired n ++ fired_by n event w)) → Both w settled fired
    → Both (kept_unless o v w) (λ n. settled n ++ unless o (settled_by n event w)) (λ n. fired n ++ unless o (fired_by n event w))
fit_unless None event w v settled fired more both = more refl
fit_unless (Some r) event w v settled fired more both = (both.0, nothing_more w settled fired both.1)

-- an entry that is whole, or short only in a sweep
whole_after : (entry : Entry) (w : Grand) (settled : Settled) (fired : Fired) → IsUnbroken entry.mark → HasKey entry.event → GrandEventFits entry.event → Unmade w settled fired
    → Both w settled fired → After entry w (after entry w) settled fired
whole_after entry w settled fired unbroken key requests unmade both =
    (keeps_after entry w unbroken key both.0, channels_after pieces_keep entry w settled fired unbroken requests both.0 unmade both.1)

short_after : (draws calls put : ℕ) (event : GrandEvent) (w : Grand) (settled : Settled) (fired : Fired) → (IsPiece event) ⊎ (IsPiece event → ⊥) → EventFits (short draws calls put) event w
    → HasKey event → GrandEventFits event → Unmade w settled fired → Both w settled fired
    → After (record { event = event; mark = short draws calls put }) w (after (record { event = event; mark = short draws calls put }) w) settled fired
short_after draws calls put event w settled fired (inl piece) fits key requests unmade both =
    fit_unless (refusal event w) event w (happens (short draws calls put) event w) settled fired (λ none. fit_event draws calls put event w settled fired piece fits none both) both
short_after draws calls put event w settled fired (inr not) fits key requests unmade both =
    subst (λ (v : Grand). After (record { event = event; mark = whole }) w (kept_unless (refusal event w) v w) settled fired) (sym (as_whole draws calls put event w not))
    (whole_after (record { event = event; mark = whole }) w settled fired tt key requests unmade both)

fits_after : (mark : Mark) (event : GrandEvent) (w : Grand) (settled : Settled) (fired : Fired) → EventFits mark event w → HasKey event → GrandEventFits event → Unmade w settled fired
    → Both w settled fired → After (record { event = event; mark = mark }) w (after (record { event = event; mark = mark }) w) settled fired
fits_after whole event w settled fired fits key requests unmade both = whole_after (record { event = event; mark = whole }) w settled fired tt key requests unmade both
fits_after (short draws calls put) event w settled fired fits key requests unmade both = short_after draws calls put event w settled fired (is_piece event) fits key requests unmade both
fits_after (unticked keys) event w settled fired fits key requests unmade both =
    whole_after (record { event = event; mark = unticked keys }) w settled fired tt key requests unmade both

-- ---- a run

fits_from : (entries : List Entry) (w : Grand) (settled : Settled) (fired : Fired) → RunFits entries w → HaveKeys entries → HaveRequests entries → HaveRows w.hub → Unmade w settled fired
    → Both w settled fired → Both (run entries w) (λ n. settled n ++ settled_over n entries w) (λ n. fired n ++ fired_over n entries w)
fits_from [] w settled fired fits keys requests rows unmade both = (both.0, nothing_more w settled fired both.1)
fits_from (entry ∷ entries) w settled fired fits keys requests rows unmade both =
    let v = after entry w in
    let more : Settled = λ n. unless (refusal entry.event w) (settled_by n entry.event w) in
    let new : Fired = λ n. unless (refusal entry.event w) (fired_by n entry.event w) in
    let r = fits_from entries v (λ n. settled n ++ more n) (λ n. fired n ++ new n) fits.1 keys.1 requests.1 (step_after entry w rows).hub.1
    (unmade_after entry w settled fired rows unmade) (fits_after entry.mark entry.event w settled fired fits.0 keys.0 requests.0 unmade both) in (
      r.0,
      channels_same (run entries v) (λ n. (settled n ++ more n) ++ settled_over n entries v) (λ n. settled n ++ (more n ++ settled_over n entries v))
          (λ n. (fired n ++ new n) ++ fired_over n entries v) (λ n. fired n ++ (new n ++ fired_over n entries v))
          (λ n. append_assoc (settled n) (more n) (settled_over n entries v)) (λ n. append_assoc (fired n) (new n) (fired_over n entries v)) r.1,
    )

-- a run whose marks fit
pub fits_run : (entries : List Entry) → RunFits entries new_grand → HaveKeys entries → HaveRequests entries
    → WorldKeeps (run entries new_grand) × ChannelsKeep (run entries new_grand) (λ n. settled_over n entries new_grand) (λ n. fired_over n entries new_grand)
fits_run entries fits keys requests =
    fits_from entries new_grand (λ n. []) (λ n. []) fits keys requests rows_new (λ n none. (refl, refl)) (keeps_new, channels_begun)
