-- An event in which no memory ran out is applied whole.
use Rattle.std.proofs.Common.{◌≡◌, ℕ, Option, Some, None, List, [], ◌∷◌, length, refl, ap, arith}
use Rattle.ra_base.specs.declared.key.Key.{Key}
use Rattle.ra_script.specs.declared.grand_line.GrandEvent.{GrandEvent}
use Rattle.ra_script.specs.declared.grand_line.GrandEvent.TheVariants as events
use Rattle.ra_grand_runs.specs.GrandEffects.{swept, effect, moved_up}
use Rattle.ra_grand_runs.specs.GrandRuns.{happens, bytes_up}
use Rattle.ra_grand_runs.specs.Grands.{Grand, Found, find_link, on_link}
use Rattle.ra_grand_runs.specs.GrandSweeps.{expired_keys, swept_hub, sweeps}
use Rattle.ra_grand_runs.specs.Marks.{Mark, whole, short, unticked}
use Rattle.ra_grand_runs.specs.ServedLinks.{piece_came}
use Rattle.ra_commands.specs.GrandLines.{IsWhole}

abbrev AsWhole : Mark → GrandEvent → Grand → Type 0
AsWhole mark event w = (effect mark event w ≡ effect whole event w) × (happens mark event w ≡ happens whole event w)

abbrev MovesWhole : Mark → (Found → List ℕ) → Option Found → Grand → Type 0
MovesWhole mark bytes found w =
    (moved_up mark bytes found w ≡ moved_up whole bytes found w)
    × (on_link (λ f. piece_came mark (bytes f) f) found w ≡ on_link (λ f. piece_came whole (bytes f) f) found w)

moves_whole : (mark : Mark) (bytes : Found → List ℕ) (found : Option Found) (w : Grand) → IsWhole (moved_up mark bytes found w) → MovesWhole mark bytes found w
unfolding piece_came
moves_whole mark bytes None w is = (refl, refl)
moves_whole whole bytes (Some f) w is = (refl, refl)
moves_whole (short draws calls put) bytes (Some f) w is = absurd is
moves_whole (unticked keys) bytes (Some f) w is = (refl, refl)

no_keys : (keys : List Key) → length keys ≡ 0 → keys ≡ []
no_keys [] is = refl
no_keys (key ∷ keys) is = absurd (omega (arith, is))

sweeps_whole : (mark : Mark) (w : Grand) → IsWhole (effect mark events.Sweep w) → AsWhole mark events.Sweep w
unfolding effect happens sweeps
sweeps_whole whole w is = (refl, refl)
sweeps_whole (short draws calls put) w is = (refl, refl)
sweeps_whole (unticked keys) w is =
    let none = no_keys keys is in
    (ap (λ (ks : List Key). swept (length (expired_keys w)) (length ks)) none, ap (λ (ks : List Key). record w { hub = swept_hub w.now (expired_keys w) ks w.hub }) none)

pub as_whole : (mark : Mark) (event : GrandEvent) (w : Grand) → IsWhole (effect mark event w) → AsWhole mark event w
unfolding effect happens
as_whole mark (events.At now) w is = (refl, refl)
as_whole mark (events.Client key) w is = (refl, refl)
as_whole mark (events.Step client) w is = (refl, refl)
as_whole mark (events.Linked client) w is = (refl, refl)
as_whole mark (events.NoLink client) w is = (refl, refl)
as_whole mark (events.Up link count) w is = moves_whole mark (λ f. bytes_up count f.link) (find_link link w) w is
as_whole mark (events.Idle link) w is = moves_whole mark (λ f. []) (find_link link w) w is
as_whole mark (events.Down link count) w is = (refl, refl)
as_whole mark (events.Frame client) w is = (refl, refl)
as_whole mark (events.Cut link) w is = (refl, refl)
as_whole mark (events.Gone link) w is = (refl, refl)
as_whole mark (events.Lost client) w is = (refl, refl)
as_whole mark events.Sweep w is = sweeps_whole mark w is
as_whole mark (events.Work job) w is = (refl, refl)
as_whole mark (events.Call client channel name arg) w is = (refl, refl)
as_whole mark (events.CallText client channel name arg) w is = (refl, refl)
as_whole mark (events.Listen client channel name) w is = (refl, refl)
as_whole mark (events.Cancel client id) w is = (refl, refl)
as_whole mark (events.Dispose client id) w is = (refl, refl)
as_whole mark (events.Say client body) w is = (refl, refl)
as_whole mark (events.Stop client) w is = (refl, refl)
