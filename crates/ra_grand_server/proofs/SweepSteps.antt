-- A sweep of the server's side.
use Rattle.std.proofs.Common.{◌≡◌, ℕ, List, [], ◌∷◌, length, refl, ap, sym, ◌∙◌, subst}
use Rattle.ra_base.specs.declared.key.Key.{Key}
use Rattle.ra_hub.specs.declared.hub.Swept.{Swept}
use Rattle.ra_hub.specs.MemHubs.{MemHub}
use Rattle.ra_hub.specs.Hubs.{Hub}
use Rattle.ra_hub.specs.Keeping.{Stands}
use Rattle.ra_hub.specs.Sweeps.{IsSwept}
use Rattle.ra_grand_runs.specs.Grands.{Grand}
use Rattle.ra_grand_runs.specs.GrandSweeps.{expired_keys, left_by, swept_hub, sweeps}
use Rattle.ra_grand_server.specs.ServerCalls.{Sweeps, sweep_mark}
use Rattle.ra_grand_server.specs.ServerStates.{ServerState, StandsForServer}
use Rattle.ra_grand_server.proofs.Expiring.{keys_expire, swept_is}

left_by_mark : (keys : List Key) → left_by (sweep_mark keys) ≡ keys
left_by_mark [] = refl
left_by_mark (key ∷ keys) = refl

pub with_hub : (s : ServerState) (w : Grand) (hub : MemHub) (h : Hub) → StandsForServer s w → Stands hub h
    → StandsForServer (record s { hub = hub }) (record w { hub = h })
with_hub s w hub h stands is = record { hub = is; draws = stands.draws; jobs = stands.jobs; places = stands.places; apart = stands.apart; ends = stands.ends }

abbrev Ticked : MemHub → Hub → ℕ → Swept → Type 0
Ticked new h now swept = (after : Hub) × Stands new after × IsSwept h now swept.expired swept.short after

pub sweeps_so : (s : ServerState) (new : MemHub) (now : ℕ) (swept : Swept) → ((h : Hub) → Stands s.hub h → Ticked new h now swept)
    → (w : Grand) → StandsForServer s w → w.now ≡ now → Sweeps swept (record s { hub = new }) w
unfolding sweeps
sweeps_so s new now swept ticked w stands is =
    let made = subst (λ (m : ℕ). Ticked new w.hub m swept) (sym is) (ticked w.hub stands.hub) in
    let left = made.2.left in record {
      mark = sweep_mark left;
      expired = made.2.rows.counted ∙ ap (λ (ks : List Key). length ks) (keys_expire w swept.expired made.0.registry made.2.rows);
      short = made.2.counted ∙ ap (λ (ks : List Key). length ks) (sym (left_by_mark left));
      stands = with_hub s w new (swept_hub w.now (expired_keys w) (left_by (sweep_mark left)) w.hub) stands
          (subst (λ (h : Hub). Stands new h)
          (swept_is w swept.expired swept.short made.0 made.2 ∙ ap (λ (ks : List Key). swept_hub w.now (expired_keys w) ks w.hub) (sym (left_by_mark left))) made.1);
    }
