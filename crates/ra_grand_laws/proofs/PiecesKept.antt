-- A piece that comes to the server keeps the channels of every client.
use Rattle.std.proofs.Common.{◌≡◌, inl, inr, ℕ, suc, ◌≤◌, false, Option, Some, List, length, take, refl, ap, sym, ◌∙◌, subst}
use Rattle.std.specs.Prelude.{◌⊎◌, slice_get, slice_set}
use Rattle.ra_base.specs.declared.event.Side.TheVariants.{B}
use Rattle.ra_model.specs.Links.{readable}
use Rattle.ra_registry.specs.Rows.{same_key}
use Rattle.ra_session.specs.Sessions.{Session}
use Rattle.ra_values.specs.Tree.{Tree}
use Rattle.ra_ipc.specs.ChannelPairs.{Outcome}
use Rattle.ra_grand_runs.specs.GrandClients.{GrandLink, Client}
use Rattle.ra_grand_runs.specs.Grands.{Grand, Found, with_link}
use Rattle.ra_grand_runs.specs.Marks.{whole}
use Rattle.ra_grand_runs.specs.ServedLinks.{piece_came}
use Rattle.ra_run_laws.proofs.Lists.{there_is, same_or_not, get_same, get_other, by_bool}
use Rattle.ra_link_laws.specs.Parts.{WorldKeeps}
use Rattle.ra_link_laws.proofs.ServedParts.{piece_link, piece_changes}
use Rattle.ra_link_laws.proofs.WorldLinks.{IsHere, StandsAt, stands_at}
use Rattle.ra_link_laws.proofs.WorldSteps.{Changes}
use Rattle.ra_grand_laws.specs.ChannelParts.{ChannelsOf, ChannelsKeep}
use Rattle.ra_grand_laws.proofs.ServedEnds.{piece_channels}
use Rattle.ra_grand_laws.proofs.WorksFit.{JobsFit}

abbrev Settled : Type 0
Settled = ℕ → List (ℕ × Outcome)

abbrev Fired : Type 0
Fired = ℕ → List (ℕ × Tree)

-- one client has another link, and the session of its key has changed
pub channels_served : (n m : ℕ) (c : Client) (l : GrandLink) (w v : Grand) (settled : Settled) (fired : Fired) → WorldKeeps w → Changes n c (with_link m l c) w v
    → ChannelsOf c.key.kind (v.hub.session c.key) c.dialer.session (settled (suc n)) (fired (suc n)) → JobsFit v.jobs → ChannelsKeep w settled fired → ChannelsKeep v settled fired
channels_served n m c l w v settled fired keeps change own jobs keep = record { parts = λ i e is. by i e is (same_or_not n i); jobs = jobs }
  where
    by : (i : ℕ) (e : Client) → slice_get v.clients i ≡ Some e → (n ≡ i) ⊎ (n ≡ i → ⊥) → ChannelsOf e.key.kind (v.hub.session e.key) e.dialer.session (settled (suc i)) (fired (suc i))
    by i e is (inl same) =
        let both : with_link m l c ≡ e =
        there_is (sym (ap (λ (cs : List Client). slice_get cs i) change.clients ∙ ap (λ (k : ℕ). slice_get (slice_set w.clients n (with_link m l c)) k) (sym same) ∙ get_same w.clients n (with_link m l c) c change.there) ∙ is) in
        subst (λ (k : ℕ). ChannelsOf e.key.kind (v.hub.session e.key) e.dialer.session (settled (suc k)) (fired (suc k))) same
        (subst (λ (x : Client). ChannelsOf x.key.kind (v.hub.session x.key) x.dialer.session (settled (suc n)) (fired (suc n))) both own)
    by i e is (inr differs) =
        let before : slice_get w.clients i ≡ Some e = sym (get_other w.clients n i (with_link m l c) differs) ∙ ap (λ (cs : List Client). slice_get cs i) (sym change.clients) ∙ is in
        let apart : same_key c.key e.key ≡ false =
        by_bool (same_key c.key e.key) (λ same. absurd (differs (keeps.keys n i c e change.there before same))) (λ other. other) in
        subst (λ (o : Option Session). ChannelsOf e.key.kind o e.dialer.session (settled (suc i)) (fired (suc i))) (sym (change.others e.key apart).0) (keep.parts i e before)

pub pieces_keep : (k : ℕ) (f : Found) (w : Grand) (settled : Settled) (fired : Fired) → WorldKeeps w → IsHere f w → f.link.server.is_over ≡ false
    → k ≤ length (readable B f.link.link) → ChannelsKeep w settled fired → ChannelsKeep (piece_came whole (take k (readable B f.link.link)) f w) settled fired
pieces_keep k f w settled fired keeps here over fits keep = by (stands_at f w here)
  where
    by : (n m : ℕ) × StandsAt f w n m → ChannelsKeep (piece_came whole (take k (readable B f.link.link)) f w) settled fired
    by (n, m, at) =
        let bytes = take k (readable B f.link.link) in
        let own = piece_channels bytes k n m f w keeps at.client_number at.link_number at.client at.link over fits refl (settled (suc n)) (fired (suc n)) (keep.parts n f.client at.client) keep.jobs in
        channels_served n (suc m) f.client (piece_link bytes f w) w (piece_came whole bytes f w) settled fired keeps
        (piece_changes bytes k n m f w keeps at.client_number at.link_number at.client at.link over fits refl) own.0 own.1 keep
