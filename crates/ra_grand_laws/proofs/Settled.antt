-- How the calls of each client of a run have ended.
use Rattle.std.proofs.Common.{◌≡◌, ℕ, zero, suc, ◌≤◌, Option, Some, List, refl, subst}
use Rattle.std.specs.Prelude.{◌≢◌, ◌==◌}
use Rattle.ra_base.specs.declared.key.Cause.TheVariants.{BadIpc}
use Rattle.ra_base.specs.declared.kind.Kind.{Kind}
use Rattle.ra_base.specs.declared.kind.Kind.TheVariants.{Management, ExtensionHost, Tunnel}
use Rattle.ra_model.specs.Links.{at_number}
use Rattle.ra_values.specs.Tree.{Tree}
use Rattle.ra_ipc.specs.ChannelLaws.{outcome, settled_as}
use Rattle.ra_ipc.specs.ChannelPairs.{Outcome}
use Rattle.ra_ipc.specs.Messages.{number_of}
use Rattle.ra_session.specs.Sessions.{Session}
use Rattle.ra_channel_laws.specs.Channels.{ChannelsHold}
use Rattle.ra_grand_runs.specs.GrandClients.{Client}
use Rattle.ra_grand_runs.specs.Grands.{Grand}
use Rattle.ra_grand_runs.specs.SetUps.{context}
use Rattle.ra_run_laws.proofs.Lists.{none_there}
use Rattle.ra_grand_laws.specs.ChannelParts.{IsOrBegins, ChannelsOf, ChannelsKeep}
use Rattle.ra_grand_laws.specs.Settling.{Settles}
use Rattle.ra_grand_laws.proofs.Settling.{settles_so}

abbrev Lists : Type 0
Lists = ℕ → List (ℕ × Outcome)

abbrev Fires : Type 0
Fires = ℕ → List (ℕ × Tree)

channels_at : (w : Grand) (st : Lists) (fi : Fires) (n : ℕ) (c : Client) → ChannelsKeep w st fi → at_number w.clients n ≡ Some c
    → ChannelsOf c.key.kind (w.hub.session c.key) c.dialer.session (st n) (fi n)
channels_at w st fi zero c keeps is = none_there is
channels_at w st fi (suc n) c keeps is = keeps.parts n c is

management_at : (w : Grand) (st : Lists) (fi : Fires) (n : ℕ) (c : Client) → ChannelsKeep w st fi → at_number w.clients n ≡ Some c → c.key.kind ≡ Management
    → (s : Session) × IsOrBegins (w.hub.session c.key) s × ChannelsHold context c.dialer.session s (st n) (fi n)
management_at w st fi n c keeps is kind =
    subst (λ (k : Kind). ChannelsOf k (w.hub.session c.key) c.dialer.session (st n) (fi n)) kind (channels_at w st fi n c keeps is)

-- ---- a management session

pub settles_once : (w : Grand) (st : Lists) (fi : Fires) (n : ℕ) (c : Client) → ChannelsKeep w st fi → at_number w.clients n ≡ Some c → c.key.kind ≡ Management
    → (i : ℕ) → number_of (λ (x : ℕ × Outcome). x.0 == i) (st n) ≤ 1
settles_once w st fi n c keeps is kind i =
    let at = management_at w st fi n c keeps is kind in (settles_so context c.dialer.session at.0 (st n) (fi n) at.2).once i

pub settles_own : (w : Grand) (st : Lists) (fi : Fires) (n : ℕ) (c : Client) → ChannelsKeep w st fi → at_number w.clients n ≡ Some c → c.key.kind ≡ Management
    → (i : ℕ) → settled_as i (st n) ≡ outcome i c.dialer.session.entries
settles_own w st fi n c keeps is kind i =
    let at = management_at w st fi n c keeps is kind in (settles_so context c.dialer.session at.0 (st n) (fi n) at.2).own i

pub settles_with : (w : Grand) (st : Lists) (fi : Fires) (n : ℕ) (c : Client) (s : Session) → ChannelsKeep w st fi → at_number w.clients n ≡ Some c → c.key.kind ≡ Management
    → w.hub.session c.key ≡ Some s → Settles c.dialer.session s (st n) (fi n)
settles_with w st fi n c s keeps is kind session =
    let at = management_at w st fi n c keeps is kind in
    let same : at.0 ≡ s = subst (λ (o : Option Session). IsOrBegins o at.0) session at.1 in
    subst (λ (t : Session). Settles c.dialer.session t (st n) (fi n)) same (settles_so context c.dialer.session at.0 (st n) (fi n) at.2)

-- ---- no session ends for a bad message

client_cause : (kind : Kind) (o : Option Session) (d : Session) (st : List (ℕ × Outcome)) (fi : List (ℕ × Tree)) → (kind ≡ Tunnel → ⊥) → ChannelsOf kind o d st fi → d.cause ≢ Some BadIpc
client_cause Management o d st fi not of = of.2.client_end.cause
client_cause ExtensionHost o d st fi not of = of.0.cause
client_cause Tunnel o d st fi not of = absurd (not refl)

pub client_well : (w : Grand) (st : Lists) (fi : Fires) (n : ℕ) (c : Client) → ChannelsKeep w st fi → at_number w.clients n ≡ Some c → (c.key.kind ≡ Tunnel → ⊥) → c.dialer.session.cause ≢ Some BadIpc
client_well w st fi n c keeps is not = client_cause c.key.kind (w.hub.session c.key) c.dialer.session (st n) (fi n) not (channels_at w st fi n c keeps is)

server_cause : (kind : Kind) (d s : Session) (st : List (ℕ × Outcome)) (fi : List (ℕ × Tree)) → (kind ≡ Tunnel → ⊥) → ChannelsOf kind (Some s) d st fi → s.cause ≢ Some BadIpc
server_cause Management d s st fi not of = subst (λ (t : Session). t.cause ≢ Some BadIpc) of.1 of.2.server_end.cause
server_cause ExtensionHost d s st fi not of = of.1.cause
server_cause Tunnel d s st fi not of = absurd (not refl)

pub server_well : (w : Grand) (st : Lists) (fi : Fires) (n : ℕ) (c : Client) (s : Session) → ChannelsKeep w st fi → at_number w.clients n ≡ Some c → (c.key.kind ≡ Tunnel → ⊥)
    → w.hub.session c.key ≡ Some s → s.cause ≢ Some BadIpc
server_well w st fi n c s keeps is not session =
    server_cause c.key.kind c.dialer.session s (st n) (fi n) not
    (subst (λ (o : Option Session). ChannelsOf c.key.kind o c.dialer.session (st n) (fi n)) session (channels_at w st fi n c keeps is))
