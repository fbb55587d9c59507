-- The channels of a client and of the session of its key, and the calls that wait to be answered.
use Rattle.std.specs.Prelude.{◌≡◌, ◌≢◌, ℕ, suc, ◌<◌, ◌^◌, Option, Some, None, List, [], ⊤}
use Rattle.std.specs.List.{AllByRecursion}
use Rattle.ra_base.specs.declared.key.Cause.TheVariants.{BadIpc}
use Rattle.ra_base.specs.declared.kind.Kind.{Kind}
use Rattle.ra_base.specs.declared.kind.Kind.TheVariants.{Management, ExtensionHost, Tunnel}
use Rattle.ra_values.specs.Spelling.{levels, Fits}
use Rattle.ra_values.specs.Tree.{Tree, text}
use Rattle.ra_ipc.specs.ChannelPairs.{Outcome}
use Rattle.ra_session.specs.Hearing.{Happening, work, host, call_settled, event_fired}
use Rattle.ra_session.specs.Saying.{serving}
use Rattle.ra_session.specs.Sessions.{Session}
use Rattle.ra_hub.specs.Jobs.{SeenJob}
use Rattle.ra_channel_laws.specs.Channels.{ChannelsHold}
use Rattle.ra_grand_runs.specs.GrandClients.{Client}
use Rattle.ra_grand_runs.specs.Grands.{Grand}
use Rattle.ra_grand_runs.specs.SetUps.{context}
use Rattle.std.specs.Prelude.{slice_get}

-- before the first admission the server's session is one that begins
abbrev pub IsOrBegins : Option Session → Session → Type 0
IsOrBegins None s = (now : ℕ) × (s ≡ serving Management now)
IsOrBegins (Some t) s = s ≡ t

-- a session of an extension host hears no packets
pub record HearsNone (s : Session) : Type 0 where
  pub kind : s.kind ≡ ExtensionHost
  pub cause : s.cause ≢ Some BadIpc

abbrev pub HearsNoneIfAny : Option Session → Type 0
HearsNoneIfAny None = ⊤
HearsNoneIfAny (Some s) = HearsNone s

-- by the kind of the key: what the client has handed up is what a run of the channels at both ends hands up
abbrev pub ChannelsOf : Kind → Option Session → Session → List (ℕ × Outcome) → List (ℕ × Tree) → Type 0
ChannelsOf Management session d settled fired = (s : Session) × IsOrBegins session s × ChannelsHold context d s settled fired
ChannelsOf ExtensionHost session d settled fired = HearsNone d × HearsNoneIfAny session × (settled ≡ []) × (fired ≡ [])
ChannelsOf Tunnel session d settled fired = ⊤

-- a call that waits for the tools: its argument can be written, and so can its channel's name and its id
abbrev pub WorkFits : Happening → Type 0
WorkFits (work call) = (call.id < 2 ^ 31) × Fits levels call.arg × Fits levels (text call.channel)
WorkFits (host body) = ⊤
WorkFits (call_settled id outcome) = ⊤
WorkFits (event_fired id body) = ⊤

-- with these lists for each client by its number
pub record ChannelsKeep (w : Grand) (settled : ℕ → List (ℕ × Outcome)) (fired : ℕ → List (ℕ × Tree)) : Type 0 where
  pub parts : (n : ℕ) (c : Client) → slice_get w.clients n ≡ Some c
      → ChannelsOf c.key.kind (w.hub.session c.key) c.dialer.session (settled (suc n)) (fired (suc n))
  pub jobs : AllByRecursion (λ (j : SeenJob). WorkFits j.work) w.jobs
