-- A frame that hands up no message, at either end.
use Rattle.std.proofs.Common.{◌≡◌, ◌≢◌, ℕ, Bool, true, false, Option, Some, None, List, [], ◌++◌, refl, sym, ◌∙◌, subst}
use Rattle.std.proofs.lemmas.List.{append-nil}
use Rattle.ra_base.specs.declared.key.Cause.TheVariants.{Disconnected}
use Rattle.ra_model.specs.declared.session.Up.{Up as Delivery}
use Rattle.ra_model.specs.declared.session.Up.TheVariants.{Message as HandedUp, Control, Quiet, Ended as Closed}
use Rattle.ra_model.specs.Endpoints.{Endpoint}
use Rattle.ra_model.specs.Events.{heard_with, taken}
use Rattle.ra_model.specs.Refusals.{or_fault, fault_if}
use Rattle.ra_model.specs.FirstFrame.{is_too_long, stated}
use Rattle.ra_model.specs.Taking.{delivery}
use Rattle.ra_model.proofs.Ending.{goes_take}
use Rattle.ra_values.specs.Tree.{Tree}
use Rattle.ra_ipc.specs.ChannelPairs.{Outcome}
use Rattle.ra_session.specs.Sessions.{Session, with_cause}
use Rattle.ra_session.specs.Hearing.{Heard, BadMessage, Hearing, hears, spoils}
use Rattle.ra_session.specs.SessionRefusals.{Refusal, ids_spent, too_long, bad_ipc}
use Rattle.ra_session.specs.TurnRefusals.{heard_refusal, delivery_refusal, taken_refusal}
use Rattle.ra_session.specs.Turns.{heard_at, on_delivery}
use Rattle.ra_channel_laws.specs.Channels.{ChannelsHold}
use Rattle.ra_channel_laws.proofs.Coming.{taken_said}
use Rattle.ra_channel_laws.proofs.Links.{client_still, server_still}
use Rattle.ra_channel_laws.proofs.Sides.{KeepsSaid}
use Rattle.ra_channel_laws.proofs.Silence.{caused, not_bad}

-- the session once the frame is taken, before what that hands up is heard
abbrev pub took : ℕ → Session → Session
took now s = record s { peer = taken now s.peer }

pub keeps_took : (now : ℕ) (s : Session) → delivery s.peer.endpoint ≢ Some Closed → KeepsSaid s (took now s)
keeps_took now s other = record {
  kind = refl;
  serves = refl;
  server = refl;
  client = refl;
  packets = refl;
  entries = refl;
  said = taken_said now s.peer.endpoint;
  runs = λ runs going. goes_take now s.peer.endpoint other (runs going);
  cause = λ good. good;
}

keeps_closed : (now : ℕ) (s : Session) → KeepsSaid s (with_cause Disconnected (took now s))
keeps_closed now s = record {
  kind = refl;
  serves = refl;
  server = refl;
  client = refl;
  packets = refl;
  entries = refl;
  said = taken_said now s.peer.endpoint;
  runs = λ runs going. absurd (caused s.cause Disconnected going);
  cause = not_bad s.cause Disconnected (λ is. cc);
}

-- what is handed up is no message
abbrev pub IsSilent : Option Delivery → Type 0
IsSilent up = (id : ℕ) (body : List ℕ) → up ≢ Some (HandedUp id body)

heard_still : (up : Option Delivery) (heard : List (List ℕ)) → IsSilent up → heard_with up heard ≡ heard
heard_still None heard silent = refl
heard_still (Some (HandedUp id body)) heard silent = absurd (silent id body refl)
heard_still (Some (Control body)) heard silent = refl
heard_still (Some Quiet) heard silent = refl
heard_still (Some Closed) heard silent = refl

took_kept : (up : Option Delivery) (now : ℕ) (s : Session) → delivery s.peer.endpoint ≡ up → IsSilent up → KeepsSaid s (on_delivery up now (took now s))
took_kept None now s is silent = keeps_took now s (λ same. here (sym is ∙ same))
  where
    here : None ≡ Some Closed → ⊥
    here same = cc
took_kept (Some (HandedUp id body)) now s is silent = absurd (silent id body refl)
took_kept (Some (Control body)) now s is silent = keeps_took now s (λ same. here (sym is ∙ same))
  where
    here : Some (Control body) ≡ Some Closed → ⊥
    here same = cc
took_kept (Some Quiet) now s is silent = keeps_took now s (λ same. here (sym is ∙ same))
  where
    here : Some Quiet ≡ Some Closed → ⊥
    here same = cc
took_kept (Some Closed) now s is silent = keeps_closed now s

heard_same : (up : Option Delivery) (now : ℕ) (s : Session) → delivery s.peer.endpoint ≡ up → IsSilent up → (on_delivery up now (took now s)).peer.heard ≡ s.peer.heard
heard_same None now s is silent = rw is refl
heard_same (Some (HandedUp id body)) now s is silent = absurd (silent id body refl)
heard_same (Some (Control body)) now s is silent = rw is refl
heard_same (Some Quiet) now s is silent = rw is refl
heard_same (Some Closed) now s is silent = rw is refl

pub client_takes_frame : (context : Tree) (d s : Session) (settled : List (ℕ × Outcome)) (fired : List (ℕ × Tree)) (up : Option Delivery) (now : ℕ)
    → delivery d.peer.endpoint ≡ up → IsSilent up → ChannelsHold context d s settled fired
    → ChannelsHold context (on_delivery up now (took now d)) s (settled ++ []) (fired ++ [])
client_takes_frame context d s settled fired up now is silent h =
    let after : Session = on_delivery up now (took now d) in
    subst (λ (f : List (ℕ × Tree)). ChannelsHold context after s (settled ++ []) f) (sym (append-nil fired))
    (subst (λ (t : List (ℕ × Outcome)). ChannelsHold context after s t fired) (sym (append-nil settled))
    (client_still context d after s settled fired (took_kept up now d is silent) (heard_same up now d is silent) h))

pub server_takes_frame : (context : Tree) (d s : Session) (settled : List (ℕ × Outcome)) (fired : List (ℕ × Tree)) (up : Option Delivery) (now : ℕ)
    → delivery s.peer.endpoint ≡ up → IsSilent up → ChannelsHold context d s settled fired
    → ChannelsHold context d (on_delivery up now (took now s)) settled fired
server_takes_frame context d s settled fired up now is silent h =
    server_still context d s (on_delivery up now (took now s)) settled fired (took_kept up now s is silent) (heard_same up now s is silent) h

-- ---- refusals

second_none : (a b : Option Refusal) → or_fault a b ≡ None → b ≡ None
second_none None b is = is
second_none (Some r) b is = cc

pub delivers : (now : ℕ) (s : Session) → taken_refusal now s ≡ None → delivery_refusal (delivery s.peer.endpoint) now s s.peer.endpoint ≡ None
unfolding taken_refusal
delivers now s is = second_none _ _ is

not_bad_first : (b : Bool) (n : ℕ) (r : Option Refusal) (bad : BadMessage) (body : List ℕ) → or_fault (fault_if b (too_long n)) r ≡ Some (bad_ipc bad body)
    → r ≡ Some (bad_ipc bad body)
not_bad_first true n r bad body is = cc
not_bad_first false n r bad body is = is

spent_good : (b : Bool) (bad : BadMessage) (body : List ℕ) → fault_if b ids_spent ≡ Some (bad_ipc bad body) → ⊥
spent_good true bad body is = cc
spent_good false bad body is = cc

-- each message that is handed up means something
abbrev pub MeansAll : (s : Session) (now : ℕ) → Type 0
MeansAll s now = (id : ℕ) (body : List ℕ) → delivery s.peer.endpoint ≡ Some (HandedUp id body) → (means : Hearing) × (heard_at s id body now ≡ hears means)

heard_good : (heard : Heard) (means : Hearing) (e : Endpoint) (bad : BadMessage) (said body : List ℕ) → heard ≡ hears means
    → heard_refusal heard said e ≡ Some (bad_ipc bad body) → ⊥
heard_good (spoils other) means e bad said body same is = cc
heard_good (hears h) means e bad said body same is = spent_good _ bad body is

delivery_good : (up : Option Delivery) (now : ℕ) (s : Session) (bad : BadMessage) (body : List ℕ) → delivery s.peer.endpoint ≡ up → MeansAll s now
    → delivery_refusal up now s s.peer.endpoint ≡ Some (bad_ipc bad body) → ⊥
delivery_good None now s bad body same means is = cc
delivery_good (Some (HandedUp id said)) now s bad body same means is =
    let found = means id said same in heard_good (heard_at s id said now) found.0 s.peer.endpoint bad said body found.1 is
delivery_good (Some (Control said)) now s bad body same means is = cc
delivery_good (Some Quiet) now s bad body same means is = cc
delivery_good (Some Closed) now s bad body same means is = cc

pub never_bad : (now : ℕ) (s : Session) (bad : BadMessage) (body : List ℕ) → MeansAll s now → taken_refusal now s ≢ Some (bad_ipc bad body)
unfolding taken_refusal
never_bad now s bad body means is =
    delivery_good (delivery s.peer.endpoint) now s bad body refl means
    (not_bad_first (is_too_long s.peer.endpoint.unread) (stated s.peer.endpoint.unread) _ bad body is)
