-- A turn of an attached client, in the run of its channels.
use Rattle.std.proofs.Common.{◌≡◌, ◌≢◌, ℕ, false, Option, Some, None, List, [], ◌++◌, refl, ap, sym, ◌∙◌, subst}
use Rattle.std.proofs.lemmas.List.{append-nil}
use Rattle.ra_base.specs.declared.event.Side.TheVariants.{A}
use Rattle.ra_base.specs.declared.key.Cause.{Cause}
use Rattle.ra_base.specs.declared.key.Cause.TheVariants.{Disconnected}
use Rattle.ra_base.specs.declared.kind.Kind.{Kind}
use Rattle.ra_base.specs.declared.kind.Kind.TheVariants.{Management, ExtensionHost, Tunnel}
use Rattle.ra_model.specs.declared.session.Up.{Up as Delivery}
use Rattle.ra_model.specs.declared.session.Up.TheVariants.{Message as HandedUp, Control, Quiet, Ended as Closed}
use Rattle.ra_model.specs.Endpoints.{Endpoint}
use Rattle.ra_model.specs.Events.{taken}
use Rattle.ra_model.specs.FirstFrame.{is_too_long, stated}
use Rattle.ra_model.specs.Links.{Link}
use Rattle.ra_model.specs.Taking.{delivery}
use Rattle.ra_model.specs.Views.{View}
use Rattle.ra_values.specs.Tree.{Tree}
use Rattle.ra_ipc.specs.ChannelPairs.{Outcome}
use Rattle.ra_session.specs.Hearing.{BadMessage, Happening, host, Heard, hears}
use Rattle.ra_session.specs.SessionCalls.{feed_session, take_out}
use Rattle.ra_session.specs.SessionRefusals.{bad_ipc, feed_refusal}
use Rattle.ra_session.specs.Sessions.{Session, is_management}
use Rattle.ra_session.specs.TurnRefusals.{heard_refusal, delivery_refusal, taken_refusal, turn_refusal}
use Rattle.ra_session.specs.Turns.{heard_at, on_heard, on_delivery, take_in, take_turn, turn, happening_in, happening_of as happening_by, ended_by, taken_answer, turn_answer}
use Rattle.ra_session.proofs.Meanings.{quietly, host_is}
use Rattle.ra_channel_laws.specs.Channels.{ChannelsHold, settled_in, fired_in}
use Rattle.ra_channel_laws.proofs.ClientHearing.{client_turn, client_means}
use Rattle.ra_channel_laws.proofs.Frames.{never_bad}
use Rattle.ra_channel_laws.proofs.Links.{client_silent}
use Rattle.ra_channel_laws.proofs.Silence.{not_bad, silent_feed, silent_out}
use Rattle.ra_grand_runs.specs.SetUps.{context}
use Rattle.ra_link_laws.proofs.BadTurns.{both_none, second_is, feeds_going, fed_bad, long_bad, spent_bad}
use Rattle.ra_grand_laws.specs.ChannelParts.{IsOrBegins, HearsNone, ChannelsOf}

-- whichever session of the server it is that it hears, the two are the ends of a view once it has looked for bytes
abbrev pub HearsFrom : Option Session → Session → Type 0
HearsFrom session d =
    (s : Session) (now : ℕ) → IsOrBegins session s → feed_refusal d.peer.endpoint.epoch d ≡ None
    → (i j : ℕ) × (links : List Link) × View 0 A i j (feed_session d.peer.endpoint.epoch [] now d).peer s.peer links

-- ---- refusals

-- of one that is not refused
admits : (epoch now : ℕ) (d : Session) → turn_refusal epoch [] now d ≡ None → (feed_refusal epoch d ≡ None) × (taken_refusal now (feed_session epoch [] now d) ≡ None)
unfolding turn_refusal
admits epoch now d is = both_none (feed_refusal epoch d) (taken_refusal now (feed_session epoch [] now d)) is

-- of one that hears a bad message
hears_bad : (epoch now : ℕ) (d : Session) (bad : BadMessage) (m : List ℕ) → turn_refusal epoch [] now d ≡ Some (bad_ipc bad m)
    → (feed_refusal epoch d ≡ None) × (taken_refusal now (feed_session epoch [] now d) ≡ Some (bad_ipc bad m))
unfolding turn_refusal
hears_bad epoch now d bad m is =
    second_is (feed_refusal epoch d) (taken_refusal now (feed_session epoch [] now d)) (bad_ipc bad m) (fed_bad epoch d bad m) is

-- one that is fed has not ended
fed_going : (epoch now : ℕ) (d : Session) → feed_refusal epoch d ≡ None → (feed_session epoch [] now d).cause ≡ None
unfolding feed_session
fed_going epoch now d is = feeds_going epoch d is

-- ---- a session of an extension host

pub no_management : (kind : Kind) → kind ≡ ExtensionHost → is_management kind ≡ false
no_management Management is = absurd cc
no_management ExtensionHost is = refl
no_management Tunnel is = refl

host_hears : (d : Session) (id : ℕ) (body : List ℕ) (now : ℕ) → HearsNone d → heard_at d id body now ≡ hears (quietly d.server d.client None (Some (host body)))
host_hears d id body now h = host_is d.kind d.serves d.server d.client id body now (no_management d.kind h.kind)

host_delivery : (up : Option Delivery) (now : ℕ) (d : Session) → HearsNone d → HearsNone (on_delivery up now (record d { peer = taken now d.peer }))
host_delivery None now d h = record { kind = h.kind; cause = h.cause }
host_delivery (Some (HandedUp id body)) now d h =
    let fed : Session = record d { peer = taken now d.peer } in
    subst (λ (means : Heard). HearsNone (on_heard means now fed)) (sym (host_hears fed id body now (record { kind = h.kind; cause = h.cause })))
    (record { kind = h.kind; cause = h.cause })
host_delivery (Some (Control body)) now d h = record { kind = h.kind; cause = h.cause }
host_delivery (Some Quiet) now d h = record { kind = h.kind; cause = h.cause }
host_delivery (Some Closed) now d h = record { kind = h.kind; cause = not_bad d.cause Disconnected (λ is. cc) h.cause }

-- nothing of a channel is handed up
abbrev IsNothing : Option Happening → Type 0
IsNothing h = (settled_in h ≡ []) × (fired_in h ≡ [])

host_nothing : (up : Option Delivery) (now : ℕ) (d : Session) → HearsNone d → IsNothing (happening_by up now d)
host_nothing None now d h = (refl, refl)
host_nothing (Some (HandedUp id body)) now d h =
    subst (λ (means : Heard). IsNothing (happening_in means)) (sym (host_hears d id body now h)) (refl, refl)
host_nothing (Some (Control body)) now d h = (refl, refl)
host_nothing (Some Quiet) now d h = (refl, refl)
host_nothing (Some Closed) now d h = (refl, refl)

host_good : (up : Option Delivery) (now : ℕ) (d : Session) (e : Endpoint) (bad : BadMessage) (m : List ℕ) → HearsNone d → delivery_refusal up now d e ≡ Some (bad_ipc bad m) → ⊥
host_good None now d e bad m h is = cc
host_good (Some (HandedUp id body)) now d e bad m h is =
    spent_bad _ bad m (subst (λ (means : Heard). heard_refusal means body e ≡ Some (bad_ipc bad m)) (host_hears d id body now h) is)
host_good (Some (Control body)) now d e bad m h is = cc
host_good (Some Quiet) now d e bad m h is = cc
host_good (Some Closed) now d e bad m h is = cc

host_taken : (now : ℕ) (d : Session) (bad : BadMessage) (m : List ℕ) → HearsNone d → taken_refusal now d ≡ Some (bad_ipc bad m) → ⊥
unfolding taken_refusal
host_taken now d bad m h is =
    host_good (delivery d.peer.endpoint) now d d.peer.endpoint bad m h
    (second_is _ _ (bad_ipc bad m) (long_bad (is_too_long d.peer.endpoint.unread) (stated d.peer.endpoint.unread) bad m) is).1

fed_hears : (epoch now : ℕ) (d : Session) → HearsNone d → HearsNone (feed_session epoch [] now d)
unfolding feed_session
fed_hears epoch now d h = record { kind = h.kind; cause = h.cause }

host_turn : (epoch now : ℕ) (d : Session) → HearsNone d → HearsNone (turn epoch [] now d)
unfolding turn take_turn take_out take_in
host_turn epoch now d h =
    let fed : Session = feed_session epoch [] now d in
    let after : HearsNone (on_delivery (delivery fed.peer.endpoint) now (record fed { peer = taken now fed.peer })) =
    host_delivery (delivery fed.peer.endpoint) now fed (fed_hears epoch now d h) in
    record { kind = after.kind; cause = after.cause }

host_answer : (epoch now : ℕ) (d : Session) → HearsNone d → IsNothing (turn_answer epoch [] now d).happening
unfolding turn_answer taken_answer
host_answer epoch now d h =
    let fed : Session = feed_session epoch [] now d in host_nothing (delivery fed.peer.endpoint) now fed (fed_hears epoch now d h)

-- ---- a session of management

management_turn : (session : Option Session) (now : ℕ) (d s : Session) (settled : List (ℕ × Outcome)) (fired : List (ℕ × Tree)) → HearsFrom session d → IsOrBegins session s
    → turn_refusal d.peer.endpoint.epoch [] now d ≡ None → ChannelsHold context d s settled fired
    → ChannelsHold context (turn d.peer.endpoint.epoch [] now d) s (settled ++ settled_in (turn_answer d.peer.endpoint.epoch [] now d).happening)
    (fired ++ fired_in (turn_answer d.peer.endpoint.epoch [] now d).happening)
unfolding turn take_turn turn_answer
management_turn session now d s settled fired from is none h =
    let epoch = d.peer.endpoint.epoch in
    let fed : Session = feed_session epoch [] now d in
    let free = admits epoch now d none in
    by epoch fed free.0 (fed_going epoch now d free.0) free.1 (from s now is free.0)
    (client_silent context d s settled fired (feed_session epoch [] now) (silent_feed epoch [] now d) h)
  where
    by : (epoch : ℕ) (fed : Session) → feed_refusal epoch d ≡ None → fed.cause ≡ None → taken_refusal now fed ≡ None → (i j : ℕ) × (links : List Link) × View 0 A i j fed.peer s.peer links
        → ChannelsHold context fed s settled fired
        → ChannelsHold context (take_out (take_in now fed)) s (settled ++ settled_in (taken_answer now fed).happening) (fired ++ fired_in (taken_answer now fed).happening)
    by epoch fed feeds going takes (i, j, links, view) held =
        client_silent context (take_in now fed) s (settled ++ settled_in (taken_answer now fed).happening) (fired ++ fired_in (taken_answer now fed).happening) take_out
        (silent_out (take_in now fed)) (client_turn context fed s settled fired i j now links view going takes held)

management_good : (session : Option Session) (now : ℕ) (d s : Session) (settled : List (ℕ × Outcome)) (fired : List (ℕ × Tree)) (bad : BadMessage) (m : List ℕ)
    → HearsFrom session d → IsOrBegins session s → ChannelsHold context d s settled fired → turn_refusal d.peer.endpoint.epoch [] now d ≡ Some (bad_ipc bad m) → ⊥
management_good session now d s settled fired bad m from is h refused =
    let epoch = d.peer.endpoint.epoch in
    let both = hears_bad epoch now d bad m refused in
    by (feed_session epoch [] now d) both.1 (from s now is both.0)
    (client_silent context d s settled fired (feed_session epoch [] now) (silent_feed epoch [] now d) h)
  where
    by : (fed : Session) → taken_refusal now fed ≡ Some (bad_ipc bad m) → (i j : ℕ) × (links : List Link) × View 0 A i j fed.peer s.peer links → ChannelsHold context fed s settled fired → ⊥
    by fed takes (i, j, links, view) held = never_bad now fed bad m (client_means context fed s settled fired i j now links view held) takes

-- ---- any session

more_nothing : {X : Type 0} → (xs more : List X) → xs ≡ [] → more ≡ [] → xs ++ more ≡ []
more_nothing xs more none no_more = ap (λ (t : List _). xs ++ t) no_more ∙ append-nil xs ∙ none

-- a turn that is not refused
pub turn_channels : (kind : Kind) (session : Option Session) (now : ℕ) (d : Session) (settled : List (ℕ × Outcome)) (fired : List (ℕ × Tree)) → HearsFrom session d
    → turn_refusal d.peer.endpoint.epoch [] now d ≡ None → ChannelsOf kind session d settled fired
    → ChannelsOf kind session (turn d.peer.endpoint.epoch [] now d) (settled ++ settled_in (turn_answer d.peer.endpoint.epoch [] now d).happening)
    (fired ++ fired_in (turn_answer d.peer.endpoint.epoch [] now d).happening)
turn_channels Management session now d settled fired from none (s, is, h) = (s, is, management_turn session now d s settled fired from is none h)
turn_channels ExtensionHost session now d settled fired from none (own, other, nothing, empty) =
    let epoch = d.peer.endpoint.epoch in
    let quiet = host_answer epoch now d own in
    (host_turn epoch now d own, other, more_nothing settled _ nothing quiet.0, more_nothing fired _ empty quiet.1)
turn_channels Tunnel session now d settled fired from none h = tt

-- no bad message is heard
pub turn_good : (kind : Kind) (session : Option Session) (now : ℕ) (d : Session) (settled : List (ℕ × Outcome)) (fired : List (ℕ × Tree)) (bad : BadMessage) (m : List ℕ)
    → kind ≢ Tunnel → HearsFrom session d → ChannelsOf kind session d settled fired → turn_refusal d.peer.endpoint.epoch [] now d ≡ Some (bad_ipc bad m) → ⊥
turn_good Management session now d settled fired bad m known from (s, is, h) refused = management_good session now d s settled fired bad m from is h refused
turn_good ExtensionHost session now d settled fired bad m known from (own, other, nothing, empty) refused =
    let epoch = d.peer.endpoint.epoch in
    host_taken now (feed_session epoch [] now d) bad m (fed_hears epoch now d own) (hears_bad epoch now d bad m refused).1
turn_good Tunnel session now d settled fired bad m known from h refused = known refl

ended_nothing : (up : Option Delivery) (now : ℕ) (d : Session) (cause : Cause) → ended_by up ≡ Some cause → happening_by up now d ≡ None
ended_nothing None now d cause is = refl
ended_nothing (Some (HandedUp id body)) now d cause is = absurd cc
ended_nothing (Some (Control body)) now d cause is = refl
ended_nothing (Some Quiet) now d cause is = refl
ended_nothing (Some Closed) now d cause is = refl

-- one that ends the session hands up nothing
pub end_nothing : (epoch now : ℕ) (d : Session) (cause : Cause) → (turn_answer epoch [] now d).ended ≡ Some cause → (turn_answer epoch [] now d).happening ≡ None
unfolding turn_answer taken_answer
end_nothing epoch now d cause is =
    let fed : Session = feed_session epoch [] now d in ended_nothing (delivery fed.peer.endpoint) now fed cause is
