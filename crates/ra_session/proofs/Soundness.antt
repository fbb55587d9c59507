-- What a session keeps in memory stands for a session.
use Rattle.std.proofs.Common.{◌≡◌, ℕ, [], List, ◌≤◌, length, refl, ap, not, ◌∙◌}
use Rattle.std.specs.List.{AllByRecursion}
use Rattle.ra_model.specs.declared.session.Phase.{Phase}
use Rattle.ra_model.specs.Frames.{body_limit}
use Rattle.ra_model.specs.Endpoints.{Endpoint, is_ended}
use Rattle.ra_model.specs.EndpointStates.{EndpointState, IsConsistent, StandsFor}
use Rattle.ra_model.specs.Worlds.{Peer}
use Rattle.ra_proto.specs.Links.{SameLink}
use Rattle.ra_proto.proofs.Existing.{some_endpoint}
use Rattle.ra_ipc.specs.Messages.{Message, opens}
use Rattle.ra_ipc.specs.Packets.{message_bytes}
use Rattle.ra_ipc.specs.ChannelClients.{Client, after_call, after_listen, after_cancel, after_dispose}
use Rattle.ra_session.proofs.SaySteps.{still_waiting, all_filter, sayable_as}
use Rattle.ra_session.specs.SessionStates.{SessionState, Sayable, with_past, IsSound, StandsForSome}

pub some_session : (h : SessionState) → IsConsistent h.endpoint → IsSound h → StandsForSome h
some_session h whole sound =
    let some : (e : Endpoint) × StandsFor h.endpoint e = some_endpoint h.endpoint whole in
    let peer : Peer = record { endpoint = some.0; heard = []; applied = [] } in (
      with_past peer [] [] h,
      record {
        same = refl;
        endpoint = some.1;
        runs = λ none. ap (λ (e : Endpoint). is_ended e.phase) some.1.same ∙ sound.runs none;
        waiting = sound.waiting;
      },
    )

-- ---- what a session keeps, once it said something

said_sound : (h : SessionState) (x : EndpointState) (client : Client) → IsSound h → SameLink h.endpoint x → AllByRecursion Sayable client.waiting
    → IsSound (record h { endpoint = x; client = client })
said_sound h x client sound same waiting =
    record { runs = λ none. ap (λ (p : Phase). is_ended p) same.phase ∙ sound.runs none; waiting = waiting }

pub called_sound : (h : SessionState) (x : EndpointState) (m : Message) (body : List ℕ) → IsSound h → SameLink h.endpoint x → body ≡ message_bytes m → length body ≤ body_limit
    → IsSound (record h { endpoint = x; client = after_call h.client m })
called_sound h x m body sound same is fits = said_sound h x (after_call h.client m) sound same (still_waiting h.client m (sayable_as m body is fits) sound.waiting)

pub listened_sound : (h : SessionState) (x : EndpointState) (m : Message) (body : List ℕ) → IsSound h → SameLink h.endpoint x → body ≡ message_bytes m → length body ≤ body_limit
    → IsSound (record h { endpoint = x; client = after_listen h.client m })
listened_sound h x m body sound same is fits = said_sound h x (after_listen h.client m) sound same (still_waiting h.client m (sayable_as m body is fits) sound.waiting)

pub cancelled_sound : (h : SessionState) (x : EndpointState) (id : ℕ) → IsSound h → SameLink h.endpoint x → IsSound (record h { endpoint = x; client = after_cancel h.client id })
cancelled_sound h x id sound same = said_sound h x (after_cancel h.client id) sound same (all_filter Sayable (λ m. not (opens id m)) h.client.waiting sound.waiting)

pub disposed_sound : (h : SessionState) (x : EndpointState) (id : ℕ) → IsSound h → SameLink h.endpoint x → IsSound (record h { endpoint = x; client = after_dispose h.client id })
disposed_sound h x id sound same = said_sound h x (after_dispose h.client id) sound same (all_filter Sayable (λ m. not (opens id m)) h.client.waiting sound.waiting)
