-- A session that begins at an end that dialled.
use Rattle.std.proofs.Common.{ℕ, true, false, cond, None, [], ◌∷◌, refl}
use Rattle.ra_base.specs.declared.kind.Kind.{Kind}
use Rattle.ra_base.specs.declared.kind.Kind.TheVariants.{Management, ExtensionHost, Tunnel}
use Rattle.ra_model.specs.Endpoints.{new_endpoint}
use Rattle.ra_model.specs.EndpointStates.{EndpointState, StandsFor}
use Rattle.ra_proto.specs.SayAll.{say_all}
use Rattle.ra_values.specs.Tree.{Tree}
use Rattle.ra_values.specs.ValueBytes.{value_bytes}
use Rattle.ra_ipc.specs.Messages.{initialize}
use Rattle.ra_ipc.specs.Packets.{message_bytes}
use Rattle.ra_ipc.specs.ChannelClients.{new_client}
use Rattle.ra_session.specs.Sessions.{is_management}
use Rattle.ra_session.specs.Saying.{dialling}
use Rattle.ra_session.specs.SessionStates.{SessionState, StandsForSession}
use Rattle.ra_session.proofs.TurnSteps.{goes_say_all}

abbrev first_state : EndpointState → Kind → SessionState
first_state x kind = record { endpoint = x; kind = kind; serves = false; server = record { channels = []; active = [] }; client = new_client; cause = None }

pub dialled : (x : EndpointState) (kind : Kind) (context : Tree) (now : ℕ)
    → StandsFor x (cond (is_management kind) (say_all (value_bytes context ∷ message_bytes initialize ∷ []) now (new_endpoint 0 now true)) (new_endpoint 0 now true))
    → StandsForSession (first_state x kind) (dialling kind context now)
unfolding say_all
dialled x Management context now stands = record {
  same = refl;
  endpoint = stands;
  runs = λ none. goes_say_all (value_bytes context ∷ message_bytes initialize ∷ []) now (new_endpoint 0 now true) refl;
  waiting = tt;
}
dialled x ExtensionHost context now stands = record { same = refl; endpoint = stands; runs = λ none. refl; waiting = tt }
dialled x Tunnel context now stands = record { same = refl; endpoint = stands; runs = λ none. refl; waiting = tt }
