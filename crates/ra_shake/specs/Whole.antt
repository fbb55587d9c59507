-- A whole handshake between a client and a server of equal settings.
use Rattle.std.specs.Prelude.{◌≡◌, ◌≢◌, ℕ, Bool, false, List, Some, IsUtf8}
use Rattle.ra_base.specs.declared.kind.Kind.TheVariants.{Tunnel}
use Rattle.ra_shake.specs.declared.server.ShakeStep.TheVariants as server_steps
use Rattle.ra_shake.specs.declared.client.ClientStep.TheVariants as client_steps
use Rattle.ra_shake.specs.declared.server.Stage.TheVariants.{First}
use Rattle.ra_shake.specs.Texts.{auth_text, sign_text, connection_text, accept_text}
use Rattle.ra_shake.specs.States.{ServerState, ClientState, AreTexts, secret_or_zeros}
use Rattle.ra_shake.specs.Server.{server_step, server_after}
use Rattle.ra_shake.specs.Client.{client_step, client_after, kind_number}

-- both have the same settings, and none of them has said anything
pub record AreNew (client : ClientState) (server : ServerState) : Type 0 where
  pub settings : client.settings ≡ server.settings
  pub client_waits : client.has_answered ≡ false
  pub server_waits : server.stage ≡ First
  pub kind : client.kind ≢ Tunnel
  pub client_texts : AreTexts client.settings client.challenge
  pub server_text : IsUtf8 server.challenge

-- the client's second message
abbrev pub second_text : (List ℕ → List ℕ) → ClientState → ServerState → List ℕ
second_text client_signs client server =
    connection_text client.settings.commit (kind_number client.kind) (client_signs server.challenge)

-- the server's answer to the first message
abbrev pub answer_text : (List ℕ → List ℕ) → ClientState → ServerState → List ℕ
answer_text server_signs client server = sign_text server.challenge (server_signs client.challenge)

-- each message gets the next one, the server asks for what the client wants, and an acceptance ends it
pub record Succeeds (client_signs server_signs : List ℕ → List ℕ) (counts : List ℕ → List ℕ → Bool) (client : ClientState) (server : ServerState) : Type 0 where
  pub signed : server_step server_signs counts server (auth_text (secret_or_zeros client.settings.secret) client.challenge)
      ≡ server_steps.Say (answer_text server_signs client server)
  pub answered : client_step client_signs client (answer_text server_signs client server)
      ≡ client_steps.Say (second_text client_signs client server)
  pub asked : server_step server_signs counts (server_after server (server_steps.Say (answer_text server_signs client server)))
      (second_text client_signs client server)
      ≡ server_steps.Ask (record { kind = Some client.kind; token = server.token; reconnection = server.reconnection })
  pub accepted : client_step client_signs (client_after client (client_steps.Say (second_text client_signs client server)))
      (accept_text client.kind)
      ≡ client_steps.Done
