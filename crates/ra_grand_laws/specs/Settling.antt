-- How the calls of a client end, and what its listeners are handed, by the packets that both ends said and heard.
use Rattle.std.specs.Prelude.{◌≡◌, ℕ, ◌-◌, ◌==◌, ◌≤◌, List, [], ◌∷◌, length, take, drop}
use Rattle.ra_values.specs.Tree.{Tree}
use Rattle.ra_ipc.specs.ChannelLaws.{outcome, settled_as, fires_of, fired_of, IsPrefixOf}
use Rattle.ra_ipc.specs.ChannelPairs.{Outcome, Entry, call_made, call_cancelled, message_heard}
use Rattle.ra_ipc.specs.Messages.{Message, number_of, is_promise, is_response}
use Rattle.ra_session.specs.Sessions.{Session}

-- the requests that the server has heard: they follow the context and Initialize
abbrev pub requests_heard : (client server : Session) → List Message
requests_heard client server = take (length server.peer.heard - 2) (drop 1 client.packets)

-- the packets that the client has heard
abbrev pub packets_heard : (client server : Session) → List Message
packets_heard client server = take (length client.peer.heard) server.packets

-- those among the entries of a client
abbrev pub heard_in : List Entry → List Message
heard_in [] = []
heard_in (call_made id ∷ es) = heard_in es
heard_in (call_cancelled id ∷ es) = heard_in es
heard_in (message_heard m ∷ es) = m ∷ heard_in es

-- Each call settles at most once, and by its own cancel or the first answer that was heard behind it. Each call that the server heard is
-- answered at most once, and no other is. What a listener is handed begins what was said to it.
pub record Settles (client server : Session) (settled : List (ℕ × Outcome)) (fired : List (ℕ × Tree)) : Type 0 where
  pub once : (i : ℕ) → number_of (λ s. s.0 == i) settled ≤ 1
  pub own : (i : ℕ) → settled_as i settled ≡ outcome i client.entries
  pub heard : heard_in client.entries ≡ packets_heard client server
  pub answered : (i : ℕ) → number_of (is_response i) server.packets ≤ number_of (is_promise i) (requests_heard client server)
  pub asked : (i : ℕ) → number_of (is_promise i) (requests_heard client server) ≤ 1
  pub fires : (i : ℕ) → IsPrefixOf (fired_of i fired) (fires_of i server.packets)
