-- Sessions whose channels are those of one run settle their calls as its laws say.
use Rattle.std.proofs.Common.{◌≡◌, ℕ, zero, suc, ◌-◌, ◌≤◌, ◌^◌, Bool, true, false, cond, List, [], ◌∷◌, ◌++◌, length, take, drop, refl, ap, sym, ◌∙◌, subst, arith}
use Rattle.std.specs.Prelude.{nat_lt, ◌==◌}
use Rattle.std.proofs.lemmas.List.{append-nil}
use Rattle.ra_values.specs.Tree.{Tree}
use Rattle.ra_ipc.specs.ChannelClients.{Client, is_in, after_call, after_listen}
use Rattle.ra_ipc.specs.ChannelLaws.{said_to_client, outcome, settled_as, fires_of, fired_of, IsPrefixOf}
use Rattle.ra_ipc.specs.ChannelPairs.{Pair, Step, Outcome, Entry, call_made, call_cancelled, message_heard, start, run, happens, call, cancel, listen, dispose, register, complete, fire, tick, server_hears, client_hears, client_requests, after_server_hears, server_takes, after_client_hears, client_takes}
use Rattle.ra_ipc.specs.ChannelServers.{has_call, is_active}
use Rattle.ra_ipc.specs.Messages.{Message, promise, promise_cancel, event_listen, event_dispose, initialize, response, event_fire, number_of, is_promise, is_response}
use Rattle.ra_ipc.proofs.Kept.{settles_once, answered_once}
use Rattle.ra_ipc.proofs.Listeners.{fires_in_order}
use Rattle.ra_ipc.proofs.Outcomes.{settles_by_its_own}
use Rattle.ra_session.specs.Sessions.{Session}
use Rattle.ra_channel_laws.specs.Channels.{ServerSaid, ChannelsHold}
use Rattle.ra_grand_laws.specs.Settling.{requests_heard, heard_in, Settles}

-- ---- the packets among the entries are those that the client heard

heard_both : (xs ys : List Entry) → heard_in (xs ++ ys) ≡ heard_in xs ++ heard_in ys
heard_both [] ys = refl
heard_both (call_made id ∷ xs) ys = heard_both xs ys
heard_both (call_cancelled id ∷ xs) ys = heard_both xs ys
heard_both (message_heard m ∷ xs) ys = ap (λ (l : List Message). m ∷ l) (heard_both xs ys)

abbrev Heard : Pair → Type 0
Heard p = heard_in p.entries ≡ p.client_heard

-- entries that are no packets
more_entries : (p : Pair) (es : List Entry) → heard_in es ≡ [] → Heard p → heard_in (p.entries ++ es) ≡ p.client_heard
more_entries p es none heard =
    heard_both p.entries es ∙ ap (λ (l : List Message). heard_in p.entries ++ l) none ∙ append-nil (heard_in p.entries) ∙ heard

heard_if : (b : Bool) (p q : Pair) → Heard p → Heard q → Heard (cond b p q)
heard_if true p q so other = so
heard_if false p q so other = other

requests : (p : Pair) (c : Client) (m : Message) (es : List Entry) → heard_in es ≡ [] → Heard p → Heard (client_requests p c m es)
requests p c m es none heard = heard_if (nat_lt p.client.next (2 ^ 31)) _ p (more_entries p es none heard) heard

server_step : (p : Pair) (now : ℕ) (m : Message) → Heard p → Heard (server_takes p now m)
server_step p now (promise id channel name arg) heard = heard_if (is_active id p.server) _ _ heard heard
server_step p now (promise_cancel id) heard = heard
server_step p now (event_listen id channel event arg) heard = heard_if (is_active id p.server) _ _ heard heard
server_step p now (event_dispose id) heard = heard
server_step p now initialize heard = heard
server_step p now (response id reply) heard = heard
server_step p now (event_fire id body) heard = heard

after_server : (p : Pair) (now : ℕ) (ms : List Message) → Heard p → Heard (after_server_hears p now ms)
after_server p now [] heard = heard
after_server p now (m ∷ ms) heard = server_step (record p { server_heard = p.server_heard ++ m ∷ []; to_server = ms }) now m heard

client_step : (p : Pair) (m : Message) → Heard p → Heard (client_takes p m)
client_step p (promise id channel name arg) heard = heard
client_step p (promise_cancel id) heard = heard
client_step p (event_listen id channel event arg) heard = heard
client_step p (event_dispose id) heard = heard
client_step p initialize heard = heard_if p.client.ready p _ heard heard
client_step p (response id reply) heard = heard_if (is_in id p.client.calls) _ p heard heard
client_step p (event_fire id body) heard = heard_if (is_in id p.client.listeners) _ p heard heard

after_client : (p : Pair) (ms : List Message) → Heard p → Heard (after_client_hears p ms)
after_client p [] heard = heard
after_client p (m ∷ ms) heard =
    client_step (record p { client_heard = p.client_heard ++ m ∷ []; to_client = ms; entries = p.entries ++ message_heard m ∷ [] }) m (heard_both p.entries (message_heard m ∷ []) ∙ ap (λ (l : List Message). l ++ m ∷ []) heard)

heard_step : (p : Pair) (e : Step) → Heard p → Heard (happens p e)
heard_step p (call channel name arg) heard =
    let m = promise p.client.next channel name arg in requests p (after_call p.client m) m (call_made p.client.next ∷ []) refl heard
heard_step p (cancel i) heard = heard_if (is_in i p.client.calls) _ p (more_entries p (call_cancelled i ∷ []) refl heard) heard
heard_step p (listen channel event arg) heard =
    let m = event_listen p.client.next channel event arg in requests p (after_listen p.client m) m [] refl heard
heard_step p (dispose i) heard = heard_if (is_in i p.client.listeners) _ p heard heard
heard_step p (register channel) heard = heard
heard_step p (complete i reply) heard = heard_if (has_call i p.server) _ p heard heard
heard_step p (fire channel event body) heard = heard
heard_step p (tick now) heard = heard
heard_step p (server_hears now) heard = after_server p now p.to_server heard
heard_step p client_hears heard = after_client p p.to_client heard

heard_run : (steps : List Step) (p : Pair) → Heard p → Heard (run steps p)
heard_run [] p heard = heard
heard_run (e ∷ es) p heard = heard_run es (happens p e) (heard_step p e heard)

-- ---- what the server said and heard

take_all : (xs ys : List Message) (n : ℕ) → length xs ≡ n → take n (xs ++ ys) ≡ xs
take_all [] ys zero len = refl
take_all [] ys (suc n) len = absurd cc
take_all (x ∷ xs) ys zero len = absurd cc
take_all (x ∷ xs) ys (suc n) len = ap (λ (l : List Message). x ∷ l) (take_all xs ys n (less (length xs) n len))
  where
    less : (a b : ℕ) → suc a ≡ suc b → a ≡ b
    less a b same = omega (arith, same)

take_by : (xs : List Message) (a b : ℕ) → a ≡ b → take a xs ≡ take b xs
take_by xs a b same = ap (λ (n : ℕ). take n xs) same

requests_are : (h : ℕ) (p : Pair) (packets : List Message) → ServerSaid h p packets → take (h - 2) (p.server_heard ++ p.to_server) ≡ p.server_heard
requests_are zero p packets said = take_by (p.server_heard ++ p.to_server) (0 - 2) 0 (omega arith) ∙ sym said.3
requests_are (suc zero) p packets said = take_by (p.server_heard ++ p.to_server) (1 - 2) 0 (omega arith) ∙ sym said.1
requests_are (suc (suc n)) p packets said = take_by (p.server_heard ++ p.to_server) (suc (suc n) - 2) n (omega arith) ∙ take_all p.server_heard p.to_server n said.1

-- what holds of all that the server said holds of what it says before it heard the context: nothing
by_said : (P : List Message → Type 0) (h : ℕ) (p : Pair) (packets : List Message) → ServerSaid h p packets → P (said_to_client p) → (p.client_heard ≡ [] → said_to_client p ≡ initialize ∷ [] → P []) → P packets
by_said P zero p packets said all none =
    subst P (sym said.0) (none said.1 (ap (λ (l : List Message). l ++ p.to_client) said.1 ∙ said.2))
by_said P (suc zero) p packets said all none = subst P (sym said.0) all
by_said P (suc (suc n)) p packets said all none = subst P (sym said.0) all

-- ---- all together

pub settles_so : (context : Tree) (d s : Session) (settled : List (ℕ × Outcome)) (fired : List (ℕ × Tree)) → ChannelsHold context d s settled fired → Settles d s settled fired
settles_so context d s settled fired hold = record {
  once = λ i. subst (λ (l : List (ℕ × Outcome)). number_of (λ (x : ℕ × Outcome). x.0 == i) l ≤ 1) (sym hold.settles) (settles_once hold.steps i);
  own = λ i.
      ap (λ (l : List (ℕ × Outcome)). settled_as i l) hold.settles ∙ settles_by_its_own hold.steps i ∙ ap (λ (l : List Entry). outcome i l) (sym hold.entries);
  heard =
      ap (λ (l : List Entry). heard_in l) hold.entries ∙ heard_run hold.steps start refl
      ∙ by_said (λ (l : List Message). p.client_heard ≡ take (length d.peer.heard) l) (length s.peer.heard) p s.packets hold.packets_back
      (sym (take_all p.client_heard p.to_client (length d.peer.heard) (sym hold.heard_back)))
      (λ none all. none ∙ sym (take_by [] (length d.peer.heard) 0 (hold.heard_back ∙ ap (λ (l : List Message). length l) none)));
  answered = λ i.
      by_said (λ (l : List Message). number_of (is_response i) l ≤ number_of (is_promise i) (requests_heard d s)) (length s.peer.heard) p s.packets hold.packets_back
      (subst (λ (l : List Message). number_of (is_response i) (said_to_client p) ≤ number_of (is_promise i) l) (sym asked) (answered_once hold.steps i).0)
      (λ none all. least (number_of (is_promise i) (requests_heard d s)));
  asked = λ i. subst (λ (l : List Message). number_of (is_promise i) l ≤ 1) (sym asked) (answered_once hold.steps i).1;
  fires = λ i.
      by_said (λ (l : List Message). IsPrefixOf (fired_of i fired) (fires_of i l)) (length s.peer.heard) p s.packets hold.packets_back
      (subst (λ (l : List (ℕ × Tree)). IsPrefixOf (fired_of i l) (fires_of i (said_to_client p))) (sym hold.fires) (fires_in_order hold.steps i))
      (λ none all. subst (λ (l : List (ℕ × Tree)). IsPrefixOf (fired_of i l) []) (sym hold.fires)
      (subst (λ (l : List Message). IsPrefixOf (fired_of i p.fired) (fires_of i l)) all (fires_in_order hold.steps i)));
}
  where
    p : Pair
    p = run hold.steps start

    asked : requests_heard d s ≡ p.server_heard
    asked = ap (λ (l : List Message). take (length s.peer.heard - 2) (drop 1 l)) hold.packets ∙ requests_are (length s.peer.heard) p s.packets hold.packets_back

    least : (n : ℕ) → 0 ≤ n
    least n = omega arith
