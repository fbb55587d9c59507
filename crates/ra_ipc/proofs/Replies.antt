-- The replies that a server said are those that its steps gave.
use Rattle.std.proofs.Common.{◌≡◌, ℕ, List, [], ◌∷◌, ◌++◌, refl, sym, ap, ◌∙◌, append_assoc, inl, inr}
use Rattle.std.proofs.lemmas.Bool.{cases_Bool}
use Rattle.std.proofs.lemmas.List.{append-nil}
use Rattle.std.proofs.lemmas.List.Elements.{filter_map-append}
use Rattle.std.specs.Prelude.{◌&&◌}
use Rattle.std.specs.List.{filter_map}
use Rattle.std.specs.Str.{bytes_eq}
use Rattle.ra_values.specs.Tree.{Tree}
use Rattle.ra_ipc.specs.Messages.{Reply, Message, response}
use Rattle.ra_ipc.specs.ChannelServers.{Active, waiting_call, handed_call, waiting_listen, listener, has_call, fire_one, fires, timeout_answers}
use Rattle.ra_ipc.specs.ChannelPairs.{Pair, Step, call, cancel, listen, dispose, register, complete, fire, tick, server_hears, client_hears, start, happens, run}
use Rattle.ra_ipc.specs.ChannelLaws.{said_to_client, reply_of, replies_of, answered_by, answered_while}
use Rattle.ra_ipc.proofs.Listeners.{Silent, silent_call, silent_cancel, silent_listen, silent_dispose, risen_says, fallen_says}

fires_reply_none : (i : ℕ) (ch ev : List ℕ) (body : Tree) (held : List Active) → replies_of i (filter_map (fire_one ch ev body) held) ≡ []
fires_reply_none i ch ev body [] = refl
fires_reply_none i ch ev body (waiting_call id c name arg m until ∷ held) = fires_reply_none i ch ev body held
fires_reply_none i ch ev body (handed_call id ∷ held) = fires_reply_none i ch ev body held
fires_reply_none i ch ev body (waiting_listen id c e until ∷ held) = fires_reply_none i ch ev body held
fires_reply_none i ch ev body (listener id c e ∷ held) = elim (cases_Bool (bytes_eq ch c && bytes_eq ev e)) [
  | inl t ↦ rw t (fires_reply_none i ch ev body held)
  | inr f ↦ rw f (fires_reply_none i ch ev body held)
]

-- where a step says nothing more
replies_same : (i : ℕ) (p : Pair) (e : Step) → Silent p (happens p e) → answered_by i e p.server ≡ [] → replies_of i (said_to_client (happens p e)) ≡ replies_of i (said_to_client p) ++ answered_by i e p.server
replies_same i p e s n = ap (replies_of i) s.same ∙ sym (ap (λ (w : List Reply). replies_of i (said_to_client p) ++ w) n ∙ append-nil (replies_of i (said_to_client p)))

-- where it says these
replies_more : (i : ℕ) (p : Pair) (ms : List Message) → replies_of i (p.client_heard ++ (p.to_client ++ ms)) ≡ replies_of i (said_to_client p) ++ replies_of i ms
replies_more i p ms = ap (replies_of i) (sym (append_assoc p.client_heard p.to_client ms)) ∙ filter_map-append (reply_of i) (p.client_heard ++ p.to_client) ms

happens_replies : (i : ℕ) (p : Pair) (e : Step) → replies_of i (said_to_client (happens p e)) ≡ replies_of i (said_to_client p) ++ answered_by i e p.server
happens_replies i p (call ch name arg) = replies_same i p (call ch name arg) (silent_call p ch name arg) refl
happens_replies i p (cancel j) = replies_same i p (cancel j) (silent_cancel p j) refl
happens_replies i p (listen ch event arg) = replies_same i p (listen ch event arg) (silent_listen p ch event arg) refl
happens_replies i p (dispose j) = replies_same i p (dispose j) (silent_dispose p j) refl
happens_replies i p (register ch) = replies_same i p (register ch) (record { same = refl }) refl
happens_replies i p (complete j reply) = elim (cases_Bool (has_call j p.server)) [
  | inl t ↦ rw t (replies_more i p (response j reply ∷ []))
  | inr f ↦ rw f (sym (append-nil (replies_of i (said_to_client p))))
]
happens_replies i p (fire ch event body) = replies_more i p (fires p.server ch event body) ∙ ap (λ (w : List Reply). replies_of i (said_to_client p) ++ w) (fires_reply_none i ch event body p.server.active)
happens_replies i p (tick now) = replies_more i p (timeout_answers p.server now)
happens_replies i p (server_hears now) = replies_same i p (server_hears now) (risen_says p now p.to_server) refl
happens_replies i p client_hears = replies_same i p client_hears (fallen_says p p.to_client refl) refl

run_replies : (i : ℕ) (es : List Step) (p : Pair) → replies_of i (said_to_client (run es p)) ≡ replies_of i (said_to_client p) ++ answered_while i es p
run_replies i [] p = sym (append-nil (replies_of i (said_to_client p)))
run_replies i (e ∷ es) p =
    run_replies i es (happens p e)
    ∙ ap (λ (w : List Reply). w ++ answered_while i es (happens p e)) (happens_replies i p e)
    ∙ append_assoc (replies_of i (said_to_client p)) (answered_by i e p.server) (answered_while i es (happens p e))

pub answered_as_told : (es : List Step) (i : ℕ) → replies_of i (said_to_client (run es start)) ≡ answered_while i es start
answered_as_told es i = run_replies i es start
