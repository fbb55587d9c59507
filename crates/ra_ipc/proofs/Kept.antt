-- What every step of the pair keeps.
use Rattle.std.proofs.Common.{◌≡◌, ℕ, ◌+◌, ◌≤◌, ◌^◌, List, [], ◌∷◌, ◌++◌, Bool, true, false, not, ltb, refl, ap, arith, inl, inr}
use Rattle.std.proofs.lemmas.Bool.{cases_Bool, cond_both, eq-eqb}
use Rattle.std.specs.Prelude.{◌==◌, nat_lt}
use Rattle.ra_values.specs.Tree.{Tree}
use Rattle.ra_ipc.specs.Messages.{Reply, Message, opens, is_promise, is_response, number_of, promise, promise_cancel, event_listen, event_dispose, initialize, response, event_fire}
use Rattle.ra_ipc.specs.ChannelServers.{Active, Server, waiting_call, handed_call, waiting_listen, listener, holds, is_active, is_registered, channel_wait, has_call, fires, timeout_answers, promised, listened, cancelled_at, disposed, is_listener, is_handed, is_timed_out}
use Rattle.ra_ipc.specs.ChannelClients.{Client, is_in, sent_now, waiting_after, after_initialize}
use Rattle.ra_ipc.specs.ChannelPairs.{Pair, Step, Outcome, message_heard, cancelled, answered, call, cancel, listen, dispose, register, complete, fire, tick, server_hears, client_hears, start, server_takes, after_server_hears, client_takes, after_client_hears, happens, run}
use Rattle.ra_ipc.proofs.Counts.{one, one_most, number-append, number-push, number-map, number-filter, none_found, id_goes, below_more_one, holds_call, cancel_holds, cancel_holds_call, open_holds, open_holds_call, call_goes, fires_answer_none, late_goes}

abbrev pub requests : ℕ → Pair → ℕ
requests i p = number_of (opens i) p.server_heard + number_of (opens i) p.to_server + number_of (opens i) p.client.waiting

abbrev pub responses : ℕ → Pair → ℕ
responses i p = number_of (is_response i) p.client_heard + number_of (is_response i) p.to_client

abbrev pub is_of : ℕ → ℕ × Outcome → Bool
is_of i s = s.0 == i

abbrev pub settles : ℕ → Pair → ℕ
settles i p = number_of (is_of i) p.settled

pub record Kept (p : Pair) : Type 0 where
  pub once : (i : ℕ) → requests i p ≤ one (ltb i p.client.next)
  pub active : (i : ℕ) → number_of (holds i) p.server.active ≤ number_of (opens i) p.server_heard
  pub answers : (i : ℕ) → number_of (holds_call i) p.server.active + responses i p ≤ number_of (is_promise i) p.server_heard
  pub settled : (i : ℕ) → number_of (λ id. id == i) p.client.calls + settles i p ≤ one (ltb i p.client.next)
  pub apart : p.clashed ≡ false

pub start_kept : Kept start
start_kept = record { once = λ i. omega arith; active = λ i. omega arith; answers = λ i. omega arith; settled = λ i. omega arith; apart = refl }

-- ---- the client's steps

-- a request goes out, or waits
sent_or_kept : (i : ℕ) (c : Client) (m : Message) (way : List Message) → number_of (opens i) (way ++ sent_now c m) + number_of (opens i) (waiting_after c m) ≡ number_of (opens i) way + number_of (opens i) c.waiting + one (opens i m)
sent_or_kept i c m way = elim (cases_Bool c.ready) [
  | inl t ↦ rw t (omega (arith, number-push (opens i) way m))
  | inr f ↦ rw f (omega (arith, number-append (opens i) way [], number-push (opens i) c.waiting m))
]

call_kept : (p : Pair) (ch name : List ℕ) (arg : Tree) → Kept p → Kept (happens p (call ch name arg))
call_kept p ch name arg k =
    let m = promise p.client.next ch name arg in
    elim (cases_Bool (nat_lt p.client.next (2 ^ 31))) [
      | inl t ↦ rw t (record {
        once = λ i. omega (arith, k.once i, sent_or_kept i p.client m p.to_server, below_more_one i p.client.next);
        active = k.active;
        answers = k.answers;
        settled = λ i. omega (arith, k.settled i, number-push (λ id. id == i) p.client.calls p.client.next, below_more_one i p.client.next);
        apart = k.apart;
      })
      | inr f ↦ rw f k
    ]

listen_kept : (p : Pair) (ch event : List ℕ) (arg : Tree) → Kept p → Kept (happens p (listen ch event arg))
listen_kept p ch event arg k =
    let m = event_listen p.client.next ch event arg in
    elim (cases_Bool (nat_lt p.client.next (2 ^ 31))) [
      | inl t ↦ rw t (record {
        once = λ i. omega (arith, k.once i, sent_or_kept i p.client m p.to_server, below_more_one i p.client.next);
        active = k.active;
        answers = k.answers;
        settled = λ i. omega (arith, k.settled i, below_more_one i p.client.next);
        apart = k.apart;
      })
      | inr f ↦ rw f k
    ]

-- what opens no id
sent_beside : (i : ℕ) (c : Client) (m : Message) (way : List Message) → opens i m ≡ false → number_of (opens i) (way ++ sent_now c m) ≡ number_of (opens i) way
sent_beside i c m way other = elim (cases_Bool c.ready) [
  | inl t ↦ rw t (omega (arith, number-push (opens i) way m, ap one other))
  | inr f ↦ rw f (omega (arith, number-append (opens i) way []))
]

cancel_kept : (p : Pair) (j : ℕ) → Kept p → Kept (happens p (cancel j))
cancel_kept p j k = elim (cases_Bool (is_in j p.client.calls)) [
  | inl t ↦ rw t (record {
    once = λ i. omega (arith, k.once i, sent_beside i p.client (promise_cancel j) p.to_server refl, number-filter (opens i) (λ m. not (opens j m)) p.client.waiting);
    active = k.active;
    answers = k.answers;
    settled = λ i. omega (arith, k.settled i, id_goes i j p.client.calls t, number-push (is_of i) p.settled (j, cancelled));
    apart = k.apart;
  })
  | inr f ↦ rw f k
]

dispose_kept : (p : Pair) (j : ℕ) → Kept p → Kept (happens p (dispose j))
dispose_kept p j k = elim (cases_Bool (is_in j p.client.listeners)) [
  | inl t ↦ rw t (record {
    once = λ i. omega (arith, k.once i, sent_beside i p.client (event_dispose j) p.to_server refl, number-filter (opens i) (λ m. not (opens j m)) p.client.waiting);
    active = k.active;
    answers = k.answers;
    settled = k.settled;
    apart = k.apart;
  })
  | inr f ↦ rw f k
]

-- ---- the server's steps

register_kept : (p : Pair) (ch : List ℕ) → Kept p → Kept (happens p (register ch))
register_kept p ch k = elim (cases_Bool (is_registered ch p.server)) [
  | inl t ↦ rw t (record { once = k.once; active = k.active; answers = k.answers; settled = k.settled; apart = k.apart })
  | inr f ↦ rw f (record {
    once = k.once;
    active = λ i. omega (arith, k.active i, number-map (holds i) _ (open_holds i ch) p.server.active);
    answers = λ i. omega (arith, k.answers i, number-map (holds_call i) _ (open_holds_call i ch) p.server.active);
    settled = k.settled;
    apart = k.apart;
  })
]

complete_kept : (p : Pair) (j : ℕ) (reply : Reply) → Kept p → Kept (happens p (complete j reply))
complete_kept p j reply k = elim (cases_Bool (has_call j p.server)) [
  | inl t ↦ rw t (record {
    once = k.once;
    active = λ i. omega (arith, k.active i, number-filter (holds i) (λ a. not (is_handed j a)) p.server.active);
    answers = λ i. omega (arith, k.answers i, call_goes i j p.server.active t, number-push (is_response i) p.to_client (response j reply));
    settled = k.settled;
    apart = k.apart;
  })
  | inr f ↦ rw f k
]

fire_kept : (p : Pair) (ch event : List ℕ) (body : Tree) → Kept p → Kept (happens p (fire ch event body))
fire_kept p ch event body k = record {
  once = k.once;
  active = k.active;
  answers = λ i. omega (arith, k.answers i, number-append (is_response i) p.to_client (fires p.server ch event body), fires_answer_none i ch event body p.server.active);
  settled = k.settled;
  apart = k.apart;
}

tick_kept : (p : Pair) (now : ℕ) → Kept p → Kept (happens p (tick now))
tick_kept p now k = record {
  once = k.once;
  active = λ i. omega (arith, k.active i, number-filter (holds i) (λ a. not (is_timed_out now a)) p.server.active);
  answers = λ i. omega (arith, k.answers i, number-append (is_response i) p.to_client (timeout_answers p.server now), late_goes i now p.server.active);
  settled = k.settled;
  apart = k.apart;
}

-- ---- a message that is heard

-- the pair whose server is about to hear m
abbrev hearing : Pair → Message → List Message → Pair
hearing p m ms = record p { server_heard = p.server_heard ++ m ∷ []; to_server = ms }

-- a message of another kind leaves the server's counts as they are, or smaller
heard_kept : (p : Pair) (m : Message) (ms : List Message) (s : Server) → p.to_server ≡ m ∷ ms → Kept p
    → ((i : ℕ) → number_of (holds i) s.active ≤ number_of (holds i) p.server.active + one (opens i m))
    → ((i : ℕ) → number_of (holds_call i) s.active ≤ number_of (holds_call i) p.server.active + one (is_promise i m))
    → Kept (record (hearing p m ms) { server = s })
heard_kept p m ms s e k h c = record {
  once = λ i. omega (arith, k.once i, number-push (opens i) p.server_heard m, ap (number_of (opens i)) e);
  active = λ i. omega (arith, k.active i, h i, number-push (opens i) p.server_heard m);
  answers = λ i. omega (arith, k.answers i, c i, number-push (is_promise i) p.server_heard m);
  settled = k.settled;
  apart = k.apart;
}

-- an id that comes is not active
new_id : (p : Pair) (j : ℕ) (m : Message) (ms : List Message) → p.to_server ≡ m ∷ ms → opens j m ≡ true → Kept p → is_active j p.server ≡ true → ⊥
new_id p j m ms e o k t = omega (arith, k.once j, k.active j, none_found (holds j) p.server.active t, ap (number_of (opens j)) e, ap one o, one_most (ltb j p.client.next))

same_id : (j : ℕ) → (j == j) ≡ true
same_id j = eq-eqb j j refl

pub promised_counts : (s : Server) (j : ℕ) (ch name : List ℕ) (arg : Tree) (now : ℕ) (test : Active → Bool) (b : Bool) → test (handed_call j) ≡ b → test (waiting_call j ch name arg false (now + channel_wait)) ≡ b
    → number_of test (promised s j ch name arg now).active ≡ number_of test s.active + one b
promised_counts s j ch name arg now test b x y = elim (cases_Bool (is_registered ch s)) [
  | inl t ↦ rw t (omega (arith, number-push test s.active (handed_call j), ap one x))
  | inr f ↦ rw f (omega (arith, number-push test s.active (waiting_call j ch name arg false (now + channel_wait)), ap one y))
]

pub listened_counts : (s : Server) (j : ℕ) (ch event : List ℕ) (now : ℕ) (test : Active → Bool) (b : Bool) → test (listener j ch event) ≡ b → test (waiting_listen j ch event (now + channel_wait)) ≡ b
    → number_of test (listened s j ch event now).active ≡ number_of test s.active + one b
listened_counts s j ch event now test b x y = elim (cases_Bool (is_registered ch s)) [
  | inl t ↦ rw t (omega (arith, number-push test s.active (listener j ch event), ap one x))
  | inr f ↦ rw f (omega (arith, number-push test s.active (waiting_listen j ch event (now + channel_wait)), ap one y))
]

served_kept : (p : Pair) (now : ℕ) (m : Message) (ms : List Message) → p.to_server ≡ m ∷ ms → Kept p → Kept (server_takes (hearing p m ms) now m)
served_kept p now (promise j ch name arg) ms e k =
    elim (cases_Bool (is_active j p.server)) [
      | inl t ↦ absurd (new_id p j (promise j ch name arg) ms e (same_id j) k t)
      | inr f ↦ rw f (heard_kept p (promise j ch name arg) ms (promised p.server j ch name arg now) e k
          (λ i. omega (arith, promised_counts p.server j ch name arg now (holds i) (j == i) refl refl))
          (λ i. omega (arith, promised_counts p.server j ch name arg now (holds_call i) (j == i) refl refl)))
    ]
served_kept p now (promise_cancel j) ms e k = heard_kept p (promise_cancel j) ms (cancelled_at p.server j) e k
    (λ i. omega (arith, number-map (holds i) _ (cancel_holds i j) p.server.active))
    (λ i. omega (arith, number-map (holds_call i) _ (cancel_holds_call i j) p.server.active))
served_kept p now (event_listen j ch event arg) ms e k =
    elim (cases_Bool (is_active j p.server)) [
      | inl t ↦ absurd (new_id p j (event_listen j ch event arg) ms e (same_id j) k t)
      | inr f ↦ rw f (heard_kept p (event_listen j ch event arg) ms (listened p.server j ch event now) e k
          (λ i. omega (arith, listened_counts p.server j ch event now (holds i) (j == i) refl refl))
          (λ i. omega (arith, listened_counts p.server j ch event now (holds_call i) false refl refl)))
    ]
served_kept p now (event_dispose j) ms e k = heard_kept p (event_dispose j) ms (disposed p.server j) e k
    (λ i. omega (arith, number-filter (holds i) (λ a. not (is_listener j a)) p.server.active))
    (λ i. omega (arith, number-filter (holds_call i) (λ a. not (is_listener j a)) p.server.active))
served_kept p now initialize ms e k = heard_kept p initialize ms p.server e k (λ i. omega arith) (λ i. omega arith)
served_kept p now (response j reply) ms e k = heard_kept p (response j reply) ms p.server e k (λ i. omega arith) (λ i. omega arith)
served_kept p now (event_fire j body) ms e k = heard_kept p (event_fire j body) ms p.server e k (λ i. omega arith) (λ i. omega arith)

risen_kept : (p : Pair) (now : ℕ) (way : List Message) → p.to_server ≡ way → Kept p → Kept (after_server_hears p now way)
risen_kept p now [] e k = k
risen_kept p now (m ∷ ms) e k = served_kept p now m ms e k

-- the pair whose client is about to hear m
abbrev falling : Pair → Message → List Message → Pair
falling p m ms = record p { client_heard = p.client_heard ++ m ∷ []; to_client = ms; entries = p.entries ++ message_heard m ∷ [] }

fell : (p : Pair) (m : Message) (ms : List Message) → p.to_client ≡ m ∷ ms → Kept p → Kept (falling p m ms)
fell p m ms e k = record {
  once = k.once;
  active = k.active;
  answers = λ i. omega (arith, k.answers i, number-push (is_response i) p.client_heard m, ap (number_of (is_response i)) e);
  settled = k.settled;
  apart = k.apart;
}

told_kept : (p : Pair) (m : Message) → Kept p → Kept (client_takes p m)
told_kept p (promise j ch name arg) k = k
told_kept p (promise_cancel j) k = k
told_kept p (event_listen j ch event arg) k = k
told_kept p (event_dispose j) k = k
told_kept p initialize k =
    cond_both p.client.ready p (record p { client = after_initialize p.client; to_server = p.to_server ++ p.client.waiting }) Kept (λ _. k)
    (λ _. record { once = λ i. omega (arith, k.once i, number-append (opens i) p.to_server p.client.waiting); active = k.active; answers = k.answers; settled = k.settled; apart = k.apart })
told_kept p (response j reply) k = elim (cases_Bool (is_in j p.client.calls)) [
  | inl t ↦ rw t (record {
    once = k.once;
    active = k.active;
    answers = k.answers;
    settled = λ i. omega (arith, k.settled i, id_goes i j p.client.calls t, number-push (is_of i) p.settled (j, answered reply));
    apart = k.apart;
  })
  | inr f ↦ rw f k
]
told_kept p (event_fire j body) k = elim (cases_Bool (is_in j p.client.listeners)) [
  | inl t ↦ rw t (record { once = k.once; active = k.active; answers = k.answers; settled = k.settled; apart = k.apart })
  | inr f ↦ rw f k
]

fallen_kept : (p : Pair) (way : List Message) → p.to_client ≡ way → Kept p → Kept (after_client_hears p way)
fallen_kept p [] e k = k
fallen_kept p (m ∷ ms) e k = told_kept (falling p m ms) m (fell p m ms e k)

-- ---- every step, and every list of steps

pub happens_kept : (p : Pair) (e : Step) → Kept p → Kept (happens p e)
happens_kept p (call ch name arg) k = call_kept p ch name arg k
happens_kept p (cancel j) k = cancel_kept p j k
happens_kept p (listen ch event arg) k = listen_kept p ch event arg k
happens_kept p (dispose j) k = dispose_kept p j k
happens_kept p (register ch) k = register_kept p ch k
happens_kept p (complete j reply) k = complete_kept p j reply k
happens_kept p (fire ch event body) k = fire_kept p ch event body k
happens_kept p (tick now) k = tick_kept p now k
happens_kept p (server_hears now) k = risen_kept p now p.to_server refl k
happens_kept p client_hears k = fallen_kept p p.to_client refl k

pub run_kept : (es : List Step) (p : Pair) → Kept p → Kept (run es p)
run_kept [] p k = k
run_kept (e ∷ es) p k = run_kept es (happens p e) (happens_kept p e k)

pub always : (es : List Step) → Kept (run es start)
always es = run_kept es start start_kept

-- ---- the laws

promises_open : (i : ℕ) (ms : List Message) → number_of (is_promise i) ms ≤ number_of (opens i) ms
promises_open i [] = omega arith
promises_open i (promise j ch name arg ∷ ms) = omega (arith, promises_open i ms)
promises_open i (promise_cancel j ∷ ms) = omega (arith, promises_open i ms)
promises_open i (event_listen j ch event arg ∷ ms) = omega (arith, promises_open i ms)
promises_open i (event_dispose j ∷ ms) = omega (arith, promises_open i ms)
promises_open i (initialize ∷ ms) = omega (arith, promises_open i ms)
promises_open i (response j reply ∷ ms) = omega (arith, promises_open i ms)
promises_open i (event_fire j body ∷ ms) = omega (arith, promises_open i ms)

pub settles_once : (es : List Step) (i : ℕ) → settles i (run es start) ≤ 1
settles_once es i = let k = always es in omega (arith, k.settled i, one_most (ltb i (run es start).client.next))

pub answered_once : (es : List Step) (i : ℕ) → (number_of (is_response i) ((run es start).client_heard ++ (run es start).to_client) ≤ number_of (is_promise i) (run es start).server_heard) × (number_of (is_promise i) (run es start).server_heard ≤ 1)
answered_once es i =
    let p : Pair = run es start in
    let k = always es in (
      omega (arith, k.answers i, number-append (is_response i) p.client_heard p.to_client),
      omega (arith, k.once i, promises_open i p.server_heard, one_most (ltb i p.client.next)),
    )
