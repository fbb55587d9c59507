-- A channel client alone: its calls end once, whatever it hears.
use Rattle.std.proofs.Common.{◌≡◌, ℕ, ◌+◌, ◌≤◌, ◌^◌, List, [], ◌∷◌, ◌++◌, Bool, ltb, refl, arith}
use Rattle.std.proofs.lemmas.Bool.{cond_both}
use Rattle.std.specs.Prelude.{◌==◌, nat_lt}
use Rattle.ra_ipc.specs.Messages.{Message, number_of, promise, promise_cancel, event_listen, event_dispose, initialize, response, event_fire}
use Rattle.ra_ipc.specs.ChannelClients.{is_in}
use Rattle.ra_ipc.specs.ChannelPairs as pairs
use Rattle.ra_ipc.specs.ChannelPairs.{Pair, Outcome, cancelled, answered, start, client_takes}
use Rattle.ra_ipc.specs.ChannelLaws.{settled_as, outcome}
use Rattle.ra_ipc.specs.ClientRuns.{ClientStep, call, cancel, listen, dispose, hear, happens, run}
use Rattle.ra_ipc.proofs.Counts.{one, one_most, id_goes, number-push, below_more_one}
use Rattle.ra_ipc.proofs.Outcomes.{Standing, start_stands, fallen_stands, happens_stands, agrees}

-- ---- by its own

step_stands : (p : Pair) (e : ClientStep) → Standing p → Standing (happens p e)
step_stands p (call channel name arg) st = happens_stands p (pairs.call channel name arg) st
step_stands p (cancel id) st = happens_stands p (pairs.cancel id) st
step_stands p (listen channel event arg) st = happens_stands p (pairs.listen channel event arg) st
step_stands p (dispose id) st = happens_stands p (pairs.dispose id) st
step_stands p (hear m) st = fallen_stands p (m ∷ []) st

run_stands : (es : List ClientStep) (p : Pair) → Standing p → Standing (run es p)
run_stands [] p st = st
run_stands (e ∷ es) p st = run_stands es (happens p e) (step_stands p e st)

pub own_alone : (es : List ClientStep) (i : ℕ) → settled_as i (run es start).settled ≡ outcome i (run es start).entries
own_alone es i = agrees i (run es start) ((run_stands es start start_stands).each i)

-- ---- once

abbrev is_of : ℕ → ℕ × Outcome → Bool
is_of i s = s.0 == i

-- an id is open or settled, once, and only where it was given
abbrev Once : Pair → Type 0
Once p = (i : ℕ) → number_of (λ id. id == i) p.client.calls + number_of (is_of i) p.settled ≤ one (ltb i p.client.next)

heard_once : (p : Pair) (m : Message) → Once p → Once (client_takes p m)
heard_once p (promise id channel name arg) k = k
heard_once p (promise_cancel id) k = k
heard_once p (event_listen id channel event arg) k = k
heard_once p (event_dispose id) k = k
heard_once p initialize k = cond_both p.client.ready _ _ Once (λ _. k) (λ _. k)
heard_once p (response j reply) k = cond_both (is_in j p.client.calls) _ _ Once
    (λ t i. omega (arith, k i, id_goes i j p.client.calls t, number-push (is_of i) p.settled (j, answered reply))) (λ _. k)
heard_once p (event_fire id body) k = cond_both (is_in id p.client.listeners) _ _ Once (λ _. k) (λ _. k)

step_once : (p : Pair) (e : ClientStep) → Once p → Once (happens p e)
step_once p (call channel name arg) k = cond_both (nat_lt p.client.next (2 ^ 31)) _ _ Once
    (λ _ i. omega (arith, k i, number-push (λ id. id == i) p.client.calls p.client.next, below_more_one i p.client.next)) (λ _. k)
step_once p (cancel j) k = cond_both (is_in j p.client.calls) _ _ Once
    (λ t i. omega (arith, k i, id_goes i j p.client.calls t, number-push (is_of i) p.settled (j, cancelled))) (λ _. k)
step_once p (listen channel event arg) k = cond_both (nat_lt p.client.next (2 ^ 31)) _ _ Once
    (λ _ i. omega (arith, k i, below_more_one i p.client.next)) (λ _. k)
step_once p (dispose j) k = cond_both (is_in j p.client.listeners) _ _ Once (λ _. k) (λ _. k)
step_once p (hear m) k = heard_once (record p { client_heard = p.client_heard ++ m ∷ []; to_client = []; entries = p.entries ++ pairs.message_heard m ∷ [] }) m k

run_once : (es : List ClientStep) (p : Pair) → Once p → Once (run es p)
run_once [] p k = k
run_once (e ∷ es) p k = run_once es (happens p e) (step_once p e k)

pub once_alone : (es : List ClientStep) (i : ℕ) → number_of (λ (s : ℕ × Outcome). s.0 == i) (run es start).settled ≤ 1
once_alone es i =
    let k = run_once es start (λ j. omega arith) i in
    omega (arith, k, one_most (ltb i (run es start).client.next))
