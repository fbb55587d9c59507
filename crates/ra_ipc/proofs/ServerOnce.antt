-- A server answers each Promise at most once, whatever it hears.
use Rattle.std.proofs.Common.{◌≡◌, ℕ, ◌+◌, ◌≤◌, List, [], ◌∷◌, ◌++◌, map, Bool, true, false, not, cond, refl, ap, arith, inl, inr}
use Rattle.std.proofs.lemmas.Bool.{cases_Bool, eqb-true}
use Rattle.std.specs.Prelude.{◌==◌, ◌||◌}
use Rattle.std.specs.List.{list_any}
use Rattle.ra_values.specs.Tree.{Tree}
use Rattle.ra_ipc.specs.Messages.{Reply, Message, promise, promise_cancel, event_listen, event_dispose, initialize, response, event_fire, is_promise, is_response, number_of}
use Rattle.ra_ipc.specs.ChannelServers.{Server, Active, waiting_call, handed_call, waiting_listen, listener, holds, is_active, is_registered, promised, listened, cancelled_at, disposed, is_listener, has_call, completed, fires, ticked, timeout_answers}
use Rattle.ra_ipc.specs.ServerRuns.{Event, heard, said, ServerRun, ServerStep, hear, register, complete, fire, tick, fresh, happens, run, was_promised, responses_since}
use Rattle.ra_ipc.proofs.Counts.{one, one_most, number-map, number-filter, holds_call, cancel_holds_call, open_holds_call, call_goes, fires_answer_none, late_goes}
use Rattle.ra_ipc.proofs.Kept.{promised_counts, listened_counts}

-- ---- the log

since_more : (i n : ℕ) (xs ys : List Event) → responses_since i n (xs ++ ys) ≡ responses_since i (responses_since i n xs) ys
since_more i n [] ys = refl
since_more i n (heard m ∷ xs) ys = since_more i (cond (is_promise i m) 0 n) xs ys
since_more i n (said m ∷ xs) ys = since_more i (n + one (is_response i m)) xs ys

since_said : (i n : ℕ) (ms : List Message) → responses_since i n (map said ms) ≡ n + number_of (is_response i) ms
since_said i n [] = omega arith
since_said i n (m ∷ ms) = omega (arith, since_said i (n + one (is_response i m)) ms)

or_one : (b c : Bool) → (one b ≤ one (b || c)) × (one c ≤ one (b || c))
or_one true c = (omega arith, one_most c)
or_one false c = (omega arith, omega arith)

promised_more : (i : ℕ) (xs ys : List Event) → one (was_promised i xs) ≤ one (was_promised i (xs ++ ys))
promised_more i [] ys = omega arith
promised_more i (heard m ∷ xs) ys = elim (cases_Bool (is_promise i m)) [
  | inl t ↦ rw t (omega arith)
  | inr f ↦ rw f (promised_more i xs ys)
]
promised_more i (said m ∷ xs) ys = promised_more i xs ys

promised_last : (i : ℕ) (xs : List Event) (m : Message) → one (is_promise i m) ≤ one (was_promised i (xs ++ heard m ∷ []))
promised_last i [] m = (or_one (is_promise i m) false).0
promised_last i (heard x ∷ xs) m = elim (cases_Bool (is_promise i x)) [
  | inl t ↦ rw t (one_most (is_promise i m))
  | inr f ↦ rw f (promised_last i xs m)
]
promised_last i (said x ∷ xs) m = promised_last i xs m

-- ---- what is kept: an open call and the responses since its Promise

record Kept (r : ServerRun) : Type 0 where
  once : (i : ℕ) → number_of (holds_call i) r.server.active + responses_since i 0 r.log ≤ one (was_promised i r.log)

-- what was said, with the calls that it answers
says : (r : ServerRun) (s : Server) (ms : List Message) → ((i : ℕ) → number_of (holds_call i) s.active + number_of (is_response i) ms ≤ number_of (holds_call i) r.server.active) → Kept r
    → Kept (record { server = s; log = r.log ++ map said ms })
says r s ms h k = record {
  once = λ i. omega (arith, k.once i, h i, since_more i 0 r.log (map said ms), since_said i (responses_since i 0 r.log) ms, promised_more i r.log (map said ms));
}

not_held : (i : ℕ) (active : List Active) → list_any (holds i) active ≡ false → number_of (holds_call i) active ≡ 0
not_held i [] e = refl
not_held i (waiting_call id c name arg m until ∷ xs) e = elim (cases_Bool (id == i)) [
  | inl t ↦ let bad : true ≡ false = rw t at e in absurd cc
  | inr f ↦ rw f (omega (arith, not_held i xs (rw f at e)))
]
not_held i (handed_call id ∷ xs) e = elim (cases_Bool (id == i)) [
  | inl t ↦ let bad : true ≡ false = rw t at e in absurd cc
  | inr f ↦ rw f (omega (arith, not_held i xs (rw f at e)))
]
not_held i (waiting_listen id c event until ∷ xs) e = elim (cases_Bool (id == i)) [
  | inl t ↦ let bad : true ≡ false = rw t at e in absurd cc
  | inr f ↦ omega (arith, not_held i xs (rw f at e))
]
not_held i (listener id c event ∷ xs) e = elim (cases_Bool (id == i)) [
  | inl t ↦ let bad : true ≡ false = rw t at e in absurd cc
  | inr f ↦ omega (arith, not_held i xs (rw f at e))
]

-- a message that is heard, where the calls grow by it alone
hears : (r : ServerRun) (m : Message) (s : Server)
    → ((i : ℕ) → is_promise i m ≡ true → number_of (holds_call i) s.active ≤ 1)
    → ((i : ℕ) → is_promise i m ≡ false → number_of (holds_call i) s.active ≤ number_of (holds_call i) r.server.active)
    → Kept r → Kept (record { server = s; log = r.log ++ heard m ∷ [] })
hears r m s new old k = record {
  once = λ i. elim (cases_Bool (is_promise i m)) [
    | inl t ↦ omega (arith, new i t, since_more i 0 r.log (heard m ∷ []), ap (λ (b : Bool). cond b 0 (responses_since i 0 r.log)) t, promised_last i r.log m, ap one t)
    | inr f ↦ omega (arith, k.once i, old i f, since_more i 0 r.log (heard m ∷ []), ap (λ (b : Bool). cond b 0 (responses_since i 0 r.log)) f, promised_more i r.log (heard m ∷ []))
  ];
}

held_once : (r : ServerRun) → Kept r → (i : ℕ) → number_of (holds_call i) r.server.active ≤ 1
held_once r k i = omega (arith, k.once i, one_most (was_promised i r.log))

promise_kept : (r : ServerRun) (j : ℕ) (ch name : List ℕ) (arg : Tree) (now : ℕ) → Kept r → Kept (happens r (hear (promise j ch name arg) now))
promise_kept r j ch name arg now k = elim (cases_Bool (is_active j r.server)) [
  | inl t ↦ rw t (hears r (promise j ch name arg) r.server (λ i p. held_once r k i) (λ i p. omega arith) k)
  | inr f ↦ rw f (hears r (promise j ch name arg) (promised r.server j ch name arg now)
      (λ i p. omega (
        arith,
        promised_counts r.server j ch name arg now (holds_call i) (j == i) refl refl,
        one_most (j == i),
        ap (λ (n : ℕ). number_of (holds_call n) r.server.active) (eqb-true j i p),
        not_held j r.server.active f,
      ))
      (λ i p. omega (arith, promised_counts r.server j ch name arg now (holds_call i) (j == i) refl refl, ap one p)) k)
]

listen_kept : (r : ServerRun) (j : ℕ) (ch event : List ℕ) (arg : Tree) (now : ℕ) → Kept r → Kept (happens r (hear (event_listen j ch event arg) now))
listen_kept r j ch event arg now k = elim (cases_Bool (is_active j r.server)) [
  | inl t ↦ rw t (hears r (event_listen j ch event arg) r.server (λ i p. absurd cc) (λ i p. omega arith) k)
  | inr f ↦ rw f (hears r (event_listen j ch event arg) (listened r.server j ch event now) (λ i p. absurd cc)
      (λ i p. omega (arith, listened_counts r.server j ch event now (holds_call i) false refl refl)) k)
]

hear_kept : (r : ServerRun) (m : Message) (now : ℕ) → Kept r → Kept (happens r (hear m now))
hear_kept r (promise j ch name arg) now k = promise_kept r j ch name arg now k
hear_kept r (promise_cancel j) now k = hears r (promise_cancel j) (cancelled_at r.server j) (λ i p. absurd cc) (λ i p. omega (arith, number-map (holds_call i) _ (cancel_holds_call i j) r.server.active)) k
hear_kept r (event_listen j ch event arg) now k = listen_kept r j ch event arg now k
hear_kept r (event_dispose j) now k = hears r (event_dispose j) (disposed r.server j) (λ i p. absurd cc) (λ i p. omega (arith, number-filter (holds_call i) (λ a. not (is_listener j a)) r.server.active)) k
hear_kept r initialize now k = hears r initialize r.server (λ i p. absurd cc) (λ i p. omega arith) k
hear_kept r (response j reply) now k = hears r (response j reply) r.server (λ i p. absurd cc) (λ i p. omega arith) k
hear_kept r (event_fire j body) now k = hears r (event_fire j body) r.server (λ i p. absurd cc) (λ i p. omega arith) k

register_kept : (r : ServerRun) (ch : List ℕ) → Kept r → Kept (happens r (register ch))
register_kept r ch k = elim (cases_Bool (is_registered ch r.server)) [
  | inl t ↦ rw t k
  | inr f ↦ rw f (record { once = λ i. omega (arith, k.once i, number-map (holds_call i) _ (open_holds_call i ch) r.server.active) })
]

complete_kept : (r : ServerRun) (j : ℕ) (reply : Reply) → Kept r → Kept (happens r (complete j reply))
complete_kept r j reply k = elim (cases_Bool (has_call j r.server)) [
  | inl t ↦ rw t (says r (completed r.server j) (response j reply ∷ []) (λ i. omega (arith, call_goes i j r.server.active t)) k)
  | inr f ↦ rw f k
]

happens_kept : (r : ServerRun) (e : ServerStep) → Kept r → Kept (happens r e)
happens_kept r (hear m now) k = hear_kept r m now k
happens_kept r (register ch) k = register_kept r ch k
happens_kept r (complete j reply) k = complete_kept r j reply k
happens_kept r (fire ch event body) k = says r r.server (fires r.server ch event body) (λ i. omega (arith, fires_answer_none i ch event body r.server.active)) k
happens_kept r (tick now) k = says r (ticked r.server now) (timeout_answers r.server now) (λ i. omega (arith, late_goes i now r.server.active)) k

run_kept : (es : List ServerStep) (r : ServerRun) → Kept r → Kept (run es r)
run_kept [] r k = k
run_kept (e ∷ es) r k = run_kept es (happens r e) (happens_kept r e k)

pub answered_once_per_promise : (es : List ServerStep) (i : ℕ) → responses_since i 0 (run es fresh).log ≤ one (was_promised i (run es fresh).log)
answered_once_per_promise es i = omega (arith, (run_kept es fresh (record { once = λ j. omega arith })).once i)
