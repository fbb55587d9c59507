-- What is fired for a listener, and what its client hands up.
use Rattle.std.proofs.Common.{◌≡◌, ℕ, ◌≤◌, ◌^◌, List, [], ◌∷◌, ◌++◌, true, false, cond, ltb, Some, None, refl, sym, ap, subst, ◌∙◌, append_assoc, arith, inl, inr}
use Rattle.std.proofs.lemmas.Bool.{cases_Bool, cond_both, eqb-true, le-ltb}
use Rattle.std.proofs.lemmas.List.{append-nil}
use Rattle.std.proofs.lemmas.List.Elements.{filter_map-append}
use Rattle.std.specs.Prelude.{◌==◌, ◌&&◌, nat_le, nat_lt}
use Rattle.std.specs.List.{list_any, filter_map, cons_option}
use Rattle.std.specs.Str.{bytes_eq}
use Rattle.ra_values.specs.Tree.{Tree}
use Rattle.ra_ipc.specs.Messages.{Message, opens, number_of, promise, promise_cancel, event_listen, event_dispose, initialize, response, event_fire}
use Rattle.ra_ipc.specs.ChannelServers.{Active, waiting_call, handed_call, waiting_listen, listener, holds, is_active, has_call, fire_one, fires, timeout_one, timeout_answers}
use Rattle.ra_ipc.specs.ChannelClients.{Client, is_in, without}
use Rattle.ra_ipc.specs.ChannelPairs.{Pair, Step, message_heard, call, cancel, listen, dispose, register, complete, fire, tick, server_hears, client_hears, start, server_takes, after_server_hears, client_takes, after_client_hears, happens, run}
use Rattle.ra_ipc.specs.ChannelLaws.{said_to_client, fire_body, fires_of, own_body, fired_of, IsPrefixOf, is_listening, fired_by, fired_while}
use Rattle.ra_ipc.proofs.Counts.{one, one_most, number-push}
use Rattle.ra_ipc.proofs.Outcomes.{in-push, in-without, or_false}
use Rattle.ra_ipc.proofs.Kept.{Kept, start_kept, happens_kept}

-- ---- one fire at the server

none_fires : (i : ℕ) (ch ev : List ℕ) (body : Tree) (held : List Active) → number_of (holds i) held ≡ 0 → fires_of i (filter_map (fire_one ch ev body) held) ≡ []
none_fires i ch ev body [] h = refl
none_fires i ch ev body (waiting_call id c name arg m until ∷ held) h = none_fires i ch ev body held (omega arith)
none_fires i ch ev body (handed_call id ∷ held) h = none_fires i ch ev body held (omega arith)
none_fires i ch ev body (waiting_listen id c e until ∷ held) h = none_fires i ch ev body held (omega arith)
none_fires i ch ev body (listener id c e ∷ held) h =
    let rest = none_fires i ch ev body held (omega arith) in
    elim (cases_Bool (bytes_eq ch c && bytes_eq ev e)) [
      | inl t ↦ elim (cases_Bool (id == i)) [ inl u ↦ absurd (omega (arith, ap one u, h)) | inr v ↦ rw (t, v) rest ]
      | inr f ↦ rw f rest
    ]

none_listens : (i : ℕ) (ch ev : List ℕ) (held : List Active) → number_of (holds i) held ≡ 0 → list_any (is_listening i ch ev) held ≡ false
none_listens i ch ev [] h = refl
none_listens i ch ev (waiting_call id c name arg m until ∷ held) h = none_listens i ch ev held (omega arith)
none_listens i ch ev (handed_call id ∷ held) h = none_listens i ch ev held (omega arith)
none_listens i ch ev (waiting_listen id c e until ∷ held) h = none_listens i ch ev held (omega arith)
none_listens i ch ev (listener id c e ∷ held) h = elim (cases_Bool (id == i)) [
  | inl u ↦ absurd (omega (arith, ap one u, h))
  | inr v ↦ rw v (none_listens i ch ev held (omega arith))
]

pub fires_one : (i : ℕ) (ch ev : List ℕ) (body : Tree) (held : List Active) → number_of (holds i) held ≤ 1 → fires_of i (filter_map (fire_one ch ev body) held) ≡ cond (list_any (is_listening i ch ev) held) (body ∷ []) []
fires_one i ch ev body [] h = refl
fires_one i ch ev body (waiting_call id c name arg m until ∷ held) h = fires_one i ch ev body held (omega (arith, one_most (id == i)))
fires_one i ch ev body (handed_call id ∷ held) h = fires_one i ch ev body held (omega arith)
fires_one i ch ev body (waiting_listen id c e until ∷ held) h = fires_one i ch ev body held (omega arith)
fires_one i ch ev body (listener id c e ∷ held) h = elim (cases_Bool (id == i)) [
  | inl u ↦
      let zero_left : number_of (holds i) held ≡ 0 = omega (arith, ap one u, h) in
      let quiet = none_fires i ch ev body held zero_left in
      let none = none_listens i ch ev held zero_left in
      elim (cases_Bool (bytes_eq ch c && bytes_eq ev e)) [
        | inl t ↦ rw (t, u, quiet) refl
        | inr f ↦ rw (f, u, quiet, none) refl
      ]
  | inr v ↦
      let rest = fires_one i ch ev body held (omega arith) in
      elim (cases_Bool (bytes_eq ch c && bytes_eq ev e)) [
        | inl t ↦ rw (t, v) rest
        | inr f ↦ rw (f, v) rest
      ]
]

late_fires_none : (i now : ℕ) (held : List Active) → fires_of i (filter_map (timeout_one now) held) ≡ []
late_fires_none i now [] = refl
late_fires_none i now (waiting_call id c name arg m until ∷ held) = elim (cases_Bool (nat_le until now)) [
  | inl t ↦ rw t (late_fires_none i now held)
  | inr f ↦ rw f (late_fires_none i now held)
]
late_fires_none i now (handed_call id ∷ held) = late_fires_none i now held
late_fires_none i now (waiting_listen id c e until ∷ held) = late_fires_none i now held
late_fires_none i now (listener id c e ∷ held) = late_fires_none i now held

-- ---- all that was said to the client

-- nothing more is said to the client
pub record Silent (p q : Pair) : Type 0 where
  pub same : said_to_client q ≡ said_to_client p

silent : {p q : Pair} → said_to_client q ≡ said_to_client p → Silent p q
silent e = record { same = e }

-- where a step says nothing more
says_same : (i : ℕ) (p : Pair) (e : Step) → Silent p (happens p e) → fired_by i e p.server ≡ [] → fires_of i (said_to_client (happens p e)) ≡ fires_of i (said_to_client p) ++ fired_by i e p.server
says_same i p e s n = ap (fires_of i) s.same ∙ sym (ap (λ (w : List Tree). fires_of i (said_to_client p) ++ w) n ∙ append-nil (fires_of i (said_to_client p)))

-- where it says these
says_more : (i : ℕ) (p : Pair) (ms : List Message) → fires_of i (p.client_heard ++ (p.to_client ++ ms)) ≡ fires_of i (said_to_client p) ++ fires_of i ms
says_more i p ms = ap (fires_of i) (sym (append_assoc p.client_heard p.to_client ms)) ∙ filter_map-append (fire_body i) (p.client_heard ++ p.to_client) ms

served_says : (p : Pair) (now : ℕ) (m : Message) → Silent p (server_takes p now m)
served_says p now (promise j ch name arg) = cond_both (is_active j p.server) _ _ (Silent p) (λ _. record { same = refl }) (λ _. record { same = refl })
served_says p now (promise_cancel j) = record { same = refl }
served_says p now (event_listen j ch event arg) = cond_both (is_active j p.server) _ _ (Silent p) (λ _. record { same = refl }) (λ _. record { same = refl })
served_says p now (event_dispose j) = record { same = refl }
served_says p now initialize = record { same = refl }
served_says p now (response j reply) = record { same = refl }
served_says p now (event_fire j body) = record { same = refl }

pub risen_says : (p : Pair) (now : ℕ) (way : List Message) → Silent p (after_server_hears p now way)
risen_says p now [] = record { same = refl }
risen_says p now (m ∷ ms) = record { same = (served_says (record p { server_heard = p.server_heard ++ m ∷ []; to_server = ms }) now m).same }

told_says : (p : Pair) (m : Message) → Silent p (client_takes p m)
told_says p (promise j ch name arg) = record { same = refl }
told_says p (promise_cancel j) = record { same = refl }
told_says p (event_listen j ch event arg) = record { same = refl }
told_says p (event_dispose j) = record { same = refl }
told_says p initialize = cond_both p.client.ready _ _ (Silent p) (λ _. record { same = refl }) (λ _. record { same = refl })
told_says p (response j reply) = cond_both (is_in j p.client.calls) _ _ (Silent p) (λ _. record { same = refl }) (λ _. record { same = refl })
told_says p (event_fire j body) = cond_both (is_in j p.client.listeners) _ _ (Silent p) (λ _. record { same = refl }) (λ _. record { same = refl })

pub fallen_says : (p : Pair) (way : List Message) → p.to_client ≡ way → Silent p (after_client_hears p way)
fallen_says p [] e = record { same = refl }
fallen_says p (m ∷ ms) e =
    let q : Pair = record p { client_heard = p.client_heard ++ m ∷ []; to_client = ms; entries = p.entries ++ message_heard m ∷ [] } in
    record { same = (told_says q m).same ∙ append_assoc p.client_heard (m ∷ []) ms ∙ ap (λ (w : List Message). p.client_heard ++ w) (sym e) }

pub silent_call : (p : Pair) (ch name : List ℕ) (arg : Tree) → Silent p (happens p (call ch name arg))
silent_call p ch name arg = cond_both (nat_lt p.client.next (2 ^ 31)) _ _ (Silent p) (λ _. record { same = refl }) (λ _. record { same = refl })

pub silent_cancel : (p : Pair) (j : ℕ) → Silent p (happens p (cancel j))
silent_cancel p j = cond_both (is_in j p.client.calls) _ _ (Silent p) (λ _. record { same = refl }) (λ _. record { same = refl })

pub silent_listen : (p : Pair) (ch event : List ℕ) (arg : Tree) → Silent p (happens p (listen ch event arg))
silent_listen p ch event arg = cond_both (nat_lt p.client.next (2 ^ 31)) _ _ (Silent p) (λ _. record { same = refl }) (λ _. record { same = refl })

pub silent_dispose : (p : Pair) (j : ℕ) → Silent p (happens p (dispose j))
silent_dispose p j = cond_both (is_in j p.client.listeners) _ _ (Silent p) (λ _. record { same = refl }) (λ _. record { same = refl })

held_once : (i : ℕ) (p : Pair) → Kept p → number_of (holds i) p.server.active ≤ 1
held_once i p k = omega (arith, k.active i, k.once i, one_most (ltb i p.client.next))

happens_says : (i : ℕ) (p : Pair) (e : Step) → Kept p → fires_of i (said_to_client (happens p e)) ≡ fires_of i (said_to_client p) ++ fired_by i e p.server
happens_says i p (call ch name arg) k = says_same i p (call ch name arg) (cond_both (nat_lt p.client.next (2 ^ 31)) _ _ (Silent p) (λ _. record { same = refl }) (λ _. record { same = refl })) refl
happens_says i p (cancel j) k = says_same i p (cancel j) (cond_both (is_in j p.client.calls) _ _ (Silent p) (λ _. record { same = refl }) (λ _. record { same = refl })) refl
happens_says i p (listen ch event arg) k = says_same i p (listen ch event arg) (cond_both (nat_lt p.client.next (2 ^ 31)) _ _ (Silent p) (λ _. record { same = refl }) (λ _. record { same = refl })) refl
happens_says i p (dispose j) k = says_same i p (dispose j) (cond_both (is_in j p.client.listeners) _ _ (Silent p) (λ _. record { same = refl }) (λ _. record { same = refl })) refl
happens_says i p (register ch) k = says_same i p (register ch) (record { same = refl }) refl
happens_says i p (complete j reply) k = elim (cases_Bool (has_call j p.server)) [
  | inl t ↦ rw t (says_more i p (response j reply ∷ []))
  | inr f ↦ rw f (sym (append-nil (fires_of i (said_to_client p))))
]
happens_says i p (fire ch event body) k = says_more i p (fires p.server ch event body) ∙ ap (λ (w : List Tree). fires_of i (said_to_client p) ++ w) (fires_one i ch event body p.server.active (held_once i p k))
happens_says i p (tick now) k = says_more i p (timeout_answers p.server now) ∙ ap (λ (w : List Tree). fires_of i (said_to_client p) ++ w) (late_fires_none i now p.server.active)
happens_says i p (server_hears now) k = says_same i p (server_hears now) (risen_says p now p.to_server) refl
happens_says i p client_hears k = says_same i p client_hears (fallen_says p p.to_client refl) refl

run_says : (i : ℕ) (es : List Step) (p : Pair) → Kept p → fires_of i (said_to_client (run es p)) ≡ fires_of i (said_to_client p) ++ fired_while i es p
run_says i [] p k = sym (append-nil (fires_of i (said_to_client p)))
run_says i (e ∷ es) p k =
    run_says i es (happens p e) (happens_kept p e k)
    ∙ ap (λ (w : List Tree). w ++ fired_while i es (happens p e)) (happens_says i p e k)
    ∙ append_assoc (fires_of i (said_to_client p)) (fired_by i e p.server) (fired_while i es (happens p e))

pub fired_while_listening : (es : List Step) (i : ℕ) → fires_of i (said_to_client (run es start)) ≡ fired_while i es start
fired_while_listening es i = run_says i es start start_kept

-- ---- what the client hands up

record Fires (p : Pair) : Type 0 where
  -- an id that was never heard fires nothing
  unheard : (i : ℕ) → number_of (opens i) p.server_heard ≡ 0 → fires_of i (said_to_client p) ≡ []
  living : (i : ℕ) → is_in i p.client.listeners ≡ true → fired_of i p.fired ≡ fires_of i p.client_heard
  begun : (i : ℕ) → IsPrefixOf (fired_of i p.fired) (fires_of i p.client_heard)

start_fires : Fires start
start_fires = record { unheard = λ i h. refl; living = λ i h. refl; begun = λ i. ([], refl) }

-- nothing of this changes
stay : (p : Pair) {q : Pair} → q.client_heard ≡ p.client_heard → q.fired ≡ p.fired → q.client.listeners ≡ p.client.listeners → ((i : ℕ) → number_of (opens i) q.server_heard ≡ 0 → fires_of i (said_to_client q) ≡ []) → Fires p → Fires q
stay p {q} d f l u s = record {
  unheard = u;
  living = λ i h. ap (fired_of i) f ∙ s.living i (ap (is_in i) (sym l) ∙ h) ∙ ap (fires_of i) (sym d);
  begun = λ i. ((s.begun i).0, ap (λ (w : List (ℕ × Tree)). fired_of i w ++ (s.begun i).0) f ∙ (s.begun i).1 ∙ ap (fires_of i) (sym d));
}

-- fired_of and fires_of at one more
fired-push : (i j : ℕ) (body : Tree) (fs : List (ℕ × Tree)) → fired_of i (fs ++ (j, body) ∷ []) ≡ fired_of i fs ++ cond (j == i) (body ∷ []) []
fired-push i j body fs = filter_map-append (own_body i) fs ((j, body) ∷ []) ∙ elim (j == i) as (λ b. fired_of i fs ++ cons_option (cond b (Some body) None) [] ≡ fired_of i fs ++ cond b (body ∷ []) []) [ true ↦ refl | false ↦ refl ]

fires-push : (i j : ℕ) (body : Tree) (ms : List Message) → fires_of i (ms ++ event_fire j body ∷ []) ≡ fires_of i ms ++ cond (j == i) (body ∷ []) []
fires-push i j body ms = filter_map-append (fire_body i) ms (event_fire j body ∷ []) ∙ elim (j == i) as (λ b. fires_of i ms ++ cons_option (cond b (Some body) None) [] ≡ fires_of i ms ++ cond b (body ∷ []) []) [ true ↦ refl | false ↦ refl ]

-- a message that is no fire is heard
beside : (p : Pair) {q : Pair} (m : Message) → q.client_heard ≡ p.client_heard ++ m ∷ [] → ((i : ℕ) → fire_body i m ≡ None) → q.fired ≡ p.fired → q.client.listeners ≡ p.client.listeners → ((i : ℕ) → number_of (opens i) q.server_heard ≡ 0 → fires_of i (said_to_client q) ≡ []) → Fires p → Fires q
beside p {q} m d other f l u s = record {
  unheard = u;
  living = λ i h. ap (fired_of i) f ∙ s.living i (ap (is_in i) (sym l) ∙ h) ∙ sym (down_same i);
  begun = λ i. ((s.begun i).0, ap (λ (w : List (ℕ × Tree)). fired_of i w ++ (s.begun i).0) f ∙ (s.begun i).1 ∙ sym (down_same i));
}
  where
    down_same : (i : ℕ) → fires_of i q.client_heard ≡ fires_of i p.client_heard
    down_same i = ap (fires_of i) d ∙ filter_map-append (fire_body i) p.client_heard (m ∷ []) ∙ rw (other i) (append-nil (fires_of i p.client_heard))

-- a fire for a living listener
fired_up : (p : Pair) {q : Pair} (j : ℕ) (body : Tree) → q.client_heard ≡ p.client_heard ++ event_fire j body ∷ [] → q.fired ≡ p.fired ++ (j, body) ∷ [] → q.client.listeners ≡ p.client.listeners → is_in j p.client.listeners ≡ true
    → ((i : ℕ) → number_of (opens i) q.server_heard ≡ 0 → fires_of i (said_to_client q) ≡ []) → Fires p → Fires q
fired_up p {q} j body d f l here u s = record {
  unheard = u;
  living = λ i h. both i (s.living i (ap (is_in i) (sym l) ∙ h));
  begun = λ i. begins i;
}
  where
    both : (i : ℕ) → fired_of i p.fired ≡ fires_of i p.client_heard → fired_of i q.fired ≡ fires_of i q.client_heard
    both i e = ap (fired_of i) f ∙ fired-push i j body p.fired ∙ ap (λ (w : List Tree). w ++ cond (j == i) (body ∷ []) []) e ∙ sym (ap (fires_of i) d ∙ fires-push i j body p.client_heard)

    other : (i : ℕ) → (j == i) ≡ false → IsPrefixOf (fired_of i q.fired) (fires_of i q.client_heard)
    other i g =
        let a : fired_of i q.fired ≡ fired_of i p.fired = ap (fired_of i) f ∙ fired-push i j body p.fired ∙ rw g (append-nil (fired_of i p.fired)) in
        let b : fires_of i q.client_heard ≡ fires_of i p.client_heard = ap (fires_of i) d ∙ fires-push i j body p.client_heard ∙ rw g (append-nil (fires_of i p.client_heard)) in
        ((s.begun i).0, ap (λ (w : List Tree). w ++ (s.begun i).0) a ∙ (s.begun i).1 ∙ sym b)

    begins : (i : ℕ) → IsPrefixOf (fired_of i q.fired) (fires_of i q.client_heard)
    begins i = elim (cases_Bool (j == i)) [
      | inl t ↦ ([], append-nil (fired_of i q.fired) ∙ both i (s.living i (subst (λ (k : ℕ). is_in k p.client.listeners ≡ true) (eqb-true j i t) here)))
      | inr g ↦ other i g
    ]

-- a fire for no living listener
fired_past : (p : Pair) {q : Pair} (j : ℕ) (body : Tree) → q.client_heard ≡ p.client_heard ++ event_fire j body ∷ [] → q.fired ≡ p.fired → q.client.listeners ≡ p.client.listeners → is_in j p.client.listeners ≡ false
    → ((i : ℕ) → number_of (opens i) q.server_heard ≡ 0 → fires_of i (said_to_client q) ≡ []) → Fires p → Fires q
fired_past p {q} j body d f l gone u s = record {
  unheard = u;
  living = λ i h. lives i (ap (is_in i) (sym l) ∙ h);
  begun = λ i. (
    (s.begun i).0 ++ cond (j == i) (body ∷ []) [],
    ap (λ (w : List (ℕ × Tree)). fired_of i w ++ ((s.begun i).0 ++ cond (j == i) (body ∷ []) [])) f
        ∙ sym (append_assoc (fired_of i p.fired) (s.begun i).0 (cond (j == i) (body ∷ []) []))
        ∙ ap (λ (w : List Tree). w ++ cond (j == i) (body ∷ []) []) (s.begun i).1
        ∙ sym (ap (fires_of i) d ∙ fires-push i j body p.client_heard),
  );
}
  where
    lives : (i : ℕ) → is_in i p.client.listeners ≡ true → fired_of i q.fired ≡ fires_of i q.client_heard
    lives i h = elim (cases_Bool (j == i)) [
      | inl t ↦ let both : is_in i p.client.listeners ≡ false = subst (λ (k : ℕ). is_in k p.client.listeners ≡ false) (eqb-true j i t) gone in absurd cc
      | inr g ↦ ap (fired_of i) f ∙ s.living i h ∙ sym (ap (fires_of i) d ∙ fires-push i j body p.client_heard ∙ rw g (append-nil (fires_of i p.client_heard)))
    ]

-- what the server heard only grows
record Grows (p q : Pair) : Type 0 where
  server_heard : (i : ℕ) → number_of (opens i) p.server_heard ≤ number_of (opens i) q.server_heard

served_grows : (p : Pair) (now : ℕ) (m : Message) → Grows p (server_takes p now m)
served_grows p now (promise j ch name arg) = cond_both (is_active j p.server) _ _ (Grows p) (λ _. record { server_heard = λ i. omega arith }) (λ _. record { server_heard = λ i. omega arith })
served_grows p now (promise_cancel j) = record { server_heard = λ i. omega arith }
served_grows p now (event_listen j ch event arg) = cond_both (is_active j p.server) _ _ (Grows p) (λ _. record { server_heard = λ i. omega arith }) (λ _. record { server_heard = λ i. omega arith })
served_grows p now (event_dispose j) = record { server_heard = λ i. omega arith }
served_grows p now initialize = record { server_heard = λ i. omega arith }
served_grows p now (response j reply) = record { server_heard = λ i. omega arith }
served_grows p now (event_fire j body) = record { server_heard = λ i. omega arith }

risen_grows : (p : Pair) (now : ℕ) (way : List Message) → Grows p (after_server_hears p now way)
risen_grows p now [] = record { server_heard = λ i. omega arith }
risen_grows p now (m ∷ ms) = record { server_heard = λ i. omega (arith, (served_grows (record p { server_heard = p.server_heard ++ m ∷ []; to_server = ms }) now m).server_heard i, number-push (opens i) p.server_heard m) }

told_grows : (p : Pair) (m : Message) → Grows p (client_takes p m)
told_grows p (promise j ch name arg) = record { server_heard = λ i. omega arith }
told_grows p (promise_cancel j) = record { server_heard = λ i. omega arith }
told_grows p (event_listen j ch event arg) = record { server_heard = λ i. omega arith }
told_grows p (event_dispose j) = record { server_heard = λ i. omega arith }
told_grows p initialize = cond_both p.client.ready _ _ (Grows p) (λ _. record { server_heard = λ i. omega arith }) (λ _. record { server_heard = λ i. omega arith })
told_grows p (response j reply) = cond_both (is_in j p.client.calls) _ _ (Grows p) (λ _. record { server_heard = λ i. omega arith }) (λ _. record { server_heard = λ i. omega arith })
told_grows p (event_fire j body) = cond_both (is_in j p.client.listeners) _ _ (Grows p) (λ _. record { server_heard = λ i. omega arith }) (λ _. record { server_heard = λ i. omega arith })

fallen_grows : (p : Pair) (way : List Message) → Grows p (after_client_hears p way)
fallen_grows p [] = record { server_heard = λ i. omega arith }
fallen_grows p (m ∷ ms) = record { server_heard = λ i. (told_grows (record p { client_heard = p.client_heard ++ m ∷ []; to_client = ms; entries = p.entries ++ message_heard m ∷ [] }) m).server_heard i }

happens_grows : (p : Pair) (e : Step) → Grows p (happens p e)
happens_grows p (call ch name arg) = cond_both (nat_lt p.client.next (2 ^ 31)) _ _ (Grows p) (λ _. record { server_heard = λ i. omega arith }) (λ _. record { server_heard = λ i. omega arith })
happens_grows p (cancel j) = cond_both (is_in j p.client.calls) _ _ (Grows p) (λ _. record { server_heard = λ i. omega arith }) (λ _. record { server_heard = λ i. omega arith })
happens_grows p (listen ch event arg) = cond_both (nat_lt p.client.next (2 ^ 31)) _ _ (Grows p) (λ _. record { server_heard = λ i. omega arith }) (λ _. record { server_heard = λ i. omega arith })
happens_grows p (dispose j) = cond_both (is_in j p.client.listeners) _ _ (Grows p) (λ _. record { server_heard = λ i. omega arith }) (λ _. record { server_heard = λ i. omega arith })
happens_grows p (register ch) = record { server_heard = λ i. omega arith }
happens_grows p (complete j reply) = cond_both (has_call j p.server) _ _ (Grows p) (λ _. record { server_heard = λ i. omega arith }) (λ _. record { server_heard = λ i. omega arith })
happens_grows p (fire ch event body) = record { server_heard = λ i. omega arith }
happens_grows p (tick now) = record { server_heard = λ i. omega arith }
happens_grows p (server_hears now) = risen_grows p now p.to_server
happens_grows p client_hears = fallen_grows p p.to_client

no_shout : (i : ℕ) (e : Step) (p : Pair) → number_of (holds i) p.server.active ≡ 0 → fired_by i e p.server ≡ []
no_shout i (call ch name arg) p h = refl
no_shout i (cancel j) p h = refl
no_shout i (listen ch event arg) p h = refl
no_shout i (dispose j) p h = refl
no_shout i (register ch) p h = refl
no_shout i (complete j reply) p h = refl
no_shout i (fire ch event body) p h = rw (none_listens i ch event p.server.active h) refl
no_shout i (tick now) p h = refl
no_shout i (server_hears now) p h = refl
no_shout i client_hears p h = refl

still_unheard : (p : Pair) (e : Step) → Kept p → Fires p → (i : ℕ) → number_of (opens i) (happens p e).server_heard ≡ 0 → fires_of i (said_to_client (happens p e)) ≡ []
still_unheard p e k s i h =
    let before : number_of (opens i) p.server_heard ≡ 0 = omega (arith, (happens_grows p e).server_heard i, h) in
    let none : number_of (holds i) p.server.active ≡ 0 = omega (arith, k.active i, before) in
    happens_says i p e k ∙ ap (λ (w : List Tree). w ++ fired_by i e p.server) (s.unheard i before) ∙ no_shout i e p none

-- a new listener, of which nothing was fired
listens_anew : (p : Pair) {q : Pair} → q.client_heard ≡ p.client_heard → q.fired ≡ p.fired → q.client.listeners ≡ p.client.listeners ++ p.client.next ∷ [] → Kept p → ((i : ℕ) → number_of (opens i) q.server_heard ≡ 0 → fires_of i (said_to_client q) ≡ []) → Fires p → Fires q
listens_anew p {q} d f l k u s = record {
  unheard = u;
  living = λ i h. lives i h;
  begun = λ i. ((s.begun i).0, ap (λ (w : List (ℕ × Tree)). fired_of i w ++ (s.begun i).0) f ∙ (s.begun i).1 ∙ ap (fires_of i) (sym d));
}
  where
    front_nil : (xs ys : List Tree) → xs ++ ys ≡ [] → xs ≡ []
    front_nil [] ys e = refl
    front_nil (x ∷ xs) ys e = absurd cc

    new : (i : ℕ) → (p.client.next == i) ≡ true → fired_of i p.fired ≡ fires_of i p.client_heard
    new i t =
        let past : ltb i p.client.next ≡ false = le-ltb i p.client.next (omega (arith, eqb-true p.client.next i t)) in
        let zero_up : number_of (opens i) p.server_heard ≡ 0 = omega (arith, k.once i, ap one past) in
        let all : fires_of i p.client_heard ++ fires_of i p.to_client ≡ [] = sym (filter_map-append (fire_body i) p.client_heard p.to_client) ∙ s.unheard i zero_up in
        let none : fires_of i p.client_heard ≡ [] = front_nil (fires_of i p.client_heard) (fires_of i p.to_client) all in
        front_nil (fired_of i p.fired) (s.begun i).0 ((s.begun i).1 ∙ none) ∙ sym none

    lives : (i : ℕ) → is_in i q.client.listeners ≡ true → fired_of i q.fired ≡ fires_of i q.client_heard
    lives i h = elim (cases_Bool (p.client.next == i)) [
      | inl t ↦ ap (fired_of i) f ∙ new i t ∙ ap (fires_of i) (sym d)
      | inr g ↦ ap (fired_of i) f ∙ s.living i (sym (ap (is_in i) l ∙ in-push i p.client.next p.client.listeners ∙ rw g (or_false (is_in i p.client.listeners))) ∙ h) ∙ ap (fires_of i) (sym d)
    ]

-- a listener that ends
ends_one : (p : Pair) {q : Pair} (j : ℕ) → q.client_heard ≡ p.client_heard → q.fired ≡ p.fired → q.client.listeners ≡ without j p.client.listeners → ((i : ℕ) → number_of (opens i) q.server_heard ≡ 0 → fires_of i (said_to_client q) ≡ []) → Fires p → Fires q
ends_one p {q} j d f l u s = record {
  unheard = u;
  living = λ i h. ap (fired_of i) f ∙ s.living i (was i (sym (in-without i j p.client.listeners) ∙ ap (is_in i) (sym l) ∙ h)) ∙ ap (fires_of i) (sym d);
  begun = λ i. ((s.begun i).0, ap (λ (w : List (ℕ × Tree)). fired_of i w ++ (s.begun i).0) f ∙ (s.begun i).1 ∙ ap (fires_of i) (sym d));
}
  where
    was : (i : ℕ) → cond (j == i) false (is_in i p.client.listeners) ≡ true → is_in i p.client.listeners ≡ true
    was i h = elim (cases_Bool (j == i)) [ inl t ↦ let bad = rw t at h in absurd cc | inr g ↦ rw g at h ]

abbrev falling : Pair → Message → List Message → Pair
falling p m ms = record p { client_heard = p.client_heard ++ m ∷ []; to_client = ms; entries = p.entries ++ message_heard m ∷ [] }

abbrev Unheard : Pair → Type 0
Unheard q = (i : ℕ) → number_of (opens i) q.server_heard ≡ 0 → fires_of i (said_to_client q) ≡ []

-- where both ways of a test give fires, knowing that the outcome is as it should be
record Goes (q : Pair) : Type 0 where
  go : Unheard q → Fires q

told_fires : (p : Pair) (m : Message) (ms : List Message) → Fires p → Goes (client_takes (falling p m ms) m)
told_fires p (promise j ch name arg) ms s = record { go = λ u. beside p (promise j ch name arg) refl (λ i. refl) refl refl u s }
told_fires p (promise_cancel j) ms s = record { go = λ u. beside p (promise_cancel j) refl (λ i. refl) refl refl u s }
told_fires p (event_listen j ch event arg) ms s = record { go = λ u. beside p (event_listen j ch event arg) refl (λ i. refl) refl refl u s }
told_fires p (event_dispose j) ms s = record { go = λ u. beside p (event_dispose j) refl (λ i. refl) refl refl u s }
told_fires p initialize ms s = cond_both p.client.ready _ _ Goes (λ _. record { go = λ u. beside p initialize refl (λ i. refl) refl refl u s }) (λ _. record { go = λ u. beside p initialize refl (λ i. refl) refl refl u s })
told_fires p (response j reply) ms s = cond_both (is_in j p.client.calls) _ _ Goes (λ _. record { go = λ u. beside p (response j reply) refl (λ i. refl) refl refl u s }) (λ _. record { go = λ u. beside p (response j reply) refl (λ i. refl) refl refl u s })
told_fires p (event_fire j body) ms s = cond_both (is_in j p.client.listeners) _ _ Goes
    (λ t. record { go = λ u. fired_up p j body refl refl refl t u s })
    (λ f. record { go = λ u. fired_past p j body refl refl refl f u s })

fallen_fires : (p : Pair) (way : List Message) → Fires p → Goes (after_client_hears p way)
fallen_fires p [] s = record { go = λ u. s }
fallen_fires p (m ∷ ms) s = record { go = λ u. (told_fires p m ms s).go u }

served_fires : (p : Pair) (now : ℕ) (m : Message) (x : Pair) → p.client_heard ≡ x.client_heard → p.fired ≡ x.fired → p.client ≡ x.client → Fires x → Goes (server_takes p now m)
served_fires p now (promise j ch name arg) x d f c s = cond_both (is_active j p.server) _ _ Goes (λ _. record { go = λ u. stay x d f (ap (λ (k : Client). k.listeners) c) u s }) (λ _. record { go = λ u. stay x d f (ap (λ (k : Client). k.listeners) c) u s })
served_fires p now (promise_cancel j) x d f c s = record { go = λ u. stay x d f (ap (λ (k : Client). k.listeners) c) u s }
served_fires p now (event_listen j ch event arg) x d f c s = cond_both (is_active j p.server) _ _ Goes (λ _. record { go = λ u. stay x d f (ap (λ (k : Client). k.listeners) c) u s }) (λ _. record { go = λ u. stay x d f (ap (λ (k : Client). k.listeners) c) u s })
served_fires p now (event_dispose j) x d f c s = record { go = λ u. stay x d f (ap (λ (k : Client). k.listeners) c) u s }
served_fires p now initialize x d f c s = record { go = λ u. stay x d f (ap (λ (k : Client). k.listeners) c) u s }
served_fires p now (response j reply) x d f c s = record { go = λ u. stay x d f (ap (λ (k : Client). k.listeners) c) u s }
served_fires p now (event_fire j body) x d f c s = record { go = λ u. stay x d f (ap (λ (k : Client). k.listeners) c) u s }

risen_fires : (p : Pair) (now : ℕ) (way : List Message) → Fires p → Goes (after_server_hears p now way)
risen_fires p now [] s = record { go = λ u. s }
risen_fires p now (m ∷ ms) s = record { go = λ u. (served_fires (record p { server_heard = p.server_heard ++ m ∷ []; to_server = ms }) now m p refl refl refl s).go u }

happens_goes : (p : Pair) (e : Step) → Kept p → Fires p → Goes (happens p e)
happens_goes p (call ch name arg) k s = cond_both (nat_lt p.client.next (2 ^ 31)) _ _ Goes (λ _. record { go = λ u. stay p refl refl refl u s }) (λ _. record { go = λ u. s })
happens_goes p (cancel j) k s = cond_both (is_in j p.client.calls) _ _ Goes (λ _. record { go = λ u. stay p refl refl refl u s }) (λ _. record { go = λ u. s })
happens_goes p (listen ch event arg) k s = cond_both (nat_lt p.client.next (2 ^ 31)) _ _ Goes (λ _. record { go = λ u. listens_anew p refl refl refl k u s }) (λ _. record { go = λ u. s })
happens_goes p (dispose j) k s = cond_both (is_in j p.client.listeners) _ _ Goes (λ _. record { go = λ u. ends_one p j refl refl refl u s }) (λ _. record { go = λ u. s })
happens_goes p (register ch) k s = record { go = λ u. stay p refl refl refl u s }
happens_goes p (complete j reply) k s = cond_both (has_call j p.server) _ _ Goes (λ _. record { go = λ u. stay p refl refl refl u s }) (λ _. record { go = λ u. s })
happens_goes p (fire ch event body) k s = record { go = λ u. stay p refl refl refl u s }
happens_goes p (tick now) k s = record { go = λ u. stay p refl refl refl u s }
happens_goes p (server_hears now) k s = risen_fires p now p.to_server s
happens_goes p client_hears k s = fallen_fires p p.to_client s

run_fires : (es : List Step) (p : Pair) → Kept p → Fires p → Kept (run es p) × Fires (run es p)
run_fires [] p k s = (k, s)
run_fires (e ∷ es) p k s = run_fires es (happens p e) (happens_kept p e k) ((happens_goes p e k s).go (still_unheard p e k s))

pub fires_in_order : (es : List Step) (i : ℕ) → IsPrefixOf (fired_of i (run es start).fired) (fires_of i (said_to_client (run es start)))
fires_in_order es i =
    let p : Pair = run es start in
    let s = (run_fires es start start_kept start_fires).1 in
    let b = s.begun i in
    (b.0 ++ fires_of i p.to_client, sym (append_assoc (fired_of i p.fired) b.0 (fires_of i p.to_client)) ∙ ap (λ (w : List Tree). w ++ fires_of i p.to_client) b.1 ∙ sym (filter_map-append (fire_body i) p.client_heard p.to_client))
