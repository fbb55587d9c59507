-- Calls settle by the first entry that ends them.
use Rattle.std.proofs.Common.{◌≡◌, ℕ, ◌+◌, ◌≤◌, ◌^◌, List, [], ◌∷◌, ◌++◌, Bool, true, false, cond, Option, Some, None, refl, sym, ap, subst, ◌∙◌, arith, inl, inr}
use Rattle.std.proofs.lemmas.Bool.{cases_Bool, cond_both, eqb-true, eqb-false, eq-eqb, ne_eqb}
use Rattle.std.proofs.lemmas.List.{append-nil}
use Rattle.std.specs.Prelude.{◌==◌, ◌||◌, nat_lt}
use Rattle.std.specs.List.{list_any}
use Rattle.ra_ipc.specs.Messages.{Reply, Message, promise, promise_cancel, event_listen, event_dispose, initialize, response, event_fire}
use Rattle.ra_ipc.specs.ChannelServers.{is_active, has_call}
use Rattle.ra_ipc.specs.ChannelClients.{is_in, without}
use Rattle.ra_ipc.specs.ChannelPairs.{Pair, Step, Outcome, cancelled, answered, Entry, call_made, call_cancelled, message_heard, call, cancel, listen, dispose, register, complete, fire, tick, server_hears, client_hears, start, server_takes, after_server_hears, client_takes, after_client_hears, happens, run}
use Rattle.ra_ipc.specs.ChannelLaws.{ends_by, or_else, first_end, is_made, outcome, settled_as}

abbrev was_made : ℕ → List Entry → Bool
was_made i es = list_any (is_made i) es

or_else_assoc : {A : Type 0} (x y z : Option A) → or_else (or_else x y) z ≡ or_else x (or_else y z)
or_else_assoc (Some a) y z = refl
or_else_assoc None y z = refl

first_end-push : (i : ℕ) (es : List Entry) (e : Entry) → first_end i (es ++ e ∷ []) ≡ or_else (first_end i es) (ends_by i e)
first_end-push i [] e = elim (ends_by i e) as (λ o. or_else o None ≡ o) [ Some x ↦ refl | None ↦ refl ]
first_end-push i (f ∷ es) e = ap (or_else (ends_by i f)) (first_end-push i es e) ∙ sym (or_else_assoc (ends_by i f) (first_end i es) (ends_by i e))

outcome-push : (i : ℕ) (es : List Entry) (e : Entry) → was_made i es ≡ true → outcome i (es ++ e ∷ []) ≡ or_else (outcome i es) (ends_by i e)
outcome-push i [] e h = absurd cc
outcome-push i (f ∷ es) e h = elim (cases_Bool (is_made i f)) [
  | inl t ↦ rw t (first_end-push i es e)
  | inr g ↦ let rest : was_made i es ≡ true = rw g at h in rw g (outcome-push i es e rest)
]

pub outcome_none : (i : ℕ) (es : List Entry) → was_made i es ≡ false → outcome i es ≡ None
outcome_none i [] h = refl
outcome_none i (f ∷ es) h = elim (cases_Bool (is_made i f)) [
  | inl t ↦ let bad : true ≡ false = rw t at h in absurd cc
  | inr g ↦ let rest : was_made i es ≡ false = rw g at h in rw g (outcome_none i es rest)
]

outcome_made : (i : ℕ) (es : List Entry) (e : Entry) → was_made i es ≡ false → outcome i (es ++ e ∷ []) ≡ None
outcome_made i [] e h = elim (cases_Bool (is_made i e)) [ inl t ↦ rw t refl | inr f ↦ rw f refl ]
outcome_made i (f ∷ es) e h = elim (cases_Bool (is_made i f)) [
  | inl t ↦ let bad : true ≡ false = rw t at h in absurd cc
  | inr g ↦ let rest : was_made i es ≡ false = rw g at h in rw g (outcome_made i es e rest)
]

settled-push : (i j : ℕ) (o : Outcome) (ss : List (ℕ × Outcome)) → settled_as i (ss ++ (j, o) ∷ []) ≡ or_else (settled_as i ss) (cond (j == i) (Some o) None)
settled-push i j o [] = refl
settled-push i j o (s ∷ ss) = elim (cases_Bool (s.0 == i)) [ inl t ↦ rw t refl | inr f ↦ rw f (settled-push i j o ss) ]

pub in-push : (i j : ℕ) (ids : List ℕ) → is_in i (ids ++ j ∷ []) ≡ (is_in i ids || (j == i))
in-push i j [] = elim (j == i) as (λ b. (b || false) ≡ (false || b)) [ true ↦ refl | false ↦ refl ]
in-push i j (k ∷ ids) = elim (cases_Bool (k == i)) [ inl t ↦ rw t refl | inr f ↦ rw f (in-push i j ids) ]

pub in-without : (i j : ℕ) (ids : List ℕ) → is_in i (without j ids) ≡ cond (j == i) false (is_in i ids)
in-without i j [] = elim (j == i) as (λ b. false ≡ cond b false false) [ true ↦ refl | false ↦ refl ]
in-without i j (k ∷ ids) = elim (cases_Bool (k == j)) [
  | inl t ↦ elim (cases_Bool (k == i)) [
    | inl u ↦ let ji : (j == i) ≡ true = eq-eqb j i (sym (eqb-true k j t) ∙ eqb-true k i u) in rw (t, u, ji) (in-without i j ids ∙ rw ji refl)
    | inr v ↦ rw (t, v) (in-without i j ids)
  ]
  | inr f ↦ elim (cases_Bool (k == i)) [
    | inl u ↦ let ji : (j == i) ≡ false = ne_eqb j i (λ e. eqb-false k j f (eqb-true k i u ∙ sym e)) in rw (f, u, ji) refl
    | inr v ↦ rw (f, v) (in-without i j ids)
  ]
]

-- how the call of an id stands
pub data Stands (i : ℕ) (p : Pair) : Type 0 where
  unmade : was_made i p.entries ≡ false → is_in i p.client.calls ≡ false → settled_as i p.settled ≡ None → Stands i p
  open_ : was_made i p.entries ≡ true → is_in i p.client.calls ≡ true → outcome i p.entries ≡ None → settled_as i p.settled ≡ None → Stands i p
  over : was_made i p.entries ≡ true → is_in i p.client.calls ≡ false → (o : Outcome) → outcome i p.entries ≡ Some o → settled_as i p.settled ≡ Some o → Stands i p

pub record Standing (p : Pair) : Type 0 where
  pub each : (i : ℕ) → Stands i p
  later : (i : ℕ) → p.client.next ≤ i → was_made i p.entries ≡ false

made-push : (i : ℕ) (es : List Entry) (e : Entry) → was_made i (es ++ e ∷ []) ≡ (was_made i es || is_made i e)
made-push i [] e = elim (is_made i e) as (λ b. (b || false) ≡ (false || b)) [ true ↦ refl | false ↦ refl ]
made-push i (f ∷ es) e = elim (cases_Bool (is_made i f)) [ inl t ↦ rw t refl | inr g ↦ rw g (made-push i es e) ]

pub start_stands : Standing start
start_stands = record { each = λ i. unmade refl refl refl; later = λ i h. refl }

-- an entry that ends no call and makes none
passes_by : (i : ℕ) (p q : Pair) (e : Entry) → q.entries ≡ p.entries ++ e ∷ [] → q.client.calls ≡ p.client.calls → q.settled ≡ p.settled → is_made i e ≡ false → ends_by i e ≡ None → Stands i p → Stands i q
passes_by i p q e en ca se nm ne s =
    let m : was_made i q.entries ≡ was_made i p.entries = ap (was_made i) en ∙ made-push i p.entries e ∙ rw nm (or_false (was_made i p.entries)) in
    elim s [
      | unmade a b c ↦ unmade (m ∙ a) (ap (is_in i) ca ∙ b) (ap (settled_as i) se ∙ c)
      | open_ a b c d ↦ open_ (m ∙ a) (ap (is_in i) ca ∙ b) (ap (outcome i) en ∙ outcome-push i p.entries e a ∙ rw (c, ne) refl) (ap (settled_as i) se ∙ d)
      | over a b o c d ↦ over (m ∙ a) (ap (is_in i) ca ∙ b) o (ap (outcome i) en ∙ outcome-push i p.entries e a ∙ rw c refl) (ap (settled_as i) se ∙ d)
    ]
  where
    or_false : (b : Bool) → (b || false) ≡ b
    or_false true = refl
    or_false false = refl

-- nothing of the client's calls changes
same : (i : ℕ) (p q : Pair) → q.entries ≡ p.entries → q.client.calls ≡ p.client.calls → q.settled ≡ p.settled → Stands i p → Stands i q
same i p q en ca se (unmade a b c) = unmade (ap (was_made i) en ∙ a) (ap (is_in i) ca ∙ b) (ap (settled_as i) se ∙ c)
same i p q en ca se (open_ a b c d) = open_ (ap (was_made i) en ∙ a) (ap (is_in i) ca ∙ b) (ap (outcome i) en ∙ c) (ap (settled_as i) se ∙ d)
same i p q en ca se (over a b o c d) = over (ap (was_made i) en ∙ a) (ap (is_in i) ca ∙ b) o (ap (outcome i) en ∙ c) (ap (settled_as i) se ∙ d)

-- a call of this client is made
makes : (i : ℕ) (p q : Pair) → q.entries ≡ p.entries ++ call_made p.client.next ∷ [] → q.client.calls ≡ p.client.calls ++ p.client.next ∷ [] → q.settled ≡ p.settled → Standing p → Stands i q
makes i p q en ca se st = elim (cases_Bool (p.client.next == i)) [
  | inl t ↦ mine t (st.each i)
  | inr f ↦ other f (st.each i)
]
  where
    or_false : (b : Bool) → (b || false) ≡ b
    or_false true = refl
    or_false false = refl

    or_true : (b : Bool) → (b || true) ≡ true
    or_true true = refl
    or_true false = refl

    new : (p.client.next == i) ≡ true → was_made i p.entries ≡ false
    new t = st.later i (omega (arith, eqb-true p.client.next i t))

    mine : (p.client.next == i) ≡ true → Stands i p → Stands i q
    mine t s = open_
        (ap (was_made i) en ∙ made-push i p.entries (call_made p.client.next) ∙ rw t (or_true (was_made i p.entries)))
        (ap (is_in i) ca ∙ in-push i p.client.next p.client.calls ∙ rw t (or_true (is_in i p.client.calls)))
        (ap (outcome i) en ∙ outcome_made i p.entries (call_made p.client.next) (new t))
        (ap (settled_as i) se ∙ none_yet s)
      where
        none_yet : Stands i p → settled_as i p.settled ≡ None
        none_yet (unmade a b c) = c
        none_yet (open_ a b c d) = d
        none_yet (over a b o c d) = let h = new t in absurd cc

    other : (p.client.next == i) ≡ false → Stands i p → Stands i q
    other f s =
        let m : was_made i q.entries ≡ was_made i p.entries = ap (was_made i) en ∙ made-push i p.entries (call_made p.client.next) ∙ rw f (or_false (was_made i p.entries)) in
        let c : is_in i q.client.calls ≡ is_in i p.client.calls = ap (is_in i) ca ∙ in-push i p.client.next p.client.calls ∙ rw f (or_false (is_in i p.client.calls)) in
        elim s [
          | unmade x y z ↦ unmade (m ∙ x) (c ∙ y) (ap (settled_as i) se ∙ z)
          | open_ x y z w ↦ open_ (m ∙ x) (c ∙ y) (ap (outcome i) en ∙ outcome-push i p.entries (call_made p.client.next) x ∙ rw z refl) (ap (settled_as i) se ∙ w)
          | over x y o z w ↦ over (m ∙ x) (c ∙ y) o (ap (outcome i) en ∙ outcome-push i p.entries (call_made p.client.next) x ∙ rw z refl) (ap (settled_as i) se ∙ w)
        ]

pub or_false : (b : Bool) → (b || false) ≡ b
or_false true = refl
or_false false = refl

unmade_before : (i : ℕ) (p q : Pair) (e : Entry) → q.entries ≡ p.entries ++ e ∷ [] → is_made i e ≡ false → was_made i q.entries ≡ was_made i p.entries
unmade_before i p q e en nm = ap (was_made i) en ∙ made-push i p.entries e ∙ rw nm (or_false (was_made i p.entries))

-- an unsettled call is ended
closes : (i j : ℕ) (o : Outcome) (p q : Pair) (e : Entry) → q.entries ≡ p.entries ++ e ∷ [] → q.client.calls ≡ without j p.client.calls → q.settled ≡ p.settled ++ (j, o) ∷ []
    → is_made i e ≡ false → ends_by i e ≡ cond (j == i) (Some o) None → is_in j p.client.calls ≡ true → Stands i p → Stands i q
closes i j o p q e en ca se nm ne here s = elim (cases_Bool (j == i)) [
  | inl t ↦ mine t s
  | inr f ↦ other f s
]
  where
    m : was_made i q.entries ≡ was_made i p.entries
    m = unmade_before i p q e en nm

    mine : (j == i) ≡ true → Stands i p → Stands i q
    mine t (unmade a b c) = let both : is_in i p.client.calls ≡ true = subst (λ (k : ℕ). is_in k p.client.calls ≡ true) (eqb-true j i t) here in absurd cc
    mine t (open_ a b c d) = over (m ∙ a) (ap (is_in i) ca ∙ in-without i j p.client.calls ∙ rw t refl) o
        (ap (outcome i) en ∙ outcome-push i p.entries e a ∙ rw (c, ne, t) refl)
        (ap (settled_as i) se ∙ settled-push i j o p.settled ∙ rw (d, t) refl)
    mine t (over a b x c d) = let both : is_in i p.client.calls ≡ true = subst (λ (k : ℕ). is_in k p.client.calls ≡ true) (eqb-true j i t) here in absurd cc

    other : (j == i) ≡ false → Stands i p → Stands i q
    other f (unmade a b c) = unmade (m ∙ a) (ap (is_in i) ca ∙ in-without i j p.client.calls ∙ rw f b) (ap (settled_as i) se ∙ settled-push i j o p.settled ∙ rw (c, f) refl)
    other f (open_ a b c d) = open_ (m ∙ a) (ap (is_in i) ca ∙ in-without i j p.client.calls ∙ rw f b)
        (ap (outcome i) en ∙ outcome-push i p.entries e a ∙ rw (c, ne, f) refl)
        (ap (settled_as i) se ∙ settled-push i j o p.settled ∙ rw (d, f) refl)
    other f (over a b x c d) = over (m ∙ a) (ap (is_in i) ca ∙ in-without i j p.client.calls ∙ rw f b) x
        (ap (outcome i) en ∙ outcome-push i p.entries e a ∙ rw c refl)
        (ap (settled_as i) se ∙ settled-push i j o p.settled ∙ rw d refl)

-- a response for no unsettled call
too_late : (i j : ℕ) (p q : Pair) (reply : Reply) → q.entries ≡ p.entries ++ message_heard (response j reply) ∷ [] → q.client.calls ≡ p.client.calls → q.settled ≡ p.settled → is_in j p.client.calls ≡ false → Stands i p → Stands i q
too_late i j p q reply en ca se gone s = elim (cases_Bool (j == i)) [
  | inl t ↦ mine t s
  | inr f ↦ passes_by i p q (message_heard (response j reply)) en ca se refl (rw f refl) s
]
  where
    m : was_made i q.entries ≡ was_made i p.entries
    m = unmade_before i p q (message_heard (response j reply)) en refl

    mine : (j == i) ≡ true → Stands i p → Stands i q
    mine t (unmade a b c) = unmade (m ∙ a) (ap (is_in i) ca ∙ b) (ap (settled_as i) se ∙ c)
    mine t (open_ a b c d) = let both : is_in i p.client.calls ≡ false = subst (λ (k : ℕ). is_in k p.client.calls ≡ false) (eqb-true j i t) gone in absurd cc
    mine t (over a b x c d) = over (m ∙ a) (ap (is_in i) ca ∙ b) x (ap (outcome i) en ∙ outcome-push i p.entries (message_heard (response j reply)) a ∙ rw c refl) (ap (settled_as i) se ∙ d)

-- ---- the steps

later_still : (p q : Pair) (e : Entry) → q.entries ≡ p.entries ++ e ∷ [] → p.client.next ≤ q.client.next → ((i : ℕ) → q.client.next ≤ i → is_made i e ≡ false) → Standing p → (i : ℕ) → q.client.next ≤ i → was_made i q.entries ≡ false
later_still p q e en le nm st i h = ap (was_made i) en ∙ made-push i p.entries e ∙ rw (nm i h, st.later i (omega arith)) refl

unchanged : (p : Pair) {q : Pair} → q.entries ≡ p.entries → q.client.calls ≡ p.client.calls → q.settled ≡ p.settled → p.client.next ≤ q.client.next → Standing p → Standing q
unchanged p {q} en ca se le st = record { each = λ i. same i p q en ca se (st.each i); later = λ i h. ap (was_made i) en ∙ st.later i (omega arith) }

quiet : (p : Pair) {q : Pair} (m : Message) → q.entries ≡ p.entries ++ message_heard m ∷ [] → q.client.calls ≡ p.client.calls → q.settled ≡ p.settled → q.client.next ≡ p.client.next → ((i : ℕ) → ends_by i (message_heard m) ≡ None) → Standing p → Standing q
quiet p {q} m en ca se ne none st = record { each = λ i. passes_by i p q (message_heard m) en ca se refl (none i) (st.each i); later = later_still p q (message_heard m) en (omega arith) (λ i h. refl) st }

closing : (p : Pair) {q : Pair} (j : ℕ) (o : Outcome) (e : Entry) → q.entries ≡ p.entries ++ e ∷ [] → q.client.calls ≡ without j p.client.calls → q.settled ≡ p.settled ++ (j, o) ∷ [] → q.client.next ≡ p.client.next
    → ((i : ℕ) → is_made i e ≡ false) → ((i : ℕ) → ends_by i e ≡ cond (j == i) (Some o) None) → is_in j p.client.calls ≡ true → Standing p → Standing q
closing p {q} j o e en ca se ne nm en_by here st = record { each = λ i. closes i j o p q e en ca se (nm i) (en_by i) here (st.each i); later = later_still p q e en (omega arith) (λ i h. nm i) st }

ignored : (p : Pair) {q : Pair} (j : ℕ) (reply : Reply) → q.entries ≡ p.entries ++ message_heard (response j reply) ∷ [] → q.client.calls ≡ p.client.calls → q.settled ≡ p.settled → q.client.next ≡ p.client.next → is_in j p.client.calls ≡ false → Standing p → Standing q
ignored p {q} j reply en ca se ne gone st = record { each = λ i. too_late i j p q reply en ca se gone (st.each i); later = later_still p q (message_heard (response j reply)) en (omega arith) (λ i h. refl) st }

making : (p : Pair) {q : Pair} → q.entries ≡ p.entries ++ call_made p.client.next ∷ [] → q.client.calls ≡ p.client.calls ++ p.client.next ∷ [] → q.settled ≡ p.settled → q.client.next ≡ p.client.next + 1 → Standing p → Standing q
making p {q} en ca se ne st = record { each = λ i. makes i p q en ca se st; later = later_still p q (call_made p.client.next) en (omega arith) (λ i h. ne_eqb p.client.next i (omega arith)) st }

told_stands : (p : Pair) (m : Message) (ms : List Message) → Standing p → Standing (client_takes (record p { client_heard = p.client_heard ++ m ∷ []; to_client = ms; entries = p.entries ++ message_heard m ∷ [] }) m)
told_stands p (promise j ch name arg) ms st = quiet p (promise j ch name arg) refl refl refl refl (λ i. refl) st
told_stands p (promise_cancel j) ms st = quiet p (promise_cancel j) refl refl refl refl (λ i. refl) st
told_stands p (event_listen j ch event arg) ms st = quiet p (event_listen j ch event arg) refl refl refl refl (λ i. refl) st
told_stands p (event_dispose j) ms st = quiet p (event_dispose j) refl refl refl refl (λ i. refl) st
told_stands p initialize ms st = cond_both p.client.ready _ _ Standing (λ _. quiet p initialize refl refl refl refl (λ i. refl) st) (λ _. quiet p initialize refl refl refl refl (λ i. refl) st)
told_stands p (response j reply) ms st = cond_both (is_in j p.client.calls) _ _ Standing
    (λ t. closing p j (answered reply) (message_heard (response j reply)) refl refl refl refl (λ i. refl) (λ i. refl) t st)
    (λ f. ignored p j reply refl refl refl refl f st)
told_stands p (event_fire j body) ms st = cond_both (is_in j p.client.listeners) _ _ Standing (λ _. quiet p (event_fire j body) refl refl refl refl (λ i. refl) st) (λ _. quiet p (event_fire j body) refl refl refl refl (λ i. refl) st)

pub fallen_stands : (p : Pair) (way : List Message) → Standing p → Standing (after_client_hears p way)
fallen_stands p [] st = st
fallen_stands p (m ∷ ms) st = told_stands p m ms st

served_stands : (p : Pair) (now : ℕ) (m : Message) → Standing p → Standing (server_takes p now m)
served_stands p now (promise j ch name arg) st = cond_both (is_active j p.server) _ _ Standing (λ _. unchanged p refl refl refl (omega arith) st) (λ _. unchanged p refl refl refl (omega arith) st)
served_stands p now (promise_cancel j) st = unchanged p refl refl refl (omega arith) st
served_stands p now (event_listen j ch event arg) st = cond_both (is_active j p.server) _ _ Standing (λ _. unchanged p refl refl refl (omega arith) st) (λ _. unchanged p refl refl refl (omega arith) st)
served_stands p now (event_dispose j) st = unchanged p refl refl refl (omega arith) st
served_stands p now initialize st = st
served_stands p now (response j reply) st = st
served_stands p now (event_fire j body) st = st

risen_stands : (p : Pair) (now : ℕ) (way : List Message) → Standing p → Standing (after_server_hears p now way)
risen_stands p now [] st = st
risen_stands p now (m ∷ ms) st = served_stands (record p { server_heard = p.server_heard ++ m ∷ []; to_server = ms }) now m (unchanged p refl refl refl (omega arith) st)

pub happens_stands : (p : Pair) (e : Step) → Standing p → Standing (happens p e)
happens_stands p (call ch name arg) st = cond_both (nat_lt p.client.next (2 ^ 31)) _ _ Standing (λ _. making p refl refl refl refl st) (λ _. st)
happens_stands p (cancel j) st = cond_both (is_in j p.client.calls) _ _ Standing (λ t. closing p j cancelled (call_cancelled j) refl refl refl refl (λ i. refl) (λ i. refl) t st) (λ _. st)
happens_stands p (listen ch event arg) st = cond_both (nat_lt p.client.next (2 ^ 31)) _ _ Standing (λ _. unchanged p (simp append-nil) refl refl (omega arith) st) (λ _. st)
happens_stands p (dispose j) st = cond_both (is_in j p.client.listeners) _ _ Standing (λ _. unchanged p refl refl refl (omega arith) st) (λ _. st)
happens_stands p (register ch) st = unchanged p refl refl refl (omega arith) st
happens_stands p (complete j reply) st = cond_both (has_call j p.server) _ _ Standing (λ _. unchanged p refl refl refl (omega arith) st) (λ _. st)
happens_stands p (fire ch event body) st = unchanged p refl refl refl (omega arith) st
happens_stands p (tick now) st = unchanged p refl refl refl (omega arith) st
happens_stands p (server_hears now) st = risen_stands p now p.to_server st
happens_stands p client_hears st = fallen_stands p p.to_client st

run_stands : (es : List Step) (p : Pair) → Standing p → Standing (run es p)
run_stands [] p st = st
run_stands (e ∷ es) p st = run_stands es (happens p e) (happens_stands p e st)

pub agrees : (i : ℕ) (p : Pair) → Stands i p → settled_as i p.settled ≡ outcome i p.entries
agrees i p (unmade a b c) = c ∙ sym (outcome_none i p.entries a)
agrees i p (open_ a b c d) = d ∙ sym c
agrees i p (over a b o c d) = d ∙ sym c

pub settles_by_its_own : (es : List Step) (i : ℕ) → settled_as i (run es start).settled ≡ outcome i (run es start).entries
settles_by_its_own es i = agrees i (run es start) ((run_stands es start start_stands).each i)
