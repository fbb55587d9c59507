-- A request that was made last, and is taken back.
use Rattle.std.proofs.Common.{◌≡◌, ℕ, ◌+◌, ◌-◌, ◌<◌, List, [], ◌∷◌, ◌++◌, Bool, cond, true, false, not, refl, sym, ap, ◌∙◌, arith, inl, inr}
use Rattle.std.proofs.lemmas.Bool.{cases_Bool, eq-eqb, ne_eqb, eqb-false}
use Rattle.std.specs.Prelude.{◌==◌}
use Rattle.std.specs.List.{AllByRecursion, filter}
use Rattle.std.specs.Map.{keys_of}
use Rattle.ra_values.specs.Tree.{Tree}
use Rattle.ra_ipc.specs.Messages.{Message, promise, event_listen, opens}
use Rattle.ra_ipc.specs.ChannelClients.{Client, is_in, without, still_unsent, after_call, after_listen}
use Rattle.ra_ipc.specs.declared.packet.Packet.{Packet}
use Rattle.ra_chan_client.specs.Held.{AreIds, IsHeld, messages}
use Rattle.ra_chan_client.specs.TakingBack.{taken_back, IsFresh}
use Rattle.ra_chan_client.proofs.Ascents.{ids_filter, keys_without}
use Rattle.ra_chan_client.proofs.Kept.{messages_without, same_parts}

-- ---- ids without the last one

below_filter : (n : ℕ) (ks : List ℕ) → AllByRecursion (λ id. id < n + 1) ks → AllByRecursion (λ id. id < n) (without n ks)
below_filter n [] h = tt
below_filter n (k ∷ ks) h = elim (cases_Bool (k == n)) [
  | inl t ↦ rw t (below_filter n ks h.1)
  | inr f ↦ let other = eqb-false k n f in let less : k < n = omega (arith, h.0) in rw f (less, below_filter n ks h.1)
]

pub ids_less : (n : ℕ) (ks : List ℕ) → AreIds (n + 1) ks → AreIds n (without n ks)
ids_less n ks h = record { ascending = (ids_filter (n + 1) (λ k. not (k == n)) ks h).ascending; below = below_filter n ks h.below }

pub entries_less : {X : Type 0} (n : ℕ) (es : List (ℕ × X)) → AreIds (n + 1) (keys_of es) → AreIds n (keys_of (filter (λ e. not (e.0 == n)) es))
entries_less n es h = rw (keys_without n es) (ids_less n (keys_of es) h)

-- ---- the next id is fresh

below_none : (n : ℕ) (ks : List ℕ) → AllByRecursion (λ id. id < n) ks → is_in n ks ≡ false
below_none n [] h = refl
below_none n (k ∷ ks) h = let other : (k == n) ≡ false = ne_eqb k n (omega (arith, h.0)) in rw (other, below_none n ks h.1) refl

entries_stay : {X : Type 0} (n : ℕ) (es : List (ℕ × X)) → AllByRecursion (λ id. id < n) (keys_of es) → filter (λ e. not (e.0 == n)) es ≡ es
entries_stay n [] h = refl
entries_stay n (e ∷ es) h = let other : (e.0 == n) ≡ false = ne_eqb e.0 n (omega (arith, h.0)) in rw (other, entries_stay n es h.1) refl

pub fresh_is : (c : Client) (es : List (ℕ × Packet)) → c.waiting ≡ messages es → IsHeld c.next es c.calls c.listeners → IsFresh c
fresh_is c es is held = record {
  calls = below_none c.next c.calls held.call_ids.below;
  listeners = below_none c.next c.listeners held.listener_ids.below;
  waiting = ap (λ (ms : List Message). filter (λ m. not (opens c.next m)) ms) is
      ∙ sym (messages_without c.next es held.requests) ∙ ap messages (entries_stay c.next es held.waiting_ids.below) ∙ sym is;
}

-- ---- the client is as it was

stays : (n : ℕ) (ks : List ℕ) → is_in n ks ≡ false → without n ks ≡ ks
stays n [] h = refl
stays n (k ∷ ks) h = elim (cases_Bool (k == n)) [
  | inl t ↦ let yes : is_in n (k ∷ ks) ≡ true = rw t refl in let no : true ≡ false = sym yes ∙ h in cc
  | inr f ↦ let rest : is_in n ks ≡ false = rw f at h in rw (f, stays n ks rest) refl
]

goes : (n : ℕ) (ks : List ℕ) → is_in n ks ≡ false → without n (ks ++ n ∷ []) ≡ ks
goes n [] h = rw (eq-eqb n n refl) refl
goes n (k ∷ ks) h = elim (cases_Bool (k == n)) [
  | inl t ↦ let yes : is_in n (k ∷ ks) ≡ true = rw t refl in let no : true ≡ false = sym yes ∙ h in cc
  | inr f ↦ let rest : is_in n ks ≡ false = rw f at h in rw (f, goes n ks rest) refl
]

unsent : (i : ℕ) (ms : List Message) (m : Message) → opens i m ≡ true → filter (λ x. not (opens i x)) (ms ++ m ∷ []) ≡ filter (λ x. not (opens i x)) ms
unsent i [] m h = rw h refl
unsent i (x ∷ ms) m h = elim (cases_Bool (opens i x)) [
  | inl t ↦ rw (t, unsent i ms m h) refl
  | inr f ↦ rw (f, unsent i ms m h) refl
]

waits_less : (b : Bool) (i : ℕ) (ms : List Message) (m : Message) → opens i m ≡ true → filter (λ x. not (opens i x)) (cond b ms (ms ++ m ∷ [])) ≡ filter (λ x. not (opens i x)) ms
waits_less true i ms m h = refl
waits_less false i ms m h = unsent i ms m h

-- the last request is gone, and its id is given again
without_last : ℕ → Client → Client
without_last id c = record c { next = id; waiting = still_unsent c id; calls = without id c.calls; listeners = without id c.listeners }

pub call_undone : (c : Client) (channel name : List ℕ) (arg : Tree) → IsFresh c → taken_back (after_call c (promise c.next channel name arg)) ≡ c
unfolding without_last
call_undone c channel name arg fresh =
    let m : Message = promise c.next channel name arg in
    let first : c.next + 1 - 1 ≡ c.next = omega arith in
    ap (λ (id : ℕ). without_last id (after_call c m)) first
    ∙ same_parts c.next c.ready _ _ _ _ _ _ (waits_less c.ready c.next c.waiting m (eq-eqb c.next c.next refl) ∙ fresh.waiting) (goes c.next c.calls fresh.calls) (stays c.next c.listeners fresh.listeners)

pub listen_undone : (c : Client) (channel event : List ℕ) (arg : Tree) → IsFresh c → taken_back (after_listen c (event_listen c.next channel event arg)) ≡ c
unfolding without_last
listen_undone c channel event arg fresh =
    let m : Message = event_listen c.next channel event arg in
    let first : c.next + 1 - 1 ≡ c.next = omega arith in
    ap (λ (id : ℕ). without_last id (after_listen c m)) first
    ∙ same_parts c.next c.ready _ _ _ _ _ _ (waits_less c.ready c.next c.waiting m (eq-eqb c.next c.next refl) ∙ fresh.waiting) (stays c.next c.calls fresh.calls) (goes c.next c.listeners fresh.listeners)
