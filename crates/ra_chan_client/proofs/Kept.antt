-- The requests that wait.
use Rattle.std.proofs.Common.{◌≡◌, ℕ, ℤ, w32, to_z, of_z, ◌<◌, ◌^◌, List, [], ◌∷◌, ◌++◌, map, Bool, not, refl, ap, ◌∙◌, arith, inl, inr}
use Rattle.std.proofs.lemmas.Bool.{cases_Bool, cond_both}
use Rattle.std.specs.Prelude.{◌==◌, IsUtf8}
use Rattle.std.specs.List.{AllByRecursion, filter}
use Rattle.std.specs.Map.{values_of}
use Rattle.ra_values.specs.Tree.{Tree}
use Rattle.ra_ipc.specs.Messages.{Message, promise, promise_cancel, event_listen, event_dispose, initialize, response, event_fire, opens}
use Rattle.ra_ipc.specs.Packets.{MessageFits}
use Rattle.ra_ipc.specs.ChannelClients.{Client}
use Rattle.std.proofs.lemmas.Int.{of_z-to_z}
use Rattle.ra_ipc.specs.View.{message, id_of}
use Rattle.ra_ipc.specs.declared.packet.Packet.{Packet}
use Rattle.ra_chan_client.specs.Held.{Requests, AreRequests, messages}
use Rattle.ra_chan_client.specs.View.{RequestFits}

pub promise_fits : (id : ℕ) (channel name : List ℕ) (arg : Tree) → id < 2 ^ 31 → IsUtf8 channel → IsUtf8 name → RequestFits channel name arg
    → MessageFits (promise id channel name arg)
promise_fits id channel name arg small channel_is name_is fits =
    (small, (omega arith, (omega arith, (omega arith, ((channel_is, fits.0), ((name_is, fits.1), tt))))), fits.2)

pub listen_fits : (id : ℕ) (channel event : List ℕ) (arg : Tree) → id < 2 ^ 31 → IsUtf8 channel → IsUtf8 event → RequestFits channel event arg
    → MessageFits (event_listen id channel event arg)
listen_fits id channel event arg small channel_is event_is fits =
    (small, (omega arith, (omega arith, (omega arith, ((channel_is, fits.0), ((event_is, fits.1), tt))))), fits.2)

pub requests_push : (es : List (ℕ × Packet)) (i : ℕ) (p : Packet) → AreRequests es → Requests i (message p) → MessageFits (message p) → AreRequests (es ++ (i, p) ∷ [])
requests_push [] i p h r f = (r, f, tt)
requests_push (e ∷ es) i p h r f = (h.0, h.1, requests_push es i p h.2 r f)

pub requests_filter : (q : ℕ × Packet → Bool) (es : List (ℕ × Packet)) → AreRequests es → AreRequests (filter q es)
requests_filter q [] h = tt
requests_filter q (e ∷ es) h = cond_both (q e) (e ∷ filter q es) (filter q es) AreRequests (λ _. (h.0, h.1, requests_filter q es h.2)) (λ _. requests_filter q es h.2)

pub messages_push : (es : List (ℕ × Packet)) (i : ℕ) (p : Packet) → messages (es ++ (i, p) ∷ []) ≡ messages es ++ message p ∷ []
messages_push [] i p = refl
messages_push (e ∷ es) i p = ap (λ (w : List Message). message e.1 ∷ w) (messages_push es i p)

opens_is : (i k : ℕ) (m : Message) → Requests k m → opens i m ≡ (k == i)
opens_is i k (promise id channel name arg) r = ap (λ (n : ℕ). n == i) r
opens_is i k (promise_cancel id) r = absurd r
opens_is i k (event_listen id channel event arg) r = ap (λ (n : ℕ). n == i) r
opens_is i k (event_dispose id) r = absurd r
opens_is i k initialize r = absurd r
opens_is i k (response id reply) r = absurd r
opens_is i k (event_fire id body) r = absurd r

pub messages_without : (i : ℕ) (es : List (ℕ × Packet)) → AreRequests es → messages (filter (λ e. not (e.0 == i)) es) ≡ filter (λ m. not (opens i m)) (messages es)
messages_without i [] h = refl
messages_without i (e ∷ es) h = elim (cases_Bool (e.0 == i)) [
  | inl t ↦ rw (opens_is i e.0 (message e.1) h.0, t) (messages_without i es h.2)
  | inr f ↦ rw (opens_is i e.0 (message e.1) h.0, f) (ap (λ (w : List Message). message e.1 ∷ w) (messages_without i es h.2))
]

pub messages_are : (es : List (ℕ × Packet)) → map message (values_of es) ≡ messages es
messages_are [] = refl
messages_are (e ∷ es) = ap (λ (w : List Message). message e.1 ∷ w) (messages_are es)

pub all_fit : (es : List (ℕ × Packet)) → AreRequests es → AllByRecursion (λ p. MessageFits (message p)) (values_of es)
all_fit [] h = tt
all_fit (e ∷ es) h = (h.1, all_fit es h.2)

-- ---- clients by their parts

abbrev pub made : ℕ → Bool → List Message → List ℕ → List ℕ → Client
made next is_ready waiting calls listeners = record { next = next; ready = is_ready; waiting = waiting; calls = calls; listeners = listeners }

pub same_parts : (next : ℕ) (is_ready : Bool) (w v : List Message) (k l q m : List ℕ) → w ≡ v → k ≡ l → q ≡ m → made next is_ready w k q ≡ made next is_ready v l m
same_parts next is_ready w v k l q m e f g = cc

-- ---- an id as it stands in a packet

pub id_back : (z : ℤ) (n : ℕ) → z ≡ to_z w32 n → n < 2 ^ 32 → id_of (to_z w32 (of_z w32 z)) ≡ n
id_back z n e small = ap (λ (y : ℤ). id_of (to_z w32 (of_z w32 y))) e ∙ ap (λ (m : ℕ). id_of (to_z w32 m)) (of_z-to_z w32 n small) ∙ of_z-to_z w32 n small
