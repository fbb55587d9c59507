-- What the client asks for.
use Rattle.std.proofs.Common.{◌≡◌, ℕ, ◌<◌, ◌^◌, Bool, true, false, cond, not, eqb, ltb, Option, Some, None, List, [], ◌∷◌, ◌++◌, length, refl, ap, sym, ◌∙◌, subst, arith, append_assoc, inl, inr}
use Rattle.std.proofs.lemmas.Bool.{cond_both, cond-true, ltb-true, eqb-true, or_cases}
use Rattle.std.proofs.lemmas.List.{append-nil}
use Rattle.std.specs.Prelude.{option_map}
use Rattle.std.specs.List.{AllByRecursion}
use Rattle.ra_base.specs.declared.key.Cause.{Cause}
use Rattle.ra_model.specs.Refusals.{or_fault, fault_if}
use Rattle.ra_values.specs.Tree.{Tree}
use Rattle.ra_ipc.specs.Messages.{Message, promise, promise_cancel, event_listen, event_dispose, opens}
use Rattle.ra_ipc.specs.Packets.{MessageFits, message_bytes}
use Rattle.ra_ipc.specs.ChannelClients.{Client, is_in, sent_now, waiting_after, after_call, after_listen, after_cancel, after_dispose}
use Rattle.ra_ipc.specs.ChannelPairs.{Pair, Entry, Outcome, cancelled, call_made, call_cancelled, start, run}
use Rattle.ra_ipc.specs.ChannelPairs.{call as calls, listen as listens, cancel as cancels, dispose as disposes}
use Rattle.ra_session.specs.Sessions.{Session, is_management}
use Rattle.ra_session.specs.SessionCalls.{call, listen, cancel, dispose}
use Rattle.ra_session.specs.SessionRefusals.{Refusal, ended, ids_spent, no_such_call, if_large, if_spent, unless_kind, id_left, request_refusal, end_refusal, call_refusal, listen_refusal, cancel_refusal, dispose_refusal}
use Rattle.ra_session.specs.SessionStates.{Sayable}
use Rattle.ra_session.proofs.SaySteps.{cancel_sayable, dispose_sayable}
use Rattle.ra_channel_laws.specs.Channels.{AreIds, ChannelsHold}
use Rattle.ra_channel_laws.proofs.Lists.{all_both, all_kept}
use Rattle.ra_channel_laws.proofs.Said.{CanSay, sizes}
use Rattle.ra_channel_laws.proofs.Sides.{ClientFits, client_is, changes}
use Rattle.ra_channel_laws.proofs.Holding.{Holds, held, goes_on, said_still}

-- ---- what waits, and what goes out

sent_all : (P : Message → Type 0) (c : Client) (m : Message) → P m → AllByRecursion P (sent_now c m)
sent_all P c m h = cond_both c.ready (m ∷ []) [] (AllByRecursion P) (λ _. (h, tt)) (λ _. tt)

waiting_all : (P : Message → Type 0) (c : Client) (m : Message) → P m → AllByRecursion P c.waiting → AllByRecursion P (waiting_after c m)
waiting_all P c m h all =
    cond_both c.ready c.waiting (c.waiting ++ m ∷ []) (AllByRecursion P) (λ _. all) (λ _. all_both P c.waiting (m ∷ []) all (h, tt))

one_more : (ids : List ℕ) (n : ℕ) → n < 2 ^ 31 → AreIds ids → AreIds (ids ++ n ∷ [])
one_more ids n small all = all_both (λ (id : ℕ). id < 2 ^ 31) ids (n ∷ []) all (small, tt)

call_fits : (c : Client) (m : Message) → MessageFits m → Sayable m → c.next < 2 ^ 31 → ClientFits c → ClientFits (after_call c m)
call_fits c m fits small left h = record {
  waiting = waiting_all MessageFits c m fits h.waiting;
  sayable = waiting_all Sayable c m small h.sayable;
  calls = one_more c.calls c.next left h.calls;
  listeners = h.listeners;
}

listen_fits : (c : Client) (m : Message) → MessageFits m → Sayable m → c.next < 2 ^ 31 → ClientFits c → ClientFits (after_listen c m)
listen_fits c m fits small left h = record {
  waiting = waiting_all MessageFits c m fits h.waiting;
  sayable = waiting_all Sayable c m small h.sayable;
  calls = h.calls;
  listeners = one_more c.listeners c.next left h.listeners;
}

cancel_fits : (c : Client) (id : ℕ) → ClientFits c → ClientFits (after_cancel c id)
cancel_fits c id h = record {
  waiting = all_kept MessageFits (λ (m : Message). not (opens id m)) c.waiting h.waiting;
  sayable = all_kept Sayable (λ (m : Message). not (opens id m)) c.waiting h.sayable;
  calls = all_kept (λ (i : ℕ). i < 2 ^ 31) (λ (i : ℕ). not (eqb i id)) c.calls h.calls;
  listeners = h.listeners;
}

dispose_fits : (c : Client) (id : ℕ) → ClientFits c → ClientFits (after_dispose c id)
dispose_fits c id h = record {
  waiting = all_kept MessageFits (λ (m : Message). not (opens id m)) c.waiting h.waiting;
  sayable = all_kept Sayable (λ (m : Message). not (opens id m)) c.waiting h.sayable;
  calls = h.calls;
  listeners = all_kept (λ (i : ℕ). i < 2 ^ 31) (λ (i : ℕ). not (eqb i id)) c.listeners h.listeners;
}

-- ---- what is not refused

abbrev Asked : Option Cause → Bool → Option Refusal → Option Refusal → Type 0
Asked c left large spent = (c ≡ None) × (left ≡ true) × (large ≡ None) × (spent ≡ None)

asked : (c : Option Cause) (right left : Bool) (large spent : Option Refusal)
    → or_fault (option_map (λ cause. ended cause) c) (or_fault (unless_kind right) (or_fault (cond left large None) (or_fault (fault_if (not left) ids_spent) spent))) ≡ None
    → Asked c left large spent
asked None true true None spent is = (refl, refl, refl, is)
asked None true true (Some r) spent is = cc
asked None true false large spent is = cc
asked None false left large spent is = cc
asked (Some cause) right left large spent is = cc

-- a request that is not refused can be said
record CanAsk (m : Message) (d : Session) : Type 0 where
  can : CanSay (sent_now d.client m) d
  small : Sayable m
  left : ltb d.client.next (2 ^ 31) ≡ true

can_ask : (m : Message) (d : Session) → request_refusal m d ≡ None → CanAsk m d
can_ask m d is =
    let found : Asked d.cause (id_left d) (if_large (message_bytes m ∷ [])) (if_spent (length (sent_now d.client m)) d.peer.endpoint) =
    asked d.cause (is_management d.kind) (id_left d) (if_large (message_bytes m ∷ [])) (if_spent (length (sent_now d.client m)) d.peer.endpoint) is in
    let small : AllByRecursion Sayable (m ∷ []) = sizes (m ∷ []) found.2 in
    record {
      can = record { going = found.0; small = sent_all Sayable d.client m small.0; room = found.3 };
      small = small.0;
      left = found.1;
    }

abbrev Ending : Option Cause → Bool → Option Refusal → Type 0
Ending c known spent = (c ≡ None) × (known ≡ true) × (spent ≡ None)

ending : (c : Option Cause) (right known : Bool) (id : ℕ) (spent : Option Refusal)
    → or_fault (option_map (λ cause. ended cause) c) (or_fault (unless_kind right) (or_fault (fault_if (not known) (no_such_call id)) spent)) ≡ None
    → Ending c known spent
ending None true true id spent is = (refl, refl, is)
ending None true false id spent is = cc
ending None false known id spent is = cc
ending (Some cause) right known id spent is = cc

-- the end of a request that is not refused can be said
record CanEnd (id : ℕ) (ids : List ℕ) (m : Message) (d : Session) : Type 0 where
  can : CanSay (sent_now d.client m) d
  known : is_in id ids ≡ true

can_end : (id : ℕ) (ids : List ℕ) (m : Message) (d : Session) → Sayable m → end_refusal id ids m d ≡ None → CanEnd id ids m d
can_end id ids m d small is =
    let found : Ending d.cause (is_in id ids) (if_spent (length (sent_now d.client m)) d.peer.endpoint) =
    ending d.cause (is_management d.kind) (is_in id ids) id (if_spent (length (sent_now d.client m)) d.peer.endpoint) is in
    record { can = record { going = found.0; small = sent_all Sayable d.client m small; room = found.2 }; known = found.1 }

known_id : (id : ℕ) (ids : List ℕ) → is_in id ids ≡ true → AreIds ids → id < 2 ^ 31
known_id id [] is all = cc
known_id id (i ∷ ids) is all = elim (or_cases (eqb i id) (is_in id ids) is) [
  | inl same ↦ subst (λ (n : ℕ). n < 2 ^ 31) (eqb-true i id same) all.0
  | inr other ↦ known_id id ids other all.1
]

-- ---- the calls

pub asks_call : (context : Tree) (d s : Session) (settled : List (ℕ × Outcome)) (fired : List (ℕ × Tree)) (channel name : List ℕ) (arg : Tree) (now : ℕ)
    → call_refusal channel name arg d ≡ None → MessageFits (promise d.client.next channel name arg) → ChannelsHold context d s settled fired
    → ChannelsHold context (call channel name arg now d) s settled fired
unfolding call call_refusal
asks_call context d s settled fired channel name arg now admits fits h =
    let p : Pair = run h.steps start in
    let was : Holds context d s settled fired p = held h in
    let m : Message = promise d.client.next channel name arg in
    let can : CanAsk m d = can_ask m d admits in
    let same : d.client ≡ p.client = was.client.client in
    let left : ltb p.client.next (2 ^ 31) ≡ true = subst (λ (c : Client). ltb c.next (2 ^ 31) ≡ true) same can.left in
    let side = changes context d p.client p.entries (p.server_heard ++ p.to_server) (after_call d.client m) (d.entries ++ call_made d.client.next ∷ [])
    (sent_now d.client m) now (call_fits d.client m fits can.small (ltb-true d.client.next (2 ^ 31) can.left) was.client.fits)
    can.can (sent_all MessageFits d.client m fits) was.client in
    goes_on context (call channel name arg now d) s settled fired h.steps (calls channel name arg ∷ [])
    (subst (λ (q : Pair). Holds context (call channel name arg now d) s settled fired q) (sym (cond-true (ltb p.client.next (2 ^ 31)) _ _ left)) (record {
      client = client_is context (call channel name arg now d) _ _ _ _ _ _ (ap (λ (c : Client). after_call c (promise c.next channel name arg)) same)
          (ap (λ (es : List Entry). es ++ call_made d.client.next ∷ []) was.client.entries ∙ ap (λ (c : Client). p.entries ++ call_made c.next ∷ []) same)
          (append_assoc p.server_heard p.to_server (sent_now d.client m)
          ∙ ap (λ (c : Client). p.server_heard ++ (p.to_server ++ sent_now c (promise c.next channel name arg))) same) side;
      server = was.server;
      settles = was.settles;
      fires = was.fires;
      packets_back = said_still (length s.peer.heard) p _ s.packets refl refl refl refl was.packets_back;
      heard_back = was.heard_back;
    }))

pub asks_listen : (context : Tree) (d s : Session) (settled : List (ℕ × Outcome)) (fired : List (ℕ × Tree)) (channel event : List ℕ) (arg : Tree) (now : ℕ)
    → listen_refusal channel event arg d ≡ None → MessageFits (event_listen d.client.next channel event arg) → ChannelsHold context d s settled fired
    → ChannelsHold context (listen channel event arg now d) s settled fired
unfolding listen listen_refusal
asks_listen context d s settled fired channel event arg now admits fits h =
    let p : Pair = run h.steps start in
    let was : Holds context d s settled fired p = held h in
    let m : Message = event_listen d.client.next channel event arg in
    let can : CanAsk m d = can_ask m d admits in
    let same : d.client ≡ p.client = was.client.client in
    let left : ltb p.client.next (2 ^ 31) ≡ true = subst (λ (c : Client). ltb c.next (2 ^ 31) ≡ true) same can.left in
    let side = changes context d p.client p.entries (p.server_heard ++ p.to_server) (after_listen d.client m) d.entries
    (sent_now d.client m) now (listen_fits d.client m fits can.small (ltb-true d.client.next (2 ^ 31) can.left) was.client.fits)
    can.can (sent_all MessageFits d.client m fits) was.client in
    goes_on context (listen channel event arg now d) s settled fired h.steps (listens channel event arg ∷ [])
    (subst (λ (q : Pair). Holds context (listen channel event arg now d) s settled fired q) (sym (cond-true (ltb p.client.next (2 ^ 31)) _ _ left)) (record {
      client = client_is context (listen channel event arg now d) _ _ _ _ _ _ (ap (λ (c : Client). after_listen c (event_listen c.next channel event arg)) same)
          (was.client.entries ∙ sym (append-nil p.entries))
          (append_assoc p.server_heard p.to_server (sent_now d.client m)
          ∙ ap (λ (c : Client). p.server_heard ++ (p.to_server ++ sent_now c (event_listen c.next channel event arg))) same) side;
      server = was.server;
      settles = was.settles;
      fires = was.fires;
      packets_back = said_still (length s.peer.heard) p _ s.packets refl refl refl refl was.packets_back;
      heard_back = was.heard_back;
    }))

pub asks_cancel : (context : Tree) (d s : Session) (settled : List (ℕ × Outcome)) (fired : List (ℕ × Tree)) (id now : ℕ) → cancel_refusal id d ≡ None
    → ChannelsHold context d s settled fired → ChannelsHold context (cancel id now d) s (settled ++ (id, cancelled) ∷ []) fired
unfolding cancel cancel_refusal
asks_cancel context d s settled fired id now admits h =
    let p : Pair = run h.steps start in
    let was : Holds context d s settled fired p = held h in
    let m : Message = promise_cancel id in
    let can : CanEnd id d.client.calls m d = can_end id d.client.calls m d (cancel_sayable id) admits in
    let same : d.client ≡ p.client = was.client.client in
    let known : is_in id p.client.calls ≡ true = subst (λ (c : Client). is_in id c.calls ≡ true) same can.known in
    let small : id < 2 ^ 31 = known_id id d.client.calls can.known was.client.fits.calls in
    let fits : MessageFits m = (small, (omega arith, (omega arith, (omega (arith, small), tt))), tt) in
    let after : List (ℕ × Outcome) = settled ++ (id, cancelled) ∷ [] in
    let side = changes context d p.client p.entries (p.server_heard ++ p.to_server) (after_cancel d.client id) (d.entries ++ call_cancelled id ∷ [])
    (sent_now d.client m) now (cancel_fits d.client id was.client.fits) can.can (sent_all MessageFits d.client m fits) was.client in
    goes_on context (cancel id now d) s after fired h.steps (cancels id ∷ [])
    (subst (λ (q : Pair). Holds context (cancel id now d) s after fired q) (sym (cond-true (is_in id p.client.calls) _ _ known)) (record {
      client = client_is context (cancel id now d) _ _ _ _ _ _ (ap (λ (c : Client). after_cancel c id) same)
          (ap (λ (es : List Entry). es ++ call_cancelled id ∷ []) was.client.entries)
          (append_assoc p.server_heard p.to_server (sent_now d.client m) ∙ ap (λ (c : Client). p.server_heard ++ (p.to_server ++ sent_now c m)) same) side;
      server = was.server;
      settles = ap (λ (t : List (ℕ × Outcome)). t ++ (id, cancelled) ∷ []) was.settles;
      fires = was.fires;
      packets_back = said_still (length s.peer.heard) p _ s.packets refl refl refl refl was.packets_back;
      heard_back = was.heard_back;
    }))

pub asks_dispose : (context : Tree) (d s : Session) (settled : List (ℕ × Outcome)) (fired : List (ℕ × Tree)) (id now : ℕ) → dispose_refusal id d ≡ None
    → ChannelsHold context d s settled fired → ChannelsHold context (dispose id now d) s settled fired
unfolding dispose dispose_refusal
asks_dispose context d s settled fired id now admits h =
    let p : Pair = run h.steps start in
    let was : Holds context d s settled fired p = held h in
    let m : Message = event_dispose id in
    let can : CanEnd id d.client.listeners m d = can_end id d.client.listeners m d (dispose_sayable id) admits in
    let same : d.client ≡ p.client = was.client.client in
    let known : is_in id p.client.listeners ≡ true = subst (λ (c : Client). is_in id c.listeners ≡ true) same can.known in
    let small : id < 2 ^ 31 = known_id id d.client.listeners can.known was.client.fits.listeners in
    let fits : MessageFits m = (small, (omega arith, (omega arith, (omega (arith, small), tt))), tt) in
    let side = changes context d p.client p.entries (p.server_heard ++ p.to_server) (after_dispose d.client id) d.entries
    (sent_now d.client m) now (dispose_fits d.client id was.client.fits) can.can (sent_all MessageFits d.client m fits) was.client in
    goes_on context (dispose id now d) s settled fired h.steps (disposes id ∷ [])
    (subst (λ (q : Pair). Holds context (dispose id now d) s settled fired q) (sym (cond-true (is_in id p.client.listeners) _ _ known)) (record {
      client = client_is context (dispose id now d) _ _ _ _ _ _ (ap (λ (c : Client). after_dispose c id) same) was.client.entries
          (append_assoc p.server_heard p.to_server (sent_now d.client m) ∙ ap (λ (c : Client). p.server_heard ++ (p.to_server ++ sent_now c m)) same) side;
      server = was.server;
      settles = was.settles;
      fires = was.fires;
      packets_back = said_still (length s.peer.heard) p _ s.packets refl refl refl refl was.packets_back;
      heard_back = was.heard_back;
    }))
