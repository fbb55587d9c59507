-- A message has one spelling, which is read as the message.
use Rattle.std.proofs.Common.{◌≡◌, ℕ, ◌≤◌, List, [], ◌++◌, length, take, drop, None, Ok, Err, Result, refl, sym, ap, subst, ◌∙◌, append_assoc}
use Rattle.std.specs.Prelude.{IfErr, IfOk, not, if◌then◌else◌}
use Rattle.std.proofs.lemmas.List.{take-append-drop, take_all, append-nil}
use Rattle.std.proofs.lemmas.Bool.{lt-ltb}
use Rattle.ra_values.specs.Tree.{Tree, Trees, undefined, text, buffer, vs_buffer, array, object, int, more}
use Rattle.ra_values.specs.Spelling.{Spells, levels}
use Rattle.ra_values.specs.Reading.{Read}
use Rattle.ra_values.specs.ReadValue.{value_at}
use Rattle.ra_values.proofs.Again.{value_again}
use Rattle.ra_values.proofs.Once.{spelled_once, spelled_fits}
use Rattle.ra_values.proofs.Spelled.{value_is}
use Rattle.ra_ipc.specs.Messages.{Message, success, error, error_obj, promise, promise_cancel, event_listen, event_dispose, initialize, response, event_fire}
use Rattle.ra_ipc.specs.declared.packet.Packet.{Packet}
use Rattle.ra_ipc.specs.declared.fault.PacketFault.{PacketFault}
use Rattle.ra_ipc.specs.declared.fault.PacketFault.TheVariants as faults
use Rattle.ra_ipc.specs.declared.header.Head.{Head}
use Rattle.ra_ipc.specs.declared.header.Head.TheVariants.{Promise, Cancel, Listen, Dispose, Initialize, Success, Error, ErrorObj, Fire}
use Rattle.ra_ipc.specs.Heads.{IsHead, head_message, head_with_body}
use Rattle.ra_ipc.specs.View.{message}
use Rattle.ra_ipc.specs.Packets.{header, body, id_fits, SpellsMessage, MessageFits, message_bytes}
use Rattle.ra_ipc.specs.ReadMessage.{Reads, is_undefined, header_fault, with_body, value_in, message_at}
use Rattle.ra_ipc.proofs.HeadFits.{head_fits}
use Rattle.ra_ipc.proofs.Readings.{reads_value, behind_header, at_end}

pub message_is : (m : Message) → MessageFits m → SpellsMessage m (message_bytes m)
unfolding message_bytes
message_is m fits = (_, _, fits.0, value_is levels (header m) fits.1, value_is levels (body m) fits.2, refl)

pub message_fits : (m : Message) (bytes : List ℕ) → SpellsMessage m bytes → MessageFits m
message_fits m bytes s = (s.2, spelled_fits levels (header m) s.0 s.3, spelled_fits levels (body m) s.1 s.4)

header_good : (m : Message) → id_fits m → header_fault (header m) ≡ None
header_good (promise id channel name arg) h = rw (lt-ltb _ _ h) refl
header_good (promise_cancel id) h = rw (lt-ltb _ _ h) refl
header_good (event_listen id channel event arg) h = rw (lt-ltb _ _ h) refl
header_good (event_dispose id) h = rw (lt-ltb _ _ h) refl
header_good initialize h = refl
header_good (response id (success b)) h = rw (lt-ltb _ _ h) refl
header_good (response id (error b)) h = rw (lt-ltb _ _ h) refl
header_good (response id (error_obj b)) h = rw (lt-ltb _ _ h) refl
header_good (event_fire id b) h = rw (lt-ltb _ _ h) refl

both_make : (m : Message) → with_body (header m) (body m) ≡ Ok m
both_make (promise id channel name arg) = refl
both_make (promise_cancel id) = refl
both_make (event_listen id channel event arg) = refl
both_make (event_dispose id) = refl
both_make initialize = refl
both_make (response id (success b)) = refl
both_make (response id (error b)) = refl
both_make (response id (error_obj b)) = refl
both_make (event_fire id b) = refl

pub spelled_is_read : (m : Message) (bytes : List ℕ) → SpellsMessage m bytes → message_at bytes ≡ Ok m
spelled_is_read m bytes s =
    let h : reads_value bytes bytes ≡ Ok (header m, s.1) = ap (value_in bytes) (ap (value_at levels) s.5 ∙ value_again levels (header m) s.0 s.1 s.3) in
    let b : reads_value bytes s.1 ≡ Ok (body m, []) = ap (value_in bytes) (ap (value_at levels) (sym (append-nil s.1)) ∙ value_again levels (body m) s.1 [] s.4) in
    behind_header bytes s.1 (header m) h ∙ at_end bytes s.1 [] (header m) (body m) m (header_good m s.2) b (both_make m)

refuted : (m : Message) (bytes : List ℕ) (e : PacketFault) → SpellsMessage m bytes → message_at bytes ≡ Err e → ⊥
refuted m bytes e s wrong = let read = spelled_is_read m bytes s in absurd cc

abbrev done : {A : Type 0} → A → Result A PacketFault
done x = Ok x

same_message : (r : Result Message PacketFault) (m n : Message) → r ≡ Ok m → r ≡ Ok n → m ≡ n
same_message r m n p q = cc

same_read : (r : Read Tree) (x y : Tree × List ℕ) → r ≡ Ok x → r ≡ Ok y → (x.0 ≡ y.0) × (x.1 ≡ y.1)
same_read r x y p q = let e : x ≡ y = cc in (ap (λ (z : Tree × List ℕ). z.0) e, ap (λ (z : Tree × List ℕ). z.1) e)

begins : (t u : Tree) (a b x y : List ℕ) → Spells levels t a → Spells levels u b → a ++ x ≡ b ++ y → (t ≡ u) × (x ≡ y)
begins t u a b x y p q e = same_read (value_at levels (b ++ y)) (t, x) (u, y) (ap (value_at levels) (sym e) ∙ value_again levels t a x p) (value_again levels u b y q)

pub begins_none : (m n : Message) (a b x y : List ℕ) → SpellsMessage m a → SpellsMessage n b → a ++ x ≡ b ++ y → (m ≡ n) × (a ≡ b)
begins_none m n a b x y s t e =
    let whole : s.0 ++ (s.1 ++ x) ≡ t.0 ++ (t.1 ++ y) = sym (append_assoc s.0 s.1 x) ∙ ap (λ (w : List ℕ). w ++ x) (sym s.5) ∙ e ∙ ap (λ (w : List ℕ). w ++ y) t.5 ∙ append_assoc t.0 t.1 y in
    let h = begins (header m) (header n) s.0 t.0 (s.1 ++ x) (t.1 ++ y) s.3 t.3 whole in
    let r = begins (body m) (body n) s.1 t.1 x y s.4 t.4 h.1 in
    let same : m ≡ n = same_message (with_body (header n) (body n)) m n (ap (λ (u : Tree). with_body u (body n)) (sym h.0) ∙ ap (with_body (header m)) (sym r.0) ∙ both_make m) (both_make n) in
    let front : s.0 ≡ t.0 = spelled_once levels (header m) s.0 t.0 s.3 (subst (λ (u : Tree). Spells levels u t.0) (sym h.0) t.3) in
    let back : s.1 ≡ t.1 = spelled_once levels (body m) s.1 t.1 s.4 (subst (λ (u : Tree). Spells levels u t.1) (sym r.0) t.4) in
    (same, s.5 ∙ ap (λ (w : List ℕ). w ++ s.1) front ∙ ap (λ (w : List ℕ). t.0 ++ w) back ∙ sym t.5)

made_of : {A : Type 0} (x y : A) → done x ≡ Ok y → x ≡ y
made_of x y e = cc

without_body : (b : Tree) (m n : Message) → (if not (is_undefined b) then Err faults.BadBody else Ok m) ≡ Ok n → (n ≡ m) × (undefined ≡ b)
without_body undefined m n e = (sym (made_of m n e), refl)
without_body (text t) m n e = absurd cc
without_body (buffer t) m n e = absurd cc
without_body (vs_buffer t) m n e = absurd cc
without_body (array ts) m n e = absurd cc
without_body (object t) m n e = absurd cc
without_body (int i) m n e = absurd cc

any_body : (m n : Message) → done m ≡ Ok n → (n ≡ m) × (body m ≡ body m)
any_body m n e = (sym (made_of m n e), refl)

-- a header and a body that make a message
parts : (h : Head) (b : Tree) (m : Message) → head_with_body h b ≡ Ok m → (m ≡ head_message h b) × (body (head_message h b) ≡ b)
parts (Promise t) b m e = any_body (head_message (Promise t) b) m e
parts (Cancel id) b m e = without_body b (head_message (Cancel id) b) m e
parts (Listen t) b m e = any_body (head_message (Listen t) b) m e
parts (Dispose id) b m e = without_body b (head_message (Dispose id) b) m e
parts Initialize b m e = without_body b (head_message Initialize b) m e
parts (Success id) b m e = any_body (head_message (Success id) b) m e
parts (Error id) b m e = any_body (head_message (Error id) b) m e
parts (ErrorObj id) b m e = any_body (head_message (ErrorObj id) b) m e
parts (Fire id) b m e = any_body (head_message (Fire id) b) m e

-- a header and a body that make a message, and the bytes of the body
pub made : (h : Head) (code : ℕ) (elements : Trees) (t b : Tree) (m : Message) (bytes : List ℕ) → t ≡ array (more (int code) elements) → IsHead h code elements → head_with_body h b ≡ Ok m → Spells levels b bytes
    → id_fits m × (t ≡ header m) × Spells levels (body m) bytes
made h code elements t b m bytes e is one s =
    let f = head_fits h code elements is in
    let p = parts h b m one in
    (subst id_fits (sym p.0) (f.id b), e ∙ sym (f.header b) ∙ ap header (sym p.0), subst (λ (x : Tree). Spells levels x bytes) (sym (ap body p.0 ∙ p.1)) s)

-- the two parts of the bytes
pub joined : (m : Message) (t : Tree) (bytes : List ℕ) (n : ℕ) → id_fits m × (t ≡ header m) × Spells levels (body m) (drop n bytes) → Spells levels t (take n bytes) → SpellsMessage m bytes
joined m t bytes n f s = (take n bytes, drop n bytes, f.0, subst (λ (x : Tree). Spells levels x (take n bytes)) f.1 s, f.2, sym (take-append-drop n bytes))

pub packet_found : (r : Result Packet PacketFault) (h : Head) (code : ℕ) (elements : Trees) (t b : Tree) (bytes : List ℕ) (k : ℕ) → t ≡ array (more (int code) elements) → IsHead h code elements
    → Reads message r (head_with_body h b) → Spells levels b (take k bytes) → length bytes ≤ k → IfOk r (λ p. id_fits (message p) × (t ≡ header (message p)) × Spells levels (body (message p)) bytes)
packet_found (Ok p) h code elements t b bytes k e is one s long = made h code elements t b (message p) bytes e is one (subst (Spells levels b) (take_all k bytes long) s)
packet_found (Err fault) h code elements t b bytes k e is one s long = tt

pub whole_found : (r : Result Packet PacketFault) (t : Tree) (bytes : List ℕ) (n : ℕ) → IfOk r (λ p. id_fits (message p) × (t ≡ header (message p)) × Spells levels (body (message p)) (drop n bytes))
    → Spells levels t (take n bytes) → IfOk r (λ p. SpellsMessage (message p) bytes)
whole_found (Ok p) t bytes n f s = joined (message p) t bytes n f s
whole_found (Err fault) t bytes n f s = tt

pub all_fit : (r : Result Packet PacketFault) (bytes : List ℕ) → IfOk r (λ p. SpellsMessage (message p) bytes) → IfOk r (λ p. MessageFits (message p))
all_fit (Ok p) bytes s = message_fits (message p) bytes s
all_fit (Err fault) bytes s = tt

-- bytes that are a spelling are refused for want of memory alone
pub not_refused : (m : Message) (bytes : List ℕ) (r : Result Packet PacketFault) → SpellsMessage m bytes → Reads message r (message_at bytes) → IfErr r (λ e. e ≡ faults.NoMemory)
not_refused m bytes (Ok p) s answer = tt
not_refused m bytes (Err (faults.Value at what)) s answer = absurd (refuted m bytes (faults.Value at what) s (answer (λ e. absurd cc)))
not_refused m bytes (Err (faults.BadHeader at)) s answer = absurd (refuted m bytes (faults.BadHeader at) s (answer (λ e. absurd cc)))
not_refused m bytes (Err faults.BadBody) s answer = absurd (refuted m bytes faults.BadBody s (answer (λ e. absurd cc)))
not_refused m bytes (Err (faults.Trailing at)) s answer = absurd (refuted m bytes (faults.Trailing at) s (answer (λ e. absurd cc)))
not_refused m bytes (Err faults.NoMemory) s answer = refl
