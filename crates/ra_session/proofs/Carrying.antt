-- What faults carry.
use Rattle.std.proofs.Common.{◌≡◌, ◌≢◌, ◌<◌, ℕ, Bool, true, false, cond, ltb, Option, Some, None, List, [], ◌∷◌, refl, ap, ◌∙◌, subst, map, length, ◌&&◌, inl, inr}
use Rattle.std.specs.Prelude.{Result, Ok, Err}
use Rattle.std.proofs.lemmas.Bool.{cases_Bool, and_parts, ltb-true}
use Rattle.ra_base.specs.declared.key.Cause.{Cause}
use Rattle.ra_base.specs.declared.kind.Kind.{Kind}
use Rattle.ra_model.specs.Frames.{body_limit}
use Rattle.ra_model.specs.FirstFrame.{is_too_long, stated}
use Rattle.ra_model.specs.Refusals.{or_fault, fault_if, take_fault, feed_fault, begin_fault, say_fault}
use Rattle.ra_model.specs.declared.session.Phase.{Phase}
use Rattle.ra_model.specs.Endpoints.{is_ended, is_linked}
use Rattle.ra_proto.specs.SayAll.{first_large, say_all_fault}
use Rattle.ra_ipc.specs.Packets.{message_bytes}
use Rattle.std.specs.List.{AllByRecursion}
use Rattle.ra_model.specs.declared.fault.EndFault.{EndFault}
use Rattle.ra_model.specs.declared.fault.EndFault.TheVariants as ends
use Rattle.ra_values.specs.Tree.{Tree}
use Rattle.ra_ipc.specs.declared.fault.PacketFault.{PacketFault}
use Rattle.ra_ipc.specs.Messages.{Message, promise, promise_cancel, event_listen, event_dispose, initialize, response, event_fire, is_request}
use Rattle.ra_ipc.specs.ReadMessage.{message_at, context_at}
use Rattle.ra_ipc.specs.ChannelServers.{Server, is_active}
use Rattle.ra_ipc.specs.ChannelClients.{Client}
use Rattle.ra_ipc.specs.ChannelPackets.{active_id}
use Rattle.ra_session.specs.Sessions.{is_management}
use Rattle.ra_session.specs.Hearing.{BadMessage, unreadable, active, spoils, heard, heard_context, heard_reading, heard_packet, heard_request, is_context}
use Rattle.ra_session.specs.Faults.{fault_of}
use Rattle.ra_session.specs.SessionRefusals.{Refusal, too_large, if_large as large, IsEnd, IsRefusal}
use Rattle.ra_session.specs.SessionStates.{Sayable}
use Rattle.ra_session.specs.declared.values.SessionFault.{SessionFault}
use Rattle.ra_session.specs.declared.values.SessionFault.TheVariants as faults
use Rattle.ra_session.specs.Carried.{HasFault, IsRequestOf, TurnCarries, AttachCarries, SayCarries}
use Rattle.ra_session.proofs.Refusing.{none_large}

same_bad : (a b : BadMessage) → spoils a ≡ spoils b → a ≡ b
same_bad a b is = cc

same_id : (a b : ℕ) → Some a ≡ Some b → a ≡ b
same_id a b is = cc

when_active : (b : Bool) (i id : ℕ) → cond b (Some i) None ≡ Some id → i ≡ id
when_active true i id is = same_id i id is
when_active false i id is = absurd (let no : None ≡ Some id = is in cc)

asks : (server : Server) (m : Message) (id : ℕ) → active_id server m ≡ Some id → IsRequestOf id m
asks server (promise i channel name arg) id is = when_active (is_active i server) i id is
asks server (event_listen i channel event arg) id is = when_active (is_active i server) i id is
asks server (promise_cancel i) id is = absurd (let no : None ≡ Some id = is in cc)
asks server (event_dispose i) id is = absurd (let no : None ≡ Some id = is in cc)
asks server initialize id is = absurd (let no : None ≡ Some id = is in cc)
asks server (response i reply) id is = absurd (let no : None ≡ Some id = is in cc)
asks server (event_fire i body) id is = absurd (let no : None ≡ Some id = is in cc)

by_active : (server : Server) (client : Client) (m : Message) (body : List ℕ) (now : ℕ) (bad : BadMessage) (found : Option ℕ) → active_id server m ≡ found → message_at body ≡ Ok m
    → heard_request server client m now found ≡ spoils bad → HasFault bad body
by_active server client m body now bad None found reads is = absurd cc
by_active server client m body now bad (Some id) found reads is =
    subst (λ (b : BadMessage). HasFault b body) (same_bad (active id) bad is) (m, reads, asks server m id found)

by_packet : (server : Server) (client : Client) (m : Message) (body : List ℕ) (now : ℕ) (bad : BadMessage) → message_at body ≡ Ok m
    → heard_packet server client m now ≡ spoils bad → HasFault bad body
by_packet server client m body now bad reads is = elim (cases_Bool (is_request m)) [
  | inl t ↦ by_active server client m body now bad (active_id server m) refl reads (rw t at is)
  | inr f ↦ let no = rw f at is in absurd cc
]

by_reading : (server : Server) (client : Client) (body : List ℕ) (now : ℕ) (bad : BadMessage) (reading : Result Message PacketFault) → message_at body ≡ reading
    → heard_reading server client reading now ≡ spoils bad → HasFault bad body
by_reading server client body now bad (Ok m) reads is = by_packet server client m body now bad reads is
by_reading server client body now bad (Err fault) reads is = subst (λ (b : BadMessage). HasFault b body) (same_bad (unreadable fault) bad is) (inl reads)

by_context : (server : Server) (client : Client) (body : List ℕ) (bad : BadMessage) (reading : Result Tree PacketFault) → context_at body ≡ reading
    → heard_context server client reading ≡ spoils bad → HasFault bad body
by_context server client body bad (Ok t) reads is = absurd cc
by_context server client body bad (Err fault) reads is = subst (λ (b : BadMessage). HasFault b body) (same_bad (unreadable fault) bad is) (inr reads)

-- a message that spoils a session has that fault
pub heard_carries : (kind : Kind) (serves : Bool) (server : Server) (client : Client) (id : ℕ) (body : List ℕ) (now : ℕ) (bad : BadMessage)
    → heard kind serves server client id body now ≡ spoils bad → HasFault bad body
unfolding heard
heard_carries kind serves server client id body now bad is = elim (cases_Bool (is_management kind)) [
  | inr f ↦ let no = rw f at is in absurd cc
  | inl t ↦ let managed = rw t at is in elim (cases_Bool (is_context serves id)) [
    | inl c ↦ by_context server client body bad (context_at body) refl (rw c at managed)
    | inr p ↦ by_reading server client body now bad (message_at body) refl (rw p at managed)
  ]
]

-- ---- faults of the endpoint

same_fault : (x y : EndFault) → Some x ≡ Some y → x ≡ y
same_fault x y is = cc

by_one : (P : EndFault → Type 0) (a : Bool) (x fault : EndFault) → (a ≡ true → P x) → fault_if a x ≡ Some fault → P fault
by_one P true x fault px is = subst P (same_fault x fault is) (px refl)
by_one P false x fault px is = absurd (let no : None ≡ Some fault = is in cc)

-- one of three, where its cause is there
by_three : (P : EndFault → Type 0) (a b c : Bool) (x y z fault : EndFault) → (a ≡ true → P x) → (b ≡ true → P y) → (c ≡ true → P z)
    → or_fault (fault_if a x) (or_fault (fault_if b y) (fault_if c z)) ≡ Some fault → P fault
by_three P true b c x y z fault px py pz is = subst P (same_fault x fault is) (px refl)
by_three P false true c x y z fault px py pz is = subst P (same_fault y fault is) (py refl)
by_three P false false true x y z fault px py pz is = subst P (same_fault z fault is) (pz refl)
by_three P false false false x y z fault px py pz is = absurd (let no : None ≡ Some fault = is in cc)

-- any fault but want of memory has its cause
by_cause : (P : EndFault → Type 0) (cause : Option EndFault) (fault : EndFault) → P ends.NoMemory → (cause ≡ Some fault → P fault)
    → (fault ≢ ends.NoMemory → cause ≡ Some fault) → P fault
by_cause P cause ends.NoMemory memory then by = memory
by_cause P cause ends.Ended memory then by = then (by (λ same. cc))
by_cause P cause (ends.Stale current) memory then by = then (by (λ same. cc))
by_cause P cause ends.NoLink memory then by = then (by (λ same. cc))
by_cause P cause ends.NotJoining memory then by = then (by (λ same. cc))
by_cause P cause (ends.TooLarge len) memory then by = then (by (λ same. cc))
by_cause P cause ends.IdsSpent memory then by = then (by (λ same. cc))
by_cause P cause (ends.TooLong n) memory then by = then (by (λ same. cc))

abbrev AtTurn : EndFault → Type 0
AtTurn fault = TurnCarries (fault_of fault)

long_is : (text : List ℕ) → is_too_long text ≡ true → body_limit < stated text
unfolding is_too_long
long_is text is = ltb-true body_limit (stated text) (and_parts _ _ is).1

pub take_carries : (phase : Phase) (unread : List ℕ) (fault : EndFault) → (fault ≢ ends.NoMemory → take_fault phase unread ≡ Some fault) → TurnCarries (fault_of fault)
take_carries phase unread fault by = by_cause AtTurn (take_fault phase unread) fault tt (λ is.
    by_one AtTurn (is_linked phase && is_too_long unread) (ends.TooLong (stated unread)) fault (λ long. long_is unread (and_parts _ _ long).1) is) by

pub feed_carries : (phase : Phase) (current epoch : ℕ) (fault : EndFault) → (fault ≢ ends.NoMemory → feed_fault phase current epoch ≡ Some fault) → TurnCarries (fault_of fault)
feed_carries phase current epoch fault by = by_cause AtTurn (feed_fault phase current epoch) fault tt (λ is.
    by_three AtTurn _ _ _ ends.Ended (ends.Stale current) ends.NoLink fault (λ a. tt) (λ b. tt) (λ c. tt) is) by

-- ---- what is said

same_refusal : (x y : Refusal) → Some x ≡ Some y → x ≡ y
same_refusal x y is = cc

-- the first that is too large is the fault
by_large : (P : EndFault → Type 0) (bodies : List (List ℕ)) (rest : Option EndFault) (fault : EndFault)
    → ((len : ℕ) → large bodies ≡ Some (too_large len) → P (ends.TooLarge len)) → (rest ≡ Some fault → P fault) → or_fault (first_large bodies) rest ≡ Some fault → P fault
by_large P [] rest fault first then is = then is
by_large P (body ∷ bodies) rest fault first then is = elim (cases_Bool (ltb body_limit (length body))) [
  | inl t ↦ let here : Some (ends.TooLarge (length body)) ≡ Some fault = rw t at is in subst P (same_fault _ _ here) (first (length body) (rw t refl))
  | inr f ↦ by_large P bodies rest fault (λ len at. first len (rw f at)) then (rw f at is)
]

by_say_all : (P : EndFault → Type 0) (ended : Bool) (bodies : List (List ℕ)) (spent : Bool) (fault : EndFault) → P ends.Ended → P ends.IdsSpent
    → ((len : ℕ) → large bodies ≡ Some (too_large len) → P (ends.TooLarge len))
    → or_fault (fault_if ended ends.Ended) (or_fault (first_large bodies) (fault_if spent ends.IdsSpent)) ≡ Some fault → P fault
by_say_all P true bodies spent fault over none first is = subst P (same_fault ends.Ended fault is) over
by_say_all P false bodies spent fault over none first is =
    by_large P bodies (fault_if spent ends.IdsSpent) fault first (λ rest. by_one P spent ends.IdsSpent fault (λ s. none) rest) is

pub say_all_carries : (is_right : Bool) (phase : Phase) (last : ℕ) (bodies : List (List ℕ)) (fault : EndFault)
    → (fault ≢ ends.NoMemory → say_all_fault phase last bodies ≡ Some fault) → SayCarries is_right bodies (fault_of fault)
say_all_carries is_right phase last bodies fault by =
    by_cause (λ (f : EndFault). SayCarries is_right bodies (fault_of f)) (say_all_fault phase last bodies) fault tt (λ is.
    by_say_all (λ (f : EndFault). SayCarries is_right bodies (fault_of f)) (is_ended phase) bodies _ fault tt tt (λ len at. at) is) by

-- messages that are not too large
pub sayable_carries : (phase : Phase) (last : ℕ) (ms : List Message) (bodies : List (List ℕ)) (fault : EndFault) → AllByRecursion Sayable ms → bodies ≡ map message_bytes ms
    → (fault ≢ ends.NoMemory → say_all_fault phase last bodies ≡ Some fault) → TurnCarries (fault_of fault)
sayable_carries phase last ms bodies fault fit same by =
    by_cause AtTurn (say_all_fault phase last bodies) fault tt (λ is.
    by_say_all AtTurn (is_ended phase) bodies _ fault tt tt (λ len at. let none : large bodies ≡ None = ap (λ (bs : List (List ℕ)). large bs) same ∙ none_large ms fit in cc) is) by

one_large : (body : List ℕ) → ltb body_limit (length body) ≡ true → large (body ∷ []) ≡ Some (too_large (length body))
one_large body is = rw is refl

pub say_carries : (is_right : Bool) (phase : Phase) (last : ℕ) (body : List ℕ) (fault : EndFault)
    → (fault ≢ ends.NoMemory → say_fault phase last (length body) ≡ Some fault) → SayCarries is_right (body ∷ []) (fault_of fault)
say_carries is_right phase last body fault by =
    by_cause (λ (f : EndFault). SayCarries is_right (body ∷ []) (fault_of f)) (say_fault phase last (length body)) fault tt (λ is.
    by_three (λ (f : EndFault). SayCarries is_right (body ∷ []) (fault_of f)) _ _ _ ends.Ended (ends.TooLarge (length body)) ends.IdsSpent fault
    (λ a. tt) (λ b. one_large body b) (λ c. tt) is) by

-- what goes out now, or waits
pub when_carries : (goes is_right : Bool) (phase : Phase) (last : ℕ) (body : List ℕ) (fault : EndFault)
    → (fault ≢ ends.NoMemory → cond goes (say_fault phase last (length body)) None ≡ Some fault) → SayCarries is_right (body ∷ []) (fault_of fault)
when_carries true is_right phase last body fault by = say_carries is_right phase last body fault by
when_carries false is_right phase last body fault by =
    by_cause (λ (f : EndFault). SayCarries is_right (body ∷ []) (fault_of f)) None fault tt (λ is. absurd (let no : None ≡ Some fault = is in cc)) by

-- ---- what a session itself refuses

large_only : (bodies : List (List ℕ)) (r : Refusal) → large bodies ≡ Some r → (len : ℕ) × (too_large len ≡ r)
large_only [] r is = absurd (let no : None ≡ Some r = is in cc)
large_only (body ∷ bodies) r is = elim (cases_Bool (ltb body_limit (length body))) [
  | inl t ↦ (length body, same_refusal _ _ (rw t at is))
  | inr f ↦ large_only bodies r (rw f at is)
]

pub refused_carries : (is_right : Bool) (bodies : List (List ℕ)) (fault : SessionFault) → IsRefusal fault (large bodies) → SayCarries is_right bodies fault
refused_carries is_right bodies (faults.TooLarge len) is = is
refused_carries is_right bodies faults.WrongKind is = let only = large_only bodies _ is in absurd (let no = only.1 in cc)
refused_carries is_right bodies (faults.BadIpc fault message) is = let only = large_only bodies _ is in absurd (let no = only.1 in cc)
refused_carries is_right bodies (faults.TooLong n) is = let only = large_only bodies _ is in absurd (let no = only.1 in cc)
refused_carries is_right bodies (faults.Stale current) is = let only = large_only bodies _ is in absurd (let no = only.1 in cc)
refused_carries is_right bodies faults.NoLink is = let only = large_only bodies _ is in absurd (let no = only.1 in cc)
refused_carries is_right bodies (faults.Ended cause) is = tt
refused_carries is_right bodies faults.IdsSpent is = tt
refused_carries is_right bodies (faults.NoSuchCall id) is = tt
refused_carries is_right bodies faults.NoMemory is = tt

-- ---- a link that begins

pub ended_attach : (fault : SessionFault) (cause : Option Cause) → IsEnd fault cause → AttachCarries fault
ended_attach (faults.Ended by) cause is = tt
ended_attach (faults.Stale current) cause is = tt
ended_attach faults.NoLink cause is = absurd is
ended_attach (faults.TooLong n) cause is = absurd is
ended_attach (faults.BadIpc fault message) cause is = absurd is
ended_attach (faults.TooLarge len) cause is = absurd is
ended_attach faults.IdsSpent cause is = absurd is
ended_attach (faults.NoSuchCall id) cause is = absurd is
ended_attach faults.WrongKind cause is = absurd is
ended_attach faults.NoMemory cause is = tt

-- a link is refused as ended or as stale
begins_by : (over stands : Bool) (current : ℕ) (fault : EndFault) → or_fault (fault_if over ends.Ended) (fault_if stands (ends.Stale current)) ≡ Some fault
    → AttachCarries (fault_of fault)
begins_by true stands current fault is = subst (λ (o : Option EndFault). in_some o) is tt
  where
    in_some : Option EndFault → Type 0
    in_some None = ⊥
    in_some (Some f) = AttachCarries (fault_of f)
begins_by false true current fault is = subst (λ (o : Option EndFault). in_some o) is tt
  where
    in_some : Option EndFault → Type 0
    in_some None = ⊥
    in_some (Some f) = AttachCarries (fault_of f)
begins_by false false current fault is = absurd cc

pub begun_attach : (phase : Phase) (current epoch : ℕ) (fault : EndFault) → (fault ≢ ends.NoMemory → begin_fault phase current epoch ≡ Some fault)
    → AttachCarries (fault_of fault)
begun_attach phase current epoch ends.NoMemory by = tt
begun_attach phase current epoch ends.Ended by = tt
begun_attach phase current epoch (ends.Stale n) by = tt
begun_attach phase current epoch ends.NoLink by = begins_by _ _ current ends.NoLink (by (λ same. cc))
begun_attach phase current epoch ends.NotJoining by = begins_by _ _ current ends.NotJoining (by (λ same. cc))
begun_attach phase current epoch (ends.TooLarge len) by = begins_by _ _ current (ends.TooLarge len) (by (λ same. cc))
begun_attach phase current epoch ends.IdsSpent by = begins_by _ _ current ends.IdsSpent (by (λ same. cc))
begun_attach phase current epoch (ends.TooLong n) by = begins_by _ _ current (ends.TooLong n) (by (λ same. cc))
