-- What a client asks for, in the run of its channels; and a client that begins.
use Rattle.std.proofs.Common.{◌≡◌, ℕ, ◌<◌, ◌≤◌, ◌^◌, Bool, true, false, not, cond, Option, Some, None, List, [], ◌∷◌, ◌++◌, length, refl, arith}
use Rattle.std.specs.Prelude.{option_map}
use Rattle.std.proofs.lemmas.Bool.{ltb-true}
use Rattle.json.proofs.Printed.Utf8.{IsUtf8-are_ascii}
use Rattle.ra_base.specs.declared.key.Cause.{Cause}
use Rattle.ra_base.specs.declared.kind.Kind.{Kind}
use Rattle.ra_base.specs.declared.kind.Kind.TheVariants.{Management, ExtensionHost, Tunnel}
use Rattle.ra_model.specs.Frames.{body_limit}
use Rattle.ra_model.specs.Refusals.{or_fault, fault_if}
use Rattle.ra_values.specs.Spelling.{levels, Fits}
use Rattle.ra_values.specs.Tree.{Tree, undefined, text}
use Rattle.ra_values.specs.ValueBytes.{number_bytes, value_bytes}
use Rattle.ra_ipc.specs.ChannelPairs.{Outcome, cancelled}
use Rattle.ra_ipc.specs.Messages.{promise, event_listen}
use Rattle.ra_ipc.specs.Packets.{MessageFits}
use Rattle.ra_session.specs.Saying.{dialling, serving}
use Rattle.ra_session.specs.SessionCalls.{call, listen, cancel, dispose, say_body}
use Rattle.ra_session.specs.SessionRefusals.{Refusal, ended, ids_spent, unless_kind, id_left, call_refusal, listen_refusal, cancel_refusal, dispose_refusal, say_refusal}
use Rattle.ra_session.specs.Sessions.{Session, is_management}
use Rattle.ra_channel_laws.proofs.Asking.{asks_call, asks_listen, asks_cancel, asks_dispose}
use Rattle.ra_channel_laws.proofs.Beginning.{channels_begin}
use Rattle.ra_grand_runs.specs.SetUps.{context}
use Rattle.ra_grand_laws.specs.ChannelParts.{HearsNone, ChannelsOf}
use Rattle.ra_grand_laws.proofs.ChannelSides.{Stays}
use Rattle.ra_grand_laws.proofs.ChannelTurns.{no_management}

-- ---- refusals

-- it is of the other kind
pub other_kind : (c : Option Cause) (right : Bool) (others : Option Refusal) → right ≡ false → or_fault (option_map (λ cause. ended cause) c) (or_fault (unless_kind right) others) ≡ None → ⊥
other_kind None false others is none = cc
other_kind None true others is none = cc
other_kind (Some cause) right others is none = cc

id_by : (c : Option Cause) (right left : Bool) (large spent : Option Refusal)
    → or_fault (option_map (λ cause. ended cause) c) (or_fault (unless_kind right) (or_fault (cond left large None) (or_fault (fault_if (not left) ids_spent) spent))) ≡ None
    → left ≡ true
id_by None true true large spent none = refl
id_by None true false large spent none = absurd cc
id_by None false left large spent none = absurd cc
id_by (Some cause) right left large spent none = absurd cc

-- the id of a request that is not refused
call_id : (channel name : List ℕ) (arg : Tree) (d : Session) → call_refusal channel name arg d ≡ None → d.client.next < 2 ^ 31
unfolding call_refusal
call_id channel name arg d none = ltb-true d.client.next (2 ^ 31) (id_by d.cause (is_management d.kind) (id_left d) _ _ none)

listen_id : (channel event : List ℕ) (arg : Tree) (d : Session) → listen_refusal channel event arg d ≡ None → d.client.next < 2 ^ 31
unfolding listen_refusal
listen_id channel event arg d none = ltb-true d.client.next (2 ^ 31) (id_by d.cause (is_management d.kind) (id_left d) _ _ none)

-- an extension host asks for nothing
no_call : (channel name : List ℕ) (arg : Tree) (d : Session) → HearsNone d → call_refusal channel name arg d ≡ None → ⊥
unfolding call_refusal
no_call channel name arg d h none = other_kind d.cause (is_management d.kind) _ (no_management d.kind h.kind) none

no_listen : (channel event : List ℕ) (arg : Tree) (d : Session) → HearsNone d → listen_refusal channel event arg d ≡ None → ⊥
unfolding listen_refusal
no_listen channel event arg d h none = other_kind d.cause (is_management d.kind) _ (no_management d.kind h.kind) none

no_cancel : (id : ℕ) (d : Session) → HearsNone d → cancel_refusal id d ≡ None → ⊥
unfolding cancel_refusal
no_cancel id d h none = other_kind d.cause (is_management d.kind) _ (no_management d.kind h.kind) none

no_dispose : (id : ℕ) (d : Session) → HearsNone d → dispose_refusal id d ≡ None → ⊥
unfolding dispose_refusal
no_dispose id d h none = other_kind d.cause (is_management d.kind) _ (no_management d.kind h.kind) none

of_management : (kind : Kind) → kind ≡ Management → not (is_management kind) ≡ false
of_management Management is = refl
of_management ExtensionHost is = absurd cc
of_management Tunnel is = absurd cc

-- and management says no other messages
pub no_say : (body : List ℕ) (d : Session) → d.kind ≡ Management → say_refusal body d ≡ None → ⊥
unfolding say_refusal
no_say body d is none = other_kind d.cause (not (is_management d.kind)) _ (of_management d.kind is) none

-- ---- what is asked for can be written

promise_fits : (id : ℕ) (channel name : List ℕ) (arg : Tree) → id < 2 ^ 31 → Fits levels (text channel) → Fits levels (text name) → Fits levels arg
    → MessageFits (promise id channel name arg)
promise_fits id channel name arg small one two fits = (small, (omega arith, (omega arith, (omega (arith, small), (one, (two, tt))))), fits)

listen_fits : (id : ℕ) (channel event : List ℕ) → id < 2 ^ 31 → Fits levels (text channel) → Fits levels (text event)
    → MessageFits (event_listen id channel event undefined)
listen_fits id channel event small one two = (small, (omega arith, (omega arith, (omega (arith, small), (one, (two, tt))))), tt)

-- ---- calls of a client's session

pub call_stays : (kind : Kind) (o : Option Session) (channel name : List ℕ) (arg : Tree) (now : ℕ) (d : Session) → Fits levels (text channel) → Fits levels (text name) → Fits levels arg
    → call_refusal channel name arg d ≡ None → Stays kind o d (call channel name arg now d)
call_stays Management o channel name arg now d one two fits none settled fired (s, is, h) = (
  s,
  is,
  asks_call context d s settled fired channel name arg now none
      (promise_fits d.client.next channel name arg (call_id channel name arg d none) one two fits) h,
)
call_stays ExtensionHost o channel name arg now d one two fits none settled fired (own, other, nothing, empty) = absurd (no_call channel name arg d own none)
call_stays Tunnel o channel name arg now d one two fits none settled fired h = tt

pub listen_stays : (kind : Kind) (o : Option Session) (channel event : List ℕ) (now : ℕ) (d : Session) → Fits levels (text channel) → Fits levels (text event)
    → listen_refusal channel event undefined d ≡ None → Stays kind o d (listen channel event undefined now d)
listen_stays Management o channel event now d one two none settled fired (s, is, h) = (
  s,
  is,
  asks_listen context d s settled fired channel event undefined now none
      (listen_fits d.client.next channel event (listen_id channel event undefined d none) one two) h,
)
listen_stays ExtensionHost o channel event now d one two none settled fired (own, other, nothing, empty) = absurd (no_listen channel event undefined d own none)
listen_stays Tunnel o channel event now d one two none settled fired h = tt

pub cancel_gives : (kind : Kind) (o : Option Session) (id now : ℕ) (d : Session) (settled : List (ℕ × Outcome)) (fired : List (ℕ × Tree))
    → cancel_refusal id d ≡ None → ChannelsOf kind o d settled fired → ChannelsOf kind o (cancel id now d) (settled ++ (id, cancelled) ∷ []) fired
cancel_gives Management o id now d settled fired none (s, is, h) = (s, is, asks_cancel context d s settled fired id now none h)
cancel_gives ExtensionHost o id now d settled fired none (own, other, nothing, empty) = absurd (no_cancel id d own none)
cancel_gives Tunnel o id now d settled fired none h = tt

pub dispose_stays : (kind : Kind) (o : Option Session) (id now : ℕ) (d : Session) → dispose_refusal id d ≡ None → Stays kind o d (dispose id now d)
dispose_stays Management o id now d none settled fired (s, is, h) = (s, is, asks_dispose context d s settled fired id now none h)
dispose_stays ExtensionHost o id now d none settled fired (own, other, nothing, empty) = absurd (no_dispose id d own none)
dispose_stays Tunnel o id now d none settled fired h = tt

pub said_hears : (body : List ℕ) (now : ℕ) (d : Session) → HearsNone d → HearsNone (say_body body now d)
unfolding say_body
said_hears body now d h = record { kind = h.kind; cause = h.cause }

pub say_stays : (kind : Kind) (o : Option Session) (body : List ℕ) (now : ℕ) (d : Session) → say_refusal body d ≡ None → Stays kind o d (say_body body now d)
say_stays Management o body now d none settled fired (s, is, h) = absurd (no_say body d h.client_end.kind none)
say_stays ExtensionHost o body now d none settled fired (own, other, nothing, empty) = (said_hears body now d own, other, nothing, empty)
say_stays Tunnel o body now d none settled fired h = tt

-- ---- a client that begins

context_small : length (value_bytes context) ≤ body_limit
unfolding value_bytes number_bytes
context_small = omega arith

pub channels_new : (kind : Kind) (now : ℕ) → ChannelsOf kind None (dialling kind context now) [] []
channels_new Management now = (serving Management now, (now, refl), channels_begin context now now (IsUtf8-are_ascii _ refl, omega arith) context_small)
channels_new ExtensionHost now = (record { kind = refl; cause = λ is. cc }, tt, refl, refl)
channels_new Tunnel now = tt
