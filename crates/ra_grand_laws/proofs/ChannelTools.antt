-- What the tools answer can be written, and so can the events that are fired with it: each listener that is active has asked to be one.
use Rattle.std.proofs.Common.{◌≡◌, ℕ, ◌+◌, ◌<◌, ◌≤◌, ◌^◌, Bool, true, false, eqb, Option, Some, None, List, [], ◌∷◌, ◌++◌, refl, sym, subst, arith}
use Rattle.std.specs.Prelude.{bytes_eq, codes, ◌&&◌, if◌then◌else◌, option_map}
use Rattle.std.specs.List.{AllByRecursion}
use Rattle.std.proofs.lemmas.Bool.{cond_both, eq-eqb, eqb-true}
use Rattle.json.proofs.Printed.Utf8.{IsUtf8-are_ascii}
use Rattle.ra_values.specs.Spelling.{levels, Fits}
use Rattle.ra_values.specs.Tree.{Tree, undefined, text, buffer, vs_buffer, array, object, int}
use Rattle.ra_ipc.specs.Messages.{Message, promise, promise_cancel, event_listen, event_dispose, initialize, response, event_fire, Reply, success, error, error_obj, opens, number_of}
use Rattle.ra_ipc.specs.Packets.{MessageFits, reply_body}
use Rattle.ra_ipc.specs.ChannelPairs.{Pair, Outcome, start, run}
use Rattle.ra_ipc.specs.ChannelServers.{Server, Active, waiting_call, handed_call, waiting_listen, listener, holds, fire_one}
use Rattle.ra_ipc.proofs.Kept.{always}
use Rattle.ra_session.specs.Hearing.{Happening, work, host, call_settled, event_fired}
use Rattle.ra_session.specs.SessionCalls.{Firing, fired_by, answer_packets}
use Rattle.ra_session.specs.SessionRefusals.{Refusal, ended, stale, no_link, too_long, bad_ipc, too_large, ids_spent, no_such_call, wrong_kind}
use Rattle.ra_session.specs.Sessions.{Session}
use Rattle.ra_app.specs.Effects.{Effect, Event}
use Rattle.ra_app.specs.ToolsTable.{tools, length_of}
use Rattle.ra_channel_laws.specs.Channels.{ChannelsHold}
use Rattle.ra_channel_laws.proofs.Lists.{OfSome, all_both, all_found}
use Rattle.ra_grand_runs.specs.SetUps.{context}
use Rattle.ra_grand_runs.specs.Works.{Telling, answers, speaks, fired_on, answered_by, telling, large_answer, unless_large}
use Rattle.ra_run_laws.proofs.Lists.{there_is}
use Rattle.ra_grand_laws.specs.ChannelParts.{WorkFits}

-- ---- the tools

abbrev EventFits : Option Event → Type 0
EventFits None = Unit {0}
EventFits (Some e) = Fits levels e.body

record EffectFits (done : Effect) : Type 0 where
  answer : Fits levels (reply_body done.answer)
  event : EventFits done.event

fits_if : (b : Bool) (x y : Effect) → EffectFits x → EffectFits y → EffectFits (if b then x else y)
fits_if true x y one other = one
fits_if false x y one other = other

length_fits : (arg : Tree) → Fits levels arg → EffectFits (length_of arg)
length_fits undefined fits = record { answer = (IsUtf8-are_ascii _ refl, omega arith); event = tt }
length_fits (text t) fits = record { answer = fits.1; event = tt }
length_fits (buffer b) fits = record { answer = (IsUtf8-are_ascii _ refl, omega arith); event = tt }
length_fits (vs_buffer b) fits = record { answer = (IsUtf8-are_ascii _ refl, omega arith); event = tt }
length_fits (array items) fits = record { answer = (IsUtf8-are_ascii _ refl, omega arith); event = tt }
length_fits (object t) fits = record { answer = (IsUtf8-are_ascii _ refl, omega arith); event = tt }
length_fits (int n) fits = record { answer = (IsUtf8-are_ascii _ refl, omega arith); event = tt }

tools_fit : (name : List ℕ) (arg : Tree) (cancelled : Bool) → Fits levels arg → EffectFits (tools name arg cancelled)
tools_fit name arg cancelled fits =
    fits_if cancelled _ _ (record { answer = (IsUtf8-are_ascii _ refl, omega arith); event = tt })
    (fits_if (bytes_eq name (codes "echo")) _ _ (record { answer = fits; event = tt })
    (fits_if (bytes_eq name (codes "length")) _ _ (length_fits arg fits)
    (fits_if (bytes_eq name (codes "fail")) _ _ (record { answer = (IsUtf8-are_ascii _ refl, omega arith); event = tt })
    (fits_if (bytes_eq name (codes "say")) _ _ (record { answer = tt; event = fits })
    (record { answer = (IsUtf8-are_ascii _ refl, omega arith); event = tt })))))

-- ---- what is told

abbrev FiringFits : Option Firing → Type 0
FiringFits None = Unit {0}
FiringFits (Some fire) = Fits levels fire.body

abbrev pub TellingFits : Telling → Type 0
TellingFits (answers id reply fire) = (id < 2 ^ 31) × Fits levels (reply_body reply) × FiringFits fire
TellingFits (speaks body) = Unit {0}

answered_fits : (id : ℕ) (channel : List ℕ) (done : Effect) → id < 2 ^ 31 → EffectFits done → TellingFits (answered_by id channel done)
answered_fits id channel done small fits = (small, fits.answer, by done.event fits.event)
  where
    by : (o : Option Event) → EventFits o → FiringFits (option_map (fired_on channel) o)
    by None h = tt
    by (Some e) h = h

pub telling_fits : (w : Happening) (t : Telling) → telling w ≡ Some t → WorkFits w → TellingFits t
telling_fits (work call) t is (small, arg, name) =
    subst (λ (x : Telling). TellingFits x) (there_is is)
    (answered_fits call.id call.channel (tools call.name call.arg call.cancelled) small (tools_fit call.name call.arg call.cancelled arg))
telling_fits (host body) t is fits = subst (λ (x : Telling). TellingFits x) (there_is is) tt
telling_fits (call_settled id outcome) t is fits = absurd cc
telling_fits (event_fired id body) t is fits = absurd cc

large_fits : (t : Telling) → TellingFits t → TellingFits (large_answer t)
large_fits (answers id reply fire) (small, body, event) = (small, (IsUtf8-are_ascii _ refl, omega arith), tt)
large_fits (speaks body) fits = tt

-- also where another answer stands in for one that is too large
pub sayable_fits : (refused : Option Refusal) (t : Telling) → TellingFits t → TellingFits (unless_large refused t)
sayable_fits None t fits = fits
sayable_fits (Some (too_large len)) t fits = large_fits t fits
sayable_fits (Some (ended cause)) t fits = fits
sayable_fits (Some (stale current)) t fits = fits
sayable_fits (Some no_link) t fits = fits
sayable_fits (Some (too_long stated)) t fits = fits
sayable_fits (Some (bad_ipc bad message)) t fits = fits
sayable_fits (Some ids_spent) t fits = fits
sayable_fits (Some (no_such_call id)) t fits = fits
sayable_fits (Some wrong_kind) t fits = fits

-- ---- ids of what is active

abbrev id_in : Active → ℕ
id_in (waiting_call id channel name arg cancelled until) = id
id_in (handed_call id) = id
id_in (waiting_listen id channel event until) = id
id_in (listener id channel event) = id

abbrev IsSmall : Active → Type 0
IsSmall a = id_in a < 2 ^ 31

opened_by : (i id rest : ℕ) (b : Bool) → eqb id i ≡ b → id < 2 ^ 31 → (1 ≤ rest → i < 2 ^ 31) → 1 ≤ (if b then 1 else 0) + rest → i < 2 ^ 31
opened_by i id rest true is small more some = subst (λ (k : ℕ). k < 2 ^ 31) (eqb-true id i is) small
opened_by i id rest false is small more some = more (omega (arith, some))

opened_first : (i rest : ℕ) → (1 ≤ rest → i < 2 ^ 31) → (m : Message) → MessageFits m → 1 ≤ (if opens i m then 1 else 0) + rest → i < 2 ^ 31
opened_first i rest more (promise id channel name arg) fit some = opened_by i id rest (eqb id i) refl fit.0 more some
opened_first i rest more (promise_cancel id) fit some = more (omega (arith, some))
opened_first i rest more (event_listen id channel event arg) fit some = opened_by i id rest (eqb id i) refl fit.0 more some
opened_first i rest more (event_dispose id) fit some = more (omega (arith, some))
opened_first i rest more initialize fit some = more (omega (arith, some))
opened_first i rest more (response id reply) fit some = more (omega (arith, some))
opened_first i rest more (event_fire id body) fit some = more (omega (arith, some))

-- a request with this id was heard, and can be written
opened_small : (i : ℕ) (ms : List Message) → AllByRecursion MessageFits ms → 1 ≤ number_of (opens i) ms → i < 2 ^ 31
opened_small i [] fits some = absurd (omega (arith, some))
opened_small i (m ∷ ms) fits some = opened_first i (number_of (opens i) ms) (λ more. opened_small i ms fits.1 more) m fits.0 some

holds_own : (a : Active) → holds (id_in a) a ≡ true
holds_own (waiting_call id channel name arg cancelled until) = eq-eqb id id refl
holds_own (handed_call id) = eq-eqb id id refl
holds_own (waiting_listen id channel event until) = eq-eqb id id refl
holds_own (listener id channel event) = eq-eqb id id refl

first_counts : (a : Active) (rest : List Active) → 1 ≤ number_of (holds (id_in a)) (a ∷ rest)
first_counts a rest = by (holds (id_in a) a) (holds_own a)
  where
    by : (b : Bool) → b ≡ true → 1 ≤ (if b then 1 else 0) + number_of (holds (id_in a)) rest
    by true is = omega arith
    by false is = absurd cc

all_small : (rest : List Active) (ms : List Message) → AllByRecursion MessageFits ms → ((i : ℕ) → number_of (holds i) rest ≤ number_of (opens i) ms) → AllByRecursion IsSmall rest
all_small [] ms fits most = tt
all_small (a ∷ rest) ms fits most = (
  opened_small (id_in a) ms fits (let one = first_counts a rest in let all = most (id_in a) in omega (arith, one, all)),
  all_small rest ms fits (λ i. let all = most i in omega (arith, all)),
)

front_fits : (P : Message → Type 0) (xs ys : List Message) → AllByRecursion P (xs ++ ys) → AllByRecursion P xs
front_fits P [] ys all = tt
front_fits P (x ∷ xs) ys all = (all.0, front_fits P xs ys all.1)

-- of a server whose peer is a client
active_small : (d s : Session) (settled : List (ℕ × Outcome)) (fired : List (ℕ × Tree)) → ChannelsHold context d s settled fired → AllByRecursion IsSmall s.server.active
active_small d s settled fired h =
    let p : Pair = run h.steps start in
    let heard : AllByRecursion MessageFits (p.server_heard ++ p.to_server) =
    (subst (λ (ms : List Message). AllByRecursion MessageFits ms) h.packets h.client_end.fits).1 in
    subst (λ (v : Server). AllByRecursion IsSmall v.active) (sym h.server)
    (all_small p.server.active p.server_heard (front_fits MessageFits p.server_heard p.to_server heard) (always h.steps).active)

-- ---- packets

fire_fits : (channel event : List ℕ) (body : Tree) → Fits levels body → (a : Active) → IsSmall a → OfSome MessageFits (fire_one channel event body a)
fire_fits channel event body fits (waiting_call id c name arg cancelled until) small = tt
fire_fits channel event body fits (handed_call id) small = tt
fire_fits channel event body fits (waiting_listen id c e until) small = tt
fire_fits channel event body fits (listener id c e) small =
    cond_both (bytes_eq channel c && bytes_eq event e) _ _ (λ (o : Option Message). OfSome MessageFits o)
    (λ _. (small, (omega arith, (omega arith, (omega (arith, small), tt))), fits)) (λ _. tt)

response_fits : (id : ℕ) (reply : Reply) → id < 2 ^ 31 → Fits levels (reply_body reply) → MessageFits (response id reply)
response_fits id (success body) small fits = (small, (omega arith, (omega arith, (omega (arith, small), tt))), fits)
response_fits id (error body) small fits = (small, (omega arith, (omega arith, (omega (arith, small), tt))), fits)
response_fits id (error_obj body) small fits = (small, (omega arith, (omega arith, (omega (arith, small), tt))), fits)

fired_fits : (s : Session) (fire : Option Firing) → AllByRecursion IsSmall s.server.active → FiringFits fire → AllByRecursion MessageFits (fired_by s.server fire)
fired_fits s None small fits = tt
fired_fits s (Some fire) small fits =
    all_found IsSmall MessageFits (fire_one fire.channel fire.event fire.body) (fire_fits fire.channel fire.event fire.body fits) s.server.active small

pub packets_fit : (d s : Session) (settled : List (ℕ × Outcome)) (fired : List (ℕ × Tree)) (id : ℕ) (reply : Reply) (fire : Option Firing) → ChannelsHold context d s settled fired
    → TellingFits (answers id reply fire) → AllByRecursion MessageFits (answer_packets s.server id reply fire)
packets_fit d s settled fired id reply fire h (small, body, event) =
    all_both MessageFits (fired_by s.server fire) (response id reply ∷ []) (fired_fits s fire (active_small d s settled fired h) event)
    (response_fits id reply small body, tt)
