-- Why a management dialer that is not over refuses a request.
use Rattle.std.proofs.Common.{◌≡◌, ℕ, ◌<◌, ◌-◌, Bool, true, false, not, cond, ltb, Option, Some, None, List, [], ◌∷◌, length, refl, ap, sym, ◌∙◌, subst}
use Rattle.std.proofs.lemmas.Bool.{ltb-true}
use Rattle.std.specs.Prelude.{option_map}
use Rattle.ra_base.specs.declared.key.Cause.{Cause}
use Rattle.ra_model.specs.Frames.{body_limit, last_id}
use Rattle.ra_model.specs.Endpoints.{sent}
use Rattle.ra_model.specs.Refusals.{or_fault, fault_if}
use Rattle.ra_values.specs.Tree.{Tree}
use Rattle.ra_ipc.specs.Messages.{Message, promise, event_listen}
use Rattle.ra_ipc.specs.Packets.{message_bytes}
use Rattle.ra_ipc.specs.ChannelClients.{sent_now}
use Rattle.ra_session.specs.Sessions.{Session, is_management}
use Rattle.ra_session.specs.SessionRefusals.{Refusal, ended, too_large, ids_spent, if_large, unless_kind, id_left, request_refusal, call_refusal, listen_refusal}
use Rattle.ra_dial.specs.Dialers.{Dialer}
use Rattle.ra_dial.specs.Requests.{MayRequest, IsTooMuch}

-- a cause that may be there is one of these
abbrev Within : Option Refusal → Type 0
Within cause = (refusal : Refusal) → cause ≡ Some refusal → IsTooMuch refusal

none_within : Within None
none_within refusal is = absurd cc

some_within : (refusal : Refusal) → IsTooMuch refusal → Within (Some refusal)
some_within refusal much other is = subst (λ (o : Option Refusal). in_some o) is much
  where
    in_some : Option Refusal → Type 0
    in_some None = ⊥
    in_some (Some r) = IsTooMuch r

or_within : (a b : Option Refusal) → Within a → Within b → Within (or_fault a b)
or_within None b first second = second
or_within (Some r) b first second = first

spent_within : (b : Bool) → Within (fault_if b ids_spent)
spent_within true = some_within ids_spent tt
spent_within false = none_within

large_by : (b : Bool) (n : ℕ) → (b ≡ true → body_limit < n) → Within (cond b (Some (too_large n)) None)
large_by true n above = some_within (too_large n) (above refl)
large_by false n above = none_within

large_within : (body : List ℕ) → Within (if_large (body ∷ []))
large_within body = large_by (ltb body_limit (length body)) (length body) (λ is. ltb-true body_limit (length body) is)

left_within : (b : Bool) (body : List ℕ) → Within (cond b (if_large (body ∷ [])) None)
left_within true body = large_within body
left_within false body = none_within

ended_within : (cause : Option Cause) → cause ≡ None → Within (option_map (λ by. ended by) cause)
ended_within None none = none_within
ended_within (Some by) none = absurd cc

kind_within : (is_right : Bool) → is_right ≡ true → Within (unless_kind is_right)
kind_within true is = none_within
kind_within false is = absurd cc

request_within : (m : Message) (s : Session) → s.cause ≡ None → is_management s.kind ≡ true → Within (request_refusal m s)
request_within m s going management =
    or_within (option_map (λ by. ended by) s.cause) _ (ended_within s.cause going)
    (or_within (unless_kind (is_management s.kind)) _ (kind_within (is_management s.kind) management)
    (or_within (cond (id_left s) (if_large (message_bytes m ∷ [])) None) _ (left_within (id_left s) (message_bytes m))
    (or_within (fault_if (not (id_left s)) ids_spent) _ (spent_within (not (id_left s))) (spent_within (ltb (last_id - sent s.peer.endpoint) (length (sent_now s.client m)))))))

pub call_within : (d : Dialer) (channel name : List ℕ) (arg : Tree) (refusal : Refusal) → MayRequest d → call_refusal channel name arg d.session ≡ Some refusal → IsTooMuch refusal
unfolding call_refusal
call_within d channel name arg refusal may is = request_within (promise d.session.client.next channel name arg) d.session (may.session may.going) may.management refusal is

pub listen_within : (d : Dialer) (channel event : List ℕ) (arg : Tree) (refusal : Refusal) → MayRequest d → listen_refusal channel event arg d.session ≡ Some refusal → IsTooMuch refusal
unfolding listen_refusal
listen_within d channel event arg refusal may is = request_within (event_listen d.session.client.next channel event arg) d.session (may.session may.going) may.management refusal is
