-- What the client does in a handshake.
use Rattle.std.specs.Prelude.{ℕ, Bool, true, false, ◌&&◌, List, Option, Some, None, codes, if◌then◌else◌}
use Rattle.std.specs.Option.{is_some, is_none, option_and_then}
use Rattle.serde_json.specs.Data.{Data}
use Rattle.serde_json.specs.Find.{as_object}
use Rattle.ra_base.specs.declared.kind.Kind.{Kind}
use Rattle.ra_base.specs.declared.kind.Kind.TheVariants.{Management, ExtensionHost, Tunnel}
use Rattle.ra_shake.specs.declared.client.ClientStep.{ClientStep}
use Rattle.ra_shake.specs.declared.client.ClientStep.TheVariants.{Say, Done, Refused, Unexpected}
use Rattle.ra_shake.specs.States.{ClientState}
use Rattle.ra_shake.specs.Reading.{reading, member_of, text_of_member, has_type}
use Rattle.ra_shake.specs.Texts.{connection_text}

-- the number by which a client asks for a kind
abbrev pub kind_number : Kind → ℕ
kind_number Management = 1
kind_number ExtensionHost = 2
kind_number Tunnel = 3

abbrev pub with_reason : Option (List ℕ) → ClientStep
with_reason None = Unexpected
with_reason (Some reason) = Refused reason

-- a refusal, or nothing that the client knows
unfoldable pub refusal : Option Data → ClientStep
refusal value = if has_type (codes "error") value then with_reason (text_of_member (codes "reason") value) else Unexpected

-- it signs the server's challenge
abbrev pub answer_to : (List ℕ → List ℕ) → ClientState → Option (List ℕ) → ClientStep
answer_to signature s None = Unexpected
answer_to signature s (Some challenge) = Say (connection_text s.settings.commit (kind_number s.kind) (signature challenge))

-- the first place: the server is to sign, and to name a challenge
abbrev pub on_signed : (List ℕ → List ℕ) → ClientState → Option Data → ClientStep
on_signed signature s value =
    if has_type (codes "sign") value then answer_to signature s (text_of_member (codes "data") value) else refusal value

-- the value accepts a client of that kind
unfoldable pub is_accepted : Kind → Option Data → Bool
is_accepted Management value = has_type (codes "ok") value
is_accepted ExtensionHost value = is_some (option_and_then as_object value) && is_none (member_of (codes "type") value)
is_accepted Tunnel value = false

-- the second place: the server is to accept
abbrev pub on_answer : ClientState → Option Data → ClientStep
on_answer s value = if is_accepted s.kind value then Done else refusal value

-- what the client does on the body of a control frame; `signature` signs a text
abbrev pub client_step : (List ℕ → List ℕ) → ClientState → List ℕ → ClientStep
client_step signature s body = if s.has_answered then on_answer s (reading body) else on_signed signature s (reading body)

abbrev pub answered_after : Bool → ClientStep → Bool
answered_after before (Say text) = true
answered_after before Done = before
answered_after before (Refused reason) = before
answered_after before Unexpected = before

-- the client after a step
abbrev pub client_after : ClientState → ClientStep → ClientState
client_after s step = record s { has_answered = answered_after s.has_answered step }
