-- What each end does on the texts of the other.
use Rattle.std.proofs.Common.{◌≡◌, ◌≢◌, ℕ, ◌<◌, ◌^◌, Bool, true, false, ◌&&◌, ◌||◌, cond, List, Option, Some, None, IsUtf8, refl, lit<}
use Rattle.std.specs.Prelude.{bytes_eq}
use Rattle.std.specs.Cmp.Lexicographic.{nat_list_eq_equiv}
use Rattle.json.proofs.Printed.Utf8.{IsUtf8-are_ascii}
use Rattle.ra_base.specs.Reasons.{reason_text}
use Rattle.ra_sign.specs.Signature.{signature_text, is_signature}
use Rattle.ra_sign.proofs.SignatureLemmas.{signature_utf8}
use Rattle.ra_base.specs.declared.handshake.Reason.{Reason}
use Rattle.ra_base.specs.declared.kind.Kind.{Kind}
use Rattle.ra_base.specs.declared.kind.Kind.TheVariants.{Management, ExtensionHost, Tunnel}
use Rattle.ra_shake.specs.declared.server.ShakeStep.TheVariants as server_steps
use Rattle.ra_shake.specs.declared.client.ClientStep.TheVariants as client_steps
use Rattle.ra_shake.specs.declared.server.Stage.TheVariants.{First, Second}
use Rattle.ra_shake.specs.Reading.{reading}
use Rattle.ra_shake.specs.Texts.{auth_text, sign_text, connection_text, accept_text, refuse_value, refuse_text}
use Rattle.ra_shake.specs.Verdict.{is_authorized, versions_differ, is_signed, judge_first, judge_second, client_challenge, wanted_kind}
use Rattle.ra_shake.specs.States.{ServerState, ClientState, IsSecretText, secret_or_zeros}
use Rattle.ra_shake.specs.Server.{server_step, server_after}
use Rattle.ra_shake.specs.Client.{client_step, on_signed, on_answer, is_accepted, refusal, kind_number}
use Rattle.ra_shake.specs.Whole.{AreNew, Succeeds, answer_text}
use Rattle.ra_shake.proofs.ReadBackLemmas.{reading-auth_text, reading-sign_text, reading-connection_text, reading-accept_text, reading-refuse_text}

-- ---- the server

pub server_first : (signature : List ℕ → List ℕ) (counts : List ℕ → List ℕ → Bool) (s : ServerState) (secret challenge : List ℕ)
    → s.stage ≡ First → IsUtf8 secret → IsUtf8 challenge
    → is_authorized s.settings.secret (Some secret) ≡ true
    → server_step signature counts s (auth_text secret challenge) ≡ server_steps.Say (sign_text s.challenge (signature challenge))
unfolding judge_first client_challenge
server_first signature counts s secret challenge stage secret_is challenge_is authorized =
    rw (stage, reading-auth_text secret challenge secret_is challenge_is, authorized) refl

number_small : (kind : Kind) → kind_number kind < 2 ^ 64
number_small Management = lit< tt
number_small ExtensionHost = lit< tt
number_small Tunnel = lit< tt

pub server_second : (signature : List ℕ → List ℕ) (counts : List ℕ → List ℕ → Bool) (s : ServerState) (commit : List ℕ) (kind : Kind) (signed : List ℕ)
    → s.stage ≡ Second → kind ≢ Tunnel → IsUtf8 commit → IsUtf8 signed
    → versions_differ s.settings.commit (Some commit) ≡ false
    → is_signed s.settings.secret (counts s.challenge) (Some signed) ≡ true
    → server_step signature counts s (connection_text commit (kind_number kind) signed)
    ≡ server_steps.Ask (record { kind = Some kind; token = s.token; reconnection = s.reconnection })
unfolding judge_second wanted_kind
server_second signature counts s commit Management signed stage known commit_is signed_is same holds =
    rw (stage, reading-connection_text commit 1 signed commit_is (number_small Management) signed_is, same, holds) refl
server_second signature counts s commit ExtensionHost signed stage known commit_is signed_is same holds =
    rw (stage, reading-connection_text commit 2 signed commit_is (number_small ExtensionHost) signed_is, same, holds) refl
server_second signature counts s commit Tunnel signed stage known commit_is signed_is same holds = absurd (known refl)

-- ---- the client

pub client_first : (signature : List ℕ → List ℕ) (s : ClientState) (challenge signed : List ℕ)
    → s.has_answered ≡ false → IsUtf8 challenge → IsUtf8 signed
    → client_step signature s (sign_text challenge signed)
    ≡ client_steps.Say (connection_text s.settings.commit (kind_number s.kind) (signature challenge))
client_first signature s challenge signed waits challenge_is signed_is =
    rw (waits, reading-sign_text challenge signed challenge_is signed_is) refl

accepts : (kind : Kind) → kind ≢ Tunnel → is_accepted kind (reading (accept_text kind)) ≡ true
unfolding is_accepted
accepts Management known = rw (reading-accept_text Management) refl
accepts ExtensionHost known = rw (reading-accept_text ExtensionHost) refl
accepts Tunnel known = absurd (known refl)

pub client_last : (signature : List ℕ → List ℕ) (s : ClientState) → s.has_answered ≡ true → s.kind ≢ Tunnel
    → client_step signature s (accept_text s.kind) ≡ client_steps.Done
client_last signature s answered known = rw (answered, accepts s.kind known) refl

accepts_none : (kind : Kind) (reason : Reason) → is_accepted kind (Some (refuse_value reason)) ≡ false
unfolding is_accepted
accepts_none Management reason = refl
accepts_none ExtensionHost reason = refl
accepts_none Tunnel reason = refl

either : {X : Type 0} (b : Bool) (x y z : X) → x ≡ z → y ≡ z → cond b x y ≡ z
either true x y z h g = h
either false x y z h g = g

pub client_refused : (signature : List ℕ → List ℕ) (s : ClientState) (reason : Reason)
    → client_step signature s (refuse_text reason) ≡ client_steps.Refused (reason_text reason)
unfolding refusal
client_refused signature s reason =
    rw (reading-refuse_text reason)
    (either s.has_answered (on_answer s (Some (refuse_value reason))) (on_signed signature s (Some (refuse_value reason))) _
    (rw (accepts_none s.kind reason) refl) refl)

-- ---- both, with equal settings

itself : (s : List ℕ) → bytes_eq s s ≡ true
itself s = nat_list_eq_equiv.refl s

own_secret : (secret : Option (List ℕ)) → is_authorized secret (Some (secret_or_zeros secret)) ≡ true
unfolding is_authorized
own_secret None = refl
own_secret (Some secret) = itself secret

secret_utf8 : (secret : Option (List ℕ)) → IsSecretText secret → IsUtf8 (secret_or_zeros secret)
secret_utf8 None h = IsUtf8-are_ascii _ refl
secret_utf8 (Some secret) h = h

and_false : (a b : Bool) → a && (b && false) ≡ false
and_false true true = refl
and_false true false = refl
and_false false b = refl

own_version : (commit : List ℕ) → versions_differ commit (Some commit) ≡ false
unfolding versions_differ
own_version commit = rw (itself commit) (and_false _ _)

or_true : (a : Bool) → a || true ≡ true
or_true true = refl
or_true false = refl

signature_counts : (secret : Option (List ℕ)) (counts : List ℕ → Bool) (signed : List ℕ) → counts signed ≡ true → is_signed secret counts (Some signed) ≡ true
unfolding is_signed
signature_counts None counts signed h = h
signature_counts (Some secret) counts signed h = rw h (or_true _)

pub succeeds : (client_signs server_signs : List ℕ → List ℕ) (counts : List ℕ → List ℕ → Bool) (client : ClientState) (server : ServerState)
    → AreNew client server
    → IsUtf8 (server_signs client.challenge) → IsUtf8 (client_signs server.challenge)
    → counts server.challenge (client_signs server.challenge) ≡ true
    → Succeeds client_signs server_signs counts client server
succeeds client_signs server_signs counts client server pair server_text client_text counting = record {
  signed = server_first server_signs counts server (secret_or_zeros client.settings.secret) client.challenge pair.server_waits
      (secret_utf8 client.settings.secret pair.client_texts.secret_text) pair.client_texts.challenge_text
      (rw (← pair.settings) (own_secret client.settings.secret));
  answered = client_first client_signs client server.challenge (server_signs client.challenge) pair.client_waits pair.server_text server_text;
  asked = server_second server_signs counts (server_after server (server_steps.Say (answer_text server_signs client server)))
      client.settings.commit client.kind (client_signs server.challenge) refl pair.kind pair.client_texts.commit_text client_text
      (rw (← pair.settings) (own_version client.settings.commit))
      (signature_counts server.settings.secret (counts server.challenge) (client_signs server.challenge) counting);
  accepted = client_last client_signs (record client { has_answered = true }) refl pair.kind;
}

pub succeeds_by_key : (key : List ℕ) (client : ClientState) (server : ServerState) → AreNew client server
    → Succeeds (signature_text key) (signature_text key) (is_signature key) client server
succeeds_by_key key client server pair =
    succeeds (signature_text key) (signature_text key) (is_signature key) client server pair
    (signature_utf8 key client.challenge) (signature_utf8 key server.challenge) (itself (signature_text key server.challenge))
