-- A handshake asks for no tunnel.
use Rattle.std.proofs.Common.{◌≡◌, ◌≢◌, ℕ, Bool, true, false, Option, Some, None, List, if◌then◌else◌, ap, ◌∙◌}
use Rattle.std.specs.Prelude.{◌==◌, codes}
use Rattle.ra_base.specs.declared.handshake.Reason.{Reason}
use Rattle.ra_base.specs.declared.handshake.Request.{Request}
use Rattle.ra_base.specs.declared.kind.Kind.TheVariants.{Management, ExtensionHost, Tunnel}
use Rattle.ra_shake.specs.declared.server.ShakeStep.{ShakeStep}
use Rattle.ra_shake.specs.declared.server.ShakeStep.TheVariants.{Say, Ask, Refuse}
use Rattle.ra_shake.specs.declared.server.Stage.{Stage}
use Rattle.ra_shake.specs.declared.server.Stage.TheVariants.{First, Second, Over}
use Rattle.ra_shake.specs.Reading.{reading, number_of_member}
use Rattle.ra_shake.specs.Server.{server_step, step_at, refuse_or}
use Rattle.ra_shake.specs.States.{ServerState}
use Rattle.ra_shake.specs.Texts.{sign_text}
use Rattle.ra_shake.specs.Verdict.{kind_of, wanted_kind, judge_first, judge_second, client_challenge}

kind_served : (first second : Bool) → (if first then Some Management else (if second then Some ExtensionHost else None)) ≡ Some Tunnel → ⊥
kind_served true second is = absurd cc
kind_served false true is = absurd cc
kind_served false false is = absurd cc

number_served : (n : Option ℕ) → kind_of n ≡ Some Tunnel → ⊥
number_served None is = absurd cc
number_served (Some n) is = kind_served (n == 1) (n == 2) is

wanted_served : (body : List ℕ) → wanted_kind (reading body) ≡ Some Tunnel → ⊥
unfolding wanted_kind
wanted_served body is = number_served (number_of_member (codes "desiredConnectionType") (reading body)) is

first_served : (o : Option Reason) (text : List ℕ) (request : Request) → refuse_or (Say text) o ≡ Ask request → request.kind ≡ Some Tunnel → ⊥
first_served None text request is kind = absurd cc
first_served (Some reason) text request is kind = absurd cc

second_served : (o : Option Reason) (made request : Request) → (made.kind ≡ Some Tunnel → ⊥) → refuse_or (Ask made) o ≡ Ask request → request.kind ≡ Some Tunnel → ⊥
second_served None made request served is kind = let same : made ≡ request = cc in served (ap (λ (r : Request). r.kind) same ∙ kind)
second_served (Some reason) made request served is kind = absurd cc

step_served : (stage : Stage) (signature : List ℕ → List ℕ) (counts : List ℕ → List ℕ → Bool) (s : ServerState) (body : List ℕ) (request : Request)
    → step_at stage signature counts s (reading body) ≡ Ask request → request.kind ≡ Some Tunnel → ⊥
step_served First signature counts s body request is kind =
    first_served (judge_first s.settings.secret (reading body)) (sign_text s.challenge (signature (client_challenge (reading body)))) request is kind
step_served Second signature counts s body request is kind =
    second_served (judge_second s.settings (counts s.challenge) (reading body)) (record { kind = wanted_kind (reading body); token = s.token; reconnection = s.reconnection }) request (wanted_served body) is kind
step_served Over signature counts s body request is kind =
    second_served (judge_second s.settings (counts s.challenge) (reading body)) (record { kind = wanted_kind (reading body); token = s.token; reconnection = s.reconnection }) request (wanted_served body) is kind

pub asks_served : (signature : List ℕ → List ℕ) (counts : List ℕ → List ℕ → Bool) (s : ServerState) (body : List ℕ) (request : Request)
    → server_step signature counts s body ≡ Ask request → request.kind ≢ Some Tunnel
asks_served signature counts s body request is = λ kind. step_served s.stage signature counts s body request is kind
