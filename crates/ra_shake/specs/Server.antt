-- What the server does in a handshake.
use Rattle.std.specs.Prelude.{ℕ, Bool, List, Option, Some, None}
use Rattle.serde_json.specs.Data.{Data}
use Rattle.ra_base.specs.declared.handshake.Reason.{Reason}
use Rattle.ra_shake.specs.declared.server.ShakeStep.{ShakeStep}
use Rattle.ra_shake.specs.declared.server.ShakeStep.TheVariants.{Say, Ask, Refuse}
use Rattle.ra_shake.specs.declared.server.Stage.{Stage}
use Rattle.ra_shake.specs.declared.server.Stage.TheVariants.{First, Second, Over}
use Rattle.ra_shake.specs.Reading.{reading}
use Rattle.ra_shake.specs.States.{ServerState}
use Rattle.ra_shake.specs.Texts.{sign_text}
use Rattle.ra_shake.specs.Verdict.{judge_first, judge_second, client_challenge, wanted_kind}

-- the step, unless there is a reason to refuse
abbrev pub refuse_or : ShakeStep → Option Reason → ShakeStep
refuse_or step None = step
refuse_or step (Some reason) = Refuse reason

-- it signs the client's challenge, and says its own
abbrev pub first_step : (List ℕ → List ℕ) → ServerState → Option Data → ShakeStep
first_step signature s value =
    refuse_or (Say (sign_text s.challenge (signature (client_challenge value)))) (judge_first s.settings.secret value)

-- it judges the client's signature of its own challenge
abbrev pub second_step : (List ℕ → List ℕ → Bool) → ServerState → Option Data → ShakeStep
second_step counts s value =
    refuse_or (Ask (record { kind = wanted_kind value; token = s.token; reconnection = s.reconnection }))
    (judge_second s.settings (counts s.challenge) value)

-- the step at a stage; no call comes to one that is over
abbrev pub step_at : Stage → (List ℕ → List ℕ) → (List ℕ → List ℕ → Bool) → ServerState → Option Data → ShakeStep
step_at First signature counts s value = first_step signature s value
step_at Second signature counts s value = second_step counts s value
step_at Over signature counts s value = second_step counts s value

-- what the server does on the body of a control frame; `signature` signs a text, and `counts` tells the signatures of a text
abbrev pub server_step : (List ℕ → List ℕ) → (List ℕ → List ℕ → Bool) → ServerState → List ℕ → ShakeStep
server_step signature counts s body = step_at s.stage signature counts s (reading body)

abbrev pub stage_after : ShakeStep → Stage
stage_after (Say text) = Second
stage_after (Ask request) = Over
stage_after (Refuse reason) = Over

-- the server after a step
abbrev pub server_after : ServerState → ShakeStep → ServerState
server_after s step = record s { stage = stage_after step }
