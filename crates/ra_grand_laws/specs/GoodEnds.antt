-- The ends that a link can come to at the server, where its client is one of the run.
use Rattle.std.specs.Prelude.{Option, Some, None, ⊤}
use Rattle.ra_link_core.specs.LinkRuns.{End, head_refused, request_refused, refused_by}
use Rattle.ra_session.specs.SessionRefusals.{ended, stale, no_link, too_long, bad_ipc, too_large, ids_spent, no_such_call, wrong_kind}

-- no header states too long a body, and no message is bad
abbrev pub IsGoodEnd : End → Type 0
IsGoodEnd (head_refused fault) = ⊤
IsGoodEnd (request_refused reason) = ⊤
IsGoodEnd (refused_by (ended cause)) = ⊤
IsGoodEnd (refused_by (stale current)) = ⊤
IsGoodEnd (refused_by no_link) = ⊤
IsGoodEnd (refused_by (too_long stated)) = ⊥
IsGoodEnd (refused_by (bad_ipc bad message)) = ⊥
IsGoodEnd (refused_by (too_large len)) = ⊤
IsGoodEnd (refused_by ids_spent) = ⊤
IsGoodEnd (refused_by (no_such_call id)) = ⊤
IsGoodEnd (refused_by wrong_kind) = ⊤

abbrev pub IsGoodIfAny : Option End → Type 0
IsGoodIfAny None = ⊤
IsGoodIfAny (Some end) = IsGoodEnd end
