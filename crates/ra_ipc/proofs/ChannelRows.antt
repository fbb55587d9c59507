-- Examples, computed.
use Rattle.std.proofs.Common.{◌≡◌, ℕ, List, [], ◌∷◌, true, refl, length}
use Rattle.std.specs.Prelude.{codes}
use Rattle.json.specs.Print.{escape_byte}
use Rattle.ra_values.specs.Tree.{undefined, object}
use Rattle.ra_ipc.specs.Messages.{success, error, promise, promise_cancel, response}
use Rattle.ra_ipc.specs.ChannelServers.{Server, promised, is_active, has_call, timeout_answers}
use Rattle.ra_ipc.specs.ChannelPairs.{call, cancel, register, complete, server_hears, client_hears, start, run, cancelled}

abbrev x : List ℕ
x = codes "x"

abbrev fresh : Server
fresh = record { channels = []; active = [] }

-- a cancelled call stays cancelled, though its answer was on the way
a_cancelled_call_stays_cancelled : (run (client_hears ∷ register x ∷ call x x undefined ∷ server_hears 0 ∷ complete 0 (success undefined) ∷ cancel 0 ∷ client_hears ∷ cancel 0 ∷ []) start).settled ≡ (0, cancelled) ∷ []
a_cancelled_call_stays_cancelled = refl

a_cancel_goes_out_once : (run (client_hears ∷ call x x undefined ∷ cancel 0 ∷ cancel 0 ∷ []) start).to_server ≡ promise 0 x x undefined ∷ promise_cancel 0 ∷ []
a_cancel_goes_out_once = refl

a_call_waits_for_its_channel : timeout_answers (promised fresh 0 x x undefined 0) 999 ≡ []
a_call_waits_for_its_channel = refl

a_call_is_answered_after_a_second : timeout_answers (promised fresh 0 x x undefined 0) 1000 ≡ response 0 (error (object (codes "{\"message\":\"Channel name 'x' timed out after 1000ms\",\"name\":\"Unknown channel\"}"))) ∷ []
unfolding escape_byte
a_call_is_answered_after_a_second = refl

the_error_has_78_bytes : length (codes "{\"message\":\"Channel name 'x' timed out after 1000ms\",\"name\":\"Unknown channel\"}") ≡ 78
the_error_has_78_bytes = refl

what_was_cancelled_is_not_sent : (run (call x x undefined ∷ cancel 0 ∷ client_hears ∷ []) start).to_server ≡ []
what_was_cancelled_is_not_sent = refl

an_open_call_is_active : is_active 3 (promised (record { channels = x ∷ []; active = [] }) 3 x x undefined 0) ≡ true
an_open_call_is_active = refl

the_first_call_is_still_there : has_call 3 (promised (record { channels = x ∷ []; active = [] }) 3 x x undefined 0) ≡ true
the_first_call_is_still_there = refl
