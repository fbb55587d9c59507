-- The first moments of a run, and its refusals, computed.
use Rattle.std.proofs.Common.{◌≡◌, Some, None, List, [], ◌∷◌, refl}
use Rattle.std.specs.Prelude.{codes}
use Rattle.ra_base.specs.declared.event.Count.TheVariants.{Exact}
use Rattle.ra_base.specs.declared.kind.Kind.TheVariants.{Management, ExtensionHost}
use Rattle.form_urlencoded.specs.Form.{byte_serialize}
use Rattle.base64.specs.Rfc4648.{encode_symbols}
use Rattle.ra_upgrade.specs.RequestTexts.{request_text, lines_of, query_text, key_text}
use Rattle.ra_model.specs.Calls.{say}
use Rattle.ra_proto.specs.SayAll.{say_all}
use Rattle.ra_values.specs.ValueBytes.{value_bytes, number_bytes}
use Rattle.ra_ipc.specs.Packets.{message_bytes}
use Rattle.ra_dial.specs.Acts.{connect, rest_until}
use Rattle.ra_dial.specs.Attempts.{fails, waits_until, begins}
use Rattle.ra_dial.specs.Table.{step, on_event}
use Rattle.ra_script.specs.declared.grand_line.GrandEvent.{GrandEvent}
use Rattle.ra_script.specs.declared.grand_line.GrandEvent.TheVariants as events
use Rattle.ra_session.specs.SessionRefusals.{wrong_kind, call_refusal}
use Rattle.ra_grand_runs.specs.Draws.{nth_draw}
use Rattle.ra_grand_runs.specs.GrandClients.{dialled}
use Rattle.ra_grand_runs.specs.GrandEffects.{Effect, done, made, acts as act, moved, effect}
use Rattle.ra_grand_runs.specs.GrandRefusals.{no_such_link, no_such_client, no_such_job, token_taken, not_dialling, link_over, too_many, of_session, refusal}
use Rattle.ra_grand_runs.specs.GrandRuns.{happens}
use Rattle.ra_grand_runs.specs.Grands.{Grand, new_grand}
use Rattle.ra_grand_runs.specs.Marks.{whole}
use Rattle.ra_grand_runs.specs.ServedLinks.{server_left, piece_came, served}
use Rattle.ra_items.specs.Items.{items}
use Rattle.ra_link_core.specs.LinkRuns.{piece_done, with_piece}
use Rattle.ra_opening.specs.Openings.{opened, item_done}

-- the answers to events that are all applied whole
effects : List GrandEvent → Grand → List Effect
effects [] w = []
effects (e ∷ es) w = effect whole e w ∷ effects es (happens whole e w)

world : List GrandEvent → Grand → Grand
world [] w = w
world (e ∷ es) w = world es (happens whole e w)

management : GrandEvent
management = events.Client (record { kind = Management; token = codes "t1" })

host : GrandEvent
host = events.Client (record { kind = ExtensionHost; token = codes "t1" })

-- the first link of a client
begins-row : effects (management ∷ events.Step 1 ∷ events.Linked 1 ∷ []) new_grand ≡ made 1 ∷ act connect ∷ made 1 ∷ []
unfolding effects management effect happens dialled step on_event waits_until begins
begins-row = refl

-- and no second one before its attempt has failed
not_dialling-row : refusal (events.Linked 1) (world (management ∷ events.Step 1 ∷ events.Linked 1 ∷ []) new_grand) ≡ Some (not_dialling 1)
unfolding world management happens dialled step on_event waits_until begins refusal
not_dialling-row = refl

-- the attempts of a client that finds no link
waits-row : effects (management ∷ events.Step 1 ∷ events.At 100 ∷ events.NoLink 1 ∷ events.At 5099 ∷ events.Step 1 ∷ events.At 5100 ∷ events.Step 1 ∷ []) new_grand
    ≡ made 1 ∷ act connect ∷ done ∷ act (rest_until 5100) ∷ done ∷ act (rest_until 5100) ∷ done ∷ act connect ∷ []
unfolding effects management effect happens dialled step on_event waits_until fails
waits-row = refl

-- a key is that of one client
taken-row : refusal management (world (host ∷ management ∷ []) new_grand) ≡ Some (token_taken 2)
unfolding world management host happens refusal
taken-row = refl

no_client-row : refusal (events.Step 2) (world (management ∷ []) new_grand) ≡ Some (no_such_client 2)
unfolding world management happens refusal
no_client-row = refl

no_link-row : refusal (events.Cut 1) (world (management ∷ []) new_grand) ≡ Some (no_such_link 1)
unfolding world management happens refusal
no_link-row = refl

no_job-row : refusal (events.Work 1) (world (management ∷ []) new_grand) ≡ Some (no_such_job 1 0)
unfolding world management happens refusal
no_job-row = refl

-- a host's client has no calls, and a call that was not made is not cancelled
wrong_kind-row : refusal (events.Call 1 (codes "tools") (codes "echo") []) (world (host ∷ []) new_grand) ≡ Some (of_session wrong_kind)
unfolding world host happens refusal call_refusal
wrong_kind-row = refl

-- a link that is left is over, and is so once
gone-row : refusal (events.Gone 1) (world (management ∷ events.Step 1 ∷ events.Linked 1 ∷ []) new_grand) ≡ None
unfolding world management happens dialled step on_event waits_until begins refusal
gone-row = refl

over-row : refusal (events.Idle 1) (world (management ∷ events.Step 1 ∷ events.Linked 1 ∷ events.Gone 1 ∷ []) new_grand) ≡ Some (link_over 1)
unfolding world management happens dialled step on_event waits_until begins refusal server_left
over-row = refl

-- no more bytes are taken than the client wrote: those of its request
too_many-row : refusal (events.Up 1 (Exact 1000)) (world (management ∷ events.Step 1 ∷ events.Linked 1 ∷ []) new_grand) ≡ Some (too_many 1000 213)
unfolding world management happens dialled step on_event waits_until begins refusal request_text lines_of query_text byte_serialize say_all say value_bytes number_bytes message_bytes key_text encode_symbols nth_draw
too_many-row = refl

cut-row : refusal (events.Up 1 (Exact 1)) (world (management ∷ events.Step 1 ∷ events.Linked 1 ∷ events.Cut 1 ∷ []) new_grand) ≡ Some (too_many 1 0)
unfolding world management happens dialled step on_event waits_until begins refusal
cut-row = refl

-- the first bytes of a request come to the server, which are no whole head
up-row : effects (management ∷ events.Step 1 ∷ events.Linked 1 ∷ events.Up 1 (Exact 5) ∷ events.Idle 1 ∷ []) new_grand
    ≡ made 1 ∷ act connect ∷ made 1 ∷ moved (codes "GET /") None ∷ moved [] None ∷ []
unfolding effects management effect happens dialled step on_event waits_until begins request_text lines_of query_text byte_serialize say_all say value_bytes number_bytes message_bytes key_text encode_symbols nth_draw piece_came served piece_done opened items item_done with_piece
up-row = refl
