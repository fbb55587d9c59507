-- A channel server alone, whatever its peer sends: what it heard and said, in order.
use Rattle.std.specs.Prelude.{ℕ, ◌+◌, ◌≤◌, List, [], ◌∷◌, ◌++◌, map, Bool, false, ◌||◌, Option, Some, None, if◌then◌else◌}
use Rattle.ra_values.specs.Tree.{Tree}
use Rattle.ra_ipc.specs.Messages.{Reply, Message, is_promise, is_response, response}
use Rattle.ra_ipc.specs.ChannelServers.{Server, registered, has_call, completed, fires, ticked, timeout_answers}
use Rattle.ra_ipc.specs.ChannelPackets.{active_id, after_request}

pub data Event : Type 0 where
  heard : Message → Event
  said : Message → Event

pub record ServerRun : Type 0 where
  pub server : Server
  pub log : List Event

pub data ServerStep : Type 0 where
  hear : (m : Message) (now : ℕ) → ServerStep
  register : (channel : List ℕ) → ServerStep
  complete : (id : ℕ) (reply : Reply) → ServerStep
  fire : (channel event : List ℕ) (body : Tree) → ServerStep
  tick : (now : ℕ) → ServerStep

abbrev pub fresh : ServerRun
fresh = record { server = record { channels = []; active = [] }; log = [] }

-- a request whose id is active changes nothing but the log
abbrev pub server_after : Server → Message → ℕ → Option ℕ → Server
server_after s m now (Some id) = s
server_after s m now None = after_request s m now

abbrev pub happens : ServerRun → ServerStep → ServerRun
happens r (hear m now) = record { server = server_after r.server m now (active_id r.server m); log = r.log ++ heard m ∷ [] }
happens r (register channel) = record r { server = registered r.server channel }
happens r (complete id reply) =
    if has_call id r.server then record { server = completed r.server id; log = r.log ++ said (response id reply) ∷ [] } else r
happens r (fire channel event body) = record r { log = r.log ++ map said (fires r.server channel event body) }
happens r (tick now) = record { server = ticked r.server now; log = r.log ++ map said (timeout_answers r.server now) }

abbrev pub run : List ServerStep → ServerRun → ServerRun
run [] r = r
run (e ∷ es) r = run es (happens r e)

-- whether the call was heard
abbrev pub was_promised : ℕ → List Event → Bool
was_promised i [] = false
was_promised i (heard m ∷ es) = is_promise i m || was_promised i es
was_promised i (said m ∷ es) = was_promised i es

-- how many responses stand behind the last Promise of the id, where so many stand before
abbrev pub responses_since : ℕ → ℕ → List Event → ℕ
responses_since i n [] = n
responses_since i n (heard m ∷ es) = responses_since i (if is_promise i m then 0 else n) es
responses_since i n (said m ∷ es) = responses_since i (n + (if is_response i m then 1 else 0)) es

-- A server answers each Promise at most once before it hears another one of its id, and answers no other call, whatever it hears.
abbrev pub AnsweredOncePerPromise : Type 0
AnsweredOncePerPromise = (steps : List ServerStep) (i : ℕ) →
    responses_since i 0 (run steps fresh).log ≤ (if was_promised i (run steps fresh).log then 1 else 0)
