-- What the two ends of a session send each other, without where it lies in memory.
use Rattle.std.specs.Prelude.{ℕ, ◌+◌, List, [], ◌∷◌, Bool, true, false, ◌==◌, if◌then◌else◌}
use Rattle.ra_values.specs.Tree.{Tree}

-- an answer to a call
pub data Reply : Type 0 where
  success : Tree → Reply
  error : Tree → Reply
  error_obj : Tree → Reply

pub data Message : Type 0 where
  promise : (id : ℕ) (channel name : List ℕ) (arg : Tree) → Message
  promise_cancel : (id : ℕ) → Message
  event_listen : (id : ℕ) (channel event : List ℕ) (arg : Tree) → Message
  event_dispose : (id : ℕ) → Message
  initialize : Message
  response : (id : ℕ) (reply : Reply) → Message
  event_fire : (id : ℕ) (body : Tree) → Message

-- a request is of the client, and any other message is of the server
abbrev pub is_request : Message → Bool
is_request (promise id channel name arg) = true
is_request (promise_cancel id) = true
is_request (event_listen id channel event arg) = true
is_request (event_dispose id) = true
is_request initialize = false
is_request (response id reply) = false
is_request (event_fire id body) = false

abbrev pub is_promise : ℕ → Message → Bool
is_promise i (promise id channel name arg) = id == i
is_promise i _ = false

abbrev pub is_listen : ℕ → Message → Bool
is_listen i (event_listen id channel event arg) = id == i
is_listen i _ = false

-- the request that makes the id active
abbrev pub opens : ℕ → Message → Bool
opens i (promise id channel name arg) = id == i
opens i (event_listen id channel event arg) = id == i
opens i _ = false

abbrev pub is_response : ℕ → Message → Bool
is_response i (response id reply) = id == i
is_response i _ = false

-- how many pass the test
abbrev pub number_of : {X : Type 0} → (X → Bool) → List X → ℕ
number_of test [] = 0
number_of test (x ∷ xs) = (if test x then 1 else 0) + number_of test xs
