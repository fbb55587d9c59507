-- The channel client: calls and listeners that are open, and requests that wait for Initialize.
use Rattle.std.specs.Prelude.{ℕ, ◌+◌, List, [], ◌∷◌, ◌++◌, Bool, true, false, not, ◌==◌, if◌then◌else◌}
use Rattle.std.specs.List.{list_any, filter}
use Rattle.ra_ipc.specs.Messages.{Message, opens}

pub record Client : Type 0 where
  -- the next id
  pub next : ℕ
  -- whether Initialize came
  pub ready : Bool
  -- requests that wait for it, in the order in which they were made
  pub waiting : List Message
  -- unsettled calls, and living listeners
  pub calls : List ℕ
  pub listeners : List ℕ

abbrev pub new_client : Client
new_client = record { next = 0; ready = false; waiting = []; calls = []; listeners = [] }

abbrev pub without : ℕ → List ℕ → List ℕ
without i ids = filter (λ id. not (id == i)) ids

abbrev pub is_in : ℕ → List ℕ → Bool
is_in i ids = list_any (λ id. id == i) ids

-- what goes out now, and what waits
abbrev pub sent_now : Client → Message → List Message
sent_now c m = if c.ready then m ∷ [] else []

abbrev pub waiting_after : Client → Message → List Message
waiting_after c m = if c.ready then c.waiting else c.waiting ++ m ∷ []

abbrev pub after_call : Client → Message → Client
after_call c m = record { next = c.next + 1; ready = c.ready; waiting = waiting_after c m; calls = c.calls ++ c.next ∷ []; listeners = c.listeners }

abbrev pub after_listen : Client → Message → Client
after_listen c m = record { next = c.next + 1; ready = c.ready; waiting = waiting_after c m; calls = c.calls; listeners = c.listeners ++ c.next ∷ [] }

-- a request that still waits goes unsent
abbrev pub still_unsent : Client → ℕ → List Message
still_unsent c i = filter (λ m. not (opens i m)) c.waiting

abbrev pub after_cancel : Client → ℕ → Client
after_cancel c i = record c { waiting = still_unsent c i; calls = without i c.calls }

abbrev pub after_dispose : Client → ℕ → Client
after_dispose c i = record c { waiting = still_unsent c i; listeners = without i c.listeners }

abbrev pub after_initialize : Client → Client
after_initialize c = record c { ready = true; waiting = [] }

abbrev pub after_response : Client → ℕ → Client
after_response c i = record c { calls = without i c.calls }
