-- What stays of a world, whatever happens to it: the front of each list that only grows, and what has a number.
use Rattle.std.specs.Prelude.{◌≡◌, ℕ, Option, option_map, List, ◌++◌}
use Rattle.ra_base.specs.declared.key.Key.{Key}
use Rattle.ra_model.specs.Links.{at_number}
use Rattle.ra_registry.specs.declared.past.Past.{Past}
use Rattle.ra_grand_runs.specs.GrandClients.{ServerEnd}
use Rattle.ra_grand_runs.specs.Grands.{Grand, find_link}

-- the list begins with that front
abbrev pub BeginsWith : {X : Type 0} → List X → List X → Type 0
BeginsWith {X} list front = (rest : List X) × (list ≡ front ++ rest)

-- the entries of the hub's registry
abbrev pub history_of : Grand → List Past
history_of w = w.hub.registry.history

-- the key of the client with this number
abbrev pub key_at : ℕ → Grand → Option Key
key_at n w = option_map (λ c. c.key) (at_number w.clients n)

-- the server's end of the link with this number
abbrev pub server_end : ℕ → Grand → Option ServerEnd
server_end n w = option_map (λ f. f.link.server) (find_link n w)
