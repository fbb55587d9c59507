-- What a channel server keeps: the requests that are active, by their arrivals, and the arrivals by their ids.
use Rattle.std.specs.Prelude.{◌≡◌, ◌<◌, ℕ, List, [], ◌∷◌, map, Option, Some, None, not, ◌==◌, if◌then◌else◌}
use Rattle.std.specs.List.{AllByRecursion, filter}
use Rattle.std.specs.Map.{keys_of, lookup, set_value}
use Rattle.std.specs.BTreeMap.{is_at}
use Rattle.std.specs.Ordering.{nat_cmp}
use Rattle.ra_ipc.specs.ChannelServers.{Active, holds}
use Rattle.ra_chan_server.specs.Requests.{is_here, HaveOwnIds, ActiveFits}
use Rattle.ra_chan_server.specs.View.{active_of}
use Rattle.ra_chan_server.specs.declared.request.Request.{Request}

-- each is below those behind it
abbrev pub Ascending : List ℕ → Type 0
Ascending [] = Unit {0}
Ascending (k ∷ ks) = AllByRecursion (λ other. k < other) ks × Ascending ks

abbrev pub without : ℕ → List ℕ → List ℕ
without k ks = filter (λ other. not (other == k)) ks

-- arrivals in order, below n
pub record AreArrivals (n : ℕ) (arrivals : List ℕ) : Type 0 where
  pub ascending : Ascending arrivals
  pub below : AllByRecursion (λ arrival. arrival < n) arrivals

abbrev pub actives : List (ℕ × Request) → List Active
actives es = map (λ e. active_of e.1) es

-- the arrival of the first request with this id
abbrev pub arrival_of : ℕ → List (ℕ × Request) → Option ℕ
arrival_of i [] = None
arrival_of i (e ∷ es) = if holds i (active_of e.1) then Some e.0 else arrival_of i es

-- the first request with this id
abbrev pub request_of : ℕ → List (ℕ × Request) → Option Request
request_of i [] = None
request_of i (e ∷ es) = if holds i (active_of e.1) then Some e.1 else request_of i es

-- the arrivals of the requests that were not handed out
abbrev pub here : List (ℕ × Request) → List ℕ
here es = keys_of (filter (λ e. is_here (active_of e.1)) es)

-- what holds of the parts: the requests by their arrivals, the arrivals by ids, and the arrivals of those that were not handed out
pub record AreHeld (next : ℕ) (requests : List (ℕ × Request)) (arrivals : List (ℕ × ℕ)) (not_handed : List ℕ) : Type 0 where
  pub order : AreArrivals next (keys_of requests)
  pub own : HaveOwnIds (actives requests)
  pub found : (i : ℕ) → lookup (is_at (nat_cmp i)) arrivals ≡ arrival_of i requests
  pub here : not_handed ≡ here requests
  pub fits : AllByRecursion ActiveFits (actives requests)

-- where there is a request of this arrival, it is changed so
abbrev pub SetAt : (Active → Active) → ℕ → List (ℕ × Request) → List (ℕ × Request) → Type 0
SetAt change k old new =
    (r : Request) → lookup (is_at (nat_cmp k)) old ≡ Some r → (w : Request) × (active_of w ≡ change (active_of r)) × (new ≡ set_value (is_at (nat_cmp k)) old w)
