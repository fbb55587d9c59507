-- What a router keeps in memory, and the steps that it stands for.
use Rattle.std.specs.Prelude.{◌≡◌, ℕ, ℤ, suc, List, [], ◌∷◌, length, drop, map, slice_get, Option, Some, None, option_map, bytes_eq, if◌then◌else◌}
use Rattle.std.specs.List.{list_any}
use Rattle.std.specs.BTreeMap.{BTreeMap, get}
use Rattle.std.specs.Ordering.{nat_cmp}
use Rattle.std.specs.Cmp.Lexicographic.{slice_cmp}
use Rattle.ra_router.specs.declared.ask.Step.{Step}
use Rattle.ra_router.specs.declared.window.Held.{Held}
use Rattle.ra_router.specs.declared.window.Out.{Out}
use Rattle.ra_router.specs.declared.window.Window.{Window}
use Rattle.ra_router.specs.Hops.{Placed, Delivery, hops, window_of, arg_of, delivery, delivered_at, replies}
use Rattle.ra_router.specs.Queues.{waiting, held}

-- the queues of windows, and the hops that were handed over and have no reply, in memory
abbrev pub Windows : Type 0
Windows = BTreeMap (List ℕ) Window

abbrev pub Outs : Type 0
Outs = BTreeMap ℕ Out

-- ---- the queues of a window

abbrev pub calls_of : Option Window → List ℤ
calls_of None = []
calls_of (Some queues) = queues.calls.items

abbrev pub hops_of : Option Window → List Held
hops_of None = []
hops_of (Some queues) = queues.hops.items

abbrev pub calls_at : Windows → List ℕ → List ℤ
calls_at windows window = calls_of (get (slice_cmp nat_cmp) windows window)

abbrev pub hops_at : Windows → List ℕ → List Held
hops_at windows window = hops_of (get (slice_cmp nat_cmp) windows window)

-- what is kept of a hop once it is handed over
abbrev pub next_out : List ℕ → Held → ℕ × Out
next_out window hop = (hop.number, record { window = window; caller = hop.caller; id = hop.id })

-- ---- hops

-- what waits in memory is this hop
pub record IsHeld (past : List Step) (kept : Held) (hop : Placed) : Type 0 where
  pub number_is : slice_get (hops past) kept.number ≡ Some hop
  pub caller_is : kept.caller ≡ hop.step.from
  pub id_is : kept.id ≡ hop.step.id
  pub arg_is : kept.arg ≡ arg_of hop.step.ask

abbrev pub AreHeld : List Step → List Held → List Placed → Type 0
AreHeld past [] [] = Unit {0}
AreHeld past [] (hop ∷ hops) = ⊥
AreHeld past (kept ∷ rest) [] = ⊥
AreHeld past (kept ∷ rest) (hop ∷ hops) = IsHeld past kept hop × AreHeld past rest hops

-- a hop that was handed over, as long as its window has not replied
abbrev pub unsettled_of : List Step → ℕ → Option Delivery → Option Placed
unsettled_of past number None = None
unsettled_of past number (Some d) =
    if list_any (replies (window_of d.hop.step.ask) number) (drop (suc (delivered_at d)) past) then None else Some d.hop

abbrev pub unsettled : List Step → ℕ → Option Placed
unsettled past number = unsettled_of past number (delivery past number)

abbrev pub out_of : Placed → Out
out_of hop = record { window = window_of hop.step.ask; caller = hop.step.from; id = hop.step.id }

-- what a reply of this window settles
abbrev pub settled_by : List ℕ → Option Out → Option Out
settled_by window None = None
settled_by window (Some out) = if bytes_eq out.window window then Some out else None

-- ---- the whole

-- So many hops were made, these calls and hops wait at each window, and these hops were handed over and have no reply.
pub record Stands (made : ℕ) (windows : Windows) (out : Outs) (past : List Step) : Type 0 where
  pub made_is : made ≡ length (hops past)
  pub calls_are : (window : List ℕ) → calls_at windows window ≡ map (λ (c : Placed). c.step.id) (waiting window past)
  pub hops_are : (window : List ℕ) → AreHeld past (hops_at windows window) (held window past)
  pub out_are : (number : ℕ) → get nat_cmp out number ≡ option_map out_of (unsettled past number)
