-- Hops: calls from one window to another. Of a list of steps, the hops made, the calls that ask for one, and what each step is told.
use Rattle.std.specs.Prelude.{ℕ, zero, suc, ◌==◌, ◌&&◌, Bool, true, false, not, nat_lt, List, [], ◌∷◌, ◌++◌, length, take, drop, map, filter, slice_get, Option, Some, None, if◌then◌else◌}
use Rattle.std.specs.List.{list_any}
use Rattle.std.specs.Prelude.{bytes_eq}
use Rattle.ra_values.specs.declared.value.Value.{Value}
use Rattle.ra_values.specs.declared.value.Value.TheVariants.{Undefined}
use Rattle.ra_router.specs.declared.ask.Ask.{Ask}
use Rattle.ra_router.specs.declared.ask.Ask.TheVariants.{BadTo, To, Next, Reply, BadReply}
use Rattle.ra_router.specs.declared.ask.Step.{Step}
use Rattle.ra_router.specs.declared.ask.Said.{Said}
use Rattle.ra_router.specs.declared.ask.Said.TheVariants.{BadWindow, Full, Hop, Replied, Done, NoSuchCall}
use Rattle.ra_router.specs.declared.ask.Told.{Told}

-- ---- what a step is

abbrev pub is_to : Ask → Bool
is_to (To window arg) = true
is_to _ = false

abbrev pub is_next : Ask → Bool
is_next Next = true
is_next _ = false

-- the window that a call goes to, and its argument
abbrev pub window_of : Ask → List ℕ
window_of (To window arg) = window
window_of _ = []

abbrev pub arg_of : Ask → Value
arg_of (To window arg) = arg
arg_of _ = Undefined

abbrev pub is_reply_to : ℕ → Ask → Bool
is_reply_to hop (Reply to good value) = to == hop
is_reply_to hop _ = false

-- ---- the plain lists

-- a step with its place in the list
pub record Placed : Type 0 where
  pub place : ℕ
  pub step : Step

abbrev pub placed_from : ℕ → List Step → List Placed
placed_from at [] = []
placed_from at (x ∷ xs) = record { place = at; step = x } ∷ placed_from (suc at) xs

abbrev pub placed : List Step → List Placed
placed steps = placed_from 0 steps

unfoldable pub hop_limit : ℕ
hop_limit = 2147483647

-- the hops made: hop h is the one at h
abbrev pub hops : List Step → List Placed
hops steps = take hop_limit (filter (λ s. is_to s.step.ask) (placed steps))

abbrev pub is_for : List ℕ → Placed → Bool
is_for window s = bytes_eq (window_of s.step.ask) window

-- the hops for a window, and the calls by which it asked for one
abbrev pub hops_for : List ℕ → List Step → List Placed
hops_for window steps = filter (is_for window) (hops steps)

abbrev pub nexts_of : List ℕ → List Step → List Placed
nexts_of window steps = filter (λ s. is_next s.step.ask && (bytes_eq s.step.from window)) (placed steps)

-- a hop and the call that took it
pub record Delivery : Type 0 where
  pub hop : Placed
  pub next : Placed

abbrev pub taken_by : Placed → Option Placed → Option Delivery
taken_by hop None = None
taken_by hop (Some next) = Some (record { hop = hop; next = next })

-- the j-th hop for a window is taken by the window's j-th call
abbrev pub delivery_of : List Step → ℕ → Option Placed → Option Delivery
delivery_of steps number None = None
delivery_of steps number (Some hop) = taken_by hop
    (slice_get (nexts_of (window_of hop.step.ask) steps) (length (filter (is_for (window_of hop.step.ask)) (take number (hops steps)))))

abbrev pub delivery : List Step → ℕ → Option Delivery
delivery steps number = delivery_of steps number (slice_get (hops steps) number)

abbrev pub later : ℕ → ℕ → ℕ
later zero n = n
later (suc m) zero = suc m
later (suc m) (suc n) = suc (later m n)

abbrev pub delivered_at : Delivery → ℕ
delivered_at d = later d.hop.place d.next.place

-- a reply to a hop by a window
abbrev pub replies : List ℕ → ℕ → Step → Bool
replies window hop s = is_reply_to hop s.ask && (bytes_eq s.from window)

-- the hop with this number, where it was delivered to this window and no reply has settled it
abbrev pub open_of : List Step → List ℕ → ℕ → Option Delivery → Option Placed
open_of steps window number None = None
open_of steps window number (Some d) =
    if is_for window d.hop && not (list_any (replies window number) (drop (suc (delivered_at d)) steps)) then Some d.hop else None

abbrev pub open_hop : List Step → List ℕ → ℕ → Option Placed
open_hop steps window number = open_of steps window number (delivery steps number)

-- ---- what is told

-- an answer, with the place of the call that it answers
pub record Given : Type 0 where
  pub call : ℕ
  pub told : Told

abbrev pub give : Placed → Said → Given
give c said = record { call = c.place; told = record { key = c.step.from; id = c.step.id; said = said } }

abbrev pub hand_over : Option Placed → ℕ → Value → List Given
hand_over None number arg = []
hand_over (Some next) number arg = give next (Hop number arg) ∷ []

abbrev pub hand_on : Option Placed → List Step → Placed → List Given
hand_on None past c = []
hand_on (Some hop) past c = give c (Hop (length (hops (take hop.place past))) (arg_of hop.step.ask)) ∷ []

abbrev pub settle : Option Placed → Bool → Value → Placed → List Given
settle None good value c = give c NoSuchCall ∷ []
settle (Some hop) good value c = give hop (Replied good value) ∷ give c Done ∷ []

abbrev pub given_by : Ask → List Step → Placed → List Given
given_by BadTo past c = give c BadWindow ∷ []
given_by (To window arg) past c =
    if nat_lt (length (hops past)) hop_limit then hand_over (slice_get (nexts_of window past) (length (hops_for window past))) (length (hops past)) arg
    else give c Full ∷ []
given_by Next past c = hand_on (slice_get (hops_for c.step.from past) (length (nexts_of c.step.from past))) past c
given_by (Reply hop good value) past c = settle (open_hop past c.step.from hop) good value c
given_by BadReply past c = give c NoSuchCall ∷ []

-- the answers given at a step after these
abbrev pub given : List Step → Step → List Given
given past x = given_by x.ask past (record { place = length past; step = x })

abbrev pub told : List Step → Step → List Told
told past x = map (λ g. g.told) (given past x)

-- what each step of a list is told
abbrev pub replay : List Step → List Step → List (List Told)
replay past [] = []
replay past (x ∷ xs) = told past x ∷ replay (past ++ x ∷ []) xs
