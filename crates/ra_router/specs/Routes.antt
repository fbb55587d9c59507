-- What a list of steps is told: each call of a window is answered at most once, and exactly where the hops say.
use Rattle.std.specs.Prelude.{◌≡◌, ◌≢◌, ℕ, ◌<◌, Bool, true, false, List, ◌∷◌, ◌++◌, length, slice_get, Some}
use Rattle.ra_values.specs.declared.value.Value.{Value}
use Rattle.ra_router.specs.declared.ask.Ask.{Ask}
use Rattle.ra_router.specs.declared.ask.Ask.TheVariants.{BadTo, To, Reply, BadReply}
use Rattle.ra_router.specs.declared.ask.Step.{Step}
use Rattle.ra_router.specs.declared.ask.Said.{Said}
use Rattle.ra_router.specs.declared.ask.Said.TheVariants.{BadWindow, Full, Hop, Replied, Done, NoSuchCall}
use Rattle.std.specs.Prelude.{take}
use Rattle.ra_router.specs.Hops.{hop_limit, is_to, Placed, Delivery, Given, hops, is_next, window_of, arg_of, delivery, delivered_at, replies, give, given}

-- at the place p of these steps this answer is given
pub record Gives (steps : List Step) (p : ℕ) (g : Given) : Type 0 where
  pub past : List Step
  pub step : Step
  pub rest : List Step
  pub whole : steps ≡ past ++ step ∷ rest
  pub at : length past ≡ p
  pub index : ℕ
  pub among : slice_get (given past step) index ≡ Some g

-- at the place p stands the first reply to a delivered hop by its window
pub record IsFirstReply (steps : List Step) (number : ℕ) (d : Delivery) (p : ℕ) (good : Bool) (value : Value) : Type 0 where
  pub reply : Step
  pub there : slice_get steps p ≡ Some reply
  pub says : reply.ask ≡ Reply number good value
  pub by : reply.from ≡ window_of d.hop.step.ask
  pub after : delivered_at d < p
  pub first : (n : ℕ) (s : Step) → delivered_at d < n → n < p → slice_get steps n ≡ Some s → replies (window_of d.hop.step.ask) number s ≡ false

-- a hop's call is answered at this place by a reply to the hop, and by the first one
pub record IsSettled (steps : List Step) (number : ℕ) (hop : Placed) (p : ℕ) (g : Given) : Type 0 where
  pub d : Delivery
  pub good : Bool
  pub value : Value
  pub delivered : delivery steps number ≡ Some d
  pub first : IsFirstReply steps number d p good value
  pub is : g ≡ give hop (Replied good value)

abbrev pub HopsAnswered : List Step → Type 0
HopsAnswered steps = (number p : ℕ) (hop : Placed) (g : Given) → slice_get (hops steps) number ≡ Some hop
    → Gives steps p g → g.call ≡ hop.place → IsSettled steps number hop p g

abbrev pub HopsAnsweredThere : List Step → Type 0
HopsAnsweredThere steps = (number p : ℕ) (d : Delivery) (good : Bool) (value : Value) → delivery steps number ≡ Some d
    → IsFirstReply steps number d p good value → Gives steps p (give d.hop (Replied good value))

abbrev pub HopsAnsweredOnce : List Step → Type 0
HopsAnsweredOnce steps = (number p q : ℕ) (hop : Placed) (g k : Given) → slice_get (hops steps) number ≡ Some hop
    → Gives steps p g → g.call ≡ hop.place → Gives steps q k → k.call ≡ hop.place → (p ≡ q) × (g ≡ k)

-- a `next` is answered by the hop that it took, as soon as both are there
pub record IsHandedOver (steps : List Step) (p : ℕ) (g : Given) : Type 0 where
  pub number : ℕ
  pub d : Delivery
  pub delivered : delivery steps number ≡ Some d
  pub at : p ≡ delivered_at d
  pub is : g ≡ give d.next (Hop number (arg_of d.hop.step.ask))

abbrev pub HopsDelivered : List Step → Type 0
HopsDelivered steps = (number : ℕ) (d : Delivery) → delivery steps number ≡ Some d
    → Gives steps (delivered_at d) (give d.next (Hop number (arg_of d.hop.step.ask)))

abbrev pub NextsAnswered : List Step → Type 0
NextsAnswered steps = (p n : ℕ) (s : Step) (g : Given) → slice_get steps n ≡ Some s → is_next s.ask ≡ true
    → Gives steps p g → g.call ≡ n → IsHandedOver steps p g

-- the hops of one window are delivered in order, each to a call of its own
abbrev pub DeliveredInOrder : List Step → Type 0
DeliveredInOrder steps = (m n : ℕ) (d e : Delivery) → m < n → delivery steps m ≡ Some d → delivery steps n ≡ Some e
    → window_of d.hop.step.ask ≡ window_of e.hop.step.ask → d.next.place < e.next.place

-- a call that makes no hop is answered at once by its error, and nowhere else
abbrev pub refusal : Ask → Said
refusal (To window arg) = Full
refusal _ = BadWindow

abbrev pub is_call : Ask → Bool
is_call BadTo = true
is_call (To window arg) = true
is_call _ = false

abbrev pub IsNoHop : List Step → ℕ → Type 0
IsNoHop steps n = (number : ℕ) (hop : Placed) → slice_get (hops steps) number ≡ Some hop → hop.place ≢ n

abbrev pub OthersRefused : List Step → Type 0
OthersRefused steps = (p n : ℕ) (s : Step) (g : Given) → slice_get steps n ≡ Some s → is_call s.ask ≡ true → IsNoHop steps n
    → Gives steps p g → g.call ≡ n → (p ≡ n) × (g ≡ give (record { place = n; step = s }) (refusal s.ask))

abbrev pub OthersRefusedThere : List Step → Type 0
OthersRefusedThere steps = (n : ℕ) (s : Step) → slice_get steps n ≡ Some s → is_call s.ask ≡ true → IsNoHop steps n
    → Gives steps n (give (record { place = n; step = s }) (refusal s.ask))

-- one step answers no call twice
abbrev pub AnswersApart : List Step → Type 0
AnswersApart past = (x : Step) (i j : ℕ) (g k : Given) → slice_get (given past x) i ≡ Some g → slice_get (given past x) j ≡ Some k
    → g.call ≡ k.call → i ≡ j

-- as long as there is room, a call to a window makes the next hop
abbrev pub HopsMade : List Step → Type 0
HopsMade steps = (n : ℕ) (s : Step) → slice_get steps n ≡ Some s → is_to s.ask ≡ true → length (hops (take n steps)) < hop_limit
    → slice_get (hops steps) (length (hops (take n steps))) ≡ Some (record { place = n; step = s })

-- a reply that settles a hop is told so, and any other that there is no such call, at once
abbrev pub is_any_reply : Ask → Bool
is_any_reply (Reply hop good value) = true
is_any_reply BadReply = true
is_any_reply _ = false

abbrev pub RepliesSettle : List Step → Type 0
RepliesSettle steps = (number n : ℕ) (d : Delivery) (good : Bool) (value : Value) (s : Step) → delivery steps number ≡ Some d
    → IsFirstReply steps number d n good value → slice_get steps n ≡ Some s → Gives steps n (give (record { place = n; step = s }) Done)

abbrev pub RepliesRefused : List Step → Type 0
RepliesRefused steps = (n : ℕ) (s : Step) → slice_get steps n ≡ Some s → is_any_reply s.ask ≡ true
    → ((number : ℕ) (d : Delivery) (good : Bool) (value : Value) → delivery steps number ≡ Some d
    → IsFirstReply steps number d n good value → ⊥)
    → Gives steps n (give (record { place = n; step = s }) NoSuchCall)
