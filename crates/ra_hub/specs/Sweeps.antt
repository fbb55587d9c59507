-- A tick of a hub: rows whose grace is over expire, and the sessions see the moment.
use Rattle.std.specs.Prelude.{◌≡◌, ℕ, ◌<◌, Bool, true, false, List, length, take, slice_index_or, Option, Some, None, option_map, if◌then◌else◌}
use Rattle.std.specs.Option.{is_some}
use Rattle.std.specs.List.{list_any}
use Rattle.ra_base.specs.declared.key.Cause.TheVariants.{GraceOver}
use Rattle.ra_base.specs.declared.key.Key.{Key}
use Rattle.ra_registry.specs.Expiry.{Expires}
use Rattle.ra_registry.specs.Legal.{is_over}
use Rattle.ra_registry.specs.Rows.{same_key}
use Rattle.ra_session.specs.SessionCalls.{end_session, tick_session}
use Rattle.ra_session.specs.SessionRefusals.{tick_refusal}
use Rattle.ra_session.specs.Sessions.{Session}
use Rattle.ra_hub.specs.Hubs.{Hub, row}

-- a session that has no id left for its answers stays as it is
abbrev pub tick_one : ℕ → Session → Session
tick_one now s = if is_some (tick_refusal now s) then s else tick_session now s

-- what a tick makes of a session: of one whose grace is over, of one that found no memory, and of any other
abbrev pub swept : (over left : Bool) → ℕ → Session → Session
swept over left now s = if over then end_session GraceOver s else if left then s else tick_one now s

abbrev pub grace_is_over : Hub → ℕ → Key → Bool
grace_is_over h now key = is_over h.registry (row h key) now

-- each key differs from those before it
abbrev pub AreDistinct : List Key → Type 0
AreDistinct keys = (i : ℕ) (d : Key) → i < length keys → list_any (same_key (slice_index_or keys i d)) (take i keys) ≡ false

-- a session that may be left: it is there, its grace is not over, it has not ended, and ids are left for its answers
abbrev pub MayBeLeft : ℕ → Bool → Option Session → Type 0
MayBeLeft now over None = ⊥
MayBeLeft now over (Some s) = (over ≡ false) × (s.cause ≡ None) × (tick_refusal now s ≡ None)

-- The sessions of the keys in `left` found no memory; each may be left, and is counted once. Every session becomes what its own row, its
-- own state and the moment say.
pub record IsSwept (before : Hub) (now expired short : ℕ) (after : Hub) : Type 0 where
  pub rows : Expires before.registry now expired after.registry
  pub left : List Key
  pub counted : short ≡ length left
  pub once : AreDistinct left
  pub there : (key : Key) → list_any (same_key key) left ≡ true → MayBeLeft now (grace_is_over before now key) (before.session key)
  pub sessions : (key : Key) → after.session key ≡ option_map (swept (grace_is_over before now key) (list_any (same_key key) left) now) (before.session key)
