-- What a sweep makes of the sessions in memory, key by key.
use Rattle.std.specs.Prelude.{◌≡◌, ℕ, Bool, true, false, List, length, filter, Option, Some, None, option_map, if◌then◌else◌}
use Rattle.std.specs.BTreeMap.{BTreeMap, get}
use Rattle.std.specs.Option.{is_none}
use Rattle.ra_base.specs.Keys.{key_cmp}
use Rattle.std.specs.List.{list_any}
use Rattle.ra_base.specs.declared.key.Cause.TheVariants.{GraceOver}
use Rattle.ra_base.specs.declared.key.Key.{Key}
use Rattle.ra_registry.specs.declared.past.Past.{Past}
use Rattle.ra_registry.specs.Rows.{same_key}
use Rattle.ra_registry.specs.TableChanges.{has_key}
use Rattle.ra_session.specs.Sessions.{Session}
use Rattle.ra_session.specs.SessionCalls.{end_session}
use Rattle.ra_session.specs.SessionRefusals.{tick_refusal}
use Rattle.ra_hub.specs.declared.entry.SessionEntry.{SessionEntry}
use Rattle.ra_hub.specs.Entries.{cause_in}
use Rattle.ra_hub.specs.Standing.{SessionsStand}
use Rattle.ra_hub.specs.Sweeps.{AreDistinct, tick_one}

abbrev pub ended_if : Bool → Session → Session
ended_if over s = if over then end_session GraceOver s else s

-- the sessions after those of these entries ended
abbrev pub ended_in : List Past → (Key → Option Session) → Key → Option Session
ended_in entries f key = option_map (ended_if (has_key entries key)) (f key)

-- the sessions of these entries have ended
abbrev pub EndsAll : List Past → BTreeMap Key SessionEntry → BTreeMap Key SessionEntry → Type 0
EndsAll entries old new = (f : Key → Option Session) → SessionsStand old f → SessionsStand new (ended_in entries f)

-- there is a session, and it has not ended
abbrev pub is_going : Option SessionEntry → Bool
is_going None = false
is_going (Some x) = is_none (cause_in x)

-- the keys of the sessions that have not ended, in their order
abbrev pub going_keys : List Key → BTreeMap Key SessionEntry → List Key
going_keys keys sessions = filter (λ key. is_going (get key_cmp sessions key)) keys

-- a session whose turn has come or not, and that found memory or not
abbrev pub reached : (come left : Bool) → ℕ → Session → Session
reached come left now s = if come then (if left then s else tick_one now s) else s

abbrev pub ticked_in : List Key → List Key → ℕ → (Key → Option Session) → Key → Option Session
ticked_in keys left now f key = option_map (reached (list_any (same_key key) keys) (list_any (same_key key) left) now) (f key)

-- its tick is not refused, if there is one
abbrev pub IsAdmitted : ℕ → Option Session → Type 0
IsAdmitted now None = Unit {0}
IsAdmitted now (Some s) = tick_refusal now s ≡ None

-- the sessions of these keys have seen the moment, but for those in `left`
pub record TicksAll (keys : List Key) (now short : ℕ) (old new : BTreeMap Key SessionEntry) : Type 0 where
  pub left : List Key
  pub counted : short ≡ length left
  pub once : AreDistinct left
  pub among : (key : Key) → list_any (same_key key) left ≡ true → list_any (same_key key) keys ≡ true
  pub admitted : (f : Key → Option Session) → SessionsStand old f → (key : Key) → list_any (same_key key) left ≡ true → IsAdmitted now (f key)
  pub sessions : (f : Key → Option Session) → SessionsStand old f → SessionsStand new (ticked_in keys left now f)
