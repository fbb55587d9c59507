-- What is kept of a session, and the sessions that it stands for.
use Rattle.std.specs.Prelude.{◌≡◌, ℕ, Option, Some}
use Rattle.ra_base.specs.declared.key.Cause.{Cause}
use Rattle.ra_session.specs.Moments.{AdmitsTick}
use Rattle.ra_session.specs.Sessions.{Session}
use Rattle.ra_session.specs.SessionStates.{SessionState, StandsForSession}
use Rattle.ra_hub.specs.declared.entry.SessionEntry.{SessionEntry}
use Rattle.ra_hub.specs.declared.entry.SessionEntry.TheVariants.{Going, Over}

-- why it has ended, if it has
abbrev pub cause_in : SessionEntry → Option Cause
cause_in (Going x) = x.cause
cause_in (Over cause) = Some cause

-- Of a session that was ended only the cause is known: no call of it depends on more.
abbrev pub EntryStands : SessionEntry → Session → Type 0
EntryStands (Going x) s = StandsForSession x s
EntryStands (Over cause) s = s.cause ≡ Some cause

abbrev pub OfEachStanding : SessionEntry → (Session → Type 0) → Type 0
OfEachStanding x P = (s : Session) → EntryStands x s → P s

-- the new entry stands for what the call makes of each session that the old one stands for
abbrev pub EntryBecomes : SessionEntry → SessionEntry → (Session → Session) → Type 0
EntryBecomes old new call = OfEachStanding old (λ s. EntryStands new (call s))

-- the tick of a session that goes on is not refused
abbrev pub EntryAdmits : ℕ → SessionEntry → Type 0
EntryAdmits now (Going x) = AdmitsTick now x
EntryAdmits now (Over cause) = ⊥
