-- A call of one session of a map.
use Rattle.std.proofs.Common.{◌≡◌, ℕ, Bool, true, false, not, cond, Option, None, Some, Result, Ok, Err, OnOk, OnErr, refl, sym, ap, subst, ◌∙◌}
use Rattle.std.specs.BTreeMap.{BTreeMap, get}
use Rattle.std.specs.Option.{is_some}
use Rattle.ra_base.specs.Keys.{key_cmp}
use Rattle.ra_base.specs.declared.key.Key.{Key}
use Rattle.ra_session.specs.Sessions.{Session}
use Rattle.ra_session.specs.SessionCalls.{tick_session}
use Rattle.ra_session.specs.SessionRefusals.{Refusal, Refuses, IsRefusal, tick_refusal}
use Rattle.ra_hub.specs.declared.entry.SessionEntry.{SessionEntry}
use Rattle.ra_hub.specs.declared.entry.SessionEntry.TheVariants.{Going}
use Rattle.ra_session.specs.SessionStates.{SessionState, StandsForSession, OfEachSession, SessionBecomes}
use Rattle.ra_hub.specs.Entries.{EntryStands, OfEachStanding, EntryBecomes}
use Rattle.ra_session.specs.declared.values.SessionFault.{SessionFault}
use Rattle.ra_session.specs.declared.values.SessionFault.TheVariants as faults
use Rattle.ra_hub.specs.Faults.{is_no_memory}
use Rattle.ra_session.specs.Moments.{AdmitsTick}
use Rattle.ra_hub.specs.Standing.{AtSession, Sets, Called, Ticked}
use Rattle.ra_hub.specs.Sweeps.{tick_one}

from_some : SessionEntry → Option SessionEntry → SessionEntry
from_some d None = d
from_some d (Some x) = x

pub some_is : (a b : SessionEntry) → Some a ≡ Some b → a ≡ b
unfolding from_some
some_is a b e = ap (λ (o : Option SessionEntry). from_some a o) e

some_none : {T : Type 0} (x : SessionEntry) → Some x ≡ None → T
some_none x e = cc

pub none_is_not : {T : Type 0} (o : Option SessionEntry) (x : SessionEntry) → o ≡ Some x → o ≡ None → T
none_is_not o x some none = some_none x (sym some ∙ none)

pub session_called : (old new : BTreeMap Key SessionEntry) (key : Key) (x y : SessionEntry) (P : SessionEntry → SessionEntry → Type 0)
    → Some x ≡ get key_cmp old key → Sets old new key y → P x y → AtSession old new key P
session_called old new key x y P is sets holds = record {
  there = λ z at. (y, sets, subst (λ (w : SessionEntry). P w y) (some_is x z (is ∙ at)) holds);
  none = λ none. none_is_not (get key_cmp old key) x (sym is) none;
}

pub session_missing : (old new : BTreeMap Key SessionEntry) (key : Key) (P : SessionEntry → SessionEntry → Type 0)
    → None ≡ get key_cmp old key → new ≡ old → AtSession old new key P
session_missing old new key P is same = record {
  there = λ z at. none_is_not (get key_cmp old key) z at (sym is);
  none = λ none other. ap (λ (m : BTreeMap Key SessionEntry). get key_cmp m other) same;
}

-- ---- ticks

tick_refused : (r : Option Refusal) (fault : SessionFault) → IsRefusal fault r → is_no_memory fault ≡ false → is_some r ≡ true
tick_refused r (faults.Ended cause) is held = ap is_some is
tick_refused r (faults.Stale current) is held = ap is_some is
tick_refused r faults.NoLink is held = ap is_some is
tick_refused r (faults.TooLong stated) is held = ap is_some is
tick_refused r (faults.BadIpc fault message) is held = ap is_some is
tick_refused r (faults.TooLarge len) is held = ap is_some is
tick_refused r faults.IdsSpent is held = ap is_some is
tick_refused r (faults.NoSuchCall id) is held = ap is_some is
tick_refused r faults.WrongKind is held = ap is_some is
tick_refused r faults.NoMemory is held = cc

-- a session that was ticked
pub ticks : (now : ℕ) (x y : SessionState) → SessionBecomes x y (tick_session now) → OfEachSession x (λ (s : Session). tick_refusal now s ≡ None)
    → EntryBecomes (Going x) (Going y) (tick_one now)
ticks now x y becomes none s stands =
    subst (λ (r : Option Refusal). StandsForSession y (cond (is_some r) s (tick_session now s))) (sym (none s stands)) (becomes s stands)

memory_is : (fault : SessionFault) → is_no_memory fault ≡ true → fault ≡ faults.NoMemory
memory_is (faults.Ended cause) is = cc
memory_is (faults.Stale current) is = cc
memory_is faults.NoLink is = cc
memory_is (faults.TooLong stated) is = cc
memory_is (faults.BadIpc fault message) is = cc
memory_is (faults.TooLarge len) is = cc
memory_is faults.IdsSpent is = cc
memory_is (faults.NoSuchCall id) is = cc
memory_is faults.WrongKind is = cc
memory_is faults.NoMemory is = refl

-- a session whose tick was refused
pub stays : (now : ℕ) (x y : SessionState) (fault : SessionFault) → y ≡ x → OfEachSession x (λ (s : Session). IsRefusal fault (tick_refusal now s))
    → (fault ≡ faults.NoMemory → AdmitsTick now x) → Ticked now (not (is_no_memory fault)) (Going x) (Going y)
stays now x y fault same refused short = here (is_no_memory fault) refl
  where
    here : (b : Bool) → is_no_memory fault ≡ b → Ticked now (not b) (Going x) (Going y)
    here true found = (ap Going same, short (memory_is fault found))
    here false found = λ s stands.
        subst (λ (b : Bool). StandsForSession y (cond b s (tick_session now s))) (sym (tick_refused (tick_refusal now s) fault (refused s stands) found))
        (subst (λ (z : SessionState). StandsForSession z s) (sym same) stands)
