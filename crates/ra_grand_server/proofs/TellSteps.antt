-- What comes of a telling at a hub.
use Rattle.std.proofs.Common.{◌≡◌, ℕ, true, false, Option, Some, None, Result, Ok, Err, true≢false, refl, ap, sym, ◌∙◌, subst}
use Rattle.ra_base.specs.declared.key.Cause.TheVariants.{Stopped}
use Rattle.ra_base.specs.declared.key.Key.{Key}
use Rattle.ra_registry.specs.declared.row.Row.{Row}
use Rattle.ra_session.specs.View as view
use Rattle.ra_session.specs.declared.values.SessionFault.{SessionFault}
use Rattle.ra_session.specs.declared.values.SessionFault.TheVariants as session_faults
use Rattle.ra_session.specs.declared.values.Tell.{Tell}
use Rattle.ra_session.specs.declared.values.Tell.TheVariants as tells
use Rattle.ra_session.specs.SessionRefusals.{Refusal, ended, too_large}
use Rattle.ra_session.specs.Sessions.{Session}
use Rattle.ra_hub.specs.Hubs.{Hub, at_key}
use Rattle.ra_hub.specs.HubCalls.{Answers, GivesNothing, TellsAt}
use Rattle.ra_hub.specs.declared.fault.HubFault.{HubFault}
use Rattle.ra_hub.specs.declared.fault.HubFault.TheVariants as faults
use Rattle.ra_grand_server.specs.Tellings.{telling_of, ToldIn, is_too_large}
use Rattle.ra_grand_runs.specs.Works.{Telling, told, telling_refusal, large_answer, unless_large, sayable}

abbrev U : Type 0
U = Unit {0}

-- a telling in memory says what it stands for
same_refusal : (tell : Tell) (s : Session) → view.tell_refusal tell s ≡ telling_refusal (telling_of tell) s
same_refusal (tells.Answer id given fire) s = refl
same_refusal (tells.Say body) s = refl

same_told : (tell : Tell) (now : ℕ) (s : Session) → view.told tell now s ≡ told (telling_of tell) now s
same_told (tells.Answer id given fire) now s = refl
same_told (tells.Say body) now s = refl

-- ---- told once

abbrev TellsOnce : {X : Type 0} → Hub → Key → Telling → ℕ → Session → Result X HubFault → (Hub → Type 0) → Type 0
TellsOnce h key t now s result After = Answers (telling_refusal t s) GivesNothing (at_key key (told t now s) h) (λ fault. h) h result After

tells_once : (h : Hub) (key : Key) (tell : Tell) (now : ℕ) (s : Session) (result : Result U HubFault) (After : Hub → Type 0)
    → Answers (view.tell_refusal tell s) GivesNothing (at_key key (view.told tell now s) h) (λ fault. h) h result After
    → TellsOnce h key (telling_of tell) now s result After
tells_once h key tell now s result After is =
    subst (λ (refusal : Option Refusal). Answers refusal GivesNothing (at_key key (told (telling_of tell) now s) h) (λ fault. h) h result After) (same_refusal tell s)
    (subst (λ (after : Session). Answers (view.tell_refusal tell s) GivesNothing (at_key key after h) (λ fault. h) h result After) (same_told tell now s) is)

same_by : (h : Hub) (key : Key) (t : Telling) (now : ℕ) (s : Session) (result : Result U HubFault) (After : Hub → Type 0)
    → sayable t s ≡ t → TellsOnce h key t now s result After → TellsOnce h key (sayable t s) now s result After
same_by h key t now s result After same once = subst (λ (x : Telling). TellsOnce h key x now s result After) (sym same) once

-- ---- no answer was too large

pub told_ok : (h : Hub) (key : Key) (tell : Tell) (now : ℕ) (r : Option Row) (session : Option Session) (x : U) (After : Hub → Type 0)
    → TellsAt h key tell now r session (Ok x) After → ToldIn h key (telling_of tell) now r session (Ok x) After
told_ok h key tell now None session x After is = is
told_ok h key tell now (Some r) None x After is = is
told_ok h key tell now (Some r) (Some s) x After is =
    let once = tells_once h key tell now s (Ok x) After is in
    same_by h key (telling_of tell) now s (Ok x) After (ap (λ (refusal : Option Refusal). unless_large refusal (telling_of tell)) once.0) once

-- a refusal by the session, for another cause
refused_by : (h : Hub) (key : Key) (t : Telling) (now : ℕ) (s : Session) (fault : SessionFault) (After : Hub → Type 0)
    → is_too_large (faults.Session fault) ≡ false → TellsOnce {X = U} h key t now s (Err (faults.Session fault)) After
    → TellsOnce {X = U} h key (sayable t s) now s (Err (faults.Session fault)) After
refused_by h key t now s (session_faults.Ended cause) After small once =
    same_by h key t now s (Err (faults.Session (session_faults.Ended cause))) After (ap (λ (r : Option Refusal). unless_large r t) once.0) once
refused_by h key t now s (session_faults.Stale current) After small once =
    same_by h key t now s (Err (faults.Session (session_faults.Stale current))) After (ap (λ (r : Option Refusal). unless_large r t) once.0) once
refused_by h key t now s session_faults.NoLink After small once =
    same_by h key t now s (Err (faults.Session session_faults.NoLink)) After (ap (λ (r : Option Refusal). unless_large r t) once.0) once
refused_by h key t now s (session_faults.TooLong n) After small once =
    same_by h key t now s (Err (faults.Session (session_faults.TooLong n))) After (ap (λ (r : Option Refusal). unless_large r t) once.0) once
refused_by h key t now s (session_faults.BadIpc bad message) After small once =
    same_by h key t now s (Err (faults.Session (session_faults.BadIpc bad message))) After (ap (λ (r : Option Refusal). unless_large r t) once.0) once
refused_by h key t now s (session_faults.TooLarge len) After small once = absurd (true≢false small)
refused_by h key t now s session_faults.IdsSpent After small once =
    same_by h key t now s (Err (faults.Session session_faults.IdsSpent)) After (ap (λ (r : Option Refusal). unless_large r t) once.0) once
refused_by h key t now s (session_faults.NoSuchCall id) After small once =
    same_by h key t now s (Err (faults.Session (session_faults.NoSuchCall id))) After (ap (λ (r : Option Refusal). unless_large r t) once.0) once
refused_by h key t now s session_faults.WrongKind After small once =
    same_by h key t now s (Err (faults.Session session_faults.WrongKind)) After (ap (λ (r : Option Refusal). unless_large r t) once.0) once
refused_by h key t now s session_faults.NoMemory After small once = (tt, once.1)

fault_by : (h : Hub) (key : Key) (t : Telling) (now : ℕ) (s : Session) (fault : HubFault) (After : Hub → Type 0)
    → is_too_large fault ≡ false → TellsOnce {X = U} h key t now s (Err fault) After → TellsOnce {X = U} h key (sayable t s) now s (Err fault) After
fault_by h key t now s (faults.Session fault) After small once = refused_by h key t now s fault After small once
fault_by h key t now s (faults.Refused reason) After small once = absurd once
fault_by h key t now s faults.NoSession After small once = absurd once
fault_by h key t now s faults.KeepFault After small once = absurd once
fault_by h key t now s faults.NoMemory After small once = once

pub told_err : (h : Hub) (key : Key) (tell : Tell) (now : ℕ) (r : Option Row) (session : Option Session) (fault : HubFault) (After : Hub → Type 0)
    → is_too_large fault ≡ false → TellsAt {X = U} h key tell now r session (Err fault) After → ToldIn {X = U} h key (telling_of tell) now r session (Err fault) After
told_err h key tell now None session fault After small is = is
told_err h key tell now (Some r) None fault After small is = is
told_err h key tell now (Some r) (Some s) fault After small is =
    fault_by h key (telling_of tell) now s fault After small (tells_once h key tell now s (Err fault) After is)

-- ---- an answer was too large

-- its session says so, and all is as it was
pub record WasLarge (h : Hub) (t : Telling) (r : Option Row) (session : Option Session) (After : Hub → Type 0) : Type 0 where
  pub row : Row
  pub has_row : r ≡ Some row
  pub told : Session
  pub has_session : session ≡ Some told
  pub len : ℕ
  pub refusal : telling_refusal t told ≡ Some (too_large len)
  pub same : After h

large_by : (h : Hub) (key : Key) (tell : Tell) (now len : ℕ) (r : Option Row) (session : Option Session) (After : Hub → Type 0)
    → TellsAt {X = U} h key tell now r session (Err (faults.Session (session_faults.TooLarge len))) After → WasLarge h (telling_of tell) r session After
large_by h key tell now len None session After is = absurd is
large_by h key tell now len (Some r) None After is = absurd (apart is.0)
  where
    apart : ◌≡◌ {A = Option Refusal} (Some (ended Stopped)) (Some (too_large len)) → ⊥
    apart e = cc
large_by h key tell now len (Some r) (Some s) After is =
    let once = tells_once h key tell now s (Err (faults.Session (session_faults.TooLarge len))) After is in
    record { row = r; has_row = refl; told = s; has_session = refl; len = len; refusal = once.0; same = once.1 }

pub was_large : (h : Hub) (key : Key) (tell : Tell) (now : ℕ) (r : Option Row) (session : Option Session) (fault : HubFault) (After : Hub → Type 0)
    → is_too_large fault ≡ true → TellsAt {X = U} h key tell now r session (Err fault) After → WasLarge h (telling_of tell) r session After
was_large h key tell now r session (faults.Session (session_faults.TooLarge len)) After large is = large_by h key tell now len r session After is
was_large h key tell now r session (faults.Session (session_faults.Ended cause)) After large is = absurd cc
was_large h key tell now r session (faults.Session (session_faults.Stale current)) After large is = absurd cc
was_large h key tell now r session (faults.Session session_faults.NoLink) After large is = absurd cc
was_large h key tell now r session (faults.Session (session_faults.TooLong n)) After large is = absurd cc
was_large h key tell now r session (faults.Session (session_faults.BadIpc bad message)) After large is = absurd cc
was_large h key tell now r session (faults.Session session_faults.IdsSpent) After large is = absurd cc
was_large h key tell now r session (faults.Session (session_faults.NoSuchCall id)) After large is = absurd cc
was_large h key tell now r session (faults.Session session_faults.WrongKind) After large is = absurd cc
was_large h key tell now r session (faults.Session session_faults.NoMemory) After large is = absurd cc
was_large h key tell now r session (faults.Refused reason) After large is = absurd cc
was_large h key tell now r session faults.NoSession After large is = absurd cc
was_large h key tell now r session faults.KeepFault After large is = absurd cc
was_large h key tell now r session faults.NoMemory After large is = absurd cc

-- memory ran out
pub told_short : (h : Hub) (key : Key) (t : Telling) (now : ℕ) (r : Option Row) (session : Option Session) (After : Hub → Type 0) → After h
    → ToldIn {X = U} h key t now r session (Err faults.NoMemory) After
told_short h key t now None session After same = same
told_short h key t now (Some r) None After same = same
told_short h key t now (Some r) (Some s) After same = same

-- nothing stands in for it
pub told_large : (h : Hub) (key : Key) (tell : Tell) (now : ℕ) (r : Option Row) (session : Option Session) (fault : HubFault) (After : Hub → Type 0)
    → large_answer (telling_of tell) ≡ telling_of tell → is_too_large fault ≡ true → TellsAt {X = U} h key tell now r session (Err fault) After
    → ToldIn {X = U} h key (telling_of tell) now r session (Err fault) After
told_large h key tell now None session fault After none large is = is
told_large h key tell now (Some r) None fault After none large is = is
told_large h key tell now (Some r) (Some s) fault After none large is =
    let was = was_large h key tell now (Some r) (Some s) fault After large is in
    let refusal : telling_refusal (telling_of tell) s ≡ Some (too_large was.len) =
    ap (λ (x : Session). telling_refusal (telling_of tell) x) (one s was.told was.has_session) ∙ was.refusal in
    same_by h key (telling_of tell) now s (Err fault) After (ap (λ (y : Option Refusal). unless_large y (telling_of tell)) refusal ∙ none)
    (tells_once h key tell now s (Err fault) After is)
  where
    one : (s other : Session) → ◌≡◌ {A = Option Session} (Some s) (Some other) → s ≡ other
    one s other e = cc

-- another answer was told
pub told_again : (h : Hub) (key : Key) (t : Telling) (again : Tell) (now : ℕ) (r : Option Row) (session : Option Session) (result : Result U HubFault) (Before After : Hub → Type 0)
    → WasLarge h t r session Before → telling_of again ≡ large_answer t → TellsAt h key again now r session result After → ToldIn h key t now r session result After
told_again h key t again now None session result Before After was is told = absurd (apart was.has_row)
  where
    apart : {x : Row} → ◌≡◌ {A = Option Row} None (Some x) → ⊥
    apart e = cc
told_again h key t again now (Some r) None result Before After was is told = absurd (apart was.has_session)
  where
    apart : {x : Session} → ◌≡◌ {A = Option Session} None (Some x) → ⊥
    apart e = cc
told_again h key t again now (Some r) (Some s) result Before After was is told =
    let refusal : telling_refusal t s ≡ Some (too_large was.len) = ap (λ (x : Session). telling_refusal t x) (one s was.told was.has_session) ∙ was.refusal in
    subst (λ (x : Telling). TellsOnce {X = U} h key x now s result After) (is ∙ sym (ap (λ (y : Option Refusal). unless_large y t) refusal))
    (tells_once h key again now s result After told)
  where
    one : (s other : Session) → ◌≡◌ {A = Option Session} (Some s) (Some other) → s ≡ other
    one s other e = cc

-- a job has one telling
pub one_telling : (t : Telling) (tell : Tell) {told : Option Telling} → told ≡ Some t → told ≡ Some (telling_of tell) → (P : Telling → Type 0) → P (telling_of tell) → P t
one_telling t tell is has P p = subst P (same is has) p
  where
    same : {told : Option Telling} {x y : Telling} → told ≡ Some x → told ≡ Some y → y ≡ x
    same e f = cc
