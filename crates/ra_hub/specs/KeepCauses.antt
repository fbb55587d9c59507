-- Why a request is answered by KeepFault.
use Rattle.std.specs.Prelude.{◌≡◌, ℕ, ◌≤◌, Result, Ok, Err}
use Rattle.ra_keep.specs.Causes.{Rose}
use Rattle.ra_hub.specs.declared.fault.HubFault.{HubFault}
use Rattle.ra_hub.specs.declared.fault.HubFault.TheVariants.{Refused, NoSession, Session, KeepFault, NoMemory}

-- the answer is that the keeper failed
abbrev pub OnKeepFault : {T : Type 0} → Result T HubFault → Type 0 → Type 0
OnKeepFault (Ok x) P = Unit {0}
OnKeepFault (Err (Refused reason)) P = Unit {0}
OnKeepFault (Err NoSession) P = Unit {0}
OnKeepFault (Err (Session fault)) P = Unit {0}
OnKeepFault (Err KeepFault) P = P
OnKeepFault (Err NoMemory) P = Unit {0}

-- the answer is another one
abbrev pub OnOtherAnswer : {T : Type 0} → Result T HubFault → Type 0 → Type 0
OnOtherAnswer (Ok x) P = P
OnOtherAnswer (Err (Refused reason)) P = P
OnOtherAnswer (Err NoSession) P = P
OnOtherAnswer (Err (Session fault)) P = P
OnOtherAnswer (Err KeepFault) P = Unit {0}
OnOtherAnswer (Err NoMemory) P = P

-- the count of the keeper's faults never falls; it rises where KeepFault is answered, and else stays
pub record HasKeepCause {T : Type 0} (before after : ℕ) (result : Result T HubFault) : Type 0 where
  pub later : before ≤ after
  pub failed : OnKeepFault result (Rose before after)
  pub other : OnOtherAnswer result (after ≡ before)
