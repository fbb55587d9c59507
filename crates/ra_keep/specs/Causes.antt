-- What a keeper of records tells after a call, and when it may answer that it has failed.
use Rattle.std.specs.Prelude.{◌≡◌, ◌≢◌, ℕ, ◌+◌, ◌-◌, ◌^◌, ◌≤◌, min, List, Option, Some, Result, Ok, Err}
use Rattle.ra_base.specs.declared.kind.Kind.TheVariants.{Tunnel}
use Rattle.ra_keep.specs.declared.record.Record.{Record}
use Rattle.ra_keep.specs.declared.keeper.KeepFault.{KeepFault}
use Rattle.ra_keep.specs.declared.keeper.KeepFault.TheVariants.{Failed, NoMemory}

-- a counter of 64 bits after one more, which stays at its last value
abbrev pub next_count : ℕ → ℕ
next_count count = min (count + 1) (2 ^ 64 - 1)

-- a count that rose, or that stands at the end of its type
abbrev pub Rose : ℕ → ℕ → Type 0
Rose before now = next_count before ≤ now

-- the answer is that the keeper failed
abbrev pub OnFailed : {T : Type 0} → Result T KeepFault → Type 0 → Type 0
OnFailed (Ok x) P = Unit {0}
OnFailed (Err Failed) P = P
OnFailed (Err NoMemory) P = Unit {0}

-- the answer is another one
abbrev pub OnNotFailed : {T : Type 0} → Result T KeepFault → Type 0 → Type 0
OnNotFailed (Ok x) P = P
OnNotFailed (Err Failed) P = Unit {0}
OnNotFailed (Err NoMemory) P = P

-- the count never falls; it rises where the keeper answers that it failed, and else stays
pub record HasCause {T : Type 0} (before now : ℕ) (result : Result T KeepFault) : Type 0 where
  pub later : before ≤ now
  pub failed : OnFailed result (Rose before now)
  pub other : OnNotFailed result (now ≡ before)

-- the list that is told, where one still is, is the one that is due
abbrev pub TellsOnly : Option (List Record) → Option (List Record) → Type 0
TellsOnly due told = (list : List Record) → told ≡ Some list → due ≡ Some list

-- the record is of no tunnel
abbrev pub IsOfNoTunnel : Record → Type 0
IsOfNoTunnel record_kept = record_kept.key.kind ≢ Tunnel
