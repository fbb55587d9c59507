-- Where an opening in memory stands, after the bytes that came, and what was written and drawn for them.
use Rattle.std.specs.Prelude.{◌≡◌, ◌≢◌, ℕ, ◌+◌, Bool, true, false, Ok, List, [], ◌∷◌, ◌++◌}
use Rattle.ra_items.specs.Heads.{Head}
use Rattle.ra_items.specs.Items.{Placed, items}
use Rattle.ra_items.specs.Items.Item.{HeadItem}
use Rattle.ra_items.specs.Readers.{Reader, HasRead, new_reader}
use Rattle.ra_shake.specs.declared.server.Stage.TheVariants as stages
use Rattle.ra_shake.specs.States.{ServerState}
use Rattle.ra_upgrade.specs.declared.request_head.HeadFault.{HeadFault}
use Rattle.ra_upgrade.specs.declared.request_head.Upgrade.{Upgrade}
use Rattle.ra_opening.specs.declared.phase.Phase.{Phase}
use Rattle.ra_opening.specs.declared.phase.Phase.TheVariants as phases
use Rattle.ra_opening.specs.Openings.{Grounds, Opened, new_opened, head_came, items_done}
use Rattle.ra_opening.specs.Openings.Stage.{Shaking}

-- what an opening in memory holds: the unread bytes, and how far it is
pub record OpeningState : Type 0 where
  pub reader : Reader
  pub phase : Phase

-- all that was written, before and now, is what the opening wrote, and the draws that come next are those behind its own
pub record Tells (grounds : Grounds) (before : List ℕ) (next : ℕ → List ℕ) (out : List ℕ) (s : Opened) : Type 0 where
  pub written : s.out ≡ before ++ out
  pub draws : (n : ℕ) → next n ≡ grounds.draw (s.drawn + n)

-- the head was not read
pub record IsUnopened (grounds : Grounds) (head : Head Upgrade HeadFault) (text before : List ℕ) (next : ℕ → List ℕ) (reader : Reader) (out : List ℕ) : Type 0 where
  pub read : HasRead head text [] 0 reader
  pub unopened : reader.behind_head ≡ false
  pub tells : Tells grounds before next out new_opened

-- and none has ended
pub record IsHeading (grounds : Grounds) (head : Head Upgrade HeadFault) (text before : List ℕ) (next : ℕ → List ℕ) (reader : Reader) (out : List ℕ) : Type 0 where
  pub waits : IsUnopened grounds head text before next reader out
  pub none : items head text ≡ []

-- the head was read, and it is answered
pub record IsBegun (grounds : Grounds) (head : Head Upgrade HeadFault) (text before : List ℕ) (next : ℕ → List ℕ) (reader : Reader) (shake : ServerState) (skip_frames : Bool) (out : List ℕ) : Type 0 where
  pub upgrade : Upgrade
  pub place : ℕ
  pub read : HasRead head text (record { item = HeadItem (Ok upgrade); place = place } ∷ []) place reader
  pub behind : reader.behind_head ≡ true
  pub skips : upgrade.skip_frames ≡ skip_frames
  pub stage : (head_came grounds (Ok upgrade) new_opened).stage ≡ Shaking shake
  pub tells : Tells grounds before next out (head_came grounds (Ok upgrade) new_opened)

-- and what follows it waits until the link is framed
abbrev pub IsHeld : Grounds → Head Upgrade HeadFault → List ℕ → List ℕ → (ℕ → List ℕ) → Reader → ServerState → List ℕ → Type 0
IsHeld grounds head text before next reader shake out = IsBegun grounds head text before next reader shake false out

-- some items were read, and the handshake goes on
pub record IsShaking (grounds : Grounds) (head : Head Upgrade HeadFault) (text before : List ℕ) (next : ℕ → List ℕ) (reader : Reader) (shake : ServerState) (out : List ℕ) : Type 0 where
  pub done : List (Placed Upgrade HeadFault)
  pub at : ℕ
  pub read : HasRead head text done at reader
  pub behind : reader.behind_head ≡ true
  pub stage : (items_done grounds done new_opened).stage ≡ Shaking shake
  pub tells : Tells grounds before next out (items_done grounds done new_opened)

-- and all items were read
pub record IsWaiting (grounds : Grounds) (head : Head Upgrade HeadFault) (text before : List ℕ) (next : ℕ → List ℕ) (reader : Reader) (shake : ServerState) (out : List ℕ) : Type 0 where
  pub shaking : IsShaking grounds head text before next reader shake out
  pub all : items head text ≡ shaking.done

abbrev pub StandsIn : Phase → Grounds → Head Upgrade HeadFault → List ℕ → List ℕ → (ℕ → List ℕ) → Reader → List ℕ → Type 0
StandsIn phases.Heading grounds head text before next reader out = IsHeading grounds head text before next reader out
StandsIn (phases.Held shake) grounds head text before next reader out = IsHeld grounds head text before next reader shake out
StandsIn (phases.Shaking shake) grounds head text before next reader out = IsWaiting grounds head text before next reader shake out
StandsIn phases.Over grounds head text before next reader out = ⊥

-- the opening that is not over, after this text
abbrev pub Stands : Grounds → Head Upgrade HeadFault → List ℕ → List ℕ → (ℕ → List ℕ) → OpeningState → List ℕ → Type 0
Stands grounds head text before next opening out = StandsIn opening.phase grounds head text before next opening.reader out

abbrev pub new_opening : OpeningState
new_opening = record { reader = new_reader; phase = phases.Heading }

-- the client has asked, or the opening is over without
abbrev pub IsFinished : OpeningState → Type 0
IsFinished opening = opening.phase ≡ phases.Over

abbrev pub IsOpen : OpeningState → Type 0
IsOpen opening = opening.phase ≢ phases.Over

-- no head was read
abbrev pub HasNoHead : OpeningState → Type 0
HasNoHead opening = opening.phase ≡ phases.Heading

-- the head was accepted, and the link is to be framed before more is read
abbrev pub NeedsFraming : Phase → Type 0
NeedsFraming phases.Heading = ⊥
NeedsFraming (phases.Held shake) = Unit {0}
NeedsFraming (phases.Shaking shake) = ⊥
NeedsFraming phases.Over = ⊥

-- the handshake goes on
abbrev pub IsInShake : Phase → Type 0
IsInShake phases.Heading = ⊥
IsInShake (phases.Held shake) = ⊥
IsInShake (phases.Shaking shake) = Unit {0}
IsInShake phases.Over = ⊥

-- behind the head stands a handshake that is not over
abbrev pub PhaseFits : Phase → Reader → Type 0
PhaseFits phases.Heading reader = reader.behind_head ≡ false
PhaseFits (phases.Held shake) reader = (reader.behind_head ≡ true) × (shake.stage ≢ stages.Over)
PhaseFits (phases.Shaking shake) reader = (reader.behind_head ≡ true) × (shake.stage ≢ stages.Over)
PhaseFits phases.Over reader = Unit {0}

abbrev pub framed_phase : Phase → Phase
framed_phase phases.Heading = phases.Heading
framed_phase (phases.Held shake) = phases.Shaking shake
framed_phase (phases.Shaking shake) = phases.Shaking shake
framed_phase phases.Over = phases.Over

-- where an opening stands when a piece more has come, and nothing was done for it
abbrev pub IsFed : Phase → Grounds → Head Upgrade HeadFault → List ℕ → List ℕ → (ℕ → List ℕ) → Reader → List ℕ → Type 0
IsFed phases.Heading grounds head text before next reader out = IsUnopened grounds head text before next reader out
IsFed (phases.Held shake) grounds head text before next reader out = IsHeld grounds head text before next reader shake out
IsFed (phases.Shaking shake) grounds head text before next reader out = IsShaking grounds head text before next reader shake out
IsFed phases.Over grounds head text before next reader out = ⊥
