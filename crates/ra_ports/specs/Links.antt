-- What the calls of a link do to the bytes that come and to those that were sent.
use Rattle.std.specs.Prelude.{◌≡◌, ℕ, ◌<◌, ◌≤◌, Bool, true, false, List, [], ◌++◌, length, take, Option, Some, Result, Ok, Err}
use Rattle.ra_ports.specs.declared.Failed.{Failed}
use Rattle.ra_ports.specs.declared.link.Got.{Got}
use Rattle.ra_ports.specs.declared.link.Got.TheVariants.{Bytes, NotYet, End}
use Rattle.ra_ports.specs.declared.link.Framing.{Framing}

-- What is to come on a link: the bytes that are left, and those that come once the link is framed, both where it tells; how it was
-- framed, where it was and tells; whether it has answered its end; how often it was asked, for how many bytes it was asked last, and
-- how often nothing was there yet
pub record Incoming : Type 0 where
  pub left : Option (List ℕ)
  pub payload : Option (List ℕ)
  pub framed : Option Framing
  pub ended : Bool
  pub receives : ℕ
  pub room : ℕ
  pub idles : ℕ

-- these bytes were taken from the front of what is left, where that is told
abbrev pub Takes : Option (List ℕ) → Option (List ℕ) → List ℕ → Type 0
Takes old new bytes = (text : List ℕ) → old ≡ Some text → (rest : List ℕ) × (text ≡ bytes ++ rest) × (new ≡ Some rest)

-- these bytes were added to what was sent, where that is told
abbrev pub Sends : Option (List ℕ) → Option (List ℕ) → List ℕ → Type 0
Sends old new bytes = (before : List ℕ) → old ≡ Some before → new ≡ Some (before ++ bytes)

-- a front of these bytes was added
abbrev pub SendsFront : Option (List ℕ) → Option (List ℕ) → List ℕ → Type 0
SendsFront old new bytes = (n : ℕ) × Sends old new (take n bytes)

-- the bytes that an answer gives, in this buffer
abbrev pub got_bytes : Result Got Failed → List ℕ → List ℕ
got_bytes (Ok (Bytes n)) into = take n into
got_bytes (Ok NotYet) into = []
got_bytes (Ok End) into = []
got_bytes (Err failed) into = []

-- bytes are some, and have room in the buffer
abbrev pub IsPiece : Result Got Failed → List ℕ → Type 0
IsPiece (Ok (Bytes n)) into = (0 < n) × (n ≤ length into)
IsPiece (Ok NotYet) into = Unit {0}
IsPiece (Ok End) into = Unit {0}
IsPiece (Err failed) into = Unit {0}

-- whether the end was answered, after this answer
abbrev pub has_ended : Bool → Result Got Failed → Bool
has_ended before (Ok (Bytes n)) = before
has_ended before (Ok NotYet) = before
has_ended before (Ok End) = true
has_ended before (Err failed) = before

-- where the link has not ended, what comes now is what was read of its payload before, and then the payload that it told
abbrev pub StartsPayload : Incoming → Incoming → List ℕ → Type 0
StartsPayload old new rest = old.ended ≡ false → (payload : List ℕ) → old.payload ≡ Some payload → new.left ≡ Some (rest ++ payload)

-- where the link tells what was sent, it tells that it was framed behind that, and handed these bytes
abbrev pub IsHanded : Option (List ℕ) → Incoming → List ℕ → Type 0
IsHanded sent new rest = (before : List ℕ) → sent ≡ Some before → new.framed ≡ Some (record { sent = length before; rest = rest })
