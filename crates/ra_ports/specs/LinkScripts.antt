-- What a link in memory holds, and what its calls make of it.
use Rattle.std.specs.Prelude.{◌≡◌, ℕ, Bool, true, false, if◌then◌else◌, Option, Some, None, List, [], ◌∷◌, ◌++◌, length, All, Result, Ok, Err, IsErr}
use Rattle.ra_ports.specs.declared.Failed.{Failed}
use Rattle.ra_ports.specs.declared.link.Framing.{Framing}
use Rattle.ra_ports.specs.declared.link.Got.{Got}
use Rattle.ra_ports.specs.declared.link.Got.TheVariants.{Bytes, NotYet, End}
use Rattle.ra_ports.specs.declared.link_step.LinkStep.{LinkStep}
use Rattle.ra_ports.specs.declared.link_step.LinkStep.TheVariants.{Piece}
use Rattle.ra_ports.specs.Causes.{IsListed, next_count}
use Rattle.ra_ports.specs.Links.{Incoming, has_ended}
use Rattle.ra_ports.specs.LinkSteps.{steps_bytes, next_step, IsFilled, IsStepPlace}

-- the steps that are left, and those that come once the link is framed; how it was framed, and whether it has ended; what was sent;
-- the numbers of the calls that fail; the counts of calls of `recv` and `send`, and of `recv` alone; for how many bytes it was asked
-- last; and the counts of faults, of idles, and of faults for want of room
pub record LinkScript : Type 0 where
  pub steps : List LinkStep
  pub after : List LinkStep
  pub framed : Option Framing
  pub ended : Bool
  pub sent : List ℕ
  pub failing : List ℕ
  pub calls : ℕ
  pub receives : ℕ
  pub room : ℕ
  pub faults : ℕ
  pub idles : ℕ
  pub short : ℕ

-- a link on which nothing has happened
abbrev pub new_link : List LinkStep → List LinkStep → List ℕ → LinkScript
new_link before after failing = record {
  steps = before;
  after = after;
  framed = None;
  ended = false;
  sent = [];
  failing = failing;
  calls = 0;
  receives = 0;
  room = 0;
  faults = 0;
  idles = 0;
  short = 0;
}

abbrev pub incoming_of : LinkScript → Incoming
incoming_of link = record {
  left = Some (steps_bytes link.steps);
  payload = Some (steps_bytes link.after);
  framed = link.framed;
  ended = link.ended;
  receives = link.receives;
  room = link.room;
  idles = link.idles;
}

-- no piece is empty, the place is within the steps that are given now, and behind them where the end was answered
pub record IsLinkPlace (steps after : List LinkStep) (at from : ℕ) (ended : Bool) : Type 0 where
  pub after_filled : All IsFilled after
  pub place : IsStepPlace steps at from
  pub over : ended ≡ true → at ≡ length steps

-- ---- receiving

-- how often nothing was there yet, after an answer
abbrev pub idles_after : ℕ → Result Got Failed → ℕ
idles_after idles (Ok (Bytes n)) = idles
idles_after idles (Ok NotYet) = next_count idles
idles_after idles (Ok End) = idles
idles_after idles (Err failed) = idles

-- how often it failed, after an answer
abbrev pub faults_after : ℕ → Result Got Failed → ℕ
faults_after faults (Ok got) = faults
faults_after faults (Err failed) = next_count faults

-- a link after a `recv` for so many bytes, by its answer and the steps that are left then
abbrev pub after_recv : LinkScript → ℕ → Result Got Failed → List LinkStep → LinkScript
after_recv link room answer steps = record link {
  steps = steps;
  ended = has_ended link.ended answer;
  calls = next_count link.calls;
  receives = next_count link.receives;
  room = room;
  faults = faults_after link.faults answer;
  idles = idles_after link.idles answer;
}

-- a listed call fails and takes no step, and any other gives the next step
pub record GivesAsListed (old new : LinkScript) (room : ℕ) (result : Result Got Failed) : Type 0 where
  pub listed : IsListed old.failing old.calls → IsErr result × (new.steps ≡ old.steps)
  pub given : (IsListed old.failing old.calls → ⊥) → next_step old.steps room ≡ (result, new.steps)
  pub state : new ≡ after_recv old room result new.steps

-- ---- sending

-- a link after a listed call of `send`
abbrev pub failed_send : LinkScript → LinkScript
failed_send link = record link { calls = next_count link.calls; faults = next_count link.faults }

-- a link after a `send` that is not listed, by its answer: it took the piece, or found no room for it
abbrev pub after_send : LinkScript → List ℕ → Result ℕ Failed → LinkScript
after_send link piece (Ok n) = record link { sent = link.sent ++ piece; calls = next_count link.calls }
after_send link piece (Err failed) =
    record link { calls = next_count link.calls; faults = next_count link.faults; short = next_count link.short }

-- a listed call fails, and any other takes the whole piece, or fails for want of room
pub record SendsAsListed (old new : LinkScript) (piece : List ℕ) (result : Result ℕ Failed) : Type 0 where
  pub listed : IsListed old.failing old.calls → IsErr result × (new ≡ failed_send old)
  pub other : (IsListed old.failing old.calls → ⊥) → new ≡ after_send old piece result

-- ---- framing

-- these bytes as a piece, where there are some
abbrev pub piece_of : List ℕ → List LinkStep
piece_of [] = []
piece_of (b ∷ bytes) = Piece (b ∷ bytes) ∷ []

-- what was read of the payload before comes now, and then the steps of a framed link, unless the link has ended
abbrev pub framed_steps : LinkScript → List ℕ → LinkScript
framed_steps link rest = if link.ended then link else (record link { steps = piece_of rest ++ link.after; after = [] })

-- a link that goes over to frames, and all else is the same
abbrev pub framed_link : LinkScript → List ℕ → LinkScript
framed_link link rest = record (framed_steps link rest) { framed = Some (record { sent = length link.sent; rest = rest }) }
