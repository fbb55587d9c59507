-- What the head of an opening in memory comes to.
use Rattle.std.specs.Prelude.{◌≡◌, ℕ, ◌+◌, ◌≤◌, true, false, Option, Some, None, Result, Ok, Err, List, ◌++◌}
use Rattle.ra_base.specs.declared.memory.NoMemory.{NoMemory}
use Rattle.ra_items.specs.Heads.{Head}
use Rattle.ra_items.specs.Readers.{Reader}
use Rattle.ra_shake.specs.declared.settings.ShakeSettings.{ShakeSettings}
use Rattle.ra_shake.specs.declared.server.Stage.TheVariants.{First}
use Rattle.ra_shake.specs.Made.{made_text}
use Rattle.ra_shake.specs.States.{ServerState}
use Rattle.ra_upgrade.specs.declared.request_head.HeadFault.{HeadFault}
use Rattle.ra_upgrade.specs.declared.request_head.HeadFault.TheVariants as head_faults
use Rattle.ra_upgrade.specs.declared.request_head.Upgrade.{Upgrade}
use Rattle.ra_upgrade.specs.AnswerTexts.{answer_text, refusal_text}
use Rattle.ra_opening.specs.declared.ends.OpeningEnd.{OpeningEnd}
use Rattle.ra_opening.specs.declared.ends.OpeningEnd.TheVariants as ends
use Rattle.ra_opening.specs.declared.heading.Headed.{Headed}
use Rattle.ra_opening.specs.declared.heading.Headed.TheVariants as headed
use Rattle.ra_opening.specs.Openings.{Grounds}
use Rattle.ra_opening.specs.Stands.{IsHeading, IsBegun}
use Rattle.ra_opening.specs.Comes.{Ends, HasHead, IsKnownAt, IsNoMemory}

-- so many draws were made
abbrev pub Draws : (ℕ → List ℕ) → (ℕ → List ℕ) → ℕ → Type 0
Draws old new k = (n : ℕ) → new n ≡ old (k + n)

-- how many draws a head takes
abbrev pub draws_for : Option (List ℕ) → ℕ
draws_for None = 2
draws_for (Some token) = 1

-- and how many of them come before the challenge
abbrev pub draws_before : Option (List ℕ) → ℕ
draws_before None = 1
draws_before (Some token) = 0

-- the token of a link, and the challenge, of the draws that come next
abbrev pub token_by : (ℕ → List ℕ) → Option (List ℕ) → List ℕ
token_by next None = made_text (next 0)
token_by next (Some token) = token

abbrev pub challenge_by : (ℕ → List ℕ) → Option (List ℕ) → List ℕ
challenge_by next None = made_text (next 1)
challenge_by next (Some token) = made_text (next 0)

abbrev pub state_by : (ℕ → List ℕ) → ShakeSettings → Upgrade → ServerState
state_by next settings upgrade = record {
  settings = settings;
  token = token_by next upgrade.token;
  reconnection = upgrade.reconnection;
  challenge = challenge_by next upgrade.token;
  stage = First;
}

-- a handshake was made, with these draws; or some of them were made
abbrev pub BeginsShake : (ℕ → List ℕ) → (ℕ → List ℕ) → ShakeSettings → Upgrade → Result ServerState NoMemory → Type 0
BeginsShake old new settings upgrade (Ok shake) = (shake ≡ state_by old settings upgrade) × Draws old new (draws_for upgrade.token)
BeginsShake old new settings upgrade (Err _) = (k : ℕ) × (k ≤ draws_for upgrade.token) × Draws old new k

-- and the head was answered, or nothing was written
abbrev pub AcceptsHead : List ℕ → List ℕ → Upgrade → Result ServerState NoMemory → Type 0
AcceptsHead before out upgrade (Ok shake) = out ≡ before ++ answer_text upgrade.key
AcceptsHead before out upgrade (Err _) = out ≡ before

-- a refused head was answered, or nothing was written
abbrev pub RefusesHead : HeadFault → OpeningEnd → List ℕ → List ℕ → Type 0
RefusesHead fault ends.NoMemory before out = out ≡ before
RefusesHead fault (ends.BadHead told) before out = (told ≡ fault) × (fault ≡ head_faults.NoMemory → ⊥) × (out ≡ before ++ refusal_text)
RefusesHead fault (ends.Refused reason) before out = ⊥
RefusesHead fault (ends.TooLong n) before out = ⊥
RefusesHead fault ends.Left before out = ⊥

-- what the bytes so far come to, before the frames behind a head are read
abbrev pub Heads : Headed → Grounds → Head Upgrade HeadFault → List ℕ → List ℕ → (ℕ → List ℕ) → Reader → List ℕ → Type 0
Heads headed.Waits grounds head text before next reader out = IsHeading grounds head text before next reader out
Heads (headed.Begun shake skip_frames) grounds head text before next reader out = IsBegun grounds head text before next reader shake skip_frames out
Heads (headed.End end) grounds head text before next reader out = Ends end grounds head text before next out

-- the head is read where a handshake is begun, which then waits for a message
abbrev pub IsBegunIn : Headed → Reader → Type 0
IsBegunIn headed.Waits reader = reader.behind_head ≡ false
IsBegunIn (headed.Begun shake skip_frames) reader = (reader.behind_head ≡ true) × (shake.stage ≡ First)
IsBegunIn (headed.End end) reader = Unit {0}

abbrev pub IsKnownIn : Headed → List ℕ → Type 0
IsKnownIn headed.Waits text = HasHead text
IsKnownIn (headed.Begun shake skip_frames) text = HasHead text
IsKnownIn (headed.End end) text = IsKnownAt end text

-- the link is to be framed, or memory ran out and nothing was written
abbrev pub IsToBeFramed : Headed → (before out : List ℕ) → Type 0
IsToBeFramed headed.Waits before out = ⊥
IsToBeFramed (headed.Begun shake skip_frames) before out = skip_frames ≡ false
IsToBeFramed (headed.End end) before out = IsNoMemory end × (out ≡ before)
