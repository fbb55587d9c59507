-- The head of the text that comes on a link, as a value that says what is answered to each front of the text.
use Rattle.std.specs.Prelude.{ℕ, ◌≤◌, nat_lt, if◌then◌else◌, List, length, take, Option, Some, None, Result, Ok, Err, ⊤}
use Rattle.ra_upgrade.specs.declared.answer_head.AnswerFault.{AnswerFault}
use Rattle.ra_upgrade.specs.declared.request_head.HeadFault.{HeadFault}
use Rattle.ra_upgrade.specs.declared.request_head.Upgrade.{Upgrade}
use Rattle.ra_upgrade.specs.AnswerHeads.{AnswerIs}
use Rattle.ra_upgrade.specs.RequestHeads.{HeadIs}

-- with so many bytes the head is judged: it says something, or is refused
pub record Head (A E : Type 0) : Type 0 where
  pub size : ℕ
  pub says : Result A E

-- what a head says has its length
abbrev pub sized : {A E : Type 0} → ℕ → Result A E → Result (Option (A × ℕ)) E
sized n (Ok says) = Ok (Some (says, n))
sized n (Err fault) = Err fault

-- what is answered to the first n bytes: with too few for the head more are asked for
abbrev pub answered : {A E : Type 0} → Head A E → ℕ → Result (Option (A × ℕ)) E
answered head n = if nat_lt n head.size then Ok None else sized head.size head.says

-- a definition of heads answers each front of the text as this head does
abbrev pub IsHeadBy : {A E : Type 0} → (List ℕ → Result (Option (A × ℕ)) E → Type 0) → List ℕ → Head A E → Type 0
IsHeadBy Answer text head = (n : ℕ) → n ≤ length text → Answer (take n text) (answered head n)

-- the head that a server reads: an upgrade request
abbrev pub IsRequestOf : List ℕ → Head Upgrade HeadFault → Type 0
IsRequestOf text head = IsHeadBy HeadIs text head

-- an acceptance says nothing but its length
abbrev pub length_alone : {E : Type 0} → Result (Option (⊤ × ℕ)) E → Result (Option ℕ) E
length_alone (Ok None) = Ok None
length_alone (Ok (Some accepted)) = Ok (Some accepted.1)
length_alone (Err fault) = Err fault

-- the head that a client with that key reads: the answer to its request
abbrev pub IsAnswerOf : List ℕ → List ℕ → Head ⊤ AnswerFault → Type 0
IsAnswerOf key text head = IsHeadBy (λ bytes result. AnswerIs key bytes (length_alone result)) text head
