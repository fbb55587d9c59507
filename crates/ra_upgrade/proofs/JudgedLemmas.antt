-- What a head asks for is never refused for want of memory.
use Rattle.std.proofs.Common.{ℕ, Bool, true, false, not, cond, eqb, nat_lt, List, length, Option, Some, None, Result, Ok, Err, codes, sym, subst, inl, inr, position}
use Rattle.std.specs.Prelude.{⊤}
use Rattle.ra_base.specs.declared.token.TokenFault.{TokenFault}
use Rattle.ra_base.specs.declared.token.TokenFault.TheVariants as tokens
use Rattle.ra_base.specs.TokenGrammar.{is_visible, unless_bad, token_of}
use Rattle.ra_upgrade.specs.declared.answer_head.AnswerFault.{AnswerFault}
use Rattle.ra_upgrade.specs.declared.answer_head.AnswerFault.TheVariants as answers
use Rattle.ra_upgrade.specs.declared.request_head.HeadFault.{HeadFault}
use Rattle.ra_upgrade.specs.declared.request_head.HeadFault.TheVariants.{TooLong, BadHead, NotGet, NoUpgrade, NoKey, BadToken, NoMemory}
use Rattle.ra_upgrade.specs.declared.request_head.Upgrade.{Upgrade}
use Rattle.ra_upgrade.specs.AnswerHeads.{is_value, accepts, accepted, says, AnswerIs}
use Rattle.ra_upgrade.specs.AnswerTexts.{accept_text}
use Rattle.ra_upgrade.specs.Ends.{max_head}
use Rattle.ra_upgrade.specs.Fields.{first_value}
use Rattle.ra_upgrade.specs.Query.{only_value, query_of}
use Rattle.ra_upgrade.specs.RequestHeads.{asks, located, with_token, checked_token, token_in, asked, with_key, upgrade_of, is_get, is_websocket, HeadIs}
use Rattle.ra_upgrade.specs.RequestTexts.{key_text}

-- memory did not run out
abbrev IsTokenFault : TokenFault → Type 0
IsTokenFault tokens.NoMemory = ⊥
IsTokenFault tokens.Empty = ⊤
IsTokenFault (tokens.TooLong len) = ⊤
IsTokenFault (tokens.BadByte at) = ⊤

abbrev IsHeadFault : HeadFault → Type 0
IsHeadFault NoMemory = ⊥
IsHeadFault (BadToken fault) = IsTokenFault fault
IsHeadFault TooLong = ⊤
IsHeadFault BadHead = ⊤
IsHeadFault NotGet = ⊤
IsHeadFault NoUpgrade = ⊤
IsHeadFault NoKey = ⊤

abbrev IsJudged : {A : Type 0} → Result A HeadFault → Type 0
IsJudged (Ok x) = ⊤
IsJudged (Err fault) = IsHeadFault fault

abbrev IsTaken : Result (List ℕ) TokenFault → Type 0
IsTaken (Ok x) = ⊤
IsTaken (Err fault) = IsTokenFault fault

either : {X : Type 0} (P : X → Type 0) (b : Bool) (x y : X) → P x → P y → P (cond b x y)
either P true x y p q = p
either P false x y p q = q

unless_bad_taken : (text : List ℕ) (at : Option ℕ) → IsTaken (unless_bad text at)
unless_bad_taken text None = tt
unless_bad_taken text (Some at) = tt

token_taken : (text : List ℕ) → IsTaken (token_of text)
token_taken text =
    either IsTaken (eqb (length text) 0) (Err tokens.Empty) (cond (nat_lt 256 (length text)) (Err (tokens.TooLong (length text))) (unless_bad text (position (λ b. not (is_visible b)) text))) tt
    (either IsTaken (nat_lt 256 (length text)) (Err (tokens.TooLong (length text))) (unless_bad text (position (λ b. not (is_visible b)) text)) tt
    (unless_bad_taken text (position (λ b. not (is_visible b)) text)))

checked_judged : (query key : List ℕ) (token : Result (List ℕ) TokenFault) → IsTaken token → IsJudged (with_token query key (checked_token token))
checked_judged query key (Ok token) is = tt
checked_judged query key (Err fault) is = is

token_judged : (query key : List ℕ) (text : Option (List ℕ)) → IsJudged (with_token query key (token_in text))
unfolding token_in
token_judged query key None = tt
token_judged query key (Some text) = checked_judged query key (token_of text) (token_taken text)

asked_judged : (query key : List ℕ) → IsJudged (asked query key)
unfolding asked
asked_judged query key = token_judged query key (only_value (codes "reconnectionToken") query)

key_judged : (query : List ℕ) (key : Option (List ℕ)) → IsJudged (with_key query key)
unfolding with_key
key_judged query None = tt
key_judged query (Some key) = either IsJudged (eqb (length key) 0) (Err NoKey) (asked query key) tt (asked_judged query key)

asks_judged : (method : List ℕ) (minor : ℕ) (target : List ℕ) (fields : List (List ℕ × List ℕ)) → IsJudged (upgrade_of method minor target fields)
unfolding upgrade_of
asks_judged method minor target fields =
    let key : Result Upgrade HeadFault = with_key (query_of target) (first_value (codes "sec-websocket-key") fields) in
    either IsJudged (not (is_get method minor)) (Err NotGet) (cond (not (is_websocket (first_value (codes "upgrade") fields))) (Err NoUpgrade) key) tt
    (either IsJudged (not (is_websocket (first_value (codes "upgrade") fields))) (Err NoUpgrade) key tt
    (key_judged (query_of target) (first_value (codes "sec-websocket-key") fields)))

located_judged : (n : ℕ) (r : Result Upgrade HeadFault) → IsJudged r → IsJudged (located n r)
located_judged n (Ok upgrade) is = tt
located_judged n (Err fault) is = is

head_judged : (bytes : List ℕ) (r : Result (Option (Upgrade × ℕ)) HeadFault) → HeadIs bytes r → IsJudged r
head_judged bytes r (inl a) = subst IsJudged (sym a.is) (either IsJudged (nat_lt (length bytes) max_head) (Ok None) (Err TooLong) tt tt)
head_judged bytes r (inr (inl a)) = subst IsJudged (sym a.is) tt
head_judged bytes r (inr (inr a)) = subst IsJudged (sym a.is) (located_judged a.n (asks a.head) (asks_judged a.head.method a.head.minor a.head.target _))

-- no head has want of memory as its answer
pub head_no_memory : (bytes : List ℕ) → ¬ (HeadIs bytes (Err NoMemory))
head_no_memory bytes is = head_judged bytes (Err NoMemory) is

pub token_no_memory : (bytes : List ℕ) → ¬ (HeadIs bytes (Err (BadToken tokens.NoMemory)))
token_no_memory bytes is = head_judged bytes (Err (BadToken tokens.NoMemory)) is

abbrev IsAnswerFault : {A : Type 0} → Result A AnswerFault → Type 0
IsAnswerFault (Ok x) = ⊤
IsAnswerFault (Err answers.NoMemory) = ⊥
IsAnswerFault (Err answers.TooLong) = ⊤
IsAnswerFault (Err answers.BadHead) = ⊤
IsAnswerFault (Err (answers.Status code)) = ⊤
IsAnswerFault (Err answers.BadAccept) = ⊤

accepts_judged : (key : List ℕ) (code : ℕ) (fields : List (List ℕ × List ℕ)) → IsAnswerFault (accepts key code fields)
unfolding accepts
accepts_judged key code fields =
    let same : Bool = is_value (first_value (codes "sec-websocket-accept") fields) (accept_text (key_text key)) in
    either IsAnswerFault (not (eqb code 101)) (Err (answers.Status code)) (cond same (Ok tt) (Err answers.BadAccept)) tt
    (either IsAnswerFault same (Ok tt) (Err answers.BadAccept) tt tt)

accepted_judged : (n : ℕ) (r : Result ⊤ AnswerFault) → IsAnswerFault r → IsAnswerFault (accepted n r)
accepted_judged n (Ok x) is = tt
accepted_judged n (Err answers.NoMemory) is = is
accepted_judged n (Err answers.TooLong) is = tt
accepted_judged n (Err answers.BadHead) is = tt
accepted_judged n (Err (answers.Status code)) is = tt
accepted_judged n (Err answers.BadAccept) is = tt

answer_judged : (key bytes : List ℕ) (r : Result (Option ℕ) AnswerFault) → AnswerIs key bytes r → IsAnswerFault r
answer_judged key bytes r (inl a) = subst IsAnswerFault (sym a.is) (either IsAnswerFault (nat_lt (length bytes) max_head) (Ok None) (Err answers.TooLong) tt tt)
answer_judged key bytes r (inr (inl a)) = subst IsAnswerFault (sym a.is) tt
answer_judged key bytes r (inr (inr a)) = subst IsAnswerFault (sym a.is) (accepted_judged a.n (says key a.head) (accepts_judged key _ _))

pub answer_no_memory : (key bytes : List ℕ) → ¬ (AnswerIs key bytes (Err answers.NoMemory))
answer_no_memory key bytes is = answer_judged key bytes (Err answers.NoMemory) is
