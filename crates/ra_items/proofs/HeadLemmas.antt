-- The heads of a text: an answer gives one, a front has the same, and their answers are equal.
use Rattle.std.proofs.Common.{◌≡◌, ℕ, ◌<◌, ◌≤◌, inl, inr, List, ◌++◌, ◌-◌, length, take, Option, Some, None, Result, Ok, Err, cond, nat_lt, arith, ap, subst, ◌∙◌, refl, length-append, sym, drop, ◌+◌}
use Rattle.std.specs.Prelude.{⊤}
use Rattle.std.proofs.lemmas.Bool.{cases_lt, cond-true, cond-false, lt-ltb, le-ltb}
use Rattle.std.proofs.Math.Seq.{take-add}
use Rattle.std.proofs.lemmas.Grind.{common_steps}
use Rattle.std.proofs.lemmas.List.{take_all, take-append-le}
use Rattle.ra_upgrade.specs.declared.answer_head.AnswerFault.{AnswerFault}
use Rattle.ra_upgrade.specs.declared.answer_head.AnswerFault.TheVariants as answer_faults
use Rattle.ra_upgrade.specs.declared.request_head.HeadFault.{HeadFault}
use Rattle.ra_upgrade.specs.declared.request_head.HeadFault.TheVariants as head_faults
use Rattle.ra_upgrade.specs.declared.request_head.Upgrade.{Upgrade}
use Rattle.ra_upgrade.specs.AnswerHeads.{AnswerIs, IsAnswer, says, accepted}
use Rattle.ra_upgrade.specs.Ends.{max_head}
use Rattle.ra_upgrade.specs.Reading.{IsOpen, IsBad, IsRead}
use Rattle.ra_upgrade.specs.RequestHeads.{HeadIs, IsHead, asks, located}
use Rattle.ra_upgrade.proofs.HeadLemmas.{one_request, one_response}
use Rattle.ra_upgrade.proofs.ReadingLemmas.{one_reading, reading_more}
use Rattle.ra_items.specs.Heads.{Head, sized, answered, length_alone, IsHeadBy, IsRequestOf, IsAnswerOf}
use Rattle.ra_items.specs.Items.{items_by, items}
use Rattle.ra_items.proofs.ItemLemmas.{answer_stays}
use Rattle.ra_items.proofs.Fronts.{by_size, open_front, open_before, bad_front, read_front}

-- the first bytes are all of them
all_of : (text : List ℕ) → take (length text) text ≡ text
all_of text = take_all (length text) text (omega arith)

-- ---- requests

located_is : (n : ℕ) (result : Result Upgrade HeadFault) → located n result ≡ sized n result
located_is n (Ok upgrade) = refl
located_is n (Err fault) = refl

pub one_head : (bytes : List ℕ) (r q : Result (Option (Upgrade × ℕ)) HeadFault) → HeadIs bytes r → HeadIs bytes q → r ≡ q
one_head = one_reading IsHead (λ n head. located n (asks head)) head_faults.TooLong head_faults.BadHead one_request

-- a head that answers each front answers the whole
pub whole_answer : (text : List ℕ) (head : Head Upgrade HeadFault) → IsRequestOf text head → HeadIs text (answered head (length text))
whole_answer text head is = subst (λ (t : List ℕ). HeadIs t (answered head (length text))) (all_of text) (is (length text) (omega arith))

-- the head, as the whole answers it
request_found_by : (text : List ℕ) (result : Result (Option (Upgrade × ℕ)) HeadFault) (head : Head Upgrade HeadFault)
    → HeadIs text result → IsRequestOf text head → (head : Head Upgrade HeadFault) × IsRequestOf text head × (answered head (length text) ≡ result)
request_found_by text result head answer is = (head, is, one_head text (answered head (length text)) result (whole_answer text head is) answer)

pub request_found : (text : List ℕ) (result : Result (Option (Upgrade × ℕ)) HeadFault) → HeadIs text result
    → (head : Head Upgrade HeadFault) × IsRequestOf text head × (answered head (length text) ≡ result)
request_found text result (inl unended) =
    request_found_by text result (record { size = max_head; says = Err head_faults.TooLong }) (inl unended)
    (λ n within. inl (open_front head_faults.TooLong text n unended.never within))
request_found text result (inr (inl bad)) =
    request_found_by text result (record { size = bad.n; says = Err head_faults.BadHead }) (inr (inl bad))
    (λ n within. by_size (HeadIs (take n text)) n bad.n (Ok None) (Err head_faults.BadHead)
    (λ before. inl (open_before head_faults.TooLong text bad.n n bad.ends before))
    (λ there. inr (inl (subst (λ (r : Result (Option (Upgrade × ℕ)) HeadFault). IsBad IsHead head_faults.BadHead (take n text) r) bad.is (bad_front IsHead head_faults.BadHead text n result bad there)))))
request_found text result (inr (inr read)) =
    let head : Head Upgrade HeadFault = record { size = read.n; says = asks read.head } in
    let is : result ≡ sized read.n (asks read.head) = read.is ∙ located_is read.n (asks read.head) in
    request_found_by text result head (inr (inr read))
    (λ n within. by_size (HeadIs (take n text)) n read.n (Ok None) (sized read.n (asks read.head))
    (λ before. inl (open_before head_faults.TooLong text read.n n read.ends before))
    (λ there. inr (inr (subst (λ (r : Result (Option (Upgrade × ℕ)) HeadFault). IsRead IsHead (λ k h. located k (asks h)) (take n text) r) is (read_front IsHead (λ k h. located k (asks h)) text n result read there)))))

-- ---- any definition of heads

pub fronts_of : {A E : Type 0} (Answer : List ℕ → Result (Option (A × ℕ)) E → Type 0) (text more : List ℕ) (head : Head A E) → IsHeadBy Answer (text ++ more) head → IsHeadBy Answer text head
fronts_of {A} {E} Answer text more head is n within =
    subst (λ (t : List ℕ). Answer t (answered head n)) (take-append-le n text more within) (is n (omega (arith, within, length-append text more)))

pub same_items : {A E : Type 0} (text : List ℕ) (head other : Head A E) → answered head (length text) ≡ answered other (length text) → items head text ≡ items other text
unfolding items
same_items {A} {E} text head other same = ap (λ (r : Result (Option (A × ℕ)) E). items_by r text) same

pub one_request_items : (text : List ℕ) (head other : Head Upgrade HeadFault) → IsRequestOf text head → IsRequestOf text other → items head text ≡ items other text
one_request_items text head other is is_too =
    same_items text head other (one_head text (answered head (length text)) (answered other (length text)) (whole_answer text head is) (whole_answer text other is_too))

-- ---- answers

accepted_is : (n : ℕ) (result : Result ⊤ AnswerFault) → accepted n result ≡ length_alone (sized n result)
accepted_is n (Ok _) = refl
accepted_is n (Err fault) = refl

pub one_answer : (key bytes : List ℕ) (r q : Result (Option ℕ) AnswerFault) → AnswerIs key bytes r → AnswerIs key bytes q → r ≡ q
one_answer key = one_reading IsAnswer (λ n head. accepted n (says key head)) answer_faults.TooLong answer_faults.BadHead one_response

pub whole_of : (key text : List ℕ) (head : Head ⊤ AnswerFault) → IsAnswerOf key text head → AnswerIs key text (length_alone (answered head (length text)))
whole_of key text head is = subst (λ (t : List ℕ). AnswerIs key t (length_alone (answered head (length text)))) (all_of text) (is (length text) (omega arith))

answer_found_by : (key text : List ℕ) (result : Result (Option ℕ) AnswerFault) (head : Head ⊤ AnswerFault)
    → AnswerIs key text result → IsAnswerOf key text head → (head : Head ⊤ AnswerFault) × IsAnswerOf key text head × (length_alone (answered head (length text)) ≡ result)
answer_found_by key text result head answer is = (head, is, one_answer key text (length_alone (answered head (length text))) result (whole_of key text head is) answer)

pub answer_found : (key text : List ℕ) (result : Result (Option ℕ) AnswerFault) → AnswerIs key text result
    → (head : Head ⊤ AnswerFault) × IsAnswerOf key text head × (length_alone (answered head (length text)) ≡ result)
answer_found key text result (inl unended) =
    answer_found_by key text result (record { size = max_head; says = Err answer_faults.TooLong }) (inl unended)
    (λ n within. by_size (λ r. AnswerIs key (take n text) (length_alone r)) n max_head (Ok None) (Err answer_faults.TooLong)
    (λ below. inl (subst (λ (r : Result (Option ℕ) AnswerFault). IsOpen answer_faults.TooLong (take n text) r) (if_below n max_head (Ok None) (Err answer_faults.TooLong) below) (open_front answer_faults.TooLong text n unended.never within)))
    (λ above. inl (subst (λ (r : Result (Option ℕ) AnswerFault). IsOpen answer_faults.TooLong (take n text) r) (if_above n max_head (Ok None) (Err answer_faults.TooLong) above) (open_front answer_faults.TooLong text n unended.never within))))
  where
    if_below : {X : Type 0} (a b : ℕ) (x y : X) → a < b → cond (nat_lt a b) x y ≡ x
    if_below a b x y below = cond-true _ _ _ (lt-ltb a b below)

    if_above : {X : Type 0} (a b : ℕ) (x y : X) → b ≤ a → cond (nat_lt a b) x y ≡ y
    if_above a b x y above = cond-false _ _ _ (le-ltb a b above)
answer_found key text result (inr (inl bad)) =
    answer_found_by key text result (record { size = bad.n; says = Err answer_faults.BadHead }) (inr (inl bad))
    (λ n within. by_size (λ r. AnswerIs key (take n text) (length_alone r)) n bad.n (Ok None) (Err answer_faults.BadHead)
    (λ before. inl (open_before answer_faults.TooLong text bad.n n bad.ends before))
    (λ there. inr (inl (subst (λ (r : Result (Option ℕ) AnswerFault). IsBad IsAnswer answer_faults.BadHead (take n text) r) bad.is (bad_front IsAnswer answer_faults.BadHead text n result bad there)))))
answer_found key text result (inr (inr read)) =
    let verdict : Result ⊤ AnswerFault = says key read.head in
    let is : result ≡ length_alone (sized read.n verdict) = read.is ∙ accepted_is read.n verdict in
    answer_found_by key text result (record { size = read.n; says = verdict }) (inr (inr read))
    (λ n within. by_size (λ r. AnswerIs key (take n text) (length_alone r)) n read.n (Ok None) (sized read.n verdict)
    (λ before. inl (open_before answer_faults.TooLong text read.n n read.ends before))
    (λ there. inr (inr (subst (λ (r : Result (Option ℕ) AnswerFault). IsRead IsAnswer (λ k h. accepted k (says key h)) (take n text) r) is (read_front IsAnswer (λ k h. accepted k (says key h)) text n result read there)))))

pub one_answer_items : (key text : List ℕ) (head other : Head ⊤ AnswerFault) → IsAnswerOf key text head → IsAnswerOf key text other → items head text ≡ items other text
one_answer_items key text head other is is_too =
    same_items text head other (same_answer (answered head (length text)) (answered other (length text)) (one_answer key text _ _ (whole_of key text head is) (whole_of key text other is_too)))
  where
    same_answer : (r q : Result (Option (⊤ × ℕ)) AnswerFault) → length_alone r ≡ length_alone q → r ≡ q
    same_answer (Ok None) (Ok None) e = refl
    same_answer (Ok None) (Ok (Some q)) e = absurd cc
    same_answer (Ok None) (Err f) e = absurd cc
    same_answer (Ok (Some r)) (Ok None) e = absurd cc
    same_answer (Ok (Some (_, n))) (Ok (Some (_, m))) e = let same : n ≡ m = cc in ap (λ (k : ℕ). Ok (Some (tt, k))) same
    same_answer (Ok (Some r)) (Err f) e = absurd cc
    same_answer (Err f) (Ok None) e = absurd cc
    same_answer (Err f) (Ok (Some q)) e = absurd cc
    same_answer (Err f) (Err g) e = let same : f ≡ g = cc in ap (λ (x : AnswerFault). Err x) same

-- ---- the text goes on

take_past : (xs ys : List ℕ) (n : ℕ) → length xs ≤ n → take n (xs ++ ys) ≡ xs ++ take (n - length xs) ys
take_past xs ys n past =
    let both : n ≡ length xs + (n - length xs) = omega arith in
    ap (λ (k : ℕ). take k (xs ++ ys)) both ∙ take-add (length xs) (n - length xs) (xs ++ ys)
    ∙ ap (λ (l : List ℕ). take (length xs) (xs ++ ys) ++ take (n - length xs) l) (drop_front xs ys)
    ∙ ap (λ (l : List ℕ). l ++ take (n - length xs) ys) (take_front xs ys)
  where
    drop_front : (xs ys : List ℕ) → drop (length xs) (xs ++ ys) ≡ ys
    drop_front xs ys = grind (arith, common_steps)

    take_front : (xs ys : List ℕ) → take (length xs) (xs ++ ys) ≡ xs
    take_front xs ys = grind (arith, common_steps)

-- an answer that is given is that to every longer front
pub stays_by : {A E : Type 0} (Answer : List ℕ → Result (Option (A × ℕ)) E → Type 0) (text more : List ℕ) (head : Head A E)
    → ((bytes later : List ℕ) (r : Result (Option (A × ℕ)) E) → Answer bytes r → (r ≡ Ok None → ⊥) → Answer (bytes ++ later) r)
    → (answered head (length text) ≡ Ok None → ⊥) → IsHeadBy Answer text head → IsHeadBy Answer (text ++ more) head
stays_by {A} {E} Answer text more head stands given is n within = elim (cases_lt (length text) n) [
  | inl past ↦
      let same : answered head n ≡ answered head (length text) = answer_stays head (length text) n given (omega arith) in
      let front : take n (text ++ more) ≡ text ++ take (n - length text) more = take_past text more n (omega arith) in
      subst (λ (t : List ℕ). Answer t (answered head n)) (sym front)
      (subst (λ (r : Result (Option (A × ℕ)) E). Answer (text ++ take (n - length text) more) r) (sym same)
      (stands text (take (n - length text) more) (answered head (length text)) (subst (λ (t : List ℕ). Answer t (answered head (length text))) (all_of text) (is (length text) (omega arith))) given))
  | inr inside ↦ subst (λ (t : List ℕ). Answer t (answered head n)) (sym (take-append-le n text more inside)) (is n inside)
]

pub request_stays : (text more : List ℕ) (head : Head Upgrade HeadFault) → (answered head (length text) ≡ Ok None → ⊥) → IsRequestOf text head → IsRequestOf (text ++ more) head
request_stays text more head given is =
    stays_by HeadIs text more head (reading_more IsHead (λ n head. located n (asks head)) head_faults.TooLong head_faults.BadHead) given is

length_given : (r : Result (Option (⊤ × ℕ)) AnswerFault) → length_alone r ≡ Ok None → r ≡ Ok None
length_given (Ok None) e = refl
length_given (Ok (Some x)) e = absurd cc
length_given (Err f) e = absurd cc

pub answer_stays_for : (key text more : List ℕ) (head : Head ⊤ AnswerFault) → (answered head (length text) ≡ Ok None → ⊥) → IsAnswerOf key text head → IsAnswerOf key (text ++ more) head
answer_stays_for key text more head given is =
    stays_by (λ bytes result. AnswerIs key bytes (length_alone result)) text more head
    (λ bytes later r answer some. reading_more IsAnswer (λ n head. accepted n (says key head)) answer_faults.TooLong answer_faults.BadHead bytes later (length_alone r) answer (λ e. some (length_given r e))) given is
