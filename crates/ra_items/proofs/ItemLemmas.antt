-- The items of a text as the text goes on, and the fresh items of a piece.
use Rattle.std.proofs.Common.{◌≡◌, ℕ, ◌+◌, ◌-◌, ◌≤◌, inl, inr, Bool, true, false, Option, Some, None, Result, Ok, Err, List, [], ◌∷◌, ◌++◌, length, drop, refl, sym, ap, ◌∙◌, arith, append-nil, length-append}
use Rattle.std.proofs.lemmas.Bool.{cases_lt, cond-true, cond-false, lt-ltb, le-ltb}
use Rattle.std.proofs.lemmas.List.{drop-append-le, length-drop, drop-drop}
use Rattle.ra_model.specs.declared.frame.Frame.{Frame}
use Rattle.ra_model.specs.Frames.{joined}
use Rattle.ra_model.specs.FirstFrame.{is_too_long}
use Rattle.ra_model.specs.Cutting.{frames_of, rest_of, IsCarry}
use Rattle.ra_model.proofs.CuttingLemmas.{rest_left}
use Rattle.ra_items.specs.Heads.{Head, sized, answered}
use Rattle.ra_items.specs.Items.{Placed, frames_at, items_by, items, fresh_items}
use Rattle.ra_items.specs.Items.Item.{HeadItem}
use Rattle.ra_items.proofs.FrameItems.{frames_more, frames_over}

-- what is answered to a text of this length gives its items
pub items_are : {A E : Type 0} (head : Head A E) (text : List ℕ) (result : Result (Option (A × ℕ)) E) → answered head (length text) ≡ result → items head text ≡ items_by result text
unfolding items
items_are {A} {E} head text result is = ap (λ (r : Result (Option (A × ℕ)) E). items_by r text) is

-- ---- an answer that is given stays

sized_some : {A E : Type 0} (n : ℕ) (says : Result A E) → ◌≡◌ {A = Result (Option (A × ℕ)) E} (sized n says) (Ok None) → ⊥
sized_some n (Ok says) e = absurd cc
sized_some n (Err fault) e = absurd cc

given : {A E : Type 0} (head : Head A E) (n : ℕ) → (answered head n ≡ Ok None → ⊥) → head.size ≤ n
given head n some = elim (cases_lt n head.size) [
  | inl below ↦ absurd (some (cond-true _ _ _ (lt-ltb n head.size below)))
  | inr above ↦ above
]

answer_is : {A E : Type 0} (head : Head A E) (n : ℕ) → head.size ≤ n → answered head n ≡ sized head.size head.says
answer_is head n above = cond-false _ _ _ (le-ltb n head.size above)

pub answer_stays : {A E : Type 0} (head : Head A E) (n m : ℕ) → (answered head n ≡ Ok None → ⊥) → n ≤ m → answered head m ≡ answered head n
answer_stays head n m some later =
    let there : head.size ≤ n = given head n some in
    answer_is head m (omega arith) ∙ sym (answer_is head n there)

abbrev len_of : {A E : Type 0} → Result (Option (A × ℕ)) E → ℕ
len_of (Ok None) = 0
len_of (Ok (Some found)) = found.1
len_of (Err fault) = 0

sized_len : {A E : Type 0} (n k : ℕ) (says : Result A E) (a : A) → ◌≡◌ {A = Result (Option (A × ℕ)) E} (sized n says) (Ok (Some (a, k))) → n ≡ k
sized_len n k (Ok says) a e = ap len_of e
sized_len n k (Err fault) a e = absurd cc

-- a head that says something lies within what was read
pub head_within : {A E : Type 0} (head : Head A E) (n k : ℕ) (a : A) → answered head n ≡ Ok (Some (a, k)) → k ≤ n
head_within {A} {E} head n k a is =
    let there : head.size ≤ n = given head n (λ none. let apart : ◌≡◌ {A = Result (Option (A × ℕ)) E} (Ok None) (Ok (Some (a, k))) = sym none ∙ is in absurd cc) in
    let same : head.size ≡ k = sized_len head.size k head.says a (sym (answer_is head n there) ∙ is) in
    omega arith

-- and it is given once so many bytes are there
pub head_at : {A E : Type 0} (head : Head A E) (m n : ℕ) (a : A) → answered head m ≡ Ok (Some (a, n)) → answered head n ≡ Ok (Some (a, n))
head_at {A} {E} head m n a is =
    let there : head.size ≤ m = given head m (λ none. let apart : ◌≡◌ {A = Result (Option (A × ℕ)) E} (Ok None) (Ok (Some (a, n))) = sym none ∙ is in absurd cc) in
    let says : sized head.size head.says ≡ Ok (Some (a, n)) = sym (answer_is head m there) ∙ is in
    let same : head.size ≡ n = sized_len head.size n head.says a says in
    answer_is head n (omega arith) ∙ says

-- ---- the text goes on

longer : (text more : List ℕ) → length text ≤ length (text ++ more)
longer text more = omega (arith, length-append text more)

pub items_open : {A E : Type 0} (head : Head A E) (text : List ℕ) → answered head (length text) ≡ Ok None → items head text ≡ []
items_open head text is = items_are head text (Ok None) is

pub items_head : {A E : Type 0} (head : Head A E) (text more : List ℕ) (a : A) (n : ℕ) → answered head (length text) ≡ Ok (Some (a, n))
    → items head (text ++ more) ≡ record { item = HeadItem (Ok a); place = n } ∷ frames_at n (drop n text ++ more)
items_head {A} {E} head text more a n is =
    let stays : answered head (length (text ++ more)) ≡ Ok (Some (a, n)) =
    answer_stays head (length text) (length (text ++ more)) (λ none. let apart : ◌≡◌ {A = Result (Option (A × ℕ)) E} (Ok None) (Ok (Some (a, n))) = sym none ∙ is in absurd cc) (longer text more) ∙ is in
    items_are head (text ++ more) (Ok (Some (a, n))) stays
    ∙ ap (λ (t : List ℕ). record { item = HeadItem (Ok a); place = n } ∷ frames_at n t) (drop-append-le n text more (head_within head (length text) n a is))

pub items_refused : {A E : Type 0} (head : Head A E) (text more : List ℕ) (fault : E) → answered head (length text) ≡ Err fault
    → items head (text ++ more) ≡ record { item = HeadItem (Err fault); place = 0 } ∷ []
items_refused {A} {E} head text more fault is =
    let stays : answered head (length (text ++ more)) ≡ Err fault =
    answer_stays head (length text) (length (text ++ more)) (λ none. let apart : ◌≡◌ {A = Result (Option (A × ℕ)) E} (Ok None) (Err fault) = sym none ∙ is in absurd cc) (longer text more) ∙ is in
    items_are head (text ++ more) (Err fault) stays

-- ---- the fresh items of a piece

drop_front : {X : Type 0} → (xs ys : List X) → drop (length xs) (xs ++ ys) ≡ ys
drop_front {X} [] ys = refl
drop_front {X} (x ∷ xs) ys = drop_front xs ys

drop_all : {X : Type 0} → (xs : List X) → drop (length xs) xs ≡ []
drop_all {X} [] = refl
drop_all {X} (x ∷ xs) = drop_all xs

-- where the items of the longer text are those of the shorter and others, these are fresh
pub fresh_are : {A E : Type 0} (head : Head A E) (before piece : List ℕ) (done others : List (Placed A E)) → items head before ≡ done → items head (before ++ piece) ≡ done ++ others
    → fresh_items head before piece ≡ others
unfolding fresh_items
fresh_are {A} {E} head before piece done others is later =
    ap (λ (ps : List (Placed A E)). drop (length ps) (items head (before ++ piece))) is ∙ ap (λ (ps : List (Placed A E)). drop (length done) ps) later ∙ drop_front done others

-- as long as the head is open they are all items
pub fresh_all : {A E : Type 0} (head : Head A E) (before piece : List ℕ) → answered head (length before) ≡ Ok None → fresh_items head before piece ≡ items head (before ++ piece)
fresh_all head before piece unended = fresh_are head before piece [] (items head (before ++ piece)) (items_open head before unended) refl

-- the text of the frames that were read, and the unread rest
place_of_rest : (seen text : List ℕ) (n : ℕ) → n ≤ length seen → text ≡ drop n seen
    → (n + length (joined (frames_of text)) ≡ length seen - length (rest_of text)) × (drop (length seen - length (rest_of text)) seen ≡ rest_of text)
place_of_rest seen text n within is =
    let parts = rest_left text in
    let size : length text ≡ length (joined (frames_of text)) + length (rest_of text) = parts.0 in
    let len : length text ≡ length seen - n = ap length is ∙ length-drop n seen in
    let place : n + length (joined (frames_of text)) ≡ length seen - length (rest_of text) = omega arith in
    let left : drop (length (joined (frames_of text))) (drop n seen) ≡ rest_of text = ap (drop (length (joined (frames_of text)))) (sym is) ∙ parts.1 in
    (place, ap (λ (k : ℕ). drop k seen) (sym place) ∙ sym (drop-drop (length (joined (frames_of text))) n seen) ∙ left)

-- behind the head they are the frames of what was left and of the piece
pub fresh_frames : {A E : Type 0} (head : Head A E) (seen piece : List ℕ) (a : A) (n : ℕ) (frames : List Frame) (rest : List ℕ) → answered head (length seen) ≡ Ok (Some (a, n)) → IsCarry (drop n seen) frames rest
    → (fresh_items head seen piece ≡ frames_at (length seen - length rest) (rest ++ piece)) × (drop (length seen - length rest) seen ≡ rest)
fresh_frames {A} {E} head seen piece a n frames rest is carry =
    let text : List ℕ = drop n seen in
    let place = place_of_rest seen text n (head_within head (length seen) n a is) refl in
    let within : is_too_long (rest_of text) ≡ false = ap is_too_long carry.rest_is ∙ carry.within in
    let before : items head seen ≡ record { item = HeadItem (Ok a); place = n } ∷ frames_at n text = items_are head seen (Ok (Some (a, n))) is in
    let after : items head (seen ++ piece) ≡ record { item = HeadItem (Ok a); place = n } ∷ (frames_at n text ++ frames_at (n + length (joined (frames_of text))) (rest_of text ++ piece)) =
    items_head head seen piece a n is ∙ ap (λ (ps : List (Placed A E)). record { item = HeadItem (Ok a); place = n } ∷ ps) (frames_more n text piece within) in
    let found : fresh_items head seen piece ≡ frames_at (n + length (joined (frames_of text))) (rest_of text ++ piece) = fresh_are head seen piece (record { item = HeadItem (Ok a); place = n } ∷ frames_at n text) _ before after in (
      found ∙ ap (λ (k : ℕ). frames_at k (rest_of text ++ piece)) place.0 ∙ ap (λ (r : List ℕ). frames_at (length seen - length r) (r ++ piece)) carry.rest_is,
      ap (λ (r : List ℕ). drop (length seen - length r) seen) (sym carry.rest_is) ∙ place.1 ∙ carry.rest_is,
    )

-- behind a refused head, and behind a header that states too long a body, nothing is fresh
pub fresh_refused : {A E : Type 0} (head : Head A E) (seen piece : List ℕ) (fault : E) → answered head (length seen) ≡ Err fault → fresh_items head seen piece ≡ []
fresh_refused {A} {E} head seen piece fault is =
    let refused : List (Placed A E) = record { item = HeadItem (Err fault); place = 0 } ∷ [] in
    fresh_are head seen piece refused [] (items_are head seen (Err fault) is) (items_refused head seen piece fault is)

pub fresh_over : {A E : Type 0} (head : Head A E) (seen piece : List ℕ) (a : A) (n : ℕ) → answered head (length seen) ≡ Ok (Some (a, n)) → is_too_long (rest_of (drop n seen)) ≡ true
    → fresh_items head seen piece ≡ []
fresh_over {A} {E} head seen piece a n is long =
    let done : List (Placed A E) = record { item = HeadItem (Ok a); place = n } ∷ frames_at n (drop n seen) in
    fresh_are head seen piece done [] (items_are head seen (Ok (Some (a, n))) is)
    (items_head head seen piece a n is ∙ ap (λ (ps : List (Placed A E)). record { item = HeadItem (Ok a); place = n } ∷ ps) (frames_over n (drop n seen) piece long) ∙ sym (append-nil done))

-- ---- the items of a text are those of its front and the fresh ones

grown : {A E : Type 0} (head : Head A E) (text more : List ℕ) (done others : List (Placed A E)) → items head text ≡ done → items head (text ++ more) ≡ done ++ others
    → items head (text ++ more) ≡ items head text ++ fresh_items head text more
grown {A} {E} head text more done others is later =
    later ∙ ap (λ (ps : List (Placed A E)). ps ++ others) (sym is) ∙ ap (λ (ps : List (Placed A E)). items head text ++ ps) (sym (fresh_are head text more done others is later))

grown_behind : {A E : Type 0} (head : Head A E) (text more : List ℕ) (a : A) (n : ℕ) (long : Bool) → answered head (length text) ≡ Ok (Some (a, n)) → is_too_long (rest_of (drop n text)) ≡ long
    → items head (text ++ more) ≡ items head text ++ fresh_items head text more
grown_behind {A} {E} head text more a n false is short =
    let done : List (Placed A E) = record { item = HeadItem (Ok a); place = n } ∷ frames_at n (drop n text) in
    grown head text more done (frames_at (n + length (joined (frames_of (drop n text)))) (rest_of (drop n text) ++ more)) (items_are head text (Ok (Some (a, n))) is)
    (items_head head text more a n is ∙ ap (λ (ps : List (Placed A E)). record { item = HeadItem (Ok a); place = n } ∷ ps) (frames_more n (drop n text) more short))
grown_behind {A} {E} head text more a n true is long =
    let done : List (Placed A E) = record { item = HeadItem (Ok a); place = n } ∷ frames_at n (drop n text) in
    grown head text more done [] (items_are head text (Ok (Some (a, n))) is)
    (items_head head text more a n is ∙ ap (λ (ps : List (Placed A E)). record { item = HeadItem (Ok a); place = n } ∷ ps) (frames_over n (drop n text) more long) ∙ sym (append-nil done))

grown_by : {A E : Type 0} (head : Head A E) (text more : List ℕ) (result : Result (Option (A × ℕ)) E) → answered head (length text) ≡ result
    → items head (text ++ more) ≡ items head text ++ fresh_items head text more
grown_by head text more (Ok None) is = grown head text more [] (items head (text ++ more)) (items_open head text is) refl
grown_by head text more (Ok (Some (a, n))) is = grown_behind head text more a n (is_too_long (rest_of (drop n text))) is refl
grown_by {A} {E} head text more (Err fault) is =
    let refused : List (Placed A E) = record { item = HeadItem (Err fault); place = 0 } ∷ [] in
    grown head text more refused [] (items_are head text (Err fault) is) (items_refused head text more fault is)

pub items_grow : {A E : Type 0} (head : Head A E) (text more : List ℕ) → items head (text ++ more) ≡ items head text ++ fresh_items head text more
items_grow head text more = grown_by head text more (answered head (length text)) refl
