-- Frames that are passed over, and how many bytes wait for the rest of a frame.
use Rattle.std.proofs.Common.{◌≡◌, ℕ, ◌+◌, ◌<◌, ◌≤◌, ◌⊎◌, ◌&&◌, inl, inr, Bool, true, false, cond, leb, ltb, Option, Some, None, List, length, drop, refl, sym, ap, subst, ◌∙◌, arith}
use Rattle.std.proofs.lemmas.Bool.{and_parts, leb-false, ltb-false, ltb-true, cond-true, le-leb, cases_lt}
use Rattle.ra_frame.specs.declared.reader.FrameFault.{FrameFault}
use Rattle.ra_frame.specs.declared.reader.FrameFault.TheVariants as frame_faults
use Rattle.ra_frame.specs.Fronts.{HasFrame, IsPartial, IsTooLong, is_above, states_above}
use Rattle.ra_model.specs.declared.frame.Frame.{Frame}
use Rattle.ra_model.specs.Frames.{body_limit}
use Rattle.ra_model.specs.FirstFrame.{first_frame, is_wide, header_len, stated, has_frame, is_too_long, split_frame}
use Rattle.ra_upgrade.specs.declared.request_head.HeadFault.{HeadFault}
use Rattle.ra_upgrade.specs.declared.request_head.Upgrade.{Upgrade}
use Rattle.ra_items.specs.Heads.{Head}
use Rattle.ra_items.specs.Readers.{Reader, HasRead}
use Rattle.ra_items.proofs.ReaderLemmas.{read_frame}
use Rattle.ra_shake.specs.Limits.{text_limit}
use Rattle.ra_opening.specs.Budget.{most_waiting, FoundLong}
use Rattle.ra_opening.specs.Comes.{PassesOver, found_of}
use Rattle.ra_opening.proofs.FindLemmas.{passes_on, frame_shortens, ReadsOne}

-- a frame takes bytes
pub skipped_shorter : (text : List ℕ) (kind size : ℕ) → HasFrame text kind size → length (drop size text) < length text
skipped_shorter text kind size has = frame_shortens text (drop size text) has.frame has.first

reads_skipped : (mid : Reader) (kind size : ℕ) (has : HasFrame mid.unread kind size) (head : Head Upgrade HeadFault) (text : List ℕ)
    → mid.behind_head ≡ true → ReadsOne head text mid (record { behind_head = true; unread = drop size mid.unread }) has.frame
reads_skipped mid kind size has head text behind = λ done at read.
    (_, read_frame head text mid.unread done at has.frame (drop size mid.unread) (subst (λ (b : Bool). HasRead head text done at (record { behind_head = b; unread = mid.unread })) behind read) has.first)

pub passes_skipped : (old mid new : Reader) (kind size : ℕ) → PassesOver old mid → HasFrame mid.unread kind size
    → new ≡ record { behind_head = mid.behind_head; unread = drop size mid.unread } → (kind ≡ 2 → ⊥) → (kind ≡ 5 → ⊥) → PassesOver old new
passes_skipped old mid new kind size passes has is not_control not_left =
    subst (λ (r : Reader). PassesOver old r) (sym (is ∙ ap (λ (b : Bool). record { behind_head = b; unread = drop size mid.unread }) passes.behind))
    (passes_on old mid (record { behind_head = true; unread = drop size mid.unread }) has.frame passes refl has.first
    (λ head text. reads_skipped mid kind size has head text passes.behind)
    (λ is. not_control (sym has.kind_is ∙ is)) (λ is. not_left (sym has.kind_is ∙ is)))

-- a frame that counts and is no control frame
pub is_left : (kind : ℕ) → (kind ≡ 2) ⊎ (kind ≡ 5) → (kind ≡ 2 → ⊥) → kind ≡ 5
is_left kind (inl control) never = absurd (never control)
is_left kind (inr left) never = left

-- ---- how much waits

part_false : (a b : Bool) → a ≡ true → (a && b) ≡ false → b ≡ false
part_false true b is none = none
part_false false b is none = absurd cc

part_false_left : (a b : Bool) → b ≡ true → (a && b) ≡ false → a ≡ false
part_false_left true b is none = absurd cc
part_false_left false b is none = refl

header_most : (wide : Bool) → header_len wide ≤ 21
header_most true = omega arith
header_most false = omega arith

-- a text that has no frame, and whose header states no long body
short_by : (text : List ℕ) (header n : ℕ) → header ≤ 21 → header ≤ length text → (leb header (length text) && ltb body_limit n) ≡ false
    → (leb header (length text) && (leb n body_limit && leb (header + n) (length text))) ≡ false → (ltb text_limit n && leb n body_limit) ≡ false → length text ≤ most_waiting
short_by text header n most there small none within =
    let has : leb header (length text) ≡ true = le-leb header (length text) there in
    let no_long : ltb body_limit n ≡ false = part_false (leb header (length text)) (ltb body_limit n) has small in
    let small_n : n ≤ body_limit = ltb-false body_limit n no_long in
    let fits : leb n body_limit ≡ true = le-leb n body_limit small_n in
    let low : n ≤ text_limit = ltb-false text_limit n (part_false_left (ltb text_limit n) (leb n body_limit) fits within) in
    let short : length text < header + n = leb-false (header + n) (length text) (part_false (leb n body_limit) (leb (header + n) (length text)) fits (part_false (leb header (length text)) (leb n body_limit && leb (header + n) (length text)) has none)) in
    omega (arith, low, short, most)

no_first : {A : Type 0} (b : Bool) (a : A) → cond b (Some a) None ≡ None → b ≡ false
no_first true a is = absurd cc
no_first false a is = refl

-- where the rest of a frame is waited for, within the budget
pub waits_within : (text : List ℕ) → IsPartial text → states_above text_limit text ≡ false → length text ≤ most_waiting
unfolding first_frame has_frame is_too_long
waits_within text partial within = waits_by (cases_lt (length text) (header_len (is_wide text)))
  where
    waits_by : (length text < header_len (is_wide text)) ⊎ (header_len (is_wide text) ≤ length text) → length text ≤ most_waiting
    waits_by (inl short) = omega (arith, header_most (is_wide text))
    waits_by (inr there) =
        short_by text (header_len (is_wide text)) (stated text) (header_most (is_wide text)) there partial.not_too_long
        (no_first _ _ partial.no_frame)
        (sym (ap (λ (o : Option ℕ). is_above text_limit o) (cond-true (leb (header_len (is_wide text)) (length text)) (Some (stated text)) None (le-leb (header_len (is_wide text)) (length text) there))) ∙ within)

-- ---- a length that is too long

pub long_above : (text : List ℕ) (n : ℕ) → IsTooLong text n → body_limit < n
unfolding is_too_long
long_above text n long = subst (λ (m : ℕ). body_limit < m) long.stated (ltb-true body_limit (stated text) (and_parts _ _ long.too_long).1)

pub fault_long : (text : List ℕ) (fault : FrameFault) → ((n : ℕ) → fault ≡ frame_faults.TooLong n → IsTooLong text n) → FoundLong (found_of fault)
fault_long text (frame_faults.TooLong n) told = long_above text n (told n refl)
fault_long text frame_faults.NoMemory told = tt
