-- What the calls of a reader have read.
use Rattle.std.proofs.Common.{◌≡◌, ◌≢◌, ℕ, ◌+◌, Bool, true, false, Option, Some, None, Result, Ok, Err, List, [], ◌∷◌, ◌++◌, length, drop, refl, sym, ap, subst, ◌∙◌, append-nil}
use Rattle.std.specs.Prelude.{⊤, IfOk, IfErr, OnErr, MatchOption, MatchBool}
use Rattle.ra_frame.specs.declared.reader.FrameFault.{FrameFault}
use Rattle.ra_frame.specs.declared.reader.FrameFault.TheVariants as frame_faults
use Rattle.ra_frame.specs.Fronts.{IsPartial, IsTooLong}
use Rattle.ra_model.specs.declared.frame.Frame.{Frame}
use Rattle.ra_model.specs.Frames.{frame_bytes}
use Rattle.ra_model.specs.FirstFrame.{first_frame}
use Rattle.ra_upgrade.specs.declared.answer_head.AnswerFault.{AnswerFault}
use Rattle.ra_upgrade.specs.declared.answer_head.AnswerFault.TheVariants as answer_faults
use Rattle.ra_upgrade.specs.declared.request_head.HeadFault.{HeadFault}
use Rattle.ra_upgrade.specs.declared.request_head.HeadFault.TheVariants as head_faults
use Rattle.ra_upgrade.specs.declared.request_head.Upgrade.{Upgrade}
use Rattle.ra_upgrade.specs.AnswerHeads.{AnswerIs}
use Rattle.ra_upgrade.specs.RequestHeads.{HeadIs}
use Rattle.ra_items.specs.Heads.{Head, answered, length_alone, IsRequestOf, IsAnswerOf}
use Rattle.ra_items.specs.Items.{Placed, frames_at, items, items_by}
use Rattle.ra_items.specs.Items.Item.{HeadItem, FrameItem, TooLong}
use Rattle.ra_items.specs.Readers.{Reader, behind, items_ahead, HasRead}
use Rattle.ra_items.specs.Reads.{ReadsRequest, ReadsAnswer, ReadsFrame}
use Rattle.ra_items.proofs.HeadLemmas.{one_head, whole_answer, one_answer, whole_of}
use Rattle.ra_items.proofs.FrameItems.{frames_partial, frames_long}
use Rattle.ra_items.proofs.ItemLemmas.{items_are}
use Rattle.ra_items.proofs.ReaderLemmas.{read_head, read_frame, read_items}

-- ---- a reader before its head

unread_all : {A E : Type 0} (head : Head A E) (text : List ℕ) (done : List (Placed A E)) (at : ℕ) (reader : Reader) → HasRead head text done at reader → reader.behind_head ≡ false → text ≡ reader.unread
unread_all head text done at reader has before = ap (λ (k : ℕ). drop k text) (sym (has.start before)) ∙ has.left

as_unopened : {A E : Type 0} (head : Head A E) (text : List ℕ) (done : List (Placed A E)) (at : ℕ) (reader : Reader) → reader.behind_head ≡ false → HasRead head text done at reader
    → HasRead head text done at (record { behind_head = false; unread = reader.unread })
as_unopened head text done at reader before has = subst (λ (b : Bool). HasRead head text done at (record { behind_head = b; unread = reader.unread })) before has

-- what is answered to the unread bytes says which items are ahead
ahead_by : {A E : Type 0} (head : Head A E) (text : List ℕ) (done : List (Placed A E)) (at : ℕ) (reader : Reader) (result : Result (Option (A × ℕ)) E) → HasRead head text done at reader → reader.behind_head ≡ false
    → answered head (length reader.unread) ≡ result → items head text ≡ done ++ items_by result reader.unread
ahead_by {A} {E} head text done at reader result has before is =
    read_items head text done at (record { behind_head = false; unread = reader.unread }) (as_unopened head text done at reader before has)
    ∙ ap (λ (ps : List (Placed A E)). done ++ ps) (items_are head reader.unread result is)

no_item : {A E : Type 0} (head : Head A E) (text : List ℕ) (done : List (Placed A E)) (at : ℕ) (old new : Reader) → HasRead head text done at old → old.behind_head ≡ false → new ≡ old
    → answered head (length old.unread) ≡ Ok None → HasRead head text done 0 new × (items head text ≡ done)
no_item {A} {E} head text done at old new has before same is = (
  subst (λ (r : Reader). HasRead head text done 0 r) (sym same) (subst (λ (k : ℕ). HasRead head text done k old) (has.start before) has),
  ahead_by head text done at old (Ok None) has before is ∙ append-nil done,
)

head_item : {A E : Type 0} (head : Head A E) (text : List ℕ) (done : List (Placed A E)) (at : ℕ) (old new : Reader) (says : A) (n : ℕ) → HasRead head text done at old → old.behind_head ≡ false
    → new ≡ behind n old → answered head (length old.unread) ≡ Ok (Some (says, n))
    → HasRead head text (done ++ record { item = HeadItem (Ok says); place = n } ∷ []) n new
head_item head text done at old new says n has before same is =
    subst (λ (r : Reader). HasRead head text (done ++ record { item = HeadItem (Ok says); place = n } ∷ []) n r) (sym same)
    (read_head head text old.unread done at says n (as_unopened head text done at old before has) is)

-- ---- requests

request_answer : (head : Head Upgrade HeadFault) (text unread : List ℕ) (result : Result (Option (Upgrade × ℕ)) HeadFault) → IsRequestOf text head → text ≡ unread → HeadIs unread result
    → answered head (length unread) ≡ result
request_answer head text unread result is same answer =
    one_head unread (answered head (length unread)) result (whole_answer unread head (subst (λ (t : List ℕ). IsRequestOf t head) same is)) answer

pub request_reads : (head : Head Upgrade HeadFault) (text : List ℕ) (done : List (Placed Upgrade HeadFault)) (at : ℕ) (old new : Reader) (result : Result (Option Upgrade) HeadFault)
    → old.behind_head ≡ false
    → IfOk result (λ found. MatchOption found (HeadIs old.unread (Ok None) × (new ≡ old)) (λ upgrade. (n : ℕ) × HeadIs old.unread (Ok (Some (upgrade, n))) × (new ≡ behind n old)))
    → IfErr result (λ fault. fault ≢ head_faults.NoMemory → HeadIs old.unread (Err fault))
    → IsRequestOf text head → HasRead head text done at old → ReadsRequest head text done new result
request_reads head text done at old new (Ok None) before found refused is has =
    no_item head text done at old new has before found.1 (request_answer head text old.unread (Ok None) is (unread_all head text done at old has before) found.0)
request_reads head text done at old new (Ok (Some upgrade)) before found refused is has =
    (found.0, head_item head text done at old new upgrade found.0 has before found.2 (request_answer head text old.unread (Ok (Some (upgrade, found.0))) is (unread_all head text done at old has before) found.1))
request_reads head text done at old new (Err fault) before found refused is has = λ judged.
    ahead_by head text done at old (Err fault) has before (request_answer head text old.unread (Err fault) is (unread_all head text done at old has before) (refused judged))

-- ---- answers

same_length : (r q : Result (Option (⊤ × ℕ)) AnswerFault) → length_alone r ≡ length_alone q → r ≡ q
same_length (Ok None) (Ok None) e = refl
same_length (Ok None) (Ok (Some q)) e = absurd cc
same_length (Ok None) (Err f) e = absurd cc
same_length (Ok (Some r)) (Ok None) e = absurd cc
same_length (Ok (Some (_, n))) (Ok (Some (_, m))) e = let same : n ≡ m = cc in ap (λ (k : ℕ). Ok (Some (tt, k))) same
same_length (Ok (Some r)) (Err f) e = absurd cc
same_length (Err f) (Ok None) e = absurd cc
same_length (Err f) (Ok (Some q)) e = absurd cc
same_length (Err f) (Err g) e = let same : f ≡ g = cc in ap (λ (x : AnswerFault). Err x) same

answer_answer : (key : List ℕ) (head : Head ⊤ AnswerFault) (text unread : List ℕ) (result : Result (Option (⊤ × ℕ)) AnswerFault) → IsAnswerOf key text head → text ≡ unread → AnswerIs key unread (length_alone result)
    → answered head (length unread) ≡ result
answer_answer key head text unread result is same answer =
    same_length (answered head (length unread)) result
    (one_answer key unread (length_alone (answered head (length unread))) (length_alone result) (whole_of key unread head (subst (λ (t : List ℕ). IsAnswerOf key t head) same is)) answer)

pub answer_reads : (key : List ℕ) (head : Head ⊤ AnswerFault) (text : List ℕ) (done : List (Placed ⊤ AnswerFault)) (at : ℕ) (old new : Reader) (result : Result Bool AnswerFault)
    → old.behind_head ≡ false
    → IfOk result (λ found. MatchBool found ((n : ℕ) × AnswerIs key old.unread (Ok (Some n)) × (new ≡ behind n old)) (AnswerIs key old.unread (Ok None) × (new ≡ old)))
    → IfErr result (λ fault. fault ≢ answer_faults.NoMemory → AnswerIs key old.unread (Err fault))
    → IsAnswerOf key text head → HasRead head text done at old → ReadsAnswer head text done new result
answer_reads key head text done at old new (Ok false) before found refused is has =
    no_item head text done at old new has before found.1 (answer_answer key head text old.unread (Ok None) is (unread_all head text done at old has before) found.0)
answer_reads key head text done at old new (Ok true) before found refused is has =
    (found.0, head_item head text done at old new tt found.0 has before found.2 (answer_answer key head text old.unread (Ok (Some (tt, found.0))) is (unread_all head text done at old has before) found.1))
answer_reads key head text done at old new (Err fault) before found refused is has = λ judged.
    ahead_by head text done at old (Err fault) has before (answer_answer key head text old.unread (Err fault) is (unread_all head text done at old has before) (refused judged))

-- ---- frames

frames_ahead : {A E : Type 0} (head : Head A E) (text : List ℕ) (done : List (Placed A E)) (at : ℕ) (reader : Reader) → HasRead head text done at reader → reader.behind_head ≡ true
    → items head text ≡ done ++ frames_at at reader.unread
frames_ahead {A} {E} head text done at reader has after =
    read_items head text done at reader has
    ∙ ap (λ (b : Bool). done ++ items_ahead head at (record { behind_head = b; unread = reader.unread })) after

as_opened : {A E : Type 0} (head : Head A E) (text : List ℕ) (done : List (Placed A E)) (at : ℕ) (reader : Reader) → reader.behind_head ≡ true → HasRead head text done at reader
    → HasRead head text done at (record { behind_head = true; unread = reader.unread })
as_opened head text done at reader after has = subst (λ (b : Bool). HasRead head text done at (record { behind_head = b; unread = reader.unread })) after has

behind_is : (reader : Reader) → reader.behind_head ≡ true → record { behind_head = true; unread = reader.unread } ≡ reader
behind_is reader after = λ i. record { behind_head = sym after i; unread = reader.unread }

pub frame_reads : {A E : Type 0} (head : Head A E) (text : List ℕ) (done : List (Placed A E)) (at : ℕ) (old new : Reader) (result : Result (Option Frame) FrameFault)
    → old.behind_head ≡ true → new.behind_head ≡ true
    → IfOk result (λ found. MatchOption found (IsPartial old.unread × (new ≡ old)) (λ f. first_frame old.unread ≡ Some (f, new.unread)))
    → IfErr result (λ fault. (n : ℕ) → fault ≡ frame_faults.TooLong n → IsTooLong old.unread n)
    → ((e : FrameFault) → result ≡ Err e → new ≡ old)
    → HasRead head text done at old → ReadsFrame head text done at new result
frame_reads {A} {E} head text done at old new (Ok None) after still found long same has =
    let partial : IsPartial old.unread = found.0 in (
      subst (λ (r : Reader). HasRead head text done at r) (sym found.1) has,
      frames_ahead head text done at old has after ∙ ap (λ (ps : List (Placed A E)). done ++ ps) (frames_partial at old.unread partial.no_frame partial.not_too_long) ∙ append-nil done,
    )
frame_reads {A} {E} head text done at old new (Ok (Some f)) after still found long same has =
    let n : ℕ = at + length (frame_bytes f) in (
      n,
      subst (λ (r : Reader). HasRead head text (done ++ record { item = FrameItem f; place = n } ∷ []) n r) (behind_is new still)
          (read_frame head text old.unread done at f new.unread (as_opened head text done at old after has) found),
    )
frame_reads {A} {E} head text done at old new (Err (frame_faults.TooLong n)) after still found long same has =
    let is : IsTooLong old.unread n = long n refl in
    frames_ahead head text done at old has after
    ∙ ap (λ (ps : List (Placed A E)). done ++ ps) (frames_long at old.unread is.too_long ∙ ap (λ (k : ℕ). record { item = TooLong k; place = at } ∷ []) is.stated)
frame_reads head text done at old new (Err frame_faults.NoMemory) after still found long same has =
    subst (λ (r : Reader). HasRead head text done at r) (sym (same frame_faults.NoMemory refl)) has

-- ---- what a call was told, of the unread bytes

other_fault : {A E : Type 0} (fault no_memory : E) → fault ≢ no_memory → ◌≡◌ {A = Result A E} (Err fault) (Err no_memory) → ⊥
other_fault fault no_memory other e = other cc

pub request_refused : (bytes unread : List ℕ) (fault : HeadFault) → bytes ≡ unread → ((◌≡◌ {A = Result (Option (Upgrade × ℕ)) HeadFault} (Err fault) (Err head_faults.NoMemory) → ⊥) → HeadIs bytes (Err fault))
    → fault ≢ head_faults.NoMemory → HeadIs unread (Err fault)
request_refused bytes unread fault same told other = subst (λ (t : List ℕ). HeadIs t (Err fault)) same (told (other_fault fault head_faults.NoMemory other))

pub request_told : (bytes unread : List ℕ) (found : Option (Upgrade × ℕ)) → bytes ≡ unread → ((◌≡◌ {A = Result (Option (Upgrade × ℕ)) HeadFault} (Ok found) (Err head_faults.NoMemory) → ⊥) → HeadIs bytes (Ok found))
    → HeadIs unread (Ok found)
request_told bytes unread found same told = subst (λ (t : List ℕ). HeadIs t (Ok found)) same (told (λ e. absurd cc))

pub answer_refused : (key bytes unread : List ℕ) (fault : AnswerFault) → bytes ≡ unread → ((◌≡◌ {A = Result (Option ℕ) AnswerFault} (Err fault) (Err answer_faults.NoMemory) → ⊥) → AnswerIs key bytes (Err fault))
    → fault ≢ answer_faults.NoMemory → AnswerIs key unread (Err fault)
answer_refused key bytes unread fault same told other = subst (λ (t : List ℕ). AnswerIs key t (Err fault)) same (told (other_fault fault answer_faults.NoMemory other))

pub answer_told : (key bytes unread : List ℕ) (found : Option ℕ) → bytes ≡ unread → ((◌≡◌ {A = Result (Option ℕ) AnswerFault} (Ok found) (Err answer_faults.NoMemory) → ⊥) → AnswerIs key bytes (Ok found))
    → AnswerIs key unread (Ok found)
answer_told key bytes unread found same told = subst (λ (t : List ℕ). AnswerIs key t (Ok found)) same (told (λ e. absurd cc))

frame_call : {A E : Type 0} (head : Head A E) (text : List ℕ) (done : List (Placed A E)) (at : ℕ) (flag : Bool) (unread rest : List ℕ) (result : Result (Option Frame) FrameFault)
    → flag ≡ true
    → IfOk result (λ found. MatchOption found (IsPartial unread × (rest ≡ unread)) (λ f. first_frame unread ≡ Some (f, rest)))
    → IfErr result (λ fault. (n : ℕ) → fault ≡ frame_faults.TooLong n → IsTooLong unread n)
    → OnErr result (rest ≡ unread)
    → HasRead head text done at (record { behind_head = flag; unread = unread }) → ReadsFrame head text done at (record { behind_head = flag; unread = rest }) result
frame_call head text done at flag unread rest (Ok None) after found long same has =
    frame_reads head text done at (record { behind_head = flag; unread = unread }) (record { behind_head = flag; unread = rest }) (Ok None) after after
    (found.0, ap (λ (l : List ℕ). record { behind_head = flag; unread = l }) found.1) long (λ e is. absurd cc) has
frame_call head text done at flag unread rest (Ok (Some f)) after found long same has =
    frame_reads head text done at (record { behind_head = flag; unread = unread }) (record { behind_head = flag; unread = rest }) (Ok (Some f)) after after
    found long (λ e is. absurd cc) has
frame_call head text done at flag unread rest (Err fault) after found long same has =
    frame_reads head text done at (record { behind_head = flag; unread = unread }) (record { behind_head = flag; unread = rest }) (Err fault) after after
    tt long (λ e is. ap (λ (l : List ℕ). record { behind_head = flag; unread = l }) same) has

-- a call on a reader of which this is inside
pub frame_call_reads : {A E : Type 0} (head : Head A E) (text : List ℕ) (done : List (Placed A E)) (at : ℕ) (old : Reader) (flag : Bool) (unread rest : List ℕ) (result : Result (Option Frame) FrameFault)
    → record { behind_head = flag; unread = unread } ≡ old → old.behind_head ≡ true
    → IfOk result (λ found. MatchOption found (IsPartial unread × (rest ≡ unread)) (λ f. first_frame unread ≡ Some (f, rest)))
    → IfErr result (λ fault. (n : ℕ) → fault ≡ frame_faults.TooLong n → IsTooLong unread n)
    → OnErr result (rest ≡ unread)
    → HasRead head text done at old → ReadsFrame head text done at (record { behind_head = flag; unread = rest }) result
frame_call_reads head text done at old flag unread rest result inside after found long same has =
    frame_call head text done at flag unread rest result (ap (λ (r : Reader). r.behind_head) inside ∙ after) found long same
    (subst (λ (r : Reader). HasRead head text done at r) (sym inside) has)

-- the reader behind a head
pub behind_inside : (old : Reader) (flag : Bool) (unread rest : List ℕ) (n : ℕ) → record { behind_head = flag; unread = unread } ≡ old → rest ≡ drop n unread → record { behind_head = true; unread = rest } ≡ behind n old
behind_inside old flag unread rest n inside is =
    ap (λ (l : List ℕ). record { behind_head = true; unread = l }) is ∙ ap (λ (r : Reader). behind n r) inside
