-- What a call of a reader has read of the items of a text.
use Rattle.std.specs.Prelude.{◌≡◌, ◌≢◌, ℕ, Bool, true, false, List, [], ◌∷◌, ◌++◌, Option, Some, None, Result, Ok, Err, ⊤}
use Rattle.ra_frame.specs.declared.reader.FrameFault.{FrameFault}
use Rattle.ra_frame.specs.declared.reader.FrameFault.TheVariants as frame_faults
use Rattle.ra_model.specs.declared.frame.Frame.{Frame}
use Rattle.ra_upgrade.specs.declared.answer_head.AnswerFault.{AnswerFault}
use Rattle.ra_upgrade.specs.declared.answer_head.AnswerFault.TheVariants as answer_faults
use Rattle.ra_upgrade.specs.declared.request_head.HeadFault.{HeadFault}
use Rattle.ra_upgrade.specs.declared.request_head.HeadFault.TheVariants as head_faults
use Rattle.ra_upgrade.specs.declared.request_head.Upgrade.{Upgrade}
use Rattle.ra_items.specs.Heads.{Head}
use Rattle.ra_items.specs.Items.{Placed, items}
use Rattle.ra_items.specs.Items.Item.{HeadItem, FrameItem, TooLong}
use Rattle.ra_items.specs.Readers.{Reader, HasRead}

-- the head as the next item, or as the last one where it is refused, or no item more; want of memory says nothing
abbrev pub ReadsHead : {A E : Type 0} → E → Head A E → List ℕ → List (Placed A E) → Reader → Result (Option A) E → Type 0
ReadsHead no_memory head text done reader (Ok None) = HasRead head text done 0 reader × (items head text ≡ done)
ReadsHead no_memory head text done reader (Ok (Some says)) =
    (n : ℕ) × HasRead head text (done ++ record { item = HeadItem (Ok says); place = n } ∷ []) n reader
ReadsHead no_memory head text done reader (Err fault) =
    fault ≢ no_memory → items head text ≡ done ++ record { item = HeadItem (Err fault); place = 0 } ∷ []

abbrev pub ReadsRequest : Head Upgrade HeadFault → List ℕ → List (Placed Upgrade HeadFault) → Reader → Result (Option Upgrade) HeadFault → Type 0
ReadsRequest head text done reader result = ReadsHead head_faults.NoMemory head text done reader result

-- whether the request is accepted, which says no more
abbrev pub acceptance : Result Bool AnswerFault → Result (Option ⊤) AnswerFault
acceptance (Ok true) = Ok (Some tt)
acceptance (Ok false) = Ok None
acceptance (Err fault) = Err fault

abbrev pub ReadsAnswer : Head ⊤ AnswerFault → List ℕ → List (Placed ⊤ AnswerFault) → Reader → Result Bool AnswerFault → Type 0
ReadsAnswer head text done reader result = ReadsHead answer_faults.NoMemory head text done reader (acceptance result)

-- a frame as the next item, or a header that states too long a body as the last one, or no item more; want of memory reads nothing
abbrev pub ReadsFrame : {A E : Type 0} → Head A E → List ℕ → List (Placed A E) → ℕ → Reader → Result (Option Frame) FrameFault → Type 0
ReadsFrame head text done at reader (Ok None) = HasRead head text done at reader × (items head text ≡ done)
ReadsFrame head text done at reader (Ok (Some f)) =
    (n : ℕ) × HasRead head text (done ++ record { item = FrameItem f; place = n } ∷ []) n reader
ReadsFrame head text done at reader (Err (frame_faults.TooLong n)) =
    items head text ≡ done ++ record { item = TooLong n; place = at } ∷ []
ReadsFrame head text done at reader (Err frame_faults.NoMemory) = HasRead head text done at reader
