-- The run of an opening over items: one list after another, items that no longer count, and what was written stays.
use Rattle.std.proofs.Common.{◌≡◌, ℕ, Option, Some, None, Result, Ok, Err, List, [], ◌∷◌, ◌++◌, refl, sym, ap, subst, ◌∙◌, arith, append_assoc, append-nil}
use Rattle.ra_base.specs.declared.handshake.Request.{Request}
use Rattle.ra_model.specs.Frames.{frame_bytes}
use Rattle.ra_model.specs.FrameKinds.{FrameKind, frame_kind, control_frame}
use Rattle.ra_model.specs.FrameKinds.FrameKind.{Regular, Control, Disconnect, ReplayRequest, Pause, Resume, Other}
use Rattle.ra_upgrade.specs.declared.request_head.HeadFault.{HeadFault}
use Rattle.ra_upgrade.specs.declared.request_head.Upgrade.{Upgrade}
use Rattle.ra_upgrade.specs.AnswerTexts.{answer_text, refusal_text}
use Rattle.ra_items.specs.Heads.{Head}
use Rattle.ra_items.specs.Items.{Item, Placed, items}
use Rattle.ra_items.specs.Items.Item.{HeadItem, FrameItem, TooLong}
use Rattle.ra_items.specs.Readers.{Reader, HasRead, items_ahead}
use Rattle.ra_items.proofs.ReaderLemmas.{read_items}
use Rattle.ra_shake.specs.declared.server.ShakeStep.{ShakeStep}
use Rattle.ra_shake.specs.declared.server.ShakeStep.TheVariants.{Say, Ask, Refuse}
use Rattle.ra_shake.specs.Server.{server_step}
use Rattle.ra_shake.specs.States.{ServerState}
use Rattle.ra_shake.specs.Texts.{refuse_text}
use Rattle.ra_opening.specs.declared.ends.OpeningEnd.{OpeningEnd}
use Rattle.ra_opening.specs.Openings.{Grounds, Opened, Stage, new_opened, begun, head_came, shaken, frame_came, item_in_head, item_in_shake, item_at, item_done, items_done, opened}
use Rattle.ra_opening.specs.Openings.Stage.{Heading, Shaking, Asked, Over}
use Rattle.ra_opening.specs.Comes.{IsPart}

-- ---- one list after another

pub items_both : (g : Grounds) (ps qs : List (Placed Upgrade HeadFault)) (s : Opened) → items_done g (ps ++ qs) s ≡ items_done g qs (items_done g ps s)
items_both g [] qs s = refl
items_both g (p ∷ ps) qs s = items_both g ps qs (item_done g p s)

pub opened_is : (g : Grounds) (head : Head Upgrade HeadFault) (text : List ℕ) (ps : List (Placed Upgrade HeadFault)) → items head text ≡ ps → opened g head text ≡ items_done g ps new_opened
unfolding opened
opened_is g head text ps is = ap (λ (l : List (Placed Upgrade HeadFault)). items_done g l new_opened) is

-- the items that were read, and those that are ahead
pub opened_by : (g : Grounds) (head : Head Upgrade HeadFault) (text : List ℕ) (done : List (Placed Upgrade HeadFault)) (at : ℕ) (reader : Reader) → HasRead head text done at reader
    → opened g head text ≡ items_done g (items_ahead head at reader) (items_done g done new_opened)
opened_by g head text done at reader has =
    opened_is g head text (done ++ items_ahead head at reader) (read_items head text done at reader has) ∙ items_both g done (items_ahead head at reader) new_opened

-- ---- one item, at a stage

pub item_by : (g : Grounds) (p : Placed Upgrade HeadFault) (s : Opened) (stage : Stage) → s.stage ≡ stage → item_done g p s ≡ item_at g stage p s
unfolding item_done
item_by g p s stage is = ap (λ (t : Stage). item_at g t p s) is

-- one item more
pub item_more : (g : Grounds) (done : List (Placed Upgrade HeadFault)) (p : Placed Upgrade HeadFault) (stage : Stage) → (items_done g done new_opened).stage ≡ stage
    → items_done g (done ++ p ∷ []) new_opened ≡ item_at g stage p (items_done g done new_opened)
item_more g done p stage is = items_both g done (p ∷ []) new_opened ∙ item_by g p (items_done g done new_opened) stage is

-- ---- items that no longer count

pub still_asked : (g : Grounds) (ps : List (Placed Upgrade HeadFault)) (s : Opened) (request : Request) (place : ℕ) → s.stage ≡ Asked request place → items_done g ps s ≡ s
still_asked g [] s request place is = refl
still_asked g (p ∷ ps) s request place is =
    ap (items_done g ps) (item_by g p s (Asked request place) is) ∙ still_asked g ps s request place is

pub still_over : (g : Grounds) (ps : List (Placed Upgrade HeadFault)) (s : Opened) (end : OpeningEnd) → s.stage ≡ Over end → items_done g ps s ≡ s
still_over g [] s end is = refl
still_over g (p ∷ ps) s end is = ap (items_done g ps) (item_by g p s (Over end) is) ∙ still_over g ps s end is

-- ---- what was written and drawn stays

part_same : (s : Opened) → IsPart s s
part_same s = record { more = []; out = sym (append-nil s.out); drawn = omega arith }

part_both : (r s t : Opened) → IsPart r s → IsPart s t → IsPart r t
part_both r s t p q = record {
  more = p.more ++ q.more;
  out = q.out ∙ ap (λ (l : List ℕ). l ++ q.more) p.out ∙ append_assoc r.out p.more q.more;
  drawn = omega (arith, p.drawn, q.drawn);
}

begun_grows : (g : Grounds) (upgrade : Upgrade) (token : Option (List ℕ)) (s : Opened) → IsPart s (begun g upgrade token s)
begun_grows g upgrade None s = record { more = answer_text upgrade.key; out = refl; drawn = omega arith }
begun_grows g upgrade (Some token) s = record { more = answer_text upgrade.key; out = refl; drawn = omega arith }

head_grows : (g : Grounds) (says : Result Upgrade HeadFault) (s : Opened) → IsPart s (head_came g says s)
head_grows g (Ok upgrade) s = begun_grows g upgrade upgrade.token s
head_grows g (Err fault) s = record { more = refusal_text; out = refl; drawn = omega arith }

shaken_grows : (step : ShakeStep) (shake : ServerState) (place : ℕ) (s : Opened) → IsPart s (shaken step shake place s)
shaken_grows (Say text) shake place s = record { more = frame_bytes (control_frame text); out = refl; drawn = omega arith }
shaken_grows (Ask request) shake place s = record { more = []; out = sym (append-nil s.out); drawn = omega arith }
shaken_grows (Refuse reason) shake place s = record { more = frame_bytes (control_frame (refuse_text reason)); out = refl; drawn = omega arith }

frame_grows : (g : Grounds) (kind : FrameKind) (body : List ℕ) (shake : ServerState) (place : ℕ) (s : Opened) → IsPart s (frame_came g kind body shake place s)
frame_grows g Control body shake place s = shaken_grows (server_step g.signature g.counts shake body) shake place s
frame_grows g Disconnect body shake place s = record { more = []; out = sym (append-nil s.out); drawn = omega arith }
frame_grows g Regular body shake place s = part_same s
frame_grows g ReplayRequest body shake place s = part_same s
frame_grows g Pause body shake place s = part_same s
frame_grows g Resume body shake place s = part_same s
frame_grows g Other body shake place s = part_same s

in_head_grows : (g : Grounds) (item : Item Upgrade HeadFault) (s : Opened) → IsPart s (item_in_head g item s)
in_head_grows g (HeadItem says) s = head_grows g says s
in_head_grows g (FrameItem f) s = part_same s
in_head_grows g (TooLong n) s = part_same s

in_shake_grows : (g : Grounds) (item : Item Upgrade HeadFault) (shake : ServerState) (place : ℕ) (s : Opened) → IsPart s (item_in_shake g item shake place s)
in_shake_grows g (HeadItem says) shake place s = part_same s
in_shake_grows g (FrameItem f) shake place s = frame_grows g (frame_kind f.kind) f.body shake place s
in_shake_grows g (TooLong n) shake place s = record { more = []; out = sym (append-nil s.out); drawn = omega arith }

at_grows : (g : Grounds) (stage : Stage) (p : Placed Upgrade HeadFault) (s : Opened) → IsPart s (item_at g stage p s)
at_grows g Heading p s = in_head_grows g p.item s
at_grows g (Shaking shake) p s = in_shake_grows g p.item shake p.place s
at_grows g (Asked request place) p s = part_same s
at_grows g (Over end) p s = part_same s

item_grows : (g : Grounds) (p : Placed Upgrade HeadFault) (s : Opened) → IsPart s (item_done g p s)
unfolding item_done
item_grows g p s = at_grows g s.stage p s

pub items_grow : (g : Grounds) (ps : List (Placed Upgrade HeadFault)) (s : Opened) → IsPart s (items_done g ps s)
items_grow g [] s = part_same s
items_grow g (p ∷ ps) s = part_both s (item_done g p s) (items_done g ps (item_done g p s)) (item_grows g p s) (items_grow g ps (item_done g p s))

-- what was done for the items that were read is a part of the whole
pub read_part : (g : Grounds) (head : Head Upgrade HeadFault) (text : List ℕ) (done : List (Placed Upgrade HeadFault)) (at : ℕ) (reader : Reader) → HasRead head text done at reader
    → IsPart (items_done g done new_opened) (opened g head text)
read_part g head text done at reader has =
    subst (λ (s : Opened). IsPart (items_done g done new_opened) s) (sym (opened_by g head text done at reader has)) (items_grow g (items_ahead head at reader) (items_done g done new_opened))
