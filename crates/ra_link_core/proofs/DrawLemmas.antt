-- An opening draws for its head alone.
use Rattle.std.proofs.Common.{◌≡◌, ℕ, Bool, false, Option, Some, None, Result, Ok, Err, List, [], ◌∷◌, ◌++◌, if◌then◌else◌, length, drop, refl, sym, ap, subst, ◌∙◌}
use Rattle.std.specs.Prelude.{⊤, nat_lt}
use Rattle.ra_model.specs.FrameKinds.{FrameKind, frame_kind}
use Rattle.ra_model.specs.FrameKinds.FrameKind.{Regular, Control, Disconnect, ReplayRequest, Pause, Resume, Other}
use Rattle.ra_items.specs.Heads.{Head, sized}
use Rattle.ra_items.specs.Items.{Item, Placed, items, items_by, frames_at, fresh_items}
use Rattle.ra_items.specs.Items.Item.{HeadItem, FrameItem, TooLong}
use Rattle.ra_shake.specs.declared.server.ShakeStep.{ShakeStep}
use Rattle.ra_shake.specs.declared.server.ShakeStep.TheVariants.{Say, Ask, Refuse}
use Rattle.ra_shake.specs.Server.{server_step}
use Rattle.ra_shake.specs.States.{ServerState}
use Rattle.ra_upgrade.specs.declared.request_head.HeadFault.{HeadFault}
use Rattle.ra_upgrade.specs.declared.request_head.Upgrade.{Upgrade}
use Rattle.ra_opening.specs.Openings.{Grounds, Opened, Stage, new_opened, begun, head_came, shaken, frame_came, item_in_shake, item_at, item_done, items_done, opened}
use Rattle.ra_opening.specs.Openings.Stage.{Heading, Shaking, Asked, Over}
use Rattle.ra_opening.proofs.RunLemmas.{opened_is, item_by}
use Rattle.ra_opening.proofs.LawLemmas.{opened_grows}

-- the head has come
abbrev pub IsPast : Stage → Type 0
IsPast Heading = ⊥
IsPast (Shaking shake) = ⊤
IsPast (Asked request place) = ⊤
IsPast (Over end) = ⊤

-- and no further draw was made
record Keeps (s t : Opened) : Type 0 where
  pub past : IsPast t.stage
  pub drawn : t.drawn ≡ s.drawn

shaken_keeps : (step : ShakeStep) (shake : ServerState) (place : ℕ) (s : Opened) → Keeps s (shaken step shake place s)
shaken_keeps (Say text) shake place s = record { past = tt; drawn = refl }
shaken_keeps (Ask request) shake place s = record { past = tt; drawn = refl }
shaken_keeps (Refuse reason) shake place s = record { past = tt; drawn = refl }

frame_keeps : (g : Grounds) (kind : FrameKind) (body : List ℕ) (shake : ServerState) (place : ℕ) (s : Opened) → IsPast s.stage → Keeps s (frame_came g kind body shake place s)
frame_keeps g Control body shake place s past = shaken_keeps (server_step g.signature g.counts shake body) shake place s
frame_keeps g Disconnect body shake place s past = record { past = tt; drawn = refl }
frame_keeps g Regular body shake place s past = record { past = past; drawn = refl }
frame_keeps g ReplayRequest body shake place s past = record { past = past; drawn = refl }
frame_keeps g Pause body shake place s past = record { past = past; drawn = refl }
frame_keeps g Resume body shake place s past = record { past = past; drawn = refl }
frame_keeps g Other body shake place s past = record { past = past; drawn = refl }

in_shake_keeps : (g : Grounds) (item : Item Upgrade HeadFault) (shake : ServerState) (place : ℕ) (s : Opened) → IsPast s.stage → Keeps s (item_in_shake g item shake place s)
in_shake_keeps g (HeadItem says) shake place s past = record { past = past; drawn = refl }
in_shake_keeps g (FrameItem f) shake place s past = frame_keeps g (frame_kind f.kind) f.body shake place s past
in_shake_keeps g (TooLong n) shake place s past = record { past = tt; drawn = refl }

at_keeps : (g : Grounds) (stage : Stage) (p : Placed Upgrade HeadFault) (s : Opened) → s.stage ≡ stage → IsPast s.stage → Keeps s (item_at g stage p s)
at_keeps g Heading p s is past = absurd (subst (λ (t : Stage). IsPast t) is past)
at_keeps g (Shaking shake) p s is past = in_shake_keeps g p.item shake p.place s past
at_keeps g (Asked request place) p s is past = record { past = past; drawn = refl }
at_keeps g (Over end) p s is past = record { past = past; drawn = refl }

item_keeps : (g : Grounds) (p : Placed Upgrade HeadFault) (s : Opened) → IsPast s.stage → Keeps s (item_done g p s)
unfolding item_done
item_keeps g p s past = at_keeps g s.stage p s refl past

items_keep : (g : Grounds) (ps : List (Placed Upgrade HeadFault)) (s : Opened) → IsPast s.stage → Keeps s (items_done g ps s)
items_keep g [] s past = record { past = past; drawn = refl }
items_keep g (p ∷ ps) s past =
    let one = item_keeps g p s past in
    let all = items_keep g ps (item_done g p s) one.past in
    record { past = all.past; drawn = all.drawn ∙ one.drawn }

-- ---- behind its head

begun_past : (g : Grounds) (upgrade : Upgrade) (token : Option (List ℕ)) → IsPast (begun g upgrade token new_opened).stage
begun_past g upgrade None = tt
begun_past g upgrade (Some token) = tt

head_past : (g : Grounds) (says : Result Upgrade HeadFault) → IsPast (head_came g says new_opened).stage
head_past g (Ok upgrade) = begun_past g upgrade upgrade.token
head_past g (Err fault) = tt

first_past : (g : Grounds) (says : Result Upgrade HeadFault) (place : ℕ) (ps : List (Placed Upgrade HeadFault)) → IsPast (items_done g (record { item = HeadItem says; place = place } ∷ ps) new_opened).stage
first_past g says place ps =
    let p : Placed Upgrade HeadFault = record { item = HeadItem says; place = place } in
    let is : item_done g p new_opened ≡ head_came g says new_opened = item_by g p new_opened Heading refl in
    (items_keep g ps (item_done g p new_opened) (subst (λ (s : Opened). IsPast s.stage) (sym is) (head_past g says))).past

found_past : (g : Grounds) (n : ℕ) (says : Result Upgrade HeadFault) (text : List ℕ) → IsPast (items_done g (items_by (sized n says) text) new_opened).stage
found_past g n (Ok upgrade) text = first_past g (Ok upgrade) n (frames_at n (drop n text))
found_past g n (Err fault) text = first_past g (Err fault) 0 []

judged_items : (head : Head Upgrade HeadFault) (text : List ℕ) → nat_lt (length text) head.size ≡ false → items head text ≡ items_by (sized head.size head.says) text
unfolding items
judged_items head text judged =
    ap (λ (b : Bool). items_by (if b then Ok None else sized head.size head.says) text) judged

opened_past : (g : Grounds) (head : Head Upgrade HeadFault) (text : List ℕ) → nat_lt (length text) head.size ≡ false → IsPast (opened g head text).stage
opened_past g head text judged =
    subst (λ (s : Opened). IsPast s.stage) (sym (opened_is g head text _ (judged_items head text judged))) (found_past g head.size head.says text)

-- what comes behind the head makes no draw
pub same_draws : (g : Grounds) (head : Head Upgrade HeadFault) (text more : List ℕ) → nat_lt (length text) head.size ≡ false
    → (opened g head (text ++ more)).drawn ≡ (opened g head text).drawn
same_draws g head text more judged =
    ap (λ (s : Opened). s.drawn) (opened_grows g head text more)
    ∙ (items_keep g (fresh_items head text more) (opened g head text) (opened_past g head text judged)).drawn
