-- An opening goes by the draws that it made, and by no others: those that come next may be taken by another link.
use Rattle.std.proofs.Common.{◌≡◌, ℕ, ◌+◌, ◌<◌, Option, Some, None, Result, Ok, Err, List, [], ◌∷◌, ◌++◌, refl, ap, sym, ◌∙◌, subst, append-nil, arith}
use Rattle.ra_upgrade.specs.declared.request_head.HeadFault.{HeadFault}
use Rattle.ra_upgrade.specs.declared.request_head.Upgrade.{Upgrade}
use Rattle.ra_upgrade.specs.AnswerTexts.{answer_text}
use Rattle.ra_items.specs.Heads.{Head}
use Rattle.ra_items.specs.Items.{Item, Placed, items}
use Rattle.ra_items.specs.Items.Item.{HeadItem, FrameItem, TooLong}
use Rattle.ra_model.specs.FrameKinds.{FrameKind, frame_kind}
use Rattle.ra_model.specs.FrameKinds.FrameKind.{Regular, Control, Disconnect, ReplayRequest, Pause, Resume, Other}
use Rattle.ra_shake.specs.declared.server.Stage.TheVariants.{First}
use Rattle.ra_shake.specs.Made.{made_text}
use Rattle.ra_shake.specs.States.{ServerState}
use Rattle.ra_opening.specs.Openings.{Grounds, Opened, begun, head_came, frame_came, item_in_head, item_in_shake, item_at, item_done, items_done, new_opened, opened, Stage}
use Rattle.ra_opening.specs.Openings.Stage.{Heading, Shaking, Asked, Over}
use Rattle.ra_opening.specs.declared.phase.Phase.{Phase}
use Rattle.ra_opening.specs.declared.phase.Phase.TheVariants as phases
use Rattle.ra_opening.specs.Stands.{Tells, NeedsFraming, StandsIn}
use Rattle.ra_items.specs.Readers.{Reader}
use Rattle.ra_opening.proofs.RunLemmas.{items_grow}

abbrev with_draw : Grounds → (ℕ → List ℕ) → Grounds
with_draw g draw = record { settings = g.settings; signature = g.signature; counts = g.counts; draw = draw }

-- they agree on so many draws
abbrev pub Agree : ℕ → (ℕ → List ℕ) → (ℕ → List ℕ) → Type 0
Agree count one other = (n : ℕ) → n < count → one n ≡ other n

-- what a head without a token begins, by its two draws
abbrev made_two : Grounds → Upgrade → Opened → List ℕ → List ℕ → Opened
made_two g upgrade s a b = record {
  stage = Shaking (record { settings = g.settings; token = made_text a; reconnection = upgrade.reconnection; challenge = made_text b; stage = First });
  out = s.out ++ answer_text upgrade.key;
  drawn = s.drawn + 2;
}

abbrev made_one : Grounds → Upgrade → List ℕ → Opened → List ℕ → Opened
made_one g upgrade token s a = record {
  stage = Shaking (record { settings = g.settings; token = token; reconnection = upgrade.reconnection; challenge = made_text a; stage = First });
  out = s.out ++ answer_text upgrade.key;
  drawn = s.drawn + 1;
}

begun_alike : (g : Grounds) (other : ℕ → List ℕ) (upgrade : Upgrade) (token : Option (List ℕ)) (s : Opened) → Agree (begun g upgrade token s).drawn g.draw other
    → begun g upgrade token s ≡ begun (with_draw g other) upgrade token s
begun_alike g other upgrade None s agree =
    ap (λ (a : List ℕ). made_two g upgrade s a (g.draw (s.drawn + 1))) (agree s.drawn (omega arith))
    ∙ ap (λ (b : List ℕ). made_two g upgrade s (other s.drawn) b) (agree (s.drawn + 1) (omega arith))
begun_alike g other upgrade (Some token) s agree = ap (λ (a : List ℕ). made_one g upgrade token s a) (agree s.drawn (omega arith))

head_alike : (g : Grounds) (other : ℕ → List ℕ) (says : Result Upgrade HeadFault) (s : Opened) → Agree (head_came g says s).drawn g.draw other
    → head_came g says s ≡ head_came (with_draw g other) says s
head_alike g other (Ok upgrade) s agree = begun_alike g other upgrade upgrade.token s agree
head_alike g other (Err fault) s agree = refl

in_head_alike : (g : Grounds) (other : ℕ → List ℕ) (item : Item Upgrade HeadFault) (s : Opened) → Agree (item_in_head g item s).drawn g.draw other
    → item_in_head g item s ≡ item_in_head (with_draw g other) item s
in_head_alike g other (HeadItem says) s agree = head_alike g other says s agree
in_head_alike g other (FrameItem f) s agree = refl
in_head_alike g other (TooLong n) s agree = refl

frame_alike : (g : Grounds) (other : ℕ → List ℕ) (kind : FrameKind) (body : List ℕ) (shake : ServerState) (place : ℕ) (s : Opened)
    → frame_came g kind body shake place s ≡ frame_came (with_draw g other) kind body shake place s
frame_alike g other Regular body shake place s = refl
frame_alike g other Control body shake place s = refl
frame_alike g other Disconnect body shake place s = refl
frame_alike g other ReplayRequest body shake place s = refl
frame_alike g other Pause body shake place s = refl
frame_alike g other Resume body shake place s = refl
frame_alike g other Other body shake place s = refl

in_shake_alike : (g : Grounds) (other : ℕ → List ℕ) (item : Item Upgrade HeadFault) (shake : ServerState) (place : ℕ) (s : Opened)
    → item_in_shake g item shake place s ≡ item_in_shake (with_draw g other) item shake place s
in_shake_alike g other (HeadItem says) shake place s = refl
in_shake_alike g other (FrameItem f) shake place s = frame_alike g other (frame_kind f.kind) f.body shake place s
in_shake_alike g other (TooLong n) shake place s = refl

item_alike : (g : Grounds) (other : ℕ → List ℕ) (stage : Stage) (p : Placed Upgrade HeadFault) (s : Opened) → Agree (item_at g stage p s).drawn g.draw other
    → item_at g stage p s ≡ item_at (with_draw g other) stage p s
item_alike g other Heading p s agree = in_head_alike g other p.item s agree
item_alike g other (Shaking shake) p s agree = in_shake_alike g other p.item shake p.place s
item_alike g other (Asked request place) p s agree = refl
item_alike g other (Over end) p s agree = refl

done_alike : (g : Grounds) (other : ℕ → List ℕ) (p : Placed Upgrade HeadFault) (s : Opened) → Agree (item_done g p s).drawn g.draw other
    → item_done g p s ≡ item_done (with_draw g other) p s
unfolding item_done
done_alike g other p s agree = item_alike g other s.stage p s agree

-- an opening that agrees with another on the draws that it made is that one
pub items_alike : (g : Grounds) (other : ℕ → List ℕ) (ps : List (Placed Upgrade HeadFault)) (s : Opened) → Agree (items_done g ps s).drawn g.draw other
    → items_done g ps s ≡ items_done (with_draw g other) ps s
items_alike g other [] s agree = refl
items_alike g other (p ∷ ps) s agree =
    let grows = items_grow g ps (item_done g p s) in
    items_alike g other ps (item_done g p s) agree
    ∙ ap (λ (t : Opened). items_done (with_draw g other) ps t) (done_alike g other p s (λ n less. agree n (omega (arith, less, grows.drawn))))

pub opened_alike : (g : Grounds) (other : ℕ → List ℕ) (head : Head Upgrade HeadFault) (text : List ℕ) → Agree (opened g head text).drawn g.draw other
    → opened g head text ≡ opened (with_draw g other) head text
unfolding opened
opened_alike g other head text agree = items_alike g other (items head text) new_opened agree

-- ---- openings in memory

tells_on : (g : Grounds) (other : ℕ → List ℕ) (before : List ℕ) (next coming : ℕ → List ℕ) (out : List ℕ) (s t : Opened) → s ≡ t → Tells g before next out s
    → ((n : ℕ) → coming n ≡ other (s.drawn + n)) → Tells (with_draw g other) (before ++ out) coming [] t
tells_on g other before next coming out s t is tells comes = record {
  written = ap (λ (x : Opened). x.out) (sym is) ∙ tells.written ∙ sym (append-nil (before ++ out));
  draws = λ n. comes n ∙ ap (λ (x : Opened). other (x.drawn + n)) is;
}

none_opened : (g : Grounds) (head : Head Upgrade HeadFault) (text : List ℕ) → items head text ≡ [] → new_opened ≡ opened g head text
unfolding opened
none_opened g head text none = ap (λ (ps : List (Placed Upgrade HeadFault)). items_done g ps new_opened) (sym none)

all_opened : (g : Grounds) (head : Head Upgrade HeadFault) (text : List ℕ) (done : List (Placed Upgrade HeadFault)) → items head text ≡ done
    → items_done g done new_opened ≡ opened g head text
unfolding opened
all_opened g head text done all = ap (λ (ps : List (Placed Upgrade HeadFault)). items_done g ps new_opened) (sym all)

-- an opening that waits goes on with what it wrote and drew, whatever draws come next
pub stands_on : (g : Grounds) (other : ℕ → List ℕ) (head : Head Upgrade HeadFault) (text before : List ℕ) (next coming : ℕ → List ℕ) (phase : Phase) (reader : Reader) (out : List ℕ)
    → (NeedsFraming phase → ⊥) → StandsIn phase g head text before next reader out → Agree (opened g head text).drawn g.draw other
    → ((n : ℕ) → coming n ≡ other ((opened g head text).drawn + n)) → StandsIn phase (with_draw g other) head text (before ++ out) coming reader []
stands_on g other head text before next coming phases.Heading reader out free stands agree comes = record {
  waits = record {
    read = stands.waits.read;
    unopened = stands.waits.unopened;
    tells = tells_on g other before next coming out new_opened new_opened refl stands.waits.tells
        (λ n. comes n ∙ ap (λ (x : Opened). other (x.drawn + n)) (sym (none_opened g head text stands.none)));
  };
  none = stands.none;
}
stands_on g other head text before next coming (phases.Held shake) reader out free stands agree comes = absurd (free (tt {0}))
stands_on g other head text before next coming (phases.Shaking shake) reader out free stands agree comes =
    let done = stands.shaking.done in
    let is : items_done g done new_opened ≡ opened g head text = all_opened g head text done stands.all in
    let same : items_done g done new_opened ≡ items_done (with_draw g other) done new_opened =
    items_alike g other done new_opened (λ n less. agree n (subst (λ (x : Opened). n < x.drawn) is less)) in
    record {
      shaking = record {
        done = done;
        at = stands.shaking.at;
        read = stands.shaking.read;
        behind = stands.shaking.behind;
        stage = ap (λ (x : Opened). x.stage) (sym same) ∙ stands.shaking.stage;
        tells = tells_on g other before next coming out (items_done g done new_opened) (items_done (with_draw g other) done new_opened) same stands.shaking.tells
            (λ n. comes n ∙ ap (λ (x : Opened). other (x.drawn + n)) (sym is));
      };
      all = stands.all;
    }
stands_on g other head text before next coming phases.Over reader out free stands agree comes = absurd stands
