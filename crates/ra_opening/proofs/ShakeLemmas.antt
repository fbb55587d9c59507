-- What a message of the handshake comes to.
use Rattle.std.proofs.Common.{◌≡◌, ◌≢◌, ℕ, ◌+◌, Bool, true, List, [], ◌∷◌, ◌++◌, refl, sym, ap, subst, ◌∙◌, append_assoc}
use Rattle.ra_base.specs.declared.handshake.Reason.{Reason}
use Rattle.ra_base.specs.declared.handshake.Request.{Request}
use Rattle.ra_model.specs.Frames.{frame_bytes}
use Rattle.ra_model.specs.FrameKinds.{FrameKind, control_frame}
use Rattle.ra_upgrade.specs.declared.request_head.HeadFault.{HeadFault}
use Rattle.ra_upgrade.specs.declared.request_head.Upgrade.{Upgrade}
use Rattle.ra_items.specs.Heads.{Head}
use Rattle.ra_items.specs.Items.{Placed}
use Rattle.ra_items.specs.Items.Item.{FrameItem}
use Rattle.ra_items.specs.Readers.{Reader, items_ahead}
use Rattle.ra_shake.specs.declared.server.ShakeStep.{ShakeStep}
use Rattle.ra_shake.specs.declared.server.ShakeStep.TheVariants.{Say, Ask, Refuse}
use Rattle.ra_shake.specs.declared.server.Stage.TheVariants as stages
use Rattle.ra_shake.specs.declared.settings.ShakeSettings.{ShakeSettings}
use Rattle.ra_shake.specs.Server.{server_step, server_after}
use Rattle.ra_shake.specs.States.{ServerState}
use Rattle.ra_shake.specs.Texts.{refuse_text}
use Rattle.ra_opening.specs.declared.ends.OpeningEnd.TheVariants as ends
use Rattle.ra_opening.specs.Openings.{Grounds, grounds_of, Opened, new_opened, shaken, frame_came, items_done, opened}
use Rattle.ra_opening.specs.Openings.Stage.{Shaking, Asked, Over}
use Rattle.ra_opening.specs.Stands.{IsShaking}
use Rattle.ra_opening.specs.Comes.{IsPart, IsAsked, IsOver, RanShort, HasControl, IsSaid, IsRefused}
use Rattle.ra_opening.proofs.RunLemmas.{opened_by, items_both, items_grow, item_more, still_asked, still_over}

-- the run with the message
with_control : (g : Grounds) (head : Head Upgrade HeadFault) (text before : List ℕ) (next : ℕ → List ℕ) (reader : Reader) (shake : ServerState) (body out : List ℕ) (step : ShakeStep)
    (x : HasControl g head text before next reader shake body out) → server_step g.signature g.counts shake body ≡ step
    → items_done g (x.done ++ record { item = FrameItem x.frame; place = x.place } ∷ []) new_opened ≡ shaken step shake x.place (items_done g x.done new_opened)
with_control g head text before next reader shake body out step x is =
    let s : Opened = items_done g x.done new_opened in
    item_more g x.done (record { item = FrameItem x.frame; place = x.place }) (Shaking shake) x.stage
    ∙ ap (λ (k : FrameKind). frame_came g k x.frame.body shake x.place s) x.kind
    ∙ ap (λ (b : List ℕ). shaken (server_step g.signature g.counts shake b) shake x.place s) x.body_is
    ∙ ap (λ (t : ShakeStep). shaken t shake x.place s) is

-- bytes that were written behind others
written_more : (whole before out more new : List ℕ) → whole ≡ before ++ out → new ≡ out ++ more → whole ++ more ≡ before ++ new
written_more whole before out more new is added = ap (λ (l : List ℕ). l ++ more) is ∙ append_assoc before out more ∙ ap (λ (l : List ℕ). before ++ l) (sym added)

-- it was answered
pub said : (g : Grounds) (head : Head Upgrade HeadFault) (text before : List ℕ) (next : ℕ → List ℕ) (reader : Reader) (old new : ServerState) (body out written : List ℕ)
    → HasControl g head text before next reader old body out → reader.behind_head ≡ true → IsSaid g.signature g.counts old new body out written
    → IsShaking g head text before next reader new written
said g head text before next reader old new body out written x behind says =
    let s : Opened = items_done g x.done new_opened in
    let p : Placed Upgrade HeadFault = record { item = FrameItem x.frame; place = x.place } in
    let is = with_control g head text before next reader old body out (Say says.text) x says.step in
    record {
      done = x.done ++ p ∷ [];
      at = x.place;
      read = x.read;
      behind = behind;
      stage = ap (λ (u : Opened). u.stage) is ∙ ap (λ (k : ServerState). Shaking k) (sym says.after);
      tells = record {
        written = ap (λ (u : Opened). u.out) is ∙ written_more s.out before out (frame_bytes (control_frame says.text)) written x.tells.written says.written;
        draws = λ k. x.tells.draws k ∙ ap (λ (u : Opened). g.draw (u.drawn + k)) (sym is);
      };
    }

-- it asks for a session
pub asked : (g : Grounds) (head : Head Upgrade HeadFault) (text before : List ℕ) (next : ℕ → List ℕ) (reader : Reader) (shake : ServerState) (body out written : List ℕ) (request : Request)
    → HasControl g head text before next reader shake body out → server_step g.signature g.counts shake body ≡ Ask request → written ≡ out
    → IsAsked g head text before next request reader.unread written
asked g head text before next reader shake body out written request x step same =
    let s : Opened = items_done g x.done new_opened in
    let p : Placed Upgrade HeadFault = record { item = FrameItem x.frame; place = x.place } in
    let t : Opened = record { stage = Asked request x.place; out = s.out; drawn = s.drawn } in
    let ahead : List (Placed Upgrade HeadFault) = items_ahead head x.place reader in
    let is : opened g head text ≡ t =
    opened_by g head text (x.done ++ p ∷ []) x.place reader x.read
    ∙ ap (items_done g ahead) (with_control g head text before next reader shake body out (Ask request) x step) ∙ still_asked g ahead t request x.place refl in
    record {
      place = x.place;
      stage = ap (λ (u : Opened). u.stage) is;
      behind = x.read.left;
      tells = record {
        written = ap (λ (u : Opened). u.out) is ∙ x.tells.written ∙ ap (λ (l : List ℕ). before ++ l) (sym same);
        draws = λ k. x.tells.draws k ∙ ap (λ (u : Opened). g.draw (u.drawn + k)) (sym is);
      };
    }

-- it is refused
pub refused : (g : Grounds) (head : Head Upgrade HeadFault) (text before : List ℕ) (next : ℕ → List ℕ) (reader : Reader) (shake : ServerState) (body out written : List ℕ) (reason : Reason)
    → HasControl g head text before next reader shake body out → IsRefused g.signature g.counts shake body reason out written
    → IsOver g head text before next (ends.Refused reason) written
refused g head text before next reader shake body out written reason x refuses =
    let s : Opened = items_done g x.done new_opened in
    let p : Placed Upgrade HeadFault = record { item = FrameItem x.frame; place = x.place } in
    let more : List ℕ = frame_bytes (control_frame (refuse_text reason)) in
    let t : Opened = record { stage = Over (ends.Refused reason); out = s.out ++ more; drawn = s.drawn } in
    let ahead : List (Placed Upgrade HeadFault) = items_ahead head x.place reader in
    let is : opened g head text ≡ t =
    opened_by g head text (x.done ++ p ∷ []) x.place reader x.read
    ∙ ap (items_done g ahead) (with_control g head text before next reader shake body out (Refuse reason) x refuses.step) ∙ still_over g ahead t (ends.Refused reason) refl in
    record {
      stage = ap (λ (u : Opened). u.stage) is;
      tells = record {
        written = ap (λ (u : Opened). u.out) is ∙ written_more s.out before out more written x.tells.written refuses.written;
        draws = λ k. x.tells.draws k ∙ ap (λ (u : Opened). g.draw (u.drawn + k)) (sym is);
      };
    }

-- memory ran out before it was answered
pub unanswered : (g : Grounds) (head : Head Upgrade HeadFault) (text before : List ℕ) (next : ℕ → List ℕ) (reader : Reader) (shake : ServerState) (body out written : List ℕ)
    → HasControl g head text before next reader shake body out → written ≡ out → RanShort g head text before next written
unanswered g head text before next reader shake body out written x same =
    let s : Opened = items_done g x.done new_opened in
    let p : Placed Upgrade HeadFault = record { item = FrameItem x.frame; place = x.place } in
    let others : List (Placed Upgrade HeadFault) = p ∷ items_ahead head x.place reader in
    let is : opened g head text ≡ items_done g others s =
    opened_by g head text (x.done ++ p ∷ []) x.place reader x.read ∙ ap (items_done g (items_ahead head x.place reader)) (items_both g x.done (p ∷ []) new_opened) in
    record {
      part = s;
      is_part = subst (λ (u : Opened). IsPart s u) (sym is) (items_grow g others s);
      tells = record { written = x.tells.written ∙ ap (λ (l : List ℕ). before ++ l) (sym same); draws = x.tells.draws };
    }

-- ---- as long as it is answered it goes on

pub record GoesOn (signature : List ℕ → List ℕ) (counts : List ℕ → List ℕ → Bool) (old now : Reader) (shake_old shake_now : ServerState) (out_old out_now : List ℕ) : Type 0 where
  pub behind : now.behind_head ≡ true
  pub waits : shake_now.stage ≢ stages.Over
  pub keeps : (settings : ShakeSettings) (draw : ℕ → List ℕ) (head : Head Upgrade HeadFault) (text before : List ℕ) (next : ℕ → List ℕ)
      → IsShaking (grounds_of settings signature counts draw) head text before next old shake_old out_old
      → IsShaking (grounds_of settings signature counts draw) head text before next now shake_now out_now

second_waits : (s t : ServerState) (text : List ℕ) → t ≡ server_after s (Say text) → t.stage ≢ stages.Over
second_waits s t text is over = let e : stages.Second ≡ stages.Over = sym (ap (λ (u : ServerState). u.stage) is) ∙ over in absurd cc

pub goes_on : (signature : List ℕ → List ℕ) (counts : List ℕ → List ℕ → Bool) (old mid new : Reader) (shake_old shake_mid shake_new : ServerState) (out_old out_mid out_new body : List ℕ)
    → GoesOn signature counts old mid shake_old shake_mid out_old out_mid
    → new.behind_head ≡ true
    → ((g : Grounds) (head : Head Upgrade HeadFault) (text before : List ℕ) (next : ℕ → List ℕ) → IsShaking g head text before next mid shake_mid out_mid → HasControl g head text before next new shake_mid body out_mid)
    → IsSaid signature counts shake_mid shake_new body out_mid out_new
    → GoesOn signature counts old new shake_old shake_new out_old out_new
goes_on signature counts old mid new shake_old shake_mid shake_new out_old out_mid out_new body on behind found says = record {
  behind = behind;
  waits = second_waits shake_mid shake_new says.text says.after;
  keeps = λ settings draw head text before next x.
      let g : Grounds = grounds_of settings signature counts draw in
      said g head text before next new shake_mid shake_new body out_mid out_new (found g head text before next (on.keeps settings draw head text before next x)) behind says;
}
