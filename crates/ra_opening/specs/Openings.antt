-- The opening of a link at the server, as a function of the bytes that came on it: what it writes, and what it comes to. It begins with
-- the head and goes on with the handshake, up to the message that asks for a session. In what pieces the bytes came does not matter.
use Rattle.std.specs.Prelude.{ℕ, ◌+◌, Bool, Option, Some, None, Result, Ok, Err, List, [], ◌∷◌, ◌++◌}
use Rattle.ra_base.specs.declared.handshake.Request.{Request}
use Rattle.ra_model.specs.Frames.{frame_bytes}
use Rattle.ra_model.specs.FrameKinds.{FrameKind, frame_kind, control_frame}
use Rattle.ra_model.specs.FrameKinds.FrameKind.{Regular, Control, Disconnect, ReplayRequest, Pause, Resume, Other}
use Rattle.ra_upgrade.specs.declared.request_head.HeadFault.{HeadFault}
use Rattle.ra_upgrade.specs.declared.request_head.Upgrade.{Upgrade}
use Rattle.ra_upgrade.specs.AnswerTexts.{answer_text, refusal_text}
use Rattle.ra_items.specs.Heads.{Head}
use Rattle.ra_items.specs.Items.{Item, Placed, items}
use Rattle.ra_items.specs.Items.Item.{HeadItem, FrameItem, TooLong}
use Rattle.ra_shake.specs.declared.settings.ShakeSettings.{ShakeSettings}
use Rattle.ra_shake.specs.declared.server.ShakeStep.{ShakeStep}
use Rattle.ra_shake.specs.declared.server.ShakeStep.TheVariants.{Say, Ask, Refuse}
use Rattle.ra_shake.specs.declared.server.Stage.TheVariants.{First}
use Rattle.ra_shake.specs.Made.{made_text}
use Rattle.ra_shake.specs.Server.{server_step, server_after}
use Rattle.ra_shake.specs.States.{ServerState}
use Rattle.ra_opening.specs.Verdicts.{refusal_bytes}
use Rattle.ra_opening.specs.declared.ends.OpeningEnd.{OpeningEnd}
use Rattle.ra_opening.specs.declared.ends.OpeningEnd.TheVariants as ends

-- what an opening goes by: the settings, the signature of a text, which signatures of a text count, and the n-th draw of the link
pub record Grounds : Type 0 where
  pub settings : ShakeSettings
  pub signature : List ℕ → List ℕ
  pub counts : List ℕ → List ℕ → Bool
  pub draw : ℕ → List ℕ

abbrev pub grounds_of : ShakeSettings → (List ℕ → List ℕ) → (List ℕ → List ℕ → Bool) → (ℕ → List ℕ) → Grounds
grounds_of settings signature counts draw =
    record { settings = settings; signature = signature; counts = counts; draw = draw }

-- it waits for the head, or for a message of the handshake; or the client has asked for a session, and what follows stands behind that
-- place; or it is over
pub data Stage : Type 0 where
  Heading : Stage
  Shaking : ServerState → Stage
  Asked : Request → ℕ → Stage
  Over : OpeningEnd → Stage

-- an opening: how far it is, all that it wrote, and how many draws it made
pub record Opened : Type 0 where
  pub stage : Stage
  pub out : List ℕ
  pub drawn : ℕ

abbrev pub new_opened : Opened
new_opened = record { stage = Heading; out = []; drawn = 0 }

-- the handshake that a head begins, for a token, with the challenge that is made of a draw
abbrev pub first_state : Grounds → Upgrade → List ℕ → ℕ → ServerState
first_state grounds upgrade token n = record {
  settings = grounds.settings;
  token = token;
  reconnection = upgrade.reconnection;
  challenge = made_text (grounds.draw n);
  stage = First;
}

-- a head without a token has one made of the next draw
abbrev pub begun : Grounds → Upgrade → Option (List ℕ) → Opened → Opened
begun grounds upgrade None s = record {
  stage = Shaking (first_state grounds upgrade (made_text (grounds.draw s.drawn)) (s.drawn + 1));
  out = s.out ++ answer_text upgrade.key;
  drawn = s.drawn + 2;
}
begun grounds upgrade (Some token) s = record {
  stage = Shaking (first_state grounds upgrade token s.drawn);
  out = s.out ++ answer_text upgrade.key;
  drawn = s.drawn + 1;
}

-- the head is answered
abbrev pub head_came : Grounds → Result Upgrade HeadFault → Opened → Opened
head_came grounds (Ok upgrade) s = begun grounds upgrade upgrade.token s
head_came grounds (Err fault) s = record s { stage = Over (ends.BadHead fault); out = s.out ++ refusal_text }

-- the step of the handshake, made by a message that ends at a place
abbrev pub shaken : ShakeStep → ServerState → ℕ → Opened → Opened
shaken (Say text) shake place s = record s { stage = Shaking (server_after shake (Say text)); out = s.out ++ frame_bytes (control_frame text) }
shaken (Ask request) shake place s = record s { stage = Asked request place }
shaken (Refuse reason) shake place s =
    record s { stage = Over (ends.Refused reason); out = s.out ++ refusal_bytes reason }

-- a control frame is a message of the handshake, and a Disconnect ends it; other frames are passed over
abbrev pub frame_came : Grounds → FrameKind → List ℕ → ServerState → ℕ → Opened → Opened
frame_came grounds Control body shake place s = shaken (server_step grounds.signature grounds.counts shake body) shake place s
frame_came grounds Disconnect body shake place s = record s { stage = Over ends.Left }
frame_came grounds Regular body shake place s = s
frame_came grounds ReplayRequest body shake place s = s
frame_came grounds Pause body shake place s = s
frame_came grounds Resume body shake place s = s
frame_came grounds Other body shake place s = s

abbrev pub item_in_head : Grounds → Item Upgrade HeadFault → Opened → Opened
item_in_head grounds (HeadItem says) s = head_came grounds says s
item_in_head grounds (FrameItem f) s = s
item_in_head grounds (TooLong n) s = s

abbrev pub item_in_shake : Grounds → Item Upgrade HeadFault → ServerState → ℕ → Opened → Opened
item_in_shake grounds (HeadItem says) shake place s = s
item_in_shake grounds (FrameItem f) shake place s = frame_came grounds (frame_kind f.kind) f.body shake place s
item_in_shake grounds (TooLong n) shake place s = record s { stage = Over (ends.TooLong n) }

-- items count until the client has asked or the opening is over
abbrev pub item_at : Grounds → Stage → Placed Upgrade HeadFault → Opened → Opened
item_at grounds Heading p s = item_in_head grounds p.item s
item_at grounds (Shaking shake) p s = item_in_shake grounds p.item shake p.place s
item_at grounds (Asked request place) p s = s
item_at grounds (Over end) p s = s

unfoldable pub item_done : Grounds → Placed Upgrade HeadFault → Opened → Opened
item_done grounds p s = item_at grounds s.stage p s

abbrev pub items_done : Grounds → List (Placed Upgrade HeadFault) → Opened → Opened
items_done grounds [] s = s
items_done grounds (p ∷ ps) s = items_done grounds ps (item_done grounds p s)

-- the opening, once these bytes have come
unfoldable pub opened : Grounds → Head Upgrade HeadFault → List ℕ → Opened
opened grounds head text = items_done grounds (items head text) new_opened
