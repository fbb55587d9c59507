-- The opening of a link at the server on a front of what its client writes: one of four records, by how far the front goes. Each of them
-- goes by the first draw alone.
use Rattle.std.proofs.Common.{◌≡◌, ◌≢◌, ◌⊎◌, inl, inr, ℕ, ◌+◌, ◌<◌, ◌≤◌, Bool, true, Option, Some, None, Ok, List, [], ◌∷◌, ◌++◌, length, drop, refl, sym, ap, subst, ◌∙◌, arith, append-nil, length-append}
use Rattle.std.proofs.lemmas.Bool.{cond-true, cond-false, lt-ltb, le-ltb}
use Rattle.ra_base.specs.declared.handshake.Reason.{Reason}
use Rattle.ra_base.specs.declared.key.Key.{Key}
use Rattle.ra_base.specs.declared.kind.Kind.TheVariants.{Tunnel}
use Rattle.ra_model.specs.Frames.{IsFrame, frame_bytes}
use Rattle.ra_model.specs.FrameKinds.{written_frame, control_frame}
use Rattle.ra_upgrade.specs.declared.request_head.HeadFault.{HeadFault}
use Rattle.ra_upgrade.specs.declared.request_head.Upgrade.{Upgrade}
use Rattle.ra_upgrade.specs.AnswerTexts.{answer_text}
use Rattle.ra_upgrade.specs.Exchange.{requested}
use Rattle.ra_upgrade.specs.RequestTexts.{key_text}
use Rattle.ra_items.specs.Heads.{Head}
use Rattle.ra_items.specs.Items.{Placed, frames_at, items}
use Rattle.ra_items.specs.Items.Item.{HeadItem, FrameItem}
use Rattle.ra_items.proofs.ItemLemmas.{items_head, items_open}
use Rattle.ra_shake.specs.declared.server.ShakeStep.{ShakeStep}
use Rattle.ra_shake.specs.declared.server.ShakeStep.TheVariants.{Ask}
use Rattle.ra_shake.specs.Made.{made_text}
use Rattle.ra_shake.specs.Server.{refuse_or}
use Rattle.ra_opening.specs.Openings.{Grounds, Opened, new_opened, shaken, item_done, items_done, opened}
use Rattle.ra_opening.specs.Openings.Stage.{Shaking}
use Rattle.ra_opening.proofs.RunLemmas.{opened_is}
use Rattle.ra_dial.specs.Clients.{request_of}
use Rattle.ra_grand_runs.specs.SetUps.{settings_for, request_head, grounds}
use Rattle.ra_handshake_laws.specs.Handshakes.{client_text, first_message, second_message, greeting, request_for, OpensAt}
use Rattle.ra_handshake_laws.proofs.FrameTexts.{IsProperFront, GoesPast, front_of_two, whole_or_short, short_items, nothing_items, frame_items}
use Rattle.ra_handshake_laws.proofs.ServerTexts.{first_body, second_body, first_fits, second_fits, waiting, judging, first_step_is, second_step_is, second_reason}

-- ---- how far a front of the request and the two messages goes

pub data Reach (request first second text : List ℕ) : Type 0 where
  Before : length text < length request → Reach request first second text
  InFirst : (rest : List ℕ) → text ≡ request ++ rest → IsProperFront rest first → Reach request first second text
  InSecond : (rest : List ℕ) → text ≡ request ++ (first ++ rest) → IsProperFront rest second → Reach request first second text
  Whole : text ≡ request ++ (first ++ second) → Reach request first second text

reach_last : (request first second text rest : List ℕ) → text ≡ request ++ (first ++ rest) → IsProperFront rest second ⊎ (rest ≡ second) → Reach request first second text
reach_last request first second text rest begins (inl short) = InSecond rest begins short
reach_last request first second text rest begins (inr is) = Whole (begins ∙ ap (λ (t : List ℕ). request ++ (first ++ t)) is)

reach_behind : (request first second text rest tail : List ℕ) → text ≡ request ++ rest → IsProperFront rest first ⊎ GoesPast rest first tail second → Reach request first second text
reach_behind request first second text rest tail begins (inl short) = InFirst rest begins short
reach_behind request first second text rest tail begins (inr goes) =
    reach_last request first second text goes.rest (begins ∙ ap (λ (t : List ℕ). request ++ t) goes.begins) (whole_or_short goes.rest tail second goes.front)

reach_by : (request first second text tail : List ℕ) → IsProperFront text request ⊎ GoesPast text request tail (first ++ second) → Reach request first second text
reach_by request first second text tail (inl short) = Before short.below
reach_by request first second text tail (inr goes) =
    reach_behind request first second text goes.rest tail goes.begins (front_of_two goes.rest tail first second goes.front)

pub reach : (request first second text tail : List ℕ) → text ++ tail ≡ request ++ (first ++ second) → Reach request first second text
reach request first second text tail same = reach_by request first second text tail (front_of_two text tail request (first ++ second) same)

-- ---- the items of a text that begins with a request

abbrev head_of : List ℕ → Upgrade → Head Upgrade HeadFault
head_of request upgrade = record { size = length request; says = Ok upgrade }

abbrev head_item : List ℕ → Upgrade → Placed Upgrade HeadFault
head_item request upgrade = record { item = HeadItem (Ok upgrade); place = length request }

abbrev message_item : List ℕ → ℕ → Placed Upgrade HeadFault
message_item body place = record { item = FrameItem (control_frame body); place = place }

unread : (request text : List ℕ) (upgrade : Upgrade) → length text < length request → items (head_of request upgrade) text ≡ []
unread request text upgrade below = items_open (head_of request upgrade) text (cond-true _ _ _ (lt-ltb (length text) (length request) below))

nothing_behind : (text : List ℕ) → drop (length text) text ≡ []
nothing_behind [] = refl
nothing_behind (x ∷ text) = nothing_behind text

read : (request rest : List ℕ) (upgrade : Upgrade) (ps : List (Placed Upgrade HeadFault)) → frames_at (length request) rest ≡ ps
    → items (head_of request upgrade) (request ++ rest) ≡ head_item request upgrade ∷ ps
read request rest upgrade ps is =
    let same : length request ≤ length request = omega arith in
    items_head (head_of request upgrade) request rest upgrade (length request) (cond-false _ _ _ (le-ltb (length request) (length request) same))
    ∙ ap (λ (t : List ℕ). head_item request upgrade ∷ frames_at (length request) (t ++ rest)) (nothing_behind request)
    ∙ ap (λ (qs : List (Placed Upgrade HeadFault)). head_item request upgrade ∷ qs) is

opened_from : (g : Grounds) (request rest text : List ℕ) (upgrade : Upgrade) (ps : List (Placed Upgrade HeadFault)) → text ≡ request ++ rest → frames_at (length request) rest ≡ ps
    → opened g (head_of request upgrade) text ≡ items_done g ps (item_done g (head_item request upgrade) new_opened)
opened_from g request rest text upgrade ps begins is =
    opened_is g (head_of request upgrade) text (head_item request upgrade ∷ ps) (ap (λ (t : List ℕ). items (head_of request upgrade) t) begins ∙ read request rest upgrade ps is)

-- two messages
both_items : (at : ℕ) (first second : List ℕ) → IsFrame (control_frame first) → IsFrame (control_frame second)
    → frames_at at (frame_bytes (control_frame first) ++ frame_bytes (control_frame second))
    ≡ message_item first (at + length (frame_bytes (control_frame first)))
    ∷ message_item second (at + length (frame_bytes (control_frame first)) + length (frame_bytes (control_frame second))) ∷ []
both_items at first second fits fits_too =
    let one : ℕ = at + length (frame_bytes (control_frame first)) in
    let two : ℕ = one + length (frame_bytes (control_frame second)) in
    frame_items at (control_frame first) (frame_bytes (control_frame second)) fits
    ∙ ap (λ (t : List ℕ). message_item first one ∷ frames_at one t) (sym (append-nil (frame_bytes (control_frame second))))
    ∙ ap (λ (ps : List (Placed Upgrade HeadFault)). message_item first one ∷ ps) (frame_items one (control_frame second) [] fits_too)
    ∙ ap (λ (ps : List (Placed Upgrade HeadFault)). message_item first one ∷ (message_item second two ∷ ps)) (nothing_items two)

-- ---- the opening behind each item

abbrev pub head_read : Key → Bool → (key draw : List ℕ) → Opened
head_read owner reconnection key draw = record { stage = Shaking (waiting owner reconnection draw); out = answer_text (key_text key); drawn = 1 }

abbrev pub first_read : Key → Bool → (key own draw : List ℕ) → Opened
first_read owner reconnection key own draw =
    record { stage = Shaking (judging owner reconnection draw); out = greeting key draw (made_text own); drawn = 1 }

abbrev pub all_read : Key → Bool → (key own theirs draw : List ℕ) → ℕ → Opened
all_read owner reconnection key own theirs draw place =
    shaken (refuse_or (Ask (request_for owner reconnection)) (second_reason owner.kind theirs draw)) (judging owner reconnection draw) place
    (first_read owner reconnection key own draw)

head_done : (owner : Key) (reconnection : Bool) (key request : List ℕ) (draw : ℕ → List ℕ)
    → item_done (grounds draw) (head_item request (requested owner.token reconnection true key)) new_opened ≡ head_read owner reconnection key (draw 0)
unfolding item_done
head_done owner reconnection key request draw = refl

first_done : (owner : Key) (reconnection : Bool) (key own : List ℕ) (draw : ℕ → List ℕ) (place : ℕ)
    → item_done (grounds draw) (message_item (first_body own) place) (head_read owner reconnection key (draw 0)) ≡ first_read owner reconnection key own (draw 0)
unfolding item_done written_frame
first_done owner reconnection key own draw place =
    ap (λ (step : ShakeStep). shaken step (waiting owner reconnection (draw 0)) place (head_read owner reconnection key (draw 0))) (first_step_is owner reconnection own (draw 0))

second_done : (owner : Key) (reconnection : Bool) (key own theirs : List ℕ) (draw : ℕ → List ℕ) (place : ℕ) → owner.kind ≢ Tunnel
    → item_done (grounds draw) (message_item (second_body owner.kind theirs) place) (first_read owner reconnection key own (draw 0))
    ≡ all_read owner reconnection key own theirs (draw 0) place
unfolding item_done written_frame
second_done owner reconnection key own theirs draw place known =
    ap (λ (step : ShakeStep). shaken step (judging owner reconnection (draw 0)) place (first_read owner reconnection key own (draw 0)))
    (second_step_is owner reconnection theirs (draw 0) known)

-- ---- the opening of a front

-- how far a text goes in what a client writes
abbrev pub ReachFor : Key → Bool → (key own theirs text : List ℕ) → Type 0
ReachFor owner reconnection key own theirs text =
    Reach (request_of (settings_for owner) reconnection key) (first_message own) (second_message owner theirs) text

abbrev pub opened_at : (owner : Key) (reconnection : Bool) (key own theirs draw text : List ℕ) → ReachFor owner reconnection key own theirs text → Opened
opened_at owner reconnection key own theirs draw text (Before below) = new_opened
opened_at owner reconnection key own theirs draw text (InFirst rest begins short) = head_read owner reconnection key draw
opened_at owner reconnection key own theirs draw text (InSecond rest begins short) = first_read owner reconnection key own draw
opened_at owner reconnection key own theirs draw text (Whole is) =
    all_read owner reconnection key own theirs draw
    (length (request_of (settings_for owner) reconnection key) + length (first_message own) + length (second_message owner theirs))

pub opened_exactly : (owner : Key) (reconnection : Bool) (key own theirs text : List ℕ) (draw : ℕ → List ℕ) → owner.kind ≢ Tunnel
    → (r : ReachFor owner reconnection key own theirs text)
    → opened (grounds draw) (request_head (settings_for owner) reconnection key) text ≡ opened_at owner reconnection key own theirs (draw 0) text r
opened_exactly owner reconnection key own theirs text draw known (Before below) =
    opened_is (grounds draw) (request_head (settings_for owner) reconnection key) text []
    (unread (request_of (settings_for owner) reconnection key) text (requested owner.token reconnection true key) below)
opened_exactly owner reconnection key own theirs text draw known (InFirst rest begins short) =
    let request : List ℕ = request_of (settings_for owner) reconnection key in
    opened_from (grounds draw) request rest text (requested owner.token reconnection true key) [] begins
    (short_items (length request) (control_frame (first_body own)) rest (first_fits own) short)
    ∙ head_done owner reconnection key request draw
opened_exactly owner reconnection key own theirs text draw known (InSecond rest begins short) =
    let request : List ℕ = request_of (settings_for owner) reconnection key in
    let place : ℕ = length request + length (first_message own) in
    let one : Placed Upgrade HeadFault = message_item (first_body own) place in
    opened_from (grounds draw) request (first_message own ++ rest) text (requested owner.token reconnection true key) (one ∷ []) begins
    (frame_items (length request) (control_frame (first_body own)) rest (first_fits own)
    ∙ ap (λ (ps : List (Placed Upgrade HeadFault)). one ∷ ps) (short_items place (control_frame (second_body owner.kind theirs)) rest (second_fits owner.kind theirs) short))
    ∙ ap (λ (s : Opened). item_done (grounds draw) one s) (head_done owner reconnection key request draw)
    ∙ first_done owner reconnection key own draw place
opened_exactly owner reconnection key own theirs text draw known (Whole is) =
    let request : List ℕ = request_of (settings_for owner) reconnection key in
    let place : ℕ = length request + length (first_message own) in
    let end : ℕ = place + length (second_message owner theirs) in
    let one : Placed Upgrade HeadFault = message_item (first_body own) place in
    let two : Placed Upgrade HeadFault = message_item (second_body owner.kind theirs) end in
    opened_from (grounds draw) request (first_message own ++ second_message owner theirs) text (requested owner.token reconnection true key) (one ∷ two ∷ []) is
    (both_items (length request) (first_body own) (second_body owner.kind theirs) (first_fits own) (second_fits owner.kind theirs))
    ∙ ap (λ (s : Opened). item_done (grounds draw) two (item_done (grounds draw) one s)) (head_done owner reconnection key request draw)
    ∙ ap (λ (s : Opened). item_done (grounds draw) two s) (first_done owner reconnection key own draw place)
    ∙ second_done owner reconnection key own theirs draw end known

-- ---- the law

whole_len : (request first second text : List ℕ) → text ≡ request ++ (first ++ second) → length request + length first + length second ≡ length text
whole_len request first second text is = omega (arith, ap length is, length-append request (first ++ second), length-append first second)

opens_whole : (owner : Key) (reconnection : Bool) (key own theirs draw text : List ℕ) (place : ℕ) (reason : Option Reason)
    → text ≡ client_text owner reconnection key own theirs → place ≡ length text
    → (s : Opened) → s ≡ shaken (refuse_or (Ask (request_for owner reconnection)) reason) (judging owner reconnection draw) place (first_read owner reconnection key own draw)
    → OpensAt owner reconnection key own theirs draw text s.stage s
opens_whole owner reconnection key own theirs draw text place None is at_end s same =
    subst (λ (o : Opened). OpensAt owner reconnection key own theirs draw text o.stage o) (sym same) (refl, is, at_end, refl, refl)
opens_whole owner reconnection key own theirs draw text place (Some reason) is at_end s same =
    subst (λ (o : Opened). OpensAt owner reconnection key own theirs draw text o.stage o) (sym same) (reason, refl, refl, refl)

opens_at : (owner : Key) (reconnection : Bool) (key own theirs draw text : List ℕ) (r : ReachFor owner reconnection key own theirs text) (s : Opened)
    → s ≡ opened_at owner reconnection key own theirs draw text r → OpensAt owner reconnection key own theirs draw text s.stage s
opens_at owner reconnection key own theirs draw text (Before below) s same =
    subst (λ (o : Opened). OpensAt owner reconnection key own theirs draw text o.stage o) (sym same) (refl, refl)
opens_at owner reconnection key own theirs draw text (InFirst rest begins short) s same =
    subst (λ (o : Opened). OpensAt owner reconnection key own theirs draw text o.stage o) (sym same) (inl refl, refl)
opens_at owner reconnection key own theirs draw text (InSecond rest begins short) s same =
    subst (λ (o : Opened). OpensAt owner reconnection key own theirs draw text o.stage o) (sym same) (inr refl, refl)
opens_at owner reconnection key own theirs draw text (Whole is) s same =
    let request : List ℕ = request_of (settings_for owner) reconnection key in
    opens_whole owner reconnection key own theirs draw text (length request + length (first_message own) + length (second_message owner theirs))
    (second_reason owner.kind theirs draw) is (whole_len request (first_message own) (second_message owner theirs) text is) s same

pub opens : (owner : Key) (reconnection : Bool) (key own theirs : List ℕ) (draw : ℕ → List ℕ) (text rest : List ℕ) → owner.kind ≢ Tunnel
    → text ++ rest ≡ client_text owner reconnection key own theirs
    → OpensAt owner reconnection key own theirs (draw 0) text
    (opened (grounds draw) (request_head (settings_for owner) reconnection key) text).stage
    (opened (grounds draw) (request_head (settings_for owner) reconnection key) text)
opens owner reconnection key own theirs draw text rest known same =
    let r : ReachFor owner reconnection key own theirs text = reach (request_of (settings_for owner) reconnection key) (first_message own) (second_message owner theirs) text rest same in
    opens_at owner reconnection key own theirs (draw 0) text r (opened (grounds draw) (request_head (settings_for owner) reconnection key) text)
    (opened_exactly owner reconnection key own theirs text draw known r)

pub draws : (owner : Key) (reconnection : Bool) (key own theirs : List ℕ) (draw : ℕ → List ℕ) (text rest : List ℕ) → owner.kind ≢ Tunnel
    → text ++ rest ≡ client_text owner reconnection key own theirs
    → opened (grounds draw) (request_head (settings_for owner) reconnection key) text
    ≡ opened (grounds (λ n. draw 0)) (request_head (settings_for owner) reconnection key) text
draws owner reconnection key own theirs draw text rest known same =
    let r : ReachFor owner reconnection key own theirs text = reach (request_of (settings_for owner) reconnection key) (first_message own) (second_message owner theirs) text rest same in
    opened_exactly owner reconnection key own theirs text draw known r ∙ sym (opened_exactly owner reconnection key own theirs text (λ n. draw 0) known r)
