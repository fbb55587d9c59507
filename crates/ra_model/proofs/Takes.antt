-- A frame is applied.
use Rattle.std.proofs.Common.{◌≡◌, ℕ, suc, ◌+◌, ◌-◌, ◌<◌, ◌≤◌, min, max, Bool, true, false, cond, not, ◌&&◌, eqb, ltb, Option, Some, None, List, [], ◌∷◌, ◌++◌, length, refl, ap, sym, ◌∙◌, subst, arith, append_assoc}
use Rattle.std.specs.Prelude.{slice_get, option_map}
use Rattle.std.proofs.lemmas.Bool.{cond_both, eqb-true}
use Rattle.std.proofs.lemmas.List.{length-append}
use Rattle.ra_model.specs.FrameKinds.{FrameKind, frame_kind}
use Rattle.ra_model.specs.FirstFrame.{first_frame}
use Rattle.ra_model.specs.Frames.{last_id, number_bound}
use Rattle.ra_model.specs.declared.frame.Frame.{Frame}
use Rattle.ra_model.specs.FrameKinds.FrameKind.{Regular, Control, Disconnect, ReplayRequest, Pause, Resume, Other}
use Rattle.ra_model.specs.Endpoints.{Endpoint, is_linked, sent, owed}
use Rattle.ra_model.specs.Calls.{rewritten, moment}
use Rattle.ra_model.specs.Taking.{next_frame, passed, took, on_frame, take_frame, delivery_of, delivery}
use Rattle.ra_model.specs.declared.session.Up.TheVariants.{Message, Quiet}
use Rattle.ra_model.specs.Timing.{asked_lately}
use Rattle.ra_model.specs.Links.{other, Link, at_number}
use Rattle.ra_model.specs.Worlds.{Peer}
use Rattle.ra_model.specs.Events.{heard_with, applied_with, taken}
use Rattle.ra_base.specs.declared.event.Side.{Side}
use Rattle.ra_model.specs.Pairs.{messages, with_id, IsHonest}
use Rattle.ra_model.proofs.Incoming.{incoming_lost, incoming_took, next_is_honest}
use Rattle.ra_model.proofs.Away.{away_came}
use Rattle.ra_model.proofs.Calls.{outgoing_came, messages_rewritten}
use Rattle.ra_model.specs.Views.{Agrees, EndpointRead, View}

cond_parts : {X : Type 0} → (b : Bool) (o : Option X) (x : X) → cond b o None ≡ Some x → (b ≡ true) × (o ≡ Some x)
cond_parts true o x h = (refl, h)
cond_parts false o x h = cc

incoming_came : (to : Side) (n : ℕ) (kind : FrameKind) (f : Frame) (now : ℕ) (e : Endpoint) (applied : List Frame) (links : List Link) → EndpointRead to n e applied links → EndpointRead to n (on_frame kind f now e) applied links
unfolding owed rewritten
incoming_came to n Regular f now e applied links c =
    cond_both (eqb f.id (suc e.received)) _ _ (λ (x : Endpoint). EndpointRead to n x applied links) (λ yes. c)
    (λ no. cond_both (ltb (suc e.received) f.id && not (asked_lately now e.timing)) _ _ (λ (x : Endpoint). EndpointRead to n x applied links) (λ yes. c) (λ _. c))
incoming_came to n Control f now e applied links c = c
incoming_came to n Disconnect f now e applied links c = incoming_lost c [] applied c.frames
incoming_came to n ReplayRequest f now e applied links c = c
incoming_came to n Pause f now e applied links c = c
incoming_came to n Resume f now e applied links c = c
incoming_came to n Other f now e applied links c = c

-- what is known of an endpoint when a frame came
pub messages_came : (kind : FrameKind) (f : Frame) (now : ℕ) (e : Endpoint) → messages (on_frame kind f now e) ≡ messages e
unfolding owed
messages_came Regular f now e =
    cond_both (eqb f.id (suc e.received)) _ _ (λ (x : Endpoint). messages x ≡ messages e) (λ yes. refl)
    (λ no. cond_both (ltb (suc e.received) f.id && not (asked_lately now e.timing)) _ _ (λ (x : Endpoint). messages x ≡ messages e) (λ yes. refl) (λ _. refl))
messages_came Control f now e = refl
messages_came Disconnect f now e = refl
messages_came ReplayRequest f now e = messages_rewritten now e
messages_came Pause f now e = refl
messages_came Resume f now e = refl
messages_came Other f now e = refl

pub acknowledged_came : (kind : FrameKind) (f : Frame) (now : ℕ) (e : Endpoint) → (on_frame kind f now e).acknowledged ≡ e.acknowledged
unfolding owed rewritten
acknowledged_came Regular f now e =
    cond_both (eqb f.id (suc e.received)) _ _ (λ (x : Endpoint). x.acknowledged ≡ e.acknowledged) (λ yes. refl)
    (λ no. cond_both (ltb (suc e.received) f.id && not (asked_lately now e.timing)) _ _ (λ (x : Endpoint). x.acknowledged ≡ e.acknowledged) (λ yes. refl) (λ _. refl))
acknowledged_came Control f now e = refl
acknowledged_came Disconnect f now e = refl
acknowledged_came ReplayRequest f now e = refl
acknowledged_came Pause f now e = refl
acknowledged_came Resume f now e = refl
acknowledged_came Other f now e = refl

pub base_came : (kind : FrameKind) (f : Frame) (now : ℕ) (e : Endpoint) → (on_frame kind f now e).base ≡ e.base
unfolding owed rewritten
base_came Regular f now e =
    cond_both (eqb f.id (suc e.received)) _ _ (λ (x : Endpoint). x.base ≡ e.base) (λ yes. refl)
    (λ no. cond_both (ltb (suc e.received) f.id && not (asked_lately now e.timing)) _ _ (λ (x : Endpoint). x.base ≡ e.base) (λ yes. refl) (λ _. refl))
base_came Control f now e = refl
base_came Disconnect f now e = refl
base_came ReplayRequest f now e = refl
base_came Pause f now e = refl
base_came Resume f now e = refl
base_came Other f now e = refl

epoch_came : (kind : FrameKind) (f : Frame) (now : ℕ) (e : Endpoint) → (on_frame kind f now e).epoch ≡ e.epoch
unfolding owed rewritten
epoch_came Regular f now e =
    cond_both (eqb f.id (suc e.received)) _ _ (λ (x : Endpoint). x.epoch ≡ e.epoch) (λ yes. refl)
    (λ no. cond_both (ltb (suc e.received) f.id && not (asked_lately now e.timing)) _ _ (λ (x : Endpoint). x.epoch ≡ e.epoch) (λ yes. refl) (λ _. refl))
epoch_came Control f now e = refl
epoch_came Disconnect f now e = refl
epoch_came ReplayRequest f now e = refl
epoch_came Pause f now e = refl
epoch_came Resume f now e = refl
epoch_came Other f now e = refl

at_length : (heard rest : List (List ℕ)) (body : List ℕ) → slice_get (heard ++ rest) (length heard) ≡ Some body → (others : List (List ℕ)) × (rest ≡ body ∷ others)
at_length [] [] body h = cc
at_length [] (x ∷ rest) body h = (rest, cc)
at_length (y ∷ heard) rest body h = at_length heard rest body h

-- the next message is handed up
agrees_next : (start : ℕ) (said : List (List ℕ)) (acknowledged : ℕ) (heard : List (List ℕ)) (received : ℕ) (body : List ℕ) → Agrees start said acknowledged heard received → with_id start said (suc received) ≡ Some body
    → Agrees start said acknowledged (heard ++ body ∷ []) (suc received)
agrees_next start said acknowledged heard received body h at =
    let place : suc received - start ≡ suc (length heard) = omega (arith, h.count) in
    let there : slice_get (heard ++ h.prefix.0) (length heard) ≡ Some body =
    subst (λ (t : List (List ℕ)). slice_get t (length heard) ≡ Some body) (sym h.prefix.1) (subst (λ (n : ℕ). at_number said n ≡ Some body) place at) in
    let next = at_length heard h.prefix.0 body there in
    let longer : length (heard ++ body ∷ []) ≡ length heard + 1 = length-append heard (body ∷ []) in
    let count : received ≡ start + length heard = h.count in
    let acked : acknowledged ≤ start + length heard = h.acked in
    record {
      prefix = (next.0, append_assoc heard (body ∷ []) next.0 ∙ ap (λ (t : List (List ℕ)). heard ++ t) (sym next.1) ∙ h.prefix.1);
      count = omega arith;
      acked = omega arith;
      low = h.low;
    }

-- whether it is the next message
back_regular : (start : ℕ) (said : List (List ℕ)) (acknowledged : ℕ) (heard : List (List ℕ)) (received : ℕ) (f : Frame) (b : Bool) (x y : Endpoint) → Agrees start said acknowledged heard received
    → eqb f.id (suc received) ≡ b → with_id start said f.id ≡ Some f.body → x.received ≡ suc received → y.received ≡ received
    → Agrees start said acknowledged (heard_with (Some (cond b (Message f.id f.body) Quiet)) heard) (cond b x y).received
back_regular start said acknowledged heard received f true x y h is message more same =
    let next : f.id ≡ suc received = eqb-true f.id (suc received) is in
    subst (λ (n : ℕ). Agrees start said acknowledged (heard ++ f.body ∷ []) n) (sym more)
    (agrees_next start said acknowledged heard received f.body h (subst (λ (n : ℕ). with_id start said n ≡ Some f.body) next message))
back_regular start said acknowledged heard received f false x y h is message more same = subst (λ (n : ℕ). Agrees start said acknowledged heard n) (sym same) h

back_came : (start : ℕ) (said : List (List ℕ)) (acknowledged : ℕ) (heard : List (List ℕ)) (kind : FrameKind) (f : Frame) (rest : List ℕ) (now : ℕ) (e : Endpoint) → Agrees start said acknowledged heard e.received
    → (kind ≡ Regular → with_id start said f.id ≡ Some f.body) → Agrees start said acknowledged (heard_with (Some (delivery_of kind f e)) heard) (on_frame kind f now (passed f rest now e)).received
unfolding owed rewritten
back_came start said acknowledged heard Regular f rest now e h message =
    back_regular start said acknowledged heard e.received f (eqb f.id (suc e.received)) _ _ h refl (message refl) refl
    (cond_both (ltb (suc e.received) f.id && not (asked_lately now (passed f rest now e).timing)) _ _ (λ (x : Endpoint). x.received ≡ e.received) (λ yes. refl) (λ no. refl))
back_came start said acknowledged heard Control f rest now e h message = h
back_came start said acknowledged heard Disconnect f rest now e h message = h
back_came start said acknowledged heard ReplayRequest f rest now e h message = h
back_came start said acknowledged heard Pause f rest now e h message = h
back_came start said acknowledged heard Resume f rest now e h message = h
back_came start said acknowledged heard Other f rest now e h message = h

id_fits : (wide : Bool) (id : ℕ) → id < number_bound wide → id ≤ last_id
id_fits true id fits = omega arith
id_fits false id fits = omega arith

view_took : (start : ℕ) (s : Side) (i j : ℕ) (p o : Peer) (links : List Link) (f : Frame) (rest : List ℕ) (now : ℕ) → View start s i j p o links → is_linked p.endpoint.phase ≡ true → first_frame p.endpoint.unread ≡ Some (f, rest)
    → View start s i j (record { endpoint = on_frame (frame_kind f.kind) f now (passed f rest now p.endpoint); heard = heard_with (Some (delivery_of (frame_kind f.kind) f p.endpoint)) p.heard; applied = p.applied ++ f ∷ [] }) o links
view_took start s i j p o links f rest now v up is =
    let known = next_is_honest v.reads v.theirs up f rest is in
    let honest : IsHonest o.endpoint.base (messages o.endpoint) o.endpoint.received f = known.0 in
    let e : Endpoint = passed f rest now p.endpoint in
    let id : f.id ≤ last_id = id_fits f.wide f.id honest.fits.id in
    let room : frame_kind f.kind ≡ Regular → f.id ≡ suc e.received → suc e.received ≤ last_id = λ _ next. subst (λ (n : ℕ). n ≤ last_id) next id in
    let passed_on : EndpointRead s i e (p.applied ++ f ∷ []) links = incoming_took v.reads f rest honest.fits known.1 in
    let ack : f.ack ≤ o.endpoint.received = honest.ack in
    let count : o.endpoint.received ≡ start + length o.heard = v.out.count in
    let before : p.endpoint.acknowledged ≤ start + length o.heard = v.out.acked in
    let low : start ≤ p.endpoint.acknowledged = v.out.low in
    let acked : max p.endpoint.acknowledged (min f.ack (sent p.endpoint)) ≤ start + length o.heard = omega arith in
    let above : start ≤ max p.endpoint.acknowledged (min f.ack (sent p.endpoint)) = omega arith in
    let here : p.endpoint.base ≤ max p.endpoint.acknowledged (min f.ack (sent p.endpoint)) = subst (λ (n : ℕ). n ≤ max p.endpoint.acknowledged (min f.ack (sent p.endpoint))) (sym v.base) above in
    let message : frame_kind f.kind ≡ Regular → with_id start (messages o.endpoint) f.id ≡ Some f.body =
    subst (λ (n : ℕ). frame_kind f.kind ≡ Regular → with_id n (messages o.endpoint) f.id ≡ Some f.body) v.their_base honest.message in
    record {
      base = base_came (frame_kind f.kind) f now e ∙ v.base;
      their_base = v.their_base;
      away = away_came (frame_kind f.kind) f now e up;
      their_away = v.their_away;
      mine = outgoing_came (other s) i e links (frame_kind f.kind) f now v.mine here up room;
      reads = incoming_came s i (frame_kind f.kind) f now e (p.applied ++ f ∷ []) links passed_on;
      theirs = v.theirs;
      their_reads = v.their_reads;
      out = record {
        prefix = (v.out.prefix.0, v.out.prefix.1 ∙ sym (messages_came (frame_kind f.kind) f now e));
        count = v.out.count;
        acked = subst (λ (n : ℕ). n ≤ start + length o.heard) (sym (acknowledged_came (frame_kind f.kind) f now e)) acked;
        low = subst (λ (n : ℕ). start ≤ n) (sym (acknowledged_came (frame_kind f.kind) f now e)) above;
      };
      back = back_came start (messages o.endpoint) o.endpoint.acknowledged p.heard (frame_kind f.kind) f rest now p.endpoint v.back message;
    }

view_next : (start : ℕ) (s : Side) (i j : ℕ) (p o : Peer) (links : List Link) (now : ℕ) (next : Option (Frame × List ℕ)) → View start s i j p o links → next_frame p.endpoint ≡ next
    → View start s i j (record { endpoint = took next now p.endpoint; heard = heard_with (option_map (λ (x : Frame × List ℕ). delivery_of (frame_kind x.0.kind) x.0 p.endpoint) next) p.heard; applied = applied_with next p.applied }) o links
view_next start s i j p o links now None v is = v
view_next start s i j p o links now (Some next) v is =
    let parts = cond_parts (is_linked p.endpoint.phase) (first_frame p.endpoint.unread) next is in
    view_took start s i j p o links next.0 next.1 now v parts.0 parts.1

-- the next frame is honest
pub next_honest : (start : ℕ) (s : Side) (i j : ℕ) (p o : Peer) (links : List Link) (f : Frame) (rest : List ℕ) → View start s i j p o links → next_frame p.endpoint ≡ Some (f, rest) → IsHonest start (messages o.endpoint) (start + length o.heard) f
next_honest start s i j p o links f rest v is =
    let parts = cond_parts (is_linked p.endpoint.phase) (first_frame p.endpoint.unread) (f, rest) is in
    let known = next_is_honest v.reads v.theirs parts.0 f rest parts.1 in
    subst (λ (n : ℕ). IsHonest start (messages o.endpoint) n f) v.out.count (subst (λ (n : ℕ). IsHonest n (messages o.endpoint) o.endpoint.received f) v.their_base known.0)

-- a frame is taken, where there is one
pub view_take : (start : ℕ) (s : Side) (i j : ℕ) (p o : Peer) (links : List Link) (now : ℕ) → View start s i j p o links → View start s i j (taken now p) o links
unfolding take_frame delivery
view_take start s i j p o links now v = view_next start s i j p o links (moment now p.endpoint) (next_frame p.endpoint) v refl

epoch_took : (next : Option (Frame × List ℕ)) (now : ℕ) (e : Endpoint) → (took next now e).epoch ≡ e.epoch
epoch_took None now e = refl
epoch_took (Some next) now e = epoch_came (frame_kind next.0.kind) next.0 now (passed next.0 next.1 now e)

pub epoch_taken : (now : ℕ) (e : Endpoint) → (take_frame now e).epoch ≡ e.epoch
unfolding take_frame
epoch_taken now e = epoch_took (next_frame e) (moment now e) e
