-- The messages that an endpoint hands up stand at the heard places of its frames.
use Rattle.std.proofs.Common.{◌≡◌, ℕ, suc, ◌≤◌, Bool, true, false, cond, not, ◌&&◌, ◌||◌, eqb, ltb, Some, List, [], ◌∷◌, ◌++◌, length, refl, ap, sym, ◌∙◌, subst, arith, append_assoc, length-append, inl, inr}
use Rattle.std.specs.Prelude.{slice_get}
use Rattle.std.proofs.lemmas.Bool.{cond_both, cases_lt, cases_Bool, eqb-true, ne_eqb, false≢true, cond-true, cond-false}
use Rattle.std.proofs.lemmas.List.{append-nil}
use Rattle.std.proofs.lemmas.Option.{same_Some}
use Rattle.ra_model.specs.declared.frame.Frame.{Frame}
use Rattle.ra_model.specs.declared.session.Up.{Up as Delivery}
use Rattle.ra_model.specs.declared.session.Up.TheVariants.{Message, Quiet}
use Rattle.ra_model.specs.FrameKinds.{FrameKind, frame_kind}
use Rattle.ra_model.specs.FrameKinds.FrameKind.{Regular, Control, Disconnect, ReplayRequest, Pause, Resume, Other}
use Rattle.ra_model.specs.Endpoints.{Endpoint, is_ended, owed}
use Rattle.ra_model.specs.Calls.{rewritten}
use Rattle.ra_model.specs.Taking.{passed, on_frame, delivery_of}
use Rattle.ra_model.specs.Timing.{asked_lately}
use Rattle.ra_model.proofs.Numbers.{get_within}
use Rattle.ra_model.specs.HeardPlaces.{is_message, before_disconnect, IsAbsent, AreFirsts, AreHeardPlaces, applied, deliveries, message_places}

-- types and kinds
is_regular : FrameKind → Bool
is_regular Regular = true
is_regular Control = false
is_regular Disconnect = false
is_regular ReplayRequest = false
is_regular Pause = false
is_regular Resume = false
is_regular Other = false

is_disconnect : FrameKind → Bool
is_disconnect Regular = false
is_disconnect Control = false
is_disconnect Disconnect = true
is_disconnect ReplayRequest = false
is_disconnect Pause = false
is_disconnect Resume = false
is_disconnect Other = false

regular_type : (n : ℕ) → is_regular (frame_kind n) ≡ eqb n 1
unfolding is_regular
regular_type n =
    cond_both (eqb n 1) _ _ (λ (k : FrameKind). is_regular k ≡ eqb n 1) (λ yes. sym yes)
    (λ other. cond_both (eqb n 2) _ _ (λ (k : FrameKind). is_regular k ≡ false) (λ _. refl)
    (λ _. cond_both (eqb n 5) _ _ (λ (k : FrameKind). is_regular k ≡ false) (λ _. refl)
    (λ _. cond_both (eqb n 6) _ _ (λ (k : FrameKind). is_regular k ≡ false) (λ _. refl)
    (λ _. cond_both (eqb n 7) _ _ (λ (k : FrameKind). is_regular k ≡ false) (λ _. refl)
    (λ _. cond_both (eqb n 8) _ _ (λ (k : FrameKind). is_regular k ≡ false) (λ _. refl) (λ _. refl))))) ∙ sym other)

differs : (n m k : ℕ) → eqb n m ≡ true → (m ≡ k → ⊥) → false ≡ eqb n k
differs n m k is other = let e : n ≡ m = eqb-true n m is in sym (ne_eqb n k (λ x. other (sym e ∙ x)))

disconnect_type : (n : ℕ) → is_disconnect (frame_kind n) ≡ eqb n 5
unfolding is_disconnect
disconnect_type n =
    cond_both (eqb n 1) _ _ (λ (k : FrameKind). is_disconnect k ≡ eqb n 5) (λ yes. differs n 1 5 yes (λ e. omega arith))
    (λ _. cond_both (eqb n 2) _ _ (λ (k : FrameKind). is_disconnect k ≡ eqb n 5) (λ yes. differs n 2 5 yes (λ e. omega arith))
    (λ _. cond_both (eqb n 5) _ _ (λ (k : FrameKind). is_disconnect k ≡ eqb n 5) (λ yes. sym yes)
    (λ other. cond_both (eqb n 6) _ _ (λ (k : FrameKind). is_disconnect k ≡ false) (λ _. refl)
    (λ _. cond_both (eqb n 7) _ _ (λ (k : FrameKind). is_disconnect k ≡ false) (λ _. refl)
    (λ _. cond_both (eqb n 8) _ _ (λ (k : FrameKind). is_disconnect k ≡ false) (λ _. refl) (λ _. refl))) ∙ sym other)))

-- the frame is the next message
is_next : FrameKind → Frame → ℕ → Bool
is_next kind f last = is_regular kind && eqb f.id (suc last)

next_received : (b : Bool) (x y : Endpoint) (last : ℕ) → x.received ≡ suc last → y.received ≡ last → (cond b x y).received ≡ cond b (suc last) last
next_received true x y last a c = a
next_received false x y last a c = c

received_on : (kind : FrameKind) (f : Frame) (now : ℕ) (e : Endpoint) → (on_frame kind f now e).received ≡ cond (is_next kind f e.received) (suc e.received) e.received
unfolding is_next is_regular owed rewritten
received_on Regular f now e =
    next_received (eqb f.id (suc e.received)) _ _ e.received refl
    (cond_both (ltb (suc e.received) f.id && not (asked_lately now e.timing)) _ _ (λ (x : Endpoint). x.received ≡ e.received) (λ yes. refl) (λ no. refl))
received_on Control f now e = refl
received_on Disconnect f now e = refl
received_on ReplayRequest f now e = refl
received_on Pause f now e = refl
received_on Resume f now e = refl
received_on Other f now e = refl

ended_on : (kind : FrameKind) (f : Frame) (now : ℕ) (e : Endpoint) → is_ended (on_frame kind f now e).phase ≡ (is_disconnect kind || is_ended e.phase)
unfolding is_disconnect owed rewritten
ended_on Regular f now e =
    cond_both (eqb f.id (suc e.received)) _ _ (λ (x : Endpoint). is_ended x.phase ≡ is_ended e.phase) (λ yes. refl)
    (λ no. cond_both (ltb (suc e.received) f.id && not (asked_lately now e.timing)) _ _ (λ (x : Endpoint). is_ended x.phase ≡ is_ended e.phase) (λ yes. refl) (λ _. refl))
ended_on Control f now e = refl
ended_on Disconnect f now e = refl
ended_on ReplayRequest f now e = refl
ended_on Pause f now e = refl
ended_on Resume f now e = refl
ended_on Other f now e = refl

next_place : (b : Bool) (place id : ℕ) (body : List ℕ) (rest : List Delivery) → message_places place (cond b (Message id body) Quiet ∷ rest) ≡ cond b (place ∷ message_places (suc place) rest) (message_places (suc place) rest)
next_place true place id body rest = refl
next_place false place id body rest = refl

place_of : (kind : FrameKind) (f : Frame) (e : Endpoint) (place : ℕ) (rest : List Delivery)
    → message_places place (delivery_of kind f e ∷ rest) ≡ cond (is_next kind f e.received) (place ∷ message_places (suc place) rest) (message_places (suc place) rest)
unfolding is_next is_regular
place_of Regular f e place rest = next_place (eqb f.id (suc e.received)) place f.id f.body rest
place_of Control f e place rest = refl
place_of Disconnect f e place rest = refl
place_of ReplayRequest f e place rest = refl
place_of Pause f e place rest = refl
place_of Resume f e place rest = refl
place_of Other f e place rest = refl

none_after : (now : ℕ) (frames : List Frame) (e : Endpoint) → is_ended e.phase ≡ true → deliveries now frames e ≡ []
none_after now [] e ended = refl
none_after now (f ∷ fs) e ended = cond-true _ _ _ ended

absent_more : (frames : List Frame) (id start stop : ℕ) (f : Frame) → IsAbsent frames id start stop → slice_get frames stop ≡ Some f → is_message id f ≡ false → IsAbsent frames id start (suc stop)
absent_more frames id start stop f before here other k g low high at =
    elim (cases_lt k stop) [
      | inl less ↦ before k g low less at
      | inr past ↦
          let same : k ≡ stop = omega arith in
          subst (λ (x : Frame). is_message id x ≡ false) (same_Some f g (sym here ∙ subst (λ (n : ℕ). slice_get frames n ≡ Some g) same at)) other
    ]

at_seam : (xs : List Frame) (f : Frame) (ys : List Frame) → slice_get (xs ++ f ∷ ys) (length xs) ≡ Some f
at_seam [] f ys = refl
at_seam (x ∷ xs) f ys = at_seam xs f ys

not_regular : (kind : FrameKind) → is_disconnect kind ≡ true → is_regular kind ≡ false
unfolding is_disconnect is_regular
not_regular Regular h = cc
not_regular Control h = refl
not_regular Disconnect h = refl
not_regular ReplayRequest h = refl
not_regular Pause h = refl
not_regular Resume h = refl
not_regular Other h = refl

-- what stands behind the frames that are done
places_from : (all : List Frame) (now : ℕ) (frames done : List Frame) (place : ℕ) (e : Endpoint) (last start : ℕ) → all ≡ done ++ before_disconnect frames → place ≡ length done → is_ended e.phase ≡ false → last ≡ e.received
    → start ≤ place → IsAbsent all (suc last) start place → AreFirsts all last start (message_places place (deliveries now frames e))
unfolding is_next
places_from all now [] done place e last start whole here going same low absent =
    subst (λ (n : ℕ). IsAbsent all (suc last) start n) (here ∙ sym (ap length (whole ∙ append-nil done))) absent
places_from all now (f ∷ fs) done place e last start whole here going same low absent =
    let kind : FrameKind = frame_kind f.kind in
    let after : Endpoint = applied now f e in
    let rest : List Delivery = deliveries now fs after in
    let given : message_places place (deliveries now (f ∷ fs) e) ≡ cond (is_next kind f e.received) (place ∷ message_places (suc place) rest) (message_places (suc place) rest) =
    ap (λ (ds : List Delivery). message_places place ds) (cond-false _ _ _ going) ∙ place_of kind f e place rest in
    let ends : is_ended after.phase ≡ (is_disconnect kind || is_ended e.phase) = ended_on kind f now (passed f e.unread now e) in
    subst (λ (ps : List ℕ). AreFirsts all last start ps) (sym given)
    (elim (cases_Bool (eqb f.kind 5)) [
      | inl is_end ↦
          let disconnect : is_disconnect kind ≡ true = disconnect_type f.kind ∙ is_end in
          let over : rest ≡ [] = none_after now fs after (ends ∙ ap (λ (b : Bool). b || is_ended e.phase) disconnect) in
          let none : is_next kind f e.received ≡ false = ap (λ (b : Bool). b && eqb f.id (suc e.received)) (not_regular kind disconnect) in
          let nothing : cond (is_next kind f e.received) (place ∷ message_places (suc place) rest) (message_places (suc place) rest) ≡ [] =
          cond-false _ _ _ none ∙ ap (λ (ds : List Delivery). message_places (suc place) ds) over in
          let size : length all ≡ place = ap length (whole ∙ ap (λ (fs : List Frame). done ++ fs) (cond-true _ _ _ is_end) ∙ append-nil done) ∙ sym here in
          subst (λ (ps : List ℕ). AreFirsts all last start ps) (sym nothing) (subst (λ (n : ℕ). IsAbsent all (suc last) start n) (sym size) absent)
      | inr not_end ↦
          let goes : is_ended after.phase ≡ false = ends ∙ ap (λ (b : Bool). b || is_ended e.phase) (disconnect_type f.kind ∙ not_end) ∙ going in
          let split : all ≡ done ++ f ∷ before_disconnect fs = whole ∙ ap (λ (fs : List Frame). done ++ fs) (cond-false _ _ _ not_end) in
          let there : slice_get all place ≡ Some f = subst (λ (xs : List Frame). slice_get xs place ≡ Some f) (sym split) (subst (λ (n : ℕ). slice_get (done ++ f ∷ before_disconnect fs) n ≡ Some f) (sym here) (at_seam done f (before_disconnect fs))) in
          let behind : all ≡ (done ++ f ∷ []) ++ before_disconnect fs = split ∙ sym (append_assoc done (f ∷ []) (before_disconnect fs)) in
          let further : suc place ≡ length (done ++ f ∷ []) = omega (arith, length-append done (f ∷ [])) in
          let received : after.received ≡ cond (is_next kind f e.received) (suc e.received) e.received = received_on kind f now (passed f e.unread now e) in
          let message : is_message (suc last) f ≡ is_next kind f e.received =
          ap (λ (b : Bool). b && eqb f.id (suc last)) (sym (regular_type f.kind)) ∙ ap (λ (n : ℕ). is_regular kind && eqb f.id (suc n)) same in
          elim (cases_Bool (is_next kind f e.received)) [
            | inl next ↦
                subst (λ (ps : List ℕ). AreFirsts all last start ps) (sym (cond-true _ _ _ next)) (
                  record { behind = low; frame = f; there = there; is_it = message ∙ next; none_before = absent },
                  places_from all now fs (done ++ f ∷ []) (suc place) after (suc last) (suc place) behind further goes (ap suc same ∙ sym (received ∙ cond-true _ _ _ next)) (omega arith) (λ k g a b at. absurd (omega arith)),
                )
            | inr other ↦
                subst (λ (ps : List ℕ). AreFirsts all last start ps) (sym (cond-false _ _ _ other))
                (places_from all now fs (done ++ f ∷ []) (suc place) after last start behind further goes (same ∙ sym (received ∙ cond-false _ _ _ other)) (omega arith)
                (absent_more all (suc last) start place f absent there (message ∙ other)))
          ]
    ])

pub heard_places : (now : ℕ) (frames : List Frame) (e : Endpoint) → is_ended e.phase ≡ false → AreHeardPlaces frames e.received (message_places 0 (deliveries now frames e))
heard_places now frames e going = places_from (before_disconnect frames) now frames [] 0 e e.received 0 refl refl going refl (omega arith) (λ k g a b at. absurd (omega arith))

-- the heard places of frames are fixed
firsts_unique : (frames : List Frame) (ps qs : List ℕ) (last start : ℕ) → AreFirsts frames last start ps → AreFirsts frames last start qs → ps ≡ qs
firsts_unique frames [] [] last start a b = refl
firsts_unique frames [] (q ∷ qs) last start a b = absurd (false≢true (sym (a q b.0.frame b.0.behind (get_within frames q b.0.frame b.0.there) b.0.there) ∙ b.0.is_it))
firsts_unique frames (p ∷ ps) [] last start a b = absurd (false≢true (sym (b p a.0.frame a.0.behind (get_within frames p a.0.frame a.0.there) a.0.there) ∙ a.0.is_it))
firsts_unique frames (p ∷ ps) (q ∷ qs) last start a b =
    elim (cases_lt p q) [
      | inl less ↦ absurd (false≢true (sym (b.0.none_before p a.0.frame a.0.behind less a.0.there) ∙ a.0.is_it))
      | inr least ↦ elim (cases_lt q p) [
        | inl more ↦ absurd (false≢true (sym (a.0.none_before q b.0.frame b.0.behind more b.0.there) ∙ b.0.is_it))
        | inr most ↦
            let same : q ≡ p = omega arith in
            let rest : AreFirsts frames (suc last) (suc p) qs = subst (λ (n : ℕ). AreFirsts frames (suc last) (suc n) qs) same b.1 in
            λ i. sym same i ∷ firsts_unique frames ps qs (suc last) (suc p) a.1 rest i
      ]
    ]

pub heard_places_unique : (frames : List Frame) (last : ℕ) (ps qs : List ℕ) → AreHeardPlaces frames last ps → AreHeardPlaces frames last qs → ps ≡ qs
heard_places_unique frames last ps qs a b = firsts_unique (before_disconnect frames) ps qs last 0 a b
