-- A message that is handed up in a view is the next one that the peer said.
use Rattle.std.proofs.Common.{◌≡◌, ℕ, suc, ◌+◌, ◌-◌, Bool, true, false, cond, eqb, Option, Some, None, List, length, refl, ap, sym, ◌∙◌, subst, arith}
use Rattle.std.proofs.lemmas.Bool.{eqb-true}
use Rattle.std.proofs.lemmas.List.{length-map}
use Rattle.std.specs.Prelude.{slice_get, option_map}
use Rattle.ra_base.specs.declared.event.Side.{Side}
use Rattle.ra_model.specs.declared.frame.Frame.{Frame}
use Rattle.ra_model.specs.declared.session.Up.TheVariants.{Message as HandedUp, Quiet}
use Rattle.ra_model.specs.Endpoints.{Endpoint, sent}
use Rattle.ra_model.specs.Calls.{moment}
use Rattle.ra_model.specs.FrameKinds.{FrameKind, frame_kind}
use Rattle.ra_model.specs.FrameKinds.FrameKind.{Regular, Control, Disconnect, ReplayRequest, Pause, Resume, Other}
use Rattle.ra_model.specs.Links.{Link, at_number}
use Rattle.ra_model.specs.Pairs.{body_of, messages, IsHonest}
use Rattle.ra_model.specs.Taking.{next_frame, passed, took, take_frame, delivery_of, delivery}
use Rattle.ra_model.specs.Views.{View}
use Rattle.ra_model.specs.Worlds.{Peer}
use Rattle.ra_model.proofs.Takes.{messages_came, base_came, next_honest}

-- ---- the frame

record IsNext (f : Frame) (e : Endpoint) (id : ℕ) (body : List ℕ) : Type 0 where
  kind : frame_kind f.kind ≡ Regular
  number : f.id ≡ suc e.received
  same_id : f.id ≡ id
  same_body : f.body ≡ body

next_kind : (kind : FrameKind) (f : Frame) (e : Endpoint) (id : ℕ) (body : List ℕ) → frame_kind f.kind ≡ kind → delivery_of kind f e ≡ HandedUp id body → IsNext f e id body
next_kind Regular f e id body kind is = here (eqb f.id (suc e.received)) refl is
  where
    here : (b : Bool) → eqb f.id (suc e.received) ≡ b → cond b (HandedUp f.id f.body) Quiet ≡ HandedUp id body → IsNext f e id body
    here true same is = record { kind = kind; number = eqb-true f.id (suc e.received) same; same_id = cc; same_body = cc }
    here false same is = cc
next_kind Control f e id body kind is = cc
next_kind Disconnect f e id body kind is = cc
next_kind ReplayRequest f e id body kind is = cc
next_kind Pause f e id body kind is = cc
next_kind Resume f e id body kind is = cc
next_kind Other f e id body kind is = cc

next_is : (next : Option (Frame × List ℕ)) (e : Endpoint) (id : ℕ) (body : List ℕ)
    → option_map (λ (n : Frame × List ℕ). delivery_of (frame_kind n.0.kind) n.0 e) next ≡ Some (HandedUp id body)
    → (f : Frame) × (rest : List ℕ) × (next ≡ Some (f, rest)) × IsNext f e id body
next_is None e id body is = cc
next_is (Some (f, rest)) e id body is = (f, rest, refl, next_kind (frame_kind f.kind) f e id body refl (cc))

-- the id, and the body at its place
pub next_said : (s : Side) (i j : ℕ) (p o : Peer) (links : List Link) (id : ℕ) (body : List ℕ) → View 0 s i j p o links
    → delivery p.endpoint ≡ Some (HandedUp id body) → (id ≡ suc (length p.heard)) × (slice_get (messages o.endpoint) (length p.heard) ≡ Some body)
unfolding delivery
next_said s i j p o links id body v is =
    let found = next_is (next_frame p.endpoint) p.endpoint id body is in
    let f : Frame = found.0 in
    let honest : IsHonest 0 (messages o.endpoint) (0 + length o.heard) f = next_honest 0 s i j p o links f found.1 v found.2 in
    let next : IsNext f p.endpoint id body = found.3 in
    let count : p.endpoint.received ≡ 0 + length p.heard = v.back.count in
    let number : f.id ≡ suc p.endpoint.received = next.number in
    let place : f.id - 0 ≡ suc (length p.heard) = omega arith in
    let there : at_number (messages o.endpoint) (suc (length p.heard)) ≡ Some f.body =
    subst (λ (n : ℕ). at_number (messages o.endpoint) n ≡ Some f.body) place (honest.message next.kind) in
    (sym next.same_id ∙ number ∙ (omega arith), there ∙ ap (λ (b : List ℕ). Some b) next.same_body)

-- ---- what taking a frame leaves

pub taken_said : (now : ℕ) (e : Endpoint) → messages (take_frame now e) ≡ messages e
unfolding take_frame
taken_said now e = here (next_frame e) (moment now e)
  where
    here : (next : Option (Frame × List ℕ)) (now : ℕ) → messages (took next now e) ≡ messages e
    here None now = refl
    here (Some next) now = messages_came (frame_kind next.0.kind) next.0 now (passed next.0 next.1 now e)

taken_base : (now : ℕ) (e : Endpoint) → (take_frame now e).base ≡ e.base
unfolding take_frame
taken_base now e = here (next_frame e) (moment now e)
  where
    here : (next : Option (Frame × List ℕ)) (now : ℕ) → (took next now e).base ≡ e.base
    here None now = refl
    here (Some next) now = base_came (frame_kind next.0.kind) next.0 now (passed next.0 next.1 now e)

pub taken_sent : (now : ℕ) (e : Endpoint) → sent (take_frame now e) ≡ sent e
taken_sent now e =
    let size : length (messages (take_frame now e)) ≡ length (messages e) = ap (λ (t : List (List ℕ)). length t) (taken_said now e) in
    omega (arith, taken_base now e, size, length-map e.said body_of, length-map (take_frame now e).said body_of)
