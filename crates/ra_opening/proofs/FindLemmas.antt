-- What the next frame of a handshake comes to.
use Rattle.std.proofs.Common.{◌≡◌, ℕ, ◌+◌, ◌<◌, ◌≤◌, Bool, true, false, cond, eqb, Some, Err, List, [], ◌∷◌, ◌++◌, length, refl, sym, ap, subst, ◌∙◌, arith, rules}
use Rattle.ra_frame.specs.declared.reader.FrameFault.{FrameFault}
use Rattle.ra_frame.specs.declared.reader.FrameFault.TheVariants as frame_faults
use Rattle.ra_model.specs.declared.frame.Frame.{Frame}
use Rattle.ra_model.specs.FirstFrame.{first_frame}
use Rattle.ra_model.specs.FrameKinds.{FrameKind, frame_kind}
use Rattle.ra_model.specs.FrameKinds.FrameKind.{Regular, Control, Disconnect, ReplayRequest, Pause, Resume, Other}
use Rattle.ra_model.proofs.CuttingLemmas.{found_shorter, frame_bytes_some}
use Rattle.ra_upgrade.specs.declared.request_head.HeadFault.{HeadFault}
use Rattle.ra_upgrade.specs.declared.request_head.Upgrade.{Upgrade}
use Rattle.ra_items.specs.Heads.{Head}
use Rattle.ra_items.specs.Items.{Placed, items}
use Rattle.ra_items.specs.Items.Item.{FrameItem, TooLong}
use Rattle.ra_items.specs.Readers.{Reader, HasRead, items_ahead}
use Rattle.ra_shake.specs.States.{ServerState}
use Rattle.ra_opening.specs.declared.ends.OpeningEnd.TheVariants as ends
use Rattle.ra_opening.specs.Openings.{Grounds, Opened, new_opened, frame_came, items_done, opened}
use Rattle.ra_opening.specs.Openings.Stage.{Shaking, Over}
use Rattle.ra_opening.specs.Stands.{Tells, IsShaking, IsWaiting}
use Rattle.ra_opening.specs.Comes.{IsOver, RanShort, HasControl, PassesOver, Finds, found_of}
use Rattle.ra_items.specs.Reads.{ReadsFrame}
use Rattle.ra_opening.proofs.RunLemmas.{opened_is, opened_by, item_more, still_over, read_part}

-- the state told of another run that is equal
pub tells_of : (g : Grounds) (before : List ℕ) (next : ℕ → List ℕ) (out : List ℕ) (s t : Opened) → t ≡ s → Tells g before next out s → Tells g before next out t
tells_of g before next out s t same tells = subst (λ (u : Opened). Tells g before next out u) (sym same) tells

-- no frame is whole
pub find_waits : (g : Grounds) (head : Head Upgrade HeadFault) (text before : List ℕ) (next : ℕ → List ℕ) (old new : Reader) (shake : ServerState) (out : List ℕ)
    → IsShaking g head text before next old shake out → new.behind_head ≡ true
    → ((done : List (Placed Upgrade HeadFault)) (at : ℕ) → HasRead head text done at old → HasRead head text done at new × (items head text ≡ done))
    → IsWaiting g head text before next new shake out
find_waits g head text before next old new shake out x behind told =
    let read = told x.done x.at x.read in
    record {
      shaking = record { done = x.done; at = x.at; read = read.0; behind = behind; stage = x.stage; tells = x.tells };
      all = read.1;
    }

-- a header states too long a body
pub find_long : (g : Grounds) (head : Head Upgrade HeadFault) (text before : List ℕ) (next : ℕ → List ℕ) (old : Reader) (shake : ServerState) (out : List ℕ) (n : ℕ)
    → IsShaking g head text before next old shake out
    → ((done : List (Placed Upgrade HeadFault)) (at : ℕ) → HasRead head text done at old → items head text ≡ done ++ record { item = TooLong n; place = at } ∷ [])
    → IsOver g head text before next (ends.TooLong n) out
find_long g head text before next old shake out n x told =
    let p : Placed Upgrade HeadFault = record { item = TooLong n; place = x.at } in
    let s : Opened = items_done g x.done new_opened in
    let is : opened g head text ≡ record { stage = Over (ends.TooLong n); out = s.out; drawn = s.drawn } =
    opened_is g head text (x.done ++ p ∷ []) (told x.done x.at x.read) ∙ item_more g x.done p (Shaking shake) x.stage in
    record {
      stage = ap (λ (t : Opened). t.stage) is;
      tells = record { written = ap (λ (t : Opened). t.out) is ∙ x.tells.written; draws = λ k. x.tells.draws k ∙ ap (λ (t : Opened). g.draw (t.drawn + k)) (sym is) };
    }

-- memory ran out before anything was done
pub find_memory : (g : Grounds) (head : Head Upgrade HeadFault) (text before : List ℕ) (next : ℕ → List ℕ) (old : Reader) (shake : ServerState) (out : List ℕ)
    → IsShaking g head text before next old shake out → RanShort g head text before next out
find_memory g head text before next old shake out x =
    record { part = items_done g x.done new_opened; is_part = read_part g head text x.done x.at old x.read; tells = x.tells }

-- what a frame is read as
abbrev pub ReadsOne : Head Upgrade HeadFault → List ℕ → Reader → Reader → Frame → Type 0
ReadsOne head text old new f = (done : List (Placed Upgrade HeadFault)) (at : ℕ) → HasRead head text done at old
    → (n : ℕ) × HasRead head text (done ++ record { item = FrameItem f; place = n } ∷ []) n new

-- a control frame
pub find_control : (g : Grounds) (head : Head Upgrade HeadFault) (text before : List ℕ) (next : ℕ → List ℕ) (old new : Reader) (shake : ServerState) (out : List ℕ) (f : Frame)
    → IsShaking g head text before next old shake out → ReadsOne head text old new f → f.kind ≡ 2 → HasControl g head text before next new shake f.body out
find_control g head text before next old new shake out f x told kind =
    let read = told x.done x.at x.read in
    record {
      done = x.done;
      frame = f;
      place = read.0;
      read = read.1;
      kind = ap frame_kind kind;
      body_is = refl;
      stage = x.stage;
      tells = x.tells;
    }

-- a Disconnect
pub find_left : (g : Grounds) (head : Head Upgrade HeadFault) (text before : List ℕ) (next : ℕ → List ℕ) (old new : Reader) (shake : ServerState) (out : List ℕ) (f : Frame)
    → IsShaking g head text before next old shake out → ReadsOne head text old new f → f.kind ≡ 5 → IsOver g head text before next ends.Left out
find_left g head text before next old new shake out f x told kind =
    let read = told x.done x.at x.read in
    let p : Placed Upgrade HeadFault = record { item = FrameItem f; place = read.0 } in
    let s : Opened = items_done g x.done new_opened in
    let t : Opened = record { stage = Over ends.Left; out = s.out; drawn = s.drawn } in
    let came : items_done g (x.done ++ p ∷ []) new_opened ≡ t =
    item_more g x.done p (Shaking shake) x.stage ∙ ap (λ (k : FrameKind). frame_came g k f.body shake read.0 s) (ap frame_kind kind) in
    let is : opened g head text ≡ t =
    opened_by g head text (x.done ++ p ∷ []) read.0 new read.1 ∙ ap (items_done g (items_ahead head read.0 new)) came ∙ still_over g (items_ahead head read.0 new) t ends.Left refl in
    record {
      stage = ap (λ (u : Opened). u.stage) is;
      tells = record { written = ap (λ (u : Opened). u.out) is ∙ x.tells.written; draws = λ k. x.tells.draws k ∙ ap (λ (u : Opened). g.draw (u.drawn + k)) (sym is) };
    }

-- any other frame is passed over
passed_by : (g : Grounds) (a b c d e f : Bool) (body : List ℕ) (shake : ServerState) (place : ℕ) (s : Opened) → b ≡ false → c ≡ false
    → frame_came g (cond a Regular (cond b Control (cond c Disconnect (cond d ReplayRequest (cond e Pause (cond f Resume Other)))))) body shake place s ≡ s
passed_by g true b c d e f body shake place s nb nc = refl
passed_by g false true c d e f body shake place s nb nc = absurd cc
passed_by g false false true d e f body shake place s nb nc = absurd cc
passed_by g false false false true e f body shake place s nb nc = refl
passed_by g false false false false true f body shake place s nb nc = refl
passed_by g false false false false false true body shake place s nb nc = refl
passed_by g false false false false false false body shake place s nb nc = refl

pub find_other : (g : Grounds) (head : Head Upgrade HeadFault) (text before : List ℕ) (next : ℕ → List ℕ) (old new : Reader) (shake : ServerState) (out : List ℕ) (f : Frame)
    → IsShaking g head text before next old shake out → ReadsOne head text old new f → new.behind_head ≡ true → eqb f.kind 2 ≡ false → eqb f.kind 5 ≡ false
    → IsShaking g head text before next new shake out
find_other g head text before next old new shake out f x told behind not_control not_left =
    let read = told x.done x.at x.read in
    let p : Placed Upgrade HeadFault = record { item = FrameItem f; place = read.0 } in
    let s : Opened = items_done g x.done new_opened in
    let same : items_done g (x.done ++ p ∷ []) new_opened ≡ s =
    item_more g x.done p (Shaking shake) x.stage
    ∙ passed_by g (eqb f.kind 1) (eqb f.kind 2) (eqb f.kind 5) (eqb f.kind 6) (eqb f.kind 7) (eqb f.kind 8) f.body shake read.0 s not_control not_left in
    record {
      done = x.done ++ p ∷ [];
      at = read.0;
      read = read.1;
      behind = behind;
      stage = ap (λ (u : Opened). u.stage) same ∙ x.stage;
      tells = tells_of g before next out s (items_done g (x.done ++ p ∷ []) new_opened) same x.tells;
    }

-- a frame takes bytes
pub frame_shortens : (old new : List ℕ) (f : Frame) → first_frame old ≡ Some (f, new) → length new < length old
frame_shortens old new f first = omega (arith, found_shorter old f new first, frame_bytes_some f)

not_eq : (a b : ℕ) → (a ≡ b → ⊥) → eqb a b ≡ false
not_eq a b ne = search (rules, ne)

pub passes_on : (old mid new : Reader) (f : Frame) → PassesOver old mid → new.behind_head ≡ true → first_frame mid.unread ≡ Some (f, new.unread)
    → ((head : Head Upgrade HeadFault) (text : List ℕ) → ReadsOne head text mid new f) → (f.kind ≡ 2 → ⊥) → (f.kind ≡ 5 → ⊥) → PassesOver old new
passes_on old mid new f passes behind first told not_control not_left = record {
  behind = behind;
  fewer = omega (arith, passes.fewer, frame_shortens mid.unread new.unread f first);
  keeps = λ g head text before next shake out x. find_other g head text before next mid new shake out f (passes.keeps g head text before next shake out x) (told head text) behind (not_eq f.kind 2 not_control) (not_eq f.kind 5 not_left);
}

-- no frame is read for a fault
pub find_fault : (g : Grounds) (head : Head Upgrade HeadFault) (text before : List ℕ) (next : ℕ → List ℕ) (old new : Reader) (shake : ServerState) (out : List ℕ) (fault : FrameFault)
    → IsShaking g head text before next old shake out
    → ((done : List (Placed Upgrade HeadFault)) (at : ℕ) → HasRead head text done at old → ReadsFrame head text done at new (Err fault))
    → Finds (found_of fault) g head text before next new shake out
find_fault g head text before next old new shake out (frame_faults.TooLong n) x told = find_long g head text before next old shake out n x told
find_fault g head text before next old new shake out frame_faults.NoMemory x told = find_memory g head text before next old shake out x
