-- Each call keeps what an endpoint has in memory consistent.
use Rattle.std.proofs.Common.{◌≡◌, ℕ, zero, suc, ◌+◌, ◌-◌, ◌≤◌, max, min, Bool, true, false, cond, not, ◌&&◌, eqb, ltb, Some, List, [], ◌∷◌, ◌++◌, length, map, drop, refl, ap, sym, ◌∙◌, subst, arith, length-append, inl, inr}
use Rattle.std.specs.Prelude.{slice_get, All}
use Rattle.std.proofs.lemmas.Bool.{cond-true, cond-false, le-leb, lt-leb, cases_lt}
use Rattle.std.proofs.lemmas.List.{length-drop, length-map}
use Rattle.std.proofs.lemmas.List.Elements.{All-append, All-drop, All-map}
use Rattle.std.proofs.lemmas.Option.{same_Some}
use Rattle.std.proofs.Math.Seq.{drop-nil}
use Rattle.ra_model.specs.declared.frame.Frame.{Frame}
use Rattle.ra_model.specs.declared.session.Entry.{Entry}
use Rattle.ra_model.specs.Frames.{body_limit}
use Rattle.ra_model.specs.FrameKinds.{FrameKind}
use Rattle.ra_model.specs.FrameKinds.FrameKind.{Regular, Control, Disconnect, ReplayRequest, Pause, Resume, Other}
use Rattle.ra_model.specs.Timing.{asked_lately}
use Rattle.ra_model.specs.EndpointStates.{EndpointState, IsConsistent, behind, entry_written}
use Rattle.ra_model.proofs.Stands.{new_state, said_entry, state_said, state_replayed, state_acknowledging, state_passed, state_on_frame, state_ticked, state_writes_ack, state_writes_keep_alive}

abbrev Fits : Entry → Type 0
Fits entry = length entry.body ≤ body_limit

-- the ids of a queue go on after the last one
abbrev pub AreNumbered : ℕ → List Entry → Type 0
AreNumbered last queue = (k : ℕ) (entry : Entry) → slice_get queue k ≡ Some entry → entry.id ≡ last + 1 + k

numbered_rest : (last : ℕ) (entry : Entry) (queue : List Entry) → AreNumbered last (entry ∷ queue) → AreNumbered (suc last) queue
numbered_rest last entry queue h k x at = let is : x.id ≡ last + 1 + suc k = h (suc k) x at in omega arith

-- what is acknowledged is a front of such a queue
pub behind_drop : (upto last : ℕ) (queue : List Entry) (n : ℕ) → AreNumbered last queue → n ≡ upto - last → behind upto queue ≡ drop n queue
behind_drop upto last [] n h is = sym (drop-nil n)
behind_drop upto last (entry ∷ queue) n h is =
    let first : entry.id ≡ last + 1 + 0 = h 0 entry refl in
    elim (cases_lt last upto) [
      | inl more ↦
          let next : n ≡ suc (upto - suc last) = omega arith in
          cond-true _ _ _ (le-leb entry.id upto (omega arith)) ∙ behind_drop upto (suc last) queue (upto - suc last) (numbered_rest last entry queue h) refl
          ∙ ap (λ (k : ℕ). drop k (entry ∷ queue)) (sym next)
      | inr less ↦
          let none : n ≡ 0 = omega arith in
          cond-false _ _ _ (lt-leb entry.id upto (omega arith)) ∙ ap (λ (k : ℕ). drop k (entry ∷ queue)) (sym none)
    ]

get_drop : (n : ℕ) (queue : List Entry) (k : ℕ) → slice_get (drop n queue) k ≡ slice_get queue (n + k)
get_drop zero queue k = let e : k ≡ 0 + k = omega arith in ap (λ (i : ℕ). slice_get queue i) e
get_drop (suc n) [] k = let e : suc (n + k) ≡ suc n + k = omega arith in ap (λ (i : ℕ). slice_get {X = Entry} [] i) e
get_drop (suc n) (entry ∷ queue) k = let e : suc (n + k) ≡ suc n + k = omega arith in get_drop n queue k ∙ ap (λ (i : ℕ). slice_get (entry ∷ queue) i) e

drop_numbered : (n last : ℕ) (queue : List Entry) (first : ℕ) → first ≡ last + n → AreNumbered last queue → AreNumbered first (drop n queue)
drop_numbered n last queue first is h k entry at = let id : entry.id ≡ last + 1 + (n + k) = h (n + k) entry (sym (get_drop n queue k) ∙ at) in omega arith

push_numbered : (last : ℕ) (queue : List Entry) (entry : Entry) → AreNumbered last queue → entry.id ≡ last + 1 + length queue → AreNumbered last (queue ++ entry ∷ [])
push_numbered last [] entry h is zero x at = subst (λ (e : Entry). e.id ≡ last + 1 + 0) (same_Some entry x at) is
push_numbered last [] entry h is (suc k) x at = cc
push_numbered last (y ∷ queue) entry h is zero x at = h 0 x at
push_numbered last (y ∷ queue) entry h is (suc k) x at =
    let id : x.id ≡ suc last + 1 + k = push_numbered (suc last) queue entry (numbered_rest last y queue h) (omega arith) k x at in omega arith

written_numbered : (m last : ℕ) (queue : List Entry) → AreNumbered last queue → AreNumbered last (map (entry_written m) queue)
written_numbered m last [] h k x at = cc
written_numbered m last (y ∷ queue) h zero x at = subst (λ (e : Entry). e.id ≡ last + 1 + 0) (same_Some (entry_written m y) x at) (h 0 y refl)
written_numbered m last (y ∷ queue) h (suc k) x at =
    let id : x.id ≡ suc last + 1 + k = written_numbered m (suc last) queue (numbered_rest last y queue h) k x at in omega arith

one_fits : (entry : Entry) → Fits entry → All Fits (entry ∷ [])
one_fits entry h zero d lt = h
one_fits entry h (suc k) d lt = omega (arith, lt)

pub new_consistent : (base now : ℕ) (keeps_alive : Bool) → IsConsistent (new_state base now keeps_alive)
new_consistent base now keeps_alive = record { all = omega arith; id = λ k entry at. cc; fits = λ k d lt. omega (arith, lt); told = omega arith }

pub said_consistent : (body : List ℕ) (m : ℕ) (s : EndpointState) → length body ≤ body_limit → IsConsistent s → IsConsistent (state_said body m s)
said_consistent body m s small h = record {
  all = omega (arith, h.all, length-append s.queue (said_entry body m s ∷ []));
  id = push_numbered s.acknowledged s.queue (said_entry body m s) h.id (omega (arith, h.all));
  fits = All-append Fits s.queue (said_entry body m s ∷ []) h.fits (one_fits (said_entry body m s) small);
  told = omega arith;
}

pub replayed_consistent : (m : ℕ) (s : EndpointState) → IsConsistent s → IsConsistent (state_replayed m s)
replayed_consistent m s h = record { all = omega (arith, h.all, length-map s.queue (entry_written m)); id = written_numbered m s.acknowledged s.queue h.id; fits = All-map Fits (entry_written m) s.queue h.fits; told = h.told }

pub passed_consistent : (f : Frame) (rest : List ℕ) (m : ℕ) (s : EndpointState) → IsConsistent s → IsConsistent (state_passed f rest m s)
passed_consistent f rest m s h =
    let upto : ℕ = max s.acknowledged (min f.ack s.sent) in
    let front : behind upto s.queue ≡ drop (upto - s.acknowledged) s.queue = behind_drop upto s.acknowledged s.queue (upto - s.acknowledged) h.id refl in
    let size : length (behind upto s.queue) ≡ length s.queue - (upto - s.acknowledged) = ap length front ∙ length-drop (upto - s.acknowledged) s.queue in
    let all : s.acknowledged + length s.queue ≡ s.sent = h.all in
    record {
      all = omega arith;
      id = subst (λ (q : List Entry). AreNumbered upto q) (sym front) (drop_numbered (upto - s.acknowledged) s.acknowledged s.queue upto (omega arith) h.id);
      fits = subst (λ (q : List Entry). All Fits q) (sym front) (All-drop Fits (upto - s.acknowledged) s.queue h.fits);
      told = h.told;
    }

either_consistent : (b : Bool) (s t : EndpointState) → IsConsistent s → IsConsistent t → IsConsistent (cond b s t)
either_consistent true s t p q = p
either_consistent false s t p q = q

pub on_frame_consistent : (kind : FrameKind) (f : Frame) (m : ℕ) (s : EndpointState) → IsConsistent s → IsConsistent (state_on_frame kind f m s)
on_frame_consistent Regular f m s h =
    let low : s.told ≤ s.received = h.told in
    either_consistent (eqb f.id (suc s.received)) _ _ (record { all = h.all; id = h.id; fits = h.fits; told = omega arith })
    (either_consistent (ltb (suc s.received) f.id && not (asked_lately m s.timing)) _ _ (record { all = h.all; id = h.id; fits = h.fits; told = h.told }) h)
on_frame_consistent Control f m s h = h
on_frame_consistent Disconnect f m s h = record { all = h.all; id = h.id; fits = h.fits; told = h.told }
on_frame_consistent ReplayRequest f m s h = let r = replayed_consistent m s h in record { all = r.all; id = r.id; fits = r.fits; told = r.told }
on_frame_consistent Pause f m s h = record { all = h.all; id = h.id; fits = h.fits; told = h.told }
on_frame_consistent Resume f m s h = record { all = h.all; id = h.id; fits = h.fits; told = h.told }
on_frame_consistent Other f m s h = h

told_most : (a b : Bool) (received told : ℕ) → told ≤ received → cond a received (cond b received told) ≤ received
told_most true b received told h = omega arith
told_most false true received told h = omega arith
told_most false false received told h = h

pub ticked_consistent : (m : ℕ) (s : EndpointState) → IsConsistent s → IsConsistent (state_ticked m s)
ticked_consistent m s h = record { all = h.all; id = h.id; fits = h.fits; told = told_most (state_writes_ack m s) (state_writes_keep_alive m s) s.received s.told h.told }

pub acknowledging_consistent : (s : EndpointState) → IsConsistent s → IsConsistent (state_acknowledging s)
acknowledging_consistent s h = record { all = h.all; id = h.id; fits = h.fits; told = omega arith }
