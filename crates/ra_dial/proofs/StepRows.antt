-- A step as a whole: what it follows of the table, and how many draws it takes.
use Rattle.std.proofs.Common.{◌≡◌, ℕ, Bool, true, false, List, refl, ap, sym, ◌∙◌, subst, not, ◌&&◌}
use Rattle.std.specs.Prelude.{Result, Ok, Err, None, IfOk}
use Rattle.std.proofs.lemmas.Bool.{cond-true, cond-false, false≢true}
use Rattle.ra_dial.specs.declared.stage.Stage.{Stage}
use Rattle.ra_dial.specs.declared.stage.Stage.TheVariants as stages
use Rattle.ra_dial.specs.declared.values.DialEvent.{DialEvent}
use Rattle.ra_dial.specs.declared.values.DialEnd.{DialEnd}
use Rattle.ra_dial.specs.declared.values.DialEnd.TheVariants as dial_ends
use Rattle.ra_dial.specs.declared.values.DialAct.{DialAct}
use Rattle.ra_dial.specs.Handshakes.{Head, IsHeadOf}
use Rattle.ra_dial.specs.Dialers.{Dialer}
use Rattle.ra_dial.specs.Acts.{Act, act_of, ends}
use Rattle.ra_dial.specs.Attempts.{Step, finishes}
use Rattle.ra_dial.specs.Table.{is_late, is_frame, looks_by, by_event, on_event, step, draws_at, draws_by, unless_over}
use Rattle.ra_dial.specs.DialerStates.{DialerState, dialer_of, Steps, StepsByHead, FollowsTable}
use Rattle.ra_dial.proofs.Standing.{of_dialers, same_rows}
use Rattle.ra_dial.proofs.AttemptRows.{told}

pub if_ok : {T E : Type 0} (P Q : T → Type 0) (r : Result T E) → ((t : T) → P t → Q t) → IfOk r P → IfOk r Q
if_ok P Q (Ok t) maps holds = maps t holds
if_ok P Q (Err fault) maps holds = tt

-- no answer is looked at
pub blind : (h h' : DialerState) (act : Act) (row : Head → Dialer → Step) → Steps h h' act (row (Ok None)) → FollowsTable false h h' act row
blind h h' act row steps = record { head = Ok None; is_head = λ looks. absurd (false≢true looks); steps = steps }

pub blind_if : {E : Type 0} (h h' : DialerState) (row : Head → Dialer → Step) (r : Result DialAct E) → IfOk r (λ act. Steps h h' (act_of act) (row (Ok None)))
    → IfOk r (λ act. FollowsTable false h h' (act_of act) row)
blind_if h h' row r steps = if_ok _ _ r (λ act went. blind h h' (act_of act) row went) steps

pub seeing : {E : Type 0} (h h' : DialerState) (row : Head → Dialer → Step) (r : Result DialAct E) → IfOk r (λ act. StepsByHead h h' (act_of act) row)
    → IfOk r (λ act. FollowsTable true h h' (act_of act) row)
seeing h h' row r steps = if_ok _ _ r (λ act went. record { head = went.head; is_head = λ looks. went.is_head; steps = went.steps }) steps

-- ---- giving up

and_false : (b : Bool) → (b && false) ≡ false
and_false true = refl
and_false false = refl

first_of : (b c : Bool) → (b && c) ≡ true → b ≡ true
first_of true c is = refl
first_of false c is = is

pub late : (h h' : DialerState) (act : Act) (draw : ℕ → List ℕ) (event : DialEvent) (now : ℕ) → is_late event h.stage h.lost now ≡ true
    → Steps h h' act (finishes (dial_ends.GraceOver h.lost now)) → FollowsTable (looks_by event now h.stage h.lost) h h' act (λ head d. on_event head draw event now d)
unfolding on_event
late h h' act draw event now is steps = record {
  head = Ok None;
  is_head = λ looks. absurd (false≢true (sym (ap (λ (b : Bool). is_frame event && not b) is ∙ and_false (is_frame event)) ∙ looks));
  steps = same_rows h h' act (on_event (Ok None) draw event now) (finishes (dial_ends.GraceOver h.lost now))
      (of_dialers h _ (λ s r st. cond-true (is_late event h.stage h.lost now) (finishes (dial_ends.GraceOver h.lost now) (dialer_of s r h)) (by_event (Ok None) draw event now (dialer_of s r h)) is)) steps;
}

in_time_one : (h h' : DialerState) (act : Act) (draw : ℕ → List ℕ) (event : DialEvent) (now : ℕ) → is_late event h.stage h.lost now ≡ false
    → FollowsTable (is_frame event) h h' act (λ head d. by_event head draw event now d)
    → FollowsTable (looks_by event now h.stage h.lost) h h' act (λ head d. on_event head draw event now d)
unfolding on_event
in_time_one h h' act draw event now is follows = record {
  head = follows.head;
  is_head = λ looks. follows.is_head (first_of (is_frame event) (not (is_late event h.stage h.lost now)) looks);
  steps = same_rows h h' act (on_event follows.head draw event now) (by_event follows.head draw event now)
      (of_dialers h _ (λ s r st. cond-false (is_late event h.stage h.lost now) (finishes (dial_ends.GraceOver h.lost now) (dialer_of s r h)) (by_event follows.head draw event now (dialer_of s r h)) is)) follows.steps;
}

pub in_time : {E : Type 0} (h h' : DialerState) (draw : ℕ → List ℕ) (event : DialEvent) (now : ℕ) (r : Result DialAct E) → is_late event h.stage h.lost now ≡ false
    → IfOk r (λ act. FollowsTable (is_frame event) h h' (act_of act) (λ head d. by_event head draw event now d))
    → IfOk r (λ act. FollowsTable (looks_by event now h.stage h.lost) h h' (act_of act) (λ head d. on_event head draw event now d))
in_time h h' draw event now r is follows = if_ok _ _ r (λ act went. in_time_one h h' (act_of act) draw event now is went) follows

pub no_draws : (event : DialEvent) (now : ℕ) (stage : Stage) (lost : ℕ) → is_late event stage lost now ≡ true → draws_by event now stage lost ≡ 0
no_draws event now stage lost is = cond-true (is_late event stage lost now) 0 (draws_at event stage) is

pub some_draws : (event : DialEvent) (now : ℕ) (stage : Stage) (lost : ℕ) → is_late event stage lost now ≡ false → draws_by event now stage lost ≡ draws_at event stage
some_draws event now stage lost is = cond-false (is_late event stage lost now) 0 (draws_at event stage) is

-- ---- a dialer that is over, and one that is not

over_rows : (stage : Stage) (end : DialEnd) (head : Head) → stage ≡ stages.Over end → IsHeadOf stage head
over_rows stage end head is = subst (λ (st : Stage). IsHeadOf st head) (sym is) tt

pub over : (h : DialerState) (looks : Bool) (draw : ℕ → List ℕ) (event : DialEvent) (now : ℕ) (end : DialEnd) → h.stage ≡ stages.Over end
    → FollowsTable looks h h (ends end) (λ head d. step head draw event now d)
unfolding step
over h looks draw event now end is = record {
  head = Ok None;
  is_head = λ l. over_rows h.stage end (Ok None) is;
  steps = same_rows h h (ends end) (step (Ok None) draw event now) (λ d. (ends end, d))
      (of_dialers h _ (λ s r st. ap (λ (x : Stage). unless_over x (on_event (Ok None) draw event now (dialer_of s r h)) (dialer_of s r h)) is)) (told h (ends end));
}

goes : (stage : Stage) (x : Step) (d : Dialer) → ((end : DialEnd) → stage ≡ stages.Over end → ⊥) → unless_over stage x d ≡ x
goes (stages.Resting until) x d not = refl
goes (stages.Calling since) x d not = refl
goes (stages.Shaking since s) x d not = refl
goes stages.Attached x d not = refl
goes (stages.Over end) x d not = absurd (not end refl)

pub not_over : {E : Type 0} (h h' : DialerState) (looks : Bool) (draw : ℕ → List ℕ) (event : DialEvent) (now : ℕ) (r : Result DialAct E)
    → ((end : DialEnd) → h.stage ≡ stages.Over end → ⊥)
    → IfOk r (λ act. FollowsTable looks h h' (act_of act) (λ head d. on_event head draw event now d))
    → IfOk r (λ act. FollowsTable looks h h' (act_of act) (λ head d. step head draw event now d))
unfolding step
not_over h h' looks draw event now r not follows = if_ok _ _ r (λ act went. record {
  head = went.head;
  is_head = went.is_head;
  steps = same_rows h h' (act_of act) (step went.head draw event now) (on_event went.head draw event now)
      (of_dialers h _ (λ s x st. goes h.stage (on_event went.head draw event now (dialer_of s x h)) (dialer_of s x h) not)) went.steps;
}) follows
