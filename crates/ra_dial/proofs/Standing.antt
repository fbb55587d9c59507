-- What a dialer in memory stands for, through the rows of its table.
use Rattle.std.proofs.Common.{◌≡◌, ℕ, ap, sym, ◌∙◌, subst}
use Rattle.ra_session.specs.Sessions.{Session}
use Rattle.ra_session.specs.SessionStates.{StandsForSession}
use Rattle.ra_dial.specs.declared.stage.Stage.{Stage}
use Rattle.ra_dial.specs.Dialers.{Dialer}
use Rattle.ra_dial.specs.Acts.{Act}
use Rattle.ra_dial.specs.Attempts.{Step}
use Rattle.ra_dial.specs.DialerStates.{DialerState, dialer_of, StandsForDialer, OfEachDialer, DialerBecomes, Steps}

-- it is enough to look at the dialers that are as in memory, with any session that is stood for
pub of_dialers : (h : DialerState) (P : Dialer → Type 0) → ((s : Session) (r : ℕ) → StandsForSession h.session s → P (dialer_of s r h)) → OfEachDialer h P
of_dialers h P step d stands = subst (λ (x : Dialer). P x) (sym stands.same) (step d.session d.read stands.session)

pub by_rows : (h h' : DialerState) (act : Act) (row : Dialer → Step)
    → ((s : Session) (r : ℕ) → StandsForSession h.session s → (row (dialer_of s r h)).0 ≡ act)
    → ((s : Session) (r : ℕ) → StandsForSession h.session s → StandsForDialer h' (row (dialer_of s r h)).1)
    → Steps h h' act row
by_rows h h' act row acts stands = record { acts = of_dialers h (λ d. (row d).0 ≡ act) acts; stands = of_dialers h (λ d. StandsForDialer h' (row d).1) stands }

-- a row that is another one at each dialer that is stood for
pub same_rows : (h h' : DialerState) (act : Act) (row other : Dialer → Step) → OfEachDialer h (λ d. row d ≡ other d) → Steps h h' act other → Steps h h' act row
same_rows h h' act row other same steps = record {
  acts = λ d stands. ap (λ (x : Step). x.0) (same d stands) ∙ steps.acts d stands;
  stands = λ d stands. subst (λ (x : Step). StandsForDialer h' x.1) (sym (same d stands)) (steps.stands d stands);
}

pub stage_is : (h : DialerState) (d : Dialer) → StandsForDialer h d → d.stage ≡ h.stage
stage_is h d stands = ap (λ (x : Dialer). x.stage) stands.same

-- the row of the stage that it is at
pub at_stage : (h h' : DialerState) (act : Act) (row : Stage → Dialer → Step) (stage : Stage) → h.stage ≡ stage → Steps h h' act (row stage) → Steps h h' act (λ d. row d.stage d)
at_stage h h' act row stage is steps =
    same_rows h h' act (λ d. row d.stage d) (row stage) (λ d stands. ap (λ (x : Stage). row x d) (stage_is h d stands ∙ is)) steps

-- a row behind a change
pub after : (h m h' : DialerState) (act : Act) (row : Dialer → Step) (change : Dialer → Dialer) → DialerBecomes h m change → Steps m h' act row
    → Steps h h' act (λ d. row (change d))
after h m h' act row change becomes steps = record {
  acts = λ d stands. steps.acts (change d) (becomes d stands);
  stands = λ d stands. steps.stands (change d) (becomes d stands);
}
