-- The draws of a link, and its opening: only the draws that were made count.
use Rattle.std.proofs.Common.{◌≡◌, ◌≢◌, ℕ, zero, suc, ◌+◌, ◌-◌, ◌<◌, Bool, true, false, cond, List, [], ◌∷◌, ◌++◌, length, take, drop, refl, ap, sym, ◌∙◌, subst, arith, append_assoc, append-nil}
use Rattle.std.proofs.lemmas.List.{take-append-drop}
use Rattle.ra_base.specs.declared.event.Side.TheVariants.{B}
use Rattle.ra_base.specs.declared.key.Key.{Key}
use Rattle.ra_base.specs.declared.kind.Kind.TheVariants.{Tunnel}
use Rattle.ra_model.specs.Links.{Link, readable}
use Rattle.ra_shake.specs.declared.server.ShakeStep.{ShakeStep}
use Rattle.ra_shake.specs.declared.server.ShakeStep.TheVariants.{Say, Ask, Refuse}
use Rattle.ra_shake.specs.Server.{refuse_or}
use Rattle.ra_shake.specs.States.{ServerState}
use Rattle.ra_opening.specs.Openings.{Opened, shaken, opened}
use Rattle.ra_dial.specs.Clients.{request_of}
use Rattle.ra_grand_runs.specs.Draws.{own_then, first_draws}
use Rattle.ra_grand_runs.specs.Reached.{read_of}
use Rattle.ra_grand_runs.specs.SetUps.{settings_for, request_head, grounds}
use Rattle.ra_handshake_laws.specs.Handshakes.{client_text, first_message, second_message, request_for}
use Rattle.ra_handshake_laws.proofs.OpenedFronts.{Before, InFirst, InSecond, Whole, reach, ReachFor, first_read, opened_at, opened_exactly}
use Rattle.ra_handshake_laws.proofs.ServerTexts.{judging, second_reason}

-- ---- draws

first_there : (n i : ℕ) (next rest : ℕ → List ℕ) → i < n → own_then (first_draws n next) rest i ≡ next i
first_there zero i next rest small = absurd (none small)
  where
    none : i < 0 → ⊥
    none e = omega (arith, e)
first_there (suc n) zero next rest small = refl
first_there (suc n) (suc i) next rest small =
    first_there n i (λ k. next (k + 1)) rest (omega (arith, small)) ∙ ap next (more i)
  where
    more : (k : ℕ) → k + 1 ≡ suc k
    more k = omega arith

-- the draws that were made are those of the link and those that came
pub draws_same : (own : List (List ℕ)) (n i : ℕ) (next rest : ℕ → List ℕ) → i < n → own_then (own ++ first_draws (n - length own) next) rest i ≡ own_then own next i
draws_same [] n i next rest small = ap (λ (k : ℕ). own_then (first_draws k next) rest i) (whole n) ∙ first_there n i next rest small
  where
    whole : (k : ℕ) → k - length {A = List ℕ} [] ≡ k
    whole k = omega arith
draws_same (d ∷ ds) zero i next rest small = absurd (none small)
  where
    none : i < 0 → ⊥
    none e = omega (arith, e)
draws_same (d ∷ ds) (suc n) zero next rest small = refl
draws_same (d ∷ ds) (suc n) (suc i) next rest small =
    ap (λ (k : ℕ). own_then (ds ++ first_draws k next) rest i) (less n (length ds)) ∙ draws_same ds n i next rest (omega (arith, small))
  where
    less : (a b : ℕ) → suc a - suc b ≡ a - b
    less a b = omega arith

pub first_same : (n : ℕ) (one other : ℕ → List ℕ) → ((i : ℕ) → i < n → one i ≡ other i) → first_draws n one ≡ first_draws n other
first_same zero one other same = refl
first_same (suc n) one other same =
    ap (λ (d : List ℕ). d ∷ first_draws n (λ k. one (k + 1))) (same 0 (omega arith))
    ∙ ap (λ (ds : List (List ℕ)). other 0 ∷ ds) (first_same n (λ k. one (k + 1)) (λ k. other (k + 1)) (λ i small. same (i + 1) (omega (arith, small))))

-- the draws that a link made are its own
pub own_draws : (own : List (List ℕ)) (next : ℕ → List ℕ) → first_draws (length own) (own_then own next) ≡ own
own_draws [] next = refl
own_draws (d ∷ ds) next =
    ap (λ (l : List (List ℕ)). d ∷ l)
    (first_same (length ds) (λ k. own_then (d ∷ ds) next (k + 1)) (own_then ds next) (λ i small. ap (λ (k : ℕ). own_then (d ∷ ds) next k) (more i)) ∙ own_draws ds next)
  where
    more : (k : ℕ) → k + 1 ≡ suc k
    more k = omega arith

-- ---- an opening by other draws

step_drawn : (step : ShakeStep) (shake : ServerState) (place : ℕ) (s : Opened) → (shaken step shake place s).drawn ≡ s.drawn
step_drawn (Say text) shake place s = refl
step_drawn (Ask request) shake place s = refl
step_drawn (Refuse reason) shake place s = refl

-- the first draw counts where the opening made one
first_counts : (owner : Key) (reconnection : Bool) (key own theirs text d e : List ℕ) (r : ReachFor owner reconnection key own theirs text)
    → (0 < (opened_at owner reconnection key own theirs d text r).drawn → d ≡ e)
    → opened_at owner reconnection key own theirs d text r ≡ opened_at owner reconnection key own theirs e text r
first_counts owner reconnection key own theirs text d e (Before below) same = refl
first_counts owner reconnection key own theirs text d e (InFirst rest begins short) same =
    ap (λ (x : List ℕ). opened_at owner reconnection key own theirs x text (InFirst rest begins short)) (same (omega arith))
first_counts owner reconnection key own theirs text d e (InSecond rest begins short) same =
    ap (λ (x : List ℕ). opened_at owner reconnection key own theirs x text (InSecond rest begins short)) (same (omega arith))
first_counts owner reconnection key own theirs text d e (Whole is) same =
    let drawn = step_drawn (refuse_or (Ask (request_for owner reconnection)) (second_reason owner.kind theirs d)) (judging owner reconnection d)
    (length (request_of (settings_for owner) reconnection key) + length (first_message own) + length (second_message owner theirs))
    (first_read owner reconnection key own d) in
    ap (λ (x : List ℕ). opened_at owner reconnection key own theirs x text (Whole is)) (same (omega (arith, drawn)))

pub opened_same : (owner : Key) (reconnection : Bool) (key own theirs text rest : List ℕ) (one other : ℕ → List ℕ) → owner.kind ≢ Tunnel
    → text ++ rest ≡ client_text owner reconnection key own theirs
    → (0 < (opened (grounds one) (request_head (settings_for owner) reconnection key) text).drawn → one 0 ≡ other 0)
    → opened (grounds one) (request_head (settings_for owner) reconnection key) text ≡ opened (grounds other) (request_head (settings_for owner) reconnection key) text
opened_same owner reconnection key own theirs text rest one other known same counts =
    let r : ReachFor owner reconnection key own theirs text = reach (request_of (settings_for owner) reconnection key) (first_message own) (second_message owner theirs) text rest same in
    let is = opened_exactly owner reconnection key own theirs text one known r in
    is
    ∙ first_counts owner reconnection key own theirs text (one 0) (other 0) r (λ some. counts (subst (λ (o : Opened). 0 < o.drawn) (sym is) some))
    ∙ sym (opened_exactly owner reconnection key own theirs text other known r)

-- ---- what was read and comes is a front of what was written

by_cut : (cut : Bool) (n k : ℕ) (xs : List ℕ) → (more : List ℕ) × ((take n xs ++ take k (cond cut [] (drop n xs))) ++ more ≡ xs)
by_cut true n k xs =
    (drop n xs, ap (λ (l : List ℕ). (take n xs ++ l) ++ drop n xs) (nothing k) ∙ ap (λ (l : List ℕ). l ++ drop n xs) (append-nil (take n xs)) ∙ take-append-drop n xs)
  where
    nothing : (j : ℕ) → take {A = ℕ} j [] ≡ []
    nothing zero = refl
    nothing (suc j) = refl
by_cut false n k xs = (
  drop k (drop n xs),
  append_assoc (take n xs) (take k (drop n xs)) (drop k (drop n xs)) ∙ ap (λ (l : List ℕ). take n xs ++ l) (take-append-drop k (drop n xs)) ∙ take-append-drop n xs,
)

pub front_up : (k : ℕ) (l : Link) → (more : List ℕ) × ((read_of l.to_b ++ take k (readable B l)) ++ more ≡ l.to_b.written)
front_up k l = by_cut l.is_cut l.to_b.read k l.to_b.written
