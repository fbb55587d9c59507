-- The jobs of one key among all jobs.
use Rattle.std.proofs.Common.{◌≡◌, ℕ, zero, suc, Bool, true, false, cond, Option, Some, None, List, [], ◌∷◌, ◌++◌, length, take, drop, filter, refl, ap, sym, ◌∙◌}
use Rattle.std.specs.Prelude.{slice_get}
use Rattle.std.proofs.lemmas.List.Elements.{filter-append}
use Rattle.ra_base.specs.declared.key.Key.{Key}
use Rattle.ra_base.specs.declared.key.Seat.{Seat}
use Rattle.ra_registry.specs.Rows.{same_key}
use Rattle.ra_registry.proofs.SameKeys.{same_key_itself, same_key_other_way}
use Rattle.ra_session.specs.Hearing.{Happening, work, host, call_settled, event_fired}
use Rattle.ra_session.specs.SessionRefusals.{Refusal}
use Rattle.ra_session.specs.Sessions.{Session}
use Rattle.ra_session.specs.TurnRefusals.{turn_refusal}
use Rattle.ra_session.specs.Turns.{TurnAnswer, turn_answer}
use Rattle.ra_hub.specs.Jobs.{SeenJob}
use Rattle.ra_link_core.specs.HubEvents.{jobs_of, turn_jobs, session_jobs}
use Rattle.ra_run_laws.proofs.Lists.{none_there, there_is}
use Rattle.ra_isolation_laws.specs.Isolation.{jobs_for}

pub jobs_both : (key : Key) (one other : List SeenJob) → jobs_for key (one ++ other) ≡ jobs_for key one ++ jobs_for key other
jobs_both key one other = filter-append (λ (j : SeenJob). same_key key j.key) one other

-- ---- one job

one_own : (key : Key) (j : SeenJob) → same_key key j.key ≡ true → jobs_for key (j ∷ []) ≡ j ∷ []
one_own key j own = ap (λ (b : Bool). cond b (j ∷ []) []) own

one_other : (key : Key) (j : SeenJob) → same_key key j.key ≡ false → jobs_for key (j ∷ []) ≡ []
one_other key j other = ap (λ (b : Bool). cond b (j ∷ []) []) other

own_happening : (key : Key) (o : Option Happening) → jobs_for key (jobs_of key o) ≡ jobs_of key o
own_happening key None = refl
own_happening key (Some (work call)) = one_own key (record { key = key; work = work call }) (same_key_itself key)
own_happening key (Some (host body)) = one_own key (record { key = key; work = host body }) (same_key_itself key)
own_happening key (Some (call_settled id outcome)) = refl
own_happening key (Some (event_fired id body)) = refl

other_happening : (key other : Key) (o : Option Happening) → same_key other key ≡ false → jobs_for key (jobs_of other o) ≡ []
other_happening key other None apart = refl
other_happening key other (Some (work call)) apart = one_other key (record { key = other; work = work call }) (same_key_other_way key other ∙ apart)
other_happening key other (Some (host body)) apart = one_other key (record { key = other; work = host body }) (same_key_other_way key other ∙ apart)
other_happening key other (Some (call_settled id outcome)) apart = refl
other_happening key other (Some (event_fired id body)) apart = refl

own_turn : (r : Option Refusal) (answer : TurnAnswer) (key : Key) → jobs_for key (turn_jobs r answer key) ≡ turn_jobs r answer key
own_turn None answer key = own_happening key answer.happening
own_turn (Some refusal) answer key = refl

other_in_turn : (r : Option Refusal) (answer : TurnAnswer) (key other : Key) → same_key other key ≡ false → jobs_for key (turn_jobs r answer other) ≡ []
other_in_turn None answer key other apart = other_happening key other answer.happening apart
other_in_turn (Some refusal) answer key other apart = refl

-- the jobs of a turn of the key
pub own_jobs : (o : Option Session) (seat : Seat) (piece : List ℕ) (now : ℕ) → jobs_for seat.key (session_jobs o seat piece now) ≡ session_jobs o seat piece now
own_jobs None seat piece now = refl
own_jobs (Some s) seat piece now = own_turn (turn_refusal seat.epoch piece now s) (turn_answer seat.epoch piece now s) seat.key

-- and of a turn of another
pub other_jobs : (o : Option Session) (key : Key) (seat : Seat) (piece : List ℕ) (now : ℕ) → same_key seat.key key ≡ false → jobs_for key (session_jobs o seat piece now) ≡ []
other_jobs None key seat piece now apart = refl
other_jobs (Some s) key seat piece now apart = other_in_turn (turn_refusal seat.epoch piece now s) (turn_answer seat.epoch piece now s) key seat.key apart

-- ---- a job that is done

-- one of a list and its number among those that pass a test
pub record Among {X : Type 0} (p : X → Bool) (xs : List X) (n : ℕ) (x : X) : Type 0 where
  pub counts : length (filter p (take (suc n) xs)) ≡ suc (length (filter p (take n xs)))
  pub there : slice_get (filter p xs) (length (filter p (take n xs))) ≡ Some x
  pub left : take (length (filter p (take n xs))) (filter p xs) ++ drop (suc (length (filter p (take n xs)))) (filter p xs) ≡ filter p (take n xs ++ drop (suc n) xs)

pub among : {X : Type 0} → (p : X → Bool) (xs : List X) (n : ℕ) (x : X) → slice_get xs n ≡ Some x → p x ≡ true → Among p xs n x
among p [] n x is passes = none_there is
among {X} p (y ∷ ys) zero x is passes =
    let same : p y ≡ true = ap p (there_is is) ∙ passes in record {
      counts = ap (λ (c : Bool). length (cond c (y ∷ []) [])) same;
      there = ap (λ (c : Bool). slice_get (cond c (y ∷ filter p ys) (filter p ys)) 0) same ∙ is;
      left = ap (λ (c : Bool). drop 1 (cond c (y ∷ filter p ys) (filter p ys))) same;
    }
among {X} p (y ∷ ys) (suc n) x is passes =
    let a = by (p y) (among p ys n x is passes) in record { counts = a.0; there = a.1; left = a.2 }
  where
    -- whether the first passes or not
    by : (b : Bool) → Among p ys n x → (
        (length (cond b (y ∷ filter p (take (suc n) ys)) (filter p (take (suc n) ys))) ≡ suc (length (cond b (y ∷ filter p (take n ys)) (filter p (take n ys)))))
        × (slice_get (cond b (y ∷ filter p ys) (filter p ys)) (length (cond b (y ∷ filter p (take n ys)) (filter p (take n ys)))) ≡ Some x)
        × (take (length (cond b (y ∷ filter p (take n ys)) (filter p (take n ys)))) (cond b (y ∷ filter p ys) (filter p ys))
        ++ drop (suc (length (cond b (y ∷ filter p (take n ys)) (filter p (take n ys))))) (cond b (y ∷ filter p ys) (filter p ys))
        ≡ cond b (y ∷ filter p (take n ys ++ drop (suc n) ys)) (filter p (take n ys ++ drop (suc n) ys))))
    by true a = (ap (λ (k : ℕ). suc k) a.counts, a.there, ap (λ (l : List X). y ∷ l) a.left)
    by false a = (a.counts, a.there, a.left)

-- one that does not pass leaves those that do
pub not_among : {X : Type 0} → (p : X → Bool) (xs : List X) (n : ℕ) (x : X) → slice_get xs n ≡ Some x → p x ≡ false → filter p (take n xs ++ drop (suc n) xs) ≡ filter p xs
not_among p [] n x is fails = none_there is
not_among p (y ∷ ys) zero x is fails = sym (ap (λ (c : Bool). cond c (y ∷ filter p ys) (filter p ys)) (ap p (there_is is) ∙ fails))
not_among {X} p (y ∷ ys) (suc n) x is fails = ap (λ (l : List X). cond (p y) (y ∷ l) l) (not_among p ys n x is fails)
