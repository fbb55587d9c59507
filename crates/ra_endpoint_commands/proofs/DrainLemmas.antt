-- A side takes frames until there is none.
use Rattle.std.proofs.Common.{◌≡◌, ℕ, zero, suc, ◌<◌, Bool, true, false, List, [], ◌++◌, length, append_assoc, append-nil, refl, sym, ap, subst, ◌∙◌, arith}
use Rattle.std.specs.Prelude.{Option, Some, None, is_some, Err}
use Rattle.ra_base.specs.declared.event.Side.{Side}
use Rattle.ra_base.specs.declared.event.Event.TheVariants.{Take}
use Rattle.ra_model.specs.declared.session.Up.{Up as Delivery}
use Rattle.ra_model.specs.declared.fault.EventFault.{EventFault}
use Rattle.ra_model.specs.declared.fault.EventFault.TheVariants.{NoSuchLink, TooMany, End, NoMemory}
use Rattle.ra_model.specs.Taking.{delivery}
use Rattle.ra_model.specs.Worlds.{World, peer}
use Rattle.ra_model.specs.Refusals.{refusal}
use Rattle.ra_model.specs.Events.{after, effect}
use Rattle.ra_world.specs.WorldStates.{WorldState, StandsForWorld}
use Rattle.ra_endpoint_commands.specs.ReplayLines.{effect_line}
use Rattle.ra_endpoint_commands.specs.Replay.{Step, and_then, take_on, drain_within, drain_step}
use Rattle.ra_endpoint_commands.specs.Stepping.{Makes, Steps, TakesOne, RefusesOne, Takes}
use Rattle.ra_endpoint_commands.proofs.StepLemmas.{taken_shorter}

-- what is left to take, and what was taken so far
pub record IsDraining (side : Side) (w0 : World) (s : WorldState) (before text : List ℕ) : Type 0 where
  pub w : World
  pub k : ℕ
  pub so_far : List ℕ
  pub stands : StandsForWorld s w
  pub enough : length (peer side w).endpoint.unread < k
  pub text_is : text ≡ before ++ so_far
  pub same : drain_step side w0 ≡ and_then so_far (drain_within k side w)

pub draining_at_start : (side : Side) (w : World) (s : WorldState) (before text : List ℕ) → StandsForWorld s w → text ≡ before → IsDraining side w s before text
unfolding drain_step
draining_at_start side w s before text stands is = record {
  w = w;
  k = suc (length (peer side w).endpoint.unread);
  so_far = [];
  stands = stands;
  enough = omega arith;
  text_is = is ∙ sym (append-nil before);
  same = refl;
}

and_then_both : (a b : List ℕ) (s : Step) → and_then a (and_then b s) ≡ and_then (a ++ b) s
and_then_both a b s = ap (λ (t : List ℕ). let x : Step = record { text = t; world = s.world; fault = s.fault } in x) (sym (append_assoc a b s.text))

delivered : (found : Option Delivery) → true ≡ is_some found → (up : Delivery) × (found ≡ Some up)
delivered None h = absurd cc
delivered (Some up) h = (up, refl)

none_there : (found : Option Delivery) → false ≡ is_some found → found ≡ None
none_there None h = refl
none_there (Some up) h = absurd cc

step_of : (n : ℕ) (side : Side) (w : World) → drain_within (suc n) side w ≡ take_on (refusal w (Take side)) (delivery (peer side w).endpoint) side w (drain_within n side)
unfolding drain_within
step_of n side w = refl

-- one frame more
more_at : (side : Side) (w0 : World) (s s' : WorldState) (before text text' so_far : List ℕ) (w : World) (k : ℕ) → length (peer side w).endpoint.unread < k → text ≡ before ++ so_far
    → drain_step side w0 ≡ and_then so_far (drain_within k side w) → TakesOne side true s' text text' w → IsDraining side w0 s' before text'
more_at side w0 s s' before text text' so_far w zero enough text_is same t = absurd (omega arith)
more_at side w0 s s' before text text' so_far w (suc k) enough text_is same t =
    let up = delivered (delivery (peer side w).endpoint) t.there in
    let said : List ℕ = effect_line side (effect w (Take side)) in
    let shorter : length (peer side (after (Take side) w)).endpoint.unread < length (peer side w).endpoint.unread = taken_shorter side w up.0 t.free up.1 in
    let step : drain_within (suc k) side w ≡ and_then said (drain_within k side (after (Take side) w)) =
    step_of k side w
    ∙ ap (λ (f : Option EventFault). take_on f (delivery (peer side w).endpoint) side w (drain_within k side)) t.free
    ∙ ap (λ (d : Option Delivery). take_on None d side w (drain_within k side)) up.1 in
    record {
      w = after (Take side) w;
      k = k;
      so_far = so_far ++ said;
      stands = t.stands;
      enough = omega arith;
      text_is = t.text ∙ ap (λ (x : List ℕ). x ++ said) text_is ∙ append_assoc before so_far said;
      same = same ∙ ap (and_then so_far) step ∙ and_then_both so_far said (drain_within k side (after (Take side) w));
    }

pub draining_on : (side : Side) (w0 : World) (s s' : WorldState) (before text text' : List ℕ) (more : Bool) → more ≡ true → IsDraining side w0 s before text
    → ((w : World) → StandsForWorld s w → TakesOne side more s' text text' w) → IsDraining side w0 s' before text'
draining_on side w0 s s' before text text' more is d takes =
    more_at side w0 s s' before text text' d.so_far d.w d.k d.enough d.text_is d.same (subst (λ (b : Bool). TakesOne side b s' text text' d.w) is (takes d.w d.stands))

-- there is none
last_at : (side : Side) (w0 : World) (s' : WorldState) (before text text' so_far : List ℕ) (w : World) (k : ℕ) → length (peer side w).endpoint.unread < k → text ≡ before ++ so_far
    → drain_step side w0 ≡ and_then so_far (drain_within k side w) → TakesOne side false s' text text' w → Makes None s' before text' (drain_step side w0)
last_at side w0 s' before text text' so_far w zero enough text_is same t = absurd (omega arith)
last_at side w0 s' before text text' so_far w (suc k) enough text_is same t =
    let none = none_there (delivery (peer side w).endpoint) t.there in
    let said : List ℕ = effect_line side (effect w (Take side)) in
    let last : Step = record { text = said; world = after (Take side) w; fault = None } in
    let step : drain_within (suc k) side w ≡ last =
    step_of k side w
    ∙ ap (λ (f : Option EventFault). take_on f (delivery (peer side w).endpoint) side w (drain_within k side)) t.free
    ∙ ap (λ (d : Option Delivery). take_on None d side w (drain_within k side)) none in
    let whole : drain_step side w0 ≡ and_then so_far last = same ∙ ap (and_then so_far) step in
    record {
      stands = subst (λ (x : World). StandsForWorld s' x) (sym (ap (λ (x : Step). x.world) whole)) t.stands;
      text = t.text ∙ ap (λ (x : List ℕ). x ++ said) text_is ∙ append_assoc before so_far said ∙ ap (λ (x : Step). before ++ x.text) (sym whole);
      is = ap (λ (x : Step). x.fault) whole;
    }

pub drained : (side : Side) (w0 : World) (s s' : WorldState) (before text text' : List ℕ) (more : Bool) → more ≡ false → IsDraining side w0 s before text
    → ((w : World) → StandsForWorld s w → TakesOne side more s' text text' w) → Makes None s' before text' (drain_step side w0)
drained side w0 s s' before text text' more is d takes =
    last_at side w0 s' before text text' d.so_far d.w d.k d.enough d.text_is d.same (subst (λ (b : Bool). TakesOne side b s' text text' d.w) is (takes d.w d.stands))

-- it is refused
refused_at : (side : Side) (w0 : World) (s' : WorldState) (fault : EventFault) (before text text' so_far : List ℕ) (w : World) (k : ℕ) → length (peer side w).endpoint.unread < k → text ≡ before ++ so_far
    → drain_step side w0 ≡ and_then so_far (drain_within k side w) → RefusesOne side fault s' text text' w → Makes (Some fault) s' before text' (drain_step side w0)
refused_at side w0 s' fault before text text' so_far w zero enough text_is same t = absurd (omega arith)
refused_at side w0 s' fault before text text' so_far w (suc k) enough text_is same t =
    let last : Step = record { text = []; world = w; fault = Some fault } in
    let step : drain_within (suc k) side w ≡ last =
    step_of k side w ∙ ap (λ (f : Option EventFault). take_on f (delivery (peer side w).endpoint) side w (drain_within k side)) t.is in
    let whole : drain_step side w0 ≡ and_then so_far last = same ∙ ap (and_then so_far) step in
    record {
      stands = subst (λ (x : World). StandsForWorld s' x) (sym (ap (λ (x : Step). x.world) whole)) t.stands;
      text = t.text ∙ text_is ∙ ap (λ (x : List ℕ). before ++ x) (sym (append-nil so_far)) ∙ ap (λ (x : Step). before ++ x.text) (sym whole);
      is = ap (λ (x : Step). x.fault) whole;
    }

pub drain_refused : (fault : EventFault) (side : Side) (w0 : World) (s s' : WorldState) (before text text' : List ℕ) → IsDraining side w0 s before text
    → ((w : World) → StandsForWorld s w → Takes (Err fault) side s' text text' w) → Steps (Err fault) s' before text' (drain_step side w0)
drain_refused NoMemory side w0 s s' before text text' d takes = tt
drain_refused (NoSuchLink link) side w0 s s' before text text' d takes = refused_at side w0 s' (NoSuchLink link) before text text' d.so_far d.w d.k d.enough d.text_is d.same (takes d.w d.stands)
drain_refused (TooMany asked there) side w0 s s' before text text' d takes = refused_at side w0 s' (TooMany asked there) before text text' d.so_far d.w d.k d.enough d.text_is d.same (takes d.w d.stands)
drain_refused (End fault) side w0 s s' before text text' d takes = refused_at side w0 s' (End fault) before text text' d.so_far d.w d.k d.enough d.text_is d.same (takes d.w d.stands)
