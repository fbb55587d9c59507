-- A run, event by event.
use Rattle.std.proofs.Common.{◌≡◌, ℕ, zero, suc, ◌+◌, true, ◌&&◌, Option, Some, None, List, [], ◌∷◌, ◌++◌, take, refl, ap, sym, ◌∙◌, subst, add-one}
use Rattle.std.specs.Prelude.{slice_get, is_none}
use Rattle.std.proofs.lemmas.Bool.{and_parts, and_from}
use Rattle.std.proofs.lemmas.Option.{same_Some}
use Rattle.ra_base.specs.declared.event.Event.{Event}
use Rattle.ra_model.specs.declared.fault.EventFault.{EventFault}
use Rattle.ra_model.specs.Worlds.{World}
use Rattle.ra_model.specs.Events.{run, after, is_accepted}
use Rattle.ra_model.specs.Refusals.{refusal}

next_run : (events : List Event) (at : ℕ) (event : Event) (w : World) → slice_get events at ≡ Some event → run (take (suc at) events) w ≡ after event (run (take at events) w)
next_run [] at event w h = cc
next_run (e ∷ events) zero event w h = ap (λ (x : Event). after x w) (same_Some _ _ h)
next_run (e ∷ events) (suc at) event w h = next_run events at event (after e w) h

pub run_next : (events : List Event) (at : ℕ) (event : Event) (w : World) → slice_get events at ≡ Some event → run (take (at + 1) events) w ≡ after event (run (take at events) w)
run_next events at event w h = ap (λ (n : ℕ). run (take n events) w) (add-one at) ∙ next_run events at event w h

next_accepted : (events : List Event) (at : ℕ) (event : Event) (w : World) → slice_get events at ≡ Some event → is_accepted (take at events) w ≡ true → refusal (run (take at events) w) event ≡ None → is_accepted (take (suc at) events) w ≡ true
next_accepted [] at event w h before free = cc
next_accepted (e ∷ events) zero event w h before free =
    subst (λ (x : Event). (is_none (refusal w x) && true) ≡ true) (sym (same_Some _ _ h)) (ap (λ (f : Option EventFault). is_none f && true) free)
next_accepted (e ∷ events) (suc at) event w h before free =
    let parts = and_parts (is_none (refusal w e)) (is_accepted (take at events) (after e w)) before in
    and_from _ _ parts.0 (next_accepted events at event (after e w) h parts.1 free)

pub accepted_next : (events : List Event) (at : ℕ) (event : Event) (w : World) → slice_get events at ≡ Some event → is_accepted (take at events) w ≡ true → refusal (run (take at events) w) event ≡ None → is_accepted (take (at + 1) events) w ≡ true
accepted_next events at event w h before free = subst (λ (n : ℕ). is_accepted (take n events) w ≡ true) (sym (add-one at)) (next_accepted events at event w h before free)

pub run_one_more : (events : List Event) (event : Event) (w : World) → run (events ++ event ∷ []) w ≡ after event (run events w)
run_one_more [] event w = refl
run_one_more (e ∷ events) event w = run_one_more events event (after e w)
