-- What an endpoint keeps in memory stands for an endpoint; and one that takes a frame goes on, unless the frame ends it.
use Rattle.std.proofs.Common.{◌≡◌, ◌≢◌, ℕ, suc, ◌+◌, ◌-◌, false, Option, Some, List, [], ◌∷◌, map, length, drop, refl, ap, sym, ◌∙◌, arith}
use Rattle.std.specs.Prelude.{slice_get}
use Rattle.ra_model.specs.declared.session.Entry.{Entry}
use Rattle.ra_model.specs.declared.session.Up.{Up as Delivery}
use Rattle.ra_model.specs.declared.session.Up.TheVariants.{Ended}
use Rattle.ra_model.specs.Endpoints.{Endpoint, SaidMessage, numbered, owed, is_ended}
use Rattle.ra_model.specs.EndpointStates.{EndpointState, IsConsistent, StandsFor, with_said}
use Rattle.ra_model.specs.Taking.{take_frame, delivery}
use Rattle.ra_model.proofs.Ending.{goes_take}

-- what was said, of a message in the queue
said_as : Entry → SaidMessage
said_as entry = record { body = entry.body; ack = entry.ack; written = entry.written }

numbered_again : (last : ℕ) (queue : List Entry) → ((k : ℕ) (entry : Entry) → slice_get queue k ≡ Some entry → entry.id ≡ last + 1 + k)
    → queue ≡ numbered last (map said_as queue)
unfolding said_as
numbered_again last [] ids = refl
numbered_again last (entry ∷ queue) ids =
    let first : entry.id ≡ last + 1 + 0 = ids 0 entry refl in
    let id : entry.id ≡ suc last = omega arith in
    let rest : queue ≡ numbered (suc last) (map said_as queue) =
    numbered_again (suc last) queue (λ k x at. let is : x.id ≡ last + 1 + suc k = ids (suc k) x at in omega arith) in
    (λ i. record { id = id i; ack = entry.ack; body = entry.body; written = entry.written } ∷ rest i)

same_length : (queue : List Entry) → length (map said_as queue) ≡ length queue
same_length [] = refl
same_length (entry ∷ queue) = ap (λ (n : ℕ). suc n) (same_length queue)

-- it said at least what is in the queue
pub some_endpoint : (s : EndpointState) → IsConsistent s → (e : Endpoint) × StandsFor s e
unfolding owed
some_endpoint s whole =
    let said : List SaidMessage = map said_as s.queue in
    let none : s.acknowledged - s.acknowledged ≡ 0 = omega arith in (
      with_said s.acknowledged said s,
      record {
        same = refl;
        sent = let size : length said ≡ length s.queue = same_length s.queue in omega (arith, whole.all);
        queue = numbered_again s.acknowledged s.queue whole.id ∙ ap (λ (n : ℕ). numbered s.acknowledged (drop n said)) (sym none);
      },
    )

phase_is : (s : EndpointState) (e : Endpoint) → StandsFor s e → is_ended e.phase ≡ is_ended s.phase
phase_is s e stands = ap (λ (x : Endpoint). is_ended x.phase) stands.same

pub next_goes : (s t : EndpointState) (now : ℕ) (up : Option Delivery) → IsConsistent s
    → ((e : Endpoint) → StandsFor s e → StandsFor t (take_frame now e)) → ((e : Endpoint) → StandsFor s e → up ≡ delivery e)
    → up ≢ Some Ended → is_ended s.phase ≡ false → is_ended t.phase ≡ false
next_goes s t now up whole stands handed other going =
    let some : (e : Endpoint) × StandsFor s e = some_endpoint s whole in
    sym (phase_is t (take_frame now some.0) (stands some.0 some.1))
    ∙ goes_take now some.0 (λ is. other (handed some.0 some.1 ∙ is)) (phase_is s some.0 some.1 ∙ going)
