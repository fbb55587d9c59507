-- What a call of an endpoint leaves as it is.
use Rattle.std.proofs.Common.{◌≡◌, ℕ, Bool, cond, not, ◌&&◌, eqb, leb, Some, None, List, [], ◌∷◌, ◌++◌, length, refl, sym, ◌∙◌, subst}
use Rattle.std.proofs.lemmas.Bool.{cond_both}
use Rattle.std.proofs.lemmas.List.{append-nil, map-append}
use Rattle.ra_model.specs.Frames.{body_limit}
use Rattle.ra_model.specs.declared.frame.Frame.{Frame}
use Rattle.ra_model.specs.Endpoints.{Endpoint, is_up, is_linked, is_joining, is_ended, owed, shown}
use Rattle.ra_model.specs.Calls.{rewritten, moment, can_say, say, control, ask_pause, ask_resume, finish, tick, lose, leave, wrote}
use Rattle.ra_model.specs.Links.{Link}
use Rattle.ra_base.specs.declared.event.Side.{Side}
use Rattle.ra_model.specs.Pairs.{body_of, messages}
use Rattle.ra_model.proofs.Incoming.{incoming_lost}
use Rattle.ra_model.proofs.Calls.{messages_rewritten, linked_from_joining}
use Rattle.ra_model.specs.Views.{EndpointRead, HasRead}

pub record Kept (e e' : Endpoint) : Type 0 where
  pub incoming : (to : Side) (n : ℕ) (applied : List Frame) (links : List Link) → EndpointRead to n e applied links → EndpointRead to n e' applied links
  pub base : e'.base ≡ e.base
  pub epoch : e'.epoch ≡ e.epoch
  pub received : e'.received ≡ e.received
  pub acknowledged : e'.acknowledged ≡ e.acknowledged
  pub more : List (List ℕ)
  pub said : messages e' ≡ messages e ++ more

-- nothing but what is unwritten, told, paused and timed may change
kept_all : (e e' : Endpoint) → e'.base ≡ e.base → ((to : Side) (n : ℕ) (applied : List Frame) (links : List Link) → EndpointRead to n e applied links → EndpointRead to n e' applied links) → e'.epoch ≡ e.epoch → e'.received ≡ e.received → e'.acknowledged ≡ e.acknowledged → messages e' ≡ messages e → Kept e e'
kept_all e e' base incoming epoch received acknowledged said = record { base = base; incoming = incoming; epoch = epoch; received = received; acknowledged = acknowledged; more = []; said = said ∙ sym (append-nil (messages e)) }

pub kept_same : (e : Endpoint) → Kept e e
kept_same e = kept_all e e refl (λ to n applied links c. c) refl refl refl refl

pub kept_unwritten : (e : Endpoint) (text : List ℕ) → Kept e (record e { unwritten = text })
kept_unwritten e text = kept_all e _ refl (λ to n applied links c. c) refl refl refl refl

pub kept_say : (body : List ℕ) (now : ℕ) (e : Endpoint) → Kept e (say body now e)
unfolding say
kept_say body now e =
    cond_both (can_say body e) _ _ (λ (x : Endpoint). Kept e x)
    (λ yes. record {
      base = refl;
      epoch = refl;
      incoming = λ to n applied links c. c;
      received = refl;
      acknowledged = refl;
      more = body ∷ [];
      said = map-append body_of e.said (record { body = body; ack = e.received; written = cond (is_up e.phase) (Some (moment now e)) None } ∷ []);
    })
    (λ no. kept_same e)

pub kept_control : (body : List ℕ) (e : Endpoint) → Kept e (control body e)
unfolding control
kept_control body e = cond_both (is_linked e.phase && leb (length body) body_limit) _ _ (λ (x : Endpoint). Kept e x) (λ yes. kept_all e _ refl (λ to n applied links c. c) refl refl refl refl) (λ no. kept_same e)

pub kept_pause : (e : Endpoint) → Kept e (ask_pause e)
unfolding ask_pause
kept_pause e = cond_both (is_linked e.phase) _ _ (λ (x : Endpoint). Kept e x) (λ yes. kept_all e _ refl (λ to n applied links c. c) refl refl refl refl) (λ no. kept_same e)

pub kept_resume : (e : Endpoint) → Kept e (ask_resume e)
unfolding ask_resume
kept_resume e = cond_both (is_linked e.phase) _ _ (λ (x : Endpoint). Kept e x) (λ yes. kept_all e _ refl (λ to n applied links c. c) refl refl refl refl) (λ no. kept_same e)

pub kept_tick : (now : ℕ) (e : Endpoint) → Kept e (tick now e)
unfolding tick
kept_tick now e = cond_both (is_up e.phase) _ _ (λ (x : Endpoint). Kept e x) (λ yes. kept_all e _ refl (λ to n applied links c. c) refl refl refl refl) (λ no. kept_same e)

pub kept_wrote : (n : ℕ) (e : Endpoint) → Kept e (wrote n e)
unfolding wrote
kept_wrote n e = cond_both (leb n (length (shown e))) _ _ (λ (x : Endpoint). Kept e x) (λ yes. kept_all e _ refl (λ to n applied links c. c) refl refl refl refl) (λ no. kept_same e)

pub kept_lose : (epoch : ℕ) (e : Endpoint) → Kept e (lose epoch e)
unfolding lose
kept_lose epoch e = cond_both (is_linked e.phase && eqb epoch e.epoch) _ _ (λ (x : Endpoint). Kept e x) (λ yes. kept_all e _ refl (λ to n applied links c. incoming_lost c [] applied c.frames) refl refl refl refl) (λ no. kept_same e)

pub kept_leave : (e : Endpoint) → Kept e (leave e)
unfolding leave
kept_leave e = cond_both (not (is_ended e.phase)) _ _ (λ (x : Endpoint). Kept e x) (λ yes. kept_all e _ refl (λ to n applied links c. incoming_lost c e.unread applied c.frames) refl refl refl refl) (λ no. kept_same e)

pub kept_finish : (now : ℕ) (e : Endpoint) → Kept e (finish now e)
unfolding finish rewritten owed
kept_finish now e =
    cond_both (is_joining e.phase) _ _ (λ (x : Endpoint). Kept e x)
    (λ yes. kept_all e _ refl (λ to n applied links c. subst (λ (b : Bool). HasRead to n b e.unread applied links) (linked_from_joining e.phase yes) c) refl refl refl (messages_rewritten (moment now e) e))
    (λ no. kept_same e)
