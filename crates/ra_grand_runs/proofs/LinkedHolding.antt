-- A link that a client makes: its request is written at once, unless the dialer gives up at that moment.
use Rattle.std.proofs.Common.{◌≡◌, ℕ, zero, suc, ◌+◌, ◌-◌, ◌^◌, ◌<◌, Bool, true, false, cond, List, [], ◌∷◌, ◌++◌, length, refl, ap, sym, ◌∙◌, subst, append-nil, arith, inl}
use Rattle.std.specs.Prelude.{nat_lt, min, All, replicate}
use Rattle.std.specs.List.{AllByRecursion}
use Rattle.std.specs.Int.{byte_at, w64, to_be_bytes}
use Rattle.std.proofs.lemmas.List.Elements.{All-nil, All-cons, All-append, All-replicate}
use Rattle.ra_base.specs.declared.key.Key.{Key}
use Rattle.ra_upgrade.specs.AnswerTexts.{answer_text}
use Rattle.ra_upgrade.specs.RequestTexts.{key_text}
use Rattle.ra_dial.specs.declared.stage.Stage.{Stage}
use Rattle.ra_dial.specs.declared.stage.Stage.TheVariants as stages
use Rattle.ra_dial.specs.declared.values.DialEnd.{DialEnd}
use Rattle.ra_dial.specs.declared.values.DialEnd.TheVariants as dial_ends
use Rattle.ra_dial.specs.declared.values.DialEvent.TheVariants as events
use Rattle.ra_dial.specs.Attempts.{Step, finishes, begins}
use Rattle.ra_dial.specs.Clients.{Settings, request_of}
use Rattle.ra_dial.specs.Dialers.{Dialer, epoch}
use Rattle.ra_dial.specs.Handshakes.{Head}
use Rattle.ra_dial.specs.Table.{out, step, on_event, on_linked, is_late, unless_over}
use Rattle.ra_grand_runs.specs.Draws.{nth_draw, draws_after}
use Rattle.ra_grand_runs.specs.GrandClients.{GrandLink, Client, dialled, linked, fresh_link, writes_up, new_end}
use Rattle.ra_dial.specs.Calling.{is_calling}
use Rattle.ra_grand_runs.specs.Lasts.{OnLastOf, OnLastIfAny, OnLast, with_last}
use Rattle.ra_grand_runs.specs.Reached.{Agrees, LinkHolds, LinksHold, ReadsLink, StageReads, IsAsked, HasAsked, ClientHolds, EndHolds}
use Rattle.ra_grand_runs.specs.SetUps.{settings_for, request_head, answer_at}
use Rattle.ra_grand_runs.proofs.DialerHolding.{keeps_link}
use Rattle.ra_items.specs.Heads.{Head as RequestHead}
use Rattle.ra_upgrade.specs.declared.request_head.HeadFault.{HeadFault}
use Rattle.ra_upgrade.specs.declared.request_head.Upgrade.{Upgrade}

-- the end of a link on which nothing came
new_end_holds : (answer : List ℕ) (head : RequestHead Upgrade HeadFault) → EndHolds answer (new_end head)
new_end_holds answer head = record { out = record { more = answer; rest = []; same = sym (append-nil answer) }; going = λ goes. inl (refl, refl) }

-- ---- draws

abbrev IsByte : ℕ → Type 0
IsByte b = b < 256

each_of : {X : Type 0} (P : X → Type 0) (xs : List X) → AllByRecursion P xs → All P xs
each_of P [] h = All-nil P
each_of P (x ∷ xs) h = All-cons P x xs h.0 (each_of P xs h.1)

small_byte : (i n : ℕ) → byte_at i n < 256
small_byte zero n = omega arith
small_byte (suc i) n = omega arith

pub draw_bytes : (n : ℕ) → All IsByte (nth_draw n)
unfolding nth_draw
draw_bytes n =
    let m = min n (2 ^ 64 - 1) in
    All-append IsByte (replicate 8 0) (to_be_bytes w64 m) (All-replicate IsByte 8 0 (omega arith))
    (each_of IsByte (to_be_bytes w64 m) (small_byte 7 m, (small_byte 6 m, (small_byte 5 m, (small_byte 4 m, (small_byte 3 m, (small_byte 2 m, (small_byte 1 m, (small_byte 0 m, tt)))))))))

pub draw_len : (n : ℕ) → length (nth_draw n) ≡ 16
unfolding nth_draw
draw_len n = refl

-- ---- the last of a list

pub at_end : {X : Type 0} → (f : X → X) (x : X) (xs : List X) → with_last f (xs ++ x ∷ []) ≡ xs ++ f x ∷ []
at_end f x [] = refl
at_end f x (y ∷ []) = refl
at_end f x (y ∷ (z ∷ zs)) = ap (λ ys. y ∷ ys) (at_end f x (z ∷ zs))

end_of_behind : {X : Type 0} → (P : X → Type 0) (x y : X) (ys : List X) → P x → OnLastOf P y (ys ++ x ∷ [])
end_of_behind P x y [] holds = holds
end_of_behind P x y (z ∷ zs) holds = end_of_behind P x z zs holds

pub on_end : {X : Type 0} → (P : X → Type 0) (x : X) (xs : List X) → P x → OnLast P (xs ++ x ∷ [])
on_end P x [] holds = holds
on_end P x (y ∷ ys) holds = end_of_behind P x y ys holds

pub on_end_any : {X : Type 0} → (P : X → Type 0) (x : X) (xs : List X) → P x → OnLastIfAny P (xs ++ x ∷ [])
on_end_any P x [] holds = holds
on_end_any P x (y ∷ ys) holds = end_of_behind P x y ys holds

links_more : (owner : Key) (drawn : List ℕ) (l : GrandLink) (links : List GrandLink) → LinksHold owner links → LinkHolds owner drawn l → LinksHold owner (links ++ l ∷ [])
links_more owner drawn l [] hold is = ((drawn, is), tt)
links_more owner drawn l (x ∷ xs) hold is = (hold.0, links_more owner drawn l xs hold.1 is)

-- ---- what the dialer writes

-- The request, or nothing where the dialer gave up.
record Began (request : List ℕ) (s : Step) : Type 0 where
  agrees : Agrees (out s.1) request
  asked : (links : List GrandLink) → (out s.1 ≡ request → OnLastIfAny IsAsked links) → HasAsked s.1.stage links

began_none : (request : List ℕ) (end : DialEnd) (d : Dialer) → d.pending ≡ [] → Began request (finishes end d)
began_none request end d none = record {
  agrees = record { more = request; rest = []; same = ap (λ (p : List ℕ). (p ++ []) ++ request) none ∙ sym (append-nil request) };
  asked = λ links is. tt;
}

began_by : (stage : Stage) (draw : ℕ → List ℕ) (d : Dialer) → is_calling stage ≡ true → d.pending ≡ [] → Began (request_of d.settings (nat_lt 0 (epoch d)) (draw 0)) (on_linked stage draw d)
unfolding begins
began_by (stages.Resting until) draw d calling none = absurd cc
began_by (stages.Calling since) draw d calling none =
    let request = request_of d.settings (nat_lt 0 (epoch d)) (draw 0) in
    let is : (d.pending ++ request) ++ [] ≡ request = append-nil (d.pending ++ request) ∙ ap (λ (p : List ℕ). p ++ request) none in
    record { agrees = record { more = []; rest = []; same = ap (λ (t : List ℕ). t ++ []) is }; asked = λ links asks. asks is }
began_by (stages.Shaking since s) draw d calling none = absurd cc
began_by stages.Attached draw d calling none = absurd cc
began_by (stages.Over end) draw d calling none = absurd cc

began_if : (request : List ℕ) (late : Bool) (s t : Step) → Began request s → Began request t → Began request (cond late s t)
began_if request true s t gone made = gone
began_if request false s t gone made = made

began_unless : (request : List ℕ) (stage : Stage) (s : Step) (d : Dialer) → is_calling stage ≡ true → Began request s → Began request (unless_over stage s d)
began_unless request (stages.Resting until) s d calling began = began
began_unless request (stages.Calling since) s d calling began = began
began_unless request (stages.Shaking since shaking) s d calling began = began
began_unless request stages.Attached s d calling began = began
began_unless request (stages.Over end) s d calling began = absurd cc

began : (head : Head) (draw : ℕ → List ℕ) (now : ℕ) (d : Dialer) → is_calling d.stage ≡ true → d.pending ≡ []
    → Began (request_of d.settings (nat_lt 0 (epoch d)) (draw 0)) (step head draw events.Linked now d)
unfolding step on_event
began head draw now d calling none =
    let request = request_of d.settings (nat_lt 0 (epoch d)) (draw 0) in
    began_unless request d.stage _ d calling
    (began_if request (is_late events.Linked d.stage d.lost now) _ _ (began_none request (dial_ends.GraceOver d.lost now) d none) (began_by d.stage draw d calling none))

-- ---- the new link

-- once these bytes were written on it
fresh_holds : (c : Client) (bytes : List ℕ) → c.dialer.settings ≡ settings_for c.key
    → Agrees bytes (request_of c.dialer.settings (nat_lt 0 (epoch c.dialer)) (draws_after c.drawn 0)) → LinkHolds c.key (draws_after c.drawn 0) (writes_up bytes (fresh_link c))
fresh_holds c bytes settings agrees =
    let drawn = draws_after c.drawn 0 in
    let again = nat_lt 0 (epoch c.dialer) in
    record {
      drawn_len = draw_len (c.drawn + 0 + 1);
      drawn_bytes = draw_bytes (c.drawn + 0 + 1);
      reconnection = again;
      head = ap (λ (s : Settings). request_head s again drawn) settings;
      request = subst (λ (s : Settings). Agrees bytes (request_of s again drawn)) settings agrees;
      up = omega arith;
      down = omega arith;
      seen = refl;
      put = record { rest = []; same = refl };
      put_all = λ is. refl;
      end = new_end_holds (answer_text (key_text drawn)) (fresh_link c).server.head;
    }

-- the client once the link is there
pub linked_holds : (now : ℕ) (c : Client) → is_calling c.dialer.stage ≡ true → ClientHolds c → ClientHolds (linked now c)
unfolding dialled
linked_holds now c calling h =
    let drawn = draws_after c.drawn 0 in
    let request = request_of c.dialer.settings (nat_lt 0 (epoch c.dialer)) drawn in
    let s = step (answer_at c.dialer.stage) (draws_after c.drawn) events.Linked now c.dialer in
    let b = began (answer_at c.dialer.stage) (draws_after c.drawn) now c.dialer calling h.pending in
    let fresh = writes_up (out s.1) (fresh_link c) in
    let holds = fresh_holds c (out s.1) h.settings b.agrees in
    let is : with_last (writes_up (out s.1)) (c.links ++ fresh_link c ∷ []) ≡ c.links ++ fresh ∷ [] = at_end (writes_up (out s.1)) (fresh_link c) c.links in
    let kept = keeps_link c.key (c.links ++ fresh ∷ []) (answer_at c.dialer.stage) (draws_after c.drawn) now c.dialer calling
    (on_end (ReadsLink c.key drawn []) fresh c.links (record { link = holds; unread_is = refl })) in
    record {
      token = h.token;
      kind = h.kind;
      settings = kept.settings ∙ h.settings;
      pending = refl;
      links = subst (λ (ls : List GrandLink). LinksHold c.key ls) (sym is) (links_more c.key drawn fresh c.links h.links holds);
      asked = subst (λ (ls : List GrandLink). HasAsked s.1.stage ls) (sym is)
          (b.asked (c.links ++ fresh ∷ []) (λ whole. on_end_any IsAsked fresh c.links (omega (arith, ap (λ (t : List ℕ). length t) whole))));
      reads = subst (λ (ls : List GrandLink). StageReads c.key s.1.stage ls) (sym is) kept.reads;
    }
