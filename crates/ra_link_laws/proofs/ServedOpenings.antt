-- A piece comes to a link whose handshake goes on.
use Rattle.std.proofs.Common.{◌≡◌, ◌≢◌, inl, inr, ℕ, ◌+◌, false, Option, None, List, [], ◌∷◌, ◌++◌, length, take, drop, refl, ap, sym, ◌∙◌, subst, arith, append-nil, append_assoc}
use Rattle.std.specs.Prelude.{◌⊎◌}
use Rattle.std.proofs.lemmas.List.{append_cancel_left, length-take-le, take-append-drop, drop_all}
use Rattle.ra_base.specs.declared.handshake.Reason.TheVariants.{UnknownKind}
use Rattle.ra_base.specs.declared.handshake.Request.{Request}
use Rattle.ra_base.specs.declared.key.Key.{Key}
use Rattle.ra_base.specs.declared.kind.Kind.TheVariants.{Tunnel}
use Rattle.ra_upgrade.specs.declared.request_head.HeadFault.{HeadFault}
use Rattle.ra_upgrade.specs.declared.request_head.Upgrade.{Upgrade}
use Rattle.ra_upgrade.specs.AnswerTexts.{answer_text}
use Rattle.ra_upgrade.specs.RequestTexts.{key_text}
use Rattle.ra_items.specs.Heads.{Head}
use Rattle.ra_sign.specs.Signature.{signature_text}
use Rattle.ra_shake.specs.Made.{made_text}
use Rattle.ra_shake.specs.Texts.{sign_text}
use Rattle.ra_opening.specs.declared.ends.OpeningEnd.{OpeningEnd}
use Rattle.ra_opening.specs.declared.ends.OpeningEnd.TheVariants as opening_ends
use Rattle.ra_opening.specs.Comes.{IsPart}
use Rattle.ra_opening.specs.Openings.{Opened, opened, Stage}
use Rattle.ra_opening.specs.Openings.Stage.{Heading, Shaking, Asked, Over}
use Rattle.ra_opening.specs.Verdicts.{refusal_bytes}
use Rattle.ra_opening.proofs.LawLemmas.{written_stays}
use Rattle.ra_dial.specs.Handshakes.{in_frame}
use Rattle.ra_hub.specs.Hubs.{Hub, row}
use Rattle.ra_link_core.specs.LinkRuns.{Serving, Welcome, asked, opening_by, opening_came}
use Rattle.ra_grand_runs.specs.Draws.{own_then, first_draws}
use Rattle.ra_grand_runs.specs.GrandClients.{GrandLink}
use Rattle.ra_grand_runs.specs.SetUps.{secret, grounds}
use Rattle.ra_run_laws.proofs.Lists.{none_there}
use Rattle.ra_handshake_laws.specs.Handshakes.{client_text, greeting, request_for, OpensAt, Speaks}
use Rattle.ra_handshake_laws.proofs.OpenedFronts.{opens, draws}
use Rattle.ra_link_laws.specs.Parts.{Drawn, HasWelcome, IsWaiting, opening_of, IsOpening, LinkKeeps}
use Rattle.ra_link_laws.proofs.HubMoves.{OthersStay, same_hub}
use Rattle.ra_link_laws.proofs.ServedAdmissions.{IsNew, HasAsked, over_now, asked_stands}
use Rattle.ra_link_laws.proofs.ServedFocus.{Ground, Focus}
use Rattle.ra_link_laws.proofs.ServedMoves.{focus_moved}
use Rattle.ra_link_laws.proofs.ServedRuns.{link_after, put_first, Stands, going_stands}
use Rattle.ra_link_laws.proofs.ServedTexts.{Follows, IsPut, keeps_put, below_put, welcome_none, opening_so, opening_stands}

-- ---- texts

text_front : (n : ℕ) (written rest whole : List ℕ) → written ++ rest ≡ whole → take n written ++ (drop n written ++ rest) ≡ whole
text_front n written rest whole is = sym (append_assoc (take n written) (drop n written) rest) ∙ ap (λ (t : List ℕ). t ++ rest) (take-append-drop n written) ∙ is

nothing_left : (text left : List ℕ) → text ++ left ≡ text → left ≡ []
nothing_left text left is = append_cancel_left text left [] (is ∙ sym (append-nil text))

first_nothing : (xs ys : List ℕ) → xs ++ ys ≡ [] → xs ≡ []
first_nothing [] ys is = refl
first_nothing (x ∷ xs) ys is = absurd cc

-- a front that is the whole is all that was written
all_written : (n : ℕ) (written rest whole : List ℕ) → written ++ rest ≡ whole → take n written ≡ whole → written ≡ whole
all_written n written rest whole is all =
    let left : drop n written ++ rest ≡ [] = nothing_left (take n written) (drop n written ++ rest) (text_front n written rest whole is ∙ sym all) in
    let none : drop n written ≡ [] = first_nothing (drop n written) rest left in
    sym (take-append-drop n written) ∙ ap (λ (t : List ℕ). take n written ++ t) none ∙ append-nil (take n written) ∙ all

-- ---- a link whose handshake goes on

pub record IsShaking (g : Ground) (h : Hub) (bytes : List ℕ) (s : Serving) : Type 0 where
  pub kind : g.owner.kind ≢ Tunnel
  pub focus : Focus g (s.hub.session g.owner) (row s.hub g.owner) g.link
  pub others : OthersStay g.owner h s.hub
  pub over : g.link.server.is_over ≡ false
  pub none : g.link.server.seat ≡ None
  pub seat : s.seat ≡ None
  pub welcome : s.welcome ≡ g.link.server.welcome
  pub goes_on : s.end ≡ None
  pub follows : Follows bytes g.link.link.to_b

-- what was read of it is a front of all that the client writes
pub record Fronts (g : Ground) (bytes : List ℕ) : Type 0 where
  pub theirs : List ℕ
  pub rest : List ℕ
  pub all : g.link.link.to_b.written ++ rest ≡ client_text g.owner (g.draws g.place).reconnection (g.draws g.place).key (g.draws g.place).own theirs
  pub text : g.link.server.seen ++ bytes ≡ take (g.link.link.to_b.read + length bytes) g.link.link.to_b.written
  pub left : List ℕ
  pub front : (g.link.server.seen ++ bytes) ++ left ≡ client_text g.owner (g.draws g.place).reconnection (g.draws g.place).key (g.draws g.place).own theirs
  pub before : List ℕ
  pub seen : g.link.server.seen ++ before ≡ client_text g.owner (g.draws g.place).reconnection (g.draws g.place).key (g.draws g.place).own theirs

opening_was : (g : Ground) (h : Hub) (bytes : List ℕ) (s : Serving) → IsShaking g h bytes s → IsOpening g.link.server
opening_was g h bytes s x =
    opening_so g.owner x.focus.session_links x.focus.present g.link g.link.server.is_over g.link.server.seat x.over x.none x.focus.here.end

pub fronts : (g : Ground) (h : Hub) (bytes : List ℕ) (s : Serving) → IsShaking g h bytes s → Fronts g bytes
fronts g h bytes s x =
    let d : Drawn = g.draws g.place in
    let has : HasWelcome g.owner d x.focus.session_links g.link None =
    subst (λ (o : Option Welcome). HasWelcome g.owner d x.focus.session_links g.link o) (opening_was g h bytes s x).welcome x.focus.here.welcome in
    let whole : List ℕ = client_text g.owner d.reconnection d.key d.own has.0 in
    let written : List ℕ = g.link.link.to_b.written in
    let read : ℕ = g.link.link.to_b.read in
    let text : g.link.server.seen ++ bytes ≡ take (read + length bytes) written = ap (λ (t : List ℕ). t ++ bytes) x.focus.here.seen ∙ sym x.follows.front in
    record {
      theirs = has.0;
      rest = has.1;
      all = has.2;
      text = text;
      left = drop (read + length bytes) written ++ has.1;
      front = ap (λ (t : List ℕ). t ++ (drop (read + length bytes) written ++ has.1)) text ∙ text_front (read + length bytes) written has.1 whole has.2;
      before = drop read written ++ has.1;
      seen = ap (λ (t : List ℕ). t ++ (drop read written ++ has.1)) x.focus.here.seen ∙ text_front read written has.1 whole has.2;
    }

-- the opening of what came, with the draws of the link and then those that come
abbrev pub opened_now : Ground → (ℕ → List ℕ) → List ℕ → Opened
opened_now g next bytes = opened (grounds (own_then g.link.server.drawn next)) g.link.server.head (g.link.server.seen ++ bytes)

abbrev pub first_draw : Ground → (ℕ → List ℕ) → List ℕ
first_draw g next = own_then g.link.server.drawn next 0

-- it depends on the first draw alone
opened_alone : (g : Ground) (h : Hub) (next : ℕ → List ℕ) (bytes : List ℕ) (s : Serving) → IsShaking g h bytes s
    → opened_now g next bytes ≡ opened (grounds (λ n. first_draw g next)) g.link.server.head (g.link.server.seen ++ bytes)
opened_alone g h next bytes s x =
    let d : Drawn = g.draws g.place in
    let b : Fronts g bytes = fronts g h bytes s x in
    subst (λ (head : Head Upgrade HeadFault). opened (grounds (own_then g.link.server.drawn next)) head (g.link.server.seen ++ bytes)
    ≡ opened (grounds (λ n. first_draw g next)) head (g.link.server.seen ++ bytes)) (sym x.focus.here.head)
    (draws g.owner d.reconnection d.key d.own b.theirs (own_then g.link.server.drawn next) (g.link.server.seen ++ bytes) b.left x.kind b.front)

pub opens_now : (g : Ground) (h : Hub) (next : ℕ → List ℕ) (bytes : List ℕ) (s : Serving) (x : IsShaking g h bytes s)
    → OpensAt g.owner (g.draws g.place).reconnection (g.draws g.place).key (g.draws g.place).own (fronts g h bytes s x).theirs (first_draw g next) (g.link.server.seen ++ bytes)
    (opened_now g next bytes).stage (opened_now g next bytes)
opens_now g h next bytes s x =
    let d : Drawn = g.draws g.place in
    let b : Fronts g bytes = fronts g h bytes s x in
    subst (λ (head : Head Upgrade HeadFault). OpensAt g.owner d.reconnection d.key d.own b.theirs (first_draw g next) (g.link.server.seen ++ bytes)
    (opened (grounds (own_then g.link.server.drawn next)) head (g.link.server.seen ++ bytes)).stage
    (opened (grounds (own_then g.link.server.drawn next)) head (g.link.server.seen ++ bytes))) (sym x.focus.here.head)
    (opens g.owner d.reconnection d.key d.own b.theirs (own_then g.link.server.drawn next) (g.link.server.seen ++ bytes) b.left x.kind b.front)

-- ---- what was written before stays

opens_was : (g : Ground) (h : Hub) (bytes : List ℕ) (s : Serving) (x : IsShaking g h bytes s)
    → OpensAt g.owner (g.draws g.place).reconnection (g.draws g.place).key (g.draws g.place).own (fronts g h bytes s x).theirs (opening_was g h bytes s x).draw g.link.server.seen
    (opening_of (opening_was g h bytes s x).draw g.link.server).stage (opening_of (opening_was g h bytes s x).draw g.link.server)
opens_was g h bytes s x =
    let d : Drawn = g.draws g.place in
    let b : Fronts g bytes = fronts g h bytes s x in
    let draw : List ℕ = (opening_was g h bytes s x).draw in
    subst (λ (head : Head Upgrade HeadFault). OpensAt g.owner d.reconnection d.key d.own b.theirs draw g.link.server.seen
    (opened (grounds (λ n. draw)) head g.link.server.seen).stage (opened (grounds (λ n. draw)) head g.link.server.seen)) (sym x.focus.here.head)
    (opens g.owner d.reconnection d.key d.own b.theirs (λ n. draw) g.link.server.seen b.before x.kind b.seen)

first_same : (drawn : List (List ℕ)) (count : ℕ) (draw : List ℕ) (next : ℕ → List ℕ) → drawn ≡ first_draws count (λ n. draw) → count ≡ 1 → own_then drawn next 0 ≡ draw
first_same drawn count draw next is one =
    ap (λ (ds : List (List ℕ)). own_then ds next 0) is ∙ ap (λ (k : ℕ). own_then (first_draws k (λ n. draw)) next 0) one

grows_by : (g : Ground) (h : Hub) (next : ℕ → List ℕ) (bytes : List ℕ) (s : Serving) (x : IsShaking g h bytes s) (stage : Stage) → IsWaiting stage
    → OpensAt g.owner (g.draws g.place).reconnection (g.draws g.place).key (g.draws g.place).own (fronts g h bytes s x).theirs (opening_was g h bytes s x).draw g.link.server.seen
    stage (opening_of (opening_was g h bytes s x).draw g.link.server) → (more : List ℕ) × ((opened_now g next bytes).out ≡ g.link.server.out ++ more)
grows_by g h next bytes s x Heading waits at =
    let out : List ℕ = (opened_now g next bytes).out in
    (out, sym (ap (λ (t : List ℕ). t ++ out) ((opening_was g h bytes s x).out ∙ at.0)))
grows_by g h next bytes s x (Shaking state) waits at =
    let was : IsOpening g.link.server = opening_was g h bytes s x in
    let head : Head Upgrade HeadFault = g.link.server.head in
    let seen : List ℕ = g.link.server.seen in
    let first : first_draw g next ≡ was.draw = first_same g.link.server.drawn (opening_of was.draw g.link.server).drawn was.draw next was.drawn at.1 in
    let part : IsPart (opened (grounds (λ n. was.draw)) head seen) (opened (grounds (λ n. was.draw)) head (seen ++ bytes)) = written_stays (grounds (λ n. was.draw)) head seen bytes in
    let same : opened_now g next bytes ≡ opened (grounds (λ n. was.draw)) head (seen ++ bytes) =
    opened_alone g h next bytes s x ∙ ap (λ (draw : List ℕ). opened (grounds (λ n. draw)) head (seen ++ bytes)) first in
    (part.more, ap (λ (o : Opened). o.out) same ∙ part.out ∙ ap (λ (t : List ℕ). t ++ part.more) (sym was.out))
grows_by g h next bytes s x (Asked request place) waits at = absurd waits
grows_by g h next bytes s x (Over end) waits at = absurd waits

grows_out : (g : Ground) (h : Hub) (next : ℕ → List ℕ) (bytes : List ℕ) (s : Serving) → IsShaking g h bytes s → (more : List ℕ) × ((opened_now g next bytes).out ≡ g.link.server.out ++ more)
grows_out g h next bytes s x =
    let was : IsOpening g.link.server = opening_was g h bytes s x in
    grows_by g h next bytes s x (opening_of was.draw g.link.server).stage was.waits (opens_was g h bytes s x)

-- ---- the link, once the opening has come so far

abbrev pub come : Ground → (ℕ → List ℕ) → List ℕ → Serving → Serving
come g next bytes s = record s { out = (opened_now g next bytes).out; drawn = (opened_now g next bytes).drawn }

pub new_now : (g : Ground) (h : Hub) (next : ℕ → List ℕ) (bytes : List ℕ) (s : Serving) → IsShaking g h bytes s → IsNew g h bytes (come g next bytes s)
new_now g h next bytes s x =
    let none : g.link.server.welcome ≡ None = (opening_was g h bytes s x).welcome in
    let grows = grows_out g h next bytes s x in
    record {
      focus = x.focus;
      others = x.others;
      none = none;
      welcome = x.welcome ∙ none;
      seat = x.seat;
      goes_on = x.goes_on;
      more = grows.0;
      grows = grows.1;
      follows = x.follows;
    }

-- the handshake goes on
waits_so : (g : Ground) (h : Hub) (next : ℕ → List ℕ) (bytes : List ℕ) (now : ℕ) (s : Serving) → IsShaking g h bytes s → IsWaiting (opened_now g next bytes).stage
    → first_draws (opened_now g next bytes).drawn (own_then g.link.server.drawn next) ≡ first_draws (opened_now g next bytes).drawn (λ n. first_draw g next)
    → Speaks g.owner.kind (g.draws g.place).key None (opened_now g next bytes).out
    → Stands g h (own_then g.link.server.drawn next) bytes now (come g next bytes s)
waits_so g h next bytes now s x waits drawn speaks =
    let d : Drawn = g.draws g.place in
    let draw : ℕ → List ℕ = own_then g.link.server.drawn next in
    let t : Serving = come g next bytes s in
    let new : IsNew g h bytes t = new_now g h next bytes s x in
    let f = new.focus in
    let after : GrandLink = link_after bytes false t g.link draw in
    let put : IsPut new.more g.link after bytes = put_first bytes false t g.link draw new.more new.grows in
    let alone : opened_now g next bytes ≡ opening_of (first_draw g next) after.server = opened_alone g h next bytes s x in
    let is : IsOpening after.server = record {
      draw = first_draw g next;
      welcome = new.welcome;
      waits = subst (λ (o : Opened). IsWaiting o.stage) alone waits;
      out = ap (λ (o : Opened). o.out) alone;
      drawn = drawn ∙ ap (λ (o : Opened). first_draws o.drawn (λ n. first_draw g next)) alone;
    } in
    let here : LinkKeeps g.owner d f.session_links f.present after =
    keeps_put g.owner d f.session_links f.session_links f.present f.present g.link after bytes new.more f.here new.follows put
    (subst (λ (o : Option Welcome). Speaks g.owner.kind d.key o t.out) (sym new.welcome) speaks)
    (welcome_none g.owner d f.session_links f.session_links g.link after bytes new.more put new.none new.welcome f.here.welcome)
    (opening_stands g.owner f.session_links f.present after false s.seat refl new.seat is) in
    going_stands g h draw bytes now t new.goes_on
    (record {
      focus = focus_moved g (s.hub.session g.owner) (row s.hub g.owner) g.link after f here
          (below_put g.owner d f.session_links f.present g.link g.link after bytes new.more f.here put (λ v at. none_there (sym new.none ∙ at)) f.stays) (new.welcome ∙ sym new.none);
      others = new.others;
      front = record { rest = new.more; same = new.grows };
    })

-- a front of what it says, where it would be refused
pub speaks_answer : (owner : Key) (key own theirs out : List ℕ) → (out ≡ answer_text (key_text key)) ⊎ (out ≡ greeting key own theirs) → Speaks owner.kind key None out
speaks_answer owner key own theirs out (inl is) =
    let sign : List ℕ = in_frame (sign_text (made_text own) (signature_text secret theirs)) in
    (own, theirs, UnknownKind, sign ++ refusal_bytes UnknownKind, ap (λ (t : List ℕ). t ++ (sign ++ refusal_bytes UnknownKind)) is ∙ sym (append_assoc (answer_text (key_text key)) sign (refusal_bytes UnknownKind)))
speaks_answer owner key own theirs out (inr is) =
    (own, theirs, UnknownKind, refusal_bytes UnknownKind, ap (λ (t : List ℕ). t ++ refusal_bytes UnknownKind) is)

pub speaks_nothing : (owner : Key) (key own theirs out : List ℕ) → out ≡ [] → Speaks owner.kind key None out
speaks_nothing owner key own theirs out none =
    let all : List ℕ = greeting key own theirs ++ refusal_bytes UnknownKind in
    (own, theirs, UnknownKind, all, ap (λ (t : List ℕ). t ++ all) none)

-- ---- the client has asked

pub asked_now : (g : Ground) (h : Hub) (next : ℕ → List ℕ) (bytes : List ℕ) (s : Serving) (x : IsShaking g h bytes s) (place : ℕ)
    → g.link.server.seen ++ bytes ≡ client_text g.owner (g.draws g.place).reconnection (g.draws g.place).key (g.draws g.place).own (fronts g h bytes s x).theirs
    → place ≡ length (g.link.server.seen ++ bytes) → (opened_now g next bytes).out ≡ greeting (g.draws g.place).key (first_draw g next) (made_text (g.draws g.place).own)
    → HasAsked g (first_draw g next) bytes place (come g next bytes s)
asked_now g h next bytes s x place whole at out =
    let b : Fronts g bytes = fronts g h bytes s x in
    let written : List ℕ = g.link.link.to_b.written in
    let read : ℕ = g.link.link.to_b.read in
    let all : written ≡ client_text g.owner (g.draws g.place).reconnection (g.draws g.place).key (g.draws g.place).own b.theirs =
    all_written (read + length bytes) written b.rest _ b.all (sym b.text ∙ whole) in
    record {
      out = out;
      theirs = b.theirs;
      all = all;
      at = at ∙ ap (λ (t : List ℕ). length t) (whole ∙ sym all);
      read = at ∙ ap (λ (t : List ℕ). length t) b.text ∙ length-take-le (read + length bytes) written x.follows.within;
    }

asks_so : (g : Ground) (h : Hub) (draw : ℕ → List ℕ) (first bytes text : List ℕ) (request : Request) (place now : ℕ) (t : Serving) → IsNew g h bytes t → HasAsked g first bytes place t
    → request ≡ request_for g.owner (g.draws g.place).reconnection → drop place text ≡ [] → Stands g h draw bytes now (asked request place (drop place text) now t)
asks_so g h draw first bytes text request place now t new asks is none =
    subst (λ (r : Request). Stands g h draw bytes now (asked r place (drop place text) now t)) (sym is)
    (subst (λ (chunk : List ℕ). Stands g h draw bytes now (asked (request_for g.owner (g.draws g.place).reconnection) place chunk now t)) (sym none)
    (asked_stands g h draw first bytes place now t new asks))

-- ---- any stage

came_by : (g : Ground) (h : Hub) (next : ℕ → List ℕ) (bytes : List ℕ) (now : ℕ) (s : Serving) (x : IsShaking g h bytes s) (stage : Stage) → (opened_now g next bytes).stage ≡ stage
    → OpensAt g.owner (g.draws g.place).reconnection (g.draws g.place).key (g.draws g.place).own (fronts g h bytes s x).theirs (first_draw g next) (g.link.server.seen ++ bytes)
    stage (opened_now g next bytes)
    → Stands g h (own_then g.link.server.drawn next) bytes now (opening_by stage (g.link.server.seen ++ bytes) now (come g next bytes s))
came_by g h next bytes now s x Heading is at =
    let d : Drawn = g.draws g.place in
    let draw : ℕ → List ℕ = own_then g.link.server.drawn next in
    waits_so g h next bytes now s x (subst (λ (st : Stage). IsWaiting st) (sym is) tt)
    (ap (λ (n : ℕ). first_draws n draw) at.1 ∙ sym (ap (λ (n : ℕ). first_draws n (λ k. first_draw g next)) at.1))
    (speaks_nothing g.owner d.key (first_draw g next) (made_text d.own) (opened_now g next bytes).out at.0)
came_by g h next bytes now s x (Shaking state) is at =
    let d : Drawn = g.draws g.place in
    let draw : ℕ → List ℕ = own_then g.link.server.drawn next in
    waits_so g h next bytes now s x (subst (λ (st : Stage). IsWaiting st) (sym is) tt)
    (ap (λ (n : ℕ). first_draws n draw) at.1 ∙ sym (ap (λ (n : ℕ). first_draws n (λ k. first_draw g next)) at.1))
    (speaks_answer g.owner d.key (first_draw g next) (made_text d.own) (opened_now g next bytes).out at.0)
came_by g h next bytes now s x (Asked request place) is at =
    let text : List ℕ = g.link.server.seen ++ bytes in
    let size : place ≡ length text = at.2 in
    asks_so g h (own_then g.link.server.drawn next) (first_draw g next) bytes text request place now (come g next bytes s) (new_now g h next bytes s x)
    (asked_now g h next bytes s x place at.1 size at.3) at.0 (drop_all place text (omega (arith, size)))
came_by g h next bytes now s x (Over end) is at =
    let d : Drawn = g.draws g.place in
    let draw : ℕ → List ℕ = own_then g.link.server.drawn next in
    let t : Serving = come g next bytes s in
    let new : IsNew g h bytes t = new_now g h next bytes s x in
    subst (λ (e : OpeningEnd). Stands g h draw bytes now (opening_by (Over e) (g.link.server.seen ++ bytes) now t)) (sym at.1)
    (over_now g h draw bytes now t (opening_by (Over (opening_ends.Refused at.0)) (g.link.server.seen ++ bytes) now t) new [] (same_hub g.owner t.hub) (sym (append-nil t.out)) new.seat new.welcome
    (first_draw g next, made_text d.own, at.0, [], append-nil t.out ∙ at.2))

pub shaking_stands : (g : Ground) (h : Hub) (next : ℕ → List ℕ) (bytes : List ℕ) (now : ℕ) (s : Serving) → IsShaking g h bytes s
    → Stands g h (own_then g.link.server.drawn next) bytes now (opening_came (opened_now g next bytes) (g.link.server.seen ++ bytes) now s)
shaking_stands g h next bytes now s x = came_by g h next bytes now s x (opened_now g next bytes).stage refl (opens_now g h next bytes s x)
