-- A session takes a turn on the link of its seat, and begins on it: what holds of the link and of the session then.
use Rattle.std.proofs.Common.{◌≡◌, inl, inr, ℕ, ◌+◌, ◌<◌, ◌≤◌, Bool, true, false, eqb, cond, Option, Some, None, option_map, List, [], ◌∷◌, ◌++◌, length, take, refl, ap, sym, ◌∙◌, subst, arith, append-nil, append_assoc}
use Rattle.std.specs.Prelude.{◌⊎◌, nat_le, not}
use Rattle.std.specs.Option.{is_some}
use Rattle.std.proofs.lemmas.Bool.{eqb-true, leb-false}
use Rattle.std.proofs.lemmas.List.{length-append, length-take-le, set-set}
use Rattle.ra_base.specs.declared.event.Side.TheVariants.{A, B}
use Rattle.ra_base.specs.declared.key.Cause.{Cause}
use Rattle.ra_base.specs.declared.key.Key.{Key}
use Rattle.ra_base.specs.declared.key.Seat.{Seat}
use Rattle.ra_base.specs.declared.kind.Kind.{Kind}
use Rattle.ra_model.specs.Endpoints.{is_linked}
use Rattle.ra_model.specs.Links.{Link, at_number, put_number, readable, read_on, written_to}
use Rattle.ra_model.specs.Pairs.{messages, IsJoining}
use Rattle.ra_model.specs.Refusals.{or_fault, fault_if}
use Rattle.ra_model.specs.Views.{View}
use Rattle.ra_model.specs.Worlds.{Peer}
use Rattle.ra_model.proofs.Sound.{turned}
use Rattle.ra_registry.specs.declared.row.Row.{Row}
use Rattle.ra_session.specs.OnLinks.{IsRunning}
use Rattle.ra_session.specs.SessionCalls.{attach, feed_session, take_out}
use Rattle.ra_session.specs.SessionRefusals.{ended, stale, no_link, attach_refusal, feed_refusal}
use Rattle.ra_session.specs.Sessions.{Session}
use Rattle.ra_session.specs.Turns.{take_in, take_turn, turn, taken_answer, turn_answer}
use Rattle.ra_views.proofs.LinkTurns.{link_attached, link_turned}
use Rattle.ra_views.proofs.SessionNumbers.{number_turn, number_attach}
use Rattle.ra_views.proofs.SessionsRise.{rises_turn, rises_attach}
use Rattle.ra_opening.specs.Verdicts.{acceptance_bytes}
use Rattle.ra_link_core.specs.LinkRuns.{Welcome}
use Rattle.ra_grand_runs.specs.GrandClients.{GrandLink}
use Rattle.ra_grand_runs.specs.Reached.{Agrees}
use Rattle.ra_run_laws.proofs.Lists.{there_is, number_same}
use Rattle.ra_handshake_laws.specs.Handshakes.{greeting, Speaks}
use Rattle.ra_link_laws.specs.Parts.{Carries, HasWelcome, IsWelcome, IsSeated, WritesWhole}
use Rattle.ra_link_laws.proofs.ServedFocus.{Ground, Focus}
use Rattle.ra_link_laws.proofs.ServedMoves.{focus_session_links}
use Rattle.ra_link_laws.proofs.ServedTexts.{Follows, IsPut, follows_read, follows_nothing, read_session_link, carries_put, carries_read, keeps_put, below_put, welcome_put, written_same, seat_stands, seated_so}
use Rattle.ra_link_laws.proofs.WholeTexts.{joining_later, out_or_none, view_dropped}

abbrev pub seat_at : Key → ℕ → Seat
seat_at owner epoch = record { key = owner; epoch = epoch }

-- ---- a link with its welcome

pub record Welcomed (g : Ground) (s : Option Session) (o : Option Row) (l : GrandLink) (f : Focus g s o l) (epoch : ℕ) : Type 0 where
  pub welcome : Welcome
  pub there : l.server.welcome ≡ Some welcome
  pub number : epoch ≡ welcome.epoch
  pub has : IsWelcome g.owner (g.draws g.place) f.session_links l welcome
  pub said : welcome.down ≤ length l.server.out

pub seated_at : (g : Ground) (s : Option Session) (o : Option Row) (l : GrandLink) (f : Focus g s o l) (epoch : ℕ) → l.server.is_over ≡ false → l.server.seat ≡ Some (seat_at g.owner epoch)
    → IsSeated g.owner f.session_links f.present l (seat_at g.owner epoch)
seated_at g s o l f epoch over at = seated_so g.owner f.session_links f.present l l.server.is_over l.server.seat (seat_at g.owner epoch) over at f.here.end

pub welcomed_at : (g : Ground) (s : Option Session) (o : Option Row) (l : GrandLink) (f : Focus g s o l) (epoch : ℕ) → l.server.is_over ≡ false → l.server.seat ≡ Some (seat_at g.owner epoch)
    → Welcomed g s o l f epoch
welcomed_at g s o l f epoch over at =
    let seated : IsSeated g.owner f.session_links f.present l (seat_at g.owner epoch) = seated_at g s o l f epoch over at in
    record {
      welcome = seated.welcome;
      there = seated.is_there;
      number = seated.number;
      has = subst (λ (q : Option Welcome). HasWelcome g.owner (g.draws g.place) f.session_links l q) seated.is_there f.here.welcome;
      said = seated.said;
    }

-- what was written behind the welcome stays behind it
speaks_more : (kind : Kind) (key out more new : List ℕ) (w : Welcome) → Speaks kind key (Some w) out → w.down ≤ length out → new ≡ out ++ more → Speaks kind key (Some w) new
speaks_more kind key out more new w (own, theirs, agrees, down, pause) said is = (
  own,
  theirs,
  subst (λ (t : List ℕ). Agrees t (greeting key own theirs ++ acceptance_bytes kind)) (sym is)
      (agrees_more out (greeting key own theirs ++ acceptance_bytes kind) more agrees (subst (λ (n : ℕ). n ≤ length out) down said)),
  down,
  pause,
)
  where
    first_is : {x y : ℕ} {xs ys : List ℕ} → x ∷ xs ≡ y ∷ ys → x ≡ y
    first_is e = cc

    rest_is : {x y : ℕ} {xs ys : List ℕ} → x ∷ xs ≡ y ∷ ys → xs ≡ ys
    rest_is e = cc

    front : (text first more rest : List ℕ) → text ++ more ≡ first ++ rest → length first ≤ length text → (left : List ℕ) × (text ≡ first ++ left)
    front text [] more rest same le = (text, refl)
    front [] (x ∷ xs) more rest same le = absurd (omega (arith, le))
    front (t ∷ ts) (x ∷ xs) more rest same le =
        let inner = front ts xs more rest (rest_is same) (omega (arith, le)) in
        (inner.0, ap (λ (y : ℕ). y ∷ ts) (first_is same) ∙ ap (λ (ys : List ℕ). x ∷ ys) inner.1)

    agrees_more : (text first extra : List ℕ) → Agrees text first → length first ≤ length text → Agrees (text ++ extra) first
    agrees_more text first extra a le =
        let b = front text first a.more a.rest a.same le in
        record { more = []; rest = b.0 ++ extra; same = append-nil (text ++ extra) ∙ ap (λ (t : List ℕ). t ++ extra) b.1 ∙ append_assoc first b.0 extra }

-- the session is on the link of this welcome, of which these bytes were read, and on which those were put
pub focus_on : (g : Ground) (s : Option Session) (t : Session) (o : Option Row) (l after : GrandLink) (f : Focus g s o l) (epoch : ℕ) (p : Welcomed g s o l f epoch) (piece more : List ℕ) (y : Link)
    → after.server.is_over ≡ false → after.server.seat ≡ Some (seat_at g.owner epoch) → after.server.welcome ≡ l.server.welcome → IsPut more l after piece → Follows piece l.link.to_b
    → y.to_b.read + p.welcome.up ≡ after.link.to_b.read → y.to_a.read ≡ p.has.session_link.to_a.read → Carries p.welcome after.link y
    → View 0 B p.welcome.epoch g.number t.peer g.near (put_number f.session_links p.welcome.epoch y) → WritesWhole t.peer y → t.peer.endpoint.epoch ≡ p.welcome.epoch → IsRunning t
    → is_some s ≡ true → Focus g (Some t) o after
focus_on g s t o l after f epoch p piece more y over seat same put follows read place carries view whole number runs there =
    let w : Welcome = p.welcome in
    let session_links : List Link = put_number f.session_links w.epoch y in
    let d = g.draws g.place in
    let is : after.server.welcome ≡ Some w = same ∙ p.there in
    let at : at_number session_links w.epoch ≡ Some y = number_same f.session_links w.epoch y p.has.session_link p.has.is_at in
    let size : length after.server.out ≡ length l.server.out + length more = ap (λ (v : List ℕ). length v) put.out ∙ length-append l.server.out more in
    let was : w.down ≤ length l.server.out = p.said in
    let said : w.down ≤ length after.server.out = omega (arith, size, was) in
    let up : after.link.to_b.written ≡ l.link.to_b.written = ap (λ (k : Link). k.to_b.written) put.link in
    let seated : IsSeated g.owner session_links w.epoch after (seat_at g.owner epoch) = record {
      welcome = w;
      is_there = is;
      key = refl;
      number = p.number;
      said = said;
      read = λ _ z here. subst (λ (k : Link). k.to_b.read + w.up ≡ after.link.to_b.read) (there_is (sym at ∙ here)) read;
    } in
    let speaks : Speaks g.owner.kind d.key after.server.welcome after.server.out =
    subst (λ (q : Option Welcome). Speaks g.owner.kind d.key q after.server.out) (sym is)
    (speaks_more g.owner.kind d.key l.server.out more after.server.out w
    (subst (λ (q : Option Welcome). Speaks g.owner.kind d.key q l.server.out) p.there f.here.speaks) was put.out) in
    let welcome : HasWelcome g.owner d session_links after after.server.welcome =
    subst (λ (q : Option Welcome). HasWelcome g.owner d session_links after q) (sym is) (welcome_put g.owner d f.session_links session_links l after w y p.has up at carries) in
    focus_session_links g s (Some t) o l after f w t.peer p.has.session_link y p.there is p.has.is_at place view (refl, number, runs) whole (sym there)
    (keeps_put g.owner d f.session_links session_links f.present w.epoch l after piece more f.here follows put speaks welcome
    (seat_stands g.owner session_links w.epoch after after.server.is_over after.server.seat (seat_at g.owner epoch) over seat seated))
    (below_put g.owner d f.session_links f.present g.link l after piece more f.here put (λ u has. same ∙ has) f.stays)

-- ---- a turn that is not refused

fed_admits : (c : Option Cause) (alike linked : Bool) (n : ℕ)
    → or_fault (option_map (λ cause. ended cause) c) (or_fault (fault_if (not alike) (stale n)) (fault_if (not linked) no_link)) ≡ None → (alike ≡ true) × (linked ≡ true)
fed_admits None true true n is = (refl, refl)
fed_admits None true false n is = cc
fed_admits None false linked n is = cc
fed_admits (Some cause) alike linked n is = cc

-- the seat is that of the session's present link, which is there
pub fed_on : (epoch : ℕ) (s : Session) → feed_refusal epoch s ≡ None → (epoch ≡ s.peer.endpoint.epoch) × (is_linked s.peer.endpoint.phase ≡ true)
unfolding feed_refusal
fed_on epoch s admits =
    let found = fed_admits s.cause (eqb epoch s.peer.endpoint.epoch) (is_linked s.peer.endpoint.phase) s.peer.endpoint.epoch admits in
    (eqb-true epoch s.peer.endpoint.epoch found.0, found.1)

turn_out : (epoch : ℕ) (piece : List ℕ) (now : ℕ) (s : Session) → ((turn_answer epoch piece now s).out ≡ []) ⊎ ((turn epoch piece now s).peer.endpoint.unwritten ≡ [])
unfolding turn take_turn take_out turn_answer taken_answer
turn_out epoch piece now s = out_or_none (take_in now (feed_session epoch piece now s)).peer.endpoint

-- the session in its view, on the session's link that is its present one
pub record OnSessionLink (g : Ground) (s : Session) (session_links : List Link) (n : ℕ) (x : Link) (epoch : ℕ) : Type 0 where
  pub view : View 0 B n g.number s.peer g.near session_links
  pub there : at_number session_links n ≡ Some x
  pub whole : WritesWhole s.peer x
  pub admits : feed_refusal epoch s ≡ None

nothing_put : (cut : Bool) (written out : List ℕ) → out ≡ [] → written ++ cond cut [] out ≡ written
nothing_put true written out none = append-nil written
nothing_put false written out none = ap (λ (t : List ℕ). written ++ t) none ∙ append-nil written

turn_view : (g : Ground) (s : Session) (session_links : List Link) (n : ℕ) (x : Link) (epoch : ℕ) (piece : List ℕ) (j now : ℕ) → OnSessionLink g s session_links n x epoch → j ≤ length (readable B x)
    → piece ≡ take j (readable B x)
    → View 0 B n g.number (turn epoch piece now s).peer g.near (put_number session_links n (written_to A (turn_answer epoch piece now s).out (read_on B j x)))
turn_view g s session_links n x epoch piece j now on fits is =
    subst (λ (t : List ℕ). View 0 B n g.number (turn epoch t now s).peer g.near (put_number session_links n (written_to A (turn_answer epoch t now s).out (read_on B j x)))) (sym is)
    (link_turned 0 B n g.number s g.near session_links on.view j epoch now x on.there fits on.admits)

-- where nothing goes out, all that is on the link was there
same_text : (epoch : ℕ) (piece : List ℕ) (now : ℕ) (g : Ground) (s : Session) (session_links : List Link) (n : ℕ) (x : Link) → OnSessionLink g s session_links n x epoch → x.is_cut ≡ false
    → IsJoining 0 (messages (turn epoch piece now s).peer.endpoint) (turn epoch piece now s).peer.endpoint.received x.to_a.written
same_text epoch piece now g s session_links n x on kept =
    joining_later s.peer (turn epoch piece now s).peer x.to_a.written (rises_turn epoch piece now s) (on.whole kept (fed_on epoch s on.admits).1)

turn_whole : (g : Ground) (s : Session) (session_links : List Link) (n : ℕ) (x : Link) (epoch : ℕ) (piece : List ℕ) (j now : ℕ) → OnSessionLink g s session_links n x epoch → j ≤ length (readable B x)
    → piece ≡ take j (readable B x) → WritesWhole (turn epoch piece now s).peer (written_to A (turn_answer epoch piece now s).out (read_on B j x))
turn_whole g s session_links n x epoch piece j now on fits is kept up = by (turn_out epoch piece now s)
  where
    after : Peer
    after = (turn epoch piece now s).peer

    out : List ℕ
    out = (turn_answer epoch piece now s).out

    y : Link
    y = written_to A out (read_on B j x)

    by : (out ≡ []) ⊎ (after.endpoint.unwritten ≡ []) → IsJoining 0 (messages after.endpoint) after.endpoint.received y.to_a.written
    by (inl none) =
        subst (λ (t : List ℕ). IsJoining 0 (messages after.endpoint) after.endpoint.received t) (sym (nothing_put x.is_cut x.to_a.written out none))
        (same_text epoch piece now g s session_links n x on kept)
    by (inr none) =
        let v = turn_view g s session_links n x epoch piece j now on fits is in
        subst (λ (t : List ℕ). IsJoining 0 (messages after.endpoint) after.endpoint.received t) (append-nil y.to_a.written)
        (subst (λ (t : List ℕ). IsJoining 0 (messages after.endpoint) after.endpoint.received (y.to_a.written ++ t)) none
        (subst (λ (b : ℕ). IsJoining b (messages after.endpoint) after.endpoint.received (y.to_a.written ++ after.endpoint.unwritten)) v.base
        (v.mine.whole y (number_same session_links n y x on.there) kept up)))

-- ---- a turn whose bytes are dropped

put_again : {X : Type 0} → (xs : List X) (n : ℕ) (x y : X) → put_number (put_number xs n x) n y ≡ put_number xs n y
put_again xs ℕ.zero x y = refl
put_again xs (ℕ.suc n) x y = set-set xs n x y

nothing_on : (out : List ℕ) (j : ℕ) (x : Link) → out ≡ [] → written_to A out (read_on B j x) ≡ read_on B j x
nothing_on out j x none =
    ap (λ (t : List ℕ). record { to_a = record { written = t; read = x.to_a.read }; to_b = record { written = x.to_b.written; read = x.to_b.read + j }; is_cut = x.is_cut })
    (nothing_put x.is_cut x.to_a.written out none)

dropped_view : (g : Ground) (s : Session) (session_links : List Link) (n : ℕ) (x : Link) (epoch : ℕ) (piece : List ℕ) (j now : ℕ) → OnSessionLink g s session_links n x epoch → j ≤ length (readable B x)
    → piece ≡ take j (readable B x) → View 0 B n g.number (turn epoch piece now s).peer g.near (put_number session_links n (read_on B j x))
dropped_view g s session_links n x epoch piece j now on fits is = by (turn_out epoch piece now s)
  where
    after : Peer
    after = (turn epoch piece now s).peer

    out : List ℕ
    out = (turn_answer epoch piece now s).out

    y : Link
    y = written_to A out (read_on B j x)

    v : View 0 B n g.number after g.near (put_number session_links n y)
    v = turn_view g s session_links n x epoch piece j now on fits is

    by : (out ≡ []) ⊎ (after.endpoint.unwritten ≡ []) → View 0 B n g.number after g.near (put_number session_links n (read_on B j x))
    by (inl none) = subst (λ (k : Link). View 0 B n g.number after g.near (put_number session_links n k)) (nothing_on out j x none) v
    by (inr none) =
        subst (λ (ls : List Link). View 0 B n g.number after g.near ls) (put_again session_links n y (read_on B j x))
        (view_dropped n g.number after g.near (put_number session_links n y) y x.to_a.written (cond x.is_cut [] out) v (number_same session_links n y x on.there) none refl
        (on.view.their_reads.inside n x on.there) (λ kept up. same_text epoch piece now g s session_links n x on kept))

-- ---- the link of the seat, in a turn

pub record TurnsAt (g : Ground) (s : Session) (o : Option Row) (l : GrandLink) (f : Focus g (Some s) o l) (epoch : ℕ) (piece : List ℕ) (j : ℕ) : Type 0 where
  pub own : Welcomed g (Some s) o l f epoch
  pub on : OnSessionLink g s f.session_links own.welcome.epoch own.has.session_link epoch
  pub fits : j ≤ length (readable B own.has.session_link)
  pub is : piece ≡ take j (readable B own.has.session_link)
  pub size : length piece ≡ j
  pub read : own.has.session_link.to_b.read + own.welcome.up ≡ l.link.to_b.read

pub turns_at : (g : Ground) (s : Session) (o : Option Row) (l : GrandLink) (f : Focus g (Some s) o l) (epoch : ℕ) (piece : List ℕ) (j : ℕ) → l.server.is_over ≡ false
    → l.server.seat ≡ Some (seat_at g.owner epoch) → feed_refusal epoch s ≡ None → j ≤ length (readable B l.link) → piece ≡ take j (readable B l.link) → TurnsAt g s o l f epoch piece j
turns_at g s o l f epoch piece j over at admits fits is =
    let own : Welcomed g (Some s) o l f epoch = welcomed_at g (Some s) o l f epoch over at in
    let w : Welcome = own.welcome in
    let x : Link = own.has.session_link in
    let fed : epoch ≡ s.peer.endpoint.epoch = (fed_on epoch s admits).0 in
    let here : epoch ≡ f.present = fed ∙ f.server.1 in
    let present : f.present ≡ w.epoch = sym here ∙ own.number in
    let there : at_number f.session_links f.present ≡ Some x = ap (λ (n : ℕ). at_number f.session_links n) present ∙ own.has.is_at in
    let read : x.to_b.read + w.up ≡ l.link.to_b.read = (seated_read (seated_at g (Some s) o l f epoch over at) own.there here x there) in
    let same : readable B x ≡ readable B l.link = read_session_link w l.link x own.has.carries read in
    record {
      own = own;
      on = record {
        view = subst (λ (n : ℕ). View 0 B n g.number s.peer g.near f.session_links) present
            (subst (λ (p : Peer). View 0 B f.present g.number p g.near f.session_links) f.server.0 (turned 0 A g.number f.present g.near f.peer f.session_links f.view));
        there = own.has.is_at;
        whole = subst (λ (p : Peer). WritesWhole p x) f.server.0 (f.whole x there);
        admits = admits;
      };
      fits = subst (λ (t : List ℕ). j ≤ length t) (sym same) fits;
      is = is ∙ ap (λ (t : List ℕ). take j t) (sym same);
      size = ap (λ (t : List ℕ). length t) is ∙ length-take-le j (readable B l.link) fits;
      read = read;
    }
  where
    seated_read : IsSeated g.owner f.session_links f.present l (seat_at g.owner epoch) → {w : Welcome} → l.server.welcome ≡ Some w → epoch ≡ f.present → (x : Link)
        → at_number f.session_links f.present ≡ Some x → x.to_b.read + w.up ≡ l.link.to_b.read
    seated_read seated there here x is = subst (λ (u : Welcome). x.to_b.read + u.up ≡ l.link.to_b.read) (there_is (sym seated.is_there ∙ there)) (seated.read here x is)

pub focus_turned : (g : Ground) (s : Session) (o : Option Row) (l after : GrandLink) (f : Focus g (Some s) o l) (epoch : ℕ) (piece : List ℕ) (j now : ℕ) → l.server.is_over ≡ false
    → l.server.seat ≡ Some (seat_at g.owner epoch) → feed_refusal epoch s ≡ None → j ≤ length (readable B l.link) → piece ≡ take j (readable B l.link)
    → after.server.is_over ≡ false → after.server.seat ≡ Some (seat_at g.owner epoch) → after.server.welcome ≡ l.server.welcome
    → IsPut (turn_answer epoch piece now s).out l after piece → Focus g (Some (turn epoch piece now s)) o after
focus_turned g s o l after f epoch piece j now over at admits fits is over' at' same put =
    let t : TurnsAt g s o l f epoch piece j = turns_at g s o l f epoch piece j over at admits fits is in
    let w : Welcome = t.own.welcome in
    let x : Link = t.own.has.session_link in
    let out : List ℕ = (turn_answer epoch piece now s).out in
    let number = number_turn epoch piece now s in
    let read : after.link.to_b.read ≡ l.link.to_b.read + length piece = ap (λ (k : Link). k.to_b.read) put.link in
    let was = t.read in
    let size = t.size in
    let said : w.down ≤ length l.server.out = t.own.said in
    focus_on g (Some s) (turn epoch piece now s) o l after f epoch t.own piece out (written_to A out (read_on B j x)) over' at' same put
    (follows_read l.link piece j f.here.up is) (omega (arith, read, was, size)) refl
    (carries_put w l.link x after.link j (length piece) out t.own.has.carries (λ kept. subst (λ (v : List ℕ). w.down ≤ length v) (sym (f.here.put_all kept)) said) put.link)
    (turn_view g s f.session_links w.epoch x epoch piece j now t.on t.fits t.is) (turn_whole g s f.session_links w.epoch x epoch piece j now t.on t.fits t.is)
    (number.0 ∙ sym (fed_on epoch s admits).0 ∙ t.own.number) (number.1 f.server.2) refl

-- the turn is made, and nothing is put on the link
pub focus_spoiled : (g : Ground) (s : Session) (o : Option Row) (l after : GrandLink) (f : Focus g (Some s) o l) (epoch : ℕ) (piece : List ℕ) (j now : ℕ) → l.server.is_over ≡ false
    → l.server.seat ≡ Some (seat_at g.owner epoch) → feed_refusal epoch s ≡ None → j ≤ length (readable B l.link) → piece ≡ take j (readable B l.link)
    → after.server.is_over ≡ false → after.server.seat ≡ Some (seat_at g.owner epoch) → after.server.welcome ≡ l.server.welcome
    → IsPut [] l after piece → Focus g (Some (turn epoch piece now s)) o after
focus_spoiled g s o l after f epoch piece j now over at admits fits is over' at' same put =
    let t : TurnsAt g s o l f epoch piece j = turns_at g s o l f epoch piece j over at admits fits is in
    let w : Welcome = t.own.welcome in
    let x : Link = t.own.has.session_link in
    let number = number_turn epoch piece now s in
    let read : after.link.to_b.read ≡ l.link.to_b.read + length piece = ap (λ (k : Link). k.to_b.read) put.link in
    let was = t.read in
    let size = t.size in
    focus_on g (Some s) (turn epoch piece now s) o l after f epoch t.own piece [] (read_on B j x) over' at' same put
    (follows_read l.link piece j f.here.up is) (omega (arith, read, was, size)) refl
    (carries_read w l.link x after.link j t.own.has.carries (ap (λ (k : Link). k.to_b.written) put.link) (written_same l after piece put) (ap (λ (k : Link). k.is_cut) put.link))
    (dropped_view g s f.session_links w.epoch x epoch piece j now t.on t.fits t.is) (λ kept up. same_text epoch piece now g s f.session_links w.epoch x t.on kept)
    (number.0 ∙ sym (fed_on epoch s admits).0 ∙ t.own.number) (number.1 f.server.2) refl

-- ---- the session begins on the link

pub put_nothing : (l : GrandLink) → IsPut [] l l []
put_nothing l = record {
  head = refl;
  seen = sym (append-nil l.server.seen);
  out = sym (append-nil l.server.out);
  link =
      let at : l.link.to_b.read + 0 ≡ l.link.to_b.read = omega arith in
      sym
      (nothing_on [] 0 l.link refl
      ∙ ap (λ (n : ℕ). record { to_a = l.link.to_a; to_b = record { written = l.link.to_b.written; read = n }; is_cut = l.link.is_cut }) at);
}

later_of : (c : Option Cause) (low : Bool) (n : ℕ) → or_fault (option_map (λ cause. ended cause) c) (fault_if low (stale n)) ≡ None → low ≡ false
later_of None true n is = cc
later_of None false n is = refl
later_of (Some cause) low n is = cc

attaches_later : (epoch : ℕ) (s : Session) → attach_refusal epoch s ≡ None → s.peer.endpoint.epoch < epoch
unfolding attach_refusal
attaches_later epoch s admits = leb-false epoch s.peer.endpoint.epoch (later_of s.cause (nat_le epoch s.peer.endpoint.epoch) s.peer.endpoint.epoch admits)

-- all that was read of it is the handshake
pub focus_attached : (g : Ground) (s : Session) (o : Option Row) (l : GrandLink) (f : Focus g (Some s) o l) (epoch now : ℕ) → l.server.is_over ≡ false
    → l.server.seat ≡ Some (seat_at g.owner epoch) → attach_refusal epoch s ≡ None → ((u : Welcome) → l.server.welcome ≡ Some u → l.link.to_b.read ≡ u.up)
    → Focus g (Some (attach epoch [] now s)) o l
focus_attached g s o l f epoch now over at admits all =
    let own : Welcomed g (Some s) o l f epoch = welcomed_at g (Some s) o l f epoch over at in
    let w : Welcome = own.welcome in
    let x : Link = own.has.session_link in
    let less : s.peer.endpoint.epoch < epoch = attaches_later epoch s admits in
    let number : epoch ≡ w.epoch = own.number in
    let present : s.peer.endpoint.epoch ≡ f.present = f.server.1 in
    let later : f.present < w.epoch = omega (arith, less, number, present) in
    let view : View 0 B f.present g.number s.peer g.near f.session_links =
    subst (λ (p : Peer). View 0 B f.present g.number p g.near f.session_links) f.server.0 (turned 0 A g.number f.present g.near f.peer f.session_links f.view) in
    let on = number_attach epoch [] now s f.server.2 admits in
    let fresh : x.to_b.read ≡ 0 = view.reads.fresh w.epoch x own.has.is_at later in
    let read : l.link.to_b.read ≡ w.up = all w own.there in
    let after : Peer = (attach epoch [] now s).peer in
    let whole : WritesWhole after x = λ kept up.
    joining_later s.peer after x.to_a.written (rises_attach epoch [] now s)
    (subst (λ (b : ℕ). IsJoining b (messages s.peer.endpoint) s.peer.endpoint.received x.to_a.written) view.base (view.mine.fresh w.epoch x own.has.is_at later)) in
    focus_on g (Some s) (attach epoch [] now s) o l l f epoch own [] [] (read_on B 0 x) over at refl (put_nothing l) (follows_nothing l.link.to_b f.here.up)
    (omega (arith, fresh, read)) refl (carries_read w l.link x l.link 0 own.has.carries refl refl refl)
    (link_attached 0 B f.present g.number s g.near f.session_links view w.epoch 0 epoch now x later own.has.is_at (omega arith) f.server.2 admits) whole
    (on.0 ∙ number) on.2 refl
