-- What holds of a link when bytes of it were read at the server's end, and bytes were written there.
use Rattle.std.proofs.Common.{◌≡◌, ℕ, ◌+◌, ◌≤◌, Bool, true, false, cond, Option, Some, None, List, [], ◌++◌, length, take, drop, refl, ap, sym, ◌∙◌, subst, arith, append-nil, append_assoc}
use Rattle.std.specs.Prelude.{min}
use Rattle.std.proofs.Math.Seq.{take-add}
use Rattle.std.proofs.lemmas.List.{length-append, length-take, length-drop, take-append-le, take_min, drop-append-le, drop-drop}
use Rattle.ra_base.specs.declared.event.Side.TheVariants.{A, B}
use Rattle.ra_base.specs.declared.key.Key.{Key}
use Rattle.ra_base.specs.declared.key.Seat.{Seat}
use Rattle.ra_model.specs.Links.{Link, Direction, at_number, readable, read_on, written_to}
use Rattle.ra_link_core.specs.LinkRuns.{Welcome}
use Rattle.ra_grand_runs.specs.GrandClients.{GrandLink}
use Rattle.ra_grand_runs.specs.Reached.{Begins, read_of}
use Rattle.ra_handshake_laws.specs.Handshakes.{Speaks}
use Rattle.ra_link_laws.specs.Parts.{Drawn, Carries, IsWelcome, HasWelcome, IsOpening, IsSeated, EndStands, LinkKeeps}
use Rattle.ra_link_laws.proofs.ServedFocus.{StaysBelow}

-- ---- what is read

-- these bytes follow what was read
pub record Follows (bytes : List ℕ) (d : Direction) : Type 0 where
  pub within : d.read + length bytes ≤ length d.written
  pub front : take (d.read + length bytes) d.written ≡ take d.read d.written ++ bytes

nothing_taken : (m : ℕ) → take {A = ℕ} m [] ≡ []
nothing_taken ℕ.zero = refl
nothing_taken (ℕ.suc m) = refl

follows_none : (bytes : List ℕ) (d : Direction) → d.read ≤ length d.written → bytes ≡ [] → Follows bytes d
follows_none bytes d within none =
    let size : length bytes ≡ 0 = ap (λ (t : List ℕ). length t) none in
    let at : d.read + length bytes ≡ d.read = omega (arith, size) in
    record {
      within = omega (arith, size, within);
      front = ap (λ (m : ℕ). take m d.written) at ∙ sym (ap (λ (t : List ℕ). take d.read d.written ++ t) none ∙ append-nil (take d.read d.written));
    }

follows_some : (bytes : List ℕ) (d : Direction) (k : ℕ) → d.read ≤ length d.written → bytes ≡ take k (drop d.read d.written) → Follows bytes d
follows_some bytes d k within is =
    let rest = drop d.read d.written in
    let size : length bytes ≡ min k (length rest) = ap (λ (t : List ℕ). length t) is ∙ length-take k rest in
    let left = length-drop d.read d.written in
    let same : take (length bytes) rest ≡ bytes = ap (λ (m : ℕ). take m rest) size ∙ take_min k rest ∙ sym is in
    record {
      within = omega (arith, size, left, within);
      front = take-add d.read (length bytes) d.written ∙ ap (λ (t : List ℕ). take d.read d.written ++ t) same;
    }

follows_by : (cut : Bool) (bytes : List ℕ) (d : Direction) (k : ℕ) → d.read ≤ length d.written → bytes ≡ take k (cond cut [] (drop d.read d.written)) → Follows bytes d
follows_by true bytes d k within is = follows_none bytes d within (is ∙ nothing_taken k)
follows_by false bytes d k within is = follows_some bytes d k within is

-- the first bytes that the server can read follow those that it read
pub follows_read : (l : Link) (bytes : List ℕ) (k : ℕ) → l.to_b.read ≤ length l.to_b.written → bytes ≡ take k (readable B l) → Follows bytes l.to_b
follows_read l bytes k within is = follows_by l.is_cut bytes l.to_b k within is

pub follows_nothing : (d : Direction) → d.read ≤ length d.written → Follows [] d
follows_nothing d within = follows_none [] d within refl

-- ---- a link and the part of it behind the handshake

pub read_session_link : (w : Welcome) (l x : Link) → Carries w l x → x.to_b.read + w.up ≡ l.to_b.read → readable B x ≡ readable B l
read_session_link w l x c at =
    let place : w.up + x.to_b.read ≡ l.to_b.read = omega (arith, at) in
    let rest : drop x.to_b.read x.to_b.written ≡ drop l.to_b.read l.to_b.written =
    ap (λ (t : List ℕ). drop x.to_b.read t) c.up ∙ drop-drop x.to_b.read w.up l.to_b.written ∙ ap (λ (n : ℕ). drop n l.to_b.written) place in
    ap (λ (b : Bool). cond b [] (drop x.to_b.read x.to_b.written)) c.cut ∙ ap (λ (t : List ℕ). cond l.is_cut [] t) rest

down_put : (cut : Bool) (session_links pause written out : List ℕ) (d : ℕ) → session_links ≡ pause ++ drop d written → (cut ≡ false → d ≤ length written)
    → session_links ++ cond cut [] out ≡ pause ++ drop d (written ++ cond cut [] out)
down_put true session_links pause written out d is within =
    append-nil session_links ∙ is ∙ ap (λ (t : List ℕ). pause ++ drop d t) (sym (append-nil written))
down_put false session_links pause written out d is within =
    ap (λ (t : List ℕ). t ++ out) is ∙ append_assoc pause (drop d written) out ∙ ap (λ (t : List ℕ). pause ++ t) (sym (drop-append-le d written out (within refl)))

-- the same is put on both
pub carries_put : (w : Welcome) (l x after : Link) (j k : ℕ) (out : List ℕ) → Carries w l x → (l.is_cut ≡ false → w.down ≤ length l.to_a.written)
    → after ≡ written_to A out (read_on B k l) → Carries w after (written_to A out (read_on B j x))
carries_put w l x after j k out c within is = subst (λ (y : Link). Carries w y (written_to A out (read_on B j x))) (sym is) (record {
  up = c.up;
  down = ap (λ (b : Bool). x.to_a.written ++ cond b [] out) c.cut ∙ down_put l.is_cut x.to_a.written w.pause l.to_a.written out w.down c.down within;
  cut = c.cut;
})

-- nothing is put on either
pub carries_read : (w : Welcome) (l x after : Link) (j : ℕ) → Carries w l x → after.to_b.written ≡ l.to_b.written → after.to_a.written ≡ l.to_a.written → after.is_cut ≡ l.is_cut
    → Carries w after (read_on B j x)
carries_read w l x after j c up down cut = record {
  up = c.up ∙ ap (λ (t : List ℕ). drop w.up t) (sym up);
  down = c.down ∙ ap (λ (t : List ℕ). w.pause ++ drop w.down t) (sym down);
  cut = c.cut ∙ sym cut;
}

-- ---- what is put on a link

-- the link after the server read these bytes and wrote those
pub record IsPut (more : List ℕ) (l after : GrandLink) (bytes : List ℕ) : Type 0 where
  pub head : after.server.head ≡ l.server.head
  pub seen : after.server.seen ≡ l.server.seen ++ bytes
  pub out : after.server.out ≡ l.server.out ++ more
  pub link : after.link ≡ written_to A more (read_on B (length bytes) l.link)

pub put_begins : (cut : Bool) (written out more new : List ℕ) → Begins out written → (cut ≡ false → written ≡ out) → new ≡ out ++ more → Begins new (written ++ cond cut [] more)
put_begins true written out more new begins all is = record {
  rest = begins.rest ++ more;
  same = is ∙ ap (λ (t : List ℕ). t ++ more) begins.same ∙ append_assoc written begins.rest more ∙ ap (λ (t : List ℕ). t ++ (begins.rest ++ more)) (sym (append-nil written));
}
put_begins false written out more new begins all is = record {
  rest = [];
  same = is ∙ ap (λ (t : List ℕ). t ++ more) (sym (all refl)) ∙ sym (append-nil (written ++ more));
}

put_all_of : (cut : Bool) (written out more new : List ℕ) → (cut ≡ false → written ≡ out) → new ≡ out ++ more → cut ≡ false → written ++ cond cut [] more ≡ new
put_all_of true written out more new all is uncut = absurd cc
put_all_of false written out more new all is uncut = ap (λ (t : List ℕ). t ++ more) (all refl) ∙ sym is

pub keeps_put : (owner : Key) (d : Drawn) (old session_links : List Link) (before present : ℕ) (l after : GrandLink) (bytes more : List ℕ) → LinkKeeps owner d old before l → Follows bytes l.link.to_b
    → IsPut more l after bytes → Speaks owner.kind d.key after.server.welcome after.server.out → HasWelcome owner d session_links after after.server.welcome
    → EndStands owner session_links present after after.server.is_over after.server.seat → LinkKeeps owner d session_links present after
keeps_put owner d old session_links before present l after bytes more keeps f put speaks welcome end =
    let size = length-append l.link.to_a.written (cond l.link.is_cut [] more) in
    record {
      key_len = keeps.key_len;
      key_bytes = keeps.key_bytes;
      head = put.head ∙ keeps.head;
      up = subst (λ (k : Link). k.to_b.read ≤ length k.to_b.written) (sym put.link) f.within;
      down = subst (λ (k : Link). k.to_a.read ≤ length k.to_a.written) (sym put.link) (let was = keeps.down in omega (arith, was, size));
      seen = subst (λ (k : Link). after.server.seen ≡ read_of k.to_b) (sym put.link) (put.seen ∙ ap (λ (t : List ℕ). t ++ bytes) keeps.seen ∙ sym f.front);
      put = subst (λ (k : Link). Begins after.server.out k.to_a.written) (sym put.link)
          (put_begins l.link.is_cut l.link.to_a.written l.server.out more after.server.out keeps.put keeps.put_all put.out);
      put_all = subst (λ (k : Link). k.is_cut ≡ false → k.to_a.written ≡ after.server.out) (sym put.link)
          (put_all_of l.link.is_cut l.link.to_a.written l.server.out more after.server.out keeps.put_all put.out);
      speaks = speaks;
      welcome = welcome;
      end = end;
    }

-- to the client all is as before
pub below_put : (owner : Key) (d : Drawn) (session_links : List Link) (present : ℕ) (first l after : GrandLink) (bytes more : List ℕ) → LinkKeeps owner d session_links present l → IsPut more l after bytes
    → ((u : Welcome) → l.server.welcome ≡ Some u → after.server.welcome ≡ Some u) → StaysBelow first l → StaysBelow first after
below_put owner d session_links present first l after bytes more keeps put welcome stays = record {
  up = ap (λ (k : Link). k.to_b.written) put.link ∙ stays.up;
  read = ap (λ (k : Link). read_of k.to_a) put.link ∙ take-append-le l.link.to_a.read l.link.to_a.written (cond l.link.is_cut [] more) keeps.down ∙ stays.read;
  place = ap (λ (k : Link). k.to_a.read) put.link ∙ stays.place;
  cut = ap (λ (k : Link). k.is_cut) put.link ∙ stays.cut;
  welcome = λ u is. welcome u (stays.welcome u is);
}

-- ---- the welcome

-- the session's link has become another
pub welcome_put : (owner : Key) (d : Drawn) (old session_links : List Link) (l after : GrandLink) (w : Welcome) (x : Link) → IsWelcome owner d old l w → after.link.to_b.written ≡ l.link.to_b.written
    → at_number session_links w.epoch ≡ Some x → Carries w after.link x → IsWelcome owner d session_links after w
welcome_put owner d old session_links l after w x has up at carries = record {
  theirs = has.theirs;
  place = has.place;
  there = subst (λ (t : List ℕ). w.up ≤ length t) (sym up) has.there;
  session_link = x;
  is_at = at;
  carries = carries;
}

-- nothing was put on it
welcome_by : (owner : Key) (d : Drawn) (session_links : List Link) (l after : GrandLink) (o : Option Welcome) → after.link.to_b.written ≡ l.link.to_b.written → after.link.to_a.written ≡ l.link.to_a.written
    → after.link.is_cut ≡ l.link.is_cut → HasWelcome owner d session_links l o → HasWelcome owner d session_links after o
welcome_by owner d session_links l after None up down cut has = (has.0, has.1, ap (λ (t : List ℕ). t ++ has.1) up ∙ has.2)
welcome_by owner d session_links l after (Some w) up down cut has =
    let c : Carries w l.link has.session_link = has.carries in
    record {
      theirs = has.theirs;
      place = has.place;
      there = subst (λ (t : List ℕ). w.up ≤ length t) (sym up) has.there;
      session_link = has.session_link;
      is_at = has.is_at;
      carries = record {
        up = c.up ∙ ap (λ (t : List ℕ). drop w.up t) (sym up);
        down = c.down ∙ ap (λ (t : List ℕ). w.pause ++ drop w.down t) (sym down);
        cut = c.cut ∙ sym cut;
      };
    }

nothing_put : (cut : Bool) (written : List ℕ) → written ++ cond cut [] [] ≡ written
nothing_put true written = append-nil written
nothing_put false written = append-nil written

pub written_same : (l after : GrandLink) (bytes : List ℕ) → IsPut [] l after bytes → after.link.to_a.written ≡ l.link.to_a.written
written_same l after bytes put = ap (λ (k : Link). k.to_a.written) put.link ∙ nothing_put l.link.is_cut l.link.to_a.written

pub welcome_read : (owner : Key) (d : Drawn) (session_links : List Link) (l after : GrandLink) (bytes : List ℕ) → IsPut [] l after bytes → after.server.welcome ≡ l.server.welcome
    → HasWelcome owner d session_links l l.server.welcome → HasWelcome owner d session_links after after.server.welcome
welcome_read owner d session_links l after bytes put same has =
    subst (λ (o : Option Welcome). HasWelcome owner d session_links after o) (sym same)
    (welcome_by owner d session_links l after l.server.welcome (ap (λ (k : Link). k.to_b.written) put.link) (written_same l after bytes put) (ap (λ (k : Link). k.is_cut) put.link) has)

-- a link without a welcome, on which anything was put
pub welcome_none : (owner : Key) (d : Drawn) (old session_links : List Link) (l after : GrandLink) (bytes more : List ℕ) → IsPut more l after bytes → l.server.welcome ≡ None → after.server.welcome ≡ None
    → HasWelcome owner d old l l.server.welcome → HasWelcome owner d session_links after after.server.welcome
welcome_none owner d old session_links l after bytes more put none same has =
    let was : HasWelcome owner d old l None = subst (λ (o : Option Welcome). HasWelcome owner d old l o) none has in
    subst (λ (o : Option Welcome). HasWelcome owner d session_links after o) (sym same)
    (was.0, was.1, ap (λ (t : List ℕ). t ++ was.1) (ap (λ (k : Link). k.to_b.written) put.link) ∙ was.2)

-- ---- an end that is over

pub over_stands : (owner : Key) (session_links : List Link) (present : ℕ) (l : GrandLink) (over : Bool) (seat : Option Seat) → over ≡ true → seat ≡ None → EndStands owner session_links present l over seat
over_stands owner session_links present l true seat is none = none
over_stands owner session_links present l false seat is none = absurd cc

pub seat_stands : (owner : Key) (session_links : List Link) (present : ℕ) (l : GrandLink) (over : Bool) (o : Option Seat) (seat : Seat) → over ≡ false → o ≡ Some seat → IsSeated owner session_links present l seat
    → EndStands owner session_links present l over o
seat_stands owner session_links present l over o seat is at seated =
    subst (λ (b : Bool). EndStands owner session_links present l b o) (sym is) (subst (λ (s : Option Seat). EndStands owner session_links present l false s) (sym at) seated)

pub seated_so : (owner : Key) (session_links : List Link) (present : ℕ) (l : GrandLink) (over : Bool) (o : Option Seat) (seat : Seat) → over ≡ false → o ≡ Some seat → EndStands owner session_links present l over o
    → IsSeated owner session_links present l seat
seated_so owner session_links present l over o seat is at stands =
    subst (λ (s : Option Seat). EndStands owner session_links present l false s) at (subst (λ (b : Bool). EndStands owner session_links present l b o) is stands)

pub opening_so : (owner : Key) (session_links : List Link) (present : ℕ) (l : GrandLink) (over : Bool) (o : Option Seat) → over ≡ false → o ≡ None → EndStands owner session_links present l over o
    → IsOpening l.server
opening_so owner session_links present l over o is none stands =
    subst (λ (s : Option Seat). EndStands owner session_links present l false s) none (subst (λ (b : Bool). EndStands owner session_links present l b o) is stands)

pub opening_stands : (owner : Key) (session_links : List Link) (present : ℕ) (l : GrandLink) (over : Bool) (o : Option Seat) → over ≡ false → o ≡ None → IsOpening l.server
    → EndStands owner session_links present l over o
opening_stands owner session_links present l over o is none opening =
    subst (λ (b : Bool). EndStands owner session_links present l b o) (sym is) (subst (λ (s : Option Seat). EndStands owner session_links present l false s) (sym none) opening)
