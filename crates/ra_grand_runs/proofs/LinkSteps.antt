-- What holds of a link before and after bytes of it come to the server's end: what was read goes on with the request, and what is written
-- begins with the answer.
use Rattle.std.proofs.Common.{◌≡◌, ℕ, zero, suc, ◌+◌, ◌-◌, ◌<◌, ◌≤◌, Bool, true, false, Some, None, Ok, List, [], ◌∷◌, ◌++◌, if◌then◌else◌, length, take, drop, refl, ap, sym, ◌∙◌, subst, append_assoc, append-nil, arith}
use Rattle.std.specs.Prelude.{nat_lt, min}
use Rattle.std.proofs.lemmas.Bool.{ltb-true, ltb-false}
use Rattle.std.proofs.lemmas.List.{length-append, length-drop, length-take, take-append-le, take-take, take_min}
use Rattle.std.proofs.lemmas.List.Sums.{AllPass-from_list_all}
use Rattle.std.proofs.Math.Seq.{take-append-add}
use Rattle.httparse.specs.Grammar.{is_value_byte}
use Rattle.ra_base.specs.TokenGrammar.{IsToken}
use Rattle.ra_base.specs.declared.event.Side.TheVariants.{A, B}
use Rattle.ra_base.specs.declared.key.Key.{Key}
use Rattle.ra_model.specs.Links.{Link, Direction, read_on, written_to}
use Rattle.ra_upgrade.specs.declared.request_head.HeadFault.{HeadFault}
use Rattle.ra_upgrade.specs.declared.request_head.Upgrade.{Upgrade}
use Rattle.ra_upgrade.specs.AnswerTexts.{answer_text}
use Rattle.ra_upgrade.specs.Exchange.{IsReadable, requested}
use Rattle.ra_upgrade.specs.RequestHeads.{HeadIs}
use Rattle.ra_upgrade.specs.RequestTexts.{key_text}
use Rattle.ra_upgrade.proofs.RequestReadLemmas.{request_read, request_open}
use Rattle.ra_items.specs.Heads.{Head, IsRequestOf, answered, sized}
use Rattle.ra_dial.specs.Clients.{request_of}
use Rattle.ra_link_core.specs.LinkRuns.{asks_framing}
use Rattle.ra_grand_runs.specs.GrandClients.{GrandLink}
use Rattle.ra_grand_runs.specs.ServedLinks.{Continues, IsNext}
use Rattle.ra_grand_runs.specs.Reached.{Agrees, Begins, LinkHolds, EndHolds, read_of}
use Rattle.ra_grand_runs.specs.SetUps.{settings_for, request_head}

-- ---- the request

abbrev request_at : Key → Bool → List ℕ → List ℕ
request_at owner reconnection drawn = request_of (settings_for owner) reconnection drawn

readable_so : (owner : Key) (drawn : List ℕ) (l : GrandLink) → IsToken owner.token → LinkHolds owner drawn l
    → IsReadable (settings_for owner).host owner.token drawn
readable_so owner drawn l token holds = record {
  is_token = token;
  key_len = holds.drawn_len;
  key_bytes = holds.drawn_bytes;
  host_bytes = AllPass-from_list_all is_value_byte (settings_for owner).host refl;
  host_len = omega arith;
}

-- what is answered to a front
front_by : (b : Bool) (owner : Key) (reconnection : Bool) (drawn rest : List ℕ) (n : ℕ) → IsReadable (settings_for owner).host owner.token drawn
    → nat_lt n (length (request_at owner reconnection drawn)) ≡ b
    → HeadIs (take n (request_at owner reconnection drawn ++ rest)) (if b then Ok None else sized (length (request_at owner reconnection drawn)) (request_head (settings_for owner) reconnection drawn).says)
front_by true owner reconnection drawn rest n can is =
    let text = request_at owner reconnection drawn in
    let less : n < length text = ltb-true n (length text) is in
    subst (λ (t : List ℕ). HeadIs t (Ok None)) (sym (take-append-le n text rest (omega (arith, less))))
    (request_open (settings_for owner).host owner.token drawn reconnection true n can less)
front_by false owner reconnection drawn rest n can is =
    let text = request_at owner reconnection drawn in
    let more : length text ≤ n = ltb-false n (length text) is in
    let at : n ≡ length text + (n - length text) = omega (arith, more) in
    subst (λ (t : List ℕ). HeadIs t (Ok (Some (requested owner.token reconnection true drawn, length text)))) (sym (ap (λ (k : ℕ). take k (text ++ rest)) at ∙ take-append-add text rest (n - length text)))
    (request_read (settings_for owner).host owner.token drawn (take (n - length text) rest) reconnection true can)

request_by : (owner : Key) (reconnection : Bool) (drawn rest : List ℕ) (n : ℕ) → IsReadable (settings_for owner).host owner.token drawn
    → HeadIs (take n (request_at owner reconnection drawn ++ rest)) (answered (request_head (settings_for owner) reconnection drawn) n)
request_by owner reconnection drawn rest n can = front_by (nat_lt n (length (request_at owner reconnection drawn))) owner reconnection drawn rest n can refl

-- a front of what was written has the head of the request
pub request_front : (owner : Key) (drawn : List ℕ) (l : GrandLink) (m : ℕ) → IsToken owner.token → LinkHolds owner drawn l → IsRequestOf (take m l.link.to_b.written) l.server.head
request_front owner drawn l m token holds =
    let text = l.link.to_b.written in
    subst (λ (h : Head Upgrade HeadFault). IsRequestOf (take m text) h) (sym holds.head)
    (λ n less.
    let count = length-take m text in
    let size : n ≤ m = omega (arith, less, count) in
    let within : n ≤ length text = omega (arith, less, count) in
    subst (λ (t : List ℕ). HeadIs t (answered (request_head (settings_for owner) holds.reconnection drawn) n))
    (sym (take-take n m text size ∙ sym (take-append-le n text holds.request.more within) ∙ ap (λ (t : List ℕ). take n t) holds.request.same))
    (request_by owner holds.reconnection drawn holds.request.rest n (readable_so owner drawn l token holds)))

-- ---- bytes that are read

-- they follow what was read
pub record Follows (bytes : List ℕ) (d : Direction) : Type 0 where
  pub within : d.read + length bytes ≤ length d.written
  pub front : take (d.read + length bytes) d.written ≡ take d.read d.written ++ bytes

take_behind : (xs : List ℕ) (n k : ℕ) → take (n + k) xs ≡ take n xs ++ take k (drop n xs)
take_behind xs zero k = let e : 0 + k ≡ k = omega arith in ap (λ (m : ℕ). take m xs) e
take_behind [] (suc n) k = take_nil (suc n + k) ∙ sym (take_nil k)
  where
    take_nil : (m : ℕ) → take {A = ℕ} m [] ≡ []
    take_nil zero = refl
    take_nil (suc m) = refl
take_behind (x ∷ xs) (suc n) k =
    let e : suc n + k ≡ suc (n + k) = omega arith in
    ap (λ (m : ℕ). take m (x ∷ xs)) e ∙ ap (λ (t : List ℕ). x ∷ t) (take_behind xs n k)

follows_none : (bytes : List ℕ) (d : Direction) → d.read ≤ length d.written → bytes ≡ [] → Follows bytes d
follows_none bytes d within none =
    let size : length bytes ≡ 0 = ap (λ (t : List ℕ). length t) none in
    let at : d.read + length bytes ≡ d.read = omega (arith, size) in
    record {
      within = omega (arith, size, within);
      front = ap (λ (m : ℕ). take m d.written) at ∙ sym (ap (λ (t : List ℕ). take d.read d.written ++ t) none ∙ append-nil (take d.read d.written));
    }

follows_some : (bytes : List ℕ) (d : Direction) (k : ℕ) → d.read ≤ length d.written → bytes ≡ take k (drop d.read d.written) → Follows bytes d
follows_some bytes d k within is =
    let rest = drop d.read d.written in
    let size : length bytes ≡ min k (length rest) = ap (λ (t : List ℕ). length t) is ∙ length-take k rest in
    let left : length rest ≡ length d.written - d.read = length-drop d.read d.written in
    let same : take (length bytes) rest ≡ bytes = ap (λ (m : ℕ). take m rest) size ∙ take_min k rest ∙ sym is in
    record {
      within = omega (arith, size, left, within);
      front = take_behind d.written d.read (length bytes) ∙ ap (λ (t : List ℕ). take d.read d.written ++ t) same;
    }

follows_by : (cut : Bool) (bytes : List ℕ) (d : Direction) (k : ℕ) → d.read ≤ length d.written → bytes ≡ take k (if cut then [] else drop d.read d.written) → Follows bytes d
follows_by true bytes d k within is = follows_none bytes d within (is ∙ take_nil k)
  where
    take_nil : (m : ℕ) → take {A = ℕ} m [] ≡ []
    take_nil zero = refl
    take_nil (suc m) = refl
follows_by false bytes d k within is = follows_some bytes d k within is

pub follows : (owner : Key) (drawn bytes : List ℕ) (l : GrandLink) → LinkHolds owner drawn l → IsNext bytes l → Follows bytes l.link.to_b
follows owner drawn bytes l holds next = follows_by l.link.is_cut bytes l.link.to_b next.count holds.up next.is

seen_on : (owner : Key) (drawn bytes : List ℕ) (l : GrandLink) → LinkHolds owner drawn l → Follows bytes l.link.to_b
    → l.server.seen ++ bytes ≡ take (l.link.to_b.read + length bytes) l.link.to_b.written
seen_on owner drawn bytes l holds f = ap (λ (t : List ℕ). t ++ bytes) holds.seen ∙ sym f.front

pub continues : (owner : Key) (drawn bytes : List ℕ) (l : GrandLink) → IsToken owner.token → LinkHolds owner drawn l → IsNext bytes l → l.server.is_over ≡ false → Continues bytes l
continues owner drawn bytes l token holds next going = record {
  going = going;
  request = subst (λ (t : List ℕ). IsRequestOf t l.server.head) (sym (seen_on owner drawn bytes l holds (follows owner drawn bytes l holds next)))
      (request_front owner drawn l (l.link.to_b.read + length bytes) token holds);
  unframed = ap (λ (h : Head Upgrade HeadFault). asks_framing h.says) holds.head;
}

-- ---- bytes that are written

pub record IsPut (more : List ℕ) (l : GrandLink) (after : GrandLink) (bytes : List ℕ) : Type 0 where
  pub head : after.server.head ≡ l.server.head
  pub seen : after.server.seen ≡ l.server.seen ++ bytes
  pub out : after.server.out ≡ l.server.out ++ more
  pub link : after.link ≡ written_to A more (read_on B (length bytes) l.link)

put_begins : (cut : Bool) (written out more new : List ℕ) → Begins out written → (cut ≡ false → written ≡ out) → new ≡ out ++ more
    → Begins new (written ++ (if cut then [] else more))
put_begins true written out more new begins all is = record {
  rest = begins.rest ++ more;
  same = is ∙ ap (λ (t : List ℕ). t ++ more) begins.same ∙ append_assoc written begins.rest more ∙ ap (λ (t : List ℕ). t ++ (begins.rest ++ more)) (sym (append-nil written));
}
put_begins false written out more new begins all is = record {
  rest = [];
  same = is ∙ ap (λ (t : List ℕ). t ++ more) (sym (all refl)) ∙ sym (append-nil (written ++ more));
}

put_all_of : (cut : Bool) (written out more new : List ℕ) → (cut ≡ false → written ≡ out) → new ≡ out ++ more → cut ≡ false → written ++ (if cut then [] else more) ≡ new
put_all_of true written out more new all is uncut = absurd cc
put_all_of false written out more new all is uncut = ap (λ (t : List ℕ). t ++ more) (all refl) ∙ sym is

pub link_holds : (owner : Key) (drawn bytes more : List ℕ) (l after : GrandLink) → LinkHolds owner drawn l → Follows bytes l.link.to_b → IsPut more l after bytes
    → EndHolds (answer_text (key_text drawn)) after.server → LinkHolds owner drawn after
link_holds owner drawn bytes more l after holds f put end =
    let size = length-append l.link.to_a.written (if l.link.is_cut then [] else more) in
    let new : Link = written_to A more (read_on B (length bytes) l.link) in
    record {
      drawn_len = holds.drawn_len;
      drawn_bytes = holds.drawn_bytes;
      reconnection = holds.reconnection;
      head = put.head ∙ holds.head;
      request = subst (λ (k : Link). Agrees k.to_b.written (request_of (settings_for owner) holds.reconnection drawn)) (sym put.link) holds.request;
      up = subst (λ (k : Link). k.to_b.read ≤ length k.to_b.written) (sym put.link) f.within;
      down = subst (λ (k : Link). k.to_a.read ≤ length k.to_a.written) (sym put.link) (omega (arith, holds.down, size));
      seen = subst (λ (k : Link). after.server.seen ≡ read_of k.to_b) (sym put.link) (put.seen ∙ seen_on owner drawn bytes l holds f);
      put = subst (λ (k : Link). Begins after.server.out k.to_a.written) (sym put.link)
          (put_begins l.link.is_cut l.link.to_a.written l.server.out more after.server.out holds.put holds.put_all put.out);
      put_all = subst (λ (k : Link). k.is_cut ≡ false → k.to_a.written ≡ after.server.out) (sym put.link)
          (put_all_of l.link.is_cut l.link.to_a.written l.server.out more after.server.out holds.put_all put.out);
      end = end;
    }

-- what a client read of it stays
pub read_kept : (owner : Key) (drawn bytes more : List ℕ) (l after : GrandLink) → LinkHolds owner drawn l → IsPut more l after bytes → read_of after.link.to_a ≡ read_of l.link.to_a
read_kept owner drawn bytes more l after holds put =
    ap (λ (k : Link). read_of k.to_a) put.link ∙ take-append-le l.link.to_a.read l.link.to_a.written (if l.link.is_cut then [] else more) holds.down
