-- What holds of a link and its texts stays while bytes are written to the server.
use Rattle.std.proofs.Common.{◌≡◌, ℕ, ◌≤◌, List, [], ◌∷◌, ◌++◌, length, take, cond, refl, ap, sym, ◌∙◌, subst, append-nil, append_assoc, length-append, arith}
use Rattle.std.proofs.lemmas.List.{take-append-le}
use Rattle.ra_base.specs.declared.key.Key.{Key}
use Rattle.ra_items.specs.Heads.{Head}
use Rattle.ra_upgrade.specs.declared.request_head.HeadFault.{HeadFault}
use Rattle.ra_upgrade.specs.declared.request_head.Upgrade.{Upgrade}
use Rattle.ra_dial.specs.Clients.{request_of}
use Rattle.ra_grand_runs.specs.GrandClients.{GrandLink, writes_up}
use Rattle.ra_grand_runs.specs.Lasts.{OnLastOf, OnLast, OnLastIfAny, with_last_of, with_last}
use Rattle.ra_grand_runs.specs.Reached.{Agrees, Begins, LinkHolds, LinksHold, ReadsLink, IsAsked}
use Rattle.ra_grand_runs.specs.SetUps.{settings_for}
use Rattle.ra_grand_runs.proofs.WrittenUp.{nothing_link}

-- ---- texts

first_is : {x y : ℕ} {xs ys : List ℕ} → x ∷ xs ≡ y ∷ ys → x ≡ y
first_is e = cc

rest_is : {x y : ℕ} {xs ys : List ℕ} → x ∷ xs ≡ y ∷ ys → xs ≡ ys
rest_is e = cc

-- of two texts that agree, the longer one begins with the other
pub whole_front : (text front more rest : List ℕ) → text ++ more ≡ front ++ rest → length front ≤ length text → Begins text front
whole_front text [] more rest same le = record { rest = text; same = refl }
whole_front [] (x ∷ xs) more rest same le = absurd (omega (arith, le))
whole_front (t ∷ ts) (x ∷ xs) more rest same le =
    let inner = whole_front ts xs more rest (rest_is same) (omega (arith, le)) in
    record { rest = inner.rest; same = ap (λ (y : ℕ). y ∷ ts) (first_is same) ∙ ap (λ (ys : List ℕ). x ∷ ys) inner.same }

pub part_front : (text front more rest : List ℕ) → text ++ more ≡ front ++ rest → length text ≤ length front → text ≡ take (length text) front
part_front [] front more rest same le = refl
part_front (t ∷ ts) [] more rest same le = absurd (omega (arith, le))
part_front (t ∷ ts) (x ∷ xs) more rest same le =
    ap (λ (y : ℕ). y ∷ ts) (first_is same) ∙ ap (λ (ys : List ℕ). x ∷ ys) (part_front ts xs more rest (rest_is same) (omega (arith, le)))

pub agrees_more : (text front extra : List ℕ) → Agrees text front → length front ≤ length text → Agrees (text ++ extra) front
agrees_more text front extra a le =
    let b = whole_front text front a.more a.rest a.same le in
    record { more = []; rest = b.rest ++ extra; same = append-nil (text ++ extra) ∙ ap (λ (t : List ℕ). t ++ extra) b.same ∙ append_assoc front b.rest extra }

-- ---- the last of a list

pub last_behind : {X : Type 0} → (P : X → Type 0) (f : X → X) (x y : X) (ys : List X) → OnLastIfAny P (with_last_of f y ys) → OnLastOf P x (with_last_of f y ys)
last_behind P f x y [] holds = holds
last_behind P f x y (z ∷ zs) holds = holds

pub on_last_of : {X : Type 0} → (P Q : X → Type 0) (f : X → X) → ((x : X) → P x → Q (f x)) → (x : X) (xs : List X) → OnLastOf P x xs → OnLastIfAny Q (with_last_of f x xs)
on_last_of P Q f each x [] holds = each x holds
on_last_of P Q f each x (y ∷ ys) holds = last_behind Q f x y ys (on_last_of P Q f each y ys holds)

pub on_last_any : {X : Type 0} → (P Q : X → Type 0) (f : X → X) → ((x : X) → P x → Q (f x)) → (xs : List X) → OnLastIfAny P xs → OnLastIfAny Q (with_last f xs)
on_last_any P Q f each [] holds = tt
on_last_any P Q f each (x ∷ xs) holds = on_last_of P Q f each x xs holds

is_there : {X : Type 0} → (Q : X → Type 0) (f : X → X) (x : X) (xs : List X) → OnLastIfAny Q (with_last_of f x xs) → OnLast Q (with_last_of f x xs)
is_there Q f x [] holds = holds
is_there Q f x (y ∷ ys) holds = holds

pub on_last : {X : Type 0} → (P Q : X → Type 0) (f : X → X) → ((x : X) → P x → Q (f x)) → (xs : List X) → OnLast P xs → OnLast Q (with_last f xs)
on_last P Q f each [] holds = holds
on_last P Q f each (x ∷ xs) holds = is_there Q f x xs (on_last_of P Q f each x xs holds)

both_of : {X : Type 0} → (P Q : X → Type 0) (x : X) (xs : List X) → OnLastOf P x xs → OnLastOf Q x xs → OnLastOf (λ y. P y × Q y) x xs
both_of P Q x [] p q = (p, q)
both_of P Q x (y ∷ ys) p q = both_of P Q y ys p q

pub both_last : {X : Type 0} → (P Q : X → Type 0) (xs : List X) → OnLast P xs → OnLastIfAny Q xs → OnLast (λ y. P y × Q y) xs
both_last P Q [] p q = p
both_last P Q (x ∷ xs) p q = both_of P Q x xs p q

weaker_of : {X : Type 0} → (P Q : X → Type 0) → ((x : X) → P x → Q x) → (x : X) (xs : List X) → OnLastOf P x xs → OnLastOf Q x xs
weaker_of P Q each x [] holds = each x holds
weaker_of P Q each x (y ∷ ys) holds = weaker_of P Q each y ys holds

pub weaker_any : {X : Type 0} → (P Q : X → Type 0) → ((x : X) → P x → Q x) → (xs : List X) → OnLastIfAny P xs → OnLastIfAny Q xs
weaker_any P Q each [] holds = tt
weaker_any P Q each (x ∷ xs) holds = weaker_of P Q each x xs holds

-- ---- bytes to the server

-- these bytes of the client leave all that holds of the link
abbrev pub KeepsUp : Key → List ℕ → GrandLink → Type 0
KeepsUp owner bytes l = (drawn : List ℕ) → LinkHolds owner drawn l → LinkHolds owner drawn (writes_up bytes l)

pub asked_up : (bytes : List ℕ) (l : GrandLink) → IsAsked l → IsAsked (writes_up bytes l)
asked_up bytes l asked = omega (arith, asked, length-append l.link.to_b.written (cond l.link.is_cut [] bytes))

up_with : (owner : Key) (drawn bytes : List ℕ) (l : GrandLink) (h : LinkHolds owner drawn l)
    → Agrees (writes_up bytes l).link.to_b.written (request_of (settings_for owner) h.reconnection drawn) → LinkHolds owner drawn (writes_up bytes l)
up_with owner drawn bytes l h request = record {
  drawn_len = h.drawn_len;
  drawn_bytes = h.drawn_bytes;
  reconnection = h.reconnection;
  head = h.head;
  request = request;
  up = omega (arith, h.up, length-append l.link.to_b.written (cond l.link.is_cut [] bytes));
  down = h.down;
  seen = h.seen ∙ sym (take-append-le l.link.to_b.read l.link.to_b.written (cond l.link.is_cut [] bytes) h.up);
  put = h.put;
  put_all = h.put_all;
  end = h.end;
}

pub keeps_asked : (owner : Key) (bytes : List ℕ) (l : GrandLink) → IsAsked l → KeepsUp owner bytes l
keeps_asked owner bytes l asked drawn h =
    up_with owner drawn bytes l h
    (agrees_more l.link.to_b.written (request_of (settings_for owner) h.reconnection drawn) (cond l.link.is_cut [] bytes) h.request
    (subst (λ (head : Head Upgrade HeadFault). head.size ≤ length l.link.to_b.written) h.head asked))

pub keeps_none : (owner : Key) (bytes : List ℕ) (l : GrandLink) → bytes ≡ [] → KeepsUp owner bytes l
keeps_none owner bytes l none drawn h =
    subst (λ (bs : List ℕ). LinkHolds owner drawn (writes_up bs l)) (sym none) (subst (λ (x : GrandLink). LinkHolds owner drawn x) (sym (nothing_link l)) h)

-- ---- all links of a client

links_up_of : (owner : Key) (bytes : List ℕ) (l : GrandLink) (ls : List GrandLink) → LinksHold owner (l ∷ ls) → OnLastOf (KeepsUp owner bytes) l ls
    → LinksHold owner (with_last_of (writes_up bytes) l ls)
links_up_of owner bytes l [] hold keeps = ((hold.0.0, keeps hold.0.0 hold.0.1), tt)
links_up_of owner bytes l (m ∷ ms) hold keeps = (hold.0, links_up_of owner bytes m ms hold.1 keeps)

pub links_up : (owner : Key) (bytes : List ℕ) (links : List GrandLink) → LinksHold owner links → OnLastIfAny (KeepsUp owner bytes) links
    → LinksHold owner (with_last (writes_up bytes) links)
links_up owner bytes [] hold keeps = tt
links_up owner bytes (l ∷ ls) hold keeps = links_up_of owner bytes l ls hold keeps

pub none_keeps : (owner : Key) (bytes : List ℕ) (links : List GrandLink) → bytes ≡ [] → OnLastIfAny (KeepsUp owner bytes) links
none_keeps owner bytes [] none = tt
none_keeps owner bytes (l ∷ ls) none = each l ls
  where
    each : (l : GrandLink) (ls : List GrandLink) → OnLastOf (KeepsUp owner bytes) l ls
    each l [] = keeps_none owner bytes l none
    each l (m ∷ ms) = each m ms

pub asked_keeps : (owner : Key) (bytes : List ℕ) (links : List GrandLink) → OnLastIfAny IsAsked links → OnLastIfAny (KeepsUp owner bytes) links
asked_keeps owner bytes links asked = weaker_any IsAsked (KeepsUp owner bytes) (λ l is. keeps_asked owner bytes l is) links asked

-- a handshake reads what it read
pub reads_up : (owner : Key) (bytes drawn unread : List ℕ) (links : List GrandLink) → OnLast (ReadsLink owner drawn unread) links → OnLastIfAny (KeepsUp owner bytes) links
    → OnLast (ReadsLink owner drawn unread) (with_last (writes_up bytes) links)
reads_up owner bytes drawn unread links reads keeps =
    on_last (λ l. ReadsLink owner drawn unread l × KeepsUp owner bytes l) (ReadsLink owner drawn unread) (writes_up bytes)
    (λ l h. record { link = h.1 drawn h.0.link; unread_is = h.0.unread_is }) links (both_last (ReadsLink owner drawn unread) (KeepsUp owner bytes) links reads keeps)
