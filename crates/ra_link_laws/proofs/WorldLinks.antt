-- A world in which a link that was found changes.
use Rattle.std.proofs.Common.{◌≡◌, ℕ, zero, suc, ◌+◌, ◌≤◌, Bool, Option, Some, None, List, [], ◌∷◌, length, refl, ap, sym, ◌∙◌, subst, arith}
use Rattle.std.specs.Prelude.{slice_get, slice_set, is_none}
use Rattle.ra_base.specs.declared.event.Count.{Count}
use Rattle.ra_base.specs.declared.event.Side.TheVariants.{A}
use Rattle.ra_model.specs.Links.{at_number, put_number, amount, read_on, cut_off}
use Rattle.ra_model.proofs.LinkMoves.{amount_there}
use Rattle.ra_hub.specs.Hubs.{row}
use Rattle.ra_grand_runs.specs.GrandClients.{GrandLink, Client}
use Rattle.ra_grand_runs.specs.GrandRefusals.{Refusal, of_link}
use Rattle.ra_grand_runs.specs.GrandRuns.{takes, comes_down, cuts}
use Rattle.ra_grand_runs.specs.Grands.{Grand, Place, Found, changed, with_link, found_link, found_client, found_at, find_link, put_link, on_link}
use Rattle.ra_run_laws.proofs.KeptRows.{agree_itself}
use Rattle.ra_run_laws.proofs.Lists.{none_there, get_same}
use Rattle.ra_link_laws.specs.Parts.{PartHolds, WorldKeeps}
use Rattle.ra_link_laws.proofs.WorldClients.{world_own}
use Rattle.ra_link_laws.proofs.WorldSteps.{world_changes}

-- the link that was found is there
pub record IsHere (f : Found) (w : Grand) : Type 0 where
  pub client : at_number w.clients f.place.client ≡ Some f.client
  pub link : at_number f.client.links f.place.link ≡ Some f.link

-- the same by places
pub record StandsAt (f : Found) (w : Grand) (n m : ℕ) : Type 0 where
  pub client_number : f.place.client ≡ suc n
  pub link_number : f.place.link ≡ suc m
  pub client : slice_get w.clients n ≡ Some f.client
  pub link : slice_get f.client.links m ≡ Some f.link

at_place : {X : Type 0} → (xs : List X) (k : ℕ) (x : X) → at_number xs k ≡ Some x → (n : ℕ) × (k ≡ suc n) × (slice_get xs n ≡ Some x)
at_place xs zero x is = none_there is
at_place xs (suc n) x is = (n, refl, is)

pub stands_at : (f : Found) (w : Grand) → IsHere f w → (n m : ℕ) × StandsAt f w n m
stands_at f w here =
    let c = at_place w.clients f.place.client f.client here.client in
    let l = at_place f.client.links f.place.link f.link here.link in
    (c.0, l.0, record { client_number = c.1; link_number = l.1; client = c.2; link = l.2 })

-- ---- an event of a link, which is not refused

abbrev Further : Type 0
Further = GrandLink → Option Refusal

by_link : (change : Found → Grand → Grand) (link : ℕ) (further : Further) (w : Grand) → WorldKeeps w
    → ((f : Found) → IsHere f w → further f.link ≡ None → WorldKeeps (change f w))
    → (p : Place) (c : Client) (o : Option GrandLink) → at_number w.clients p.client ≡ Some c → at_number c.links p.link ≡ o
    → of_link link further (found_link p c o) ≡ None → WorldKeeps (on_link change (found_link p c o) w)
by_link change link further w keeps kept p c None is there none = keeps
by_link change link further w keeps kept p c (Some l) is there none =
    kept (record { place = p; client = c; link = l }) (record { client = is; link = there }) none

by_client : (change : Found → Grand → Grand) (link : ℕ) (further : Further) (w : Grand) → WorldKeeps w
    → ((f : Found) → IsHere f w → further f.link ≡ None → WorldKeeps (change f w))
    → (p : Place) (o : Option Client) → at_number w.clients p.client ≡ o
    → of_link link further (found_client p o) ≡ None → WorldKeeps (on_link change (found_client p o) w)
by_client change link further w keeps kept p None is none = keeps
by_client change link further w keeps kept p (Some c) is none = by_link change link further w keeps kept p c (at_number c.links p.link) is refl none

by_place : (change : Found → Grand → Grand) (link : ℕ) (further : Further) (w : Grand) → WorldKeeps w
    → ((f : Found) → IsHere f w → further f.link ≡ None → WorldKeeps (change f w))
    → (o : Option Place) → of_link link further (found_at o w.clients) ≡ None → WorldKeeps (on_link change (found_at o w.clients) w)
by_place change link further w keeps kept None none = keeps
by_place change link further w keeps kept (Some p) none = by_client change link further w keeps kept p (at_number w.clients p.client) refl none

pub world_link : (change : Found → Grand → Grand) (link : ℕ) (further : Further) (w : Grand) → WorldKeeps w
    → ((f : Found) → IsHere f w → further f.link ≡ None → WorldKeeps (change f w))
    → of_link link further (find_link link w) ≡ None → WorldKeeps (on_link change (find_link link w) w)
world_link change link further w keeps kept none = by_place change link further w keeps kept (at_number w.places link) none

-- ---- a link is cut

abbrev PutKeeps : Found → Grand → GrandLink → Type 0
PutKeeps f w l = (n m : ℕ) → StandsAt f w n m → PartHolds (w.hub.session f.client.key) (row w.hub f.client.key) (with_link (suc m) l f.client)

world_put : (f : Found) (l : GrandLink) (w : Grand) → IsHere f w → PutKeeps f w l → WorldKeeps w → WorldKeeps (put_link f l w)
world_put f l w here kept keeps = by (stands_at f w here)
  where
    by : (n m : ℕ) × StandsAt f w n m → WorldKeeps (put_link f l w)
    by (n, m, at) =
        subst (λ (k : ℕ). WorldKeeps (record w { clients = put_number w.clients k (with_link f.place.link l f.client) })) (sym at.client_number)
        (subst (λ (k : ℕ). WorldKeeps (record w { clients = slice_set w.clients n (with_link k l f.client) })) (sym at.link_number)
        (world_own n f.client (with_link (suc m) l f.client) w keeps at.client refl (kept n m at)))

pub world_cuts : (f : Found) (w : Grand) → IsHere f w
    → ((n m : ℕ) → StandsAt f w n m → PartHolds (w.hub.session f.client.key) (row w.hub f.client.key) (with_link (suc m) (record f.link { link = cut_off f.link.link }) f.client))
    → WorldKeeps w → WorldKeeps (cuts f w)
world_cuts f w here kept keeps = world_put f (record f.link { link = cut_off f.link.link }) w here kept keeps

-- ---- bytes come down

set_twice : {X : Type 0} → (xs : List X) (n : ℕ) (x y : X) → slice_set (slice_set xs n x) n y ≡ slice_set xs n y
set_twice [] n x y = refl
set_twice (z ∷ zs) zero x y = refl
set_twice (z ∷ zs) (suc n) x y = ap (λ (l : List _). z ∷ l) (set_twice zs n x y)

-- the client, once the bytes are read and its dialer has them
abbrev pub read_down : ℕ → List ℕ → ℕ → Client → GrandLink → Client
read_down m bytes now c l = takes (is_none (slice_get c.links (suc m))) bytes now (with_link (suc m) (record l { link = read_on A (length bytes) l.link }) c)

pub world_down : (bytes : List ℕ) (f : Found) (w : Grand) → IsHere f w → ((c : Client) (b : Bool) → (takes b bytes w.now c).key ≡ c.key)
    → ((n m : ℕ) → StandsAt f w n m → PartHolds (w.hub.session f.client.key) (row w.hub f.client.key) (read_down m bytes w.now f.client f.link))
    → WorldKeeps w → WorldKeeps (comes_down bytes f w)
world_down bytes f w here same kept keeps = by (stands_at f w here)
  where
    l : GrandLink
    l = record f.link { link = read_on A (length bytes) f.link.link }

    next : (k : ℕ) → suc k + 1 ≡ suc (suc k)
    next k = omega arith

    -- by the numbers of the place
    at_numbers : (k i n m : ℕ) → k ≡ suc n → i ≡ suc m → slice_get w.clients n ≡ Some f.client
        → changed k (takes (is_none (at_number f.client.links (i + 1))) bytes w.now) (at_number (put_number w.clients k (with_link i l f.client)) k) (put_number w.clients k (with_link i l f.client))
        ≡ slice_set w.clients n (read_down m bytes w.now f.client f.link)
    at_numbers k i n m is also there =
        ap (λ (j : ℕ). changed j (takes (is_none (at_number f.client.links (i + 1))) bytes w.now) (at_number (put_number w.clients j (with_link i l f.client)) j) (put_number w.clients j (with_link i l f.client))) is
        ∙ ap (λ (j : ℕ). changed (suc n) (takes (is_none (at_number f.client.links (j + 1))) bytes w.now) (at_number (put_number w.clients (suc n) (with_link j l f.client)) (suc n)) (put_number w.clients (suc n) (with_link j l f.client))) also
        ∙ ap (λ (o : Option Client). changed (suc n) (takes (is_none (at_number f.client.links (suc m + 1))) bytes w.now) o (slice_set w.clients n (with_link (suc m) l f.client)))
        (get_same w.clients n (with_link (suc m) l f.client) f.client there)
        ∙ set_twice w.clients n (with_link (suc m) l f.client) (takes (is_none (at_number f.client.links (suc m + 1))) bytes w.now (with_link (suc m) l f.client))
        ∙ ap (λ (j : ℕ). slice_set w.clients n (takes (is_none (at_number f.client.links j)) bytes w.now (with_link (suc m) l f.client))) (next m)

    by : (n m : ℕ) × StandsAt f w n m → WorldKeeps (comes_down bytes f w)
    by (n, m, at) =
        world_changes n f.client (read_down m bytes w.now f.client f.link) w (comes_down bytes f w) keeps (record {
          there = at.client;
          clients = at_numbers f.place.client f.place.link n m at.client_number at.link_number at.client;
          key = same (with_link (suc m) l f.client) (is_none (slice_get f.client.links (suc m)));
          others = λ k apart. (refl, agree_itself (row w.hub k));
          part = kept n m at;
        })

-- the bytes that an event takes
pub chosen : (count : Count) (text : List ℕ) → amount count (length text) ≤ length text
chosen count text = amount_there count (length text)
