-- Where a link is in memory, and what can be read on it there.
use Rattle.std.proofs.Common.{◌≡◌, inl, inr, ℕ, zero, suc, ◌<◌, false, Option, Some, None, Result, Ok, Err, OnOk, List, take, [], ◌∷◌, length, map, refl, ap, sym, ◌∙◌, subst, arith}
use Rattle.std.specs.Prelude.{slice_get, option_map, is_err}
use Rattle.ra_base.specs.declared.event.Count.{Count}
use Rattle.ra_base.specs.declared.event.Side.{Side}
use Rattle.ra_model.specs.Links.{Link, at_number, amount, readable}
use Rattle.ra_grand_runs.specs.declared.fault.GrandFault.{GrandFault}
use Rattle.ra_grand.specs.declared.spot.Spot.{Spot}
use Rattle.ra_grand.specs.declared.world.GrandWorld.{GrandWorld}
use Rattle.ra_grand_clients.specs.ClientLinks.{HasLink, links_at, link_at, IsFlushedAt}
use Rattle.ra_grand_clients.specs.ClientStates.{ClientState, put_on_last, wire}
use Rattle.ra_grand_clients.specs.Crowds.{ClientsStand}
use Rattle.ra_grand_runs.specs.GrandClients.{GrandLink, Client}
use Rattle.ra_grand_runs.specs.GrandRefusals.{if_many, if_unread}
use Rattle.ra_grand_runs.specs.GrandViews.{IsCause}
use Rattle.ra_grand_runs.specs.Grands.{Grand, Place, Found, found_at, found_client, found_link, find_link}
use Rattle.ra_grand.specs.GrandStates.{StandsForGrand, IsIndex}
use Rattle.ra_grand.specs.Spots.{FoundAt, IsThere}
use Rattle.ra_grand_server.specs.ServerStates.{place_of}
use Rattle.ra_grand_clients.proofs.CrowdLemmas.{count}
use Rattle.ra_grand_clients.proofs.Flushing.{put_nothing}
use Rattle.ra_grand_clients.proofs.LinkTurnLemmas.{get_map}
use Rattle.ra_grand.proofs.WorldSteps.{with_clients}
use Rattle.ra_grand_clients.proofs.LinkCounts.{get_less, less_got, past, links_at_counted}

-- ---- lists

pub missing_in : {X : Type 0} → (xs : List X) (number many : ℕ) → many ≡ length xs → IsIndex number many None → at_number xs number ≡ None
missing_in xs zero many is none = refl
missing_in xs (suc n) many is (inl e) = absurd (omega (arith, e))
missing_in xs (suc n) many is (inr large) = past xs n (omega (arith, is, large))

-- ---- links in memory

pub client_there : (hs : List ClientState) (n k : ℕ) → HasLink n k hs → n < length hs
client_there [] n k has = absurd (nothing has.0 has.1)
  where
    nothing : (l : Link) → ◌≡◌ {A = Option Link} None (Some l) → ⊥
    nothing l e = cc
client_there (h ∷ hs) zero k has = omega arith
client_there (h ∷ hs) (suc n) k has = omega (arith, client_there hs n k has)

-- as many links as before
pub still_has : (old new : List ClientState) (n k : ℕ) → length (links_at (slice_get new n)) ≡ length (links_at (slice_get old n)) → HasLink n k old → HasLink n k new
still_has old new n k same has = get_less (links_at (slice_get new n)) k (omega (arith, same, less_got (links_at (slice_get old n)) k has.0 has.1))

pub still_there : (s : GrandWorld) (new : List ClientState) (spot : Spot) → length (links_at (slice_get new spot.client)) ≡ length (links_at (slice_get s.clients spot.client)) → IsThere spot s
    → IsThere spot (with_clients s new)
still_there s new spot same there =
    let has = still_has s.clients new spot.client spot.link same there.link in
    record { served = there.served; client = client_there new spot.client spot.link has; link = has }

-- ---- a link that is looked for

get_mapped : {X Y : Type 0} → (v : X → Y) (xs : List X) (n : ℕ) → slice_get (map v xs) n ≡ option_map v (slice_get xs n)
get_mapped v [] n = refl
get_mapped v (x ∷ xs) zero = refl
get_mapped v (x ∷ xs) (suc n) = get_mapped v xs n

-- the place of a link, in the list of all
pub record PlaceAt (s : GrandWorld) (link served : ℕ) (place : Place) : Type 0 where
  pub number : link ≡ suc served
  pub less : served < length s.server.links
  pub at : option_map place_of (slice_get s.server.links served) ≡ Some place

place_in : (s : GrandWorld) (link served : ℕ) (place : Place) → PlaceAt s link served place → (w : Grand) → StandsForGrand s w → at_number w.places link ≡ Some place
place_in s link served place at w stands =
    ap (λ (n : ℕ). at_number w.places n) at.number
    ∙ ap (λ (ps : List Place). slice_get ps served) (sym stands.server.places)
    ∙ get_mapped place_of s.server.links served
    ∙ at.at

pub not_client : (s : GrandWorld) (link served many : ℕ) (end : Place) → PlaceAt s link served end → many ≡ length s.clients → IsIndex end.client many None
    → (w : Grand) → StandsForGrand s w → find_link link w ≡ None
not_client s link served many end place counted none w stands =
    ap (λ (p : Option Place). found_at p w.clients) (place_in s link served end place w stands)
    ∙ ap (λ (c : Option Client). found_client end c) (missing_in w.clients end.client many (counted ∙ count s.clients w.clients stands.clients) none)

pub not_link : (s : GrandWorld) (link served n many : ℕ) (end : Place) → PlaceAt s link served end → end.client ≡ suc n → n < length s.clients
    → many ≡ length (links_at (slice_get s.clients n)) → IsIndex end.link many None → (w : Grand) → StandsForGrand s w → find_link link w ≡ None
not_link s link served n many end place at within counted none w stands =
    let c = get_less w.clients n (omega (arith, within, count s.clients w.clients stands.clients)) in
    ap (λ (p : Option Place). found_at p w.clients) (place_in s link served end place w stands)
    ∙ ap (λ (x : Option Client). found_client end x) (ap (λ (i : ℕ). at_number w.clients i) at ∙ c.1)
    ∙ ap (λ (l : Option GrandLink). found_link end c.0 l)
    (missing_in c.0.links end.link many (counted ∙ links_at_counted s.clients w.clients n c.0 stands.clients c.1) none)

pub found_there : (s : GrandWorld) (link served n k many : ℕ) (end : Place) → PlaceAt s link served end → end.client ≡ suc n → n < length s.clients
    → many ≡ length (links_at (slice_get s.clients n)) → end.link ≡ suc k → k < many
    → (w : Grand) → StandsForGrand s w → (f : Found) × (find_link link w ≡ Some f) × FoundAt (record { served = served; client = n; link = k }) w f
found_there s link served n k many end place at within counted linked below w stands =
    let c = get_less w.clients n (omega (arith, within, count s.clients w.clients stands.clients)) in
    let l = get_less c.0.links k (omega (arith, below, counted, links_at_counted s.clients w.clients n c.0 stands.clients c.1)) in (
      record { place = end; client = c.0; link = l.0 },
      ap (λ (p : Option Place). found_at p w.clients) (place_in s link served end place w stands)
          ∙ ap (λ (x : Option Client). found_client end x) (ap (λ (i : ℕ). at_number w.clients i) at ∙ c.1)
          ∙ ap (λ (x : Option GrandLink). found_link end c.0 x) (ap (λ (i : ℕ). at_number c.0.links i) linked ∙ l.1),
      record {
        place = ap (λ (i : ℕ). at_number w.places i) (sym place.number) ∙ place_in s link served end place w stands;
        client_number = at;
        link_number = linked;
        client = c.1;
        link = l.1;
      },
    )

pub spot_there : (s : GrandWorld) (link served n k many : ℕ) (end : Place) → PlaceAt s link served end → n < length s.clients → many ≡ length (links_at (slice_get s.clients n)) → k < many
    → IsThere (record { served = served; client = n; link = k }) s
spot_there s link served n k many end place within counted below =
    record { served = place.less; client = within; link = get_less (links_at (slice_get s.clients n)) k (omega (arith, below, counted)) }

-- ---- what can be read

pub readable_is : (side : Side) (old new : List ClientState) (cs : List Client) (n k : ℕ) (c : Client) (l : GrandLink) (bytes : List ℕ) → IsFlushedAt n old new → ClientsStand old cs
    → slice_get cs n ≡ Some c → slice_get c.links k ≡ Some l → option_map (readable side) (link_at n k new) ≡ Some bytes → readable side l.link ≡ bytes
readable_is side old new cs n k c l bytes flushed all is at read =
    let h = flushed cs c all is in
    let same : map wire c.links ≡ h.0.links = h.2.links ∙ ap (λ (bs : List ℕ). put_on_last bs h.0.links) h.3 ∙ put_nothing h.0.links in
    let here : link_at n k new ≡ Some l.link = ap (λ (x : Option ClientState). slice_get (links_at x) k) h.1 ∙ ap (λ (ls : List Link). slice_get ls k) (sym same) ∙ get_map wire c.links k l at in
    there_is (ap (λ (x : Option Link). option_map (readable side) x) (sym here) ∙ read)
  where
    there_is : {x y : List ℕ} → ◌≡◌ {A = Option (List ℕ)} (Some x) (Some y) → x ≡ y
    there_is e = cc

pub on_ok : {X E : Type 0} → (r : Result X E) (P : Type 0) → OnOk r P → is_err r ≡ false → P
on_ok (Ok x) P holds is = holds
on_ok (Err e) P holds is = absurd cc

-- the bytes that were chosen are those of the link that was found
pub chosen_fault : (old new : List ClientState) (w : Grand) (f : Found) (spot : Spot) (s : GrandWorld) (side : Side) (count : Count) (bytes : List ℕ) (fault : GrandFault) → s.clients ≡ old
    → IsFlushedAt spot.client old new → option_map (readable side) (link_at spot.client spot.link new) ≡ Some bytes → IsCause fault (if_many count (length bytes))
    → StandsForGrand s w → FoundAt spot w f → IsCause fault (if_unread side count f.link)
chosen_fault old new w f spot s side count bytes fault same flushed read cause stands found =
    let is = readable_is side old new w.clients spot.client spot.link f.client f.link bytes flushed (subst (λ (hs : List ClientState). ClientsStand hs w.clients) same stands.clients) found.client found.link read in
    subst (λ (bs : List ℕ). IsCause fault (if_many count (length bs))) (sym is) cause

pub chosen_bytes : (old new : List ClientState) (w : Grand) (f : Found) (spot : Spot) (s : GrandWorld) (side : Side) (count : Count) (there bytes : List ℕ) (n : ℕ) → s.clients ≡ old
    → IsFlushedAt spot.client old new → option_map (readable side) (link_at spot.client spot.link new) ≡ Some there → if_many count (length there) ≡ None
    → n ≡ amount count (length there) → bytes ≡ take n there → StandsForGrand s w → FoundAt spot w f
    → (if_unread side count f.link ≡ None) × (bytes ≡ take (amount count (length (readable side f.link.link))) (readable side f.link.link))
chosen_bytes old new w f spot s side count there bytes n same flushed read none many taken stands found =
    let is = readable_is side old new w.clients spot.client spot.link f.client f.link there flushed (subst (λ (hs : List ClientState). ClientsStand hs w.clients) same stands.clients) found.client found.link read in
    subst (λ (bs : List ℕ). (if_many count (length bs) ≡ None) × (bytes ≡ take (amount count (length bs)) bs)) (sym is) (none, taken ∙ ap (λ (i : ℕ). take i there) many)
