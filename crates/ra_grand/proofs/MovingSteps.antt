-- What bytes that move on a link, and a link that is cut, make of a world.
use Rattle.std.proofs.Common.{◌≡◌, ℕ, zero, suc, ◌+◌, Bool, true, false, Option, Some, None, List, [], ◌∷◌, length, take, map, refl, ap, sym, ◌∙◌, subst, arith}
use Rattle.std.specs.Prelude.{is_none, slice_get, slice_set}
use Rattle.ra_base.specs.declared.event.Count.{Count}
use Rattle.ra_base.specs.declared.event.Side.TheVariants.{A}
use Rattle.ra_model.specs.Links.{at_number, amount, readable, cut_off}
use Rattle.ra_dial.specs.declared.values.DialEvent.TheVariants as events
use Rattle.ra_grand.specs.declared.spot.Spot.{Spot}
use Rattle.ra_grand.specs.declared.world.GrandWorld.{GrandWorld}
use Rattle.ra_grand_clients.specs.ClientLinks.{LinkTurnsAt, TakesDownAt, IsFlushedAt}
use Rattle.ra_grand_clients.specs.ClientStates.{ClientState}
use Rattle.ra_grand_clients.specs.Crowds.{ClientsStand}
use Rattle.ra_grand_runs.specs.GrandClients.{ServerEnd, GrandLink, Client, ends_of}
use Rattle.ra_grand_runs.specs.GrandEffects.{moved, moved_down}
use Rattle.ra_grand_runs.specs.GrandRefusals.{of_link, if_unread}
use Rattle.ra_grand_runs.specs.GrandRuns.{bytes_down, takes, is_last, comes_down, cuts}
use Rattle.ra_grand.specs.GrandStates.{StandsForGrand}
use Rattle.ra_grand_runs.specs.Grands.{Grand, Found, changed, with_client, with_link, put_link, on_link, find_link}
use Rattle.ra_grand_runs.specs.Reached.{ClientHolds}
use Rattle.ra_grand.specs.Spots.{FoundAt}
use Rattle.ra_grand_clients.proofs.AnswerReading.{ReadsWhole, ReadsFront, reads_answer}
use Rattle.ra_grand_runs.proofs.CrowdHolding.{holds_one, holds_set}
use Rattle.ra_grand_runs.proofs.EndLemmas.{ends_dialled, ends_set}
use Rattle.ra_grand_runs.proofs.LinkChanging.{read_down, fed_holds, dropped_holds, cut_holds}
use Rattle.ra_grand_clients.proofs.LinkTurnLemmas.{set_map, get_map}
use Rattle.ra_grand.proofs.WorldSteps.{with_clients, stands_with}

-- ---- lists

there_is : {X : Type 0} → {x y : X} → ◌≡◌ {A = Option X} (Some x) (Some y) → x ≡ y
there_is e = cc

pub set_same : {X : Type 0} → (xs : List X) (k : ℕ) (x : X) → slice_get xs k ≡ Some x → slice_set xs k x ≡ xs
set_same [] k x is = refl
set_same (y ∷ ys) zero x is = ap (λ z. z ∷ ys) (sym (there_is is))
set_same (y ∷ ys) (suc k) x is = ap (λ zs. y ∷ zs) (set_same ys k x is)

pub set_twice : {X : Type 0} → (xs : List X) (k : ℕ) (x y : X) → slice_set (slice_set xs k x) k y ≡ slice_set xs k y
set_twice [] k x y = refl
set_twice (z ∷ zs) zero x y = refl
set_twice (z ∷ zs) (suc k) x y = ap (λ vs. z ∷ vs) (set_twice zs k x y)

pub set_got : {X : Type 0} → (xs : List X) (k : ℕ) (x y : X) → slice_get xs k ≡ Some x → slice_get (slice_set xs k y) k ≡ Some y
set_got [] k x y is = absurd cc
set_got (z ∷ zs) zero x y is = refl
set_got (z ∷ zs) (suc k) x y is = set_got zs k x y is

-- ---- a link that was found becomes another

pub ends_link : (c : Client) (k : ℕ) (l m : GrandLink) → slice_get c.links k ≡ Some l → m.server ≡ l.server → ends_of (with_link (suc k) m c) ≡ ends_of c
ends_link c k l m is same =
    set_map (λ (x : GrandLink). x.server) c.links k m
    ∙ ap (λ (e : ServerEnd). slice_set (map (λ (x : GrandLink). x.server) c.links) k e) same
    ∙ set_same (map (λ (x : GrandLink). x.server) c.links) k l.server (get_map (λ (x : GrandLink). x.server) c.links k l is)

-- at its spot
pub put_link_is : (spot : Spot) (w : Grand) (f : Found) (m : GrandLink) → FoundAt spot w f
    → put_link f m w ≡ record w { clients = slice_set w.clients spot.client (with_link (suc spot.link) m f.client) }
put_link_is spot w f m found =
    ap (λ (n : ℕ). put_link (record { place = record { client = n; link = f.place.link }; client = f.client; link = f.link }) m w) found.client_number
    ∙ ap (λ (k : ℕ). put_link (record { place = record { client = suc spot.client; link = k }; client = f.client; link = f.link }) m w) found.link_number

abbrev down_there : Spot → Found → List ℕ → ℕ → Client
down_there spot f bytes now = takes (is_none (slice_get f.client.links (suc spot.link))) bytes now (with_link (suc spot.link) (read_down bytes f.link) f.client)

-- the client at that place, once its link has become another
with_put : (w : Grand) (n : ℕ) (c d : Client) (g : Client → Client) → slice_get w.clients n ≡ Some c
    → with_client (suc n) g (record w { clients = slice_set w.clients n d }) ≡ record w { clients = slice_set w.clients n (g d) }
with_put w n c d g is =
    ap (λ (x : Option Client). record w { clients = changed (suc n) g x (slice_set w.clients n d) }) (set_got w.clients n c d is)
    ∙ ap (λ (cs : List Client). record w { clients = cs }) (set_twice w.clients n d (g d))

next_number : (k : ℕ) (c : Client) → at_number c.links (suc k + 1) ≡ slice_get c.links (suc k)
next_number k c = ap (λ (n : ℕ). at_number c.links n) two
  where
    two : suc k + 1 ≡ suc (suc k)
    two = omega arith

last_is : (spot : Spot) (w : Grand) (f : Found) → FoundAt spot w f → is_last f.place f.client ≡ is_none (slice_get f.client.links (suc spot.link))
last_is spot w f found =
    ap (λ (k : ℕ). is_none (at_number f.client.links (k + 1))) found.link_number ∙ ap (λ (x : Option GrandLink). is_none x) (next_number spot.link f.client)

pub comes_down_is : (spot : Spot) (w : Grand) (f : Found) (bytes : List ℕ) → FoundAt spot w f
    → comes_down bytes f w ≡ record w { clients = slice_set w.clients spot.client (down_there spot f bytes w.now) }
comes_down_is spot w f bytes found =
    ap (λ (n : ℕ). with_client n (takes (is_last f.place f.client) bytes w.now) (put_link f (read_down bytes f.link) w)) found.client_number
    ∙ ap (λ (b : Bool). with_client (suc spot.client) (takes b bytes w.now) (put_link f (read_down bytes f.link) w)) (last_is spot w f found)
    ∙ ap (λ (v : Grand). with_client (suc spot.client) (takes (is_none (slice_get f.client.links (suc spot.link))) bytes w.now) v) (put_link_is spot w f (read_down bytes f.link) found)
    ∙ with_put w spot.client f.client (with_link (suc spot.link) (read_down bytes f.link) f.client) (takes (is_none (slice_get f.client.links (suc spot.link))) bytes w.now) found.client

-- ---- what holds of it then

takes_holds : (now : ℕ) (c : Client) (k : ℕ) (l : GrandLink) (m : ℕ) (bytes : List ℕ) → bytes ≡ take m (readable A l.link) → ClientHolds c → slice_get c.links k ≡ Some l
    → (next : Option GrandLink) → slice_get c.links (suc k) ≡ next → ClientHolds (takes (is_none next) bytes now (with_link (suc k) (read_down bytes l) c))
takes_holds now c k l m bytes taken h is None next = fed_holds now c k l m bytes taken h is next
takes_holds now c k l m bytes taken h is (Some n) next = dropped_holds c k l n m bytes taken h is next

ends_taken : (b : Bool) (bytes : List ℕ) (now : ℕ) (c : Client) → ends_of (takes b bytes now c) ≡ ends_of c
ends_taken true bytes now c = ends_dialled (events.Piece bytes) now c
ends_taken false bytes now c = refl

-- ---- in memory

down_at : ReadsWhole → ReadsFront → (old s : GrandWorld) (new : List ClientState) (spot : Spot) (bytes : List ℕ) (m : ℕ) (w : Grand) (f : Found) → StandsForGrand old w → StandsForGrand s w
    → IsFlushedAt spot.client old.clients s.clients → FoundAt spot w f → bytes ≡ take m (readable A f.link.link) → TakesDownAt spot.client spot.link bytes s.moment s.clients new
    → StandsForGrand (with_clients s new) (comes_down bytes f w)
down_at whole front old s new spot bytes m w f before stands flushed found taken takes_all =
    let c = f.client in
    let h = holds_one w.clients spot.client c stands.holds found.client in
    let held = flushed w.clients c before.clients found.client in
    let d = down_there spot f bytes s.moment in
    let made : ClientsStand new (slice_set w.clients spot.client d) =
    takes_all w.clients c f.link held.0 stands.clients found.client held.1 held.2 (reads_answer whole front c h) found.link in
    let holds : ClientHolds d = takes_holds s.moment c spot.link f.link m bytes taken h found.link _ refl in
    let ends : ends_of d ≡ ends_of c = ends_taken _ bytes s.moment (with_link (suc spot.link) (read_down bytes f.link) c) ∙ ends_link c spot.link f.link (read_down bytes f.link) found.link refl in
    subst (λ (v : Grand). StandsForGrand (with_clients s new) v)
    (ap (λ (n : ℕ). record w { clients = slice_set w.clients spot.client (down_there spot f bytes n) }) (sym stands.now) ∙ sym (comes_down_is spot w f bytes found))
    (stands_with s new w (slice_set w.clients spot.client d) stands made (holds_set w.clients spot.client d stands.holds holds) (ends_set w.clients spot.client c d found.client ends))

cut_at : (s : GrandWorld) (new : List ClientState) (spot : Spot) (w : Grand) (f : Found) → StandsForGrand s w → FoundAt spot w f
    → LinkTurnsAt spot.client spot.link cut_off s.clients new → StandsForGrand (with_clients s new) (cuts f w)
cut_at s new spot w f stands found turns =
    let c = f.client in
    let m : GrandLink = record f.link { link = cut_off f.link.link } in
    let d = with_link (suc spot.link) m c in
    let holds : ClientHolds d = cut_holds c spot.link f.link (holds_one w.clients spot.client c stands.holds found.client) found.link in
    subst (λ (v : Grand). StandsForGrand (with_clients s new) v) (sym (put_link_is spot w f m found))
    (stands_with s new w (slice_set w.clients spot.client d) stands (turns w.clients c f.link m stands.clients found.client found.link refl)
    (holds_set w.clients spot.client d stands.holds holds) (ends_set w.clients spot.client c d found.client (ends_link c spot.link f.link m found.link refl)))

-- ---- what the calls answer

-- the link that is at the spot
abbrev pub Finds : ℕ → Spot → Grand → Type 0
Finds link spot w = (f : Found) × (find_link link w ≡ Some f) × FoundAt spot w f

abbrev CutDone : GrandWorld → ℕ → Grand → Option Found → Type 0
CutDone s link w found = (of_link link (λ l. None) found ≡ None) × StandsForGrand s (on_link cuts found w)

pub cut_done : (s : GrandWorld) (new : List ClientState) (link : ℕ) (spot : Spot) → LinkTurnsAt spot.client spot.link cut_off s.clients new → (w : Grand) → StandsForGrand s w → Finds link spot w
    → CutDone (with_clients s new) link w (find_link link w)
cut_done s new link spot turns w stands found =
    subst (λ (x : Option Found). CutDone (with_clients s new) link w x) (sym found.1) (refl, cut_at s new spot w found.0 stands found.2 turns)

abbrev DownDone : GrandWorld → ℕ → Count → List ℕ → Grand → Option Found → Type 0
DownDone s link count bytes w found =
    (of_link link (if_unread A count) found ≡ None) × (moved bytes None ≡ moved_down count found) × StandsForGrand s (on_link (λ f. comes_down (bytes_down count f.link) f) found w)

down_found : ReadsWhole → ReadsFront → (old s : GrandWorld) (new : List ClientState) (link : ℕ) (spot : Spot) (count : Count) (bytes : List ℕ) (w : Grand) (f : Found)
    → StandsForGrand old w → StandsForGrand s w → IsFlushedAt spot.client old.clients s.clients → FoundAt spot w f
    → (if_unread A count f.link ≡ None) × (bytes ≡ bytes_down count f.link) → TakesDownAt spot.client spot.link bytes s.moment s.clients new
    → DownDone (with_clients s new) link count bytes w (Some f)
down_found whole front old s new link spot count bytes w f before stands flushed found chosen takes_all = (
  chosen.0,
  ap (λ (bs : List ℕ). moved bs None) chosen.1,
  subst (λ (bs : List ℕ). StandsForGrand (with_clients s new) (comes_down bs f w)) chosen.1
      (down_at whole front old s new spot bytes (amount count (length (readable A f.link.link))) w f before stands flushed found chosen.1 takes_all),
)

pub down_done : ReadsWhole → ReadsFront → (old s : GrandWorld) (new : List ClientState) (link : ℕ) (spot : Spot) (count : Count) (bytes : List ℕ)
    → IsFlushedAt spot.client old.clients s.clients → TakesDownAt spot.client spot.link bytes s.moment s.clients new
    → ((w : Grand) (f : Found) → StandsForGrand old w → FoundAt spot w f → (if_unread A count f.link ≡ None) × (bytes ≡ bytes_down count f.link))
    → (w : Grand) → StandsForGrand old w → StandsForGrand s w → Finds link spot w → DownDone (with_clients s new) link count bytes w (find_link link w)
down_done whole front old s new link spot count bytes flushed takes_all chosen w before stands found =
    subst (λ (x : Option Found). DownDone (with_clients s new) link count bytes w x) (sym found.1)
    (down_found whole front old s new link spot count bytes w found.0 before stands flushed found.2 (chosen w found.0 before found.2) takes_all)
