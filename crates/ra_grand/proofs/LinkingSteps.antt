-- What a link that a client makes, and one that it can't have, make of a world.
use Rattle.std.proofs.Common.{◌≡◌, ℕ, zero, suc, ◌+◌, ◌<◌, Bool, true, false, cond, Option, Some, None, List, [], ◌∷◌, ◌++◌, length, take, map, refl, ap, sym, ◌∙◌, subst, arith}
use Rattle.std.proofs.lemmas.List.{map-append, take_at, length_push}
use Rattle.std.specs.Prelude.{nat_lt, slice_get, slice_set}
use Rattle.ra_model.specs.Links.{at_number}
use Rattle.ra_dial.specs.Calling.{is_calling}
use Rattle.ra_dial.specs.Dialers.{epoch}
use Rattle.ra_grand.specs.declared.world.GrandWorld.{GrandWorld}
use Rattle.ra_grand_clients.specs.ClientLinks.{links_at}
use Rattle.ra_grand_clients.specs.ClientStates.{ClientState}
use Rattle.ra_grand_clients.specs.Crowds.{ClientsStand, ClientsStay, LinksAt, IsCallingAt}
use Rattle.ra_grand_runs.specs.Draws.{draws_after}
use Rattle.ra_grand_runs.specs.GrandClients.{ServerEnd, GrandLink, Client, ends_of, linked, fresh_link}
use Rattle.ra_grand_runs.specs.GrandRefusals.{not_dialling, of_client, if_not_dialling}
use Rattle.ra_grand_runs.specs.GrandRuns.{links, with_place}
use Rattle.ra_grand_runs.specs.Grands.{Grand, Place, changed}
use Rattle.ra_grand.specs.GrandStates.{StandsForGrand, CallsAt}
use Rattle.ra_grand_server.specs.ServerStates.{ServerState, ServedState, StandsForServer, EndStands, EndsStand, AllDiffer, place_of, end_of, end_at}
use Rattle.ra_grand_clients.proofs.AnswerReading.{ReadsWhole, ReadsFront, reads_answer}
use Rattle.ra_grand_runs.proofs.CrowdHolding.{holds_one, holds_set}
use Rattle.ra_grand_clients.proofs.CrowdLemmas.{count, there}
use Rattle.ra_grand_runs.proofs.EndLemmas.{ends_dialled}
use Rattle.ra_grand_runs.proofs.LinkedHolding.{linked_holds}
use Rattle.ra_grand_clients.proofs.LinkTurnLemmas.{set_map, get_map}
use Rattle.ra_grand.proofs.MovingSteps.{set_got}
use Rattle.ra_grand_server.proofs.NewEnds.{new_end_stands}
use Rattle.ra_grand_server.proofs.PlaceLemmas.{apart_more, past_all}
use Rattle.ra_grand_clients.proofs.LinkCounts.{links_at_counted, length_map}
use Rattle.ra_grand.proofs.WorldSteps.{stands_with}
use Rattle.ra_grand_server.proofs.SeatsAdded.{new_served}

-- ---- the ends of links

ends_linked : (now : ℕ) (c : Client) → ends_of (linked now c) ≡ ends_of c ++ (fresh_link c).server ∷ []
ends_linked now c = ends_dialled _ now (record c { links = c.links ++ fresh_link c ∷ [] }) ∙ map-append (λ (l : GrandLink). l.server) c.links (fresh_link c ∷ [])

there_is : {X : Type 0} → {x y : X} → ◌≡◌ {A = Option X} (Some x) (Some y) → x ≡ y
there_is e = cc

at_front : {X : Type 0} → (xs : List X) (x y : X) (k : ℕ) → slice_get xs k ≡ Some y → slice_get (xs ++ x ∷ []) k ≡ Some y
at_front [] x y k is = absurd cc
at_front (z ∷ zs) x y zero is = is
at_front (z ∷ zs) x y (suc k) is = at_front zs x y k is

at_last : {X : Type 0} → (xs : List X) (x : X) → slice_get (xs ++ x ∷ []) (length xs) ≡ Some x
at_last [] x = refl
at_last (z ∷ zs) x = at_last zs x

-- an end that was there is there still
one_kept : (all : List (List ServerEnd)) (n : ℕ) (es : List ServerEnd) (new e : ServerEnd) (p : Place) → slice_get all n ≡ Some es → end_at p all ≡ Some e
    → end_at p (slice_set all n (es ++ new ∷ [])) ≡ Some e
one_kept all n es new e p is at = by p.client p.link at
  where
    of : (k : ℕ) (m : ℕ) (all : List (List ServerEnd)) (n : ℕ) → slice_get all n ≡ Some es → end_of k (slice_get all m) ≡ Some e → end_of k (slice_get (slice_set all n (es ++ new ∷ [])) m) ≡ Some e
    of k m [] n is at = at
    of zero zero (x ∷ xs) zero is at = at
    of (suc k) zero (x ∷ xs) zero is at = at_front es new e k (ap (λ (ys : List ServerEnd). slice_get ys k) (sym (there_is is)) ∙ at)
    of k (suc m) (x ∷ xs) zero is at = at
    of k zero (x ∷ xs) (suc n) is at = at
    of k (suc m) (x ∷ xs) (suc n) is at = of k m xs n is at

    by : (client link : ℕ) → end_of link (at_number all client) ≡ Some e → end_of link (at_number (slice_set all n (es ++ new ∷ [])) client) ≡ Some e
    by zero link at = at
    by (suc m) link at = of link m all n is at

pub kept : (l : ServedState) (o p : Option ServerEnd) → ((e : ServerEnd) → o ≡ Some e → p ≡ Some e) → EndStands l o → EndStands l p
kept l None p same stands = absurd stands
kept l (Some e) p same stands = subst (λ (x : Option ServerEnd). EndStands l x) (sym (same e refl)) stands

ends_more : (ls : List ServedState) (x : ServedState) (all all' : List (List ServerEnd)) → ((p : Place) (e : ServerEnd) → end_at p all ≡ Some e → end_at p all' ≡ Some e)
    → EndStands x (end_at (place_of x) all') → EndsStand ls all → EndsStand (ls ++ x ∷ []) all'
ends_more [] x all all' same new stand = (new, tt {0})
ends_more (l ∷ ls) x all all' same new stand =
    (kept l (end_at (place_of l) all) (end_at (place_of l) all') (λ e. same (place_of l) e) stand.0, ends_more ls x all all' same new stand.1)

-- ---- the world

links_is : (n : ℕ) (w : Grand) (c : Client) → slice_get w.clients n ≡ Some c
    → links (suc n) w ≡ record w {
      clients = slice_set w.clients n (linked w.now c);
      places = w.places ++ record { client = suc n; link = length (linked w.now c).links } ∷ [];
    }
links_is n w c is =
    ap (λ (x : Option Client). let v = record w { clients = changed (suc n) (linked w.now) x w.clients } in with_place (suc n) (at_number v.clients (suc n)) v) is
    ∙ ap (λ (x : Option Client). with_place (suc n) x (record w { clients = slice_set w.clients n (linked w.now c) })) (set_got w.clients n c (linked w.now c) is)

linked_count : (now : ℕ) (c : Client) → length (linked now c).links ≡ length c.links + 1
linked_count now c =
    sym (length_map (λ (l : GrandLink). l.server) (linked now c).links) ∙ ap (λ (es : List ServerEnd). length es) (ends_linked now c)
    ∙ length_push (ends_of c) (fresh_link c).server ∙ ap (λ (n : ℕ). n + 1) (length_map (λ (l : GrandLink). l.server) c.links)

-- the world with these clients and this server
abbrev pub with_both : GrandWorld → ServerState → List ClientState → GrandWorld
with_both s server hs = record s { server = server; clients = hs }

-- what the client's ends are once it has its link
abbrev ends_then : Client → List ServerEnd
ends_then c = ends_of c ++ (fresh_link c).server ∷ []

all_ends : (now n : ℕ) (cs : List Client) (c : Client) → map ends_of (slice_set cs n (linked now c)) ≡ slice_set (map ends_of cs) n (ends_then c)
all_ends now n cs c = set_map ends_of cs n (linked now c) ∙ ap (λ (es : List ServerEnd). slice_set (map ends_of cs) n es) (ends_linked now c)

new_stands : (c : Client) (all : List (List ServerEnd)) (n : ℕ) (x : List ServerEnd) → slice_get all n ≡ Some x
    → EndStands (new_served (suc n) (suc (length (ends_of c)))) (end_at (record { client = suc n; link = suc (length (ends_of c)) }) (slice_set all n (ends_then c)))
new_stands c all n x is =
    subst (λ (o : Option ServerEnd). EndStands (new_served (suc n) (suc (length (ends_of c)))) o)
    (sym (ap (λ (es : Option (List ServerEnd)). end_of (suc (length (ends_of c))) es) (set_got all n x (ends_then c) is) ∙ at_last (ends_of c) (fresh_link c).server))
    (new_end_stands c.dialer.settings (nat_lt 0 (epoch c.dialer)) (draws_after c.drawn 0) (suc n) (suc (length (ends_of c))))

abbrev linked_world : ℕ → Client → Grand → Grand
linked_world n c w = record w {
  clients = slice_set w.clients n (linked w.now c);
  places = w.places ++ record { client = suc n; link = suc (length (ends_of c)) } ∷ [];
}

server_linked : (s : ServerState) (n : ℕ) (c : Client) (w : Grand) → StandsForServer s w → slice_get w.clients n ≡ Some c
    → StandsForServer (record s { links = s.links ++ new_served (suc n) (suc (length (ends_of c))) ∷ [] }) (linked_world n c w)
server_linked s n c w stands is =
    let place : Place = record { client = suc n; link = suc (length (ends_of c)) } in
    let there : slice_get (map ends_of w.clients) n ≡ Some (ends_of c) = get_map ends_of w.clients n c is in
    let none : end_at place (map ends_of w.clients) ≡ None = ap (λ (es : Option (List ServerEnd)). end_of (suc (length (ends_of c))) es) there ∙ past_all (ends_of c) in
    record {
      hub = stands.hub;
      draws = stands.draws;
      jobs = stands.jobs;
      places = map-append place_of s.links (new_served (suc n) (suc (length (ends_of c))) ∷ []) ∙ ap (λ (ps : List Place). ps ++ place ∷ []) stands.places;
      apart = subst (λ (ps : List Place). AllDiffer (ps ++ place ∷ [])) stands.places
          (apart_more s.links (map ends_of w.clients) place stands.ends (subst (λ (ps : List Place). AllDiffer ps) (sym stands.places) stands.apart) none);
      ends = subst (λ (all : List (List ServerEnd)). EndsStand (s.links ++ new_served (suc n) (suc (length (ends_of c))) ∷ []) all) (sym (all_ends w.now n w.clients c))
          (ends_more s.links (new_served (suc n) (suc (length (ends_of c)))) (map ends_of w.clients) (slice_set (map ends_of w.clients) n (ends_then c))
          (λ p e at. one_kept (map ends_of w.clients) n (ends_of c) (fresh_link c).server e p there at) (new_stands c (map ends_of w.clients) n (ends_of c) there) stands.ends);
    }

linked_as : (n : ℕ) (c : Client) (w : Grand) → slice_get w.clients n ≡ Some c → linked_world n c w ≡ links (suc n) w
linked_as n c w is =
    ap (λ (k : ℕ). record w { clients = slice_set w.clients n (linked w.now c); places = w.places ++ record { client = suc n; link = k } ∷ [] }) (as_many w.now c) ∙ sym (links_is n w c is)
  where
    as_many : (now : ℕ) (c : Client) → suc (length (ends_of c)) ≡ length (linked now c).links
    as_many now c = omega (arith, linked_count now c, length_map (λ (l : GrandLink). l.server) c.links)

linked_there : ReadsWhole → ReadsFront → (s : GrandWorld) (new : List ClientState) (n : ℕ) (w : Grand) (c : Client) → LinksAt n s.moment s.clients new → StandsForGrand s w
    → slice_get w.clients n ≡ Some c → is_calling c.dialer.stage ≡ true
    → StandsForGrand (with_both s (record s.server { links = s.server.links ++ new_served (suc n) (suc (length (ends_of c))) ∷ [] }) new) (linked_world n c w)
linked_there whole front s new n w c makes stands is calling =
    let h = holds_one w.clients n c stands.holds is in
    let all : ClientsStand new (slice_set w.clients n (linked w.now c)) =
    subst (λ (m : ℕ). ClientsStand new (slice_set w.clients n (linked m c))) (sym stands.now) (makes w.clients c stands.clients is (reads_answer whole front c h)) in
    record {
      now = stands.now;
      server = server_linked s.server n c w stands.server is;
      clients = all;
      holds = holds_set w.clients n (linked w.now c) stands.holds (linked_holds w.now c calling h);
    }

pub link_number : (s : GrandWorld) (n link many : ℕ) (w : Grand) (c : Client) → many ≡ length (links_at (slice_get s.clients n)) → link ≡ many + 1 → StandsForGrand s w → slice_get w.clients n ≡ Some c
    → link ≡ suc (length (ends_of c))
link_number s n link many w c counted is stands at =
    omega (arith, counted, is, links_at_counted s.clients w.clients n c stands.clients at, length_map (λ (l : GrandLink). l.server) c.links)

places_counted : (s : ServerState) (w : Grand) → StandsForServer s w → length s.links ≡ length w.places
places_counted s w stands = sym (length_map place_of s.links) ∙ ap (λ (ps : List Place). length ps) stands.places

pub link_done : ReadsWhole → ReadsFront → (s : GrandWorld) (server : ServerState) (new : List ClientState) (client n link many : ℕ) → client ≡ suc n → n < length s.clients
    → many ≡ length (links_at (slice_get s.clients n)) → link ≡ many + 1 → server ≡ record s.server { links = s.server.links ++ new_served client link ∷ [] } → LinksAt n s.moment s.clients new
    → (w : Grand) → StandsForGrand s w → CallsAt n w → (length server.links ≡ length w.places + 1) × StandsForGrand (with_both s server new) (links client w)
link_done whole front s server new client n link many is less counted numbered made makes w stands calls =
    let c = there w.clients n (omega (arith, less, count s.clients w.clients stands.clients)) in
    let number = link_number s n link many w c.0 counted numbered stands c.1 in
    let whole_server : server ≡ record s.server { links = s.server.links ++ new_served (suc n) (suc (length (ends_of c.0))) ∷ [] } =
    made ∙ ap (λ (k : ℕ). record s.server { links = s.server.links ++ new_served k link ∷ [] }) is
    ∙ ap (λ (k : ℕ). record s.server { links = s.server.links ++ new_served (suc n) k ∷ [] }) number in (
      ap (λ (x : ServerState). length x.links) made ∙ length_push s.server.links (new_served client link) ∙ ap (λ (k : ℕ). k + 1) (places_counted s.server w stands.server),
      subst (λ (x : ServerState). StandsForGrand (with_both s x new) (links client w)) (sym whole_server)
          (subst (λ (k : ℕ). StandsForGrand (with_both s (record s.server { links = s.server.links ++ new_served (suc n) (suc (length (ends_of c.0))) ∷ [] }) new) (links k w)) (sym is)
          (subst (λ (v : Grand). StandsForGrand (with_both s (record s.server { links = s.server.links ++ new_served (suc n) (suc (length (ends_of c.0))) ∷ [] }) new) v) (linked_as n c.0 w c.1)
          (linked_there whole front s new n w c.0 makes stands c.1 (calls c.0 c.1)))),
    )

-- all is as it was
pub link_undone : (s : GrandWorld) (added server : ServerState) (new : List ClientState) (end : ServedState) (count : ℕ) → added ≡ record s.server { links = s.server.links ++ end ∷ [] }
    → count ≡ length s.server.links → server ≡ record added { links = take count added.links } → ClientsStay s.clients new → (w : Grand) → StandsForGrand s w → StandsForGrand (with_both s server new) w
link_undone s added server new end count made counted back stay w stands =
    let same : server ≡ s.server =
    back ∙ ap (λ (x : ServerState). record x { links = take count x.links }) made
    ∙ ap (λ (ls : List ServedState). record s.server { links = ls }) (take_at s.server.links (end ∷ []) count (sym counted)) in
    subst (λ (x : ServerState). StandsForGrand (with_both s x new) w) (sym same) (stands_with s new w w.clients stands (stay w.clients stands.clients) stands.holds refl)

-- ---- a client that waits for no link

pub waits : (s : GrandWorld) (client n : ℕ) (answer : Bool) → client ≡ suc n → n < length s.clients → IsCallingAt n s.clients answer → answer ≡ true → (w : Grand) → StandsForGrand s w
    → of_client client (if_not_dialling client) (at_number w.clients client) ≡ None
waits s client n answer is less calling so w stands =
    let c = there w.clients n (omega (arith, less, count s.clients w.clients stands.clients)) in
    ap (λ (k : ℕ). of_client client (if_not_dialling client) (at_number w.clients k)) is
    ∙ ap (λ (x : Option Client). of_client client (if_not_dialling client) x) c.1
    ∙ ap (λ (b : Bool). cond b None (Some (not_dialling client))) (sym (calling w.clients c.0 stands.clients c.1) ∙ so)

pub waits_not : (s : GrandWorld) (client n : ℕ) (answer : Bool) → client ≡ suc n → n < length s.clients → IsCallingAt n s.clients answer → answer ≡ false → (w : Grand) → StandsForGrand s w
    → of_client client (if_not_dialling client) (at_number w.clients client) ≡ Some (not_dialling client)
waits_not s client n answer is less calling other w stands =
    let c = there w.clients n (omega (arith, less, count s.clients w.clients stands.clients)) in
    ap (λ (k : ℕ). of_client client (if_not_dialling client) (at_number w.clients k)) is
    ∙ ap (λ (x : Option Client). of_client client (if_not_dialling client) x) c.1
    ∙ ap (λ (b : Bool). cond b None (Some (not_dialling client))) (sym (calling w.clients c.0 stands.clients c.1) ∙ other)

pub calls_at : (s : GrandWorld) (n : ℕ) (answer : Bool) → IsCallingAt n s.clients answer → answer ≡ true → (w : Grand) → StandsForGrand s w → CallsAt n w
calls_at s n answer calling so w stands c is = sym (calling w.clients c stands.clients is) ∙ so
