-- A client that is made.
use Rattle.std.proofs.Common.{◌≡◌, ◌≢◌, ℕ, zero, suc, ◌+◌, Option, Some, None, List, [], ◌∷◌, ◌++◌, length, map, refl, ap, sym, ◌∙◌, subst}
use Rattle.std.proofs.lemmas.List.{map-append}
use Rattle.std.specs.Prelude.{option_map, slice_get}
use Rattle.ra_base.specs.TokenGrammar.{IsToken}
use Rattle.ra_base.specs.declared.key.Key.{Key}
use Rattle.ra_base.specs.declared.kind.Kind.TheVariants.{Tunnel}
use Rattle.ra_model.specs.Links.{at_number}
use Rattle.ra_grand.specs.declared.world.GrandWorld.{GrandWorld}
use Rattle.ra_grand_clients.specs.ClientStates.{ClientState}
use Rattle.ra_grand_clients.specs.Crowds.{ClientsStand}
use Rattle.ra_grand_runs.specs.GrandClients.{ServerEnd, Client, ends_of, new_client}
use Rattle.ra_grand_runs.specs.GrandEffects.{made}
use Rattle.ra_grand_runs.specs.GrandRefusals.{token_taken, holder, if_taken}
use Rattle.ra_grand_runs.specs.GrandRuns.{joins}
use Rattle.ra_grand_runs.specs.Grands.{Grand}
use Rattle.ra_grand.specs.GrandStates.{StandsForGrand}
use Rattle.ra_grand_runs.specs.Reached.{ClientHolds}
use Rattle.ra_grand_server.specs.ServerStates.{ServedState, EndsStand, place_of, end_at, end_of}
use Rattle.ra_grand_runs.proofs.CrowdHolding.{holds_more}
use Rattle.ra_grand_clients.proofs.CrowdLemmas.{count}
use Rattle.ra_grand.proofs.LinkingSteps.{kept}
use Rattle.ra_grand.proofs.WorldSteps.{with_clients}

-- ---- clients

new_holds : (key : Key) (now : ℕ) → IsToken key.token → key.kind ≢ Tunnel → ClientHolds (new_client key now)
new_holds key now token kind = record { token = token; kind = kind; settings = refl; pending = refl; links = tt; asked = tt; reads = tt }

-- ---- the ends of links

there_still : (all : List (List ServerEnd)) (m k : ℕ) (e : ServerEnd) → end_of k (slice_get all m) ≡ Some e → end_of k (slice_get (all ++ [] ∷ []) m) ≡ Some e
there_still [] m k e is = absurd cc
there_still (x ∷ xs) zero k e is = is
there_still (x ∷ xs) (suc m) k e is = there_still xs m k e is

end_still : (all : List (List ServerEnd)) (client link : ℕ) (e : ServerEnd) → end_of link (at_number all client) ≡ Some e → end_of link (at_number (all ++ [] ∷ []) client) ≡ Some e
end_still all zero link e is = is
end_still all (suc m) link e is = there_still all m link e is

ends_still : (ls : List ServedState) (all : List (List ServerEnd)) → EndsStand ls all → EndsStand ls (all ++ [] ∷ [])
ends_still [] all stand = stand
ends_still (l ∷ ls) all stand =
    (kept l (end_at (place_of l) all) (end_at (place_of l) (all ++ [] ∷ [])) (λ e is. end_still all l.client l.link e is) stand.0, ends_still ls all stand.1)

-- ---- the world

pub joined : (s : GrandWorld) (new : List ClientState) (key : Key) → IsToken key.token → key.kind ≢ Tunnel
    → ((cs : List Client) → ClientsStand s.clients cs → ClientsStand new (cs ++ new_client key s.moment ∷ [])) → (w : Grand) → StandsForGrand s w → StandsForGrand (with_clients s new) (joins key w)
joined s new key token kind makes w stands = record {
  now = stands.now;
  server = record {
    hub = stands.server.hub;
    draws = stands.server.draws;
    jobs = stands.server.jobs;
    places = stands.server.places;
    apart = stands.server.apart;
    ends = subst (λ (all : List (List ServerEnd)). EndsStand s.server.links all) (sym (map-append ends_of w.clients (new_client key w.now ∷ [])))
        (ends_still s.server.links (map ends_of w.clients) stands.server.ends);
  };
  clients = subst (λ (m : ℕ). ClientsStand new (w.clients ++ new_client key m ∷ [])) (sym stands.now) (makes w.clients stands.clients);
  holds = holds_more w.clients (new_client key w.now) stands.holds (new_holds key w.now token kind);
}

pub free : (s : GrandWorld) (key : Key) → ((cs : List Client) → ClientsStand s.clients cs → ◌≡◌ {A = Option ℕ} None (holder 1 key cs)) → (w : Grand) → StandsForGrand s w → if_taken key w.clients ≡ None
free s key none w stands = ap (λ (o : Option ℕ). option_map (λ n. token_taken n) o) (sym (none w.clients stands.clients))

pub taken : (s : GrandWorld) (key : Key) (n : ℕ) → ((cs : List Client) → ClientsStand s.clients cs → Some n ≡ holder 1 key cs) → (w : Grand) → StandsForGrand s w
    → if_taken key w.clients ≡ Some (token_taken n)
taken s key n is w stands = ap (λ (o : Option ℕ). option_map (λ k. token_taken k) o) (sym (is w.clients stands.clients))

pub number_joined : (s : GrandWorld) (n : ℕ) → n ≡ length s.clients + 1 → (w : Grand) → StandsForGrand s w → made n ≡ made (length w.clients + 1)
number_joined s n is w stands = ap (λ (k : ℕ). made k) (is ∙ ap (λ (k : ℕ). k + 1) (count s.clients w.clients stands.clients))
