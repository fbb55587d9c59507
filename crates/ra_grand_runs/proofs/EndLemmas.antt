-- The server's ends of a client's links, which no event of the client changes.
use Rattle.std.proofs.Common.{◌≡◌, ℕ, zero, suc, Option, Some, List, [], ◌∷◌, map, refl, ap, sym, ◌∙◌}
use Rattle.std.specs.Prelude.{slice_set, slice_get}
use Rattle.ra_session.specs.Sessions.{Session}
use Rattle.ra_dial.specs.declared.values.DialEvent.{DialEvent}
use Rattle.ra_grand_runs.specs.GrandClients.{ServerEnd, GrandLink, Client, ends_of, writes_up, dialled, asked}
use Rattle.ra_grand_runs.specs.Lasts.{with_last}
use Rattle.ra_grand_runs.proofs.LastLemmas.{stays, seen}

pub ends_sent : (bytes : List ℕ) (links : List GrandLink) → map (λ (l : GrandLink). l.server) (with_last (writes_up bytes) links) ≡ map (λ (l : GrandLink). l.server) links
ends_sent bytes links =
    seen (λ (l : GrandLink). l.server) (writes_up bytes) (λ (e : ServerEnd). e) (λ l. refl) links ∙ stays (λ (e : ServerEnd). e) (λ e. refl) (map (λ (l : GrandLink). l.server) links)

pub ends_dialled : (event : DialEvent) (now : ℕ) (c : Client) → ends_of (dialled event now c) ≡ ends_of c
unfolding dialled
ends_dialled event now c = ends_sent _ c.links

pub ends_asked : (call : Session → Session) (c : Client) → ends_of (asked call c) ≡ ends_of c
unfolding asked
ends_asked call c = ends_sent _ c.links

-- one client of many
pub ends_set : (cs : List Client) (n : ℕ) (c d : Client) → slice_get cs n ≡ Some c → ends_of d ≡ ends_of c → map ends_of (slice_set cs n d) ≡ map ends_of cs
ends_set [] n c d is same = refl
ends_set (x ∷ cs) zero c d is same = ap (λ e. e ∷ map ends_of cs) (same ∙ ap ends_of (sym (there_is is)))
  where
    there_is : {x c : Client} → ◌≡◌ {A = Option Client} (Some x) (Some c) → x ≡ c
    there_is e = cc
ends_set (x ∷ cs) (suc n) c d is same = ap (λ es. ends_of x ∷ es) (ends_set cs n c d is same)
