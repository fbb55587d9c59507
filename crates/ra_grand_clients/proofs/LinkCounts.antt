-- How many links a client in memory has: as many as the one that it stands for.
use Rattle.std.proofs.Common.{◌≡◌, ℕ, zero, suc, ◌<◌, ◌≤◌, Option, Some, None, List, [], ◌∷◌, length, map, refl, ap, sym, ◌∙◌, subst, arith}
use Rattle.std.specs.Prelude.{slice_get, slice_index_or}
use Rattle.ra_base.specs.declared.event.Side.TheVariants.{B}
use Rattle.ra_model.specs.Links.{Link, written_to}
use Rattle.ra_dial.specs.Table.{out}
use Rattle.ra_grand_clients.specs.ClientLinks.{links_at}
use Rattle.ra_grand_clients.specs.ClientStates.{ClientState, StandsForClient, wire}
use Rattle.ra_grand_clients.specs.Crowds.{ClientsStand}
use Rattle.ra_grand_runs.specs.GrandClients.{Client, writes_up}
use Rattle.ra_grand_clients.proofs.CrowdLemmas.{one, count}
use Rattle.ra_grand_runs.proofs.LastLemmas.{length_last}
use Rattle.ra_grand_clients.proofs.LinkTurnLemmas.{index_is}

-- ---- lists

pub get_less : {X : Type 0} → (xs : List X) (n : ℕ) → n < length xs → (x : X) × (slice_get xs n ≡ Some x)
get_less [] n less = absurd (omega (arith, less))
get_less (x ∷ xs) zero less = (x, refl)
get_less (x ∷ xs) (suc n) less = get_less xs n (omega (arith, less))

pub less_got : {X : Type 0} → (xs : List X) (n : ℕ) (x : X) → slice_get xs n ≡ Some x → n < length xs
less_got [] n x is = absurd cc
less_got (y ∷ xs) zero x is = omega arith
less_got (y ∷ xs) (suc n) x is = omega (arith, less_got xs n x is)

pub get_indexed : {X : Type 0} → (xs : List X) (n : ℕ) (d : X) → n < length xs → slice_get xs n ≡ Some (slice_index_or xs n d)
get_indexed [] n d less = absurd (omega (arith, less))
get_indexed (x ∷ xs) zero d less = refl
get_indexed (x ∷ xs) (suc n) d less = get_indexed xs n d (omega (arith, less))

pub past : {X : Type 0} → (xs : List X) (n : ℕ) → length xs ≤ n → slice_get xs n ≡ None
past [] n less = refl
past (x ∷ xs) zero less = absurd (omega (arith, less))
past (x ∷ xs) (suc n) less = past xs n (omega (arith, less))

pub length_map : {X Y : Type 0} → (v : X → Y) (xs : List X) → length (map v xs) ≡ length xs
length_map v [] = refl
length_map v (x ∷ xs) = ap (λ n. suc n) (length_map v xs)

-- ---- links in memory

pub links_counted : (h : ClientState) (c : Client) → StandsForClient h c → length h.links ≡ length c.links
links_counted h c stands =
    let u = stands.0 in
    sym (ap (λ (x : Client). length x.links) stands.2 ∙ length_last (writes_up (out u.dialer)) u.links ∙ sym (length_map wire u.links)
    ∙ ap (λ (ls : List Link). length ls) stands.1.links ∙ length_last (written_to B h.held) h.links)

state_there : (hs : List ClientState) (cs : List Client) (n : ℕ) (c : Client) → ClientsStand hs cs → slice_get cs n ≡ Some c → (h : ClientState) × (slice_get hs n ≡ Some h) × StandsForClient h c
state_there hs cs n c all is =
    let there = get_less hs n (omega (arith, less_got cs n c is, count hs cs all)) in
    (there.0, there.1, subst (λ (h : ClientState). StandsForClient h c) (index_is hs n there.0 there.0 there.1) (one hs cs n there.0 c all is))

pub links_at_counted : (hs : List ClientState) (cs : List Client) (n : ℕ) (c : Client) → ClientsStand hs cs → slice_get cs n ≡ Some c
    → length (links_at (slice_get hs n)) ≡ length c.links
links_at_counted hs cs n c all is =
    let there = state_there hs cs n c all is in ap (λ (x : Option ClientState). length (links_at x)) there.1 ∙ links_counted there.0 c there.2
