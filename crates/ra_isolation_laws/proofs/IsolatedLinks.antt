-- Events of links but for those that bring bytes to the server, in a world and in the world of the one client.
use Rattle.std.proofs.Common.{◌≡◌, ℕ, zero, suc, ◌+◌, Bool, true, false, Option, Some, None, is_none, List, [], ◌∷◌, ◌++◌, length, drop, refl, ap, sym, ◌∙◌, subst}
use Rattle.std.specs.Prelude.{slice_get, slice_set}
use Rattle.ra_base.specs.declared.event.Count.{Count}
use Rattle.ra_base.specs.declared.event.Side.TheVariants.{A, B}
use Rattle.ra_base.specs.declared.key.Key.{Key}
use Rattle.ra_base.specs.declared.key.Seat.{Seat}
use Rattle.ra_model.specs.Links.{at_number, read_on, written_to, cut_off}
use Rattle.ra_registry.specs.Rows.{same_key}
use Rattle.ra_registry.proofs.SameKeys.{same_key_other_way}
use Rattle.ra_hub.specs.Hubs.{row}
use Rattle.ra_link_core.specs.LinkRuns.{hub_left}
use Rattle.ra_dial.specs.declared.values.DialEvent.TheVariants as dial_events
use Rattle.ra_script.specs.declared.grand_line.GrandEvent.TheVariants as events
use Rattle.ra_grand_runs.specs.Draws.{first_draws}
use Rattle.ra_grand_runs.specs.GrandClients.{GrandLink, Client}
use Rattle.ra_grand_runs.specs.GrandRuns.{bytes_down, takes, comes_down, cuts, happens}
use Rattle.ra_grand_runs.specs.Grands.{Grand, Place, Found, changed, found_link, found_client, found_at, find_link, on_link}
use Rattle.ra_grand_runs.specs.ServedLinks.{draw_at, server_left}
use Rattle.ra_run_laws.proofs.Lists.{none_there, get_same}
use Rattle.ra_link_laws.specs.Parts.{EndStands, PartHolds}
use Rattle.ra_isolation_laws.specs.Isolation.{jobs_for, if_own, link_seen, alone}
use Rattle.ra_isolation_laws.proofs.IsolatedClaims.{claims_on, moves_link}
use Rattle.ra_isolation_laws.proofs.IsolatedClients.{len_dialled}
use Rattle.ra_isolation_laws.proofs.IsolatedHubs.{Agree, agree_trans, IsOf, agree_left, other_left}
use Rattle.ra_isolation_laws.proofs.IsolatedOpenings.{own_draws}
use Rattle.ra_isolation_laws.proofs.IsolatedWorlds.{own_places, found, Own, Alike, find_alone, own_is, Between, own_step, Left, left_put, others_step}

-- ---- a link that is looked for

by_numbers : (w : Grand) (P : Option Found → Type 0) (c : Client) (l : GrandLink)
    → ((n m : ℕ) (d : Client) (k : GrandLink) → slice_get w.clients n ≡ Some d → slice_get d.links m ≡ Some k → P (Some (found n m d k)))
    → (i j : ℕ) → at_number w.clients i ≡ Some c → at_number c.links j ≡ Some l → P (Some (record { place = record { client = i; link = j }; client = c; link = l }))
by_numbers w P c l some zero j is there = none_there is
by_numbers w P c l some (suc n) zero is there = none_there there
by_numbers w P c l some (suc n) (suc m) is there = some n m c l is there

by_link : (w : Grand) (P : Option Found → Type 0) → P None
    → ((n m : ℕ) (d : Client) (k : GrandLink) → slice_get w.clients n ≡ Some d → slice_get d.links m ≡ Some k → P (Some (found n m d k)))
    → (p : Place) (c : Client) (o : Option GrandLink) → at_number w.clients p.client ≡ Some c → at_number c.links p.link ≡ o → P (found_link p c o)
by_link w P none some p c None is there = none
by_link w P none some p c (Some l) is there = by_numbers w P c l some p.client p.link is there

by_client : (w : Grand) (P : Option Found → Type 0) → P None
    → ((n m : ℕ) (d : Client) (k : GrandLink) → slice_get w.clients n ≡ Some d → slice_get d.links m ≡ Some k → P (Some (found n m d k)))
    → (p : Place) (o : Option Client) → at_number w.clients p.client ≡ o → P (found_client p o)
by_client w P none some p None is = none
by_client w P none some p (Some c) is = by_link w P none some p c (at_number c.links p.link) is refl

by_place : (w : Grand) (P : Option Found → Type 0) → P None
    → ((n m : ℕ) (d : Client) (k : GrandLink) → slice_get w.clients n ≡ Some d → slice_get d.links m ≡ Some k → P (Some (found n m d k)))
    → (o : Option Place) → P (found_at o w.clients)
by_place w P none some None = none
by_place w P none some (Some p) = by_client w P none some p (at_number w.clients p.client) refl

pub by_found : (link : ℕ) (w : Grand) (P : Option Found → Type 0) → P None
    → ((n m : ℕ) (d : Client) (k : GrandLink) → slice_get w.clients n ≡ Some d → slice_get d.links m ≡ Some k → P (Some (found n m d k))) → P (find_link link w)
by_found link w P none some = by_place w P none some (at_number w.places link)

-- ---- a link that changes

len_set : (ls : List GrandLink) (m : ℕ) (l : GrandLink) → length (slice_set ls m l) ≡ length ls
len_set [] m l = refl
len_set (k ∷ ls) zero l = refl
len_set (k ∷ ls) (suc m) l = ap (λ (n : ℕ). suc n) (len_set ls m l)

len_takes : (b : Bool) (bytes : List ℕ) (now : ℕ) (c : Client) → length (takes b bytes now c).links ≡ length c.links
len_takes true bytes now c = len_dialled (dial_events.Piece bytes) now c
len_takes false bytes now c = refl

-- the client, with another link at a place, once its dialer has bytes of it
abbrev pub with_new : Bool → List ℕ → ℕ → ℕ → GrandLink → Client → Client
with_new b bytes now m l c = takes b bytes now (record c { links = slice_set c.links m l })

-- in both worlds the link becomes the same
pub link_own : (key : Key) (b : Bool) (bytes : List ℕ) (n m : ℕ) (c : Client) (l new : GrandLink) (w v a u : Grand) → slice_get c.links m ≡ Some l → claims_on new ≡ claims_on l
    → Between w v → Own key (row w.hub key) w.clients a n c → v.clients ≡ slice_set w.clients n (with_new b bytes w.now m new c) → u.clients ≡ with_new b bytes w.now m new c ∷ []
    → u.places ≡ a.places → v.now ≡ u.now → Agree key v.hub u.hub → jobs_for key v.jobs ≡ u.jobs → Alike key v u
link_own key b bytes n m c l new w v a u is claims between own clients alone places now agree jobs =
    own_step key w v a u n c (with_new b bytes w.now m new c) between own clients alone
    (places ∙ own.places ∙ ap own_places (sym (len_takes b bytes w.now (record c { links = slice_set c.links m new }) ∙ len_set c.links m new)))
    (moves_link b bytes w.now c m l new is claims) now agree jobs

-- the link of another key changes
pub link_other : (key : Key) (b : Bool) (bytes : List ℕ) (n m : ℕ) (c : Client) (l new : GrandLink) (w v a u : Grand) → slice_get w.clients n ≡ Some c → slice_get c.links m ≡ Some l
    → claims_on new ≡ claims_on l → same_key key c.key ≡ false → Between w v → Alike key w a → v.clients ≡ slice_set w.clients n (with_new b bytes w.now m new c)
    → u.clients ≡ a.clients → u.places ≡ a.places → v.now ≡ u.now → Agree key v.hub u.hub → jobs_for key v.jobs ≡ u.jobs → Alike key v u
link_other key b bytes n m c l new w v a u there is claims apart between alike clients same places now agree jobs =
    others_step key w v a u between alike
    (subst (λ (cs : List Client). Left key w.clients cs) (sym clients)
    (left_put key w.clients n c (with_new b bytes w.now m new c) there apart (moves_link b bytes w.now c m l new is claims).key))
    same places now agree jobs

-- ---- a cut

cut_by : (key : Key) (b : Bool) (w a : Grand) (n m : ℕ) (c : Client) (l : GrandLink) → same_key key c.key ≡ b → slice_get w.clients n ≡ Some c → slice_get c.links m ≡ Some l
    → Between w (cuts (found n m c l) w) → Alike key w a → Alike key (cuts (found n m c l) w) (alone key (if_own b (events.Cut (suc m))) a)
unfolding happens
cut_by key true w a n m c l is there at between alike =
    let own = own_is key w a n c between.before alike there is in
    let new : GrandLink = record l { link = cut_off l.link } in
    subst (λ (o : Option Found). Alike key (cuts (found n m c l) w) (on_link cuts o a)) (sym (find_alone key (row w.hub key) w.clients a n c m l own at))
    (link_own key false [] n m c l new w (cuts (found n m c l) w) a (cuts (found 0 m c l) a) at refl between own refl
    (ap (λ (cs : List Client). slice_set cs 0 (record c { links = slice_set c.links m new })) own.alone) refl alike.now alike.hub alike.jobs_are)
cut_by key false w a n m c l is there at between alike =
    link_other key false [] n m c l (record l { link = cut_off l.link }) w (cuts (found n m c l) w) a a there at refl is between alike refl refl refl alike.now alike.hub alike.jobs_are

pub alike_cut : (key : Key) (link : ℕ) (w a : Grand) → Between w (on_link cuts (find_link link w) w) → Alike key w a
    → Alike key (on_link cuts (find_link link w) w) (alone key (link_seen key (λ l. events.Cut l) (find_link link w)) a)
alike_cut key link w a =
    by_found link w (λ (o : Option Found). Between w (on_link cuts o w) → Alike key w a → Alike key (on_link cuts o w) (alone key (link_seen key (λ l. events.Cut l) o) a))
    (λ between alike. alike)
    (λ n m c l there at between alike. cut_by key (same_key key c.key) w a n m c l refl there at between alike)

-- ---- bytes come to the client

set_twice : {X : Type 0} → (xs : List X) (n : ℕ) (x y : X) → slice_set (slice_set xs n x) n y ≡ slice_set xs n y
set_twice [] n x y = refl
set_twice (z ∷ zs) zero x y = refl
set_twice (z ∷ zs) (suc n) x y = ap (λ (l : List _). z ∷ l) (set_twice zs n x y)

-- the client that changed takes the bytes
changed_at : (f : Client → Client) (cs : List Client) (n : ℕ) (c d : Client) → slice_get cs n ≡ Some c → changed (suc n) f (at_number (slice_set cs n d) (suc n)) (slice_set cs n d) ≡ slice_set cs n (f d)
changed_at f cs n c d is = ap (λ (o : Option Client). changed (suc n) f o (slice_set cs n d)) (get_same cs n d c is) ∙ set_twice cs n d (f d)

down_by : (key : Key) (count : Count) (b : Bool) (w a : Grand) (n m : ℕ) (c : Client) (l : GrandLink) → same_key key c.key ≡ b → slice_get w.clients n ≡ Some c → slice_get c.links m ≡ Some l
    → Between w (comes_down (bytes_down count l) (found n m c l) w) → Alike key w a
    → Alike key (comes_down (bytes_down count l) (found n m c l) w) (alone key (if_own b (events.Down (suc m) count)) a)
unfolding happens
down_by key count true w a n m c l is there at between alike =
    let own = own_is key w a n c between.before alike there is in
    let bytes : List ℕ = bytes_down count l in
    let last : Bool = is_none (at_number c.links (suc m + 1)) in
    let new : GrandLink = record l { link = read_on A (length bytes) l.link } in
    let d : Client = record c { links = slice_set c.links m new } in
    subst (λ (o : Option Found). Alike key (comes_down bytes (found n m c l) w) (on_link (λ f. comes_down (bytes_down count f.link) f) o a))
    (sym (find_alone key (row w.hub key) w.clients a n c m l own at))
    (link_own key last bytes n m c l new w (comes_down bytes (found n m c l) w) a (comes_down bytes (found 0 m c l) a) at refl between own
    (changed_at (takes last bytes w.now) w.clients n c d there)
    (ap (λ (t : ℕ). changed 1 (takes last bytes t) (at_number (slice_set a.clients 0 d) 1) (slice_set a.clients 0 d)) (sym alike.now)
    ∙ ap (λ (cs : List Client). changed 1 (takes last bytes w.now) (at_number (slice_set cs 0 d) 1) (slice_set cs 0 d)) own.alone)
    refl alike.now alike.hub alike.jobs_are)
down_by key count false w a n m c l is there at between alike =
    let bytes : List ℕ = bytes_down count l in
    let last : Bool = is_none (at_number c.links (suc m + 1)) in
    let new : GrandLink = record l { link = read_on A (length bytes) l.link } in
    link_other key last bytes n m c l new w (comes_down bytes (found n m c l) w) a a there at refl is between alike
    (changed_at (takes last bytes w.now) w.clients n c (record c { links = slice_set c.links m new }) there) refl refl alike.now alike.hub alike.jobs_are

pub alike_down : (key : Key) (link : ℕ) (count : Count) (w a : Grand) → Between w (on_link (λ f. comes_down (bytes_down count f.link) f) (find_link link w) w) → Alike key w a
    → Alike key (on_link (λ f. comes_down (bytes_down count f.link) f) (find_link link w) w) (alone key (link_seen key (λ l. events.Down l count) (find_link link w)) a)
alike_down key link count w a =
    by_found link w (λ (o : Option Found). Between w (on_link (λ f. comes_down (bytes_down count f.link) f) o w) → Alike key w a
    → Alike key (on_link (λ f. comes_down (bytes_down count f.link) f) o w) (alone key (link_seen key (λ l. events.Down l count) o) a))
    (λ between alike. alike)
    (λ n m c l there at between alike. down_by key count (same_key key c.key) w a n m c l refl there at between alike)

-- ---- the server's end is left

-- the seat of a link is of its client's key
pub seat_is : (key : Key) (w : Grand) (n m : ℕ) (c : Client) (l : GrandLink) → PartHolds (w.hub.session c.key) (row w.hub c.key) c → slice_get c.links m ≡ Some l → IsOf c.key l.server.seat
seat_is key w n m c l part at = by l.server.is_over l.server.seat (part.links m l at).end
  where
    by : (over : Bool) (seat : Option Seat) → EndStands c.key part.session_links part.present l over seat → IsOf c.key seat
    by true None stands = tt
    by true (Some seat) stands = absurd cc
    by false None stands = tt
    by false (Some seat) stands = stands.key

-- the link then, by the draws that its end made
abbrev gone_link : GrandLink → List (List ℕ) → GrandLink
gone_link l drawn = record {
  link = written_to A (drop (length l.server.out) l.server.out) (read_on B 0 l.link);
  server = record l.server { seen = l.server.seen ++ []; seat = None; drawn = drawn; is_over = true };
}

gone_by : (key : Key) (b : Bool) (w a : Grand) (n m : ℕ) (c : Client) (l : GrandLink) → same_key key c.key ≡ b → slice_get w.clients n ≡ Some c → slice_get c.links m ≡ Some l
    → Between w (server_left (found n m c l) w) → Alike key w a
    → Alike key (server_left (found n m c l) w) (alone key (if_own b (events.Gone (suc m))) a)
unfolding happens server_left
gone_by key true w a n m c l is there at between alike =
    let own = own_is key w a n c between.before alike there is in
    let new : GrandLink = gone_link l (first_draws (length l.server.drawn) (draw_at l w)) in
    let same : first_draws (length l.server.drawn) (draw_at l a) ≡ first_draws (length l.server.drawn) (draw_at l w) =
    own_draws l.server.drawn _ ∙ sym (own_draws l.server.drawn _) in
    subst (λ (o : Option Found). Alike key (server_left (found n m c l) w) (on_link server_left o a)) (sym (find_alone key (row w.hub key) w.clients a n c m l own at))
    (link_own key false [] n m c l new w (server_left (found n m c l) w) a (server_left (found 0 m c l) a) at refl between own refl
    (ap (λ (ds : List (List ℕ)). slice_set a.clients 0 (record c { links = slice_set c.links m (gone_link l ds) })) same
    ∙ ap (λ (cs : List Client). slice_set cs 0 (record c { links = slice_set c.links m new })) own.alone)
    refl alike.now
    (subst (λ (t : ℕ). Agree key (hub_left l.server.seat w.now w.hub) (hub_left l.server.seat t a.hub)) alike.now
    (agree_left key l.server.seat w.now w.hub a.hub
    (subst (λ (q : Key). IsOf q l.server.seat) own.key_is (seat_is key w n m c l (between.before.parts n c there) at)) alike.hub))
    alike.jobs_are)
gone_by key false w a n m c l is there at between alike =
    link_other key false [] n m c l (gone_link l (first_draws (length l.server.drawn) (draw_at l w))) w (server_left (found n m c l) w) a a there at refl is between alike refl refl refl alike.now
    (agree_trans key (hub_left l.server.seat w.now w.hub) w.hub a.hub
    (other_left key c.key l.server.seat w.now w.hub (seat_is key w n m c l (between.before.parts n c there) at) (same_key_other_way c.key key ∙ is)) alike.hub)
    alike.jobs_are

pub alike_gone : (key : Key) (link : ℕ) (w a : Grand) → Between w (on_link server_left (find_link link w) w) → Alike key w a
    → Alike key (on_link server_left (find_link link w) w) (alone key (link_seen key (λ l. events.Gone l) (find_link link w)) a)
alike_gone key link w a =
    by_found link w (λ (o : Option Found). Between w (on_link server_left o w) → Alike key w a
    → Alike key (on_link server_left o w) (alone key (link_seen key (λ l. events.Gone l) o) a))
    (λ between alike. alike)
    (λ n m c l there at between alike. gone_by key (same_key key c.key) w a n m c l refl there at between alike)
