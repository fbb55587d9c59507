-- Events of clients, in a world and in the world of the one client.
use Rattle.std.proofs.Common.{◌≡◌, inl, inr, ℕ, zero, suc, ◌<◌, Bool, true, false, true≢false, Option, Some, None, List, [], ◌∷◌, ◌++◌, length, refl, ap, sym, ◌∙◌, subst, arith}
use Rattle.std.specs.Prelude.{slice_get, slice_set}
use Rattle.ra_base.specs.declared.key.Key.{Key}
use Rattle.ra_model.specs.Links.{at_number}
use Rattle.ra_registry.specs.Rows.{same_key}
use Rattle.ra_registry.proofs.SameKeys.{same_key_is}
use Rattle.ra_session.specs.Sessions.{Session}
use Rattle.ra_hub.specs.Hubs.{Hub, row}
use Rattle.ra_hub.specs.Jobs.{SeenJob}
use Rattle.ra_views.specs.SessionLinks.{KeepsLink}
use Rattle.ra_dial.specs.declared.values.DialEvent.{DialEvent}
use Rattle.ra_dial.specs.declared.values.DialEvent.TheVariants as dial_events
use Rattle.ra_script.specs.declared.grand_line.GrandEvent.{GrandEvent}
use Rattle.ra_grand_runs.specs.GrandClients.{GrandLink, Client, new_client, writes_up, fresh_link, dialled, linked, asked}
use Rattle.ra_grand_runs.specs.GrandRuns.{joins, with_place, links}
use Rattle.ra_grand_runs.specs.Grands.{Grand, Place, changed, with_client}
use Rattle.ra_grand_runs.specs.Lasts.{with_last, with_last_of}
use Rattle.ra_run_laws.proofs.Lists.{none_there, there_is, get_front}
use Rattle.ra_isolation_laws.specs.Isolation.{jobs_for, is_of, if_own, own_after, alone}
use Rattle.ra_isolation_laws.proofs.IsolatedClaims.{Moves, moves_dialer, moves_linked, moves_asked, claims_new}
use Rattle.ra_isolation_laws.proofs.IsolatedHubs.{Agree}
use Rattle.ra_isolation_laws.proofs.IsolatedWorlds.{own_places, one_more, at_end, there_small, Own, Mine, Alike, own_is, Between, own_step, left_put, others_step}

-- ---- the links of a client keep their count

len_last : (bytes : List ℕ) (l : GrandLink) (ls : List GrandLink) → length (with_last_of (writes_up bytes) l ls) ≡ suc (length ls)
len_last bytes l [] = refl
len_last bytes l (k ∷ ls) = ap (λ (n : ℕ). suc n) (len_last bytes k ls)

len_written : (bytes : List ℕ) (ls : List GrandLink) → length (with_last (writes_up bytes) ls) ≡ length ls
len_written bytes [] = refl
len_written bytes (l ∷ ls) = len_last bytes l ls

pub len_dialled : (event : DialEvent) (now : ℕ) (c : Client) → length (dialled event now c).links ≡ length c.links
unfolding dialled
len_dialled event now c = len_written _ c.links

len_asked : (call : Session → Session) (c : Client) → length (asked call c).links ≡ length c.links
unfolding asked
len_asked call c = len_written _ c.links

len_linked : (now : ℕ) (c : Client) → length (linked now c).links ≡ suc (length c.links)
len_linked now c = len_dialled dial_events.Linked now (record c { links = c.links ++ fresh_link c ∷ [] }) ∙ one_more c.links (fresh_link c)

-- ---- the world of the one client

-- its client becomes another, and its hub stays
pub record Becomes (a b : Grand) (d : Client) : Type 0 where
  pub clients : b.clients ≡ d ∷ []
  pub places : b.places ≡ own_places (length d.links)
  pub now : b.now ≡ a.now
  pub hub : b.hub ≡ a.hub
  pub jobs_are : b.jobs ≡ a.jobs

-- the same, of the client that is there
abbrev pub BecomesBy : Grand → Grand → (Client → Client) → Type 0
BecomesBy a b g = (c : Client) → a.clients ≡ c ∷ [] → a.places ≡ own_places (length c.links) → Becomes a b (g c)

becomes_client : (a : Grand) (g : Client → Client) → ((c : Client) → length (g c).links ≡ length c.links) → BecomesBy a (with_client 1 g a) g
becomes_client a g len c alone places = record {
  clients = ap (λ (cs : List Client). changed 1 g (at_number cs 1) cs) alone;
  places = places ∙ ap own_places (sym (len c));
  now = refl;
  hub = refl;
  jobs_are = refl;
}

-- a link more
becomes_placed : (a b : Grand) (d : Client) (n : ℕ) → b.clients ≡ d ∷ [] → b.places ≡ own_places n → length d.links ≡ suc n → b.now ≡ a.now → b.hub ≡ a.hub → b.jobs ≡ a.jobs
    → Becomes a (with_place 1 (at_number b.clients 1) b) d
becomes_placed a b d n clients places len now hub jobs =
    subst (λ (o : Option Client). Becomes a (with_place 1 o b) d) (ap (λ (cs : List Client). at_number cs 1) (sym clients)) (record {
      clients = clients;
      places =
          ap (λ (ps : List Place). ps ++ record { client = 1; link = length d.links } ∷ []) places
          ∙ ap (λ (k : ℕ). own_places n ++ record { client = 1; link = k } ∷ []) len
          ∙ ap own_places (sym len);
      now = now;
      hub = hub;
      jobs_are = jobs;
    })

becomes_linked : (a : Grand) → BecomesBy a (links 1 a) (linked a.now)
becomes_linked a c alone places =
    becomes_placed a (with_client 1 (linked a.now) a) (linked a.now c) (length c.links)
    (ap (λ (cs : List Client). changed 1 (linked a.now) (at_number cs 1) cs) alone) places (len_linked a.now c) refl refl refl

-- ---- an event of one client

client_own : (key : Key) (n : ℕ) (f : ℕ → Client → Client) (w v a b : Grand) (c : Client) → v.clients ≡ slice_set w.clients n (f w.now c) → v.hub ≡ w.hub → v.now ≡ w.now → v.jobs ≡ w.jobs
    → Between w v → Alike key w a → Own key (row w.hub key) w.clients a n c → Moves c (f w.now c) → BecomesBy a b (f a.now) → Alike key v b
client_own key n f w v a b c clients hub now jobs between alike own moves becomes =
    let turns : Becomes a b (f w.now c) = subst (λ (t : ℕ). Becomes a b (f t c)) (sym alike.now) (becomes c own.alone own.places) in
    own_step key w v a b n c (f w.now c) between own clients turns.clients turns.places moves (now ∙ alike.now ∙ sym turns.now)
    (subst (λ (h : Hub). Agree key v.hub h) (sym turns.hub) (subst (λ (h : Hub). Agree key h a.hub) (sym hub) alike.hub))
    (ap (λ (js : List SeenJob). jobs_for key js) jobs ∙ alike.jobs_are ∙ sym turns.jobs_are)

by_key : (key : Key) (n : ℕ) (f : ℕ → Client → Client) (ev : GrandEvent) (w a : Grand) (c : Client) (b : Bool) → same_key key c.key ≡ b → slice_get w.clients n ≡ Some c
    → Between w (record w { clients = slice_set w.clients n (f w.now c) }) → Alike key w a → Moves c (f w.now c) → BecomesBy a (own_after ev [] a) (f a.now)
    → Alike key (record w { clients = slice_set w.clients n (f w.now c) }) (alone key (if_own b ev) a)
by_key key n f ev w a c true is there between alike moves becomes =
    client_own key n f w (record w { clients = slice_set w.clients n (f w.now c) }) a (own_after ev [] a) c refl refl refl refl between alike
    (own_is key w a n c between.before alike there is) moves becomes
by_key key n f ev w a c false is there between alike moves becomes =
    others_step key w (record w { clients = slice_set w.clients n (f w.now c) }) a a between alike (left_put key w.clients n c (f w.now c) there is moves.key) refl refl alike.now alike.hub alike.jobs_are

by_number : (key : Key) (n : ℕ) (f : ℕ → Client → Client) (ev : GrandEvent) (w a : Grand) (o : Option Client) → at_number w.clients n ≡ o
    → Between w (record w { clients = changed n (f w.now) o w.clients }) → Alike key w a → ((now : ℕ) (c : Client) → Moves c (f now c)) → BecomesBy a (own_after ev [] a) (f a.now)
    → Alike key (record w { clients = changed n (f w.now) o w.clients }) (alone key (if_own (is_of key o) ev) a)
by_number key n f ev w a None is between alike moves becomes = alike
by_number key zero f ev w a (Some c) is between alike moves becomes = none_there is
by_number key (suc n) f ev w a (Some c) is between alike moves becomes =
    by_key key n f ev w a c (same_key key c.key) refl is between alike (moves w.now c) becomes

-- its dialer has an event
pub alike_dialled : (key : Key) (n : ℕ) (event : DialEvent) (ev : GrandEvent) (w a : Grand) → own_after ev [] a ≡ with_client 1 (dialled event a.now) a
    → Between w (with_client n (dialled event w.now) w) → Alike key w a → Alike key (with_client n (dialled event w.now) w) (alone key (if_own (is_of key (at_number w.clients n)) ev) a)
alike_dialled key n event ev w a same between alike =
    by_number key n (dialled event) ev w a (at_number w.clients n) refl between alike (λ now c. moves_dialer event now c)
    (subst (λ (b : Grand). BecomesBy a b (dialled event a.now)) (sym same) (becomes_client a (dialled event a.now) (λ c. len_dialled event a.now c)))

-- its session has a call
pub alike_asked : (key : Key) (n : ℕ) (call : ℕ → Session → Session) (ev : GrandEvent) (w a : Grand) → ((now : ℕ) → KeepsLink (call now))
    → own_after ev [] a ≡ with_client 1 (asked (call a.now)) a
    → Between w (with_client n (asked (call w.now)) w) → Alike key w a → Alike key (with_client n (asked (call w.now)) w) (alone key (if_own (is_of key (at_number w.clients n)) ev) a)
alike_asked key n call ev w a keeps same between alike =
    by_number key n (λ now. asked (call now)) ev w a (at_number w.clients n) refl between alike (λ now c. moves_asked (call now) c (keeps now))
    (subst (λ (b : Grand). BecomesBy a b (asked (call a.now))) (sym same) (becomes_client a (asked (call a.now)) (λ c. len_asked (call a.now) c)))

-- it has a link more
placed : (key : Key) (n : ℕ) (o : Option Client) (v b : Grand) → Alike key v b → Alike key (with_place n o v) b
placed key n None v b alike = alike
placed key n (Some c) v b alike = record { now = alike.now; hub = alike.hub; jobs_are = alike.jobs_are; mine = alike.mine }

unplaced : (n : ℕ) (o : Option Client) (w v : Grand) → Between w (with_place n o v) → Between w v
unplaced n None w v between = between
unplaced n (Some c) w v between = record {
  before = between.before;
  after = let k = between.after in record { parts = k.parts; keys = k.keys; unknown = k.unknown };
  rises = between.rises;
}

pub alike_linked : (key : Key) (n : ℕ) (ev : GrandEvent) (w a : Grand) → own_after ev [] a ≡ links 1 a → Between w (links n w) → Alike key w a
    → Alike key (links n w) (alone key (if_own (is_of key (at_number w.clients n)) ev) a)
alike_linked key n ev w a same between alike =
    let v = with_client n (linked w.now) w in
    placed key n (at_number v.clients n) v (alone key (if_own (is_of key (at_number w.clients n)) ev) a)
    (by_number key n linked ev w a (at_number w.clients n) refl (unplaced n (at_number v.clients n) w v between) alike (λ now c. moves_linked now c)
    (subst (λ (b : Grand). BecomesBy a b (linked a.now)) (sym same) (becomes_linked a)))

-- ---- a client that is made

back_more : (key : Key) (xs : List Client) (new c : Client) (n : ℕ) → same_key key new.key ≡ false → same_key key c.key ≡ true → slice_get (xs ++ new ∷ []) n ≡ Some c → slice_get xs n ≡ Some c
back_more key [] new c zero apart so is = absurd (true≢false (sym so ∙ ap (λ (x : Client). same_key key x.key) (sym (there_is is)) ∙ apart))
back_more key [] new c (suc n) apart so is = none_there is
back_more key (x ∷ xs) new c zero apart so is = is
back_more key (x ∷ xs) new c (suc n) apart so is = back_more key xs new c n apart so is

joined : (key k : Key) (b : Bool) (ev : GrandEvent) (w a : Grand) → same_key key k ≡ b → own_after ev [] a ≡ joins k a → Between w (joins k w) → Alike key w a
    → Alike key (joins k w) (alone key (if_own b ev) a)
joined key k false ev w a is same between alike =
    others_step key w (joins k w) a a between alike
    (λ n c so. (λ there. get_front w.clients (new_client k w.now ∷ []) n c there, λ there. back_more key w.clients (new_client k w.now) c n is so there))
    refl refl alike.now alike.hub alike.jobs_are
joined key k true ev w a is same between alike = subst (λ (b : Grand). Alike key (joins k w) b) (sym same) (record {
  now = alike.now;
  hub = alike.hub;
  jobs_are = alike.jobs_are;
  mine = inl (length w.clients, new, by alike.mine);
})
  where
    new : Client
    new = new_client k w.now

    at_last : slice_get (w.clients ++ new ∷ []) (length w.clients) ≡ Some new
    at_last = at_end w.clients new (length w.clients) refl

    by : Mine key (row w.hub key) w.clients a → Own key (row w.hub key) (w.clients ++ new ∷ []) (joins k a) (length w.clients) new
    by (inl (n, c, own)) =
        absurd (past n (there_small w.clients n c own.there)
        (between.after.keys n (length w.clients) c new (get_front w.clients (new ∷ []) n c own.there) at_last (ap (λ (q : Key). same_key q k) own.key_is ∙ is)))
      where
        past : (m : ℕ) → m < length w.clients → m ≡ length w.clients → ⊥
        past m less e = omega (arith, less, e)
    by (inr absent) = record {
      there = at_last;
      key_is = sym (same_key_is key k is);
      alone = ap (λ (cs : List Client). cs ++ new_client k a.now ∷ []) absent.alone ∙ ap (λ (t : ℕ). new_client k t ∷ []) (sym alike.now);
      places = absent.places;
      claims = claims_new k w.now (row w.hub key);
    }

pub alike_joined : (key k : Key) (ev : GrandEvent) (w a : Grand) → own_after ev [] a ≡ joins k a → Between w (joins k w) → Alike key w a
    → Alike key (joins k w) (alone key (if_own (same_key key k) ev) a)
alike_joined key k ev w a same between alike = joined key k (same_key key k) ev w a refl same between alike
