-- Two worlds in which the part of a key is the same: one of many clients, and one of the client of the key alone.
use Rattle.std.proofs.Common.{◌≡◌, inl, inr, ℕ, zero, suc, ◌<◌, Bool, true, false, true≢false, cond, Option, Some, None, is_some, List, [], ◌∷◌, ◌++◌, length, refl, ap, sym, ◌∙◌, subst, arith}
use Rattle.std.specs.Prelude.{◌⊎◌, slice_get, slice_set}
use Rattle.ra_base.specs.declared.key.Key.{Key}
use Rattle.ra_registry.specs.declared.row.Row.{Row}
use Rattle.ra_registry.specs.Rows.{same_key}
use Rattle.ra_registry.proofs.SameKeys.{same_key_itself}
use Rattle.ra_session.specs.Sessions.{Session}
use Rattle.ra_hub.specs.Hubs.{row}
use Rattle.ra_hub.specs.Jobs.{SeenJob}
use Rattle.ra_grand_runs.specs.GrandClients.{GrandLink, Client}
use Rattle.ra_grand_runs.specs.Grands.{Grand, Place, Found, found_at, found_client, found_link, find_link}
use Rattle.ra_run_laws.specs.Rising.{HubRises}
use Rattle.ra_run_laws.proofs.Lists.{none_there, there_is, same_or_not, get_same, get_other, get_front, by_bool}
use Rattle.ra_link_laws.specs.Parts.{PartHolds, WorldKeeps}
use Rattle.ra_isolation_laws.specs.Isolation.{jobs_for}
use Rattle.ra_isolation_laws.specs.Parted.{SamePart, clients_for}
use Rattle.ra_isolation_laws.proofs.IsolatedClaims.{Claims, Moves, claims_move}
use Rattle.ra_isolation_laws.proofs.IsolatedHubs.{Agree}

-- ---- the world of one client

-- the places of its links
abbrev pub own_places : ℕ → List Place
own_places zero = []
own_places (suc n) = own_places n ++ record { client = 1; link = suc n } ∷ []

pub one_more : {X : Type 0} → (xs : List X) (x : X) → length (xs ++ x ∷ []) ≡ suc (length xs)
one_more [] x = refl
one_more (y ∷ ys) x = ap (λ (k : ℕ). suc k) (one_more ys x)

own_len : (n : ℕ) → length (own_places n) ≡ n
own_len zero = refl
own_len (suc n) = one_more (own_places n) (record { client = 1; link = suc n }) ∙ ap (λ (k : ℕ). suc k) (own_len n)

pub at_end : {X : Type 0} (xs : List X) (x : X) (n : ℕ) → length xs ≡ n → slice_get (xs ++ x ∷ []) n ≡ Some x
at_end [] x zero is = refl
at_end [] x (suc n) is = absurd cc
at_end (y ∷ ys) x zero is = absurd cc
at_end (y ∷ ys) x (suc n) is = at_end ys x n (omega (arith, is))

own_place : (n m : ℕ) → m < n → slice_get (own_places n) m ≡ Some (record { client = 1; link = suc m })
own_place zero m small = absurd (none m small)
  where
    none : (k : ℕ) → k < 0 → ⊥
    none k e = omega (arith, e)
own_place (suc n) m small = by (same_or_not n m) (λ less. own_place n m less)
  where
    below : (i j : ℕ) → (i ≡ j → ⊥) → j < suc i → j < i
    below zero zero ne small = absurd (ne refl)
    below zero (suc j) ne small = absurd (none j small)
      where
        none : (k : ℕ) → suc k < 1 → ⊥
        none k e = omega (arith, e)
    below (suc i) zero ne small = omega arith
    below (suc i) (suc j) ne small =
        let less = below i j (λ same. ne (ap (λ (k : ℕ). suc k) same)) (omega (arith, small)) in omega (arith, less)

    by : (n ≡ m) ⊎ (n ≡ m → ⊥) → (m < n → slice_get (own_places n) m ≡ Some (record { client = 1; link = suc m }))
        → slice_get (own_places n ++ record { client = 1; link = suc n } ∷ []) m ≡ Some (record { client = 1; link = suc m })
    by (inl same) there =
        at_end (own_places n) (record { client = 1; link = suc n }) m (own_len n ∙ same)
        ∙ ap (λ (k : ℕ). Some (record { client = 1; link = suc k })) same
    by (inr not) there = get_front (own_places n) (record { client = 1; link = suc n } ∷ []) m (record { client = 1; link = suc m }) (there (below n m not small))

pub there_small : {X : Type 0} (xs : List X) (n : ℕ) (x : X) → slice_get xs n ≡ Some x → n < length xs
there_small [] n x is = none_there is
there_small (y ∷ ys) zero x is = omega arith
there_small (y ∷ ys) (suc n) x is = let small = there_small ys n x is in omega (arith, small)

-- a link that was found, by the places of its client and of itself
abbrev pub found : (n m : ℕ) → Client → GrandLink → Found
found n m c l = record { place = record { client = suc n; link = suc m }; client = c; link = l }

-- the client of a key, its place among all, and the world in which it is alone
pub record Own (key : Key) (o : Option Row) (clients : List Client) (a : Grand) (n : ℕ) (c : Client) : Type 0 where
  pub there : slice_get clients n ≡ Some c
  pub key_is : c.key ≡ key
  pub alone : a.clients ≡ c ∷ []
  pub places : a.places ≡ own_places (length c.links)
  pub claims : Claims o c

-- no client has the key
pub record Absent (key : Key) (clients : List Client) (a : Grand) : Type 0 where
  pub others : (n : ℕ) (c : Client) → slice_get clients n ≡ Some c → same_key key c.key ≡ false
  pub alone : a.clients ≡ []
  pub places : a.places ≡ []

abbrev pub Mine : Key → Option Row → List Client → Grand → Type 0
Mine key o clients a = ((n : ℕ) × (c : Client) × Own key o clients a n c) ⊎ Absent key clients a

pub record Alike (key : Key) (w a : Grand) : Type 0 where
  pub now : w.now ≡ a.now
  pub hub : Agree key w.hub a.hub
  pub jobs_are : jobs_for key w.jobs ≡ a.jobs
  pub mine : Mine key (row w.hub key) w.clients a

-- its links are found there by their own numbers
pub find_alone : (key : Key) (o : Option Row) (clients : List Client) (a : Grand) (n : ℕ) (c : Client) (m : ℕ) (l : GrandLink) → Own key o clients a n c → slice_get c.links m ≡ Some l
    → find_link (suc m) a ≡ Some (found 0 m c l)
find_alone key o clients a n c m l own is =
    ap (λ (ps : List Place). found_at (slice_get ps m) a.clients) own.places
    ∙ ap (λ (p : Option Place). found_at p a.clients) (own_place (length c.links) m (there_small c.links m l is))
    ∙ ap (λ (cs : List Client). found_client (record { client = 1; link = suc m }) (slice_get cs 0)) own.alone
    ∙ ap (λ (x : Option GrandLink). found_link (record { client = 1; link = suc m }) c x) is

-- ---- one client has the key

pub own_is : (key : Key) (w a : Grand) (n : ℕ) (c : Client) → WorldKeeps w → Alike key w a → slice_get w.clients n ≡ Some c → same_key key c.key ≡ true
    → Own key (row w.hub key) w.clients a n c
own_is key w a n c keeps alike is same = by alike.mine
  where
    by : Mine key (row w.hub key) w.clients a → Own key (row w.hub key) w.clients a n c
    by (inl (k, d, own)) =
        let at : k ≡ n = keeps.keys k n d c own.there is (ap (λ (q : Key). same_key q c.key) own.key_is ∙ same) in
        let both : d ≡ c = there_is (sym own.there ∙ ap (λ (j : ℕ). slice_get w.clients j) at ∙ is) in
        subst (λ (j : ℕ). Own key (row w.hub key) w.clients a j c) at (subst (λ (x : Client). Own key (row w.hub key) w.clients a k x) both own)
    by (inr absent) = absurd (true≢false (sym same ∙ absent.others n c is))

-- ---- a step of the world

-- what holds before and after an event
pub record Between (w v : Grand) : Type 0 where
  pub before : WorldKeeps w
  pub after : WorldKeeps v
  pub rises : HubRises w.hub v.hub

-- a row that is there stays there
row_stays : (key : Key) (w v : Grand) (c d : Client) → HubRises w.hub v.hub → PartHolds (w.hub.session key) (row w.hub key) c → PartHolds (v.hub.session key) (row v.hub key) d
    → is_some (row w.hub key) ≡ true → is_some (row v.hub key) ≡ true
row_stays key w v c d rises one other there = by (w.hub.session key) refl (one.both ∙ there)
  where
    by : (o : Option Session) → w.hub.session key ≡ o → is_some o ≡ true → is_some (row v.hub key) ≡ true
    by None is some = absurd (true≢false (sym some))
    by (Some s) is some = let t = rises key s is in sym other.both ∙ ap (λ (o : Option Session). is_some o) t.1

part_at : (key : Key) (w : Grand) (n : ℕ) (c : Client) → WorldKeeps w → slice_get w.clients n ≡ Some c → c.key ≡ key → PartHolds (w.hub.session key) (row w.hub key) c
part_at key w n c keeps is same = subst (λ (q : Key). PartHolds (w.hub.session q) (row w.hub q) c) same (keeps.parts n c is)

-- the client of the key becomes another
pub own_step : (key : Key) (w v a b : Grand) (n : ℕ) (c d : Client) → Between w v → Own key (row w.hub key) w.clients a n c → v.clients ≡ slice_set w.clients n d
    → b.clients ≡ d ∷ [] → b.places ≡ own_places (length d.links) → Moves c d → v.now ≡ b.now → Agree key v.hub b.hub → jobs_for key v.jobs ≡ b.jobs → Alike key v b
own_step key w v a b n c d between own clients alone places moves now agree jobs = record {
  now = now;
  hub = agree;
  jobs_are = jobs;
  mine = inl (
    n,
    d,
    record {
      there = there;
      key_is = moves.key ∙ own.key_is;
      alone = alone;
      places = places;
      claims = claims_move (w.hub.session key) (v.hub.session key) (row w.hub key) (row v.hub key) c d (row_stays key w v c d between.rises one other) one other moves own.claims;
    },
  );
}
  where
    there : slice_get v.clients n ≡ Some d
    there = ap (λ (cs : List Client). slice_get cs n) clients ∙ get_same w.clients n d c own.there

    one : PartHolds (w.hub.session key) (row w.hub key) c
    one = part_at key w n c between.before own.there own.key_is

    other : PartHolds (v.hub.session key) (row v.hub key) d
    other = part_at key v n d between.after there (moves.key ∙ own.key_is)

-- the clients of the key are the same
abbrev pub Left : Key → List Client → List Client → Type 0
Left key xs ys =
    (n : ℕ) (c : Client) → same_key key c.key ≡ true → (slice_get xs n ≡ Some c → slice_get ys n ≡ Some c) × (slice_get ys n ≡ Some c → slice_get xs n ≡ Some c)

pub left_itself : (key : Key) (xs ys : List Client) → ys ≡ xs → Left key xs ys
left_itself key xs ys same n c own =
    (λ is. ap (λ (l : List Client). slice_get l n) same ∙ is, λ is. ap (λ (l : List Client). slice_get l n) (sym same) ∙ is)

-- a client of another key becomes another
pub left_put : (key : Key) (xs : List Client) (n : ℕ) (c d : Client) → slice_get xs n ≡ Some c → same_key key c.key ≡ false → d.key ≡ c.key → Left key xs (slice_set xs n d)
left_put key xs n c d is apart same m e own = by (same_or_not n m)
  where
    not_it : {x : Client} → x ≡ e → x.key ≡ c.key → ⊥
    not_it one key_is = true≢false (sym own ∙ ap (λ (y : Client). same_key key y.key) (sym one) ∙ ap (λ (q : Key). same_key key q) key_is ∙ apart)

    by : (n ≡ m) ⊎ (n ≡ m → ⊥) → (slice_get xs m ≡ Some e → slice_get (slice_set xs n d) m ≡ Some e) × (slice_get (slice_set xs n d) m ≡ Some e → slice_get xs m ≡ Some e)
    by (inl at) = (
      λ there. absurd (not_it (there_is (sym is ∙ ap (λ (k : ℕ). slice_get xs k) at ∙ there)) refl),
      λ there. absurd (not_it (there_is (sym (get_same xs n d c is) ∙ ap (λ (k : ℕ). slice_get (slice_set xs n d) k) at ∙ there)) same),
    )
    by (inr not) = (λ there. get_other xs n m d not ∙ there, λ there. sym (get_other xs n m d not) ∙ there)

-- others change
pub others_step : (key : Key) (w v a b : Grand) → Between w v → Alike key w a → Left key w.clients v.clients → b.clients ≡ a.clients → b.places ≡ a.places
    → v.now ≡ b.now → Agree key v.hub b.hub → jobs_for key v.jobs ≡ b.jobs → Alike key v b
others_step key w v a b between alike left clients places now agree jobs = record {
  now = now;
  hub = agree;
  jobs_are = jobs;
  mine = by alike.mine;
}
  where
    by : Mine key (row w.hub key) w.clients a → Mine key (row v.hub key) v.clients b
    by (inl (n, c, own)) =
        let mine : same_key key c.key ≡ true = ap (λ (q : Key). same_key key q) own.key_is ∙ same_key_itself key in
        let there : slice_get v.clients n ≡ Some c = (left n c mine).0 own.there in
        let stays = row_stays key w v c c between.rises (part_at key w n c between.before own.there own.key_is) (part_at key v n c between.after there own.key_is) in
        inl (
          n,
          c,
          record {
            there = there;
            key_is = own.key_is;
            alone = clients ∙ own.alone;
            places = places ∙ own.places;
            claims = record { dialer = λ some. stays (own.claims.dialer some); links = λ some. stays (own.claims.links some) };
          },
        )
    by (inr absent) = inr (record {
      others = λ n c is. by_bool (same_key key c.key) (λ so. absurd (true≢false (sym so ∙ absent.others n c ((left n c so).1 is)))) (λ no. no);
      alone = clients ∙ absent.alone;
      places = places ∙ absent.places;
    })

-- ---- the same part

only_one : (key : Key) (xs : List Client) (n : ℕ) (c : Client) → slice_get xs n ≡ Some c → same_key key c.key ≡ true
    → ((m : ℕ) (d : Client) → slice_get xs m ≡ Some d → same_key key d.key ≡ true → n ≡ m) → clients_for key xs ≡ c ∷ []
only_one key [] n c is own once = none_there is
only_one key (x ∷ xs) zero c is own once =
    ap (λ (b : Bool). cond b (x ∷ clients_for key xs) (clients_for key xs)) (ap (λ (y : Client). same_key key y.key) (there_is is) ∙ own)
    ∙ ap (λ (l : List Client). x ∷ l) (no_one key xs (λ m d there. by_bool (same_key key d.key) (λ so. absurd (apart m (once (suc m) d there so))) (λ no. no)))
    ∙ ap (λ (y : Client). y ∷ []) (there_is is)
  where
    apart : (m : ℕ) → 0 ≡ suc m → ⊥
    apart m e = omega (arith, e)

    no_one : (q : Key) (ys : List Client) → ((m : ℕ) (d : Client) → slice_get ys m ≡ Some d → same_key q d.key ≡ false) → clients_for q ys ≡ []
    no_one q [] none = refl
    no_one q (y ∷ ys) none =
        ap (λ (b : Bool). cond b (y ∷ clients_for q ys) (clients_for q ys)) (none 0 y refl) ∙ no_one q ys (λ m d there. none (suc m) d there)
only_one key (x ∷ xs) (suc n) c is own once =
    ap (λ (b : Bool). cond b (x ∷ clients_for key xs) (clients_for key xs))
    (by_bool (same_key key x.key) (λ so. absurd (apart n (once 0 x refl so))) (λ no. no))
    ∙ only_one key xs n c is own (λ m d there so. same_suc (once (suc m) d there so))
  where
    apart : (k : ℕ) → suc k ≡ 0 → ⊥
    apart k e = omega (arith, e)

    same_suc : {i j : ℕ} → suc i ≡ suc j → i ≡ j
    same_suc e = omega (arith, e)

none_for : (key : Key) (xs : List Client) → ((m : ℕ) (d : Client) → slice_get xs m ≡ Some d → same_key key d.key ≡ false) → clients_for key xs ≡ []
none_for key [] none = refl
none_for key (y ∷ ys) none =
    ap (λ (b : Bool). cond b (y ∷ clients_for key ys) (clients_for key ys)) (none 0 y refl) ∙ none_for key ys (λ m d there. none (suc m) d there)

jobs_twice : (key : Key) (jobs : List SeenJob) → jobs_for key (jobs_for key jobs) ≡ jobs_for key jobs
jobs_twice key [] = refl
jobs_twice key (j ∷ jobs) = by (same_key key j.key) refl (jobs_twice key jobs)
  where
    by : (b : Bool) → same_key key j.key ≡ b → jobs_for key (jobs_for key jobs) ≡ jobs_for key jobs
        → jobs_for key (cond b (j ∷ jobs_for key jobs) (jobs_for key jobs)) ≡ cond b (j ∷ jobs_for key jobs) (jobs_for key jobs)
    by true is twice =
        ap (λ (c : Bool). cond c (j ∷ jobs_for key (jobs_for key jobs)) (jobs_for key (jobs_for key jobs))) is ∙ ap (λ (l : List SeenJob). j ∷ l) twice
    by false is twice = twice

pub same_part : (key : Key) (w a : Grand) → WorldKeeps w → Alike key w a → SamePart key w a
same_part key w a keeps alike = record {
  now = alike.now;
  client = by alike.mine;
  session = alike.hub.session;
  row_is = alike.hub.row_is;
  jobs = sym (jobs_twice key w.jobs) ∙ ap (λ (l : List SeenJob). jobs_for key l) alike.jobs_are;
}
  where
    by : Mine key (row w.hub key) w.clients a → clients_for key w.clients ≡ clients_for key a.clients
    by (inl (n, c, own)) =
        let mine : same_key key c.key ≡ true = ap (λ (q : Key). same_key key q) own.key_is ∙ same_key_itself key in
        only_one key w.clients n c own.there mine
        (λ m d there so. keeps.keys n m c d own.there there (ap (λ (q : Key). same_key q d.key) own.key_is ∙ so))
        ∙ sym (ap (λ (b : Bool). cond b (c ∷ []) []) mine)
        ∙ ap (λ (l : List Client). clients_for key l) (sym own.alone)
    by (inr absent) = none_for key w.clients absent.others ∙ ap (λ (l : List Client). clients_for key l) (sym absent.alone)
