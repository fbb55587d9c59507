-- A change of one link of a client, in memory.
use Rattle.std.proofs.Common.{◌≡◌, ℕ, zero, suc, Option, Some, Result, Ok, Err, OnOk, List, [], ◌∷◌, map, refl, ap, sym, ◌∙◌, subst}
use Rattle.std.specs.Prelude.{slice_get, slice_set, slice_index_or}
use Rattle.ra_base.specs.declared.event.Side.{Side}
use Rattle.ra_base.specs.declared.event.Side.TheVariants.{A, B}
use Rattle.ra_model.specs.Links.{Link, read_on, written_to}
use Rattle.ra_dial.specs.Dialers.{Dialer}
use Rattle.ra_dial.specs.Table.{out}
use Rattle.ra_session.specs.Sessions.{Session}
use Rattle.ra_grand_clients.specs.ClientLinks.{LinkTurns}
use Rattle.ra_grand_clients.specs.ClientStates.{ClientState, Holds, StandsForClient, IsFlushed, put_on_last, wire}
use Rattle.ra_grand_runs.specs.GrandClients.{GrandLink, Client, emptied, sends, writes_up}
use Rattle.ra_grand_runs.specs.Grands.{with_link}
use Rattle.ra_grand_runs.specs.Lasts.{with_last_of, with_last}
use Rattle.ra_grand_clients.proofs.Flushing.{session_twice, shown_after, put_nothing}
use Rattle.ra_grand_runs.proofs.WrittenUp.{nothing_link}
use Rattle.ra_grand_runs.proofs.LastLemmas.{stays}

-- ---- lists

there_is : {X : Type 0} → {x y : X} → ◌≡◌ {A = Option X} (Some x) (Some y) → x ≡ y
there_is e = cc

pub get_map : {X Y : Type 0} → (v : X → Y) (xs : List X) (k : ℕ) (x : X) → slice_get xs k ≡ Some x → slice_get (map v xs) k ≡ Some (v x)
get_map v [] k x is = absurd cc
get_map v (y ∷ ys) zero x is = ap (λ z. Some (v z)) (there_is is)
get_map v (y ∷ ys) (suc k) x is = get_map v ys k x is

pub set_map : {X Y : Type 0} → (v : X → Y) (xs : List X) (k : ℕ) (x : X) → map v (slice_set xs k x) ≡ slice_set (map v xs) k (v x)
set_map v [] k x = refl
set_map v (y ∷ ys) zero x = refl
set_map v (y ∷ ys) (suc k) x = ap (λ zs. v y ∷ zs) (set_map v ys k x)

pub index_is : {X : Type 0} → (xs : List X) (k : ℕ) (d x : X) → slice_get xs k ≡ Some x → slice_index_or xs k d ≡ x
index_is [] k d x is = absurd cc
index_is (y ∷ ys) zero d x is = there_is is
index_is (y ∷ ys) (suc k) d x is = index_is ys k d x is

was_of : {X : Type 0} → (f : X → X) (x : X) (xs : List X) (k : ℕ) (z : X) → slice_get (with_last_of f x xs) k ≡ Some z → (y : X) × (slice_get (x ∷ xs) k ≡ Some y)
was_of f x [] zero z is = (x, refl)
was_of f x [] (suc k) z is = absurd cc
was_of f x (y ∷ ys) zero z is = (x, refl)
was_of f x (y ∷ ys) (suc k) z is = was_of f y ys k z is

-- what stood at a place before the last became another
pub was_there : {X : Type 0} → (f : X → X) (xs : List X) (k : ℕ) (z : X) → slice_get (with_last f xs) k ≡ Some z → (y : X) × (slice_get xs k ≡ Some y)
was_there f [] k z is = absurd cc
was_there f (x ∷ xs) k z is = was_of f x xs k z is

now_of : {X : Type 0} → (f : X → X) (x : X) (xs : List X) (k : ℕ) (z : X) → slice_get (x ∷ xs) k ≡ Some z → (y : X) × (slice_get (with_last_of f x xs) k ≡ Some y)
now_of f x [] zero z is = (f x, refl)
now_of f x [] (suc k) z is = absurd cc
now_of f x (y ∷ ys) zero z is = (x, refl)
now_of f x (y ∷ ys) (suc k) z is = now_of f y ys k z is

-- and so what stands there once it did
pub now_there : {X : Type 0} → (f : X → X) (xs : List X) (k : ℕ) (z : X) → slice_get xs k ≡ Some z → (y : X) × (slice_get (with_last f xs) k ≡ Some y)
now_there f [] k z is = absurd cc
now_there f (x ∷ xs) k z is = now_of f x xs k z is

behind_set : {X : Type 0} → (f : X → X) (x y : X) (ys : List X) (k : ℕ) (v : X) → with_last_of f x (slice_set (y ∷ ys) k v) ≡ x ∷ with_last f (slice_set (y ∷ ys) k v)
behind_set f x y ys zero v = refl
behind_set f x y ys (suc k) v = refl

set_of : {X : Type 0} → (g f : X → X) → ((x : X) → g (f x) ≡ f (g x)) → (x : X) (xs : List X) (k : ℕ) (z w : X) → slice_get (with_last_of f x xs) k ≡ Some z
    → slice_get (x ∷ xs) k ≡ Some w → slice_set (with_last_of f x xs) k (g z) ≡ with_last f (slice_set (x ∷ xs) k (g w))
set_of g f both x [] zero z w is was = ap (λ v. v ∷ []) (ap g (sym (there_is is)) ∙ both x ∙ ap (λ v. f (g v)) (there_is was))
set_of g f both x [] (suc k) z w is was = absurd cc
set_of g f both x (y ∷ ys) zero z w is was = ap (λ v. g v ∷ with_last_of f y ys) (sym (there_is is) ∙ there_is was)
set_of g f both x (y ∷ ys) (suc k) z w is was = ap (λ vs. x ∷ vs) (set_of g f both y ys k z w is was) ∙ sym (behind_set f x y ys k (g w))

-- a change at a place, and one of the last, where their order does not matter
pub set_with_last : {X : Type 0} → (g f : X → X) → ((x : X) → g (f x) ≡ f (g x)) → (xs : List X) (k : ℕ) (z w : X) → slice_get (with_last f xs) k ≡ Some z
    → slice_get xs k ≡ Some w → slice_set (with_last f xs) k (g z) ≡ with_last f (slice_set xs k (g w))
set_with_last g f both [] k z w is was = absurd cc
set_with_last g f both (x ∷ xs) k z w is was = set_of g f both x xs k z w is was

-- ---- a change that may be made before the client's bytes are written

abbrev pub MeetsBytes : (Link → Link) → Type 0
MeetsBytes change = (bytes : List ℕ) (l : Link) → change (written_to B bytes l) ≡ written_to B bytes (change l)

pub reading_meets : (side : Side) (n : ℕ) → MeetsBytes (read_on side n)
reading_meets A n bytes l = refl
reading_meets B n bytes l = refl

-- the link, changed so, with this end of the server
abbrev pub becoming : (Link → Link) → GrandLink → GrandLink → GrandLink
becoming change m l = record { link = change l.link; server = m.server }

-- the client that sends has this link, and so the one that has sent
pub set_sent : (change : Link → Link) → MeetsBytes change → (u : Client) (k : ℕ) (l m w : GrandLink) → slice_get (sends u).links k ≡ Some l → slice_get u.links k ≡ Some w
    → m.link ≡ change l.link → with_link (suc k) m (sends u) ≡ sends (with_link (suc k) (becoming change m w) u)
set_sent change meets u k l m w is was turns =
    ap (λ (ls : List GrandLink). record u { dialer = emptied u.dialer; links = ls })
    (ap (λ (x : Link). slice_set (sends u).links k (record { link = x; server = m.server })) turns
    ∙ set_with_last (becoming change m) (writes_up (out u.dialer)) (λ x. ap (λ (y : Link). record { link = y; server = m.server }) (meets (out u.dialer) x.link)) u.links k l w is was)

-- the links in memory
set_held : (change : Link → Link) → MeetsBytes change → (h : ClientState) (u : Client) (k : ℕ) (d : Link) (m w : GrandLink) → Holds h u → slice_get u.links k ≡ Some w
    → map wire (slice_set u.links k (becoming change m w)) ≡ put_on_last h.held (slice_set h.links k (change (slice_index_or h.links k d)))
set_held change meets h u k d m w holds was =
    let here : slice_get (put_on_last h.held h.links) k ≡ Some w.link = ap (λ (ls : List Link). slice_get ls k) (sym holds.links) ∙ get_map wire u.links k w was in
    let before = was_there (written_to B h.held) h.links k w.link here in
    set_map wire u.links k (becoming change m w)
    ∙ ap (λ (ls : List Link). slice_set ls k (change w.link)) holds.links
    ∙ set_with_last change (written_to B h.held) (λ x. meets h.held x) h.links k w.link before.0 here before.1
    ∙ ap (λ (x : Link). put_on_last h.held (slice_set h.links k (change x))) (sym (index_is h.links k d before.0 before.1))

pub turned : (change : Link → Link) → MeetsBytes change → (h : ClientState) (k : ℕ) (d : Link)
    → LinkTurns k change h (record h { links = slice_set h.links k (change (slice_index_or h.links k d)) })
turned change meets h k d c l m stands is turns =
    let u = stands.0 in
    let holds : Holds h u = stands.1 in
    let here : slice_get (sends u).links k ≡ Some l = ap (λ (x : Client). slice_get x.links k) (sym stands.2) ∙ is in
    let before = was_there (writes_up (out u.dialer)) u.links k l here in (
      with_link (suc k) (becoming change m before.0) u,
      record { key = holds.key; dialer = holds.dialer; draws = holds.draws; links = set_held change meets h u k d m before.0 holds before.1 },
      ap (λ (x : Client). with_link (suc k) m x) stands.2 ∙ set_sent change meets u k l m before.0 here before.1 turns,
    )

-- ---- a client that has nothing to write

emptied_twice : (d : Dialer) → emptied (emptied d) ≡ emptied d
emptied_twice d = ap (λ (s : Session). record d { pending = []; session = s }) (session_twice d.stage d.session)

pub out_emptied : (d : Dialer) → out (emptied d) ≡ []
out_emptied d = shown_after d.stage (record d { pending = [] })

pub sent_none : (h : ClientState) (c : Client) → StandsForClient h c → out c.dialer ≡ []
sent_none h c stands = ap (λ (x : Client). out x.dialer) stands.2 ∙ out_emptied stands.0.dialer

pub sent_still : (h : ClientState) (c : Client) → StandsForClient h c → emptied c.dialer ≡ c.dialer
sent_still h c stands = ap (λ (x : Client). emptied x.dialer) stands.2 ∙ emptied_twice stands.0.dialer ∙ ap (λ (x : Client). x.dialer) (sym stands.2)

pub sends_nothing : (c : Client) → out c.dialer ≡ [] → emptied c.dialer ≡ c.dialer → c ≡ sends c
sends_nothing c none still =
    sym (ap (λ (d : Dialer). record c { dialer = d; links = with_last (writes_up (out c.dialer)) c.links }) still
    ∙ ap (λ (ls : List GrandLink). record c { links = ls }) (ap (λ (bs : List ℕ). with_last (writes_up bs) c.links) none ∙ stays (writes_up []) nothing_link c.links))

flushed_links : (change : Link → Link) (h : ClientState) (c : Client) (k : ℕ) (d : Link) (l m : GrandLink) → Holds h c → h.held ≡ [] → slice_get c.links k ≡ Some l → m.link ≡ change l.link
    → map wire (slice_set c.links k m) ≡ put_on_last h.held (slice_set h.links k (change (slice_index_or h.links k d)))
flushed_links change h c k d l m holds none is turns =
    let same : map wire c.links ≡ h.links = holds.links ∙ ap (λ (bs : List ℕ). put_on_last bs h.links) none ∙ put_nothing h.links in
    let here : slice_get h.links k ≡ Some l.link = ap (λ (ls : List Link). slice_get ls k) (sym same) ∙ get_map wire c.links k l is in
    set_map wire c.links k m
    ∙ ap (λ (ls : List Link). slice_set ls k m.link) same
    ∙ ap (λ (x : Link). slice_set h.links k x) (turns ∙ ap change (sym (index_is h.links k d l.link here)))
    ∙ sym (ap (λ (bs : List ℕ). put_on_last bs (slice_set h.links k (change (slice_index_or h.links k d)))) none ∙ put_nothing (slice_set h.links k (change (slice_index_or h.links k d))))

pub turned_flushed : (change : Link → Link) (old mid h : ClientState) (k : ℕ) (d : Link) → mid ≡ h → IsFlushed old h → h.held ≡ []
    → LinkTurns k change old (record mid { links = slice_set mid.links k (change (slice_index_or mid.links k d)) })
turned_flushed change old mid h k d same flushed none c l m stands is turns =
    subst (λ (x : ClientState). StandsForClient (record x { links = slice_set x.links k (change (slice_index_or x.links k d)) }) (with_link (suc k) m c)) (sym same)
    (let holds = flushed c stands in (
      with_link (suc k) m c,
      record { key = holds.key; dialer = holds.dialer; draws = holds.draws; links = flushed_links change h c k d l m holds none is turns },
      sends_nothing (with_link (suc k) m c) (sent_none old c stands) (sent_still old c stands),
    ))

-- ---- in memory

pub turned_by : (change : Link → Link) → MeetsBytes change → (h mid : ClientState) (k : ℕ) (d before after : Link) → mid ≡ h → before ≡ slice_index_or mid.links k d
    → after ≡ change before → LinkTurns k change h (record mid { links = slice_set mid.links k after })
turned_by change meets h mid k d before after same is becomes =
    subst (λ (x : ClientState). LinkTurns k change x (record mid { links = slice_set mid.links k after })) same
    (subst (λ (x : Link). LinkTurns k change mid (record mid { links = slice_set mid.links k x })) (sym (becomes ∙ ap change is)) (turned change meets mid k d))

pub turned_if : {E : Type 0} → (r : Result (Unit {0}) E) (change : Link → Link) → MeetsBytes change → (h mid : ClientState) (k : ℕ) (d before after : Link) → mid ≡ h
    → before ≡ slice_index_or mid.links k d → OnOk r (after ≡ change before) → OnOk r (LinkTurns k change h (record mid { links = slice_set mid.links k after }))
turned_if (Ok u) change meets h mid k d before after same is becomes = turned_by change meets h mid k d before after same is becomes
turned_if (Err e) change meets h mid k d before after same is becomes = becomes

pub turned_at_rest : (change : Link → Link) (old mid h : ClientState) (k : ℕ) (d before after : Link) → mid ≡ h → IsFlushed old h → h.held ≡ [] → before ≡ slice_index_or mid.links k d
    → after ≡ change before → LinkTurns k change old (record mid { links = slice_set mid.links k after })
turned_at_rest change old mid h k d before after same flushed none is becomes =
    subst (λ (x : Link). LinkTurns k change old (record mid { links = slice_set mid.links k x })) (sym (becomes ∙ ap change is))
    (turned_flushed change old mid h k d same flushed none)
