-- The links of a client keep what holds of them while one of them changes.
use Rattle.std.proofs.Common.{◌≡◌, inl, inr, ℕ, zero, suc, ◌<◌, ◌≤◌, Option, Some, None, List, [], ◌∷◌, length, refl, ap, sym, ◌∙◌, subst, length-set, arith}
use Rattle.std.specs.Prelude.{◌⊎◌, slice_get, slice_set}
use Rattle.ra_base.specs.declared.event.Side.TheVariants.{A, B}
use Rattle.ra_base.specs.declared.key.Key.{Key}
use Rattle.ra_model.specs.Links.{Link, at_number, put_number, readable, read_on, written_to, cut_off}
use Rattle.ra_model.proofs.Numbers.{get_within}
use Rattle.ra_link_core.specs.LinkRuns.{Welcome}
use Rattle.ra_grand_runs.specs.GrandClients.{GrandLink, writes_up}
use Rattle.ra_grand_runs.specs.Lasts.{with_last_of, with_last}
use Rattle.ra_run_laws.proofs.Lists.{none_there, there_is, same_or_not, get_same, get_other}
use Rattle.ra_link_laws.specs.Parts.{Drawn, Carries, IsWelcome, HasWelcome, LinkKeeps, HasLast}
use Rattle.ra_link_laws.proofs.ClientGrounds.{LinksKeep}
use Rattle.ra_link_laws.proofs.LinksStay.{link_elsewhere}
use Rattle.ra_link_laws.proofs.SessionLinkMoves.{Backs, SameTexts, CutBy, link_renewed, link_cut, link_down, link_up}

-- ---- the last of a list

last_of : {X : Type 0} → (f : X → X) (y : X) (ys : List X) (n : ℕ) (x : X) → length ys ≡ n → slice_get (y ∷ ys) n ≡ Some x → with_last_of f y ys ≡ slice_set (y ∷ ys) n (f x)
last_of f y [] zero x long is = ap (λ z. f z ∷ []) (there_is is)
last_of f y [] (suc n) x long is = absurd (omega (arith, long))
last_of f y (z ∷ zs) zero x long is = absurd (omega (arith, long))
last_of f y (z ∷ zs) (suc n) x long is = ap (λ l. y ∷ l) (last_of f z zs n x (omega (arith, long)) is)

pub last_is : {X : Type 0} → (f : X → X) (xs : List X) (n : ℕ) (x : X) → length xs ≡ suc n → slice_get xs n ≡ Some x → with_last f xs ≡ slice_set xs n (f x)
last_is f [] n x long is = none_there is
last_is f (y ∷ ys) n x long is = last_of f y ys n x (omega (arith, long)) is

pub last_len : {X : Type 0} → (xs : List X) (n : ℕ) (x : X) → slice_get xs n ≡ Some x → slice_get xs (suc n) ≡ None → length xs ≡ suc n
last_len [] n x is none = none_there is
last_len (y ∷ []) zero x is none = refl
last_len (y ∷ (z ∷ zs)) zero x is none = none_there (sym none)
last_len (y ∷ ys) (suc n) x is none = ap (λ (k : ℕ). suc k) (last_len ys n x is none)

-- ---- one link is another

-- what stands at a place now was there before, with the same welcome
record Was (links : List GrandLink) (n : ℕ) (x : GrandLink) : Type 0 where
  link : GrandLink
  at : slice_get links n ≡ Some link
  same : link.server.welcome ≡ x.server.welcome

was : (links : List GrandLink) (n m : ℕ) (l k x : GrandLink) → slice_get links n ≡ Some l → k.server.welcome ≡ l.server.welcome → slice_get (slice_set links n k) m ≡ Some x → Was links m x
was links n m l k x at same is = by (same_or_not n m)
  where
    by : (n ≡ m) ⊎ (n ≡ m → ⊥) → Was links m x
    by (inl here) =
        let both : k ≡ x = there_is (sym (get_same links n k l at) ∙ ap (λ (i : ℕ). slice_get (slice_set links n k) i) here ∙ is) in
        record { link = l; at = ap (λ (i : ℕ). slice_get links i) (sym here) ∙ at; same = sym same ∙ ap (λ (y : GrandLink). y.server.welcome) both }
    by (inr not) = record { link = x; at = sym (get_other links n m k not) ∙ is; same = refl }

pub links_put : (owner : Key) (draws : ℕ → Drawn) (old new : List Link) (present number attached : ℕ) (links : List GrandLink) (n : ℕ) (l k : GrandLink)
    → slice_get links n ≡ Some l → k.server.welcome ≡ l.server.welcome → LinkKeeps owner (draws n) new present k
    → ((m : ℕ) (x : GrandLink) → (n ≡ m → ⊥) → slice_get links m ≡ Some x → LinkKeeps owner (draws m) new present x)
    → LinksKeep owner draws old present number attached links → LinksKeep owner draws new present number attached (slice_set links n k)
links_put owner draws old new present number attached links n l k at same holds others keep = record {
  each = λ m x is. by m x is (same_or_not n m);
  apart = λ m i x y v w one other first second equal.
      let a = was links n m l k x at same one in
      let b = was links n i l k y at same other in
      keep.apart m i a.link b.link v w a.at b.at (a.same ∙ first) (b.same ∙ second) equal;
  later = λ m x w is le there. let a = was links n m l k x at same is in keep.later m a.link w a.at le (a.same ∙ there);
}
  where
    by : (m : ℕ) (x : GrandLink) → slice_get (slice_set links n k) m ≡ Some x → (n ≡ m) ⊎ (n ≡ m → ⊥) → LinkKeeps owner (draws m) new present x
    by m x is (inl here) =
        let both : k ≡ x = there_is (sym (get_same links n k l at) ∙ ap (λ (i : ℕ). slice_get (slice_set links n k) i) here ∙ is) in
        subst (λ (i : ℕ). LinkKeeps owner (draws i) new present x) here (subst (λ (y : GrandLink). LinkKeeps owner (draws n) new present y) both holds)
    by m x is (inr not) = others m x not (sym (get_other links n m k not) ∙ is)

-- while the session's links stay
pub links_put_one : (owner : Key) (draws : ℕ → Drawn) (session_links : List Link) (present number attached : ℕ) (links : List GrandLink) (n : ℕ) (l k : GrandLink)
    → slice_get links n ≡ Some l → k.server.welcome ≡ l.server.welcome → LinkKeeps owner (draws n) session_links present k
    → LinksKeep owner draws session_links present number attached links → LinksKeep owner draws session_links present number attached (slice_set links n k)
links_put_one owner draws session_links present number attached links n l k at same holds keep =
    links_put owner draws session_links session_links present number attached links n l k at same holds (λ m x not is. keep.each m x is) keep

-- the session's links are read further, and another one is the client's last
pub links_renewed : (owner : Key) (draws : ℕ → Drawn) (old new : List Link) (present number attached number' attached' : ℕ) (links : List GrandLink) → SameTexts old new → Backs old new
    → ((n : ℕ) (l : GrandLink) (w : Welcome) → slice_get links n ≡ Some l → attached' ≤ n → l.server.welcome ≡ Some w → number' < w.epoch)
    → LinksKeep owner draws old present number attached links → LinksKeep owner draws new present number' attached' links
links_renewed owner draws old new present number attached number' attached' links same back later keep = record {
  each = λ n l is. link_renewed owner (draws n) old new present l same back (keep.each n l is);
  apart = keep.apart;
  later = later;
}

pub links_down : (owner : Key) (draws : ℕ → Drawn) (session_links : List Link) (present number attached : ℕ) (links : List GrandLink) (n k : ℕ) (l : GrandLink)
    → slice_get links n ≡ Some l → k ≤ length (readable A l.link) → LinksKeep owner draws session_links present number attached links
    → LinksKeep owner draws session_links present number attached (slice_set links n (record l { link = read_on A k l.link }))
links_down owner draws session_links present number attached links n k l at fits keep =
    links_put_one owner draws session_links present number attached links n l (record l { link = read_on A k l.link }) at refl
    (link_down owner (draws n) session_links present k l fits (keep.each n l at)) keep

-- another link keeps while the one of a welcome changes
elsewhere : (owner : Key) (draws : ℕ → Drawn) (session_links : List Link) (present number attached : ℕ) (links : List GrandLink) (n : ℕ) (l : GrandLink) (w : Welcome) (x : Link)
    → slice_get links n ≡ Some l → l.server.welcome ≡ Some w → LinksKeep owner draws session_links present number attached links
    → (m : ℕ) (y : GrandLink) → (n ≡ m → ⊥) → slice_get links m ≡ Some y → LinkKeeps owner (draws m) (put_number session_links w.epoch x) present y
elsewhere owner draws session_links present number attached links n l w x at is keep m y not there =
    link_elsewhere owner (draws m) session_links present present w.epoch x y (λ v has same. not (keep.apart n m l y w v at there is has same)) (λ v has here. refl) (keep.each m y there)

pub links_cut : (owner : Key) (draws : ℕ → Drawn) (session_links new : List Link) (present number attached : ℕ) (links : List GrandLink) (n : ℕ) (l : GrandLink)
    → slice_get links n ≡ Some l → CutBy owner (draws n) session_links l l.server.welcome new → LinksKeep owner draws session_links present number attached links
    → LinksKeep owner draws new present number attached (slice_set links n (record l { link = cut_off l.link }))
links_cut owner draws session_links new present number attached links n l at cut keep =
    links_put owner draws session_links new present number attached links n l (record l { link = cut_off l.link }) at refl
    (link_cut owner (draws n) session_links new present l cut (keep.each n l at)) (λ m y not there. by l.server.welcome refl cut m y not there) keep
  where
    by : (o : Option Welcome) → l.server.welcome ≡ o → CutBy owner (draws n) session_links l o new
        → (m : ℕ) (y : GrandLink) → (n ≡ m → ⊥) → slice_get links m ≡ Some y → LinkKeeps owner (draws m) new present y
    by None is stays m y not there = subst (λ (ls : List Link). LinkKeeps owner (draws m) ls present y) (sym stays) (keep.each m y there)
    by (Some w) is put m y not there =
        subst (λ (ls : List Link). LinkKeeps owner (draws m) ls present y) (sym put.2)
        (elsewhere owner draws session_links present number attached links n l w (cut_off put.0) at is keep m y not there)

-- ---- the last link of an attached client

-- the last link, and the session's one that the client is attached on
pub record Here (session_links : List Link) (number : ℕ) (links : List GrandLink) : Type 0 where
  pub place : ℕ
  pub link : GrandLink
  pub count : length links ≡ suc place
  pub at : slice_get links place ≡ Some link
  pub welcome : Welcome
  pub is_there : link.server.welcome ≡ Some welcome
  pub is_number : welcome.epoch ≡ number
  pub session_link : Link
  pub session_link_at : at_number session_links number ≡ Some session_link
  pub carries : Carries welcome link.link session_link

unfoldable pub here_of : (owner : Key) (draws : ℕ → Drawn) (session_links : List Link) (present number attached : ℕ) (links : List GrandLink) → LinksKeep owner draws session_links present number attached links
    → (n : ℕ) (l : GrandLink) → length links ≡ suc n → slice_get links n ≡ Some l → (w : Welcome) → l.server.welcome ≡ Some w → w.epoch ≡ number → Here session_links number links
here_of owner draws session_links present number attached links keep n l count at w is is_number =
    let has : IsWelcome owner (draws n) session_links l w = subst (λ (o : Option Welcome). HasWelcome owner (draws n) session_links l o) is (keep.each n l at).welcome in
    record {
      place = n;
      link = l;
      count = count;
      at = at;
      welcome = w;
      is_there = is;
      is_number = is_number;
      session_link = has.session_link;
      session_link_at = ap (λ (e : ℕ). at_number session_links e) (sym is_number) ∙ has.is_at;
      carries = has.carries;
    }

-- these bytes are written on both
pub links_up : (owner : Key) (draws : ℕ → Drawn) (session_links : List Link) (present number attached : ℕ) (links : List GrandLink) (h : Here session_links number links) (bytes : List ℕ)
    → LinksKeep owner draws session_links present number attached links
    → LinksKeep owner draws (put_number session_links number (written_to B bytes h.session_link)) present number attached (slice_set links h.place (writes_up bytes h.link))
links_up owner draws session_links present number attached links h bytes keep =
    let w = h.welcome in
    let new = put_number session_links w.epoch (written_to B bytes h.session_link) in
    let session_link_at : at_number session_links w.epoch ≡ Some h.session_link = ap (λ (e : ℕ). at_number session_links e) h.is_number ∙ h.session_link_at in
    subst (λ (e : ℕ). LinksKeep owner draws (put_number session_links e (written_to B bytes h.session_link)) present number attached (slice_set links h.place (writes_up bytes h.link))) h.is_number
    (links_put owner draws session_links new present number attached links h.place h.link (writes_up bytes h.link) h.at refl
    (link_up owner (draws h.place) session_links present h.link bytes w h.session_link h.is_there session_link_at (keep.each h.place h.link h.at))
    (elsewhere owner draws session_links present number attached links h.place h.link w (written_to B bytes h.session_link) h.at h.is_there keep) keep)

-- ---- what holds of the last link

pub last_put : (P Q : ℕ → GrandLink → Type 0) (links : List GrandLink) (n : ℕ) (l k : GrandLink) → slice_get links n ≡ Some l → (P n l → Q n k)
    → ((m : ℕ) (x : GrandLink) → P m x → Q m x) → HasLast links P → HasLast (slice_set links n k) Q
last_put P Q links n l k at changed kept last = by (same_or_not n last.0)
  where
    by : (n ≡ last.0) ⊎ (n ≡ last.0 → ⊥) → HasLast (slice_set links n k) Q
    by (inl here) =
        let both : last.1 ≡ l = there_is (sym last.3 ∙ ap (λ (i : ℕ). slice_get links i) (sym here) ∙ at) in
        let was : P n l = subst (λ (i : ℕ). P i l) (sym here) (subst (λ (x : GrandLink). P last.0 x) both last.4) in
        (n, k, length-set links n k ∙ last.2 ∙ ap (λ (i : ℕ). suc i) (sym here), get_same links n k l at, changed was)
    by (inr not) =
        (last.0, last.1, length-set links n k ∙ last.2, get_other links n last.0 k not ∙ last.3, kept last.0 last.1 last.4)

-- the last one stays, where another is behind the one that changes
pub last_behind : (P : ℕ → GrandLink → Type 0) (links : List GrandLink) (n : ℕ) (k x : GrandLink) → slice_get links (suc n) ≡ Some x → HasLast links P → HasLast (slice_set links n k) P
last_behind P links n k x more last =
    let within : suc n < length links = get_within links (suc n) x more in
    let count = last.2 in (
      last.0,
      last.1,
      length-set links n k ∙ count,
      get_other links n last.0 k (λ here. omega (arith, here, within, count)) ∙ last.3,
      last.4,
    )
