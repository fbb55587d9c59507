-- One link of a client with the session of its key, apart from all else that holds of the client.
use Rattle.std.proofs.Common.{◌≡◌, inl, inr, ℕ, suc, ◌<◌, ◌≤◌, Option, Some, List, length, refl, ap, sym, ◌∙◌, subst, arith, ⊎_elim}
use Rattle.std.proofs.lemmas.List.{length-set}
use Rattle.std.specs.Prelude.{◌⊎◌, slice_get, slice_set}
use Rattle.std.specs.Option.{is_some}
use Rattle.ra_base.specs.declared.event.Side.TheVariants.{A}
use Rattle.ra_base.specs.declared.key.Key.{Key}
use Rattle.ra_model.specs.Links.{Link, at_number}
use Rattle.ra_model.specs.Views.{View}
use Rattle.ra_model.specs.Worlds.{Peer}
use Rattle.ra_model.proofs.Numbers.{put_cases}
use Rattle.ra_registry.specs.declared.row.Row.{Row}
use Rattle.ra_registry.specs.Rows.{epoch_of}
use Rattle.ra_session.specs.Sessions.{Session}
use Rattle.ra_link_core.specs.LinkRuns.{Welcome}
use Rattle.ra_dial.specs.declared.stage.Stage.{Stage}
use Rattle.ra_dial.specs.declared.stage.Stage.TheVariants as stages
use Rattle.ra_dial.specs.ShakingStates.{ShakingState}
use Rattle.ra_grand_runs.specs.GrandClients.{GrandLink, Client}
use Rattle.ra_grand_runs.specs.Grands.{with_link}
use Rattle.ra_grand_runs.specs.Reached.{Begins, read_of}
use Rattle.ra_run_laws.proofs.Lists.{there_is, same_or_not, get_same, get_other}
use Rattle.ra_handshake_laws.specs.Handshakes.{ReadsHandshake}
use Rattle.ra_link_laws.specs.Parts.{Drawn, LinkKeeps, Shakes, IsAttached, HasLast, StageKeeps, IsServer, WritesWhole, PartHolds}

-- what stays of a client: its key, its end of the view, its links before, and where among them this link is
pub record Ground : Type 0 where
  pub owner : Key
  pub near : Peer
  pub links : List GrandLink
  pub draws : ℕ → Drawn
  pub number : ℕ
  pub attached : ℕ
  pub session_links : List Link
  pub place : ℕ
  pub link : GrandLink

-- to its client the link is as it was, but for bytes that came
pub record StaysBelow (old new : GrandLink) : Type 0 where
  pub up : new.link.to_b.written ≡ old.link.to_b.written
  pub read : read_of new.link.to_a ≡ read_of old.link.to_a
  pub place : new.link.to_a.read ≡ old.link.to_a.read
  pub cut : new.link.is_cut ≡ old.link.is_cut
  pub welcome : (u : Welcome) → old.server.welcome ≡ Some u → new.server.welcome ≡ Some u

-- the client reads the same of its link
abbrev pub ReadsSame : ℕ → (old new : List Link) → Type 0
ReadsSame number old new = (x : Link) → at_number new number ≡ Some x → (y : Link) × (at_number old number ≡ Some y) × (y.to_a.read ≡ x.to_a.read)

-- the session of the key and its row, and this link
pub record Focus (g : Ground) (session : Option Session) (kept : Option Row) (l : GrandLink) : Type 0 where
  pub session_links : List Link
  pub present : ℕ
  pub peer : Peer
  pub view : View 0 A g.number present g.near peer session_links
  pub server : IsServer session peer present
  pub whole : (x : Link) → at_number session_links present ≡ Some x → WritesWhole peer x
  pub count : length session_links ≡ epoch_of kept
  pub both : is_some session ≡ is_some kept
  pub here : LinkKeeps g.owner (g.draws g.place) session_links present l
  pub elsewhere : (n : ℕ) (k : GrandLink) → (n ≡ g.place → ⊥) → slice_get g.links n ≡ Some k → LinkKeeps g.owner (g.draws n) session_links present k
  pub apart : (n : ℕ) (k : GrandLink) (v u : Welcome) → (n ≡ g.place → ⊥) → slice_get g.links n ≡ Some k → k.server.welcome ≡ Some v
      → l.server.welcome ≡ Some u → v.epoch ≡ u.epoch → ⊥
  pub later : (u : Welcome) → g.attached ≤ g.place → l.server.welcome ≡ Some u → g.number < u.epoch
  pub stays : StaysBelow g.link l
  pub reads : ReadsSame g.number g.session_links session_links

-- ---- the ground of a part

abbrev pub ground_of : (s : Option Session) (o : Option Row) (c : Client) → PartHolds s o c → ℕ → GrandLink → Ground
ground_of s o c part m l = record {
  owner = c.key;
  near = c.dialer.session.peer;
  links = c.links;
  draws = part.draws;
  number = part.number;
  attached = part.attached;
  session_links = part.session_links;
  place = m;
  link = l;
}

pub below_itself : (l : GrandLink) → StaysBelow l l
below_itself l = record { up = refl; read = refl; place = refl; cut = refl; welcome = λ u is. is }

pub focus : (s : Option Session) (o : Option Row) (c : Client) (part : PartHolds s o c) (m : ℕ) (l : GrandLink) → slice_get c.links m ≡ Some l → Focus (ground_of s o c part m l) s o l
focus s o c part m l there = record {
  session_links = part.session_links;
  present = part.present;
  peer = part.peer;
  view = part.view;
  server = part.server;
  whole = part.whole;
  count = part.count;
  both = part.both;
  here = part.links m l there;
  elsewhere = λ n k ne is. part.links n k is;
  apart = λ n k v u ne is one other same. ne (part.apart n m k l v u is there one other same);
  later = λ u behind is. part.later m l u there behind is;
  stays = below_itself l;
  reads = λ x is. (x, is, refl);
}

-- ---- a list in which one is another

pub set_cases : {X : Type 0} → (xs : List X) (m n : ℕ) (x z : X) → slice_get (slice_set xs m x) n ≡ Some z
    → ((n ≡ m) × (x ≡ z)) ⊎ ((n ≡ m → ⊥) × (slice_get xs n ≡ Some z))
set_cases xs m n x z is = ⊎_elim (λ p. inl (omega (arith, p.0), p.1)) (λ p. inr (λ e. p.0 (ap (λ (k : ℕ). suc k) e), p.1)) (put_cases xs (suc m) (suc n) x z is)

last_set : (xs : List GrandLink) (m : ℕ) (old new : GrandLink) (P Q : ℕ → GrandLink → Type 0) → slice_get xs m ≡ Some old → (P m old → Q m new)
    → ((n : ℕ) (k : GrandLink) → P n k → Q n k) → HasLast xs P → HasLast (slice_set xs m new) Q
last_set xs m old new P Q there here each (n, k, size, is, holds) = by (same_or_not n m)
  where
    after : length (slice_set xs m new) ≡ suc n
    after = length-set xs m new ∙ size

    by : (n ≡ m) ⊎ (n ≡ m → ⊥) → HasLast (slice_set xs m new) Q
    by (inl same) =
        let both : k ≡ old = there_is (sym is ∙ ap (λ (i : ℕ). slice_get xs i) same ∙ there) in
        let held : P m old = subst (λ (x : GrandLink). P m x) both (subst (λ (i : ℕ). P i k) same holds) in (
          n,
          new,
          after,
          ap (λ (i : ℕ). slice_get (slice_set xs m new) i) same ∙ get_same xs m new old there,
          subst (λ (i : ℕ). Q i new) (sym same) (here held),
        )
    by (inr not) = (n, k, after, get_other xs m n new (λ e. not (sym e)) ∙ is, each n k holds)

-- ---- the client's own facts

shakes_stay : (owner : Key) (d : Drawn) (s : ShakingState) (old new : GrandLink) → StaysBelow old new → Shakes owner d s old → Shakes owner d s new
shakes_stay owner d s old new stays h = record {
  reads = subst (λ (t : List ℕ). ReadsHandshake owner d.key d.own t s) (sym stays.read) h.reads;
  text = h.text;
  said = h.said;
  put = subst (λ (t : List ℕ). Begins h.text t) (sym stays.up) h.put;
  put_all = λ kept. stays.up ∙ h.put_all (sym stays.cut ∙ kept);
}

attached_stays : (c : Client) (m : ℕ) (new before after : GrandLink) (old session_links : List Link) (number : ℕ) → StaysBelow before after → ReadsSame number old session_links
    → IsAttached c old number before → IsAttached (with_link (suc m) new c) session_links number after
attached_stays c m new before after old session_links number stays reads h = record {
  welcome = h.welcome;
  is_there = stays.welcome h.welcome h.is_there;
  is_number = h.is_number;
  behind = subst (λ (n : ℕ). h.welcome.down ≤ n) (sym stays.place) h.behind;
  on_link = h.on_link;
  quiet = h.quiet;
  read = λ going x at.
      let r = reads x at in
      let same : r.0.to_a.read ≡ x.to_a.read = r.2 in
      let was = h.read going r.0 r.1 in
      let place = stays.place in
      omega (arith, same, was, place);
}

stage_stays : (stage : Stage) (c : Client) (m : ℕ) (before after : GrandLink) (draws : ℕ → Drawn) (old session_links : List Link) (number attached : ℕ) → slice_get c.links m ≡ Some before
    → StaysBelow before after → ReadsSame number old session_links → StageKeeps c draws old number attached stage → StageKeeps (with_link (suc m) after c) draws session_links number attached stage
stage_stays (stages.Resting until) c m before after draws old session_links number attached there stays reads h = let size = length-set c.links m after in omega (arith, h, size)
stage_stays (stages.Calling since) c m before after draws old session_links number attached there stays reads h = let size = length-set c.links m after in omega (arith, h, size)
stage_stays (stages.Shaking since s) c m before after draws old session_links number attached there stays reads h =
    let size = length-set c.links m after in
    let under = h.0 in (
      omega (arith, under, size),
      last_set c.links m before after (λ n l. Shakes c.key (draws n) s l) (λ n l. Shakes c.key (draws n) s l) there
          (λ shakes. shakes_stay c.key (draws m) s before after stays shakes) (λ n k shakes. shakes) h.1,
    )
stage_stays stages.Attached c m before after draws old session_links number attached there stays reads h = (
  h.0 ∙ sym (length-set c.links m after),
  last_set c.links m before after (λ n l. IsAttached c old number l) (λ n l. IsAttached (with_link (suc m) after c) session_links number l) there
      (λ is. attached_stays c m after before after old session_links number stays reads is)
      (λ n k is. attached_stays c m after k k old session_links number (below_itself k) reads is) h.1,
)
stage_stays (stages.Over end) c m before after draws old session_links number attached there stays reads h = let size = length-set c.links m after in omega (arith, h, size)

-- ---- the part of a client whose link it is

pub unfocus : (s t : Option Session) (o p : Option Row) (c : Client) (part : PartHolds s o c) (m : ℕ) (old l : GrandLink) → slice_get c.links m ≡ Some old
    → Focus (ground_of s o c part m old) t p l → PartHolds t p (with_link (suc m) l c)
unfocus s t o p c part m old l there f = record {
  token = part.token;
  kind = part.kind;
  settings = part.settings;
  pending = part.pending;
  runs = part.runs;
  session_links = f.session_links;
  number = part.number;
  present = f.present;
  peer = f.peer;
  view = f.view;
  server = f.server;
  whole = f.whole;
  count = f.count;
  both = f.both;
  draws = part.draws;
  links = λ n k is. ⊎_elim
      (λ q. subst (λ (x : GrandLink). LinkKeeps c.key (part.draws n) f.session_links f.present x) q.1
      (subst (λ (i : ℕ). LinkKeeps c.key (part.draws i) f.session_links f.present l) (sym q.0) f.here))
      (λ q. f.elsewhere n k q.0 q.1) (set_cases c.links m n l k is);
  apart = λ n i k x v w one other first second same. ⊎_elim
      (λ q. ⊎_elim (λ r. q.0 ∙ sym r.0)
      (λ r. absurd (f.apart i x w v r.0 r.1 second (ap (λ (y : GrandLink). y.server.welcome) q.1 ∙ first) (sym same))) (set_cases c.links m i l x other))
      (λ q. ⊎_elim (λ r. absurd (f.apart n k v w q.0 q.1 first (ap (λ (y : GrandLink). y.server.welcome) r.1 ∙ second) same))
      (λ r. part.apart n i k x v w q.1 r.1 first second same) (set_cases c.links m i l x other))
      (set_cases c.links m n l k one);
  attached = part.attached;
  later = λ n k w is behind welcome. ⊎_elim
      (λ q. f.later w (subst (λ (i : ℕ). part.attached ≤ i) q.0 behind) (ap (λ (y : GrandLink). y.server.welcome) q.1 ∙ welcome))
      (λ q. part.later n k w q.1 behind welcome) (set_cases c.links m n l k is);
  stage = stage_stays c.dialer.stage c m old l part.draws part.session_links f.session_links part.number part.attached there f.stays f.reads part.stage;
}
