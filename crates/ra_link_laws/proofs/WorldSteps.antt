-- A world in which one client, and the session of its key, have changed.
use Rattle.std.proofs.Common.{◌≡◌, inl, inr, ℕ, true, false, true≢false, Option, Some, None, List, refl, ap, sym, ◌∙◌, subst}
use Rattle.std.specs.Prelude.{◌⊎◌, slice_get, slice_set}
use Rattle.std.specs.Option.{is_some}
use Rattle.ra_base.specs.declared.key.Key.{Key}
use Rattle.ra_registry.specs.declared.row.Row.{Row}
use Rattle.ra_registry.specs.Rows.{same_key}
use Rattle.ra_session.specs.Sessions.{Session}
use Rattle.ra_hub.specs.Hubs.{row}
use Rattle.ra_grand_runs.specs.GrandClients.{Client}
use Rattle.ra_grand_runs.specs.Grands.{Grand}
use Rattle.ra_run_laws.specs.KeptRows.{RowsAgree}
use Rattle.ra_run_laws.proofs.Lists.{there_is, same_or_not, get_same, get_other, by_bool}
use Rattle.ra_link_laws.specs.Parts.{PartHolds, WorldKeeps}

-- the row is as good as the one before
pub part_rows : (s : Option Session) (o p : Option Row) (c : Client) → PartHolds s o c → RowsAgree o p → PartHolds s p c
part_rows s o p c part agree = record {
  token = part.token;
  kind = part.kind;
  settings = part.settings;
  pending = part.pending;
  runs = part.runs;
  session_links = part.session_links;
  number = part.number;
  present = part.present;
  peer = part.peer;
  view = part.view;
  server = part.server;
  whole = part.whole;
  count = part.count ∙ sym agree.epoch;
  both = part.both ∙ sym agree.there;
  draws = part.draws;
  links = part.links;
  apart = part.apart;
  attached = part.attached;
  later = part.later;
  stage = part.stage;
}

-- One client becomes another of the same key. The sessions of other keys stay, and their rows are as good as before.
pub record Changes (n : ℕ) (c d : Client) (w v : Grand) : Type 0 where
  pub there : slice_get w.clients n ≡ Some c
  pub clients : v.clients ≡ slice_set w.clients n d
  pub key : d.key ≡ c.key
  pub others : (key : Key) → same_key c.key key ≡ false → (v.hub.session key ≡ w.hub.session key) × RowsAgree (row w.hub key) (row v.hub key)
  pub part : PartHolds (v.hub.session c.key) (row v.hub c.key) d

-- the client that was at a place, and the one that is there now
record Was (w : Grand) (m : ℕ) (e : Client) : Type 0 where
  client : Client
  there : slice_get w.clients m ≡ Some client
  key : client.key ≡ e.key

was : (n : ℕ) (c d : Client) (w v : Grand) (m : ℕ) (e : Client) → Changes n c d w v → slice_get v.clients m ≡ Some e → Was w m e
was n c d w v m e change is = by (same_or_not n m)
  where
    here : slice_get (slice_set w.clients n d) m ≡ Some e
    here = ap (λ (l : List Client). slice_get l m) (sym change.clients) ∙ is

    by : (n ≡ m) ⊎ (n ≡ m → ⊥) → Was w m e
    by (inl same) =
        let both : d ≡ e = there_is (sym (ap (λ (k : ℕ). slice_get (slice_set w.clients n d) k) (sym same) ∙ get_same w.clients n d c change.there) ∙ here) in
        record {
          client = c;
          there = ap (λ (k : ℕ). slice_get w.clients k) (sym same) ∙ change.there;
          key = sym change.key ∙ ap (λ (x : Client). x.key) both;
        }
    by (inr not) = record { client = e; there = sym (get_other w.clients n m d not) ∙ here; key = refl }

becomes : (n : ℕ) (c d : Client) (w v : Grand) (m : ℕ) (e : Client) → Changes n c d w v → slice_get w.clients m ≡ Some e → Was v m e
becomes n c d w v m e change is = by (same_or_not n m)
  where
    by : (n ≡ m) ⊎ (n ≡ m → ⊥) → Was v m e
    by (inl same) =
        let both : c ≡ e = there_is (sym change.there ∙ ap (λ (k : ℕ). slice_get w.clients k) same ∙ is) in
        record {
          client = d;
          there = ap (λ (l : List Client). slice_get l m) change.clients ∙ ap (λ (k : ℕ). slice_get (slice_set w.clients n d) k) (sym same) ∙ get_same w.clients n d c change.there;
          key = change.key ∙ ap (λ (x : Client). x.key) both;
        }
    by (inr not) = record {
      client = e;
      there = ap (λ (l : List Client). slice_get l m) change.clients ∙ get_other w.clients n m d not ∙ is;
      key = refl;
    }

-- the part of a client by its session and row
pub part_as : (s t : Option Session) (o p : Option Row) (c : Client) → t ≡ s → RowsAgree o p → PartHolds s o c → PartHolds t p c
part_as s t o p c same agree part = part_rows t o p c (subst (λ (q : Option Session). PartHolds q o c) (sym same) part) agree

pub world_changes : (n : ℕ) (c d : Client) (w v : Grand) → WorldKeeps w → Changes n c d w v → WorldKeeps v
world_changes n c d w v keeps change = record { parts = parts; keys = keys; unknown = unknown }
  where
    by_place : (m : ℕ) (e : Client) → slice_get v.clients m ≡ Some e → (n ≡ m) ⊎ (n ≡ m → ⊥) → PartHolds (v.hub.session e.key) (row v.hub e.key) e
    by_place m e is (inl same) =
        let both : d ≡ e = there_is (sym (ap (λ (l : List Client). slice_get l m) change.clients ∙ ap (λ (k : ℕ). slice_get (slice_set w.clients n d) k) (sym same) ∙ get_same w.clients n d c change.there) ∙ is) in
        subst (λ (x : Client). PartHolds (v.hub.session x.key) (row v.hub x.key) x) both
        (subst (λ (k : Key). PartHolds (v.hub.session k) (row v.hub k) d) (sym change.key) change.part)
    by_place m e is (inr not) =
        let before : slice_get w.clients m ≡ Some e = sym (get_other w.clients n m d not) ∙ ap (λ (l : List Client). slice_get l m) (sym change.clients) ∙ is in
        let apart : same_key c.key e.key ≡ false =
        by_bool (same_key c.key e.key) (λ same. absurd (not (keeps.keys n m c e change.there before same))) (λ differ. differ) in
        let stays = change.others e.key apart in
        part_as (w.hub.session e.key) (v.hub.session e.key) (row w.hub e.key) (row v.hub e.key) e stays.0 stays.1 (keeps.parts m e before)

    parts : (m : ℕ) (e : Client) → slice_get v.clients m ≡ Some e → PartHolds (v.hub.session e.key) (row v.hub e.key) e
    parts m e is = by_place m e is (same_or_not n m)

    keys : (m k : ℕ) (e f : Client) → slice_get v.clients m ≡ Some e → slice_get v.clients k ≡ Some f → same_key e.key f.key ≡ true → m ≡ k
    keys m k e f one other same =
        let a = was n c d w v m e change one in
        let b = was n c d w v k f change other in
        keeps.keys m k a.client b.client a.there b.there
        (ap (λ (q : Key). same_key q b.client.key) a.key ∙ ap (λ (q : Key). same_key e.key q) b.key ∙ same)

    unknown : (key : Key) → ((m : ℕ) (e : Client) → slice_get v.clients m ≡ Some e → same_key e.key key ≡ false) → (v.hub.session key ≡ None) × (row v.hub key ≡ None)
    unknown key none =
        let differs : (m : ℕ) (e : Client) → slice_get w.clients m ≡ Some e → same_key e.key key ≡ false = λ m e is.
        let b = becomes n c d w v m e change is in
        ap (λ (q : Key). same_key q key) (sym b.key) ∙ none m b.client b.there in
        let old = keeps.unknown key differs in
        let stays = change.others key (differs n c change.there) in
        (stays.0 ∙ old.0, no_row (row v.hub key) (stays.1.there ∙ ap (λ (o : Option Row). is_some o) old.1))
      where
        no_row : (o : Option Row) → is_some o ≡ false → o ≡ None
        no_row None none = refl
        no_row (Some r) none = absurd (true≢false none)
