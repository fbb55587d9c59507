-- The channels of all clients, while one client changes and the sessions of the server do.
use Rattle.std.proofs.Common.{◌≡◌, inl, inr, ℕ, zero, suc, Bool, true, false, cond, Option, Some, None, List, refl, ap, sym, ◌∙◌, subst, arith}
use Rattle.std.specs.Prelude.{◌⊎◌, slice_get, slice_set}
use Rattle.std.specs.List.{AllByRecursion}
use Rattle.ra_base.specs.declared.key.Key.{Key}
use Rattle.ra_base.specs.declared.key.Seat.{Seat}
use Rattle.ra_base.specs.declared.kind.Kind.{Kind}
use Rattle.ra_model.specs.Links.{at_number, put_number}
use Rattle.ra_values.specs.Tree.{Tree}
use Rattle.ra_ipc.specs.ChannelPairs.{Outcome}
use Rattle.ra_registry.specs.Rows.{same_key}
use Rattle.ra_registry.proofs.SameKeys.{same_key_is}
use Rattle.ra_session.specs.SessionCalls.{lose_session}
use Rattle.ra_session.specs.Sessions.{Session}
use Rattle.ra_hub.specs.Hubs.{Hub, at_key, seat_lost}
use Rattle.ra_hub.specs.Jobs.{SeenJob}
use Rattle.ra_link_core.specs.HubEvents.{event_done, on_session}
use Rattle.ra_link_core.specs.LinkRuns.{hub_left}
use Rattle.ra_channel_laws.proofs.Silence.{silent_lose}
use Rattle.ra_grand_runs.specs.GrandClients.{GrandLink, Client}
use Rattle.ra_grand_runs.specs.Grands.{Grand, Found, changed, with_client, with_link}
use Rattle.ra_grand_runs.specs.ServedLinks.{server_left}
use Rattle.ra_run_laws.proofs.Lists.{none_there, there_is, same_or_not, get_same, get_other, by_bool}
use Rattle.ra_link_laws.proofs.WorldLinks.{IsHere, StandsAt, stands_at}
use Rattle.ra_grand_laws.specs.ChannelParts.{WorkFits, ChannelsOf, ChannelsKeep}
use Rattle.ra_grand_laws.proofs.ChannelSides.{Becomes, becomes_itself, becomes_mapped, keeps_end_silent}

-- what each client has handed up, by its number
abbrev pub Settled : Type 0
Settled = ℕ → List (ℕ × Outcome)

abbrev pub Fired : Type 0
Fired = ℕ → List (ℕ × Tree)

abbrev pub JobsFit : List SeenJob → Type 0
JobsFit jobs = AllByRecursion (λ (j : SeenJob). WorkFits j.work) jobs

-- ---- lists that are the same

pub channels_same : (w : Grand) (settled settled' : Settled) (fired fired' : Fired) → ((n : ℕ) → settled n ≡ settled' n) → ((n : ℕ) → fired n ≡ fired' n)
    → ChannelsKeep w settled fired → ChannelsKeep w settled' fired'
channels_same w settled settled' fired fired' same also keep = record {
  parts = λ n c is.
      subst (λ (xs : List (ℕ × Outcome)). ChannelsOf c.key.kind (w.hub.session c.key) c.dialer.session xs (fired' (suc n))) (same (suc n))
      (subst (λ (ys : List (ℕ × Tree)). ChannelsOf c.key.kind (w.hub.session c.key) c.dialer.session (settled (suc n)) ys) (also (suc n)) (keep.parts n c is));
  jobs = keep.jobs;
}

-- ---- one client changes

pub record OneChanges (n : ℕ) (c d : Client) (w v : Grand) (settled settled' : Settled) (fired fired' : Fired) : Type 0 where
  pub there : slice_get w.clients n ≡ Some c
  pub clients : v.clients ≡ slice_set w.clients n d
  pub key : d.key ≡ c.key
  pub sessions : (key : Key) → Becomes key.kind (w.hub.session key) (v.hub.session key)
  pub own : ChannelsOf c.key.kind (w.hub.session c.key) c.dialer.session (settled (suc n)) (fired (suc n))
      → ChannelsOf c.key.kind (w.hub.session c.key) d.dialer.session (settled' (suc n)) (fired' (suc n))
  pub others : (m : ℕ) → (n ≡ m → ⊥) → (settled (suc m) ≡ settled' (suc m)) × (fired (suc m) ≡ fired' (suc m))
  pub jobs : JobsFit v.jobs

pub channels_change : (n : ℕ) (c d : Client) (w v : Grand) (settled settled' : Settled) (fired fired' : Fired) → OneChanges n c d w v settled settled' fired fired'
    → ChannelsKeep w settled fired → ChannelsKeep v settled' fired'
channels_change n c d w v settled settled' fired fired' change keep = record { parts = λ m e is. by m e is (same_or_not n m); jobs = change.jobs }
  where
    -- the one that changes
    mine : ChannelsOf d.key.kind (v.hub.session d.key) d.dialer.session (settled' (suc n)) (fired' (suc n))
    mine =
        subst (λ (k : Key). ChannelsOf k.kind (v.hub.session k) d.dialer.session (settled' (suc n)) (fired' (suc n))) (sym change.key)
        (change.sessions c.key d.dialer.session (settled' (suc n)) (fired' (suc n)) (change.own (keep.parts n c change.there)))

    by : (m : ℕ) (e : Client) → slice_get v.clients m ≡ Some e → (n ≡ m) ⊎ (n ≡ m → ⊥) → ChannelsOf e.key.kind (v.hub.session e.key) e.dialer.session (settled' (suc m)) (fired' (suc m))
    by m e is (inl same) =
        let both : d ≡ e = there_is (sym (ap (λ (l : List Client). slice_get l m) change.clients ∙ ap (λ (k : ℕ). slice_get (slice_set w.clients n d) k) (sym same) ∙ get_same w.clients n d c change.there) ∙ is) in
        subst (λ (k : ℕ). ChannelsOf e.key.kind (v.hub.session e.key) e.dialer.session (settled' (suc k)) (fired' (suc k))) same
        (subst (λ (x : Client). ChannelsOf x.key.kind (v.hub.session x.key) x.dialer.session (settled' (suc n)) (fired' (suc n))) both mine)
    by m e is (inr differs) =
        let before : slice_get w.clients m ≡ Some e = sym (get_other w.clients n m d differs) ∙ ap (λ (l : List Client). slice_get l m) (sym change.clients) ∙ is in
        let same = change.others m differs in
        change.sessions e.key e.dialer.session (settled' (suc m)) (fired' (suc m))
        (subst (λ (xs : List (ℕ × Outcome)). ChannelsOf e.key.kind (w.hub.session e.key) e.dialer.session xs (fired' (suc m))) same.0
        (subst (λ (ys : List (ℕ × Tree)). ChannelsOf e.key.kind (w.hub.session e.key) e.dialer.session (settled (suc m)) ys) same.1 (keep.parts m e before)))

-- what a change of a client by its number hands up
pub record HandsUp (w : Grand) (n : ℕ) (f : Client → Client) (settled settled' : Settled) (fired fired' : Fired) : Type 0 where
  pub key : (c : Client) → (f c).key ≡ c.key
  pub own : (c : Client) → at_number w.clients n ≡ Some c → ChannelsOf c.key.kind (w.hub.session c.key) c.dialer.session (settled n) (fired n)
      → ChannelsOf c.key.kind (w.hub.session c.key) (f c).dialer.session (settled' n) (fired' n)
  pub others : (m : ℕ) → (n ≡ m → ⊥) → (settled m ≡ settled' m) × (fired m ≡ fired' m)

client_by : (n : ℕ) (f : Client → Client) (w : Grand) (settled settled' : Settled) (fired fired' : Fired) (o : Option Client) (c : Client) → at_number w.clients n ≡ o → o ≡ Some c
    → HandsUp w n f settled settled' fired fired' → ChannelsKeep w settled fired → ChannelsKeep (record w { clients = changed n f o w.clients }) settled' fired'
client_by n f w settled settled' fired fired' None c is there hands keep = none_there there
client_by zero f w settled settled' fired fired' (Some d) c is there hands keep = none_there is
client_by (suc n) f w settled settled' fired fired' (Some d) c is there hands keep =
    channels_change n d (f d) w (record w { clients = slice_set w.clients n (f d) }) settled settled' fired fired' (record {
      there = is;
      clients = refl;
      key = hands.key d;
      sessions = λ key. becomes_itself key.kind (w.hub.session key) (w.hub.session key) refl;
      own = hands.own d is;
      others = λ m differs. hands.others (suc m) (λ same. differs (down same));
      jobs = keep.jobs;
    }) keep
  where
    down : {a b : ℕ} → suc a ≡ suc b → a ≡ b
    down e = omega (arith, e)

pub channels_client : (n : ℕ) (f : Client → Client) (w : Grand) (settled settled' : Settled) (fired fired' : Fired) (c : Client) → at_number w.clients n ≡ Some c
    → HandsUp w n f settled settled' fired fired' → ChannelsKeep w settled fired → ChannelsKeep (with_client n f w) settled' fired'
channels_client n f w settled settled' fired fired' c is hands keep = client_by n f w settled settled' fired fired' (at_number w.clients n) c refl is hands keep

-- ---- a link changes

-- no session of a client does
pub channels_put : (f : Found) (l : GrandLink) (w v : Grand) (settled : Settled) (fired : Fired) → IsHere f w
    → v.clients ≡ put_number w.clients f.place.client (with_link f.place.link l f.client)
    → ((key : Key) → Becomes key.kind (w.hub.session key) (v.hub.session key)) → JobsFit v.jobs → ChannelsKeep w settled fired → ChannelsKeep v settled fired
channels_put f l w v settled fired here clients sessions jobs keep = by (stands_at f w here)
  where
    by : (n m : ℕ) × StandsAt f w n m → ChannelsKeep v settled fired
    by (n, m, at) =
        channels_change n f.client (with_link f.place.link l f.client) w v settled settled fired fired (record {
          there = at.client;
          clients = clients ∙ ap (λ (k : ℕ). put_number w.clients k (with_link f.place.link l f.client)) at.client_number;
          key = refl;
          sessions = sessions;
          own = λ h. h;
          others = λ k differs. (refl, refl);
          jobs = jobs;
        }) keep

-- ---- sessions of the server change

pub channels_hub : (w v : Grand) (settled : Settled) (fired : Fired) → v.clients ≡ w.clients → ((key : Key) → Becomes key.kind (w.hub.session key) (v.hub.session key))
    → JobsFit v.jobs → ChannelsKeep w settled fired → ChannelsKeep v settled fired
channels_hub w v settled fired same sessions jobs keep = record {
  parts = λ n c is.
      sessions c.key c.dialer.session (settled (suc n)) (fired (suc n)) (keep.parts n c (ap (λ (l : List Client). slice_get l n) (sym same) ∙ is));
  jobs = jobs;
}

-- the session of one key becomes another
pub becomes_at : (key other : Key) (s t : Session) (h : Hub) → h.session key ≡ Some s → ((kind : Kind) → Becomes kind (Some s) (Some t))
    → Becomes other.kind (h.session other) ((at_key key t h).session other)
becomes_at key other s t h is becomes d settled fired held = by_bool (same_key key other) so apart
  where
    so : same_key key other ≡ true → ChannelsOf other.kind (cond (same_key key other) (Some t) (h.session other)) d settled fired
    so same =
        let there : h.session other ≡ Some s = ap h.session (sym (same_key_is key other same)) ∙ is in
        subst (λ (b : Bool). ChannelsOf other.kind (cond b (Some t) (h.session other)) d settled fired) (sym same)
        (becomes other.kind d settled fired (subst (λ (o : Option Session). ChannelsOf other.kind o d settled fired) there held))

    apart : same_key key other ≡ false → ChannelsOf other.kind (cond (same_key key other) (Some t) (h.session other)) d settled fired
    apart differs = subst (λ (b : Bool). ChannelsOf other.kind (cond b (Some t) (h.session other)) d settled fired) (sym differs) held

lost_becomes : (seat : Seat) (now : ℕ) (h : Hub) (o : Option Session) → h.session seat.key ≡ o → (key : Key)
    → Becomes key.kind (h.session key) ((on_session o (λ s. seat_lost seat now s h) h).session key)
unfolding seat_lost
lost_becomes seat now h None is key = becomes_itself key.kind (h.session key) (h.session key) refl
lost_becomes seat now h (Some s) is key =
    becomes_at seat.key key s (lose_session seat.epoch s) h is
    (λ kind. becomes_mapped kind (Some s) (lose_session seat.epoch) (keeps_end_silent (lose_session seat.epoch) (λ x. silent_lose seat.epoch x)))

pub left_becomes : (seat : Option Seat) (now : ℕ) (h : Hub) (key : Key) → Becomes key.kind (h.session key) ((hub_left seat now h).session key)
unfolding event_done
left_becomes None now h key = becomes_itself key.kind (h.session key) (h.session key) refl
left_becomes (Some seat) now h key = lost_becomes seat now h (h.session seat.key) refl key

pub channels_left : (f : Found) (w : Grand) (settled : Settled) (fired : Fired) → IsHere f w → ChannelsKeep w settled fired → ChannelsKeep (server_left f w) settled fired
unfolding server_left
channels_left f w settled fired here keep =
    channels_put f _ w (server_left f w) settled fired here refl (left_becomes f.link.server.seat w.now w.hub) keep.jobs keep
