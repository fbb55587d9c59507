-- What a client that is there hands up at its events, a client more, and events of a link that was found.
use Rattle.std.proofs.Common.{◌≡◌, ℕ, zero, suc, Bool, true, false, Option, Some, None, option_map, List, [], ◌∷◌, ◌++◌, length, refl, ap, sym, ◌∙◌, subst}
use Rattle.std.specs.Prelude.{if◌then◌else◌, ◌==◌, slice_get}
use Rattle.std.proofs.lemmas.Bool.{eq-eqb, ne_eqb}
use Rattle.std.proofs.lemmas.List.{append-nil}
use Rattle.ra_base.specs.declared.event.Side.TheVariants.{A}
use Rattle.ra_base.specs.declared.key.Key.{Key}
use Rattle.ra_model.specs.Links.{at_number, read_on}
use Rattle.ra_values.specs.Tree.{Tree}
use Rattle.ra_ipc.specs.ChannelPairs.{Outcome, cancelled}
use Rattle.ra_session.specs.Sessions.{Session}
use Rattle.ra_session.specs.SessionCalls as calls
use Rattle.ra_session.specs.SessionRefusals as session_refusals
use Rattle.ra_dial.specs.declared.values.DialEvent.{DialEvent}
use Rattle.ra_dial.specs.declared.values.DialEvent.TheVariants as dial_events
use Rattle.ra_dial.specs.Table.{is_frame}
use Rattle.ra_hub.specs.Hubs.{row}
use Rattle.ra_channel_laws.specs.Channels.{settled_in, fired_in}
use Rattle.ra_grand_runs.specs.GrandClients.{GrandLink, Client, new_client, dialled, linked, asked}
use Rattle.ra_grand_runs.specs.GrandRefusals.{Refusal, token_taken, of_link, of_client, by_session, holder}
use Rattle.ra_grand_runs.specs.GrandRuns.{joins, on_dialer, on_session, with_place, links, takes, is_last, comes_down}
use Rattle.ra_grand_runs.specs.Grands.{Grand, Place, Found, with_client, with_link, found_link, found_client, found_at, find_link, put_link}
use Rattle.ra_run_laws.proofs.Lists.{none_there, there_is, number_same}
use Rattle.ra_link_laws.specs.Parts.{WorldKeeps}
use Rattle.ra_link_laws.proofs.WorldClients.{free, untaken, More, old, last, more_at}
use Rattle.ra_link_laws.proofs.WorldLinks.{IsHere}
use Rattle.ra_grand_laws.specs.ChannelParts.{ChannelsOf, ChannelsKeep}
use Rattle.ra_grand_laws.specs.Outcomes.{framed}
use Rattle.ra_grand_laws.proofs.ChannelAsks.{cancel_gives, channels_new}
use Rattle.ra_grand_laws.proofs.ChannelClients.{dialled_stays, dialled_gives, asked_stays}
use Rattle.ra_grand_laws.proofs.ChannelSides.{Stays, stays_itself, stays_on, becomes_itself}
use Rattle.ra_grand_laws.proofs.ChannelSteps.{Settled, Fired, channels_client, channels_put}
use Rattle.ra_grand_laws.proofs.ChannelViews.{hears_from}
use Rattle.ra_registry.proofs.SameKeys.{same_key_other_way}

-- ---- a client that is there

pub record There (o : Option Client) (further : Client → Option Refusal) : Type 0 where
  pub client : Client
  pub is : o ≡ Some client
  pub free : further client ≡ None

pub client_there : (n : ℕ) (further : Client → Option Refusal) (o : Option Client) → of_client n further o ≡ None → There o further
client_there n further None none = absurd cc
client_there n further (Some c) none = record { client = c; is = refl; free = none }

pub unrefused_by : (o : Option session_refusals.Refusal) → by_session o ≡ None → o ≡ None
unrefused_by None none = refl
unrefused_by (Some r) none = absurd cc

-- ---- lists, and those with something more of one number

-- what a client with this number hands up, if the other one is the number
abbrev pub for_number : {X : Type 0} → ℕ → List X → ℕ → List X
for_number n xs k = if n == k then xs else []

same_number : {X : Type 0} → (n : ℕ) (ws xs : List X) → ws ++ xs ≡ ws ++ for_number n xs n
same_number n ws xs = ap (λ (b : Bool). ws ++ (if b then xs else [])) (sym (eq-eqb n n refl))

other_number : {X : Type 0} → (n k : ℕ) (ws xs : List X) → (n ≡ k → ⊥) → ws ≡ ws ++ for_number n xs k
other_number n k ws xs differs = sym (append-nil ws) ∙ ap (λ (b : Bool). ws ++ (if b then xs else [])) (sym (ne_eqb n k differs))

-- nothing is handed up
pub quiet_client : (n : ℕ) (f : Client → Client) (w : Grand) (settled : Settled) (fired : Fired) (c : Client) → at_number w.clients n ≡ Some c → ((d : Client) → (f d).key ≡ d.key)
    → ((d : Client) → at_number w.clients n ≡ Some d → Stays d.key.kind (w.hub.session d.key) d.dialer.session (f d).dialer.session)
    → ChannelsKeep w settled fired → ChannelsKeep (with_client n f w) settled fired
quiet_client n f w settled fired c is key stays keep =
    channels_client n f w settled settled fired fired c is
    (record { key = key; own = λ d there h. stays d there (settled n) (fired n) h; others = λ m differs. (refl, refl) }) keep

pub dialer_quiet : (n : ℕ) (event : DialEvent) (w : Grand) (settled : Settled) (fired : Fired) (c : Client) → at_number w.clients n ≡ Some c → is_frame event ≡ false
    → ChannelsKeep w settled fired → ChannelsKeep (on_dialer n event w) settled fired
unfolding dialled
dialer_quiet n event w settled fired c is other keep =
    quiet_client n (dialled event w.now) w settled fired c is (λ d. refl) (λ d there. dialled_stays d.key.kind (w.hub.session d.key) event w.now d other) keep

pub asks_quiet : (n : ℕ) (call : Session → Session) (w : Grand) (settled : Settled) (fired : Fired) (c : Client) → at_number w.clients n ≡ Some c
    → ((d : Client) → at_number w.clients n ≡ Some d → Stays d.key.kind (w.hub.session d.key) d.dialer.session (call d.dialer.session))
    → ChannelsKeep w settled fired → ChannelsKeep (with_client n (asked call) w) settled fired
unfolding asked
asks_quiet n call w settled fired c is stays keep =
    quiet_client n (asked call) w settled fired c is (λ d. refl)
    (λ d there. stays_on d.key.kind (w.hub.session d.key) d.dialer.session (call d.dialer.session) (asked call d).dialer.session (stays d there)
    (asked_stays d.key.kind (w.hub.session d.key) call d)) keep

place_keeps : (n : ℕ) (o : Option Client) (w : Grand) (settled : Settled) (fired : Fired) → ChannelsKeep w settled fired → ChannelsKeep (with_place n o w) settled fired
place_keeps n None w settled fired keep = keep
place_keeps n (Some c) w settled fired keep = record { parts = keep.parts; jobs = keep.jobs }

pub links_quiet : (n : ℕ) (w : Grand) (settled : Settled) (fired : Fired) (c : Client) → at_number w.clients n ≡ Some c → ChannelsKeep w settled fired
    → ChannelsKeep (links n w) settled fired
unfolding dialled
links_quiet n w settled fired c is keep =
    let v = with_client n (linked w.now) w in
    place_keeps n (at_number v.clients n) v settled fired
    (quiet_client n (linked w.now) w settled fired c is (λ d. refl)
    (λ d there. dialled_stays d.key.kind (w.hub.session d.key) dial_events.Linked w.now (record d { links = (linked w.now d).links }) refl) keep)

-- a frame is looked at
pub frame_handed : (n : ℕ) (w : Grand) (settled : Settled) (fired : Fired) (c : Client) → at_number w.clients n ≡ Some c → WorldKeeps w → ChannelsKeep w settled fired
    → ChannelsKeep (on_dialer n dial_events.Frame w) (λ k. settled k ++ for_number n (settled_in (framed w.now (at_number w.clients n))) k)
    (λ k. fired k ++ for_number n (fired_in (framed w.now (at_number w.clients n))) k)
unfolding dialled
frame_handed n w settled fired c is keeps keep =
    let happened = framed w.now (at_number w.clients n) in
    channels_client n (dialled dial_events.Frame w.now) w settled (λ k. settled k ++ for_number n (settled_in happened) k) fired (λ k. fired k ++ for_number n (fired_in happened) k) c is
    (record {
      key = λ d. refl;
      own = own n;
      others = λ m differs. (other_number n m (settled m) (settled_in happened) differs, other_number n m (fired m) (fired_in happened) differs);
    }) keep
  where
    own : (n : ℕ) (d : Client) → at_number w.clients n ≡ Some d → ChannelsOf d.key.kind (w.hub.session d.key) d.dialer.session (settled n) (fired n)
        → ChannelsOf d.key.kind (w.hub.session d.key) (dialled dial_events.Frame w.now d).dialer.session (settled n ++ for_number n (settled_in (framed w.now (at_number w.clients n))) n)
        (fired n ++ for_number n (fired_in (framed w.now (at_number w.clients n))) n)
    own zero d there h = none_there there
    own (suc k) d there h =
        let part = keeps.parts k d there in
        let o = w.hub.session d.key in
        let after = (dialled dial_events.Frame w.now d).dialer.session in
        subst (λ (x : Option Client). ChannelsOf d.key.kind o after (settled (suc k) ++ for_number (suc k) (settled_in (framed w.now x)) (suc k))
        (fired (suc k) ++ for_number (suc k) (fired_in (framed w.now x)) (suc k))) (sym there)
        (subst (λ (xs : List (ℕ × Outcome)). ChannelsOf d.key.kind o after xs (fired (suc k) ++ for_number (suc k) (fired_in (framed w.now (Some d))) (suc k)))
        (same_number (suc k) (settled (suc k)) (settled_in (framed w.now (Some d))))
        (subst (λ (ys : List (ℕ × Tree)). ChannelsOf d.key.kind o after (settled (suc k) ++ settled_in (framed w.now (Some d))) ys)
        (same_number (suc k) (fired (suc k)) (fired_in (framed w.now (Some d))))
        (dialled_gives d.key.kind o (settled (suc k)) (fired (suc k)) w.now d part.kind (hears_from o (row w.hub d.key) d part) h)))

-- a call is cancelled
pub cancel_handed : (n id : ℕ) (w : Grand) (settled : Settled) (fired : Fired) (c : Client) → at_number w.clients n ≡ Some c
    → session_refusals.cancel_refusal id c.dialer.session ≡ None → ChannelsKeep w settled fired
    → ChannelsKeep (on_session n (calls.cancel id) w) (λ k. settled k ++ for_number n ((id, cancelled) ∷ []) k) fired
unfolding asked
cancel_handed n id w settled fired c is none keep =
    let call = calls.cancel id w.now in
    channels_client n (asked call) w settled (λ k. settled k ++ for_number n ((id, cancelled) ∷ []) k) fired fired c is
    (record {
      key = λ d. refl;
      own = λ d there h.
          let kind = d.key.kind in
          let o = w.hub.session d.key in
          subst (λ (xs : List (ℕ × Outcome)). ChannelsOf kind o (asked call d).dialer.session xs (fired n)) (same_number n (settled n) ((id, cancelled) ∷ []))
          (asked_stays kind o call d (settled n ++ (id, cancelled) ∷ []) (fired n)
          (cancel_gives kind o id w.now d.dialer.session (settled n) (fired n)
          (subst (λ (x : Client). session_refusals.cancel_refusal id x.dialer.session ≡ None) (there_is (sym is ∙ there)) none) h));
      others = λ m differs. (other_number n m (settled m) ((id, cancelled) ∷ []) differs, refl);
    }) keep

-- ---- a client more

pub channels_joins : (key : Key) (w : Grand) (settled : Settled) (fired : Fired) → option_map (λ n. token_taken n) (holder 1 key w.clients) ≡ None → WorldKeeps w
    → ((n : ℕ) → slice_get w.clients n ≡ None → (settled (suc n) ≡ []) × (fired (suc n) ≡ [])) → ChannelsKeep w settled fired → ChannelsKeep (joins key w) settled fired
channels_joins key w settled fired none keeps unmade keep = record { parts = λ n c is. by n c (more_at w.clients new n c is); jobs = keep.jobs }
  where
    new : Client
    new = new_client key w.now

    unknown : w.hub.session key ≡ None
    unknown = (keeps.unknown key (λ n c is. same_key_other_way c.key key ∙ free 1 key w.clients (untaken (holder 1 key w.clients) none) n c is)).0

    behind : (cs : List Client) → slice_get cs (length cs) ≡ None
    behind [] = refl
    behind (c ∷ cs) = behind cs

    begins : ChannelsOf key.kind (w.hub.session key) new.dialer.session (settled (suc (length w.clients))) (fired (suc (length w.clients)))
    begins =
        let nothing = unmade (length w.clients) (behind w.clients) in
        subst (λ (o : Option Session). ChannelsOf key.kind o new.dialer.session (settled (suc (length w.clients))) (fired (suc (length w.clients)))) (sym unknown)
        (subst (λ (xs : List (ℕ × Outcome)). ChannelsOf key.kind None new.dialer.session xs (fired (suc (length w.clients)))) (sym nothing.0)
        (subst (λ (ys : List (ℕ × Tree)). ChannelsOf key.kind None new.dialer.session [] ys) (sym nothing.1) (channels_new key.kind w.now)))

    by : (n : ℕ) (c : Client) → More w.clients new n c → ChannelsOf c.key.kind (w.hub.session c.key) c.dialer.session (settled (suc n)) (fired (suc n))
    by n c (old is) = keep.parts n c is
    by n c (last len same) =
        subst (λ (k : ℕ). ChannelsOf c.key.kind (w.hub.session c.key) c.dialer.session (settled (suc k)) (fired (suc k))) len
        (subst (λ (x : Client). ChannelsOf x.key.kind (w.hub.session x.key) x.dialer.session (settled (suc (length w.clients))) (fired (suc (length w.clients)))) same begins)

-- ---- links

-- the link that an event names is there
pub record FoundHere (o : Option Found) (w : Grand) (further : GrandLink → Option Refusal) : Type 0 where
  pub found : Found
  pub is : o ≡ Some found
  pub here : IsHere found w
  pub free : further found.link ≡ None

here_link : (link : ℕ) (further : GrandLink → Option Refusal) (w : Grand) (p : Place) (c : Client) (o : Option GrandLink) → at_number w.clients p.client ≡ Some c
    → at_number c.links p.link ≡ o → of_link link further (found_link p c o) ≡ None → FoundHere (found_link p c o) w further
here_link link further w p c None is there none = absurd cc
here_link link further w p c (Some l) is there none =
    record { found = record { place = p; client = c; link = l }; is = refl; here = record { client = is; link = there }; free = none }

here_client : (link : ℕ) (further : GrandLink → Option Refusal) (w : Grand) (p : Place) (o : Option Client) → at_number w.clients p.client ≡ o
    → of_link link further (found_client p o) ≡ None → FoundHere (found_client p o) w further
here_client link further w p None is none = absurd cc
here_client link further w p (Some c) is none = here_link link further w p c (at_number c.links p.link) is refl none

here_place : (link : ℕ) (further : GrandLink → Option Refusal) (w : Grand) (o : Option Place) → of_link link further (found_at o w.clients) ≡ None
    → FoundHere (found_at o w.clients) w further
here_place link further w None none = absurd cc
here_place link further w (Some p) none = here_client link further w p (at_number w.clients p.client) refl none

pub found_here : (link : ℕ) (further : GrandLink → Option Refusal) (w : Grand) → of_link link further (find_link link w) ≡ None → FoundHere (find_link link w) w further
found_here link further w none = here_place link further w (at_number w.places link) none

-- a link changes, and nothing else
pub put_quiet : (f : Found) (l : GrandLink) (w : Grand) (settled : Settled) (fired : Fired) → IsHere f w → ChannelsKeep w settled fired → ChannelsKeep (put_link f l w) settled fired
put_quiet f l w settled fired here keep =
    channels_put f l w (put_link f l w) settled fired here refl (λ key. becomes_itself key.kind (w.hub.session key) (w.hub.session key) refl) keep.jobs keep

takes_key : (bytes : List ℕ) (now : ℕ) (b : Bool) (c : Client) → (takes b bytes now c).key ≡ c.key
unfolding dialled
takes_key bytes now true c = refl
takes_key bytes now false c = refl

takes_stays : (bytes : List ℕ) (now : ℕ) (b : Bool) (o : Option Session) (c : Client) → Stays c.key.kind o c.dialer.session (takes b bytes now c).dialer.session
takes_stays bytes now true o c = dialled_stays c.key.kind o (dial_events.Piece bytes) now c refl
takes_stays bytes now false o c = stays_itself c.key.kind o c.dialer.session

pub down_quiet : (bytes : List ℕ) (f : Found) (w : Grand) (settled : Settled) (fired : Fired) → IsHere f w → ChannelsKeep w settled fired
    → ChannelsKeep (comes_down bytes f w) settled fired
down_quiet bytes f w settled fired here keep =
    let l : GrandLink = record f.link { link = read_on A (length bytes) f.link.link } in
    let v : Grand = put_link f l w in
    let ends = is_last f.place f.client in
    quiet_client f.place.client (takes ends bytes w.now) v settled fired (with_link f.place.link l f.client)
    (number_same w.clients f.place.client (with_link f.place.link l f.client) f.client here.client) (takes_key bytes w.now ends)
    (λ d there. takes_stays bytes w.now ends (v.hub.session d.key) d) (put_quiet f l w settled fired here keep)
