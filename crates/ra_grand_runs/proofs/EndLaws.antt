-- The server's end of a link that is over.
use Rattle.std.proofs.Common.{◌≡◌, inl, inr, ℕ, zero, suc, Bool, true, false, true≢false, Option, Some, None, option_map, List, [], ◌∷◌, ◌++◌, length, map, refl, ap, sym, ◌∙◌, subst, append-nil}
use Rattle.std.specs.Prelude.{◌⊎◌, slice_set}
use Rattle.std.proofs.lemmas.List.{map-append}
use Rattle.ra_base.specs.declared.event.Count.{Count}
use Rattle.ra_base.specs.declared.event.Side.TheVariants.{A, B}
use Rattle.ra_base.specs.declared.key.Key.{Key}
use Rattle.ra_model.specs.Links.{at_number, put_number, read_on, cut_off}
use Rattle.ra_model.specs.Refusals.{or_fault, fault_if}
use Rattle.ra_values.specs.Tree.{undefined, text, buffer}
use Rattle.ra_ipc.specs.View.{id_of}
use Rattle.ra_session.specs.Sessions.{Session}
use Rattle.ra_session.specs.SessionCalls as calls
use Rattle.ra_dial.specs.declared.values.DialEvent.{DialEvent}
use Rattle.ra_dial.specs.declared.values.DialEvent.TheVariants as dial_events
use Rattle.ra_dial.specs.Table.{out}
use Rattle.ra_script.specs.declared.grand_line.GrandEvent.{GrandEvent}
use Rattle.ra_script.specs.declared.grand_line.GrandEvent.TheVariants as events
use Rattle.ra_grand_runs.specs.GrandClients.{ServerEnd, GrandLink, Client, ends_of, new_client, writes_up, sends, dialled, fresh_link, linked, asked}
use Rattle.ra_grand_runs.specs.GrandRefusals.{Refusal, link_over, of_link, if_over, if_unread, refusal}
use Rattle.ra_grand_runs.specs.GrandRuns.{joins, on_dialer, on_session, with_place, links, bytes_up, bytes_down, takes, is_last, comes_down, cuts, happens, unless, after, run}
use Rattle.ra_grand_runs.specs.Grands.{Grand, Place, Found, changed, with_client, with_link, found_link, found_client, found_at, put_link, on_link}
use Rattle.ra_grand_runs.specs.Lasting.{BeginsWith, server_end}
use Rattle.ra_grand_runs.specs.Lasts.{with_last}
use Rattle.ra_grand_runs.specs.Marks.{Mark, Entry}
use Rattle.ra_grand_runs.specs.ServedLinks.{piece_came, server_left}
use Rattle.ra_grand_runs.proofs.EventLaws.{keeps}
use Rattle.ra_grand_runs.proofs.KeptClients.{none_there, there_is, put_other}
use Rattle.ra_grand_runs.proofs.LastLemmas.{stays, seen}
use Rattle.ra_grand_runs.proofs.NumberLemmas.{same_or_not, number_same}
use Rattle.ra_grand_runs.proofs.RunLaws.{lasts_after, number_stays, number_of, place_stays}

-- ---- the ends of one client

-- the server's end of the client's link with this number
end_in : ℕ → Option Client → Option ServerEnd
end_in k None = None
end_in k (Some c) = at_number (ends_of c) k

-- the ends that are over stay, of one client that becomes another
abbrev Stay : Option Client → Option Client → Type 0
Stay o p = (k : ℕ) (e : ServerEnd) → end_in k o ≡ Some e → e.is_over ≡ true → end_in k p ≡ Some e

stay_longer : (c d : Client) → BeginsWith (ends_of d) (ends_of c) → Stay (Some c) (Some d)
unfolding end_in
stay_longer c d begins k e is over = number_stays (ends_of c) (ends_of d) k e begins is

stay_none : (o : Option Client) → Stay None o
unfolding end_in
stay_none o k e is over = none_there is

-- ---- events of a client

sent_ends : (bytes : List ℕ) (ls : List GrandLink) → map (λ (l : GrandLink). l.server) (with_last (writes_up bytes) ls) ≡ map (λ (l : GrandLink). l.server) ls
sent_ends bytes ls =
    seen (λ (l : GrandLink). l.server) (writes_up bytes) (λ (e : ServerEnd). e) (λ l. refl) ls
    ∙ stays (λ (e : ServerEnd). e) (λ e. refl) (map (λ (l : GrandLink). l.server) ls)

sends_ends : (c : Client) → BeginsWith (ends_of (sends c)) (ends_of c)
sends_ends c = ([], sent_ends (out c.dialer) c.links ∙ sym (append-nil (ends_of c)))

dialled_ends : (event : DialEvent) (now : ℕ) (c : Client) → BeginsWith (ends_of (dialled event now c)) (ends_of c)
unfolding dialled
dialled_ends event now c = ([], sent_ends _ c.links ∙ sym (append-nil (ends_of c)))

asked_ends : (call : Session → Session) (c : Client) → BeginsWith (ends_of (asked call c)) (ends_of c)
unfolding asked
asked_ends call c = ([], sent_ends _ c.links ∙ sym (append-nil (ends_of c)))

linked_ends : (now : ℕ) (c : Client) → BeginsWith (ends_of (linked now c)) (ends_of c)
unfolding dialled
linked_ends now c =
    ((fresh_link c).server ∷ [], sent_ends _ (c.links ++ fresh_link c ∷ []) ∙ map-append (λ (l : GrandLink). l.server) c.links (fresh_link c ∷ []))

takes_ends : (b : Bool) (bytes : List ℕ) (now : ℕ) (c : Client) → BeginsWith (ends_of (takes b bytes now c)) (ends_of c)
takes_ends true bytes now c = dialled_ends (dial_events.Piece bytes) now c
takes_ends false bytes now c = ([], sym (append-nil (ends_of c)))

-- ---- all clients

-- the ends that are over stay, of all clients
AllStay : List Client → List Client → Type 0
AllStay cs ds = (n : ℕ) → Stay (at_number cs n) (at_number ds n)

stay_itself : (cs : List Client) → AllStay cs cs
unfolding AllStay
stay_itself cs n k e is over = is

stay_trans : (cs ds es : List Client) → AllStay cs ds → AllStay ds es → AllStay cs es
unfolding AllStay
stay_trans cs ds es a b n k e is over = b n k e (a n k e is over) over

-- where all others are as they were, it is for one client to see
by_owner : (m n : ℕ) (cs ds : List Client) → (m ≡ n) ⊎ (m ≡ n → ⊥) → ((m ≡ n → ⊥) → at_number ds n ≡ at_number cs n) → Stay (at_number cs m) (at_number ds m)
    → Stay (at_number cs n) (at_number ds n)
by_owner m n cs ds (inl same) others stay = subst (λ (i : ℕ). Stay (at_number cs i) (at_number ds i)) same stay
by_owner m n cs ds (inr not) others stay = λ k e is over. ap (λ (o : Option Client). end_in k o) (others not) ∙ is

stay_put : (cs : List Client) (m : ℕ) (c d : Client) → at_number cs m ≡ Some c → Stay (Some c) (Some d) → AllStay cs (put_number cs m d)
unfolding AllStay
stay_put cs m c d is stay n = by_owner m n cs (put_number cs m d) (same_or_not m n) (λ not. put_other cs m n d not)
    (λ k e there over. ap (λ (o : Option Client). end_in k o) (number_same cs m d c is) ∙ stay k e (ap (λ (o : Option Client). end_in k o) (sym is) ∙ there) over)

stay_changed : (m : ℕ) (f : Client → Client) (o : Option Client) (cs : List Client) → at_number cs m ≡ o → ((c : Client) → BeginsWith (ends_of (f c)) (ends_of c))
    → AllStay cs (changed m f o cs)
stay_changed m f None cs is begins = stay_itself cs
stay_changed m f (Some c) cs is begins = stay_put cs m c (f c) is (stay_longer c (f c) (begins c))

stay_client : (m : ℕ) (f : Client → Client) (w : Grand) → ((c : Client) → BeginsWith (ends_of (f c)) (ends_of c)) → AllStay w.clients (with_client m f w).clients
stay_client m f w begins = stay_changed m f (at_number w.clients m) w.clients refl begins

stay_dialer : (n : ℕ) (event : DialEvent) (w : Grand) → AllStay w.clients (on_dialer n event w).clients
stay_dialer n event w = stay_client n (dialled event w.now) w (λ c. dialled_ends event w.now c)

stay_session : (n : ℕ) (call : ℕ → Session → Session) (w : Grand) → AllStay w.clients (on_session n call w).clients
stay_session n call w = stay_client n (asked (call w.now)) w (λ c. asked_ends (call w.now) c)

stay_place : (n : ℕ) (o : Option Client) (cs : List Client) (v : Grand) → AllStay cs v.clients → AllStay cs (with_place n o v).clients
stay_place n None cs v stay = stay
stay_place n (Some c) cs v stay = stay

stay_links : (n : ℕ) (w : Grand) → AllStay w.clients (links n w).clients
stay_links n w =
    let v = with_client n (linked w.now) w in
    stay_place n (at_number v.clients n) w.clients v (stay_client n (linked w.now) w (λ c. linked_ends w.now c))

stay_joins : (key : Key) (w : Grand) → AllStay w.clients (joins key w).clients
unfolding AllStay
stay_joins key w n = front (at_number w.clients n) refl
  where
    front : (o : Option Client) → at_number w.clients n ≡ o → Stay o (at_number (joins key w).clients n)
    front None is = stay_none (at_number (joins key w).clients n)
    front (Some c) is = λ k e there over.
        ap (λ (p : Option Client). end_in k p) (number_stays w.clients (joins key w).clients n c (new_client key w.now ∷ [], refl) is) ∙ there

-- an event that leaves all clients
stay_all : (cs ds : List Client) → ((n : ℕ) → at_number ds n ≡ at_number cs n) → AllStay cs ds
unfolding AllStay
stay_all cs ds same n k e is over = ap (λ (o : Option Client). end_in k o) (same n) ∙ is

-- ---- links

put_end : (es : List ServerEnd) (k i : ℕ) (old new e : ServerEnd) → (k ≡ i) ⊎ (k ≡ i → ⊥) → at_number es k ≡ Some old → (old.is_over ≡ true → new ≡ old)
    → at_number es i ≡ Some e → e.is_over ≡ true → at_number (put_number es k new) i ≡ Some e
put_end es k i old new e (inl same) there stays is over =
    let both : old ≡ e = there_is (sym there ∙ ap (λ (m : ℕ). at_number es m) same ∙ is) in
    ap (λ (m : ℕ). at_number (put_number es k new) m) (sym same)
    ∙ number_same es k new old there
    ∙ ap (λ (x : ServerEnd). Some x) (stays (ap (λ (x : ServerEnd). x.is_over) both ∙ over) ∙ both)
put_end es k i old new e (inr not) there stays is over = put_other es k i new not ∙ is

set_map : {X Y : Type 0} → (f : X → Y) (xs : List X) (n : ℕ) (x : X) → map f (slice_set xs n x) ≡ slice_set (map f xs) n (f x)
set_map f [] n x = refl
set_map f (z ∷ zs) zero x = refl
set_map f (z ∷ zs) (suc n) x = ap (λ ys. f z ∷ ys) (set_map f zs n x)

put_map : {X Y : Type 0} → (f : X → Y) (xs : List X) (n : ℕ) (x : X) → map f (put_number xs n x) ≡ put_number (map f xs) n (f x)
put_map f xs zero x = refl
put_map f xs (suc n) x = set_map f xs n x

-- a link becomes another, whose end is the same if it was over
stay_link : (c : Client) (k : ℕ) (old new : GrandLink) → at_number c.links k ≡ Some old → (old.server.is_over ≡ true → new.server ≡ old.server)
    → Stay (Some c) (Some (with_link k new c))
unfolding end_in
stay_link c k old new there stays i e is over =
    ap (λ (es : List ServerEnd). at_number es i) (put_map (λ (l : GrandLink). l.server) c.links k new)
    ∙ put_end (ends_of c) k i old.server new.server e (same_or_not k i)
    (number_of (λ (l : GrandLink). l.server) c.links k ∙ ap (λ (o : Option GrandLink). option_map (λ (l : GrandLink). l.server) o) there) stays is over

-- the link that was found is there
record IsHere (f : Found) (w : Grand) : Type 0 where
  client : at_number w.clients f.place.client ≡ Some f.client
  link : at_number f.client.links f.place.link ≡ Some f.link

stay_found : (f : Found) (new : GrandLink) (w : Grand) → IsHere f w → (f.link.server.is_over ≡ true → new.server ≡ f.link.server)
    → AllStay w.clients (put_number w.clients f.place.client (with_link f.place.link new f.client))
stay_found f new w here stays =
    stay_put w.clients f.place.client f.client (with_link f.place.link new f.client) here.client (stay_link f.client f.place.link f.link new here.link stays)

stay_cuts : (w : Grand) (f : Found) → IsHere f w → AllStay w.clients (cuts f w).clients
stay_cuts w f here = stay_found f (record f.link { link = cut_off f.link.link }) w here (λ over. refl)

stay_down : (count : Count) (w : Grand) (f : Found) → IsHere f w → AllStay w.clients (comes_down (bytes_down count f.link) f w).clients
stay_down count w f here =
    let bytes = bytes_down count f.link in
    let l : GrandLink = record f.link { link = read_on A (length bytes) f.link.link } in
    let v = put_link f l w in
    stay_trans w.clients v.clients (comes_down bytes f w).clients (stay_found f l w here (λ over. refl))
    (stay_client f.place.client (takes (is_last f.place f.client) bytes w.now) v (λ c. takes_ends (is_last f.place f.client) bytes w.now c))

going : (f : Found) (new : ServerEnd) → f.link.server.is_over ≡ false → f.link.server.is_over ≡ true → new ≡ f.link.server
going f new not over = absurd (true≢false (sym over ∙ not))

stay_piece : (mark : Mark) (bytes : List ℕ) (w : Grand) (f : Found) → IsHere f w → f.link.server.is_over ≡ false → AllStay w.clients (piece_came mark bytes f w).clients
unfolding piece_came
stay_piece mark bytes w f here not = stay_found f _ w here (going f _ not)

stay_left : (w : Grand) (f : Found) → IsHere f w → f.link.server.is_over ≡ false → AllStay w.clients (server_left f w).clients
unfolding server_left
stay_left w f here not = stay_found f _ w here (going f _ not)

-- ---- an event of a link, which is not refused

abbrev Further : Type 0
Further = GrandLink → Option Refusal

by_link : (change : Found → Grand → Grand) (link : ℕ) (further : Further) (w : Grand)
    → ((f : Found) → IsHere f w → further f.link ≡ None → AllStay w.clients (change f w).clients)
    → (p : Place) (c : Client) (o : Option GrandLink) → at_number w.clients p.client ≡ Some c → at_number c.links p.link ≡ o
    → of_link link further (found_link p c o) ≡ None → AllStay w.clients (on_link change (found_link p c o) w).clients
by_link change link further w stay p c None is there none = stay_itself w.clients
by_link change link further w stay p c (Some l) is there none =
    stay (record { place = p; client = c; link = l }) (record { client = is; link = there }) none

by_client : (change : Found → Grand → Grand) (link : ℕ) (further : Further) (w : Grand)
    → ((f : Found) → IsHere f w → further f.link ≡ None → AllStay w.clients (change f w).clients)
    → (p : Place) (o : Option Client) → at_number w.clients p.client ≡ o
    → of_link link further (found_client p o) ≡ None → AllStay w.clients (on_link change (found_client p o) w).clients
by_client change link further w stay p None is none = stay_itself w.clients
by_client change link further w stay p (Some c) is none = by_link change link further w stay p c (at_number c.links p.link) is refl none

by_place : (change : Found → Grand → Grand) (link : ℕ) (further : Further) (w : Grand)
    → ((f : Found) → IsHere f w → further f.link ≡ None → AllStay w.clients (change f w).clients)
    → (o : Option Place) → of_link link further (found_at o w.clients) ≡ None → AllStay w.clients (on_link change (found_at o w.clients) w).clients
by_place change link further w stay None none = stay_itself w.clients
by_place change link further w stay (Some p) none = by_client change link further w stay p (at_number w.clients p.client) refl none

not_over : (b : Bool) (r : Refusal) (next : Option Refusal) → or_fault (fault_if b r) next ≡ None → b ≡ false
not_over true r next none = absurd cc
not_over false r next none = refl

not_over_at : (b : Bool) (r : Refusal) → fault_if b r ≡ None → b ≡ false
not_over_at true r none = absurd cc
not_over_at false r none = refl

-- ---- any event

stay_event : (mark : Mark) (event : GrandEvent) (w : Grand) → refusal event w ≡ None → AllStay w.clients (happens mark event w).clients
unfolding refusal happens
stay_event mark (events.At now) w none = stay_itself w.clients
stay_event mark (events.Client key) w none = stay_joins key w
stay_event mark (events.Step n) w none = stay_dialer n dial_events.Tick w
stay_event mark (events.Linked n) w none = stay_links n w
stay_event mark (events.NoLink n) w none = stay_dialer n dial_events.NoLink w
stay_event mark (events.Up link count) w none =
    by_place (λ f. piece_came mark (bytes_up count f.link) f) link (λ l. or_fault (if_over link l) (if_unread B count l)) w
    (λ f here free. stay_piece mark (bytes_up count f.link) w f here (not_over f.link.server.is_over (link_over link) (if_unread B count f.link) free))
    (at_number w.places link) none
stay_event mark (events.Idle link) w none =
    by_place (piece_came mark []) link (if_over link) w (λ f here free. stay_piece mark [] w f here (not_over_at f.link.server.is_over (link_over link) free))
    (at_number w.places link) none
stay_event mark (events.Down link count) w none =
    by_place (λ f. comes_down (bytes_down count f.link) f) link (if_unread A count) w (λ f here free. stay_down count w f here) (at_number w.places link) none
stay_event mark (events.Frame n) w none = stay_dialer n dial_events.Frame w
stay_event mark (events.Cut link) w none = by_place cuts link (λ l. None) w (λ f here free. stay_cuts w f here) (at_number w.places link) none
stay_event mark (events.Gone link) w none =
    by_place server_left link (if_over link) w (λ f here free. stay_left w f here (not_over_at f.link.server.is_over (link_over link) free))
    (at_number w.places link) none
stay_event mark (events.Lost n) w none = stay_dialer n dial_events.LinkLost w
stay_event mark events.Sweep w none =
    stay_all w.clients (happens mark events.Sweep w).clients (λ n. (keeps mark events.Sweep w).others n (λ e. absurd cc))
stay_event mark (events.Work job) w none =
    stay_all w.clients (happens mark (events.Work job) w).clients (λ n. (keeps mark (events.Work job) w).others n (λ e. absurd cc))
stay_event mark (events.Call n channel name arg) w none = stay_session n (calls.call channel name (buffer arg)) w
stay_event mark (events.CallText n channel name arg) w none = stay_session n (calls.call channel name (text arg)) w
stay_event mark (events.Listen n channel name) w none = stay_session n (calls.listen channel name undefined) w
stay_event mark (events.Cancel n id) w none = stay_session n (calls.cancel (id_of id)) w
stay_event mark (events.Dispose n id) w none = stay_session n (calls.dispose (id_of id)) w
stay_event mark (events.Say n body) w none = stay_session n (calls.say_body body) w
stay_event mark (events.Stop n) w none = stay_dialer n dial_events.Stop w

stay_unless : (o : Option Refusal) (w v : Grand) → (o ≡ None → AllStay w.clients v.clients) → AllStay w.clients (unless o v w).clients
stay_unless None w v stay = stay refl
stay_unless (Some refused) w v stay = stay_itself w.clients

stay_after : (entry : Entry) (w : Grand) → AllStay w.clients (after entry w).clients
stay_after entry w = stay_unless (refusal entry.event w) w (happens entry.mark entry.event w) (λ none. stay_event entry.mark entry.event w none)

-- ---- the end of a link by its number

-- the end at a place
end_there : (o : Option Place) → List Client → Option ServerEnd
end_there None cs = None
end_there (Some p) cs = end_in p.link (at_number cs p.client)

link_end : (p : Place) (c : Client) (o : Option GrandLink) → option_map (λ (f : Found). f.link.server) (found_link p c o) ≡ option_map (λ (l : GrandLink). l.server) o
link_end p c None = refl
link_end p c (Some l) = refl

client_end : (p : Place) (o : Option Client) → option_map (λ (f : Found). f.link.server) (found_client p o) ≡ end_in p.link o
unfolding end_in
client_end p None = refl
client_end p (Some c) = link_end p c (at_number c.links p.link) ∙ sym (number_of (λ (l : GrandLink). l.server) c.links p.link)

place_end : (o : Option Place) (cs : List Client) → option_map (λ (f : Found). f.link.server) (found_at o cs) ≡ end_there o cs
unfolding end_there
place_end None cs = refl
place_end (Some p) cs = client_end p (at_number cs p.client)

stay_there : (o q : Option Place) (cs ds : List Client) (e : ServerEnd) → ((p : Place) → o ≡ Some p → q ≡ Some p) → AllStay cs ds → end_there o cs ≡ Some e → e.is_over ≡ true
    → end_there q ds ≡ Some e
unfolding end_there AllStay
stay_there None q cs ds e same stay is over = none_there is
stay_there (Some p) q cs ds e same stay is over =
    ap (λ (x : Option Place). end_there x ds) (same p refl) ∙ stay p.client p.link e is over

pub over_after : (entry : Entry) (w : Grand) (n : ℕ) (e : ServerEnd) → server_end n w ≡ Some e → e.is_over ≡ true → server_end n (after entry w) ≡ Some e
over_after entry w n e is over =
    let v = after entry w in
    place_end (at_number v.places n) v.clients
    ∙ stay_there (at_number w.places n) (at_number v.places n) w.clients v.clients e (λ p there. place_stays w v n p (lasts_after entry w) there) (stay_after entry w)
    (sym (place_end (at_number w.places n) w.clients) ∙ is) over

pub over_run : (entries : List Entry) (w : Grand) (n : ℕ) (e : ServerEnd) → server_end n w ≡ Some e → e.is_over ≡ true → server_end n (run entries w) ≡ Some e
over_run [] w n e is over = is
over_run (entry ∷ entries) w n e is over = over_run entries (after entry w) n e (over_after entry w n e is over) over
