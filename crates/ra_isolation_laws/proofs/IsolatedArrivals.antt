-- A piece that comes to the server, in a world and in the world of the one client.
use Rattle.std.proofs.Common.{◌≡◌, ℕ, suc, Bool, true, false, cond, Option, Some, None, is_some, List, [], ◌∷◌, ◌++◌, length, take, drop, refl, ap, sym, ◌∙◌, subst}
use Rattle.std.specs.Prelude.{slice_get, slice_set}
use Rattle.std.specs.List.{list_any}
use Rattle.ra_base.specs.declared.event.Count.{Count}
use Rattle.ra_base.specs.declared.event.Side.TheVariants.{A, B}
use Rattle.ra_base.specs.declared.handshake.Reason.TheVariants.{UnknownKind}
use Rattle.ra_base.specs.declared.key.Key.{Key}
use Rattle.ra_base.specs.declared.key.Seat.{Seat}
use Rattle.ra_model.specs.Links.{amount, readable, read_on, written_to}
use Rattle.ra_model.specs.Refusals.{or_fault, fault_if}
use Rattle.ra_registry.specs.Rows.{same_key}
use Rattle.ra_registry.proofs.SameKeys.{same_key_other_way}
use Rattle.ra_hub.specs.Hubs.{Hub, row}
use Rattle.ra_hub.specs.Jobs.{SeenJob}
use Rattle.ra_link_core.specs.LinkRuns.{Serving, Welcome, hub_left}
use Rattle.ra_script.specs.declared.grand_line.GrandEvent.{GrandEvent}
use Rattle.ra_script.specs.declared.grand_line.GrandEvent.TheVariants as events
use Rattle.ra_grand_runs.specs.Draws.{draws_after, own_then, first_draws}
use Rattle.ra_grand_runs.specs.GrandClients.{GrandLink, Client}
use Rattle.ra_grand_runs.specs.GrandRefusals.{Refusal, link_over, of_link, if_over, if_unread}
use Rattle.ra_grand_runs.specs.GrandRuns.{bytes_up}
use Rattle.ra_grand_runs.specs.Grands.{Grand, Found, find_link, on_link}
use Rattle.ra_grand_runs.specs.Marks.{whole}
use Rattle.ra_grand_runs.specs.ServedLinks.{draw_at, served, came_whole, left, settled, end_after, piece_came}
use Rattle.ra_isolation_laws.specs.Isolation.{Sight, judged, drawn_by, is_admit, jobs_for, piece_seen, up_seen, piece_drawn, own_after, alone}
use Rattle.ra_isolation_laws.proofs.IsolatedHubs.{Agree, agree_trans, Shortens, agree_left, other_left, own_shortens, agree_shortened}
use Rattle.ra_isolation_laws.proofs.IsolatedLinks.{by_found, link_own, link_other}
use Rattle.ra_isolation_laws.proofs.IsolatedOpenings.{draws_same, first_same}
use Rattle.ra_isolation_laws.proofs.IsolatedPieces.{ServeAlike}
use Rattle.ra_isolation_laws.proofs.IsolatedUps.{served_alone, serve_piece, beside_piece}
use Rattle.ra_isolation_laws.proofs.IsolatedWorlds.{found, Own, Alike, find_alone, own_is, Between}
use Rattle.ra_isolation_laws.proofs.OthersPieces.{row_by, Beside}

-- ---- a link that is over is left

serve_left : (key : Key) (b c : Bool) (now : ℕ) (s t : Serving) → b ≡ c → ServeAlike key s t → ServeAlike key (cond b (left now s) s) (cond c (left now t) t)
serve_left key true true now s t same both = record {
  seat = refl;
  welcome = both.welcome;
  out = both.out;
  drawn = both.drawn;
  events = both.events;
  end = both.end;
  hub =
      subst (λ (o : Option Seat). Agree key (hub_left s.seat now s.hub) (hub_left o now t.hub)) both.seat (agree_left key s.seat now s.hub t.hub both.own both.hub);
  jobs = both.jobs;
  own = tt;
}
serve_left key true false now s t same both = absurd cc
serve_left key false true now s t same both = absurd cc
serve_left key false false now s t same both = both

serve_settled : (key : Key) (now later : ℕ) (s t : Serving) → now ≡ later → ServeAlike key s t → ServeAlike key (settled now (came_whole s)) (settled later (came_whole t))
serve_settled key now later s t same both =
    subst (λ (n : ℕ). ServeAlike key (settled now (came_whole s)) (settled n (came_whole t))) same
    (serve_left key (is_some s.end) (is_some t.end) now s t (ap (λ o. is_some o) both.end) both)

settled_drawn : (now : ℕ) (s : Serving) → (settled now (came_whole s)).drawn ≡ s.drawn
settled_drawn now s = by (is_some s.end)
  where
    by : (b : Bool) → (cond b (left now s) s).drawn ≡ s.drawn
    by true = refl
    by false = refl

-- ---- a link after a piece

abbrev arrived : GrandLink → List ℕ → (ℕ → List ℕ) → Bool → Serving → GrandLink
arrived l bytes draw over s = record {
  link = written_to A (drop (length l.server.out) s.out) (read_on B (length bytes) l.link);
  server = end_after bytes draw over s l.server;
}

-- by what it is made of
abbrev made_of : GrandLink → List ℕ → Option Seat → Option Welcome → List ℕ → List (List ℕ) → Bool → GrandLink
made_of l bytes seat welcome out drawn over = record {
  link = written_to A (drop (length l.server.out) out) (read_on B (length bytes) l.link);
  server = record { head = l.server.head; seen = l.server.seen ++ bytes; seat = seat; welcome = welcome; out = out; drawn = drawn; is_over = over };
}

arrived_same : (key : Key) (l : GrandLink) (bytes : List ℕ) (one other : ℕ → List ℕ) (b c : Bool) (s t : Serving) → ServeAlike key s t → first_draws s.drawn one ≡ first_draws t.drawn other → b ≡ c
    → arrived l bytes one b s ≡ arrived l bytes other c t
arrived_same key l bytes one other b c s t both drawn over =
    ap (λ (o : Option Seat). made_of l bytes o s.welcome s.out (first_draws s.drawn one) b) both.seat
    ∙ ap (λ (o : Option Welcome). made_of l bytes t.seat o s.out (first_draws s.drawn one) b) both.welcome
    ∙ ap (λ (x : List ℕ). made_of l bytes t.seat t.welcome x (first_draws s.drawn one) b) both.out
    ∙ ap (λ (ds : List (List ℕ)). made_of l bytes t.seat t.welcome t.out ds b) drawn
    ∙ ap (λ (x : Bool). made_of l bytes t.seat t.welcome t.out (first_draws t.drawn other) x) over

-- the draws of the link, in both worlds
drawn_same : (key : Key) (l : GrandLink) (u : Serving) (drawn : ℕ) (s t : Serving) → s.drawn ≡ u.drawn → ServeAlike key s t
    → first_draws s.drawn (own_then l.server.drawn (draws_after drawn)) ≡ first_draws t.drawn (own_then (l.server.drawn ++ drawn_by l u drawn) (λ n. []))
drawn_same key l u drawn s t is both =
    let one : ℕ → List ℕ = own_then l.server.drawn (draws_after drawn) in
    let other : ℕ → List ℕ = own_then (l.server.drawn ++ drawn_by l u drawn) (λ n. []) in
    ap (λ (n : ℕ). first_draws n one) is
    ∙ first_same u.drawn one other (λ i small. sym (draws_same l.server.drawn u.drawn i (draws_after drawn) (λ n. []) small))
    ∙ ap (λ (n : ℕ). first_draws n other) (sym is ∙ both.drawn)

-- ---- a piece on a link of the key

-- how a piece of a link comes in the world of the one client
abbrev ComesAlone : (Found → List ℕ) → (List (List ℕ) → Grand) → ℕ → Grand → Type 0
ComesAlone bytes after m a = (draws : List (List ℕ)) → after draws ≡ on_link (λ f. piece_drawn draws (bytes f) f) (find_link (suc m) a) a

own_arrives : (key : Key) (k : ℕ) (bytes : Found → List ℕ) (w a : Grand) (n m : ℕ) (c : Client) (l : GrandLink) → slice_get w.clients n ≡ Some c → slice_get c.links m ≡ Some l
    → l.server.is_over ≡ false → bytes (found 0 m c l) ≡ take k (readable B l.link) → (after : List (List ℕ) → Grand) → ComesAlone bytes after m a
    → Between w (piece_came whole (take k (readable B l.link)) (found n m c l) w) → Alike key w a → Own key (row w.hub key) w.clients a n c
    → Alike key (piece_came whole (take k (readable B l.link)) (found n m c l) w) (after (drawn_by l (served (take k (readable B l.link)) l w) w.drawn))
unfolding piece_came
own_arrives key k bytes w a n m c l there at over is after comes between alike own =
    let text : List ℕ = take k (readable B l.link) in
    let u : Serving = served text l w in
    let draws : List (List ℕ) = drawn_by l u w.drawn in
    let t : Serving = served_alone draws text l a in
    let both : ServeAlike key u t =
    serve_piece key k m c l w a (between.before.parts n c there) at over own.key_is own.claims alike.now alike.hub alike.jobs_are in
    let ends : ServeAlike key (settled w.now (came_whole u)) (settled a.now (came_whole t)) = serve_settled key w.now a.now u t alike.now both in
    let other : ℕ → List ℕ = own_then (l.server.drawn ++ draws) (λ i. []) in
    let new : GrandLink = arrived l text (draw_at l w) (is_some u.end) (settled w.now (came_whole u)) in
    let same : arrived l text other (is_some t.end) (settled a.now (came_whole t)) ≡ new =
    sym (arrived_same key l text (draw_at l w) other (is_some u.end) (is_some t.end) (settled w.now (came_whole u)) (settled a.now (came_whole t)) ends
    (drawn_same key l u w.drawn (settled w.now (came_whole u)) (settled a.now (came_whole t)) (settled_drawn w.now u) ends) (ap (λ o. is_some o) both.end)) in
    subst (λ (b : Grand). Alike key (piece_came whole text (found n m c l) w) b)
    (sym (comes draws ∙ ap (λ (o : Option Found). on_link (λ f. piece_drawn draws (bytes f) f) o a) (find_alone key (row w.hub key) w.clients a n c m l own at)
    ∙ ap (λ (x : List ℕ). piece_drawn draws x (found 0 m c l) a) is))
    (link_own key false [] n m c l new w (piece_came whole text (found n m c l) w) a (piece_drawn draws text (found 0 m c l) a) at refl between own refl
    (ap (λ (x : GrandLink). slice_set a.clients 0 (record c { links = slice_set c.links m x })) same
    ∙ ap (λ (cs : List Client). slice_set cs 0 (record c { links = slice_set c.links m new })) own.alone)
    refl alike.now ends.hub ends.jobs)

-- ---- a piece on a link of another key

-- a link of another key that is over is left
left_beside : (key other : Key) (now : ℕ) (b : Bool) (h : Hub) (jobs : List SeenJob) (u : Serving) → same_key other key ≡ false → Beside key other now h jobs u
    → Agree key (cond b (left now u) u).hub u.hub × ((cond b (left now u) u).jobs ≡ u.jobs)
left_beside key other now true h jobs u apart beside = (other_left key other u.seat now u.hub beside.seat apart, refl)
left_beside key other now false h jobs u apart beside = (record { session = refl; row_is = refl; times = refl }, refl)

abbrev if_judged : Bool → List Sight
if_judged b = cond b (judged ∷ []) []

-- the hub where the client is alone, whether a request was judged or not
judged_hub : (key other : Key) (b : Bool) (w a : Grand) (u : Serving) → list_any is_admit u.events ≡ b → Beside key other w.now w.hub w.jobs u → w.now ≡ a.now → Agree key w.hub a.hub
    → Agree key u.hub (alone key (if_judged b) a).hub
judged_hub key other true w a u is beside now agree =
    agree_shortened key w.now w.hub a.hub u.hub (alone key (if_judged true) a).hub agree
    (record { session = beside.session; row_is = beside.row_is ∙ ap (λ (b : Bool). row_by b w.now (row w.hub key)) is; times = beside.times })
    (subst (λ (t : ℕ). Shortens key t a.hub (alone key (if_judged true) a).hub) (sym now) (own_shortens key a.now None false UnknownKind a.hub))
judged_hub key other false w a u is beside now agree =
    agree_trans key u.hub w.hub a.hub
    (record { session = beside.session; row_is = beside.row_is ∙ ap (λ (b : Bool). row_by b w.now (row w.hub key)) is; times = beside.times }) agree

-- all else stays there
judged_clients : (key : Key) (b : Bool) (a : Grand) → (alone key (if_judged b) a).clients ≡ a.clients
judged_clients key true a = refl
judged_clients key false a = refl

judged_places : (key : Key) (b : Bool) (a : Grand) → (alone key (if_judged b) a).places ≡ a.places
judged_places key true a = refl
judged_places key false a = refl

judged_now : (key : Key) (b : Bool) (a : Grand) → (alone key (if_judged b) a).now ≡ a.now
judged_now key true a = refl
judged_now key false a = refl

judged_jobs : (key : Key) (b : Bool) (a : Grand) → (alone key (if_judged b) a).jobs ≡ a.jobs
judged_jobs key true a = refl
judged_jobs key false a = refl

other_arrives : (key : Key) (k : ℕ) (w a : Grand) (n m : ℕ) (c : Client) (l : GrandLink) → same_key key c.key ≡ false → slice_get w.clients n ≡ Some c → slice_get c.links m ≡ Some l
    → l.server.is_over ≡ false → Between w (piece_came whole (take k (readable B l.link)) (found n m c l) w) → Alike key w a
    → Alike key (piece_came whole (take k (readable B l.link)) (found n m c l) w) (alone key (if_judged (list_any is_admit (served (take k (readable B l.link)) l w).events)) a)
unfolding piece_came
other_arrives key k w a n m c l apart there at over between alike =
    let text : List ℕ = take k (readable B l.link) in
    let u : Serving = served text l w in
    let b : Bool = list_any is_admit u.events in
    let away : same_key c.key key ≡ false = same_key_other_way c.key key ∙ apart in
    let beside : Beside key c.key w.now w.hub w.jobs u = beside_piece key k m c l w (between.before.parts n c there) at over away in
    let end = left_beside key c.key w.now (is_some u.end) w.hub w.jobs u away beside in
    link_other key false [] n m c l (arrived l text (draw_at l w) (is_some u.end) (settled w.now (came_whole u))) w (piece_came whole text (found n m c l) w) a
    (alone key (if_judged b) a) there at refl apart between alike refl (judged_clients key b a) (judged_places key b a) (alike.now ∙ sym (judged_now key b a))
    (agree_trans key (settled w.now (came_whole u)).hub u.hub (alone key (if_judged b) a).hub end.0 (judged_hub key c.key b w a u refl beside alike.now alike.hub))
    (ap (λ (js : List SeenJob). jobs_for key js) end.1 ∙ beside.jobs_are ∙ alike.jobs_are ∙ sym (judged_jobs key b a))

-- ---- both

arrives_by : (key : Key) (k : ℕ) (bytes : Found → List ℕ) (ev : ℕ → GrandEvent) (w a : Grand) (n m : ℕ) (c : Client) (l : GrandLink) (b : Bool) → same_key key c.key ≡ b
    → slice_get w.clients n ≡ Some c → slice_get c.links m ≡ Some l → l.server.is_over ≡ false → bytes (found 0 m c l) ≡ take k (readable B l.link)
    → ComesAlone bytes (λ draws. own_after (ev (suc m)) draws a) m a
    → Between w (piece_came whole (take k (readable B l.link)) (found n m c l) w) → Alike key w a
    → Alike key (piece_came whole (take k (readable B l.link)) (found n m c l) w)
    (alone key (piece_seen b (ev (suc m)) (found n m c l) (served (take k (readable B l.link)) l w) w) a)
arrives_by key k bytes ev w a n m c l true own there at over is comes between alike =
    own_arrives key k bytes w a n m c l there at over is (λ draws. own_after (ev (suc m)) draws a) comes between alike (own_is key w a n c between.before alike there own)
arrives_by key k bytes ev w a n m c l false apart there at over is comes between alike = other_arrives key k w a n m c l apart there at over between alike

-- a link that is not over
not_over : (b : Bool) (r : Refusal) (next : Option Refusal) → or_fault (fault_if b r) next ≡ None → b ≡ false
not_over true r next none = absurd cc
not_over false r next none = refl

not_over_at : (b : Bool) (r : Refusal) → fault_if b r ≡ None → b ≡ false
not_over_at true r none = absurd cc
not_over_at false r none = refl

pub alike_up : (key : Key) (link : ℕ) (count : Count) (w a : Grand) → of_link link (λ l. or_fault (if_over link l) (if_unread B count l)) (find_link link w) ≡ None
    → Between w (on_link (λ f. piece_came whole (bytes_up count f.link) f) (find_link link w) w) → Alike key w a
    → Alike key (on_link (λ f. piece_came whole (bytes_up count f.link) f) (find_link link w) w)
    (alone key (up_seen key (λ l. events.Up l count) (λ f. bytes_up count f.link) (find_link link w) w) a)
alike_up key link count w a =
    by_found link w
    (λ (o : Option Found). of_link link (λ l. or_fault (if_over link l) (if_unread B count l)) o ≡ None → Between w (on_link (λ f. piece_came whole (bytes_up count f.link) f) o w) → Alike key w a
    → Alike key (on_link (λ f. piece_came whole (bytes_up count f.link) f) o w) (alone key (up_seen key (λ l. events.Up l count) (λ f. bytes_up count f.link) o w) a))
    (λ none between alike. absurd cc)
    (λ n m c l there at none between alike.
    arrives_by key (amount count (length (readable B l.link))) (λ f. bytes_up count f.link) (λ i. events.Up i count) w a n m c l (same_key key c.key) refl there at
    (not_over l.server.is_over (link_over link) (if_unread B count l) none) refl (λ draws. refl) between alike)

pub alike_idle : (key : Key) (link : ℕ) (w a : Grand) → of_link link (if_over link) (find_link link w) ≡ None
    → Between w (on_link (piece_came whole []) (find_link link w) w) → Alike key w a
    → Alike key (on_link (piece_came whole []) (find_link link w) w) (alone key (up_seen key (λ l. events.Idle l) (λ f. []) (find_link link w) w) a)
alike_idle key link w a =
    by_found link w
    (λ (o : Option Found). of_link link (if_over link) o ≡ None → Between w (on_link (piece_came whole []) o w) → Alike key w a
    → Alike key (on_link (piece_came whole []) o w) (alone key (up_seen key (λ l. events.Idle l) (λ f. []) o w) a))
    (λ none between alike. absurd cc)
    (λ n m c l there at none between alike.
    arrives_by key 0 (λ f. []) (λ i. events.Idle i) w a n m c l (same_key key c.key) refl there at
    (not_over_at l.server.is_over (link_over link) none) refl (λ draws. refl) between alike)
