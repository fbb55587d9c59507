-- Where an event brings a link to its end at the server, that is a good end.
use Rattle.std.proofs.Common.{◌≡◌, ℕ, ◌≤◌, false, Option, Some, None, List, [], length, take, refl, subst, arith}
use Rattle.ra_base.specs.declared.event.Count.{Count}
use Rattle.ra_base.specs.declared.event.Side.TheVariants.{B}
use Rattle.ra_model.specs.Links.{at_number, amount, readable}
use Rattle.ra_model.specs.Refusals.{or_fault}
use Rattle.ra_values.specs.Tree.{Tree}
use Rattle.ra_ipc.specs.ChannelPairs.{Outcome}
use Rattle.ra_link_core.specs.LinkRuns.{End, Serving}
use Rattle.ra_script.specs.declared.grand_line.GrandEvent.{GrandEvent}
use Rattle.ra_script.specs.declared.grand_line.GrandEvent.TheVariants as events
use Rattle.ra_grand_runs.specs.GrandClients.{GrandLink, Client}
use Rattle.ra_grand_runs.specs.GrandEffects.{moved, moved_by, moved_up, moved_down, next_id, effect}
use Rattle.ra_grand_runs.specs.GrandRefusals.{Refusal, link_over, of_link, if_over, if_unread, refusal}
use Rattle.ra_grand_runs.specs.GrandRuns.{bytes_up, bytes_down}
use Rattle.ra_grand_runs.specs.Grands.{Grand, Place, Found, found_link, found_client, found_at, find_link}
use Rattle.ra_grand_runs.specs.Marks.{Mark, whole, short, unticked, Entry}
use Rattle.ra_grand_runs.specs.ServedLinks.{served}
use Rattle.ra_link_laws.specs.Parts.{WorldKeeps}
use Rattle.ra_link_laws.proofs.Folding.{not_over, not_over_at}
use Rattle.ra_link_laws.proofs.WorldLinks.{IsHere, StandsAt, stands_at, chosen}
use Rattle.ra_grand_laws.specs.ChannelParts.{ChannelsKeep}
use Rattle.ra_grand_laws.specs.GoodEnds.{IsGoodEnd, IsGoodIfAny}
use Rattle.ra_grand_laws.proofs.ServedEnds.{piece_ends}

-- ---- what an event answers

ends_so : (x y : List ℕ) (o : Option End) (end : End) → moved x o ≡ moved y (Some end) → IsGoodIfAny o → IsGoodEnd end
ends_so x y o end is good = subst (λ (p : Option End). IsGoodIfAny p) (here is) good
  where
    here : moved x o ≡ moved y (Some end) → o ≡ Some end
    here same = cc

served_ends : (mark : Mark) (piece bytes : List ℕ) (u : Serving) (end : End) → moved_by mark piece u ≡ moved bytes (Some end) → IsGoodIfAny u.end → IsGoodEnd end
served_ends whole piece bytes u end is good = ends_so piece bytes u.end end is good
served_ends (short draws calls put) piece bytes u end is good = absurd cc
served_ends (unticked keys) piece bytes u end is good = ends_so piece bytes u.end end is good

down_ends : (count : Count) (o : Option Found) (bytes : List ℕ) (end : End) → moved_down count o ≡ moved bytes (Some end) → IsGoodEnd end
down_ends count None bytes end is = absurd cc
down_ends count (Some f) bytes end is = ends_so (bytes_down count f.link) bytes None end is tt

next_never : (o : Option Client) (bytes : List ℕ) (end : End) → next_id o ≡ moved bytes (Some end) → ⊥
next_never None bytes end is = cc
next_never (Some c) bytes end is = cc

-- ---- the link that was found

-- what its end is, where it is not refused
abbrev Ends : (Found → List ℕ) → (GrandLink → Option Refusal) → Grand → Type 0
Ends piece further w = (f : Found) → IsHere f w → further f.link ≡ None → IsGoodIfAny (served (piece f) f.link w).end

by_link : (mark : Mark) (piece : Found → List ℕ) (link : ℕ) (further : GrandLink → Option Refusal) (w : Grand) (bytes : List ℕ) (end : End) → Ends piece further w
    → (p : Place) (c : Client) (o : Option GrandLink) → at_number w.clients p.client ≡ Some c → at_number c.links p.link ≡ o
    → of_link link further (found_link p c o) ≡ None → moved_up mark piece (found_link p c o) w ≡ moved bytes (Some end) → IsGoodEnd end
by_link mark piece link further w bytes end ends p c None is there none came = absurd cc
by_link mark piece link further w bytes end ends p c (Some l) is there none came =
    let f : Found = record { place = p; client = c; link = l } in
    served_ends mark (piece f) bytes (served (piece f) f.link w) end came (ends f (record { client = is; link = there }) none)

by_client : (mark : Mark) (piece : Found → List ℕ) (link : ℕ) (further : GrandLink → Option Refusal) (w : Grand) (bytes : List ℕ) (end : End) → Ends piece further w
    → (p : Place) (o : Option Client) → at_number w.clients p.client ≡ o
    → of_link link further (found_client p o) ≡ None → moved_up mark piece (found_client p o) w ≡ moved bytes (Some end) → IsGoodEnd end
by_client mark piece link further w bytes end ends p None is none came = absurd cc
by_client mark piece link further w bytes end ends p (Some c) is none came =
    by_link mark piece link further w bytes end ends p c (at_number c.links p.link) is refl none came

by_place : (mark : Mark) (piece : Found → List ℕ) (link : ℕ) (further : GrandLink → Option Refusal) (w : Grand) (bytes : List ℕ) (end : End) → Ends piece further w
    → (o : Option Place) → of_link link further (found_at o w.clients) ≡ None → moved_up mark piece (found_at o w.clients) w ≡ moved bytes (Some end) → IsGoodEnd end
by_place mark piece link further w bytes end ends None none came = absurd cc
by_place mark piece link further w bytes end ends (Some p) none came =
    by_client mark piece link further w bytes end ends p (at_number w.clients p.client) refl none came

-- so many of the bytes that can be read of it
found_ends : (k : ℕ) (w : Grand) (settled : ℕ → List (ℕ × Outcome)) (fired : ℕ → List (ℕ × Tree)) → WorldKeeps w → ChannelsKeep w settled fired → (f : Found) → IsHere f w
    → f.link.server.is_over ≡ false → k ≤ length (readable B f.link.link) → IsGoodIfAny (served (take k (readable B f.link.link)) f.link w).end
found_ends k w settled fired keeps channels f here over fits = by (stands_at f w here)
  where
    by : (n m : ℕ) × StandsAt f w n m → IsGoodIfAny (served (take k (readable B f.link.link)) f.link w).end
    by (n, m, at) =
        piece_ends (take k (readable B f.link.link)) k n m f w keeps at.client_number at.link_number at.client at.link over fits refl
        (settled (ℕ.suc n)) (fired (ℕ.suc n)) (channels.parts n f.client at.client) channels.jobs

-- ---- any event

event_end : (mark : Mark) (event : GrandEvent) (w : Grand) (settled : ℕ → List (ℕ × Outcome)) (fired : ℕ → List (ℕ × Tree)) (bytes : List ℕ) (end : End) → refusal event w ≡ None
    → WorldKeeps w → ChannelsKeep w settled fired → effect mark event w ≡ moved bytes (Some end) → IsGoodEnd end
unfolding refusal effect
event_end mark (events.At now) w settled fired bytes end none keeps channels is = absurd cc
event_end mark (events.Client key) w settled fired bytes end none keeps channels is = absurd cc
event_end mark (events.Step n) w settled fired bytes end none keeps channels is = absurd cc
event_end mark (events.Linked n) w settled fired bytes end none keeps channels is = absurd cc
event_end mark (events.NoLink n) w settled fired bytes end none keeps channels is = absurd cc
event_end mark (events.Up link count) w settled fired bytes end none keeps channels is =
    by_place mark (λ f. bytes_up count f.link) link (λ l. or_fault (if_over link l) (if_unread B count l)) w bytes end
    (λ f here free. found_ends (amount count (length (readable B f.link.link))) w settled fired keeps channels f here
    (not_over f.link.server.is_over (link_over link) (if_unread B count f.link) free) (chosen count (readable B f.link.link)))
    (at_number w.places link) none is
event_end mark (events.Idle link) w settled fired bytes end none keeps channels is =
    by_place mark (λ f. []) link (if_over link) w bytes end
    (λ f here free. found_ends 0 w settled fired keeps channels f here (not_over_at f.link.server.is_over (link_over link) free) (omega arith))
    (at_number w.places link) none is
event_end mark (events.Down link count) w settled fired bytes end none keeps channels is = down_ends count (find_link link w) bytes end is
event_end mark (events.Frame n) w settled fired bytes end none keeps channels is = absurd cc
event_end mark (events.Cut link) w settled fired bytes end none keeps channels is = absurd cc
event_end mark (events.Gone link) w settled fired bytes end none keeps channels is = absurd cc
event_end mark (events.Lost n) w settled fired bytes end none keeps channels is = absurd cc
event_end mark events.Sweep w settled fired bytes end none keeps channels is = absurd cc
event_end mark (events.Work job) w settled fired bytes end none keeps channels is = absurd cc
event_end mark (events.Call n channel name arg) w settled fired bytes end none keeps channels is = absurd (next_never (at_number w.clients n) bytes end is)
event_end mark (events.CallText n channel name arg) w settled fired bytes end none keeps channels is = absurd (next_never (at_number w.clients n) bytes end is)
event_end mark (events.Listen n channel name) w settled fired bytes end none keeps channels is = absurd (next_never (at_number w.clients n) bytes end is)
event_end mark (events.Cancel n id) w settled fired bytes end none keeps channels is = absurd cc
event_end mark (events.Dispose n id) w settled fired bytes end none keeps channels is = absurd cc
event_end mark (events.Say n body) w settled fired bytes end none keeps channels is = absurd cc
event_end mark (events.Stop n) w settled fired bytes end none keeps channels is = absurd cc

pub good_end : (entry : Entry) (w : Grand) (settled : ℕ → List (ℕ × Outcome)) (fired : ℕ → List (ℕ × Tree)) (bytes : List ℕ) (end : End) → refusal entry.event w ≡ None
    → WorldKeeps w → ChannelsKeep w settled fired → effect entry.mark entry.event w ≡ moved bytes (Some end) → IsGoodEnd end
good_end entry w settled fired bytes end none keeps channels is = event_end entry.mark entry.event w settled fired bytes end none keeps channels is
