-- Bytes of the server that a client reads on one of its links.
use Rattle.std.proofs.Common.{◌≡◌, ℕ, suc, ◌+◌, ◌-◌, ◌<◌, ◌≤◌, Bool, Option, Result, Ok, Err, OnOk, List, length, refl, ap, sym, subst, arith}
use Rattle.std.specs.Prelude.{is_none, slice_get, slice_set, slice_index_or}
use Rattle.ra_base.specs.declared.event.Side.TheVariants.{A}
use Rattle.ra_model.specs.Links.{read_on}
use Rattle.ra_dial.specs.declared.values.DialEvent.TheVariants as events
use Rattle.ra_dial.specs.Table.{out, draws_by}
use Rattle.ra_grand_clients.specs.ClientLinks.{LinkTurns, TakesDown, TakesDownAt}
use Rattle.ra_grand_clients.specs.ClientStates.{ClientState, Holds, StandsForClient, ReadsAnswer}
use Rattle.ra_grand_runs.specs.GrandClients.{GrandLink, Client, dials, dialled, writes_up}
use Rattle.ra_grand_runs.specs.GrandRuns.{takes}
use Rattle.ra_grand_runs.specs.Grands.{with_link}
use Rattle.ra_grand_clients.proofs.CrowdLemmas.{one, set_one}
use Rattle.ra_grand_runs.proofs.LinkChanging.{read_down}
use Rattle.ra_grand_clients.proofs.LinkTurnLemmas.{set_sent, now_there, reading_meets, index_is}
use Rattle.ra_grand_clients.proofs.LinkCounts.{get_less, past, links_counted}

-- ---- one client

pub dropped_down : (k : ℕ) (bytes : List ℕ) (now : ℕ) (old new : ClientState) → suc k < length old.links → LinkTurns k (read_on A (length bytes)) old new → TakesDown k bytes now old new
dropped_down k bytes now old new more turns c l holds stands reads is =
    let next = get_less c.links (suc k) (omega (arith, more, links_counted old c stands)) in
    subst (λ (b : Bool). StandsForClient new (takes b bytes now (with_link (suc k) (read_down bytes l) c))) (sym (ap (λ (x : Option GrandLink). is_none x) next.1))
    (turns c l (read_down bytes l) stands is refl)

-- the dialer takes the bytes, and then they are read
pub fed_down : (k : ℕ) (bytes : List ℕ) (now : ℕ) (old mid new : ClientState) → length old.links ≤ suc k
    → ((c : Client) → Holds old c → ReadsAnswer c → StandsForClient mid (dialled (events.Piece bytes) now c)) → LinkTurns k (read_on A (length bytes)) mid new → TakesDown k bytes now old new
unfolding dialled
fed_down k bytes now old mid new last becomes turns c l holds stands reads is =
    let event = events.Piece bytes in
    let u : Client = record c { dialer = (dials event now c).1; drawn = c.drawn + draws_by event now c.dialer.stage c.dialer.lost } in
    let there = now_there (writes_up (out u.dialer)) c.links k l is in
    let m : GrandLink = record { link = read_on A (length bytes) there.0.link; server = l.server } in
    let taken = turns (dialled event now c) there.0 m (becomes c holds reads) there.1 refl in
    subst (λ (b : Bool). StandsForClient new (takes b bytes now (with_link (suc k) (read_down bytes l) c)))
    (sym (ap (λ (x : Option GrandLink). is_none x) (past c.links (suc k) (omega (arith, last, links_counted old c stands)))))
    (subst (λ (x : Client). StandsForClient new x) (set_sent (read_on A (length bytes)) (reading_meets A (length bytes)) u k there.0 m l there.1 is refl) taken)

-- ---- one of many

pub takes_at : (n k : ℕ) (bytes : List ℕ) (now : ℕ) (hs : List ClientState) (d h : ClientState) → TakesDown k bytes now (slice_index_or hs n d) h → TakesDownAt n k bytes now hs (slice_set hs n h)
takes_at n k bytes now hs d h takes_one cs c l g all is here holds reads at =
    let same : slice_index_or hs n d ≡ g = index_is hs n d g here in
    set_one hs cs n h (takes (is_none (slice_get c.links (suc k))) bytes now (with_link (suc k) (read_down bytes l) c)) all
    (takes_one c l (subst (λ (x : ClientState). Holds x c) (sym same) holds) (one hs cs n d c all is) reads at)

pub takes_in : {X E : Type 0} → (r : Result X E) (n k : ℕ) (bytes : List ℕ) (now : ℕ) (hs : List ClientState) (d h : ClientState) → OnOk r (TakesDown k bytes now (slice_index_or hs n d) h)
    → OnOk r (TakesDownAt n k bytes now hs (slice_set hs n h))
takes_in (Ok x) n k bytes now hs d h taken = takes_at n k bytes now hs d h taken
takes_in (Err e) n k bytes now hs d h taken = taken

-- ---- places

pub more_behind : (len count at : ℕ) → count ≡ len → 1 < count - at → suc at < len
more_behind len count at is more = omega (arith, is, more)

pub none_behind : (len count at : ℕ) → count ≡ len → count - at ≤ 1 → len ≤ suc at
none_behind len count at is few = omega (arith, is, few)
