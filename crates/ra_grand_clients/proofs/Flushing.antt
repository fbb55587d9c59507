-- How a client's bytes come onto its link: in the pieces in which its dialer hands them out, and all together.
use Rattle.std.proofs.Common.{◌≡◌, ℕ, Bool, true, false, cond, List, [], ◌∷◌, ◌++◌, length, drop, take, map, refl, ap, sym, ◌∙◌, subst, append-nil, append_assoc, take-append-drop, arith}
use Rattle.std.specs.Prelude.{nat_le}
use Rattle.std.proofs.lemmas.Bool.{cond-true, le-leb}
use Rattle.std.proofs.Math.Seq.{drop-length}
use Rattle.ra_base.specs.declared.event.Side.TheVariants.{B}
use Rattle.ra_model.specs.Calls.{wrote}
use Rattle.ra_model.specs.Endpoints.{Endpoint, shown}
use Rattle.ra_model.specs.Links.{Link, written_to}
use Rattle.ra_session.specs.SessionCalls.{take_out}
use Rattle.ra_session.specs.Sessions.{Session}
use Rattle.ra_dial.specs.declared.stage.Stage.{Stage}
use Rattle.ra_dial.specs.declared.stage.Stage.TheVariants as stages
use Rattle.ra_dial.specs.Dialers.{Dialer}
use Rattle.ra_dial.specs.DialerStates.{DialerState, StandsForDialer, OfEachDialer, DialerBecomes}
use Rattle.ra_dial.specs.Table.{out, shown_at, next_of, next_out, without_next, handed_out, session_after}
use Rattle.ra_grand_clients.specs.ClientStates.{ClientState, Holds, StaysClient, IsFlushed, put_on_last, wire}
use Rattle.ra_grand_runs.specs.GrandClients.{GrandLink, Client, emptied, writes_up, sends}
use Rattle.ra_grand_runs.specs.Lasts.{with_last}
use Rattle.ra_grand_runs.proofs.LastLemmas.{stays, twice, seen}
use Rattle.ra_grand_runs.proofs.WrittenUp.{nothing_up, both_links}

-- ---- links

pub put_nothing : (links : List Link) → put_on_last [] links ≡ links
put_nothing links = stays (written_to B []) nothing_up links

-- ---- what a dialer hands out

shown_drop : (paused : Bool) (xs : List ℕ) → cond paused [] (drop (length (cond paused [] xs)) xs) ≡ []
shown_drop true xs = refl
shown_drop false xs = drop-length xs

wrote_all : (e : Endpoint) → wrote (length (shown e)) e ≡ record e { unwritten = drop (length (shown e)) e.unwritten }
unfolding wrote
wrote_all e = cond-true (nat_le (length (shown e)) (length (shown e))) (record e { unwritten = drop (length (shown e)) e.unwritten }) e (le-leb (length (shown e)) (length (shown e)) (omega arith))

-- nothing more is shown
shown_none : (e : Endpoint) → shown (wrote (length (shown e)) e) ≡ []
shown_none e = ap (λ (x : Endpoint). shown x) (wrote_all e) ∙ shown_drop e.paused e.unwritten

wrote_none : (e : Endpoint) → shown e ≡ [] → wrote (length (shown e)) e ≡ e
wrote_none e none = wrote_all e ∙ ap (λ (xs : List ℕ). record e { unwritten = drop (length xs) e.unwritten }) none

taken_twice : (s : Session) → take_out (take_out s) ≡ take_out s
unfolding take_out
taken_twice s = ap (λ (e : Endpoint). record s { peer = record { endpoint = e; heard = s.peer.heard; applied = s.peer.applied } })
    (wrote_none (wrote (length (shown s.peer.endpoint)) s.peer.endpoint) (shown_none s.peer.endpoint))

pub session_twice : (stage : Stage) (s : Session) → session_after stage (session_after stage s) ≡ session_after stage s
session_twice (stages.Resting until) s = refl
session_twice (stages.Calling since) s = refl
session_twice (stages.Shaking since shaking) s = refl
session_twice stages.Attached s = taken_twice s
session_twice (stages.Over end) s = refl

pub shown_after : (stage : Stage) (d : Dialer) → shown_at stage (record d { session = session_after stage d.session }) ≡ []
unfolding take_out
shown_after (stages.Resting until) d = refl
shown_after (stages.Calling since) d = refl
shown_after (stages.Shaking since shaking) d = refl
shown_after stages.Attached d = shown_none d.session.peer.endpoint
shown_after (stages.Over end) d = refl

shown_still : (stage : Stage) (pending : List ℕ) (d : Dialer) → shown_at stage (record d { pending = pending }) ≡ shown_at stage d
shown_still (stages.Resting until) pending d = refl
shown_still (stages.Calling since) pending d = refl
shown_still (stages.Shaking since shaking) pending d = refl
shown_still stages.Attached pending d = refl
shown_still (stages.Over end) pending d = refl

-- what is handed out at once is handed out in pieces
emptied_by : (pending : List ℕ) (n : ℕ) (d : Dialer) → emptied (without_next pending n d) ≡ emptied d
emptied_by [] n d = ap (λ (s : Session). record d { pending = []; session = s }) (session_twice d.stage d.session)
emptied_by (b ∷ bs) n d = refl

pub emptied_still : (n : ℕ) (d : Dialer) → emptied (handed_out n d) ≡ emptied d
emptied_still n d = emptied_by d.pending n d

split_by : (pending : List ℕ) (n : ℕ) (d : Dialer) → d.pending ≡ pending → pending ++ shown_at d.stage d ≡ next_of pending n d ++ out (without_next pending n d)
split_by [] n d is =
    sym (append-nil (shown_at d.stage d))
    ∙ ap (λ (xs : List ℕ). shown_at d.stage d ++ xs) (sym (shown_after d.stage d) ∙ ap (λ (p : List ℕ). p ++ shown_at d.stage (record d { session = session_after d.stage d.session })) (sym is))
split_by (b ∷ bs) n d is =
    ap (λ (xs : List ℕ). xs ++ shown_at d.stage d) (sym (take-append-drop n (b ∷ bs)))
    ∙ append_assoc (take n (b ∷ bs)) (drop n (b ∷ bs)) (shown_at d.stage d)
    ∙ ap (λ (xs : List ℕ). take n (b ∷ bs) ++ (drop n (b ∷ bs) ++ xs)) (sym (shown_still d.stage (drop n (b ∷ bs)) d))

pub out_split : (n : ℕ) (d : Dialer) → out d ≡ next_out n d ++ out (handed_out n d)
out_split n d = split_by d.pending n d refl

-- nothing is left
emptied_none : (pending : List ℕ) (d : Dialer) → pending ++ shown_at d.stage d ≡ [] → without_next pending 0 (record d { pending = pending }) ≡ emptied d
emptied_none [] d none = refl
emptied_none (b ∷ bs) d none = absurd cc

pub handed_none : (d : Dialer) → out d ≡ [] → handed_out 0 d ≡ emptied d
handed_none d none = emptied_none d.pending d none

-- ---- a client

-- a client that has put a part of its bytes on its link
abbrev put_first : ℕ → Client → Client
put_first n u = record u { dialer = handed_out n u.dialer; links = with_last (writes_up (next_out n u.dialer)) u.links }

sends_still : (n : ℕ) (u : Client) → sends (put_first n u) ≡ sends u
sends_still n u =
    ap (λ (d : Dialer). record u { dialer = d; links = with_last (writes_up (out (handed_out n u.dialer))) (with_last (writes_up (next_out n u.dialer)) u.links) }) (emptied_still n u.dialer)
    ∙ ap (λ (ls : List GrandLink). record u { dialer = emptied u.dialer; links = ls })
    (twice (writes_up (next_out n u.dialer)) (writes_up (out (handed_out n u.dialer))) (writes_up (out u.dialer))
    (λ l. both_links (next_out n u.dialer) (out (handed_out n u.dialer)) l ∙ ap (λ (xs : List ℕ). writes_up xs l) (sym (out_split n u.dialer))) u.links)

-- the state once what it held was written, and these bytes were handed out
abbrev pub put_state : ClientState → ClientState
put_state h = record h { held = []; links = put_on_last h.held h.links }

holds_put : (h : ClientState) (u : Client) → Holds h u → Holds (put_state h) u
holds_put h u holds =
    record { key = holds.key; dialer = holds.dialer; draws = holds.draws; links = holds.links ∙ sym (put_nothing (put_on_last h.held h.links)) }

links_first : (bytes : List ℕ) (h : ClientState) (u : Client) → Holds (put_state h) u
    → map wire (with_last (writes_up bytes) u.links) ≡ put_on_last bytes (put_state h).links
links_first bytes h u holds =
    seen wire (writes_up bytes) (written_to B bytes) (λ l. refl) u.links
    ∙ ap (λ (ls : List Link). put_on_last bytes ls) (holds.links ∙ put_nothing (put_state h).links)

first_handed : (h : ClientState) (new : DialerState) (bytes : List ℕ)
    → OfEachDialer h.dialer (λ d. bytes ≡ next_out (length bytes) d) → DialerBecomes h.dialer new (handed_out (length bytes))
    → StaysClient h (record (put_state h) { dialer = new; held = bytes })
first_handed h new bytes next becomes c stands =
    let u = stands.0 in
    let holds : Holds h u = stands.1 in (
      put_first (length bytes) u,
      record {
        key = holds.key;
        dialer = becomes u.dialer holds.dialer;
        draws = holds.draws;
        links = ap (λ (xs : List ℕ). map wire (with_last (writes_up xs) u.links)) (sym (next u.dialer holds.dialer)) ∙ links_first bytes h u (holds_put h u holds);
      },
      stands.2 ∙ sym (sends_still (length bytes) u),
    )

pub handed_over : (h mid : ClientState) (new : DialerState) (bytes : List ℕ) → mid ≡ put_state h
    → OfEachDialer mid.dialer (λ d. bytes ≡ next_out (length bytes) d) → DialerBecomes mid.dialer new (handed_out (length bytes))
    → StaysClient h (record mid { dialer = new; held = bytes })
handed_over h mid new bytes is =
    subst (λ (m : ClientState). OfEachDialer m.dialer (λ d. bytes ≡ next_out (length bytes) d) → DialerBecomes m.dialer new (handed_out (length bytes)) → StaysClient h (record m { dialer = new; held = bytes }))
    (sym is) (first_handed h new bytes)

none_handed : (h : ClientState) (new : DialerState) → OfEachDialer h.dialer (λ d. out d ≡ []) → DialerBecomes h.dialer new (handed_out 0)
    → IsFlushed h (record (put_state h) { dialer = new; held = [] })
none_handed h new left becomes c stands =
    let u = stands.0 in
    let holds : Holds h u = stands.1 in
    subst (λ (x : Client). Holds (record (put_state h) { dialer = new; held = [] }) x) (sym stands.2)
    (record {
      key = holds.key;
      dialer = subst (λ (d : Dialer). StandsForDialer new d) (handed_none u.dialer (left u.dialer holds.dialer)) (becomes u.dialer holds.dialer);
      draws = holds.draws;
      links =
          ap (λ (xs : List ℕ). map wire (with_last (writes_up xs) u.links)) (left u.dialer holds.dialer)
          ∙ seen wire (writes_up []) (written_to B []) (λ l. refl) u.links
          ∙ ap (λ (ls : List Link). put_on_last [] ls) holds.links;
    })

all_handed : (h : ClientState) (new : DialerState) (bytes : List ℕ) → bytes ≡ [] → OfEachDialer h.dialer (λ d. out d ≡ [])
    → DialerBecomes h.dialer new (handed_out (length bytes)) → IsFlushed h (record (put_state h) { dialer = new; held = bytes })
all_handed h new bytes none left =
    subst (λ (b : List ℕ). DialerBecomes h.dialer new (handed_out (length b)) → IsFlushed h (record (put_state h) { dialer = new; held = b })) (sym none) (none_handed h new left)

pub all_handed_over : (h mid : ClientState) (new : DialerState) (bytes : List ℕ) → mid ≡ put_state h → bytes ≡ []
    → OfEachDialer mid.dialer (λ d. out d ≡ []) → DialerBecomes mid.dialer new (handed_out (length bytes))
    → IsFlushed h (record mid { dialer = new; held = bytes })
all_handed_over h mid new bytes is none =
    subst (λ (m : ClientState). OfEachDialer m.dialer (λ d. out d ≡ []) → DialerBecomes m.dialer new (handed_out (length bytes)) → IsFlushed h (record m { dialer = new; held = bytes }))
    (sym is) (all_handed h new bytes none)
