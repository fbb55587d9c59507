-- The server's end of a link in memory, before a piece and after it.
use Rattle.std.proofs.Common.{◌≡◌, ℕ, zero, suc, ◌+◌, ◌<◌, Bool, false, Option, Some, None, List, [], ◌∷◌, ◌++◌, length, refl, sym, ap, subst, ◌∙◌, append-nil, arith}
use Rattle.std.specs.Prelude.{◌&&◌, nat_lt, if◌then◌else◌, take}
use Rattle.ra_upgrade.specs.declared.request_head.HeadFault.{HeadFault}
use Rattle.ra_upgrade.specs.declared.request_head.Upgrade.{Upgrade}
use Rattle.ra_items.specs.Heads.{Head}
use Rattle.ra_items.specs.Readers.{Reader}
use Rattle.ra_opening.specs.declared.phase.Phase.{Phase as OpeningPhase}
use Rattle.ra_opening.specs.declared.phase.Phase.TheVariants as opening_phases
use Rattle.ra_opening.specs.Openings.{Grounds, Opened, opened}
use Rattle.ra_opening.specs.Stands.{OpeningState, Stands, StandsIn, NeedsFraming}
use Rattle.ra_opening.proofs.RunLemmas.{opened_is}
use Rattle.ra_hub.specs.Hubs.{Hub}
use Rattle.ra_hub.specs.Jobs.{SeenJob}
use Rattle.ra_link_core.specs.LinkRuns.{Serving, asks_framing, with_piece}
use Rattle.ra_link_core.specs.Cores.{CoreStands, NotHeld, counted_in}
use Rattle.ra_link_core.specs.declared.phase.Phase.{Phase}
use Rattle.ra_link_core.specs.declared.phase.Phase.TheVariants as phases
use Rattle.ra_link_core.proofs.PieceLemmas.{unheld_stands}
use Rattle.ra_grand_runs.specs.Draws.{own_then, first_draws}
use Rattle.ra_grand_runs.specs.GrandClients.{ServerEnd}
use Rattle.ra_grand_server.specs.ServerStates.{GoesAs}
use Rattle.ra_grand_runs.specs.SetUps.{grounds}
use Rattle.ra_grand_server.proofs.Regrounding.{Agree, stands_on, opened_alike}

-- ---- draws

-- behind those of the link come the next
pub own_behind : (ds : List (List ℕ)) (next : ℕ → List ℕ) (n : ℕ) → own_then ds next (length ds + n) ≡ next n
own_behind [] next n = let e : 0 + n ≡ n = omega arith in ap next e
own_behind (d ∷ ds) next n =
    let e : length (d ∷ ds) + n ≡ suc (length ds + n) = omega arith in
    ap (own_then (d ∷ ds) next) e ∙ own_behind ds next n

pub first_count : (k : ℕ) (draw : ℕ → List ℕ) → length (first_draws k draw) ≡ k
first_count zero draw = refl
first_count (suc k) draw = ap (λ n. suc n) (first_count k (λ n. draw (n + 1)))

first_same : (k n : ℕ) (draw next : ℕ → List ℕ) → n < k → draw n ≡ own_then (first_draws k draw) next n
first_same zero n draw next less = absurd (omega (arith, less))
first_same (suc k) zero draw next less = refl
first_same (suc k) (suc n) draw next less =
    let e : suc n ≡ n + 1 = omega arith in
    ap draw e ∙ first_same k n (λ m. draw (m + 1)) next (omega (arith, less))

-- ---- before a piece

waits_so : (phase : OpeningPhase) (g : Grounds) (head : Head Upgrade HeadFault) (text before : List ℕ) (next : ℕ → List ℕ) (reader : Reader)
    → (NeedsFraming phase → ⊥) → StandsIn phase g head text before next reader [] → before ≡ (opened g head text).out
waits_so opening_phases.Heading g head text before next reader free x =
    sym (ap (λ (o : Opened). o.out) (opened_is g head text [] x.none) ∙ x.waits.tells.written ∙ append-nil before)
waits_so (opening_phases.Held shake) g head text before next reader free x = absurd (free (tt {0}))
waits_so (opening_phases.Shaking shake) g head text before next reader free x =
    sym (ap (λ (o : Opened). o.out) (opened_is g head text x.shaking.done x.all) ∙ x.shaking.tells.written ∙ append-nil before)
waits_so opening_phases.Over g head text before next reader free x = absurd x

all_counts : (phase : OpeningPhase) (unread raw : List ℕ) → (NeedsFraming phase → ⊥) → raw ≡ counted_in phase unread raw
all_counts opening_phases.Heading unread raw free = refl
all_counts (opening_phases.Held shake) unread raw free = absurd (free (tt {0}))
all_counts (opening_phases.Shaking shake) unread raw free = refl
all_counts opening_phases.Over unread raw free = refl

-- the served link of an end that is not over
pub record IsServing (s : Serving) (end : ServerEnd) : Type 0 where
  pub seat : s.seat ≡ end.seat
  pub out : s.out ≡ end.out
  pub drawn : s.drawn ≡ length end.drawn
  pub going : s.end ≡ None

pub core_stands : (core : Phase) (end : ServerEnd) (next : ℕ → List ℕ) (stands : Hub → Type 0) (jobs : Option (List SeenJob)) (s : Serving)
    → GoesAs core end → IsServing s end → stands s.hub → jobs ≡ Some s.jobs
    → CoreStands core (grounds (own_then end.drawn next)) end.head end.seen end.out next stands jobs [] s
core_stands (phases.Opening opening) end next stands jobs s goes is hub told = record {
  going = record {
    tells = record {
      hub_stands = hub;
      jobs_are = told;
      out_is = is.out ∙ sym (append-nil end.out);
      draws_are = λ n. sym (ap (λ (k : ℕ). own_then end.drawn next (k + n)) is.drawn ∙ own_behind end.drawn next n);
    };
    seat_is = is.seat ∙ goes.seat;
    end_is = is.going;
  };
  raw = end.seen;
  opens = goes.opens next;
  counts = all_counts opening.phase opening.reader.unread end.seen goes.free;
  written = is.out ∙ waits_so opening.phase (grounds (own_then end.drawn next)) end.head end.seen end.out next opening.reader goes.free (goes.opens next);
  drawn = is.drawn ∙ sym (goes.draws next);
}
core_stands (phases.Seated seat) end next stands jobs s goes is hub told = record {
  tells = record {
    hub_stands = hub;
    jobs_are = told;
    out_is = is.out ∙ sym (append-nil end.out);
    draws_are = λ n. sym (ap (λ (k : ℕ). own_then end.drawn next (k + n)) is.drawn ∙ own_behind end.drawn next n);
  };
  seat_is = is.seat ∙ goes;
  end_is = is.going;
}
core_stands (phases.Ended seat) end next stands jobs s goes is hub told = absurd goes
core_stands phases.Over end next stands jobs s goes is hub told = absurd goes

-- ---- after it

abbrev own_first : ℕ → (ℕ → List ℕ) → (ℕ → List ℕ) → ℕ → List ℕ
own_first k draw coming = own_then (first_draws k draw) coming

alike : (draw coming : ℕ → List ℕ) (k count : ℕ) → count ≡ k → Agree count draw (own_first k draw coming)
alike draw coming k count is = λ n less. first_same k n draw coming (omega (arith, less, is))

opens_on : (draw coming : ℕ → List ℕ) (k : ℕ) (head : Head Upgrade HeadFault) (text before : List ℕ) (next : ℕ → List ℕ) (opening : OpeningState) (out : List ℕ)
    → (NeedsFraming opening.phase → ⊥) → Stands (grounds draw) head text before next opening out → (opened (grounds draw) head text).drawn ≡ k
    → Stands (grounds (own_first k draw coming)) head text (before ++ out) coming opening []
opens_on draw coming k head text before next opening out free stands is =
    let count : (opened (grounds draw) head text).drawn ≡ length (first_draws k draw) = is ∙ sym (first_count k draw) in
    stands_on (grounds draw) (own_first k draw coming) head text before next coming opening.phase opening.reader out free stands
    (alike draw coming k (opened (grounds draw) head text).drawn is)
    (λ n. sym (ap (λ (m : ℕ). own_first k draw coming (m + n)) count ∙ own_behind (first_draws k draw) coming n))

draws_on : (draw coming : ℕ → List ℕ) (k : ℕ) (head : Head Upgrade HeadFault) (text : List ℕ) → (opened (grounds draw) head text).drawn ≡ k
    → (opened (grounds (own_first k draw coming)) head text).drawn ≡ length (first_draws k draw)
draws_on draw coming k head text is =
    sym (ap (λ (o : Opened). o.drawn) (opened_alike (grounds draw) (own_first k draw coming) head text (alike draw coming k (opened (grounds draw) head text).drawn is)))
    ∙ is ∙ sym (first_count k draw)

-- the end of a served link that goes on
abbrev pub end_by : Head Upgrade HeadFault → List ℕ → (ℕ → List ℕ) → Serving → ServerEnd
end_by head text draw u =
    record { head = head; seen = text; seat = u.seat; welcome = u.welcome; out = u.out; drawn = first_draws u.drawn draw; is_over = false }

pub core_goes : (core : Phase) (draw : ℕ → List ℕ) (head : Head Upgrade HeadFault) (text before : List ℕ) (next : ℕ → List ℕ) (stands : Hub → Type 0) (jobs : Option (List SeenJob)) (out : List ℕ) (u : Serving)
    → CoreStands core (grounds draw) head text before next stands jobs out u → NotHeld core → GoesAs core (end_by head text draw u)
core_goes (phases.Opening opening) draw head text before next stands jobs out u x free = record {
  seat = x.going.seat_is;
  free = free;
  opens = λ coming.
      subst (λ (t : List ℕ). Stands (grounds (own_first u.drawn draw coming)) head text t coming opening []) (sym x.going.tells.out_is)
      (opens_on draw coming u.drawn head text before next opening out free (unheld_stands opening (grounds draw) head text before next stands jobs out u x free) (sym x.drawn));
  draws = λ coming. draws_on draw coming u.drawn head text (sym x.drawn);
}
core_goes (phases.Seated seat) draw head text before next stands jobs out u x free = x.seat_is
core_goes (phases.Ended seat) draw head text before next stands jobs out u x free = absurd x
core_goes phases.Over draw head text before next stands jobs out u x free = absurd x

-- ---- a head that asks for no framed stream

pub all_comes : (head : Head Upgrade HeadFault) (text piece : List ℕ) → asks_framing head.says ≡ false → with_piece head text piece ≡ text ++ piece
unfolding with_piece
all_comes head text piece asks =
    ap (λ (b : Bool). if b && nat_lt (length text) head.size then take head.size (text ++ piece) else text ++ piece) asks
