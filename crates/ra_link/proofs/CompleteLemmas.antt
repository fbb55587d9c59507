-- A link that was served to its end.
use Rattle.std.proofs.Common.{◌≡◌, ℕ, ◌<◌, Option, Some, None, List, [], length, sym, subst, ◌∙◌, arith}
use Rattle.ra_base.specs.declared.key.Seat.{Seat}
use Rattle.ra_opening.specs.Openings.{Grounds}
use Rattle.ra_ports.specs.Causes.{Rose}
use Rattle.ra_ports.specs.Links.{Incoming}
use Rattle.ra_hub.specs.Hubs.{Hub}
use Rattle.ra_hub.specs.Jobs.{SeenJob}
use Rattle.ra_link_core.specs.LinkRuns.{Serving, link_run, hub_left}
use Rattle.ra_link.specs.Served.{LinkOutcome, link_closed, link_broke, link_spent, link_over, link_unkept, link_short, link_outcome, OnBroke, OnNotKept, ReadsAre, LinkEnds, IsServed, IsComplete, ClosedOrShort}
use Rattle.ra_link.specs.declared.ends.LinkEnd.{LinkEnd}

closes_by : (o : LinkOutcome) (first : List ℕ) (sent : Option (List ℕ)) (seat : Option Seat) (stands : Hub → Type 0) (jobs : Option (List SeenJob)) (failed broke unkept : Type 0) (start u : Serving) (count reads turns : ℕ)
    → OnBroke o broke → OnNotKept o unkept → (broke → ⊥) → (unkept → ⊥) → LinkEnds o first sent seat stands jobs failed start u → ReadsAre o count reads turns
    → u.end ≡ None → count < turns → ClosedOrShort o
closes_by link_closed first sent seat stands jobs failed broke unkept start u count reads turns cause kept whole all ends reads_are none fewer = tt
closes_by link_broke first sent seat stands jobs failed broke unkept start u count reads turns cause kept whole all ends reads_are none fewer = absurd (whole cause)
closes_by link_spent first sent seat stands jobs failed broke unkept start u count reads turns cause kept whole all ends reads_are none fewer =
    omega (arith, reads_are.0, reads_are.1, fewer)
closes_by (link_over end) first sent seat stands jobs failed broke unkept start u count reads turns cause kept whole all ends reads_are none fewer =
    absurd (apart (sym ends.1 ∙ none))
  where
    apart : Some end ≡ None → ⊥
    apart e = cc
closes_by link_unkept first sent seat stands jobs failed broke unkept start u count reads turns cause kept whole all ends reads_are none fewer = absurd (all kept)
closes_by link_short first sent seat stands jobs failed broke unkept start u count reads turns cause kept whole all ends reads_are none fewer = tt

pub completes : (end : LinkEnd) (grounds : Grounds) (start : Serving) (first : List ℕ) (moments : ℕ → ℕ) (turns : ℕ) (old new : Incoming) (sent : Option (List ℕ)) (stands : Hub → Type 0) (jobs : Option (List SeenJob)) (failed broke unkept : Type 0)
    → IsServed end grounds start first moments turns old new sent stands jobs failed → OnBroke (link_outcome end) broke → OnNotKept (link_outcome end) unkept → (broke → ⊥) → (unkept → ⊥)
    → IsComplete end grounds start first moments turns old new sent stands jobs failed
completes end grounds start first moments turns old new sent stands jobs failed broke unkept x cause kept whole all = record {
  is_served = x;
  closes = λ head is none fewer.
      closes_by (link_outcome end) first sent x.seat (λ h. stands (hub_left x.seat x.now h)) jobs failed broke unkept start (link_run grounds head [] x.served.pieces start) (length x.served.pieces) x.served.reads turns
      cause kept whole all (x.served.ran head is).ended x.served.reads_are none fewer;
}

-- the count of the keeper's faults stays where a link is left
pub kept_left : (o : LinkOutcome) (before then now : ℕ) → then ≡ now → OnNotKept o (Rose before then) → OnNotKept o (Rose before now)
kept_left o before then now is kept = subst (λ (n : ℕ). OnNotKept o (Rose before n)) is kept
