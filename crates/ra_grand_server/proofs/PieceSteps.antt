-- A piece at the server's end of a link in memory, and how much of it was done.
use Rattle.std.proofs.Common.{◌≡◌, ℕ, ◌+◌, ◌-◌, ◌≤◌, Bool, true, false, Option, Some, None, List, [], ◌++◌, length, take, drop, map, refl, sym, ap, subst, ◌∙◌, append_assoc, arith}
use Rattle.std.proofs.lemmas.List.{take_at, drop_at, length-append}
use Rattle.std.proofs.Math.Path.{fun_ext}
use Rattle.std.specs.Option.{is_some}
use Rattle.ra_upgrade.specs.declared.request_head.HeadFault.{HeadFault}
use Rattle.ra_upgrade.specs.declared.request_head.Upgrade.{Upgrade}
use Rattle.ra_items.specs.Heads.{Head, IsRequestOf}
use Rattle.ra_sign.specs.Signature.{signature_text, is_signature}
use Rattle.ra_shake.specs.declared.settings.ShakeSettings.{ShakeSettings}
use Rattle.ra_opening.specs.Openings.{grounds_of}
use Rattle.ra_hub.specs.Hubs.{Hub}
use Rattle.ra_hub.specs.Jobs.{SeenJob, seen}
use Rattle.ra_hub.specs.JobLists.{jobs_in}
use Rattle.ra_hub.specs.Keeping.{Stands}
use Rattle.ra_hub.specs.declared.jobs.JobList.{JobList}
use Rattle.ra_hub.specs.MemHubs.{MemHub}
use Rattle.ra_link_core.specs.HubEvents.{HubEvent, events_done, events_jobs, events_bytes, seats_by}
use Rattle.ra_link_core.specs.LinkRuns.{Serving, End, asks_framing, with_piece, piece_done}
use Rattle.ra_link_core.specs.Makes.{Happens, Grows, Tells, Outcome, goes, over, unkept, short, outcome_of}
use Rattle.ra_link_core.specs.Cores.{CoreStands, CoreMakes, NotHeld, base_of, seat_in}
use Rattle.ra_link_core.specs.declared.ends.CoreEnd.{CoreEnd}
use Rattle.ra_link_core.specs.declared.ends.CoreEnd.TheVariants as ends
use Rattle.ra_link_core.specs.declared.phase.Phase.{Phase}
use Rattle.ra_link_core.specs.declared.phase.Phase.TheVariants as phases
use Rattle.ra_link_core.proofs.PieceLemmas.{piece_happens}
use Rattle.ra_grand_server.proofs.FreeLinks.{core_free}
use Rattle.ra_grand_runs.specs.Draws.{nth_draw, draws_after}
use Rattle.ra_grand_runs.specs.Fits.{IsPart, bytes_behind}
use Rattle.ra_grand_runs.specs.GrandClients.{GrandLink, ServerEnd}
use Rattle.ra_grand_runs.specs.GrandEffects.{moved}
use Rattle.ra_grand_runs.specs.Grands.{Grand}
use Rattle.ra_grand_runs.specs.Marks.{Mark, whole, short as short_mark}
use Rattle.ra_grand_server.specs.Pieces.{Shares, Serves, TookPiece, Takes, is_end}
use Rattle.ra_grand_runs.specs.ServedLinks.{came, draw_at, serving_at, served}
use Rattle.ra_grand_server.specs.ServerStates.{ServedState, GoesAs, Unless}
use Rattle.ra_grand_runs.specs.SetUps.{secret, shake_settings, grounds}
use Rattle.ra_grand_server.proofs.EndSteps.{own_behind, core_stands, core_goes, all_comes}

-- ---- a part

-- they differ in no more than their welcome and their end
pub record Alike (p v : Serving) : Type 0 where
  pub seat : v.seat ≡ p.seat
  pub out : v.out ≡ p.out
  pub drawn : v.drawn ≡ p.drawn
  pub hub : v.hub ≡ p.hub
  pub jobs : v.jobs ≡ p.jobs

abbrev part_mark : Serving → Serving → List ℕ → Mark
part_mark s p out = short_mark (p.drawn - s.drawn) (length p.events) (length out)

front_out : (s p u : Serving) (out bytes : List ℕ) → p.out ≡ s.out ++ out → u.out ≡ p.out ++ bytes
    → s.out ++ take (length out) (drop (length s.out) u.out) ≡ p.out
front_out s p u out bytes is more =
    let all : u.out ≡ s.out ++ (out ++ bytes) = more ∙ ap (λ (t : List ℕ). t ++ bytes) is ∙ append_assoc s.out out bytes in
    ap (λ (t : List ℕ). s.out ++ take (length out) (drop (length s.out) t)) all
    ∙ ap (λ (t : List ℕ). s.out ++ take (length out) t) (drop_at s.out (out ++ bytes) (length s.out) refl)
    ∙ ap (λ (t : List ℕ). s.out ++ t) (take_at out bytes (length out) refl)
    ∙ sym is

pub part_alike : (s p u : Serving) (out : List ℕ) → s.events ≡ [] → p.out ≡ s.out ++ out → Happens s p → Grows p u
    → Alike p (came (p.drawn - s.drawn) (take (length p.events) u.events) (length out) s u)
part_alike s p u out none is came_so comes =
    let own : p.events ≡ came_so.more = came_so.events ∙ ap (λ (es : List HubEvent). es ++ came_so.more) none in
    let front : take (length p.events) u.events ≡ came_so.more =
    ap (λ (es : List HubEvent). take (length p.events) es) comes.happens.events ∙ take_at p.events comes.happens.more (length p.events) refl ∙ own in
    record {
      seat = ap (λ (es : List HubEvent). seats_by es s.hub s.seat) front ∙ sym came_so.seat;
      out = front_out s p u out comes.bytes is comes.out;
      drawn = omega (arith, came_so.drawn);
      hub = ap (λ (es : List HubEvent). events_done es s.hub) front ∙ sym came_so.hub;
      jobs = ap (λ (es : List HubEvent). s.jobs ++ events_jobs es s.hub) front ∙ sym came_so.jobs;
    }

-- the mark of a part fits
part_fits : (s p u : Serving) (out : List ℕ) → s.events ≡ [] → p.out ≡ s.out ++ out → Happens s p → Grows p u
    → IsPart (p.drawn - s.drawn) (length p.events) (length out) s u
part_fits s p u out none is came_so comes =
    let more = comes.happens.more in
    let own : p.events ≡ came_so.more = came_so.events ∙ ap (λ (es : List HubEvent). es ++ came_so.more) none in
    let made : take (length p.events) u.events ≡ came_so.more =
    ap (λ (es : List HubEvent). take (length p.events) es) comes.happens.events ∙ take_at p.events more (length p.events) refl ∙ own in
    let left : drop (length p.events) u.events ≡ more =
    ap (λ (es : List HubEvent). drop (length p.events) es) comes.happens.events ∙ drop_at p.events more (length p.events) refl in
    let behind : bytes_behind (length p.events) s u ≡ events_bytes more p.hub =
    ap (λ (es : List HubEvent). events_bytes es (events_done (take (length p.events) u.events) s.hub)) left
    ∙ ap (λ (es : List HubEvent). events_bytes more (events_done es s.hub)) made
    ∙ ap (λ (h : Hub). events_bytes more h) (sym came_so.hub) in
    let counts : length u.events ≡ length p.events + length more = ap length comes.happens.events ∙ length-append p.events more in
    let sizes : length u.out ≡ length p.out + length comes.bytes = ap length comes.out ∙ length-append p.out comes.bytes in
    let before : length p.out ≡ length s.out + length out = ap length is ∙ length-append s.out out in
    record {
      draws_made = omega (arith, came_so.drawn, comes.happens.drawn);
      calls_made = omega (arith, counts);
      bytes_put = omega (arith, ap length behind, sizes, before, comes.enough);
    }

-- ---- what is shared

told_so : {X : Type 0} → (x y : X) → ◌≡◌ {A = Option X} (Some x) (Some y) → x ≡ y
told_so x y is = cc

-- the draws that come next are the server's
draws_so : (l : GrandLink) (w : Grand) (drawn : ℕ) (v : Serving) → length l.server.drawn ≤ v.drawn → ((n : ℕ) → draws_after drawn n ≡ draw_at l w (v.drawn + n))
    → draws_after drawn ≡ draws_after (w.drawn + (v.drawn - length l.server.drawn))
draws_so l w drawn v later are =
    let own = l.server.drawn in
    fun_ext (λ n.
    let at : v.drawn + n ≡ length own + ((v.drawn - length own) + n) = omega (arith, later) in
    let place : w.drawn + ((v.drawn - length own) + n) + 1 ≡ w.drawn + (v.drawn - length own) + n + 1 = omega arith in
    are n ∙ ap (λ (m : ℕ). draw_at l w m) at ∙ own_behind own (draws_after w.drawn) ((v.drawn - length own) + n) ∙ ap nth_draw place)

serves_so : (hub : MemHub) (drawn : ℕ) (jobs : JobList) (out : List ℕ) (l : GrandLink) (w : Grand) (v : Serving)
    → Tells (Stands hub) (Some (map seen (jobs_in jobs))) (base_of (grounds (draw_at l w)) l.server.out (draws_after drawn)) out v → Happens (serving_at l w) v
    → Serves hub drawn jobs out l w v
serves_so hub drawn jobs out l w v tells happens = record {
  hub_stands = tells.hub_stands;
  draws = draws_so l w drawn v happens.drawn tells.draws_are;
  jobs_are = told_so (map seen (jobs_in jobs)) v.jobs tells.jobs_are;
  written = tells.out_is;
}

serves_alike : (hub : MemHub) (drawn : ℕ) (jobs : JobList) (out : List ℕ) (l : GrandLink) (w : Grand) (p v : Serving)
    → Alike p v → Serves hub drawn jobs out l w p → Serves hub drawn jobs out l w v
serves_alike hub drawn jobs out l w p v alike serves = record {
  hub_stands = subst (λ (h : Hub). Stands hub h) (sym alike.hub) serves.hub_stands;
  draws = serves.draws ∙ ap (λ (n : ℕ). draws_after (w.drawn + (n - length l.server.drawn))) (sym alike.drawn);
  jobs_are = serves.jobs_are ∙ sym alike.jobs;
  written = alike.out ∙ serves.written;
}

-- ---- a piece

abbrev Makes : Outcome → Phase → MemHub → ℕ → JobList → List ℕ → List ℕ → GrandLink → Grand → Type 0
Makes o core hub drawn jobs bytes out l w =
    CoreMakes o core (grounds (draw_at l w)) l.server.head (l.server.seen ++ bytes) l.server.out (draws_after drawn) (Stands hub) (Some (map seen (jobs_in jobs))) out (serving_at l w) (served bytes l w)

abbrev Took : Outcome → Phase → MemHub → ℕ → JobList → List ℕ → List ℕ → GrandLink → Grand → Type 0
Took o core hub drawn jobs bytes out l w = (mark : Mark) × TookPiece mark o bytes core hub drawn jobs out l w

core_seat : (core : Phase) (hub : MemHub) (drawn : ℕ) (jobs : JobList) (bytes out : List ℕ) (l : GrandLink) (w : Grand)
    → Makes goes core hub drawn jobs bytes out l w → (served bytes l w).seat ≡ seat_in core
core_seat (phases.Opening opening) hub drawn jobs bytes out l w x = x.going.seat_is
core_seat (phases.Seated seat) hub drawn jobs bytes out l w x = x.seat_is
core_seat (phases.Ended seat) hub drawn jobs bytes out l w x = absurd x
core_seat phases.Over hub drawn jobs bytes out l w x = absurd x

core_end : (core : Phase) (hub : MemHub) (drawn : ℕ) (jobs : JobList) (bytes out : List ℕ) (l : GrandLink) (w : Grand)
    → Makes goes core hub drawn jobs bytes out l w → (served bytes l w).end ≡ None
core_end (phases.Opening opening) hub drawn jobs bytes out l w x = x.going.end_is
core_end (phases.Seated seat) hub drawn jobs bytes out l w x = x.end_is
core_end (phases.Ended seat) hub drawn jobs bytes out l w x = absurd x
core_end phases.Over hub drawn jobs bytes out l w x = absurd x

core_tells : (core : Phase) (hub : MemHub) (drawn : ℕ) (jobs : JobList) (bytes out : List ℕ) (l : GrandLink) (w : Grand)
    → Makes goes core hub drawn jobs bytes out l w
    → Tells (Stands hub) (Some (map seen (jobs_in jobs))) (base_of (grounds (draw_at l w)) l.server.out (draws_after drawn)) out (served bytes l w)
core_tells (phases.Opening opening) hub drawn jobs bytes out l w x = x.going.tells
core_tells (phases.Seated seat) hub drawn jobs bytes out l w x = x.tells
core_tells (phases.Ended seat) hub drawn jobs bytes out l w x = absurd x
core_tells phases.Over hub drawn jobs bytes out l w x = absurd x

-- a link whose end is over needs no more
abbrev OfPart : MemHub → ℕ → JobList → List ℕ → List ℕ → GrandLink → Grand → Serving → Type 0
OfPart hub drawn jobs bytes out l w p =
    Alike p (came (p.drawn - (serving_at l w).drawn) (take (length p.events) (served bytes l w).events) (length out) (serving_at l w) (served bytes l w))
    × Serves hub drawn jobs out l w p

of_part : (hub : MemHub) (drawn : ℕ) (jobs : JobList) (bytes out : List ℕ) (l : GrandLink) (w : Grand) (p : Serving)
    → Tells (Stands hub) (Some (map seen (jobs_in jobs))) (base_of (grounds (draw_at l w)) l.server.out (draws_after drawn)) out p
    → Happens (serving_at l w) p → Grows p (served bytes l w) → OfPart hub drawn jobs bytes out l w p
of_part hub drawn jobs bytes out l w p tells came_so comes =
    (part_alike (serving_at l w) p (served bytes l w) out refl tells.out_is came_so comes, serves_so hub drawn jobs out l w p tells came_so)

took_by : (o : Outcome) (core : Phase) (hub : MemHub) (drawn : ℕ) (jobs : JobList) (bytes out : List ℕ) (l : GrandLink) (w : Grand)
    → Makes o core hub drawn jobs bytes out l w → Happens (serving_at l w) (served bytes l w) → asks_framing l.server.head.says ≡ false
    → Took o core hub drawn jobs bytes out l w
took_by goes core hub drawn jobs bytes out l w x all asks = (
  whole,
  record {
    serves = serves_so hub drawn jobs out l w (served bytes l w) (core_tells core hub drawn jobs bytes out l w x) all;
    seat = core_seat core hub drawn jobs bytes out l w x;
    over = ap is_some (core_end core hub drawn jobs bytes out l w x);
    moved = ap (λ (e : Option End). moved bytes e) (core_end core hub drawn jobs bytes out l w x);
    goes = core_goes core (draw_at l w) l.server.head (l.server.seen ++ bytes) l.server.out (draws_after drawn) (Stands hub) (Some (map seen (jobs_in jobs))) out (served bytes l w) x
        (core_free core (grounds (draw_at l w)) l.server.head (l.server.seen ++ bytes) l.server.out (draws_after drawn) (Stands hub) (Some (map seen (jobs_in jobs))) out (served bytes l w) x asks);
    whole = all;
    fits = tt {0};
  },
)
took_by (over end) core hub drawn jobs bytes out l w x all asks = (
  whole,
  record {
    serves = serves_so hub drawn jobs out l w (served bytes l w) x.tells all;
    seat = x.seat_is;
    over = ap is_some x.end_is;
    moved = ap (λ (e : Option End). moved bytes e) x.end_is;
    goes = tt {0};
    whole = all;
    fits = tt {0};
  },
)
took_by unkept core hub drawn jobs bytes out l w x all asks =
    let of = of_part hub drawn jobs bytes out l w x.part x.tells x.came x.comes in (
      part_mark (serving_at l w) x.part out,
      record {
        serves = serves_alike hub drawn jobs out l w x.part _ of.0 of.1;
        seat = of.0.seat ∙ x.seat_is ∙ sym x.none;
        over = refl;
        moved = refl;
        goes = tt {0};
        whole = all;
        fits = part_fits (serving_at l w) x.part (served bytes l w) out refl x.tells.out_is x.came x.comes;
      },
    )
took_by short core hub drawn jobs bytes out l w x all asks =
    let of = of_part hub drawn jobs bytes out l w x.part x.tells x.came x.comes in (
      part_mark (serving_at l w) x.part out,
      record {
        serves = serves_alike hub drawn jobs out l w x.part _ of.0 of.1;
        seat = of.0.seat ∙ x.seat_is;
        over = refl;
        moved = refl;
        goes = tt {0};
        whole = all;
        fits = part_fits (serving_at l w) x.part (served bytes l w) out refl x.tells.out_is x.came x.comes;
      },
    )

-- ---- the call

made_so : (o : Outcome) (core : Phase) (hub : MemHub) (drawn : ℕ) (jobs : JobList) (bytes out text : List ℕ) (l : GrandLink) (w : Grand) (u : Serving)
    → text ≡ l.server.seen ++ bytes → u ≡ served bytes l w
    → CoreMakes o core (grounds (draw_at l w)) l.server.head text l.server.out (draws_after drawn) (Stands hub) (Some (map seen (jobs_in jobs))) out (serving_at l w) u
    → Makes o core hub drawn jobs bytes out l w
made_so o core hub drawn jobs bytes out text l w u is served_is x =
    subst (λ (v : Serving). CoreMakes o core (grounds (draw_at l w)) l.server.head (l.server.seen ++ bytes) l.server.out (draws_after drawn) (Stands hub) (Some (map seen (jobs_in jobs))) out (serving_at l w) v) served_is
    (subst (λ (t : List ℕ). CoreMakes o core (grounds (draw_at l w)) l.server.head t l.server.out (draws_after drawn) (Stands hub) (Some (map seen (jobs_in jobs))) out (serving_at l w) u) is x)

-- how the link stands before
abbrev pub Stood : Phase → MemHub → ℕ → JobList → GrandLink → Grand → Type 0
Stood core hub drawn jobs l w =
    CoreStands core (grounds (draw_at l w)) l.server.head l.server.seen l.server.out (draws_after drawn) (Stands hub) (Some (map seen (jobs_in jobs))) [] (serving_at l w)

pub stood : (core : Phase) (hub : MemHub) (drawn : ℕ) (jobs : JobList) (l : GrandLink) (w : Grand)
    → GoesAs core l.server → Shares hub drawn jobs w → Stood core hub drawn jobs l w
stood core hub drawn jobs l w goes_as shares =
    subst (λ (next : ℕ → List ℕ). CoreStands core (grounds (draw_at l w)) l.server.head l.server.seen l.server.out next (Stands hub) (Some (map seen (jobs_in jobs))) [] (serving_at l w)) (sym shares.draws)
    (core_stands core l.server (draws_after w.drawn) (Stands hub) (Some (map seen (jobs_in jobs))) (serving_at l w) goes_as
    (record { seat = refl; out = refl; drawn = refl; going = refl }) shares.hub_stands (ap (λ (js : List SeenJob). Some js) shares.jobs_are))

pub took : (o : Outcome) (old core : Phase) (hub hub' : MemHub) (drawn drawn' : ℕ) (jobs jobs' : JobList) (bytes out : List ℕ) (l : GrandLink) (w : Grand)
    → Stood old hub drawn jobs l w → asks_framing l.server.head.says ≡ false
    → CoreMakes o core (grounds (draw_at l w)) l.server.head (with_piece l.server.head l.server.seen bytes) l.server.out (draws_after drawn') (Stands hub') (Some (map seen (jobs_in jobs'))) out (serving_at l w)
    (piece_done (grounds (draw_at l w)) l.server.head l.server.seen (record { bytes = bytes; now = w.now }) (serving_at l w))
    → Took o core hub' drawn' jobs' bytes out l w
unfolding served
took o old core hub hub' drawn drawn' jobs jobs' bytes out l w before asks x =
    let all = piece_happens old (grounds (draw_at l w)) l.server.head l.server.seen l.server.out (draws_after drawn) (Stands hub) (Some (map seen (jobs_in jobs))) [] (record { bytes = bytes; now = w.now }) (serving_at l w) before in
    took_by o core hub' drawn' jobs' bytes out l w
    (made_so o core hub' drawn' jobs' bytes out (with_piece l.server.head l.server.seen bytes) l w _ (all_comes l.server.head l.server.seen bytes asks) refl x) all asks

pub ends_so : (answer : Option CoreEnd) → is_some answer ≡ is_end (outcome_of answer)
ends_so None = refl
ends_so (Some (ends.BadHead fault)) = refl
ends_so (Some (ends.Refused reason)) = refl
ends_so (Some (ends.TooLong n)) = refl
ends_so (Some (ends.BadIpc fault message)) = refl
ends_so (Some (ends.Stale current)) = refl
ends_so (Some ends.NoLink) = refl
ends_so (Some (ends.Ended cause)) = refl
ends_so (Some ends.IdsSpent) = refl
ends_so (Some ends.KeepFault) = refl
ends_so (Some ends.NoMemory) = refl

-- what the call promises of any link
abbrev pub Made : Outcome → Phase → Phase → MemHub → MemHub → ℕ → ℕ → JobList → JobList → List ℕ → List ℕ → ℕ → ShakeSettings → List ℕ → List ℕ → Type 0
Made o old core hub hub' drawn drawn' jobs jobs' bytes out now settings key before_out =
    (draw : ℕ → List ℕ) (head : Head Upgrade HeadFault) (text before : List ℕ) (s : Serving) → IsRequestOf (text ++ bytes) head → NotHeld old
    → CoreStands old (grounds_of settings (signature_text key) (is_signature key) draw) head text before (draws_after drawn) (Stands hub) (Some (map seen (jobs_in jobs))) before_out s
    → CoreMakes o core (grounds_of settings (signature_text key) (is_signature key) draw) head (with_piece head text bytes) before (draws_after drawn') (Stands hub') (Some (map seen (jobs_in jobs'))) out s
    (piece_done (grounds_of settings (signature_text key) (is_signature key) draw) head text (record { bytes = bytes; now = now }) s)

going_as : (is_over : Bool) (core : Phase) (end : ServerEnd) → is_over ≡ false → Unless is_over (GoesAs core end) → GoesAs core end
going_as true core end not goes_as = absurd (apart not)
  where
    apart : true ≡ false → ⊥
    apart e = cc
going_as false core end not goes_as = goes_as

takes_by : (o : Outcome) (link : ServedState) (core : Phase) (hub hub' : MemHub) (drawn drawn' : ℕ) (jobs jobs' : JobList) (bytes out : List ℕ) (now : ℕ)
    → Made o link.core core hub hub' drawn drawn' jobs jobs' bytes out now shake_settings secret [] → Takes link o bytes now core hub drawn jobs hub' drawn' jobs' out
takes_by o link core hub hub' drawn drawn' jobs jobs' bytes out now made = λ w l at shares is continues.
    let goes_as = going_as link.is_over link.core l.server (sym is.over ∙ continues.going) is.goes in
    let before = stood link.core hub drawn jobs l w goes_as shares in
    let free = core_free link.core (grounds (draw_at l w)) l.server.head l.server.seen l.server.out (draws_after drawn) (Stands hub) (Some (map seen (jobs_in jobs))) [] (serving_at l w) before continues.unframed in
    let comes = made (draw_at l w) l.server.head l.server.seen l.server.out (serving_at l w) continues.request free before in
    took o link.core core hub hub' drawn drawn' jobs jobs' bytes out l w before continues.unframed
    (subst (λ (n : ℕ). CoreMakes o core (grounds (draw_at l w)) l.server.head (with_piece l.server.head l.server.seen bytes) l.server.out (draws_after drawn') (Stands hub') (Some (map seen (jobs_in jobs'))) out (serving_at l w)
    (piece_done (grounds (draw_at l w)) l.server.head l.server.seen (record { bytes = bytes; now = n }) (serving_at l w))) (sym at) comes)

pub takes_so : (o : Outcome) (link : ServedState) (core : Phase) (hub hub' : MemHub) (drawn drawn' : ℕ) (jobs jobs' : JobList) (bytes out : List ℕ) (now : ℕ) (settings : ShakeSettings) (key before_out : List ℕ)
    → settings ≡ shake_settings → key ≡ secret → before_out ≡ []
    → Made o link.core core hub hub' drawn drawn' jobs jobs' bytes out now settings key before_out → Takes link o bytes now core hub drawn jobs hub' drawn' jobs' out
takes_so o link core hub hub' drawn drawn' jobs jobs' bytes out now settings key before_out set keyed empty made =
    takes_by o link core hub hub' drawn drawn' jobs jobs' bytes out now
    (subst (λ (x : ShakeSettings). Made o link.core core hub hub' drawn drawn' jobs jobs' bytes out now x secret []) set
    (subst (λ (k : List ℕ). Made o link.core core hub hub' drawn drawn' jobs jobs' bytes out now settings k []) keyed
    (subst (λ (t : List ℕ). Made o link.core core hub hub' drawn drawn' jobs jobs' bytes out now settings key t) empty made)))
