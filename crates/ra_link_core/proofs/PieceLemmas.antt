-- One piece of a link.
use Rattle.std.proofs.Common.{◌≡◌, ℕ, ◌+◌, ◌-◌, ◌<◌, ◌≤◌, Bool, true, false, Option, Some, None, List, [], ◌++◌, length, take, drop, inl, inr, refl, sym, ap, subst, ◌∙◌, append_assoc, arith, rules}
use Rattle.std.specs.Prelude.{⊤, nat_lt, IsSome}
use Rattle.std.proofs.lemmas.Bool.{ltb-true, ltb-false}
use Rattle.std.proofs.lemmas.List.{length-append, length-take-le, take-append-drop}
use Rattle.ra_base.specs.declared.handshake.Request.{Request}
use Rattle.ra_base.specs.declared.key.Seat.{Seat}
use Rattle.ra_items.specs.Heads.{Head}
use Rattle.ra_items.specs.Readers.{Reader}
use Rattle.ra_shake.specs.States.{ServerState}
use Rattle.ra_upgrade.specs.declared.request_head.HeadFault.{HeadFault}
use Rattle.ra_upgrade.specs.declared.request_head.Upgrade.{Upgrade}
use Rattle.ra_opening.specs.declared.ends.OpeningEnd.{OpeningEnd}
use Rattle.ra_opening.specs.declared.ends.OpeningEnd.TheVariants as opening_ends
use Rattle.ra_opening.specs.declared.phase.Phase.{Phase as OpeningPhase}
use Rattle.ra_opening.specs.declared.phase.Phase.TheVariants as opening_phases
use Rattle.ra_opening.specs.Openings.{Grounds, Opened, Stage, opened, new_opened, items_done}
use Rattle.ra_opening.specs.Openings.Stage.{Heading, Shaking, Asked, Over}
use Rattle.ra_opening.specs.Stands as stands_of
use Rattle.ra_opening.specs.Stands.{OpeningState, Stands, StandsIn, IsWaiting, HasNoHead, NeedsFraming, IsInShake}
use Rattle.ra_opening.specs.Comes.{IsAsked, IsOver, IsPart, RanShort, Ends, AsksFraming, IsNoMemory}
use Rattle.ra_opening.proofs.RunLemmas.{opened_is}
use Rattle.ra_opening.proofs.PieceLemmas.{held_framed}
use Rattle.ra_opening.proofs.LawLemmas.{written_stays}
use Rattle.ra_hub.specs.Hubs.{Hub}
use Rattle.ra_hub.specs.Jobs.{SeenJob}
use Rattle.ra_link_core.specs.LinkRuns as runs
use Rattle.ra_link_core.specs.LinkRuns.{Serving, End, Piece, asked, opening_by, opening_came, piece_by, piece_done, with_piece, served, turns_for}
use Rattle.ra_link_core.specs.Makes.{Outcome, goes, over, unkept, short, Happens, Grows, Writes, IsGoing, IsEnded, IsShort, Makes, outcome_of, opening_end, IsSeated, IsSeatedIn}
use Rattle.ra_link_core.specs.Cores.{IsOpening, CoreStands, CoreMakes, NotHeld, OnHeld, IsBehindHead, counted_in, base_of, phase_of, IsDone}
use Rattle.ra_link_core.specs.declared.ends.CoreEnd.{CoreEnd}
use Rattle.ra_link_core.specs.declared.ends.CoreEnd.TheVariants as ends
use Rattle.ra_link_core.specs.declared.phase.Phase.{Phase}
use Rattle.ra_link_core.specs.declared.phase.Phase.TheVariants as phases
use Rattle.ra_link_core.specs.declared.turns.Step.{Step}
use Rattle.ra_link_core.proofs.GrowLemmas.{happens_same, happens_more, grows_by, grows_served, grows_trans, writes_same, writes_refl, writes_asked}
use Rattle.ra_link_core.proofs.CutLemmas.{CutOrNot, IsCut, front_taken, with_longer, open_items, behind_counts, still_judged}
use Rattle.ra_link_core.proofs.DrawLemmas.{same_draws}

-- ---- the opening behind a text

abbrev pub IsWaitingStage : Stage → Type 0
IsWaitingStage Heading = ⊤
IsWaitingStage (Shaking shake) = ⊤
IsWaitingStage (Asked request place) = ⊥
IsWaitingStage (Over end) = ⊥

record IsSoFar (g : Grounds) (head : Head Upgrade HeadFault) (text before : List ℕ) (next : ℕ → List ℕ) (out : List ℕ) : Type 0 where
  pub waits : IsWaitingStage (opened g head text).stage
  pub tells : stands_of.Tells g before next out (opened g head text)

waiting_so : (g : Grounds) (head : Head Upgrade HeadFault) (text before : List ℕ) (next : ℕ → List ℕ) (reader : Reader) (shake : ServerState) (out : List ℕ)
    → IsWaiting g head text before next reader shake out → IsSoFar g head text before next out
waiting_so g head text before next reader shake out x =
    let e : opened g head text ≡ items_done g x.shaking.done new_opened = opened_is g head text x.shaking.done x.all in
    record {
      waits = subst (λ (st : Stage). IsWaitingStage st) (sym (ap (λ (o : Opened). o.stage) e ∙ x.shaking.stage)) tt;
      tells = subst (λ (o : Opened). stands_of.Tells g before next out o) (sym e) x.shaking.tells;
    }

came_so : (phase : OpeningPhase) (g : Grounds) (head : Head Upgrade HeadFault) (raw before : List ℕ) (next : ℕ → List ℕ) (reader : Reader) (out : List ℕ)
    → StandsIn phase g head raw before next reader out → IsSoFar g head (counted_in phase reader.unread raw) before next out
came_so opening_phases.Heading g head raw before next reader out x =
    let e : opened g head raw ≡ new_opened = opened_is g head raw [] x.none in
    record {
      waits = subst (λ (st : Stage). IsWaitingStage st) (sym (ap (λ (o : Opened). o.stage) e)) tt;
      tells = subst (λ (o : Opened). stands_of.Tells g before next out o) (sym e) x.waits.tells;
    }
came_so (opening_phases.Held shake) g head raw before next reader out x =
    waiting_so g head (take (length raw - length reader.unread) raw) before next (record { behind_head = true; unread = [] }) shake out (held_framed g head raw before next reader shake out x)
came_so (opening_phases.Shaking shake) g head raw before next reader out x = waiting_so g head raw before next reader shake out x
came_so opening_phases.Over g head raw before next reader out x = absurd x

unheld_text : (phase : OpeningPhase) (unread raw : List ℕ) → (NeedsFraming phase → ⊥) → counted_in phase unread raw ≡ raw
unheld_text opening_phases.Heading unread raw unheld = refl
unheld_text (opening_phases.Held shake) unread raw unheld = absurd (unheld tt)
unheld_text (opening_phases.Shaking shake) unread raw unheld = refl
unheld_text opening_phases.Over unread raw unheld = refl

-- an opening that does not wait to be framed has read the text that counts
pub unheld_stands : (opening : OpeningState) (g : Grounds) (head : Head Upgrade HeadFault) (text before : List ℕ) (next : ℕ → List ℕ) (stands : Hub → Type 0) (jobs : Option (List SeenJob)) (out : List ℕ) (s : Serving)
    → IsOpening opening g head text before next stands jobs out s → (NeedsFraming opening.phase → ⊥) → Stands g head text before next opening out
unheld_stands opening g head text before next stands jobs out s x unheld =
    subst (λ (t : List ℕ). Stands g head t before next opening out) (sym (x.counts ∙ unheld_text opening.phase opening.reader.unread x.raw unheld)) x.opens

-- ---- a piece in the run

pub piece_opening : (g : Grounds) (head : Head Upgrade HeadFault) (text : List ℕ) (piece : Piece) (s : Serving) → s.seat ≡ None → s.end ≡ None
    → piece_done g head text piece s ≡ opening_came (opened g head (with_piece head text piece.bytes)) (with_piece head text piece.bytes) piece.now s
unfolding piece_done
piece_opening g head text piece s unseated going =
    ap (λ (e : Option End). piece_by e s.seat g (with_piece head text piece.bytes) head piece s) going
    ∙ ap (λ (o : Option Seat). piece_by None o g (with_piece head text piece.bytes) head piece s) unseated

pub piece_seated : (g : Grounds) (head : Head Upgrade HeadFault) (text : List ℕ) (piece : Piece) (seat : Seat) (s : Serving) → s.seat ≡ Some seat → s.end ≡ None
    → piece_done g head text piece s ≡ served (turns_for piece.bytes) seat piece.bytes piece.now s
unfolding piece_done
piece_seated g head text piece seat s seated going =
    ap (λ (e : Option End). piece_by e s.seat g (with_piece head text piece.bytes) head piece s) going
    ∙ ap (λ (o : Option Seat). piece_by None o g (with_piece head text piece.bytes) head piece s) seated

opening_waits : (stage : Stage) (text : List ℕ) (now : ℕ) (v : Serving) → IsWaitingStage stage → opening_by stage text now v ≡ v
opening_waits Heading text now v waits = refl
opening_waits (Shaking shake) text now v waits = refl
opening_waits (Asked request place) text now v waits = absurd waits
opening_waits (Over end) text now v waits = absurd waits

writes_opening : (stage : Stage) (text : List ℕ) (now : ℕ) (v : Serving) → Writes v (opening_by stage text now v)
writes_opening Heading text now v = writes_refl v
writes_opening (Shaking shake) text now v = writes_refl v
writes_opening (Asked request place) text now v = writes_asked request place (drop place text) now v
writes_opening (Over end) text now v = writes_same v _ _

grows_opening : (stage : Stage) (text : List ℕ) (now : ℕ) (v : Serving) → Grows v (opening_by stage text now v)
grows_opening stage text now v = grows_by v (opening_by stage text now v) (writes_opening stage text now v)

pub writes_came : (o : Opened) (text : List ℕ) (now : ℕ) (s : Serving) → Writes (record s { out = o.out; drawn = o.drawn }) (opening_came o text now s)
writes_came o text now s = writes_opening o.stage text now (record s { out = o.out; drawn = o.drawn })

-- the link with what its opening wrote
abbrev pub opened_as : Opened → Serving → Serving
opened_as o s = record s { out = o.out; drawn = o.drawn }

-- ---- it goes on

pub piece_waits : (opening opening' : OpeningState) (g : Grounds) (head : Head Upgrade HeadFault) (text piece before : List ℕ) (next next' : ℕ → List ℕ) (stands : Hub → Type 0) (jobs : Option (List SeenJob)) (out out' : List ℕ) (now : ℕ) (s : Serving)
    → IsOpening opening g head text before next stands jobs out s
    → with_piece head text piece ≡ counted_in opening'.phase opening'.reader.unread (text ++ piece)
    → Stands g head (text ++ piece) before next' opening' out'
    → IsOpening opening' g head (with_piece head text piece) before next' stands jobs out' (piece_done g head text (record { bytes = piece; now = now }) s)
piece_waits opening opening' g head text piece before next next' stands jobs out out' now s x counts opens =
    let so : IsSoFar g head (with_piece head text piece) before next' out' =
    subst (λ (t : List ℕ). IsSoFar g head t before next' out') (sym counts) (came_so opening'.phase g head (text ++ piece) before next' opening'.reader out' opens) in
    let o = opened g head (with_piece head text piece) in
    let v = opened_as o s in
    let is : piece_done g head text (record { bytes = piece; now = now }) s ≡ v =
    piece_opening g head text (record { bytes = piece; now = now }) s x.going.seat_is x.going.end_is ∙ opening_waits o.stage (with_piece head text piece) now v so.waits in
    subst (λ (u : Serving). IsOpening opening' g head (with_piece head text piece) before next' stands jobs out' u) (sym is)
    (record {
      going = record {
        tells = record { hub_stands = x.going.tells.hub_stands; jobs_are = x.going.tells.jobs_are; out_is = so.tells.written; draws_are = so.tells.draws };
        seat_is = x.going.seat_is;
        end_is = x.going.end_is;
      };
      raw = text ++ piece;
      opens = opens;
      counts = counts;
      written = refl;
      drawn = refl;
    })

-- ---- the client asks

pub asks_going : (opening : OpeningState) (g : Grounds) (head : Head Upgrade HeadFault) (text raw before : List ℕ) (next next' : ℕ → List ℕ) (stands : Hub → Type 0) (jobs : Option (List SeenJob)) (out out' : List ℕ) (request : Request) (rest : List ℕ) (s : Serving)
    → IsOpening opening g head text before next stands jobs out s → IsAsked g head raw before next' request rest out'
    → IsGoing None stands jobs (base_of g before next') out' (opened_as (opened g head raw) s)
asks_going opening g head text raw before next next' stands jobs out out' request rest s x asked_is = record {
  tells = record { hub_stands = x.going.tells.hub_stands; jobs_are = x.going.tells.jobs_are; out_is = asked_is.tells.written; draws_are = asked_is.tells.draws };
  seat_is = x.going.seat_is;
  end_is = x.going.end_is;
}

pub asks_happens : (o : Opened) (s : Serving) → s.drawn ≤ o.drawn → Happens s (opened_as o s)
asks_happens o s later = happens_same s o.out o.drawn s.welcome s.end later

-- an opening takes no draw back
pub drawn_later : (opening : OpeningState) (g : Grounds) (head : Head Upgrade HeadFault) (text more before : List ℕ) (next : ℕ → List ℕ) (stands : Hub → Type 0) (jobs : Option (List SeenJob)) (out : List ℕ) (s : Serving)
    → IsOpening opening g head text before next stands jobs out s → s.drawn ≤ (opened g head (text ++ more)).drawn
drawn_later opening g head text more before next stands jobs out s x = omega (arith, x.drawn, (written_stays g head text more).drawn)

pub asks_serves : (opening : OpeningState) (g : Grounds) (head : Head Upgrade HeadFault) (text piece before : List ℕ) (next next' : ℕ → List ℕ) (stands : Hub → Type 0) (jobs : Option (List SeenJob)) (out out' : List ℕ) (request : Request) (rest : List ℕ) (now : ℕ) (s : Serving)
    → IsOpening opening g head text before next stands jobs out s → with_piece head text piece ≡ text ++ piece
    → (a : IsAsked g head (text ++ piece) before next' request rest out')
    → asked request a.place rest now (opened_as (opened g head (text ++ piece)) s) ≡ piece_done g head text (record { bytes = piece; now = now }) s
asks_serves opening g head text piece before next next' stands jobs out out' request rest now s x counts a =
    let raw = text ++ piece in
    let v = opened_as (opened g head raw) s in
    ap (λ (l : List ℕ). asked request a.place l now v) (sym a.behind)
    ∙ ap (λ (st : Stage). opening_by st raw now v) (sym a.stage)
    ∙ ap (λ (t : List ℕ). opening_came (opened g head t) t now s) (sym counts)
    ∙ sym (piece_opening g head text (record { bytes = piece; now = now }) s x.going.seat_is x.going.end_is)

-- ---- where it stands

core_ended : (o : Outcome) (seat : Seat) (g : Grounds) (head : Head Upgrade HeadFault) (text before : List ℕ) (next : ℕ → List ℕ) (stands : Hub → Type 0) (jobs : Option (List SeenJob)) (out : List ℕ) (s u : Serving)
    → (o ≡ goes → ⊥) → Makes o (Some seat) stands jobs (base_of g before next) out s u → CoreMakes o (phases.Ended seat) g head text before next stands jobs out s u
core_ended goes seat g head text before next stands jobs out s u ends makes = absurd (ends refl)
core_ended (over e) seat g head text before next stands jobs out s u ends makes = makes
core_ended unkept seat g head text before next stands jobs out s u ends makes = makes
core_ended short seat g head text before next stands jobs out s u ends makes = makes

core_over : (o : Outcome) (g : Grounds) (head : Head Upgrade HeadFault) (text before : List ℕ) (next : ℕ → List ℕ) (stands : Hub → Type 0) (jobs : Option (List SeenJob)) (out : List ℕ) (s u : Serving)
    → (o ≡ goes → ⊥) → Makes o None stands jobs (base_of g before next) out s u → CoreMakes o phases.Over g head text before next stands jobs out s u
core_over goes g head text before next stands jobs out s u ends makes = absurd (ends refl)
core_over (over e) g head text before next stands jobs out s u ends makes = makes
core_over unkept g head text before next stands jobs out s u ends makes = makes
core_over short g head text before next stands jobs out s u ends makes = makes

never_goes : (e : CoreEnd) → outcome_of (Some e) ≡ goes → ⊥
never_goes (ends.BadHead fault) is = absurd cc
never_goes (ends.Refused reason) is = absurd cc
never_goes (ends.TooLong n) is = absurd cc
never_goes (ends.BadIpc fault message) is = absurd cc
never_goes (ends.Stale current) is = absurd cc
never_goes ends.NoLink is = absurd cc
never_goes (ends.Ended cause) is = absurd cc
never_goes ends.IdsSpent is = absurd cc
never_goes ends.KeepFault is = absurd cc
never_goes ends.NoMemory is = absurd cc

core_by : (seat : Option Seat) (end : Option CoreEnd) (g : Grounds) (head : Head Upgrade HeadFault) (text before : List ℕ) (next : ℕ → List ℕ) (stands : Hub → Type 0) (jobs : Option (List SeenJob)) (out : List ℕ) (s u : Serving)
    → IsSeatedIn seat end → Makes (outcome_of end) seat stands jobs (base_of g before next) out s u
    → CoreMakes (outcome_of end) (phase_of seat end) g head text before next stands jobs out s u
core_by (Some seat) None g head text before next stands jobs out s u seated makes = makes
core_by (Some seat) (Some e) g head text before next stands jobs out s u seated makes = core_ended (outcome_of (Some e)) seat g head text before next stands jobs out s u (never_goes e) makes
core_by None None g head text before next stands jobs out s u seated makes = absurd seated
core_by None (Some e) g head text before next stands jobs out s u seated makes = core_over (outcome_of (Some e)) g head text before next stands jobs out s u (never_goes e) makes

pub core_of_step : (step : Step) (g : Grounds) (head : Head Upgrade HeadFault) (text before : List ℕ) (next : ℕ → List ℕ) (stands : Hub → Type 0) (jobs : Option (List SeenJob)) (out : List ℕ) (s u : Serving)
    → IsSeated step → Makes (outcome_of step.end) step.seat stands jobs (base_of g before next) out s u
    → CoreMakes (outcome_of step.end) (phase_of step.seat step.end) g head text before next stands jobs out s u
core_of_step step g head text before next stands jobs out s u seated makes = core_by step.seat step.end g head text before next stands jobs out s u seated makes

-- ---- the opening is over

over_is : (e : OpeningEnd) (opening : OpeningState) (g : Grounds) (head : Head Upgrade HeadFault) (text piece before : List ℕ) (next next' : ℕ → List ℕ) (stands : Hub → Type 0) (jobs : Option (List SeenJob)) (out out' : List ℕ) (now : ℕ) (s : Serving)
    → IsOpening opening g head text before next stands jobs out s → with_piece head text piece ≡ text ++ piece → IsOver g head (text ++ piece) before next' e out'
    → record (opened_as (opened g head (text ++ piece)) s) { end = runs.opening_end e } ≡ piece_done g head text (record { bytes = piece; now = now }) s
over_is e opening g head text piece before next next' stands jobs out out' now s x counts a =
    let raw = text ++ piece in
    let v = opened_as (opened g head raw) s in
    ap (λ (st : Stage). opening_by st raw now v) (sym a.stage)
    ∙ ap (λ (t : List ℕ). opening_came (opened g head t) t now s) (sym counts)
    ∙ sym (piece_opening g head text (record { bytes = piece; now = now }) s x.going.seat_is x.going.end_is)

over_ended : (end : End) (e : OpeningEnd) (opening : OpeningState) (g : Grounds) (head : Head Upgrade HeadFault) (text piece before : List ℕ) (next next' : ℕ → List ℕ) (stands : Hub → Type 0) (jobs : Option (List SeenJob)) (out out' : List ℕ) (now : ℕ) (s : Serving)
    → runs.opening_end e ≡ Some end → (IsNoMemory e → ⊥) → IsOpening opening g head text before next stands jobs out s → CutOrNot opening head text piece
    → (HasNoHead opening → AsksFraming (opening.reader.unread ++ piece) → IsNoMemory e × (out' ≡ out))
    → IsOver g head (text ++ piece) before next' e out'
    → IsEnded end None stands jobs (base_of g before next') out' (piece_done g head text (record { bytes = piece; now = now }) s)
over_ended end e opening g head text piece before next next' stands jobs out out' now s is exact x (inl counts) framing a =
    subst (λ (u : Serving). IsEnded end None stands jobs (base_of g before next') out' u) (over_is e opening g head text piece before next next' stands jobs out out' now s x counts a)
    (record {
      tells = record { hub_stands = x.going.tells.hub_stands; jobs_are = x.going.tells.jobs_are; out_is = a.tells.written; draws_are = a.tells.draws };
      seat_is = x.going.seat_is;
      end_is = is;
    })
over_ended end e opening g head text piece before next next' stands jobs out out' now s is exact x (inr cut) framing a =
    absurd (exact (framing cut.no_head cut.asks).0)

-- memory ran out, and no draw was taken back
record RanFrom (from : ℕ) (g : Grounds) (head : Head Upgrade HeadFault) (text before : List ℕ) (next : ℕ → List ℕ) (out : List ℕ) : Type 0 where
  pub part : Opened
  pub is_part : IsPart part (opened g head text)
  pub tells : stands_of.Tells g before next out part
  pub later : from ≤ part.drawn

-- before the head none was made, and behind it none is made
ran_from : (phase : OpeningPhase) (reader : Reader) (g : Grounds) (head : Head Upgrade HeadFault) (text piece before : List ℕ) (next next' : ℕ → List ℕ) (out out' : List ℕ) (from : ℕ)
    → StandsIn phase g head text before next reader out → (NeedsFraming phase → ⊥) → from ≡ (opened g head text).drawn → ((n : ℕ) → next n ≡ g.draw (from + n))
    → ((phase ≡ opening_phases.Heading → ⊥) → next' ≡ next) → RanShort g head (text ++ piece) before next' out'
    → RanFrom from g head (text ++ piece) before next' out'
ran_from opening_phases.Heading reader g head text piece before next next' out out' from x unheld drawn draws same r =
    let none : (opened g head text).drawn ≡ 0 = ap (λ (o : Opened). o.drawn) (opened_is g head text [] x.none) in
    record { part = r.part; is_part = r.is_part; tells = r.tells; later = omega (arith, drawn, none) }
ran_from (opening_phases.Held shake) reader g head text piece before next next' out out' from x unheld drawn draws same r = absurd (unheld tt)
ran_from (opening_phases.Shaking shake) reader g head text piece before next next' out out' from x unheld drawn draws same r =
    let grown : IsPart (opened g head text) (opened g head (text ++ piece)) = written_stays g head text piece in
    let kept : next' ≡ next = same (λ (e : opening_phases.Shaking shake ≡ opening_phases.Heading). absurd cc) in
    record {
      part = record { stage = r.part.stage; out = r.part.out; drawn = from };
      is_part = record { more = r.is_part.more; out = r.is_part.out; drawn = omega (arith, grown.drawn, drawn) };
      tells = record { written = r.tells.written; draws = λ n. ap (λ (f : ℕ → List ℕ). f n) kept ∙ draws n };
      later = omega arith;
    }
ran_from opening_phases.Over reader g head text piece before next next' out out' from x unheld drawn draws same r = absurd x

opening_ran : (opening : OpeningState) (g : Grounds) (head : Head Upgrade HeadFault) (text piece before : List ℕ) (next next' : ℕ → List ℕ) (stands : Hub → Type 0) (jobs : Option (List SeenJob)) (out out' : List ℕ) (s : Serving)
    → IsOpening opening g head text before next stands jobs out s → (NeedsFraming opening.phase → ⊥) → ((HasNoHead opening → ⊥) → next' ≡ next)
    → RanShort g head (text ++ piece) before next' out' → RanFrom s.drawn g head (text ++ piece) before next' out'
opening_ran opening g head text piece before next next' stands jobs out out' s x unheld same r =
    ran_from opening.phase opening.reader g head text piece before next next' out out' s.drawn
    (unheld_stands opening g head text before next stands jobs out s x unheld) unheld x.drawn x.going.tells.draws_are same r

short_uncut : (opening : OpeningState) (g : Grounds) (head : Head Upgrade HeadFault) (text piece before : List ℕ) (next next' : ℕ → List ℕ) (stands : Hub → Type 0) (jobs : Option (List SeenJob)) (out out' : List ℕ) (now : ℕ) (s : Serving)
    → IsOpening opening g head text before next stands jobs out s → with_piece head text piece ≡ text ++ piece → RanFrom s.drawn g head (text ++ piece) before next' out'
    → IsShort None stands jobs (base_of g before next') out' s (piece_done g head text (record { bytes = piece; now = now }) s)
short_uncut opening g head text piece before next next' stands jobs out out' now s x counts r =
    let raw = text ++ piece in
    let o = opened g head raw in
    let p = opened_as r.part s in
    let v = opened_as o s in
    let u = opening_by o.stage raw now v in
    let is : u ≡ piece_done g head text (record { bytes = piece; now = now }) s =
    ap (λ (t : List ℕ). opening_came (opened g head t) t now s) (sym counts)
    ∙ sym (piece_opening g head text (record { bytes = piece; now = now }) s x.going.seat_is x.going.end_is) in
    let more : Grows p v = record { bytes = r.is_part.more; out = r.is_part.out; happens = happens_same p o.out o.drawn s.welcome s.end r.is_part.drawn; enough = omega arith } in
    subst (λ (w : Serving). IsShort None stands jobs (base_of g before next') out' s w) is
    (record {
      part = p;
      tells = record { hub_stands = x.going.tells.hub_stands; jobs_are = x.going.tells.jobs_are; out_is = r.tells.written; draws_are = r.tells.draws };
      seat_is = x.going.seat_is;
      came = asks_happens r.part s r.later;
      comes = grows_trans p v u more (grows_opening o.stage raw now v);
    })

-- the front up to the end of the head makes all the draws
front_draws : (g : Grounds) (head : Head Upgrade HeadFault) (text piece : List ℕ) → nat_lt (length text) head.size ≡ true → nat_lt (length (text ++ piece)) head.size ≡ false
    → (opened g head (text ++ piece)).drawn ≡ (opened g head (text ++ take (head.size - length text) piece)).drawn
front_draws g head text piece early judged =
    let n = head.size - length text in
    let less : length text < head.size = ltb-true (length text) head.size early in
    let within : head.size ≤ length (text ++ piece) = ltb-false (length (text ++ piece)) head.size judged in
    let front = text ++ take n piece in
    let parts : text ++ piece ≡ front ++ drop n piece = ap (λ (l : List ℕ). text ++ l) (sym (take-append-drop n piece)) ∙ sym (append_assoc text (take n piece) (drop n piece)) in
    let room : n ≤ length piece = omega (arith, less, within, length-append text piece) in
    let size : length front ≡ head.size = omega (arith, less, length-append text (take n piece), length-take-le n piece room) in
    let whole : nat_lt (length front) head.size ≡ false = ap (λ (k : ℕ). nat_lt k head.size) size ∙ not_below head.size in
    ap (λ (t : List ℕ). (opened g head t).drawn) parts ∙ same_draws g head front (drop n piece) whole
  where
    not_below : (n : ℕ) → nat_lt n n ≡ false
    not_below n = search rules

short_cut : (opening : OpeningState) (g : Grounds) (head : Head Upgrade HeadFault) (text piece before : List ℕ) (next next' : ℕ → List ℕ) (stands : Hub → Type 0) (jobs : Option (List SeenJob)) (out out' : List ℕ) (now : ℕ) (s : Serving)
    → IsOpening opening g head text before next stands jobs out s → IsCut opening head text piece → RanFrom s.drawn g head (text ++ piece) before next' out' → out' ≡ out
    → IsShort None stands jobs (base_of g before next') out' s (piece_done g head text (record { bytes = piece; now = now }) s)
short_cut opening g head text piece before next next' stands jobs out out' now s x cut r nothing =
    let counted = text ++ take (head.size - length text) piece in
    let counts : with_piece head text piece ≡ counted = cut.counts ∙ front_taken head.size text piece (ltb-true (length text) head.size cut.early) in
    let o = opened g head counted in
    let p : Serving = record s { drawn = r.part.drawn } in
    let v = opened_as o s in
    let u = opening_by o.stage counted now v in
    let is : u ≡ piece_done g head text (record { bytes = piece; now = now }) s =
    ap (λ (t : List ℕ). opening_came (opened g head t) t now s) (sym counts)
    ∙ sym (piece_opening g head text (record { bytes = piece; now = now }) s x.going.seat_is x.going.end_is) in
    let later : r.part.drawn ≤ o.drawn = omega (arith, r.is_part.drawn, front_draws g head text piece cut.early cut.judged) in
    let grown : IsPart (opened g head text) o = written_stays g head text (take (head.size - length text) piece) in
    let more : Grows p v = record { bytes = grown.more; out = grown.out ∙ ap (λ (l : List ℕ). l ++ grown.more) (sym x.written); happens = happens_same p o.out o.drawn s.welcome s.end later; enough = omega arith } in
    subst (λ (w : Serving). IsShort None stands jobs (base_of g before next') out' s w) is
    (record {
      part = p;
      tells = record {
        hub_stands = x.going.tells.hub_stands;
        jobs_are = x.going.tells.jobs_are;
        out_is = x.going.tells.out_is ∙ ap (λ (l : List ℕ). before ++ l) (sym nothing);
        draws_are = r.tells.draws;
      };
      seat_is = x.going.seat_is;
      came = happens_same s s.out r.part.drawn s.welcome s.end r.later;
      comes = grows_trans p v u more (grows_opening o.stage counted now v);
    })

short_opening : (opening : OpeningState) (g : Grounds) (head : Head Upgrade HeadFault) (text piece before : List ℕ) (next next' : ℕ → List ℕ) (stands : Hub → Type 0) (jobs : Option (List SeenJob)) (out out' : List ℕ) (now : ℕ) (s : Serving)
    → IsOpening opening g head text before next stands jobs out s → CutOrNot opening head text piece
    → (HasNoHead opening → AsksFraming (opening.reader.unread ++ piece) → out' ≡ out)
    → RanFrom s.drawn g head (text ++ piece) before next' out'
    → IsShort None stands jobs (base_of g before next') out' s (piece_done g head text (record { bytes = piece; now = now }) s)
short_opening opening g head text piece before next next' stands jobs out out' now s x (inl counts) framing r =
    short_uncut opening g head text piece before next next' stands jobs out out' now s x counts r
short_opening opening g head text piece before next next' stands jobs out out' now s x (inr cut) framing r =
    short_cut opening g head text piece before next next' stands jobs out out' now s x cut r (framing cut.no_head cut.asks)

pub opening_ends_so : (e : OpeningEnd) (opening : OpeningState) (g : Grounds) (head : Head Upgrade HeadFault) (text piece before : List ℕ) (next next' : ℕ → List ℕ) (stands : Hub → Type 0) (jobs : Option (List SeenJob)) (out out' : List ℕ) (now : ℕ) (s : Serving)
    → IsOpening opening g head text before next stands jobs out s → (NeedsFraming opening.phase → ⊥) → CutOrNot opening head text piece
    → (HasNoHead opening → AsksFraming (opening.reader.unread ++ piece) → IsNoMemory e × (out' ≡ out)) → ((HasNoHead opening → ⊥) → next' ≡ next)
    → Ends e g head (text ++ piece) before next' out'
    → CoreMakes (outcome_of (Some (opening_end e))) phases.Over g head (with_piece head text piece) before next' stands jobs out' s (piece_done g head text (record { bytes = piece; now = now }) s)
opening_ends_so opening_ends.NoMemory opening g head text piece before next next' stands jobs out out' now s x unheld cut framing same ends =
    short_opening opening g head text piece before next next' stands jobs out out' now s x cut (λ none asks. (framing none asks).1)
    (opening_ran opening g head text piece before next next' stands jobs out out' s x unheld same ends)
opening_ends_so (opening_ends.BadHead fault) opening g head text piece before next next' stands jobs out out' now s x unheld cut framing same ends =
    over_ended _ (opening_ends.BadHead fault) opening g head text piece before next next' stands jobs out out' now s refl (λ no. no) x cut framing ends
opening_ends_so (opening_ends.Refused reason) opening g head text piece before next next' stands jobs out out' now s x unheld cut framing same ends =
    over_ended _ (opening_ends.Refused reason) opening g head text piece before next next' stands jobs out out' now s refl (λ no. no) x cut framing ends
opening_ends_so (opening_ends.TooLong n) opening g head text piece before next next' stands jobs out out' now s x unheld cut framing same ends =
    over_ended _ (opening_ends.TooLong n) opening g head text piece before next next' stands jobs out out' now s refl (λ no. no) x cut framing ends
opening_ends_so opening_ends.Left opening g head text piece before next next' stands jobs out out' now s x unheld cut framing same ends =
    over_ended _ opening_ends.Left opening g head text piece before next next' stands jobs out out' now s refl (λ no. no) x cut framing ends

-- ---- what a piece makes happen

opening_happens : (opening : OpeningState) (g : Grounds) (head : Head Upgrade HeadFault) (text before : List ℕ) (next : ℕ → List ℕ) (stands : Hub → Type 0) (jobs : Option (List SeenJob)) (out : List ℕ) (piece : Piece) (s : Serving)
    → IsOpening opening g head text before next stands jobs out s → Happens s (piece_done g head text piece s)
opening_happens opening g head text before next stands jobs out piece s x =
    let whole = with_piece head text piece.bytes in
    let longer = with_longer head text piece.bytes in
    let o = opened g head whole in
    let v = opened_as o s in
    let later : s.drawn ≤ o.drawn =
    subst (λ (t : List ℕ). s.drawn ≤ (opened g head t).drawn) (sym longer.parts) (drawn_later opening g head text longer.more before next stands jobs out s x) in
    subst (λ (w : Serving). Happens s w) (sym (piece_opening g head text piece s x.going.seat_is x.going.end_is))
    (happens_more s v (opening_by o.stage whole piece.now v) (asks_happens o s later) (grows_opening o.stage whole piece.now v))

pub piece_happens : (phase : Phase) (g : Grounds) (head : Head Upgrade HeadFault) (text before : List ℕ) (next : ℕ → List ℕ) (stands : Hub → Type 0) (jobs : Option (List SeenJob)) (out : List ℕ) (piece : Piece) (s : Serving)
    → CoreStands phase g head text before next stands jobs out s → Happens s (piece_done g head text piece s)
piece_happens (phases.Opening opening) g head text before next stands jobs out piece s x = opening_happens opening g head text before next stands jobs out piece s x
piece_happens (phases.Seated seat) g head text before next stands jobs out piece s x =
    subst (λ (w : Serving). Happens s w) (sym (piece_seated g head text piece seat s x.seat_is x.end_is)) (grows_served (turns_for piece.bytes) seat piece.bytes piece.now s).happens
piece_happens (phases.Ended seat) g head text before next stands jobs out piece s x = absurd x
piece_happens phases.Over g head text before next stands jobs out piece s x = absurd x

-- ---- a link that has a seat is behind its head

seated_judged : (b : Bool) (g : Grounds) (head : Head Upgrade HeadFault) (text : List ℕ) (now : ℕ) (seat : Seat) (s : Serving) → nat_lt (length text) head.size ≡ b
    → (opening_came (opened g head text) text now s).seat ≡ Some seat → s.seat ≡ None → b ≡ false
seated_judged false g head text now seat s is seated none = refl
seated_judged true g head text now seat s is seated none =
    let new : opened g head text ≡ new_opened = opened_is g head text [] (open_items head text is) in
    let same : (opening_came (opened g head text) text now s).seat ≡ s.seat = ap (λ (o : Opened). (opening_came o text now s).seat) new in
    absurd (apart (sym seated ∙ same ∙ none))
  where
    apart : Some seat ≡ None → ⊥
    apart e = cc

seat_judged : (old : Phase) (g : Grounds) (head : Head Upgrade HeadFault) (text before : List ℕ) (next : ℕ → List ℕ) (stands : Hub → Type 0) (jobs : Option (List SeenJob)) (out : List ℕ) (piece : Piece) (seat : Seat) (s : Serving)
    → CoreStands old g head text before next stands jobs out s → IsBehindHead old head text → (piece_done g head text piece s).seat ≡ Some seat
    → nat_lt (length (with_piece head text piece.bytes)) head.size ≡ false
seat_judged (phases.Opening opening) g head text before next stands jobs out piece seat s x behind seated =
    let whole = with_piece head text piece.bytes in
    seated_judged (nat_lt (length whole) head.size) g head whole piece.now seat s refl
    (sym (ap (λ (u : Serving). u.seat) (piece_opening g head text piece s x.going.seat_is x.going.end_is)) ∙ seated) x.going.seat_is
seat_judged (phases.Seated own) g head text before next stands jobs out piece seat s x behind seated =
    ap (λ (t : List ℕ). nat_lt (length t) head.size) (behind_counts head text piece.bytes behind) ∙ still_judged head text piece.bytes behind
seat_judged (phases.Ended own) g head text before next stands jobs out piece seat s x behind seated = absurd x
seat_judged phases.Over g head text before next stands jobs out piece seat s x behind seated = absurd x

pub behind_more : (old new : Phase) (g : Grounds) (head : Head Upgrade HeadFault) (text before before' : List ℕ) (next next' : ℕ → List ℕ) (stands stands' : Hub → Type 0) (jobs jobs' : Option (List SeenJob)) (out out' : List ℕ) (piece : Piece) (s : Serving)
    → CoreStands old g head text before next stands jobs out s → IsBehindHead old head text
    → CoreStands new g head (with_piece head text piece.bytes) before' next' stands' jobs' out' (piece_done g head text piece s)
    → IsBehindHead new head (with_piece head text piece.bytes)
behind_more old (phases.Opening opening) g head text before before' next next' stands stands' jobs jobs' out out' piece s x behind y = tt
behind_more old (phases.Seated seat) g head text before before' next next' stands stands' jobs jobs' out out' piece s x behind y =
    seat_judged old g head text before next stands jobs out piece seat s x behind y.seat_is
behind_more old (phases.Ended seat) g head text before before' next next' stands stands' jobs jobs' out out' piece s x behind y = tt
behind_more old phases.Over g head text before before' next next' stands stands' jobs jobs' out out' piece s x behind y = tt

-- ---- a link with a seat is not to be framed

pub seat_free : (seat : Option Seat) (end : Option CoreEnd) → NotHeld (phase_of seat end)
seat_free None end = tt
seat_free (Some seat) None = tt
seat_free (Some seat) (Some e) = tt

pub seat_past : (seat : Option Seat) (end : Option CoreEnd) (P : List ℕ → Type 0) → OnHeld (phase_of seat end) P
seat_past None end P = tt
seat_past (Some seat) None P = tt
seat_past (Some seat) (Some e) P = tt

-- a link that has ended is done
pub seat_done : (seat : Option Seat) (end : Option CoreEnd) → IsSome end → IsDone (phase_of seat end)
seat_done None end some = tt
seat_done (Some seat) None some = absurd cc
seat_done (Some seat) (Some e) some = tt
