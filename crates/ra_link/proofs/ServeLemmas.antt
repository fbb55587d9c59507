-- A connection served over a link.
use Rattle.std.proofs.Common.{◌≡◌, ℕ, ◌-◌, not, Option, Some, None, List, [], ◌++◌, length, take, drop, inl, inr, refl, sym, ap, subst, ◌∙◌, append_assoc, append-nil}
use Rattle.std.specs.Prelude.{◌⊎◌}
use Rattle.std.proofs.lemmas.List.{take-append-drop}
use Rattle.ra_base.specs.declared.key.Seat.{Seat}
use Rattle.ra_items.specs.Heads.{Head}
use Rattle.ra_items.specs.Readers.{Reader}
use Rattle.ra_upgrade.specs.declared.request_head.HeadFault.{HeadFault}
use Rattle.ra_upgrade.specs.declared.request_head.Upgrade.{Upgrade}
use Rattle.ra_opening.specs.declared.phase.Phase.{Phase as OpeningPhase}
use Rattle.ra_opening.specs.declared.phase.Phase.TheVariants as opening_phases
use Rattle.ra_opening.specs.Openings.{Grounds, Opened}
use Rattle.ra_opening.specs.Stands as stands_of
use Rattle.ra_opening.specs.Stands.{OpeningState, Stands, StandsIn, NeedsFraming}
use Rattle.ra_ports.specs.Links.{Sends, SendsFront}
use Rattle.ra_hub.specs.Hubs.{Hub}
use Rattle.ra_hub.specs.Jobs.{SeenJob}
use Rattle.ra_link_core.specs.LinkRuns.{Serving}
use Rattle.ra_link_core.specs.Makes.{Happens, IsGoing, Outcome, goes, over, unkept, short, outcome_of}
use Rattle.ra_link_core.specs.Cores.{IsOpening, CoreStands, CoreMakes, NotHeld, IsHeld, OpeningFramed, SetsFramed, counted_in, base_of, seat_in}
use Rattle.ra_link.specs.Served.{link_end, broken_end, LinkOutcome, link_closed, link_broke, link_over, link_unkept, link_short, link_outcome, OnFramed, SentFront, LinkEnds, AfterPiece}
use Rattle.ra_link_core.specs.declared.ends.CoreEnd.{CoreEnd}
use Rattle.ra_link_core.specs.declared.ends.CoreEnd.TheVariants as core_ends
use Rattle.ra_link.specs.declared.ends.LinkEnd.{LinkEnd}
use Rattle.ra_link.specs.declared.ends.LinkEnd.TheVariants as ends
use Rattle.ra_link_core.specs.declared.phase.Phase.{Phase}
use Rattle.ra_link_core.specs.declared.phase.Phase.TheVariants as phases
use Rattle.ra_link_core.proofs.GrowLemmas.{happens_trans, grows_refl}

-- ---- what a core tells

pub core_going : (phase : Phase) (g : Grounds) (head : Head Upgrade HeadFault) (text before : List ℕ) (next : ℕ → List ℕ) (stands : Hub → Type 0) (jobs : Option (List SeenJob)) (out : List ℕ) (s : Serving)
    → CoreStands phase g head text before next stands jobs out s → IsGoing (seat_in phase) stands jobs (base_of g before next) out s
core_going (phases.Opening opening) g head text before next stands jobs out s x = x.going
core_going (phases.Seated seat) g head text before next stands jobs out s x = x
core_going (phases.Ended seat) g head text before next stands jobs out s x = absurd x
core_going phases.Over g head text before next stands jobs out s x = absurd x

-- what was written before may stand before it
tells_rebased : (g : Grounds) (before out before' out' : List ℕ) (next : ℕ → List ℕ) (o : Opened) → before' ++ out' ≡ before ++ out
    → stands_of.Tells g before next out o → stands_of.Tells g before' next out' o
tells_rebased g before out before' out' next o same t = record { written = t.written ∙ sym same; draws = t.draws }

stands_rebased : (phase : OpeningPhase) (g : Grounds) (head : Head Upgrade HeadFault) (text before out before' out' : List ℕ) (next : ℕ → List ℕ) (reader : Reader) → before' ++ out' ≡ before ++ out
    → StandsIn phase g head text before next reader out → StandsIn phase g head text before' next reader out'
stands_rebased opening_phases.Heading g head text before out before' out' next reader same x = record {
  waits = record { read = x.waits.read; unopened = x.waits.unopened; tells = tells_rebased g before out before' out' next _ same x.waits.tells };
  none = x.none;
}
stands_rebased (opening_phases.Held shake) g head text before out before' out' next reader same x = record {
  upgrade = x.upgrade;
  place = x.place;
  read = x.read;
  behind = x.behind;
  skips = x.skips;
  stage = x.stage;
  tells = tells_rebased g before out before' out' next _ same x.tells;
}
stands_rebased (opening_phases.Shaking shake) g head text before out before' out' next reader same x = record {
  shaking = record {
    done = x.shaking.done;
    at = x.shaking.at;
    read = x.shaking.read;
    behind = x.shaking.behind;
    stage = x.shaking.stage;
    tells = tells_rebased g before out before' out' next _ same x.shaking.tells;
  };
  all = x.all;
}
stands_rebased opening_phases.Over g head text before out before' out' next reader same x = absurd x

going_rebased : (seat : Option Seat) (g : Grounds) (before out : List ℕ) (next : ℕ → List ℕ) (stands : Hub → Type 0) (jobs : Option (List SeenJob)) (s : Serving)
    → IsGoing seat stands jobs (base_of g before next) out s → IsGoing seat stands jobs (base_of g s.out next) [] s
going_rebased seat g before out next stands jobs s x = record {
  tells = record { hub_stands = x.tells.hub_stands; jobs_are = x.tells.jobs_are; out_is = sym (append-nil s.out); draws_are = x.tells.draws_are };
  seat_is = x.seat_is;
  end_is = x.end_is;
}

pub core_rebased : (phase : Phase) (g : Grounds) (head : Head Upgrade HeadFault) (text before : List ℕ) (next : ℕ → List ℕ) (stands : Hub → Type 0) (jobs : Option (List SeenJob)) (out : List ℕ) (s : Serving)
    → CoreStands phase g head text before next stands jobs out s → CoreStands phase g head text s.out next stands jobs [] s
core_rebased (phases.Opening opening) g head text before next stands jobs out s x = record {
  going = going_rebased None g before out next stands jobs s x.going;
  raw = x.raw;
  opens = stands_rebased opening.phase g head x.raw before out s.out [] next opening.reader (append-nil s.out ∙ x.going.tells.out_is) x.opens;
  counts = x.counts;
  written = x.written;
  drawn = x.drawn;
}
core_rebased (phases.Seated seat) g head text before next stands jobs out s x = going_rebased (Some seat) g before out next stands jobs s x
core_rebased (phases.Ended seat) g head text before next stands jobs out s x = absurd x
core_rebased phases.Over g head text before next stands jobs out s x = absurd x

-- ---- sending

pub all_sent : (first before out : List ℕ) (old new : Option (List ℕ)) → old ≡ Some (first ++ before) → Sends old new out → new ≡ Some (first ++ (before ++ out))
all_sent first before out old new is sends = sends (first ++ before) is ∙ ap (λ (l : List ℕ). Some l) (append_assoc first before out)

front_sent : (first before out written : List ℕ) (old new : Option (List ℕ)) → old ≡ Some (first ++ before) → SendsFront old new out → written ≡ before ++ out → SentFront first new written
front_sent first before out written old new is sends parts = record {
  front = before ++ take sends.0 out;
  sent_is = all_sent first before (take sends.0 out) old new is sends.1;
  rest = drop sends.0 out;
  parts =
      parts ∙ ap (λ (l : List ℕ). before ++ l) (sym (take-append-drop sends.0 out))
      ∙ sym (append_assoc before (take sends.0 out) (drop sends.0 out));
}

whole_sent : (first : List ℕ) (sent : Option (List ℕ)) (written : List ℕ) → sent ≡ Some (first ++ written) → SentFront first sent written
whole_sent first sent written is = record { front = written; sent_is = is; rest = []; parts = sym (append-nil written) }

pub sent_as : (first : List ℕ) (sent : Option (List ℕ)) (before out written : List ℕ) → sent ≡ Some (first ++ (before ++ out)) → written ≡ before ++ out → sent ≡ Some (first ++ written)
sent_as first sent before out written is same = is ∙ ap (λ (l : List ℕ). Some (first ++ l)) (sym same)

-- ---- all of it was sent

abbrev pub lifted : Outcome → LinkOutcome
lifted goes = link_closed
lifted (over end) = link_over end
lifted unkept = link_unkept
lifted short = link_short

pub end_lifted : (e : CoreEnd) → link_outcome (link_end e) ≡ lifted (outcome_of (Some e))
end_lifted (core_ends.BadHead fault) = refl
end_lifted (core_ends.Refused reason) = refl
end_lifted (core_ends.TooLong n) = refl
end_lifted (core_ends.BadIpc fault message) = refl
end_lifted (core_ends.Stale current) = refl
end_lifted core_ends.NoLink = refl
end_lifted (core_ends.Ended cause) = refl
end_lifted core_ends.IdsSpent = refl
end_lifted core_ends.KeepFault = refl
end_lifted core_ends.NoMemory = refl

serves_by : (o : Outcome) (phase : Phase) (g : Grounds) (head : Head Upgrade HeadFault) (text before : List ℕ) (next : ℕ → List ℕ) (stands : Hub → Type 0) (jobs : Option (List SeenJob)) (out first : List ℕ) (sent : Option (List ℕ)) (failed : Type 0) (start s u : Serving)
    → (o ≡ goes → ⊥) → CoreMakes o phase g head text before next stands jobs out s u → sent ≡ Some (first ++ (before ++ out)) → Happens start s
    → LinkEnds (lifted o) first sent (seat_in phase) stands jobs failed start u
serves_by goes phase g head text before next stands jobs out first sent failed start s u ends makes is happens = absurd (ends refl)
serves_by (over end) phase g head text before next stands jobs out first sent failed start s u ends makes is happens =
    let t = makes.tells in
    (record { sent_is = sent_as first sent before out u.out is t.out_is; hub_stands = t.hub_stands; jobs_are = t.jobs_are; seat_is = makes.seat_is }, makes.end_is)
serves_by unkept phase g head text before next stands jobs out first sent failed start s u ends makes is happens =
    let t = makes.tells in
    record {
      part = makes.part;
      sent_is = inl (sent_as first sent before out makes.part.out is t.out_is);
      hub_stands = t.hub_stands;
      jobs_are = t.jobs_are;
      seat_is = makes.seat_is;
      none = makes.none;
      came = happens_trans start s makes.part happens makes.came;
      comes = makes.comes;
      request = makes.request;
      place = makes.place;
      chunk = makes.chunk;
      now = makes.now;
      goes_on = makes.goes_on;
    }
serves_by short phase g head text before next stands jobs out first sent failed start s u ends makes is happens =
    let t = makes.tells in
    record {
      part = makes.part;
      sent_is = whole_sent first sent makes.part.out (sent_as first sent before out makes.part.out is t.out_is);
      hub_stands = t.hub_stands;
      jobs_are = t.jobs_are;
      seat_is = makes.seat_is;
      came = happens_trans start s makes.part happens makes.came;
      comes = makes.comes;
    }

pub never_goes : (e : CoreEnd) → outcome_of (Some e) ≡ goes → ⊥
never_goes (core_ends.BadHead fault) is = absurd cc
never_goes (core_ends.Refused reason) is = absurd cc
never_goes (core_ends.TooLong n) is = absurd cc
never_goes (core_ends.BadIpc fault message) is = absurd cc
never_goes (core_ends.Stale current) is = absurd cc
never_goes core_ends.NoLink is = absurd cc
never_goes (core_ends.Ended cause) is = absurd cc
never_goes core_ends.IdsSpent is = absurd cc
never_goes core_ends.KeepFault is = absurd cc
never_goes core_ends.NoMemory is = absurd cc

pub sent_end : (e : CoreEnd) (phase : Phase) (g : Grounds) (head : Head Upgrade HeadFault) (text before : List ℕ) (next : ℕ → List ℕ) (stands : Hub → Type 0) (jobs : Option (List SeenJob)) (out first : List ℕ) (old sent : Option (List ℕ)) (failed : Type 0) (start s u : Serving)
    → CoreMakes (outcome_of (Some e)) phase g head text before next stands jobs out s u → old ≡ Some (first ++ before) → Sends old sent out → Happens start s
    → LinkEnds (link_outcome (link_end e)) first sent (seat_in phase) stands jobs failed start u
sent_end e phase g head text before next stands jobs out first old sent failed start s u makes is sends happens =
    subst (λ (o : LinkOutcome). LinkEnds o first sent (seat_in phase) stands jobs failed start u) (sym (end_lifted e))
    (serves_by (outcome_of (Some e)) phase g head text before next stands jobs out first sent failed start s u (never_goes e) makes (all_sent first before out old sent is sends) happens)

-- ---- a front of it was sent

abbrev pub broken_to : Outcome → LinkOutcome
broken_to goes = link_broke
broken_to (over end) = link_broke
broken_to unkept = link_unkept
broken_to short = link_short

end_broken : (e : CoreEnd) → link_outcome (broken_end (Some e)) ≡ broken_to (outcome_of (Some e))
end_broken (core_ends.BadHead fault) = refl
end_broken (core_ends.Refused reason) = refl
end_broken (core_ends.TooLong n) = refl
end_broken (core_ends.BadIpc fault message) = refl
end_broken (core_ends.Stale current) = refl
end_broken core_ends.NoLink = refl
end_broken (core_ends.Ended cause) = refl
end_broken core_ends.IdsSpent = refl
end_broken core_ends.KeepFault = refl
end_broken core_ends.NoMemory = refl

pub any_broken : (e : Option CoreEnd) → link_outcome (broken_end e) ≡ broken_to (outcome_of e)
any_broken None = refl
any_broken (Some e) = end_broken e

broke_by : (o : Outcome) (phase : Phase) (g : Grounds) (head : Head Upgrade HeadFault) (text before : List ℕ) (next : ℕ → List ℕ) (stands : Hub → Type 0) (jobs : Option (List SeenJob)) (out first : List ℕ) (old sent : Option (List ℕ)) (failed : Type 0) (start s u : Serving)
    → CoreMakes o phase g head text before next stands jobs out s u → old ≡ Some (first ++ before) → SendsFront old sent out → Happens start s → failed
    → LinkEnds (broken_to o) first sent (seat_in phase) stands jobs failed start u
broke_by goes phase g head text before next stands jobs out first old sent failed start s u makes is sends happens why =
    let x = core_going phase g head text before next stands jobs out u makes in
    record { sent_is = front_sent first before out u.out old sent is sends x.tells.out_is; hub_stands = x.tells.hub_stands; jobs_are = x.tells.jobs_are; seat_is = x.seat_is }
broke_by (over end) phase g head text before next stands jobs out first old sent failed start s u makes is sends happens why =
    record { sent_is = front_sent first before out u.out old sent is sends makes.tells.out_is; hub_stands = makes.tells.hub_stands; jobs_are = makes.tells.jobs_are; seat_is = makes.seat_is }
broke_by unkept phase g head text before next stands jobs out first old sent failed start s u makes is sends happens why =
    let t = makes.tells in
    record {
      part = makes.part;
      sent_is = inr (front_sent first before out makes.part.out old sent is sends t.out_is, why);
      hub_stands = t.hub_stands;
      jobs_are = t.jobs_are;
      seat_is = makes.seat_is;
      none = makes.none;
      came = happens_trans start s makes.part happens makes.came;
      comes = makes.comes;
      request = makes.request;
      place = makes.place;
      chunk = makes.chunk;
      now = makes.now;
      goes_on = makes.goes_on;
    }
broke_by short phase g head text before next stands jobs out first old sent failed start s u makes is sends happens why =
    let t = makes.tells in
    record {
      part = makes.part;
      sent_is = front_sent first before out makes.part.out old sent is sends t.out_is;
      hub_stands = t.hub_stands;
      jobs_are = t.jobs_are;
      seat_is = makes.seat_is;
      came = happens_trans start s makes.part happens makes.came;
      comes = makes.comes;
    }

pub broken_piece : (e : Option CoreEnd) (phase : Phase) (g : Grounds) (head : Head Upgrade HeadFault) (text before : List ℕ) (next : ℕ → List ℕ) (stands : Hub → Type 0) (jobs : Option (List SeenJob)) (out first : List ℕ) (old sent : Option (List ℕ)) (failed : Type 0) (start s u : Serving)
    → CoreMakes (outcome_of e) phase g head text before next stands jobs out s u → old ≡ Some (first ++ before) → SendsFront old sent out → Happens start s → failed
    → LinkEnds (link_outcome (broken_end e)) first sent (seat_in phase) stands jobs failed start u
broken_piece e phase g head text before next stands jobs out first old sent failed start s u makes is sends happens why =
    subst (λ (o : LinkOutcome). LinkEnds o first sent (seat_in phase) stands jobs failed start u) (sym (any_broken e))
    (broke_by (outcome_of e) phase g head text before next stands jobs out first old sent failed start s u makes is sends happens why)

-- ---- the link is framed

held_text : (phase : OpeningPhase) (unread raw : List ℕ) → NeedsFraming phase → counted_in phase unread raw ≡ take (length raw - length unread) raw
held_text opening_phases.Heading unread raw held = absurd held
held_text (opening_phases.Held shake) unread raw held = refl
held_text (opening_phases.Shaking shake) unread raw held = absurd held
held_text opening_phases.Over unread raw held = absurd held

free_text : (phase : OpeningPhase) (unread raw : List ℕ) → (NeedsFraming phase → ⊥) → raw ≡ counted_in phase unread raw
free_text opening_phases.Heading unread raw free = refl
free_text (opening_phases.Held shake) unread raw free = absurd (free tt)
free_text (opening_phases.Shaking shake) unread raw free = refl
free_text opening_phases.Over unread raw free = refl

opening_framed : (old new : OpeningState) (g : Grounds) (head : Head Upgrade HeadFault) (text before : List ℕ) (next : ℕ → List ℕ) (stands : Hub → Type 0) (jobs : Option (List SeenJob)) (out : List ℕ) (s : Serving)
    → IsOpening old g head text before next stands jobs out s → NeedsFraming old.phase → OpeningFramed old new → (NeedsFraming new.phase → ⊥)
    → IsOpening new g head text before next stands jobs out s
opening_framed old new g head text before next stands jobs out s x held framed free =
    let raw = take (length x.raw - length old.reader.unread) x.raw in
    record {
      going = x.going;
      raw = raw;
      opens = framed g head x.raw before next out x.opens;
      counts = x.counts ∙ held_text old.phase old.reader.unread x.raw held ∙ free_text new.phase new.reader.unread raw free;
      written = x.written;
      drawn = x.drawn;
    }

core_framed : (old new : Phase) (g : Grounds) (head : Head Upgrade HeadFault) (text before : List ℕ) (next : ℕ → List ℕ) (stands : Hub → Type 0) (jobs : Option (List SeenJob)) (out : List ℕ) (s : Serving)
    → CoreStands old g head text before next stands jobs out s → IsHeld old → SetsFramed old new → NotHeld new
    → CoreStands new g head text before next stands jobs out s
core_framed (phases.Opening old) (phases.Opening new) g head text before next stands jobs out s x held sets free =
    opening_framed old new g head text before next stands jobs out s x held sets free
core_framed (phases.Opening old) (phases.Seated seat) g head text before next stands jobs out s x held sets free = absurd sets
core_framed (phases.Opening old) (phases.Ended seat) g head text before next stands jobs out s x held sets free = absurd sets
core_framed (phases.Opening old) phases.Over g head text before next stands jobs out s x held sets free = absurd sets
core_framed (phases.Seated seat) new g head text before next stands jobs out s x held sets free = absurd held
core_framed (phases.Ended seat) new g head text before next stands jobs out s x held sets free = absurd held
core_framed phases.Over new g head text before next stands jobs out s x held sets free = absurd held

opening_held : (phase : OpeningPhase) → NeedsFraming phase ⊎ (NeedsFraming phase → ⊥)
opening_held opening_phases.Heading = inr (λ no. no)
opening_held (opening_phases.Held shake) = inl tt
opening_held (opening_phases.Shaking shake) = inr (λ no. no)
opening_held opening_phases.Over = inr (λ no. no)

pub held_or_not : (phase : Phase) → IsHeld phase ⊎ NotHeld phase
held_or_not (phases.Opening opening) = opening_held opening.phase
held_or_not (phases.Seated seat) = inr tt
held_or_not (phases.Ended seat) = inr tt
held_or_not phases.Over = inr tt

-- a link that goes on was sent all, and is framed where it has to be
framed_by : (e : Option LinkEnd) (old new : Phase) (g : Grounds) (head : Head Upgrade HeadFault) (text before : List ℕ) (next : ℕ → List ℕ) (stands : Hub → Type 0) (jobs : Option (List SeenJob)) (out first : List ℕ) (sent : Option (List ℕ)) (failed : Type 0) (start u : Serving)
    → CoreStands old g head text before next stands jobs out u → sent ≡ Some (first ++ u.out) → Happens start u → IsHeld old
    → OnFramed e (SetsFramed old new) (new ≡ old) → (e ≡ None → NotHeld new)
    → AfterPiece e new g head text next first sent stands jobs failed start u
framed_by None old new g head text before next stands jobs out first sent failed start u x is happens held framed free =
    let y = core_framed old new g head text before next stands jobs out u x held framed (free refl) in
    (core_rebased new g head text before next stands jobs out u y, is)
framed_by (Some ends.LinkFault) old new g head text before next stands jobs out first sent failed start u x is happens held same free =
    let y = core_going old g head text before next stands jobs out u x in
    record { sent_is = whole_sent first sent u.out is; hub_stands = y.tells.hub_stands; jobs_are = y.tells.jobs_are; seat_is = y.seat_is ∙ ap seat_in (sym same) }
framed_by (Some ends.NoMemory) old new g head text before next stands jobs out first sent failed start u x is happens held same free =
    let y = core_going old g head text before next stands jobs out u x in
    record {
      part = u;
      sent_is = whole_sent first sent u.out is;
      hub_stands = y.tells.hub_stands;
      jobs_are = y.tells.jobs_are;
      seat_is = y.seat_is ∙ ap seat_in (sym same);
      came = happens;
      comes = grows_refl u;
    }
framed_by (Some _) old new g head text before next stands jobs out first sent failed start u x is happens held same free = absurd same

unframed_by : (e : Option LinkEnd) (old new : Phase) (g : Grounds) (head : Head Upgrade HeadFault) (text before : List ℕ) (next : ℕ → List ℕ) (stands : Hub → Type 0) (jobs : Option (List SeenJob)) (out first : List ℕ) (sent : Option (List ℕ)) (failed : Type 0) (start u : Serving)
    → CoreStands old g head text before next stands jobs out u → sent ≡ Some (first ++ u.out) → e ≡ None → new ≡ old
    → AfterPiece e new g head text next first sent stands jobs failed start u
unframed_by e old new g head text before next stands jobs out first sent failed start u x is none same =
    subst (λ (r : Option LinkEnd). AfterPiece r new g head text next first sent stands jobs failed start u) (sym none)
    (core_rebased new g head text before next stands jobs out u (subst (λ (p : Phase). CoreStands p g head text before next stands jobs out u) (sym same) x), is)

framed_or : (e : Option LinkEnd) (old new : Phase) (g : Grounds) (head : Head Upgrade HeadFault) (text before : List ℕ) (next : ℕ → List ℕ) (stands : Hub → Type 0) (jobs : Option (List SeenJob)) (out first : List ℕ) (sent : Option (List ℕ)) (failed : Type 0) (start u : Serving)
    → IsHeld old ⊎ NotHeld old → CoreStands old g head text before next stands jobs out u → sent ≡ Some (first ++ u.out) → Happens start u
    → (NotHeld old → (e ≡ None) × (new ≡ old)) → (IsHeld old → OnFramed e (SetsFramed old new) (new ≡ old)) → (e ≡ None → NotHeld new)
    → AfterPiece e new g head text next first sent stands jobs failed start u
framed_or e old new g head text before next stands jobs out first sent failed start u (inl held) x is happens unheld framed free =
    framed_by e old new g head text before next stands jobs out first sent failed start u x is happens held (framed held) free
framed_or e old new g head text before next stands jobs out first sent failed start u (inr not) x is happens unheld framed free =
    let r = unheld not in
    unframed_by e old new g head text before next stands jobs out first sent failed start u x is r.0 r.1

pub goes_framed : (e : Option LinkEnd) (old new : Phase) (g : Grounds) (head : Head Upgrade HeadFault) (text before : List ℕ) (next : ℕ → List ℕ) (stands : Hub → Type 0) (jobs : Option (List SeenJob)) (out first : List ℕ) (was mid sent : Option (List ℕ)) (failed : Type 0) (start u : Serving)
    → CoreStands old g head text before next stands jobs out u → was ≡ Some (first ++ before) → Sends was mid out → sent ≡ mid → Happens start u
    → (NotHeld old → (e ≡ None) × (new ≡ old)) → (IsHeld old → OnFramed e (SetsFramed old new) (new ≡ old)) → (e ≡ None → NotHeld new)
    → AfterPiece e new g head text next first sent stands jobs failed start u
goes_framed e old new g head text before next stands jobs out first was mid sent failed start u x is sends same happens unheld framed free =
    let y = core_going old g head text before next stands jobs out u x in
    framed_or e old new g head text before next stands jobs out first sent failed start u (held_or_not old) x
    (same ∙ sent_as first mid before out u.out (all_sent first before out was mid is sends) y.tells.out_is) happens unheld framed free
