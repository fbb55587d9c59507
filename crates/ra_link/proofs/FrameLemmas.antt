-- What a piece makes of what is to come on its link.
use Rattle.std.proofs.Common.{◌≡◌, ℕ, Bool, true, false, Option, Some, None, List, ◌++◌, length, drop, inl, inr, refl, sym, ap, subst, ◌∙◌, arith, rules}
use Rattle.std.specs.Prelude.{◌⊎◌, nat_lt, IfSome}
use Rattle.std.proofs.lemmas.Grind.{common_steps}
use Rattle.ra_items.specs.Heads.{Head, IsRequestOf}
use Rattle.ra_items.specs.Readers.{Reader}
use Rattle.ra_upgrade.specs.declared.request_head.HeadFault.{HeadFault}
use Rattle.ra_upgrade.specs.declared.request_head.Upgrade.{Upgrade}
use Rattle.ra_opening.specs.declared.phase.Phase.{Phase as OpeningPhase}
use Rattle.ra_opening.specs.declared.phase.Phase.TheVariants as opening_phases
use Rattle.ra_opening.specs.Openings.{Grounds}
use Rattle.ra_opening.specs.Stands.{StandsIn, NeedsFraming, IsInShake}
use Rattle.ra_opening.specs.Comes.{AsksFraming}
use Rattle.ra_ports.specs.Links.{Incoming, StartsPayload, IsHanded}
use Rattle.ra_hub.specs.Hubs.{Hub}
use Rattle.ra_hub.specs.Jobs.{SeenJob}
use Rattle.ra_link_core.specs.LinkRuns.{Serving, asks_framing, with_piece}
use Rattle.ra_link_core.specs.Makes.{Outcome, goes, over, unkept, short, outcome_of}
use Rattle.ra_link_core.specs.Cores.{CoreStands, NotHeld, IsHeld, HeldOrShort, OnHeld, OnNoHead, IsPastHead, IsBehindHead, counted_in}
use Rattle.ra_link.specs.Pieces.{is_framed}
use Rattle.ra_link.specs.Served.{LinkOutcome, link_outcome, link_end, broken_end, OnFramed, CouldNotFrame, StartsFramed, FramesBy}
use Rattle.ra_link_core.specs.declared.ends.CoreEnd.{CoreEnd}
use Rattle.ra_link.specs.declared.ends.LinkEnd.{LinkEnd}
use Rattle.ra_link.specs.declared.ends.LinkEnd.TheVariants as ends
use Rattle.ra_link_core.specs.declared.phase.Phase.{Phase}
use Rattle.ra_link_core.specs.declared.phase.Phase.TheVariants as phases
use Rattle.ra_link_core.proofs.CutLemmas.{no_items, waiting_behind, held_asks_in, held_place, asks_frames}
use Rattle.ra_link.proofs.ComeLemmas.{framed_asks, unframed_early, framed_so, head_ends}
use Rattle.ra_link_core.proofs.PieceLemmas.{unheld_stands}
use Rattle.ra_link.proofs.ServeLemmas.{held_or_not, lifted, end_lifted, broken_to, any_broken, never_goes}

never_both : true ≡ false → ⊥
never_both e = cc

-- ---- how far the link is

past_in : (phase : OpeningPhase) (g : Grounds) (head : Head Upgrade HeadFault) (text before : List ℕ) (next : ℕ → List ℕ) (reader : Reader) (out : List ℕ)
    → StandsIn phase g head text before next reader out → (NeedsFraming phase → ⊥) → nat_lt (length text) head.size ≡ false → IsInShake phase
past_in opening_phases.Heading g head text before next reader out x unheld judged = absurd (never_both (sym (no_items head text x.none) ∙ judged))
past_in (opening_phases.Held shake) g head text before next reader out x unheld judged = absurd (unheld tt)
past_in (opening_phases.Shaking shake) g head text before next reader out x unheld judged = tt
past_in opening_phases.Over g head text before next reader out x unheld judged = absurd x

-- it was framed before
pub framed_past : (phase : Phase) (g : Grounds) (head : Head Upgrade HeadFault) (text before : List ℕ) (next : ℕ → List ℕ) (stands : Hub → Type 0) (jobs : Option (List SeenJob)) (out : List ℕ) (s : Serving)
    → CoreStands phase g head text before next stands jobs out s → NotHeld phase → is_framed head text ≡ true → IsPastHead phase
framed_past (phases.Opening opening) g head text before next stands jobs out s x unheld is =
    past_in opening.phase g head text before next opening.reader out (unheld_stands opening g head text before next stands jobs out s x unheld) unheld (framed_asks head text is).1
framed_past (phases.Seated seat) g head text before next stands jobs out s x unheld is = tt
framed_past (phases.Ended seat) g head text before next stands jobs out s x unheld is = tt
framed_past phases.Over g head text before next stands jobs out s x unheld is = tt

due_in : (X : Type 0) (phase : OpeningPhase) (g : Grounds) (head : Head Upgrade HeadFault) (text piece before : List ℕ) (next : ℕ → List ℕ) (reader : Reader) (out : List ℕ)
    → StandsIn phase g head text before next reader out → (NeedsFraming phase → ⊥) → nat_lt (length text) head.size ≡ true → AsksFraming (text ++ piece)
    → (phase ≡ opening_phases.Heading → AsksFraming (reader.unread ++ piece) → X) → X
due_in X opening_phases.Heading g head text piece before next reader out x unheld early asks due =
    due refl (subst (λ (t : List ℕ). AsksFraming (t ++ piece)) x.waits.read.left asks)
due_in X (opening_phases.Held shake) g head text piece before next reader out x unheld early asks due = absurd (unheld tt)
due_in X (opening_phases.Shaking shake) g head text piece before next reader out x unheld early asks due =
    absurd (never_both (sym early ∙ waiting_behind g head text before next reader shake out x))
due_in X opening_phases.Over g head text piece before next reader out x unheld early asks due = absurd x

due_at : (X : Type 0) (phase : Phase) (g : Grounds) (head : Head Upgrade HeadFault) (text piece before : List ℕ) (next : ℕ → List ℕ) (stands : Hub → Type 0) (jobs : Option (List SeenJob)) (out : List ℕ) (s : Serving)
    → CoreStands phase g head text before next stands jobs out s → NotHeld phase → IsBehindHead phase head text → nat_lt (length text) head.size ≡ true → AsksFraming (text ++ piece)
    → OnNoHead phase (λ unread. AsksFraming (unread ++ piece) → X) → X
due_at X (phases.Opening opening) g head text piece before next stands jobs out s x unheld behind early asks due =
    due_in X opening.phase g head text piece before next opening.reader out (unheld_stands opening g head text before next stands jobs out s x unheld) unheld early asks due
due_at X (phases.Seated seat) g head text piece before next stands jobs out s x unheld behind early asks due = absurd (never_both (sym early ∙ behind))
due_at X (phases.Ended seat) g head text piece before next stands jobs out s x unheld behind early asks due = absurd x
due_at X phases.Over g head text piece before next stands jobs out s x unheld behind early asks due = absurd x

-- its head ends in this piece
pub framed_due : (X : Type 0) (phase : Phase) (g : Grounds) (head : Head Upgrade HeadFault) (text piece before : List ℕ) (next : ℕ → List ℕ) (stands : Hub → Type 0) (jobs : Option (List SeenJob)) (out : List ℕ) (s : Serving)
    → CoreStands phase g head text before next stands jobs out s → NotHeld phase → IsBehindHead phase head text → IsRequestOf (text ++ piece) head
    → is_framed head text ≡ false → is_framed head (with_piece head text piece) ≡ true
    → OnNoHead phase (λ unread. AsksFraming (unread ++ piece) → X) → X
framed_due X phase g head text piece before next stands jobs out s x unheld behind is before_is after_is due =
    let asks : asks_framing head.says ≡ true = (framed_asks head (with_piece head text piece) after_is).0 in
    let judged = (head_ends head text piece before_is after_is).judged in
    due_at X phase g head text piece before next stands jobs out s x unheld behind (unframed_early head text before_is asks)
    (asks_frames head (text ++ piece) is asks judged) due

held_by : (phase : OpeningPhase) (g : Grounds) (head : Head Upgrade HeadFault) (raw before : List ℕ) (next : ℕ → List ℕ) (reader : Reader) (out : List ℕ)
    → StandsIn phase g head raw before next reader out → NeedsFraming phase → is_framed head (counted_in phase reader.unread raw) ≡ true
held_by phase g head raw before next reader out x held =
    let p = held_place phase g head raw before next reader out x held in
    framed_so head (counted_in phase reader.unread raw) (held_asks_in phase g head raw before next reader out x held)
    (ap (λ (n : ℕ). nat_lt n head.size) p ∙ not_below head.size)
  where
    not_below : (n : ℕ) → nat_lt n n ≡ false
    not_below n = search rules

-- a link that waits to be framed has read a head that asks for it
pub held_framed : (phase : Phase) (g : Grounds) (head : Head Upgrade HeadFault) (text before : List ℕ) (next : ℕ → List ℕ) (stands : Hub → Type 0) (jobs : Option (List SeenJob)) (out : List ℕ) (s : Serving)
    → CoreStands phase g head text before next stands jobs out s → IsHeld phase → is_framed head text ≡ true
held_framed (phases.Opening opening) g head text before next stands jobs out s x held =
    ap (is_framed head) x.counts ∙ held_by opening.phase g head x.raw before next opening.reader out x.opens held
held_framed (phases.Seated seat) g head text before next stands jobs out s x held = absurd held
held_framed (phases.Ended seat) g head text before next stands jobs out s x held = absurd x
held_framed phases.Over g head text before next stands jobs out s x held = absurd x

pub unframed_free : (phase : Phase) (g : Grounds) (head : Head Upgrade HeadFault) (text before : List ℕ) (next : ℕ → List ℕ) (stands : Hub → Type 0) (jobs : Option (List SeenJob)) (out : List ℕ) (s : Serving)
    → CoreStands phase g head text before next stands jobs out s → is_framed head text ≡ false → NotHeld phase
unframed_free phase g head text before next stands jobs out s x is =
    free_by (held_or_not phase)
  where
    free_by : IsHeld phase ⊎ NotHeld phase → NotHeld phase
    free_by (inl held) = absurd (never_both (sym (held_framed phase g head text before next stands jobs out s x held) ∙ is))
    free_by (inr free) = free

-- ---- by whether it was framed before, and is then

pub frames_by : (a b : Bool) (e : Option LinkEnd) (front : List ℕ) (sent : ℕ) (old new : Incoming)
    → (a ≡ true → new ≡ old) → (a ≡ false → b ≡ false → new ≡ old) → (a ≡ false → b ≡ true → FramesBy false true e front sent old new) → FramesBy a b e front sent old new
frames_by true b e front sent old new was never now = was refl
frames_by false false e front sent old new was never now = never refl refl
frames_by false true e front sent old new was never now = now refl refl

-- all stays, and the link ended
pub frames_stay : (a b : Bool) (end : LinkEnd) (front : List ℕ) (sent : ℕ) (old new : Incoming)
    → new ≡ old → (a ≡ false → b ≡ true → CouldNotFrame (link_outcome end)) → FramesBy a b (Some end) front sent old new
frames_stay true b end front sent old new same unable = same
frames_stay false false end front sent old new same unable = same
frames_stay false true end front sent old new same unable = (unable refl refl, ap (λ (i : Incoming). i.framed) same)

-- ---- ends of a link that is to be framed

broken_unable : (o : Outcome) (phase : Phase) → HeldOrShort o phase → CouldNotFrame (broken_to o)
broken_unable goes phase due = tt
broken_unable (over end) phase due = absurd due
broken_unable unkept phase due = absurd due
broken_unable short phase due = tt

pub unable_broken : (e : Option CoreEnd) (phase : Phase) → HeldOrShort (outcome_of e) phase → CouldNotFrame (link_outcome (broken_end e))
unable_broken e phase due = subst (λ (o : LinkOutcome). CouldNotFrame o) (sym (any_broken e)) (broken_unable (outcome_of e) phase due)

lifted_unable : (o : Outcome) (phase : Phase) → (o ≡ goes → ⊥) → HeldOrShort o phase → CouldNotFrame (lifted o)
lifted_unable goes phase ends due = absurd (ends refl)
lifted_unable (over end) phase ends due = absurd due
lifted_unable unkept phase ends due = absurd due
lifted_unable short phase ends due = tt

pub unable_ended : (e : CoreEnd) (phase : Phase) → HeldOrShort (outcome_of (Some e)) phase → CouldNotFrame (link_outcome (link_end e))
unable_ended e phase due = subst (λ (o : LinkOutcome). CouldNotFrame o) (sym (end_lifted e)) (lifted_unable (outcome_of (Some e)) phase (never_goes e) due)

unable_framed : (e : LinkEnd) (A B : Type 0) → OnFramed (Some e) A B → CouldNotFrame (link_outcome e)
unable_framed ends.LinkFault A B x = tt
unable_framed ends.NoMemory A B x = tt
unable_framed _ A B x = absurd x

-- the payload starts behind the head, and what was read of it is handed on
starts_at : (phase : Phase) (head : Head Upgrade HeadFault) (raw whole first : List ℕ) (sent : Option (List ℕ)) (old new : Incoming) → IsHeld phase → length whole ≡ head.size
    → OnHeld phase (λ front. raw ≡ whole ++ front) → sent ≡ Some first → OnHeld phase (λ front. StartsPayload old new front) → OnHeld phase (λ front. IsHanded sent new front)
    → StartsFramed (drop head.size raw) (length first) old new
starts_at (phases.Opening opening) head raw whole first sent old new held size unread sent_is starts handed =
    let front = opening.reader.unread in
    let is : drop head.size raw ≡ front = ap (λ (n : ℕ). drop n raw) (sym size) ∙ ap (drop (length whole)) (unread held) ∙ behind whole front in
    subst (λ (l : List ℕ). StartsFramed l (length first) old new) (sym is) (record { payload = starts held; handed = handed held first sent_is })
  where
    behind : (xs ys : List ℕ) → drop (length xs) (xs ++ ys) ≡ ys
    behind xs ys = grind (arith, common_steps)
starts_at (phases.Seated seat) head raw whole first sent old new held size unread sent_is starts handed = absurd held
starts_at (phases.Ended seat) head raw whole first sent old new held size unread sent_is starts handed = absurd held
starts_at phases.Over head raw whole first sent old new held size unread sent_is starts handed = absurd held

pub frames_held : (e : Option LinkEnd) (phase : Phase) (head : Head Upgrade HeadFault) (raw whole first : List ℕ) (sent : Option (List ℕ)) (A B : Type 0) (old new : Incoming) → IsHeld phase → length whole ≡ head.size
    → OnHeld phase (λ front. raw ≡ whole ++ front) → sent ≡ Some first → OnFramed e A B → (e ≡ None → OnHeld phase (λ front. StartsPayload old new front))
    → (e ≡ None → OnHeld phase (λ front. IsHanded sent new front)) → IfSome e (λ end. new.framed ≡ old.framed)
    → FramesBy false true e (drop head.size raw) (length first) old new
frames_held None phase head raw whole first sent A B old new held size unread sent_is framed starts handed unframed =
    starts_at phase head raw whole first sent old new held size unread sent_is (starts refl) (handed refl)
frames_held (Some end) phase head raw whole first sent A B old new held size unread sent_is framed starts handed unframed =
    (unable_framed end A B framed, unframed)
