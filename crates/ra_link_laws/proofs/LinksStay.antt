-- A link keeps what holds of it while another link of the session changes, or one is added.
use Rattle.std.proofs.Common.{◌≡◌, ℕ, Bool, true, false, Option, Some, None, List, [], ◌∷◌, ◌++◌, refl, ap, sym, ◌∙◌, subst}
use Rattle.ra_base.specs.declared.key.Key.{Key}
use Rattle.ra_base.specs.declared.key.Seat.{Seat}
use Rattle.ra_model.specs.Links.{Link, at_number, put_number}
use Rattle.ra_link_core.specs.LinkRuns.{Welcome}
use Rattle.ra_grand_runs.specs.GrandClients.{GrandLink}
use Rattle.ra_run_laws.proofs.Lists.{there_is, put_other, number_front}
use Rattle.ra_link_laws.specs.Parts.{Drawn, IsWelcome, HasWelcome, EndStands, LinkKeeps}

-- both lists have the same link under each number that the first has, and where the welcome is
abbrev SameAt : List Link → List Link → Option Welcome → Type 0
SameAt old new None = Unit {0}
SameAt old new (Some w) = (x : Link) → at_number old w.epoch ≡ Some x → at_number new w.epoch ≡ Some x

same_welcome : (owner : Key) (d : Drawn) (old new : List Link) (l : GrandLink) (o : Option Welcome) → SameAt old new o → HasWelcome owner d old l o → HasWelcome owner d new l o
same_welcome owner d old new l None same has = has
same_welcome owner d old new l (Some w) same has =
    record { theirs = has.theirs; place = has.place; there = has.there; session_link = has.session_link; is_at = same has.session_link has.is_at; carries = has.carries }

-- the seat of the welcome's link is the session's present one only if it was before
abbrev SeatStays : Option Welcome → (before after : ℕ) → Type 0
SeatStays None before after = Unit {0}
SeatStays (Some w) before after = w.epoch ≡ after → after ≡ before

same_end : (owner : Key) (d : Drawn) (old new : List Link) (before after : ℕ) (l : GrandLink) (over : Bool) (seat : Option Seat)
    → SameAt old new l.server.welcome → SeatStays l.server.welcome before after → HasWelcome owner d old l l.server.welcome
    → EndStands owner old before l over seat → EndStands owner new after l over seat
same_end owner d old new before after l true seat same stays has stands = stands
same_end owner d old new before after l false None same stays has stands = stands
same_end owner d old new before after l false (Some seat) same stays has stands = record {
  welcome = stands.welcome;
  is_there = stands.is_there;
  key = stands.key;
  number = stands.number;
  said = stands.said;
  read = λ is x there.
      let w = stands.welcome in
      let has_it : IsWelcome owner d old l w = subst (λ (o : Option Welcome). HasWelcome owner d old l o) stands.is_there has in
      let same_it : (y : Link) → at_number old w.epoch ≡ Some y → at_number new w.epoch ≡ Some y =
      subst (λ (o : Option Welcome). SameAt old new o) stands.is_there same in
      let stays_it : w.epoch ≡ after → after ≡ before = subst (λ (o : Option Welcome). SeatStays o before after) stands.is_there stays in
      let here : w.epoch ≡ after = sym stands.number ∙ is in
      let was : after ≡ before = stays_it here in
      let both : has_it.session_link ≡ x = there_is (sym (same_it has_it.session_link has_it.is_at) ∙ ap (λ (n : ℕ). at_number new n) here ∙ there) in
      stands.read (is ∙ was) x (ap (λ (n : ℕ). at_number old n) (sym (here ∙ was)) ∙ has_it.is_at ∙ ap (λ (y : Link). Some y) both);
}

pub link_same : (owner : Key) (d : Drawn) (old new : List Link) (before after : ℕ) (l : GrandLink)
    → SameAt old new l.server.welcome → SeatStays l.server.welcome before after → LinkKeeps owner d old before l → LinkKeeps owner d new after l
link_same owner d old new before after l same stays keeps = record {
  key_len = keeps.key_len;
  key_bytes = keeps.key_bytes;
  head = keeps.head;
  up = keeps.up;
  down = keeps.down;
  seen = keeps.seen;
  put = keeps.put;
  put_all = keeps.put_all;
  speaks = keeps.speaks;
  welcome = same_welcome owner d old new l l.server.welcome same keeps.welcome;
  end = same_end owner d old new before after l l.server.is_over l.server.seat same stays keeps.welcome keeps.end;
}

-- ---- another link changes

elsewhere : (session_links : List Link) (e : ℕ) (x : Link) (o : Option Welcome) → ((w : Welcome) → o ≡ Some w → e ≡ w.epoch → ⊥) → SameAt session_links (put_number session_links e x) o
elsewhere session_links e x None apart = tt
elsewhere session_links e x (Some w) apart = λ y is. put_other session_links e w.epoch x (apart w refl) ∙ is

stays_by : (o : Option Welcome) (before after : ℕ) → ((w : Welcome) → o ≡ Some w → w.epoch ≡ after → after ≡ before) → SeatStays o before after
stays_by None before after stays = tt
stays_by (Some w) before after stays = stays w refl

-- the session's link under another number becomes another
pub link_elsewhere : (owner : Key) (d : Drawn) (session_links : List Link) (before after e : ℕ) (x : Link) (l : GrandLink)
    → ((w : Welcome) → l.server.welcome ≡ Some w → e ≡ w.epoch → ⊥) → ((w : Welcome) → l.server.welcome ≡ Some w → w.epoch ≡ after → after ≡ before)
    → LinkKeeps owner d session_links before l → LinkKeeps owner d (put_number session_links e x) after l
link_elsewhere owner d session_links before after e x l apart stays keeps =
    link_same owner d session_links (put_number session_links e x) before after l (elsewhere session_links e x l.server.welcome apart)
    (stays_by l.server.welcome before after stays) keeps

same_front : (session_links : List Link) (x : Link) (o : Option Welcome) → SameAt session_links (session_links ++ x ∷ []) o
same_front session_links x None = tt
same_front session_links x (Some w) = λ y is. number_front session_links (x ∷ []) w.epoch y is

-- one link of the session more
pub link_more : (owner : Key) (d : Drawn) (session_links : List Link) (present : ℕ) (x : Link) (l : GrandLink)
    → LinkKeeps owner d session_links present l → LinkKeeps owner d (session_links ++ x ∷ []) present l
link_more owner d session_links present x l keeps =
    link_same owner d session_links (session_links ++ x ∷ []) present present l (same_front session_links x l.server.welcome)
    (stays_by l.server.welcome present present (λ w is at. refl)) keeps
