-- Sweeps, one session after another.
use Rattle.std.proofs.Common.{◌≡◌, ℕ, ◌+◌, ◌<◌, Bool, true, false, not, cond, ◌&&◌, ◌||◌, ◌⊎◌, inl, inr, ◌≤◌, List, [], ◌∷◌, ◌++◌, length, take, get_or, Option, None, Some, option_map, arith, refl, sym, ap, subst, ◌∙◌}
use Rattle.std.specs.BTreeMap.{BTreeMap, get}
use Rattle.std.specs.List.{list_any}
use Rattle.std.specs.Option.{is_some}
use Rattle.ra_base.specs.declared.key.Cause.{Cause}
use Rattle.std.proofs.lemmas.Bool.{cases_lt}
use Rattle.std.proofs.lemmas.List.{length-append, take_at, take-append-le}
use Rattle.std.proofs.Math.ListN.{get_or-append}
use Rattle.std.proofs.Math.Seq.{get_or-append_seam}
use Rattle.std.proofs.lemmas.List.Folds.{list_any_more, list_any-append}
use Rattle.ra_base.specs.Keys.{key_cmp}
use Rattle.ra_base.specs.declared.key.Cause.TheVariants.{GraceOver}
use Rattle.ra_base.specs.declared.key.Key.{Key}
use Rattle.ra_registry.specs.declared.past.Past.{Past}
use Rattle.ra_registry.specs.Rows.{same_key}
use Rattle.ra_registry.specs.TableChanges.{has_key}
use Rattle.ra_registry.proofs.SameKeys.{same_key_is, same_key_itself, same_key_other_way}
use Rattle.ra_session.specs.Sessions.{Session}
use Rattle.ra_session.specs.SessionCalls.{end_session}
use Rattle.ra_hub.specs.declared.entry.SessionEntry.{SessionEntry}
use Rattle.ra_hub.specs.declared.entry.SessionEntry.TheVariants.{Going, Over}
use Rattle.ra_hub.specs.Entries.{EntryStands, EntryBecomes, EntryAdmits}
use Rattle.ra_hub.specs.HubSeats.{one_if}
use Rattle.ra_hub.specs.Standing.{AtSession, BothStand, SessionsStand, Ticked}
use Rattle.ra_hub.specs.Sweeping.{ended_if, ended_in, EndsAll, reached, ticked_in, IsAdmitted, TicksAll}
use Rattle.ra_hub.specs.Sweeps.{AreDistinct}
use Rattle.ra_hub.proofs.SessionMaps.{in_memory, stand_at}

-- ---- ends

abbrev ended_cause : Option Cause → Option Cause
ended_cause c = cond (is_some c) c (Some GraceOver)

cause_twice : (c : Option Cause) → ended_cause (ended_cause c) ≡ ended_cause c
cause_twice None = refl
cause_twice (Some cause) = refl

pub end_twice : (s : Session) → end_session GraceOver (end_session GraceOver s) ≡ end_session GraceOver s
unfolding end_session
end_twice s = ap (λ (c : Option Cause). record s { cause = c }) (cause_twice s.cause)

none_stays : (g h : Session → Session) (p : Option Session) → option_map g p ≡ None → option_map h p ≡ None
none_stays g h None is = refl
none_stays g h (Some s) is = cc

ended_again : (before : Bool) (s : Session) → end_session GraceOver (ended_if before s) ≡ end_session GraceOver s
ended_again true s = end_twice s
ended_again false s = refl

from : Session → Option Session → Session
from d None = d
from d (Some s) = s

pub is_that : (a b : Session) → Some a ≡ Some b → a ≡ b
unfolding from
is_that a b e = ap (λ (o : Option Session). from a o) e

ended_there : (before : Bool) (p : Option Session) (x y : SessionEntry) (s : Session) → option_map (ended_if before) p ≡ Some s → EntryStands x s
    → EntryBecomes x y (end_session GraceOver) → BothStand (Some y) (option_map (ended_if true) p)
ended_there before None x y s is to becomes = cc
ended_there before (Some q) x y s is to becomes =
    subst (λ (t : Session). EntryStands y t) (ended_again before q)
    (becomes (ended_if before q) (subst (λ (t : Session). EntryStands x t) (sym (is_that (ended_if before q) s is)) to))

-- one entry more
pub ends_more : (entries : List Past) (i : ℕ) (entry : Past) (old between after : BTreeMap Key SessionEntry)
    → i < length entries → entry ≡ get_or entries i entry → EndsAll (take i entries) old between
    → AtSession between after entry.key (λ (x y : SessionEntry). EntryBecomes x y (end_session GraceOver))
    → EndsAll (take (i + 1) entries) old after
ends_more entries i entry old between after small is so_far one f stand =
    stand_at between after entry.key _ (ended_in (take i entries) f) (ended_in (take (i + 1) entries) f) one (so_far f stand)
    (λ x y s at to becomes.
    subst (λ (b : Bool). BothStand (Some y) (option_map (ended_if b) (f entry.key))) (sym (come entry.key ∙ itself (has_key (take i entries) entry.key)))
    (ended_there (has_key (take i entries) entry.key) (f entry.key) x y s at to becomes))
    (λ none. none_stays _ _ (f entry.key) none)
    (λ other apart.
    ap (λ (b : Bool). option_map (ended_if b) (f other)) (come other ∙ ap (λ (b : Bool). has_key (take i entries) other || b) apart ∙ or_false (has_key (take i entries) other)))
  where
    come : (key : Key) → has_key (take (i + 1) entries) key ≡ (has_key (take i entries) key || same_key entry.key key)
    come key = list_any_more (λ (e : Past). same_key e.key key) entries i entry small ∙ ap (λ (e : Past). has_key (take i entries) key || same_key e.key key) (sym is)

    or_false : (b : Bool) → (b || false) ≡ b
    or_false true = refl
    or_false false = refl

    or_true : (b c : Bool) → c ≡ true → (b || c) ≡ true
    or_true true c e = refl
    or_true false c e = e

    itself : (b : Bool) → (b || same_key entry.key entry.key) ≡ true
    itself b = or_true b (same_key entry.key entry.key) (same_key_itself entry.key)

-- none so far
pub ends_none : (old : BTreeMap Key SessionEntry) → EndsAll [] old old
ends_none old f stand key = subst (λ (p : Option Session). BothStand (get key_cmp old key) p) (sym (unchanged (f key))) (stand key)
  where
    unchanged : (p : Option Session) → option_map (ended_if false) p ≡ p
    unchanged None = refl
    unchanged (Some s) = refl

-- ---- ticks

-- a key behind others that differ is new
pub distinct_more : (keys : List Key) (key : Key) → AreDistinct keys → list_any (same_key key) keys ≡ false → AreDistinct (keys ++ key ∷ [])
distinct_more keys key distinct fresh i d small = here (cases_lt i (length keys))
  where
    here : (i < length keys) ⊎ (length keys ≤ i) → list_any (same_key (get_or (keys ++ key ∷ []) i d)) (take i (keys ++ key ∷ [])) ≡ false
    here (inl less) =
        rw (get_or-append keys (key ∷ []) d i less, take-append-le i keys (key ∷ []) (omega (arith, less))) (distinct i d less)
    here (inr behind) =
        let last : i ≡ length keys = omega (arith, behind, small, length-append keys (key ∷ [])) in
        rw (last, get_or-append_seam keys key [] d, take_at keys (key ∷ []) (length keys) refl) fresh

abbrev left_after : Bool → List Key → Key → List Key
left_after ticked left key = cond ticked left (left ++ key ∷ [])

-- one key more
come_more : (keys : List Key) (i : ℕ) (key other : Key) → i < length keys → key ≡ get_or keys i key
    → list_any (same_key other) (take (i + 1) keys) ≡ (list_any (same_key other) (take i keys) || same_key other key)
come_more keys i key other small is = list_any_more (same_key other) keys i key small ∙ ap (λ (k : Key). list_any (same_key other) (take i keys) || same_key other k) (sym is)

or_of : (b c : Bool) → (b || c) ≡ true → (b ≡ true) ⊎ (c ≡ true)
or_of true c e = inl refl
or_of false c e = inr e

or_first : (b c : Bool) → b ≡ true → (b || c) ≡ true
or_first true c e = refl
or_first false c e = cc

or_second : (b c : Bool) → c ≡ true → (b || c) ≡ true
or_second true c e = refl
or_second false c e = e

or_false : (b c : Bool) → c ≡ false → (b || c) ≡ b
or_false true c e = refl
or_false false c e = e

both_false : (b c : Bool) → b ≡ false → c ≡ false → (b || c) ≡ false
both_false b c e f = or_false b c f ∙ e

not_true : (b : Bool) → (b ≡ true → ⊥) → b ≡ false
not_true true no_way = absurd (no_way refl)
not_true false no_way = refl

left_length : (ticked : Bool) (left : List Key) (key : Key) → length (left_after ticked left key) ≡ length left + one_if (not ticked)
left_length true left key = omega arith
left_length false left key = length-append left (key ∷ [])

left_once : (ticked : Bool) (left : List Key) (key : Key) → AreDistinct left → list_any (same_key key) left ≡ false → AreDistinct (left_after ticked left key)
left_once true left key distinct fresh = distinct
left_once false left key distinct fresh = distinct_more left key distinct fresh

left_any : (ticked : Bool) (left : List Key) (key other : Key)
    → list_any (same_key other) (left_after ticked left key) ≡ (list_any (same_key other) left || (not ticked && same_key other key))
left_any true left key other = sym (or_false (list_any (same_key other) left) false refl)
left_any false left key other = list_any-append (same_key other) left (key ∷ []) ∙ ap (λ (b : Bool). list_any (same_key other) left || b) (or_false (same_key other key) false refl)

and_apart : (a b : Bool) → b ≡ false → (a && b) ≡ false
and_apart true b e = e
and_apart false b e = refl

and_second : (a b : Bool) → (a && b) ≡ true → b ≡ true
and_second true b e = e
and_second false b e = cc

and_one : (a b : Bool) → b ≡ true → (a && b) ≡ a
and_one true b e = e
and_one false b e = refl

ticked_there : (ticked : Bool) (now : ℕ) (p : Option Session) (x y : SessionEntry) (s : Session) → option_map (reached false false now) p ≡ Some s
    → EntryStands x s → Ticked now ticked x y → BothStand (Some y) (option_map (reached true (not ticked) now) p)
ticked_there ticked now None x y s is to holds = cc
ticked_there true now (Some q) x y s is to holds = holds q (subst (λ (t : Session). EntryStands x t) (sym (is_that q s is)) to)
ticked_there false now (Some q) x y s is to holds =
    subst (λ (z : SessionEntry). EntryStands z q) (sym holds.0) (subst (λ (t : Session). EntryStands x t) (sym (is_that q s is)) to)

entry_admits : (now : ℕ) (x : SessionEntry) (s : Session) → EntryAdmits now x → EntryStands x s → IsAdmitted now (Some s)
entry_admits now (Going x) s admits stands = admits.1 s stands
entry_admits now (Over cause) s admits stands = absurd admits

-- a session that is left is one whose tick is not refused
left_admits : (ticked : Bool) (now : ℕ) (between after : BTreeMap Key SessionEntry) (key : Key) (g : Key → Option Session) → not ticked ≡ true
    → AtSession between after key (Ticked now ticked) → SessionsStand between g → IsAdmitted now (g key)
left_admits true now between after key g left one stand = cc
left_admits false now between after key g left one stand = at (g key) refl
  where
    at : (p : Option Session) → g key ≡ p → IsAdmitted now p
    at None is = tt
    at (Some s) is =
        let x = in_memory between g key s stand is in
        let called = one.there x.0 x.1 in
        entry_admits now x.0 s called.2.1 x.2

and_left : (a b : Bool) → (a && b) ≡ true → a ≡ true
and_left true b e = refl
and_left false b e = cc

nothing_done : (now : ℕ) (p : Option Session) → option_map (reached false false now) p ≡ p
nothing_done now None = refl
nothing_done now (Some s) = refl

pub ticks_more : (keys : List Key) (i now short : ℕ) (key : Key) (ticked : Bool) (old between after : BTreeMap Key SessionEntry)
    → AreDistinct keys → i < length keys → key ≡ get_or keys i key → TicksAll (take i keys) now short old between
    → AtSession between after key (Ticked now ticked) → TicksAll (take (i + 1) keys) now (short + one_if (not ticked)) old after
ticks_more keys i now short key ticked old between after distinct small is so_far one =
    record {
      left = left_after ticked so_far.left key;
      counted = sym (left_length ticked so_far.left key ∙ ap (λ (n : ℕ). n + one_if (not ticked)) (sym so_far.counted));
      once = left_once ticked so_far.left key so_far.once not_left;
      among = λ other there. grown other (or_of (list_any (same_key other) so_far.left) (not ticked && same_key other key) (sym (left_any ticked so_far.left key other) ∙ there));
      admitted = λ f stand other there. admits f stand other (or_of (list_any (same_key other) so_far.left) (not ticked && same_key other key) (sym (left_any ticked so_far.left key other) ∙ there));
      sessions = λ f stand.
          stand_at between after key _ (ticked_in (take i keys) so_far.left now f) (ticked_in (take (i + 1) keys) (left_after ticked so_far.left key) now f) one (so_far.sessions f stand)
          (λ x y s at to holds.
          subst (λ (b : Bool). BothStand (Some y) (option_map (reached b (list_any (same_key key) (left_after ticked so_far.left key)) now) (f key))) (sym come_now)
          (subst (λ (b : Bool). BothStand (Some y) (option_map (reached true b now) (f key))) (sym left_now)
          (ticked_there ticked now (f key) x y s (sym (was f) ∙ at) to holds)))
          (λ none. none_stays _ _ (f key) none)
          (λ other apart. ap (λ (b : Bool). option_map (reached b (list_any (same_key other) (left_after ticked so_far.left key)) now) (f other)) (come_more keys i key other small is ∙ or_false (list_any (same_key other) (take i keys)) (same_key other key) (other_way other apart))
          ∙ ap (λ (b : Bool). option_map (reached (list_any (same_key other) (take i keys)) b now) (f other))
          (left_any ticked so_far.left key other ∙ or_false (list_any (same_key other) so_far.left) (not ticked && same_key other key) (and_apart (not ticked) (same_key other key) (other_way other apart))));
    }
  where
    fresh : list_any (same_key key) (take i keys) ≡ false
    fresh = ap (λ (k : Key). list_any (same_key k) (take i keys)) is ∙ distinct i key small

    not_left : list_any (same_key key) so_far.left ≡ false
    not_left = not_true (list_any (same_key key) so_far.left) (λ there. true_false (sym (so_far.among key there) ∙ fresh))
      where
        true_false : true ≡ false → ⊥
        true_false e = cc

    other_way : (other : Key) → same_key key other ≡ false → same_key other key ≡ false
    other_way other apart = same_key_other_way other key ∙ apart

    come_now : list_any (same_key key) (take (i + 1) keys) ≡ true
    come_now = come_more keys i key key small is ∙ or_second (list_any (same_key key) (take i keys)) (same_key key key) (same_key_itself key)

    left_now : list_any (same_key key) (left_after ticked so_far.left key) ≡ not ticked
    left_now = left_any ticked so_far.left key key ∙ ap (λ (b : Bool). b || (not ticked && same_key key key)) not_left ∙ and_one (not ticked) (same_key key key) (same_key_itself key)

    was : (f : Key → Option Session) → ticked_in (take i keys) so_far.left now f key ≡ option_map (reached false false now) (f key)
    was f = ap (λ (b : Bool). option_map (reached b (list_any (same_key key) so_far.left) now) (f key)) fresh ∙ ap (λ (b : Bool). option_map (reached false b now) (f key)) not_left

    admits : (f : Key → Option Session) → SessionsStand old f → (other : Key) → (list_any (same_key other) so_far.left ≡ true) ⊎ ((not ticked && same_key other key) ≡ true) → IsAdmitted now (f other)
    admits f stand other (inl there) = so_far.admitted f stand other there
    admits f stand other (inr new) =
        subst (λ (k : Key). IsAdmitted now (f k)) (sym (same_key_is other key (and_second (not ticked) (same_key other key) new)))
        (subst (λ (p : Option Session). IsAdmitted now p) (was f ∙ nothing_done now (f key))
        (left_admits ticked now between after key (ticked_in (take i keys) so_far.left now f) (and_left (not ticked) (same_key other key) new) one (so_far.sessions f stand)))

    grown : (other : Key) → (list_any (same_key other) so_far.left ≡ true) ⊎ ((not ticked && same_key other key) ≡ true) → list_any (same_key other) (take (i + 1) keys) ≡ true
    grown other (inl there) = come_more keys i key other small is ∙ or_first (list_any (same_key other) (take i keys)) (same_key other key) (so_far.among other there)
    grown other (inr new) = come_more keys i key other small is ∙ or_second (list_any (same_key other) (take i keys)) (same_key other key) (and_second (not ticked) (same_key other key) new)

pub ticks_none : (now : ℕ) (old : BTreeMap Key SessionEntry) → TicksAll [] now 0 old old
ticks_none now old = record {
  left = [];
  counted = refl;
  once = λ i d small. none_there i small;
  among = λ key there. there;
  admitted = λ f stand key there. none_so key there;
  sessions = λ f stand key. subst (λ (p : Option Session). BothStand (get key_cmp old key) p) (sym (unchanged (f key))) (stand key);
}
  where
    unchanged : (p : Option Session) → option_map (reached false false now) p ≡ p
    unchanged None = refl
    unchanged (Some s) = refl

    none_so : {T : Type 0} (key : Key) → false ≡ true → T
    none_so key there = cc

    none_there : {T : Type 0} (i : ℕ) → i < 0 → T
    none_there i small = absurd (omega (arith, small))

pub one_at_most : (b : Bool) → one_if b ≤ 1
one_at_most true = omega arith
one_at_most false = omega arith
