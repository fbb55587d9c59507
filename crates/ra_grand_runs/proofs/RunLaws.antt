-- What a whole run keeps of a world.
use Rattle.std.proofs.Common.{◌≡◌, ℕ, zero, suc, ◌+◌, ◌≤◌, Bool, true, false, if◌then◌else◌, Option, Some, None, option_map, List, [], ◌∷◌, ◌++◌, map, refl, ap, sym, ◌∙◌, subst, append-nil, arith}
use Rattle.std.specs.Prelude.{◌≢◌, ⊤, slice_get}
use Rattle.ra_base.specs.declared.key.Key.{Key}
use Rattle.ra_model.specs.Links.{at_number}
use Rattle.ra_registry.specs.Rows.{same_key}
use Rattle.ra_registry.proofs.SameKeys.{same_key_other_way}
use Rattle.ra_script.specs.declared.grand_line.GrandEvent.{GrandEvent}
use Rattle.ra_script.specs.declared.grand_line.GrandEvent.TheVariants as events
use Rattle.ra_grand_runs.specs.GrandClients.{Client}
use Rattle.ra_grand_runs.specs.GrandRefusals.{Refusal, token_taken, holder, refusal}
use Rattle.ra_grand_runs.specs.GrandRuns.{happens, unless, after, run}
use Rattle.ra_grand_runs.specs.Grands.{Grand, Place, new_grand}
use Rattle.ra_grand_runs.specs.Lasting.{BeginsWith, history_of, key_at}
use Rattle.ra_grand_runs.specs.Marks.{Entry}
use Rattle.ra_grand_runs.specs.Owners.{owner, AboutOthers}
use Rattle.ra_grand_runs.proofs.EventLaws.{Keeps, made_keys, keeps}
use Rattle.ra_grand_runs.proofs.KeptClients.{none_there, there_is, keys}
use Rattle.ra_grand_runs.proofs.KeptHistories.{begins_itself, begins_trans}

-- the one world comes before the other in a run
pub record Lasts (w v : Grand) : Type 0 where
  pub now : w.now ≤ v.now
  pub places : BeginsWith v.places w.places
  pub keys_are : BeginsWith (keys v.clients) (keys w.clients)
  pub history : BeginsWith (history_of v) (history_of w)

lasts_itself : (w : Grand) → Lasts w w
lasts_itself w = record {
  now = omega arith;
  places = begins_itself w.places;
  keys_are = begins_itself (keys w.clients);
  history = begins_itself (history_of w);
}

lasts_trans : (w v u : Grand) → Lasts w v → Lasts v u → Lasts w u
lasts_trans w v u a b = record {
  now = omega (arith, a.now, b.now);
  places = begins_trans w.places v.places u.places a.places b.places;
  keys_are = begins_trans (keys w.clients) (keys v.clients) (keys u.clients) a.keys_are b.keys_are;
  history = begins_trans (history_of w) (history_of v) (history_of u) a.history b.history;
}

kept : (about : Option ℕ) (made : List Key) (w v : Grand) → Keeps about made w v → Lasts w v
kept about made w v keeps = record { now = keeps.now; places = keeps.places; keys_are = (made, keeps.keys_are); history = keeps.history }

lasts_unless : (o : Option Refusal) (w v : Grand) → Lasts w v → Lasts w (unless o v w)
lasts_unless None w v lasts = lasts
lasts_unless (Some refusal) w v lasts = lasts_itself w

pub lasts_after : (entry : Entry) (w : Grand) → Lasts w (after entry w)
lasts_after entry w =
    lasts_unless (refusal entry.event w) w (happens entry.mark entry.event w)
    (kept (owner entry.event w) (made_keys entry.event) w (happens entry.mark entry.event w) (keeps entry.mark entry.event w))

pub lasts_run : (entries : List Entry) (w : Grand) → Lasts w (run entries w)
lasts_run [] w = lasts_itself w
lasts_run (entry ∷ entries) w = lasts_trans w (after entry w) (run entries (after entry w)) (lasts_after entry w) (lasts_run entries (after entry w))

-- ---- others

other_unless : (o : Option Refusal) (n : ℕ) (w v : Grand) → at_number v.clients n ≡ at_number w.clients n → at_number (unless o v w).clients n ≡ at_number w.clients n
other_unless None n w v same = same
other_unless (Some refused) n w v same = refl

pub others_run : (entries : List Entry) (w : Grand) (n : ℕ) → AboutOthers n entries w → at_number (run entries w).clients n ≡ at_number w.clients n
others_run [] w n about = refl
others_run (entry ∷ entries) w n about =
    others_run entries (after entry w) n about.1
    ∙ other_unless (refusal entry.event w) n w (happens entry.mark entry.event w) ((keeps entry.mark entry.event w).others n about.0)

-- ---- numbers

get_front : {X : Type 0} → (xs rest : List X) (n : ℕ) (x : X) → slice_get xs n ≡ Some x → slice_get (xs ++ rest) n ≡ Some x
get_front [] rest n x is = none_there is
get_front (y ∷ ys) rest zero x is = is
get_front (y ∷ ys) rest (suc n) x is = get_front ys rest n x is

number_front : {X : Type 0} → (xs rest : List X) (n : ℕ) (x : X) → at_number xs n ≡ Some x → at_number (xs ++ rest) n ≡ Some x
number_front xs rest zero x is = is
number_front xs rest (suc n) x is = get_front xs rest n x is

pub number_stays : {X : Type 0} → (xs ys : List X) (n : ℕ) (x : X) → BeginsWith ys xs → at_number xs n ≡ Some x → at_number ys n ≡ Some x
number_stays {X} xs ys n x begins is = ap (λ (l : List X). at_number l n) begins.1 ∙ number_front xs begins.0 n x is

get_of : {X Y : Type 0} → (f : X → Y) (xs : List X) (n : ℕ) → slice_get (map f xs) n ≡ option_map f (slice_get xs n)
get_of f [] n = refl
get_of f (x ∷ xs) zero = refl
get_of f (x ∷ xs) (suc n) = get_of f xs n

pub number_of : {X Y : Type 0} → (f : X → Y) (xs : List X) (n : ℕ) → at_number (map f xs) n ≡ option_map f (at_number xs n)
number_of f xs zero = refl
number_of f xs (suc n) = get_of f xs n

pub place_stays : (w v : Grand) (n : ℕ) (p : Place) → Lasts w v → at_number w.places n ≡ Some p → at_number v.places n ≡ Some p
place_stays w v n p lasts is = number_stays w.places v.places n p lasts.places is

pub key_stays : (w v : Grand) (n : ℕ) (key : Key) → Lasts w v → key_at n w ≡ Some key → key_at n v ≡ Some key
key_stays w v n key lasts is =
    sym (number_of (λ (c : Client). c.key) v.clients n)
    ∙ number_stays (keys w.clients) (keys v.clients) n key lasts.keys_are (number_of (λ (c : Client). c.key) w.clients n ∙ is)

-- ---- keys

-- none of them is the same as this key
abbrev Other : Key → List Key → Type 0
Other key [] = ⊤
Other key (k ∷ ks) = (same_key key k ≡ false) × Other key ks

-- no two of them are the same
abbrev Apart : List Key → Type 0
Apart [] = ⊤
Apart (k ∷ ks) = Other k ks × Apart ks

free_by : (b : Bool) (m : ℕ) (o : Option ℕ) (P : Type 0) → (if b then Some m else o) ≡ None → (o ≡ None → P) → (b ≡ false) × P
free_by true m o P none more = absurd cc
free_by false m o P none more = (refl, more none)

free : (m : ℕ) (key : Key) (cs : List Client) → holder m key cs ≡ None → Other key (keys cs)
free m key [] none = tt
free m key (c ∷ cs) none = free_by (same_key key c.key) m (holder (m + 1) key cs) (Other key (keys cs)) none (λ e. free (m + 1) key cs e)

untaken : (o : Option ℕ) → option_map (λ n. token_taken n) o ≡ None → o ≡ None
untaken None none = refl
untaken (Some n) none = absurd cc

other_more : (key new : Key) (ks : List Key) → same_key key new ≡ false → Other key ks → Other key (ks ++ new ∷ [])
other_more key new [] not other = (not, tt)
other_more key new (k ∷ ks) not other = (other.0, other_more key new ks not other.1)

apart_more : (key : Key) (ks : List Key) → Other key ks → Apart ks → Apart (ks ++ key ∷ [])
apart_more key [] other apart = (tt, tt)
apart_more key (k ∷ ks) other apart = (other_more k key ks (same_key_other_way k key ∙ other.0) apart.0, apart_more key ks other.1 apart.1)

apart_none : (ks : List Key) → Apart ks → Apart (ks ++ [])
apart_none ks apart = subst (λ (l : List Key). Apart l) (sym (append-nil ks)) apart

apart_made : (event : GrandEvent) (w : Grand) → refusal event w ≡ None → Apart (keys w.clients) → Apart (keys w.clients ++ made_keys event)
unfolding refusal
apart_made (events.At now) w none apart = apart_none (keys w.clients) apart
apart_made (events.Client key) w none apart = apart_more key (keys w.clients) (free 1 key w.clients (untaken (holder 1 key w.clients) none)) apart
apart_made (events.Step n) w none apart = apart_none (keys w.clients) apart
apart_made (events.Linked n) w none apart = apart_none (keys w.clients) apart
apart_made (events.NoLink n) w none apart = apart_none (keys w.clients) apart
apart_made (events.Up link count) w none apart = apart_none (keys w.clients) apart
apart_made (events.Idle link) w none apart = apart_none (keys w.clients) apart
apart_made (events.Down link count) w none apart = apart_none (keys w.clients) apart
apart_made (events.Frame n) w none apart = apart_none (keys w.clients) apart
apart_made (events.Cut link) w none apart = apart_none (keys w.clients) apart
apart_made (events.Gone link) w none apart = apart_none (keys w.clients) apart
apart_made (events.Lost n) w none apart = apart_none (keys w.clients) apart
apart_made events.Sweep w none apart = apart_none (keys w.clients) apart
apart_made (events.Work job) w none apart = apart_none (keys w.clients) apart
apart_made (events.Call n channel name arg) w none apart = apart_none (keys w.clients) apart
apart_made (events.CallText n channel name arg) w none apart = apart_none (keys w.clients) apart
apart_made (events.Listen n channel name) w none apart = apart_none (keys w.clients) apart
apart_made (events.Cancel n id) w none apart = apart_none (keys w.clients) apart
apart_made (events.Dispose n id) w none apart = apart_none (keys w.clients) apart
apart_made (events.Say n body) w none apart = apart_none (keys w.clients) apart
apart_made (events.Stop n) w none apart = apart_none (keys w.clients) apart

apart_unless : (o : Option Refusal) (w v : Grand) → Apart (keys w.clients) → (o ≡ None → Apart (keys v.clients)) → Apart (keys (unless o v w).clients)
apart_unless None w v apart made = made refl
apart_unless (Some refusal) w v apart made = apart

apart_after : (entry : Entry) (w : Grand) → Apart (keys w.clients) → Apart (keys (after entry w).clients)
apart_after entry w apart =
    apart_unless (refusal entry.event w) w (happens entry.mark entry.event w) apart
    (λ none. subst (λ (l : List Key). Apart l) (sym (keeps entry.mark entry.event w).keys_are) (apart_made entry.event w none apart))

apart_run : (entries : List Entry) (w : Grand) → Apart (keys w.clients) → Apart (keys (run entries w).clients)
apart_run [] w apart = apart
apart_run (entry ∷ entries) w apart = apart_run entries (after entry w) (apart_after entry w apart)

other_at : (key : Key) (cs : List Client) (n : ℕ) (c : Client) → Other key (keys cs) → slice_get cs n ≡ Some c → same_key key c.key ≡ false
other_at key [] n c other is = none_there is
other_at key (x ∷ cs) zero c other is = subst (λ (y : Client). same_key key y.key ≡ false) (there_is is) other.0
other_at key (x ∷ cs) (suc n) c other is = other_at key cs n c other.1 is

get_differ : (cs : List Client) (a b : ℕ) (c d : Client) → Apart (keys cs) → a ≢ b → slice_get cs a ≡ Some c → slice_get cs b ≡ Some d → same_key c.key d.key ≡ false
get_differ [] a b c d apart ne one other = none_there one
get_differ (x ∷ cs) zero zero c d apart ne one other = absurd (ne refl)
get_differ (x ∷ cs) zero (suc b) c d apart ne one other =
    subst (λ (y : Client). same_key y.key d.key ≡ false) (there_is one) (other_at x.key cs b d apart.0 other)
get_differ (x ∷ cs) (suc a) zero c d apart ne one other =
    same_key_other_way c.key d.key ∙ subst (λ (y : Client). same_key y.key c.key ≡ false) (there_is other) (other_at x.key cs a c apart.0 one)
get_differ (x ∷ cs) (suc a) (suc b) c d apart ne one other = get_differ cs a b c d apart.1 (λ e. ne (ap (λ (n : ℕ). suc n) e)) one other

number_differ : (cs : List Client) (a b : ℕ) (c d : Client) → Apart (keys cs) → a ≢ b → at_number cs a ≡ Some c → at_number cs b ≡ Some d → same_key c.key d.key ≡ false
number_differ cs zero b c d apart ne one other = none_there one
number_differ cs (suc a) zero c d apart ne one other = none_there other
number_differ cs (suc a) (suc b) c d apart ne one other = get_differ cs a b c d apart (λ e. ne (ap (λ (n : ℕ). suc n) e)) one other

pub keys_differ : (entries : List Entry) (a b : ℕ) (c d : Client) → a ≢ b → at_number (run entries new_grand).clients a ≡ Some c
    → at_number (run entries new_grand).clients b ≡ Some d → same_key c.key d.key ≡ false
keys_differ entries a b c d ne one other = number_differ (run entries new_grand).clients a b c d (apart_run entries new_grand tt) ne one other
