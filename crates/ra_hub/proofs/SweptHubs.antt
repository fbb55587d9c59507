-- A tick of a hub in memory.
use Rattle.std.proofs.Common.{◌≡◌, ℕ, Bool, true, false, cond, ◌||◌, List, [], ◌∷◌, ◌++◌, map, length, drop, append-nil, Option, None, Some, option_map, is_some, refl, sym, ap, subst, ◌∙◌}
use Rattle.std.specs.Prelude.{nat_lt}
use Rattle.std.specs.BTreeMap.{BTreeMap, get}
use Rattle.std.specs.List.{list_any}
use Rattle.std.specs.Option.{is_none}
use Rattle.std.proofs.Math.Seq.{drop-append_seam}
use Rattle.std.proofs.lemmas.List.{append_assoc}
use Rattle.ra_base.specs.Keys.{key_cmp}
use Rattle.ra_base.specs.declared.key.Cause.{Cause}
use Rattle.ra_base.specs.declared.key.Cause.TheVariants.{GraceOver}
use Rattle.ra_base.specs.declared.key.Key.{Key}
use Rattle.ra_registry.specs.declared.past.Past.{Past}
use Rattle.ra_registry.specs.Expiry.{Expires, expiry_of}
use Rattle.ra_registry.specs.Legal.{is_over}
use Rattle.ra_registry.specs.RegistryStates.{RegistryState}
use Rattle.ra_registry.specs.Rows.{same_key, row_of}
use Rattle.ra_registry.specs.Seats.{admissions_of}
use Rattle.ra_registry.specs.TableChanges.{has_key}
use Rattle.ra_registry.proofs.SameKeys.{same_key_other_way}
use Rattle.ra_session.specs.Sessions.{Session}
use Rattle.ra_session.specs.SessionCalls.{end_session, tick_session}
use Rattle.ra_session.specs.SessionRefusals.{tick_refusal}
use Rattle.ra_hub.specs.declared.entry.SessionEntry.{SessionEntry}
use Rattle.ra_hub.specs.Hubs.{Hub}
use Rattle.ra_hub.specs.Standing.{AreKeys, BothStand, SessionsStand, StandsForHub}
use Rattle.ra_hub.specs.Sweeping.{ended_if, ended_in, EndsAll, is_going, going_keys, reached, ticked_in, IsAdmitted, TicksAll}
use Rattle.ra_hub.specs.Sweeps.{AreDistinct, IsSwept, MayBeLeft, grace_is_over, swept, tick_one}
use Rattle.ra_hub.proofs.AdmittedRows.{admissions_stay}
use Rattle.ra_hub.proofs.Endings.{ended_back, reached_back}
use Rattle.ra_hub.proofs.KeyLists.{Follows, follows_step, keys_follow, going_any, going_are, and_left}
use Rattle.ra_hub.proofs.OverLemmas.{cause_of}
use Rattle.ra_hub.specs.Entries.{cause_in}
use Rattle.ra_hub.proofs.SessionMaps.{in_memory}

-- ---- the entries of the expiries

expired_key : (at : ℕ) (keys : List Key) (key : Key) → has_key (map (expiry_of at) keys) key ≡ list_any (same_key key) keys
expired_key at [] key = refl
expired_key at (k ∷ keys) key =
    ap (λ (b : Bool). b || has_key (map (expiry_of at) keys) key) (same_key_other_way k key) ∙ ap (λ (b : Bool). same_key key k || b) (expired_key at keys key)

expired_admit_none : (key : Key) (at : ℕ) (history : List Past) (keys : List Key) → admissions_of key (history ++ map (expiry_of at) keys) ≡ admissions_of key history
expired_admit_none key at history [] = ap (admissions_of key) (append-nil history)
expired_admit_none key at history (k ∷ keys) =
    ap (admissions_of key) (sym (append_assoc history (expiry_of at k ∷ []) (map (expiry_of at) keys)))
    ∙ expired_admit_none key at (history ++ expiry_of at k ∷ []) keys ∙ admissions_stay key history (expiry_of at k) refl

-- ---- sessions

ended_is_some : (c : Option Cause) → is_some (cond (is_some c) c (Some GraceOver)) ≡ true
ended_is_some None = refl
ended_is_some (Some cause) = refl

chosen : (b : Bool) (x y : Session) → b ≡ true → cond b x y ≡ x
chosen true x y e = refl
chosen false x y e = cc

-- a session that has ended does not see the moment
tick_ended : (now : ℕ) (s : Session) → is_some s.cause ≡ true → tick_one now s ≡ s
unfolding tick_session
tick_ended now s ended = either (is_some (tick_refusal now s)) (chosen (is_some s.cause) s _ ended)
  where
    either : (b : Bool) → tick_session now s ≡ s → cond b s (tick_session now s) ≡ s
    either true same = refl
    either false same = same

over_is_some : (s : Session) → is_some (end_session GraceOver s).cause ≡ true
unfolding end_session
over_is_some s = ended_is_some s.cause

one_swept : (over left : Bool) (now : ℕ) (s : Session) → reached true left now (ended_if over s) ≡ swept over left now s
one_swept true true now s = refl
one_swept true false now s = tick_ended now (end_session GraceOver s) (over_is_some s)
one_swept false true now s = refl
one_swept false false now s = refl

rest_swept : (over left : Bool) (now : ℕ) (s : Session) → is_some (ended_if over s).cause ≡ true → ended_if over s ≡ swept over left now s
rest_swept true left now s ended = refl
rest_swept false true now s ended = refl
rest_swept false false now s ended = sym (tick_ended now s ended)

-- a session that is there has its turn, or has ended
each_swept : (come over left : Bool) (now : ℕ) (p : Option Session) → (come ≡ false → (s : Session) → p ≡ Some s → is_some (ended_if over s).cause ≡ true)
    → option_map (reached come left now) (option_map (ended_if over) p) ≡ option_map (swept over left now) p
each_swept come over left now None rest = refl
each_swept true over left now (Some s) rest = ap Some (one_swept over left now s)
each_swept false over left now (Some s) rest = ap Some (rest_swept over left now s (rest refl s refl))

some_unless : (c : Option Cause) → (c ≡ None → ⊥) → is_some c ≡ true
some_unless None no_way = absurd (no_way refl)
some_unless (Some cause) no_way = refl

cause_none : (c : Option Cause) → is_none c ≡ true → c ≡ None
cause_none None none = refl
cause_none (Some cause) none = cc

ended_some : (c : Option Cause) → is_some c ≡ true → c ≡ None → ⊥
ended_some None some none = cc
ended_some (Some cause) some none = cc

-- a session in memory that goes on
may_leave : (now : ℕ) (o : Option SessionEntry) (over : Bool) (p : Option Session) → BothStand o (option_map (ended_if over) p) → is_going o ≡ true
    → IsAdmitted now (option_map (ended_if over) p) → MayBeLeft now over p
may_leave now None over p both going admitted = cc
may_leave now (Some x) over None both going admitted = absurd both
may_leave now (Some x) true (Some s) both going admitted =
    absurd (ended_some (end_session GraceOver s).cause (over_is_some s) (cause_of x (end_session GraceOver s) both ∙ cause_none (cause_in x) going))
may_leave now (Some x) false (Some s) both going admitted = (refl, cause_of x s both ∙ cause_none (cause_in x) going, admitted)

some_map : (g : Session → Session) (p : Option Session) → is_some (option_map g p) ≡ is_some p
some_map g None = refl
some_map g (Some s) = refl

-- ---- the hub

pub sweeps : (registry after : RegistryState) (old between new : BTreeMap Key SessionEntry) (keys kept : List Key) (h : Hub) (now expired short : ℕ)
    → StandsForHub registry old keys h → Expires registry now expired after → EndsAll (drop (length registry.history) after.history) old between
    → kept ≡ going_keys keys between → (AreDistinct kept → TicksAll kept now short between new)
    → (swept_hub : Hub) × StandsForHub after new kept swept_hub × IsSwept h now expired short swept_hub
sweeps registry after old between new keys kept h now expired short stands rows ends kept_is ticks = (
  to,
  standing,
  record {
    rows = rows_of;
    left = done.left;
    counted = done.counted;
    once = done.once;
    there = λ key left.
        subst (λ (b : Bool). MayBeLeft now b (h.session key)) (over key)
        (may_leave now (get key_cmp between key) (has_key behind key) (h.session key) (ended key) (goes key (done.among key left)) (done.admitted (ended_in behind h.session) ended key left));
    sessions = λ key. refl;
  },
)
  where
    behind : List Past
    behind = drop (length registry.history) after.history

    ended : SessionsStand between (ended_in behind h.session)
    ended = ends h.session stands.sessions_stand

    keys_between : AreKeys keys between
    keys_between =
        keys_follow keys old between h.session (ended_in behind h.session) stands.sessions_stand ended
        (λ key. follows_step (ended_if (has_key behind key)) (h.session key) (ended_back (has_key behind key))) stands.keys_are

    keys_kept : AreKeys kept between
    keys_kept = subst (λ (ks : List Key). AreKeys ks between) (sym kept_is) (going_are keys between keys_between)

    goes : (key : Key) → list_any (same_key key) kept ≡ true → is_going (get key_cmp between key) ≡ true
    goes key among =
        and_left (is_going (get key_cmp between key)) (list_any (same_key key) keys)
        (sym (going_any keys between key) ∙ ap (list_any (same_key key)) (sym kept_is) ∙ among)

    done : TicksAll kept now short between new
    done = ticks keys_kept.once

    rows_of : Expires h.registry now expired after
    rows_of = subst (λ (r : RegistryState). Expires r now expired after) stands.registry_is rows

    to : Hub
    to = record {
      registry = after;
      session = λ key. option_map (swept (grace_is_over h now key) (list_any (same_key key) done.left) now) (h.session key);
    }

    history : after.history ≡ registry.history ++ map (expiry_of now) rows.keys
    history = ap (λ (r : RegistryState). r.history) rows.entered

    entries : behind ≡ map (expiry_of now) rows.keys
    entries = ap (λ (es : List Past). drop (length registry.history) es) history ∙ drop-append_seam registry.history (map (expiry_of now) rows.keys)

    over : (key : Key) → has_key behind key ≡ grace_is_over h now key
    over key =
        ap (λ (es : List Past). has_key es key) entries ∙ expired_key now rows.keys key ∙ rows.each key
        ∙ ap (λ (r : RegistryState). is_over r (row_of r key) now) stands.registry_is

    rest : (key : Key) → list_any (same_key key) kept ≡ false → (s : Session) → h.session key ≡ Some s → is_some (ended_if (has_key behind key) s).cause ≡ true
    rest key apart s is =
        some_unless (ended_if (has_key behind key) s).cause
        (λ none.
        let x = in_memory between (ended_in behind h.session) key (ended_if (has_key behind key) s) ended (ap (option_map (ended_if (has_key behind key))) is) in
        true_false (sym (keys_kept.going key x.0 x.1 (sym (cause_of x.0 _ x.2) ∙ none)) ∙ apart))
      where
        true_false : true ≡ false → ⊥
        true_false e = cc

    each : (key : Key) → ticked_in kept done.left now (ended_in behind h.session) key ≡ to.session key
    each key =
        each_swept (list_any (same_key key) kept) (has_key behind key) (list_any (same_key key) done.left) now (h.session key) (rest key)
        ∙ ap (λ (b : Bool). option_map (swept b (list_any (same_key key) done.left) now) (h.session key)) (over key)

    sessions : SessionsStand new to.session
    sessions key =
        subst (λ (p : Option Session). BothStand (get key_cmp new key) p) (each key) (done.sessions (ended_in behind h.session) ended key)

    follow : (key : Key) → Follows (ended_in behind h.session key) (to.session key)
    follow key =
        subst (λ (p : Option Session). Follows (ended_in behind h.session key) p) (each key)
        (follows_step (reached (list_any (same_key key) kept) (list_any (same_key key) done.left) now) (ended_in behind h.session key)
        (reached_back (list_any (same_key key) kept) (list_any (same_key key) done.left) now))

    standing : StandsForHub after new kept to
    standing = record {
      registry_is = refl;
      sessions_stand = sessions;
      keys_are = keys_follow kept between new (ended_in behind h.session) to.session ended sessions follow keys_kept;
      sessions_are = λ key.
          some_map _ (h.session key) ∙ stands.sessions_are key
          ∙ ap (λ (r : RegistryState). nat_lt 0 (admissions_of key r.history)) (sym stands.registry_is)
          ∙ ap (λ (n : ℕ). nat_lt 0 n) (sym (ap (admissions_of key) history ∙ expired_admit_none key now registry.history rows.keys));
    }
