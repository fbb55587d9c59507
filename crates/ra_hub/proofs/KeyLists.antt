-- The keys of the sessions that go on.
use Rattle.std.proofs.Common.{◌≡◌, ℕ, ◌<◌, ◌≤◌, zero, suc, Bool, true, false, cond, ◌&&◌, List, [], ◌∷◌, ◌++◌, length, take, get_or, append-nil, Option, None, Some, option_map, is_some, arith, refl, sym, ap, subst, ◌∙◌}
use Rattle.std.specs.Option.{is_none}
use Rattle.std.specs.List.{list_any}
use Rattle.std.specs.BTreeMap.{BTreeMap, get}
use Rattle.std.proofs.Math.Seq.{take-suc}
use Rattle.std.proofs.lemmas.List.{take_all}
use Rattle.std.proofs.lemmas.List.Elements.{filter-append}
use Rattle.std.proofs.lemmas.Map.Views.{any-filter_same}
use Rattle.ra_base.specs.Keys.{key_cmp}
use Rattle.ra_base.specs.declared.key.Cause.{Cause}
use Rattle.ra_base.specs.declared.key.Key.{Key}
use Rattle.ra_base.specs.declared.kind.Kind.TheVariants.{Management}
use Rattle.ra_registry.specs.Rows.{same_key}
use Rattle.ra_registry.proofs.SameKeys.{same_key_is}
use Rattle.ra_session.specs.Sessions.{Session}
use Rattle.ra_hub.specs.declared.entry.SessionEntry.{SessionEntry}
use Rattle.ra_hub.specs.Entries.{cause_in}
use Rattle.ra_hub.specs.Hubs.{with_session}
use Rattle.ra_hub.specs.Standing.{AreKeys, BothStand, SessionsStand}
use Rattle.ra_hub.specs.Sweeping.{is_going, going_keys}
use Rattle.ra_hub.specs.Sweeps.{AreDistinct}
use Rattle.ra_hub.proofs.Endings.{GoesBack}
use Rattle.ra_hub.proofs.OverLemmas.{cause_of}
use Rattle.ra_hub.proofs.SweepLemmas.{distinct_more}

-- ---- sessions that stay

-- a session that is there stays there, and one that has ended does not go on
abbrev pub Follows : Option Session → Option Session → Type 0
Follows None None = Unit {0}
Follows None (Some t) = ⊥
Follows (Some s) None = ⊥
Follows (Some s) (Some t) = t.cause ≡ None → s.cause ≡ None

pub follows_itself : (p : Option Session) → Follows p p
follows_itself None = tt
follows_itself (Some s) = λ going. going

pub follows_step : (step : Session → Session) (p : Option Session) → GoesBack step → Follows p (option_map step p)
follows_step step None back = tt
follows_step step (Some s) back = back s

pub follows_set : (f : Key → Option Session) (key other : Key) (s t : Session) → f key ≡ Some s → (t.cause ≡ None → s.cause ≡ None)
    → Follows (f other) (with_session key t f other)
follows_set f key other s t is back = here (same_key key other) refl
  where
    here : (b : Bool) → same_key key other ≡ b → Follows (f other) (cond b (Some t) (f other))
    here true same =
        subst (λ (p : Option Session). Follows p (Some t)) (sym (ap f (sym (same_key_is key other same)) ∙ is)) back
    here false apart = follows_itself (f other)

pub both_there : (o : Option SessionEntry) (p : Option Session) → BothStand o p → is_some o ≡ is_some p
both_there None None both = refl
both_there None (Some s) both = absurd both
both_there (Some x) None both = absurd both
both_there (Some x) (Some s) both = refl

follow_there : (p q : Option Session) → Follows p q → is_some p ≡ is_some q
follow_there None None follow = refl
follow_there None (Some t) follow = absurd follow
follow_there (Some s) None follow = absurd follow
follow_there (Some s) (Some t) follow = refl

going_before : (o : Option SessionEntry) (y : SessionEntry) (p q : Option Session) → BothStand o p → BothStand (Some y) q → Follows p q → cause_in y ≡ None
    → (x : SessionEntry) × (o ≡ Some x) × (cause_in x ≡ None)
going_before o y p None was now follow none = absurd now
going_before o y None (Some t) was now follow none = absurd follow
going_before None y (Some s) (Some t) was now follow none = absurd was
going_before (Some x) y (Some s) (Some t) was now follow none = (x, refl, sym (cause_of x s was) ∙ follow (cause_of y t now ∙ none))

pub keys_follow : (keys : List Key) (old new : BTreeMap Key SessionEntry) (f g : Key → Option Session) → SessionsStand old f → SessionsStand new g
    → ((key : Key) → Follows (f key) (g key)) → AreKeys keys old → AreKeys keys new
keys_follow keys old new f g was now follow are = record {
  once = are.once;
  there = λ key among.
      both_there (get key_cmp new key) (g key) (now key) ∙ sym (follow_there (f key) (g key) (follow key))
      ∙ sym (both_there (get key_cmp old key) (f key) (was key)) ∙ are.there key among;
  going = λ key y is none.
      let before = going_before (get key_cmp old key) y (f key) (g key) (was key) (subst (λ (o : Option SessionEntry). BothStand o (g key)) is (now key)) (follow key) none in
      are.going key before.0 before.1 before.2;
}

-- ---- keys that are dropped

pub going_any : (keys : List Key) (m : BTreeMap Key SessionEntry) (key : Key)
    → list_any (same_key key) (going_keys keys m) ≡ (is_going (get key_cmp m key) && list_any (same_key key) keys)
going_any keys m key =
    any-filter_same (same_key key) (λ k. is_going (get key_cmp m k)) (is_going (get key_cmp m key))
    (λ k same. ap (λ (q : Key). is_going (get key_cmp m q)) (sym (same_key_is key k same))) keys

and_false : (b c : Bool) → c ≡ false → (b && c) ≡ false
and_false true c e = e
and_false false c e = refl

pub and_left : (b c : Bool) → (b && c) ≡ true → b ≡ true
and_left true c e = refl
and_left false c e = e

and_right : (b c : Bool) → (b && c) ≡ true → c ≡ true
and_right true c e = e
and_right false c e = cc

and_both : (b c : Bool) → b ≡ true → c ≡ true → (b && c) ≡ true
and_both true c e f = f
and_both false c e f = e

none_there : {T : Type 0} (i : ℕ) → i < 0 → T
none_there i small = absurd (omega (arith, small))

going_distinct : (keys : List Key) (m : BTreeMap Key SessionEntry) → AreDistinct keys → AreDistinct (going_keys keys m)
going_distinct keys m distinct =
    subst (λ (ks : List Key). AreDistinct (going_keys ks m)) (take_all (length keys) keys (omega arith)) (up_to (length keys) (omega arith))
  where
    any : Key
    any = record { kind = Management; token = [] }

    more : (n : ℕ) (key : Key) (b : Bool) → AreDistinct (going_keys (take n keys) m) → list_any (same_key key) (take n keys) ≡ false
        → AreDistinct (going_keys (take n keys) m ++ cond b (key ∷ []) [])
    more n key true before fresh =
        distinct_more (going_keys (take n keys) m) key before
        (going_any (take n keys) m key ∙ and_false (is_going (get key_cmp m key)) (list_any (same_key key) (take n keys)) fresh)
    more n key false before fresh = subst (λ (ks : List Key). AreDistinct ks) (sym (append-nil (going_keys (take n keys) m))) before

    up_to : (n : ℕ) → n ≤ length keys → AreDistinct (going_keys (take n keys) m)
    up_to zero within = λ i d small. none_there i small
    up_to (suc n) within =
        subst (λ (ks : List Key). AreDistinct ks)
        (sym (ap (λ (ks : List Key). going_keys ks m) (take-suc keys n any (omega (arith, within)))
        ∙ filter-append (λ k. is_going (get key_cmp m k)) (take n keys) (get_or keys n any ∷ [])))
        (more n (get_or keys n any) (is_going (get key_cmp m (get_or keys n any))) (up_to n (omega (arith, within))) (distinct n any (omega (arith, within))))

none_is : (c : Option Cause) → c ≡ None → is_none c ≡ true
none_is None e = refl
none_is (Some cause) e = cc

pub going_are : (keys : List Key) (m : BTreeMap Key SessionEntry) → AreKeys keys m → AreKeys (going_keys keys m) m
going_are keys m are = record {
  once = going_distinct keys m are.once;
  there = λ key among. are.there key (and_right (is_going (get key_cmp m key)) (list_any (same_key key) keys) (sym (going_any keys m key) ∙ among));
  going = λ key x is none.
      going_any keys m key ∙ and_both (is_going (get key_cmp m key)) (list_any (same_key key) keys) (ap is_going is ∙ none_is (cause_in x) none) (are.going key x is none);
}
