-- Maps of sessions, and what they stand for.
use Rattle.std.proofs.Common.{◌≡◌, Bool, true, false, cond, Option, None, Some, refl, sym, ap, subst, ◌∙◌}
use Rattle.std.specs.BTreeMap.{BTreeMap, get}
use Rattle.ra_base.specs.Keys.{key_cmp}
use Rattle.ra_base.specs.declared.key.Key.{Key}
use Rattle.ra_registry.specs.Rows.{same_key}
use Rattle.ra_registry.proofs.SameKeys.{same_key_is, same_key_itself}
use Rattle.ra_session.specs.Sessions.{Session}
use Rattle.ra_hub.specs.declared.entry.SessionEntry.{SessionEntry}
use Rattle.ra_hub.specs.Entries.{EntryStands}
use Rattle.ra_hub.specs.Hubs.{with_session}
use Rattle.ra_hub.specs.Standing.{AtSession, BothStand, SessionsStand}

none_of : (p : Option Session) → BothStand None p → p ≡ None
none_of None both = refl
none_of (Some s) both = absurd both

some_of : (x : SessionEntry) (p : Option Session) → BothStand (Some x) p → (s : Session) × (p ≡ Some s) × EntryStands x s
some_of x None both = absurd both
some_of x (Some s) both = (s, refl, both)

state_of : (o : Option SessionEntry) (s : Session) → BothStand o (Some s) → (x : SessionEntry) × (o ≡ Some x) × EntryStands x s
state_of None s both = absurd both
state_of (Some x) s both = (x, refl, both)

no_state : (o : Option SessionEntry) → BothStand o None → o ≡ None
no_state None both = refl
no_state (Some x) both = absurd both

-- a session that is there is there in memory
pub in_memory : (sessions : BTreeMap Key SessionEntry) (f : Key → Option Session) (key : Key) (s : Session) → SessionsStand sessions f → f key ≡ Some s
    → (x : SessionEntry) × (get key_cmp sessions key ≡ Some x) × EntryStands x s
in_memory sessions f key s stand is =
    state_of (get key_cmp sessions key) s (subst (λ (p : Option Session). BothStand (get key_cmp sessions key) p) is (stand key))

-- what a call of one session makes of the sessions that a map stands for
pub stand_at : (old new : BTreeMap Key SessionEntry) (key : Key) (P : SessionEntry → SessionEntry → Type 0) (f g : Key → Option Session)
    → AtSession old new key P → SessionsStand old f
    → ((x y : SessionEntry) (s : Session) → f key ≡ Some s → EntryStands x s → P x y → BothStand (Some y) (g key))
    → (f key ≡ None → g key ≡ None)
    → ((other : Key) → same_key key other ≡ false → g other ≡ f other)
    → SessionsStand new g
stand_at old new key P f g called stand changed absent others other = at (same_key key other) refl
  where
    there : (x : SessionEntry) (p : Option Session) → get key_cmp old key ≡ Some x → f key ≡ p → BothStand (Some x) p → BothStand (get key_cmp new key) (g key)
    there x None is at both = absurd both
    there x (Some s) is at both =
        let done = called.there x is in
        let now : get key_cmp new key ≡ Some done.0 =
        done.1 key ∙ ap (λ (b : Bool). cond b (Some done.0) (get key_cmp old key)) (same_key_itself key) in
        subst (λ (o : Option SessionEntry). BothStand o (g key)) (sym now) (changed x done.0 s at both done.2)

    here : (o : Option SessionEntry) → get key_cmp old key ≡ o → BothStand o (f key) → BothStand (get key_cmp new key) (g key)
    here None is both =
        subst (λ (o : Option SessionEntry). BothStand o (g key)) (sym (called.none is key ∙ is))
        (subst (λ (p : Option Session). BothStand None p) (sym (absent (none_of (f key) both))) tt)
    here (Some x) is both = there x (f key) is refl both

    kept : (o : Option SessionEntry) → get key_cmp old key ≡ o → same_key key other ≡ false → get key_cmp new other ≡ get key_cmp old other
    kept None is apart = called.none is other
    kept (Some x) is apart =
        let done = called.there x is in
        done.1 other ∙ ap (λ (b : Bool). cond b (Some done.0) (get key_cmp old other)) apart

    at : (b : Bool) → same_key key other ≡ b → BothStand (get key_cmp new other) (g other)
    at true same =
        subst (λ (k : Key). BothStand (get key_cmp new k) (g k)) (same_key_is key other same) (here (get key_cmp old key) refl (stand key))
    at false apart =
        subst (λ (o : Option SessionEntry). BothStand o (g other)) (sym (kept (get key_cmp old key) refl apart))
        (subst (λ (p : Option Session). BothStand (get key_cmp old other) p) (sym (others other apart)) (stand other))

-- a session that is set
pub stand_set : (old new : BTreeMap Key SessionEntry) (key : Key) (P : SessionEntry → SessionEntry → Type 0) (f : Key → Option Session) (s t : Session)
    → AtSession old new key P → SessionsStand old f → f key ≡ Some s
    → ((x y : SessionEntry) → EntryStands x s → P x y → EntryStands y t)
    → SessionsStand new (with_session key t f)
stand_set old new key P f s t called stand is becomes =
    stand_at old new key P f (with_session key t f) called stand
    (λ x y r at to holds.
    subst (λ (b : Bool). BothStand (Some y) (cond b (Some t) (f key))) (sym (same_key_itself key))
    (becomes x y (subst (λ (q : Session). EntryStands x q) (session_is r s (sym at ∙ is)) to) holds))
    (λ none. no_both s (sym is ∙ none))
    (λ other apart. ap (λ (b : Bool). cond b (Some t) (f other)) apart)
  where
    from : Session → Option Session → Session
    from d None = d
    from d (Some q) = q

    session_is : (a b : Session) → Some a ≡ Some b → a ≡ b
    session_is a b e = ap (λ (o : Option Session). from a o) e

    no_both : {T : Type 0} (q : Session) → Some q ≡ None → T
    no_both q e = cc

-- a session that stays as it was
pub stand_same : (old new : BTreeMap Key SessionEntry) (key : Key) (P : SessionEntry → SessionEntry → Type 0) (f : Key → Option Session)
    → AtSession old new key P → SessionsStand old f
    → ((x y : SessionEntry) → P x y → y ≡ x)
    → SessionsStand new f
stand_same old new key P f called stand same =
    stand_at old new key P f f called stand
    (λ x y r at to holds.
    subst (λ (p : Option Session). BothStand (Some y) p) (sym at) (subst (λ (z : SessionEntry). EntryStands z r) (sym (same x y holds)) to))
    (λ none. none)
    (λ other apart. refl)
