-- The earliest of three alarms.
use Rattle.std.proofs.Common.{◌≡◌, ℕ, ◌≤◌, min, Option, Some, None, refl, ap, sym, ◌∙◌, arith, ◌⊎◌, inl, inr}
use Rattle.std.proofs.lemmas.Bool.{cases_lt}
use Rattle.std.proofs.lemmas.Option.{same_Some}
use Rattle.ra_timer.specs.declared.timers.Alarm.{Alarm}
use Rattle.ra_timer.specs.declared.timers.Alarm.TheVariants.{Acknowledge, Timeout, KeepAlive}
use Rattle.ra_timer.specs.Armed.{Armed, alarm_of, earlier, IsEarliest}

one_of : (a b : ℕ) → (min a b ≡ a) ⊎ (min a b ≡ b)
one_of a b = elim (cases_lt a b) [ inl less ↦ inl (omega arith) | inr more ↦ inr (omega arith) ]

abbrev three : Option ℕ → Option ℕ → Option ℕ → Armed
three a t k = record { acknowledge = a; timeout = t; keep_alive = k }

-- no alarm is before this moment
bound : (at : ℕ) (a t k : Option ℕ) → ((m : ℕ) → a ≡ Some m → at ≤ m) → ((m : ℕ) → t ≡ Some m → at ≤ m) → ((m : ℕ) → k ≡ Some m → at ≤ m)
    → (which : Alarm) (moment : ℕ) → alarm_of which (three a t k) ≡ Some moment → at ≤ moment
bound at a t k on_a on_t on_k Acknowledge = on_a
bound at a t k on_a on_t on_k Timeout = on_t
bound at a t k on_a on_t on_k KeepAlive = on_k

low : (at a : ℕ) → at ≤ a → (m : ℕ) → Some a ≡ Some m → at ≤ m
low at a h m is = let same : a ≡ m = same_Some a m is in omega arith

absent : (at m : ℕ) → None ≡ Some m → at ≤ m
absent at m is = cc

some : (at a : ℕ) → at ≡ a → Some a ≡ Some at
some at a is = ap (λ (n : ℕ). Some n) (sym is)

pub earliest_of : (a t k : Option ℕ) → IsEarliest (three a t k) (earlier a (earlier t k))
earliest_of None None None = refl
earliest_of None None (Some k) = ((KeepAlive, refl), bound k None None (Some k) (absent k) (absent k) (low k k (omega arith)))
earliest_of None (Some t) None = ((Timeout, refl), bound t None (Some t) None (absent t) (low t t (omega arith)) (absent t))
earliest_of None (Some t) (Some k) =
    let m : ℕ = min t k in
    (elim (one_of t k) [ inl is ↦ (Timeout, some m t is) | inr is ↦ (KeepAlive, some m k is) ], bound m None (Some t) (Some k) (absent m) (low m t (omega arith)) (low m k (omega arith)))
earliest_of (Some a) None None = ((Acknowledge, refl), bound a (Some a) None None (low a a (omega arith)) (absent a) (absent a))
earliest_of (Some a) None (Some k) =
    let m : ℕ = min a k in
    (elim (one_of a k) [ inl is ↦ (Acknowledge, some m a is) | inr is ↦ (KeepAlive, some m k is) ], bound m (Some a) None (Some k) (low m a (omega arith)) (absent m) (low m k (omega arith)))
earliest_of (Some a) (Some t) None =
    let m : ℕ = min a t in
    (elim (one_of a t) [ inl is ↦ (Acknowledge, some m a is) | inr is ↦ (Timeout, some m t is) ], bound m (Some a) (Some t) None (low m a (omega arith)) (low m t (omega arith)) (absent m))
earliest_of (Some a) (Some t) (Some k) =
    let m : ℕ = min a (min t k) in (
      elim (one_of a (min t k)) [
        | inl is ↦ (Acknowledge, some m a is)
        | inr is ↦ elim (one_of t k) [ inl also ↦ (Timeout, some m t (is ∙ also)) | inr also ↦ (KeepAlive, some m k (is ∙ also)) ]
      ],
      bound m (Some a) (Some t) (Some k) (low m a (omega arith)) (low m t (omega arith)) (low m k (omega arith)),
    )
