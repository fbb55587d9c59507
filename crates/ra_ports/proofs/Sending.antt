-- How what is sent on a link adds up.
use Rattle.std.proofs.Common.{◌≡◌, ℕ, ◌+◌, ◌-◌, ◌≤◌, List, [], ◌++◌, length, take, drop, Option, Some, sym, ap, subst, ◌∙◌, arith}
use Rattle.std.proofs.lemmas.List.{append_assoc, append-nil, take_rest, length-drop}
use Rattle.std.proofs.Math.Seq.{take-add}
use Rattle.std.proofs.lemmas.Grind.{common_steps}
use Rattle.ra_ports.specs.Links.{Incoming, Sends, SendsFront}

-- nothing
pub sends_nothing : (a : Option (List ℕ)) → Sends a a []
sends_nothing a before is = is ∙ ap Some (sym (append-nil before))

-- one text after another
pub sends_both : (a b c : Option (List ℕ)) (x y : List ℕ) → Sends a b x → Sends b c y → Sends a c (x ++ y)
sends_both a b c x y p q before is = q (before ++ x) (p before is) ∙ ap Some (append_assoc before x y)

-- the first n bytes were sent, and nothing else happened
pub record HasSent (old new : Option (List ℕ)) (was is : Incoming) (before now : ℕ) (bytes : List ℕ) (n : ℕ) : Type 0 where
  pub within : n ≤ length bytes
  pub sent : Sends old new (take n bytes)
  pub same : is ≡ was
  pub faults : before ≤ now

-- one call more
pub sends_more : (a b c : Option (List ℕ)) (i j k : Incoming) (f g h : ℕ) (bytes : List ℕ) (n m : ℕ) → HasSent a b i j f g bytes n
    → m ≤ length (take (length bytes - n) (drop n bytes)) → Sends b c (take m (take (length bytes - n) (drop n bytes))) → k ≡ j → g ≤ h
    → HasSent a c i k f h bytes (n + m)
sends_more a b c i j k f g h bytes n m so_far within sends same later =
    let rest : take (length bytes - n) (drop n bytes) ≡ drop n bytes = take_rest bytes n in
    let fits : m ≤ length (drop n bytes) = rw rest at within in
    let sends-rest : Sends b c (take m (drop n bytes)) = subst (λ (t : List ℕ). Sends b c (take m t)) rest sends in
    record {
      within = omega (arith, fits, so_far.within, length-drop n bytes);
      sent = subst (λ (t : List ℕ). Sends a c t) (sym (take-add n m bytes)) (sends_both a b c (take n bytes) (take m (drop n bytes)) so_far.sent sends-rest);
      same = same ∙ so_far.same;
      faults = omega (arith, so_far.faults, later);
    }

-- a text, and then a front of another
take_behind : (x y : List ℕ) (n : ℕ) → take (length x + n) (x ++ y) ≡ x ++ take n y
take_behind x y n =
    take-add (length x) n (x ++ y)
    ∙ ap (λ (l : List ℕ). take (length x) (x ++ y) ++ take n l) (drop_front x y)
    ∙ ap (λ (l : List ℕ). l ++ take n y) (take_front x y)
  where
    drop_front : (x y : List ℕ) → drop (length x) (x ++ y) ≡ y
    drop_front x y = grind (arith, common_steps)

    take_front : (x y : List ℕ) → take (length x) (x ++ y) ≡ x
    take_front x y = grind (arith, common_steps)

pub sends_front : (a b c : Option (List ℕ)) (x y : List ℕ) → Sends a b x → SendsFront b c y → SendsFront a c (x ++ y)
sends_front a b c x y p q =
    (length x + q.0, subst (λ (l : List ℕ). Sends a c l) (sym (take_behind x y q.0)) (sends_both a b c x (take q.0 y) p q.1))
