-- How what is taken of a link and what is sent on one add up.
use Rattle.std.proofs.Common.{◌≡◌, ◌≢◌, suc, true≢false, ℕ, ◌+◌, ◌≤◌, List, [], ◌++◌, take, drop, refl, sym, ap, subst, ◌∙◌, arith}
use Rattle.std.specs.Prelude.{Option, Some, Ok}
use Rattle.std.proofs.lemmas.List.{append_assoc, append-nil, take-append-drop}
use Rattle.ra_ports.specs.Causes.{Rose}
use Rattle.std.proofs.lemmas.Bool.{eqb-true, eq-eqb}
use Rattle.ra_ports.specs.Links.{Incoming, Takes, Sends, SendsFront, got_bytes}
use Rattle.ra_ports.specs.declared.link.Got.{Got}
use Rattle.ra_ports.specs.declared.link.Got.TheVariants.{Bytes}
use Rattle.ra_tunnel.specs.Pipes.{Side, PipesWhole, PipesPrefix, Piped}
use Rattle.ra_tunnel.specs.Turns.{raised, AreAsked, TurnsTo}
use Rattle.std.specs.Prelude.{Bool, true, false, ◌==◌, ◌/◌, ◌%◌, if◌then◌else◌}
use Rattle.ra_ports.specs.Causes.{next_count}

pub sends_none : (a : Option (List ℕ)) → Sends a a []
sends_none a before e = e ∙ ap Some (sym (append-nil before))

pub sends_more : (a b c : Option (List ℕ)) (x y : List ℕ) → Sends a b x → Sends b c y → Sends a c (x ++ y)
sends_more a b c x y f g before e = g (before ++ x) (f before e) ∙ ap Some (append_assoc before x y)

pub takes_none : (a : Option (List ℕ)) → Takes a a []
takes_none a input e = (input, refl, e)

pub takes_more : (a b c : Option (List ℕ)) (x y : List ℕ) → Takes a b x → Takes b c y → Takes a c (x ++ y)
takes_more a b c x y f g input e =
    let r = f input e in let s = g r.0 r.2 in
    (s.0, r.1 ∙ ap (λ l. x ++ l) s.1 ∙ sym (append_assoc x y s.0), s.2)

pub whole_prefix : (f fn t tn : Side) → PipesWhole f fn t tn → PipesPrefix f fn t tn
whole_prefix f fn t tn w = (w.0, [], subst (λ l. Takes f.incoming.left fn.incoming.left l) (sym (append-nil w.0)) w.1, w.2)

pub lost_prefix : (f fn t tn : Side) (piece : List ℕ) → Takes f.incoming.left fn.incoming.left piece → SendsFront t.sent tn.sent piece → PipesPrefix f fn t tn
lost_prefix f fn t tn piece r s =
    (take s.0 piece, drop s.0 piece, subst (λ l. Takes f.incoming.left fn.incoming.left l) (sym (take-append-drop s.0 piece)) r, s.1)

pub whole_more : (a b c x y z : Side) → PipesWhole a b x y → PipesWhole b c y z → PipesWhole a c x z
whole_more a b c x y z v w =
    (v.0 ++ w.0, takes_more a.incoming.left b.incoming.left c.incoming.left v.0 w.0 v.1 w.1, sends_more x.sent y.sent z.sent v.0 w.0 v.2 w.2)

pub prefix_more : (a b c x y z : Side) → PipesWhole a b x y → PipesPrefix b c y z → PipesPrefix a c x z
prefix_more a b c x y z v w = (
  v.0 ++ w.0,
  w.1,
  subst (λ l. Takes a.incoming.left c.incoming.left l) (sym (append_assoc v.0 w.0 w.1))
      (takes_more a.incoming.left b.incoming.left c.incoming.left v.0 (w.0 ++ w.1) v.1 w.2),
  sends_more x.sent y.sent z.sent v.0 w.0 v.2 w.3,
)

pub bytes_got : (lo ln : Option (List ℕ)) (f : Got) (n : ℕ) (into : List ℕ) → f ≡ Bytes n → Takes lo ln (got_bytes (Ok f) into) → Takes lo ln (take n into)
bytes_got lo ln f n into is r = subst (λ k. Takes lo ln (got_bytes (Ok k) into)) is r

pub nothing_got : (lo ln : Option (List ℕ)) (f g : Got) (into : List ℕ) → f ≡ g → Takes lo ln (got_bytes (Ok f) into) → Takes lo ln (got_bytes (Ok g) into)
nothing_got lo ln f g into is r = subst (λ k. Takes lo ln (got_bytes (Ok k) into)) is r

pub whole_nothing : (f fn t tn : Side) → Takes f.incoming.left fn.incoming.left [] → tn.sent ≡ t.sent → PipesWhole f fn t tn
whole_nothing f fn t tn r s = ([], r, subst (λ x. Sends t.sent x []) (sym s) (sends_none t.sent))

pub whole_still : (f fn t tn : Side) → fn.incoming.left ≡ f.incoming.left → tn.sent ≡ t.sent → PipesWhole f fn t tn
whole_still f fn t tn k s = whole_nothing f fn t tn (subst (λ x. Takes f.incoming.left x []) (sym k) (takes_none f.incoming.left)) s

-- a turn from the client, and one from the target
pub piped_up : (c cn t tn : Side) (W : Type 0) → (W → PipesWhole c cn t tn) → PipesPrefix c cn t tn → tn.incoming ≡ t.incoming → cn.sent ≡ c.sent → Piped c cn t tn W
piped_up c cn t tn W whole part left sent =
    let still : PipesWhole t tn c cn = whole_still t tn c cn (ap (λ (i : Incoming). i.left) left) sent in
    record { up = whole; down = λ _. still; up_prefix = part; down_prefix = whole_prefix t tn c cn still }

pub piped_down : (c cn t tn : Side) (W : Type 0) → (W → PipesWhole t tn c cn) → PipesPrefix t tn c cn → cn.incoming ≡ c.incoming → tn.sent ≡ t.sent → Piped c cn t tn W
piped_down c cn t tn W whole part left sent =
    let still : PipesWhole c cn t tn = whole_still c cn t tn (ap (λ (i : Incoming). i.left) left) sent in
    record { up = λ _. still; down = whole; down_prefix = part; up_prefix = whole_prefix c cn t tn still }

pub piped_none : (c t : Side) (W : Type 0) → Piped c c t t W
piped_none c t W = piped_up c c t t W (λ _. whole_still c c t t refl refl) (whole_prefix c c t t (whole_still c c t t refl refl)) refl refl

pub piped_more : (c cm cn t tm tn : Side) (V W : Type 0) → V → Piped c cm t tm V → Piped cm cn tm tn W → Piped c cn t tn W
piped_more c cm cn t tm tn V W v p q = record {
  up = λ w. whole_more c cm cn t tm tn (p.up v) (q.up w);
  down = λ w. whole_more t tm tn c cm cn (p.down v) (q.down w);
  up_prefix = prefix_more c cm cn t tm tn (p.up v) q.up_prefix;
  down_prefix = prefix_more t tm tn c cm cn (p.down v) q.down_prefix;
}

pub rose_earlier : (a b n : ℕ) → a ≤ b → Rose b n → Rose a n
rose_earlier a b n le r = omega arith

-- one turn more
asked_on : (b : Bool) (n c cn cm t tn tm : ℕ) → ((n % 2) == 0) ≡ b → AreAsked n c cn t tn
    → (cm ≡ (if b then next_count cn else cn)) × (tm ≡ (if b then tn else next_count tn)) → AreAsked (n + 1) c cm t tm
asked_on true n c cn cm t tn tm e k q =
    let z : n % 2 ≡ 0 = eqb-true (n % 2) 0 e in
    let up : (n + 1 + 1) / 2 ≡ suc ((n + 1) / 2) = omega (arith, z) in
    let same : (n + 1) / 2 ≡ n / 2 = omega (arith, z) in
    (q.0 ∙ ap next_count k.0 ∙ ap (λ m. raised m c) (sym up), q.1 ∙ k.1 ∙ ap (λ m. raised m t) (sym same))
asked_on false n c cn cm t tn tm e k q =
    let z : n % 2 ≢ 0 = λ h. true≢false (sym (eq-eqb (n % 2) 0 h) ∙ e) in
    let up : (n + 1) / 2 ≡ suc (n / 2) = omega (arith, z) in
    let same : (n + 1 + 1) / 2 ≡ (n + 1) / 2 = omega (arith, z) in
    (q.0 ∙ k.0 ∙ ap (λ m. raised m c) (sym same), q.1 ∙ ap next_count k.1 ∙ ap (λ m. raised m t) (sym up))

pub asked_more : (n c cn cm t tn tm : ℕ) → AreAsked n c cn t tn → TurnsTo n cn cm tn tm → AreAsked (n + 1) c cm t tm
asked_more n c cn cm t tn tm k q = asked_on ((n % 2) == 0) n c cn cm t tn tm refl k q
