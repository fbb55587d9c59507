-- Calls that make no hop are refused at once.
use Rattle.std.proofs.Common.{◌≡◌, ℕ, Bool, true, false, true≢false, cond, zero, suc, List, [], ◌∷◌, ◌++◌, length, refl, sym, ap, subst, ◌∙◌}
use Rattle.std.specs.Prelude.{ℤ}
use Rattle.ra_values.specs.declared.value.Value.{Value}
use Rattle.std.specs.Prelude.{slice_get, Option, Some, None, nat_lt}
use Rattle.std.proofs.lemmas.Bool.{ltb-true}
use Rattle.ra_router.specs.declared.ask.Ask.{Ask}
use Rattle.ra_router.specs.declared.ask.Ask.TheVariants.{BadTo, To, Next, Reply, BadReply}
use Rattle.ra_router.specs.declared.ask.Step.{Step}
use Rattle.ra_router.specs.declared.ask.Said.TheVariants.{Full}
use Rattle.ra_router.specs.Hops.{Placed, Given, hops, hops_for, nexts_of, hop_limit, is_to, is_next, give, given_by, open_hop, settle, hand_over, hand_on}
use Rattle.ra_router.specs.Routes.{OthersRefused, OthersRefusedThere, IsNoHop, refusal, is_call}
use Rattle.ra_router.proofs.Placed.{same_some, get_left, grows_hops, stays}
use Rattle.ra_router.proofs.Answered.{next_there, and_left, delivery_is}
use Rattle.ra_router.proofs.Settled.{mk, same_step, open_is, splits}
use Rattle.ra_router.proofs.Nexts.{is_here, hop_gained}

abbrev IsRefused : List Step → ℕ → ℕ → Step → Given → Type 0
IsRefused xs p n s g = (p ≡ n) × (g ≡ give (record { place = n; step = s }) (refusal s.ask))

not_call : (a : Ask) → is_call a ≡ true → is_next a ≡ true → ⊥
not_call BadTo c n = true≢false (sym n)
not_call (To w v) c n = true≢false (sym n)
not_call Next c n = true≢false (sym c)
not_call (Reply h g v) c n = true≢false (sym c)
not_call BadReply c n = true≢false (sym c)

-- the refusal stands at the call itself
here_refused : (past rest : List Step) (x : Step) (n : ℕ) (s : Step) (g : Given) → slice_get (past ++ x ∷ rest) n ≡ Some s
    → give (record { place = length past; step = x }) (refusal x.ask) ≡ g → g.call ≡ n → IsRefused (past ++ x ∷ rest) (length past) n s g
here_refused past rest x n s g e is call =
    let at = ap (λ (k : Given). k.call) is ∙ call in (
      at,
      sym is ∙ ap (λ p. give (record { place = p; step = x }) (refusal x.ask)) at
          ∙ ap (λ (y : Step). give (record { place = n; step = y }) (refusal y.ask)) (is_here past rest x n s e at),
    )

not_here : (past rest : List Step) (x : Step) (n : ℕ) (s : Step) (g h : Given) → is_call x.ask ≡ false → slice_get (past ++ x ∷ rest) n ≡ Some s → is_call s.ask ≡ true
    → h.call ≡ length past → ◌≡◌ {A = Option Given} (Some h) (Some g) → g.call ≡ n → ⊥
not_here past rest x n s g h other e is_it at is call =
    let here = sym at ∙ ap (λ (k : Given). k.call) (same_some h g is) ∙ call in
    true≢false (sym is_it ∙ ap (λ (y : Step). is_call y.ask) (sym (is_here past rest x n s e here)) ∙ other)

over_call : (past rest : List Step) (x : Step) (w : List ℕ) (k number : ℕ) (arg : Value) (n : ℕ) (s : Step) (g : Given) (j : ℕ) → slice_get (past ++ x ∷ rest) n ≡ Some s → is_call s.ask ≡ true → g.call ≡ n
    → (o : Option Placed) → slice_get (nexts_of w past) k ≡ o → slice_get (hand_over o number arg) j ≡ Some g → ⊥
over_call past rest x w k number arg n s g j e is_it call None o is = absurd cc
over_call past rest x w k number arg n s g zero e is_it call (Some next) o is =
    let t = next_there w past k next o in
    let at = ap (λ (k : Given). k.call) (same_some _ g is) ∙ call in
    let same = same_step (past ++ x ∷ rest) next.place n next.step s (get_left past (x ∷ rest) next.place next.step t.0) e at in
    not_call s.ask is_it (ap (λ (y : Step). is_next y.ask) (sym same) ∙ and_left _ _ t.1)
over_call past rest x w k number arg n s g (suc j) e is_it call (Some next) o is = absurd cc

to_refused : (past rest : List Step) (from : List ℕ) (id : ℤ) (w : List ℕ) (arg : Value) (n : ℕ) (s : Step) (g : Given) (j : ℕ) → slice_get (past ++ mk from id (To w arg) ∷ rest) n ≡ Some s → is_call s.ask ≡ true → g.call ≡ n
    → (b : Bool) → nat_lt (length (hops past)) hop_limit ≡ b
    → slice_get (cond b (hand_over (slice_get (nexts_of w past) (length (hops_for w past))) (length (hops past)) arg)
    (give (record { place = length past; step = mk from id (To w arg) }) Full ∷ [])) j ≡ Some g → IsRefused (past ++ mk from id (To w arg) ∷ rest) (length past) n s g
to_refused past rest from id w arg n s g j e is_it call true b is = absurd (over_call past rest (mk from id (To w arg)) w _ (length (hops past)) arg n s g j e is_it call _ refl is)
to_refused past rest from id w arg n s g zero e is_it call false b is = here_refused past rest (mk from id (To w arg)) n s g e (same_some _ g is) call
to_refused past rest from id w arg n s g (suc j) e is_it call false b is = absurd cc

on_call : (past rest : List Step) (from : List ℕ) (id : ℤ) (n : ℕ) (s : Step) (g : Given) (j : ℕ) → slice_get (past ++ mk from id Next ∷ rest) n ≡ Some s → is_call s.ask ≡ true → g.call ≡ n
    → (o : Option Placed) → slice_get (hand_on o past (record { place = length past; step = mk from id Next })) j ≡ Some g → ⊥
on_call past rest from id n s g j e is_it call None is = absurd cc
on_call past rest from id n s g zero e is_it call (Some hop) is = not_here past rest (mk from id Next) n s g _ refl e is_it refl is call
on_call past rest from id n s g (suc j) e is_it call (Some hop) is = absurd cc

settle_call : (past rest : List Step) (from : List ℕ) (id : ℤ) (m : ℕ) (good : Bool) (value : Value) (n : ℕ) (s : Step) (g : Given) (j : ℕ) → slice_get (past ++ mk from id (Reply m good value) ∷ rest) n ≡ Some s → is_call s.ask ≡ true
    → IsNoHop (past ++ mk from id (Reply m good value) ∷ rest) n → g.call ≡ n
    → (o : Option Placed) → open_hop past from m ≡ o → slice_get (settle o good value (record { place = length past; step = mk from id (Reply m good value) })) j ≡ Some g → ⊥
settle_call past rest from id m good value n s g zero e is_it no_hop call None o is = not_here past rest (mk from id (Reply m good value)) n s g _ refl e is_it refl is call
settle_call past rest from id m good value n s g (suc j) e is_it no_hop call None o is = absurd cc
settle_call past rest from id m good value n s g zero e is_it no_hop call (Some hop) o is =
    let i = open_is past from m hop o in
    let d = delivery_is past m i.d i.delivered in
    no_hop m i.d.hop (stays (length past) _ _ (grows_hops past (mk from id (Reply m good value) ∷ rest)) m i.d.hop d.hop)
    (ap (λ (p : Placed). p.place) i.hop ∙ ap (λ (k : Given). k.call) (same_some _ g is) ∙ call)
settle_call past rest from id m good value n s g (suc zero) e is_it no_hop call (Some hop) o is = not_here past rest (mk from id (Reply m good value)) n s g _ refl e is_it refl is call
settle_call past rest from id m good value n s g (suc (suc j)) e is_it no_hop call (Some hop) o is = absurd cc

refused_case : (ask : Ask) (from : List ℕ) (id : ℤ) (past rest : List Step) (n : ℕ) (s : Step) (g : Given) (j : ℕ) → slice_get (past ++ mk from id ask ∷ rest) n ≡ Some s → is_call s.ask ≡ true
    → IsNoHop (past ++ mk from id ask ∷ rest) n → slice_get (given_by ask past (record { place = length past; step = mk from id ask })) j ≡ Some g → g.call ≡ n
    → IsRefused (past ++ mk from id ask ∷ rest) (length past) n s g
refused_case BadTo from id past rest n s g zero e is_it no_hop is call = here_refused past rest (mk from id BadTo) n s g e (same_some _ g is) call
refused_case BadTo from id past rest n s g (suc j) e is_it no_hop is call = absurd cc
refused_case (To w arg) from id past rest n s g j e is_it no_hop is call = to_refused past rest from id w arg n s g j e is_it call (nat_lt (length (hops past)) hop_limit) refl is
refused_case Next from id past rest n s g j e is_it no_hop is call = absurd (on_call past rest from id n s g j e is_it call _ is)
refused_case (Reply m good value) from id past rest n s g j e is_it no_hop is call = absurd (settle_call past rest from id m good value n s g j e is_it no_hop call (open_hop past from m) refl is)
refused_case BadReply from id past rest n s g zero e is_it no_hop is call = absurd (not_here past rest (mk from id BadReply) n s g _ refl e is_it refl is call)
refused_case BadReply from id past rest n s g (suc j) e is_it no_hop is call = absurd cc

pub others_refused : (xs : List Step) → OthersRefused xs
others_refused xs p n s g e is_it no_hop gives call =
    let r = refused_case gives.step.ask gives.step.from gives.step.id gives.past gives.rest n s g gives.index
    (ap (λ l. slice_get l n) (sym gives.whole) ∙ e) is_it (subst (λ l. IsNoHop l n) gives.whole no_hop) gives.among call in
    (sym gives.at ∙ r.0, r.1)

-- ---- and there

to_told : (past rest : List Step) (x : Step) → is_to x.ask ≡ true → IsNoHop (past ++ x ∷ rest) (length past) → (l m : List Given) → (b : Bool) → nat_lt (length (hops past)) hop_limit ≡ b
    → cond b l m ≡ m
to_told past rest x to no_hop l m false b = refl
to_told past rest x to no_hop l m true b =
    absurd (no_hop (length (hops past)) (record { place = length past; step = x }) (hop_gained past rest x to (ltb-true (length (hops past)) hop_limit b)) refl)

refused_here : (ask : Ask) (from : List ℕ) (id : ℤ) (past rest : List Step) → is_call ask ≡ true → IsNoHop (past ++ mk from id ask ∷ rest) (length past)
    → slice_get (given_by ask past (record { place = length past; step = mk from id ask })) 0 ≡ Some (give (record { place = length past; step = mk from id ask }) (refusal ask))
refused_here BadTo from id past rest is_it no_hop = refl
refused_here (To w arg) from id past rest is_it no_hop =
    ap (λ l. slice_get l 0) (to_told past rest (mk from id (To w arg)) refl no_hop _ _ (nat_lt (length (hops past)) hop_limit) refl)
refused_here Next from id past rest is_it no_hop = absurd (true≢false (sym is_it))
refused_here (Reply m good value) from id past rest is_it no_hop = absurd (true≢false (sym is_it))
refused_here BadReply from id past rest is_it no_hop = absurd (true≢false (sym is_it))

pub others_refused_there : (xs : List Step) → OthersRefusedThere xs
others_refused_there xs n s e is_it no_hop =
    let t = splits xs n s e in
    record {
      past = t.past;
      step = s;
      rest = t.rest;
      whole = t.whole;
      at = t.at;
      index = 0;
      among = refused_here s.ask s.from s.id t.past t.rest is_it (λ h c is same. no_hop h c (ap (λ l. slice_get (hops l) h) t.whole ∙ is) (same ∙ t.at))
          ∙ ap (λ p. Some (give (record { place = p; step = s }) (refusal s.ask))) t.at;
    }
