-- The places of links, and the server's ends at them.
use Rattle.std.proofs.Common.{◌≡◌, inl, inr, ℕ, zero, suc, Option, Some, None, List, [], ◌∷◌, ◌++◌, length, map, refl, ap, sym, ◌∙◌, subst}
use Rattle.std.specs.Prelude.{◌⊎◌, ◌≢◌, slice_get, slice_set}
use Rattle.ra_model.specs.Links.{at_number, put_number}
use Rattle.ra_grand_runs.specs.GrandClients.{ServerEnd, GrandLink, Client, ends_of}
use Rattle.ra_grand_runs.specs.Grands.{Place, with_link}
use Rattle.ra_grand_server.specs.ServerStates.{ServedState, EndStands, EndsStand, IsNoneOf, AllDiffer, place_of, end_of, end_at}
use Rattle.ra_grand_runs.proofs.KeptClients.{none_there, there_is, put_other}
use Rattle.ra_grand_runs.proofs.NumberLemmas.{same_or_not, number_same, number_map, put_map}

-- ---- another end at a place

place_is : (p : Place) (c k : ℕ) → c ≡ p.client → k ≡ p.link → p ≡ record { client = c; link = k }
place_is p c k is also =
    sym (ap (λ (n : ℕ). record { client = n; link = k }) is ∙ ap (λ (n : ℕ). record { client = p.client; link = n }) also)

other_by : (ends : List (List ServerEnd)) (es : List ServerEnd) (e : ServerEnd) (c k : ℕ) (p : Place) → (c ≡ p.client) ⊎ (c ≡ p.client → ⊥) → at_number ends c ≡ Some es
    → (p ≢ record { client = c; link = k }) → end_at p (put_number ends c (put_number es k e)) ≡ end_at p ends
other_by ends es e c k p (inl is) there ne =
    let new : at_number (put_number ends c (put_number es k e)) p.client ≡ Some (put_number es k e) =
    ap (λ (n : ℕ). at_number (put_number ends c (put_number es k e)) n) (sym is) ∙ number_same ends c (put_number es k e) es there in
    let old : at_number ends p.client ≡ Some es = ap (λ (n : ℕ). at_number ends n) (sym is) ∙ there in
    ap (λ (o : Option (List ServerEnd)). end_of p.link o) new
    ∙ put_other es k p.link e (λ also. ne (place_is p c k is also))
    ∙ ap (λ (o : Option (List ServerEnd)). end_of p.link o) (sym old)
other_by ends es e c k p (inr not) there ne = ap (λ (o : Option (List ServerEnd)). end_of p.link o) (put_other ends c p.client (put_number es k e) not)

pub other_end : (ends : List (List ServerEnd)) (es : List ServerEnd) (e : ServerEnd) (c k : ℕ) (p : Place) → at_number ends c ≡ Some es
    → (p ≢ record { client = c; link = k }) → end_at p (put_number ends c (put_number es k e)) ≡ end_at p ends
other_end ends es e c k p there ne = other_by ends es e c k p (same_or_not c p.client) there ne

-- ---- the ends, with one link changed

none_of : (place : Place) (ls : List ServedState) (n : ℕ) (l : ServedState) → IsNoneOf place (map place_of ls) → slice_get ls n ≡ Some l → place ≢ place_of l
none_of place [] n l none is = none_there is
none_of place (x ∷ ls) zero l none is = λ e. none.0 (e ∙ ap place_of (sym (there_is is)))
none_of place (x ∷ ls) (suc n) l none is = none_of place ls n l none.1 is

rest_stand : (place : Place) (ls : List ServedState) (ends ends' : List (List ServerEnd)) → IsNoneOf place (map place_of ls)
    → ((p : Place) → p ≢ place → end_at p ends' ≡ end_at p ends) → EndsStand ls ends → EndsStand ls ends'
rest_stand place [] ends ends' none same stand = stand
rest_stand place (x ∷ ls) ends ends' none same stand = (
  subst (λ (o : Option ServerEnd). EndStands x o) (sym (same (place_of x) (λ e. none.0 (sym e)))) stand.0,
  rest_stand place ls ends ends' none.1 same stand.1,
)

pub ends_put : (ls : List ServedState) (n : ℕ) (l l' : ServedState) (ends ends' : List (List ServerEnd)) → slice_get ls n ≡ Some l → place_of l' ≡ place_of l → AllDiffer (map place_of ls)
    → ((p : Place) → p ≢ place_of l → end_at p ends' ≡ end_at p ends) → EndStands l' (end_at (place_of l) ends') → EndsStand ls ends → EndsStand (slice_set ls n l') ends'
ends_put [] n l l' ends ends' is at differ same new stand = stand
ends_put (x ∷ ls) zero l l' ends ends' is at differ same new stand = (
  subst (λ (p : Place). EndStands l' (end_at p ends')) (sym at) new,
  rest_stand (place_of l) ls ends ends' (subst (λ (y : ServedState). IsNoneOf (place_of y) (map place_of ls)) (there_is is) differ.0) same stand.1,
)
ends_put (x ∷ ls) (suc n) l l' ends ends' is at differ same new stand = (
  subst (λ (o : Option ServerEnd). EndStands x o) (sym (same (place_of x) (none_of (place_of x) ls n l differ.0 is))) stand.0,
  ends_put ls n l l' ends ends' is at differ.1 same new stand.1,
)

pub places_put : (ls : List ServedState) (n : ℕ) (l l' : ServedState) → slice_get ls n ≡ Some l → place_of l' ≡ place_of l → map place_of (slice_set ls n l') ≡ map place_of ls
places_put [] n l l' is at = refl
places_put (x ∷ ls) zero l l' is at = ap (λ p. p ∷ map place_of ls) (at ∙ ap place_of (sym (there_is is)))
places_put (x ∷ ls) (suc n) l l' is at = ap (λ ps. place_of x ∷ ps) (places_put ls n l l' is at)

pub end_there : (ls : List ServedState) (n : ℕ) (l : ServedState) (ends : List (List ServerEnd)) → slice_get ls n ≡ Some l → EndsStand ls ends → EndStands l (end_at (place_of l) ends)
end_there [] n l ends is stand = none_there is
end_there (x ∷ ls) zero l ends is stand = subst (λ (y : ServedState). EndStands y (end_at (place_of y) ends)) (there_is is) stand.0
end_there (x ∷ ls) (suc n) l ends is stand = end_there ls n l ends is stand.1

-- ---- the ends of a world with one link changed

pub ends_of_put : (cs : List Client) (c : Client) (l : GrandLink) (n k : ℕ)
    → map ends_of (put_number cs n (with_link k l c)) ≡ put_number (map ends_of cs) n (put_number (ends_of c) k l.server)
ends_of_put cs c l n k =
    put_map ends_of cs n (with_link k l c) ∙ ap (λ (es : List ServerEnd). put_number (map ends_of cs) n es) (put_map (λ (x : GrandLink). x.server) c.links k l)

pub end_put : (cs : List Client) (c : Client) (old l : GrandLink) (n k : ℕ) → at_number cs n ≡ Some c → at_number c.links k ≡ Some old
    → end_at (record { client = n; link = k }) (map ends_of (put_number cs n (with_link k l c))) ≡ Some l.server
end_put cs c old l n k there is =
    let ends = map ends_of cs in
    ap (λ (es : List (List ServerEnd)). end_at (record { client = n; link = k }) es) (ends_of_put cs c l n k)
    ∙ ap (λ (o : Option (List ServerEnd)). end_of k o) (number_same ends n (put_number (ends_of c) k l.server) (ends_of c) (number_map ends_of cs n c there))
    ∙ number_same (ends_of c) k l.server old.server (number_map (λ (x : GrandLink). x.server) c.links k old is)

pub end_kept : (cs : List Client) (c : Client) (l : GrandLink) (n k : ℕ) (p : Place) → at_number cs n ≡ Some c → (p ≢ record { client = n; link = k })
    → end_at p (map ends_of (put_number cs n (with_link k l c))) ≡ end_at p (map ends_of cs)
end_kept cs c l n k p there ne =
    ap (λ (es : List (List ServerEnd)). end_at p es) (ends_of_put cs c l n k)
    ∙ other_end (map ends_of cs) (ends_of c) l.server n k p (number_map ends_of cs n c there) ne

-- ---- one place more

no_end : (l : ServedState) (o : Option ServerEnd) → o ≡ None → EndStands l o → ⊥
no_end l None is stands = stands
no_end l (Some e) is stands = absurd cc

none_more : (place new : Place) (places : List Place) → place ≢ new → IsNoneOf place places → IsNoneOf place (places ++ new ∷ [])
none_more place new [] ne none = (ne, tt {0})
none_more place new (p ∷ places) ne none = (none.0, none_more place new places ne none.1)

-- where no end was, a link may be made
pub apart_more : (ls : List ServedState) (ends : List (List ServerEnd)) (new : Place) → EndsStand ls ends → AllDiffer (map place_of ls) → end_at new ends ≡ None
    → AllDiffer (map place_of ls ++ new ∷ [])
apart_more [] ends new stand differ none = (tt {0}, tt {0})
apart_more (l ∷ ls) ends new stand differ none = (
  none_more (place_of l) new (map place_of ls) (λ e. no_end l (end_at (place_of l) ends) (ap (λ (p : Place). end_at p ends) e ∙ none) stand.0) differ.0,
  apart_more ls ends new stand.1 differ.1 none,
)

-- no end is behind the last
pub past_all : (es : List ServerEnd) → at_number es (suc (length es)) ≡ None
past_all [] = refl
past_all (e ∷ es) = past_all es
