-- Bytes that a client writes on a link: none of them, and some after others.
use Rattle.std.proofs.Common.{◌≡◌, ℕ, Bool, true, false, cond, List, [], ◌++◌, ap, append-nil, append_assoc}
use Rattle.ra_base.specs.declared.event.Side.TheVariants.{B}
use Rattle.ra_model.specs.Links.{Link, written_to}
use Rattle.ra_grand_runs.specs.GrandClients.{GrandLink, writes_up}

none_if : (cut : Bool) (w : List ℕ) → w ++ cond cut [] [] ≡ w
none_if true w = append-nil w
none_if false w = append-nil w

both_if : (cut : Bool) (w a b : List ℕ) → (w ++ cond cut [] a) ++ cond cut [] b ≡ w ++ cond cut [] (a ++ b)
both_if true w a b = append-nil (w ++ [])
both_if false w a b = append_assoc w _ _

pub nothing_up : (l : Link) → written_to B [] l ≡ l
nothing_up l = ap (λ w. record { to_a = l.to_a; to_b = record { written = w; read = l.to_b.read }; is_cut = l.is_cut }) (none_if l.is_cut l.to_b.written)

pub both_up : (a b : List ℕ) (l : Link) → written_to B b (written_to B a l) ≡ written_to B (a ++ b) l
both_up a b l = ap (λ w. record { to_a = l.to_a; to_b = record { written = w; read = l.to_b.read }; is_cut = l.is_cut }) (both_if l.is_cut l.to_b.written a b)

pub both_links : (a b : List ℕ) (l : GrandLink) → writes_up b (writes_up a l) ≡ writes_up (a ++ b) l
both_links a b l = ap (λ (x : Link). record l { link = x }) (both_up a b l.link)

pub nothing_link : (l : GrandLink) → writes_up [] l ≡ l
nothing_link l = ap (λ (x : Link). record l { link = x }) (nothing_up l.link)
