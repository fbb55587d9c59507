-- All that an endpoint in memory shows is taken.
use Rattle.std.proofs.Common.{◌≡◌, ℕ, ◌≤◌, Bool, true, false, cond, List, [], length, drop, refl, ap, sym, ◌∙◌, subst, arith}
use Rattle.std.proofs.lemmas.Bool.{le-leb}
use Rattle.std.proofs.Math.Seq.{drop-length}
use Rattle.ra_model.specs.Endpoints.{Endpoint, shown}
use Rattle.ra_model.specs.Calls.{wrote}
use Rattle.ra_model.specs.EndpointStates.{EndpointState, StandsFor}
use Rattle.ra_model.proofs.Stands.{wrote_stands}
use Rattle.ra_proto.specs.Shown.{shown_of, emptied}

rest : (b : Bool) (bytes : List ℕ) → drop (length (cond b [] bytes)) bytes ≡ cond b bytes []
rest true bytes = refl
rest false bytes = drop-length bytes

pub taken_stands : (s t : EndpointState) → t ≡ emptied s → (e : Endpoint) → StandsFor s e → StandsFor t (wrote (length (shown e)) e)
taken_stands s t is e h =
    let size : length (shown e) ≡ length (shown_of s) = ap (λ (x : Endpoint). length (shown x)) h.same in
    let all : length (shown_of s) ≤ length (shown_of s) = omega arith in
    let left : record s { unwritten = drop (length (shown_of s)) s.unwritten } ≡ t = ap (λ (bytes : List ℕ). record s { unwritten = bytes }) (rest s.paused s.unwritten) ∙ sym is in
    subst (λ (n : ℕ). StandsFor t (wrote n e)) (sym size)
    (subst (λ (x : EndpointState). StandsFor x (wrote (length (shown_of s)) e)) left (wrote_stands (length (shown_of s)) s (le-leb (length (shown_of s)) (length (shown_of s)) all) e h))
