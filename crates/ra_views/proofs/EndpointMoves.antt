-- What a session has its endpoint do keeps a view.
use Rattle.std.proofs.Common.{◌≡◌, ℕ, Bool, true, false, Option, Some, List, [], ◌∷◌, length, take, subst, arith}
use Rattle.std.proofs.Math.Seq.{take-length}
use Rattle.std.proofs.lemmas.Bool.{cond_both}
use Rattle.ra_base.specs.declared.event.Side.{Side}
use Rattle.ra_model.specs.Endpoints.{Endpoint, is_joining, shown}
use Rattle.ra_model.specs.Calls.{say, finish}
use Rattle.ra_model.specs.Links.{Link, other, at_number, put_number, written_to}
use Rattle.ra_model.specs.Worlds.{Peer, with_endpoint}
use Rattle.ra_model.specs.Events.{links_written}
use Rattle.ra_model.specs.Views.{View, KeepsViews, called}
use Rattle.ra_model.proofs.CallMoves.{views_say, views_finish, views_resume}
use Rattle.ra_model.proofs.LinkMoves.{view_write}
use Rattle.ra_proto.specs.SayAll.{say_all}
use Rattle.ra_session.specs.SessionCalls.{rejoined, joined, emptied}

-- messages are said, one after the other
pub views_said : (bodies : List (List ℕ)) (now : ℕ) → KeepsViews (called (say_all bodies now))
unfolding say_all
views_said [] now start s i j p o links v = v
views_said (body ∷ bodies) now start s i j p o links v =
    views_said bodies now start s i j (called (say body now) p) o links (views_say body now start s i j p o links v)

-- a reconnection ends, where there is one
views_rejoined : (now : ℕ) → KeepsViews (called (rejoined now))
views_rejoined now start s i j p o links v =
    cond_both (is_joining p.endpoint.phase) (finish now p.endpoint) p.endpoint (λ (x : Endpoint). View start s i j (with_endpoint x p) o links)
    (λ yes. views_finish now start s i j p o links v) (λ no. v)

-- and a Resume is written, where it is waited for
pub views_joined : (with_resume : Bool) (now : ℕ) → KeepsViews (called (joined with_resume now))
views_joined true now start s i j p o links v =
    views_resume start s i j (called (rejoined now) p) o links (views_rejoined now start s i j p o links v)
views_joined false now start s i j p o links v = views_rejoined now start s i j p o links v

-- all that is shown is put on the present link
pub view_emptied : (start : ℕ) (s : Side) (i j : ℕ) (p o : Peer) (links : List Link) (l : Link) → View start s i j p o links → at_number links i ≡ Some l
    → View start s i j (called emptied p) o (put_number links i (written_to (other s) (shown p.endpoint) l))
view_emptied start s i j p o links l v at =
    let bytes : List ℕ = shown p.endpoint in
    let wrote : View start s i j (called emptied p) o (links_written s (take (length bytes) bytes) i (at_number links i) links) =
    view_write start s i j p o links (length bytes) v (omega arith) in
    subst (λ (t : List ℕ). View start s i j (called emptied p) o (put_number links i (written_to (other s) t l))) (take-length bytes)
    (subst (λ (found : Option Link). View start s i j (called emptied p) o (links_written s (take (length bytes) bytes) i found links)) at wrote)
