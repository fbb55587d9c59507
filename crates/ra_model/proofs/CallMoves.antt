-- The calls of an endpoint keep a view, and take nothing back.
use Rattle.std.proofs.Common.{ℕ, ◌≤◌, List, [], length, arith}
use Rattle.ra_model.specs.Frames.{body_limit}
use Rattle.ra_model.specs.FrameKinds.{control_frame, pause_frame, resume_frame}
use Rattle.ra_model.specs.Endpoints.{Endpoint, shown}
use Rattle.ra_model.specs.Calls.{say, control, ask_pause, ask_resume, finish, tick, leave, lose, wrote}
use Rattle.ra_model.specs.Links.{other}
use Rattle.ra_model.specs.Pairs.{IsHonest}
use Rattle.ra_model.specs.Views.{KeepsViews, OnlyGrows, called, broken_off}
use Rattle.ra_model.proofs.Calls.{honest_silent, outgoing_say, outgoing_control, outgoing_pause, outgoing_resume, outgoing_tick, outgoing_lose, outgoing_leave, outgoing_finish}
use Rattle.ra_model.proofs.Kept.{Kept, kept_wrote, kept_say, kept_control, kept_pause, kept_resume, kept_tick, kept_lose, kept_leave, kept_finish}
use Rattle.ra_model.proofs.Away.{away_finish, away_say, away_control, away_pause, away_resume, away_leave, away_tick, away_lose}
use Rattle.ra_model.proofs.Sound.{view_call}
use Rattle.ra_model.proofs.Later.{later_call, later_trans}

pub views_say : (body : List ℕ) (now : ℕ) → KeepsViews (called (say body now))
views_say body now start s i j p o links v =
    view_call start s i j p o links (say body now p.endpoint) v (kept_say body now p.endpoint) (outgoing_say (other s) i p.endpoint links body now v.mine) (away_say body now p.endpoint v.away)

pub views_control : (body : List ℕ) → KeepsViews (called (control body))
views_control body start s i j p o links v =
    view_call start s i j p o links (control body p.endpoint) v (kept_control body p.endpoint) (outgoing_control (other s) i p.endpoint links body v.mine) (away_control body p.endpoint v.away)

pub views_pause : KeepsViews (called ask_pause)
views_pause start s i j p o links v =
    view_call start s i j p o links (ask_pause p.endpoint) v (kept_pause p.endpoint) (outgoing_pause (other s) i p.endpoint links v.mine) (away_pause p.endpoint v.away)

pub views_resume : KeepsViews (called ask_resume)
views_resume start s i j p o links v =
    view_call start s i j p o links (ask_resume p.endpoint) v (kept_resume p.endpoint) (outgoing_resume (other s) i p.endpoint links v.mine) (away_resume p.endpoint v.away)

pub views_finish : (now : ℕ) → KeepsViews (called (finish now))
views_finish now start s i j p o links v =
    view_call start s i j p o links (finish now p.endpoint) v (kept_finish now p.endpoint) (outgoing_finish (other s) i p.endpoint links now v.mine (rw v.base v.out.low)) (away_finish now p.endpoint v.away)

pub views_tick : (now : ℕ) → KeepsViews (called (tick now))
views_tick now start s i j p o links v =
    view_call start s i j p o links (tick now p.endpoint) v (kept_tick now p.endpoint) (outgoing_tick (other s) i p.endpoint links now v.mine) (away_tick now p.endpoint v.away)

pub views_leave : KeepsViews (called leave)
views_leave start s i j p o links v =
    view_call start s i j p o links (leave p.endpoint) v (kept_leave p.endpoint) (outgoing_leave (other s) i p.endpoint links v.mine) (away_leave p.endpoint v.away)

pub views_lose : (epoch : ℕ) → KeepsViews (called (lose epoch))
views_lose epoch start s i j p o links v =
    view_call start s i j p o links (lose epoch p.endpoint) v (kept_lose epoch p.endpoint) (outgoing_lose (other s) i p.endpoint links epoch v.mine) (away_lose epoch p.endpoint v.away)

-- calls take nothing back
grows : (call : Endpoint → Endpoint) → ((e : Endpoint) → Kept e (call e)) → OnlyGrows (called call)
grows call kept p = later_call p (call p.endpoint) (kept p.endpoint)

pub grows_say : (body : List ℕ) (now : ℕ) → OnlyGrows (called (say body now))
grows_say body now = grows (say body now) (kept_say body now)

pub grows_control : (body : List ℕ) → OnlyGrows (called (control body))
grows_control body = grows (control body) (kept_control body)

pub grows_pause : OnlyGrows (called ask_pause)
grows_pause = grows ask_pause kept_pause

pub grows_resume : OnlyGrows (called ask_resume)
grows_resume = grows ask_resume kept_resume

pub grows_finish : (now : ℕ) → OnlyGrows (called (finish now))
grows_finish now = grows (finish now) (kept_finish now)

pub grows_wrote : (n : ℕ) → OnlyGrows (called (wrote n))
grows_wrote n = grows (wrote n) (kept_wrote n)

pub grows_lose : (epoch : ℕ) → OnlyGrows (called (lose epoch))
grows_lose epoch = grows (lose epoch) (kept_lose epoch)

pub grows_leave : OnlyGrows (called leave)
grows_leave = grows leave kept_leave

pub grows_tick : (now : ℕ) → OnlyGrows (called (tick now))
grows_tick now = grows (tick now) (kept_tick now)

pub grows_broken : OnlyGrows (called broken_off)
grows_broken p =
    let n : ℕ = length (shown p.endpoint) in
    later_trans p (called (wrote n) p) (called broken_off p) (grows_wrote n p)
    (later_call (called (wrote n) p) (broken_off p.endpoint) (kept_lose p.endpoint.epoch (wrote n p.endpoint)))

-- frames that are honest whoever writes them
pub honest_control : (base : ℕ) (said : List (List ℕ)) (received : ℕ) (body : List ℕ) → length body ≤ body_limit → IsHonest base said received (control_frame body)
honest_control base said received body fits = honest_silent base said received 2 body (omega arith) (λ is. cc) fits

pub honest_pause : (base : ℕ) (said : List (List ℕ)) (received : ℕ) → IsHonest base said received pause_frame
honest_pause base said received = honest_silent base said received 7 [] (omega arith) (λ is. cc) (omega arith)

pub honest_resume : (base : ℕ) (said : List (List ℕ)) (received : ℕ) → IsHonest base said received resume_frame
honest_resume base said received = honest_silent base said received 8 [] (omega arith) (λ is. cc) (omega arith)
