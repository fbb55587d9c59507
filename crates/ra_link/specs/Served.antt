-- A whole connection that is served over objects that tell.
use Rattle.std.specs.Prelude.{◌≡◌, ℕ, zero, suc, ◌+◌, ◌-◌, ◌<◌, ◌≤◌, Bool, true, false, Option, Some, None, List, [], ◌++◌, length, drop, ⊤, ◌⊎◌}
use Rattle.ra_base.specs.declared.handshake.Request.{Request}
use Rattle.ra_base.specs.declared.key.Seat.{Seat}
use Rattle.ra_upgrade.specs.declared.request_head.HeadFault.{HeadFault}
use Rattle.ra_upgrade.specs.declared.request_head.Upgrade.{Upgrade}
use Rattle.ra_items.specs.Heads.{Head, IsRequestOf}
use Rattle.ra_opening.specs.Comes.{HasHead}
use Rattle.ra_opening.specs.Openings.{Grounds}
use Rattle.ra_ports.specs.Causes.{next_count}
use Rattle.ra_ports.specs.Links.{Incoming, StartsPayload}
use Rattle.ra_ports.specs.declared.link.Got.{Got}
use Rattle.ra_ports.specs.declared.link.Got.TheVariants.{Bytes, NotYet, End as Ended}
use Rattle.ra_session.specs.SessionRefusals.{ended, stale, no_link, too_long, bad_ipc, ids_spent, bad_message}
use Rattle.ra_hub.specs.Hubs.{Hub}
use Rattle.ra_hub.specs.Jobs.{SeenJob}
use Rattle.ra_link_core.specs.LinkRuns.{Serving, Piece, End, head_refused, request_refused, refused_by, asked, with_piece, link_run, hub_left}
use Rattle.ra_link_core.specs.Makes.{Happens, Grows}
use Rattle.ra_link_core.specs.Cores.{CoreStands, IsBehindHead, seat_in}
use Rattle.ra_link.specs.Pieces.{counted, NowsAre, HaveHead, is_framed, Come}
use Rattle.ra_link_core.specs.declared.ends.CoreEnd.{CoreEnd}
use Rattle.ra_link_core.specs.declared.ends.CoreEnd.TheVariants as core_ends
use Rattle.ra_link.specs.declared.ends.LinkEnd.{LinkEnd}
use Rattle.ra_link.specs.declared.ends.LinkEnd.TheVariants as ends
use Rattle.ra_link_core.specs.declared.phase.Phase.{Phase}

-- ---- ends

abbrev pub link_end : CoreEnd → LinkEnd
link_end (core_ends.BadHead fault) = ends.BadHead fault
link_end (core_ends.Refused reason) = ends.Refused reason
link_end (core_ends.TooLong n) = ends.TooLong n
link_end (core_ends.BadIpc fault message) = ends.BadIpc fault message
link_end (core_ends.Stale current) = ends.Stale current
link_end core_ends.NoLink = ends.NoLink
link_end (core_ends.Ended cause) = ends.Ended cause
link_end core_ends.IdsSpent = ends.IdsSpent
link_end core_ends.KeepFault = ends.KeepFault
link_end core_ends.NoMemory = ends.NoMemory

-- the end where not all could be sent
abbrev pub broken_end : Option CoreEnd → LinkEnd
broken_end (Some core_ends.KeepFault) = ends.KeepFault
broken_end (Some core_ends.NoMemory) = ends.NoMemory
broken_end _ = ends.LinkFault

pub data LinkOutcome : Type 0 where
  link_closed : LinkOutcome
  link_broke : LinkOutcome
  link_spent : LinkOutcome
  link_over : End → LinkOutcome
  link_unkept : LinkOutcome
  link_short : LinkOutcome

abbrev pub link_outcome : LinkEnd → LinkOutcome
link_outcome ends.Closed = link_closed
link_outcome ends.LinkFault = link_broke
link_outcome (ends.BadHead fault) = link_over (head_refused fault)
link_outcome (ends.Refused reason) = link_over (request_refused reason)
link_outcome (ends.TooLong n) = link_over (refused_by (too_long n))
link_outcome (ends.BadIpc fault message) = link_over (refused_by (bad_ipc (bad_message fault) message))
link_outcome (ends.Stale current) = link_over (refused_by (stale current))
link_outcome ends.NoLink = link_over (refused_by no_link)
link_outcome (ends.Ended cause) = link_over (refused_by (ended cause))
link_outcome ends.IdsSpent = link_over (refused_by ids_spent)
link_outcome ends.TurnsSpent = link_spent
link_outcome ends.KeepFault = link_unkept
link_outcome ends.NoMemory = link_short

-- ---- what is known of every link

abbrev pub OnBroke : LinkOutcome → Type 0 → Type 0
OnBroke link_broke P = P
OnBroke _ P = ⊤

abbrev pub OnNotKept : LinkOutcome → Type 0 → Type 0
OnNotKept link_unkept P = P
OnNotKept _ P = ⊤

-- the link answered its end exactly where the connection is closed
abbrev pub EndedSo : LinkOutcome → Bool → Type 0
EndedSo link_closed is_over = is_over ≡ true
EndedSo _ is_over = is_over ≡ false

abbrev pub IsSpent : LinkOutcome → Type 0 → Type 0
IsSpent link_spent P = P
IsSpent _ P = ⊤

-- a piece ends no connection so
abbrev pub IsPieceEnd : LinkOutcome → Type 0
IsPieceEnd link_closed = ⊥
IsPieceEnd link_spent = ⊥
IsPieceEnd _ = ⊤

abbrev pub OnSome : Option LinkEnd → (LinkOutcome → Type 0) → Type 0
OnSome None P = ⊤
OnSome (Some end) P = P (link_outcome end)

-- a link was framed, or not for a fault or for want of memory
abbrev pub OnFramed : Option LinkEnd → (framed same : Type 0) → Type 0
OnFramed None framed same = framed
OnFramed (Some ends.LinkFault) framed same = same
OnFramed (Some ends.NoMemory) framed same = same
OnFramed (Some _) framed same = ⊥

abbrev pub OnNotShort : LinkOutcome → Type 0 → Type 0
OnNotShort link_short P = ⊤
OnNotShort _ P = P

-- where memory did not run out, some head answers each front of the text
abbrev pub LinkKnows : Option LinkEnd → List ℕ → Type 0
LinkKnows None text = HasHead text
LinkKnows (Some end) text = OnNotShort (link_outcome end) (HasHead text)

-- a link that could not be framed failed, or memory ran out
abbrev pub CouldNotFrame : LinkOutcome → Type 0
CouldNotFrame link_broke = ⊤
CouldNotFrame link_short = ⊤
CouldNotFrame _ = ⊥

abbrev pub UnableBy : Option LinkEnd → Type 0
UnableBy None = ⊥
UnableBy (Some end) = CouldNotFrame (link_outcome end)

-- a link is framed behind so many bytes that were sent, and handed this front of the framed stream, with which its payload starts
pub record StartsFramed (front : List ℕ) (sent : ℕ) (old new : Incoming) : Type 0 where
  pub payload : StartsPayload old new front
  pub handed : new.framed ≡ Some (record { sent = sent; rest = front })

-- what a piece makes of what is to come on its link: all stays, unless the link is framed as its head ends
abbrev pub FramesBy : (before after : Bool) → Option LinkEnd → (front : List ℕ) → (sent : ℕ) → (old new : Incoming) → Type 0
FramesBy true after end front sent old new = new ≡ old
FramesBy false false end front sent old new = new ≡ old
FramesBy false true None front sent old new = StartsFramed front sent old new
FramesBy false true (Some end) front sent old new = CouldNotFrame (link_outcome end) × (new.framed ≡ old.framed)

abbrev pub Frames : Option LinkEnd → Head Upgrade HeadFault → (text piece : List ℕ) → (sent : ℕ) → (old new : Incoming) → Type 0
Frames end head text piece sent old new =
    FramesBy (is_framed head text) (is_framed head (with_piece head text piece)) end (drop head.size (text ++ piece)) sent old new

-- a count that is raised so often, or stands at the end of its type
abbrev pub raised : ℕ → ℕ → ℕ
raised zero count = count
raised (suc n) count = next_count (raised n count)

-- the link was asked so often, at most `turns` times, and as often where they are spent; for so many bytes each time, since no call
-- knows that it is the last
pub record MadeCalls (end : LinkOutcome) (turns room : ℕ) (old new : Incoming) : Type 0 where
  pub reads : ℕ
  pub within : reads ≤ turns
  pub counted : new.receives ≡ raised reads old.receives
  pub asked : 0 < reads → new.room ≡ room
  pub spent : IsSpent end (reads ≡ turns)

-- how many bytes a link gave, where it is not over
abbrev pub got_len : Got → Option ℕ
got_len (Bytes n) = Some n
got_len NotYet = Some 0
got_len Ended = None

-- ---- the pieces

-- how often the link was asked, for so many pieces
abbrev pub ReadsAre : LinkOutcome → (count reads turns : ℕ) → Type 0
ReadsAre link_closed count reads turns = reads ≡ count + 1
ReadsAre link_broke count reads turns = (count ≤ reads) × (reads ≤ count + 1)
ReadsAre link_spent count reads turns = (reads ≡ count) × (reads ≡ turns)
ReadsAre _ count reads turns = reads ≡ count

-- ---- what was done

-- all that the link wrote was sent, behind what was sent before
pub record Serves (first : List ℕ) (sent : Option (List ℕ)) (seat : Option Seat) (stands : Hub → Type 0) (jobs : Option (List SeenJob)) (s : Serving) : Type 0 where
  pub sent_is : sent ≡ Some (first ++ s.out)
  pub hub_stands : stands s.hub
  pub jobs_are : jobs ≡ Some s.jobs
  pub seat_is : s.seat ≡ seat

-- a front of what was written was sent
pub record SentFront (first : List ℕ) (sent : Option (List ℕ)) (out : List ℕ) : Type 0 where
  pub front : List ℕ
  pub sent_is : sent ≡ Some (first ++ front)
  pub rest : List ℕ
  pub parts : out ≡ front ++ rest

pub record Broke (first : List ℕ) (sent : Option (List ℕ)) (seat : Option Seat) (stands : Hub → Type 0) (jobs : Option (List SeenJob)) (s : Serving) : Type 0 where
  pub sent_is : SentFront first sent s.out
  pub hub_stands : stands s.hub
  pub jobs_are : jobs ≡ Some s.jobs
  pub seat_is : s.seat ≡ seat

-- All was done up to an admission, which was not made. All of that was sent, or the link failed too.
pub record NotKept (first : List ℕ) (sent : Option (List ℕ)) (seat : Option Seat) (stands : Hub → Type 0) (jobs : Option (List SeenJob)) (failed : Type 0) (start u : Serving) : Type 0 where
  pub part : Serving
  pub sent_is : (sent ≡ Some (first ++ part.out)) ⊎ (SentFront first sent part.out × failed)
  pub hub_stands : stands part.hub
  pub jobs_are : jobs ≡ Some part.jobs
  pub seat_is : part.seat ≡ None
  pub none : seat ≡ None
  pub came : Happens start part
  pub comes : Grows part u
  pub request : Request
  pub place : ℕ
  pub chunk : List ℕ
  pub now : ℕ
  pub goes_on : u ≡ asked request place chunk now part

-- memory ran out, and a part was done
pub record RanOut (first : List ℕ) (sent : Option (List ℕ)) (seat : Option Seat) (stands : Hub → Type 0) (jobs : Option (List SeenJob)) (start u : Serving) : Type 0 where
  pub part : Serving
  pub sent_is : SentFront first sent part.out
  pub hub_stands : stands part.hub
  pub jobs_are : jobs ≡ Some part.jobs
  pub seat_is : part.seat ≡ seat
  pub came : Happens start part
  pub comes : Grows part u

-- the link from its start, and what all the pieces would make of it
abbrev pub LinkEnds : LinkOutcome → (first : List ℕ) (sent : Option (List ℕ)) (seat : Option Seat) → (Hub → Type 0) → Option (List SeenJob) → (failed : Type 0) → (start u : Serving) → Type 0
LinkEnds link_closed first sent seat stands jobs failed start u = Serves first sent seat stands jobs u × (u.end ≡ None)
LinkEnds link_broke first sent seat stands jobs failed start u = Broke first sent seat stands jobs u
LinkEnds link_spent first sent seat stands jobs failed start u = Serves first sent seat stands jobs u × (u.end ≡ None)
LinkEnds (link_over end) first sent seat stands jobs failed start u = Serves first sent seat stands jobs u × (u.end ≡ Some end)
LinkEnds link_unkept first sent seat stands jobs failed start u = NotKept first sent seat stands jobs failed start u
LinkEnds link_short first sent seat stands jobs failed start u = RanOut first sent seat stands jobs start u

-- one piece was served
abbrev pub AfterPiece : Option LinkEnd → Phase → Grounds → Head Upgrade HeadFault → (text : List ℕ) → (next : ℕ → List ℕ) → (first : List ℕ) (sent : Option (List ℕ)) → (Hub → Type 0) → Option (List SeenJob) → (failed : Type 0) → (start u : Serving) → Type 0
AfterPiece None phase grounds head text next first sent stands jobs failed start u =
    CoreStands phase grounds head text u.out next stands jobs [] u × (sent ≡ Some (first ++ u.out))
AfterPiece (Some end) phase grounds head text next first sent stands jobs failed start u =
    LinkEnds (link_outcome end) first sent (seat_in phase) stands jobs failed start u

-- ---- the whole link

-- how many bytes were sent on a link once all is sent that these pieces make it write
abbrev pub sent_by : Grounds → Head Upgrade HeadFault → (start : Serving) → (first : List ℕ) → List Piece → ℕ
sent_by grounds head start first pieces = length (first ++ (link_run grounds head [] pieces start).out)

-- What a link did whose text has this head.
pub record Ran (end : LinkEnd) (grounds : Grounds) (head : Head Upgrade HeadFault) (pieces : List Piece) (start : Serving) (first : List ℕ) (sent : Option (List ℕ)) (seat : Option Seat)
    (stands : Hub → Type 0) (jobs : Option (List SeenJob)) (failed : Type 0) (old new : Incoming) : Type 0 where
  pub ended : LinkEnds (link_outcome end) first sent seat stands jobs failed start (link_run grounds head [] pieces start)
  pub came : Come head (sent_by grounds head start first) pieces old new (CouldNotFrame (link_outcome end))

-- A link was served until this end: these pieces came, at the moments that the clock told, and the link did what they make. Where memory
-- did not run out, what they make is known: their text has a head.
pub record WasServed (end : LinkEnd) (grounds : Grounds) (start : Serving) (first : List ℕ) (moments : ℕ → ℕ) (turns : ℕ) (old new : Incoming) (sent : Option (List ℕ))
    (seat : Option Seat) (stands : Hub → Type 0) (jobs : Option (List SeenJob)) (failed : Type 0) (now : ℕ) : Type 0 where
  pub pieces : List Piece
  pub reads : ℕ
  pub within : reads ≤ turns
  pub reads_are : ReadsAre (link_outcome end) (length pieces) reads turns
  pub nows : NowsAre moments 0 pieces
  pub now_is : 0 < reads → now ≡ moments (reads - 1)
  pub known : OnNotShort (link_outcome end) (HaveHead pieces)
  pub ran : (head : Head Upgrade HeadFault) → IsRequestOf (counted head [] pieces) head
      → Ran end grounds head pieces start first sent seat stands jobs failed old new

-- and then the seat that was not spent was reported lost, at the last moment that was told
pub record IsServed (end : LinkEnd) (grounds : Grounds) (start : Serving) (first : List ℕ) (moments : ℕ → ℕ) (turns : ℕ) (old new : Incoming) (sent : Option (List ℕ))
    (stands : Hub → Type 0) (jobs : Option (List SeenJob)) (failed : Type 0) : Type 0 where
  pub seat : Option Seat
  pub now : ℕ
  pub served : WasServed end grounds start first moments turns old new sent seat (λ h. stands (hub_left seat now h)) jobs failed now

-- the link answered its end, or memory ran out
abbrev pub ClosedOrShort : LinkOutcome → Type 0
ClosedOrShort link_closed = ⊤
ClosedOrShort link_short = ⊤
ClosedOrShort _ = ⊥

-- It was served, and where the pieces that came make no end, and are fewer than the turns, the link answered its end or memory ran out.
pub record IsComplete (end : LinkEnd) (grounds : Grounds) (start : Serving) (first : List ℕ) (moments : ℕ → ℕ) (turns : ℕ) (old new : Incoming) (sent : Option (List ℕ))
    (stands : Hub → Type 0) (jobs : Option (List SeenJob)) (failed : Type 0) : Type 0 where
  pub is_served : IsServed end grounds start first moments turns old new sent stands jobs failed
  pub closes : (head : Head Upgrade HeadFault) → IsRequestOf (counted head [] is_served.served.pieces) head
      → (link_run grounds head [] is_served.served.pieces start).end ≡ None → length is_served.served.pieces < turns
      → ClosedOrShort (link_outcome end)

-- ---- so far

pub record SoFarAt (grounds : Grounds) (head : Head Upgrade HeadFault) (pieces : List Piece) (start : Serving) (first : List ℕ) (sent : Option (List ℕ)) (phase : Phase) (next : ℕ → List ℕ)
    (stands : Hub → Type 0) (jobs : Option (List SeenJob)) (old new : Incoming) : Type 0 where
  pub core : CoreStands phase grounds head (counted head [] pieces) (link_run grounds head [] pieces start).out next stands jobs [] (link_run grounds head [] pieces start)
  pub sent_is : sent ≡ Some (first ++ (link_run grounds head [] pieces start).out)
  pub happens : Happens start (link_run grounds head [] pieces start)
  pub came : Come head (sent_by grounds head start first) pieces old new ⊥
  pub behind : IsBehindHead phase head (counted head [] pieces)

-- so many pieces were served, and the link goes on
pub record SoFar (turn : ℕ) (grounds : Grounds) (start : Serving) (first : List ℕ) (moments : ℕ → ℕ) (old new : Incoming) (sent : Option (List ℕ)) (phase : Phase) (next : ℕ → List ℕ)
    (stands : Hub → Type 0) (jobs : Option (List SeenJob)) (tells : Bool) (clock : ℕ → ℕ) (now : ℕ) : Type 0 where
  pub pieces : List Piece
  pub count : length pieces ≡ turn
  pub nows : NowsAre moments 0 pieces
  pub told : tells ≡ true
  pub clock_is : (n : ℕ) → clock n ≡ moments (turn + n)
  pub now_is : 0 < turn → now ≡ moments (turn - 1)
  pub known : HaveHead pieces
  pub at : (head : Head Upgrade HeadFault) → IsRequestOf (counted head [] pieces) head
      → SoFarAt grounds head pieces start first sent phase next stands jobs old new

-- nothing came yet
pub record Starts (grounds : Grounds) (start : Serving) (first : List ℕ) (moments : ℕ → ℕ) (sent : Option (List ℕ)) (phase : Phase) (next : ℕ → List ℕ)
    (stands : Hub → Type 0) (jobs : Option (List SeenJob)) (tells : Bool) (clock : ℕ → ℕ) : Type 0 where
  pub told : tells ≡ true
  pub clock_is : (n : ℕ) → clock n ≡ moments n
  pub sent_is : sent ≡ Some (first ++ start.out)
  pub core : (head : Head Upgrade HeadFault) → IsRequestOf [] head → CoreStands phase grounds head [] start.out next stands jobs [] start
  pub behind : (head : Head Upgrade HeadFault) → IsBehindHead phase head []
