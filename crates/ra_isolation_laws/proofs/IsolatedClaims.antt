-- A client claims a reconnection only where the server has a row of its key.
use Rattle.std.proofs.Common.{◌≡◌, inl, inr, ℕ, zero, suc, ◌+◌, ◌-◌, ◌<◌, Bool, true, false, true≢false, cond, ◌||◌, Option, Some, None, is_some, Result, Ok, Err, List, [], ◌∷◌, ◌++◌, length, refl, ap, sym, ◌∙◌, subst, arith}
use Rattle.std.specs.Prelude.{◌⊎◌, nat_lt, nat_le, slice_get, slice_set}
use Rattle.std.specs.List.{list_any}
use Rattle.std.proofs.lemmas.List.Folds.{list_any-append}
use Rattle.ra_base.specs.declared.key.Key.{Key}
use Rattle.ra_base.specs.declared.kind.Kind.{Kind}
use Rattle.ra_base.specs.declared.kind.Kind.TheVariants.{Management, ExtensionHost, Tunnel}
use Rattle.ra_model.specs.Endpoints.{new_endpoint}
use Rattle.ra_model.specs.Links.{Link, at_number}
use Rattle.ra_proto.specs.SayAll.{say_all}
use Rattle.ra_values.specs.ValueBytes.{value_bytes}
use Rattle.ra_ipc.specs.Messages.{initialize}
use Rattle.ra_ipc.specs.Packets.{message_bytes}
use Rattle.ra_registry.specs.declared.row.Row.{Row}
use Rattle.ra_registry.specs.Rows.{epoch_of}
use Rattle.ra_upgrade.specs.declared.request_head.HeadFault.{HeadFault}
use Rattle.ra_upgrade.specs.declared.request_head.Upgrade.{Upgrade}
use Rattle.ra_session.specs.Saying.{dialling}
use Rattle.ra_session.specs.SessionRefusals.{Refusal, attach_refusal}
use Rattle.ra_session.specs.Sessions.{Session}
use Rattle.ra_link_core.specs.LinkRuns.{Welcome}
use Rattle.ra_views.specs.SessionLinks.{KeepsLink}
use Rattle.ra_views.proofs.SessionLinks.{same_said_all}
use Rattle.ra_dial.specs.declared.stage.Stage.{Stage}
use Rattle.ra_dial.specs.declared.stage.Stage.TheVariants as stages
use Rattle.ra_dial.specs.declared.values.DialEvent.{DialEvent}
use Rattle.ra_dial.specs.declared.values.DialEvent.TheVariants as events
use Rattle.ra_dial.specs.declared.values.DialEnd.TheVariants as dial_ends
use Rattle.ra_dial.specs.Attempts.{Step, finishes, fails, waits_until, waits_since, begins, patience}
use Rattle.ra_dial.specs.Dialers.{Dialer, epoch}
use Rattle.ra_dial.specs.Handshakes.{Head as AnswerHead, Look, is_open, goes_on, fails as spoils, refuses, accepts, looked_at, taken_by}
use Rattle.ra_dial.specs.Links.{attaches, attaches_unless, next_epoch, after_look, shakes}
use Rattle.ra_dial.specs.ShakingStates.{ShakingState}
use Rattle.ra_dial.specs.Table.{step, on_event, by_event, on_tick, on_linked, on_no_link, on_piece, on_frame, on_link_lost, on_stop, is_late, unless_over, session_after, draws_by, out}
use Rattle.ra_grand_runs.specs.Draws.{draws_after}
use Rattle.ra_grand_runs.specs.GrandClients.{GrandLink, Client, new_client, writes_up, sends, dials, dialled, fresh_link, linked, asked}
use Rattle.ra_grand_runs.specs.GrandRuns.{takes}
use Rattle.ra_grand_runs.specs.Lasts.{with_last, with_last_of}
use Rattle.ra_grand_runs.specs.SetUps.{context, answer_at}
use Rattle.ra_run_laws.proofs.Lists.{none_there, there_is}
use Rattle.ra_link_laws.specs.Parts.{IsAttached, IsWelcome, HasWelcome, LinkKeeps, StageKeeps, PartHolds}

abbrev claims_in : Result Upgrade HeadFault → Bool
claims_in (Ok upgrade) = upgrade.reconnection
claims_in (Err fault) = false

-- the request on a link claims a reconnection
abbrev pub claims_on : GrandLink → Bool
claims_on l = claims_in l.server.head.says

-- where the dialer would claim one, or a link does, the row is there
pub record Claims (o : Option Row) (c : Client) : Type 0 where
  pub dialer : nat_lt 0 (epoch c.dialer) ≡ true → is_some o ≡ true
  pub links : list_any claims_on c.links ≡ true → is_some o ≡ true

-- What an event of a client leaves of that. Only one that is attached, before or after it, changes the number of its session's link.
pub record Moves (c d : Client) : Type 0 where
  pub key : d.key ≡ c.key
  pub links : list_any claims_on d.links ≡ true → (list_any claims_on c.links ≡ true) ⊎ (nat_lt 0 (epoch c.dialer) ≡ true)
  pub dialer : (c.dialer.stage ≡ stages.Attached) ⊎ ((d.dialer.stage ≡ stages.Attached) ⊎ (epoch d.dialer ≡ epoch c.dialer))

-- ---- one that is attached has a row

some_epoch : (o : Option Row) (n : ℕ) → n ≡ epoch_of o → 0 < n → is_some o ≡ true
some_epoch None n is some = absurd (none n is some)
  where
    none : (k : ℕ) → k ≡ 0 → 0 < k → ⊥
    none k e less = omega (arith, e, less)
some_epoch (Some r) n is some = refl

some_session_link : (session_links : List Link) (n : ℕ) (x : Link) → at_number session_links n ≡ Some x → 0 < length session_links
some_session_link [] zero x is = none_there is
some_session_link [] (suc n) x is = none_there is
some_session_link (y ∷ ys) n x is = omega arith

pub attached_there : (s : Option Session) (o : Option Row) (c : Client) → PartHolds s o c → c.dialer.stage ≡ stages.Attached → is_some o ≡ true
attached_there s o c part is =
    let stands : StageKeeps c part.draws part.session_links part.number part.attached stages.Attached =
    subst (λ (t : Stage). StageKeeps c part.draws part.session_links part.number part.attached t) is part.stage in
    let last = stands.1 in
    let l : GrandLink = last.1 in
    let at : IsAttached c part.session_links part.number l = last.4 in
    let keeps : LinkKeeps c.key (part.draws last.0) part.session_links part.present l = part.links last.0 l last.3 in
    let welcome : IsWelcome c.key (part.draws last.0) part.session_links l at.welcome =
    subst (λ (w : Option Welcome). HasWelcome c.key (part.draws last.0) part.session_links l w) at.is_there keeps.welcome in
    some_epoch o (length part.session_links) part.count (some_session_link part.session_links at.welcome.epoch welcome.session_link welcome.is_at)

pub claims_move : (s t : Option Session) (o p : Option Row) (c d : Client) → (is_some o ≡ true → is_some p ≡ true) → PartHolds s o c → PartHolds t p d → Moves c d
    → Claims o c → Claims p d
claims_move s t o p c d stays before after moves claims = record { dialer = by moves.dialer; links = λ some. links (moves.links some) }
  where
    by : (c.dialer.stage ≡ stages.Attached) ⊎ ((d.dialer.stage ≡ stages.Attached) ⊎ (epoch d.dialer ≡ epoch c.dialer)) → nat_lt 0 (epoch d.dialer) ≡ true → is_some p ≡ true
    by (inl was) some = stays (attached_there s o c before was)
    by (inr (inl is)) some = attached_there t p d after is
    by (inr (inr same)) some = stays (claims.dialer (ap (λ (n : ℕ). nat_lt 0 n) (sym same) ∙ some))

    links : (list_any claims_on c.links ≡ true) ⊎ (nat_lt 0 (epoch c.dialer) ≡ true) → is_some p ≡ true
    links (inl there) = stays (claims.links there)
    links (inr there) = stays (claims.dialer there)

-- ---- steps of a dialer

-- what a step leaves of the session of a dialer
abbrev Keeps : Dialer → Step → Type 0
Keeps d s = (d.stage ≡ stages.Attached) ⊎ ((s.1.stage ≡ stages.Attached) ⊎ (s.1.session ≡ d.session))

same_if : (d : Dialer) (b : Bool) (s t : Step) → s.1.session ≡ d.session → t.1.session ≡ d.session → (cond b s t).1.session ≡ d.session
same_if d true s t so other = so
same_if d false s t so other = other

same_fails : (drops : Bool) (now : ℕ) (d : Dialer) → (fails drops now d).1.session ≡ d.session
unfolding fails
same_fails drops now d = refl

keeps_tick : (stage : Stage) (now : ℕ) (d : Dialer) → d.stage ≡ stage → Keeps d (on_tick stage now d)
unfolding waits_until waits_since
keeps_tick (stages.Resting until) now d is = inr (inr (same_if d (nat_le until now) _ _ refl refl))
keeps_tick (stages.Calling since) now d is = inr (inr (same_if d (nat_le patience (now - since)) (fails false now d) _ (same_fails false now d) refl))
keeps_tick (stages.Shaking since s) now d is = inr (inr (same_if d (nat_le patience (now - since)) (fails true now d) _ (same_fails true now d) refl))
keeps_tick stages.Attached now d is = inl is
keeps_tick (stages.Over end) now d is = inr (inr refl)

keeps_linked : (stage : Stage) (draw : ℕ → List ℕ) (d : Dialer) → d.stage ≡ stage → Keeps d (on_linked stage draw d)
unfolding begins
keeps_linked (stages.Resting until) draw d is = inr (inr refl)
keeps_linked (stages.Calling since) draw d is = inr (inr refl)
keeps_linked (stages.Shaking since s) draw d is = inr (inr refl)
keeps_linked stages.Attached draw d is = inl is
keeps_linked (stages.Over end) draw d is = inr (inr refl)

keeps_no_link : (stage : Stage) (now : ℕ) (d : Dialer) → d.stage ≡ stage → Keeps d (on_no_link stage now d)
keeps_no_link (stages.Resting until) now d is = inr (inr refl)
keeps_no_link (stages.Calling since) now d is = inr (inr (same_fails false now d))
keeps_no_link (stages.Shaking since s) now d is = inr (inr refl)
keeps_no_link stages.Attached now d is = inl is
keeps_no_link (stages.Over end) now d is = inr (inr refl)

keeps_piece : (stage : Stage) (piece : List ℕ) (now : ℕ) (d : Dialer) → d.stage ≡ stage → Keeps d (on_piece stage piece now d)
keeps_piece (stages.Resting until) piece now d is = inr (inr refl)
keeps_piece (stages.Calling since) piece now d is = inr (inr refl)
keeps_piece (stages.Shaking since s) piece now d is = inr (inr refl)
keeps_piece stages.Attached piece now d is = inl is
keeps_piece (stages.Over end) piece now d is = inr (inr refl)

keeps_attached : (refusal : Option Refusal) (chunk : List ℕ) (now : ℕ) (d e : Dialer) → e.session ≡ d.session → Keeps d (attaches_unless refusal chunk now e)
keeps_attached None chunk now d e same = inr (inl refl)
keeps_attached (Some refusal) chunk now d e same = inr (inr (same_fails true now e ∙ same))

keeps_look : (since : ℕ) (look : Look) (s : ShakingState) (now : ℕ) (d e : Dialer) → e.session ≡ d.session → Keeps d (after_look since look s now e)
unfolding attaches
keeps_look since is_open s now d e same = inr (inr same)
keeps_look since (goes_on written) s now d e same = inr (inr same)
keeps_look since spoils s now d e same = inr (inr (same_fails true now e ∙ same))
keeps_look since (refuses reason) s now d e same = inr (inr same)
keeps_look since (accepts chunk) s now d e same = keeps_attached (attach_refusal (next_epoch (epoch e)) e.session) chunk now d e same

keeps_shakes : (since : ℕ) (s : ShakingState) (head : AnswerHead) (now : ℕ) (d : Dialer) → Keeps d (shakes since s head now d)
unfolding shakes
keeps_shakes since s head now d =
    let looked = looked_at d.settings head s in keeps_look since looked.0 looked.1 now d (record d { read = d.read + taken_by s looked.1 }) refl

keeps_frame : (stage : Stage) (head : AnswerHead) (now : ℕ) (d : Dialer) → d.stage ≡ stage → Keeps d (on_frame stage head now d)
keeps_frame (stages.Resting until) head now d is = inr (inr refl)
keeps_frame (stages.Calling since) head now d is = inr (inr refl)
keeps_frame (stages.Shaking since s) head now d is = keeps_shakes since s head now d
keeps_frame stages.Attached head now d is = inl is
keeps_frame (stages.Over end) head now d is = inr (inr refl)

keeps_lost : (stage : Stage) (now : ℕ) (d : Dialer) → d.stage ≡ stage → Keeps d (on_link_lost stage now d)
keeps_lost (stages.Resting until) now d is = inr (inr refl)
keeps_lost (stages.Calling since) now d is = inr (inr refl)
keeps_lost (stages.Shaking since s) now d is = inr (inr (same_fails false now d))
keeps_lost stages.Attached now d is = inl is
keeps_lost (stages.Over end) now d is = inr (inr refl)

keeps_stop : (stage : Stage) (d : Dialer) → d.stage ≡ stage → Keeps d (on_stop stage d)
keeps_stop (stages.Resting until) d is = inr (inr refl)
keeps_stop (stages.Calling since) d is = inr (inr refl)
keeps_stop (stages.Shaking since s) d is = inr (inr refl)
keeps_stop stages.Attached d is = inl is
keeps_stop (stages.Over end) d is = inr (inr refl)

keeps_event : (head : AnswerHead) (draw : ℕ → List ℕ) (event : DialEvent) (now : ℕ) (d : Dialer) → Keeps d (by_event head draw event now d)
keeps_event head draw events.Tick now d = keeps_tick d.stage now d refl
keeps_event head draw events.Linked now d = keeps_linked d.stage draw d refl
keeps_event head draw events.NoLink now d = keeps_no_link d.stage now d refl
keeps_event head draw (events.Piece piece) now d = keeps_piece d.stage piece now d refl
keeps_event head draw events.Frame now d = keeps_frame d.stage head now d refl
keeps_event head draw events.LinkLost now d = keeps_lost d.stage now d refl
keeps_event head draw events.Stop now d = keeps_stop d.stage d refl

keeps_if : (d : Dialer) (b : Bool) (s t : Step) → Keeps d s → Keeps d t → Keeps d (cond b s t)
keeps_if d true s t so other = so
keeps_if d false s t so other = other

keeps_unless : (stage : Stage) (s : Step) (d : Dialer) → Keeps d s → Keeps d (unless_over stage s d)
keeps_unless (stages.Resting until) s d keeps = keeps
keeps_unless (stages.Calling since) s d keeps = keeps
keeps_unless (stages.Shaking since t) s d keeps = keeps
keeps_unless stages.Attached s d keeps = keeps
keeps_unless (stages.Over end) s d keeps = inr (inr refl)

keeps_step : (head : AnswerHead) (draw : ℕ → List ℕ) (event : DialEvent) (now : ℕ) (d : Dialer) → Keeps d (step head draw event now d)
unfolding step on_event
keeps_step head draw event now d =
    keeps_unless d.stage (cond (is_late event d.stage d.lost now) (finishes (dial_ends.GraceOver d.lost now) d) (by_event head draw event now d)) d
    (keeps_if d (is_late event d.stage d.lost now) (finishes (dial_ends.GraceOver d.lost now) d) (by_event head draw event now d) (inr (inr refl)) (keeps_event head draw event now d))

-- ---- links of a client

any_last : (bytes : List ℕ) (l : GrandLink) (ls : List GrandLink) → list_any claims_on (with_last_of (writes_up bytes) l ls) ≡ list_any claims_on (l ∷ ls)
any_last bytes l [] = refl
any_last bytes l (k ∷ ls) = ap (λ (b : Bool). claims_on l || b) (any_last bytes k ls)

any_written : (bytes : List ℕ) (ls : List GrandLink) → list_any claims_on (with_last (writes_up bytes) ls) ≡ list_any claims_on ls
any_written bytes [] = refl
any_written bytes (l ∷ ls) = any_last bytes l ls

pub any_put : (ls : List GrandLink) (m : ℕ) (old new : GrandLink) → slice_get ls m ≡ Some old → claims_on new ≡ claims_on old
    → list_any claims_on (slice_set ls m new) ≡ list_any claims_on ls
any_put [] m old new is same = refl
any_put (l ∷ ls) zero old new is same = ap (λ (b : Bool). b || list_any claims_on ls) (same ∙ ap claims_on (sym (there_is is)))
any_put (l ∷ ls) (suc m) old new is same = ap (λ (b : Bool). claims_on l || b) (any_put ls m old new is same)

pub any_at : (ls : List GrandLink) (m : ℕ) (l : GrandLink) → slice_get ls m ≡ Some l → claims_on l ≡ true → list_any claims_on ls ≡ true
any_at [] m l is claims = none_there is
any_at (k ∷ ls) zero l is claims = ap (λ (b : Bool). b || list_any claims_on ls) (ap claims_on (there_is is) ∙ claims)
any_at (k ∷ ls) (suc m) l is claims = any_more (claims_on k) (any_at ls m l is claims)
  where
    any_more : (b : Bool) {c : Bool} → c ≡ true → (b || c) ≡ true
    any_more true is = refl
    any_more false is = is

-- ---- events of a client

-- all that it has to write is written
sends_epoch : (stage : Stage) (d : Dialer) (c : Client) → d.stage ≡ stage → (d.stage ≡ stages.Attached) ⊎ ((session_after stage d.session).peer.endpoint.epoch ≡ epoch d)
sends_epoch (stages.Resting until) d c is = inr refl
sends_epoch (stages.Calling since) d c is = inr refl
sends_epoch (stages.Shaking since s) d c is = inr refl
sends_epoch stages.Attached d c is = inl is
sends_epoch (stages.Over end) d c is = inr refl

-- the dialer has made a step, and all that it has to write is written
moves_sent : (c d : Client) → d.key ≡ c.key
    → (list_any claims_on d.links ≡ true → (list_any claims_on c.links ≡ true) ⊎ (nat_lt 0 (epoch c.dialer) ≡ true))
    → (c.dialer.stage ≡ stages.Attached) ⊎ ((d.dialer.stage ≡ stages.Attached) ⊎ (epoch d.dialer ≡ epoch c.dialer)) → Moves c (sends d)
moves_sent c d key links dialer = record {
  key = key;
  links = λ some. links (sym (any_written (out d.dialer) d.links) ∙ some);
  dialer = by dialer (sends_epoch d.dialer.stage d.dialer d refl);
}
  where
    by : (c.dialer.stage ≡ stages.Attached) ⊎ ((d.dialer.stage ≡ stages.Attached) ⊎ (epoch d.dialer ≡ epoch c.dialer))
        → (d.dialer.stage ≡ stages.Attached) ⊎ ((session_after d.dialer.stage d.dialer.session).peer.endpoint.epoch ≡ epoch d.dialer)
        → (c.dialer.stage ≡ stages.Attached) ⊎ ((d.dialer.stage ≡ stages.Attached) ⊎ ((session_after d.dialer.stage d.dialer.session).peer.endpoint.epoch ≡ epoch c.dialer))
    by (inl was) sent = inl was
    by (inr (inl is)) sent = inr (inl is)
    by (inr (inr same)) (inl is) = inr (inl is)
    by (inr (inr same)) (inr sent) = inr (inr (sent ∙ same))

-- an event of the dialer, of a client whose links are as these
moves_dialled : (event : DialEvent) (now : ℕ) (c e : Client) → e.key ≡ c.key → e.dialer ≡ c.dialer
    → (list_any claims_on e.links ≡ true → (list_any claims_on c.links ≡ true) ⊎ (nat_lt 0 (epoch c.dialer) ≡ true)) → Moves c (dialled event now e)
unfolding dialled
moves_dialled event now c e key same links =
    moves_sent c (record e { dialer = (dials event now e).1; drawn = e.drawn + draws_by event now e.dialer.stage e.dialer.lost }) key links
    (by (keeps_step (answer_at e.dialer.stage) (draws_after e.drawn) event now e.dialer))
  where
    d : Dialer
    d = (dials event now e).1

    by : Keeps e.dialer (dials event now e) → (c.dialer.stage ≡ stages.Attached) ⊎ ((d.stage ≡ stages.Attached) ⊎ (epoch d ≡ epoch c.dialer))
    by (inl was) = inl (ap (λ (x : Dialer). x.stage) (sym same) ∙ was)
    by (inr (inl is)) = inr (inl is)
    by (inr (inr kept)) = inr (inr (ap (λ (s : Session). s.peer.endpoint.epoch) kept ∙ ap epoch same))

pub moves_dialer : (event : DialEvent) (now : ℕ) (c : Client) → Moves c (dialled event now c)
moves_dialer event now c = moves_dialled event now c c refl refl (λ some. inl some)

pub moves_linked : (now : ℕ) (c : Client) → Moves c (linked now c)
moves_linked now c =
    moves_dialled events.Linked now c (record c { links = c.links ++ fresh_link c ∷ [] }) refl refl
    (λ some. by (list_any claims_on c.links) (nat_lt 0 (epoch c.dialer)) (sym (list_any-append claims_on c.links (fresh_link c ∷ [])) ∙ some))
  where
    by : (a b : Bool) → (a || (b || false)) ≡ true → (a ≡ true) ⊎ (b ≡ true)
    by true b some = inl refl
    by false true some = inr refl
    by false false some = absurd (true≢false (sym some))

pub moves_asked : (call : Session → Session) (c : Client) → KeepsLink call → Moves c (asked call c)
unfolding asked
moves_asked call c keeps =
    moves_sent c (record c { dialer = record c.dialer { session = call c.dialer.session } }) refl (λ some. inl some) (inr (inr (keeps c.dialer.session).0))

-- a link changes, whose head stays, and bytes of it may come to the dialer
pub moves_link : (b : Bool) (bytes : List ℕ) (now : ℕ) (c : Client) (m : ℕ) (old new : GrandLink) → slice_get c.links m ≡ Some old → claims_on new ≡ claims_on old
    → Moves c (takes b bytes now (record c { links = slice_set c.links m new }))
moves_link true bytes now c m old new is same =
    moves_dialled (events.Piece bytes) now c (record c { links = slice_set c.links m new }) refl refl (λ some. inl (sym (any_put c.links m old new is same) ∙ some))
moves_link false bytes now c m old new is same = record {
  key = refl;
  links = λ some. inl (sym (any_put c.links m old new is same) ∙ some);
  dialer = inr (inr refl);
}

-- ---- a client that is made

new_epoch : (kind : Kind) (now : ℕ) → (dialling kind context now).peer.endpoint.epoch ≡ 0
unfolding say_all
new_epoch Management now = (same_said_all (value_bytes context ∷ message_bytes initialize ∷ []) now (new_endpoint 0 now true)).0
new_epoch ExtensionHost now = refl
new_epoch Tunnel now = refl

pub claims_new : (key : Key) (now : ℕ) (o : Option Row) → Claims o (new_client key now)
claims_new key now o = record {
  dialer = λ some. absurd (true≢false (sym (ap (λ (n : ℕ). nat_lt 0 n) (sym (new_epoch key.kind now)) ∙ some)));
  links = λ some. absurd (true≢false (sym some));
}
