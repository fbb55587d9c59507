-- What a call leaves to the sessions of other keys.
use Rattle.std.proofs.Common.{◌≡◌, inr, ℕ, ◌<◌, Bool, true, false, not, cond, ◌&&◌, ◌||◌, List, [], ◌∷◌, length, get_or, Option, Some, option_map, is_some, arith, refl, sym, ap, ◌∙◌}
use Rattle.ra_base.specs.declared.handshake.Reason.{Reason}
use Rattle.ra_base.specs.declared.handshake.Reason.TheVariants.{UnknownKind, NeverSeen, SeenBefore, Duplicate}
use Rattle.ra_base.specs.declared.kind.Kind.{Kind}
use Rattle.ra_base.specs.declared.kind.Kind.TheVariants.{Management, ExtensionHost, Tunnel}
use Rattle.ra_base.specs.Outcome.{first_that}
use Rattle.std.specs.Option.{is_none}
use Rattle.ra_base.specs.declared.handshake.Request.{Request}
use Rattle.ra_base.specs.declared.key.Cause.{Cause}
use Rattle.ra_base.specs.declared.key.Key.{Key}
use Rattle.ra_base.specs.declared.key.Seat.{Seat}
use Rattle.ra_keep.specs.declared.record.Record.{Record}
use Rattle.ra_registry.specs.declared.past.Did.TheVariants.{Lost, Closed, Missed}
use Rattle.ra_registry.specs.declared.past.Past.{Past}
use Rattle.ra_registry.specs.declared.row.Row.{Row}
use Rattle.ra_registry.specs.Admission.{key_of, admission_entry, refusal_entry, admission_refusal, is_live_row, seat_for, next_epoch}
use Rattle.ra_registry.specs.Legal.{IsLegal}
use Rattle.ra_registry.specs.RegistryStates.{RegistryState}
use Rattle.ra_registry.specs.RowChanges.{shorten}
use Rattle.ra_registry.specs.Rows.{same_key, own_change, other_change, row_of}
use Rattle.ra_registry.proofs.HistoryRows.{row_of-push, change_is}
use Rattle.ra_registry.proofs.LawLemmas.{refused_at_start}
use Rattle.ra_registry.proofs.StartRows.{each_record}
use Rattle.ra_session.specs.Saying.{serving}
use Rattle.ra_session.specs.Sessions.{Session}
use Rattle.ra_session.specs.SessionCalls.{lose_session, end_session}
use Rattle.ra_hub.specs.Hubs.{Hub, row, started, enter, entry_of, with_session, at_key, admitted, refused, missed, seat_lost, seat_closed, closes}
use Rattle.ra_hub.specs.OtherSessions.{IsSame, IsShortened, OfOthers, AgreeOn}

-- the row of another key after an entry
entered : (h : Hub) (entry : Past) (other : Key) → same_key entry.key other ≡ false → row (enter entry h) other ≡ other_change entry.at entry.did (row h other)
entered h entry other apart =
    row_of-push h.registry entry other ∙ change_is other (row h other) entry
    ∙ ap (λ (b : Bool). cond b (own_change entry.at entry.did (row h other)) (other_change entry.at entry.did (row h other))) apart

set_apart : (key other : Key) (s : Session) (f : Key → Option Session) → same_key key other ≡ false → with_session key s f other ≡ f other
set_apart key other s f apart = ap (λ (b : Bool). cond b (Some s) (f other)) apart

pub others_admitted : (h : Hub) (ask : Request) (now : ℕ) → OfOthers (key_of ask) (IsShortened now h (admitted ask now h))
unfolding admitted
others_admitted h ask now other apart = here ask.reconnection
  where
    here : (b : Bool) → IsShortened now h (enter (admission_entry h.registry ask now) (cond b h (at_key (key_of ask) (serving (key_of ask).kind now) h))) other
    here true = record { session = refl; row_is = inr (entered h (admission_entry h.registry ask now) other apart) }
    here false = record { session = set_apart (key_of ask) other _ h.session apart; row_is = inr (entered h (admission_entry h.registry ask now) other apart) }

pub others_refused : (h : Hub) (ask : Request) (now : ℕ) (reason : Reason) → OfOthers (key_of ask) (IsShortened now h (refused ask now reason h))
unfolding refused
others_refused h ask now reason other apart = record { session = refl; row_is = inr (entered h (refusal_entry ask now reason) other apart) }

pub others_called : (h : Hub) (key : Key) (s : Session) → OfOthers key (IsSame h (at_key key s h))
others_called h key s other apart = record { session = set_apart key other s h.session apart; row_is = refl }

pub others_lost : (h : Hub) (seat : Seat) (now : ℕ) (s : Session) → OfOthers seat.key (IsSame h (seat_lost seat now s h))
unfolding seat_lost
others_lost h seat now s other apart = record {
  session = set_apart seat.key other (lose_session seat.epoch s) h.session apart;
  row_is = entered h (entry_of seat.key now (Lost seat.epoch)) other apart;
}

pub others_closed : (h : Hub) (seat : Seat) (cause : Cause) (now : ℕ) (s : Session) → OfOthers seat.key (IsSame h (seat_closed seat cause now s h))
unfolding seat_closed
others_closed h seat cause now s other apart = here (closes seat.epoch (row h seat.key))
  where
    here : (b : Bool) → IsSame h (enter (entry_of seat.key now (Closed seat.epoch cause)) (cond b (at_key seat.key (end_session cause s) h) h)) other
    here true = record { session = set_apart seat.key other (end_session cause s) h.session apart; row_is = entered h (entry_of seat.key now (Closed seat.epoch cause)) other apart }
    here false = record { session = refl; row_is = entered h (entry_of seat.key now (Closed seat.epoch cause)) other apart }

pub others_missed : (h : Hub) (key : Key) (now : ℕ) → OfOthers key (IsSame h (missed key now h))
unfolding missed
others_missed h key now other apart = record { session = refl; row_is = entered h (entry_of key now Missed) other apart }

-- ---- requests

-- the reasons by the grace times, the rows of the three kinds, and the row that is asked for
abbrev reason_by : Request → ℕ → ℕ → ℕ → (m e t own : Option Row) → Option Reason
reason_by ask now long short m e t own = first_that (
    (is_none ask.kind, UnknownKind)
    ∷ (ask.reconnection && not (is_some m || (is_some e || (is_some t || false))), NeverSeen)
    ∷ (ask.reconnection && not (is_live_row long short (option_map (shorten now) own) now), SeenBefore)
    ∷ (not ask.reconnection && is_some own, Duplicate)
    ∷ [])

row_at : RegistryState → Kind → List ℕ → Option Row
row_at r kind token = row_of r (record { kind = kind; token = token })

by_rows : (r : RegistryState) (ask : Request) (now : ℕ)
    → admission_refusal r ask now
    ≡ reason_by ask now r.long_grace r.short_grace (row_at r Management ask.token) (row_at r ExtensionHost ask.token) (row_at r Tunnel ask.token) (row_of r (key_of ask))
unfolding admission_refusal row_at
by_rows r ask now = refl

pub same_refusal : (a b : RegistryState) (ask : Request) (now : ℕ) → AgreeOn ask.token a b → admission_refusal a ask now ≡ admission_refusal b ask now
unfolding row_at
same_refusal a b ask now agree =
    by_rows a ask now
    ∙ ap (λ (n : ℕ). reason_by ask now n a.short_grace (row_at a Management ask.token) (row_at a ExtensionHost ask.token) (row_at a Tunnel ask.token) (row_of a (key_of ask))) agree.long
    ∙ ap (λ (n : ℕ). reason_by ask now b.long_grace n (row_at a Management ask.token) (row_at a ExtensionHost ask.token) (row_at a Tunnel ask.token) (row_of a (key_of ask))) agree.short
    ∙ ap (λ (r : Option Row). reason_by ask now b.long_grace b.short_grace r (row_at a ExtensionHost ask.token) (row_at a Tunnel ask.token) (row_of a (key_of ask))) (agree.rows Management)
    ∙ ap (λ (r : Option Row). reason_by ask now b.long_grace b.short_grace (row_at b Management ask.token) r (row_at a Tunnel ask.token) (row_of a (key_of ask))) (agree.rows ExtensionHost)
    ∙ ap (λ (r : Option Row). reason_by ask now b.long_grace b.short_grace (row_at b Management ask.token) (row_at b ExtensionHost ask.token) r (row_of a (key_of ask))) (agree.rows Tunnel)
    ∙ ap (λ (r : Option Row). reason_by ask now b.long_grace b.short_grace (row_at b Management ask.token) (row_at b ExtensionHost ask.token) (row_at b Tunnel ask.token) r) (agree.rows (key_of ask).kind)
    ∙ sym (by_rows b ask now)

pub same_seat_for : (a b : RegistryState) (ask : Request) → AgreeOn ask.token a b → seat_for a ask ≡ seat_for b ask
same_seat_for a b ask agree = ap with_row (agree.rows (key_of ask).kind)
  where
    with_row : Option Row → Seat
    with_row r = record { key = key_of ask; epoch = next_epoch r }

-- ---- start records

none_legal : (long short : ℕ) (records : List Record) → IsLegal (started long short records).registry
none_legal long short records = record { fits = λ i d small. absurd (nothing i small) }
  where
    nothing : (i : ℕ) → i < 0 → ⊥
    nothing i small = omega (arith, small)

pub over_at_start : (long short : ℕ) (records : List Record) (i : ℕ) (d : Record) (ask : Request) (now : ℕ) → i < length records
    → same_key (get_or records i d).key (key_of ask) ≡ true → is_some ask.kind ≡ true
    → admission_refusal (started long short records).registry ask now ≡ Some (cond ask.reconnection SeenBefore Duplicate)
over_at_start long short records i d ask now small same kind =
    refused_at_start (started long short records).registry ask now (none_legal long short records) kind
    (ap is_some (each_record records (key_of ask) i d small same).1)
