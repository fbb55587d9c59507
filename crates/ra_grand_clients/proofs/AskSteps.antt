-- A call of a client's session.
use Rattle.std.proofs.Common.{◌≡◌, Option, Result, Ok, Err, OnOk, OnErr, IfOk, refl, ap, sym, ◌∙◌, subst}
use Rattle.std.specs.Prelude.{ℤ}
use Rattle.ra_ipc.specs.View.{id_of}
use Rattle.ra_session.specs.declared.values.SessionFault.{SessionFault}
use Rattle.ra_session.specs.Sessions.{Session}
use Rattle.ra_session.specs.SessionRefusals.{Refusal, Refuses}
use Rattle.ra_dial.specs.Dialers.{Dialer}
use Rattle.ra_dial.specs.DialerStates.{DialerState, StandsForDialer, OfEachDialer, DialerBecomes}
use Rattle.ra_dial.specs.View.{on_session}
use Rattle.ra_grand_clients.specs.ClientStates.{ClientState, StandsForClient, StaysClient, IsFlushed, Asks, IsNextId}
use Rattle.ra_grand_runs.specs.GrandClients.{asked}

asks_at : {X : Type 0} → (r : Result X SessionFault) (old mid : ClientState) (new : DialerState) (call : Session → Session) (refusal : Session → Option Refusal)
    → StaysClient old mid → IsFlushed old mid → OnOk r (DialerBecomes mid.dialer new (on_session call))
    → OfEachDialer mid.dialer (λ d. Refuses r (refusal d.session)) → OnErr r (new ≡ mid.dialer) → Asks r old (record mid { dialer = new }) call refusal
unfolding asked
asks_at (Ok x) old mid new call refusal stays flushed becomes refused same =
    λ c stands.
    let holds = flushed c stands in (
      refused c.dialer holds.dialer,
      (
        record c { dialer = on_session call c.dialer },
        record { key = holds.key; dialer = becomes c.dialer holds.dialer; draws = holds.draws; links = holds.links },
        refl,
      ),
    )
asks_at (Err fault) old mid new call refusal stays flushed becomes refused same =
    λ c stands. (refused c.dialer (flushed c stands).dialer, subst (λ (d : DialerState). StandsForClient (record mid { dialer = d }) c) (sym same) (stays c stands))

pub asks : {X : Type 0} → (r : Result X SessionFault) (old m mid : ClientState) (new : DialerState) (call : Session → Session) (refusal : Session → Option Refusal)
    → mid ≡ m → StaysClient old m → IsFlushed old m → OnOk r (DialerBecomes mid.dialer new (on_session call))
    → OfEachDialer mid.dialer (λ d. Refuses r (refusal d.session)) → OnErr r (new ≡ mid.dialer) → Asks r old (record mid { dialer = new }) call refusal
asks r old m mid new call refusal is stays flushed =
    asks_at r old mid new call refusal (subst (λ (h : ClientState). StaysClient old h) (sym is) stays) (subst (λ (h : ClientState). IsFlushed old h) (sym is) flushed)

session_is : (h : DialerState) (d : Dialer) → StandsForDialer h d → h.session.client ≡ d.session.client
session_is h d stands = ap (λ (s : Session). s.client) (sym stands.session.same)

pub next_id : (r : Result ℤ SessionFault) (old m mid : ClientState) → mid ≡ m → IsFlushed old m → IfOk r (λ id. id_of id ≡ mid.dialer.session.client.next) → IfOk r (λ id. IsNextId old id)
next_id (Ok id) old m mid same flushed is =
    λ c stands.
    let holds = subst (λ (h : ClientState). IsFlushed old h) (sym same) flushed c stands in is ∙ ap (λ x. x.next) (session_is mid.dialer c.dialer holds.dialer)
next_id (Err fault) old m mid same flushed is = is
