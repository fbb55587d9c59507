-- What holds of a server behind its first start, call by call.
use Rattle.std.proofs.Common.{◌≡◌, ℕ, ◌<◌, true, false, cond, List, [], ◌∷◌, ◌++◌, append-nil, append_assoc, length, get_or, Option, None, Some, option_map, is_some, Result, Ok, Err, arith, length-append, refl, sym, ap, subst, ◌∙◌}
use Rattle.std.proofs.lemmas.List.{get_or_append_left}
use Rattle.ra_base.specs.declared.handshake.Reason.{Reason}
use Rattle.ra_base.specs.declared.handshake.Reason.TheVariants.{SeenBefore, Duplicate}
use Rattle.ra_base.specs.declared.handshake.Request.{Request}
use Rattle.ra_base.specs.declared.key.Seat.{Seat}
use Rattle.ra_keep.specs.Causes.{TellsOnly}
use Rattle.ra_keep.specs.declared.record.Record.{Record}
use Rattle.ra_registry.specs.Admission.{admission_refusal, admission_entry, refusal_entry, key_of, seat_for}
use Rattle.ra_registry.specs.KeptRecords.{IsKept, record_of, records_of}
use Rattle.ra_registry.specs.Legal.{IsLegal}
use Rattle.ra_registry.specs.RegistryStates.{RegistryState, with_entry}
use Rattle.ra_registry.specs.Rows.{same_key}
use Rattle.ra_registry.proofs.KeptLemmas.{records_more}
use Rattle.ra_registry.proofs.LawLemmas.{refused_at_start}
use Rattle.ra_registry.proofs.LegalHistories.{legal_push}
use Rattle.ra_registry.proofs.StartRows.{each_record}
use Rattle.ra_audit.specs.Audits.{AreDue}
use Rattle.ra_session.specs.Saying.{serving}
use Rattle.ra_session.specs.SessionCalls.{attach}
use Rattle.ra_session.specs.Turns.{turn}
use Rattle.ra_hub.specs.declared.fault.HubFault.{HubFault}
use Rattle.ra_hub.specs.declared.fault.HubFault.TheVariants as faults
use Rattle.ra_hub.specs.HubCalls as calls
use Rattle.ra_hub.specs.Hubs.{Hub, row, started, at_key, admitted, refused}
use Rattle.ra_hub.specs.Keeping.{Keeps}
use Rattle.ra_record_laws.specs.Servers.{Server, Call, admit, attach as attach_call, turn as turn_call, tell, lose, close, tick, start, start_inside, StartsFrom, HasStarted, Does, Runs}
use Rattle.ra_record_laws.proofs.DueHistories.{history_due, next_record_due}
use Rattle.ra_record_laws.proofs.DueLists.{due_none}
use Rattle.ra_record_laws.proofs.QuietCalls.{IsQuiet, same_quiet, entry_quiet, answered_same, fault_same, tells_quiet, lose_quiet, close_quiet, expiry_quiet}

-- the list of a registry: its start records, and those of its history
abbrev list_of : RegistryState → List Record
list_of r = r.start ++ records_of r.history

-- a server that started first from these records
pub record IsServer (first : List Record) (server : Server) : Type 0 where
  pub legal : IsLegal server.hub.registry
  pub kept : IsKept server.told server.hub.registry
  pub begins : (list : List Record) → server.told ≡ Some list → (more : List Record) × (server.hub.registry.start ≡ first ++ more)
  pub due : AreDue first → (list : List Record) → server.told ≡ Some list → AreDue server.hub.registry.start

-- a call without a record
quiet : (first : List Record) (before after : Server) → IsQuiet before.hub.registry after.hub.registry → TellsOnly before.told after.told → IsServer first before → IsServer first after
quiet first before after q only is = record {
  legal = q.legal is.legal;
  kept = λ list told. is.kept list (only list told) ∙ ap (λ (l : List Record). before.hub.registry.start ++ l) (sym q.records) ∙ ap (λ (l : List Record). l ++ records_of after.hub.registry.history) (sym q.start);
  begins = λ list told. let b = is.begins list (only list told) in (b.0, q.start ∙ b.1);
  due = λ d list told. subst AreDue (sym q.start) (is.due d list (only list told));
}

told_same : (before after : Server) → after.told ≡ before.told → TellsOnly before.told after.told
told_same before after same list told = sym same ∙ told

-- ---- requests

admitted_is : (h : Hub) (ask : Request) (now : ℕ) → (admitted ask now h).registry ≡ with_entry h.registry (admission_entry h.registry ask now)
unfolding admitted
admitted_is h ask now =
    elim ask.reconnection
    as (λ b. with_entry (cond b h (at_key (key_of ask) (serving (key_of ask).kind now) h)).registry (admission_entry h.registry ask now)
    ≡ with_entry h.registry (admission_entry h.registry ask now))
    [ true ↦ refl | false ↦ refl ]

refused_is : (h : Hub) (ask : Request) (now : ℕ) (reason : Reason) → (refused ask now reason h).registry ≡ with_entry h.registry (refusal_entry ask now reason)
unfolding refused
refused_is h ask now reason = refl

from_map : (told : Option (List Record)) (r : Record) (list : List Record) → option_map (λ l. l ++ r ∷ []) told ≡ Some list
    → (before : List Record) × (told ≡ Some before) × (before ++ r ∷ [] ≡ list)
from_map None r list is = cc
from_map (Some before) r list is = (before, refl, cc)

refusal_quiet : (before after : RegistryState) (ask : Request) (now : ℕ) (reason : Reason) → admission_refusal before ask now ≡ Some reason
    → after ≡ with_entry before (refusal_entry ask now reason) → IsQuiet before after
refusal_quiet before after ask now reason refused_for is =
    entry_quiet before after (refusal_entry ask now reason) is (ask, refl, refl, refl, refused_for) refl

acceptance : (first : List Record) (before after : Server) (ask : Request) (now : ℕ) → admission_refusal before.hub.registry ask now ≡ None
    → after.hub.registry ≡ with_entry before.hub.registry (admission_entry before.hub.registry ask now)
    → TellsOnly (option_map (λ list. list ++ record_of (seat_for before.hub.registry ask) now ∷ []) before.told) after.told
    → IsServer first before → IsServer first after
acceptance first before after ask now accepted is only s =
    let r = before.hub.registry in
    let kept_record = record_of (seat_for r ask) now in
    record {
      legal = subst IsLegal (sym is) (legal_push r (admission_entry r ask now) s.legal (ask, refl, refl, accepted, refl));
      kept = λ list told.
          let was = from_map before.told kept_record list (only list told) in
          sym was.2 ∙ ap (λ (l : List Record). l ++ kept_record ∷ []) (s.kept was.0 was.1)
          ∙ append_assoc r.start (records_of r.history) (kept_record ∷ [])
          ∙ ap (λ (l : List Record). r.start ++ l) (sym (records_more r.history (admission_entry r ask now)))
          ∙ ap list_of (sym is);
      begins = λ list told.
          let was = from_map before.told kept_record list (only list told) in
          let b = s.begins was.0 was.1 in
          (b.0, ap (λ (x : RegistryState). x.start) is ∙ b.1);
      due = λ d list told.
          let was = from_map before.told kept_record list (only list told) in
          subst (λ (x : RegistryState). AreDue x.start) (sym is) (s.due d was.0 was.1);
    }

of_registry : (h after : Hub) → h ≡ after → after.registry ≡ h.registry
of_registry h after is = ap (λ (k : Hub). k.registry) (sym is)

request : (first : List Record) (before after : Server) (ask : Request) (now : ℕ) (answer : Result Seat HubFault)
    → calls.Admits before.hub ask now answer (λ h. h ≡ after.hub) → Keeps answer now before.told after.told → IsServer first before → IsServer first after
request first before after ask now (Ok seat) a keeps s =
    acceptance first before after ask now a.0 (of_registry _ _ a.2 ∙ admitted_is before.hub ask now)
    (subst (λ (x : Seat). TellsOnly (option_map (λ list. list ++ record_of x now ∷ []) before.told) after.told) a.1 keeps) s
request first before after ask now (Err (faults.Refused reason)) a keeps s =
    quiet first before after
    (refusal_quiet before.hub.registry after.hub.registry ask now reason a.0 (of_registry _ _ a.1 ∙ refused_is before.hub ask now reason)) keeps s
request first before after ask now (Err faults.NoSession) a keeps s = absurd a
request first before after ask now (Err (faults.Session fault)) a keeps s = absurd a
request first before after ask now (Err faults.KeepFault) a keeps s = quiet first before after (same_quiet _ _ (of_registry _ _ a)) keeps s
request first before after ask now (Err faults.NoMemory) a keeps s = quiet first before after (same_quiet _ _ (of_registry _ _ a)) keeps s

-- ---- starts

start_legal : (long short : ℕ) (records : List Record) → IsLegal (started long short records).registry
start_legal long short records = record { fits = λ i d below. absurd (omega arith) }

-- a start from a list that begins with the first one
starting : (first : List Record) (long short : ℕ) (records : List Record) (after : Server) → StartsFrom long short records after
    → ((list : List Record) → after.told ≡ Some list → (more : List Record) × (list ≡ first ++ more))
    → ((list : List Record) → after.told ≡ Some list → AreDue first → AreDue list) → IsServer first after
starting first long short records after is begins due =
    let r : after.hub.registry ≡ (started long short records).registry = ap (λ (h : Hub). h.registry) is.hub_is in
    let start_is : after.hub.registry.start ≡ records = ap (λ (x : RegistryState). x.start) r in
    record {
      legal = subst IsLegal (sym r) (start_legal long short records);
      kept = λ list told. sym (is.all list told) ∙ sym (append-nil records) ∙ ap list_of (sym r);
      begins = λ list told. let b = begins list told in (b.0, start_is ∙ is.all list told ∙ b.1);
      due = λ d list told. subst AreDue (sym (is.all list told) ∙ sym start_is) (due list told d);
    }

-- ---- all calls

-- the list that a server tells begins with the first one
pub list_begins : (first : List Record) (server : Server) → IsServer first server → (list : List Record) → server.told ≡ Some list → (more : List Record) × (list ≡ first ++ more)
list_begins first server s list told =
    let b = s.begins list told in (
      b.0 ++ records_of server.hub.registry.history,
      s.kept list told ∙ ap (λ (l : List Record). l ++ records_of server.hub.registry.history) b.1 ∙ append_assoc first b.0 (records_of server.hub.registry.history),
    )

pub list_due : (first : List Record) (server : Server) → IsServer first server → (list : List Record) → server.told ≡ Some list → AreDue first → AreDue list
list_due first server s list told d = subst AreDue (sym (s.kept list told)) (history_due server.hub.registry s.legal (s.due d list told))

step : (first : List Record) (call : Call) (before after : Server) → Does call before after → IsServer first before → IsServer first after
step first (admit ask now answer) before after d s = request first before after ask now answer d.0 d.1 s
step first (attach_call seat chunk now answer) before after d s =
    let x = d.0.0 in
    quiet first before after
    (same_quiet _ _ (answered_same _ _ (at_key seat.key (attach seat.epoch chunk now x) before.hub) (λ fault. before.hub) before.hub answer after.hub before.hub.registry refl (λ fault. refl) refl d.0.2))
    (told_same before after d.1) s
step first (turn_call seat piece now answer) before after d s =
    let x = d.0.0 in
    let made = at_key seat.key (turn seat.epoch piece now x) before.hub in
    quiet first before after
    (same_quiet _ _ (answered_same _ _ made (calls.after_fault made before.hub) before.hub answer after.hub before.hub.registry refl (fault_same before.hub seat.key (turn seat.epoch piece now x)) refl d.0.2))
    (told_same before after d.1) s
step first (tell key word now answer) before after d s =
    quiet first before after (tells_quiet before.hub key word now (row before.hub key) (before.hub.session key) answer after.hub refl d.0) (told_same before after d.1) s
step first (lose seat now) before after d s =
    quiet first before after (lose_quiet before.hub after.hub seat now d.1.0.0 d.0 d.1.0.2) (told_same before after d.1.1) s
step first (close seat cause now) before after d s =
    quiet first before after (close_quiet before.hub after.hub seat cause now d.1.0.0 d.0 d.1.0.2) (told_same before after d.1.1) s
step first (tick now expired short) before after d s =
    quiet first before after (expiry_quiet _ _ now expired d.0.rows) (told_same before after d.1) s
step first (start long short records) before after d s =
    starting first long short records after d.0
    (λ list told. list_begins first before s list (d.1 list told))
    (λ list told due. list_due first before s list (d.1 list told) due)
step first (start_inside ask now long short records) before after d s =
    let kept_record = record_of (seat_for before.hub.registry ask) now in
    starting first long short records after d.1
    (λ list told.
    let was = from_map before.told kept_record list (d.2 list told) in
    let b = list_begins first before s was.0 was.1 in
    (b.0 ++ kept_record ∷ [], sym was.2 ∙ ap (λ (l : List Record). l ++ kept_record ∷ []) b.1 ∙ append_assoc first b.0 (kept_record ∷ [])))
    (λ list told due.
    let was = from_map before.told kept_record list (d.2 list told) in
    subst AreDue (ap (λ (l : List Record). l ++ kept_record ∷ []) (sym (s.kept was.0 was.1)) ∙ was.2)
    (next_record_due before.hub.registry ask now s.legal (s.due due was.0 was.1) d.0))

runs : (first : List Record) (calls_made : List Call) (before after : Server) → Runs calls_made before after → IsServer first before → IsServer first after
runs first [] before after is s = subst (IsServer first) is s
runs first (call ∷ rest) before after r s = runs first rest r.0 after r.2 (step first call before r.0 r.1 s)

begun : (server : Server) (start_list : List Record) → HasStarted server → server.told ≡ Some start_list → IsServer start_list server
begun server start_list is told =
    starting start_list is.0 is.1 is.2 server is.3
    (λ list same. ([], let one : Some list ≡ Some start_list = sym same ∙ told in let here : list ≡ start_list = cc in here ∙ sym (append-nil start_list)))
    (λ list same due. let one : Some start_list ≡ Some list = sym told ∙ same in let here : start_list ≡ list = cc in subst AreDue here due)

-- a server whose keeper tells nothing at first
begun_untold : (server : Server) → HasStarted server → server.told ≡ None → IsServer [] server
begun_untold server is none =
    starting [] is.0 is.1 is.2 server is.3 (λ list told. (list, refl)) (λ list told. let never : None ≡ Some list = sym none ∙ told in cc)

pub run_kept : (calls_made : List Call) (before after : Server) → HasStarted before → Runs calls_made before after → IsKept after.told after.hub.registry
run_kept calls_made before after is r = by before.told refl
  where
    by : (told : Option (List Record)) → before.told ≡ told → IsKept after.told after.hub.registry
    by None e = (runs [] calls_made before after r (begun_untold before is e)).kept
    by (Some list) e = (runs list calls_made before after r (begun before list is e)).kept

pub run_behind : (calls_made : List Call) (before after : Server) (start_list list : List Record) → HasStarted before → Runs calls_made before after
    → before.told ≡ Some start_list → after.told ≡ Some list → (more : List Record) × (list ≡ start_list ++ more)
run_behind calls_made before after start_list list is r told now_told =
    list_begins start_list after (runs start_list calls_made before after r (begun before start_list is told)) list now_told

pub run_due : (calls_made : List Call) (before after : Server) (start_list list : List Record) → HasStarted before → Runs calls_made before after
    → before.told ≡ Some start_list → AreDue start_list → after.told ≡ Some list → AreDue list
run_due calls_made before after start_list list is r told due now_told =
    list_due start_list after (runs start_list calls_made before after r (begun before start_list is told)) list now_told due

pub run_empty : (calls_made : List Call) (before after : Server) (list : List Record) → HasStarted before → Runs calls_made before after
    → before.told ≡ Some [] → after.told ≡ Some list → AreDue list
run_empty calls_made before after list is r told now_told = run_due calls_made before after [] list is r told due_none now_told

pub run_over : (calls_made : List Call) (before after : Server) (start_list list : List Record) (i : ℕ) (d : Record) (ask : Request) (now : ℕ)
    → HasStarted before → Runs calls_made before after → before.told ≡ Some start_list → after.told ≡ Some list
    → i < length start_list → same_key (get_or start_list i d).key (key_of ask) ≡ true → is_some ask.kind ≡ true
    → admission_refusal after.hub.registry ask now ≡ Some (cond ask.reconnection SeenBefore Duplicate)
run_over calls_made before after start_list list i d ask now is r told now_told small same kind =
    let s = runs start_list calls_made before after r (begun before start_list is told) in
    let b = s.begins list now_told in
    let reg = after.hub.registry in
    let below : i < length reg.start = rw b.1 (omega (arith, small, length-append start_list b.0)) in
    let here : get_or reg.start i d ≡ get_or start_list i d = rw b.1 (get_or_append_left start_list b.0 d i small) in
    let found = each_record reg.start (key_of ask) i d below (ap (λ (x : Record). same_key x.key (key_of ask)) here ∙ same) in
    refused_at_start reg ask now s.legal kind (ap is_some found.1)
