use Rattle.std.proofs.Common.{◌≡◌, ℕ, None, Some, arith, sym, ap, subst, ◌∙◌}
use Rattle.std.specs.BTreeMap.{get}
use Rattle.ra_base.specs.Keys.{key_cmp}
use Rattle.ra_base.specs.declared.key.Key.{Key}
use Rattle.ra_registry.specs.declared.row.Row.{Row}
use Rattle.ra_registry.specs.RegistryStates.{RegistryState}
use Rattle.ra_registry.specs.RowChanges.{admitted_at}
use Rattle.ra_registry.specs.Rows.{row_of}
use Rattle.ra_registry.specs.TableChanges.{SetsRow}
use Rattle.ra_registry.specs.Admission.{admission_refusal, key_of, next_epoch}
use Rattle.ra_registry.proofs.Accepted.{accepted_again, again_open, later_entry}
use Rattle.ra_registry.proofs.Epochs.{next_is, open_epoch}
use Rattle.ra_registry.proofs.Entered.{admitted_consistent, later_rows, stays_open, still_there}
use Rattle.ra_registry.proofs.SeatCounts.{just_given}
use Rattle.ra_registry.proofs.registry.Registry.reconnect.Goals as goal

pub next_epoch-epoch-requires : goal.next_epoch-epoch-requires
next_epoch-epoch-requires g c =
    let ask = c.args.ask.now in
    let accepted = subst (λ (r : RegistryState). admission_refusal r ask c.args.at ≡ None) (sym c.self.view_is) c.requires.accepted in
    let opened = again_open _ ask c.args.at (accepted_again _ ask c.args.at accepted c.requires.later) in
    let bound = open_epoch _ (key_of ask) c.self.invariant.legal opened in
    rw (c.copied-row.ensures, c.get.ensures.value, c.key_of-key.ensures, c.self.invariant.rows_are (key_of ask))
    (omega (arith, bound, c.self.inside.history.ok, c.self.inside.history.small))

pub append-requires-clause-epoch : goal.append-requires-clause-epoch
append-requires-clause-epoch g c =
    let ask = c.args.ask.now in
    let accepted = subst (λ (r : RegistryState). admission_refusal r ask c.args.at ≡ None) (sym c.self.view_is) c.requires.accepted in
    let opened = again_open _ ask c.args.at (accepted_again _ ask c.args.at accepted c.requires.later) in
    let bound = open_epoch _ (key_of ask) c.self.invariant.legal opened in
    rw (c.next_epoch-epoch.ensures, c.copied-row.ensures, c.get.ensures.value, c.key_of-key.ensures, c.self.invariant.rows_are (key_of ask), next_is)
    (omega (arith, bound, c.self.inside.history.ok, c.reserve.ensures.len, c.in_ok-reserve.ensures.ok, c.reserve.new.self.small))

pub set_row-requires : goal.set_row-requires
set_row-requires g c =
    let ask = c.args.ask.now in
    let accepted = subst (λ (r : RegistryState). admission_refusal r ask c.args.at ≡ None) (sym c.self.view_is) c.requires.accepted in
    let opened = again_open _ ask c.args.at (accepted_again _ ask c.args.at accepted c.requires.later) in
    rw c.key_of-key.ensures
    (still_there _ _ _ _ _ _ c.self.invariant (key_of ask) c.args.at c.enter_request.new.rows opened (rw c.reserve.ensures.items at c.enter_request.ensures.rows))

pub invariant_of-self-2 : goal.invariant_of-self-2
invariant_of-self-2 g c =
    let ask = c.args.ask.now in
    let at = c.args.at in
    let r : RegistryState = record {
      long_grace = c.self.inside.graces.long;
      short_grace = c.self.inside.graces.short;
      start = c.self.inside.start.items;
      history = c.self.inside.history.items;
    } in
    let accepted = subst (λ (s : RegistryState). admission_refusal s ask at ≡ None) (sym c.self.view_is) c.requires.accepted in
    let opened = again_open r ask at (accepted_again r ask at accepted c.requires.later) in
    let row_is : c.copied-row.result ≡ row_of r (key_of ask) =
    c.copied-row.ensures ∙ c.get.ensures.value ∙ ap (get key_cmp c.self.inside.rows) c.key_of-key.ensures ∙ c.self.invariant.rows_are (key_of ask) in
    let epoch_is : c.next_epoch-epoch.result ≡ next_epoch (row_of r (key_of ask)) = c.next_epoch-epoch.ensures ∙ ap next_epoch row_is in
    let up_is : c.admitted.result ≡ admitted_at (next_epoch (row_of r (key_of ask))) at (row_of r (key_of ask)) =
    c.admitted.ensures ∙ ap (λ (e : ℕ). admitted_at e at c.copied-row.result) epoch_is ∙ ap (admitted_at (next_epoch (row_of r (key_of ask))) at) row_is in
    let sets =
    subst (λ (key : Key). SetsRow c.enter_request.new.rows c.set_row.new.rows key (Some (admitted_at (next_epoch (row_of r (key_of ask))) at (row_of r (key_of ask))))) c.key_of-key.ensures
    (subst (λ (row : Row). SetsRow c.enter_request.new.rows c.set_row.new.rows c.key_of-key.result (Some row)) up_is c.set_row.ensures) in
    rw (c.enter_request.ensures.history, c.enter_request.ensures.place, c.reserve.ensures.items, c.same-2.ensures, c.key_of-key.ensures, epoch_is, ← later_entry r ask at c.requires.later)
    (admitted_consistent _ _ _ _ _ _ c.self.invariant ask at accepted c.set_row.new.rows c.self.inside.open_keys _
    (later_rows _ _ _ _ _ _ c.self.invariant (key_of ask) at (admitted_at (next_epoch (row_of r (key_of ask))) at (row_of r (key_of ask)))
    c.enter_request.new.rows c.set_row.new.rows (rw c.reserve.ensures.items at c.enter_request.ensures.rows) sets)
    (stays_open _ _ _ _ _ _ c.self.invariant (key_of ask) opened)
    (omega (arith, c.self.inside.history.ok.0, c.len.ensures.len, c.reserve.ensures.len, c.in_ok-reserve.ensures.ok, c.enter_request.ensures.capacity)))

pub returns-clause-seat : goal.returns-clause-seat
returns-clause-seat g c =
    rw (c.enter_request.ensures.history, c.reserve.ensures.items, c.same-2.ensures) (just_given _ c.key_of-key.result _ c.args.at _ c.self.invariant.legal)

pub returns-clause-legal : goal.returns-clause-legal
returns-clause-legal g c = (invariant_of-self-2 g c).legal
