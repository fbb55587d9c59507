use Rattle.std.proofs.Common.{◌≡◌, true, false, cond, None, Some, arith, refl, sym, ap, subst, ◌∙◌}
use Rattle.std.specs.BTreeMap.{get}
use Rattle.std.specs.BTreeSet.{contains}
use Rattle.ra_base.specs.Keys.{key_cmp}
use Rattle.ra_base.specs.declared.key.Key.{Key}
use Rattle.ra_registry.specs.declared.row.Row.{Row}
use Rattle.ra_registry.specs.RegistryStates.{RegistryState}
use Rattle.ra_registry.specs.RowChanges.{is_open, admitted_at}
use Rattle.ra_registry.specs.TableChanges.{SetsRow, SetsKey}
use Rattle.ra_registry.specs.Admission.{admission_refusal, key_of}
use Rattle.ra_registry.proofs.SameKeys.{same_key_itself}
use Rattle.ra_registry.proofs.TableLemmas.{row_undone, key_undone}
use Rattle.ra_registry.proofs.Accepted.{accepted_new, new_entry, new_seat}
use Rattle.ra_registry.proofs.Entered.{admitted_consistent, new_rows, undone_consistent}
use Rattle.ra_registry.proofs.SeatCounts.{just_given}
use Rattle.ra_registry.proofs.registry.Registry.admit_new.Goals as goal

pub add_row-requires-clause-row : goal.add_row-requires-clause-row
add_row-requires-clause-row g c =
    let accepted = subst (λ (r : RegistryState). admission_refusal r c.args.ask.now c.args.at ≡ None) (sym c.self.view_is) c.requires.accepted in
    rw c.key_of-key.ensures (c.self.invariant.rows_are (key_of c.args.ask.now) ∙ accepted_new _ c.args.ask.now c.args.at accepted c.requires.new)

pub add_row-requires-clause-absent : goal.add_row-requires-clause-absent
add_row-requires-clause-absent g c =
    let accepted = subst (λ (r : RegistryState). admission_refusal r c.args.ask.now c.args.at ≡ None) (sym c.self.view_is) c.requires.accepted in
    rw c.key_of-key.ensures
    (c.self.invariant.open_are (key_of c.args.ask.now) ∙ ap is_open (accepted_new _ c.args.ask.now c.args.at accepted c.requires.new))

pub remove_row-requires : goal.remove_row-requires
remove_row-requires g c =
    let key = c.key_of-key.result in
    c.in_ok-add_row.ensures.keys key ∙ ap (λ b. cond b true (contains key_cmp c.self.inside.open_keys key)) (same_key_itself key)

pub invariant_of-self-in-Err : goal.invariant_of-self-in-Err
invariant_of-self-in-Err g c =
    let key = c.key_of-key.result in
    let accepted = subst (λ (r : RegistryState). admission_refusal r c.args.ask.now c.args.at ≡ None) (sym c.self.view_is) c.requires.accepted in
    let none = accepted_new _ c.args.ask.now c.args.at accepted c.requires.new in
    let no_row : get key_cmp c.self.inside.rows key ≡ None = rw c.key_of-key.ensures (c.self.invariant.rows_are (key_of c.args.ask.now) ∙ none) in
    let not_open : contains key_cmp c.self.inside.open_keys key ≡ false =
    rw c.key_of-key.ensures (c.self.invariant.open_are (key_of c.args.ask.now) ∙ ap is_open none) in
    rw c.reserve.ensures.items
    (undone_consistent _ _ _ _ _ _ c.self.invariant c.remove_row.new.rows c.remove_row.new.open_keys _
    (row_undone c.self.inside.rows c.add_row.new.rows c.remove_row.new.rows key (Some c.admitted-row.result) c.in_ok-add_row.ensures.rows c.remove_row.ensures.rows no_row)
    (key_undone c.self.inside.open_keys c.add_row.new.open_keys c.remove_row.new.open_keys key c.in_ok-add_row.ensures.keys c.remove_row.ensures.keys not_open)
    (omega (arith, c.in_ok-add_row.ensures.count, c.remove_row.ensures.count)) c.reserve.ensures.capacity)

pub invariant_of-self-2 : goal.invariant_of-self-2
invariant_of-self-2 g c =
    let ask = c.args.ask.now in
    let at = c.args.at in
    let accepted = subst (λ (r : RegistryState). admission_refusal r ask at ≡ None) (sym c.self.view_is) c.requires.accepted in
    let none = accepted_new _ ask at accepted c.requires.new in
    let entry = new_entry _ ask at none c.requires.new in
    let adds =
    subst (λ (key : Key). SetsRow c.self.inside.rows c.add_row.new.rows key (Some (admitted_at 1 at None))) c.key_of-key.ensures
    (subst (λ (row : Row). SetsRow c.self.inside.rows c.add_row.new.rows c.key_of-key.result (Some row)) c.admitted-row.ensures c.in_ok-add_row.ensures.rows) in
    let opens = subst (λ (key : Key). SetsKey c.self.inside.open_keys c.add_row.new.open_keys key true) c.key_of-key.ensures c.in_ok-add_row.ensures.keys in
    rw (c.enter_request.ensures.history, c.enter_request.ensures.place, c.reserve.ensures.items, c.same-2.ensures, c.key_of-key.ensures, ← entry)
    (admitted_consistent _ _ _ _ _ _ c.self.invariant ask at accepted c.enter_request.new.rows c.add_row.new.open_keys _
    (new_rows _ _ _ _ _ _ c.self.invariant ask at none c.add_row.new.rows c.enter_request.new.rows adds
    (rw c.reserve.ensures.items at c.enter_request.ensures.rows))
    opens
    (omega (arith, c.self.inside.history.ok.0, c.len.ensures.len, c.reserve.ensures.len, c.in_ok-reserve.ensures.ok, c.in_ok-add_row.ensures.count, c.enter_request.ensures.capacity)))

pub returns-clause-answered : goal.returns-clause-answered
returns-clause-answered g c =
    let ask = c.args.ask.now in
    let at = c.args.at in
    let accepted = subst (λ (r : RegistryState). admission_refusal r ask at ≡ None) (sym c.self.view_is) c.requires.accepted in
    let none = accepted_new _ ask at accepted c.requires.new in
    rw (← c.self.view_is) (
      accepted,
      rw c.key_of-key.ensures (sym (new_seat _ ask none)),
      rw (c.enter_request.ensures.history, c.reserve.ensures.items, c.same-2.ensures, c.key_of-key.ensures, ← new_entry _ ask at none c.requires.new) refl,
    )

pub returns-clause-seat : goal.returns-clause-seat
returns-clause-seat g c =
    rw (c.enter_request.ensures.history, c.reserve.ensures.items, c.same-2.ensures) (just_given _ c.key_of-key.result _ c.args.at _ c.self.invariant.legal)

pub returns-clause-legal : goal.returns-clause-legal
returns-clause-legal g c = (invariant_of-self-2 g c).legal
