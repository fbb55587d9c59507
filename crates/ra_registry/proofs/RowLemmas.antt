-- What changes of one row do and leave.
use Rattle.std.proofs.Common.{◌≡◌, ℕ, Bool, true, false, cond, eqb, Option, None, Some, option_map, ap, sym, refl}
use Rattle.ra_base.specs.declared.key.Cause.{Cause}
use Rattle.ra_base.specs.declared.key.Cause.TheVariants.{GraceOver}
use Rattle.ra_registry.specs.declared.row.Row.{Row}
use Rattle.ra_registry.specs.declared.row.RowState.{RowState}
use Rattle.ra_registry.specs.declared.row.RowState.TheVariants.{Up, Lost, Closed}
use Rattle.ra_registry.specs.RowChanges.{shorten, lose, lose_in, close, close_in, expire, is_open, is_open_state, is_unshortened}
use Rattle.ra_registry.specs.Rows.{epoch_of}

-- what holds of a row in each state holds of every row
pub each_row : (P : Row → Type 0)
    → ((epoch changed : ℕ) → P (record { epoch = epoch; state = Up; changed = changed }))
    → ((epoch changed lost : ℕ) → P (record { epoch = epoch; state = Lost lost None; changed = changed }))
    → ((epoch changed lost shortened : ℕ) → P (record { epoch = epoch; state = Lost lost (Some shortened); changed = changed }))
    → ((epoch changed : ℕ) (cause : Cause) → P (record { epoch = epoch; state = Closed cause; changed = changed }))
    → (row : Row) → P row
each_row P up lost shortened closed row = in_state row.state
  where
    in_state : (state : RowState) → P (record { epoch = row.epoch; state = state; changed = row.changed })
    in_state Up = up row.epoch row.changed
    in_state (Lost at None) = lost row.epoch row.changed at
    in_state (Lost at (Some short)) = shortened row.epoch row.changed at short
    in_state (Closed cause) = closed row.epoch row.changed cause

-- a row is shortened once
pub shorten_again : (at later : ℕ) (row : Row) → shorten later (shorten at row) ≡ shorten at row
shorten_again at later = each_row (λ row. shorten later (shorten at row) ≡ shorten at row) (λ e c. refl) (λ e c l. refl) (λ e c l s. refl) (λ e c k. refl)

pub shorten_twice : (at : ℕ) (row : Row) → shorten at (shorten at row) ≡ shorten at row
shorten_twice at row = shorten_again at at row

pub expire_twice : (row : Row) → expire (expire row) ≡ expire row
expire_twice = each_row (λ row. expire (expire row) ≡ expire row) (λ e c. refl) (λ e c l. refl) (λ e c l s. refl) (λ e c k. refl)

shortened_before : (at : ℕ) (row : Row) → is_unshortened (Some row) ≡ false → shorten at row ≡ row
shortened_before at = each_row (λ row. is_unshortened (Some row) ≡ false → shorten at row ≡ row)
    (λ e c h. refl) (λ e c l h. cc) (λ e c l s h. refl) (λ e c k h. refl)

-- a row that is not lost, or was shortened before, stays
pub shortening_leaves : (at : ℕ) (row : Option Row) → is_unshortened row ≡ false → option_map (shorten at) row ≡ row
shortening_leaves at None h = refl
shortening_leaves at (Some row) h = ap Some (shortened_before at row h)

shortened_once : (at : ℕ) (row : Row) → is_unshortened (Some (shorten at row)) ≡ false
shortened_once at = each_row (λ row. is_unshortened (Some (shorten at row)) ≡ false) (λ e c. refl) (λ e c l. refl) (λ e c l s. refl) (λ e c k. refl)

pub shortened : (at : ℕ) (row : Option Row) → is_unshortened (option_map (shorten at) row) ≡ false
shortened at None = refl
shortened at (Some row) = shortened_once at row

shortened_open : (at : ℕ) (row : Row) → is_open (Some (shorten at row)) ≡ is_open (Some row)
shortened_open at = each_row (λ row. is_open (Some (shorten at row)) ≡ is_open (Some row)) (λ e c. refl) (λ e c l. refl) (λ e c l s. refl) (λ e c k. refl)

pub is_open-shorten : (at : ℕ) (row : Option Row) → is_open (option_map (shorten at) row) ≡ is_open row
is_open-shorten at None = refl
is_open-shorten at (Some row) = shortened_open at row

shortened_epoch : (at : ℕ) (row : Row) → epoch_of (Some (shorten at row)) ≡ row.epoch
shortened_epoch at = each_row (λ row. epoch_of (Some (shorten at row)) ≡ row.epoch) (λ e c. refl) (λ e c l. refl) (λ e c l s. refl) (λ e c k. refl)

pub epoch_of-shorten : (at : ℕ) (row : Option Row) → epoch_of (option_map (shorten at) row) ≡ epoch_of row
epoch_of-shorten at None = refl
epoch_of-shorten at (Some row) = shortened_epoch at row

lost_epoch : (epoch at : ℕ) (row : Row) → epoch_of (Some (lose epoch at row)) ≡ row.epoch
lost_epoch epoch at row =
    let here : (b : Bool) → epoch_of (Some (cond b (lose_in row row.state at) row)) ≡ row.epoch =
    elim [ true ↦ lost_in row.state | false ↦ refl ] in
    here (eqb row.epoch epoch)
  where
    lost_in : (state : RowState) → epoch_of (Some (lose_in row state at)) ≡ row.epoch
    lost_in Up = refl
    lost_in (Lost lost shortened) = refl
    lost_in (Closed cause) = refl

pub epoch_of-lose : (epoch at : ℕ) (row : Option Row) → epoch_of (option_map (lose epoch at) row) ≡ epoch_of row
epoch_of-lose epoch at None = refl
epoch_of-lose epoch at (Some row) = lost_epoch epoch at row

closed_epoch : (row : Row) (state : RowState) (cause : Cause) → epoch_of (Some (close_in row state cause)) ≡ row.epoch
closed_epoch row Up cause = refl
closed_epoch row (Lost lost shortened) cause = refl
closed_epoch row (Closed before) cause = refl

pub epoch_of-expire : (row : Option Row) → epoch_of (option_map expire row) ≡ epoch_of row
epoch_of-expire None = refl
epoch_of-expire (Some row) = closed_epoch row row.state GraceOver

pub epoch_of-close : (epoch : ℕ) (cause : Cause) (row : Option Row) → epoch_of (option_map (close epoch cause) row) ≡ epoch_of row
epoch_of-close epoch cause None = refl
epoch_of-close epoch cause (Some row) =
    let here : (b : Bool) → epoch_of (Some (cond b (close_in row row.state cause) row)) ≡ row.epoch =
    elim [ true ↦ closed_epoch row row.state cause | false ↦ refl ] in
    here (eqb row.epoch epoch)

lost_open : (row : Row) (state : RowState) (at : ℕ) → row.state ≡ state → is_open (Some (lose_in row state at)) ≡ is_open (Some row)
lost_open row Up at e = ap is_open_state (sym e)
lost_open row (Lost lost shortened) at e = refl
lost_open row (Closed cause) at e = refl

-- a loss neither closes nor opens
pub is_open-lose : (epoch at : ℕ) (row : Option Row) → is_open (option_map (lose epoch at) row) ≡ is_open row
is_open-lose epoch at None = refl
is_open-lose epoch at (Some row) =
    let here : (b : Bool) → is_open (Some (cond b (lose_in row row.state at) row)) ≡ is_open (Some row) =
    elim [ true ↦ lost_open row row.state at refl | false ↦ refl ] in
    here (eqb row.epoch epoch)

closed_open : (row : Row) (state : RowState) (cause : Cause) → row.state ≡ state → is_open (Some (close_in row state cause)) ≡ true → is_open (Some row) ≡ true
closed_open row Up cause e h = cc
closed_open row (Lost lost shortened) cause e h = cc
closed_open row (Closed before) cause e h = h

-- a close opens no row
pub open-close : (epoch : ℕ) (cause : Cause) (row : Option Row) → is_open (option_map (close epoch cause) row) ≡ true → is_open row ≡ true
open-close epoch cause None h = h
open-close epoch cause (Some row) h =
    let here : (b : Bool) → is_open (Some (cond b (close_in row row.state cause) row)) ≡ true → is_open (Some row) ≡ true =
    elim [ true ↦ closed_open row row.state cause refl | false ↦ λ e. e ] in
    here (eqb row.epoch epoch) h

expired_closed : (row : Row) → is_open (Some (expire row)) ≡ false
expired_closed = each_row (λ row. is_open (Some (expire row)) ≡ false) (λ e c. refl) (λ e c l. refl) (λ e c l s. refl) (λ e c k. refl)

-- an expired row is closed
pub is_open-expire : (row : Option Row) → is_open (option_map expire row) ≡ false
is_open-expire None = refl
is_open-expire (Some row) = expired_closed row

expired_shortened : (row : Row) → is_unshortened (Some (expire row)) ≡ false
expired_shortened = each_row (λ row. is_unshortened (Some (expire row)) ≡ false) (λ e c. refl) (λ e c l. refl) (λ e c l s. refl) (λ e c k. refl)

pub is_unshortened-expire : (row : Option Row) → is_unshortened (option_map expire row) ≡ false
is_unshortened-expire None = refl
is_unshortened-expire (Some row) = expired_shortened row
