use Rattle.std.proofs.Common.{◌≡◌, ◌∷◌, [], ◌++◌, ◌+◌, None, take, refl, sym, ap, ◌∙◌}
use Rattle.std.proofs.lemmas.List.{take_more}
use Rattle.std.proofs.lemmas.List.Sums.{fold-append}
use Rattle.ra_keep.specs.declared.record.Record.{Record}
use Rattle.ra_registry.specs.Rows.{start_row, with_record}
use Rattle.ra_registry.proofs.start.start_rows.Goals as goal

pub loop-kept-init : goal.loop-kept-init
unfolding start_row
loop-kept-init c = λ key. rw c.new-rows.ensures.empty refl

pub loop-kept-preserved : goal.loop-kept-preserved
unfolding start_row
loop-kept-preserved c = λ key.
    let i = c.loop-kept.kept-index in
    let item = c.kept-item.result in
    let records = c.args.records.now in
    let more : take (i + 1) records ≡ take i records ++ item ∷ [] =
    take_more records i item c.loop-kept-test.true ∙ ap (λ (kept : Record). take i records ++ kept ∷ []) (sym c.kept-item.is) in
    c.in_ok-add_record.ensures key ∙ ap (λ row. with_record key row item) (c.loop-kept.invariant key)
    ∙ sym (ap (λ rs. start_row rs key) more ∙ fold-append (with_record key) None (take i records) (item ∷ []))
