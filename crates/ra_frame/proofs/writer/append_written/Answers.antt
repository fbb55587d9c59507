use Rattle.std.proofs.Common.{◌∙◌, sym, true, false}
use Rattle.ra_frame.proofs.Headers.{written_behind}
use Rattle.ra_frame.proofs.writer.append_written.Goals as goal

pub returns-then-needs_wide-clause-ok : goal.returns-then-needs_wide-clause-ok
returns-then-needs_wide-clause-ok c =
    rw (c.in_ok-extend_from_slice-2.ensures.items, c.in_ok-extend_from_slice.ensures.items, c.in_ok-reserve.ensures.items)
    (written_behind c.args.kind c.args.id c.args.ack c.args.body.now c.args.to.now.items c.wide_header.result true (sym c.needs_wide.ensures ∙ c.if-needs_wide.true) c.wide_header.ensures)

pub returns-clause-ok : goal.returns-clause-ok
returns-clause-ok c =
    rw (c.in_ok-extend_from_slice-4.ensures.items, c.in_ok-extend_from_slice-3.ensures.items, c.in_ok-reserve.ensures.items)
    (written_behind c.args.kind c.args.id c.args.ack c.args.body.now c.args.to.now.items c.short_header.result false (sym c.needs_wide.ensures ∙ c.if-needs_wide.false) c.short_header.ensures)
