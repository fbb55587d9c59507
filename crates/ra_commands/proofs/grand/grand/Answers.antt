use Rattle.ra_commands.proofs.GrandReports.{grand_done, grand_front}
use Rattle.ra_commands.proofs.grand.grand.Goals as goal

pub returns-in_default-write_all-clause-front : goal.returns-in_default-write_all-clause-front
returns-in_default-write_all-clause-front g c =
    grand_front c.in_ok-input.input _ (g.S.Source.left c.read_whole.new.source) _ _ _ _ _ c.in-Ok.ending c.in_ok-input.ensures.input c.new-text.ensures.items c.in-Ok.ensures c.as_slice.ensures.value c.in_default-write_all.ensures.err

pub returns-clause-done : goal.returns-clause-done
returns-clause-done g c =
    grand_done c.in_ok-input.input _ (g.S.Source.left c.read_whole.new.source) _ _ _ _ _ c.in-Ok.ending c.in_ok-input.ensures.input c.new-text.ensures.items c.in-Ok.ensures c.as_slice.ensures.value c.in-Ok-write_all.ensures.ok
