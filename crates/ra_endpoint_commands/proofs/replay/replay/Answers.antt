use Rattle.ra_endpoint_commands.proofs.ReplayLemmas.{replay_done, replay_front}
use Rattle.ra_endpoint_commands.proofs.replay.replay.Goals as goal

pub returns-in_default-write_all-clause-front : goal.returns-in_default-write_all-clause-front
returns-in_default-write_all-clause-front g c =
    replay_front c.in_ok-input.input _ (g.S.Source.left c.read_whole.new.source) _ _ _ _ _ c.in-Ok.ending c.in_ok-input.ensures.input c.new-text.ensures.items c.in-Ok.ensures c.as_slice.ensures.value c.in_default-write_all.ensures.err

pub returns-clause-done : goal.returns-clause-done
returns-clause-done g c =
    replay_done c.in_ok-input.input _ (g.S.Source.left c.read_whole.new.source) _ _ _ _ _ c.in-Ok.ending c.in_ok-input.ensures.input c.new-text.ensures.items c.in-Ok.ensures c.as_slice.ensures.value c.in-Ok-write_all.ensures.ok
