use Rattle.ra_model.proofs.Ending.{goes_begin, goes_finish, goes_say, goes_control, goes_pause, goes_resume, goes_feed, goes_wrote, goes_lose, goes_tick, goes_take, ends_take, leave_ends}
use Rattle.ra_model.proofs.laws.ending.Goals as goal

pub returns : goal.returns
returns c = record {
  begin = goes_begin;
  finish = goes_finish;
  say = goes_say;
  control = goes_control;
  pause = goes_pause;
  resume = goes_resume;
  feed = goes_feed;
  wrote = goes_wrote;
  lose = goes_lose;
  tick = goes_tick;
  take = goes_take;
  take_ends = ends_take;
  leave_ends = leave_ends;
}
