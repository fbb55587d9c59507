use Rattle.ra_model.proofs.CallMoves.{views_say, views_control, views_pause, views_resume, views_finish, views_tick, views_leave, views_lose}
use Rattle.ra_model.proofs.Takes.{view_take}
use Rattle.ra_model.proofs.moves.calls.Goals as goal

pub returns : goal.returns
returns c = record {
  say = views_say;
  control = views_control;
  pause = views_pause;
  resume = views_resume;
  finish = views_finish;
  tick = views_tick;
  leave = views_leave;
  lose = views_lose;
  take = λ now start s i j p o links v. view_take start s i j p o links now v;
}
