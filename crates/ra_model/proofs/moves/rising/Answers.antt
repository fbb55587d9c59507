use Rattle.ra_model.proofs.Later.{later_refl, later_trans, later_begun, later_fed, later_take}
use Rattle.ra_model.proofs.CallMoves.{grows_say, grows_control, grows_pause, grows_resume, grows_finish, grows_wrote, grows_lose, grows_broken, grows_leave, grows_tick}
use Rattle.ra_model.proofs.moves.rising.Goals as goal

pub returns : goal.returns
returns c = record {
  say = grows_say;
  control = grows_control;
  pause = grows_pause;
  resume = grows_resume;
  begin = λ epoch chunk now p. later_begun p epoch chunk now;
  finish = grows_finish;
  feed = λ epoch piece now p. later_fed p epoch piece now;
  wrote = grows_wrote;
  lose = grows_lose;
  broken_off = grows_broken;
  leave = grows_leave;
  tick = grows_tick;
  take = λ now p. later_take p now;
  none = later_refl;
  both = later_trans;
}
