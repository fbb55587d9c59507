use Rattle.ra_views.proofs.SessionMoves.{keeps_call, keeps_listen, keeps_cancel, keeps_dispose, keeps_answer, keeps_say, keeps_tick, keeps_lose, keeps_end, keeps_take, keeps_leave}
use Rattle.ra_views.proofs.laws.calls.Goals as goal

pub returns : goal.returns
returns c = record {
  call = keeps_call;
  listen = keeps_listen;
  cancel = keeps_cancel;
  dispose = keeps_dispose;
  answer = keeps_answer;
  say = keeps_say;
  tick = keeps_tick;
  lose = keeps_lose;
  end = keeps_end;
  take = keeps_take;
  leave = keeps_leave;
}
