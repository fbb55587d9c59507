use Rattle.ra_views.proofs.SessionsRise.{rises_call, rises_listen, rises_cancel, rises_dispose, rises_answer, rises_say, rises_tick, rises_lose, rises_end, rises_attach, rises_feed, rises_out, rises_turn, rises_leave}
use Rattle.ra_views.proofs.laws.rising.Goals as goal

pub returns : goal.returns
returns c = record {
  call = rises_call;
  listen = rises_listen;
  cancel = rises_cancel;
  dispose = rises_dispose;
  answer = rises_answer;
  say = rises_say;
  tick = rises_tick;
  lose = rises_lose;
  end = rises_end;
  attach = rises_attach;
  feed = rises_feed;
  take_out = rises_out;
  turn = rises_turn;
  leave = rises_leave;
}
