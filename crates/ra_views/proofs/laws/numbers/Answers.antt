use Rattle.ra_views.proofs.SessionLinks.{link_call, link_listen, link_cancel, link_dispose, link_answer, link_say, link_tick, link_feed, link_take_out, number_link, keeps_on_link}
use Rattle.ra_views.proofs.SessionNumbers.{number_lose, number_end, number_turn, number_leave, number_attach}
use Rattle.ra_views.proofs.laws.numbers.Goals as goal

pub returns : goal.returns
returns c = record {
  call = link_call;
  listen = link_listen;
  cancel = link_cancel;
  dispose = link_dispose;
  answer = link_answer;
  say = link_say;
  tick = link_tick;
  feed = link_feed;
  take_out = link_take_out;
  lose = number_lose;
  end = number_end;
  turn = number_turn;
  leave = number_leave;
  keeps = number_link;
  on_link = keeps_on_link;
  attach = number_attach;
}
