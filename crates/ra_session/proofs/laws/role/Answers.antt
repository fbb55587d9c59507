use Rattle.ra_session.proofs.Roles.{role_of_state, role_attach, role_feed, role_turn, role_out, role_tell, role_call, role_listen, role_cancel, role_dispose, role_tick, role_lose, role_leave, role_end}
use Rattle.ra_session.proofs.laws.role.Goals as goal

pub returns : goal.returns
returns c = record {
  state = role_of_state;
  attach = role_attach;
  feed = role_feed;
  turn = role_turn;
  take_out = role_out;
  tell = role_tell;
  call = role_call;
  listen = role_listen;
  cancel = role_cancel;
  dispose = role_dispose;
  tick = role_tick;
  lose = role_lose;
  leave = role_leave;
  end = role_end;
}
