-- A request that is taken back.
use Rattle.std.specs.Prelude.{◌≡◌, ◌-◌, false}
use Rattle.ra_ipc.specs.ChannelClients.{Client, is_in, without, still_unsent}

-- the client without the request that was made last
abbrev pub taken_back : Client → Client
taken_back c =
    let id = c.next - 1 in
    record c { next = id; waiting = still_unsent c id; calls = without id c.calls; listeners = without id c.listeners }

-- no open request has the next id
pub record IsFresh (c : Client) : Type 0 where
  pub calls : is_in c.next c.calls ≡ false
  pub listeners : is_in c.next c.listeners ≡ false
  pub waiting : still_unsent c c.next ≡ c.waiting
