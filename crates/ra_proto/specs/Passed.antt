-- What is in memory once the ack of a frame counts.
use Rattle.std.specs.Prelude.{ℕ, max, min, if◌then◌else◌}
use Rattle.ra_model.specs.Endpoints.{is_up}
use Rattle.ra_model.specs.EndpointStates.{EndpointState, behind}
use Rattle.ra_model.specs.Timing.{message_heard}

-- the highest id that is acknowledged then. No more counts than was sent
abbrev pub upto : ℕ → EndpointState → ℕ
upto ack s = max s.acknowledged (min ack s.sent)

abbrev pub passed : ℕ → ℕ → EndpointState → EndpointState
passed ack now s =
    record s {
      acknowledged = upto ack s;
      queue = behind (upto ack s) s.queue;
      timing = record s.timing { latest = max now s.timing.latest };
    }

-- and what is in memory once the message with this id counts as handed up
abbrev pub received : ℕ → ℕ → ℕ → EndpointState → EndpointState
received id ack now s =
    let p = passed ack now s in
    record p {
      received = id;
      timing = if is_up p.phase then message_heard p.timing.latest p.timing else p.timing;
    }
