-- What a dialer does after an event, and how a contract sees it.
use Rattle.std.specs.Prelude.{ℕ}
use Rattle.ra_values.specs.View.{tree}
use Rattle.ra_ipc.specs.View.{id_of}
use Rattle.ra_session.specs.Hearing.{Happening, host, call_settled, event_fired}
use Rattle.ra_session.specs.View.{outcome_of}
use Rattle.ra_dial.specs.declared.values.DialEnd.{DialEnd}
use Rattle.ra_dial.specs.declared.values.DialAct.{DialAct}
use Rattle.ra_dial.specs.declared.values.DialAct.TheVariants as acts

pub data Act : Type 0 where
  nothing : Act
  quiet : Act
  rest_until : (until : ℕ) → Act
  connect : Act
  drop_link : Act
  happened : Happening → Act
  ends : DialEnd → Act

abbrev pub act_of : DialAct → Act
act_of acts.Nothing = nothing
act_of acts.Quiet = quiet
act_of (acts.Rest until) = rest_until until
act_of acts.Connect = connect
act_of acts.Drop = drop_link
act_of (acts.Settled id outcome) = happened (call_settled (id_of id) (outcome_of outcome))
act_of (acts.Fired id body) = happened (event_fired (id_of id) (tree body))
act_of (acts.Host body) = happened (host body)
act_of (acts.End cause) = ends cause
