-- How a contract sees what a dialer is made with, and a call of its session.
use Rattle.ra_session.specs.Hearing.{HappeningFits}
use Rattle.ra_session.specs.Sessions.{Session}
use Rattle.ra_dial.specs.Acts.{Act, nothing, quiet, rest_until, connect, drop_link, happened, ends, act_of}
use Rattle.ra_dial.specs.declared.values.DialAct.{DialAct}
use Rattle.ra_dial.specs.declared.values.DialSettings.{DialSettings}
use Rattle.ra_dial.specs.Clients.{Settings}
use Rattle.ra_dial.specs.Dialers.{Dialer}

abbrev pub settings_of : DialSettings → Settings
settings_of s = record { shake = s.shake; sign_key = s.sign_key; key = s.key; host = s.host; skip_frames = s.skip_frames }

-- a call of the session
abbrev pub on_session : (Session → Session) → Dialer → Dialer
on_session call d = record d { session = call d.session }

-- what an act hands out can be written
abbrev pub FitsIn : Act → Type 0
FitsIn nothing = Unit {0}
FitsIn quiet = Unit {0}
FitsIn (rest_until until) = Unit {0}
FitsIn connect = Unit {0}
FitsIn drop_link = Unit {0}
FitsIn (happened h) = HappeningFits h
FitsIn (ends end) = Unit {0}

abbrev pub ActFits : DialAct → Type 0
ActFits act = FitsIn (act_of act)
