-- What a session says.
use Rattle.std.specs.Prelude.{ℕ, true, false, List, [], ◌∷◌, ◌++◌, map}
use Rattle.ra_base.specs.declared.kind.Kind.{Kind}
use Rattle.ra_base.specs.declared.kind.Kind.TheVariants.{Management, ExtensionHost, Tunnel}
use Rattle.ra_model.specs.Calls.{say}
use Rattle.ra_model.specs.Views.{called}
use Rattle.ra_proto.specs.SayAll.{say_all}
use Rattle.ra_values.specs.Tree.{Tree}
use Rattle.ra_values.specs.ValueBytes.{value_bytes}
use Rattle.ra_ipc.specs.Messages.{Message, initialize}
use Rattle.ra_ipc.specs.Packets.{message_bytes}
use Rattle.ra_session.specs.Sessions.{Session, new_session, on_endpoint}

-- these packets are said, in order
abbrev pub says : List Message → ℕ → Session → Session
says messages now s = record s { peer = called (say_all (map message_bytes messages) now) s.peer; packets = s.packets ++ messages }

-- what the end that dialled says first: the context, and that it is ready
abbrev pub opening : Kind → Tree → ℕ → Session → Session
opening Management context now s = says (initialize ∷ []) now (on_endpoint (say (value_bytes context) now) s)
opening ExtensionHost context now s = s
opening Tunnel context now s = s

-- the session of an end that serves, and of one that dialled
abbrev pub serving : Kind → ℕ → Session
serving kind now = new_session kind true now

abbrev pub dialling : Kind → Tree → ℕ → Session
dialling kind context now = opening kind context now (new_session kind false now)
