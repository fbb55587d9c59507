-- What is done for a call: an answer, and an event or none.
use Rattle.std.specs.Prelude.{ℕ, List, Option, Some, None}
use Rattle.ra_values.specs.Tree.{Tree, text}
use Rattle.ra_values.specs.Spelling.{Fits, levels}
use Rattle.ra_values.specs.View.{tree}
use Rattle.ra_ipc.specs.Messages.{Reply}
use Rattle.ra_ipc.specs.Packets.{reply_body}
use Rattle.ra_ipc.specs.View.{reply}
use Rattle.ra_ipc.specs.declared.packet.Answer.{Answer}
use Rattle.ra_app.specs.declared.app.Done.{Done}
use Rattle.ra_app.specs.declared.app.Shout.{Shout}

-- an event, and its body
pub record Event : Type 0 where
  pub name : List ℕ
  pub body : Tree

pub record Effect : Type 0 where
  pub answer : Reply
  pub event : Option Event

-- an answer without an event
abbrev pub quiet : Reply → Effect
quiet r = record { answer = r; event = None }

abbrev pub event_of : Option Shout → Option Event
event_of None = None
event_of (Some shout) = Some (record { name = shout.event; body = tree shout.body })

abbrev pub effect : Done → Effect
effect done = record { answer = reply done.answer; event = event_of done.fire }

abbrev pub ShoutFits : Option Shout → Type 0
ShoutFits None = Unit {0}
ShoutFits (Some shout) = Fits levels (text shout.event) × Fits levels (tree shout.body)

-- the answer can be written
abbrev pub AnswerFits : Answer → Type 0
AnswerFits answer = Fits levels (reply_body (reply answer))

-- all of it can be written
abbrev pub DoneFits : Done → Type 0
DoneFits done = AnswerFits done.answer × ShoutFits done.fire
