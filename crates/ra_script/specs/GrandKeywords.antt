-- The first words of lines of a grand script.
use Rattle.std.specs.Prelude.{ℕ, List, [], ◌∷◌, codes, Option, find}
use Rattle.std.specs.Str.{bytes_eq}
use Rattle.ra_script.specs.declared.grand_keyword.GrandKeyword.{GrandKeyword}
use Rattle.ra_script.specs.declared.grand_keyword.GrandKeyword.TheVariants.{At, Client, Step, Linked, NoLink, Up, Idle, Down, Frame, Drain, Cut, Gone, Lost, Sweep, Work, Call, Text, Listen, Cancel, Dispose, Say, Stop}

abbrev pub grand_keyword_text : GrandKeyword → List ℕ
grand_keyword_text At = codes "at"
grand_keyword_text Client = codes "client"
grand_keyword_text Step = codes "step"
grand_keyword_text Linked = codes "linked"
grand_keyword_text NoLink = codes "nolink"
grand_keyword_text Up = codes "up"
grand_keyword_text Idle = codes "idle"
grand_keyword_text Down = codes "down"
grand_keyword_text Frame = codes "frame"
grand_keyword_text Drain = codes "drain"
grand_keyword_text Cut = codes "cut"
grand_keyword_text Gone = codes "gone"
grand_keyword_text Lost = codes "lost"
grand_keyword_text Sweep = codes "sweep"
grand_keyword_text Work = codes "work"
grand_keyword_text Call = codes "call"
grand_keyword_text Text = codes "text"
grand_keyword_text Listen = codes "listen"
grand_keyword_text Cancel = codes "cancel"
grand_keyword_text Dispose = codes "dispose"
grand_keyword_text Say = codes "say"
grand_keyword_text Stop = codes "stop"

abbrev pub grand_keywords : List GrandKeyword
grand_keywords =
    At ∷ Client ∷ Step ∷ Linked ∷ NoLink ∷ Up ∷ Idle ∷ Down ∷ Frame ∷ Drain ∷ Cut ∷ Gone ∷ Lost ∷ Sweep ∷ Work ∷ Call ∷ Text ∷ Listen ∷ Cancel ∷ Dispose ∷ Say ∷ Stop ∷ []

-- the keyword that a word is
unfoldable pub grand_keyword_at : List ℕ → Option GrandKeyword
grand_keyword_at word = find (λ keyword. bytes_eq (grand_keyword_text keyword) word) grand_keywords
