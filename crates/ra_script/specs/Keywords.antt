-- The first words of lines.
use Rattle.std.specs.Prelude.{ℕ, List, [], ◌∷◌, codes, Option, find}
use Rattle.std.specs.Str.{bytes_eq}
use Rattle.ra_script.specs.declared.keyword.Keyword.{Keyword}
use Rattle.ra_script.specs.declared.keyword.Keyword.TheVariants.{Base, Link, At, Begin, Finish, Say, Control, Pause, Resume, Leave, Write, Read, Take, Tick, Lose, Cut, Drain}

abbrev pub keyword_text : Keyword → List ℕ
keyword_text Base = codes "base"
keyword_text Link = codes "link"
keyword_text At = codes "at"
keyword_text Begin = codes "begin"
keyword_text Finish = codes "finish"
keyword_text Say = codes "say"
keyword_text Control = codes "control"
keyword_text Pause = codes "pause"
keyword_text Resume = codes "resume"
keyword_text Leave = codes "leave"
keyword_text Write = codes "write"
keyword_text Read = codes "read"
keyword_text Take = codes "take"
keyword_text Tick = codes "tick"
keyword_text Lose = codes "lose"
keyword_text Cut = codes "cut"
keyword_text Drain = codes "drain"

abbrev pub keywords : List Keyword
keywords =
    Base ∷ Link ∷ At ∷ Begin ∷ Finish ∷ Say ∷ Control ∷ Pause ∷ Resume ∷ Leave ∷ Write ∷ Read ∷ Take ∷ Tick ∷ Lose ∷ Cut ∷ Drain ∷ []

-- the keyword that a word is
unfoldable pub keyword_at : List ℕ → Option Keyword
keyword_at word = find (λ keyword. bytes_eq (keyword_text keyword) word) keywords
