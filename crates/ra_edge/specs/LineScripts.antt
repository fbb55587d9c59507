-- What the memory forms of what gives and opens links hold, and what their calls make of it.
use Rattle.std.specs.Prelude.{◌≡◌, ℕ, ◌+◌, ◌-◌, List, [], ◌∷◌, ◌++◌, drop, Result, Ok, Err, IsErr, OnErr}
use Rattle.ra_ports.specs.declared.Failed.{Failed}
use Rattle.ra_ports.specs.Causes.{IsListed, next_count}
use Rattle.ra_ports.specs.LinkScripts.{LinkScript, new_link}
use Rattle.ra_edge.specs.Lines.{after_line}

-- a link on which nothing has happened
abbrev pub IsNew : LinkScript → Type 0
IsNew link = link ≡ new_link link.steps link.after link.failing

-- ---- accepting

-- the links that are to come, the numbers of the calls that fail, and the counts of calls, of links that were given, and of faults
pub record AcceptScript : Type 0 where
  pub links : List LinkScript
  pub failing : List ℕ
  pub calls : ℕ
  pub given : ℕ
  pub faults : ℕ

abbrev pub new_accept : List LinkScript → List ℕ → AcceptScript
new_accept links failing = record { links = links; failing = failing; calls = 0; given = 0; faults = 0 }

-- what gives links, after a call with this answer
abbrev pub after_next : AcceptScript → Result LinkScript Failed → AcceptScript
after_next accept (Ok link) =
    record accept { links = drop 1 accept.links; calls = next_count accept.calls; given = next_count accept.given }
after_next accept (Err failed) = record accept { calls = next_count accept.calls; faults = next_count accept.faults }

-- a listed call fails, and any other only where no link is left
pub record NextAsListed (old new : AcceptScript) (result : Result LinkScript Failed) : Type 0 where
  pub listed : IsListed old.failing old.calls → IsErr result
  pub other : (IsListed old.failing old.calls → ⊥) → OnErr result (old.links ≡ [])
  pub state : new ≡ after_next old result

-- ---- dialling

-- the links that are to come, those that were given back, and for how many more there is room; the numbers of the calls of `connect`
-- that fail; and the counts of these calls, of faults, of links that had failed, and of faults for want of room
pub record DialScript : Type 0 where
  pub links : List LinkScript
  pub returned : List LinkScript
  pub room : ℕ
  pub failing : List ℕ
  pub calls : ℕ
  pub faults : ℕ
  pub line_faults : ℕ
  pub short : ℕ

abbrev pub new_dial : List LinkScript → List ℕ → DialScript
new_dial links failing =
    record { links = links; returned = []; room = 0; failing = failing; calls = 0; faults = 0; line_faults = 0; short = 0 }

-- what opens links, after a call that is listed, or finds no link
abbrev pub failed_connect : DialScript → DialScript
failed_connect dial = record dial { calls = next_count dial.calls; faults = next_count dial.faults }

-- after any other: it gave a link, or found no room for one that comes back
abbrev pub after_connect : DialScript → Result LinkScript Failed → DialScript
after_connect dial (Ok link) = record dial { links = drop 1 dial.links; room = dial.room + 1; calls = next_count dial.calls }
after_connect dial (Err failed) =
    record dial { calls = next_count dial.calls; faults = next_count dial.faults; short = next_count dial.short }

-- a call that is listed, or finds no link, fails; any other fails only for want of room
pub record ConnectsAsListed (old new : DialScript) (result : Result LinkScript Failed) : Type 0 where
  pub listed : IsListed old.failing old.calls → IsErr result × (new ≡ failed_connect old)
  pub none : old.links ≡ [] → IsErr result × (new ≡ failed_connect old)
  pub other : (IsListed old.failing old.calls → ⊥) → (old.links ≡ [] → ⊥) → new ≡ after_connect old result

-- after a link came back
abbrev pub after_return : DialScript → LinkScript → DialScript
after_return dial link = record dial {
  returned = dial.returned ++ link ∷ [];
  room = dial.room - 1;
  line_faults = after_line link.faults dial.line_faults;
}
