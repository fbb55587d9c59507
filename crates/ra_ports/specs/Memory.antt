-- What a source and a sink in memory hold, and what their calls make of it.
use Rattle.std.specs.Prelude.{◌≡◌, ◌⊎◌, ℕ, ◌<◌, ◌≤◌, nat_le, if◌then◌else◌, List, [], ◌∷◌, ◌++◌, length, drop, All, slice_index_or, Result, Ok, Err, IsErr}
use Rattle.std.specs.List.{flat_map}
use Rattle.ra_ports.specs.declared.Failed.{Failed}
use Rattle.ra_ports.specs.Causes.{IsListed, next_count}

-- ---- a source

-- the pieces that are left, the first one without its bytes that were read; how often it was called, the numbers of the calls that
-- fail, and how often it failed
pub record SourceScript : Type 0 where
  pub pieces : List (List ℕ)
  pub calls : ℕ
  pub failing : List ℕ
  pub faults : ℕ

-- the bytes of these pieces, one after another
abbrev pub bytes_of : List (List ℕ) → List ℕ
bytes_of pieces = flat_map (λ piece. piece) pieces

-- the first so many bytes of the first piece are gone
abbrev pub behind_bytes : ℕ → List (List ℕ) → List (List ℕ)
behind_bytes from [] = []
behind_bytes from (piece ∷ pieces) = drop from piece ∷ pieces

-- the pieces from a place on: so many pieces are done, and so many bytes of the next one
abbrev pub pieces_left : List (List ℕ) → ℕ → ℕ → List (List ℕ)
pieces_left pieces at from = behind_bytes from (drop at pieces)

-- no piece is empty, and the place is within a piece, or at the end of them all
pub record IsPlace (pieces : List (List ℕ)) (at from : ℕ) : Type 0 where
  pub no_empty : All (λ piece. 0 < length piece) pieces
  pub within : at ≤ length pieces
  pub inside : from ≡ 0 ⊎ ((at < length pieces) × (from < length (slice_index_or pieces at [])))

-- how many bytes one read takes of these pieces, with so much room, and the pieces that are left then: at most the first piece
abbrev pub next_read : List (List ℕ) → ℕ → ℕ × List (List ℕ)
next_read [] room = (0, [])
next_read (piece ∷ pieces) room = if nat_le (length piece) room then (length piece, pieces) else (room, drop room piece ∷ pieces)

-- a source after a read with so much room, by its answer
abbrev pub after_read : SourceScript → ℕ → Result ℕ Failed → SourceScript
after_read source room (Ok n) = record source { pieces = (next_read source.pieces room).1; calls = next_count source.calls }
after_read source room (Err failed) = record source { calls = next_count source.calls; faults = next_count source.faults }

-- ---- a sink

-- the bytes that it took, and the same counts; `short` counts those of its faults that were for want of room
pub record SinkScript : Type 0 where
  pub taken : List ℕ
  pub calls : ℕ
  pub failing : List ℕ
  pub faults : ℕ
  pub short : ℕ

-- a sink after a listed call
abbrev pub failed_write : SinkScript → SinkScript
failed_write sink = record sink { calls = next_count sink.calls; faults = next_count sink.faults }

-- a sink after a call that is not listed, by its answer: it took the piece, or found no room for it
abbrev pub after_write : SinkScript → List ℕ → Result ℕ Failed → SinkScript
after_write sink piece (Ok n) = record sink { taken = sink.taken ++ piece; calls = next_count sink.calls }
after_write sink piece (Err failed) =
    record sink { calls = next_count sink.calls; faults = next_count sink.faults; short = next_count sink.short }

-- a listed call fails, and any other takes the whole piece, or fails for want of room
pub record WritesAsListed (old new : SinkScript) (piece : List ℕ) (result : Result ℕ Failed) : Type 0 where
  pub listed : IsListed old.failing old.calls → IsErr result × (new ≡ failed_write old)
  pub other : (IsListed old.failing old.calls → ⊥) → new ≡ after_write old piece result
