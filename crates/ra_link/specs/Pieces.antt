-- The pieces of a link: the text of them that counts, and what they are of the bytes that the link told.
use Rattle.std.specs.Prelude.{◌≡◌, ℕ, ◌+◌, Bool, true, false, not, ◌&&◌, nat_lt, Option, Some, List, [], ◌∷◌, ◌++◌, length, flat_map, ⊤, ◌⊎◌}
use Rattle.ra_upgrade.specs.declared.request_head.HeadFault.{HeadFault}
use Rattle.ra_upgrade.specs.declared.request_head.Upgrade.{Upgrade}
use Rattle.ra_items.specs.Heads.{Head, IsRequestOf}
use Rattle.ra_ports.specs.Links.{Incoming, Takes}
use Rattle.ra_link_core.specs.LinkRuns.{Piece, asks_framing, with_piece}

abbrev pub bytes_of : List Piece → List ℕ
bytes_of pieces = flat_map (λ p. p.bytes) pieces

-- the text that counts
abbrev pub counted : Head Upgrade HeadFault → List ℕ → List Piece → List ℕ
counted head before [] = before
counted head before (p ∷ ps) = counted head (with_piece head before p.bytes) ps

-- the moments are those from this one on
abbrev pub NowsAre : (ℕ → ℕ) → ℕ → List Piece → Type 0
NowsAre moments first [] = ⊤
NowsAre moments first (p ∷ ps) = (p.now ≡ moments first) × NowsAre moments (first + 1) ps

-- some head answers each front of the text that counts
abbrev pub HaveHead : List Piece → Type 0
HaveHead pieces = (head : Head Upgrade HeadFault) × IsRequestOf (counted head [] pieces) head

-- ---- framed streams

-- whether the head has ended in this text, and asks for a framed stream
abbrev pub is_framed : Head Upgrade HeadFault → List ℕ → Bool
is_framed head text = asks_framing head.says && not (nat_lt (length text) head.size)

-- a front of what is left is these bytes, where that is told
abbrev pub IsFrontOf : Option (List ℕ) → List ℕ → Type 0
IsFrontOf left bytes = (text : List ℕ) → left ≡ Some text → (rest : List ℕ) × (text ≡ bytes ++ rest)

-- The link is not framed: the pieces are the bytes that were taken of it, and all of them count.
pub record ComeUnframed (head : Head Upgrade HeadFault) (pieces : List Piece) (old new : Incoming) : Type 0 where
  pub text : counted head [] pieces ≡ bytes_of pieces
  pub taken : Takes old.left new.left (bytes_of pieces)
  pub payload : new.payload ≡ old.payload
  pub framed : new.framed ≡ old.framed

-- The link was framed behind so many bytes that were sent, and handed this front of the framed stream. These bytes were taken of that
-- front and of the payload behind it, as the link told it.
pub record GoesFramed (front : List ℕ) (sent : ℕ) (old new : Incoming) (bytes : List ℕ) : Type 0 where
  pub handed : new.framed ≡ Some (record { sent = sent; rest = front })
  pub taken : old.ended ≡ false → (payload : List ℕ) → old.payload ≡ Some payload → Takes (Some (front ++ payload)) new.left bytes

-- The link is framed as its head ends. The pieces up to there were taken of the link, and are the head and a front of the framed stream,
-- which does not count there. All that they made the link write was sent before it was framed, and it was handed the whole front. The
-- pieces behind are of that front and the payload; there are none where the link could not be framed, and it is then as it was.
pub record ComeFramed (head : Head Upgrade HeadFault) (sent : List Piece → ℕ) (pieces : List Piece) (old new : Incoming) (unable : Type 0) : Type 0 where
  pub first : List Piece
  pub behind : List Piece
  pub parts : pieces ≡ first ++ behind
  pub front : List ℕ
  pub read : bytes_of first ≡ counted head [] first ++ front
  pub size : length (counted head [] first) ≡ head.size
  pub text : counted head [] pieces ≡ counted head [] first ++ bytes_of behind
  pub taken : IsFrontOf old.left (bytes_of first)
  pub goes : ((behind ≡ []) × unable × (new.framed ≡ old.framed)) ⊎ GoesFramed front (sent first) old new (bytes_of behind)

abbrev pub ComeBy : Bool → Head Upgrade HeadFault → (sent : List Piece → ℕ) → List Piece → (old new : Incoming) (unable : Type 0) → Type 0
ComeBy false head sent pieces old new unable = ComeUnframed head pieces old new
ComeBy true head sent pieces old new unable = ComeFramed head sent pieces old new unable

-- how the pieces came from the link, on which so many bytes are sent once all is sent that a list of pieces makes it write
abbrev pub Come : Head Upgrade HeadFault → (sent : List Piece → ℕ) → List Piece → (old new : Incoming) (unable : Type 0) → Type 0
Come head sent pieces old new unable = ComeBy (is_framed head (counted head [] pieces)) head sent pieces old new unable
