-- Bytes that wait to be handed out.
use Rattle.std.specs.Prelude.{ℕ, List}

pub record Queue : Type 0 where
  pub bytes : List ℕ
  -- so many more messages find room
  pub room : ℕ
