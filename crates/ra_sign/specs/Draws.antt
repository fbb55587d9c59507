-- Draws of 16 bytes that a start and a number determine.
use Rattle.std.specs.Prelude.{ℕ, ◌-◌, ◌^◌, min, List, take}
use Rattle.std.specs.Int.{w64, to_be_bytes}
use Rattle.ra_sign.specs.Hmac.{hmac_sha256}

-- a start, and how many draws were taken; the count stays at its last 64-bit number
pub record DrawState : Type 0 where
  pub start : List ℕ
  pub count : ℕ

-- the n-th draw; from the last 64-bit number on it is that number's
abbrev pub drawn_at : List ℕ → ℕ → List ℕ
drawn_at start n = take 16 (hmac_sha256 start (to_be_bytes w64 (min n (2 ^ 64 - 1))))
