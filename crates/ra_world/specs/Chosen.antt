-- The bytes of a link that an event reads.
use Rattle.std.specs.Prelude.{◌≡◌, ℕ, ◌≤◌, Some, None, List, length, take}
use Rattle.ra_base.specs.declared.event.Side.{Side}
use Rattle.ra_base.specs.declared.event.Count.{Count}
use Rattle.ra_model.specs.Links.{Link, at_number, amount, readable}
use Rattle.ra_model.specs.Refusals.{if_many}

-- a side reads these bytes of the link with this number
pub record IsChosen (links : List Link) (side : Side) (count : Count) (link : ℕ) (bytes : List ℕ) (l : Link) : Type 0 where
  pub found : at_number links link ≡ Some l
  pub there : if_many count (length (readable side l)) ≡ None
  pub bytes_are : bytes ≡ take (amount count (length (readable side l))) (readable side l)
  pub count_is : length bytes ≡ amount count (length (readable side l))

-- a side can read so many bytes of the link with this number
abbrev pub HasUnread : List Link → Side → ℕ → ℕ → Type 0
HasUnread links side link n = (l : Link) × (at_number links link ≡ Some l) × (n ≤ length (readable side l))
