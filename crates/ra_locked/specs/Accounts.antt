-- Receipts of several callers, and the history that they stand in.
use Rattle.std.specs.Prelude.{◌≡◌, ◌≢◌, ℕ, ◌<◌, true, List, [], ◌∷◌, slice_get, Some}
use Rattle.std.specs.List.{list_all}
use Rattle.ra_registry.specs.declared.past.Past.{Past}
use Rattle.ra_locked.specs.declared.receipt.Receipt.{Receipt}
use Rattle.ra_locked.specs.Receipts.{is_call, is_of_call}

-- each receipt stands in the history at its place
abbrev pub Stand : List Past → List Receipt → Type 0
Stand history receipts = (k : ℕ) (r : Receipt) → slice_get receipts k ≡ Some r → slice_get history r.place ≡ Some r.past

-- each receipt has a greater place than those before it
abbrev pub Rise : List Receipt → Type 0
Rise receipts = (j k : ℕ) (r s : Receipt) → j < k → slice_get receipts j ≡ Some r → slice_get receipts k ≡ Some s → r.place < s.place

-- no two books have a receipt with one place
abbrev pub Apart : List (List Receipt) → Type 0
Apart books =
    (i j : ℕ) (b c : List Receipt) → i < j → slice_get books i ≡ Some b → slice_get books j ≡ Some c
    → (k m : ℕ) (r s : Receipt) → slice_get b k ≡ Some r → slice_get c m ≡ Some s → r.place ≢ s.place

-- some book has a receipt with this place
abbrev pub IsReceipted : List (List Receipt) → ℕ → Type 0
IsReceipted books place = (i : ℕ) × (b : List Receipt) × (k : ℕ) × (r : Receipt) × (slice_get books i ≡ Some b) × (slice_get b k ≡ Some r) × (r.place ≡ place)

-- The receipts stand in the history in their order, each at a place of its own, and every entry of a call is some receipt.
pub record AreReceiptsOf (history : List Past) (books : List (List Receipt)) : Type 0 where
  pub stand : (i : ℕ) (b : List Receipt) → slice_get books i ≡ Some b → Stand history b × Rise b
  pub apart : Apart books
  pub whole : (place : ℕ) (e : Past) → slice_get history place ≡ Some e → is_call e.did ≡ true → IsReceipted books place

-- each receipt of the books is of a call
abbrev pub OfCalls : List (List Receipt) → Type 0
OfCalls [] = Unit {0}
OfCalls (b ∷ bs) = (list_all is_of_call b ≡ true) × OfCalls bs
