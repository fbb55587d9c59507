-- What a call that reads a whole input and writes a text has done, where the source and the sink tell.
use Rattle.std.specs.Prelude.{◌≡◌, ℕ, List, ◌++◌, Option, Some}

-- for each input that the source tells, and each text that the sink tells to have taken before
abbrev pub Told : Option (List ℕ) → Option (List ℕ) → (List ℕ → List ℕ → Type 0) → Type 0
Told left taken P = (input before : List ℕ) → left ≡ Some input → taken ≡ Some before → P input before

-- the sink has taken all of a text
pub record WroteAll (before text : List ℕ) (taken : Option (List ℕ)) : Type 0 where
  pub now : taken ≡ Some (before ++ text)

-- the sink has taken a front of a text
pub record WroteFront (before text : List ℕ) (taken : Option (List ℕ)) : Type 0 where
  pub written : List ℕ
  pub more : List ℕ
  pub parts : text ≡ written ++ more
  pub now : taken ≡ Some (before ++ written)
