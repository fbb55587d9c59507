-- A worked run of three windows.
use Rattle.std.specs.Prelude.{ℕ, ℤ, pos, true, List, [], ◌∷◌, codes}
use Rattle.ra_values.specs.declared.value.Value.{Value}
use Rattle.ra_values.specs.declared.value.Value.TheVariants.{Text, Buffer}
use Rattle.ra_router.specs.declared.ask.Ask.{Ask}
use Rattle.ra_router.specs.declared.ask.Ask.TheVariants.{BadTo, To, Next, Reply}
use Rattle.ra_router.specs.declared.ask.Step.{Step}
use Rattle.ra_router.specs.declared.ask.Said.{Said}
use Rattle.ra_router.specs.declared.ask.Said.TheVariants.{BadWindow, Hop, Replied, Done, NoSuchCall}
use Rattle.ra_router.specs.declared.ask.Told.{Told}

abbrev pub step : List ℕ → ℤ → Ask → Step
step from id ask = record { from = from; id = id; ask = ask }

abbrev pub tells : List ℕ → ℤ → Said → Told
tells key id said = record { key = key; id = id; said = said }

abbrev pub first : List ℕ
first = codes "t1"

abbrev pub second : List ℕ
second = codes "t2"

abbrev pub third : List ℕ
third = codes "t3"

abbrev pub hi : Value
hi = Buffer (104 ∷ 105 ∷ [])

abbrev pub ho : Value
ho = Buffer (104 ∷ 111 ∷ [])

abbrev pub ok : Value
ok = Text (codes "ok")

-- the second window asks for a call, the first calls it, and it replies, twice; it is called again, and the third window replies to
-- that call; the second asks for it; and the first calls no window
abbrev pub run : List Step
run = step second (pos 0) Next ∷ step first (pos 0) (To second hi) ∷ step second (pos 1) (Reply 0 true ok) ∷ step second (pos 2) (Reply 0 true ok)
    ∷ step first (pos 1) (To second ho) ∷ step third (pos 0) (Reply 1 true ok) ∷ step second (pos 3) Next ∷ step first (pos 2) BadTo ∷ []

abbrev pub run_told : List (List Told)
run_told = [] ∷ (tells second (pos 0) (Hop 0 hi) ∷ []) ∷ (tells first (pos 0) (Replied true ok) ∷ tells second (pos 1) Done ∷ [])
    ∷ (tells second (pos 2) NoSuchCall ∷ []) ∷ [] ∷ (tells third (pos 0) NoSuchCall ∷ []) ∷ (tells second (pos 3) (Hop 1 ho) ∷ [])
    ∷ (tells first (pos 2) BadWindow ∷ []) ∷ []
