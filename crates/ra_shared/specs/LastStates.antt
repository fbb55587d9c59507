-- Answers that handles kept, compared with the last states of their sessions.
use Rattle.std.specs.Prelude.{List, [], ◌∷◌, Option, Some, None}
use Rattle.std.specs.BTreeMap.{BTreeMap, get}
use Rattle.ra_base.specs.Keys.{key_cmp}
use Rattle.ra_base.specs.declared.key.Key.{Key}
use Rattle.ra_shared.specs.Answers.{Bears}
use Rattle.ra_shared.specs.declared.answers.KeptAnswer.{KeptAnswer}
use Rattle.ra_shared.specs.declared.answers.LastState.{LastState}

-- the state of a key that has no session
abbrev pub no_session : LastState
no_session = record { epoch = 0; marks = record { sent = 0; received = 0; acknowledged = 0 }; cause = None }

abbrev pub state_or_none : Option LastState → LastState
state_or_none (Some last) = last
state_or_none None = no_session

abbrev pub last_of : BTreeMap Key LastState → Key → LastState
last_of lasts key = state_or_none (get key_cmp lasts key)

-- the last state of its session bears each answer of a handle out
abbrev pub IsBorneOut : BTreeMap Key LastState → List KeptAnswer → Type 0
IsBorneOut lasts [] = Unit {0}
IsBorneOut lasts (a ∷ rest) = Bears (last_of lasts a.key) a.told × IsBorneOut lasts rest

-- the same of each handle
abbrev pub AreBorneOut : BTreeMap Key LastState → List (List KeptAnswer) → Type 0
AreBorneOut lasts [] = Unit {0}
AreBorneOut lasts (b ∷ rest) = IsBorneOut lasts b × AreBorneOut lasts rest
