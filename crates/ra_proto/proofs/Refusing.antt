-- A call with no cause against it fails for memory alone.
use Rattle.std.proofs.Common.{◌≡◌, ◌≢◌, true, Option, Some, None, refl, ◌∙◌, sym}
use Rattle.std.specs.Prelude.{ℕ, Result, Ok, Err, IfErr}
use Rattle.ra_model.specs.declared.fault.EndFault.{EndFault}
use Rattle.ra_model.specs.declared.fault.EndFault.TheVariants.{Ended, Stale, NoLink, NotJoining, TooLarge, IdsSpent, TooLong, NoMemory}
use Rattle.ra_model.specs.declared.session.Phase.{Phase}
use Rattle.ra_model.specs.declared.session.Phase.TheVariants.{Away, Joining, Up, Ended as Over}
use Rattle.ra_model.specs.Endpoints.{is_linked}
use Rattle.ra_model.specs.Refusals.{ask_fault}
use Rattle.ra_proto.specs.declared.saying.SayFault.{SayFault}
use Rattle.ra_proto.specs.Refused.{RefusedBy, SayRefusedBy}

is_memory : (fault : EndFault) → (fault ≢ NoMemory → None ≡ Some fault) → fault ≡ NoMemory
is_memory Ended cause = let no : None ≡ Some Ended = cause (λ same. cc) in cc
is_memory (Stale current) cause = let no : None ≡ Some (Stale current) = cause (λ same. cc) in cc
is_memory NoLink cause = let no : None ≡ Some NoLink = cause (λ same. cc) in cc
is_memory NotJoining cause = let no : None ≡ Some NotJoining = cause (λ same. cc) in cc
is_memory (TooLarge len) cause = let no : None ≡ Some (TooLarge len) = cause (λ same. cc) in cc
is_memory IdsSpent cause = let no : None ≡ Some IdsSpent = cause (λ same. cc) in cc
is_memory (TooLong stated) cause = let no : None ≡ Some (TooLong stated) = cause (λ same. cc) in cc
is_memory NoMemory cause = refl

pub memory_alone : {X : Type 0} (result : Result X EndFault) (cause : Option EndFault) → cause ≡ None → RefusedBy result cause → IfErr result (λ fault. fault ≡ NoMemory)
memory_alone (Ok value) cause none refused = tt
memory_alone (Err fault) cause none refused = is_memory fault (λ other. sym none ∙ refused other)

pub say_memory_alone : (result : Result ℕ SayFault) (cause : Option EndFault) → cause ≡ None → SayRefusedBy result cause → IfErr result (λ refused. refused.fault ≡ NoMemory)
say_memory_alone (Ok id) cause none refused = tt
say_memory_alone (Err fault) cause none refused = is_memory fault.fault (λ other. sym none ∙ refused other)

-- of a pause and of a resume where there is a link
pub ask_linked : (phase : Phase) → is_linked phase ≡ true → ask_fault phase ≡ None
ask_linked Away linked = cc
ask_linked Joining linked = refl
ask_linked Up linked = refl
ask_linked Over linked = cc
