-- The message that bytes are, or the first fault, in the order of the causes.
use Rattle.std.specs.Prelude.{◌≡◌, ◌≢◌, ℕ, ◌+◌, ◌-◌, ◌^◌, List, [], ◌∷◌, length, Bool, true, false, not, ◌||◌, ◌==◌, nat_lt, Option, Some, None, Result, Ok, Err, if◌then◌else◌}
use Rattle.ra_values.specs.Tree.{Tree, undefined, text, array, int, Trees, none, more}
use Rattle.ra_values.specs.Spelling.{levels}
use Rattle.ra_values.specs.Reading.{Read}
use Rattle.ra_values.specs.ReadValue.{value_at}
use Rattle.ra_ipc.specs.declared.fault.PacketFault.{PacketFault}
use Rattle.ra_ipc.specs.declared.fault.PacketFault.TheVariants as faults
use Rattle.ra_ipc.specs.Messages.{success, error, error_obj, Message, promise, promise_cancel, event_listen, event_dispose, initialize, response, event_fire}

-- ---- the elements of a header

pub data Part : Type 0 where
  id_part : Part
  text_part : Part

-- what follows a code
abbrev pub parts_of : ℕ → Option (List Part)
parts_of code =
    if code == 100 || code == 102 then Some (id_part ∷ text_part ∷ text_part ∷ [])
    else (if code == 200 then Some []
    else (if code == 101 || (code == 103 || (code == 201 || (code == 202 || (code == 203 || code == 204)))) then Some (id_part ∷ []) else None))

abbrev pub is_part : Part → Tree → Bool
is_part id_part (int n) = nat_lt n (2 ^ 31)
is_part id_part _ = false
is_part text_part (text t) = true
is_part text_part _ = false

-- the least index at which an element is missing, of the wrong kind, or one too many
abbrev pub wrong_element : ℕ → List Part → Trees → Option ℕ
wrong_element at [] none = None
wrong_element at [] (more t ts) = Some at
wrong_element at (p ∷ ps) none = Some at
wrong_element at (p ∷ ps) (more t ts) = if is_part p t then wrong_element (at + 1) ps ts else Some at

abbrev pub wrong_after_code : Option (List Part) → Trees → Option ℕ
wrong_after_code None ts = Some 0
wrong_after_code (Some parts) ts = wrong_element 1 parts ts

abbrev pub elements_fault : Trees → Option ℕ
elements_fault none = Some 0
elements_fault (more (int code) ts) = wrong_after_code (parts_of code) ts
elements_fault (more _ ts) = Some 0

abbrev pub header_fault : Tree → Option ℕ
header_fault (array elements) = elements_fault elements
header_fault _ = Some 0

-- ---- the body

abbrev pub is_undefined : Tree → Bool
is_undefined undefined = true
is_undefined _ = false

-- the codes of messages whose body is any value
abbrev pub has_body : ℕ → Bool
has_body code = code == 100 || (code == 102 || (code == 201 || (code == 202 || (code == 203 || code == 204))))

-- a body that the code does not allow
abbrev pub is_bad_body : Tree → Tree → Bool
is_bad_body (array (more (int code) ts)) b = if has_body code then false else not (is_undefined b)
is_bad_body _ b = false

-- ---- the message of a header that has no fault, and of a body

abbrev pub message_with_id : ℕ → ℕ → Tree → Message
message_with_id code id b =
    if code == 101 then promise_cancel id
    else (if code == 103 then event_dispose id
    else (if code == 201 then response id (success b)
    else (if code == 202 then response id (error b)
    else (if code == 203 then response id (error_obj b)
    else event_fire id b))))

abbrev pub message_of : Tree → Tree → Message
message_of (array (more (int code) (more (int id) (more (text channel) (more (text name) none))))) b =
    if code == 100 then promise id channel name b else event_listen id channel name b
message_of (array (more (int code) (more (int id) none))) b = message_with_id code id b
message_of _ b = initialize

-- ---- reading

-- one step after another, up to the first fault
infixl 10 ◌>>=◌
abbrev pub ◌>>=◌ : {A B : Type 0} → Result A PacketFault → (A → Result B PacketFault) → Result B PacketFault
(Ok x) >>= f = f x
(Err e) >>= f = Err e

-- a value in the last bytes of all, or its fault with the place counted from the front of all
abbrev pub value_in : List ℕ → Read Tree → Result (Tree × List ℕ) PacketFault
value_in all (Ok x) = Ok x
value_in all (Err fault) = Err (faults.Value (length all - fault.left) fault.what)

abbrev pub unless_wrong : {A : Type 0} → Option ℕ → A → Result A PacketFault
unless_wrong (Some at) x = Err (faults.BadHeader at)
unless_wrong None x = Ok x

abbrev pub unless_more : {A : Type 0} → List ℕ → List ℕ → A → Result A PacketFault
unless_more all [] x = Ok x
unless_more all (b ∷ after) x = Err (faults.Trailing (length all - length (b ∷ after)))

abbrev pub with_body : Tree → Tree → Result Message PacketFault
with_body h b = if is_bad_body h b then Err faults.BadBody else Ok (message_of h b)

-- behind a header
unfoldable pub after_header : List ℕ → Tree → List ℕ → Result Message PacketFault
after_header all header bytes = do
  rest ← unless_wrong (header_fault header) bytes
  body ← value_in all (value_at levels rest)
  m ← with_body header body.0
  unless_more all body.1 m

unfoldable pub message_at : List ℕ → Result Message PacketFault
message_at bytes = do
  header ← value_in bytes (value_at levels bytes)
  after_header bytes header.0 header.1

-- a message that is one value
unfoldable pub context_at : List ℕ → Result Tree PacketFault
context_at bytes = do
  x ← value_in bytes (value_at levels bytes)
  unless_more bytes x.1 x.0

-- What a call answered, seen by view, is the expected answer, unless memory ran out.
abbrev pub Reads : {X Y : Type 0} → (X → Y) → Result X PacketFault → Result Y PacketFault → Type 0
Reads view (Ok x) expected = expected ≡ Ok (view x)
Reads view (Err e) expected = e ≢ faults.NoMemory → expected ≡ Err e
