-- Each way in which the reading of a message ends.
use Rattle.std.proofs.Common.{◌≡◌, ℕ, ◌+◌, ◌-◌, ◌≤◌, ◌<◌, List, [], ◌∷◌, length, drop, Some, None, Ok, Err, Result, refl, ap, ◌∙◌, arith, inl, inr}
use Rattle.std.specs.Prelude.{if◌then◌else◌}
use Rattle.std.proofs.lemmas.Bool.{cases_Bool}
use Rattle.std.proofs.lemmas.List.{drop_all, length-drop}
use Rattle.ra_values.specs.Tree.{Tree}
use Rattle.ra_values.specs.Spelling.{levels}
use Rattle.ra_values.specs.ReadValue.{value_at}
use Rattle.ra_ipc.specs.Messages.{Message}
use Rattle.ra_ipc.specs.declared.fault.PacketFault.{PacketFault}
use Rattle.ra_ipc.specs.declared.fault.PacketFault.TheVariants as faults
use Rattle.ra_ipc.specs.View.{message}
use Rattle.ra_ipc.specs.declared.packet.Packet.{Packet}
use Rattle.ra_ipc.specs.declared.header.Head.{Head}
use Rattle.ra_ipc.specs.Heads.{head_message, refuses_body, head_with_body}
use Rattle.ra_ipc.proofs.HeadFits.{IsHeader}
use Rattle.ra_ipc.specs.ReadMessage.{Reads, value_in, header_fault, with_body, unless_more, after_header, message_at, context_at}

abbrev pub reads_value : List ℕ → List ℕ → Result (Tree × List ℕ) PacketFault
reads_value all bytes = value_in all (value_at levels bytes)

pub at_header : (bytes : List ℕ) (e : PacketFault) → reads_value bytes bytes ≡ Err e → message_at bytes ≡ Err e
unfolding message_at
at_header bytes e h = rw h refl

pub behind_header : (bytes rest : List ℕ) (t : Tree) → reads_value bytes bytes ≡ Ok (t, rest) → message_at bytes ≡ after_header bytes t rest
unfolding message_at
behind_header bytes rest t h = rw h refl

pub at_element : (all rest : List ℕ) (t : Tree) (at : ℕ) → header_fault t ≡ Some at → after_header all t rest ≡ Err (faults.BadHeader at)
unfolding after_header
at_element all rest t at wrong = rw wrong refl

pub at_body : (all rest : List ℕ) (t : Tree) (e : PacketFault) → header_fault t ≡ None → reads_value all rest ≡ Err e → after_header all t rest ≡ Err e
unfolding after_header
at_body all rest t e good b = rw (good, b) refl

pub at_bad_body : (all rest after : List ℕ) (t b : Tree) (e : PacketFault) → header_fault t ≡ None → reads_value all rest ≡ Ok (b, after) → with_body t b ≡ Err e → after_header all t rest ≡ Err e
unfolding after_header
at_bad_body all rest after t b e good r bad = rw (good, r, bad) refl

pub at_end : (all rest after : List ℕ) (t b : Tree) (m : Message) → header_fault t ≡ None → reads_value all rest ≡ Ok (b, after) → with_body t b ≡ Ok m → after_header all t rest ≡ unless_more all after m
unfolding after_header
at_end all rest after t b m good r made = rw (good, r, made) refl

pub more_left : {A : Type 0} (all after : List ℕ) (x : A) → 0 < length after → unless_more all after x ≡ Err (faults.Trailing (length all - length after))
more_left all [] x h = absurd (omega arith)
more_left all (b ∷ after) x h = refl

pub context_value : (bytes after : List ℕ) (t : Tree) → reads_value bytes bytes ≡ Ok (t, after) → context_at bytes ≡ unless_more bytes after t
unfolding context_at
context_value bytes after t h = rw h refl

pub context_fault : (bytes : List ℕ) (e : PacketFault) → reads_value bytes bytes ≡ Err e → context_at bytes ≡ Err e
unfolding context_at
context_fault bytes e h = rw h refl

-- so many bytes of the last ones were read, and more are left
pub trailing_after : {A : Type 0} (all bytes : List ℕ) (n k : ℕ) (x : A) → n + length bytes ≡ length all → k < length bytes → unless_more all (drop k bytes) x ≡ Err (faults.Trailing (n + k))
trailing_after all bytes n k x long lt =
    more_left all (drop k bytes) x (omega (arith, length-drop k bytes)) ∙ ap (λ (at : ℕ). Err (faults.Trailing at)) (omega (arith, length-drop k bytes))

-- all of the last ones were read
pub nothing_after : {A : Type 0} (all bytes : List ℕ) (k : ℕ) (x : A) → length bytes ≤ k → unless_more all (drop k bytes) x ≡ Ok x
nothing_after all bytes k x h = rw (drop_all k bytes h) refl

-- ---- what follows a header that the code took apart

-- bytes follow the body
pub trailing_is : (all rest : List ℕ) (t b : Tree) (h : Head) (n k : ℕ) → IsHeader h t → reads_value all rest ≡ Ok (b, drop k rest) → n + length rest ≡ length all → k < length rest
    → after_header all t rest ≡ Err (if refuses_body h b then faults.BadBody else faults.Trailing (n + k))
trailing_is all rest t b h n k is r long lt =
    elim (cases_Bool (refuses_body h b)) [
      | inl bad ↦ rw bad (at_bad_body all rest (drop k rest) t b faults.BadBody is.good r (is.reads b ∙ rw bad refl))
      | inr good ↦ rw good (at_end all rest (drop k rest) t b (head_message h b) is.good r (is.reads b ∙ rw good refl) ∙ trailing_after all rest n k (head_message h b) long lt)
    ]

-- nothing follows the body
pub packet_reads : (p : Result Packet PacketFault) (all rest : List ℕ) (t b : Tree) (h : Head) (k : ℕ) → IsHeader h t → reads_value all rest ≡ Ok (b, drop k rest) → length rest ≤ k
    → Reads message p (head_with_body h b) → Reads message p (after_header all t rest)
packet_reads (Ok p) all rest t b h k is r le one = at_end all rest (drop k rest) t b (message p) is.good r (is.reads b ∙ one) ∙ nothing_after all rest k (message p) le
packet_reads (Err e) all rest t b h k is r le one = λ more. at_bad_body all rest (drop k rest) t b e is.good r (is.reads b ∙ one more)
