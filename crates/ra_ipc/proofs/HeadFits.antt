-- A header that the code took apart, its body, and the message that they make.
use Rattle.std.proofs.Common.{◌≡◌, ℕ, None, refl, ap, ◌∙◌}
use Rattle.std.proofs.lemmas.Bool.{lt-ltb}
use Rattle.ra_values.specs.Tree.{Tree, array, int, Trees, more}
use Rattle.ra_ipc.specs.declared.header.Head.{Head}
use Rattle.ra_ipc.specs.declared.header.Head.TheVariants.{Promise, Cancel, Listen, Dispose, Initialize, Success, Error, ErrorObj, Fire}
use Rattle.ra_ipc.specs.Heads.{IsHead, head_message, head_with_body}
use Rattle.ra_ipc.specs.Packets.{header, id_fits}
use Rattle.ra_ipc.specs.ReadMessage.{elements_fault, header_fault, with_body}

pub record Fits (h : Head) (code : ℕ) (elements : Trees) : Type 0 where
  pub header : (b : Tree) → header (head_message h b) ≡ array (more (int code) elements)
  pub id : (b : Tree) → id_fits (head_message h b)
  pub good : elements_fault (more (int code) elements) ≡ None
  pub reads : (b : Tree) → with_body (array (more (int code) elements)) b ≡ head_with_body h b

pub head_fits : (h : Head) (code : ℕ) (elements : Trees) → IsHead h code elements → Fits h code elements
head_fits (Promise t) code elements h = record { header = λ b. rw (h.0, h.1.0) refl; id = λ b. h.1.1; good = rw (h.0, h.1.0, lt-ltb _ _ h.1.1) refl; reads = λ b. rw (h.1.0, h.0) refl }
head_fits (Cancel id) code elements h = record { header = λ b. rw (h.0, h.1.0) refl; id = λ b. h.1.1; good = rw (h.0, h.1.0, lt-ltb _ _ h.1.1) refl; reads = λ b. rw (h.1.0, h.0) refl }
head_fits (Listen t) code elements h = record { header = λ b. rw (h.0, h.1.0) refl; id = λ b. h.1.1; good = rw (h.0, h.1.0, lt-ltb _ _ h.1.1) refl; reads = λ b. rw (h.1.0, h.0) refl }
head_fits (Dispose id) code elements h = record { header = λ b. rw (h.0, h.1.0) refl; id = λ b. h.1.1; good = rw (h.0, h.1.0, lt-ltb _ _ h.1.1) refl; reads = λ b. rw (h.1.0, h.0) refl }
head_fits Initialize code elements h = record { header = λ b. rw (h.0, h.1) refl; id = λ b. tt; good = rw (h.0, h.1) refl; reads = λ b. rw (h.1, h.0) refl }
head_fits (Success id) code elements h = record { header = λ b. rw (h.0, h.1.0) refl; id = λ b. h.1.1; good = rw (h.0, h.1.0, lt-ltb _ _ h.1.1) refl; reads = λ b. rw (h.1.0, h.0) refl }
head_fits (Error id) code elements h = record { header = λ b. rw (h.0, h.1.0) refl; id = λ b. h.1.1; good = rw (h.0, h.1.0, lt-ltb _ _ h.1.1) refl; reads = λ b. rw (h.1.0, h.0) refl }
head_fits (ErrorObj id) code elements h = record { header = λ b. rw (h.0, h.1.0) refl; id = λ b. h.1.1; good = rw (h.0, h.1.0, lt-ltb _ _ h.1.1) refl; reads = λ b. rw (h.1.0, h.0) refl }
head_fits (Fire id) code elements h = record { header = λ b. rw (h.0, h.1.0) refl; id = λ b. h.1.1; good = rw (h.0, h.1.0, lt-ltb _ _ h.1.1) refl; reads = λ b. rw (h.1.0, h.0) refl }

-- a value that is a header
pub record IsHeader (h : Head) (t : Tree) : Type 0 where
  pub good : header_fault t ≡ None
  pub reads : (b : Tree) → with_body t b ≡ head_with_body h b

pub is_header : (h : Head) (code : ℕ) (elements : Trees) (t : Tree) → t ≡ array (more (int code) elements) → IsHead h code elements → IsHeader h t
is_header h code elements t e is =
    let f = head_fits h code elements is in
    record { good = ap header_fault e ∙ f.good; reads = λ b. ap (λ (u : Tree). with_body u b) e ∙ f.reads b }
