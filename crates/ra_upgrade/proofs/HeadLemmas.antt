-- What the grammar of heads says of a text that is a whole head.
use Rattle.std.proofs.Common.{◌≡◌, ℕ, ◌≤◌, List, [], length, drop, arith, ap, sym, ◌∙◌, append-nil, length-drop}
use Rattle.httparse.specs.Grammar.{RequestHead, ReadsRequest, print_request, ResponseHead, ReadsResponse, print_response}
use Rattle.httparse.proofs.GrammarLemmas.{request_unique, response_unique}
use Rattle.ra_upgrade.specs.RequestHeads.{IsHead}
use Rattle.ra_upgrade.specs.AnswerHeads.{IsAnswer}

-- a text that is a head is read as that head, and nothing follows
pub whole_request : (text : List ℕ) (h : RequestHead) → IsHead text h → ReadsRequest text h []
whole_request text h is = (is.valid, is.text_is ∙ sym (append-nil (print_request h)))

pub whole_response : (text : List ℕ) (h : ResponseHead) → IsAnswer text h → ReadsResponse text h []
whole_response text h is = (is.valid, is.text_is ∙ sym (append-nil (print_response h)))

-- a text is one head at most
pub one_request : (text : List ℕ) (h k : RequestHead) → IsHead text h → IsHead text k → h ≡ k
one_request text h k x y = (request_unique text h k [] [] (whole_request text h x) (whole_request text k y)).0

pub one_response : (text : List ℕ) (h k : ResponseHead) → IsAnswer text h → IsAnswer text k → h ≡ k
one_response text h k x y = (response_unique text h k [] [] (whole_response text h x) (whole_response text k y)).0

-- a text that is a head is no longer than the head at its front
pub request_is_all : (text : List ℕ) (n : ℕ) (h k : RequestHead) → ReadsRequest text h (drop n text) → IsHead text k → length text ≤ n
request_is_all text n h k front whole =
    let same = request_unique text h k (drop n text) [] front (whole_request text k whole) in
    let none : length (drop n text) ≡ 0 = ap length same.1 in
    omega (arith, length-drop n text)

pub response_is_all : (text : List ℕ) (n : ℕ) (h k : ResponseHead) → ReadsResponse text h (drop n text) → IsAnswer text k → length text ≤ n
response_is_all text n h k front whole =
    let same = response_unique text h k (drop n text) [] front (whole_response text k whole) in
    let none : length (drop n text) ≡ 0 = ap length same.1 in
    omega (arith, length-drop n text)
