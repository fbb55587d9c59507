-- A piece of the input, up to the limit.
use Rattle.std.proofs.Common.{◌≡◌, ℕ, ◌+◌, ◌-◌, ◌<◌, ◌≤◌, Bool, true, List, [], ◌++◌, length, take, drop, min, append_assoc, length-append, sym, ap, subst, ◌∙◌, refl, arith, rules, inl, inr}
use Rattle.std.specs.Prelude.{nat_lt, ◌≢◌, ◌⊎◌}
use Rattle.std.proofs.Math.Seq.{take-add}
use Rattle.std.proofs.lemmas.Bool.{cases_lt}
use Rattle.std.proofs.lemmas.List.{take-append-le, take_all, drop_at}
use Rattle.ra_model.specs.Cutting.{frames_of, rest_of}
use Rattle.ra_endpoint_commands.specs.declared.report.Ending.TheVariants.{Refused}
use Rattle.ra_endpoint_commands.specs.declared.receiver.Turned.{Turned}
use Rattle.ra_endpoint_commands.specs.declared.receiver.Turned.TheVariants.{Waiting, Refused as RefusedThere, Ended as EndedThere}
use Rattle.ra_endpoint_commands.specs.Lines.{over_line}
use Rattle.ra_endpoint_commands.specs.Receive.{prefixed, report, after_end, input_limit}
use Rattle.ra_endpoint_commands.specs.Progress.{Progress, IsRefused, Drains, Turns, due, due_input, due_after_end, endpoint_of, fed_with}
use Rattle.ra_endpoint_commands.proofs.Outlooks.{over_on, ending_with}

-- bytes that came are no longer to come
came : (p : Progress) (piece more : List ℕ) (over : Bool) → due p (piece ++ more) over ≡ due (fed_with piece p) more over
unfolding due
came p piece more over =
    let place : p.fed - length p.unread ≡ (p.fed + length piece) - length (p.unread ++ piece) = omega (arith, length-append p.unread piece) in
    ap (λ (b : List ℕ). report (endpoint_of p.end) (p.fed - length p.unread) (frames_of b) (rest_of b) over) (sym (append_assoc p.unread piece more))
    ∙ ap (λ (n : ℕ). report (endpoint_of p.end) n (frames_of ((p.unread ++ piece) ++ more)) (rest_of ((p.unread ++ piece) ++ more)) over) place

-- the same of a front of a piece
fed_on : (p : Progress) (k : ℕ) (piece left : List ℕ) → k ≤ length piece → k ≤ input_limit - p.fed
    → due_input p (piece ++ left) ≡ due (fed_with (take k piece) p) (take (input_limit - p.fed - k) (drop k (piece ++ left))) (nat_lt (input_limit - p.fed) (length (piece ++ left)))
unfolding due_input
fed_on p k piece left fits room =
    let r = input_limit - p.fed in
    let over = nat_lt r (length (piece ++ left)) in
    let sum : r ≡ k + (r - k) = omega (arith, room) in
    let split : take r (piece ++ left) ≡ take k piece ++ take (r - k) (drop k (piece ++ left)) =
    ap (λ (n : ℕ). take n (piece ++ left)) sum ∙ take-add k (r - k) (piece ++ left) ∙ ap (λ (t : List ℕ). t ++ take (r - k) (drop k (piece ++ left))) (take-append-le k piece left fits) in
    ap (λ (t : List ℕ). due p t over) split ∙ came p (take k piece) (take (r - k) (drop k (piece ++ left))) over

-- more came than the limit, or not
pub over_both : (r k n : ℕ) (piece left : List ℕ) → length piece ≡ k → k ≤ r → nat_lt r (length (piece ++ left)) ≡ nat_lt (r - k) (length left)
over_both r k n piece left is room =
    elim (cases_lt (r - k) (length left)) [
      | inl lt ↦ let a : r < length (piece ++ left) = omega (arith, lt, length-append piece left) in search (rules, lt, a)
      | inr le ↦ let a : length (piece ++ left) ≤ r = omega (arith, le, room, length-append piece left) in search (rules, le, a)
    ]

-- a piece within the limit
whole_on : (p : Progress) (piece left : List ℕ) → length piece ≤ input_limit - p.fed → due_input p (piece ++ left) ≡ due_input (fed_with piece p) left
unfolding due_input
whole_on p piece left room =
    let r = input_limit - p.fed in
    let k = length piece in
    let whole : take k piece ≡ piece = take_all k piece (omega arith) in
    let behind : drop k (piece ++ left) ≡ left = drop_at piece left k refl in
    let rest : r - k ≡ input_limit - (p.fed + k) = omega arith in
    fed_on p k piece left (omega arith) room
    ∙ ap (λ (t : List ℕ). due (fed_with t p) (take (r - k) (drop k (piece ++ left))) (nat_lt r (length (piece ++ left)))) whole
    ∙ ap (λ (t : List ℕ). due (fed_with piece p) (take (r - k) t) (nat_lt r (length (piece ++ left)))) behind
    ∙ ap (λ (b : Bool). due (fed_with piece p) (take (r - k) left) b) (over_both r k 0 piece left refl room)
    ∙ ap (λ (n : ℕ). due (fed_with piece p) (take n left) (nat_lt n (length left))) rest

-- a piece over the limit
over_limit : (p : Progress) (k : ℕ) (piece left : List ℕ) → k ≡ input_limit - p.fed → k < length piece → due_input p (piece ++ left) ≡ due (fed_with (take k piece) p) [] true
unfolding due_input
over_limit p k piece left is over =
    let r = input_limit - p.fed in
    let none : r - k ≡ 0 = omega (arith, is) in
    let long : r < length (piece ++ left) = omega (arith, is, over, length-append piece left) in
    let test : nat_lt r (length (piece ++ left)) ≡ true = search (rules, long) in
    fed_on p k piece left (omega (arith, over)) (omega (arith, is))
    ∙ ap (λ (n : ℕ). due (fed_with (take k piece) p) (take n (drop k (piece ++ left))) (nat_lt r (length (piece ++ left)))) none
    ∙ ap (λ (b : Bool). due (fed_with (take k piece) p) [] b) test

-- what is counted of bytes within the limit, or not
counted : (heard rest k : ℕ) (left : List ℕ) → after_end heard (rest + length (take k left)) (nat_lt k (length left)) ≡ after_end heard (rest + length left) (nat_lt k (length left))
counted heard rest k left =
    elim (cases_lt k (length left)) [
      | inl lt ↦ let test : nat_lt k (length left) ≡ true = search (rules, lt) in
          ap (λ (b : Bool). after_end heard (rest + length (take k left)) b) test ∙ sym (ap (λ (b : Bool). after_end heard (rest + length left) b) test)
      | inr le ↦ ap (λ (t : List ℕ). after_end heard (rest + length t) (nat_lt k (length left))) (take_all k left le)
    ]

-- A turn

-- the last line came while the frames were taken
pub turn_refused : (p q : Progress) (k : ℕ) (piece before after : List ℕ) → k ≡ min (length piece) (input_limit - p.fed)
    → IsRefused (fed_with (take k piece) p) before after → Turns RefusedThere p before piece q after
turn_refused p q k piece before after is last left =
    ap (prefixed before) (fed_on p k piece left (omega (arith, is)) (omega (arith, is)))
    ∙ last (take (input_limit - p.fed - k) (drop k (piece ++ left))) (nat_lt (input_limit - p.fed) (length (piece ++ left)))

-- the piece goes over the limit
pub turn_over : (p q r : Progress) (k : ℕ) (piece before middle after : List ℕ) → k ≡ min (length piece) (input_limit - p.fed) → k < length piece
    → Drains Waiting (fed_with (take k piece) p) before q middle → after ≡ middle ++ over_line → Turns RefusedThere p before piece r after
turn_over p q r k piece before middle after is over drained text left =
    ap (prefixed before) (over_limit p k piece left (omega (arith, is, over)) over)
    ∙ drained.3 [] true ∙ ap (prefixed middle) (over_on q drained.1) ∙ ending_with _ _ Refused (sym text)

-- the same where the peer has left
pub turn_over_end : (p q r : Progress) (k : ℕ) (piece before middle after : List ℕ) → k ≡ min (length piece) (input_limit - p.fed) → k < length piece
    → Drains EndedThere (fed_with (take k piece) p) before q middle → after ≡ middle ++ over_line → Turns RefusedThere p before piece r after
turn_over_end p q r k piece before middle after is over drained text left =
    ap (prefixed before) (over_limit p k piece left (omega (arith, is, over)) over)
    ∙ drained.2 [] true ∙ ending_with _ _ Refused (sym text)

-- the piece was taken whole
pub turn_whole : (p q : Progress) (k : ℕ) (piece before after : List ℕ) → k ≡ min (length piece) (input_limit - p.fed) → k ≡ length piece → 0 < length piece
    → Drains Waiting (fed_with (take k piece) p) before q after → Turns Waiting p before piece q after
unfolding due_input
turn_whole p q k piece before after is whole some drained =
    let all : take k piece ≡ piece = take_all k piece (omega arith) in
    let d = subst (λ (t : List ℕ). Drains Waiting (fed_with t p) before q after) all drained in (
      d.0,
      d.1,
      omega (arith, d.2, some),
      λ left.
          ap (prefixed before) (whole_on p piece left (omega (arith, is, whole)))
          ∙ d.3 (take (input_limit - (p.fed + length piece)) left) (nat_lt (input_limit - (p.fed + length piece)) (length left))
          ∙ ap (λ (n : ℕ). prefixed after (due q (take (input_limit - n) left) (nat_lt (input_limit - n) (length left)))) (sym d.2),
    )

-- the piece was taken whole, and the peer has left
pub turn_ended : (p q : Progress) (k : ℕ) (piece before after : List ℕ) → k ≡ min (length piece) (input_limit - p.fed) → k ≡ length piece
    → Drains EndedThere (fed_with (take k piece) p) before q after → Turns EndedThere p before piece q after
unfolding due_input due_after_end
turn_ended p q k piece before after is whole drained =
    let all : take k piece ≡ piece = take_all k piece (omega arith) in
    let d = subst (λ (t : List ℕ). Drains EndedThere (fed_with t p) before q after) all drained in (
      d.0,
      λ left.
          let room : ℕ = input_limit - (p.fed + length piece) in
          ap (prefixed before) (whole_on p piece left (omega (arith, is, whole)))
          ∙ d.2 (take room left) (nat_lt room (length left))
          ∙ ap (prefixed after) (counted q.end.received (length q.unread) room left)
          ∙ ap (λ (n : ℕ). prefixed after (after_end q.end.received (length q.unread + length left) (nat_lt (input_limit - n) (length left)))) (sym d.1),
    )

-- what `drain` says, of the piece that `feed` took
pub drains_at : (o o' : Turned) (p f q : Progress) (k : ℕ) (piece before after : List ℕ) → o ≡ o' → f ≡ fed_with (take k piece) p → Drains o f before q after → Drains o' (fed_with (take k piece) p) before q after
drains_at o o' p f q k piece before after is fed drained =
    subst (λ (x : Turned). Drains x (fed_with (take k piece) p) before q after) is (subst (λ (x : Progress). Drains o x before q after) fed drained)

-- the piece was taken whole, whatever it gave
pub turn_same : (o : Turned) (p q : Progress) (k : ℕ) (piece before after : List ℕ) → k ≡ min (length piece) (input_limit - p.fed) → k ≡ length piece → 0 < length piece
    → Drains o (fed_with (take k piece) p) before q after → Turns o p before piece q after
turn_same Waiting p q k piece before after is whole some drained = turn_whole p q k piece before after is whole some drained
turn_same RefusedThere p q k piece before after is whole some drained = turn_refused p q k piece before after is drained
turn_same EndedThere p q k piece before after is whole some drained = turn_ended p q k piece before after is whole drained

-- the piece goes over the limit, and was not refused before
pub turn_past : (o : Turned) (p q r : Progress) (k : ℕ) (piece before middle after : List ℕ) → k ≡ min (length piece) (input_limit - p.fed) → k < length piece → o ≢ RefusedThere
    → Drains o (fed_with (take k piece) p) before q middle → after ≡ middle ++ over_line → Turns RefusedThere p before piece r after
turn_past Waiting p q r k piece before middle after is over other drained text = turn_over p q r k piece before middle after is over drained text
turn_past RefusedThere p q r k piece before middle after is over other drained text = absurd (other refl)
turn_past EndedThere p q r k piece before middle after is over other drained text = turn_over_end p q r k piece before middle after is over drained text

pub not_refused : (o : Turned) → (o ≡ Waiting) ⊎ (o ≡ EndedThere) → o ≢ RefusedThere
not_refused o h e = elim h [ inl w ↦ cc | inr w ↦ cc ]
