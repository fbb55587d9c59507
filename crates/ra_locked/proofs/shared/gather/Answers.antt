use Rattle.std.proofs.Common.{◌≡◌, ◌∙◌, ◌+◌, ◌++◌, ◌∷◌, [], ℕ, List, length, map, sym, ap, append_assoc, arith, length-append}
use Rattle.std.proofs.lemmas.List.{map-append, append-nil}
use Rattle.ra_locked.specs.declared.receipt.Receipt.{Receipt}
use Rattle.ra_locked.proofs.Accounted.{of_calls_snoc, receipts_snoc}
use Rattle.ra_locked.proofs.shared.gather.Goals as goal

one_less : {A : Type 0} (len next : ℕ) (xs : List A) (x : A) (ys : List A) → xs ≡ x ∷ ys → next + 1 ≡ len → len ≡ length xs → next ≡ length ys
one_less len next xs x ys e more all = let n = ap length e in omega arith

pub loop-handle-preserved : goal.loop-handle-preserved
loop-handle-preserved g c =
    let was = c.loop-handle.invariant in
    let h = c.in-Some.handle in
    let bs : List (List Receipt) = map (λ h. h.receipts.items) c.loop-handle.yielded in
    let more : map (λ h. h.receipts.items) (c.loop-handle.yielded ++ h ∷ []) ≡ bs ++ h.receipts.items ∷ [] = map-append _ c.loop-handle.yielded (h ∷ []) in
    let n = length-append c.loop-handle.yielded (h ∷ []) in
    let count = receipts_snoc bs h.receipts.items in
    record {
      books = ap (map (λ v. v.items)) c.in_ok-push.ensures.items ∙ (map-append _ c.loop-handle.books.items (h.receipts ∷ []) ∙ (ap (λ l. l ++ h.receipts.items ∷ []) was.books ∙ sym more));
      whole = append_assoc c.loop-handle.yielded (h ∷ []) c.next.new.self.rest.items ∙ (ap (λ l. c.loop-handle.yielded ++ l) (sym c.in-Some.ensures.steps.0) ∙ was.whole);
      len = one_less c.loop-handle.handle-iterator.rest.len c.next.new.self.rest.len c.loop-handle.handle-iterator.rest.items h c.next.new.self.rest.items c.in-Some.ensures.steps.0 c.in-Some.ensures.steps.1 was.len;
      parts = omega (arith, n, c.merge.ensures.parts, h.one_part, was.parts);
      amount = rw more (omega (arith, count, c.merge.ensures.amount, h.counted, was.amount));
      of_calls = rw more (of_calls_snoc bs h.receipts.items was.of_calls h.of_calls);
    }

ended : {A : Type 0} (done rest all : List A) → done ++ rest ≡ all → length rest ≡ 0 → done ≡ all
ended done [] all e none = sym (append-nil done) ∙ e
ended done (x ∷ xs) all e none = absurd (omega arith)

pub returns-clause-parts : goal.returns-clause-parts
returns-clause-parts g c =
    let was = c.loop-handle.invariant in
    let e = ended c.loop-handle.yielded c.loop-handle.handle-iterator.rest.items c.args.handles.items was.whole (sym was.len ∙ c.in-None.ensures.steps.0) in
    rw (← e) was.parts

pub returns-clause-amount : goal.returns-clause-amount
returns-clause-amount g c =
    let was = c.loop-handle.invariant in
    let e = ended c.loop-handle.yielded c.loop-handle.handle-iterator.rest.items c.args.handles.items was.whole (sym was.len ∙ c.in-None.ensures.steps.0) in
    rw (← e) was.amount
