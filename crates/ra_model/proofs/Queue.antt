-- How the queue of what is not acknowledged changes.
use Rattle.std.proofs.Common.{◌≡◌, ℕ, zero, suc, ◌+◌, ◌-◌, ◌≤◌, Some, List, [], ◌∷◌, ◌++◌, length, map, take, drop, refl, ap, sym, ◌∙◌, arith, inl, inr}
use Rattle.std.proofs.lemmas.Bool.{cases_lt, cond-true, cond-false, le-leb, lt-leb}
use Rattle.std.proofs.lemmas.List.{length-drop, drop-drop, drop-append-le}
use Rattle.std.proofs.Math.Seq.{drop-nil}
use Rattle.ra_model.specs.declared.session.Entry.{Entry}
use Rattle.ra_model.specs.Endpoints.{Endpoint, SaidMessage, sent, acknowledged_count, numbered, owed}
use Rattle.ra_model.specs.Calls.{written_at, rewritten}
use Rattle.ra_model.specs.EndpointStates.{EndpointState, StandsFor, IsOrdered, behind, entry_written}
use Rattle.ra_model.proofs.EveryRun.{length-numbered}

numbered_append : (last : ℕ) (ms : List SaidMessage) (m : SaidMessage) (next : ℕ) → next ≡ suc (last + length ms)
    → numbered last (ms ++ m ∷ []) ≡ numbered last ms ++ record { id = next; ack = m.ack; body = m.body; written = m.written } ∷ []
numbered_append last [] m next is = ap (λ (n : ℕ). record { id = n; ack = m.ack; body = m.body; written = m.written } ∷ []) (omega arith)
numbered_append last (x ∷ ms) m next is = ap (λ (es : List Entry). record { id = suc last; ack = x.ack; body = x.body; written = x.written } ∷ es) (numbered_append (suc last) ms m next (omega arith))

numbered_drop : (k last : ℕ) (ms : List SaidMessage) (first : ℕ) → first ≡ last + k → k ≤ length ms → drop k (numbered last ms) ≡ numbered first (drop k ms)
numbered_drop zero last ms first is fits = ap (λ (n : ℕ). numbered n ms) (omega arith)
numbered_drop (suc k) last [] first is fits = absurd (omega arith)
numbered_drop (suc k) last (m ∷ ms) first is fits = numbered_drop k (suc last) ms first (omega arith) (omega arith)

numbered_written : (now last : ℕ) (ms : List SaidMessage) → numbered last (map (written_at now) ms) ≡ map (entry_written now) (numbered last ms)
numbered_written now last [] = refl
numbered_written now last (m ∷ ms) = ap (λ (es : List Entry). record { id = suc last; ack = m.ack; body = m.body; written = Some now } ∷ es) (numbered_written now (suc last) ms)

behind_numbered : (upto last : ℕ) (ms : List SaidMessage) (k : ℕ) → k ≡ upto - last → behind upto (numbered last ms) ≡ drop k (numbered last ms)
behind_numbered upto last [] k is = sym (drop-nil k)
behind_numbered upto last (m ∷ ms) k is =
    elim (cases_lt last upto) [
      | inl more ↦
          let next : k ≡ suc (upto - suc last) = omega arith in
          cond-true _ _ _ (le-leb (suc last) upto (omega arith)) ∙ behind_numbered upto (suc last) ms (upto - suc last) refl
          ∙ ap (λ (n : ℕ). drop n (numbered last (m ∷ ms))) (sym next)
      | inr less ↦
          let none : k ≡ 0 = omega arith in
          cond-false _ _ _ (lt-leb (suc last) upto (omega arith)) ∙ ap (λ (n : ℕ). drop n (numbered last (m ∷ ms))) (sym none)
    ]

pub ordered : (s : EndpointState) (e : Endpoint) → StandsFor s e → s.acknowledged + length s.queue ≡ s.sent → IsOrdered e
unfolding owed
ordered s e h count =
    let acknowledged : e.acknowledged ≡ s.acknowledged = ap (λ (x : Endpoint). x.acknowledged) h.same in
    let total : s.sent ≡ e.base + length e.said = h.sent in
    let kept : length s.queue ≡ length e.said - (e.acknowledged - e.base) =
    ap length h.queue ∙ length-numbered e.acknowledged (drop (acknowledged_count e) e.said) ∙ length-drop (acknowledged_count e) e.said in
    record { base = omega arith; acknowledged = omega arith }

pub said : (e : Endpoint) (m : SaidMessage) → IsOrdered e → owed (record e { said = e.said ++ m ∷ [] }) ≡ owed e ++ record { id = suc (sent e); ack = m.ack; body = m.body; written = m.written } ∷ []
unfolding owed
said e m o =
    let low : e.base ≤ e.acknowledged = o.base in
    let high : e.acknowledged ≤ e.base + length e.said = o.acknowledged in
    let left : length (drop (acknowledged_count e) e.said) ≡ length e.said - (e.acknowledged - e.base) = length-drop (acknowledged_count e) e.said in
    ap (λ (ms : List SaidMessage). numbered e.acknowledged ms) (drop-append-le (acknowledged_count e) e.said (m ∷ []) (omega arith))
    ∙ numbered_append e.acknowledged (drop (acknowledged_count e) e.said) m (suc (sent e)) (omega arith)

pub acknowledged : (e : Endpoint) (upto : ℕ) → IsOrdered e → e.acknowledged ≤ upto → upto ≤ sent e → owed (record e { acknowledged = upto }) ≡ behind upto (owed e)
unfolding owed
acknowledged e upto o more most =
    let low : e.base ≤ e.acknowledged = o.base in
    let left : length (drop (acknowledged_count e) e.said) ≡ length e.said - (e.acknowledged - e.base) = length-drop (acknowledged_count e) e.said in
    let far : (upto - e.acknowledged) + (e.acknowledged - e.base) ≡ upto - e.base = omega arith in
    sym (behind_numbered upto e.acknowledged (drop (acknowledged_count e) e.said) (upto - e.acknowledged) refl
    ∙ numbered_drop (upto - e.acknowledged) e.acknowledged (drop (acknowledged_count e) e.said) upto (omega arith) (omega arith)
    ∙ ap (λ (ms : List SaidMessage). numbered upto ms) (drop-drop (upto - e.acknowledged) (acknowledged_count e) e.said ∙ ap (λ (n : ℕ). drop n e.said) (omega arith)))

behind_taken : (now n : ℕ) (ms : List SaidMessage) → drop n (take n ms ++ map (written_at now) (drop n ms)) ≡ map (written_at now) (drop n ms)
behind_taken now zero ms = refl
behind_taken now (suc n) [] = refl
behind_taken now (suc n) (m ∷ ms) = behind_taken now n ms

pub written_again : (e : Endpoint) (now : ℕ) → owed (record e { said = rewritten now e }) ≡ map (entry_written now) (owed e)
unfolding owed rewritten
written_again e now =
    ap (λ (ms : List SaidMessage). numbered e.acknowledged ms) (behind_taken now (acknowledged_count e) e.said)
    ∙ numbered_written now e.acknowledged (drop (acknowledged_count e) e.said)
