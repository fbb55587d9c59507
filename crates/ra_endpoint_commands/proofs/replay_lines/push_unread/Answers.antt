use Rattle.std.proofs.Common.{◌≡◌, List, ℕ, [], ◌∷◌, ◌++◌, append_assoc, ap, ◌∙◌}
use Rattle.std.specs.Prelude.{Result, OnOk, codes}
use Rattle.std.specs.Fmt.{decimal}
use Rattle.std.proofs.lemmas.Result.{on_ok_weaker}
use Rattle.ra_endpoint_commands.proofs.replay_lines.push_unread.Goals as goal

regrouped : (a x c n : List ℕ) → ((a ++ x) ++ c) ++ n ≡ a ++ ((x ++ c) ++ n)
regrouped a x c n = simp append_assoc

three : {T E : Type 0} (r : Result T E) (a x c n t1 t2 t3 : List ℕ) → t1 ≡ a ++ x → t2 ≡ t1 ++ c → OnOk r (t3 ≡ t2 ++ n) → OnOk r (t3 ≡ a ++ ((x ++ c) ++ n))
three r a x c n t1 t2 t3 e f = on_ok_weaker r (λ (g : t3 ≡ t2 ++ n). g ∙ ap (λ (t : List ℕ). t ++ n) (f ∙ ap (λ (t : List ℕ). t ++ c) e) ∙ regrouped a x c n)

pub returns : goal.returns
returns c =
    three c.push_end_of_line.result c.args.text.now.items (codes "script: line " ++ decimal c.args.n ++ codes ": ") c.args.cause.now (10 ∷ []) _ _ _
    c.in_ok-push_between.ensures c.in_ok-push_text.ensures c.push_end_of_line.ensures
