-- An audit one record further.
use Rattle.std.proofs.Common.{◌≡◌, ◌≢◌, ℕ, ◌+◌, ◌<◌, suc, List, [], ◌∷◌, ◌++◌, length, take, drop, get_or, Bool, true, false, cond, refl, sym, ap, subst, ◌∙◌, arith}
use Rattle.std.proofs.Math.Seq.{drop-cons, take-suc}
use Rattle.std.proofs.Common.{length-take-le}
use Rattle.std.proofs.lemmas.List.{take_all, drop_all}
use Rattle.std.proofs.lemmas.Grind.{common_steps}
use Rattle.std.specs.BTreeMap.{is_at}
use Rattle.ra_base.specs.Keys.{key_cmp}
use Rattle.ra_base.specs.declared.key.Key.{Key}
use Rattle.ra_keep.specs.declared.record.Record.{Record}
use Rattle.std.proofs.Common.{inl, inr, Option, Some, unwrap_or}
use Rattle.std.proofs.lemmas.Bool.{cases_Bool}
use Rattle.std.proofs.lemmas.List.Sums.{count_by_more_yes, count_by_more_no}
use Rattle.std.specs.Ordering.{is_eq}
use Rattle.std.specs.declared.cmp.Ordering.{Ordering}
use Rattle.std.specs.declared.cmp.Ordering.TheVariants.{Less, Equal, Greater}
use Rattle.ra_base.proofs.KeyLemmas.{exact_keys}
use Rattle.ra_audit.specs.Audits.{count_of, due_epoch, record_line, end_line, wrong_line, audit_from, AreDueFrom}

-- the records from a place on are the one there and those behind it
pub drop_one : (list : List Record) (i : ℕ) (d : Record) → i < length list → drop i list ≡ get_or list i d ∷ drop (i + 1) list
drop_one list i d h = let next : suc i ≡ i + 1 = omega arith in subst (λ k. drop i list ≡ get_or list i d ∷ drop k list) next (drop-cons list i d h)

pub take_one : (list : List Record) (i : ℕ) (d : Record) → i < length list → take (i + 1) list ≡ take i list ++ get_or list i d ∷ []
take_one list i d h = let next : suc i ≡ i + 1 = omega arith in subst (λ k. take k list ≡ take i list ++ get_or list i d ∷ []) next (take-suc list i d h)

pub audit_due : (earlier : List Record) (r : Record) (rest : List Record) → r.epoch ≡ due_epoch earlier r.key → audit_from earlier (r ∷ rest) ≡ record_line (length earlier + 1) r ++ audit_from (earlier ++ r ∷ []) rest
unfolding audit_from
audit_due earlier r rest h = grind (arith, common_steps)

pub audit_wrong : (earlier : List Record) (r : Record) (rest : List Record) → r.epoch ≢ due_epoch earlier r.key → audit_from earlier (r ∷ rest) ≡ wrong_line (length earlier + 1) r.epoch (due_epoch earlier r.key)
unfolding audit_from
audit_wrong earlier r rest h = grind (arith, common_steps)

pub audit_end : (earlier : List Record) → audit_from earlier [] ≡ end_line (length earlier)
unfolding audit_from
audit_end earlier = refl

pub due_more : (earlier : List Record) (r : Record) (rest : List Record) → r.epoch ≡ due_epoch earlier r.key → AreDueFrom (earlier ++ r ∷ []) rest → AreDueFrom earlier (r ∷ rest)
unfolding AreDueFrom
due_more earlier r rest h more = (h, more)

pub due_less : (earlier : List Record) (r : Record) (rest : List Record) → AreDueFrom earlier (r ∷ rest) → (r.epoch ≡ due_epoch earlier r.key) × AreDueFrom (earlier ++ r ∷ []) rest
unfolding AreDueFrom
due_less earlier r rest h = h

pub due_end : (earlier : List Record) → AreDueFrom earlier []
unfolding AreDueFrom
due_end earlier = tt

is_equal : (o : Ordering) → is_eq o ≡ true → o ≡ Equal
is_equal Less h = cc
is_equal Equal h = refl
is_equal Greater h = cc

pub same_key : (a b : Key) → is_at (key_cmp a) b ≡ true → a ≡ b
same_key a b h = exact_keys a b (is_equal (key_cmp a b) h)

-- the counts with one record more
pub count_more : (list : List Record) (i : ℕ) (d : Record) (key : Key) → i < length list
    → count_of key (take (i + 1) list) ≡ cond (is_at (key_cmp (get_or list i d).key) key) (count_of key (take i list) + 1) (count_of key (take i list))
count_more list i d key h = elim (cases_Bool (is_at (key_cmp (get_or list i d).key) key)) [
  | inl same ↦ count_by_more_yes (λ r. is_at (key_cmp r.key) key) list i d h same ∙ (rw same refl)
  | inr other ↦ count_by_more_no (λ r. is_at (key_cmp r.key) key) list i d h other ∙ (rw other refl)
]

-- what the map of counts has after one more record of a session
pub counts_more : (b : Bool) (n : ℕ) (old : Option ℕ) → (b ≡ true → n ≡ unwrap_or old 0 + 1) → unwrap_or (cond b (Some n) old) 0 ≡ cond b (unwrap_or old 0 + 1) (unwrap_or old 0)
counts_more true n old h = h refl
counts_more false n old h = refl

module _ (list : List Record) (i : ℕ) (r : Record) (here : r ≡ get_or list i r) (below : i < length list) where
  split : drop i list ≡ r ∷ drop (i + 1) list
  split = drop_one list i r below ∙ ap (λ x. x ∷ drop (i + 1) list) (sym here)

  front : take (i + 1) list ≡ take i list ++ r ∷ []
  front = take_one list i r below ∙ ap (λ x. take i list ++ x ∷ []) (sym here)

  number : length (take i list) ≡ i
  number = length-take-le i list (omega (arith, below))

  pub due_step : r.epoch ≡ due_epoch (take i list) r.key → audit_from (take i list) (drop i list) ≡ record_line (i + 1) r ++ audit_from (take (i + 1) list) (drop (i + 1) list)
  due_step h = ap (audit_from (take i list)) split ∙ (audit_due (take i list) r (drop (i + 1) list) h ∙ (ap (λ n. record_line (n + 1) r ++ audit_from (take i list ++ r ∷ []) (drop (i + 1) list)) number ∙ ap (λ l. record_line (i + 1) r ++ audit_from l (drop (i + 1) list)) (sym front)))

  pub wrong_step : r.epoch ≢ due_epoch (take i list) r.key → audit_from (take i list) (drop i list) ≡ wrong_line (i + 1) r.epoch (due_epoch (take i list) r.key)
  wrong_step h = ap (audit_from (take i list)) split ∙ (audit_wrong (take i list) r (drop (i + 1) list) h ∙ ap (λ n. wrong_line (n + 1) r.epoch (due_epoch (take i list) r.key)) number)

  pub due_forth : r.epoch ≡ due_epoch (take i list) r.key → AreDueFrom (take (i + 1) list) (drop (i + 1) list) → AreDueFrom (take i list) (drop i list)
  due_forth h more = subst (AreDueFrom (take i list)) (sym split) (due_more (take i list) r (drop (i + 1) list) h (subst (λ l. AreDueFrom l (drop (i + 1) list)) front more))

  pub due_back : AreDueFrom (take i list) (drop i list) → (r.epoch ≡ due_epoch (take i list) r.key) × AreDueFrom (take (i + 1) list) (drop (i + 1) list)
  due_back h = let both = due_less (take i list) r (drop (i + 1) list) (subst (AreDueFrom (take i list)) split h) in (both.0, subst (λ l. AreDueFrom l (drop (i + 1) list)) (sym front) both.1)

  pub counts_step : (key : Key) → count_of key (take (i + 1) list) ≡ cond (is_at (key_cmp r.key) key) (count_of key (take i list) + 1) (count_of key (take i list))
  counts_step key = count_more list i r key below ∙ ap (λ (x : Record). cond (is_at (key_cmp x.key) key) (count_of key (take i list) + 1) (count_of key (take i list))) (sym here)

module _ (list : List Record) where
  all_taken : (i : ℕ) → i ≡ length list → (take i list ≡ list) × (drop i list ≡ [])
  all_taken i h = (take_all i list (omega (arith, h)), drop_all i list (omega (arith, h)))

  pub end_step : (i : ℕ) → i ≡ length list → audit_from (take i list) (drop i list) ≡ end_line i
  end_step i h = let t = all_taken i h in ap (λ l. audit_from l (drop i list)) t.0 ∙ (ap (audit_from list) t.1 ∙ (audit_end list ∙ ap end_line (sym h)))

  pub end_due : (i : ℕ) → i ≡ length list → AreDueFrom (take i list) (drop i list)
  end_due i h = subst (AreDueFrom (take i list)) (sym (all_taken i h).1) (due_end (take i list))
