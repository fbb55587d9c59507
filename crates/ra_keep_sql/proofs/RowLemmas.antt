-- Rows that are records.
use Rattle.std.proofs.Common.{◌≡◌, ◌≢◌, ◌+◌, ◌<◌, ◌≤◌, ◌^◌, ℕ, zero, suc, pos, negsuc, List, [], ◌∷◌, ◌++◌, map, length, Bool, true, false, cond, eqb, nat_lt, Option, Some, None, Ok, Err, Result, OnOk, refl, sym, ap, subst, ◌∙◌, arith, not, position, slice_index}
use Rattle.std.specs.List.{AllPass}
use Rattle.std.specs.Str.{IsUtf8}
use Rattle.std.proofs.lemmas.Str.{IsUtf8-from_ascii}
use Rattle.std.proofs.lemmas.Bool.Decides.{nat_tests}
use Rattle.std.proofs.lemmas.Int.{ints}
use Rattle.sqlite_value.proofs.OrderLemmas.{value_cmp-Int}
use Rattle.ra_base.specs.declared.token.TokenFault.{TokenFault}
use Rattle.ra_base.specs.declared.token.TokenFault.TheVariants.{Empty, TooLong}
use Rattle.std.proofs.lemmas.Grind.{common_steps}
use Rattle.ra_base.specs.declared.kind.Kind.{Kind}
use Rattle.ra_base.specs.declared.kind.Kind.TheVariants.{Management, ExtensionHost, Tunnel}
use Rattle.ra_base.specs.TokenGrammar.{IsToken, is_visible, unless_bad}
use Rattle.ra_base.proofs.TokenLemmas.{token_of-IsToken, AllPass-from_position}
use Rattle.std.specs.Prelude.{All}
use Rattle.std.proofs.lemmas.List.Elements.{All-nil, All-cons}
use Rattle.ra_keep.specs.Causes.{IsOfNoTunnel}
use Rattle.ra_keep.specs.declared.record.Record.{Record}
use Rattle.sqlite.specs.declared.types.Value.{Value}
use Rattle.sqlite.specs.declared.types.Value.TheVariants.{Null, Int, Real, Text as Words, Blob}
use Rattle.sqlite.specs.Order.{Row, value_cmp, column}
use Rattle.std.specs.declared.cmp.Ordering.TheVariants.{Less}
use Rattle.ra_keep_sql.specs.KeptTable.{kind_number, stored, Below}
use Rattle.ra_keep_sql.specs.KeptRows.{kind_numbered, kind_in, moment_in, number_in, and_then, record_in, with_first, records_from, records_of, bad_from, first_bad, shown_row, ok_of, token_in}

kind_known : (k : Kind) → k ≢ Tunnel → kind_numbered (kind_number k) ≡ Some k
kind_known Management h = refl
kind_known ExtensionHost h = refl
kind_known Tunnel h = absurd (h refl)

moment_kept : (at : ℕ) → at < 2 ^ 53 → cond (nat_lt at (2 ^ 53)) (Some at) None ≡ Some at
moment_kept at h = grind (arith, common_steps)

same_number : {X : Type 0} (n : ℕ) (x : Option X) → cond (eqb n n) x None ≡ x
same_number n x = grind (arith, common_steps)

-- the row of a record is read as it
pub record_kept : (n : ℕ) (r : Record) → r.key.kind ≢ Tunnel → r.at < 2 ^ 53 → IsToken r.key.token
    → record_in n (shown_row (stored n r)) ≡ Some r
record_kept n r none at token = rw (kind_known r.key.kind none, token_of-IsToken r.key.token token, moment_kept r.at at) (same_number n (Some r))

pub with_first_some : (o : Option Record) (rest : Option (List Record)) (list : List Record) → with_first o rest ≡ Some list
    → (r : Record) × (rs : List Record) × (o ≡ Some r) × (rest ≡ Some rs) × (list ≡ r ∷ rs)
with_first_some (Some r) (Some rs) list h = (r, rs, refl, refl, cc)
with_first_some (Some r) None list h = absurd (let e = h in cc)
with_first_some None rest list h = absurd (let e = h in cc)

with_first_is : (o : Option Record) (rest : Option (List Record)) (b : Record) (bs : List Record) → o ≡ Some b → rest ≡ Some bs → with_first o rest ≡ Some (b ∷ bs)
with_first_is o rest b bs p q = rw (p, q) refl

pub records_append : (n : ℕ) (xs : List Row) (list : List Record) (row : Row) (r : Record) → records_from n xs ≡ Some list → record_in (n + length list) row ≡ Some r
    → records_from n (xs ++ row ∷ []) ≡ Some (list ++ r ∷ [])
records_append n [] list row r h k =
    let none : list ≡ [] = cc in
    let same : n + length list ≡ n = omega (arith, ap length none) in
    let read : record_in n row ≡ Some r = subst (λ m. record_in m row ≡ Some r) same k in
    rw (none, read) refl
records_append n (x ∷ xs) list row r h k =
    let s = with_first_some (record_in n x) (records_from (n + 1) xs) list h in
    let len : n + length list ≡ (n + 1) + length s.1 = omega (arith, ap length s.4) in
    let read : record_in ((n + 1) + length s.1) row ≡ Some r = subst (λ m. record_in m row ≡ Some r) len k in
    let tail = records_append (n + 1) xs s.1 row r s.3 read in
    with_first_is _ _ s.0 (s.1 ++ r ∷ []) s.2 tail ∙ ap (λ l. Some (l ++ r ∷ [])) (sym s.4)

eq_if : (m n : ℕ) (o : Option Record) (r : Record) → cond (eqb m n) o None ≡ Some r → m ≡ n
eq_if m n o r h = grind (arith, common_steps)

first_is : (n : ℕ) (v : Value) (o : Option Record) (r : Record) → and_then (λ m. cond (eqb m n) o None) (number_in v) ≡ Some r → v ≡ Int (pos n)
first_is n (Int (pos m)) o r h = ap (λ k. Int (pos k)) (eq_if m n o r h)
first_is n (Int (negsuc m)) o r h = absurd (let e = h in cc)
first_is n Null o r h = absurd (let e = h in cc)
first_is n (Real x) o r h = absurd (let e = h in cc)
first_is n (Words t) o r h = absurd (let e = h in cc)
first_is n (Blob b) o r h = absurd (let e = h in cc)

pub below_is : (a b : ℕ) → a < b → value_cmp (Int (pos a)) (Int (pos b)) ≡ Less
below_is a b h = value_cmp-Int (pos a) (pos b) ∙ grind (arith, ints, nat_tests)

-- a row that is a record has its number as its rowid
pub id_is : (n : ℕ) (row : Row) (r : Record) → record_in n row ≡ Some r → column row 0 ≡ Int (pos n)
id_is n row r h = first_is n (column row 0) _ r h

-- the rowids of records are less than the next number
pub below_next : (n : ℕ) (rows : List Row) (list : List Record) (m : ℕ) → records_from n (map shown_row rows) ≡ Some list → n + length list ≤ m → Below m rows
below_next n [] list m h most = tt
below_next n (x ∷ xs) list m h most =
    let s = with_first_some (record_in n (shown_row x)) (records_from (n + 1) (map shown_row xs)) list h in
    let fewer : (n + 1) + length s.1 ≤ m = omega (arith, most, ap length s.4) in
    ((n, first_is n (column x 0) _ s.0 s.2, omega (arith, fewer)), below_next (n + 1) xs s.1 m s.3 fewer)

-- one number higher, with the row that has the number
pub below_more : (n : ℕ) (rows : List Row) (r : Record) → Below n rows → Below (n + 1) (rows ++ stored n r ∷ [])
below_more n [] r h = ((n, refl, omega arith), tt)
below_more n (x ∷ xs) r h = ((h.0.0, h.0.1, omega (arith, h.0.2)), below_more n xs r h.1)

map_last : (xs : List Row) (x : Row) → map shown_row (xs ++ x ∷ []) ≡ map shown_row xs ++ shown_row x ∷ []
map_last [] x = refl
map_last (y ∷ xs) x = ap (λ l. shown_row y ∷ l) (map_last xs x)

-- records with one more behind them
pub records_split : (n : ℕ) (rows : List Row) (row : Row) (list : List Record) → records_from n (rows ++ row ∷ []) ≡ Some list
    → (front : List Record) × (r : Record) × (records_from n rows ≡ Some front) × (record_in (n + length front) row ≡ Some r) × (list ≡ front ++ r ∷ [])
records_split n [] row list h =
    let s = with_first_some (record_in n row) (Some []) list h in
    let none : [] ≡ s.1 = let e = s.3 in cc in
    ([], s.0, refl, subst (λ m. record_in m row ≡ Some s.0) (omega arith) s.2, s.4 ∙ ap (λ l. s.0 ∷ l) (sym none))
records_split n (x ∷ xs) row list h =
    let s = with_first_some (record_in n x) (records_from (n + 1) (xs ++ row ∷ [])) list h in
    let t = records_split (n + 1) xs row s.1 s.3 in
    let number : (n + 1) + length t.0 ≡ n + length (s.0 ∷ t.0) = omega arith in
    (s.0 ∷ t.0, t.1, with_first_is _ _ s.0 t.0 s.2 t.2, subst (λ m. record_in m row ≡ Some t.1) number t.3, s.4 ∙ ap (λ l. s.0 ∷ l) t.4)

-- a record more
pub one_more : (n : ℕ) (rows : List Row) (list : List Record) (r : Record) → records_of rows ≡ Some list → n ≡ 1 + length list → r.key.kind ≢ Tunnel → r.at < 2 ^ 53 → IsToken r.key.token
    → records_of (rows ++ stored n r ∷ []) ≡ Some (list ++ r ∷ [])
one_more n rows list r h is none at token =
    rw (map_last rows (stored n r)) (records_append 1 (map shown_row rows) list _ r h (subst (λ m. record_in m (shown_row (stored n r)) ≡ Some r) is (record_kept n r none at token)))

-- and no other list
pub only_more : (n : ℕ) (rows : List Row) (r : Record) (list : List Record) → ((front : List Record) → records_of rows ≡ Some front → n ≡ 1 + length front) → r.key.kind ≢ Tunnel → r.at < 2 ^ 53
    → IsToken r.key.token → records_of (rows ++ stored n r ∷ []) ≡ Some list → (front : List Record) × (records_of rows ≡ Some front) × (list ≡ front ++ r ∷ [])
only_more n rows r list numbered none at token h =
    let s = records_split 1 (map shown_row rows) (shown_row (stored n r)) list (rw (map_last rows (stored n r)) at h) in
    let read : record_in (1 + length s.0) (shown_row (stored n r)) ≡ Some r = subst (λ m. record_in m (shown_row (stored n r)) ≡ Some r) (numbered s.0 s.2) (record_kept n r none at token) in
    let both : Some s.1 ≡ Some r = sym s.3 ∙ read in
    let same : s.1 ≡ r = let e = both in cc in
    (s.0, s.2, s.4 ∙ ap (λ x. s.0 ++ x ∷ []) same)

pub ok_weaker : {T E : Type 0} (r : Result T E) (P Q : Type 0) → (P → Q) → OnOk r P → OnOk r Q
ok_weaker (Ok x) P Q f p = f p
ok_weaker (Err e) P Q f p = tt

visible_small : (b : ℕ) → is_visible b ≡ true → b < 128
visible_small b h = grind (arith, common_steps)

visible_ascii : (t : List ℕ) → AllPass is_visible t → (i : ℕ) → slice_index t i < 128
visible_ascii [] all i = omega arith
visible_ascii (b ∷ t) all zero = visible_small b (all 0 0 (omega arith))
visible_ascii (b ∷ t) all (suc i) = visible_ascii t (λ k d below. all (suc k) d (omega arith)) i

no_text : (t : List ℕ) (at : Option ℕ) → position (λ b. not (is_visible b)) t ≡ at → ¬ IsUtf8 t → ok_of (unless_bad t at) ≡ None
no_text t (Some at) found not_text = refl
no_text t None found not_text = absurd (not_text (IsUtf8-from_ascii t (visible_ascii t (AllPass-from_position is_visible t found))))

either_fault : (a b : Bool) (n : ℕ) (r : Result (List ℕ) TokenFault) → ok_of r ≡ None → ok_of (cond a (Err Empty) (cond b (Err (TooLong n)) r)) ≡ None
either_fault true b n r h = refl
either_fault false true n r h = refl
either_fault false false n r h = h

-- what is no text is no token
pub not_token : (t : List ℕ) (v : Value) → v ≡ Words t → ¬ IsUtf8 t → token_in v ≡ None
not_token t v is not_text = rw is (either_fault _ _ (length t) (unless_bad t (position (λ b. not (is_visible b)) t)) (no_text t _ refl not_text))

and_then_some : {A B : Type 0} (f : A → Option B) (o : Option A) (b : B) → and_then f o ≡ Some b → (a : A) × (o ≡ Some a) × (f a ≡ Some b)
and_then_some f (Some a) b h = (a, refl, h)
and_then_some f None b h = absurd (let e = h in cc)

if_some : (b : Bool) (o : Option Record) (r : Record) → cond b o None ≡ Some r → o ≡ Some r
if_some true o r h = h
if_some false o r h = absurd (let e = h in cc)

untunnelled : (n : ℕ) (k : Kind) → kind_numbered n ≡ Some k → k ≢ Tunnel
untunnelled n k h = grind (arith, common_steps)

kind_is : (kind : Kind) (token : Option (List ℕ)) (epoch at : Option ℕ) (r : Record)
    → and_then (λ token. and_then (λ epoch. and_then (λ at. Some (record { key = record { kind = kind; token = token }; epoch = epoch; at = at })) at) epoch) token ≡ Some r → kind ≡ r.key.kind
kind_is kind (Some token) (Some epoch) (Some at) r h =
    let same : record { key = record { kind = kind; token = token }; epoch = epoch; at = at } ≡ r = let e = h in cc in ap (λ (x : Record). x.key.kind) same
kind_is kind (Some token) (Some epoch) None r h = absurd (let e = h in cc)
kind_is kind (Some token) None at r h = absurd (let e = h in cc)
kind_is kind None epoch at r h = absurd (let e = h in cc)

kind_kept : (n : ℕ) (row : Row) (r : Record) → record_in n row ≡ Some r → r.key.kind ≢ Tunnel
kind_kept n row r h =
    let number = and_then_some _ (number_in (column row 0)) r h in
    let read = if_some (eqb number.0 n) _ r number.2 in
    let kind = and_then_some _ (kind_in (column row 1)) r read in
    let known = and_then_some kind_numbered (number_in (column row 1)) kind.0 kind.1 in
    subst (λ k. k ≢ Tunnel) (kind_is kind.0 (token_in (column row 2)) (number_in (column row 3)) (moment_in (column row 4)) r kind.2) (untunnelled known.0 kind.0 known.2)

-- no record that is read is of a tunnel
pub kinds_kept : (n : ℕ) (rows : List Row) (list : List Record) → records_from n rows ≡ Some list → All IsOfNoTunnel list
kinds_kept n [] list h = let e = h in subst (All IsOfNoTunnel) (let none : [] ≡ list = cc in none) (All-nil IsOfNoTunnel)
kinds_kept n (row ∷ rows) list h =
    let s = with_first_some (record_in n row) (records_from (n + 1) rows) list h in
    subst (All IsOfNoTunnel) (sym s.4) (All-cons IsOfNoTunnel s.0 s.1 (kind_kept n row s.0 s.2) (kinds_kept (n + 1) rows s.1 s.3))

-- rows that are records have no bad one
pub none_bad : (n : ℕ) (rows : List Row) (list : List Record) → records_from n rows ≡ Some list → bad_from n rows ≡ None
none_bad n [] list h = refl
none_bad n (row ∷ rows) list h =
    let s = with_first_some (record_in n row) (records_from (n + 1) rows) list h in
    ap (λ o. first_bad n o (bad_from (n + 1) rows)) s.2 ∙ none_bad (n + 1) rows s.1 s.3
