-- What is read is in the grammar.
use Rattle.std.proofs.Common.{◌≡◌, ℕ, ◌+◌, ◌<◌, ◌≤◌, inl, inr, Bool, true, false, cond, eqb, List, [], ◌∷◌, length, get_or, drop, Option, Some, None, Result, Ok, Err, refl, sym, ap, subst, ◌∙◌, arith}
use Rattle.std.specs.Prelude.{codes, find}
use Rattle.std.specs.List.{AllByRecursion, AllZip, list_all, slice_split}
use Rattle.std.specs.Str.{bytes_eq}
use Rattle.std.specs.Fmt.{decimal}
use Rattle.std.proofs.lemmas.Bool.{eqb-true}
use Rattle.std.proofs.lemmas.Bool.Decides.{nat_tests}
use Rattle.std.proofs.lemmas.Slice.Eq.{bytes_eq-Decides}
use Rattle.hex.specs.Hex.{IsBytes, decode_of}
use Rattle.hex.specs.declared.error.FromHexError.{FromHexError}
use Rattle.hex.proofs.HexLemmas.{decode_of-ok}
use Rattle.ra_base.specs.declared.event.Side.{Side}
use Rattle.ra_base.specs.declared.event.Side.TheVariants.{A, B}
use Rattle.ra_base.specs.declared.event.Count.{Count}
use Rattle.ra_base.specs.declared.event.Count.TheVariants as counts
use Rattle.ra_base.specs.declared.event.Event.TheVariants as events
use Rattle.ra_script.specs.declared.line.Line.{Line}
use Rattle.ra_script.specs.declared.line.Line.TheVariants.{Base, Do, Drain}
use Rattle.ra_script.specs.declared.line.What.{What}
use Rattle.ra_script.specs.declared.line.What.TheVariants.{NotText, UnknownWord, BadBytes}
use Rattle.ra_script.specs.declared.line.ScriptFault.{ScriptFault}
use Rattle.ra_script.specs.declared.keyword.Keyword.{Keyword}
use Rattle.ra_script.specs.declared.keyword.Keyword.TheVariants as words
use Rattle.ra_script.specs.Keywords.{keyword_text, keywords, keyword_at}
use Rattle.ra_script.specs.Words.{◌>>=◌, side_text, count_text, side_at, number_at, count_at, bytes_at, digits_or_bad, number_limit, moment_limit}
use Rattle.ra_script.specs.Lines.{line_by, is_text, lines_by, numbered, text_lines}
use Rattle.ra_script.specs.Reading.{is_out_of_place, from_keyword, words_at, line_at, script_at, row_at, nothing_at, one_number_at, one_side_at, side_bytes_at, side_count_at, side_link_count_at}
use Rattle.ra_script.specs.Printable.{IsCountInRange, IsInRange, IsNoBase, IsPrintable}
use Rattle.ra_script.specs.Grammar.{SpellsBytes, Spells, IsLineOf, IsScriptOf}
use Rattle.ra_script.proofs.Numbers.{number_found}
use Rattle.ra_script.proofs.Again.{IsPlace}

abbrev pub done : {A E : Type 0} → A → Result A E
done x = Ok x

pub ok_is : {A E : Type 0} (x y : A) → done {E = E} x ≡ done y → x ≡ y
ok_is x y e = cc

-- the value of a step that did not fail
pub bind_ok : {A B E : Type 0} (r : Result A E) (f : A → Result B E) (y : B) → (r >>= f) ≡ Ok y → (x : A) × (r ≡ Ok x) × (f x ≡ Ok y)
bind_ok (Ok x) f y e = (x, refl, e)
bind_ok (Err d) f y e = absurd cc

-- what holds of each value that was made holds of the one that is there
pub finished : {A L : Type 0} (r : Result A What) (f : A → L) (line : L) (P : L → Type 0) → (r >>= λ x. Ok (f x)) ≡ Ok line → ((x : A) → r ≡ Ok x → P (f x)) → P line
finished (Ok x) f line P e h = subst P (ok_is {E = What} (f x) line e) (h x refl)
finished (Err what) f line P e h = absurd cc

pub same : (a b : List ℕ) → bytes_eq a b ≡ true → a ≡ b
same a b h = (bytes_eq-Decides a b).0 h

-- ---- words

side_cases : (a b : Bool) (word : List ℕ) (s : Side) → (a ≡ true → word ≡ codes "A") → (b ≡ true → word ≡ codes "B") → cond a (Ok A) (cond b (Ok B) (Err UnknownWord)) ≡ Ok s → word ≡ side_text s
side_cases true b word s ha hb e = ha refl ∙ ap side_text (ok_is {E = What} A s e)
side_cases false true word s ha hb e = hb refl ∙ ap side_text (ok_is {E = What} B s e)
side_cases false false word s ha hb e = absurd cc

side_found : (word : List ℕ) (s : Side) → side_at word ≡ Ok s → word ≡ side_text s
side_found word s e = side_cases (bytes_eq word (codes "A")) (bytes_eq word (codes "B")) word s (same word (codes "A")) (same word (codes "B")) e

pub record IsCountOf (word : List ℕ) (count : Count) : Type 0 where
  pub text : word ≡ count_text count
  pub range : IsCountInRange count

count_cases : (star tilde : Bool) (word : List ℕ) (count : Count) → (star ≡ true → word ≡ codes "*") → (tilde ≡ true → word ≡ 126 ∷ drop 1 word)
    → cond star (Ok counts.All) (cond tilde (number_at number_limit (drop 1 word) >>= λ n. Ok (counts.Most n)) (number_at number_limit word >>= λ n. Ok (counts.Exact n))) ≡ Ok count → IsCountOf word count
count_cases true tilde word count hs ht e = subst (IsCountOf word) (ok_is {E = What} counts.All count e) record { text = hs refl; range = tt }
count_cases false true word count hs ht e =
    let b = bind_ok (number_at number_limit (drop 1 word)) (λ n. Ok (counts.Most n)) count e in
    let n = number_found number_limit b.0 (drop 1 word) b.1 in
    subst (IsCountOf word) (ok_is {E = What} (counts.Most b.0) count b.2) record { text = ht refl ∙ ap (λ (ds : List ℕ). 126 ∷ ds) n.1; range = n.0 }
count_cases false false word count hs ht e =
    let b = bind_ok (number_at number_limit word) (λ n. Ok (counts.Exact n)) count e in
    let n = number_found number_limit b.0 word b.1 in
    subst (IsCountOf word) (ok_is {E = What} (counts.Exact b.0) count b.2) record { text = n.1; range = n.0 }

tilde_front : (word : List ℕ) → eqb (get_or word 0 0) 126 ≡ true → word ≡ 126 ∷ drop 1 word
tilde_front [] h = let e = eqb-true 0 126 h in absurd (omega arith)
tilde_front (c ∷ word) h = ap (λ (d : ℕ). d ∷ word) (eqb-true c 126 h)

pub count_found : (word : List ℕ) (count : Count) → count_at word ≡ Ok count → IsCountOf word count
unfolding count_at
count_found word count e = count_cases (bytes_eq word (codes "*")) (eqb (get_or word 0 0) 126) word count (same word (codes "*")) (tilde_front word) e

digits_ok : (r : Result (List ℕ) FromHexError) (bytes : List ℕ) → digits_or_bad r ≡ Ok bytes → r ≡ Ok bytes
digits_ok (Ok read) bytes e = ap (λ (b : List ℕ). Ok b) (ok_is {E = What} read bytes e)
digits_ok (Err d) bytes e = absurd cc

pub record IsBytesOf (word bytes : List ℕ) : Type 0 where
  pub spells : SpellsBytes word bytes
  pub range : IsBytes bytes

bytes_cases : (dash empty : Bool) (word bytes : List ℕ) → (dash ≡ true → word ≡ codes "-") → (empty ≡ false → 0 < length word)
    → cond dash (Ok []) (cond empty (Err BadBytes) (digits_or_bad (decode_of word))) ≡ Ok bytes → IsBytesOf word bytes
bytes_cases true empty word bytes hd he e = subst (IsBytesOf word) (ok_is {E = What} [] bytes e) record { spells = inl (hd refl, refl); range = λ k. omega arith }
bytes_cases false true word bytes hd he e = absurd cc
bytes_cases false false word bytes hd he e =
    let read = digits_ok (decode_of word) bytes e in
    let facts = decode_of-ok word bytes read in
    let some = he refl in
    record { spells = inr (omega (arith, facts.2), read); range = facts.3 }

pub bytes_found : (word bytes : List ℕ) → bytes_at word ≡ Ok bytes → IsBytesOf word bytes
unfolding bytes_at
bytes_found word bytes e = bytes_cases (bytes_eq word (codes "-")) (eqb (length word) 0) word bytes (same word (codes "-")) (λ h. grind (arith, nat_tests)) e

-- ---- what stands after the first word

pub nothing_found : (args : List (List ℕ)) (x : Unit {0}) → nothing_at args ≡ Ok x → args ≡ []
unfolding nothing_at
nothing_found [] x e = refl
nothing_found (a ∷ args) x e = absurd cc

pub one_number_found : (limit : ℕ) (args : List (List ℕ)) (n : ℕ) → one_number_at limit args ≡ Ok n → (n < limit) × (args ≡ decimal n ∷ [])
unfolding one_number_at
one_number_found limit [] n e = absurd cc
one_number_found limit (a ∷ []) n e = let f = number_found limit n a e in (f.0, ap (λ (w : List ℕ). w ∷ []) f.1)
one_number_found limit (a ∷ b ∷ args) n e = absurd cc

one_side_found : (args : List (List ℕ)) (s : Side) → one_side_at args ≡ Ok s → args ≡ side_text s ∷ []
unfolding one_side_at
one_side_found [] s e = absurd cc
one_side_found (a ∷ []) s e = ap (λ (w : List ℕ). w ∷ []) (side_found a s e)
one_side_found (a ∷ b ∷ args) s e = absurd cc

pub record IsSideBytes (args : List (List ℕ)) (side : Side) (bytes : List ℕ) : Type 0 where
  pub digits : List ℕ
  pub spells : IsBytesOf digits bytes
  pub args_are : args ≡ side_text side ∷ digits ∷ []

side_bytes_found : (args : List (List ℕ)) (x : Side × List ℕ) → side_bytes_at args ≡ Ok x → IsSideBytes args x.0 x.1
unfolding side_bytes_at
side_bytes_found [] x e = absurd cc
side_bytes_found (a ∷ []) x e = absurd cc
side_bytes_found (a ∷ h ∷ []) x e =
    let s = bind_ok (side_at a) (λ s. bytes_at h >>= λ b. Ok (s, b)) x e in
    let b = bind_ok (bytes_at h) (λ b. Ok (s.0, b)) x s.2 in
    subst (λ (y : Side × List ℕ). IsSideBytes (a ∷ h ∷ []) y.0 y.1) (ok_is {E = What} (s.0, b.0) x b.2)
    record { digits = h; spells = bytes_found h b.0 b.1; args_are = ap (λ (w : List ℕ). w ∷ h ∷ []) (side_found a s.0 s.1) }
side_bytes_found (a ∷ h ∷ b ∷ args) x e = absurd cc

pub record IsSideCount (args : List (List ℕ)) (side : Side) (count : Count) : Type 0 where
  pub range : IsCountInRange count
  pub args_are : args ≡ side_text side ∷ count_text count ∷ []

side_count_found : (args : List (List ℕ)) (x : Side × Count) → side_count_at args ≡ Ok x → IsSideCount args x.0 x.1
unfolding side_count_at
side_count_found [] x e = absurd cc
side_count_found (a ∷ []) x e = absurd cc
side_count_found (a ∷ n ∷ []) x e =
    let s = bind_ok (side_at a) (λ s. count_at n >>= λ c. Ok (s, c)) x e in
    let c = bind_ok (count_at n) (λ c. Ok (s.0, c)) x s.2 in
    let is = count_found n c.0 c.1 in
    subst (λ (y : Side × Count). IsSideCount (a ∷ n ∷ []) y.0 y.1) (ok_is {E = What} (s.0, c.0) x c.2)
    record { range = is.range; args_are = ap (λ (w : List ℕ). w ∷ n ∷ []) (side_found a s.0 s.1) ∙ ap (λ (w : List ℕ). side_text s.0 ∷ w ∷ []) is.text }
side_count_found (a ∷ n ∷ b ∷ args) x e = absurd cc

pub record IsSideLinkCount (args : List (List ℕ)) (side : Side) (link : ℕ) (count : Count) : Type 0 where
  pub link_range : link < number_limit
  pub range : IsCountInRange count
  pub args_are : args ≡ side_text side ∷ decimal link ∷ count_text count ∷ []

side_link_count_found : (args : List (List ℕ)) (x : Side × ℕ × Count) → side_link_count_at args ≡ Ok x → IsSideLinkCount args x.0 x.1 x.2
unfolding side_link_count_at
side_link_count_found [] x e = absurd cc
side_link_count_found (a ∷ []) x e = absurd cc
side_link_count_found (a ∷ l ∷ []) x e = absurd cc
side_link_count_found (a ∷ l ∷ n ∷ []) x e =
    let s = bind_ok (side_at a) (λ s. number_at number_limit l >>= λ k. count_at n >>= λ c. Ok (s, k, c)) x e in
    let k = bind_ok (number_at number_limit l) (λ k. count_at n >>= λ c. Ok (s.0, k, c)) x s.2 in
    let c = bind_ok (count_at n) (λ c. Ok (s.0, k.0, c)) x k.2 in
    let link = number_found number_limit k.0 l k.1 in
    let is = count_found n c.0 c.1 in
    subst (λ (y : Side × ℕ × Count). IsSideLinkCount (a ∷ l ∷ n ∷ []) y.0 y.1 y.2) (ok_is {E = What} (s.0, k.0, c.0) x c.2)
    record {
      link_range = link.0;
      range = is.range;
      args_are = ap (λ (w : List ℕ). w ∷ l ∷ n ∷ []) (side_found a s.0 s.1) ∙ ap (λ (w : List ℕ). side_text s.0 ∷ w ∷ n ∷ []) link.1 ∙ ap (λ (w : List ℕ). side_text s.0 ∷ decimal k.0 ∷ w ∷ []) is.text;
    }
side_link_count_found (a ∷ l ∷ n ∷ b ∷ args) x e = absurd cc

-- ---- a line

pub record IsSaid (first : Bool) (texts : List (List ℕ)) (line : Line) : Type 0 where
  pub spells : Spells texts line
  pub range : IsInRange line
  pub place : IsPlace first line

place : (first : Bool) (line : Line) → IsNoBase line → IsPlace first line
place true line h = tt
place false line h = h

row_found : (first : Bool) (keyword : Keyword) (args : List (List ℕ)) (line : Line) → is_out_of_place first keyword ≡ false → row_at keyword args ≡ Ok line → IsSaid first (keyword_text keyword ∷ args) line
unfolding row_at
row_found true words.Base args line out e = finished (one_number_at number_limit args) (λ x. Base x) line (IsSaid true (codes "base" ∷ args)) e (λ x r. let f = one_number_found number_limit args x r in record { spells = ap (λ (others : List (List ℕ)). codes "base" ∷ others) f.1; range = f.0; place = tt })
row_found false words.Base args line out e = absurd cc
row_found first words.Link args line out e = finished (nothing_at args) (λ x. Do events.Link) line (IsSaid first (codes "link" ∷ args)) e (λ x r. record { spells = ap (λ (others : List (List ℕ)). codes "link" ∷ others) (nothing_found args x r); range = tt; place = place first (Do events.Link) tt })
row_found first words.At args line out e = finished (one_number_at moment_limit args) (λ x. Do (events.At x)) line (IsSaid first (codes "at" ∷ args)) e (λ x r. let f = one_number_found moment_limit args x r in record { spells = ap (λ (others : List (List ℕ)). codes "at" ∷ others) f.1; range = f.0; place = place first (Do (events.At x)) tt })
row_found first words.Cut args line out e = finished (one_number_at number_limit args) (λ x. Do (events.Cut x)) line (IsSaid first (codes "cut" ∷ args)) e (λ x r. let f = one_number_found number_limit args x r in record { spells = ap (λ (others : List (List ℕ)). codes "cut" ∷ others) f.1; range = f.0; place = place first (Do (events.Cut x)) tt })
row_found first words.Begin args line out e = finished (side_link_count_at args) (λ x. Do (events.Begin x.0 x.1 x.2)) line (IsSaid first (codes "begin" ∷ args)) e (λ x r. let f = side_link_count_found args x r in record { spells = ap (λ (others : List (List ℕ)). codes "begin" ∷ others) f.args_are; range = (f.link_range, f.range); place = place first (Do (events.Begin x.0 x.1 x.2)) tt })
row_found first words.Read args line out e = finished (side_link_count_at args) (λ x. Do (events.Read x.0 x.1 x.2)) line (IsSaid first (codes "read" ∷ args)) e (λ x r. let f = side_link_count_found args x r in record { spells = ap (λ (others : List (List ℕ)). codes "read" ∷ others) f.args_are; range = (f.link_range, f.range); place = place first (Do (events.Read x.0 x.1 x.2)) tt })
row_found first words.Say args line out e = finished (side_bytes_at args) (λ x. Do (events.Say x.0 x.1)) line (IsSaid first (codes "say" ∷ args)) e (λ x r. let f = side_bytes_found args x r in record { spells = (f.digits, f.spells.spells, ap (λ (others : List (List ℕ)). codes "say" ∷ others) f.args_are); range = f.spells.range; place = place first (Do (events.Say x.0 x.1)) tt })
row_found first words.Control args line out e = finished (side_bytes_at args) (λ x. Do (events.Control x.0 x.1)) line (IsSaid first (codes "control" ∷ args)) e (λ x r. let f = side_bytes_found args x r in record { spells = (f.digits, f.spells.spells, ap (λ (others : List (List ℕ)). codes "control" ∷ others) f.args_are); range = f.spells.range; place = place first (Do (events.Control x.0 x.1)) tt })
row_found first words.Write args line out e = finished (side_count_at args) (λ x. Do (events.Write x.0 x.1)) line (IsSaid first (codes "write" ∷ args)) e (λ x r. let f = side_count_found args x r in record { spells = ap (λ (others : List (List ℕ)). codes "write" ∷ others) f.args_are; range = f.range; place = place first (Do (events.Write x.0 x.1)) tt })
row_found first words.Finish args line out e = finished (one_side_at args) (λ x. Do (events.Finish x)) line (IsSaid first (codes "finish" ∷ args)) e (λ x r. record { spells = ap (λ (others : List (List ℕ)). codes "finish" ∷ others) (one_side_found args x r); range = tt; place = place first (Do (events.Finish x)) tt })
row_found first words.Pause args line out e = finished (one_side_at args) (λ x. Do (events.Pause x)) line (IsSaid first (codes "pause" ∷ args)) e (λ x r. record { spells = ap (λ (others : List (List ℕ)). codes "pause" ∷ others) (one_side_found args x r); range = tt; place = place first (Do (events.Pause x)) tt })
row_found first words.Resume args line out e = finished (one_side_at args) (λ x. Do (events.Resume x)) line (IsSaid first (codes "resume" ∷ args)) e (λ x r. record { spells = ap (λ (others : List (List ℕ)). codes "resume" ∷ others) (one_side_found args x r); range = tt; place = place first (Do (events.Resume x)) tt })
row_found first words.Leave args line out e = finished (one_side_at args) (λ x. Do (events.Leave x)) line (IsSaid first (codes "leave" ∷ args)) e (λ x r. record { spells = ap (λ (others : List (List ℕ)). codes "leave" ∷ others) (one_side_found args x r); range = tt; place = place first (Do (events.Leave x)) tt })
row_found first words.Take args line out e = finished (one_side_at args) (λ x. Do (events.Take x)) line (IsSaid first (codes "take" ∷ args)) e (λ x r. record { spells = ap (λ (others : List (List ℕ)). codes "take" ∷ others) (one_side_found args x r); range = tt; place = place first (Do (events.Take x)) tt })
row_found first words.Tick args line out e = finished (one_side_at args) (λ x. Do (events.Tick x)) line (IsSaid first (codes "tick" ∷ args)) e (λ x r. record { spells = ap (λ (others : List (List ℕ)). codes "tick" ∷ others) (one_side_found args x r); range = tt; place = place first (Do (events.Tick x)) tt })
row_found first words.Lose args line out e = finished (one_side_at args) (λ x. Do (events.Lose x)) line (IsSaid first (codes "lose" ∷ args)) e (λ x r. record { spells = ap (λ (others : List (List ℕ)). codes "lose" ∷ others) (one_side_found args x r); range = tt; place = place first (Do (events.Lose x)) tt })
row_found first words.Drain args line out e = finished (one_side_at args) (λ x. Drain x) line (IsSaid first (codes "drain" ∷ args)) e (λ x r. record { spells = ap (λ (others : List (List ℕ)). codes "drain" ∷ others) (one_side_found args x r); range = tt; place = place first (Drain x) tt })

find_cons : {K : Type 0} (b : Bool) (x y : K) (rest : Option K) (p : K → Bool) → b ≡ p x → (rest ≡ Some y → p y ≡ true) → cond b (Some x) rest ≡ Some y → p y ≡ true
find_cons true x y rest p is h e = let k : x ≡ y = cc in rw (← k) (sym is)
find_cons false x y rest p is h e = h e

pub find_passes : {K : Type 0} (p : K → Bool) (ks : List K) (k : K) → find p ks ≡ Some k → p k ≡ true
find_passes p [] k e = absurd cc
find_passes p (x ∷ ks) k e = find_cons (p x) x k (find p ks) p refl (find_passes p ks k) e

keyword_found : (word : List ℕ) (k : Keyword) → keyword_at word ≡ Some k → word ≡ keyword_text k
unfolding keyword_at
keyword_found word k e = sym (same (keyword_text k) word (find_passes (λ keyword. bytes_eq (keyword_text keyword) word) keywords k e))

placed : (b : Bool) (r : Result Line What) (line : Line) → cond b (Err UnknownWord) r ≡ Ok line → (b ≡ false) × (r ≡ Ok line)
placed true r line e = absurd cc
placed false r line e = (refl, e)

said : (first : Bool) (word : List ℕ) (args : List (List ℕ)) (o : Option Keyword) (line : Line) → ((k : Keyword) → o ≡ Some k → word ≡ keyword_text k) → from_keyword first args o ≡ Ok line → IsSaid first (word ∷ args) line
said first word args None line h e = absurd cc
said first word args (Some k) line h e =
    let p = placed (is_out_of_place first k) (row_at k args) line e in
    rw (h k refl) (row_found first k args line p.0 p.1)

words_found : (first : Bool) (texts : List (List ℕ)) (line : Line) → words_at first texts ≡ Ok line → IsSaid first texts line
words_found first [] line e = absurd cc
words_found first (word ∷ args) line e = said first word args (keyword_at word) line (keyword_found word) e

pub checked : {L : Type 0} (b : Bool) (r : Result L What) (line : L) → cond b r (Err NotText) ≡ Ok line → (b ≡ true) × (r ≡ Ok line)
checked true r line e = (refl, e)
checked false r line e = absurd cc

pub record IsLineRead (first : Bool) (text : List ℕ) (line : Line) : Type 0 where
  pub line_of : IsLineOf text line
  pub range : IsInRange line
  pub place : IsPlace first line

line_found : (first : Bool) (text : List ℕ) (line : Line) → line_at first text ≡ Ok line → IsLineRead first text line
unfolding line_by
line_found first text line e =
    let t = checked (list_all is_text text) (words_at first (slice_split (λ c. eqb c 32) text)) line e in
    let w = words_found first (slice_split (λ c. eqb c 32) text) line t.1 in
    record { line_of = record { is_text = t.0; spells = w.spells }; range = w.range; place = w.place }

-- ---- a text

pub numbered_ok : {L : Type 0} (n : ℕ) (r : Result L What) (line : L) → numbered n r ≡ Ok line → r ≡ Ok line
numbered_ok {L} n (Ok read) line e = ap (λ (l : L). Ok l) (ok_is {E = ScriptFault} read line e)
numbered_ok n (Err what) line e = absurd cc

pub record AreRead (texts : List (List ℕ)) (lines : List Line) : Type 0 where
  pub lines_of : AllZip IsLineOf texts lines
  pub range : AllByRecursion IsInRange lines

pub record AreReadLater (texts : List (List ℕ)) (lines : List Line) : Type 0 where
  pub read : AreRead texts lines
  pub no_base : AllByRecursion IsNoBase lines

lines_found : (n : ℕ) (texts : List (List ℕ)) (lines : List Line) → 2 ≤ n → lines_by words_at n texts ≡ Ok lines → AreReadLater texts lines
unfolding lines_by
lines_found n [] lines later e = subst (AreReadLater []) (ok_is {E = ScriptFault} [] lines e) record { read = record { lines_of = tt; range = tt }; no_base = tt }
lines_found n (text ∷ texts) lines later e =
    let l = bind_ok (numbered n (line_at (eqb n 1) text)) (λ x. lines_by words_at (n + 1) texts >>= λ xs. Ok (x ∷ xs)) lines e in
    let ls = bind_ok (lines_by words_at (n + 1) texts) (λ xs. Ok (l.0 ∷ xs)) lines l.2 in
    let first : eqb n 1 ≡ false = grind (arith, nat_tests) in
    let one = line_found false text l.0 (sym (ap (λ (b : Bool). line_at b text) first) ∙ numbered_ok n (line_at (eqb n 1) text) l.0 l.1) in
    let others = lines_found (n + 1) texts ls.0 (omega arith) ls.1 in
    subst (AreReadLater (text ∷ texts)) (ok_is {E = ScriptFault} (l.0 ∷ ls.0) lines ls.2) record {
      read = record { lines_of = (one.line_of, others.read.lines_of); range = (one.range, others.read.range) };
      no_base = (one.place, others.no_base);
    }

pub record AreReadFirst (texts : List (List ℕ)) (lines : List Line) : Type 0 where
  pub lines_of : AllZip IsLineOf texts lines
  pub printable : IsPrintable lines

first_found : (texts : List (List ℕ)) (lines : List Line) → lines_by words_at 1 texts ≡ Ok lines → AreReadFirst texts lines
unfolding lines_by
first_found [] lines e = subst (AreReadFirst []) (ok_is {E = ScriptFault} [] lines e) record { lines_of = tt; printable = record { base_first = tt; in_range = tt } }
first_found (text ∷ texts) lines e =
    let l = bind_ok (numbered 1 (line_at true text)) (λ x. lines_by words_at 2 texts >>= λ xs. Ok (x ∷ xs)) lines e in
    let ls = bind_ok (lines_by words_at 2 texts) (λ xs. Ok (l.0 ∷ xs)) lines l.2 in
    let one = line_found true text l.0 (numbered_ok 1 (line_at true text) l.0 l.1) in
    let others = lines_found 2 texts ls.0 (omega arith) ls.1 in
    subst (AreReadFirst (text ∷ texts)) (ok_is {E = ScriptFault} (l.0 ∷ ls.0) lines ls.2) record {
      lines_of = (one.line_of, others.read.lines_of);
      printable = record { base_first = others.no_base; in_range = (one.range, others.read.range) };
    }

-- what is read is a script of its lines
pub script_found : (text : List ℕ) (lines : List Line) → script_at text ≡ Ok lines → IsScriptOf text lines
script_found text lines e = let f = first_found (text_lines text) lines e in record { lines_of = f.lines_of; printable = f.printable }
