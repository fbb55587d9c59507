-- What is read of a grand script is in its grammar.
use Rattle.std.proofs.Common.{◌≡◌, ℕ, ◌+◌, ◌<◌, ℤ, pos, Bool, true, false, not, nat_lt, cond, eqb, List, [], ◌∷◌, length, position, Option, Some, None, Result, Ok, Err, refl, sym, ap, subst, ◌∙◌, arith, IsUtf8}
use Rattle.std.specs.Prelude.{codes}
use Rattle.std.specs.List.{list_all, AllZip}
use Rattle.std.specs.Str.{bytes_eq, is_utf8}
use Rattle.std.specs.Fmt.{decimal}
use Rattle.std.proofs.lemmas.Grind.{common_steps}
use Rattle.std.proofs.lemmas.Str.{IsUtf8-from_is_utf8}
use Rattle.ra_base.specs.declared.event.Count.{Count}
use Rattle.ra_base.specs.declared.key.Key.{Key}
use Rattle.ra_base.specs.declared.kind.Kind.{Kind}
use Rattle.ra_base.specs.declared.kind.Kind.TheVariants.{Management, ExtensionHost}
use Rattle.ra_base.specs.declared.token.TokenFault.{TokenFault}
use Rattle.ra_base.specs.declared.token.TokenFault.TheVariants.{Empty, TooLong}
use Rattle.ra_base.specs.TokenGrammar.{IsToken, is_visible, unless_bad, token_of}
use Rattle.ra_base.proofs.TokenLemmas.{AllPass-from_position}
use Rattle.ra_script.specs.declared.grand_line.GrandLine.{GrandLine}
use Rattle.ra_script.specs.declared.grand_line.GrandLine.TheVariants.{Do, Drain}
use Rattle.ra_script.specs.declared.grand_line.GrandEvent.TheVariants as events
use Rattle.ra_script.specs.declared.line.What.{What}
use Rattle.ra_script.specs.declared.line.What.TheVariants.{UnknownWord, BadBytes}
use Rattle.ra_script.specs.declared.line.ScriptFault.{ScriptFault}
use Rattle.ra_script.specs.declared.grand_keyword.GrandKeyword.{GrandKeyword}
use Rattle.ra_script.specs.declared.grand_keyword.GrandKeyword.TheVariants as words
use Rattle.ra_script.specs.GrandKeywords.{grand_keyword_text, grand_keywords, grand_keyword_at}
use Rattle.ra_script.specs.Lines.{is_text, words_in, line_by, numbered, lines_by, text_lines}
use Rattle.ra_script.specs.Words.{◌>>=◌, count_text, number_at, count_at, bytes_at, number_limit, moment_limit}
use Rattle.ra_script.specs.GrandWords.{kind_at, token_or_bad, token_at, id_limit, id_at, utf8_at}
use Rattle.ra_script.specs.Reading.{nothing_at, one_number_at}
use Rattle.ra_script.specs.GrandReading.{key_at, number_count_at, number_bytes_at, number_id_at, named_at, call_at, grand_row_at, from_grand_keyword, grand_words_at, grand_line_at, grand_script_at}
use Rattle.ra_script.specs.Printable.{IsCountInRange}
use Rattle.ra_script.specs.Grammar.{SpellsBytes}
use Rattle.ra_script.specs.GrandGrammar.{SpellsKind, SpellsId, SpellsGrand, IsGrandInRange, IsGrandLineOf, IsGrandScriptOf}
use Rattle.ra_script.proofs.Numbers.{number_found}
use Rattle.ra_script.proofs.Found.{ok_is, bind_ok, finished, same, count_found, bytes_found, IsBytesOf, nothing_found, one_number_found, find_passes, checked, numbered_ok}

-- ---- words

kind_cases : (a b : Bool) (word : List ℕ) (k : Kind) → (a ≡ true → word ≡ codes "management") → (b ≡ true → word ≡ codes "host") → cond a (Ok Management) (cond b (Ok ExtensionHost) (Err UnknownWord)) ≡ Ok k → SpellsKind word k
kind_cases true b word k ha hb e = subst (SpellsKind word) (ok_is {E = What} Management k e) (ha refl)
kind_cases false true word k ha hb e = subst (SpellsKind word) (ok_is {E = What} ExtensionHost k e) (hb refl)
kind_cases false false word k ha hb e = absurd cc

kind_found : (word : List ℕ) (k : Kind) → kind_at word ≡ Ok k → SpellsKind word k
kind_found word k e = kind_cases (bytes_eq word (codes "management")) (bytes_eq word (codes "host")) word k (same word (codes "management")) (same word (codes "host")) e

pub record IsTokenOf (word token : List ℕ) : Type 0 where
  pub text : word ≡ token
  pub is : IsToken token

token_ok : (r : Result (List ℕ) TokenFault) (token : List ℕ) → token_or_bad r ≡ Ok token → r ≡ Ok token
token_ok (Ok read) token e = ap (λ (t : List ℕ). Ok t) (ok_is {E = What} read token e)
token_ok (Err fault) token e = absurd cc

good_cases : (word token : List ℕ) (bad : Option ℕ) → unless_bad word bad ≡ Ok token → (bad ≡ None) × (word ≡ token)
good_cases word token None e = (refl, ok_is {E = TokenFault} word token e)
good_cases word token (Some at) e = absurd cc

token_cases : (empty long : Bool) (word token : List ℕ) (bad : Option ℕ) → cond empty (Err Empty) (cond long (Err (TooLong (length word))) (unless_bad word bad)) ≡ Ok token → (empty ≡ false) × (long ≡ false) × (bad ≡ None) × (word ≡ token)
token_cases true long word token bad e = absurd cc
token_cases false true word token bad e = absurd cc
token_cases false false word token bad e = let good = good_cases word token bad e in (refl, refl, good.0, good.1)

token_found : (word token : List ℕ) → token_at word ≡ Ok token → IsTokenOf word token
unfolding token_at
token_found word token e =
    let bad = position (λ b. not (is_visible b)) word in
    let good = token_cases (eqb (length word) 0) (nat_lt 256 (length word)) word token bad (token_ok (token_of word) token e) in
    record {
      text = good.3;
      is = rw (← good.3) (record {
        some = grind (arith, common_steps);
        most = grind (arith, common_steps);
        visible = AllPass-from_position is_visible word good.2;
      });
    }

id_found : (word : List ℕ) (id : ℤ) → id_at word ≡ Ok id → SpellsId word id
unfolding id_at
id_found word id e =
    let b = bind_ok (number_at id_limit word) (λ n. Ok (pos n)) id e in
    let n = number_found id_limit b.0 word b.1 in
    (b.0, n.0, sym (ok_is {E = What} (pos b.0) id b.2), n.1)

pub record IsTextOf (word bytes : List ℕ) : Type 0 where
  pub spells : SpellsBytes word bytes
  pub utf8 : IsUtf8 bytes

utf8_cases : (b : Bool) (read bytes : List ℕ) → cond b (Ok read) (Err BadBytes) ≡ Ok bytes → (b ≡ true) × (read ≡ bytes)
utf8_cases true read bytes e = (refl, ok_is {E = What} read bytes e)
utf8_cases false read bytes e = absurd cc

utf8_found : (word bytes : List ℕ) → utf8_at word ≡ Ok bytes → IsTextOf word bytes
unfolding utf8_at
utf8_found word bytes e =
    let b = bind_ok (bytes_at word) (λ read. cond (is_utf8 read) (Ok read) (Err BadBytes)) bytes e in
    let h = utf8_cases (is_utf8 b.0) b.0 bytes b.2 in
    subst (IsTextOf word) h.1 record { spells = (bytes_found word b.0 b.1).spells; utf8 = IsUtf8-from_is_utf8 b.0 h.0 }

-- ---- what stands after the first word

pub record IsKeyOf (args : List (List ℕ)) (key : Key) : Type 0 where
  pub kind : List ℕ
  pub spells : SpellsKind kind key.kind
  pub token : IsToken key.token
  pub args_are : args ≡ kind ∷ key.token ∷ []

key_found : (args : List (List ℕ)) (key : Key) → key_at args ≡ Ok key → IsKeyOf args key
unfolding key_at
key_found [] key e = absurd cc
key_found (k ∷ []) key e = absurd cc
key_found (k ∷ t ∷ []) key e =
    let a = bind_ok (kind_at k) (λ kind. token_at t >>= λ token. Ok (record { kind = kind; token = token })) key e in
    let b = bind_ok (token_at t) (λ token. Ok (record { kind = a.0; token = token })) key a.2 in
    let is = token_found t b.0 b.1 in
    subst (IsKeyOf (k ∷ t ∷ [])) (ok_is {E = What} (record { kind = a.0; token = b.0 }) key b.2)
    record { kind = k; spells = kind_found k a.0 a.1; token = is.is; args_are = ap (λ (w : List ℕ). k ∷ w ∷ []) is.text }
key_found (k ∷ t ∷ b ∷ args) key e = absurd cc

pub record IsNumberCount (args : List (List ℕ)) (n : ℕ) (count : Count) : Type 0 where
  pub number : n < number_limit
  pub range : IsCountInRange count
  pub args_are : args ≡ decimal n ∷ count_text count ∷ []

number_count_found : (args : List (List ℕ)) (x : ℕ × Count) → number_count_at args ≡ Ok x → IsNumberCount args x.0 x.1
unfolding number_count_at
number_count_found [] x e = absurd cc
number_count_found (a ∷ []) x e = absurd cc
number_count_found (a ∷ c ∷ []) x e =
    let n = bind_ok (number_at number_limit a) (λ n. count_at c >>= λ count. Ok (n, count)) x e in
    let count = bind_ok (count_at c) (λ count. Ok (n.0, count)) x n.2 in
    let number = number_found number_limit n.0 a n.1 in
    let is = count_found c count.0 count.1 in
    subst (λ (y : ℕ × Count). IsNumberCount (a ∷ c ∷ []) y.0 y.1) (ok_is {E = What} (n.0, count.0) x count.2)
    record { number = number.0; range = is.range; args_are = ap (λ (w : List ℕ). w ∷ c ∷ []) number.1 ∙ ap (λ (w : List ℕ). decimal n.0 ∷ w ∷ []) is.text }
number_count_found (a ∷ c ∷ b ∷ args) x e = absurd cc

pub record IsNumberBytes (args : List (List ℕ)) (n : ℕ) (bytes : List ℕ) : Type 0 where
  pub number : n < number_limit
  pub digits : List ℕ
  pub spells : SpellsBytes digits bytes
  pub args_are : args ≡ decimal n ∷ digits ∷ []

number_bytes_found : (args : List (List ℕ)) (x : ℕ × List ℕ) → number_bytes_at args ≡ Ok x → IsNumberBytes args x.0 x.1
unfolding number_bytes_at
number_bytes_found [] x e = absurd cc
number_bytes_found (a ∷ []) x e = absurd cc
number_bytes_found (a ∷ h ∷ []) x e =
    let n = bind_ok (number_at number_limit a) (λ n. bytes_at h >>= λ bytes. Ok (n, bytes)) x e in
    let bytes = bind_ok (bytes_at h) (λ bytes. Ok (n.0, bytes)) x n.2 in
    let number = number_found number_limit n.0 a n.1 in
    subst (λ (y : ℕ × List ℕ). IsNumberBytes (a ∷ h ∷ []) y.0 y.1) (ok_is {E = What} (n.0, bytes.0) x bytes.2)
    record { number = number.0; digits = h; spells = (bytes_found h bytes.0 bytes.1).spells; args_are = ap (λ (w : List ℕ). w ∷ h ∷ []) number.1 }
number_bytes_found (a ∷ h ∷ b ∷ args) x e = absurd cc

pub record IsNumberId (args : List (List ℕ)) (n : ℕ) (id : ℤ) : Type 0 where
  pub number : n < number_limit
  pub digits : List ℕ
  pub spells : SpellsId digits id
  pub args_are : args ≡ decimal n ∷ digits ∷ []

number_id_found : (args : List (List ℕ)) (x : ℕ × ℤ) → number_id_at args ≡ Ok x → IsNumberId args x.0 x.1
unfolding number_id_at
number_id_found [] x e = absurd cc
number_id_found (a ∷ []) x e = absurd cc
number_id_found (a ∷ d ∷ []) x e =
    let n = bind_ok (number_at number_limit a) (λ n. id_at d >>= λ id. Ok (n, id)) x e in
    let id = bind_ok (id_at d) (λ id. Ok (n.0, id)) x n.2 in
    let number = number_found number_limit n.0 a n.1 in
    subst (λ (y : ℕ × ℤ). IsNumberId (a ∷ d ∷ []) y.0 y.1) (ok_is {E = What} (n.0, id.0) x id.2)
    record { number = number.0; digits = d; spells = id_found d id.0 id.1; args_are = ap (λ (w : List ℕ). w ∷ d ∷ []) number.1 }
number_id_found (a ∷ d ∷ b ∷ args) x e = absurd cc

pub record IsNamed (args : List (List ℕ)) (n : ℕ) (channel name : List ℕ) : Type 0 where
  pub number : n < number_limit
  pub args_are : args ≡ decimal n ∷ channel ∷ name ∷ []

named_found : (args : List (List ℕ)) (x : ℕ × List ℕ × List ℕ) → named_at args ≡ Ok x → IsNamed args x.0 x.1 x.2
unfolding named_at
named_found [] x e = absurd cc
named_found (a ∷ []) x e = absurd cc
named_found (a ∷ c ∷ []) x e = absurd cc
named_found (a ∷ c ∷ m ∷ []) x e =
    let n = bind_ok (number_at number_limit a) (λ n. Ok (n, c, m)) x e in
    let number = number_found number_limit n.0 a n.1 in
    subst (λ (y : ℕ × List ℕ × List ℕ). IsNamed (a ∷ c ∷ m ∷ []) y.0 y.1 y.2) (ok_is {E = What} (n.0, c, m) x n.2)
    record { number = number.0; args_are = ap (λ (w : List ℕ). w ∷ c ∷ m ∷ []) number.1 }
named_found (a ∷ c ∷ m ∷ b ∷ args) x e = absurd cc

-- a call whose argument is such as its digits say
pub record IsCall (IsArg : List ℕ → List ℕ → Type 0) (args : List (List ℕ)) (n : ℕ) (channel name arg : List ℕ) : Type 0 where
  pub number : n < number_limit
  pub digits : List ℕ
  pub spells : IsArg digits arg
  pub args_are : args ≡ decimal n ∷ channel ∷ name ∷ digits ∷ []

call_found : (IsArg : List ℕ → List ℕ → Type 0) (arg_at : List ℕ → Result (List ℕ) What) → ((word bytes : List ℕ) → arg_at word ≡ Ok bytes → IsArg word bytes)
    → (args : List (List ℕ)) (x : ℕ × List ℕ × List ℕ × List ℕ) → call_at arg_at args ≡ Ok x → IsCall IsArg args x.0 x.1 x.2 x.3
unfolding call_at
call_found IsArg arg_at found [] x e = absurd cc
call_found IsArg arg_at found (a ∷ []) x e = absurd cc
call_found IsArg arg_at found (a ∷ c ∷ []) x e = absurd cc
call_found IsArg arg_at found (a ∷ c ∷ m ∷ []) x e = absurd cc
call_found IsArg arg_at found (a ∷ c ∷ m ∷ h ∷ []) x e =
    let n = bind_ok (number_at number_limit a) (λ n. arg_at h >>= λ arg. Ok (n, c, m, arg)) x e in
    let arg = bind_ok (arg_at h) (λ arg. Ok (n.0, c, m, arg)) x n.2 in
    let number = number_found number_limit n.0 a n.1 in
    subst (λ (y : ℕ × List ℕ × List ℕ × List ℕ). IsCall IsArg (a ∷ c ∷ m ∷ h ∷ []) y.0 y.1 y.2 y.3) (ok_is {E = What} (n.0, c, m, arg.0) x arg.2)
    record { number = number.0; digits = h; spells = found h arg.0 arg.1; args_are = ap (λ (w : List ℕ). w ∷ c ∷ m ∷ h ∷ []) number.1 }
call_found IsArg arg_at found (a ∷ c ∷ m ∷ h ∷ b ∷ args) x e = absurd cc

-- ---- a line

pub record IsGrandSaid (texts : List (List ℕ)) (line : GrandLine) : Type 0 where
  pub spells : SpellsGrand texts line
  pub range : IsGrandInRange line

-- a word before others
abbrev onto : (word : List ℕ) (args others : List (List ℕ)) → args ≡ others → word ∷ args ≡ word ∷ others
onto word args others e = ap (λ (ws : List (List ℕ)). word ∷ ws) e

-- a row of one number
number_row : (word : List ℕ) (make : ℕ → GrandLine) (args : List (List ℕ)) (line : GrandLine) → ((n : ℕ) → n < number_limit → IsGrandSaid (word ∷ decimal n ∷ []) (make n))
    → (one_number_at number_limit args >>= λ n. Ok (make n)) ≡ Ok line → IsGrandSaid (word ∷ args) line
number_row word make args line said e =
    finished (one_number_at number_limit args) make line (IsGrandSaid (word ∷ args)) e
    (λ n r. let f = one_number_found number_limit args n r in rw f.1 (said n f.0))

grand_row_found : (keyword : GrandKeyword) (args : List (List ℕ)) (line : GrandLine) → grand_row_at keyword args ≡ Ok line → IsGrandSaid (grand_keyword_text keyword ∷ args) line
unfolding grand_row_at
grand_row_found words.At args line e = finished (one_number_at moment_limit args) (λ n. Do (events.At n)) line (IsGrandSaid (codes "at" ∷ args)) e (λ n r. let f = one_number_found moment_limit args n r in record { spells = onto (codes "at") args _ f.1; range = f.0 })
grand_row_found words.Client args line e = finished (key_at args) (λ key. Do (events.Client key)) line (IsGrandSaid (codes "client" ∷ args)) e (λ key r. let f = key_found args key r in record { spells = (f.kind, f.spells, onto (codes "client") args _ f.args_are); range = f.token })
grand_row_found words.Step args line e = number_row (codes "step") (λ n. Do (events.Step n)) args line (λ n lt. record { spells = refl; range = lt }) e
grand_row_found words.Linked args line e = number_row (codes "linked") (λ n. Do (events.Linked n)) args line (λ n lt. record { spells = refl; range = lt }) e
grand_row_found words.NoLink args line e = number_row (codes "nolink") (λ n. Do (events.NoLink n)) args line (λ n lt. record { spells = refl; range = lt }) e
grand_row_found words.Up args line e = finished (number_count_at args) (λ x. Do (events.Up x.0 x.1)) line (IsGrandSaid (codes "up" ∷ args)) e (λ x r. let f = number_count_found args x r in record { spells = onto (codes "up") args _ f.args_are; range = (f.number, f.range) })
grand_row_found words.Idle args line e = number_row (codes "idle") (λ n. Do (events.Idle n)) args line (λ n lt. record { spells = refl; range = lt }) e
grand_row_found words.Down args line e = finished (number_count_at args) (λ x. Do (events.Down x.0 x.1)) line (IsGrandSaid (codes "down" ∷ args)) e (λ x r. let f = number_count_found args x r in record { spells = onto (codes "down") args _ f.args_are; range = (f.number, f.range) })
grand_row_found words.Frame args line e = number_row (codes "frame") (λ n. Do (events.Frame n)) args line (λ n lt. record { spells = refl; range = lt }) e
grand_row_found words.Drain args line e = number_row (codes "drain") (λ n. Drain n) args line (λ n lt. record { spells = refl; range = lt }) e
grand_row_found words.Cut args line e = number_row (codes "cut") (λ n. Do (events.Cut n)) args line (λ n lt. record { spells = refl; range = lt }) e
grand_row_found words.Gone args line e = number_row (codes "gone") (λ n. Do (events.Gone n)) args line (λ n lt. record { spells = refl; range = lt }) e
grand_row_found words.Lost args line e = number_row (codes "lost") (λ n. Do (events.Lost n)) args line (λ n lt. record { spells = refl; range = lt }) e
grand_row_found words.Sweep args line e = finished (nothing_at args) (λ x. Do events.Sweep) line (IsGrandSaid (codes "sweep" ∷ args)) e (λ x r. record { spells = onto (codes "sweep") args _ (nothing_found args x r); range = tt })
grand_row_found words.Work args line e = number_row (codes "work") (λ n. Do (events.Work n)) args line (λ n lt. record { spells = refl; range = lt }) e
grand_row_found words.Call args line e = finished (call_at bytes_at args) (λ x. Do (events.Call x.0 x.1 x.2 x.3)) line (IsGrandSaid (codes "call" ∷ args)) e (λ x r. let f = call_found IsBytesOf bytes_at bytes_found args x r in record { spells = (f.digits, f.spells.spells, onto (codes "call") args _ f.args_are); range = f.number })
grand_row_found words.Text args line e = finished (call_at utf8_at args) (λ x. Do (events.CallText x.0 x.1 x.2 x.3)) line (IsGrandSaid (codes "text" ∷ args)) e (λ x r. let f = call_found IsTextOf utf8_at utf8_found args x r in record { spells = (f.digits, f.spells.spells, onto (codes "text") args _ f.args_are); range = (f.number, f.spells.utf8) })
grand_row_found words.Listen args line e = finished (named_at args) (λ x. Do (events.Listen x.0 x.1 x.2)) line (IsGrandSaid (codes "listen" ∷ args)) e (λ x r. let f = named_found args x r in record { spells = onto (codes "listen") args _ f.args_are; range = f.number })
grand_row_found words.Cancel args line e = finished (number_id_at args) (λ x. Do (events.Cancel x.0 x.1)) line (IsGrandSaid (codes "cancel" ∷ args)) e (λ x r. let f = number_id_found args x r in record { spells = (f.digits, f.spells, onto (codes "cancel") args _ f.args_are); range = f.number })
grand_row_found words.Dispose args line e = finished (number_id_at args) (λ x. Do (events.Dispose x.0 x.1)) line (IsGrandSaid (codes "dispose" ∷ args)) e (λ x r. let f = number_id_found args x r in record { spells = (f.digits, f.spells, onto (codes "dispose") args _ f.args_are); range = f.number })
grand_row_found words.Say args line e = finished (number_bytes_at args) (λ x. Do (events.Say x.0 x.1)) line (IsGrandSaid (codes "say" ∷ args)) e (λ x r. let f = number_bytes_found args x r in record { spells = (f.digits, f.spells, onto (codes "say") args _ f.args_are); range = f.number })
grand_row_found words.Stop args line e = number_row (codes "stop") (λ n. Do (events.Stop n)) args line (λ n lt. record { spells = refl; range = lt }) e

grand_keyword_found : (word : List ℕ) (k : GrandKeyword) → grand_keyword_at word ≡ Some k → word ≡ grand_keyword_text k
unfolding grand_keyword_at
grand_keyword_found word k e = sym (same (grand_keyword_text k) word (find_passes (λ keyword. bytes_eq (grand_keyword_text keyword) word) grand_keywords k e))

grand_said : (word : List ℕ) (args : List (List ℕ)) (o : Option GrandKeyword) (line : GrandLine) → ((k : GrandKeyword) → o ≡ Some k → word ≡ grand_keyword_text k) → from_grand_keyword args o ≡ Ok line → IsGrandSaid (word ∷ args) line
grand_said word args None line h e = absurd cc
grand_said word args (Some k) line h e = rw (h k refl) (grand_row_found k args line e)

grand_words_found : (texts : List (List ℕ)) (line : GrandLine) → grand_words_at texts ≡ Ok line → IsGrandSaid texts line
grand_words_found [] line e = absurd cc
grand_words_found (word ∷ args) line e = grand_said word args (grand_keyword_at word) line (grand_keyword_found word) e

grand_line_found : (text : List ℕ) (line : GrandLine) → grand_line_at text ≡ Ok line → IsGrandLineOf text line
unfolding line_by
grand_line_found text line e =
    let t = checked (list_all is_text text) (grand_words_at (words_in text)) line e in
    let w = grand_words_found (words_in text) line t.1 in
    record { is_text = t.0; spells = w.spells; in_range = w.range }

-- ---- a text

grand_lines_found : (n : ℕ) (texts : List (List ℕ)) (lines : List GrandLine) → lines_by (λ first. grand_words_at) n texts ≡ Ok lines → AllZip IsGrandLineOf texts lines
unfolding lines_by
grand_lines_found n [] lines e = subst (AllZip IsGrandLineOf []) (ok_is {E = ScriptFault} [] lines e) tt
grand_lines_found n (text ∷ texts) lines e =
    let l = bind_ok (numbered n (grand_line_at text)) (λ x. lines_by (λ first. grand_words_at) (n + 1) texts >>= λ xs. Ok (x ∷ xs)) lines e in
    let ls = bind_ok (lines_by (λ first. grand_words_at) (n + 1) texts) (λ xs. Ok (l.0 ∷ xs)) lines l.2 in
    let one = grand_line_found text l.0 (numbered_ok n (grand_line_at text) l.0 l.1) in
    subst (AllZip IsGrandLineOf (text ∷ texts)) (ok_is {E = ScriptFault} (l.0 ∷ ls.0) lines ls.2) (one, grand_lines_found (n + 1) texts ls.0 ls.1)

-- what is read is a grand script of its lines
pub grand_script_found : (text : List ℕ) (lines : List GrandLine) → grand_script_at text ≡ Ok lines → IsGrandScriptOf text lines
grand_script_found text lines e = grand_lines_found 1 (text_lines text) lines e
