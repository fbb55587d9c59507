-- The query that a client writes, and its pairs as they are read.
use Rattle.std.proofs.Common.{◌≡◌, ℕ, ◌+◌, ◌*◌, ◌<◌, ◌≤◌, ◌==◌, Bool, true, false, cond, List, [], ◌∷◌, ◌++◌, length, map, codes, arith, lit≤, refl, ap, ◌∙◌, ⊎_elim, All, IsAscii, length-append}
use Rattle.std.specs.List.{AllPass, list_all}
use Rattle.std.specs.Str.Lossy.{utf8_lossy}
use Rattle.std.proofs.lemmas.Bool.{cond_both}
use Rattle.std.proofs.lemmas.Bool.Decides.{nat_tests}
use Rattle.std.proofs.lemmas.List.Elements.{All-nil, All-cons, All-append, All-weaker}
use Rattle.std.proofs.lemmas.List.Sums.{AllPass-from_list_all}
use Rattle.std.proofs.lemmas.Str.{IsUtf8-from_ascii, utf8_lossy-IsUtf8}
use Rattle.std.proofs.lemmas.Str.Ascii.{IsAscii-from_all}
use Rattle.form_urlencoded.proofs.OnLiterals.{form_urlencoded_on_literals}
use Rattle.form_urlencoded.specs.Form.{raw_pairs, decode, is_unchanged, IsUnchanged, is_nonempty, serialize_byte, byte_serialize, append_pair, separator}
use Rattle.form_urlencoded.proofs.FormLemmas.{IsSerializedByte, IsBytePair, All-byte_serialize, byte_serialize-nil, byte_serialize-cons, round_trip}
use Rattle.ra_base.specs.TokenGrammar.{is_visible}
use Rattle.ra_upgrade.specs.Query.{form_text, decoded, pairs}
use Rattle.ra_upgrade.specs.RequestTexts.{bool_text, query_text}
use Rattle.ra_upgrade.proofs.TextLemmas.{IsByte, each_of}

-- ---- the bytes of a form

abbrev Visible : ℕ → Type 0
Visible b = is_visible b ≡ true

visible_from_unchanged : (b : ℕ) → IsUnchanged b → is_visible b ≡ true
visible_from_unchanged b kept = grind (arith, nat_tests)

visible_from_serialized : (b : ℕ) → IsSerializedByte b → is_visible b ≡ true
visible_from_serialized b h = ⊎_elim (visible_from_unchanged b) (λ other. grind (arith, nat_tests)) h.allowed

visible_form : (text : List ℕ) → AllPass is_visible (byte_serialize text)
visible_form text = All-weaker IsSerializedByte Visible visible_from_serialized (byte_serialize text) (All-byte_serialize text)

visible_appended : (form name value : List ℕ) → AllPass is_visible form → AllPass is_visible (append_pair form name value)
visible_appended form name value visible =
    let between : AllPass is_visible (separator form) =
    cond_both (is_nonempty form) (38 ∷ []) [] (AllPass is_visible) (λ _. All-cons Visible 38 [] refl (All-nil Visible)) (λ _. All-nil Visible) in
    All-append Visible (form ++ separator form) _ (All-append Visible form (separator form) visible between)
    (All-append Visible (byte_serialize name ++ 61 ∷ []) (byte_serialize value)
    (All-append Visible (byte_serialize name) (61 ∷ []) (visible_form name) (All-cons Visible 61 [] refl (All-nil Visible))) (visible_form value))

pub visible_query : (token : List ℕ) (reconnection skip_frames : Bool) → AllPass is_visible (query_text token reconnection skip_frames)
unfolding query_text
visible_query token reconnection skip_frames =
    visible_appended _ _ _ (visible_appended _ _ _ (visible_appended [] _ token (All-nil Visible)))

-- ---- its length

at_most_three : (s t : Bool) (x y z : List ℕ) → length x ≤ 3 → length y ≤ 3 → length z ≤ 3 → length (cond s x (cond t y z)) ≤ 3
at_most_three true t x y z a b c = a
at_most_three false true x y z a b c = b
at_most_three false false x y z a b c = c

length-serialize_byte : (b : ℕ) → length (serialize_byte b) ≤ 3
unfolding form_urlencoded_on_literals
length-serialize_byte b = at_most_three (is_unchanged b) (b == 32) (b ∷ []) (43 ∷ []) _ (lit≤ tt) (lit≤ tt) (lit≤ tt)

length-byte_serialize : (text : List ℕ) → length (byte_serialize text) ≤ 3 * length text
length-byte_serialize [] = rw byte_serialize-nil (omega arith)
length-byte_serialize (b ∷ text) =
    rw byte_serialize-cons (omega (arith, length-append (serialize_byte b) (byte_serialize text), length-serialize_byte b, length-byte_serialize text))

length-appended : (form name value : List ℕ) → length (append_pair form name value) ≤ length form + 2 + 3 * length name + 3 * length value
length-appended form name value =
    let between : length (separator form) ≤ 1 =
    cond_both (is_nonempty form) (38 ∷ []) [] (λ (x : List ℕ). length x ≤ 1) (λ _. omega arith) (λ _. omega arith) in
    omega (
      arith,
      length-append (form ++ separator form) (byte_serialize name ++ 61 ∷ [] ++ byte_serialize value),
      length-append form (separator form),
      length-append (byte_serialize name ++ 61 ∷ []) (byte_serialize value),
      length-append (byte_serialize name) (61 ∷ []),
      between,
      length-byte_serialize name,
      length-byte_serialize value,
    )

length-bool_text : (b : Bool) → length (bool_text b) ≤ 5
length-bool_text true = omega arith
length-bool_text false = omega arith

pub length-query : (token : List ℕ) (reconnection skip_frames : Bool) → length token ≤ 256 → length (query_text token reconnection skip_frames) ≤ 948
unfolding query_text
length-query token reconnection skip_frames most =
    let one : List ℕ = append_pair [] (codes "reconnectionToken") token in
    let two : List ℕ = append_pair one (codes "reconnection") (bool_text reconnection) in
    omega (
      arith,
      length-appended [] (codes "reconnectionToken") token,
      length-appended one (codes "reconnection") (bool_text reconnection),
      length-bool_text reconnection,
      length-appended two (codes "skipWebSocketFrames") (bool_text skip_frames),
      length-bool_text skip_frames,
    )

-- ---- its pairs

abbrev text_pair : List ℕ × List ℕ → List ℕ × List ℕ
text_pair pair = (utf8_lossy pair.0, utf8_lossy pair.1)

abbrev decode_pair : List ℕ × List ℕ → List ℕ × List ℕ
decode_pair pair = (decode pair.0, decode pair.1)

decoded_pairs : (raw : List (List ℕ × List ℕ)) → map decoded raw ≡ map text_pair (map decode_pair raw)
unfolding form_text
decoded_pairs [] = refl
decoded_pairs (pair ∷ raw) = ap (λ l. text_pair (decode_pair pair) ∷ l) (decoded_pairs raw)

-- the three names
abbrev pub token_name : List ℕ
token_name = codes "reconnectionToken"

abbrev pub reconnection_name : List ℕ
reconnection_name = codes "reconnection"

abbrev pub skip_name : List ℕ
skip_name = codes "skipWebSocketFrames"

abbrev asked_pairs : List ℕ → Bool → Bool → List (List ℕ × List ℕ)
asked_pairs token reconnection skip_frames =
    (token_name, token) ∷ (reconnection_name, bool_text reconnection) ∷ (skip_name, bool_text skip_frames) ∷ []

byte_from_visible : (b : ℕ) → is_visible b ≡ true → b < 128
byte_from_visible b h = grind (arith, nat_tests)

ascii_from_visible : (text : List ℕ) → AllPass is_visible text → IsAscii text
ascii_from_visible text visible = IsAscii-from_all text (All-weaker Visible (λ b. b < 128) byte_from_visible text visible)

bytes_from_visible : (text : List ℕ) → AllPass is_visible text → All IsByte text
bytes_from_visible text visible = All-weaker Visible IsByte (λ b h. let small = byte_from_visible b h in omega arith) text visible

-- visible text stays as it is
text_stays : (text : List ℕ) → AllPass is_visible text → utf8_lossy text ≡ text
text_stays text visible = utf8_lossy-IsUtf8 text (IsUtf8-from_ascii text (ascii_from_visible text visible))

visible_given : (text : List ℕ) → list_all is_visible text ≡ true → AllPass is_visible text
visible_given text h = AllPass-from_list_all is_visible text h

visible_bool : (b : Bool) → AllPass is_visible (bool_text b)
visible_bool true = visible_given (codes "true") refl
visible_bool false = visible_given (codes "false") refl

-- each name that the client writes has just the value that it gave
pub pairs_of_query : (token : List ℕ) (reconnection skip_frames : Bool) → AllPass is_visible token
    → pairs (query_text token reconnection skip_frames) ≡ asked_pairs token reconnection skip_frames
unfolding query_text
pairs_of_query token reconnection skip_frames visible =
    let given : List (List ℕ × List ℕ) = asked_pairs token reconnection skip_frames in
    let small : All IsBytePair given =
    each_of IsBytePair given (
      (bytes_from_visible token_name (visible_given token_name refl), bytes_from_visible token visible),
      (
        (bytes_from_visible reconnection_name (visible_given reconnection_name refl), bytes_from_visible (bool_text reconnection) (visible_bool reconnection)),
        ((bytes_from_visible skip_name (visible_given skip_name refl), bytes_from_visible (bool_text skip_frames) (visible_bool skip_frames)), tt),
      ),
    ) in
    decoded_pairs (raw_pairs (query_text token reconnection skip_frames))
    ∙ ap (map text_pair) (round_trip given small)
    ∙ (λ i.
    (text_stays token_name (visible_given token_name refl) i, text_stays token visible i)
    ∷ (text_stays reconnection_name (visible_given reconnection_name refl) i, text_stays (bool_text reconnection) (visible_bool reconnection) i)
    ∷ (text_stays skip_name (visible_given skip_name refl) i, text_stays (bool_text skip_frames) (visible_bool skip_frames) i) ∷ [])
