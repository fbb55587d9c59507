-- What the head of an opening comes to.
use Rattle.std.proofs.Common.{◌≡◌, ℕ, ◌+◌, ◌≤◌, Bool, true, false, Option, Some, None, Result, Ok, Err, List, [], ◌∷◌, ◌++◌, refl, sym, ap, subst, ◌∙◌, arith, append_assoc}
use Rattle.ra_base.specs.declared.memory.NoMemory.{NoMemory}
use Rattle.ra_upgrade.specs.declared.request_head.HeadFault.{HeadFault}
use Rattle.ra_upgrade.specs.declared.request_head.HeadFault.TheVariants as head_faults
use Rattle.ra_upgrade.specs.declared.request_head.Upgrade.{Upgrade}
use Rattle.ra_upgrade.specs.AnswerTexts.{answer_text, refusal_text}
use Rattle.ra_items.specs.Heads.{Head}
use Rattle.ra_items.specs.Items.{Placed}
use Rattle.ra_items.specs.Items.Item.{HeadItem}
use Rattle.ra_items.specs.Readers.{Reader}
use Rattle.ra_items.specs.Reads.{ReadsRequest}
use Rattle.ra_shake.specs.declared.server.Stage.TheVariants.{First}
use Rattle.ra_shake.specs.Made.{made_text}
use Rattle.ra_shake.specs.States.{ServerState}
use Rattle.ra_opening.specs.declared.ends.OpeningEnd.{OpeningEnd}
use Rattle.ra_opening.specs.declared.ends.OpeningEnd.TheVariants as ends
use Rattle.ra_opening.specs.Openings.{Grounds, Opened, new_opened, begun, head_came, items_done, opened}
use Rattle.ra_opening.specs.Openings.Stage.{Heading, Shaking, Over}
use Rattle.ra_opening.specs.Stands.{IsUnopened, IsHeading, IsBegun}
use Rattle.ra_opening.specs.Comes.{IsPart, RanShort, Ends, HasHead, IsKnownAt, AsksFraming, IsNoMemory}
use Rattle.ra_upgrade.specs.RequestHeads.{HeadIs}
use Rattle.ra_items.proofs.HeadLemmas.{request_found, one_head}
use Rattle.ra_opening.specs.Begins.{Draws, draws_for, draws_before, token_by, challenge_by, BeginsShake, AcceptsHead, RefusesHead}
use Rattle.ra_opening.proofs.RunLemmas.{opened_is, item_by, read_part}

-- ---- draws

pub draws_both : (a b c : ℕ → List ℕ) (named : Option (List ℕ)) → Draws a b (draws_before named) → Draws b c 1 → Draws a c (draws_for named)
draws_both a b c None p q = λ n. q n ∙ p (1 + n) ∙ ap a (twice n)
  where
    twice : (n : ℕ) → 1 + (1 + n) ≡ 2 + n
    twice n = omega arith
draws_both a b c (Some token) p q = λ n. q n ∙ p (1 + n) ∙ ap a (once n)
  where
    once : (n : ℕ) → 0 + (1 + n) ≡ 1 + n
    once n = omega arith

pub draws_fewer : (named : Option (List ℕ)) → draws_before named ≤ draws_for named
draws_fewer None = omega arith
draws_fewer (Some token) = omega arith

pub draws_least : (named : Option (List ℕ)) → draws_for named ≤ draws_for named
draws_least named = omega arith

-- the draws of a link from one of them on
draws_from : (draw old new : ℕ → List ℕ) (j k : ℕ) → ((n : ℕ) → old n ≡ draw (j + n)) → Draws old new k → (n : ℕ) → new n ≡ draw (j + k + n)
draws_from draw old new j k is more n = more n ∙ is (k + n) ∙ ap draw (three j k n)
  where
    three : (j k n : ℕ) → j + (k + n) ≡ j + k + n
    three j k n = omega arith

-- ---- the head

-- the handshake that begins, by the draws that come next
begun_state : (g : Grounds) (next : ℕ → List ℕ) (upgrade : Upgrade) (token : Option (List ℕ)) (s : Opened) → ((n : ℕ) → next n ≡ g.draw (s.drawn + n))
    → (begun g upgrade token s).stage
    ≡ Shaking (record { settings = g.settings; token = token_by next token; reconnection = upgrade.reconnection; challenge = challenge_by next token; stage = First })
begun_state g next upgrade None s is =
    let first : g.draw s.drawn ≡ next 0 = let z : s.drawn ≡ s.drawn + 0 = omega arith in ap g.draw z ∙ sym (is 0) in
    ap (λ (t : List ℕ). Shaking (record { settings = g.settings; token = made_text t; reconnection = upgrade.reconnection; challenge = made_text (g.draw (s.drawn + 1)); stage = First })) first
    ∙ ap (λ (t : List ℕ). Shaking (record { settings = g.settings; token = made_text (next 0); reconnection = upgrade.reconnection; challenge = made_text t; stage = First })) (sym (is 1))
begun_state g next upgrade (Some token) s is =
    let first : g.draw s.drawn ≡ next 0 = let z : s.drawn ≡ s.drawn + 0 = omega arith in ap g.draw z ∙ sym (is 0) in
    ap (λ (t : List ℕ). Shaking (record { settings = g.settings; token = token; reconnection = upgrade.reconnection; challenge = made_text t; stage = First })) first

begun_drawn : (g : Grounds) (upgrade : Upgrade) (token : Option (List ℕ)) (s : Opened) → (begun g upgrade token s).drawn ≡ s.drawn + draws_for token
begun_drawn g upgrade None s = refl
begun_drawn g upgrade (Some token) s = refl

begun_out : (g : Grounds) (upgrade : Upgrade) (token : Option (List ℕ)) (s : Opened) → (begun g upgrade token s).out ≡ s.out ++ answer_text upgrade.key
begun_out g upgrade None s = refl
begun_out g upgrade (Some token) s = refl

-- it is accepted
pub head_begun : (g : Grounds) (head : Head Upgrade HeadFault) (text before : List ℕ) (old_next new_next : ℕ → List ℕ) (old new : Reader) (out written : List ℕ) (upgrade : Upgrade) (shake : ServerState)
    → IsUnopened g head text before old_next old out → ReadsRequest head text [] new (Ok (Some upgrade)) → new.behind_head ≡ true
    → BeginsShake old_next new_next g.settings upgrade (Ok shake) → AcceptsHead out written upgrade (Ok shake)
    → IsBegun g head text before new_next new shake upgrade.skip_frames written
head_begun g head text before old_next new_next old new out written upgrade shake x told behind begins answers = record {
  upgrade = upgrade;
  place = told.0;
  read = told.1;
  behind = behind;
  skips = refl;
  stage = begun_state g old_next upgrade upgrade.token new_opened x.tells.draws ∙ ap (λ (s : ServerState). Shaking s) (sym begins.0);
  tells = record {
    written =
        begun_out g upgrade upgrade.token new_opened ∙ ap (λ (l : List ℕ). l ++ answer_text upgrade.key) x.tells.written
        ∙ append_assoc before out (answer_text upgrade.key) ∙ ap (λ (l : List ℕ). before ++ l) (sym answers);
    draws = λ n.
        draws_from g.draw old_next new_next 0 (draws_for upgrade.token) x.tells.draws begins.1 n
        ∙ ap (λ (k : ℕ). g.draw (k + n)) (sym (begun_drawn g upgrade upgrade.token new_opened));
  };
}

-- memory ran out behind it: some draws were made
pub head_short : (g : Grounds) (head : Head Upgrade HeadFault) (text before : List ℕ) (old_next new_next : ℕ → List ℕ) (old new : Reader) (out written : List ℕ) (upgrade : Upgrade) (e : NoMemory)
    → IsUnopened g head text before old_next old out → ReadsRequest head text [] new (Ok (Some upgrade))
    → BeginsShake old_next new_next g.settings upgrade (Err e) → AcceptsHead out written upgrade (Err e)
    → RanShort g head text before new_next written
head_short g head text before old_next new_next old new out written upgrade e x told begins answers =
    let s : Opened = head_came g (Ok upgrade) new_opened in
    let p : Placed Upgrade HeadFault = record { item = HeadItem (Ok upgrade); place = told.0 } in
    let whole : IsPart (items_done g (p ∷ []) new_opened) (opened g head text) = read_part g head text (p ∷ []) told.0 new told.1 in
    let one : items_done g (p ∷ []) new_opened ≡ s = item_by g p new_opened Heading refl in
    let came : IsPart s (opened g head text) = subst (λ (t : Opened). IsPart t (opened g head text)) one whole in
    let part : Opened = record { stage = Heading; out = []; drawn = begins.0 } in
    record {
      part = part;
      is_part = record { more = (opened g head text).out; out = refl; drawn = omega (arith, came.drawn, begins.1, begun_drawn g upgrade upgrade.token new_opened) };
      tells = record {
        written = x.tells.written ∙ ap (λ (l : List ℕ). before ++ l) (sym answers);
        draws = λ n.
            let none : 0 + begins.0 ≡ begins.0 = omega arith in
            draws_from g.draw old_next new_next 0 begins.0 x.tells.draws begins.2 n ∙ ap (λ (k : ℕ). g.draw (k + n)) none;
      };
    }

-- no head has ended
pub head_waits : (g : Grounds) (head : Head Upgrade HeadFault) (text before : List ℕ) (next : ℕ → List ℕ) (old new : Reader) (out : List ℕ)
    → IsUnopened g head text before next old out → ReadsRequest head text [] new (Ok None) → new.behind_head ≡ false → IsHeading g head text before next new out
head_waits g head text before next old new out x told unopened =
    record { waits = record { read = told.0; unopened = unopened; tells = x.tells }; none = told.1 }

-- memory ran out before anything was done
unopened_short : (g : Grounds) (head : Head Upgrade HeadFault) (text before : List ℕ) (next : ℕ → List ℕ) (old : Reader) (out written : List ℕ)
    → IsUnopened g head text before next old out → written ≡ out → RanShort g head text before next written
unopened_short g head text before next old out written x same = record {
  part = new_opened;
  is_part = read_part g head text [] 0 old x.read;
  tells = record { written = x.tells.written ∙ ap (λ (l : List ℕ). before ++ l) (sym same); draws = x.tells.draws };
}

-- it is refused
pub head_refused : (g : Grounds) (head : Head Upgrade HeadFault) (text before : List ℕ) (next : ℕ → List ℕ) (old new : Reader) (out written : List ℕ) (fault : HeadFault) (end : OpeningEnd)
    → IsUnopened g head text before next old out → ReadsRequest head text [] new (Err fault) → RefusesHead fault end out written → Ends end g head text before next written
head_refused g head text before next old new out written fault ends.NoMemory x told refuses = unopened_short g head text before next old out written x refuses
head_refused g head text before next old new out written fault (ends.BadHead said) x told refuses =
    let p : Placed Upgrade HeadFault = record { item = HeadItem (Err fault); place = 0 } in
    let t : Opened = record { stage = Over (ends.BadHead fault); out = refusal_text; drawn = 0 } in
    let is : opened g head text ≡ t = opened_is g head text (p ∷ []) (told refuses.1) ∙ item_by g p new_opened Heading refl in
    record {
      stage = ap (λ (u : Opened). u.stage) is ∙ ap (λ (f : HeadFault). Over (ends.BadHead f)) (sym refuses.0);
      tells = record {
        written =
            ap (λ (u : Opened). u.out) is ∙ ap (λ (l : List ℕ). l ++ refusal_text) x.tells.written ∙ append_assoc before out refusal_text ∙ ap (λ (l : List ℕ). before ++ l) (sym refuses.2);
        draws = λ n. x.tells.draws n ∙ ap (λ (u : Opened). g.draw (u.drawn + n)) (sym is);
      };
    }
head_refused g head text before next old new out written fault (ends.Refused reason) x told refuses = absurd refuses
head_refused g head text before next old new out written fault (ends.TooLong n) x told refuses = absurd refuses
head_refused g head text before next old new out written fault ends.Left x told refuses = absurd refuses

-- ---- the head is known

pub known_by : (text : List ℕ) (result : Result (Option (Upgrade × ℕ)) HeadFault) → HeadIs text result → HasHead text
known_by text result answer = let found = request_found text result answer in (found.0, found.1)

pub known_refused : (text : List ℕ) (fault : HeadFault) (end : OpeningEnd) (before out : List ℕ) → RefusesHead fault end before out
    → ((fault ≡ head_faults.NoMemory → ⊥) → HeadIs text (Err fault)) → IsKnownAt end text
known_refused text fault ends.NoMemory before out refuses judged = tt
known_refused text fault (ends.BadHead told) before out refuses judged = known_by text (Err fault) (judged refuses.1)
known_refused text fault (ends.Refused reason) before out refuses judged = absurd refuses
known_refused text fault (ends.TooLong n) before out refuses judged = absurd refuses
known_refused text fault ends.Left before out refuses judged = absurd refuses

-- ---- framing

abbrev found_at : Upgrade → ℕ → Result (Option (Upgrade × ℕ)) HeadFault
found_at upgrade n = Ok (Some (upgrade, n))

abbrev open_head : Result (Option (Upgrade × ℕ)) HeadFault
open_head = Ok None

abbrev bad_head : HeadFault → Result (Option (Upgrade × ℕ)) HeadFault
bad_head fault = Err fault

open_not_found : (upgrade : Upgrade) (n : ℕ) → open_head ≡ found_at upgrade n → ⊥
open_not_found upgrade n is = absurd cc

bad_not_found : (fault : HeadFault) (upgrade : Upgrade) (n : ℕ) → bad_head fault ≡ found_at upgrade n → ⊥
bad_not_found fault upgrade n is = absurd cc

abbrev skips : Upgrade → Result (Option (Upgrade × ℕ)) HeadFault → Bool
skips otherwise (Ok None) = otherwise.skip_frames
skips otherwise (Ok (Some found)) = found.0.skip_frames
skips otherwise (Err fault) = otherwise.skip_frames

pub waits_unframed : (text : List ℕ) → HeadIs text (Ok None) → AsksFraming text → ⊥
waits_unframed text answer asks = open_not_found asks.upgrade asks.size (one_head text open_head (found_at asks.upgrade asks.size) answer asks.is_head)

pub begun_unframed : (text : List ℕ) (upgrade : Upgrade) (n : ℕ) → HeadIs text (Ok (Some (upgrade, n))) → AsksFraming text → upgrade.skip_frames ≡ false
begun_unframed text upgrade n answer asks =
    ap (skips upgrade) (one_head text (found_at upgrade n) (found_at asks.upgrade asks.size) answer asks.is_head) ∙ asks.asks

fault_unframed : (text : List ℕ) (fault : HeadFault) → HeadIs text (Err fault) → AsksFraming text → ⊥
fault_unframed text fault answer asks =
    bad_not_found fault asks.upgrade asks.size (one_head text (bad_head fault) (found_at asks.upgrade asks.size) answer asks.is_head)

pub refused_unframed : (text : List ℕ) (fault : HeadFault) (end : OpeningEnd) (before out : List ℕ) → RefusesHead fault end before out
    → ((fault ≡ head_faults.NoMemory → ⊥) → HeadIs text (Err fault)) → AsksFraming text → IsNoMemory end × (out ≡ before)
refused_unframed text fault ends.NoMemory before out refuses judged asks = (tt, refuses)
refused_unframed text fault (ends.BadHead told) before out refuses judged asks = absurd (fault_unframed text fault (judged refuses.1) asks)
refused_unframed text fault (ends.Refused reason) before out refuses judged asks = absurd refuses
refused_unframed text fault (ends.TooLong n) before out refuses judged asks = absurd refuses
refused_unframed text fault ends.Left before out refuses judged asks = absurd refuses
