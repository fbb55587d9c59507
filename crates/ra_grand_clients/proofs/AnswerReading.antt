-- What a handshake has read is the answer to its request, or a front of it.
use Rattle.std.proofs.Common.{◌≡◌, ℕ, ◌<◌, Bool, true, false, cond, Option, Some, None, Ok, List, [], ◌∷◌, ◌++◌, length, take, drop, refl, ap, sym, ◌∙◌, subst, append_assoc, take-append-drop, arith}
use Rattle.std.specs.Prelude.{nat_lt}
use Rattle.std.proofs.lemmas.Bool.{ltb-true, ltb-false}
use Rattle.ra_base.specs.declared.key.Key.{Key}
use Rattle.ra_upgrade.specs.AnswerHeads.{AnswerIs}
use Rattle.ra_upgrade.specs.AnswerTexts.{answer_text}
use Rattle.ra_upgrade.specs.RequestTexts.{key_text}
use Rattle.ra_dial.specs.declared.stage.Stage.{Stage}
use Rattle.ra_dial.specs.declared.stage.Stage.TheVariants as stages
use Rattle.ra_dial.specs.Handshakes.{HasHead, IsHeadOf}
use Rattle.ra_dial.specs.ShakingStates.{ShakingState}
use Rattle.ra_grand_clients.specs.ClientStates.{ReadsAnswer}
use Rattle.ra_grand_runs.specs.GrandClients.{GrandLink, Client}
use Rattle.ra_grand_runs.specs.Lasts.{OnLastOf, OnLast}
use Rattle.ra_grand_runs.specs.Reached.{Agrees, ReadsLink, HandshakeReads, StageReads, ClientHolds, read_of}
use Rattle.ra_grand_runs.specs.SetUps.{answer_with, answer_head, answer_at}
use Rattle.ra_grand_runs.proofs.LinkHolding.{whole_front, part_front}

-- the client reads an answer to its key, and a front of it is still open
abbrev pub ReadsWhole : Type 0
ReadsWhole = (key more : List ℕ) → AnswerIs key (answer_text (key_text key) ++ more) (Ok (Some (length (answer_text (key_text key)))))

abbrev pub ReadsFront : Type 0
ReadsFront = (key other : List ℕ) (n : ℕ) → n < length (answer_text other) → AnswerIs key (take n (answer_text other)) (Ok None)

some_of : {X : Type 0} → (P : X → Type 0) (x : X) (xs : List X) → OnLastOf P x xs → (y : X) × P y
some_of P x [] holds = (x, holds)
some_of P x (y ∷ ys) holds = some_of P y ys holds

some_last : {X : Type 0} → (P : X → Type 0) (xs : List X) → OnLast P xs → (y : X) × P y
some_last P [] holds = absurd holds
some_last P (x ∷ xs) holds = some_of P x xs holds

-- a front of a text that agrees with another agrees with it too
front_agrees : (front rest text more other tail : List ℕ) → front ++ rest ≡ text → text ++ more ≡ other ++ tail → front ++ (rest ++ more) ≡ other ++ tail
front_agrees front rest text more other tail is same = sym (append_assoc front rest more) ∙ ap (λ (t : List ℕ). t ++ more) is ∙ same

unread_agrees : (owner : Key) (drawn unread : List ℕ) (l : GrandLink) → ReadsLink owner drawn unread l → Agrees unread (answer_text (key_text drawn))
unread_agrees owner drawn unread l reads =
    let h = reads.link in
    let d = l.link.to_a in
    let answer = answer_text (key_text drawn) in
    let agrees = h.end.out in
    let written : d.written ++ (h.put.rest ++ agrees.more) ≡ answer ++ agrees.rest = front_agrees d.written h.put.rest l.server.out agrees.more answer agrees.rest (sym h.put.same) agrees.same in
    let read : read_of d ++ (drop d.read d.written ++ (h.put.rest ++ agrees.more)) ≡ answer ++ agrees.rest =
    front_agrees (read_of d) (drop d.read d.written) d.written (h.put.rest ++ agrees.more) answer agrees.rest (take-append-drop d.read d.written) written in
    record { more = drop d.read d.written ++ (h.put.rest ++ agrees.more); rest = agrees.rest; same = ap (λ (t : List ℕ). t ++ (drop d.read d.written ++ (h.put.rest ++ agrees.more))) reads.unread_is ∙ read }

has_head : ReadsWhole → ReadsFront → (drawn unread : List ℕ) → Agrees unread (answer_text (key_text drawn)) → (b : Bool) → nat_lt (length unread) (length (answer_text (key_text drawn))) ≡ b
    → AnswerIs drawn unread (answer_with (length (answer_text (key_text drawn))) (length unread))
has_head whole front drawn unread agrees true less =
    let answer = answer_text (key_text drawn) in
    let below : length unread < length answer = ltb-true (length unread) (length answer) less in
    subst (λ (b : Bool). AnswerIs drawn unread (cond b (Ok None) (Ok (Some (length answer))))) (sym less)
    (subst (λ (text : List ℕ). AnswerIs drawn text (Ok None)) (sym (part_front unread answer agrees.more agrees.rest agrees.same (omega (arith, below)))) (front drawn (key_text drawn) (length unread) below))
has_head whole front drawn unread agrees false less =
    let answer = answer_text (key_text drawn) in
    let begins = whole_front unread answer agrees.more agrees.rest agrees.same (ltb-false (length unread) (length answer) less) in
    subst (λ (b : Bool). AnswerIs drawn unread (cond b (Ok None) (Ok (Some (length answer))))) (sym less)
    (subst (λ (text : List ℕ). AnswerIs drawn text (Ok (Some (length answer)))) (sym begins.same) (whole drawn begins.rest))

by_key : ReadsWhole → ReadsFront → (owner : Key) (s : ShakingState) (key : Option (List ℕ)) (links : List GrandLink) → HandshakeReads owner s key links
    → HasHead key s.unread (answer_head key s.unread)
by_key whole front owner s None links reads = tt
by_key whole front owner s (Some drawn) links reads =
    let l = some_last (ReadsLink owner drawn s.unread) links reads.1 in
    has_head whole front drawn s.unread (unread_agrees owner drawn s.unread l.0 l.1) _ refl

by_stage : ReadsWhole → ReadsFront → (owner : Key) (stage : Stage) (links : List GrandLink) → StageReads owner stage links → IsHeadOf stage (answer_at stage)
by_stage whole front owner (stages.Resting until) links reads = tt
by_stage whole front owner (stages.Calling since) links reads = tt
by_stage whole front owner (stages.Shaking since s) links reads = by_key whole front owner s s.key links reads
by_stage whole front owner stages.Attached links reads = tt
by_stage whole front owner (stages.Over end) links reads = tt

pub reads_answer : ReadsWhole → ReadsFront → (c : Client) → ClientHolds c → ReadsAnswer c
reads_answer whole front c h = by_stage whole front c.key c.dialer.stage c.links h.reads
