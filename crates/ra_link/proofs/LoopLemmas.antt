-- The pieces of a connection, one after another.
use Rattle.std.proofs.Common.{◌≡◌, ℕ, suc, ◌+◌, ◌-◌, ◌<◌, ◌≤◌, Bool, true, false, Option, Some, None, Ok, List, [], ◌∷◌, ◌++◌, length, take, drop, inl, inr, refl, sym, ap, subst, ◌∙◌, arith, append-nil}
use Rattle.std.specs.Prelude.{◌⊎◌, ⊤, nat_lt}
use Rattle.std.proofs.lemmas.List.{length-append}
use Rattle.ra_base.specs.declared.key.Seat.{Seat}
use Rattle.ra_items.specs.Heads.{Head, IsRequestOf}
use Rattle.ra_upgrade.specs.declared.request_head.HeadFault.{HeadFault}
use Rattle.ra_upgrade.specs.declared.request_head.Upgrade.{Upgrade}
use Rattle.ra_opening.specs.Comes.{HasHead}
use Rattle.ra_opening.specs.Openings.{Grounds, Opened, new_opened, opened}
use Rattle.ra_opening.specs.Stands.{new_opening}
use Rattle.ra_opening.proofs.RunLemmas.{opened_is}
use Rattle.ra_opening.proofs.LawLemmas.{start}
use Rattle.ra_items.specs.Items.{items}
use Rattle.ra_ports.specs.Causes.{Rose, next_count}
use Rattle.ra_ports.specs.Links.{Incoming, Takes, got_bytes, has_ended, IsPiece}
use Rattle.ra_ports.specs.declared.link.Got.{Got}
use Rattle.ra_ports.specs.declared.link.Got.TheVariants.{Bytes, NotYet, End as GotEnd}
use Rattle.ra_hub.specs.Hubs.{Hub}
use Rattle.ra_hub.specs.Jobs.{SeenJob}
use Rattle.ra_link_core.specs.LinkRuns.{Serving, Piece, piece_done, link_run, with_piece, hub_left, new_serving}
use Rattle.ra_link_core.specs.Makes.{Happens}
use Rattle.ra_link_core.specs.Cores.{CoreStands, NotHeld, OnNoHead, IsBehindHead, seat_in}
use Rattle.ra_link.specs.Pieces.{counted, NowsAre, HaveHead, is_framed, Come}
use Rattle.ra_link.specs.Served.{LinkOutcome, link_closed, link_broke, link_spent, link_over, link_unkept, link_short, link_outcome, IsPieceEnd, IsSpent, ReadsAre, got_len, raised, CouldNotFrame, UnableBy, FramesBy, Frames, LinkKnows, Serves, LinkEnds, AfterPiece, sent_by, WasServed, IsServed, SoFar, Starts}
use Rattle.ra_link.specs.declared.ends.LinkEnd.{LinkEnd}
use Rattle.ra_link.specs.declared.ends.LinkEnd.TheVariants as ends
use Rattle.ra_link_core.specs.declared.phase.Phase.{Phase}
use Rattle.ra_link_core.specs.declared.phase.Phase.TheVariants as phases
use Rattle.ra_link_core.proofs.CutLemmas.{HasHeads, heads_so, no_items}
use Rattle.ra_link.proofs.ComeLemmas.{counted_more, come_more, come_stays, come_same, come_nothing}
use Rattle.ra_link_core.proofs.GrowLemmas.{happens_refl, happens_trans, grows_refl}
use Rattle.ra_link.proofs.KnownLemmas.{known_more, known_ended, known_stays, none_known}
use Rattle.ra_link_core.proofs.PieceLemmas.{piece_happens, behind_more}
use Rattle.ra_link.proofs.ServeLemmas.{core_going}

-- ---- counts

pub rose_from : (a b c : ℕ) → a ≤ b → Rose b c → Rose a c
rose_from a b c less rose = omega (arith, less, rose)

pub rose_to : (a b c : ℕ) → Rose a b → b ≤ c → Rose a c
rose_to a b c rose less = omega (arith, rose, less)

pub raised_more : (n count : ℕ) → raised (n + 1) count ≡ next_count (raised n count)
raised_more n count = let e : n + 1 ≡ suc n = omega arith in ap (λ (k : ℕ). raised k count) e

-- a weaker cause
map_sent : {A B F G : Type 0} → (F → G) → A ⊎ (B × F) → A ⊎ (B × G)
map_sent why (inl a) = inl a
map_sent why (inr b) = inr (b.0, why b.1)

ends_failed : (o : LinkOutcome) (first : List ℕ) (sent : Option (List ℕ)) (seat : Option Seat) (stands : Hub → Type 0) (jobs : Option (List SeenJob)) (F G : Type 0) (start u : Serving)
    → (F → G) → LinkEnds o first sent seat stands jobs F start u → LinkEnds o first sent seat stands jobs G start u
ends_failed link_closed first sent seat stands jobs F G start u why x = x
ends_failed link_broke first sent seat stands jobs F G start u why x = x
ends_failed link_spent first sent seat stands jobs F G start u why x = x
ends_failed (link_over end) first sent seat stands jobs F G start u why x = x
ends_failed link_unkept first sent seat stands jobs F G start u why x = record {
  part = x.part;
  sent_is = map_sent why x.sent_is;
  hub_stands = x.hub_stands;
  jobs_are = x.jobs_are;
  seat_is = x.seat_is;
  none = x.none;
  came = x.came;
  comes = x.comes;
  request = x.request;
  place = x.place;
  chunk = x.chunk;
  now = x.now;
  goes_on = x.goes_on;
}
ends_failed link_short first sent seat stands jobs F G start u why x = x

pub after_failed : (e : Option LinkEnd) (phase : Phase) (g : Grounds) (head : Head Upgrade HeadFault) (text : List ℕ) (next : ℕ → List ℕ) (first : List ℕ) (sent : Option (List ℕ)) (stands : Hub → Type 0) (jobs : Option (List SeenJob)) (F G : Type 0) (start u : Serving)
    → (F → G) → AfterPiece e phase g head text next first sent stands jobs F start u → AfterPiece e phase g head text next first sent stands jobs G start u
after_failed None phase g head text next first sent stands jobs F G start u why x = x
after_failed (Some end) phase g head text next first sent stands jobs F G start u why x =
    ends_failed (link_outcome end) first sent (seat_in phase) stands jobs F G start u why x

-- ---- one piece more

pub run_more : (g : Grounds) (head : Head Upgrade HeadFault) (before : List ℕ) (ps : List Piece) (p : Piece) (s : Serving)
    → link_run g head before (ps ++ p ∷ []) s ≡ piece_done g head (counted head before ps) p (link_run g head before ps s)
run_more g head before [] p s = refl
run_more g head before (q ∷ qs) p s = run_more g head (with_piece head before q.bytes) qs p (piece_done g head before q s)

length_more : (ps : List Piece) (p : Piece) → length (ps ++ p ∷ []) ≡ length ps + 1
length_more ps p = length-append ps (p ∷ [])

nows_more : (moments : ℕ → ℕ) (first : ℕ) (ps : List Piece) (p : Piece) → NowsAre moments first ps → p.now ≡ moments (first + length ps) → NowsAre moments first (ps ++ p ∷ [])
nows_more moments first [] p nows is = (let e : first + 0 ≡ first = omega arith in is ∙ ap moments e, tt)
nows_more moments first (q ∷ qs) p nows is =
    (nows.0, nows_more moments (first + 1) qs p nows.1 (let e : first + suc (length qs) ≡ (first + 1) + length qs = omega arith in is ∙ ap moments e))

-- ---- what the link gave

pub got_piece : (got : Got) (n : ℕ) (into : List ℕ) → got_len got ≡ Some n → got_bytes (Ok got) into ≡ take n into
got_piece (Bytes m) n into is = let e : m ≡ n = cc in ap (λ (k : ℕ). take k into) e
got_piece NotYet n into is = let e : 0 ≡ n = cc in ap (λ (k : ℕ). take k into) e
got_piece GotEnd n into is = absurd cc

pub got_room : (got : Got) (n : ℕ) (into : List ℕ) → got_len got ≡ Some n → IsPiece (Ok got) into → n ≤ length into
got_room (Bytes m) n into is piece = let e : m ≡ n = cc in omega (arith, e, piece.1)
got_room NotYet n into is piece = let e : 0 ≡ n = cc in omega (arith, e)
got_room GotEnd n into is piece = absurd cc

pub got_goes : (got : Got) (n : ℕ) (before : Bool) → got_len got ≡ Some n → has_ended before (Ok got) ≡ before
got_goes (Bytes m) n before is = refl
got_goes NotYet n before is = refl
got_goes GotEnd n before is = absurd cc

pub got_over : (got : Got) (before : Bool) → got_len got ≡ None → has_ended before (Ok got) ≡ true
got_over (Bytes m) before is = absurd cc
got_over NotYet before is = absurd cc
got_over GotEnd before is = refl

pub got_none : (got : Got) (into : List ℕ) → got_len got ≡ None → got_bytes (Ok got) into ≡ []
got_none (Bytes m) into is = absurd cc
got_none NotYet into is = absurd cc
got_none GotEnd into is = refl

-- ---- the link goes on no more

-- nothing came, and the connection ends
stops_there : (end : LinkEnd) (turn turns : ℕ) (g : Grounds) (start : Serving) (first : List ℕ) (moments : ℕ → ℕ) (incoming incoming_then incoming_now : Incoming) (sent sent' : Option (List ℕ)) (phase : Phase) (next : ℕ → List ℕ)
    (stands : Hub → Type 0) (jobs : Option (List SeenJob)) (tells : Bool) (clock : ℕ → ℕ) (then : ℕ) (failed : Type 0) (now : ℕ)
    → SoFar turn g start first moments incoming incoming_then sent phase next stands jobs tells clock then → turn < turns → ReadsAre (link_outcome end) turn (turn + 1) turns
    → (tells ≡ true → now ≡ clock 0) → sent' ≡ sent → Takes incoming_then.left incoming_now.left [] → incoming_now.payload ≡ incoming_then.payload → incoming_now.framed ≡ incoming_then.framed
    → ((s : Serving) → Serves first sent (seat_in phase) stands jobs s → s.end ≡ None → LinkEnds (link_outcome end) first sent (seat_in phase) stands jobs failed start s)
    → WasServed end g start first moments turns incoming incoming_now sent' (seat_in phase) stands jobs failed now
stops_there end turn turns g start first moments incoming incoming_then incoming_now sent sent' phase next stands jobs tells clock then failed now s more reads clock_now same took keeps stays ends =
    let at_turn : moments (turn + 0) ≡ moments (turn + 1 - 1) = (let e : turn + 0 ≡ turn + 1 - 1 = omega arith in ap moments e) in
    record {
      pieces = s.pieces;
      reads = turn + 1;
      within = omega (arith, more);
      reads_are = subst (λ (n : ℕ). ReadsAre (link_outcome end) n (turn + 1) turns) (sym s.count) reads;
      nows = s.nows;
      now_is = λ some. clock_now s.told ∙ s.clock_is 0 ∙ at_turn;
      known = known_stays end (HaveHead s.pieces) s.known;
      ran = λ head is.
          let a = s.at head is in
          let u = link_run g head [] s.pieces start in
          let x = core_going phase g head (counted head [] s.pieces) u.out next stands jobs [] u a.core in
          let done : LinkEnds (link_outcome end) first sent (seat_in phase) stands jobs failed start u =
          ends u (record { sent_is = a.sent_is; hub_stands = x.tells.hub_stands; jobs_are = x.tells.jobs_are; seat_is = x.seat_is }) x.end_is in
          record {
            ended = subst (λ (o : Option (List ℕ)). LinkEnds (link_outcome end) first o (seat_in phase) stands jobs failed start u) (sym same) done;
            came = come_stays (is_framed head (counted head [] s.pieces)) head (sent_by g head start first) s.pieces incoming incoming_then incoming_now (CouldNotFrame (link_outcome end)) a.came took keeps stays;
          };
    }

pub failed_there : (turn turns : ℕ) (g : Grounds) (start : Serving) (first : List ℕ) (moments : ℕ → ℕ) (incoming incoming_then incoming_now : Incoming) (sent sent' : Option (List ℕ)) (phase : Phase) (next : ℕ → List ℕ)
    (stands : Hub → Type 0) (jobs : Option (List SeenJob)) (tells : Bool) (clock : ℕ → ℕ) (then : ℕ) (failed : Type 0) (now : ℕ)
    → SoFar turn g start first moments incoming incoming_then sent phase next stands jobs tells clock then → turn < turns
    → (tells ≡ true → now ≡ clock 0) → sent' ≡ sent → Takes incoming_then.left incoming_now.left [] → incoming_now.payload ≡ incoming_then.payload → incoming_now.framed ≡ incoming_then.framed
    → WasServed ends.LinkFault g start first moments turns incoming incoming_now sent' (seat_in phase) stands jobs failed now
failed_there turn turns g start first moments incoming incoming_then incoming_now sent sent' phase next stands jobs tells clock then failed now s more clock_now same took keeps stays =
    stops_there ends.LinkFault turn turns g start first moments incoming incoming_then incoming_now sent sent' phase next stands jobs tells clock then failed now s more
    (omega arith, omega arith) clock_now same took keeps stays
    (λ u serves none. record {
      sent_is = record { front = u.out; sent_is = serves.sent_is; rest = []; parts = sym (append-nil u.out) };
      hub_stands = serves.hub_stands;
      jobs_are = serves.jobs_are;
      seat_is = serves.seat_is;
    })

pub closed_there : (turn turns : ℕ) (g : Grounds) (start : Serving) (first : List ℕ) (moments : ℕ → ℕ) (incoming incoming_then incoming_now : Incoming) (sent sent' : Option (List ℕ)) (phase : Phase) (next : ℕ → List ℕ)
    (stands : Hub → Type 0) (jobs : Option (List SeenJob)) (tells : Bool) (clock : ℕ → ℕ) (then : ℕ) (failed : Type 0) (now : ℕ)
    → SoFar turn g start first moments incoming incoming_then sent phase next stands jobs tells clock then → turn < turns
    → (tells ≡ true → now ≡ clock 0) → sent' ≡ sent → Takes incoming_then.left incoming_now.left [] → incoming_now.payload ≡ incoming_then.payload → incoming_now.framed ≡ incoming_then.framed
    → WasServed ends.Closed g start first moments turns incoming incoming_now sent' (seat_in phase) stands jobs failed now
closed_there turn turns g start first moments incoming incoming_then incoming_now sent sent' phase next stands jobs tells clock then failed now s more clock_now same took keeps stays =
    stops_there ends.Closed turn turns g start first moments incoming incoming_then incoming_now sent sent' phase next stands jobs tells clock then failed now s more
    refl clock_now same took keeps stays (λ u serves none. (serves, none))

pub spent_there : (turn turns : ℕ) (g : Grounds) (start : Serving) (first : List ℕ) (moments : ℕ → ℕ) (incoming incoming_now : Incoming) (sent : Option (List ℕ)) (phase : Phase) (next : ℕ → List ℕ)
    (stands : Hub → Type 0) (jobs : Option (List SeenJob)) (tells : Bool) (clock : ℕ → ℕ) (failed : Type 0) (now : ℕ)
    → SoFar turn g start first moments incoming incoming_now sent phase next stands jobs tells clock now → turn ≡ turns
    → WasServed ends.TurnsSpent g start first moments turns incoming incoming_now sent (seat_in phase) stands jobs failed now
spent_there turn turns g start first moments incoming incoming_now sent phase next stands jobs tells clock failed now s all = record {
  pieces = s.pieces;
  reads = turn;
  within = omega (arith, all);
  reads_are = (sym s.count, all);
  nows = s.nows;
  now_is = s.now_is;
  known = s.known;
  ran = λ head is.
      let a = s.at head is in
      let u = link_run g head [] s.pieces start in
      let x = core_going phase g head (counted head [] s.pieces) u.out next stands jobs [] u a.core in
      record { ended = (record { sent_is = a.sent_is; hub_stands = x.tells.hub_stands; jobs_are = x.tells.jobs_are; seat_is = x.seat_is }, x.end_is); came = come_same (is_framed head (counted head [] s.pieces)) head (sent_by g head start first) s.pieces incoming incoming_now ⊥ a.came };
}

-- ---- a piece came

abbrev pub piece_at : List ℕ → ℕ → Piece
piece_at bytes now = record { bytes = bytes; now = now }

-- what is known of a piece: it was taken of the link, and served
pub record PieceCame (e : Option LinkEnd) (g : Grounds) (piece : List ℕ) (now : ℕ) (first : List ℕ) (old new : Phase) (was is : Option (List ℕ)) (next next' : ℕ → List ℕ)
    (stands stands' : Hub → Type 0) (jobs jobs' : Option (List SeenJob)) (incoming incoming_then incoming_mid incoming_now : Incoming) (failed : Type 0) : Type 0 where
  pub made : (head : Head Upgrade HeadFault) (text : List ℕ) (start s : Serving) → IsRequestOf (text ++ piece) head
      → CoreStands old g head text s.out next stands jobs [] s → was ≡ Some (first ++ s.out) → Happens start s
      → AfterPiece e new g head (with_piece head text piece) next' first is stands' jobs' failed start (piece_done g head text (piece_at piece now) s)
  pub took : Takes incoming_then.left incoming_mid.left piece
  pub keeps : incoming_mid.payload ≡ incoming_then.payload
  pub stays : incoming_mid.framed ≡ incoming_then.framed
  pub goes : incoming.ended ≡ false → incoming_mid.ended ≡ false
  pub free : NotHeld old
  pub known : OnNoHead old (λ unread. LinkKnows e (unread ++ piece))
  pub came : (head : Head Upgrade HeadFault) (text : List ℕ) (s : Serving) → IsRequestOf (text ++ piece) head
      → CoreStands old g head text s.out next stands jobs [] s → IsBehindHead old head text → was ≡ Some (first ++ s.out)
      → Frames e head text piece (length (first ++ (piece_done g head text (piece_at piece now) s).out)) incoming_mid incoming_now

-- how the pieces came, with this one
come_with : (e : Option LinkEnd) (g : Grounds) (piece : List ℕ) (now : ℕ) (first : List ℕ) (old new : Phase) (was is : Option (List ℕ)) (next next' : ℕ → List ℕ)
    (stands stands' : Hub → Type 0) (jobs jobs' : Option (List SeenJob)) (incoming incoming_then incoming_mid incoming_now : Incoming) (failed : Type 0) (head : Head Upgrade HeadFault) (ps : List Piece) (start : Serving)
    → PieceCame e g piece now first old new was is next next' stands stands' jobs jobs' incoming incoming_then incoming_mid incoming_now failed
    → Come head (sent_by g head start first) ps incoming incoming_then ⊥ → IsRequestOf (counted head [] ps ++ piece) head
    → CoreStands old g head (counted head [] ps) (link_run g head [] ps start).out next stands jobs [] (link_run g head [] ps start)
    → IsBehindHead old head (counted head [] ps) → was ≡ Some (first ++ (link_run g head [] ps start).out)
    → Come head (sent_by g head start first) (ps ++ piece_at piece now ∷ []) incoming incoming_now (UnableBy e)
come_with e g piece now first old new was is next next' stands stands' jobs jobs' incoming incoming_then incoming_mid incoming_now failed head ps start x come is_head core behind sent_is =
    let p = piece_at piece now in
    let text = counted head [] ps in
    let more : counted head [] (ps ++ p ∷ []) ≡ with_piece head text piece = counted_more head [] ps p in
    let front = drop head.size (text ++ piece) in
    let sent = sent_by g head start first (ps ++ p ∷ []) in
    let s = link_run g head [] ps start in
    let sent_so : length (first ++ (piece_done g head text p s).out) ≡ sent =
    ap (λ (u : Serving). length (first ++ u.out)) (sym (run_more g head [] ps p start)) in
    let frames : FramesBy (is_framed head text) (is_framed head (counted head [] (ps ++ p ∷ []))) e front sent incoming_mid incoming_now =
    subst (λ (b : Bool). FramesBy (is_framed head text) b e front sent incoming_mid incoming_now) (sym (ap (is_framed head) more))
    (subst (λ (n : ℕ). FramesBy (is_framed head text) (is_framed head (with_piece head text piece)) e front n incoming_mid incoming_now) sent_so
    (x.came head text s is_head core behind sent_is)) in
    come_more (is_framed head text) (is_framed head (counted head [] (ps ++ p ∷ []))) e head (sent_by g head start first) ps p incoming incoming_then incoming_mid incoming_now refl refl come x.took x.keeps x.stays x.goes frames

-- and what is known of their head
known_with : (turn : ℕ) (g : Grounds) (start : Serving) (first : List ℕ) (moments : ℕ → ℕ) (incoming incoming_then : Incoming) (sent : Option (List ℕ)) (old : Phase) (next : ℕ → List ℕ)
    (stands : Hub → Type 0) (jobs : Option (List SeenJob)) (tells : Bool) (clock : ℕ → ℕ) (then : ℕ) (p : Piece)
    → (s : SoFar turn g start first moments incoming incoming_then sent old next stands jobs tells clock then) → NotHeld old
    → OnNoHead old (λ unread. HasHead (unread ++ p.bytes)) → HaveHead (s.pieces ++ p ∷ [])
known_with turn g start first moments incoming incoming_then sent old next stands jobs tells clock then p s free known =
    let head = s.known.0 in
    let a = s.at head s.known.1 in
    let u = link_run g head [] s.pieces start in
    known_more old g head s.pieces p u.out next stands jobs [] u s.known.1 a.core free a.behind known

-- with its head
with_head : (head : Head Upgrade HeadFault) (ps : List Piece) (p : Piece) → IsRequestOf (counted head [] (ps ++ p ∷ [])) head → HasHeads head (counted head [] ps) p.bytes
with_head head ps p is = heads_so head (counted head [] ps) p.bytes (subst (λ (t : List ℕ). IsRequestOf t head) (counted_more head [] ps p) is)

now_at : (turn : ℕ) (moments clock : ℕ → ℕ) (now : ℕ) → now ≡ clock 0 → ((n : ℕ) → clock n ≡ moments (turn + n)) → now ≡ moments turn
now_at turn moments clock now is from = is ∙ from 0 ∙ (let e : turn + 0 ≡ turn = omega arith in ap moments e)

reads_by : (o : LinkOutcome) (count turns : ℕ) → IsPieceEnd o → ReadsAre o (count + 1) (count + 1) turns
reads_by link_closed count turns never = absurd never
reads_by link_broke count turns never = (omega arith, omega arith)
reads_by link_spent count turns never = absurd never
reads_by (link_over end) count turns never = refl
reads_by link_unkept count turns never = refl
reads_by link_short count turns never = refl

pub never_spent : (P : Type 0) (o : LinkOutcome) → IsPieceEnd o → IsSpent o P
never_spent P link_closed never = absurd never
never_spent P link_broke never = tt
never_spent P link_spent never = absurd never
never_spent P (link_over end) never = tt
never_spent P link_unkept never = tt
never_spent P link_short never = tt

pub ended_there : (end : LinkEnd) (turn turns : ℕ) (g : Grounds) (start : Serving) (first : List ℕ) (moments : ℕ → ℕ) (incoming incoming_then incoming_mid incoming_now : Incoming) (was is : Option (List ℕ)) (old new : Phase) (next next' : ℕ → List ℕ)
    (stands stands' : Hub → Type 0) (jobs jobs' : Option (List SeenJob)) (tells : Bool) (clock : ℕ → ℕ) (then : ℕ) (failed : Type 0) (piece : List ℕ) (now : ℕ)
    → SoFar turn g start first moments incoming incoming_then was old next stands jobs tells clock then → turn < turns → (tells ≡ true → now ≡ clock 0)
    → PieceCame (Some end) g piece now first old new was is next next' stands stands' jobs jobs' incoming incoming_then incoming_mid incoming_now failed → IsPieceEnd (link_outcome end)
    → WasServed end g start first moments turns incoming incoming_now is (seat_in new) stands' jobs' failed now
ended_there end turn turns g start first moments incoming incoming_then incoming_mid incoming_now was is old new next next' stands stands' jobs jobs' tells clock then failed piece now s more clock_now came never =
    let p = piece_at piece now in
    let count : length (s.pieces ++ p ∷ []) ≡ turn + 1 = length_more s.pieces p ∙ ap (λ (n : ℕ). n + 1) s.count in
    let when : now ≡ moments turn = now_at turn moments clock now (clock_now s.told) s.clock_is in
    record {
      pieces = s.pieces ++ p ∷ [];
      reads = turn + 1;
      within = omega (arith, more);
      reads_are = subst (λ (n : ℕ). ReadsAre (link_outcome end) n (turn + 1) turns) (sym count) (reads_by (link_outcome end) turn turns never);
      nows = nows_more moments 0 s.pieces p s.nows (when ∙ (let e : turn ≡ 0 + length s.pieces = omega (arith, s.count) in ap moments e));
      now_is = λ some. when ∙ (let e : turn ≡ turn + 1 - 1 = omega arith in ap moments e);
      known = known_ended (link_outcome end) old piece (HaveHead (s.pieces ++ p ∷ []))
          (λ known. known_with turn g start first moments incoming incoming_then was old next stands jobs tells clock then p s came.free known) came.known;
      ran = λ head is_head.
          let heads = with_head head s.pieces p is_head in
          let a = s.at head heads.before in
          let v = link_run g head [] s.pieces start in
          let text = counted head [] s.pieces in
          record {
            ended = subst (λ (u : Serving). LinkEnds (link_outcome end) first is (seat_in new) stands' jobs' failed start u) (sym (run_more g head [] s.pieces p start))
                (came.made head text start v heads.whole a.core a.sent_is a.happens);
            came = come_with (Some end) g piece now first old new was is next next' stands stands' jobs jobs' incoming incoming_then incoming_mid incoming_now failed head s.pieces start came a.came heads.whole a.core a.behind a.sent_is;
          };
    }

pub goes_there : (turn : ℕ) (g : Grounds) (start : Serving) (first : List ℕ) (moments : ℕ → ℕ) (incoming incoming_then incoming_mid incoming_now : Incoming) (was is : Option (List ℕ)) (old new : Phase) (next next' : ℕ → List ℕ)
    (stands stands' : Hub → Type 0) (jobs jobs' : Option (List SeenJob)) (tells tells' : Bool) (clock clock' : ℕ → ℕ) (then : ℕ) (failed : Type 0) (piece : List ℕ) (now : ℕ)
    → SoFar turn g start first moments incoming incoming_then was old next stands jobs tells clock then → (tells ≡ true → now ≡ clock 0)
    → tells' ≡ tells → ((n : ℕ) → clock' n ≡ clock (n + 1))
    → PieceCame None g piece now first old new was is next next' stands stands' jobs jobs' incoming incoming_then incoming_mid incoming_now failed
    → SoFar (turn + 1) g start first moments incoming incoming_now is new next' stands' jobs' tells' clock' now
goes_there turn g start first moments incoming incoming_then incoming_mid incoming_now was is old new next next' stands stands' jobs jobs' tells tells' clock clock' then failed piece now s clock_now told after came =
    let p = piece_at piece now in
    let when : now ≡ moments turn = now_at turn moments clock now (clock_now s.told) s.clock_is in
    record {
      pieces = s.pieces ++ p ∷ [];
      count = length_more s.pieces p ∙ ap (λ (n : ℕ). n + 1) s.count;
      nows = nows_more moments 0 s.pieces p s.nows (when ∙ (let e : turn ≡ 0 + length s.pieces = omega (arith, s.count) in ap moments e));
      told = told ∙ s.told;
      clock_is = λ n. after n ∙ s.clock_is (n + 1) ∙ (let e : turn + (n + 1) ≡ turn + 1 + n = omega arith in ap moments e);
      now_is = λ some. when ∙ (let e : turn ≡ turn + 1 - 1 = omega arith in ap moments e);
      known = known_with turn g start first moments incoming incoming_then was old next stands jobs tells clock then p s came.free came.known;
      at = λ head is_head.
          let heads = with_head head s.pieces p is_head in
          let a = s.at head heads.before in
          let v = link_run g head [] s.pieces start in
          let text = counted head [] s.pieces in
          let u = piece_done g head text p v in
          let made = came.made head text start v heads.whole a.core a.sent_is a.happens in
          let core : CoreStands new g head (counted head [] (s.pieces ++ p ∷ [])) u.out next' stands' jobs' [] u =
          subst (λ (t : List ℕ). CoreStands new g head t u.out next' stands' jobs' [] u) (sym (counted_more head [] s.pieces p)) made.0 in
          let same = sym (run_more g head [] s.pieces p start) in
          record {
            core = subst (λ (w : Serving). CoreStands new g head (counted head [] (s.pieces ++ p ∷ [])) w.out next' stands' jobs' [] w) same core;
            sent_is = subst (λ (w : Serving). is ≡ Some (first ++ w.out)) same made.1;
            happens = subst (λ (w : Serving). Happens start w) same (happens_trans start v u a.happens (piece_happens old g head text v.out next stands jobs [] p v a.core));
            came = come_with None g piece now first old new was is next next' stands stands' jobs jobs' incoming incoming_then incoming_mid incoming_now failed head s.pieces start came a.came heads.whole a.core a.behind a.sent_is;
            behind = subst (λ (t : List ℕ). IsBehindHead new head t) (sym (counted_more head [] s.pieces p))
                (behind_more old new g head text v.out u.out next next' stands stands' jobs jobs' [] [] p v a.core a.behind made.0);
          };
    }

-- before the first byte no head has ended
nothing_early : (g : Grounds) (head : Head Upgrade HeadFault) → IsRequestOf [] head → nat_lt (length {A = ℕ} []) head.size ≡ true
nothing_early g head is = no_items head [] (start g head [] g.draw is (λ n. refl)).none

pub starts_there : (g : Grounds) (start : Serving) (first : List ℕ) (moments : ℕ → ℕ) (incoming : Incoming) (sent : Option (List ℕ)) (phase : Phase) (next : ℕ → List ℕ)
    (stands : Hub → Type 0) (jobs : Option (List SeenJob)) (tells : Bool) (clock : ℕ → ℕ) (now : ℕ)
    → Starts g start first moments sent phase next stands jobs tells clock → SoFar 0 g start first moments incoming incoming sent phase next stands jobs tells clock now
starts_there g start first moments incoming sent phase next stands jobs tells clock now s = record {
  pieces = [];
  count = refl;
  nows = tt;
  told = s.told;
  clock_is = λ n. s.clock_is n ∙ (let e : n ≡ 0 + n = omega arith in ap moments e);
  now_is = λ some. absurd (nothing some);
  known = none_known;
  at = λ head is. record {
    core = s.core head is;
    sent_is = s.sent_is;
    happens = happens_refl start;
    came = come_nothing head (sent_by g head start first) incoming ⊥ (nothing_early g head is);
    behind = s.behind head;
  };
}
  where
    nothing : 0 < 0 → ⊥
    nothing h = omega (arith, h)

-- ---- the seat is spent

ends_left : (o : LinkOutcome) (first : List ℕ) (sent : Option (List ℕ)) (seat : Option Seat) (old new : Hub → Type 0) (jobs : Option (List SeenJob)) (failed : Type 0) (start u : Serving)
    → ((h : Hub) → old h → new h) → LinkEnds o first sent seat old jobs failed start u → LinkEnds o first sent seat new jobs failed start u
ends_left link_closed first sent seat old new jobs failed start u left x =
    (record { sent_is = x.0.sent_is; hub_stands = left u.hub x.0.hub_stands; jobs_are = x.0.jobs_are; seat_is = x.0.seat_is }, x.1)
ends_left link_broke first sent seat old new jobs failed start u left x =
    record { sent_is = x.sent_is; hub_stands = left u.hub x.hub_stands; jobs_are = x.jobs_are; seat_is = x.seat_is }
ends_left link_spent first sent seat old new jobs failed start u left x =
    (record { sent_is = x.0.sent_is; hub_stands = left u.hub x.0.hub_stands; jobs_are = x.0.jobs_are; seat_is = x.0.seat_is }, x.1)
ends_left (link_over end) first sent seat old new jobs failed start u left x =
    (record { sent_is = x.0.sent_is; hub_stands = left u.hub x.0.hub_stands; jobs_are = x.0.jobs_are; seat_is = x.0.seat_is }, x.1)
ends_left link_unkept first sent seat old new jobs failed start u left x = record {
  part = x.part;
  sent_is = x.sent_is;
  hub_stands = left x.part.hub x.hub_stands;
  jobs_are = x.jobs_are;
  seat_is = x.seat_is;
  none = x.none;
  came = x.came;
  comes = x.comes;
  request = x.request;
  place = x.place;
  chunk = x.chunk;
  now = x.now;
  goes_on = x.goes_on;
}
ends_left link_short first sent seat old new jobs failed start u left x = record {
  part = x.part;
  sent_is = x.sent_is;
  hub_stands = left x.part.hub x.hub_stands;
  jobs_are = x.jobs_are;
  seat_is = x.seat_is;
  came = x.came;
  comes = x.comes;
}

pub served_left : (end : LinkEnd) (g : Grounds) (start : Serving) (first : List ℕ) (moments : ℕ → ℕ) (turns : ℕ) (incoming incoming_now : Incoming) (sent : Option (List ℕ)) (seat : Option Seat)
    (old new : Hub → Type 0) (jobs : Option (List SeenJob)) (failed : Type 0) (now : ℕ)
    → ((h : Hub) → old h → new (hub_left seat now h)) → WasServed end g start first moments turns incoming incoming_now sent seat old jobs failed now
    → IsServed end g start first moments turns incoming incoming_now sent new jobs failed
served_left end g start first moments turns incoming incoming_now sent seat old new jobs failed now lost w = record {
  seat = seat;
  now = now;
  served = record {
    pieces = w.pieces;
    reads = w.reads;
    within = w.within;
    reads_are = w.reads_are;
    nows = w.nows;
    now_is = w.now_is;
    known = w.known;
    ran = λ head is.
        let r = w.ran head is in
        record {
          ended = ends_left (link_outcome end) first sent seat old (λ h. new (hub_left seat now h)) jobs failed start (link_run g head [] w.pieces start) lost r.ended;
          came = r.came;
        };
  };
}

-- there was no room for a piece
pub not_served : (g : Grounds) (first : List ℕ) (h : Hub) (js : List SeenJob) (moments : ℕ → ℕ) (turns : ℕ) (incoming : Incoming) (sent : Option (List ℕ)) (stands : Hub → Type 0) (jobs : Option (List SeenJob)) (failed : Type 0)
    → sent ≡ Some first → stands h → jobs ≡ Some js
    → IsServed ends.NoMemory g (new_serving h js) first moments turns incoming incoming sent stands jobs failed
not_served g first h js moments turns incoming sent stands jobs failed sent_is hub_stands jobs_are = record {
  seat = None;
  now = 0;
  served = record {
    pieces = [];
    reads = 0;
    within = omega arith;
    reads_are = refl;
    nows = tt;
    now_is = λ some. absurd (nothing some);
    known = tt;
    ran = λ head is. record {
      ended = record {
        part = new_serving h js;
        sent_is = record { front = []; sent_is = sent_is ∙ ap (λ (l : List ℕ). Some l) (sym (append-nil first)); rest = []; parts = refl };
        hub_stands = hub_stands;
        jobs_are = jobs_are;
        seat_is = refl;
        came = happens_refl (new_serving h js);
        comes = grows_refl (new_serving h js);
      };
      came = come_nothing head (sent_by g head (new_serving h js) first) incoming ⊤ (nothing_early g head is);
    };
  };
}
  where
    nothing : 0 < 0 → ⊥
    nothing h = omega (arith, h)

-- nothing came yet
pub new_starts : (g : Grounds) (first : List ℕ) (h : Hub) (js : List SeenJob) (moments : ℕ → ℕ) (sent : Option (List ℕ)) (phase : Phase) (next : ℕ → List ℕ) (stands : Hub → Type 0) (jobs : Option (List SeenJob)) (tells : Bool)
    → phase ≡ phases.Opening new_opening → ((n : ℕ) → next n ≡ g.draw n) → sent ≡ Some first → stands h → jobs ≡ Some js → tells ≡ true
    → Starts g (new_serving h js) first moments sent phase next stands jobs tells moments
new_starts g first h js moments sent phase next stands jobs tells new draws sent_is hub_stands jobs_are told =
    let s = new_serving h js in
    subst (λ (p : Phase). Starts g s first moments sent p next stands jobs tells moments) (sym new)
    (record {
      told = told;
      behind = λ head. tt;
      clock_is = λ n. refl;
      sent_is = sent_is ∙ ap (λ (l : List ℕ). Some l) (sym (append-nil first));
      core = λ head is.
          let opens = start g head [] next is draws in
          record {
            going = record {
              tells = record { hub_stands = hub_stands; jobs_are = jobs_are; out_is = refl; draws_are = λ n. draws n ∙ (let e : n ≡ 0 + n = omega arith in ap g.draw e) };
              seat_is = refl;
              end_is = refl;
            };
            raw = [];
            opens = opens;
            counts = refl;
            written = sym (ap (λ (o : Opened). o.out) (nothing_opened g head opens.none));
            drawn = sym (ap (λ (o : Opened). o.drawn) (nothing_opened g head opens.none));
          };
    })
  where
    nothing_opened : (g : Grounds) (head : Head Upgrade HeadFault) → items head [] ≡ [] → opened g head [] ≡ new_opened
    nothing_opened g head none = opened_is g head [] [] none
