-- What a piece does to an opening in memory.
use Rattle.std.proofs.Common.{◌≡◌, ℕ, ◌-◌, Bool, true, false, List, [], ◌∷◌, ◌++◌, length, take, refl, sym, ap, subst, ◌∙◌, arith, append-nil, Ok}
use Rattle.std.proofs.lemmas.List.{length-drop}
use Rattle.ra_upgrade.specs.declared.request_head.HeadFault.{HeadFault}
use Rattle.ra_upgrade.specs.declared.request_head.Upgrade.{Upgrade}
use Rattle.ra_items.specs.Heads.{Head}
use Rattle.ra_items.specs.Items.{Placed, items}
use Rattle.ra_items.specs.Items.Item.{HeadItem}
use Rattle.ra_items.specs.Readers.{Reader, HasRead, fed}
use Rattle.ra_items.proofs.FrameItems.{frames_partial}
use Rattle.ra_model.proofs.Framing.{first_frame-nil}
use Rattle.ra_model.specs.FirstFrame.{is_too_long}
use Rattle.ra_items.proofs.ReaderLemmas.{read_piece, read_front, read_items}
use Rattle.ra_shake.specs.States.{ServerState}
use Rattle.ra_opening.specs.declared.phase.Phase.{Phase}
use Rattle.ra_opening.specs.declared.phase.Phase.TheVariants as phases
use Rattle.ra_opening.specs.Openings.{Grounds, Opened, new_opened, head_came, items_done}
use Rattle.ra_opening.specs.Openings.Stage.{Heading}
use Rattle.ra_opening.specs.Stands.{OpeningState, IsBegun, IsShaking, IsWaiting, Stands, StandsIn, IsFed, NeedsFraming, framed_phase}
use Rattle.ra_opening.specs.Comes.{RanShort}
use Rattle.ra_opening.proofs.RunLemmas.{item_by, read_part}
use Rattle.ra_opening.proofs.FindLemmas.{tells_of}

-- the run of a head alone
one_head : (g : Grounds) (upgrade : Upgrade) (place : ℕ) → items_done g (record { item = HeadItem (Ok upgrade); place = place } ∷ []) new_opened ≡ head_came g (Ok upgrade) new_opened
one_head g upgrade place = item_by g (record { item = HeadItem (Ok upgrade); place = place }) new_opened Heading refl

-- a handshake that is begun goes on with what follows the head
pub begun_shaking : (g : Grounds) (head : Head Upgrade HeadFault) (text before : List ℕ) (next : ℕ → List ℕ) (reader : Reader) (shake : ServerState) (skips : Bool) (out : List ℕ)
    → IsBegun g head text before next reader shake skips out → IsShaking g head text before next reader shake out
begun_shaking g head text before next reader shake skips out x =
    let p : Placed Upgrade HeadFault = record { item = HeadItem (Ok x.upgrade); place = x.place } in
    let one = one_head g x.upgrade x.place in
    record {
      done = p ∷ [];
      at = x.place;
      read = x.read;
      behind = x.behind;
      stage = ap (λ (s : Opened). s.stage) one ∙ x.stage;
      tells = tells_of g before next out (head_came g (Ok x.upgrade) new_opened) (items_done g (p ∷ []) new_opened) one x.tells;
    }

-- ---- a piece more

pub stands_fed : (phase : Phase) (g : Grounds) (head : Head Upgrade HeadFault) (text piece before : List ℕ) (next : ℕ → List ℕ) (reader : Reader) (out : List ℕ)
    → StandsIn phase g head text before next reader out → IsFed phase g head (text ++ piece) before next (fed piece reader) out
stands_fed phases.Heading g head text piece before next reader out x =
    record { read = read_piece head text piece [] 0 reader x.waits.read; unopened = x.waits.unopened; tells = x.waits.tells }
stands_fed (phases.Held shake) g head text piece before next reader out x = record {
  upgrade = x.upgrade;
  place = x.place;
  read = read_piece head text piece (record { item = HeadItem (Ok x.upgrade); place = x.place } ∷ []) x.place reader x.read;
  behind = x.behind;
  skips = x.skips;
  stage = x.stage;
  tells = x.tells;
}
stands_fed (phases.Shaking shake) g head text piece before next reader out x = record {
  done = x.shaking.done;
  at = x.shaking.at;
  read = read_piece head text piece x.shaking.done x.shaking.at reader x.shaking.read;
  behind = x.shaking.behind;
  stage = x.shaking.stage;
  tells = x.shaking.tells;
}
stands_fed phases.Over g head text piece before next reader out x = absurd x

-- memory ran out before anything was done for the piece
fed_short : (phase : Phase) (g : Grounds) (head : Head Upgrade HeadFault) (text before : List ℕ) (next : ℕ → List ℕ) (reader : Reader) (out : List ℕ)
    → IsFed phase g head text before next reader out → RanShort g head text before next out
fed_short phases.Heading g head text before next reader out x = record { part = new_opened; is_part = read_part g head text [] 0 reader x.read; tells = x.tells }
fed_short (phases.Held shake) g head text before next reader out x =
    let y : IsShaking g head text before next reader shake out = begun_shaking g head text before next reader shake false out x in
    record { part = items_done g y.done new_opened; is_part = read_part g head text y.done y.at reader y.read; tells = y.tells }
fed_short (phases.Shaking shake) g head text before next reader out x =
    record { part = items_done g x.done new_opened; is_part = read_part g head text x.done x.at reader x.read; tells = x.tells }
fed_short phases.Over g head text before next reader out x = absurd x

pub stands_short : (phase : Phase) (g : Grounds) (head : Head Upgrade HeadFault) (text piece before : List ℕ) (next : ℕ → List ℕ) (reader : Reader) (out : List ℕ)
    → StandsIn phase g head text before next reader out → RanShort g head (text ++ piece) before next out
stands_short phase g head text piece before next reader out x =
    fed_short phase g head (text ++ piece) before next (fed piece reader) out (stands_fed phase g head text piece before next reader out x)

-- ---- the link is framed

short_nil : is_too_long [] ≡ false
unfolding is_too_long
short_nil = refl

pub held_framed : (g : Grounds) (head : Head Upgrade HeadFault) (text before : List ℕ) (next : ℕ → List ℕ) (reader : Reader) (shake : ServerState) (out : List ℕ)
    → IsBegun g head text before next reader shake false out
    → IsWaiting g head (take (length text - length reader.unread) text) before next (record { behind_head = true; unread = [] }) shake out
held_framed g head text before next reader shake out x =
    let p : Placed Upgrade HeadFault = record { item = HeadItem (Ok x.upgrade); place = x.place } in
    let opened_reader : HasRead head text (p ∷ []) x.place (record { behind_head = true; unread = reader.unread }) =
    subst (λ (b : Bool). HasRead head text (p ∷ []) x.place (record { behind_head = b; unread = reader.unread })) x.behind x.read in
    let read : HasRead head (take x.place text) (p ∷ []) x.place (record { behind_head = true; unread = [] }) = read_front head text reader.unread x.upgrade x.place opened_reader in
    let size : length reader.unread ≡ length text - x.place = ap length (sym x.read.left) ∙ length-drop x.place text in
    let place : x.place ≡ length text - length reader.unread = omega (arith, x.read.within) in
    let one = one_head g x.upgrade x.place in
    subst (λ (n : ℕ). IsWaiting g head (take n text) before next (record { behind_head = true; unread = [] }) shake out) place
    (record {
      shaking = record {
        done = p ∷ [];
        at = x.place;
        read = read;
        behind = refl;
        stage = ap (λ (s : Opened). s.stage) one ∙ x.stage;
        tells = tells_of g before next out (head_came g (Ok x.upgrade) new_opened) (items_done g (p ∷ []) new_opened) one x.tells;
      };
      all = only head (take x.place text) (p ∷ []) x.place read;
    })
  where
    only : (head : Head Upgrade HeadFault) (text : List ℕ) (done : List (Placed Upgrade HeadFault)) (at : ℕ) → HasRead head text done at (record { behind_head = true; unread = [] }) → items head text ≡ done
    only head text done at read =
        read_items head text done at (record { behind_head = true; unread = [] }) read ∙ ap (λ (ps : List (Placed Upgrade HeadFault)). done ++ ps) (frames_partial at [] first_frame-nil short_nil) ∙ append-nil done

framed_at : (phase : Phase) (g : Grounds) (head : Head Upgrade HeadFault) (text before : List ℕ) (next : ℕ → List ℕ) (reader : Reader) (out : List ℕ)
    → NeedsFraming phase → StandsIn phase g head text before next reader out
    → StandsIn (framed_phase phase) g head (take (length text - length reader.unread) text) before next (record { behind_head = reader.behind_head; unread = [] }) out
framed_at phases.Heading g head text before next reader out needs x = absurd needs
framed_at (phases.Held shake) g head text before next reader out needs x =
    subst (λ (b : Bool). IsWaiting g head (take (length text - length reader.unread) text) before next (record { behind_head = b; unread = [] }) shake out) (sym x.behind)
    (held_framed g head text before next reader shake out x)
framed_at (phases.Shaking shake) g head text before next reader out needs x = absurd needs
framed_at phases.Over g head text before next reader out needs x = absurd needs

-- ---- the same of an opening of which this is inside

pub fed_by : (opening : OpeningState) (inside_phase phase : Phase) (inside_reader reader : Reader) (g : Grounds) (head : Head Upgrade HeadFault) (text piece before : List ℕ) (next : ℕ → List ℕ) (out : List ℕ)
    → record { reader = inside_reader; phase = inside_phase } ≡ opening → phase ≡ inside_phase → reader ≡ fed piece inside_reader
    → Stands g head text before next opening out → IsFed phase g head (text ++ piece) before next reader out
fed_by opening inside_phase phase inside_reader reader g head text piece before next out inside phase_is reader_is x =
    let stands : StandsIn inside_phase g head text before next inside_reader out = subst (λ (o : OpeningState). StandsIn o.phase g head text before next o.reader out) (sym inside) x in
    let came : IsFed inside_phase g head (text ++ piece) before next (fed piece inside_reader) out = stands_fed inside_phase g head text piece before next inside_reader out stands in
    subst (λ (r : Reader). IsFed phase g head (text ++ piece) before next r out) (sym reader_is)
    (subst (λ (p : Phase). IsFed p g head (text ++ piece) before next (fed piece inside_reader) out) (sym phase_is) came)

pub framed_by : (opening : OpeningState) (inside_phase phase new_phase : Phase) (inside_reader reader : Reader) (g : Grounds) (head : Head Upgrade HeadFault) (text before : List ℕ) (next : ℕ → List ℕ) (out : List ℕ)
    → record { reader = inside_reader; phase = inside_phase } ≡ opening → phase ≡ inside_phase → new_phase ≡ framed_phase phase
    → reader ≡ record { behind_head = inside_reader.behind_head; unread = [] } → NeedsFraming opening.phase
    → Stands g head text before next opening out
    → Stands g head (take (length text - length opening.reader.unread) text) before next (record { reader = reader; phase = new_phase }) out
framed_by opening inside_phase phase new_phase inside_reader reader g head text before next out inside phase_is new_is reader_is needs x =
    let cleared : reader ≡ record { behind_head = opening.reader.behind_head; unread = [] } =
    reader_is ∙ ap (λ (o : OpeningState). record { behind_head = o.reader.behind_head; unread = [] }) inside in
    let framed : new_phase ≡ framed_phase opening.phase = new_is ∙ ap framed_phase (phase_is ∙ ap (λ (o : OpeningState). o.phase) inside) in
    subst (λ (r : Reader). StandsIn new_phase g head (take (length text - length opening.reader.unread) text) before next r out) (sym cleared)
    (subst (λ (p : Phase). StandsIn p g head (take (length text - length opening.reader.unread) text) before next (record { behind_head = opening.reader.behind_head; unread = [] }) out) (sym framed)
    (framed_at opening.phase g head text before next opening.reader out needs x))
