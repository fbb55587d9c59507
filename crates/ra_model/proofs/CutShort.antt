-- Moves that no event of a world makes: an event cut short by want of memory, and frames that are written on a link before it begins.
use Rattle.std.proofs.Common.{◌≡◌, ℕ, ◌<◌, ◌≤◌, Bool, true, false, cond, Some, List, [], ◌++◌, length, take, drop, refl, ap, sym, ◌∙◌, subst, arith}
use Rattle.std.proofs.Math.Seq.{drop-nil, drop-length}
use Rattle.std.proofs.lemmas.Bool.{cond_both, cond-true, cond-false, le-leb, and_from, and_left, eq-eqb}
use Rattle.std.proofs.lemmas.List.{append-nil}
use Rattle.ra_model.specs.declared.frame.Frame.{Frame}
use Rattle.ra_model.specs.declared.session.Phase.TheVariants.{Away}
use Rattle.ra_model.specs.Frames.{joined}
use Rattle.ra_model.specs.Endpoints.{Endpoint, is_linked, shown}
use Rattle.ra_model.specs.Timing.{alarms_cleared}
use Rattle.ra_model.specs.Calls.{wrote, lose}
use Rattle.ra_model.specs.Links.{other, Direction, Link, direction_to, at_number, put_number, written_to}
use Rattle.ra_model.specs.Worlds.{Peer, with_endpoint}
use Rattle.ra_model.specs.Events.{links_written}
use Rattle.ra_base.specs.declared.event.Side.{Side}
use Rattle.ra_model.specs.Pairs.{messages, AllHonest}
use Rattle.ra_model.specs.Views.{HasWritten, EndpointWrote, IsEmptyAway, View, broken_off}
use Rattle.ra_model.proofs.Outgoing.{outgoing_discard, outgoing_elsewhere, outgoing_ahead}
use Rattle.ra_model.proofs.Incoming.{incoming_elsewhere}
use Rattle.ra_model.proofs.Calls.{outgoing_lose}
use Rattle.ra_model.proofs.Kept.{kept_lose, kept_unwritten}
use Rattle.ra_model.proofs.Away.{away_lose}
use Rattle.ra_model.proofs.Sound.{view_call}
use Rattle.ra_model.proofs.LinkMoves.{view_write, written_text, written_read, written_other, written_cut}

-- the endpoint with this that is unwritten
with_unwritten : List ℕ → Endpoint → Endpoint
with_unwritten text e = record e { unwritten = text }

wrote_is : (k : ℕ) (e : Endpoint) → k ≤ length (shown e) → wrote k e ≡ with_unwritten (drop k e.unwritten) e
unfolding wrote with_unwritten
wrote_is k e fits = cond-true _ _ _ (le-leb k (length (shown e)) fits)

-- where there is a link, what was unwritten makes no difference
lose_linked : (text : List ℕ) (e : Endpoint) → is_linked e.phase ≡ true → lose e.epoch (with_unwritten text e) ≡ record e { phase = Away; unread = []; unwritten = []; timing = alarms_cleared e.timing }
unfolding lose with_unwritten
lose_linked text e up = cond-true _ _ _ (and_from _ _ up (eq-eqb e.epoch e.epoch refl))

lose_unlinked : (text : List ℕ) (e : Endpoint) → is_linked e.phase ≡ false → lose e.epoch (with_unwritten text e) ≡ with_unwritten text e
unfolding lose with_unwritten
lose_unlinked text e down = cond-false _ _ _ (and_left _ _ down)

lose_wrote : (k : ℕ) (e : Endpoint) → k ≤ length (shown e) → lose e.epoch (wrote k e) ≡ lose e.epoch (with_unwritten (drop k e.unwritten) e)
lose_wrote k e fits = ap (λ (x : Endpoint). lose e.epoch x) (wrote_is k e fits)

-- without a link all that is shown may vanish
outgoing_rest : (to : Side) (i : ℕ) (e : Endpoint) (k : ℕ) (links : List Link) → k ≤ length (shown e) → is_linked e.phase ≡ false
    → EndpointWrote to i (with_unwritten (drop k e.unwritten) e) links → EndpointWrote to i (with_unwritten (drop (length (shown e)) e.unwritten) e) links
unfolding with_unwritten
outgoing_rest to i e k links fits down h =
    cond_both e.paused [] e.unwritten (λ (t : List ℕ). k ≤ length t → EndpointWrote to i (record e { unwritten = drop (length t) e.unwritten }) links)
    (λ _ none. let nothing : k ≡ 0 = (let low : k ≤ 0 = none in omega arith) in subst (λ (n : ℕ). EndpointWrote to i (record e { unwritten = drop n e.unwritten }) links) nothing h)
    (λ _ some. subst (λ (t : List ℕ). EndpointWrote to i (record e { unwritten = t }) links) (sym (drop-length e.unwritten))
    (subst (λ (b : Bool). HasWritten to e.base e.said e.received i b [] links) (sym down) (outgoing_discard h)))
    fits

away_rest : (e : Endpoint) (n : ℕ) → IsEmptyAway e → IsEmptyAway (with_unwritten (drop n e.unwritten) e)
unfolding with_unwritten
away_rest e n h = record { unread = h.unread; unwritten = λ is. ap (λ (t : List ℕ). drop n t) (h.unwritten is) ∙ drop-nil n }

broken_by : (start : ℕ) (s : Side) (i j : ℕ) (p o : Peer) (links : List Link) (k : ℕ) (linked : Bool) → k ≤ length (shown p.endpoint) → is_linked p.endpoint.phase ≡ linked → IsEmptyAway p.endpoint
    → View start s i j (with_endpoint (wrote k p.endpoint) p) o links → View start s i j (with_endpoint (broken_off p.endpoint) p) o links
unfolding with_unwritten
broken_by start s i j p o links k true fits is away v =
    let e : Endpoint = p.endpoint in
    let same : lose e.epoch (wrote k e) ≡ broken_off e =
    lose_wrote k e fits ∙ lose_linked (drop k e.unwritten) e is ∙ sym (lose_wrote (length (shown e)) e (omega arith) ∙ lose_linked (drop (length (shown e)) e.unwritten) e is) in
    subst (λ (x : Endpoint). View start s i j (with_endpoint x p) o links) same
    (view_call start s i j (with_endpoint (wrote k e) p) o links (lose e.epoch (wrote k e)) v (kept_lose e.epoch (wrote k e)) (outgoing_lose (other s) i (wrote k e) links e.epoch v.mine) (away_lose e.epoch (wrote k e) v.away))
broken_by start s i j p o links k false fits is away v =
    let e : Endpoint = p.endpoint in
    let some : Endpoint = with_unwritten (drop k e.unwritten) e in
    let all : Endpoint = with_unwritten (drop (length (shown e)) e.unwritten) e in
    let same : broken_off e ≡ all = lose_wrote (length (shown e)) e (omega arith) ∙ lose_unlinked (drop (length (shown e)) e.unwritten) e is in
    let w : View start s i j (with_endpoint some p) o links = subst (λ (x : Endpoint). View start s i j (with_endpoint x p) o links) (wrote_is k e fits) v in
    subst (λ (x : Endpoint). View start s i j (with_endpoint x p) o links) (sym same)
    (view_call start s i j (with_endpoint some p) o links all w (kept_unwritten some (drop (length (shown e)) e.unwritten)) (outgoing_rest (other s) i e k links fits is w.mine) (away_rest e (length (shown e)) away))

-- all that is shown goes, the link gets a front of it, and the end is then lost
pub view_broken : (start : ℕ) (s : Side) (i j : ℕ) (p o : Peer) (links : List Link) (k : ℕ) → View start s i j p o links → k ≤ length (shown p.endpoint)
    → View start s i j (with_endpoint (broken_off p.endpoint) p) o (links_written s (take k (shown p.endpoint)) i (at_number links i) links)
view_broken start s i j p o links k v fits =
    broken_by start s i j p o (links_written s (take k (shown p.endpoint)) i (at_number links i) links) k (is_linked p.endpoint.phase) fits refl v.away (view_write start s i j p o links k v fits)

outgoing_before : (to : Side) (i : ℕ) (e : Endpoint) (links : List Link) (n : ℕ) (l : Link) (frames : List Frame) (cut : Bool) → l.is_cut ≡ cut → EndpointWrote to i e links → i < n → at_number links n ≡ Some l → AllHonest e.base (messages e) e.received frames
    → EndpointWrote to i e (put_number links n (written_to to (joined frames) l))
outgoing_before to i e links n l frames true is h later at all =
    outgoing_elsewhere h n l (written_to to (joined frames) l) at
    (written_text to (joined frames) l ∙ ap (λ (b : Bool). (direction_to to l).written ++ cond b [] (joined frames)) is ∙ append-nil (direction_to to l).written)
    (λ kept. sym (written_cut to (joined frames) l) ∙ kept)
outgoing_before to i e links n l frames false is h later at all =
    outgoing_ahead h n l (written_to to (joined frames) l) frames later at
    (written_text to (joined frames) l ∙ ap (λ (b : Bool). (direction_to to l).written ++ cond b [] (joined frames)) is) all

-- whole honest frames are written on a link that has not begun
pub view_ahead : (start : ℕ) (s : Side) (i j : ℕ) (p o : Peer) (links : List Link) (n : ℕ) (l : Link) (frames : List Frame) → View start s i j p o links → i < n → at_number links n ≡ Some l → AllHonest start (messages p.endpoint) p.endpoint.received frames
    → View start s i j p o (put_number links n (written_to (other s) (joined frames) l))
view_ahead start s i j p o links n l frames v later at all =
    let bytes : List ℕ = joined frames in
    let l' : Link = written_to (other s) bytes l in
    let aside : direction_to s l' ≡ direction_to s l = written_other s bytes l in
    record {
      base = v.base;
      their_base = v.their_base;
      mine = outgoing_before (other s) i p.endpoint links n l frames l.is_cut refl v.mine later at (subst (λ (b : ℕ). AllHonest b (messages p.endpoint) p.endpoint.received frames) (sym v.base) all);
      reads = incoming_elsewhere v.reads n l l' [] at (ap (λ (w : Direction). w.read) aside) (ap (λ (w : Direction). w.written) aside ∙ sym (append-nil (direction_to s l).written));
      theirs = outgoing_elsewhere v.theirs n l l' at (ap (λ (w : Direction). w.written) aside) (λ kept. sym (written_cut (other s) bytes l) ∙ kept);
      their_reads = incoming_elsewhere v.their_reads n l l' (cond l.is_cut [] bytes) at (written_read (other s) bytes l) (written_text (other s) bytes l);
      out = v.out;
      back = v.back;
      away = v.away;
      their_away = v.their_away;
    }
