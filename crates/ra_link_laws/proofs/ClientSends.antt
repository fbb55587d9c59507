-- A client hands out what its dialer has to write: nothing, or what its attached session shows.
use Rattle.std.proofs.Common.{◌≡◌, ℕ, zero, suc, ◌+◌, ◌≤◌, Bool, true, false, cond, nat_le, Option, None, List, [], ◌∷◌, ◌++◌, length, drop, refl, ap, sym, ◌∙◌, subst, append-nil, append_assoc, length-set, set-set, le_refl, arith}
use Rattle.std.specs.Prelude.{slice_set, ⊤}
use Rattle.std.proofs.lemmas.Bool.{cond_both, false≢true, le-leb}
use Rattle.ra_base.specs.declared.event.Side.TheVariants.{A, B}
use Rattle.ra_model.specs.Calls.{wrote}
use Rattle.ra_model.specs.Endpoints.{Endpoint, is_linked, shown}
use Rattle.ra_model.specs.Links.{Link, put_number, written_to}
use Rattle.ra_model.specs.Views.{View}
use Rattle.ra_model.proofs.Numbers.{put_same, length-put_number}
use Rattle.ra_registry.specs.declared.row.Row.{Row}
use Rattle.ra_session.specs.OnLinks.{IsRunning}
use Rattle.ra_session.specs.SessionCalls.{emptied, take_out}
use Rattle.ra_session.specs.Sessions.{Session}
use Rattle.ra_views.proofs.LinkTurns.{link_out}
use Rattle.ra_views.proofs.SessionLinks.{number_link, link_take_out}
use Rattle.ra_dial.specs.declared.stage.Stage.{Stage}
use Rattle.ra_dial.specs.declared.stage.Stage.TheVariants as stages
use Rattle.ra_dial.specs.declared.values.DialEnd.{DialEnd}
use Rattle.ra_dial.specs.Acts.{Act}
use Rattle.ra_dial.specs.Dialers.{Dialer}
use Rattle.ra_grand_runs.specs.GrandClients.{GrandLink, Client, writes_up}
use Rattle.ra_grand_runs.specs.Lasts.{with_last_of, with_last}
use Rattle.ra_run_laws.proofs.Lists.{there_is, get_same}
use Rattle.ra_link_laws.specs.Parts.{StageKeeps, PartHolds}
use Rattle.ra_link_laws.proofs.ClientGrounds.{Ground, After, part_made}
use Rattle.ra_link_laws.proofs.ClientLinks.{Here, last_is, links_up}
use Rattle.ra_link_laws.proofs.SessionLinkMoves.{backs_itself, backs_put, nothing_link}

-- ---- nothing is written

stays_of : {X : Type 0} → (f : X → X) → ((x : X) → f x ≡ x) → (x : X) (xs : List X) → with_last_of f x xs ≡ x ∷ xs
stays_of f same x [] = ap (λ y. y ∷ []) (same x)
stays_of f same x (y ∷ ys) = ap (λ zs. x ∷ zs) (stays_of f same y ys)

stays : {X : Type 0} → (f : X → X) → ((x : X) → f x ≡ x) → (xs : List X) → with_last f xs ≡ xs
stays f same [] = refl
stays f same (x ∷ xs) = stays_of f same x xs

nothing_sent : (s : Option Session) (o : Option Row) (c : Client) (g : Ground s o c) (dialer : Dialer) (drawn : ℕ) (bytes : List ℕ) → bytes ≡ []
    → dialer.settings ≡ c.dialer.settings → dialer.pending ≡ [] → IsRunning dialer.session → View 0 A g.number g.present dialer.session.peer g.peer g.session_links
    → StageKeeps (record { key = c.key; dialer = dialer; drawn = drawn; links = c.links }) g.draws g.session_links g.number g.attached dialer.stage
    → PartHolds s o (record { key = c.key; dialer = dialer; drawn = drawn; links = with_last (writes_up bytes) c.links })
nothing_sent s o c g dialer drawn bytes is settings none runs view stage =
    let same : with_last (writes_up bytes) c.links ≡ c.links = ap (λ (t : List ℕ). with_last (writes_up t) c.links) is ∙ stays (writes_up []) nothing_link c.links in
    subst (λ (ls : List GrandLink). PartHolds s o (record { key = c.key; dialer = dialer; drawn = drawn; links = ls })) (sym same)
    (part_made s o c g dialer drawn c.links g.session_links g.number g.attached settings none runs view refl (backs_itself g.session_links) g.links stage)

-- the session is not attached
abbrev pub IsApart : Stage → Type 0
IsApart (stages.Resting until) = ⊤
IsApart (stages.Calling since) = ⊤
IsApart (stages.Shaking since s) = ⊤
IsApart stages.Attached = ⊥
IsApart (stages.Over end) = ⊤

pub rests : (s : Option Session) (o : Option Row) (c : Client) (g : Ground s o c) (drawn : ℕ) (act : Act) (d : Dialer) (stage : Stage) → IsApart stage
    → d.settings ≡ c.dialer.settings → d.pending ≡ [] → IsRunning d.session → View 0 A g.number g.present d.session.peer g.peer g.session_links
    → StageKeeps c g.draws g.session_links g.number g.attached stage → After s o c drawn (act, record d { stage = stage })
rests s o c g drawn act d (stages.Resting until) apart settings none runs view keeps =
    nothing_sent s o c g (record d { stage = stages.Resting until; pending = [] }) drawn (d.pending ++ []) (append-nil d.pending ∙ none) settings refl runs view keeps
rests s o c g drawn act d (stages.Calling since) apart settings none runs view keeps =
    nothing_sent s o c g (record d { stage = stages.Calling since; pending = [] }) drawn (d.pending ++ []) (append-nil d.pending ∙ none) settings refl runs view keeps
rests s o c g drawn act d (stages.Shaking since shaking) apart settings none runs view keeps =
    nothing_sent s o c g (record d { stage = stages.Shaking since shaking; pending = [] }) drawn (d.pending ++ []) (append-nil d.pending ∙ none) settings refl runs view keeps
rests s o c g drawn act d stages.Attached apart settings none runs view keeps = absurd apart
rests s o c g drawn act d (stages.Over end) apart settings none runs view keeps =
    nothing_sent s o c g (record d { stage = stages.Over end; pending = [] }) drawn (d.pending ++ []) (append-nil d.pending ∙ none) settings refl runs view keeps

-- ---- bytes of an attached session

shown_drop : (paused : Bool) (xs : List ℕ) → cond paused [] (drop (length (cond paused [] xs)) xs) ≡ []
shown_drop true xs = refl
shown_drop false xs = none xs
  where
    none : (ys : List ℕ) → drop (length ys) ys ≡ []
    none [] = refl
    none (y ∷ ys) = none ys

shown_emptied : (e : Endpoint) → shown (emptied e) ≡ []
unfolding wrote
shown_emptied e =
    cond_both (nat_le (length (shown e)) (length (shown e))) _ _ (λ (x : Endpoint). shown x ≡ []) (λ yes. shown_drop e.paused e.unwritten)
    (λ no. absurd (false≢true (sym no ∙ le-leb (length (shown e)) (length (shown e)) (le_refl (length (shown e))))))

shown_out : (s : Session) → shown (take_out s).peer.endpoint ≡ []
unfolding take_out
shown_out s = shown_emptied s.peer.endpoint

pub put_again : {X : Type 0} → (xs : List X) (n : ℕ) (x y : X) → put_number (put_number xs n x) n y ≡ put_number xs n y
put_again xs zero x y = refl
put_again xs (suc n) x y = set-set xs n x y

both_if : (b : Bool) (w x y : List ℕ) → (w ++ cond b [] x) ++ cond b [] y ≡ w ++ cond b [] (x ++ y)
both_if true w x y = append-nil (w ++ [])
both_if false w x y = append_assoc w x y

pub both_up : (x y : List ℕ) (l : Link) → written_to B y (written_to B x l) ≡ written_to B (x ++ y) l
both_up x y l =
    ap (λ (t : List ℕ). record { to_a = l.to_a; to_b = record { written = t; read = l.to_b.read }; is_cut = l.is_cut }) (both_if l.is_cut l.to_b.written x y)

-- it is still attached, and what it shows goes out behind what waits
pub attached_on : (s : Option Session) (o : Option Row) (c : Client) (g : Ground s o c) (h : Here g.session_links g.number c.links) (drawn : ℕ) (act : Act) (d : Dialer)
    → g.attached ≡ length c.links → d.settings ≡ c.dialer.settings → IsRunning d.session
    → View 0 A g.number g.present d.session.peer g.peer (put_number g.session_links g.number (written_to B d.pending h.session_link))
    → (d.session.cause ≡ None → is_linked d.session.peer.endpoint.phase ≡ true) → h.welcome.down ≤ h.link.link.to_a.read
    → (d.session.cause ≡ None → h.session_link.to_a.read + h.welcome.down ≡ length h.welcome.pause + h.link.link.to_a.read)
    → After s o c drawn (act, record d { stage = stages.Attached })
attached_on s o c g h drawn act d all settings runs view linked behind read =
    let shows = shown d.session.peer.endpoint in
    let bytes = d.pending ++ shows in
    let first = written_to B d.pending h.session_link in
    let second = written_to B bytes h.session_link in
    let session_links = put_number g.session_links g.number second in
    let fresh = writes_up bytes h.link in
    let links = slice_set c.links h.place fresh in
    let went = take_out d.session in
    let keeps = link_take_out d.session in
    let shown_view : View 0 A g.number g.present went.peer g.peer session_links =
    subst (λ (x : Link). View 0 A g.number g.present went.peer g.peer (put_number g.session_links g.number x)) (both_up d.pending shows h.session_link)
    (subst (λ (ls : List Link). View 0 A g.number g.present went.peer g.peer ls) (put_again g.session_links g.number first (written_to B shows first))
    (link_out 0 A g.number g.present d.session g.peer (put_number g.session_links g.number first) view first (put_same g.session_links g.number h.session_link first h.session_link_at))) in
    let dialer = record d { stage = stages.Attached; pending = []; session = went } in
    subst (λ (ls : List GrandLink). PartHolds s o (record { key = c.key; dialer = dialer; drawn = drawn; links = ls }))
    (sym (last_is (writes_up bytes) c.links h.place h.link h.count h.at))
    (part_made s o c g dialer drawn links session_links g.number g.attached settings refl ((number_link take_out link_take_out d.session).1 runs) shown_view
    (length-put_number g.session_links g.number second) (backs_put g.session_links g.number h.session_link second h.session_link_at refl refl (λ kept. kept))
    (links_up c.key g.draws g.session_links g.present g.number g.attached c.links h bytes g.links) (
      all ∙ sym (length-set c.links h.place fresh),
      (
        h.place,
        fresh,
        length-set c.links h.place fresh ∙ h.count,
        get_same c.links h.place fresh h.link h.at,
        record {
          welcome = h.welcome;
          is_there = h.is_there;
          is_number = h.is_number;
          behind = behind;
          on_link = λ going. (refl, ap is_linked keeps.1 ∙ linked (sym keeps.2 ∙ going));
          quiet = shown_out d.session;
          read = λ going x at.
              let same : second ≡ x = there_is (sym (put_same g.session_links g.number h.session_link second h.session_link_at) ∙ at) in
              ap (λ (v : Link). v.to_a.read + h.welcome.down) (sym same) ∙ read (sym keeps.2 ∙ going);
        },
      ),
    ))

-- it is over, and what waits still goes out
pub left_over : (s : Option Session) (o : Option Row) (c : Client) (g : Ground s o c) (h : Here g.session_links g.number c.links) (drawn : ℕ) (act : Act) (d : Dialer) (end : DialEnd)
    → d.settings ≡ c.dialer.settings → IsRunning d.session
    → View 0 A g.number g.present d.session.peer g.peer (put_number g.session_links g.number (written_to B d.pending h.session_link))
    → After s o c drawn (act, record d { stage = stages.Over end })
left_over s o c g h drawn act d end settings runs view =
    let bytes = d.pending ++ [] in
    let second = written_to B bytes h.session_link in
    let session_links = put_number g.session_links g.number second in
    let fresh = writes_up bytes h.link in
    let links = slice_set c.links h.place fresh in
    let dialer = record d { stage = stages.Over end; pending = [] } in
    let low = g.within in
    subst (λ (ls : List GrandLink). PartHolds s o (record { key = c.key; dialer = dialer; drawn = drawn; links = ls }))
    (sym (last_is (writes_up bytes) c.links h.place h.link h.count h.at))
    (part_made s o c g dialer drawn links session_links g.number g.attached settings refl runs
    (subst (λ (t : List ℕ). View 0 A g.number g.present d.session.peer g.peer (put_number g.session_links g.number (written_to B t h.session_link))) (sym (append-nil d.pending)) view)
    (length-put_number g.session_links g.number second) (backs_put g.session_links g.number h.session_link second h.session_link_at refl refl (λ kept. kept))
    (links_up c.key g.draws g.session_links g.present g.number g.attached c.links h bytes g.links)
    (omega (arith, low, length-set c.links h.place fresh)))
