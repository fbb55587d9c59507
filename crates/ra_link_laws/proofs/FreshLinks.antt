-- A link that a client makes, on which nothing came yet.
use Rattle.std.proofs.Common.{◌≡◌, ◌⊎◌, inl, inr, ℕ, zero, suc, ◌+◌, ◌-◌, ◌^◌, ◌<◌, Bool, true, cond, eqb, List, [], ◌∷◌, ◌++◌, length, drop, Option, Some, None, refl, ap, sym, ◌∙◌, subst, arith}
use Rattle.std.specs.Prelude.{nat_lt, min, All, replicate, slice_get, Result, Ok}
use Rattle.std.specs.List.{AllByRecursion}
use Rattle.std.specs.Int.{byte_at, w64, to_be_bytes}
use Rattle.std.proofs.lemmas.Bool.{ne_eqb, eq-eqb, lt-ltb}
use Rattle.std.proofs.lemmas.List.Elements.{All-nil, All-cons, All-append, All-replicate}
use Rattle.ra_base.specs.declared.handshake.Reason.TheVariants.{MalformedFirst}
use Rattle.ra_model.specs.Links.{Link}
use Rattle.ra_model.proofs.Numbers.{get_within}
use Rattle.ra_upgrade.specs.declared.request_head.HeadFault.{HeadFault}
use Rattle.ra_upgrade.specs.declared.request_head.Upgrade.{Upgrade}
use Rattle.ra_upgrade.specs.RequestTexts.{request_text, lines_of}
use Rattle.ra_items.specs.Heads.{Head, sized}
use Rattle.ra_items.specs.Items.{items_by, items}
use Rattle.ra_opening.specs.Openings.{Opened, new_opened, items_done, opened}
use Rattle.ra_opening.specs.Verdicts.{refusal_bytes}
use Rattle.ra_link_core.specs.LinkRuns.{Welcome}
use Rattle.ra_dial.specs.Clients.{Settings, request_of}
use Rattle.ra_dial.specs.Dialers.{epoch}
use Rattle.ra_grand_runs.specs.Draws.{nth_draw, draws_after, first_draws}
use Rattle.ra_grand_runs.specs.GrandClients.{GrandLink, Client, fresh_link}
use Rattle.ra_grand_runs.specs.SetUps.{settings_for, request_head, grounds}
use Rattle.ra_run_laws.proofs.Lists.{none_there, there_is}
use Rattle.ra_handshake_laws.specs.Handshakes.{client_text, greeting}
use Rattle.ra_link_laws.specs.Parts.{Drawn, IsWaiting, LinkKeeps}
use Rattle.ra_link_laws.proofs.ClientGrounds.{LinksKeep}

-- ---- draws

abbrev IsByte : ℕ → Type 0
IsByte b = b < 256

each_of : {X : Type 0} (P : X → Type 0) (xs : List X) → AllByRecursion P xs → All P xs
each_of P [] h = All-nil P
each_of P (x ∷ xs) h = All-cons P x xs h.0 (each_of P xs h.1)

small_byte : (i n : ℕ) → byte_at i n < 256
small_byte zero n = omega arith
small_byte (suc i) n = omega arith

draw_bytes : (n : ℕ) → All IsByte (nth_draw n)
unfolding nth_draw
draw_bytes n =
    let m = min n (2 ^ 64 - 1) in
    All-append IsByte (replicate 8 0) (to_be_bytes w64 m) (All-replicate IsByte 8 0 (omega arith))
    (each_of IsByte (to_be_bytes w64 m) (small_byte 7 m, (small_byte 6 m, (small_byte 5 m, (small_byte 4 m, (small_byte 3 m, (small_byte 2 m, (small_byte 1 m, (small_byte 0 m, tt)))))))))

draw_len : (n : ℕ) → length (nth_draw n) ≡ 16
unfolding nth_draw
draw_len n = refl

-- what a client draws for its next link
abbrev pub drawn_next : Client → Drawn
drawn_next c = record { key = draws_after c.drawn 0; own = draws_after c.drawn 1; reconnection = nat_lt 0 (epoch c.dialer) }

-- these draws, and that one at a place
abbrev pub draws_with : ℕ → Drawn → (ℕ → Drawn) → ℕ → Drawn
draws_with n new draws m = cond (eqb m n) new (draws m)

pub draw_there : (n : ℕ) (new : Drawn) (draws : ℕ → Drawn) → draws_with n new draws n ≡ new
draw_there n new draws = ap (λ (b : Bool). cond b new (draws n)) (eq-eqb n n refl)

draw_below : (n m : ℕ) (new : Drawn) (draws : ℕ → Drawn) → m < n → draws_with n new draws m ≡ draws m
draw_below n m new draws low = ap (λ (b : Bool). cond b new (draws m)) (ne_eqb m n (λ e. omega (arith, e, low)))

-- ---- the server's end of it

open_by : Bool → Head Upgrade HeadFault → Result (Option (Upgrade × ℕ)) HeadFault
open_by b head = cond b (Ok None) (sized head.size head.says)

some_text : (text : List ℕ) → text ≡ 71 ∷ drop 1 text → nat_lt 0 (length text) ≡ true
some_text text is = ap (λ (t : List ℕ). nat_lt 0 (length t)) is ∙ lt-ltb 0 (length (71 ∷ drop 1 text)) (omega arith)

some_request : (settings : Settings) (reconnection : Bool) (key : List ℕ) → nat_lt 0 (request_head settings reconnection key).size ≡ true
unfolding request_text lines_of
some_request settings reconnection key = some_text (request_of settings reconnection key) refl

-- nothing was opened
nothing_opened : (draw : ℕ → List ℕ) (settings : Settings) (reconnection : Bool) (key : List ℕ) → opened (grounds draw) (request_head settings reconnection key) [] ≡ new_opened
unfolding opened items open_by
nothing_opened draw settings reconnection key =
    let head = request_head settings reconnection key in
    ap (λ (b : Bool). items_done (grounds draw) (items_by (open_by b head) []) new_opened) (some_request settings reconnection key)

-- ---- the link

pub fresh_keeps : (c : Client) (session_links : List Link) (present : ℕ) → c.dialer.settings ≡ settings_for c.key → LinkKeeps c.key (drawn_next c) session_links present (fresh_link c)
fresh_keeps c session_links present settings =
    let d = drawn_next c in
    let blank = nothing_opened (λ n. []) c.dialer.settings d.reconnection d.key in
    record {
      key_len = draw_len (c.drawn + 0 + 1);
      key_bytes = draw_bytes (c.drawn + 0 + 1);
      head = ap (λ (s : Settings). request_head s d.reconnection d.key) settings;
      up = omega arith;
      down = omega arith;
      seen = refl;
      put = record { rest = []; same = refl };
      put_all = λ is. refl;
      speaks = ([], [], MalformedFirst, greeting d.key [] [] ++ refusal_bytes MalformedFirst, refl);
      welcome = ([], client_text c.key d.reconnection d.key d.own [], refl);
      end = record {
        draw = [];
        welcome = refl;
        waits = subst (λ (x : Opened). IsWaiting x.stage) (sym blank) tt;
        out = sym (ap (λ (x : Opened). x.out) blank);
        drawn = sym (ap (λ (x : Opened). first_draws x.drawn (λ n. [])) blank);
      };
    }

-- ---- with the others

get_end : {X : Type 0} → (xs : List X) (x : X) (n : ℕ) (y : X) → slice_get (xs ++ x ∷ []) n ≡ Some y → (slice_get xs n ≡ Some y) ⊎ ((n ≡ length xs) × (x ≡ y))
get_end [] x zero y is = inr (refl, there_is is)
get_end [] x (suc n) y is = inl is
get_end (z ∷ xs) x zero y is = inl is
get_end (z ∷ xs) x (suc n) y is = more (get_end xs x n y is)
  where
    more : {A B : Type 0} → {m k : ℕ} → A ⊎ ((m ≡ k) × B) → A ⊎ ((suc m ≡ suc k) × B)
    more (inl e) = inl e
    more (inr p) = inr (ap (λ (i : ℕ). suc i) p.0, p.1)

pub get_last : {X : Type 0} → (xs : List X) (x : X) → slice_get (xs ++ x ∷ []) (length xs) ≡ Some x
get_last [] x = refl
get_last (y ∷ ys) x = get_last ys x

pub links_fresh : (c : Client) (draws : ℕ → Drawn) (session_links : List Link) (present number attached : ℕ) → c.dialer.settings ≡ settings_for c.key
    → LinksKeep c.key draws session_links present number attached c.links
    → LinksKeep c.key (draws_with (length c.links) (drawn_next c) draws) session_links present number attached (c.links ++ fresh_link c ∷ [])
links_fresh c draws session_links present number attached settings keep = record {
  each = λ n l is. each n l (get_end c.links (fresh_link c) n l is);
  apart = λ n m k l v w one other first second equal.
      keep.apart n m k l v w (known n k v (get_end c.links (fresh_link c) n k one) first) (known m l w (get_end c.links (fresh_link c) m l other) second) first second equal;
  later = λ n l w is low there. keep.later n l w (known n l w (get_end c.links (fresh_link c) n l is) there) low there;
}
  where
    new : Drawn
    new = drawn_next c

    each : (n : ℕ) (l : GrandLink) → (slice_get c.links n ≡ Some l) ⊎ ((n ≡ length c.links) × (fresh_link c ≡ l))
        → LinkKeeps c.key (draws_with (length c.links) new draws n) session_links present l
    each n l (inl is) =
        subst (λ (d : Drawn). LinkKeeps c.key d session_links present l) (sym (draw_below (length c.links) n new draws (get_within c.links n l is))) (keep.each n l is)
    each n l (inr p) =
        subst (λ (m : ℕ). LinkKeeps c.key (draws_with (length c.links) new draws m) session_links present l) (sym p.0)
        (subst (λ (d : Drawn). LinkKeeps c.key d session_links present l) (sym (draw_there (length c.links) new draws))
        (subst (λ (x : GrandLink). LinkKeeps c.key new session_links present x) p.1 (fresh_keeps c session_links present settings)))

    -- one with a welcome is none that is new
    known : (n : ℕ) (l : GrandLink) (w : Welcome) → (slice_get c.links n ≡ Some l) ⊎ ((n ≡ length c.links) × (fresh_link c ≡ l)) → l.server.welcome ≡ Some w → slice_get c.links n ≡ Some l
    known n l w (inl is) there = is
    known n l w (inr p) there = none_there (ap (λ (x : GrandLink). x.server.welcome) p.1 ∙ there)
