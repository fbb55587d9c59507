use Rattle.std.proofs.Common.{◌≡◌, ◌≢◌, ◌+◌, ◌++◌, ◌<◌, take, drop, length, get_or, refl, sym, ap, ◌∙◌, arith, rules, append_assoc, cond}
use Rattle.std.specs.BTreeMap.{is_at}
use Rattle.ra_base.specs.Keys.{key_cmp}
use Rattle.ra_audit.specs.Audits.{due_epoch, audit_from, wrong_line, end_line, record_line}
use Rattle.ra_audit.proofs.AuditLemmas.{due_step, wrong_step, due_forth, due_back, counts_step, end_step, end_due}
use Rattle.ra_audit.proofs.audit.push_audit.Goals as goal

pub returns-then-kept-due-clause-text : goal.returns-then-kept-due-clause-text
returns-then-kept-due-clause-text c =
    let list = c.args.records.now in
    let i = c.loop-kept.kept-index in
    let r = c.kept-item.result in
    let below : i < length list = search rules in
    let here : r ≡ get_or list i r = search rules in
    let due : c.in_ok-due.due ≡ due_epoch (take i list) r.key = c.in_ok-due.ensures.now ∙ ap (λ n. n + 1) (c.loop-kept.invariant.counts r.key) in
    let apart : r.epoch ≢ due_epoch (take i list) r.key = λ same. c.if-kept-due.true (same ∙ sym due) in
    let text = c.loop-kept.text.items in
    let wanted = due_epoch (take i list) r.key in
    c.in_ok-push_wrong.ensures
    ∙ (ap (λ d. text ++ wrong_line (c.loop-kept.n + 1) r.epoch d) due
    ∙ (ap (λ k. text ++ wrong_line (k + 1) r.epoch wanted) c.loop-kept.invariant.number ∙ (ap (λ t. text ++ t) (sym (wrong_step list i r here below apart)) ∙ sym c.loop-kept.invariant.text)))

pub returns-then-kept-due-clause-due : goal.returns-then-kept-due-clause-due
returns-then-kept-due-clause-due c =
    let list = c.args.records.now in
    let i = c.loop-kept.kept-index in
    let r = c.kept-item.result in
    let below : i < length list = search rules in
    let here : r ≡ get_or list i r = search rules in
    let due : c.in_ok-due.due ≡ due_epoch (take i list) r.key = c.in_ok-due.ensures.now ∙ ap (λ n. n + 1) (c.loop-kept.invariant.counts r.key) in
    let apart : r.epoch ≢ due_epoch (take i list) r.key = λ same. c.if-kept-due.true (same ∙ sym due) in
    (λ h. absurd (let e = h in cc), λ all. absurd (apart (due_back list i r here below (c.loop-kept.invariant.wrong all)).0))

pub loop-kept-preserved : goal.loop-kept-preserved
loop-kept-preserved c =
    let list = c.args.records.now in
    let i = c.loop-kept.kept-index in
    let r = c.kept-item.result in
    let below : i < length list = search rules in
    let here : r ≡ get_or list i r = search rules in
    let due : c.in_ok-due.due ≡ due_epoch (take i list) r.key = c.in_ok-due.ensures.now ∙ ap (λ n. n + 1) (c.loop-kept.invariant.counts r.key) in
    let same : r.epoch ≡ due_epoch (take i list) r.key = (let e : r.epoch ≡ c.in_ok-due.due = search rules in e) ∙ due in
    record {
      number = omega (arith, c.loop-kept.invariant.number);
      counts = λ key. c.in_ok-due.ensures.counts key ∙ (ap (λ n. cond (is_at (key_cmp r.key) key) (n + 1) n) (c.loop-kept.invariant.counts key) ∙ sym (counts_step list i r here below key));
      text = c.loop-kept.invariant.text ∙ (ap (λ t. c.loop-kept.text.items ++ t) (due_step list i r here below same)
          ∙ (sym (append_assoc c.loop-kept.text.items (record_line (i + 1) r) (audit_from (take (i + 1) list) (drop (i + 1) list)))
          ∙ ap (λ l. l ++ audit_from (take (i + 1) list) (drop (i + 1) list)) (ap (λ k. c.loop-kept.text.items ++ record_line (k + 1) r) (sym c.loop-kept.invariant.number) ∙ sym c.in_ok-push_record.ensures)));
      due = λ more. c.loop-kept.invariant.due (due_forth list i r here below same more);
      wrong = λ all. (due_back list i r here below (c.loop-kept.invariant.wrong all)).1;
    }

pub returns-clause-text : goal.returns-clause-text
returns-clause-text c =
    let whole : c.loop-kept.kept-index ≡ length c.args.records.now = search rules in
    let text = c.loop-kept.text.items in
    c.in_ok-push_end.ensures
    ∙ (ap (λ k. text ++ end_line k) c.loop-kept.invariant.number ∙ (ap (λ t. text ++ t) (sym (end_step c.args.records.now c.loop-kept.kept-index whole)) ∙ sym c.loop-kept.invariant.text))

pub returns-clause-due : goal.returns-clause-due
returns-clause-due c =
    let whole : c.loop-kept.kept-index ≡ length c.args.records.now = search rules in
    (λ h. c.loop-kept.invariant.due (end_due c.args.records.now c.loop-kept.kept-index whole), λ all. refl)
