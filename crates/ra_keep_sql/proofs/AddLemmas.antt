-- What adding a record does to a keeper's connection, and what a crash leaves of it.
use Rattle.std.proofs.Common.{◌≡◌, ◌≢◌, inl, inr, ℕ, ◌<◌, ◌^◌, List, [], ◌∷◌, ◌++◌, Some, Ok, Err, IsTrue, sym, ap, ◌∙◌, arith}
use Rattle.ra_base.specs.declared.kind.Kind.TheVariants.{Tunnel}
use Rattle.ra_base.specs.TokenGrammar.{IsToken}
use Rattle.ra_keep.specs.declared.record.Record.{Record}
use Rattle.ra_keep_sql.specs.KeptTable.{inserted, insert_text}
use Rattle.ra_keep_sql.specs.KeptRows.{records_of}
use Rattle.ra_keep_sql.specs.Keepers.{list_in, Serves, Adds, Stays, LeavesEither, Leaves}
use Rattle.sqlite.specs.declared.error.Error.{Error}
use Rattle.sqlite.specs.declared.error.Error.TheVariants.{SqliteFailure}
use Rattle.sqlite.specs.declared.error.ErrorCode.TheVariants as code
use Rattle.sqlite.specs.Tree.{Trees}
use Rattle.sqlite.specs.State.{State, HasCleanDisk, Executes, Survives, CommitsBy}
use Rattle.sqlite_disk.specs.Disk.{MoreFaults}
use Rattle.ra_keep_sql.proofs.RowLemmas.{one_more}
use Rattle.ra_keep_sql.proofs.OpenLemmas.{executed_open}
use Rattle.ra_keep_sql.proofs.KeeperLemmas.{told_means, told_where, insert_adds, insert_tells, insert_fails, insert_commits, caused, serves_still}

-- what an open store may leave is what was committed
abbrev pub Settles : State → Type 0
Settles s = IsTrue s.is_open → (db : Trees) → s.may_leave db → db ≡ s.committed.trees

module _ (old new : State) (n : ℕ) (r : Record) (fits : n < 2 ^ 63) (none : r.key.kind ≢ Tunnel) (at : r.at < 2 ^ 53) (token : IsToken r.key.token) (start : HasCleanDisk old → IsTrue old.is_open → Serves old n)
    (survives : Survives old new (CommitsBy insert_text (inserted n r) old)) (clean : HasCleanDisk new) where
  was_clean : HasCleanDisk old
  was_clean = omega (arith, survives.clean, clean)

  pub adds_ok : (count : ℕ) → Executes insert_text (inserted n r) old new (Ok count) → Adds old new n r
  adds_ok count h = record {
    serves = λ up. (insert_adds old new n r (start was_clean (executed_open insert_text (inserted n r) old new (Ok count) h up)) fits none at token count survives.limit h).2;
    told = λ list is.
        let up = (told_means new list is).1 in
        let serves = start was_clean (executed_open insert_text (inserted n r) old new (Ok count) h up) in
        let done = insert_adds old new n r serves fits none at token count survives.limit h in
        insert_tells old new n r serves fits none at token done.3 was_clean done.0 list is;
  }

  pub stays_err : (e : Error) → Executes insert_text (inserted n r) old new (Err e) → Stays old new n
  stays_err e h = record {
    serves = λ up.
        let serves = start was_clean (executed_open insert_text (inserted n r) old new (Err e) h up) in
        (serves_still old new n e serves survives.limit (insert_fails old new n r serves fits none at token e h) up).0;
    told = λ list is.
        let t = told_means new list is in
        let was_open = executed_open insert_text (inserted n r) old new (Err e) h t.1 in
        let serves = start was_clean was_open in
        let same = (serves_still old new n e serves survives.limit (insert_fails old new n r serves fits none at token e h) t.1).1 in
        told_where old was_clean was_open ∙ (ap list_in (sym same) ∙ t.2);
  }

  pub failed_by : IsTrue old.is_open → (e : Error) → Executes insert_text (inserted n r) old new (Err e) → e ≢ SqliteFailure code.OutOfMemory → MoreFaults old.faults new.faults
  failed_by up e h other = elim (caused old new e up (insert_fails old new n r (start was_clean up) fits none at token e h)) [ inl memory ↦ absurd (other memory) | inr fault ↦ fault ]

  pub crash_leaves : Settles old → IsTrue old.is_open → (list : List Record) → list_in old.now ≡ Some list → LeavesEither new list (list ++ r ∷ [])
  crash_leaves law up list there db may =
      let serves = start was_clean up in
      elim (survives.crash clean db may) [
        | inl before ↦ inl (ap (λ (t : Trees). records_of (t 0)) (law up db before) ∙ (ap list_in (sym serves.settled) ∙ there))
        | inr commits ↦ inr (insert_commits old new n r serves fits none at token db list there commits)
      ]

  pub crash_keeps : Settles new → IsTrue old.is_open → (list : List Record) → list_in old.now ≡ Some list → (count : ℕ) → Executes insert_text (inserted n r) old new (Ok count) → Leaves new (list ++ r ∷ [])
  crash_keeps law up list there count h db may =
      let serves = start was_clean up in
      let done = insert_adds old new n r serves fits none at token count survives.limit h in
      ap (λ (t : Trees). records_of (t 0)) (law done.1 db may) ∙ (ap list_in (sym done.2.settled) ∙ (ap records_of done.3 ∙ one_more n (old.now.trees 0) list r there (serves.numbered list there) none at token))
