-- What the statement that adds a record leaves of what a keeper serves.
use Rattle.std.proofs.Common.{◌≡◌, ◌≢◌, ◌⊎◌, inl, inr, ℕ, ◌≤◌, ◌+◌, ◌<◌, ◌^◌, zero, suc, List, [], ◌∷◌, ◌++◌, map, length, Bool, true, false, cond, ◌&&◌, Option, Some, None, option_map, Ok, Err, Result, OnOk, OnErr, IsTrue, refl, sym, ap, subst, ◌∙◌, arith, append-nil}
use Rattle.ra_base.specs.declared.kind.Kind.TheVariants.{Tunnel}
use Rattle.ra_base.specs.TokenGrammar.{IsToken}
use Rattle.ra_keep.specs.declared.record.Record.{Record}
use Rattle.ra_keep_sql.specs.KeptTable.{kept_schema, stored, inserted, Below, insert_text}
use Rattle.ra_keep_sql.specs.KeptRows.{records_of}
use Rattle.ra_keep_sql.specs.Keepers.{list_in, told_in, Serves}
use Rattle.sqlite.specs.declared.error.Error.{Error}
use Rattle.sqlite.specs.declared.error.Error.TheVariants.{SqliteFailure}
use Rattle.sqlite.specs.declared.error.ErrorCode.TheVariants as code
use Rattle.sqlite.specs.Effect.{Database}
use Rattle.sqlite.specs.Listing.{understood}
use Rattle.sqlite.specs.Tree.{Trees}
use Rattle.sqlite.specs.State.{State, HasCleanDisk, Executes, Fails, IsMisplaced, CommitsBy, MayCommit, text_of}
use Rattle.sqlite.specs.Clock.{timed}
use Rattle.sqlite.specs.Command.TheVariants.{Commit, Release}
use Rattle.sqlite_disk.specs.Disk.{MoreFaults}
use Rattle.sqlite.proofs.Callers.{IsPlain, runs_as, statement_of, command_of}
use Rattle.sqlite_tied.specs.Compute.{everything}
use Rattle.sqlite_trees.proofs.Doubt.{clean_of, no_doubt}
use Rattle.sqlite_trees.specs.declared.error.StoreError.TheVariants.{OutOfMemory, Io, Corrupt, Full, Broken, Unstorable}
use Rattle.ra_keep_sql.proofs.RowLemmas.{below_more, only_more, one_more}
use Rattle.ra_keep_sql.proofs.StatementLemmas.{insert_is, insert_plain, insert_command, adds}
use Rattle.ra_keep_sql.proofs.RefusalLemmas.{never_stops}
use Rattle.ra_keep_sql.proofs.CallLemmas.{IsCalled, IsQuiet, only_fails}

insert_called : IsCalled 5 insert_text (understood kept_schema insert_text)
unfolding understood everything
insert_called = (omega arith, refl)

insert_quiet : IsQuiet (understood kept_schema insert_text)
unfolding understood everything
insert_quiet = refl

told_cases : (clean is_open : Bool) (o : Option (List Record)) (list : List Record) → cond (clean && is_open) o None ≡ Some list → IsTrue clean × IsTrue is_open × (o ≡ Some list)
told_cases true true o list h = (refl, refl, h)
told_cases true false o list h = absurd (let e = h in cc)
told_cases false b o list h = absurd (let e = h in cc)

-- what is told is what a clean and open connection has
pub told_means : (s : State) (list : List Record) → told_in s ≡ Some list → HasCleanDisk s × IsTrue s.is_open × (list_in s.now ≡ Some list)
told_means s list h =
    let t = told_cases s.is_clean s.is_open (list_in s.now) list h in
    (no_doubt s.is_clean t.0, t.1, t.2)

pub told_where : (s : State) → HasCleanDisk s → IsTrue s.is_open → told_in s ≡ list_in s.now
told_where s clean up = rw (clean_of s.is_clean clean, up) refl

-- ---- a refused statement

-- out of memory, or a fault of the store
pub caused : (old new : State) (e : Error) → IsTrue old.is_open → Fails old new ⊥ e → (e ≡ SqliteFailure code.OutOfMemory) ⊎ MoreFaults old.faults new.faults
caused old new e up (OutOfMemory, is, why, back, tells) = inl is
caused old new e up (Io, is, why, back, tells) = inr why
caused old new e up (Corrupt, is, why, back, tells) = inr why
caused old new e up (Full, is, why, back, tells) = inr why
caused old new e up (Broken, is, why, back, tells) = absurd (let a = why in let b = up in cc)
caused old new e up (Unstorable, is, why, back, tells) = absurd why

pub serves_still : (old new : State) (n : ℕ) (e : Error) → Serves old n → new.step_limit ≡ old.step_limit → Fails old new ⊥ e → IsTrue new.is_open → Serves new n × (new.now ≡ old.now)
serves_still old new n e serves limit fails up =
    let back = fails.3.undone up in
    let same : new.now ≡ old.now = back.0 ∙ sym serves.settled in (
      record {
        schema = ap (λ (d : Database). d.schema) same ∙ serves.schema;
        settled = back.0 ∙ sym back.1;
        autocommit = fails.3.autocommit;
        unlimited = limit ∙ serves.unlimited;
        below = subst (λ (d : Database). Below n (d.trees 0)) (sym same) serves.below;
        numbered = λ list h. serves.numbered list (ap list_in (sym same) ∙ h);
      },
      same,
    )

unplaced : (s : State) (e : Error) → ¬ IsMisplaced s insert_command e
unplaced s e (inl (a, (inl h))) = let f = h.0 in cc
unplaced s e (inl (a, (inr (inl h, x)))) = let f = h in cc
unplaced s e (inl (a, (inr (inr h, x)))) = let f = h in cc
unplaced s e (inr (a, name, (inl h), x)) = let f = h in cc
unplaced s e (inr (a, name, (inr h), x)) = let f = h in cc

module _ (old new : State) (n : ℕ) (r : Record) (serves : Serves old n) (fits : n < 2 ^ 63) (none : r.key.kind ≢ Tunnel) (at : r.at < 2 ^ 53) (token : IsToken r.key.token) where
  -- only the store refuses a record
  pub insert_fails : (e : Error) → Executes insert_text (inserted n r) old new (Err e) → Fails old new ⊥ e
  insert_fails = only_fails insert_text (inserted n r) old new kept_schema serves.schema insert_command insert_is insert_plain insert_called insert_quiet
      (λ stop. never_stops old old.now (statement_of insert_text (understood kept_schema insert_text)) n r stop serves.schema serves.unlimited serves.below fits token) (unplaced old)

  -- the record is there behind the others
  pub insert_adds : (count : ℕ) → new.step_limit ≡ old.step_limit → Executes insert_text (inserted n r) old new (Ok count)
      → IsTrue old.is_open × IsTrue new.is_open × Serves new (n + 1) × (new.now.trees 0 ≡ old.now.trees 0 ++ stored n r ∷ [])
  insert_adds count limit h =
      let w = runs_as insert_text (inserted n r) old new kept_schema serves.schema insert_command insert_is insert_plain count h in
      let done = adds old old.now new.now w.tally (statement_of insert_text (understood kept_schema insert_text)) n r serves.schema serves.below w.changed in
      let committed : new.committed ≡ new.now = rw serves.autocommit at w.shown.committed_is in (
        w.shown.was_open,
        w.shown.is_open,
        record {
          schema = done.0;
          settled = sym committed;
          autocommit = w.shown.mode ∙ serves.autocommit;
          unlimited = limit ∙ serves.unlimited;
          below = subst (Below (n + 1)) (sym done.1) (below_more n (old.now.trees 0) r serves.below);
          numbered = λ list h. let s = only_more n (old.now.trees 0) r list serves.numbered none at token (ap records_of (sym done.1) ∙ h) in
              omega (arith, serves.numbered s.0 s.1, ap length s.2, Rattle.std.proofs.Common.length-append s.0 (r ∷ []));
        },
        done.1,
      )

  -- and the list that is told is the one that is due
  pub insert_tells : new.now.trees 0 ≡ old.now.trees 0 ++ stored n r ∷ [] → HasCleanDisk old → IsTrue old.is_open → (list : List Record) → told_in new ≡ Some list
      → option_map (λ l. l ++ r ∷ []) (told_in old) ≡ Some list
  insert_tells rows clean up list h =
      let t = told_means new list h in
      let s = only_more n (old.now.trees 0) r list serves.numbered none at token (ap records_of (sym rows) ∙ t.2) in
      ap (option_map (λ l. l ++ r ∷ [])) (told_where old clean up ∙ s.1) ∙ ap Some (sym s.2)

  -- what a commit of the statement leaves
  pub insert_commits : (db : Trees) (list : List Record) → list_in old.now ≡ Some list → CommitsBy insert_text (inserted n r) old db → records_of (db 0) ≡ Some (list ++ r ∷ [])
  unfolding CommitsBy
  insert_commits db list has (c, it, h) = committed h
    where
      same : Ok c ≡ understood kept_schema insert_text
      same = sym it.is ∙ ap (λ schema. understood schema insert_text) serves.schema

      command_is : c.command ≡ insert_command
      command_is = ap command_of same ∙ insert_is

      committed : MayCommit old c.returning c.command (text_of insert_text c) (timed (inserted n r) c.formats it.now) db → records_of (db 0) ≡ Some (list ++ r ∷ [])
      committed (inl (inl k, x)) = absurd (let e : insert_command ≡ Commit = sym command_is ∙ k in cc)
      committed (inl (inr k, x)) = absurd (let e : insert_command ≡ Release k.0 = sym command_is ∙ k.2 in cc)
      committed (inr (settled, tally, after, does, sound, is, spares)) =
          let bare = subst IsPlain (sym same) insert_plain in
          let done = adds old old.now after tally (text_of insert_text c) n r serves.schema serves.below (rw (bare.0, bare.1, append-nil (inserted n r), command_is) at does) in
          ap (λ (t : Trees). records_of (t 0)) is ∙ (ap records_of done.1 ∙ one_more n (old.now.trees 0) list r has (serves.numbered list has) none at token)
