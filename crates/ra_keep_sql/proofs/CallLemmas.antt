-- What a statement that is refused leaves, and why it is.
use Rattle.std.proofs.Common.{◌≡◌, ◌⊎◌, inl, inr, ℕ, ◌≤◌, List, length, false, Option, Some, None, Ok, Err, Result, sym, ap, subst, ◌∙◌}
use Rattle.sqlite.specs.Clock.{timed}
use Rattle.sqlite.specs.Command.{Command}
use Rattle.sqlite.specs.Does.{Does}
use Rattle.sqlite.specs.Effect.{RefusesToRead}
use Rattle.sqlite.specs.Listing.{understood, reads_listing, IsSourceOf}
use Rattle.sqlite.specs.Order.{Row}
use Rattle.sqlite.specs.Schema.{Schema}
use Rattle.sqlite.specs.declared.error.Error.{Error}
use Rattle.sqlite.specs.State.{State, mode_of, Executes, ExecutesIn, IsNotRun, RunsCommand, IsUnchanged, IsMisplaced, Fails, shows_rows, text_of, FailsToQuery, Shown}
use Rattle.sqlite.proofs.Callers.{IsPlain, command_of, statement_of}
use Rattle.sqlite_resolve.specs.declared.compiled.Compiled.{Compiled}
use Rattle.sqlite_resolve.specs.declared.error.CompileError.{CompileError}
use Rattle.sqlite_trees.specs.declared.error.StoreError.TheVariants.{OutOfMemory, Io, Corrupt, Full, Broken, Unstorable}
use Rattle.std.proofs.Common.{append-nil, subst₂}

-- the text is one statement, and takes so many parameters
abbrev pub IsCalled : ℕ → List ℕ → Result Compiled CompileError → Type 0
IsCalled count sql (Ok c) = (length sql ≤ c.tail) × (length c.names ≡ count)
IsCalled count sql (Err e) = ⊥

-- the statement shows no rows
abbrev pub IsQuiet : Result Compiled CompileError → Type 0
IsQuiet (Ok c) = shows_rows false c ≡ false
IsQuiet (Err e) = ⊥

mends : (old new : State) (U : Type 0) (e : Error) → ¬ U → Fails old new U e → Fails old new ⊥ e
mends old new U e none (OutOfMemory, is, why, back, tells) = (OutOfMemory, is, why, back, tells)
mends old new U e none (Io, is, why, back, tells) = (Io, is, why, back, tells)
mends old new U e none (Corrupt, is, why, back, tells) = (Corrupt, is, why, back, tells)
mends old new U e none (Full, is, why, back, tells) = (Full, is, why, back, tells)
mends old new U e none (Broken, is, why, back, tells) = (Broken, is, why, back, tells)
mends old new U e none (Unstorable, is, why, back, tells) = absurd (none why)

module _ (sql : List ℕ) (params : Row) (old new : State) (schema : Schema) (has : old.now.schema ≡ schema) (command : Command) (is : command_of (understood schema sql) ≡ command)
    (plain : IsPlain (understood schema sql)) (called : IsCalled (length params) sql (understood schema sql)) where
  abbrev Runs : Option Error → Type 0
  Runs stop = Does old.step_limit (mode_of old) params old.now (statement_of sql (understood schema sql)) None command (Err stop)

  -- what the statement means is known
  known : (c : Compiled) → understood old.now.schema sql ≡ Ok c → Ok c ≡ understood schema sql
  known c h = sym h ∙ ap (λ s. understood s sql) has

  unread : (e : CompileError) → ¬ (understood old.now.schema sql ≡ Err e)
  unread e h = subst IsPlain (sym (ap (λ s. understood s sql) has) ∙ h) plain

  started : (e : Error) → IsNotRun old new sql params e → Fails old new ⊥ e
  unfolding IsNotRun
  started e (inr h) = h
  started e (inl (inl h, same)) = absurd (unread h.0 h.1)
  started e (inl (inr (c, at, (inl h)), same)) = absurd (h.0 (subst (IsCalled (length params) sql) (sym (known c at)) called).0)
  started e (inl (inr (c, at, (inr (inl h))), same)) = absurd (h.0 (sym (subst (IsCalled (length params) sql) (sym (known c at)) called).1))
  started e (inl (inr (c, at, (inr (inr h))), same)) = absurd (h.0 (subst IsPlain (sym (known c at)) plain).1)

  -- a query that nothing but the store can refuse
  pub only_fails_to_show : reads_listing schema sql ≡ false → ((e : Error) → ¬ RefusesToRead old.step_limit command old.now params e) → (e : Error) → FailsToQuery sql params old new e → Fails old new ⊥ e
  unfolding FailsToQuery
  only_fails_to_show unlisted never e (inl h) = started e h
  only_fails_to_show unlisted never e (inr (c, it, h)) =
      let same = known c it.is in
      let bare = subst IsPlain (sym same) plain in
      let shown = rw (bare.0, bare.1, append-nil params) at h in
      let db : shown.0 ≡ old.now = subst (λ b. IsSourceOf b old.now shown.0) (ap (λ s. reads_listing s sql) has ∙ unlisted) shown.1 in
      absurd (never e (subst₂ (λ k d. RefusesToRead old.step_limit k d params e) (ap command_of same ∙ is) db shown.2))

  -- a query changes nothing
  pub shown_same : (rows : List Row) → Shown sql params old new rows → IsUnchanged old new
  unfolding Shown
  shown_same rows h = (rw (subst IsPlain (sym (known h.0 h.1.is)) plain).0 at h.2).3

  -- a statement that nothing but the store can refuse
  pub only_fails : IsQuiet (understood schema sql) → ((stop : Option Error) → ¬ Runs stop) → ((e : Error) → ¬ IsMisplaced old command e) → (e : Error) → Executes sql params old new (Err e) → Fails old new ⊥ e
  unfolding ExecutesIn
  only_fails silent never placed e (inl h) = started e h
  only_fails silent never placed e (inr (c, it, h)) =
      let same = known c it.is in
      let bare = subst IsPlain (sym same) plain in
      let quiet = subst IsQuiet (sym same) silent in
      let ran : RunsCommand old new sql c (timed params c.formats it.now) (Err e) = rw quiet at h in
      let command_is : c.command ≡ command = ap command_of same ∙ is in
      let text_is : text_of sql c ≡ statement_of sql (understood schema sql) = ap (statement_of sql) same in
      why (rw (bare.0, bare.1, append-nil params, command_is, text_is) at ran)
    where
      why : {X : Type 0} → ((IsMisplaced old command e ⊎ (X × Runs (Some e))) × IsUnchanged old new) ⊎ Fails old new (Runs None) e → Fails old new ⊥ e
      why (inl (inl misplaced, unchanged)) = absurd (placed e misplaced)
      why (inl (inr refused, unchanged)) = absurd (never (Some e) refused.1)
      why (inr h) = mends old new (Runs None) e (never None) h
