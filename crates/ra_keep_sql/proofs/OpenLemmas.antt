-- That a connection that is open after a statement was open before it.
use Rattle.std.proofs.Common.{inl, inr, ℕ, List, false, Option, Some, None, Ok, Err, Result, IsTrue}
use Rattle.std.proofs.lemmas.Bool.{cases_Bool}
use Rattle.sqlite.specs.Command.{Command}
use Rattle.sqlite.specs.Command.TheVariants.{Select, Insert, InsertOr, Update, Delete, CreateTable, CreateIndex, DropTable, DropIndex, Begin, Commit, Rollback, Savepoint, Release, RollbackTo, Nothing, CreateView, DropView, Rows}
use Rattle.sqlite.specs.Order.{Row}
use Rattle.sqlite.specs.declared.error.Error.{Error}
use Rattle.sqlite.specs.State.{State, Executes, ExecutesIn, IsNotRun, Runs, RunsCommand, RunsAlone, FailsToQuery, FailsToShow, Shown, ShowsRows, shows_rows}
use Rattle.sqlite_resolve.specs.declared.compiled.Compiled.{Compiled}

abbrev Returning : Type 0
Returning = Rattle.sqlite_schema.specs.declared.command.Returning.Returning

ran : (old new : State) (what : Option Returning) (command : Command) (text : List ℕ) (params : Row) (count : ℕ) → Runs old new what command text params count → IsTrue new.is_open → IsTrue old.is_open
ran old new what (Select q names) text params count h up = absurd h
ran old new what (Insert at from) text params count h up = h.shown.was_open
ran old new what (InsertOr at how from clauses) text params count h up = h.shown.was_open
ran old new what (Update at q) text params count h up = h.shown.was_open
ran old new what (Delete at q) text params count h up = h.shown.was_open
ran old new what CreateTable text params count h up = h.shown.was_open
ran old new what (CreateIndex at) text params count h up = h.shown.was_open
ran old new what (DropTable at) text params count h up = h.shown.was_open
ran old new what (DropIndex at) text params count h up = h.shown.was_open
ran old new what Begin text params count h up = h.1.was_open
ran old new what Commit text params count h up = h.1.was_open
ran old new what Rollback text params count h up = h.1.was_open up
ran old new what (Savepoint name) text params count h up = h.0.0.was_open
ran old new what (Release name) text params count (at, newest, (inl h), is) up = h.1.0.was_open
ran old new what (Release name) text params count (at, newest, (inr h), is) up = h.1.0.was_open
ran old new what (RollbackTo name) text params count h up = h.2.2.was_open
ran old new what (Rows values width names) text params count h up = h.0.0.was_open
ran old new what Nothing text params count h up = h.0.0.was_open
ran old new what CreateView text params count h up = h.shown.was_open
ran old new what (DropView at) text params count h up = h.shown.was_open

commanded : (old new : State) (sql : List ℕ) (c : Compiled) (params : Row) (r : Result ℕ Error) → RunsCommand old new sql c params r → IsTrue new.is_open → IsTrue old.is_open
commanded old new sql c params (Ok count) h up = ran old new c.returning c.command _ params count h up
commanded old new sql c params (Err e) (inl h) up = h.1.0.was_open
commanded old new sql c params (Err e) (inr h) up = h.3.was_open up

unrun : (old new : State) (sql : List ℕ) (params : Row) (e : Error) → IsNotRun old new sql params e → IsTrue new.is_open → IsTrue old.is_open
unfolding IsNotRun
unrun old new sql params e (inl h) up = h.1.0.was_open
unrun old new sql params e (inr h) up = h.3.was_open up

alone : (old new : State) (sql : List ℕ) (c : Compiled) (params : Row) (r : Result ℕ Error) → RunsAlone false old new sql c params r → IsTrue new.is_open → IsTrue old.is_open
alone old new sql c params r h up = elim (cases_Bool (shows_rows false c)) [
  | inl shows ↦ (rw shows at h).1.0.was_open
  | inr quiet ↦ commanded old new sql c params r (rw quiet at h) up
]

pub executed_open : (sql : List ℕ) (params : Row) (old new : State) (r : Result ℕ Error) → Executes sql params old new r → IsTrue new.is_open → IsTrue old.is_open
unfolding ExecutesIn
executed_open sql params old new (Ok count) h up = alone old new sql h.0 _ (Ok count) h.2 up
executed_open sql params old new (Err e) (inl h) up = unrun old new sql params e h up
executed_open sql params old new (Err e) (inr h) up = alone old new sql h.0 _ (Err e) h.2 up

shown_rows : (old new : State) (sql : List ℕ) (c : Compiled) (params : Row) (rows : List Row) (what : Option Returning) → ShowsRows old new sql c params rows what → IsTrue old.is_open
shown_rows old new sql c params rows None h = h.3.0.was_open
shown_rows old new sql c params rows (Some what) h = h.1.shown.was_open

pub shown_open : (sql : List ℕ) (params : Row) (old new : State) (rows : List Row) → Shown sql params old new rows → IsTrue old.is_open
unfolding Shown
shown_open sql params old new rows h = shown_rows old new sql h.0 _ rows h.0.returning h.2

refused_rows : (old new : State) (sql : List ℕ) (c : Compiled) (params : Row) (e : Error) (what : Option Returning) → FailsToShow old new sql c params e what → IsTrue new.is_open → IsTrue old.is_open
refused_rows old new sql c params e None h up = h.3.0.was_open
refused_rows old new sql c params e (Some what) h up = commanded old new sql c params (Err e) h up

pub refused_open : (sql : List ℕ) (params : Row) (old new : State) (e : Error) → FailsToQuery sql params old new e → IsTrue new.is_open → IsTrue old.is_open
unfolding FailsToQuery
refused_open sql params old new e (inl h) up = unrun old new sql params e h up
refused_open sql params old new e (inr h) up = refused_rows old new sql h.0 _ e h.0.returning h.2 up
