use Rattle.std.proofs.Common.{◌≡◌, sym, subst}
use Rattle.std.specs.Prelude.{OnOk, IfErr}
use Rattle.ctr_disk.specs.declared.fault.StoreFault.TheVariants.{Fault}
use Rattle.ctr_undo.specs.declared.list.UndoItem.{UndoItem}
use Rattle.ctr_undo.specs.declared.list.UndoItem.TheVariants.{Slog}
use Rattle.ctr_undo.specs.Turns.{undo_actor, OwesNext, DoesNext}
use Rattle.ctr_undo.proofs.calls.undo_next.Goals as goal

pub returns-in-Slog-clause-acts : goal.returns-in-Slog-clause-acts
returns-in-Slog-clause-acts g c = λ told sound database.
    let s = c.args.store.now.now in
    let t = c.undo.new.store.now in
    subst (λ (i : UndoItem). OwesNext i s → OnOk c.undo.result (DoesNext i s t)) (sym c.in-Slog.is) (c.undo.ensures.acts (undo_actor (Slog c.in-Slog.item) s.tables) told sound database)

pub returns-in-Slog-clause-refused : goal.returns-in-Slog-clause-refused
returns-in-Slog-clause-refused g c = λ told sound database.
    let s = c.args.store.now.now in
    subst (λ (i : UndoItem). OwesNext i s → IfErr c.undo.result (λ e. e ≡ Fault)) (sym c.in-Slog.is) (c.undo.ensures.refused (undo_actor (Slog c.in-Slog.item) s.tables) told sound database)

pub returns-in-Orphan-clause-acts : goal.returns-in-Orphan-clause-acts
returns-in-Orphan-clause-acts g c = λ told sound database.
    let s = c.args.store.now.now in
    let t = c.end.new.store.now in
    subst (λ (i : UndoItem). OwesNext i s → OnOk c.end.result (DoesNext i s t)) (sym c.in-Orphan.is) (c.end.ensures.acts told sound)

pub returns-in-Orphan-clause-refused : goal.returns-in-Orphan-clause-refused
returns-in-Orphan-clause-refused g c = λ told sound database.
    let s = c.args.store.now.now in
    subst (λ (i : UndoItem). OwesNext i s → IfErr c.end.result (λ e. e ≡ Fault)) (sym c.in-Orphan.is) (c.end.ensures.refused told sound database)
