use Rattle.std.proofs.Common.{◌≡◌, ℕ, Bool, true, false, Option, Some, None, refl, sym, ◌∙◌, ap, subst}
use Rattle.std.specs.Option.{option_map}
use Rattle.std.proofs.lemmas.Bool.{false≢true}
use Rattle.ctr_actions.proofs.versions_Keys.{some_is}
use Rattle.ctr_area.specs.Areas.{RowVersion, Slot}
use Rattle.ctr_record_laws.specs.Owed.{PreviousStays}
use Rattle.ctr_clean.specs.Choosing.{passes_below}
use Rattle.ctr_clean.specs.Cutting.{OwnPasses}
use Rattle.ctr_clean.proofs.cutting.own_passes.Goals as goal

-- by the previous version's transaction
by_previous : (passes : ℕ → Bool) (slot : Slot) (o : Option RowVersion) (x : ℕ) (b : Bool) → passes slot.head.0 ≡ false → slot.previous ≡ o → option_map (λ (v : RowVersion). v.0) o ≡ Some x → b ≡ passes x → OwnPasses passes slot b
by_previous passes slot (Some v) x true head o is b = λ same stays.
    let other = subst (PreviousStays passes) o stays in
    false≢true (sym other ∙ ap passes (some_is v.0 x is) ∙ sym b)
by_previous passes slot (Some v) x false head o is b = (head, subst (PreviousStays passes) (sym o) (ap passes (some_is v.0 x is) ∙ sym b))
by_previous passes slot None x b head o is same = absurd cc

pub returns-in-Some : goal.returns-in-Some
returns-in-Some c = λ there tells.
    let passes = passes_below c.args.low c.args.meta.now.tables in
    by_previous passes there there.previous c.in-Some.x c.passes-in-Some.result (ap passes (tells.head c.requires.used) ∙ sym c.passes.ensures ∙ c.if-passes.false) refl (tells.previous c.requires.used ∙ c.in-Some.is) c.passes-in-Some.ensures
