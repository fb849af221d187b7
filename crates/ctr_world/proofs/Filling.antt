-- Where a Write was refused as Full, 30,000 pages are counted from then on.
use Rattle.std.proofs.Common.{◌≡◌, ⊎_elim, ℕ, ◌≤◌, List, [], ◌∷◌, ◌++◌, sym, subst, arith}
use Rattle.std.specs.List.{AllByRecursion}
use Rattle.ctr_types.specs.declared.tape.Act.TheVariants as act
use Rattle.ctr_types.specs.declared.tape.Entry.{Entry}
use Rattle.ctr_area.proofs.Buckets.{each_of}
use Rattle.ctr_area.specs.Sound.{IsAmong}
use Rattle.ctr_base.specs.declared.growing.TheConstants.{MOST_PAGES}
use Rattle.ctr_record_laws.proofs.Members.{among_parts}
use Rattle.ctr_store.specs.Store.{View}
use Rattle.ctr_undo.specs.kept_Turns.{release_entry}
use Rattle.ctr_pass.specs.exec_Acting.{WantsRoom}
use Rattle.ctr_world.specs.World.{FullCountsAll, IsFullEntry}

up : {a b c : ℕ} → a ≤ b → b ≤ c → a ≤ c
up p q = omega (arith, p, q)

-- more are counted
pub full_later : (es : List Entry) (n m : ℕ) → n ≤ m → FullCountsAll es n → FullCountsAll es m
full_later es n m le full e in_ is = up (full e in_ is) le

-- so it is of an entry that has its cause
wanted : {D : Type 0} (a b : View D) (e : Entry) → WantsRoom e.act e.reply a b → IsFullEntry e → MOST_PAGES ≤ a.now.counted
wanted a b e wants is = (subst (λ r. WantsRoom act.Write r a b) is.refused (subst (λ x. WantsRoom x e.reply a b) is.write wants)).most

-- entries behind the tape
pub full_behind : {D : Type 0} (a b : View D) (es now more : List Entry) → now ≡ es ++ more → AllByRecursion (λ (e : Entry). WantsRoom e.act e.reply a b) more → a.now.counted ≤ b.now.counted → FullCountsAll es a.now.counted → FullCountsAll now b.now.counted
full_behind a b es now more is causes le full e in_ entry = up (⊎_elim
    (λ before. full e before entry)
    (λ behind. wanted a b e (each_of (λ (e : Entry). WantsRoom e.act e.reply a b) e more causes behind) entry)
    (among_parts e es more (subst (IsAmong e) is in_))) le

-- a release is no Write
pub full_released : (es : List Entry) (name : List ℕ) (moment n : ℕ) → FullCountsAll es n → FullCountsAll (es ++ release_entry name moment ∷ []) n
full_released es name moment n full e in_ is = ⊎_elim
    (λ before. full e before is)
    (λ it. ⊎_elim (λ same. absurd (let other = sym is.write in cc (subst (λ (x : Entry). act.Write ≡ x.act) same other))) (λ none. absurd none) it)
    (among_parts e es (release_entry name moment ∷ []) in_)
