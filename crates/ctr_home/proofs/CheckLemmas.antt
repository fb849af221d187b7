-- Checks one after another.
use Rattle.std.proofs.Common.{◌≡◌, ◌≢◌, ◌+◌, ◌<◌, inl, inr, ⊎_elim, ℕ, Bool, if◌then◌else◌, List, [], ◌∷◌, length, drop, get_or, refl, sym, ◌∙◌, ap, Ok, Err}
use Rattle.std.proofs.lemmas.Bool.{cases_eq}
use Rattle.std.proofs.lemmas.Bool.Decides.{eqb_tells}
use Rattle.std.proofs.lemmas.List.{drop_more}
use Rattle.ctr_disk.specs.types_Damage.{damage_of}
use Rattle.ctr_disk.specs.types_File.{File}
use Rattle.ctr_disk.specs.declared.fault.StoreFault.TheVariants.{Damaged}
use Rattle.ctr_home.specs.declared.checks.Check.{Check}
use Rattle.ctr_home.specs.Checks.{judged}

-- a check that passes is passed over
pub judged_same : (file : File) (c : Check) (cs : List Check) → c.want ≡ c.got → judged file (c ∷ cs) ≡ judged file cs
judged_same file c cs same = ⊎_elim (λ w. ap (λ (t : Bool). if t then judged file cs else Err (Damaged (damage_of file c.at c.want c.got))) w.0) (λ w. absurd (w.1 same)) (eqb_tells c.want c.got)

-- the first that fails is damage
pub judged_fails : (file : File) (c : Check) (cs : List Check) → c.want ≢ c.got → judged file (c ∷ cs) ≡ Err (Damaged (damage_of file c.at c.want c.got))
judged_fails file c cs differ = ⊎_elim (λ w. absurd (differ w.1)) (λ w. ap (λ (t : Bool). if t then judged file cs else Err (Damaged (damage_of file c.at c.want c.got))) w.0) (eqb_tells c.want c.got)

-- the same of one in a list
pub judged_at : (file : File) (cs : List Check) (k : ℕ) (d : Check) → k < length cs → judged file (drop k cs) ≡ judged file (get_or cs k d ∷ drop (k + 1) cs)
judged_at file cs k d within = ap (judged file) (drop_more cs k d within)

-- each check passes
abbrev pub AllPass : List Check → Type 0
AllPass [] = Unit {0}
AllPass (c ∷ cs) = (c.want ≡ c.got) × AllPass cs

-- checks that found no damage passed
pub all_pass : (file : File) (cs : List Check) → judged file cs ≡ Ok tt → AllPass cs
all_pass file [] is = tt
all_pass file (c ∷ cs) is = elim (cases_eq c.want c.got) [
  | inl same ↦ (same, all_pass file cs (sym (judged_same file c cs same) ∙ is))
  | inr differ ↦ let fails = judged_fails file c cs differ in absurd (cc (is, fails))
]

-- and where all pass there is none
pub pass_all : (file : File) (cs : List Check) → AllPass cs → judged file cs ≡ Ok tt
pass_all file [] all = refl
pass_all file (c ∷ cs) all = judged_same file c cs all.0 ∙ pass_all file cs all.1
