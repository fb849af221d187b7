-- What the writing of a home leaves of both homes, and of other blocks.
use Rattle.std.proofs.Common.{◌≡◌, ◌≢◌, ◌⊎◌, inl, inr, ⊎_elim, ℕ, ◌+◌, ◌-◌, ◌≤◌, ◌<◌, ◌*◌, Bool, true, false, cond, nat_lt, List, [], ◌∷◌, ◌++◌, length, take, drop, get_or, refl, sym, ◌∙◌, ap, subst, arith, length-append, length-take, take-append-drop, Option, Some, None}
use Rattle.std.proofs.lemmas.Bool.{cases_eq, cases_lt}
use Rattle.std.proofs.lemmas.Bool.Decides.{nat_tests}
use Rattle.std.proofs.lemmas.List.{take_at, drop-drop, drop-take, length-take-le, take-append-le, get_or_at}
use Rattle.ctr_disk.specs.types_File.{File}
use Rattle.ctr_disk.specs.types_File.TheVariants.{Root as RootFile, LogA, LogB, Pages}
use Rattle.ctr_disk.specs.Image.{Image, content, written, write_of, Torn, TornImage, OtherFilesStay}
use Rattle.ctr_disk.specs.TornLaws.{torn_whole}
use Rattle.ctr_disk.proofs.Torn.{torn_behind, torn_byte, written_behind, written_byte, written_end, split_at, same_but, content_written}
use Rattle.ctr_home.specs.declared.block.Block.{Block}
use Rattle.ctr_home.specs.declared.block.Block.TheVariants.{Page, Root}
use Rattle.ctr_home.specs.declared.block.Home.{Home}
use Rattle.ctr_home.specs.declared.block.Home.TheVariants.{First, Second}
use Rattle.ctr_home.specs.Blocks.{BlockValue, file_of, home_len, home_place, value_behind, behind_gate, home_bytes, opens_to, held_at, stamp_in, greater, value_in, value_of}
use Rattle.ctr_home.specs.Writing.{IsAbove, home_chosen, chosen_in, IsShut, other, OthersStay, KeepsHome, MakesHome, KeepsOrMakesHome, IsOldOrNewValue, IsNewValue}
use Rattle.ctr_home.proofs.HomeLemmas.{room, opened_shut, opened_whole, home_split, held_short}

-- ---- the value, by what the two homes hold

-- a value stays while the other home than its own is written
keeps_first : (a b c : Option BlockValue) → First ≡ home_chosen (stamp_in a) (stamp_in b) → (c ≡ None) ⊎ (c ≡ a) → greater c b ≡ greater a b
keeps_first None b c is (inl none) = ap (λ (o : Option BlockValue). greater o b) none
keeps_first None b c is (inr same) = ap (λ (o : Option BlockValue). greater o b) same
keeps_first (Some x) None c is here = absurd (cc is)
keeps_first (Some x) (Some y) c is (inr same) = ap (λ (o : Option BlockValue). greater o (Some y)) same
keeps_first (Some x) (Some y) c is (inl none) = ap (λ (o : Option BlockValue). greater o (Some y)) none ∙ by_test (nat_lt x.stamp y.stamp) is
  where
    by_test : (t : Bool) → First ≡ cond t First Second → Some y ≡ cond t (Some y) (Some x)
    by_test true e = refl
    by_test false e = absurd (cc e)

keeps_second : (a b c : Option BlockValue) → Second ≡ home_chosen (stamp_in a) (stamp_in b) → (c ≡ None) ⊎ (c ≡ b) → greater a c ≡ greater a b
keeps_second None b c is here = absurd (cc is)
keeps_second (Some x) b c is (inr same) = ap (λ (o : Option BlockValue). greater (Some x) o) same
keeps_second (Some x) None c is (inl none) = ap (λ (o : Option BlockValue). greater (Some x) o) none
keeps_second (Some x) (Some y) c is (inl none) = ap (λ (o : Option BlockValue). greater (Some x) o) none ∙ by_test (nat_lt x.stamp y.stamp) is
  where
    by_test : (t : Bool) → Second ≡ cond t First Second → Some x ≡ cond t (Some y) (Some x)
    by_test true e = absurd (cc e)
    by_test false e = refl

-- a value with a stamp above the old one's is the new one
greater_first : (y n : BlockValue) → y.stamp < n.stamp → greater (Some n) (Some y) ≡ Some n
greater_first y n above = grind (arith, nat_tests)

greater_second : (x n : BlockValue) → x.stamp < n.stamp → greater (Some x) (Some n) ≡ Some n
greater_second x n above = grind (arith, nat_tests)

makes_first : (a b : Option BlockValue) (n : BlockValue) → First ≡ home_chosen (stamp_in a) (stamp_in b) → IsAbove n.stamp (greater a b) → greater (Some n) b ≡ Some n
makes_first a None n is above = refl
makes_first None (Some y) n is above = greater_first y n above
makes_first (Some x) (Some y) n is above = greater_first y n (by_test (nat_lt x.stamp y.stamp) is above)
  where
    by_test : (t : Bool) → First ≡ cond t First Second → IsAbove n.stamp (cond t (Some y) (Some x)) → y.stamp < n.stamp
    by_test true e up = up
    by_test false e up = absurd (cc e)

makes_second : (a b : Option BlockValue) (n : BlockValue) → Second ≡ home_chosen (stamp_in a) (stamp_in b) → IsAbove n.stamp (greater a b) → greater a (Some n) ≡ Some n
makes_second None b n is above = absurd (cc is)
makes_second (Some x) None n is above = greater_second x n above
makes_second (Some x) (Some y) n is above = greater_second x n (by_test (nat_lt x.stamp y.stamp) is above)
  where
    by_test : (t : Bool) → Second ≡ cond t First Second → IsAbove n.stamp (cond t (Some y) (Some x)) → x.stamp < n.stamp
    by_test true e up = absurd (cc e)
    by_test false e up = up

module _ (b : Block) (old new : List ℕ) where
  kept_value : (home : Home) → home ≡ chosen_in b old → held_at b (other home) new ≡ held_at b (other home) old → (held_at b home new ≡ None) ⊎ (held_at b home new ≡ held_at b home old) → value_in b new ≡ value_in b old
  kept_value First is beside here =
      ap (λ (o : Option BlockValue). greater (held_at b First new) o) beside ∙ keeps_first (held_at b First old) (held_at b Second old) (held_at b First new) is here
  kept_value Second is beside here =
      ap (λ (o : Option BlockValue). greater o (held_at b Second new)) beside ∙ keeps_second (held_at b First old) (held_at b Second old) (held_at b Second new) is here

  made_value : (home : Home) (n : BlockValue) → home ≡ chosen_in b old → IsAbove n.stamp (value_in b old) → held_at b (other home) new ≡ held_at b (other home) old → held_at b home new ≡ Some n → value_in b new ≡ Some n
  made_value First n is above beside here =
      ap (λ (o : Option BlockValue). greater o (held_at b Second new)) here ∙ ap (λ (o : Option BlockValue). greater (Some n) o) beside
      ∙ makes_first (held_at b First old) (held_at b Second old) n is above
  made_value Second n is above beside here =
      ap (λ (o : Option BlockValue). greater (held_at b First new) o) here ∙ ap (λ (o : Option BlockValue). greater o (Some n)) beside
      ∙ makes_second (held_at b First old) (held_at b Second old) n is above

-- ---- what stands elsewhere

-- a torn write leaves what stands outside its range
pub elsewhere : (at n from k : ℕ) (o c : List ℕ) → Torn at n o c → at ≤ length o → (from + k ≤ at) ⊎ (at + n ≤ from) → take k (drop from c) ≡ take k (drop from o)
elsewhere at n from k o c torn inside (inr high) =
    let m : at + n + (from - (at + n)) ≡ from = omega (arith, high) in
    let by : (l : List ℕ) → drop from l ≡ drop (from - (at + n)) (drop (at + n) l) = λ l. ap (λ (j : ℕ). drop j l) (sym m) ∙ sym (drop-drop (from - (at + n)) (at + n) l) in
    ap (take k) (by c ∙ ap (drop (from - (at + n))) torn.after ∙ sym (by o))
elsewhere at n from k o c torn inside (inl low) =
    let front = take at o in
    let long : length front ≡ at = omega (arith, inside, length-take at o) in
    let by : (l : List ℕ) → take k (drop from l) ≡ drop from (take (from + k) l) = λ l. sym (drop-take from k l) in
    let same_c : take (from + k) c ≡ take (from + k) front = ap (take (from + k)) torn.before.1 ∙ take-append-le (from + k) front torn.before.0 (omega (arith, low, long)) in
    let same_o : take (from + k) o ≡ take (from + k) front =
    ap (take (from + k)) (sym (take-append-drop at o)) ∙ take-append-le (from + k) front (drop at o) (omega (arith, low, long)) in
    by c ∙ ap (drop from) (same_c ∙ sym same_o) ∙ sym (by o)

-- a range inside a home
abbrev pub IsInHome : Block → Home → ℕ → ℕ → Type 0
IsInHome b home at n = (home_place b home ≤ at) × (at + n ≤ home_place b home + home_len b)

-- lies outside the other one
beside_apart : (b : Block) (home : Home) (at n : ℕ) → IsInHome b home at n → (home_place b (other home) + home_len b ≤ at) ⊎ (at + n ≤ home_place b (other home))
beside_apart b First at n inside = inr (omega (arith, inside.1))
beside_apart b Second at n inside = inl (omega (arith, inside.0))

-- and outside those of other pages
page_apart : (p q : ℕ) (home h : Home) (at n : ℕ) → (p ≡ q → ⊥) → IsInHome (Page p) home at n → (home_place (Page q) h + 4128 ≤ at) ⊎ (at + n ≤ home_place (Page q) h)
page_apart p q home h at n apart inside = elim (cases_lt p q) [
  | inl less ↦ inr (let x = low home inside.1 in let y = high h in omega (arith, less, x, y))
  | inr more ↦ elim (cases_eq p q) [
    | inl same ↦ absurd (apart same)
    | inr differ ↦ inl (let x = start home inside.0 in let y = end h in omega (arith, more, differ, x, y))
  ]
]
  where
    low : (home : Home) → at + n ≤ home_place (Page p) home + 4128 → at + n ≤ 8256 * p + 8256
    low First le = omega (arith, le)
    low Second le = omega (arith, le)

    high : (h : Home) → 8256 * q ≤ home_place (Page q) h
    high First = omega arith
    high Second = omega arith

    start : (home : Home) → home_place (Page p) home ≤ at → 8256 * p ≤ at
    start First le = omega (arith, le)
    start Second le = omega (arith, le)

    end : (h : Home) → home_place (Page q) h + 4128 ≤ 8256 * q + 8256
    end First = omega arith
    end Second = omega arith

-- what another block's homes hold, and its value
module _ (old new : Image) (at n : ℕ) where
  homes_by : (b c : Block) (home : Home) → (c ≡ b → ⊥) → IsInHome b home at n → at ≤ length (content (file_of b) old) → TornImage (file_of b) at n old new → (h : Home)
      → held_at c h (content (file_of c) new) ≡ held_at c h (content (file_of c) old)
  homes_by Root Root home apart inside fits torn h = absurd (apart refl)
  homes_by Root (Page q) home apart inside fits torn h = ap (λ (i : Image). held_at (Page q) h i.pages) torn.others
  homes_by (Page p) Root home apart inside fits torn h = ap (λ (i : Image). held_at Root h i.root) torn.others
  homes_by (Page p) (Page q) home apart inside fits torn h =
      let differ : p ≡ q → ⊥ = λ e. apart (ap Page (sym e)) in
      ap (opens_to (Page q)) (elsewhere at n (home_place (Page q) h) 4128 old.pages new.pages torn.torn fits (page_apart p q home h at n differ inside))

  others_by : (b c : Block) (home : Home) → (c ≡ b → ⊥) → IsInHome b home at n → at ≤ length (content (file_of b) old) → TornImage (file_of b) at n old new → value_of c new ≡ value_of c old
  others_by b c home apart inside fits torn =
      let one = homes_by b c home apart inside fits torn in
      ap (λ (o : Option BlockValue). greater o (held_at c Second (content (file_of c) new))) (one First)
      ∙ ap (λ (o : Option BlockValue). greater (held_at c First (content (file_of c) old)) o) (one Second)

  -- all else stays where a write inside a home is torn
  pub others_torn : (b : Block) (home : Home) → IsInHome b home at n → at ≤ length (content (file_of b) old) → TornImage (file_of b) at n old new → OthersStay b old new
  others_torn b home inside fits torn = record {
    files = torn.others;
    homes = λ c differ. homes_by b c home differ inside fits torn;
    blocks = λ c differ. others_by b c home differ inside fits torn;
    no_shorter = torn.torn.no_shorter;
  }

  pub beside_torn : (b : Block) (home : Home) → IsInHome b home at n → at ≤ length (content (file_of b) old) → TornImage (file_of b) at n old new
      → held_at b (other home) (content (file_of b) new) ≡ held_at b (other home) (content (file_of b) old)
  beside_torn b home inside fits torn =
      ap (opens_to b) (elsewhere at n (home_place b (other home)) (home_len b) (content (file_of b) old) (content (file_of b) new) torn.torn fits (beside_apart b home at n inside))

pub others_same : (b : Block) (old new : Image) → new ≡ old → OthersStay b old new
others_same b old new is = subst (OthersStay b old) (sym is) (record { files = same_file (file_of b); homes = λ c differ h. refl; blocks = λ c differ. refl; no_shorter = omega arith })
  where
    same_file : (f : File) → OtherFilesStay f old old
    same_file RootFile = refl
    same_file LogA = refl
    same_file LogB = refl
    same_file Pages = refl

pub others_then : (b : Block) (old mid new : Image) → OthersStay b old mid → OthersStay b mid new → OthersStay b old new
others_then b old mid new first second = record {
  files = same_but (file_of b) old mid new first.files second.files;
  homes = λ c differ h. second.homes c differ h ∙ first.homes c differ h;
  blocks = λ c differ. second.blocks c differ ∙ first.blocks c differ;
  no_shorter = omega (arith, first.no_shorter, second.no_shorter);
}

-- ---- the steps of the writing of a home

module _ (b : Block) (home : Home) (old : Image) where
  abbrev file : File
  file = file_of b

  abbrev bytes : List ℕ
  bytes = content file old

  abbrev at : ℕ
  at = home_place b home

  pub keeps_same : (new : Image) → new ≡ old → KeepsHome b home old new
  keeps_same new is = record {
    others = others_same b old new is;
    beside = ap (λ (i : Image). held_at b (other home) (content file i)) is;
    here = inr (ap (λ (i : Image). held_at b home (content file i)) is);
  }

  -- the home, split at its gate
  module _ (fits : at ≤ length bytes) where
    front_is : at ≡ length (take at bytes)
    front_is = sym (length-take-le at bytes fits)

    abbrev gate : ℕ
    gate = get_or bytes at 0

    abbrev rest : List ℕ
    rest = drop (at + 1) bytes

    in_gate : IsInHome b home at 1
    in_gate = (omega arith, omega (arith, room b))

    module _ (open_ : at < length bytes → gate ≡ 1) where
      here_torn : (c : Image) → TornImage file at 1 old c → (held_at b home (content file c) ≡ None) ⊎ (held_at b home (content file c) ≡ held_at b home bytes)
      here_torn c torn = elim (cases_lt at (length bytes)) [
        | inl within ↦
            let whole = split_at at bytes within in
            let t = subst (λ (o : List ℕ). Torn at 1 o (content file c)) whole torn.torn in
            let byte = torn_byte (take at bytes) rest gate at (content file c) front_is t in
            let new_is = home_split b home (take at bytes) (content file c) byte.0 rest front_is byte.1 in
            let old_is = home_split b home (take at bytes) bytes gate rest front_is whole in
            elim (cases_eq byte.0 1) [
              | inl one ↦ inr (ap (opens_to b) (new_is ∙ ap (λ (x : ℕ). x ∷ take (home_len b - 1) rest) (one ∙ sym (open_ within)) ∙ sym old_is))
              | inr shut ↦ inl (ap (opens_to b) new_is ∙ opened_shut b byte.0 (take (home_len b - 1) rest) shut)
            ]
        | inr end ↦ inl (held_short b home (content file c) (omega (arith, room b, end, torn.torn.no_longer)))
      ]

      -- closing the gate where it is open or isn't there
      pub shut_by_torn : (c : Image) → TornImage file at 1 old c → KeepsHome b home old c
      shut_by_torn c torn = record {
        others = others_torn old c at 1 b home in_gate fits torn;
        beside = beside_torn old c at 1 b home in_gate fits torn;
        here = here_torn c torn;
      }

      shut_written : IsShut b home (written at (0 ∷ []) bytes)
      shut_written = elim (cases_lt at (length bytes)) [
        | inl within ↦
            let new_is : written at (0 ∷ []) bytes ≡ take at bytes ++ 0 ∷ rest =
            ap (λ (l : List ℕ). written at (0 ∷ []) l) (split_at at bytes within) ∙ written_byte (take at bytes) rest gate at 0 front_is in
            shut_at (written at (0 ∷ []) bytes) (take at bytes) rest new_is front_is
        | inr end ↦ shut_at (written at (0 ∷ []) bytes) bytes [] (written_end bytes 0 at (omega (arith, fits, end))) (omega (arith, fits, end))
      ]
        where
          shut_at : (c front tail : List ℕ) → c ≡ front ++ 0 ∷ tail → at ≡ length front → IsShut b home c
          shut_at c front tail is place_is =
              let byte : get_or c at 0 ≡ 0 = ap (λ (l : List ℕ). get_or l at 0) is ∙ get_or_at front 0 tail 0 at (sym place_is) in
              (omega (arith, ap length is, length-append front (0 ∷ tail), place_is), λ e. omega (arith, byte, e))

      pub shut_by_write : (new : Image) → new ≡ write_of file at (0 ∷ []) old → KeepsHome b home old new × IsShut b home (content file new)
      shut_by_write new is =
          let P : Image → Type 0 = λ c. KeepsHome b home old c × IsShut b home (content file c) in
          subst P (sym is) (shut_by_torn _ (torn_whole file at (0 ∷ []) old), subst (IsShut b home) (sym (content_written file at (0 ∷ []) old)) shut_written)

  module _ (shut : IsShut b home bytes) (behind : List ℕ) (whole : length behind + 1 ≡ home_len b) where
    fits_shut : at ≤ length bytes
    fits_shut = let within = shut.0 in omega (arith, within)

    abbrev front : List ℕ
    front = take at bytes

    abbrev shut_gate : ℕ
    shut_gate = get_or bytes at 0

    abbrev tail : List ℕ
    tail = drop (at + 1) bytes

    front_long : at ≡ length front
    front_long = sym (length-take-le at bytes fits_shut)

    old_split : bytes ≡ front ++ shut_gate ∷ tail
    old_split = split_at at bytes shut.0

    in_body : IsInHome b home (at + 1) (length behind)
    in_body = (omega arith, omega (arith, whole))

    fits_body : at + 1 ≤ length bytes
    fits_body = let within = shut.0 in omega (arith, within)

    -- all but the gate, torn
    pub body_by_torn : (c : Image) → TornImage file (at + 1) (length behind) old c → KeepsHome b home old c
    body_by_torn c torn =
        let t = subst (λ (o : List ℕ). Torn (at + 1) (length behind) o (content file c)) old_split torn.torn in
        let new_is = torn_behind front tail shut_gate (at + 1) (content file c) (length behind) (omega (arith, front_long)) t in
        record {
          others = others_torn old c (at + 1) (length behind) b home in_body fits_body torn;
          beside = beside_torn old c (at + 1) (length behind) b home in_body fits_body torn;
          here = inl (ap (opens_to b) (home_split b home front (content file c) shut_gate new_is.0 front_long new_is.1) ∙ opened_shut b shut_gate (take (home_len b - 1) new_is.0) shut.1);
        }

    -- and written
    module _ (mid : Image) (is_mid : mid ≡ write_of file (at + 1) behind old) where
      mid_torn : TornImage file (at + 1) (length behind) old mid
      mid_torn = subst (λ (c : Image). TornImage file (at + 1) (length behind) old c) (sym is_mid) (torn_whole file (at + 1) behind old)

      mid_keeps : KeepsHome b home old mid
      mid_keeps = body_by_torn mid mid_torn

      mid_split : content file mid ≡ front ++ shut_gate ∷ (behind ++ drop (length behind) tail)
      mid_split =
          ap (content file) is_mid ∙ content_written file (at + 1) behind old ∙ ap (λ (l : List ℕ). written (at + 1) behind l) old_split
          ∙ written_behind front tail shut_gate (at + 1) behind (omega (arith, front_long))

      fits_mid : at ≤ length (content file mid)
      fits_mid = omega (arith, fits_shut, mid_torn.torn.no_shorter)

      in_gate_mid : IsInHome b home at 1
      in_gate_mid = (omega arith, omega (arith, room b))

      -- what the home holds with this gate
      home_with : (c : List ℕ) (byte : ℕ) → c ≡ front ++ byte ∷ (behind ++ drop (length behind) tail) → home_bytes b home c ≡ byte ∷ behind
      home_with c byte is =
          home_split b home front c byte (behind ++ drop (length behind) tail) front_long is
          ∙ ap (λ (l : List ℕ). byte ∷ l) (take_at behind (drop (length behind) tail) (home_len b - 1) (omega (arith, whole)))

      others_mid : (c : Image) → TornImage file at 1 mid c → OthersStay b old c
      others_mid c torn = others_then b old mid c mid_keeps.others (others_torn mid c at 1 b home in_gate_mid fits_mid torn)

      beside_mid : (c : Image) → TornImage file at 1 mid c → held_at b (other home) (content file c) ≡ held_at b (other home) bytes
      beside_mid c torn = beside_torn mid c at 1 b home in_gate_mid fits_mid torn ∙ mid_keeps.beside

      -- the gate, torn
      pub gate_by_torn : behind ≡ behind_gate b (value_behind b behind) → (c : Image) → TornImage file at 1 mid c → KeepsOrMakesHome b home (value_behind b behind) old c
      gate_by_torn spelled_is c torn =
          let t = subst (λ (o : List ℕ). Torn at 1 o (content file c)) mid_split torn.torn in
          let byte = torn_byte front (behind ++ drop (length behind) tail) shut_gate at (content file c) front_long t in
          let home_is = home_with (content file c) byte.0 byte.1 in
          elim (cases_eq byte.0 1) [
            | inl one ↦ inr (record {
              others = others_mid c torn;
              beside = beside_mid c torn;
              here = ap (opens_to b) (home_is ∙ ap (λ (x : ℕ). x ∷ behind) one) ∙ opened_whole b behind whole;
              whole = home_is ∙ ap (λ (x : ℕ). x ∷ behind) one ∙ ap (λ (l : List ℕ). 1 ∷ l) spelled_is;
            })
            | inr closed ↦ inl (record {
              others = others_mid c torn;
              beside = beside_mid c torn;
              here = inl (ap (opens_to b) home_is ∙ opened_shut b byte.0 behind closed);
            })
          ]

      -- and written
      pub gate_by_write : behind ≡ behind_gate b (value_behind b behind) → (new : Image) → new ≡ write_of file at (1 ∷ []) mid → MakesHome b home (value_behind b behind) old new
      gate_by_write spelled_is new is =
          let torn = subst (λ (c : Image). TornImage file at 1 mid c) (sym is) (torn_whole file at (1 ∷ []) mid) in
          let new_is : content file new ≡ front ++ 1 ∷ (behind ++ drop (length behind) tail) =
          ap (content file) is ∙ content_written file at (1 ∷ []) mid ∙ ap (λ (l : List ℕ). written at (1 ∷ []) l) mid_split
          ∙ written_byte front (behind ++ drop (length behind) tail) shut_gate at 1 front_long in
          record {
            others = others_mid new torn;
            beside = beside_mid new torn;
            here = ap (opens_to b) (home_with (content file new) 1 new_is) ∙ opened_whole b behind whole;
            whole = home_with (content file new) 1 new_is ∙ ap (λ (l : List ℕ). 1 ∷ l) spelled_is;
          }

-- ---- the writing of a home, seen as the value

module _ (b : Block) (home : Home) (old : Image) (value : BlockValue) (is : home ≡ chosen_in b (content (file_of b) old)) where
  pub keeps_value : (c : Image) → KeepsHome b home old c → IsOldOrNewValue b value old c
  keeps_value c keeps = (keeps.others, inl (kept_value b (content (file_of b) old) (content (file_of b) c) home is keeps.beside keeps.here))

  module _ (mid : Image) (kept : KeepsHome b home old mid) where
    here_then : (c : Image) → KeepsHome b home mid c → (held_at b home (content (file_of b) c) ≡ None) ⊎ (held_at b home (content (file_of b) c) ≡ held_at b home (content (file_of b) old))
    here_then c keeps = ⊎_elim (λ none. inl none) (λ same. ⊎_elim (λ none. inl (same ∙ none)) (λ was. inr (same ∙ was)) kept.here) keeps.here

    pub later_keeps : (c : Image) → KeepsHome b home mid c → IsOldOrNewValue b value old c
    later_keeps c keeps = keeps_value c (record {
      others = others_then b old mid c kept.others keeps.others;
      beside = keeps.beside ∙ kept.beside;
      here = here_then c keeps;
    })

    pub later_makes : IsAbove value.stamp (value_of b old) → (c : Image) → MakesHome b home value mid c → IsNewValue b value old c
    later_makes above c makes = (
      others_then b old mid c kept.others makes.others,
      made_value b (content (file_of b) old) (content (file_of b) c) home value is above (makes.beside ∙ kept.beside) makes.here,
      (home, makes.whole),
    )

    pub later_either : IsAbove value.stamp (value_of b old) → (c : Image) → KeepsOrMakesHome b home value mid c → IsOldOrNewValue b value old c
    later_either above c (inl keeps) = later_keeps c keeps
    later_either above c (inr makes) = let new = later_makes above c makes in (new.0, inr new.1)

-- a gate that is in the file and isn't closed is open
pub gate_open : (t : Bool) (byte : ℕ) (P : Type 0) → t ≡ false → (P × (byte ≢ 1) → t ≡ true) → P → byte ≡ 1
gate_open t byte P is_false shut within = elim (cases_eq byte 1) [ inl one ↦ one | inr other_byte ↦ let is_true = shut (within, other_byte) in absurd (cc (is_false, is_true)) ]
