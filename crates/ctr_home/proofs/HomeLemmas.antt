-- What the two homes of a block hold, by the bytes that stand there.
use Rattle.std.proofs.Common.{◌≡◌, ◌≢◌, inl, inr, ℕ, suc, ◌+◌, ◌-◌, ◌≤◌, ◌<◌, List, [], ◌∷◌, ◌++◌, length, take, drop, get_or, refl, sym, ◌∙◌, ap, subst, arith, length-take, length-drop, take-append-drop, Option, Some, None}
use Rattle.std.proofs.lemmas.Bool.{cases_eq, cases_lt}
use Rattle.std.proofs.lemmas.Bool.Decides.{nat_tests}
use Rattle.std.proofs.lemmas.List.{drop_at, drop_more, drop-drop, length-take-le, take-take, drop-take}
use Rattle.ctr_disk.specs.Image.{section}
use Rattle.ctr_disk.proofs.Sections.{section_within}
use Rattle.ctr_bytes.specs.Fields.{field}
use Rattle.ctr_bytes.proofs.FieldLaws.{field-append, field-drop}
use Rattle.ctr_home.specs.declared.block.Block.{Block}
use Rattle.ctr_home.specs.declared.block.Block.TheVariants.{Page, Root}
use Rattle.ctr_home.specs.declared.block.Home.{Home}
use Rattle.ctr_home.specs.declared.block.Home.TheVariants.{First, Second}
use Rattle.ctr_home.specs.Blocks.{BlockValue, body_len, home_len, first_place, home_place, value_behind, home_bytes, opens_to, held_at, stamp_in}
use Rattle.ctr_home.specs.Writing.{home_chosen, chosen_in}

-- a home has room for gate, number, stamp and body
pub room : (b : Block) → 13 + body_len b ≤ home_len b
room (Page p) = omega arith
room Root = omega arith

module _ (b : Block) where
  pub opened_shut : (gate : ℕ) (rest : List ℕ) → gate ≢ 1 → opens_to b (gate ∷ rest) ≡ None
  opened_shut gate rest shut = grind (arith, nat_tests)

  pub opened_short : (bytes : List ℕ) → length bytes < home_len b → opens_to b bytes ≡ None
  opened_short [] short = refl
  opened_short (gate ∷ rest) short = grind (arith, nat_tests)

  pub opened_whole : (rest : List ℕ) → length rest + 1 ≡ home_len b → opens_to b (1 ∷ rest) ≡ Some (value_behind b rest)
  opened_whole rest whole = grind (arith, nat_tests)

  -- the first byte of as many as a home has
  pub take_home : (x : ℕ) (rest : List ℕ) → take (home_len b) (x ∷ rest) ≡ x ∷ take (home_len b - 1) rest
  take_home x rest = let fits = room b in let e : home_len b ≡ suc (home_len b - 1) = omega (arith, fits) in ap (λ (k : ℕ). take k (x ∷ rest)) e

  -- a home behind what stands before it
  pub home_split : (home : Home) (front bytes : List ℕ) (gate : ℕ) (rest : List ℕ) → home_place b home ≡ length front → bytes ≡ front ++ gate ∷ rest → home_bytes b home bytes ≡ gate ∷ take (home_len b - 1) rest
  home_split home front bytes gate rest is split =
      ap (λ (l : List ℕ). take (home_len b) (drop (home_place b home) l)) split ∙ ap (λ (l : List ℕ). take (home_len b) l) (drop_at front (gate ∷ rest) (home_place b home) (sym is)) ∙ take_home gate rest

module _ (b : Block) (home : Home) (bytes : List ℕ) where
  abbrev at : ℕ
  at = home_place b home

  pub length-home : length (home_bytes b home bytes) ≤ length bytes - at
  length-home = omega (arith, length-take (home_len b) (drop at bytes), length-drop at bytes)

  -- a home that the file cuts off is closed
  pub held_short : length bytes < at + home_len b → held_at b home bytes ≡ None
  held_short short = opened_short b (home_bytes b home bytes) (omega (arith, room b, length-take (home_len b) (drop at bytes), length-drop at bytes, short))

  module _ (whole : at + home_len b ≤ length bytes) where
    abbrev rest : List ℕ
    rest = take (home_len b - 1) (drop (at + 1) bytes)

    home_is : home_bytes b home bytes ≡ get_or bytes at 0 ∷ rest
    home_is = ap (λ (l : List ℕ). take (home_len b) l) (drop_more bytes at 0 (omega (arith, room b, whole))) ∙ take_home b (get_or bytes at 0) (drop (at + 1) bytes)

    -- and so is one whose gate isn't 1
    pub held_shut : get_or bytes at 0 ≢ 1 → held_at b home bytes ≡ None
    held_shut shut = ap (opens_to b) home_is ∙ opened_shut b (get_or bytes at 0) rest shut

    rest_long : length rest + 1 ≡ home_len b
    rest_long = omega (arith, room b, length-take-le (home_len b - 1) (drop (at + 1) bytes) (omega (arith, length-drop (at + 1) bytes, whole)))

    -- a field of those behind the gate
    inside : (n k : ℕ) → 1 + k + n ≤ home_len b → field n k rest ≡ field n (at + 1 + k) bytes
    inside n k fits =
        let tail = drop (at + 1) bytes in
        sym (field-append n k rest (drop (home_len b - 1) tail) (omega (arith, rest_long, fits))) ∙ ap (field n k) (take-append-drop (home_len b - 1) tail) ∙ field-drop n k (at + 1) bytes

    pub body_inside : take (body_len b) (drop 12 rest) ≡ take (body_len b) (drop (at + 13) bytes)
    body_inside =
        let fits = room b in
        let m : home_len b - 1 ≡ 12 + (home_len b - 13) = omega (arith, fits) in
        ap (λ (k : ℕ). take (body_len b) (drop 12 (take k (drop (at + 1) bytes)))) m
        ∙ ap (take (body_len b)) (drop-take 12 (home_len b - 13) (drop (at + 1) bytes))
        ∙ take-take (body_len b) (home_len b - 13) (drop 12 (drop (at + 1) bytes)) (omega (arith, fits))
        ∙ ap (take (body_len b)) (drop-drop 12 (at + 1) bytes ∙ ap (λ (k : ℕ). drop k bytes) (omega arith))

    -- what stands in an open home
    abbrev pub value_there : BlockValue
    value_there = record { number = field 4 (at + 1) bytes; stamp = field 8 (at + 5) bytes; body = take (body_len b) (drop (at + 13) bytes) }

    behind_is : value_behind b rest ≡ value_there
    behind_is =
        let fits = room b in
        let n = inside 4 0 (omega (arith, fits)) ∙ ap (λ (k : ℕ). field 4 k bytes) (omega arith) in
        let s = inside 8 4 (omega (arith, fits)) ∙ ap (λ (k : ℕ). field 8 k bytes) (omega arith) in
        (λ i. record { number = n i; stamp = s i; body = body_inside i })

    pub held_open : get_or bytes at 0 ≡ 1 → held_at b home bytes ≡ Some value_there
    held_open one =
        ap (opens_to b) (home_is ∙ ap (λ (g : ℕ). g ∷ rest) one) ∙ opened_whole b rest rest_long ∙ ap Some behind_is

  -- what is held stands in the file
  pub held_inside : (v : BlockValue) → held_at b home bytes ≡ Some v → (at + home_len b ≤ length bytes) × (get_or bytes at 0 ≡ 1)
  held_inside v is = elim (cases_lt (length bytes) (at + home_len b)) [
    | inl short ↦ let none = held_short short in absurd (cc (is, none))
    | inr long ↦ elim (cases_eq (get_or bytes at 0) 1) [
      | inl one ↦ (omega (arith, long), one)
      | inr shut ↦ let none = held_shut (omega (arith, long)) shut in absurd (cc (is, none))
    ]
  ]

  pub held_is : (v : BlockValue) → held_at b home bytes ≡ Some v → v ≡ record { number = field 4 (at + 1) bytes; stamp = field 8 (at + 5) bytes; body = take (body_len b) (drop (at + 13) bytes) }
  held_is v is = let in_file = held_inside v is in some_same v _ (sym is ∙ held_open in_file.0 in_file.1)
    where
      some_same : (x y : BlockValue) → Some x ≡ Some y → x ≡ y
      some_same x y e = let or_x : Option BlockValue → BlockValue = λ o. elim o [ None ↦ x | Some z ↦ z ] in ap or_x e

  -- reads of an open home
  module _ (v : BlockValue) (is : held_at b home bytes ≡ Some v) where
    pub body_read : section (at + 13) (body_len b) bytes ≡ v.body
    body_read =
        let in_file = held_inside v is in
        section_within (at + 13) (body_len b) bytes (omega (arith, room b, in_file.0)) ∙ sym (ap (λ (w : BlockValue). w.body) (held_is v is))

    pub number_read : (read : List ℕ) → read ≡ section (at + 1) 4 bytes → field 4 0 read ≡ v.number
    number_read read read_is =
        let in_file = held_inside v is in
        let tail = drop (at + 1) bytes in
        let long : length (take 4 tail) ≡ 4 = length-take-le 4 tail (omega (arith, room b, in_file.0, length-drop (at + 1) bytes)) in
        ap (field 4 0) (read_is ∙ section_within (at + 1) 4 bytes (omega (arith, room b, in_file.0)))
        ∙ sym (field-append 4 0 (take 4 tail) (drop 4 tail) (omega (arith, long))) ∙ ap (field 4 0) (take-append-drop 4 tail) ∙ field-drop 4 0 (at + 1) bytes
        ∙ ap (λ (k : ℕ). field 4 k bytes) (omega arith) ∙ sym (ap (λ (w : BlockValue). w.number) (held_is v is))

  -- the head of a home that lies in the file was read
  module _ (whole : at + home_len b ≤ length bytes) (read : List ℕ) (read_is : read ≡ section at 13 bytes) where
    head_is : read ≡ take 13 (drop at bytes)
    head_is = read_is ∙ section_within at 13 bytes (omega (arith, room b, whole))

    head_long : length (take 13 (drop at bytes)) ≡ 13
    head_long = length-take-le 13 (drop at bytes) (omega (arith, room b, whole, length-drop at bytes))

    pub gate_read : get_or read 0 0 ≡ get_or bytes at 0
    gate_read =
        let all = drop_more bytes at 0 (omega (arith, room b, whole)) in
        ap (λ (l : List ℕ). get_or l 0 0) (head_is ∙ ap (take 13) all)

    stamp_read : field 8 5 read ≡ field 8 (at + 5) bytes
    stamp_read =
        let tail = drop at bytes in
        ap (field 8 5) head_is ∙ sym (field-append 8 5 (take 13 tail) (drop 13 tail) (omega (arith, head_long))) ∙ ap (field 8 5) (take-append-drop 13 tail) ∙ field-drop 8 5 at bytes

    -- and its stamp is what the home holds
    pub stamp_is : (result : Option ℕ) → (get_or read 0 0 ≡ 1 → result ≡ Some (field 8 5 read)) → (get_or read 0 0 ≢ 1 → result ≡ None) → result ≡ stamp_in (held_at b home bytes)
    stamp_is result open_ shut = elim (cases_eq (get_or bytes at 0) 1) [
      | inl one ↦ open_ (gate_read ∙ one) ∙ ap Some stamp_read ∙ sym (ap stamp_in (held_open whole one))
      | inr closed ↦ shut (λ e. closed (sym gate_read ∙ e)) ∙ sym (ap stamp_in (held_shut whole closed))
    ]

-- the home to write begins at most at the file's end, as the first one does
pub chosen_fits : (b : Block) (bytes : List ℕ) → first_place b ≤ length bytes → home_place b (chosen_in b bytes) ≤ length bytes
chosen_fits b bytes low = by_first (held_at b First bytes) (held_at b Second bytes) (λ v is. (held_inside b First bytes v is).0)
  where
    by_first : (x y : Option BlockValue) → ((v : BlockValue) → x ≡ Some v → first_place b + home_len b ≤ length bytes) → home_place b (home_chosen (stamp_in x) (stamp_in y)) ≤ length bytes
    by_first None y whole = low
    by_first (Some v) None whole = whole v refl
    by_first (Some v) (Some w) whole = elim (cases_lt v.stamp w.stamp) [
      | inl less ↦ let e : home_chosen (Some v.stamp) (Some w.stamp) ≡ First = grind (arith, nat_tests) in subst (λ (h : Home). home_place b h ≤ length bytes) (sym e) low
      | inr more ↦ let e : home_chosen (Some v.stamp) (Some w.stamp) ≡ Second = grind (arith, nat_tests) in subst (λ (h : Home). home_place b h ≤ length bytes) (sym e) (whole v refl)
    ]
