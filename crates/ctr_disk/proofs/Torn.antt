-- What a write leaves of a list of bytes, and what of it where a crash cuts it short.
use Rattle.std.proofs.Common.{◌≡◌, ℕ, ◌+◌, ◌<◌, List, [], ◌∷◌, ◌++◌, length, take, drop, replicate, get_or, refl, sym, ◌∙◌, ap, arith, length-append, take-append-drop, append_assoc}
use Rattle.std.proofs.lemmas.List.{append-nil, take_at, drop_at, drop_all, drop_more, drop-drop}
use Rattle.ctr_disk.specs.Image.{Image}
use Rattle.ctr_disk.specs.Image.{content, with_content, written, write_of, Torn, OtherFilesStay}
use Rattle.ctr_types.specs.declared.file.File.{File}
use Rattle.ctr_types.specs.declared.file.File.TheVariants.{Root, LogA, LogB, Pages}

-- the other files stay over several calls
pub same_but : (f : File) (a b c : Image) → OtherFilesStay f a b → OtherFilesStay f b c → OtherFilesStay f a c
same_but Root a b c first second = second ∙ ap (with_content Root c.root) first
same_but LogA a b c first second = second ∙ ap (with_content LogA c.log_a) first
same_but LogB a b c first second = second ∙ ap (with_content LogB c.log_b) first
same_but Pages a b c first second = second ∙ ap (with_content Pages c.pages) first

-- a list around one of its bytes
pub split_at : (n : ℕ) (o : List ℕ) → n < length o → o ≡ take n o ++ get_or o n 0 ∷ drop (n + 1) o
split_at n o within = sym (take-append-drop n o) ∙ ap (λ (l : List ℕ). take n o ++ l) (drop_more o n 0 within)

module _ (front rest : List ℕ) (gate at : ℕ) where
  whole : front ++ gate ∷ rest ≡ (front ++ gate ∷ []) ++ rest
  whole = sym (append_assoc front (gate ∷ []) rest)

  -- what stands up to a byte before the range stays
  pub torn_behind : (c : List ℕ) (n : ℕ) → at ≡ length front + 1 → Torn at n (front ++ gate ∷ rest) c → (tail : List ℕ) × (c ≡ front ++ gate ∷ tail)
  torn_behind c n is torn =
      let size : length (front ++ gate ∷ []) ≡ at = omega (arith, is, length-append front (gate ∷ [])) in
      let same : take at (front ++ gate ∷ rest) ≡ front ++ gate ∷ [] = ap (λ (l : List ℕ). take at l) whole ∙ take_at (front ++ gate ∷ []) rest at size in
      (torn.before.0, torn.before.1 ∙ ap (λ (l : List ℕ). l ++ torn.before.0) same ∙ append_assoc front (gate ∷ []) torn.before.0)

  -- a torn write of one byte over one that is there leaves some byte there
  pub torn_byte : (c : List ℕ) → at ≡ length front → Torn at 1 (front ++ gate ∷ rest) c → (byte : ℕ) × (c ≡ front ++ byte ∷ rest)
  torn_byte c is torn =
      let total = length-append front (gate ∷ rest) in
      let before : c ≡ front ++ torn.before.0 = torn.before.1 ∙ ap (λ (l : List ℕ). l ++ torn.before.0) (take_at front (gate ∷ rest) at (sym is)) in
      let size : length (front ++ gate ∷ []) ≡ at + 1 = omega (arith, is, length-append front (gate ∷ [])) in
      let after : drop (at + 1) c ≡ rest = torn.after ∙ ap (λ (l : List ℕ). drop (at + 1) l) whole ∙ drop_at (front ++ gate ∷ []) rest (at + 1) size in
      let tail : drop at c ≡ get_or c at 0 ∷ rest = drop_more c at 0 (omega (arith, torn.no_shorter, total, is)) ∙ ap (λ (l : List ℕ). get_or c at 0 ∷ l) after in
      let same : torn.before.0 ≡ drop at c = sym (ap (λ (l : List ℕ). drop at l) before ∙ drop_at front torn.before.0 at (sym is)) in
      (get_or c at 0, before ∙ ap (λ (l : List ℕ). front ++ l) (same ∙ tail))

  -- a write behind a byte that is there
  pub written_behind : (bytes : List ℕ) → at ≡ length front + 1 → written at bytes (front ++ gate ∷ rest) ≡ front ++ gate ∷ (bytes ++ drop (length bytes) rest)
  written_behind bytes is =
      let o = front ++ gate ∷ rest in
      let size : length (front ++ gate ∷ []) ≡ at = omega (arith, is, length-append front (gate ∷ [])) in
      let regroup : o ++ replicate at 0 ≡ (front ++ gate ∷ []) ++ (rest ++ replicate at 0) =
      append_assoc front (gate ∷ rest) (replicate at 0) ∙ sym (append_assoc front (gate ∷ []) (rest ++ replicate at 0)) in
      let before : take at (o ++ replicate at 0) ≡ front ++ gate ∷ [] = ap (λ (l : List ℕ). take at l) regroup ∙ take_at (front ++ gate ∷ []) (rest ++ replicate at 0) at size in
      let tail : drop (at + length bytes) o ≡ drop (length bytes) rest =
      sym (drop-drop (length bytes) at o) ∙ ap (λ (l : List ℕ). drop (length bytes) l) (ap (λ (l : List ℕ). drop at l) whole ∙ drop_at (front ++ gate ∷ []) rest at size) in
      ap (λ (l : List ℕ). l ++ bytes ++ drop (at + length bytes) o) before ∙ append_assoc (front ++ gate ∷ []) bytes (drop (at + length bytes) o)
      ∙ append_assoc front (gate ∷ []) (bytes ++ drop (at + length bytes) o) ∙ ap (λ (l : List ℕ). front ++ gate ∷ (bytes ++ l)) tail

  -- a write of one byte over one that is there
  pub written_byte : (byte : ℕ) → at ≡ length front → written at (byte ∷ []) (front ++ gate ∷ rest) ≡ front ++ byte ∷ rest
  written_byte byte is =
      let o = front ++ gate ∷ rest in
      let regroup : o ++ replicate at 0 ≡ front ++ (gate ∷ rest ++ replicate at 0) = append_assoc front (gate ∷ rest) (replicate at 0) in
      let before : take at (o ++ replicate at 0) ≡ front = ap (λ (l : List ℕ). take at l) regroup ∙ take_at front (gate ∷ rest ++ replicate at 0) at (sym is) in
      let size : length (front ++ gate ∷ []) ≡ at + 1 = omega (arith, is, length-append front (gate ∷ [])) in
      let after : drop (at + 1) o ≡ rest = ap (λ (l : List ℕ). drop (at + 1) l) whole ∙ drop_at (front ++ gate ∷ []) rest (at + 1) size in
      ap (λ (l : List ℕ). l ++ (byte ∷ []) ++ drop (at + 1) o) before ∙ ap (λ (l : List ℕ). front ++ (byte ∷ []) ++ l) after ∙ append_assoc front (byte ∷ []) rest

-- a write of one byte at the end
pub written_end : (o : List ℕ) (byte at : ℕ) → at ≡ length o → written at (byte ∷ []) o ≡ o ++ byte ∷ []
written_end o byte at is =
    ap (λ (l : List ℕ). l ++ (byte ∷ []) ++ drop (at + 1) o) (take_at o (replicate at 0) at (sym is))
    ∙ ap (λ (l : List ℕ). o ++ (byte ∷ []) ++ l) (drop_all (at + 1) o (omega (arith, is))) ∙ append-nil (o ++ byte ∷ [])

-- contents of one file
pub content_written : (f : File) (at : ℕ) (bytes : List ℕ) (i : Image) → content f (write_of f at bytes i) ≡ written at bytes (content f i)
content_written Root at bytes i = refl
content_written LogA at bytes i = refl
content_written LogB at bytes i = refl
content_written Pages at bytes i = refl
