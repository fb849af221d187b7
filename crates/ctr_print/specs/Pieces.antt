-- The text of pieces.
use Rattle.std.specs.Prelude.{ℕ, List, [], ◌∷◌, ◌++◌}
use Rattle.std.specs.Fmt.{decimal, signed_decimal}
pub use Rattle.ctr_print.specs.declared.piece.Piece.{Piece}
use Rattle.ctr_print.specs.declared.piece.Piece.TheVariants as piece

-- the bytes of a piece: those that it is, or the digits of its number
abbrev pub piece_text : Piece → List ℕ
piece_text (piece.Bytes bytes) = bytes.now
piece_text (piece.Number n) = decimal n
piece_text (piece.Wide n) = decimal n
piece_text (piece.Signed n) = signed_decimal n
piece_text (piece.WideSigned n) = signed_decimal n

-- the pieces in order behind a text
abbrev pub joined : List ℕ → List Piece → List ℕ
joined text [] = text
joined text (p ∷ ps) = joined (text ++ piece_text p) ps
