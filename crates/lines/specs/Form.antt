-- A frame as a line of text.
use Rattle.std.specs.Prelude.{ℕ, ◌+◌, ◌/◌, ◌%◌, true, cond, not, ◌&&◌, List, [], ◌∷◌, ◌++◌, ◌==◌}
use Rattle.std.specs.Fmt.{digit_glyph}
use Rattle.lines.specs.declared.form.Form.{Form}
use Rattle.lines.specs.declared.form.Form.TheVariants.{Blocks, Row}

-- a space, 32, stands before each block but the first
abbrev pub gap : Form → ℕ → List ℕ
gap Blocks at = cond (not (at == 0) && at % 2 == 0) (32 ∷ []) []
gap Row at = []

-- a byte in two hexadecimal digits, upper case
abbrev pub hex : ℕ → List ℕ
hex byte = digit_glyph true (byte / 16) ∷ (digit_glyph true (byte % 16) ∷ [])

-- the bytes from a place of the frame on
abbrev pub text_from : Form → ℕ → List ℕ → List ℕ
text_from form at [] = []
text_from form at (byte ∷ bytes) = gap form at ++ hex byte ++ text_from form (at + 1) bytes

abbrev pub line_text : Form → List ℕ → List ℕ
line_text form frame = text_from form 0 frame
