-- One more byte of a frame's line.
use Rattle.std.proofs.Common.{◌≡◌, ℕ, zero, suc, ◌+◌, ◌<◌, List, [], ◌∷◌, ◌++◌, length, get_or, take, append_assoc, append-nil, arith}
use Rattle.lines.specs.declared.form.Form.{Form}
use Rattle.lines.specs.Form.{gap, hex, text_from, line_text}

one_more : (form : Form) (n : ℕ) (xs : List ℕ) (i : ℕ) → i < length xs → text_from form n (take i xs) ++ (gap form (n + i) ++ hex (get_or xs i 0)) ≡ text_from form n (take (i + 1) xs)
one_more form n [] i h = absurd (omega arith)
one_more form n (x ∷ xs) zero h =
    let e : n + 0 ≡ n = omega arith in
    rw e (simp append-nil)
one_more form n (x ∷ xs) (suc i) h =
    let e : suc i + 1 ≡ suc (i + 1) = omega arith in
    let p : n + suc i ≡ n + 1 + i = omega arith in
    let more = one_more form (n + 1) xs i (omega arith) in
    rw (e, p, ← more) (simp append_assoc)

pub line_more : (form : Form) (xs : List ℕ) (i : ℕ) → i < length xs → line_text form (take i xs) ++ (gap form i ++ hex (get_or xs i 0)) ≡ line_text form (take (i + 1) xs)
line_more form xs i h = let z : 0 + i ≡ i = omega arith in rw z at (one_more form 0 xs i h)
