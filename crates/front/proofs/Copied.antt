-- A text read into a buffer of 128 bytes is the front of that buffer.
use Rattle.std.proofs.Common.{◌≡◌, ℕ, ◌-◌, Bool, true, false, cond, ltb, List, ◌++◌, length, take, drop, Some, None, Ok, Result, ap, ◌∙◌, arith}
use Rattle.std.proofs.lemmas.List.{take_at}
use Rattle.label.specs.Drafts.{done, left}
use Rattle.label.specs.declared.refusal.Refusal.{Refusal}
use Rattle.label.specs.declared.refusal.Refusal.TheVariants.{ShortBuffer}

pub copied : (row buf text : List ℕ) (n : ℕ) → ◌≡◌ {A = Result ℕ Refusal} (Ok n) (done (cond (ltb 128 (length row)) (Some ShortBuffer) None) (length row))
    → text ≡ left (cond (ltb 128 (length row)) (Some ShortBuffer) None) (row ++ drop (length row) buf) buf → take (n - 0) text ≡ row
copied row buf text n = go (ltb 128 (length row))
  where
    go : (b : Bool) → ◌≡◌ {A = Result ℕ Refusal} (Ok n) (done (cond b (Some ShortBuffer) None) (length row)) → text ≡ left (cond b (Some ShortBuffer) None) (row ++ drop (length row) buf) buf → take (n - 0) text ≡ row
    go true r t = absurd (let z : ◌≡◌ {A = ℕ} 0 1 = cc in omega arith)
    go false r t =
        let q : n ≡ length row = cc in
        let m : length row ≡ n - 0 = omega arith in
        ap (take (n - 0)) t ∙ take_at row (drop (length row) buf) (n - 0) m
