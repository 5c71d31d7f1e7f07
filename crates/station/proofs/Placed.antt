-- The places that sending writes, one more at a time.
use Rattle.std.proofs.Common.{◌≡◌, ℕ, suc, ◌+◌, ◌-◌, ◌*◌, ◌≤◌, List, ◌++◌, length, take, drop, Some, None, Ok, Option, refl, ap, ◌∙◌, append_assoc, append-nil, add-one, arith, length-append, length-drop}
use borrow.Rule.Slice.PartMut.{put_mid}
use Rattle.std.proofs.lemmas.List.{take_all, drop_all, take_at, drop_at, drop-drop}
use Rattle.label.specs.declared.refusal.Refusal.{Refusal}
use Rattle.label.specs.Drafts.{done, left}
use Rattle.carrier.specs.Writing.{place}
use Rattle.station.specs.Sending.{places}

-- the places written so far, each of 21 bytes, and behind them the buffer as it was
pub record Written (frame : ℕ → List ℕ) (n : ℕ) (old buf : List ℕ) : Type 0 where
  pub long : length (places frame n) ≡ 21 * n
  pub so_far : buf ≡ places frame n ++ drop (21 * n) old

pub none_written : (frame : ℕ → List ℕ) (buf : List ℕ) → Written frame 0 buf buf
unfolding places
none_written frame buf = record { long = refl; so_far = refl }

-- what an accepted call leaves
pub accepted : {X Y : Type 0} (r : Option Refusal) (x : X) (is new old : Y) → is ≡ left r new old → done r x ≡ Ok x → is ≡ new
accepted None x is new old e h = e
accepted (Some r) x is new old e h = cc

-- a part F written at a place behind P, into the rest of the buffer
module _ (at : ℕ) (P F old buf space : List ℕ) (long : length P ≡ at) (so_far : buf ≡ P ++ drop at old) (room : at + 21 ≤ length old) (wrote : space ≡ F ++ drop 21 (take (length buf - at) (drop at buf))) (kept : length space ≡ length (take (length buf - at) (drop at buf))) where
  rest : take (length buf - at) (drop at buf) ≡ drop at old
  rest = take_all (length buf - at) (drop at buf) (omega (arith, length-drop at buf)) ∙ ap (drop at) so_far ∙ drop_at P (drop at old) at long

  part_long : length F ≡ 21
  part_long = omega (arith, length-append F (drop 21 (drop at old)), ap length wrote, ap length rest, ap (λ xs. length (F ++ drop 21 xs)) rest, length-drop 21 (drop at old), length-drop at old)

  next : put_mid at (length buf - at) buf space ≡ (P ++ F) ++ drop (at + 21) old
  next =
      let front : take at buf ≡ P = ap (take at) so_far ∙ take_at P (drop at old) at long in
      let back : space ≡ F ++ drop (at + 21) old = wrote ∙ ap (λ xs. F ++ drop 21 xs) rest ∙ ap (λ xs. F ++ xs) (drop-drop 21 at old) in
      let none = drop_all (length buf - at) (drop at buf) (omega (arith, length-drop at buf)) in
      rw (front, none, append-nil, back, append_assoc) refl

pub one_more : (frame : ℕ → List ℕ) (n : ℕ) (old buf space : List ℕ) → Written frame n old buf → 21 * n + 21 ≤ length old
    → space ≡ place (frame n) ++ drop 21 (take (length buf - 21 * n) (drop (21 * n) buf)) → length space ≡ length (take (length buf - 21 * n) (drop (21 * n) buf))
    → Written frame (n + 1) old (put_mid (21 * n) (length buf - 21 * n) buf space)
unfolding places
one_more frame n old buf space w room wrote kept =
    let P = places frame n in
    let F = place (frame n) in
    let behind : 21 * n + 21 ≡ 21 * suc n = omega arith in
    rw add-one record {
      long = length-append P F ∙ omega (arith, w.long, part_long (21 * n) P F old buf space w.long w.so_far room wrote kept);
      so_far = next (21 * n) P F old buf space w.long w.so_far room wrote kept ∙ ap (λ k. (P ++ F) ++ drop k old) behind;
    }
