use Rattle.std.proofs.Common.{◌≡◌, ℕ, List, [], ◌++◌, Ok, Err, Result, Vec, Global, IfOk, codes, append_assoc, append-nil, ◌∙◌}
use Rattle.std.specs.List.{AllZip, each_same}
use Rattle.programme.specs.Labels.{song_text}
use Rattle.programme.proofs.text.song_text.Goals as goal

joined : {E : Type 0} (r : Result (Vec ℕ Global) E) (xs ys : List ℕ) → IfOk r (λ v. AllZip (λ x y. y ≡ x) xs v.items) → xs ≡ ys → IfOk r (λ v. v.items ≡ ys)
joined (Ok v) xs ys h e = each_same xs v.items h ∙ e
joined (Err _) xs ys h e = tt

parts : (front title artist : List ℕ) → front ≡ codes "You are listening to \"" → front ++ (title ++ (codes "\" by " ++ (artist ++ []))) ≡ song_text title artist
parts front title artist e = rw e (simp (append_assoc, append-nil))

pub returns : goal.returns
returns c = joined _ _ _ c.concat.ensures.ok (parts c.as_slice.result.now c.args.title.now c.args.artist.now c.as_slice.ensures)
