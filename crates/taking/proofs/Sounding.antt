-- Silent tags left out by a closure.
use Rattle.std.proofs.Common.{◌≡◌, Bool, true, false, cond, not, List, [], ◌∷◌, refl, ap, ◌∙◌}
use Rattle.std.specs.List.Retain.{RetainsInTurn}
use Rattle.label.specs.Classes.{silent}
use Rattle.label.specs.Tags.{sounding, sounds}
use Rattle.label.specs.declared.tag.Tag.{Tag}

kept_or_left : (silent : Bool) (t : Tag) (ts : List Tag) → cond (not silent) (t ∷ ts) ts ≡ cond silent ts (t ∷ ts)
kept_or_left true t ts = refl
kept_or_left false t ts = refl

-- a closure that keeps the tags that sound, as they are
pub retains_sounding : {S : Type 0} (R : S → Tag → Bool → S → Tag → Type 0) → ((s : S) (t : Tag) (b : Bool) (u : S) (v : Tag) → R s t b u v → (b ≡ sounds t) × (v ≡ t)) → (s : S) (ts us : List Tag) → RetainsInTurn R s ts us → us ≡ sounding ts
retains_sounding R keeps s [] us e = e
retains_sounding R keeps s (t ∷ ts) us (b, u, v, r, vs, rest, e) =
    let k = keeps s t b u v r in
    e ∙ ap (λ a. cond a (v ∷ vs) vs) k.0 ∙ ap (λ w. cond (sounds t) (w ∷ vs) vs) k.1
    ∙ ap (λ ws. cond (sounds t) (t ∷ ws) ws) (retains_sounding R keeps u ts vs rest)
    ∙ kept_or_left (silent t.class) t (sounding ts)
