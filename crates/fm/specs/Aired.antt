-- What FM sends is the label: dummies and the change of places mean nothing.
use Rattle.std.specs.Prelude.{◌≡◌, ℕ, ◌≤◌, Bool, List, [], ◌∷◌, length, refl}
use Rattle.std.proofs.Common.{ap, ◌∙◌, inl, arith}
use Rattle.std.proofs.lemmas.Bool.Decides.{nat_tests}
use Rattle.std.proofs.lemmas.Bool.{and_parts}
use Rattle.label.specs.declared.tag.Tag.{Tag}
use Rattle.label.specs.Label.{Label}
use Rattle.label.specs.Lawful.{lawful}
use Rattle.label.specs.Tags.{sounding, has}
use Rattle.label.proofs.Sounding.{sounding_again}
use Rattle.label.proofs.Tagging.{swap_shares, swap_class}
use Rattle.carrier.specs.Hearing.{Sendable}
use Rattle.taking.specs.Events.{Airs}
use Rattle.fm.specs.Frames.{sent_tags}
use Rattle.fm.specs.Taking.{fm, fm_air}

-- two tags may change places
swap_lawful : (n : ℕ) (t u : Tag) → lawful n (u ∷ t ∷ []) ≡ lawful n (t ∷ u ∷ [])
swap_lawful n t u = grind (arith, nat_tests, swap_class, swap_shares)

swap_has : (v t u : Tag) → has v (sounding (u ∷ t ∷ [])) ≡ has v (sounding (t ∷ u ∷ []))
swap_has v t u = grind (arith, nat_tests)

sent_lawful : (n : ℕ) (ts : List Tag) → length ts ≤ 2 → lawful n (sent_tags ts) ≡ lawful n ts
sent_lawful n [] c = refl
sent_lawful n (t ∷ []) c = refl
sent_lawful n (t ∷ (u ∷ [])) c = grind (arith, swap_lawful)
sent_lawful n (t ∷ (u ∷ (w ∷ ws))) c = absurd (omega arith)

sent_has : (v : Tag) (ts : List Tag) → length ts ≤ 2 → has v (sounding (sent_tags ts)) ≡ has v (sounding ts)
sent_has v [] c = refl
sent_has v (t ∷ []) c = refl
sent_has v (t ∷ (u ∷ [])) c = grind (arith, swap_has)
sent_has v (t ∷ (u ∷ (w ∷ ws))) c = absurd (omega arith)

pub fm_airs : (l : Label) (t : Bool) → Sendable fm l → length l.tags ≤ 2 → Airs l (fm_air l t)
fm_airs l t z c = record {
  some = omega arith;
  lawful = sent_lawful (length l.text) l.tags c ∙ (and_parts _ (lawful (length l.text) l.tags) z.sealed).1;
  same = record { text = refl; item = refl; tags = λ v. ap (has v) (sounding_again (sent_tags l.tags)) ∙ sent_has v l.tags c };
  own = inl refl;
}
