-- A label as DAB sends it, in the words of the shared taking rules.
use Rattle.std.specs.Prelude.{◌≡◌, ℕ, suc, ◌<◌, ◌≤◌, Bool, true, false, cond, List, [], ◌∷◌, length, Some, nat_le, refl}
use Rattle.std.proofs.Common.{ap, ◌∙◌, inr, arith}
use Rattle.std.proofs.lemmas.Bool.{leb-true, leb-false}
use Rattle.label.specs.declared.tag.Tag.{Tag}
use Rattle.label.specs.Label.{Label}
use Rattle.label.specs.Lawful.{lawful}
use Rattle.label.specs.Tags.{has, sounding}
use Rattle.label.proofs.Sounding.{sounding_again}
use Rattle.taking.specs.Events.{OnAir, Airs, Event, piece, tags}
use Rattle.taking.specs.Segments.{Numbered, numbered}
use Rattle.dab.specs.Frames.{last_segment, sent_tags, text_body, command_body, dab_body}
use Rattle.dab.specs.Text.{Flagged, text_segment}
use Rattle.dab.specs.Taking.{State}

-- how many segments a label's text has
abbrev pub texts : Label → ℕ
texts l = suc (last_segment (length l.text))

abbrev pub dab_air : Label → Bool → OnAir (Numbered Flagged)
dab_air l t = record { toggle = t; count = texts l; pieces = numbered (text_segment l.text); tags = record { item = l.item; tags = sent_tags l.tags }; tags_toggle = Some t }

-- what a frame of a label is to the shared rules
abbrev pub dab_event : Label → State → ℕ → Event
dab_event l s n = cond (nat_le n (last_segment (length l.text))) (piece n) tags

-- what holds of a segment's frame and of the command's holds of every frame
module _ (l : Label) (t : Bool) (s : State) (n : ℕ) (P : List ℕ → Event → Type 0) where
  by_test : (b : Bool) (f g : List ℕ) (d e : Event) → (b ≡ true → P f d) → (b ≡ false → P g e) → P (cond b f g) (cond b d e)
  by_test true f g d e x y = x refl
  by_test false f g d e x y = y refl

  pub by_number : (n ≤ last_segment (length l.text) → P (text_body l.text t n) (piece n)) → (last_segment (length l.text) < n → P (command_body l.item (sent_tags l.tags) t) tags) → P (dab_body l t n) (dab_event l s n)
  by_number x y = by_test (nat_le n (last_segment (length l.text))) _ _ _ _ (λ h. x (leb-true n _ h)) (λ h. y (leb-false n _ h))

sent_lawful : (n : ℕ) (ts : List Tag) → lawful n (sent_tags ts) ≡ lawful n ts
sent_lawful n [] = refl
sent_lawful n (t ∷ ts) = refl

sent_has : (v : Tag) (ts : List Tag) → has v (sounding (sent_tags ts)) ≡ has v (sounding ts)
sent_has v [] = refl
sent_has v (t ∷ ts) = refl

pub dab_airs : (l : Label) (t : Bool) → lawful (length l.text) l.tags ≡ true → Airs l (dab_air l t)
dab_airs l t h = record {
  some = omega arith;
  lawful = sent_lawful (length l.text) l.tags ∙ h;
  same = record { text = refl; item = refl; tags = λ v. ap (has v) (sounding_again (sent_tags l.tags)) ∙ sent_has v l.tags };
  own = inr refl;
}
