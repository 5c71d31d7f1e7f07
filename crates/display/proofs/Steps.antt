-- What is owed at each tag of a told label: that it marks a part with a class, and what the loops do with it.
use Rattle.std.proofs.Common.{◌≡◌, ℕ, ◌+◌, ◌<◌, ◌≤◌, Contains, Bool, true, false, cond, ◌&&◌, eqb, List, length, get_or, take, drop, Some, None, Option, MatchOption, IsSome, sym, ap, ◌∙◌, rules, arith}
use Rattle.std.proofs.lemmas.Bool.{both_ways}
use Rattle.std.proofs.lemmas.Bool.Decides.{nat_tests}
use Rattle.std.proofs.lemmas.List.{take_more, length-take, length-drop}
use Rattle.label.specs.declared.tag.Tag.{Tag}
use Rattle.label.specs.Classes.{silent}
use Rattle.label.specs.Label.{Label}
use Rattle.label.specs.Lawful.{sealable}
use Rattle.label.specs.Tags.{part, deletion, lies_in}
use Rattle.carrier.specs.declared.told.Told.{Told}
use Rattle.carrier.specs.Aired.{told_label}
use Rattle.agreement.specs.Rules.{emptied, rule_2, rule_3}
use Rattle.display.specs.declared.table.ClassTable.{ClassTable}
use Rattle.display.specs.Held.{held, ChangesRows, empties, is_stored}
use Rattle.display.proofs.Tags.{IsNext, next_tag, tagged, stored_more, deleted_more}

found : {X : Type 0} (o : Option X) (b : Bool) (P : X → Type 0) → MatchOption o (b ≡ false) P → b ≡ true → IsSome o
found None b P m e = absurd (both_ways b m e)
found (Some x) b P m e = search rules

pub part_short : (text p : List ℕ) (t : Tag) → p ≡ part text t → length text ≤ 128 → length p ≤ 128
part_short text p t e n = rw (e, length-take (t.extent + 1) (drop t.start text), length-drop t.start text) (omega arith)

-- a tag of a told label: what it marks
module _ (told : Told) (t : Tag) (h : Contains (told_label told).tags t) where
  at_place : IsNext (length (told_label told).text) (take h.0 (told_label told).tags) (get_or (told_label told).tags h.0 t)
  at_place = next_tag (length (told_label told).text) (told_label told).tags h.0 t h.1 told.right

  inside : lies_in (length (told_label told).text) t ≡ true
  inside = ap (lies_in (length (told_label told).text)) (sym h.2) ∙ at_place.inside

  sound : silent t.class ≡ false
  sound = ap (λ t. silent t.class) (sym h.2) ∙ at_place.sound

  pub class_small : t.class < 64
  class_small = let s = sound in grind (arith, nat_tests)

  pub part_found : (text : List ℕ) → text ≡ (told_label told).text → {X : Type 0} (o : Option X) (P : X → Type 0) → MatchOption o (lies_in (length text) t ≡ false) P → IsSome o
  part_found text a o P m = found o (lies_in (length text) t) P m (ap (λ x. lies_in (length x) t) a ∙ inside)

-- the tag that a loop has come to
module _ (told : Told) (tags : List Tag) (b : tags ≡ (told_label told).tags) (i : ℕ) (d : Tag) (h : i < length tags) where
  abbrev l : Label
  l = told_label told

  abbrev t : Tag
  t = get_or tags i d

  next : IsNext (length (told_label told).text) (take i tags) (get_or tags i d)
  next = next_tag (length (told_label told).text) tags i d h (ap (sealable (length (told_label told).text)) b ∙ told.right)

  module _ (old now new : ClassTable) (c : ℕ) (p : List ℕ) (f : c ≡ (get_or tags i d).class) (e : p ≡ part (told_label told).text (get_or tags i d)) where
    pub deleted_next : ChangesRows old now (rule_2 (tagged (told_label told) (take i tags))) → ChangesRows now new (λ k x. emptied (deletion p && empties c k) x)
        → ChangesRows old new (rule_2 (tagged (told_label told) (take (i + 1) tags)))
    deleted_next g r = record { rows = λ k. rw (r.rows k, g.rows k, f, e, take_more tags i d h) (sym (deleted_more l (take i tags) t next (held old k) k)); last = r.last ∙ g.last }

    pub stored_next : ChangesRows old now (rule_3 (tagged (told_label told) (take i tags))) → ChangesRows now new (λ k x. cond (eqb c k && is_stored c p told.item.running) p x)
        → ChangesRows old new (rule_3 (tagged (told_label told) (take (i + 1) tags)))
    stored_next g r = record { rows = λ k. rw (r.rows k, g.rows k, f, e, take_more tags i d h) (sym (stored_more l (take i tags) t next (held old k) k)); last = r.last ∙ g.last }
