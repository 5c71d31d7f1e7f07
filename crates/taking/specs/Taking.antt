-- What taking does on every carrier: the standing toggle, forgetting, tags that wait, completing.
use Rattle.std.specs.Prelude.{ℕ, Bool, false, cond, ◌&&◌, List, length, Some, None, Option}
use Rattle.std.specs.Bool.{beq}
use Rattle.carrier.specs.Meaning.{Outcome, answered, refused}
use Rattle.carrier.specs.declared.answer.Answer.TheVariants.{Again, Complete, Dropped, Kept, PassedOver}
use Rattle.label.specs.Label.{Label}
use Rattle.label.specs.Lawful.{lawful}
use Rattle.label.specs.Tags.{alike, sounding}
use Rattle.label.specs.declared.refusal.Refusal.TheVariants.{TagsUnlawful, TagsUnlike}
use Rattle.label.specs.declared.tag.ItemBits.{ItemBits}
use Rattle.label.specs.declared.tag.Tag.{Tag}
use Rattle.taking.specs.Pieces.{Pieces}
use Rattle.taking.specs.declared.look.Look.TheVariants.{Behind, Equal, Fresh, Unlike}
use Rattle.taking.specs.declared.look.Look.{Look}

-- tags with their item bits, as they arrive
pub record Tags : Type 0 where
  pub item : ItemBits
  pub tags : List Tag

-- what the taking side holds: P is the pieces
pub record Taken (P : Type 0) : Type 0 where
  pub standing : Option Bool
  pub held : P
  pub waiting : Option Tags
  pub told : Option Label

abbrev pub new_taken : {P K : Type 0} → Pieces P K → Taken P
new_taken q = record { standing = None; held = q.none; waiting = None; told = None }

abbrev pub stands : Option Bool → Bool → Bool
stands None t = false
stands (Some u) t = beq u t

-- all is forgotten, and t stands
abbrev pub forgotten : {P K : Type 0} → Pieces P K → Bool → Taken P
forgotten q t = record { standing = Some t; held = q.none; waiting = None; told = None }

-- all is forgotten, t stands, and the piece is the first that is held
abbrev pub begun : {P K : Type 0} → Pieces P K → Bool → K → Taken P
begun q t k = record { standing = Some t; held = q.put q.none k; waiting = None; told = None }

abbrev pub holding : {P : Type 0} → Taken P → P → Taken P
holding s p = record { standing = s.standing; held = p; waiting = s.waiting; told = s.told }

abbrev pub waiting_for : {P : Type 0} → Taken P → Tags → Taken P
waiting_for s w = record { standing = s.standing; held = s.held; waiting = Some w; told = s.told }

abbrev pub no_longer_waiting : {P : Type 0} → Taken P → Taken P
no_longer_waiting s = record { standing = s.standing; held = s.held; waiting = None; told = s.told }

-- the label told: its tags are those that arrived, silent ones left out
abbrev pub label_from : List ℕ → Tags → Label
label_from x w = record { text = x; tags = sounding w.tags; item = w.item }

abbrev pub telling : {P : Type 0} → Taken P → List ℕ → Tags → Taken P
telling s x w = record { standing = s.standing; held = s.held; waiting = None; told = Some (label_from x w) }

-- a piece was put in while no label is complete: the text as it now is, and the tags that wait
abbrev pub settled : {P : Type 0} → Taken P → Option (List ℕ) → Option Tags → Outcome (Taken P)
settled s None w = answered Kept s
settled s (Some x) None = answered Kept s
settled s (Some x) (Some w) = cond (lawful (length x) w.tags) (answered Complete (telling s x w)) (answered Dropped (no_longer_waiting s))

abbrev pub held_again : {P : Type 0} → Taken P → Option Label → Outcome (Taken P)
held_again s None = answered Kept s
held_again s (Some l) = answered Again s

abbrev pub put_in : {P K : Type 0} → Pieces P K → Taken P → K → Option Label → Outcome (Taken P)
put_in q s k None = settled (holding s (q.put s.held k)) (q.text (q.put s.held k)) s.waiting
put_in q s k (Some l) = answered Again s

-- a piece under the standing toggle
abbrev pub by_look : {P K : Type 0} → Pieces P K → Taken P → Bool → K → Look → Outcome (Taken P)
by_look q s t k Behind = answered PassedOver s
by_look q s t k Equal = held_again s s.told
by_look q s t k Unlike = answered Kept (begun q t k)
by_look q s t k Fresh = put_in q s k s.told

-- a piece of a text arrives with its message toggle
unfoldable pub on_text : {P K : Type 0} → Pieces P K → Taken P → Bool → K → Outcome (Taken P)
on_text q s t k = cond (stands s.standing t) (by_look q s t k (q.look s.held k)) (answered Kept (begun q t k))

-- the state that tags meet: they have a message toggle on some carriers, and on others none
abbrev pub met : {P K : Type 0} → Pieces P K → Taken P → Option Bool → Taken P
met q s None = s
met q s (Some t) = cond (stands s.standing t) s (forgotten q t)

abbrev pub same_item : ItemBits → ItemBits → Bool
same_item i j = beq i.toggle j.toggle && beq i.running j.running

-- tags and item bits like the label's, silent tags and order aside
abbrev pub agrees : Label → Tags → Bool
agrees l w = alike l.tags w.tags && same_item l.item w.item

-- lawful tags, with the text complete: s is the state as it was, u the state that they meet
abbrev pub tags_told : {P : Type 0} → Taken P → Taken P → List ℕ → Tags → Option Label → Outcome (Taken P)
tags_told s u x w None = answered Complete (telling u x w)
tags_told s u x w (Some l) = cond (agrees l w) (answered Again s) (refused TagsUnlike)

abbrev pub tags_met : {P : Type 0} → Taken P → Taken P → Tags → Option (List ℕ) → Outcome (Taken P)
tags_met s u w None = answered Kept (waiting_for u w)
tags_met s u w (Some x) = cond (lawful (length x) w.tags) (tags_told s u x w u.told) (refused TagsUnlawful)

-- tags arrive
unfoldable pub on_tags : {P K : Type 0} → Pieces P K → Taken P → Option Bool → Tags → Outcome (Taken P)
on_tags q s t w = tags_met s (met q s t) w (q.text (met q s t).held)
