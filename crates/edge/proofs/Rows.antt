-- The rows of the table: most compute.
use Rattle.std.proofs.Common.{◌≡◌, ℕ, ◌+◌, Bool, true, false, cond, not, ◌&&◌, ◌||◌, eqb, leb, [], length, refl, ap, ◌∙◌, arith, le-leb}
use mathlib.Core.Bool.{beq, xor}
use Rattle.label.specs.Label.{Label, marked, deletes_in, is_deletion, item_deletion}
use Rattle.agreement.specs.Rules.{Table, breaks, emptied, stored, rule_1, rule_2, on_labels}
use Rattle.agreement.specs.Station.{replies, aired}
use Rattle.fm.specs.Frames.{last_segment, text_frame, announcing_frame, tags_frame, fm_frame}
use Rattle.dab.specs.Frames.{text_body, command_body}
use Rattle.edge.specs.Drafting.{LastBytes, two_tags, Neighbours}
use Rattle.edge.specs.Frames.{SongOnBoth, SillOnFm, SillOnDab, SixteenOfText, TooLong}
use Rattle.edge.specs.Holding.{SpaceInHotline, OfNextItem, ArtistAlone, NextItem}
use Rattle.edge.specs.Worked.{WorkedLabels}
use Rattle.edge.proofs.Drafted.{by_start, by_extent}
use Rattle.edge.specs.Laws.{on_fm, on_dab}

song_on_both : SongOnBoth
song_on_both = record { long = refl; opens = refl; tags = refl; title = refl; artist = refl; fits_fm = refl; fits_dab = refl; frames_fm = refl; frames_dab = refl }

sill_on_fm : SillOnFm
unfolding aired fm_frame
sill_on_fm = record { tags = refl; depth = refl; first = refl; count = refl; frames = refl; places = on_fm; behind = (refl, refl) }

sill_on_dab : SillOnDab
unfolding aired text_body command_body xor
sill_on_dab = record { first = refl; count = refl; frames = refl; places = on_dab; behind = (refl, refl) }

last_bytes : LastBytes
last_bytes = record { long = refl; opens = refl; inside = λ c h k. rw (h, k); behind = λ c h. (rw h, refl); all = by_start }

neighbours : Neighbours
unfolding two_tags
neighbours = record { touch = refl; share = refl; refused = (refl, refl); all = by_extent }

space : SpaceInHotline
unfolding marked deletes_in
space = record { opens = refl; one = refl; two = refl; alone = refl; deletes = λ d i. refl; stores = λ d i. refl }

module _ (len : ℕ) (last : last_segment len ≡ 15) where
  by_number : (l : Label) (t : Bool) (v n : ℕ) → length l.text ≡ len → fm_frame l t v n ≡ cond (leb n 15) (text_frame l.text t v n) (cond (eqb n 16) (announcing_frame v) (tags_frame l.item l.tags v))
  unfolding fm_frame
  by_number l t v n e =
      ap (λ k. cond (leb n k) (text_frame l.text t v n) (cond (eqb n (k + 1)) (announcing_frame v) (tags_frame l.item l.tags v))) (ap last_segment e ∙ last)

  sixteen : leb len 64 ≡ true → SixteenOfText len
  sixteen short = record {
    fits = λ ts h. ap (λ b. b && leb (length ts) 2) short ∙ le-leb (length ts) 2 h;
    count = λ ts. ap (λ k. k + 3) last;
    texts = λ l t v n e h. by_number l t v n e ∙ ap (λ b. cond b (text_frame l.text t v n) (cond (eqb n 16) (announcing_frame v) (tags_frame l.item l.tags v))) (le-leb n 15 (omega arith));
    announces = λ l t v e. by_number l t v 16 e;
    tag_group = λ l t v e. by_number l t v 17 e;
  }

too_long : TooLong
too_long = record { sending = λ ts x r. (refl, refl); writing = λ ts x n r. (refl, refl) }

-- another item toggle breaks the item that the last complete label was of
other_toggle : (t : Bool) → beq (not t) t ≡ false
other_toggle true = refl
other_toggle false = refl

over : (d : Table) (l : Label) → OfNextItem d l → breaks d.toggle l.item ≡ true
over d l next =
    ap (λ o. breaks o l.item) next.last
    ∙ ap (λ r. not r || not (beq l.item.toggle next.before)) next.runs
    ∙ ap (λ t. not (beq t next.before)) next.other
    ∙ ap not (other_toggle next.before)

nothing_left : (b : Bool) → emptied b [] ≡ []
nothing_left true = refl
nothing_left false = refl

always : ArtistAlone
always d l p next none some h =
    let deletes = is_deletion (marked l 1) || item_deletion l in (
      ap (λ m. stored m l.item.running (emptied deletes (emptied (breaks d.toggle l.item) (d.row 1)))) none
          ∙ ap (λ b. emptied deletes (emptied b (d.row 1))) (over d l next)
          ∙ nothing_left deletes,
      ap (λ m. stored m l.item.running (rule_2 l 4 (rule_1 d.toggle l 4 (d.row 4)))) some
          ∙ ap (λ b. cond (not b && l.item.running) p (rule_2 l 4 (rule_1 d.toggle l 4 (d.row 4)))) h
          ∙ ap (λ b. cond b p (rule_2 l 4 (rule_1 d.toggle l 4 (d.row 4)))) next.runs,
    )

next_item : NextItem
unfolding on_labels replies aired marked deletes_in
next_item = record {
  always = always;
  on_fm = record { done = refl; first = refl; no_title = refl; second = refl };
  on_dab = record { done = refl; first = refl; no_title = refl; second = refl };
}

pub worked : WorkedLabels
worked = record {
  song = song_on_both;
  sill_on_fm = sill_on_fm;
  sill_on_dab = sill_on_dab;
  last_bytes = last_bytes;
  neighbours = neighbours;
  space = space;
  long_texts = record { of_60 = sixteen 60 refl refl; of_63 = sixteen 63 refl refl; of_64 = sixteen 64 refl refl; of_65 = too_long };
  next_item = next_item;
}
