-- DAB shows the carriers' laws.
use Rattle.std.specs.Prelude.{◌≡◌, ℕ, ◌*◌, ◌<◌, ◌≤◌, Bool, true, false, cond, ◌&&◌, ◌||◌, List, [], ◌∷◌, length, drop, Ok, Err, Option, Result, ◌==◌, nat_le, nat_lt, slice_index, refl}
use Rattle.std.proofs.Common.{sym, ap, ◌∙◌, length-take, length-drop}
use native.Mathlib.Omega.{arith}
use Rattle.std.proofs.lemmas.Bool.{and_parts, or_parts, not-true, ltb-false, leb-true, le-leb, lt-leb, cond-true, cond-false}
use Rattle.label.specs.declared.refusal.Refusal.{Refusal}
use Rattle.label.specs.declared.refusal.Refusal.TheVariants.{WrongSize, WrongCheck, WrongLength, WrongCommand}
use Rattle.label.specs.declared.tag.Tag.{Tag}
use Rattle.label.specs.Classes.{silent}
use Rattle.label.specs.Label.{Label}
use Rattle.label.specs.Lists.{all}
use Rattle.label.specs.Lawful.{all_apart, accompanied, lawful_sounding, lawful}
use Rattle.label.specs.Tags.{behind, lies_in, sounds}
use Rattle.label.proofs.Sounding.{sounding_all}
use Rattle.crc.specs.Check.{check_of}
use Rattle.carrier.specs.Meaning.{Meaning, Outcome, answered, refused, next}
use Rattle.carrier.specs.declared.answer.Answer.TheVariants.{PassedOver, Complete}
use Rattle.carrier.specs.Hearing.{Begins, Hears, Lawful, Numbers, Sendable, completed, frames_of}
use Rattle.taking.specs.Events.{piece, tags, on_event, completed_here, Within, Carries}
use Rattle.taking.specs.Segments.{Numbered}
use Rattle.taking.specs.Taking.{Tags, new_taken, on_text, on_tags}
use Rattle.taking.proofs.Carried.{hears, tags_ready}
use Rattle.taking.proofs.Idling.{Still, still_same, still_refused, still_text, still_tags}
use Rattle.taking.proofs.Outcomes.{holds_cond}
use Rattle.taking.proofs.Telling.{Tells, tells_refused, tells_other, tells_text, tells_tags}
use Rattle.taking.proofs.Joining.{Part, Has, segment_pieces}
use Rattle.dab.specs.Frames.{segment, last_segment, text_first, text_second, text_body, sent_tags, command_data, command_first, command_second, command_body, dab_body, dab_writing}
use Rattle.dab.specs.Text.{Flagged, dab_segments, dab_pieces, text_segment}
use Rattle.dab.specs.Taking.{State, segment_number, on_segment, data_part, take_text, take_command, take_body, step_by, dab}
use Rattle.dab.specs.TagBytes.{length_tags}
use Rattle.dab.specs.Reopened.{framed_by, framed_long, opened}
use Rattle.dab.specs.Heard.{AllSmall, text_heard, command_heard}
use Rattle.dab.specs.OwnText.{own_text}
use Rattle.dab.specs.OnAir.{by_number, texts, dab_air, dab_event, dab_airs}

-- what a label that may be sent gives
pub record Fair (l : Label) : Type 0 where
  pub some : 1 ≤ length l.text
  pub short : length l.text ≤ 128
  pub few : length l.tags ≤ 4
  pub lawful : lawful (length l.text) l.tags ≡ true
  pub small : AllSmall (sent_tags l.tags)

sound_class : (c : ℕ) → silent c ≡ false → c < 128
sound_class c e = let h = ltb-false 63 c (or_parts (c == 0 || c == 54 || c == 55) (nat_lt 63 c) e).1 in omega arith

all_small : (n : ℕ) → n ≤ 128 → (ts : List Tag) → all sounds ts ≡ true → all (lies_in n) ts ≡ true → AllSmall ts
all_small n c [] s w = tt
all_small n c (t ∷ ts) s w =
    let o = and_parts (sounds t) (all sounds ts) s in
    let p = and_parts (lies_in n t) (all (lies_in n) ts) w in
    let h = leb-true (behind t) n p.0 in
    ((sound_class t.class (not-true (silent t.class) o.0), omega arith, omega arith), all_small n c ts o.1 p.1)

sent_small : (ts : List Tag) → AllSmall ts → AllSmall (sent_tags ts)
sent_small [] h = ((omega arith, omega arith, omega arith), tt)
sent_small (t ∷ ts) h = h

sent_some : (ts : List Tag) → 1 ≤ length (sent_tags ts)
sent_some [] = omega arith
sent_some (t ∷ ts) = omega arith

sent_few : (ts : List Tag) → length ts ≤ 4 → length (sent_tags ts) ≤ 4
sent_few [] c = omega arith
sent_few (t ∷ ts) c = c

pub fair : (m : Meaning State) (l : Label) → Sendable m l → Fair l
fair m l z =
    let n = length l.text in
    let p = and_parts (nat_le (length l.tags) 4 && all sounds l.tags) (lawful n l.tags) z.sealed in
    let o = and_parts (nat_le (length l.tags) 4) (all sounds l.tags) p.0 in
    let w : lawful_sounding n l.tags ≡ true = ap (lawful_sounding n) (sym (sounding_all l.tags o.1)) ∙ p.1 in
    let i = (and_parts (all (lies_in n) l.tags) (all_apart l.tags) (and_parts (all (lies_in n) l.tags && all_apart l.tags) (accompanied l.tags) w).0).0 in
    record {
      some = z.some;
      short = z.short;
      few = leb-true (length l.tags) 4 o.0;
      lawful = p.1;
      small = sent_small l.tags (all_small n z.short l.tags o.1 i);
    }

segment_some : (x : List ℕ) → 1 ≤ length x → (n : ℕ) → n ≤ last_segment (length x) → 1 ≤ length (segment x n)
segment_some x c n h = omega (arith, length-take 16 (drop (16 * n) x), length-drop (16 * n) x)

segment_few : (x : List ℕ) (n : ℕ) → length (segment x n) ≤ 16
segment_few x n = omega (arith, length-take 16 (drop (16 * n) x))

-- DAB with any check of two bytes
abbrev dab_by : (List ℕ → ℕ) → Meaning State
dab_by check = record {
  writing = record { fits = dab_writing.fits; count = dab_writing.count; frame = λ l t v n. framed_by check (dab_body l t n) };
  fresh = new_taken dab_pieces;
  step = step_by check;
  standing = λ s. s.standing;
  told = λ s. s.told;
}

passed : PassedOver ≡ Complete → ⊥
passed e = let z : ◌≡◌ {A = ℕ} 0 1 = cc in absurd (omega arith)

module _ (check : List ℕ → ℕ) (small : (b : List ℕ) → check b < 65536) where
  completed_same : (o : Outcome State) → completed (dab_by check) o ≡ completed_here o
  completed_same (answered a u) = refl
  completed_same (refused e) = refl

  module _ (l : Label) (t : Bool) (v : ℕ) (z : Fair l) where
    abbrev last : ℕ
    last = last_segment (length l.text)

    step_text : (s : State) (n : ℕ) → n ≤ last → step_by check s (framed_by check (text_body l.text t n)) ≡ on_event dab_pieces (dab_air l t) s (piece n)
    unfolding text_body
    step_text s n c =
        let x = l.text in
        let so = segment_some l.text z.some n c in
        let se = segment_few l.text n in
        opened check small (text_first t n (last_segment (length l.text)) (length (segment l.text n))) (text_second n) (segment l.text n) so se s
        ∙ text_heard s l.text t n so se (omega (arith, z.short))

    step_command : (s : State) → step_by check s (framed_by check (command_body l.item (sent_tags l.tags) t)) ≡ on_event dab_pieces (dab_air l t) s tags
    unfolding command_body
    step_command s =
        let ts = sent_tags l.tags in
        let so = sent_some l.tags in
        let se = sent_few l.tags z.few in
        let k = length_tags (sent_tags l.tags) in
        opened check small (command_first t) (command_second t (length (command_data l.item (sent_tags l.tags)))) (command_data l.item (sent_tags l.tags)) (omega arith) (omega arith) s
        ∙ command_heard s l.item (sent_tags l.tags) t so se z.small

    step_is : (s : State) (n : ℕ) → step_by check s (framed_by check (dab_body l t n)) ≡ on_event dab_pieces (dab_air l t) s (dab_event l s n)
    step_is s n = by_number l t s n (λ b e. step_by check s (framed_by check b) ≡ on_event dab_pieces (dab_air l t) s e) (step_text s n) (λ _. step_command s)

    within : (s : State) (n : ℕ) → Within (texts l) (dab_event l s n)
    within s n = by_number l t s n (λ _ e. Within (texts l) e) (λ c. omega arith) (λ _. tt)

    carries : Carries (dab_by check) dab_pieces (λ s. s) l v (dab_air l t) (dab_event l)
    carries = record {
      standing = λ s. refl;
      told = λ s. refl;
      new = refl;
      fewer = omega arith;
      pieces = λ s i c. cond-true (nat_le i last) (piece i) tags (le-leb i last (omega arith));
      within = λ s n _. within s n;
      moves = λ s n _. ap (next s) (step_is s n);
      completes = λ s n _. completed_same (step_by check s (framed_by check (dab_body l t n))) ∙ ap completed_here (step_is s n);
      tags_come = λ s ns u f. tags_ready (dab_by check) dab_pieces (λ s. s) l v (dab_air l t) (dab_event l) (λ s. Unit {0}) (texts l)
          (λ s n _ h. tt) (λ s h. cond-false (nat_le (texts l) last) (piece (texts l)) tags (lt-leb (texts l) last (omega arith))) ns s 0 (frames_of (dab_by check) l) u tt f (omega arith) (omega arith);
    }

    dab_hears : (s : State) (ns : List ℕ) → Begins (dab_by check) t s → Numbers (frames_of (dab_by check) l) (0 ∷ ns) → Hears (dab_by check) l t v s (0 ∷ ns)
    dab_hears s ns b u =
        let so = own_text l.text z.some z.short in
        hears (dab_by check) dab_pieces (λ s. s) l v (dab_air l t) (dab_event l) carries
        (Part dab_segments l.text last (text_segment l.text) so) (Has dab_segments l.text last (text_segment l.text) so)
        (segment_pieces dab_segments l.text last (text_segment l.text) so) (dab_airs l t z.lawful) s ns b u

    abbrev Sized : List ℕ → Type 0
    Sized f = (1 ≤ length f) × (length f ≤ 20)

    sized_text : (n : ℕ) → n ≤ last → Sized (framed_by check (text_body l.text t n))
    unfolding text_body
    sized_text n c =
        let so = segment_some l.text z.some n c in
        let se = segment_few l.text n in
        let k = framed_long check small (text_first t n (last_segment (length l.text)) (length (segment l.text n))) (text_second n) (segment l.text n) so se in
        (omega arith, omega arith)

    sized_command : Sized (framed_by check (command_body l.item (sent_tags l.tags) t))
    unfolding command_body
    sized_command =
        let se = sent_few l.tags z.few in
        let j = length_tags (sent_tags l.tags) in
        let k = framed_long check small (command_first t) (command_second t (length (command_data l.item (sent_tags l.tags)))) (command_data l.item (sent_tags l.tags)) (omega arith) (omega arith) in
        (omega arith, omega arith)

    sized : (n : ℕ) → Sized (framed_by check (dab_body l t n))
    sized n = by_number l t (new_taken dab_pieces) n (λ b _. Sized (framed_by check b)) (sized_text n) (λ _. sized_command)

  -- what holds of refusals, of passing over, and of the shared steps holds of a frame's step
  module _ (s : State) (P : Outcome State → Type 0) (no : (e : Refusal) → P (refused e)) (past : P (answered PassedOver s))
      (text : (g : Bool) (k : Numbered Flagged) → P (on_text dab_pieces s g k)) (marks : (g : Option Bool) (w : Tags) → P (on_tags dab_pieces s g w)) where
    either : (b : Bool) (o p : Outcome State) → P o → P p → P (cond b o p)
    either = holds_cond P

    of_segment : (a : ℕ) (d : List ℕ) (r : Result ℕ Refusal) → P (on_segment s a d r)
    of_segment a d (Ok n) = text _ _
    of_segment a d (Err e) = no e

    of_text : (a b : ℕ) (d : List ℕ) → P (take_text s a b d)
    of_text a b d = either _ _ _ (no WrongLength) (of_segment a d (segment_number a b))

    of_command : (a b : ℕ) (d : List ℕ) → P (take_command s a b d)
    of_command a b d = either _ _ _ (no WrongLength) (either _ _ _ past (either _ _ _ (no WrongCommand) (marks _ _)))

    of_body : (a b : ℕ) (d : List ℕ) → P (take_body s a b d)
    of_body a b d = either _ _ _ (of_text a b d) (either _ _ _ (of_command a b d) past)

    of_step : (f : List ℕ) → P (step_by check s f)
    unfolding step_by
    of_step f = either _ _ _ (no WrongSize) (either _ _ _ (no WrongCheck) (of_body (slice_index f 0) (slice_index f 1) (data_part f)))

  step_still : (s : State) (f : List ℕ) → Still s (step_by check s f)
  step_still s = of_step s (Still s) (still_refused s) (still_same s PassedOver) (still_text dab_pieces s) (still_tags dab_pieces s)

  abbrev told : State → Option Label
  told u = u.told

  step_tells : (s : State) (f : List ℕ) → Tells told (step_by check s f)
  step_tells s = of_step s (Tells told) (tells_refused told) (tells_other told PassedOver s passed) (tells_text dab_pieces s) (tells_tags dab_pieces s)

  lawful_by : Lawful (dab_by check)
  lawful_by = record {
    some = λ o. omega arith;
    sized = λ l t v n _ z. sized l t v (fair (dab_by check) l z) n;
    follows = λ s t f a e. step_still s f a t e;
    tells = λ s t f e. step_tells s f t e;
    new = refl;
    hears = λ l t v s ns z b u. dab_hears l t v (fair (dab_by check) l z) s ns b u;
  }

check_small : (b : List ℕ) → check_of b < 65536
check_small b = omega arith

pub dab_lawful : Lawful dab
dab_lawful = lawful_by check_of check_small
