-- What the prefixes and data of a label say when they are taken.
use Rattle.std.specs.Prelude.{◌≡◌, ℕ, ◌+◌, ◌-◌, ◌*◌, ◌/◌, ◌%◌, ◌<◌, ◌≤◌, Bool, true, false, cond, not, List, [], ◌∷◌, length, Some, Ok, Err, Result, ◌==◌, nat_eq, refl}
use Rattle.std.proofs.Common.{sym, ap, ◌∙◌, arith}
use Rattle.std.specs.List.{flat_map}
use Rattle.std.proofs.lemmas.Bool.{and_from, eq-eqb, ne_eqb, eqb-true, eqb-false, cond-true, cond-false}
use Rattle.label.specs.declared.refusal.Refusal.{Refusal}
use Rattle.label.specs.declared.refusal.Refusal.TheVariants.{WrongLength, OtherCharset, LaterSegmentZero, WrongCommand}
use Rattle.label.specs.declared.tag.Tag.{Tag}
use Rattle.label.specs.declared.tag.ItemBits.{ItemBits}
use Rattle.carrier.specs.Meaning.{Outcome, answered, refused}
use Rattle.carrier.specs.declared.answer.Answer.TheVariants.{PassedOver}
use Rattle.taking.specs.Segments.{numbered}
use Rattle.taking.specs.Taking.{on_text, on_tags}
use Rattle.dab.specs.Frames.{segment, last_segment, text_first, text_second, tag_bytes, tags_first, command_data, command_first, command_second}
use Rattle.dab.specs.Text.{dab_pieces, text_segment}
use Rattle.dab.specs.Taking.{State, toggle_bit, first_bit, last_bit, command_bit, low_four, high_four, number_bits, on_segment, take_text, take_command, take_body, tags_in, item_bits, tag_count, whole_command}
use Rattle.dab.specs.TagBytes.{length_tags}

abbrev bit : Bool → ℕ
bit b = cond b 1 0

bit_back : (t : Bool) → (bit t == 1) ≡ t
bit_back true = refl
bit_back false = refl

bit_small : (t : Bool) → bit t ≤ 1
bit_small true = omega arith
bit_small false = omega arith

-- a first prefix byte: a toggle, first and last, whether it is a command, and the field
pub record Prefix (n a b c e k : ℕ) : Type 0 where
  pub top : n / 128 ≡ a
  pub first : n / 64 % 2 ≡ b
  pub last : n / 32 % 2 ≡ c
  pub kind : n / 16 % 2 ≡ e
  pub field : n % 16 ≡ k

prefix : (a b c e k : ℕ) → a ≤ 1 → b ≤ 1 → c ≤ 1 → e ≤ 1 → k < 16 → Prefix ((((a * 2 + b) * 2 + c) * 2 + e) * 16 + k) a b c e k
prefix a b c e k x y z u w = record { top = omega arith; first = omega arith; last = omega arith; kind = omega arith; field = omega arith }

-- a text segment
module _ (s : State) (x : List ℕ) (t : Bool) (n : ℕ) (some : 1 ≤ length (segment x n)) (few : length (segment x n) ≤ 16) (c : n < 8) where
  abbrev one : ℕ
  one = text_first t n (last_segment (length x)) (length (segment x n))

  abbrev two : ℕ
  two = text_second n

  p : Prefix (text_first t n (last_segment (length x)) (length (segment x n))) (bit t) (bit (n == 0)) (bit (n == last_segment (length x))) 0 (length (segment x n) - 1)
  p = prefix (bit t) (bit (n == 0)) (bit (n == last_segment (length x))) 0 (length (segment x n) - 1) (bit_small t) (bit_small (n == 0)) (bit_small (n == last_segment (length x))) (omega arith) (omega arith)

  abbrev on_piece : Bool → Bool → ℕ → Outcome State
  on_piece g b k = on_text dab_pieces s g (record { number = k; segment = record { body = segment x n; last = b } })

  same_piece : (k : ℕ) → k ≡ n → on_segment s one (segment x n) (Ok k) ≡ on_text dab_pieces s t (numbered (text_segment x) n)
  same_piece k e =
      ap (on_piece (toggle_bit one) (last_bit one)) e
      ∙ ap (λ g. on_piece g (last_bit one) n) (ap (λ j. nat_eq j 1) p.top ∙ bit_back t)
      ∙ ap (λ b. on_piece t b n) (ap (λ j. nat_eq j 1) p.last ∙ bit_back (n == last_segment (length x)))

  abbrev by_number : Bool → ℕ → Result ℕ Refusal
  by_number b m = cond b (cond (high_four m == 0) (Ok 0) (Err OtherCharset)) (cond (number_bits m == 0) (Err LaterSegmentZero) (Ok (number_bits m)))

  numbered_right : (b : Bool) → (n == 0) ≡ b → on_segment s one (segment x n) (by_number b (cond b 0 ((0 + n) * 16 + 0))) ≡ on_text dab_pieces s t (numbered (text_segment x) n)
  numbered_right true e = same_piece 0 (sym (eqb-true n 0 e))
  numbered_right false e =
      let z = eqb-false n 0 e in
      let k : ((0 + n) * 16 + 0) / 16 % 8 ≡ n = omega arith in
      ap (on_segment s one (segment x n)) (cond-false (number_bits ((0 + n) * 16 + 0) == 0) (Err LaterSegmentZero) (Ok (number_bits ((0 + n) * 16 + 0))) (ne_eqb (number_bits ((0 + n) * 16 + 0)) 0 (λ y. z (sym k ∙ y))))
      ∙ same_piece (number_bits ((0 + n) * 16 + 0)) k

  pub text_heard : take_body s one two (segment x n) ≡ on_text dab_pieces s t (numbered (text_segment x) n)
  text_heard =
      let f = p.field in
      cond-true (not (command_bit one)) (take_text s one two (segment x n)) _ (ap not (ne_eqb (one / 16 % 2) 1 (λ e. let z = p.kind in omega arith)))
      ∙ cond-false (not (low_four one + 1 == length (segment x n))) (refused WrongLength) (on_segment s one (segment x n) (by_number (first_bit one) two)) (ap not (eq-eqb (low_four one + 1) (length (segment x n)) (omega arith)))
      ∙ ap (λ b. on_segment s one (segment x n) (by_number b two)) (ap (λ j. nat_eq j 1) p.first ∙ bit_back (n == 0))
      ∙ numbered_right (n == 0) refl

-- tags whose fields fit in seven bits
abbrev pub AllSmall : List Tag → Type 0
AllSmall [] = Unit {0}
AllSmall (t ∷ ts) = ((t.class < 128) × (t.start < 128) × (t.extent < 128)) × AllSmall ts

tags_back : (ts : List Tag) → AllSmall ts → tags_in (length ts) (flat_map tag_bytes ts) ≡ ts
tags_back [] h = refl
tags_back (t ∷ ts) h =
    let a : (0 + t.class) % 128 ≡ t.class = omega (arith, h.0.0) in
    let b : (0 + t.start) % 128 ≡ t.start = omega (arith, h.0.1) in
    let c : (0 + t.extent) % 128 ≡ t.extent = omega (arith, h.0.2) in
    let r = tags_back ts h.1 in
    λ i. record { class = a i; start = b i; extent = c i } ∷ r i

-- the first data byte of a command
pub record Head (n a b k : ℕ) : Type 0 where
  pub own : n / 16 ≡ 0
  pub toggle : n / 8 % 2 ≡ a
  pub running : n / 4 % 2 ≡ b
  pub more : n % 4 ≡ k

head : (a b k : ℕ) → a ≤ 1 → b ≤ 1 → k < 4 → Head (((0 * 2 + a) * 2 + b) * 4 + k) a b k
head a b k x y z = record { own = omega arith; toggle = omega arith; running = omega arith; more = omega arith }

module _ (s : State) (i : ItemBits) (ts : List Tag) (t : Bool) (some : 1 ≤ length ts) (few : length ts ≤ 4) (small : AllSmall ts) where
  abbrev d : List ℕ
  d = command_data i ts

  abbrev first' : ℕ
  first' = command_first t

  abbrev second' : ℕ
  second' = command_second t (length (command_data i ts))

  pub data_long : length (command_data i ts) ≡ 1 + 3 * length ts
  data_long = omega (arith, length_tags ts)

  q : Prefix (command_first t) (bit t) 1 1 1 2
  q = prefix (bit t) 1 1 1 2 (bit_small t) (omega arith) (omega arith) (omega arith) (omega arith)

  h : Head (tags_first i (length ts)) (bit i.toggle) (bit i.running) (length ts - 1)
  h = head (bit i.toggle) (bit i.running) (length ts - 1) (bit_small i.toggle) (bit_small i.running) (omega arith)

  second_top : command_second t (length (command_data i ts)) / 128 ≡ bit t
  second_top = omega (arith, data_long, bit_small t)

  second_field : command_second t (length (command_data i ts)) % 16 + 1 ≡ length (command_data i ts)
  second_field = omega (arith, data_long, bit_small t)

  how_many : tag_count (tags_first i (length ts)) ≡ length ts
  how_many = omega (arith, h.more)

  item_back : item_bits (tags_first i (length ts)) ≡ i
  item_back =
      let g : nat_eq (tags_first i (length ts) / 8 % 2) 1 ≡ i.toggle = ap (λ j. nat_eq j 1) h.toggle ∙ bit_back i.toggle in
      let r : nat_eq (tags_first i (length ts) / 4 % 2) 1 ≡ i.running = ap (λ j. nat_eq j 1) h.running ∙ bit_back i.running in
      λ z. record { toggle = g z; running = r z }

  whole : whole_command first' (tags_first i (length ts)) (length d) ≡ true
  whole =
      and_from _ _ (and_from _ _ (eq-eqb (first' / 64 % 2) 1 q.first) (eq-eqb (first' / 32 % 2) 1 q.last))
      (eq-eqb (length d) (1 + 3 * tag_count (tags_first i (length ts))) (data_long ∙ ap (λ k. 1 + 3 * k) (sym how_many)))

  pub command_heard : take_body s first' second' d ≡ on_tags dab_pieces s (Some t) (record { item = i; tags = ts })
  command_heard =
      cond-false (not (command_bit first')) (take_text s first' second' d) _ (ap not (eq-eqb (first' / 16 % 2) 1 q.kind))
      ∙ cond-true (low_four first' == 2) (take_command s first' second' d) (answered PassedOver s) (eq-eqb (low_four first') 2 q.field)
      ∙ cond-false (not (low_four second' + 1 == length d)) (refused WrongLength) _ (ap not (eq-eqb (low_four second' + 1) (length d) second_field))
      ∙ cond-false (not (high_four (tags_first i (length ts)) == 0)) (answered PassedOver s) _ (ap not (eq-eqb (high_four (tags_first i (length ts))) 0 h.own))
      ∙ cond-false (not (whole_command first' (tags_first i (length ts)) (length d))) (refused WrongCommand) _ (ap not whole)
      ∙ ap (λ b. on_tags dab_pieces s (Some b) (record { item = item_bits (tags_first i (length ts)); tags = tags_in (tag_count (tags_first i (length ts))) (flat_map tag_bytes ts) })) (ap (λ j. nat_eq j 1) second_top ∙ bit_back t)
      ∙ ap (λ j. on_tags dab_pieces s (Some t) (record { item = j; tags = tags_in (tag_count (tags_first i (length ts))) (flat_map tag_bytes ts) })) item_back
      ∙ ap (λ us. on_tags dab_pieces s (Some t) (record { item = i; tags = us })) (ap (λ k. tags_in k (flat_map tag_bytes ts)) how_many ∙ tags_back ts small)
