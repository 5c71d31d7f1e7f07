-- Displays over whole runs, on any carriers that show the laws.
use Rattle.std.proofs.Common.{◌≡◌, ℕ, ◌*◌, ◌≤◌, Bool, true, false, cond, not, ◌&&◌, ◌||◌, eqb, ltb, ◌⊎◌, List, [], ◌∷◌, ◌++◌, length, Some, None, Option, sym, refl, ap, ◌∙◌, subst, inl, inr, append_assoc, arith}
use Rattle.std.proofs.lemmas.Bool.{and_parts, eqb-true, not-true}
use Rattle.label.specs.declared.refusal.Refusal.{Refusal}
use Rattle.label.specs.declared.refusal.Refusal.TheVariants.{LabelDoesNotFit, OtherText, SmallBuffer}
use Rattle.label.specs.declared.tag.ItemBits.{ItemBits}
use Rattle.label.specs.Classes.{item_class, item_classes}
use Rattle.label.specs.Drafts.{control, matches, left}
use Rattle.label.specs.Label.{Label, label_of, marked, is_deletion, deletes_in, item_deletion, Same}
use Rattle.label.specs.Lawful.{sealable}
use Rattle.label.specs.Lists.{any}
use Rattle.label.specs.Tags.{deletion}
use Rattle.label.proofs.Marks.{same_marks}
use Rattle.carrier.specs.declared.answer.Answer.TheVariants.{PassedOver, Kept, Complete, Again, Dropped}
use Rattle.carrier.specs.Hearing.{frames_of, completed, after, completions, Full, Numbers, Begins, AtMostOnce, Once, heard, Sendable, Hears, Lawful}
use Rattle.carrier.specs.Meaning.{Meaning, Outcome, answered, refused, next}
use Rattle.agreement.specs.Calls.{Ready, Call, start, end, send, Made, calls}
use Rattle.agreement.specs.History.{sent_labels, history_on, refusals, aired_by}
use Rattle.agreement.specs.Holds.{Holds, Whole}
use Rattle.agreement.specs.Rules.{Table, empty, emptied, breaks, stored, on_label, on_labels}
use Rattle.agreement.specs.Runs.{Heard, own, other, Quiet, numbers, Undisturbed, takes, Begun, Hearing, shows, AllHeard, AllFull, on_air, held, Run, sent_by, Faithful, Agreement, Told, ToldByHistory}
use Rattle.agreement.specs.Shown.{Shown, on_told, on_outcome, display_step, new_display}
use Rattle.agreement.specs.Station.{Vars, new_vars, send_refusal, call_refusal, call_vars, call_step, Aired, labels, puts_out, aired}
use Rattle.agreement.proofs.Held.{rules_hold}
use Rattle.agreement.proofs.Stations.{replies_new, vars_new, aired_new, labels_by, refusals_ample, history_ample}

-- the table after the completed labels
folded_in : List (Option Label) → Table → Table
folded_in [] d = d
folded_in (x ∷ xs) d = folded_in xs (on_told d x)

not_not : (t : Bool) → t ≡ not (not t)
not_not true = refl
not_not false = refl

-- labels that are the same do the same
deletes_same : (x l : Label) → ((c : ℕ) → marked x c ≡ marked l c) → (cs : List ℕ) → deletes_in x cs ≡ deletes_in l cs
unfolding deletes_in
deletes_same x l same [] = refl
deletes_same x l same (c ∷ cs) = λ i. is_deletion (same c i) || deletes_same x l same cs i

on_same : (d : Table) (x l : Label) → sealable (length l.text) l.tags ≡ true → Same x l → on_label d x ≡ on_label d l
on_same d x l q s =
    let same = same_marks x l q s in
    let del = deletes_same x l same item_classes in
    λ i. record {
      row = λ c. stored (same c i) (not (item_class c) || (s.item i).running) (emptied (is_deletion (same c i) || item_class c && del i) (emptied (item_class c && breaks d.toggle (s.item i)) (d.row c)));
      toggle = Some (s.item i).toggle;
    }

module _ {S : Type 0} (m : Meaning S) where
  folded_one : (o : Outcome S) (xs : List (Option Label)) (d : Table) → folded_in (completed m o ++ xs) d ≡ folded_in xs (on_outcome m d o)
  unfolding folded_in
  folded_one (answered PassedOver t) xs d = refl
  folded_one (answered Kept t) xs d = refl
  folded_one (answered Complete t) xs d = refl
  folded_one (answered Again t) xs d = refl
  folded_one (answered Dropped t) xs d = refl
  folded_one (refused e) xs d = refl

-- what the labels on the air are: their message toggles alternate from t on, and the carrier's laws speak of them
Good : {S : Type 0} → Meaning S → Bool → List Aired → Type 0
Good m t [] = Unit {0}
Good m t (x ∷ xs) = (x.toggle ≡ t) × Sendable m x.label × Good m (not t) xs

module _ {S : Type 0} (m : Meaning S) (law : Lawful m) where
  quiet_next : (s : S) (f : List ℕ) (o : Outcome S) → m.step s f ≡ o → Quiet o → next s o ≡ s
  quiet_next s f (answered PassedOver t) e q = law.follows s t f PassedOver e
  quiet_next s f (answered Kept t) e q = absurd q
  quiet_next s f (answered Complete t) e q = absurd q
  quiet_next s f (answered Again t) e q = law.follows s t f Again e
  quiet_next s f (answered Dropped t) e q = absurd q
  quiet_next s f (refused x) e q = refl

  quiet_table : (o : Outcome S) → Quiet o → (d : Table) → on_outcome m d o ≡ d
  quiet_table (answered PassedOver t) q d = refl
  quiet_table (answered Kept t) q d = absurd q
  quiet_table (answered Complete t) q d = absurd q
  quiet_table (answered Again t) q d = refl
  quiet_table (answered Dropped t) q d = absurd q
  quiet_table (refused x) q d = refl

  -- a frame that is passed over, heard again or refused leaves the display
  passes : (d : Shown S) (f : List ℕ) → Quiet (m.step d.carrier f) → display_step m d f ≡ d
  passes d f q =
      let p = quiet_next d.carrier f (m.step d.carrier f) refl q in
      let r = quiet_table (m.step d.carrier f) q d.table in
      λ i. record { carrier = p i; table = r i }

  module _ (l : Label) (t : Bool) (v : ℕ) where
    takes_carrier : (hs : List Heard) (d : Shown S) → Undisturbed m l t v d.carrier hs → (takes m l t v d hs).carrier ≡ after m d.carrier (heard m l t v (numbers hs))
    takes_carrier [] d u = refl
    takes_carrier (own n ∷ hs) d u = takes_carrier hs (display_step m d (m.writing.frame l t v n)) u
    takes_carrier (other f ∷ hs) d u = ap (λ x. (takes m l t v x hs).carrier) (passes d f u.0) ∙ takes_carrier hs d u.1

    takes_table : (hs : List Heard) (d : Shown S) → Undisturbed m l t v d.carrier hs → (takes m l t v d hs).table ≡ folded_in (completions m d.carrier (heard m l t v (numbers hs))) d.table
    unfolding folded_in
    takes_table [] d u = refl
    takes_table (own n ∷ hs) d u =
        takes_table hs (display_step m d (m.writing.frame l t v n)) u
        ∙ sym (folded_one m (m.step d.carrier (m.writing.frame l t v n)) (completions m (next d.carrier (m.step d.carrier (m.writing.frame l t v n))) (heard m l t v (numbers hs))) d.table)
    takes_table (other f ∷ hs) d u = ap (λ x. (takes m l t v x hs).table) (passes d f u.0) ∙ takes_table hs d u.1

    heard_out : (s : S) (ns : List ℕ) → Sendable m l → Begins m t s → Begun ns → Numbers (frames_of m l) ns → Hears m l t v s ns
    heard_out s [] fit b g h = absurd g
    heard_out s (n ∷ ns) fit b g h = subst (λ k. Hears m l t v s (k ∷ ns)) (sym g) (law.hears l t v s ns fit b (subst (λ k. Numbers (frames_of m l) (k ∷ ns)) g h))

  once_table : (l : Label) → sealable (length l.text) l.tags ≡ true → (xs : List (Option Label)) (d : Table) → Once l xs → folded_in xs d ≡ on_label d l
  unfolding folded_in
  once_table l q [] d o = absurd o
  once_table l q (None ∷ xs) d o = absurd o.0
  once_table l q (Some y ∷ xs) d o = ap (λ zs. folded_in zs (on_label d y)) o.1 ∙ on_same d y l q o.0

  most_table : (l : Label) → sealable (length l.text) l.tags ≡ true → (xs : List (Option Label)) (d : Table) → AtMostOnce l xs → (folded_in xs d ≡ d) ⊎ (folded_in xs d ≡ on_label d l)
  unfolding folded_in
  most_table l q [] d o = inl refl
  most_table l q (None ∷ xs) d o = absurd o.0
  most_table l q (Some y ∷ xs) d o = inr (ap (λ zs. folded_in zs (on_label d y)) o.1 ∙ on_same d y l q o.0)

  -- one label
  module _ (v : ℕ) (t : Bool) (d : Shown S) (x : Aired) (hs : List Heard) (e : x.toggle ≡ t) (k : Sendable m x.label) (b : Begins m t d.carrier) (h : Hearing m v d.carrier x hs) where
    told : Hears m x.label x.toggle v d.carrier (numbers hs)
    told = heard_out x.label x.toggle v d.carrier (numbers hs) k (subst (λ u. Begins m u d.carrier) (sym e) b) h.begun h.its

    begins_next : Begins m (not t) (takes m x.label x.toggle v d hs).carrier
    begins_next = inr (ap m.standing (takes_carrier x.label x.toggle v hs d h.undisturbed) ∙ told.stands ∙ ap Some (e ∙ not_not t))

    full_next : Full (frames_of m x.label) (numbers hs) → (takes m x.label x.toggle v d hs).table ≡ on_label d.table x.label
    full_next f = takes_table x.label x.toggle v hs d h.undisturbed ∙ once_table x.label k.sealed _ d.table (told.full f).0

    any_next : ((takes m x.label x.toggle v d hs).table ≡ d.table) ⊎ ((takes m x.label x.toggle v d hs).table ≡ on_label d.table x.label)
    any_next = go (most_table x.label k.sealed (completions m d.carrier (heard m x.label x.toggle v (numbers hs))) d.table told.once)
      where
        took : (takes m x.label x.toggle v d hs).table ≡ folded_in (completions m d.carrier (heard m x.label x.toggle v (numbers hs))) d.table
        took = takes_table x.label x.toggle v hs d h.undisturbed

        go : (folded_in (completions m d.carrier (heard m x.label x.toggle v (numbers hs))) d.table ≡ d.table) ⊎ (folded_in (completions m d.carrier (heard m x.label x.toggle v (numbers hs))) d.table ≡ on_label d.table x.label)
            → ((takes m x.label x.toggle v d hs).table ≡ d.table) ⊎ ((takes m x.label x.toggle v d hs).table ≡ on_label d.table x.label)
        go (inl p) = inl (took ∙ p)
        go (inr p) = inr (took ∙ p)

  -- all labels heard in full: the rules over the labels, the carrier gone
  full_tables : (v : ℕ) (xs : List Aired) (hs : List (List Heard)) (t : Bool) (d : Shown S) → Good m t xs → Begins m t d.carrier → AllHeard m v d xs hs → AllFull m xs hs
      → (shows m v d xs hs).table ≡ on_labels d.table (labels xs)
  unfolding Good on_labels
  full_tables v [] hs t d g b a f = refl
  full_tables v (x ∷ xs) [] t d g b a f = absurd a
  full_tables v (x ∷ xs) (h ∷ hs) t d g b a f =
      full_tables v xs hs (not t) (takes m x.label x.toggle v d h) g.2 (begins_next v t d x h g.0 g.1 b a.0) a.1 f.1
      ∙ ap (λ y. on_labels y (labels xs)) (full_next v t d x h g.0 g.1 b a.0 f.0)

-- nothing torn
module _ (c : ℕ) where
  whole_more : (ls : List Label) (l : Label) (p : List ℕ) → Whole c ls p → Whole c (ls ++ (l ∷ [])) p
  whole_more ls l p (inl e) = inl e
  whole_more ls l p (inr w) = inr (record {
    front = w.front;
    label = w.label;
    back = w.back ++ (l ∷ []);
    among = ap (λ x. x ++ (l ∷ [])) w.among ∙ append_assoc w.front (w.label ∷ w.back) (l ∷ []);
    part = w.part;
  })

  whole_emptied : (ls : List Label) (b : Bool) (old : List ℕ) → Whole c ls old → Whole c ls (emptied b old)
  whole_emptied ls true old w = inl refl
  whole_emptied ls false old w = w

  whole_stored : (ls : List Label) (l : Label) (o : Option (List ℕ)) (may : Bool) (old : List ℕ) → marked l c ≡ o → Whole c ls old → Whole c (ls ++ (l ∷ [])) (stored o may old)
  whole_stored ls l None may old e w = whole_more ls l old w
  whole_stored ls l (Some p) may old e w = go (not (deletion p) && may)
    where
      go : (b : Bool) → Whole c (ls ++ (l ∷ [])) (cond b p old)
      go true = inr (record { front = ls; label = l; back = []; among = refl; part = e })
      go false = whole_more ls l old w

  whole_label : (ls : List Label) (l : Label) (d : Table) → Whole c ls (d.row c) → Whole c (ls ++ (l ∷ [])) ((on_label d l).row c)
  whole_label ls l d w =
      let first = item_class c && breaks d.toggle l.item in
      let second = is_deletion (marked l c) || item_class c && item_deletion l in
      whole_stored ls l (marked l c) (not (item_class c) || l.item.running) (emptied second (emptied first (d.row c))) refl
      (whole_emptied ls second (emptied first (d.row c)) (whole_emptied ls first (d.row c) w))

  whole_next : (ls : List Label) (l : Label) (d e : Table) → (e ≡ d) ⊎ (e ≡ on_label d l) → Whole c ls (d.row c) → Whole c (ls ++ (l ∷ [])) (e.row c)
  whole_next ls l d e (inl p) w = subst (λ y. Whole c (ls ++ (l ∷ [])) (y.row c)) (sym p) (whole_more ls l (d.row c) w)
  whole_next ls l d e (inr p) w = subst (λ y. Whole c (ls ++ (l ∷ [])) (y.row c)) (sym p) (whole_label ls l d w)

  module _ {S : Type 0} (m : Meaning S) (law : Lawful m) where
    whole_tables : (v : ℕ) (xs : List Aired) (hs : List (List Heard)) (ls : List Label) (t : Bool) (d : Shown S) → Good m t xs → Begins m t d.carrier → AllHeard m v d xs hs → Whole c ls (d.table.row c)
        → Whole c (ls ++ labels xs) ((shows m v d xs hs).table.row c)
    unfolding Good
    whole_tables v [] [] ls t d g b a w = subst (λ x. Whole c x (d.table.row c)) (sym (append_nil ls)) w
      where
        append_nil : (zs : List Label) → zs ++ [] ≡ zs
        append_nil [] = refl
        append_nil (z ∷ zs) = ap (λ x. z ∷ x) (append_nil zs)
    whole_tables v [] (h ∷ hs) ls t d g b a w = absurd a
    whole_tables v (x ∷ xs) [] ls t d g b a w = absurd a
    whole_tables v (x ∷ xs) (h ∷ hs) ls t d g b a w =
        let after_one = takes m x.label x.toggle v d h in
        let one = whole_next ls x.label d.table after_one.table (any_next m law v t d x h g.0 g.1 b a.0) w in
        subst (λ y. Whole c y ((shows m v after_one xs hs).table.row c)) (append_assoc ls (x.label ∷ []) (labels xs))
        (whole_tables v xs hs (ls ++ (x.label ∷ [])) (not t) after_one g.2 (begins_next m law v t d x h g.0 g.1 b a.0) a.1 one)

-- the labels that a station sends
passed : (f a s : Bool) → cond (not f) (Some LabelDoesNotFit) (cond (not a) (Some OtherText) (cond s (Some SmallBuffer) None)) ≡ None → (f ≡ true) × (a ≡ true)
passed true true s e = (refl, refl)
passed true false s e = absurd (let z : ◌≡◌ {A = ℕ} 0 1 = cc in omega arith)
passed false a s e = absurd (let z : ◌≡◌ {A = ℕ} 0 1 = cc in omega arith)

module _ {S : Type 0} (m : Meaning S) where
  pub sendable : (x : Ready) (item : ItemBits) (text : List ℕ) → m.writing.fits x.outline ≡ true → matches x.outline text ≡ true → Sendable m (label_of x.outline item text)
  sendable x item text fit same =
      let p = and_parts (eqb (length text) x.outline.len) (not (any control text)) same in
      let len : length text ≡ x.outline.len = eqb-true (length text) x.outline.len p.0 in
      record {
        fits = ap (λ n. m.writing.fits (record { len = n; tags = x.outline.tags })) len ∙ fit;
        some = subst (λ n. 1 ≤ n) (sym len) x.some;
        short = subst (λ n. n ≤ 128) (sym len) x.short;
        clean = not-true (any control text) p.1;
        sealed = subst (λ n. sealable n x.outline.tags ≡ true) (sym len) x.right;
      }

  sendable_sent : (x : Ready) (text : List ℕ) (room : ℕ) (s : Vars) → send_refusal m.writing x.outline text room ≡ None → Sendable m (label_of x.outline s.item text)
  sendable_sent x text room s e =
      let both = passed (m.writing.fits x.outline) (matches x.outline text) (ltb room (21 * m.writing.count x.outline)) e in
      sendable x s.item text both.0 both.1

  good_next : (s : Vars) (c : Call) (room : ℕ) (o : Option Refusal) (xs : List Aired) → call_refusal m s c room ≡ o → Good m (left o (call_vars s c) s).toggle xs → Good m s.toggle (left o (puts_out s c xs) xs)
  unfolding Good
  good_next s start room None xs e g = g
  good_next s end room None xs e g = g
  good_next s (send x text) room None xs e g = (refl, sendable_sent x text room s e, g)
  good_next s start room (Some r) xs e g = g
  good_next s end room (Some r) xs e g = g
  good_next s (send x text) room (Some r) xs e g = g

  good_aired : (ms : List Made) (s : Vars) → Good m s.toggle (aired m s ms)
  unfolding Good aired
  good_aired [] s = tt
  good_aired (a ∷ ms) s = good_next s a.call a.room (call_refusal m s a.call a.room) (aired m (call_step m s a) ms) refl (good_aired ms (call_step m s a))

-- one carrier
module _ {S : Type 0} (m : Meaning S) (law : Lawful m) (v : ℕ) (ms : List Made) (hs : List (List Heard)) (all : AllHeard m v (new_display m) (on_air m ms) hs) where
  air_labels : labels (on_air m ms) ≡ sent_labels (history_on m [] ms)
  air_labels = ap labels (aired_new m ms) ∙ labels_by (history_on m [] ms)

  held_rules : AllFull m (on_air m ms) hs → (c : ℕ) → held m v ms hs c ≡ (on_labels empty (sent_labels (history_on m [] ms))).row c
  held_rules f c =
      ap (λ d. d.row c) (full_tables m law v (on_air m ms) hs false (new_display m) (good_aired m ms new_vars) (inl refl) all f)
      ∙ ap (λ ls. (on_labels empty ls).row c) air_labels

  told_by : Told m v ms hs
  told_by = record {
    refuses = replies_new m ms;
    sends = aired_new m ms;
    variables = vars_new m ms;
    holds = λ f c. subst (Holds c (sent_labels (history_on m [] ms))) (sym (held_rules f c)) (rules_hold (sent_labels (history_on m [] ms)) c);
    whole = λ c. subst (λ ls. Whole c ls (held m v ms hs c)) air_labels
        (whole_tables c m law v (on_air m ms) hs [] false (new_display m) (good_aired m ms new_vars) (inl refl) all (inl refl));
  }

pub told_by_history : {S : Type 0} (m : Meaning S) → Lawful m → ToldByHistory m
told_by_history m law v ms hs all = told_by m law v ms hs all

-- two carriers
module _ {S : Type 0} (m : Meaning S) (law : Lawful m) (v : ℕ) (ms : List Made) (hs : List (List Heard)) (run : Run m v ms hs) where
  same_labels : sent_labels (history_on m [] ms) ≡ sent_by (calls ms)
  same_labels = ap sent_labels (history_ample m ms [] run.ample)

  faithful : Faithful m v ms hs
  faithful =
      let Told-here = told_by m law v ms hs run.heard in
      record {
        refuses = Told-here.refuses ∙ refusals_ample m ms [] run.ample;
        sends = Told-here.sends ∙ ap aired_by (history_ample m ms [] run.ample);
        holds = λ f c. subst (λ ls. Holds c ls (held m v ms hs c)) same_labels (Told-here.holds f c);
        whole = λ c. subst (λ ls. Whole c ls (held m v ms hs c)) same_labels (Told-here.whole c);
      }

  held_sent : AllFull m (on_air m ms) hs → (c : ℕ) → held m v ms hs c ≡ (on_labels empty (sent_by (calls ms))).row c
  held_sent f c = held_rules m law v ms hs run.heard f c ∙ ap (λ ls. (on_labels empty ls).row c) same_labels

pub agreement : {S T : Type 0} (m : Meaning S) (n : Meaning T) → Lawful m → Lawful n → Agreement m n
agreement m n p q v w ms ns hs ks e r u = record {
  first = faithful m p v ms hs r;
  second = faithful n q w ns ks u;
  refuse = (faithful m p v ms hs r).refuses ∙ ap (refusals []) e ∙ sym (faithful n q w ns ks u).refuses;
  show = λ f g c. held_sent m p v ms hs r f c ∙ ap (λ cs. (on_labels empty (sent_by cs)).row c) e ∙ sym (held_sent n q w ns ks u g c);
}
