-- Tags in a draft over the sill's text.
use Rattle.std.proofs.Common.{◌≡◌, ℕ, Some, None, Ok, Err, Option, Result, ap, subst, arith}
use Rattle.std.proofs.lemmas.Bool.Decides.{nat_tests}
use Rattle.label.specs.declared.refusal.Refusal.{Refusal}
use Rattle.label.specs.declared.tag.Tag.{Tag}
use Rattle.label.specs.Drafts.{tagging_refusal, tagged, done, left}
use Rattle.label.specs.Label.{Outline}
use Rattle.edge.specs.Drafting.{three_bytes, or_else, two_tags, beside}
use Rattle.edge.specs.Labels.{tag, opened, sill}

abbrev Reply : Option Refusal → Result (Unit {0}) Refusal → Type 0
Reply x r = done x tt ≡ r

pub by_start : (start : ℕ) → tagging_refusal (opened sill) (tag 56 start 2) ≡ three_bytes start
by_start start = grind (arith, nat_tests)

pub by_extent : (extent : ℕ) → two_tags (tag 1 0 extent) (tag 4 4 3) ≡ beside extent
unfolding two_tags
by_extent extent = grind (arith, nat_tests)

-- two tags are answered as the first one is where that is refused
refused : (x y : Option Refusal) (e : Refusal) → Reply x (Err e) → Reply (or_else x y) (Err e)
refused None y e r = cc
refused (Some x) y e r = r

pub first : (t u : Tag) (o : Outline) (e : Refusal) → o ≡ opened sill → Reply (tagging_refusal o t) (Err e) → Reply (two_tags t u) (Err e)
unfolding two_tags
first t u o e h r = refused _ _ e (subst (λ o. Reply (tagging_refusal o t) (Err e)) h r)

-- and as the second one is once the first came in
came_in : (x : Option Refusal) (o p q : Outline) (f : Outline → Option Refusal) → Reply x (Ok tt) → p ≡ left x q o → f p ≡ or_else x (f q)
came_in None o p q f r e = ap f e
came_in (Some x) o p q f r e = cc

pub second : (t u : Tag) (o p : Outline) → o ≡ opened sill → Reply (tagging_refusal o t) (Ok tt) → p ≡ left (tagging_refusal o t) (tagged o t) o → tagging_refusal p u ≡ two_tags t u
unfolding two_tags
second t u o p e r h =
    subst (λ o. tagging_refusal p u ≡ or_else (tagging_refusal o t) (tagging_refusal (tagged o t) u)) e
    (came_in (tagging_refusal o t) o p (tagged o t) (λ q. tagging_refusal q u) r h)
