use Rattle.std.proofs.Common.{◌≡◌, ℕ, List, Bor, Option, None, Some, Result, Ok, Err, slice_get, inr, ap, ◌∙◌}
use Rattle.std.specs.Prelude.{MatchOption}
use Rattle.std.specs.Result.{IsErrAnd}
use Rattle.script.specs.declared.fault.Fault.{Fault}
use Rattle.script.specs.declared.fault.Fault.TheVariants.{Wrong}
use Rattle.bench.specs.Words.{IsAboutLabel}
use Rattle.bench_posts.specs.Words.{IsCommand}
use Rattle.bench_posts.proofs.command.Command.parse.Goals as goal

-- words that are not about the label either
others : {A B : Type 0} (first : Option (Bor (List ℕ))) (r : Result A Fault) (s : Result B Fault) → (r ≡ Err Wrong → s ≡ Err Wrong)
    → MatchOption first (r ≡ Err Wrong) (λ w. (IsAboutLabel w.now → ⊥) → r ≡ Err Wrong)
    → MatchOption first (s ≡ Err Wrong) (λ w. (IsCommand w.now → ⊥) → s ≡ Err Wrong)
others None r s f h = f h
others (Some w) r s f h = λ none. f (h (λ about. none (inr about)))

same : {B : Type 0} (r : Result B Fault) (e : Fault) → IsErrAnd r (λ g. g ≡ e) → e ≡ Wrong → r ≡ Err Wrong
same (Ok x) e is wrong = absurd is
same (Err g) e is wrong = ap Err (is ∙ wrong)

pub returns-in_err-parse-in_default : goal.returns-in_err-parse-in_default
returns-in_err-parse-in_default c =
    let was = c.in_err-parse-in_default.was in
    let e = c.in_err-parse-in_default.field-0.0 in
    others (slice_get c.args.words.now 0) c.parse.result c.from_residual-in_err-parse-in_default.result
    (λ wrong. let q : e ≡ Wrong = cc in same c.from_residual-in_err-parse-in_default.result e c.from_residual-in_err-parse-in_default.ensures.1 q) c.parse.ensures

pub returns-in_ok-parse-in_default : goal.returns-in_ok-parse-in_default
returns-in_ok-parse-in_default c =
    let was = c.in_ok-parse-in_default.was in
    others (slice_get c.args.words.now 0) c.parse.result _ (λ wrong. cc) c.parse.ensures
