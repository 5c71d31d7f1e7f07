-- The words that a command begins with: those of stations and displays, and those about the label.
use Rattle.std.specs.Prelude.{◌≡◌, ℕ, ◌⊎◌, List, codes}
use Rattle.bench.specs.Words.{IsAboutLabel}

abbrev pub IsOrder : List ℕ → Type 0
IsOrder word =
    (word ≡ codes "station") ⊎ (word ≡ codes "start") ⊎ (word ≡ codes "end") ⊎ (word ≡ codes "send")
    ⊎ (word ≡ codes "take") ⊎ (word ≡ codes "read") ⊎ (word ≡ codes "retune") ⊎ (word ≡ codes "front")

abbrev pub IsCommand : List ℕ → Type 0
IsCommand word = IsOrder word ⊎ IsAboutLabel word
