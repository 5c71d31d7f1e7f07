-- The words that a command begins with.
use Rattle.std.specs.Prelude.{◌≡◌, ℕ, ◌⊎◌, List, codes}

abbrev pub IsAboutLabel : List ℕ → Type 0
IsAboutLabel word =
    (word ≡ codes "open") ⊎ (word ≡ codes "tag") ⊎ (word ≡ codes "seal") ⊎ (word ≡ codes "reopen")
    ⊎ (word ≡ codes "fits") ⊎ (word ≡ codes "count") ⊎ (word ≡ codes "write")
