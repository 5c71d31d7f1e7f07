-- The tags of a song mark its title and its artist.
use Rattle.std.proofs.Common.{◌≡◌, ℕ, ◌+◌, ◌-◌, ◌<◌, List, [], ◌∷◌, ◌++◌, map, length, take, codes, ap, ◌∙◌, arith}
use Rattle.std.proofs.lemmas.List.{append_assoc, length-append, take_at, take_all, drop_at}
use Rattle.label.specs.declared.tag.Tag.{Tag}
use Rattle.programme.specs.Labels.{song_text, marked_by}

module _ (title artist : List ℕ) where
  abbrev title_tag : Tag
  title_tag = record { class = 1; start = 22; extent = length title - 1 }

  abbrev artist_tag : Tag
  artist_tag = record { class = 4; start = length title + 27; extent = length artist - 1 }

  title_marked : 0 < length title → marked_by (song_text title artist) title_tag ≡ title
  title_marked h =
      ap (take (length title - 1 + 1)) (append_assoc title (codes "\" by ") artist)
      ∙ take_at title (codes "\" by " ++ artist) (length title - 1 + 1) (omega arith)

  artist_marked : 0 < length artist → marked_by (song_text title artist) artist_tag ≡ artist
  artist_marked h =
      let front = codes "You are listening to \"" ++ title ++ codes "\" by " in
      let long : length front ≡ length title + 27 =
      length-append (codes "You are listening to \"" ++ title) (codes "\" by ") ∙ omega (arith, length-append (codes "You are listening to \"") title) in
      ap (take (length artist - 1 + 1)) (drop_at front artist (length title + 27) long)
      ∙ take_all (length artist - 1 + 1) artist (omega arith)

  pub song_marks : (text : List ℕ) (tags : List Tag) → 0 < length title → 0 < length artist →
      text ≡ song_text title artist → tags ≡ title_tag ∷ (artist_tag ∷ []) → map (marked_by text) tags ≡ title ∷ (artist ∷ [])
  song_marks text tags t a p q =
      ap (λ x. map (marked_by x) tags) p ∙ ap (map (marked_by (song_text title artist))) q
      ∙ ap (λ x. x ∷ (marked_by (song_text title artist) artist_tag ∷ [])) (title_marked t)
      ∙ ap (λ x. title ∷ (x ∷ [])) (artist_marked a)
