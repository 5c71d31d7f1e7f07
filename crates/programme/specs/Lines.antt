-- What a line of the programme says, or why it is refused.
use Rattle.std.specs.Prelude.{ℕ, ◌+◌, false, cond, ◌||◌, List, length, take, drop, Ok, Err, codes, Result, ◌==◌, nat_lt, slice_index}
use Rattle.std.specs.Str.{bytes_eq}
use Rattle.programme.specs.declared.entry.Entry.{Entry}
use Rattle.programme.specs.declared.entry.Entry.TheVariants.{Nothing, Reading, Song, Announcement}
use Rattle.programme.specs.declared.fault.Fault.{Fault}
use Rattle.programme.specs.declared.fault.Fault.TheVariants.{NoTime, NoSong, NothingToSay, Unknown}
use Rattle.programme.specs.Depth.{depth_of}
use Rattle.programme.specs.Numerals.{is_digit}
use Rattle.programme.specs.Rows.{trimmed, is_blank, word_of, behind_word, without_return, field, outside, slash_at}
use Rattle.programme.specs.Times.{is_time}

-- an entry by the bytes of its parts
pub data Said : Type 0 where
  nothing : Said
  reading : List ℕ → ℕ → Said
  song : List ℕ → List ℕ → Said
  announcement : List ℕ → Said

abbrev pub said_by : Entry → Said
said_by Nothing = nothing
said_by (Reading time tenths) = reading time.now tenths
said_by (Song title artist) = song title.now artist.now
said_by (Announcement text) = announcement text.now

abbrev pub heard : Result Entry Fault → Result Said Fault
heard (Ok e) = Ok (said_by e)
heard (Err f) = Err f

-- the first semicolon, 59, outside quotes parts the time from the metres, or else the first comma, 44
abbrev pub separator_at : List ℕ → ℕ
separator_at s = cond (nat_lt (outside 59 false s) (length s)) (outside 59 false s) (outside 44 false s)

abbrev pub timed : List ℕ → Result ℕ Fault → Result Said Fault
timed time (Ok tenths) = Ok (reading time tenths)
timed time (Err f) = Err f

abbrev pub reading_of : List ℕ → List ℕ → Result Said Fault
reading_of time metres = cond (is_time time) (timed time (depth_of metres)) (Err NoTime)

abbrev pub gauge_of : List ℕ → Result Said Fault
gauge_of s = reading_of (field (take (separator_at s) s)) (field (drop (separator_at s + 1) s))

abbrev pub song_in : List ℕ → List ℕ → Result Said Fault
song_in title artist = cond (length title == 0 || length artist == 0) (Err NoSong) (Ok (song title artist))

-- the first slash between spaces parts the title from the artist
abbrev pub song_of : List ℕ → Result Said Fault
song_of s = song_in (trimmed (take (slash_at s) s)) (trimmed (drop (slash_at s + 3) s))

abbrev pub announcement_of : List ℕ → Result Said Fault
announcement_of s = cond (length s == 0) (Err NothingToSay) (Ok (announcement s))

abbrev pub spoken_of : List ℕ → Result Said Fault
spoken_of s =
    cond (bytes_eq (word_of s) (codes "song")) (song_of (behind_word s))
    (cond (bytes_eq (word_of s) (codes "say")) (announcement_of (behind_word s)) (Err Unknown))

-- blank lines and remarks, which begin with '#', 35, say nothing; a reading begins with a digit or a double quote, 34
unfoldable pub entry_of : List ℕ → Result Said Fault
entry_of s =
    cond (is_blank s || slice_index s 0 == 35) (Ok nothing)
    (cond (is_digit (slice_index s 0) || slice_index s 0 == 34) (gauge_of s) (spoken_of s))

abbrev pub line_of : List ℕ → Result Said Fault
line_of line = entry_of (without_return line)
