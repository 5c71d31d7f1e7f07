-- What each fault says to whoever wrote the line.
use Rattle.std.specs.Prelude.{ℕ, List, codes}
use Rattle.programme.specs.declared.fault.Fault.{Fault}
use Rattle.programme.specs.declared.fault.Fault.TheVariants.{NoTime, NoDepth, BelowZero, TooDeep, NoSong, NothingToSay, Unknown, TooLong, NoMemory}

abbrev pub message_of : Fault → List ℕ
message_of NoTime = codes "no time such as 06:00"
message_of NoDepth = codes "the depth is no number"
message_of BelowZero = codes "the depth is below zero"
message_of TooDeep = codes "the depth is 100 metres or more"
message_of NoSong = codes "a song needs a title and an artist: song TITLE / ARTIST"
message_of NothingToSay = codes "nothing to say"
message_of Unknown = codes "neither a gauge reading, a song nor an announcement"
message_of TooLong = codes "too long for a label"
message_of NoMemory = codes "no memory for the label"
