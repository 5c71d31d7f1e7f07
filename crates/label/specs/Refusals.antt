-- Each refusal's number, and the calls that may give it.
use Rattle.std.specs.Prelude.{◌≡◌, ℕ, Bool, true, ◌||◌, Some, None, Ok, Err, Option, Result, ◌==◌}
use Rattle.label.specs.declared.refusal.Refusal.{Refusal}
use Rattle.label.specs.declared.refusal.Refusal.TheVariants.{NoText, TextTooLong, ControlByte, SilentClass, PartLeavesText, SharedPosition, ClassAlreadyIn, LoneDescriptor, FourTagsIn, ItemStarted, NoItemRuns, LabelDoesNotFit, OtherText, SmallBuffer, NoSuchFrame, WrongSize, WrongCheck, WrongLength, OtherCharset, LaterSegmentZero, WrongCommand, UnusableGroup, TagsUnlawful, TagsUnlike, UnreadableClass, ShortBuffer}

-- the calls that can be refused
pub data Call : Type 0 where
  opening : Call
  tagging : Call
  item_start : Call
  item_end : Call
  frame_writing : Call
  sending : Call
  frame_taking : Call
  reading : Call

-- the calls apart from one another
abbrev pub place_of : Call → ℕ
place_of opening = 0
place_of tagging = 1
place_of item_start = 2
place_of item_end = 3
place_of frame_writing = 4
place_of sending = 5
place_of frame_taking = 6
place_of reading = 7

abbrev pub only_by : Call → Call → Bool
only_by c d = place_of c == place_of d

-- one frame of a label is written, or all are
abbrev pub by_writing : Call → Bool
by_writing d = only_by frame_writing d || only_by sending d

-- a refusal carries nothing but its number; `calls` is the set of calls that may give it
pub record Case : Type 0 where
  pub number : ℕ
  pub calls : Call → Bool

abbrev pub case_of : Refusal → Case
case_of NoText = record { number = 1; calls = only_by opening }
case_of TextTooLong = record { number = 2; calls = only_by opening }
case_of ControlByte = record { number = 3; calls = only_by opening }
case_of SilentClass = record { number = 4; calls = only_by tagging }
case_of PartLeavesText = record { number = 5; calls = only_by tagging }
case_of SharedPosition = record { number = 6; calls = only_by tagging }
case_of ClassAlreadyIn = record { number = 7; calls = only_by tagging }
case_of LoneDescriptor = record { number = 8; calls = only_by tagging }
case_of FourTagsIn = record { number = 9; calls = only_by tagging }
case_of ItemStarted = record { number = 10; calls = only_by item_start }
case_of NoItemRuns = record { number = 11; calls = only_by item_end }
case_of LabelDoesNotFit = record { number = 12; calls = by_writing }
case_of OtherText = record { number = 13; calls = by_writing }
case_of SmallBuffer = record { number = 14; calls = by_writing }
case_of NoSuchFrame = record { number = 15; calls = only_by frame_writing }
case_of WrongSize = record { number = 20; calls = only_by frame_taking }
case_of WrongCheck = record { number = 21; calls = only_by frame_taking }
case_of WrongLength = record { number = 22; calls = only_by frame_taking }
case_of OtherCharset = record { number = 23; calls = only_by frame_taking }
case_of LaterSegmentZero = record { number = 24; calls = only_by frame_taking }
case_of WrongCommand = record { number = 25; calls = only_by frame_taking }
case_of UnusableGroup = record { number = 26; calls = only_by frame_taking }
case_of TagsUnlawful = record { number = 27; calls = only_by frame_taking }
case_of TagsUnlike = record { number = 28; calls = only_by frame_taking }
case_of UnreadableClass = record { number = 30; calls = only_by reading }
case_of ShortBuffer = record { number = 31; calls = only_by reading }

-- a call is refused only by a refusal of its own
abbrev pub Own : {X : Type 0} → Call → Result X Refusal → Type 0
Own call (Ok x) = Unit {0}
Own call (Err e) = (case_of e).calls call ≡ true

abbrev pub OwnReason : Call → Option Refusal → Type 0
OwnReason call None = Unit {0}
OwnReason call (Some e) = (case_of e).calls call ≡ true
