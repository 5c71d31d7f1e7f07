-- Why a call was refused, in words.
use Rattle.std.specs.Prelude.{ℕ, List, codes}
use Rattle.label.specs.declared.refusal.Refusal.{Refusal}
use Rattle.label.specs.declared.refusal.Refusal.TheVariants.{NoText, TextTooLong, ControlByte, SilentClass, PartLeavesText, SharedPosition, ClassAlreadyIn, LoneDescriptor, FourTagsIn, ItemStarted, NoItemRuns, LabelDoesNotFit, OtherText, SmallBuffer, NoSuchFrame, WrongSize, WrongCheck, WrongLength, OtherCharset, LaterSegmentZero, WrongCommand, UnusableGroup, TagsUnlawful, TagsUnlike, UnreadableClass, ShortBuffer}

abbrev pub words_of : Refusal → List ℕ
words_of NoText = codes "there is no text"
words_of TextTooLong = codes "the text has more than 128 bytes"
words_of ControlByte = codes "the text has a byte below 0x20"
words_of SilentClass = codes "a tag's class marks nothing"
words_of PartLeavesText = codes "a tag's part leaves the text"
words_of SharedPosition = codes "two tags' parts share a position"
words_of ClassAlreadyIn = codes "two tags have one class"
words_of LoneDescriptor = codes "a descriptor has no tag of another category beside it"
words_of FourTagsIn = codes "the label has four tags already"
words_of ItemStarted = codes "an item was started since the last label"
words_of NoItemRuns = codes "no item runs"
words_of LabelDoesNotFit = codes "the label does not fit this carrier"
words_of OtherText = codes "the text is not the one that the label was made for"
words_of SmallBuffer = codes "the buffer is too small"
words_of NoSuchFrame = codes "the label has no frame of this number"
words_of WrongSize = codes "no frame of this carrier has so many bytes"
words_of WrongCheck = codes "the check bytes are wrong"
words_of WrongLength = codes "the length field is wrong"
words_of OtherCharset = codes "the text is in another character set"
words_of LaterSegmentZero = codes "a later segment has the number 0"
words_of WrongCommand = codes "the command with the tags is malformed"
words_of UnusableGroup = codes "the announced group cannot carry tags"
words_of TagsUnlawful = codes "the tags are unlawful for the text"
words_of TagsUnlike = codes "the tags or item bits are not those of the complete label"
words_of UnreadableClass = codes "the class marks nothing, so nothing is held for it"
words_of ShortBuffer = codes "the buffer is shorter than the text"
