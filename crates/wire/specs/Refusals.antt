-- The refusals by their numbers in document 01's table, with those of document 02.
use Rattle.std.specs.Prelude.{ℕ, pred, List, [], ◌∷◌, get_or, Result, Ok, Err}
use Rattle.wire.specs.Rules.{Rule, judge}
use Rattle.wire.specs.declared.refusals.Refusal.{Refusal}
use Rattle.wire.specs.declared.refusals.Refusal.TheVariants.{StartInFrame, BadEscape, BadFrameSize, CrcDiffers, UnknownMajor, UnknownWrapper, BadLength, NoSession, SessionRunOut, NoKey, ValidationDiffers, BadMessageSize, PaddingNotZero, UnknownDataType, PlainRefused, EncryptedRefused, BadMessageData, BadPacketLength, UnknownProtocol, UnknownCommand, NoMarkForMode, NoMarkForLevel, BadCommandLength, BadCommandField, NoRoom, PartOutOfTurn, MessageTooLong, NonceUsed}

abbrev pub number_of : Refusal → ℕ
number_of StartInFrame = 1
number_of BadEscape = 2
number_of BadFrameSize = 3
number_of CrcDiffers = 4
number_of UnknownMajor = 5
number_of UnknownWrapper = 6
number_of BadLength = 7
number_of NoSession = 8
number_of SessionRunOut = 9
number_of NoKey = 10
number_of ValidationDiffers = 11
number_of BadMessageSize = 12
number_of PaddingNotZero = 13
number_of UnknownDataType = 14
number_of PlainRefused = 15
number_of EncryptedRefused = 16
number_of BadMessageData = 17
number_of BadPacketLength = 18
number_of UnknownProtocol = 19
number_of UnknownCommand = 20
number_of NoMarkForMode = 21
number_of NoMarkForLevel = 22
number_of BadCommandLength = 23
number_of BadCommandField = 24
number_of NoRoom = 25
number_of PartOutOfTurn = 26
number_of MessageTooLong = 27
number_of NonceUsed = 28

-- the refusals in the order of their numbers, of which the first is 1
abbrev pub table : List Refusal
table =
    StartInFrame ∷ BadEscape ∷ BadFrameSize ∷ CrcDiffers ∷ UnknownMajor ∷ UnknownWrapper ∷ BadLength ∷ NoSession
    ∷ SessionRunOut ∷ NoKey ∷ ValidationDiffers ∷ BadMessageSize ∷ PaddingNotZero ∷ UnknownDataType ∷ PlainRefused ∷ EncryptedRefused
    ∷ BadMessageData ∷ BadPacketLength ∷ UnknownProtocol ∷ UnknownCommand ∷ NoMarkForMode ∷ NoMarkForLevel ∷ BadCommandLength ∷ BadCommandField
    ∷ NoRoom ∷ PartOutOfTurn ∷ MessageTooLong ∷ NonceUsed ∷ []

-- the refusal with a number from 1 on
abbrev pub refusal_of : ℕ → Refusal
refusal_of n = get_or table (pred n) NonceUsed

-- an answer by a refusal's number
abbrev pub refusing : {A : Type 0} → ℕ → Result A Refusal
refusing n = Err (refusal_of n)

-- what a judge answers: the refusal of the first broken rule, or that none is broken
abbrev pub checked_by : List Rule → Result (Unit {0}) Refusal
checked_by rules = judge refusing rules (Ok tt)
