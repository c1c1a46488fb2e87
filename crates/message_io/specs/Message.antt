-- Reading a message from a reader into a buffer. Document 01, "Programs": each program reads up to a limit, and "more gives
-- `refused 1`". The limit is one less than the buffer's length.
use Rattle.std.specs.Prelude.{◌≡◌, List, [], ℕ, ◌+◌, ◌-◌, ◌<◌, ◌≤◌, drop, length, take, Option}
use Rattle.std.specs.Io.KnownBytes.{Consumes, IsAtEnd, Keeps}
use Rattle.io.specs.Counts.{IsPrefixLen}
use Rattle.message_io.specs.declared.Ending.{Ending}
use Rattle.message_io.specs.declared.Ending.TheVariants.{TooLong, Whole}
use Rattle.message_io.specs.declared.Message.{Message}
use Rattle.message_io.specs.declared.ReadResult.{ReadResult}
use Rattle.message_io.specs.declared.ReadResult.TheVariants.{Ended, Failed, More}

-- The length n of a message, by the way in which reading ended. For a whole message, the bytes of the buffer after the first n are
-- unchanged. For a message that is too long or could not be read, n is 0.
abbrev pub ReadLength : Ending → ℕ → List ℕ → List ℕ → Type 0
ReadLength Whole n before after = drop n after ≡ drop n before
ReadLength TooLong n before after = n ≡ 0
ReadLength Ending.Failed n before after = n ≡ 0

-- Contract of reading a message: it is the front of the buffer, and its length is at most the limit.
abbrev pub ReadsMessage : List ℕ → Message → List ℕ → Type 0
ReadsMessage before m after = IsPrefixLen m.len after × (m.len ≤ length after - 1) × ReadLength m.ending m.len before after

-- What the reader had left before and after, where that is known, by the way in which reading ended. A whole message is all that the
-- reader gave up to its end. A message that is too long begins with the full buffer. After an error the reader has lost only bytes
-- that are at the front of the buffer.
abbrev pub GivesBy : Ending → ℕ → Option (List ℕ) → Option (List ℕ) → List ℕ → Type 0
GivesBy Whole n old new after = Consumes old new (take n after) × IsAtEnd new
GivesBy TooLong n old new after = Consumes old new after
GivesBy Ending.Failed n old new after = (k : ℕ) × Consumes old new (take k after)

-- Contract of reading a message from a reader: the message is the bytes that the reader gave.
abbrev pub GivesMessage : Option (List ℕ) → Option (List ℕ) → Message → List ℕ → Type 0
GivesMessage old new m after = GivesBy m.ending m.len old new after

-- ---- contracts of helper functions

-- Contract of one read at an offset. If it gave n bytes, n is at least 1, the bytes fit, and every byte before and after them is
-- unchanged.
abbrev pub Reads : List ℕ → ℕ → ReadResult → List ℕ → Type 0
Reads before from Failed after = after ≡ before
Reads before from Ended after = after ≡ before
Reads before from (More n) after =
    (0 < n) × (from + n ≤ length before) × (take from after ≡ take from before) × (drop (from + n) after ≡ drop (from + n) before)

-- What the reader gave in one read, where that is known: nothing at an error, nothing at its end, or the n bytes at the offset.
abbrev pub GivesPiece : Option (List ℕ) → Option (List ℕ) → ℕ → ReadResult → List ℕ → Type 0
GivesPiece old new from Failed after = Keeps old new
GivesPiece old new from Ended after = Consumes old new [] × IsAtEnd new
GivesPiece old new from (More n) after = Consumes old new (take n (drop from after))
