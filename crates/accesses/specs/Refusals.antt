-- The refusals of events and lines, by number.
--     number_of      the number of a refusal
use Rattle.std.specs.Prelude.{ℕ}
use Rattle.accesses.specs.declared.refusal.Refusal.{Refusal, TheVariants.{Misaligned, Width, Range, BadLine, UnknownGuest, LongLine, EmptySlot, SlotTaken}}

abbrev pub number_of : Refusal → ℕ
number_of Misaligned = 301
number_of Width = 302
number_of Range = 303
number_of BadLine = 401
number_of UnknownGuest = 402
number_of LongLine = 403
number_of EmptySlot = 601
number_of SlotTaken = 602
