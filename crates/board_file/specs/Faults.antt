-- The reasons for refusing a board file.
--     number_of      the number of a fault
--     fault_words      its message
use Rattle.std.specs.Prelude.{ℕ, List, codes}
use Rattle.board_file.specs.declared.fault.BoardFault.{BoardFault, TheVariants.{NotToml, Key, UnknownKey, Number, Place, Register, Size, TooMany, GuestName, Slot, Aperture, CellMasks, Memory}}

abbrev pub number_of : BoardFault → ℕ
number_of NotToml = 101
number_of Key = 102
number_of UnknownKey = 103
number_of Number = 104
number_of Place = 105
number_of Register = 106
number_of Size = 107
number_of TooMany = 108
number_of GuestName = 109
number_of Slot = 110
number_of Aperture = 111
number_of CellMasks = 112
number_of Memory = 199

abbrev pub fault_words : BoardFault → List ℕ
fault_words NotToml = codes "not TOML"
fault_words Key = codes "key"
fault_words UnknownKey = codes "unknown key"
fault_words Number = codes "number"
fault_words TooMany = codes "too many"
fault_words Place = codes "place"
fault_words Register = codes "register"
fault_words Size = codes "size"
fault_words GuestName = codes "guest name"
fault_words Slot = codes "slot"
fault_words Aperture = codes "aperture"
fault_words CellMasks = codes "cell masks"
fault_words Memory = codes "memory"
