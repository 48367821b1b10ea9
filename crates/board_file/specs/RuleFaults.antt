-- The rules of a board file, one by one.
--     row_of      the fault of a file in which a rule is broken, and the key at which it is
--     fault_of, key_of      each of these. A rule of keys is broken at any key, and a slot has none
use Rattle.std.specs.Prelude.{ℕ, List, [], codes}
use Rattle.board_file.specs.{Schema.register_key}
use Rattle.board_file.specs.declared.{fault.BoardFault.{BoardFault, TheVariants.{Key, UnknownKey, Number, TooMany, Place, Register, Size, GuestName, Slot, Aperture, CellMasks}}, rule.Rule.Rule}
use Rattle.board_file.specs.declared.rule.Rule.TheVariants as rule

abbrev pub row_of : Rule → BoardFault × List ℕ
row_of rule.Needed = (Key, [])
row_of rule.Form = (Key, [])
row_of rule.Known = (UnknownKey, [])
row_of rule.Vendor = (Number, codes "vendor")
row_of (rule.Byte k) = (Number, register_key k)
row_of (rule.HalfWord k) = (Number, register_key k)
row_of rule.Class = (Number, codes "class")
row_of rule.Pin = (Number, codes "pin")
row_of rule.Status = (Number, codes "status")
row_of rule.FixedStatus = (Number, codes "fixed_status")
row_of rule.FixedSecondaryStatus = (Number, codes "fixed_secondary_status")
row_of rule.Multifunction = (Number, codes "multifunction")
row_of rule.Devices = (Number, codes "devices")
row_of rule.BarBlock = (Number, codes "block")
row_of rule.ConfigOff = (Number, codes "off")
row_of rule.ConfigBlock = (Number, codes "block")
row_of rule.ConfigEnd = (Number, codes "block")
row_of rule.CapabilityId = (Number, codes "id")
row_of rule.CapabilityOff = (Number, codes "off")
row_of rule.CapabilityBlock = (Number, codes "block")
row_of rule.Slashes = (TooMany, codes "at")
row_of rule.Functions = (TooMany, codes "endpoint")
row_of rule.Guests = (TooMany, codes "guest")
row_of rule.Slots = (TooMany, codes "slots")
row_of rule.Index = (Register, codes "index")
row_of rule.Size = (Size, codes "size")
row_of rule.BlockFits = (Size, codes "block")
row_of rule.Name = (GuestName, codes "name")
row_of rule.BarMasks = (CellMasks, codes "block")
row_of rule.ConfigMasks = (CellMasks, codes "block")
row_of rule.Path = (Place, codes "at")
row_of rule.OwnPlace = (Place, codes "at")
row_of rule.BehindBridge = (Place, codes "at")
row_of rule.FunctionZero = (Place, codes "at")
row_of rule.OwnRegisters = (Register, codes "bar")
row_of rule.OwnName = (GuestName, codes "name")
row_of rule.NamesEndpoint = (Slot, [])
row_of rule.OwnSlot = (Slot, [])
row_of rule.IoAperture = (Aperture, codes "io")
row_of rule.MemAperture = (Aperture, codes "mem")
row_of rule.PrefAperture = (Aperture, codes "pref")
row_of rule.OwnOffsets = (CellMasks, codes "off")

abbrev pub fault_of : Rule → BoardFault
fault_of r = (row_of r).0

abbrev pub key_of : Rule → List ℕ
key_of r = (row_of r).1
