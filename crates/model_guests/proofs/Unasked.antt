-- Worked examples that no row of tests/rows can ask: of all bytes of configuration space a guest's own copies, and what an access
-- hands on to the board.
use Rattle.std.{proofs.Common.{◌≡◌, [], ◌∷◌, true, false, refl}, specs.{Prelude.filter, List.range_with_len}}
use Rattle.model_registers.specs.{Registers.{config, block}, ByteEnables.lanes, OwnCopies.{is_own, forwarded_byte_enables}}

-- Command, Header Type and the base address registers
pub own_copies : filter (λ off. is_own (config off)) (range_with_len 0 256)
    ≡ 0x04 ∷ 0x05 ∷ 0x0e ∷ 0x10 ∷ 0x11 ∷ 0x12 ∷ 0x13 ∷ 0x14 ∷ 0x15 ∷ 0x16 ∷ 0x17 ∷ 0x18 ∷ 0x19 ∷ 0x1a ∷ 0x1b
    ∷ 0x1c ∷ 0x1d ∷ 0x1e ∷ 0x1f ∷ 0x20 ∷ 0x21 ∷ 0x22 ∷ 0x23 ∷ 0x24 ∷ 0x25 ∷ 0x26 ∷ 0x27 ∷ []
own_copies = refl

-- of Command and Status the board gets Status, of 0Ch to 0Fh all but the header type, and of a block every byte
pub handed_on_by_a_dword :
    forwarded_byte_enables (config 0x04) (lanes 15) ∷ forwarded_byte_enables (config 0x0c) (lanes 15) ∷ forwarded_byte_enables (config 0x10) (lanes 15)
    ∷ forwarded_byte_enables (config 0x28) (lanes 15) ∷ forwarded_byte_enables (block 0 4) (lanes 15) ∷ []
    ≡ lanes 12 ∷ lanes 11 ∷ lanes 0 ∷ lanes 15 ∷ lanes 15 ∷ []
handed_on_by_a_dword = refl

pub lowest_lane_first : lanes 1 ∷ lanes 6 ∷ []
    ≡ (true ∷ false ∷ false ∷ false ∷ []) ∷ (false ∷ true ∷ true ∷ false ∷ []) ∷ []
lowest_lane_first = refl
