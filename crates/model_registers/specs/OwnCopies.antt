-- The registers that a guest has its own copies of: Command, header type and base address registers,
-- PCI Local Bus 3.0, chapter 6.2. The header type has no cell, because it reads 00h and ignores writes.
--     is_own p      the place belongs to one of these registers
--     OwnCopies, own_file      the values of the copies, and their cells
--     HoldsOwn file own      the file holds exactly these copies
--     forwarded_byte_enables p enables      the enables of the bytes from p on that aren't copied
use Rattle.std.specs.Prelude.{◌≡◌, ◌≤◌, ℕ, Bool, true, false, ◌&&◌, ◌||◌, not, ◌==◌, nat_le, nat_lt, if◌then◌else◌, List, [], ◌∷◌, ◌++◌, ◌+◌, map}
use Rattle.lists.specs.Elements.{Each}
use Rattle.model_registers.specs.{Registers.{Place, config, block, after, File, cell_at, read, write, raise}, Declarations.{Region, HasLawfulRegions, Endpoint}, EndpointTable.{BaseAddress, base_file, command_cells, opened, closed, endpoint_reset}, Decoding.{Space, first_hit}}

abbrev pub is_own : Place → Bool
is_own (config off) = off == 4 || off == 5 || off == 0x0e || (nat_le 0x10 off && nat_lt off 0x28)
is_own (block n off) = false

pub record OwnCopies : Type 0 where
  pub command : ℕ
  pub bases : List BaseAddress

abbrev pub own_file : OwnCopies → File
own_file own = command_cells own.command ++ base_file own.bases

abbrev pub HoldsOwn : File → OwnCopies → Type 0
HoldsOwn file own = (p : Place) → is_own p ≡ true → cell_at file p ≡ cell_at (own_file own) p

abbrev pub forwarded_byte_enables : Place → List Bool → List Bool
forwarded_byte_enables p [] = []
forwarded_byte_enables p (on ∷ ons) = (on && not (is_own p)) ∷ forwarded_byte_enables (after p) ons

-- ---- laws, for copies of lawful registers

abbrev pub IsLawfulOwn : OwnCopies → Type 0
IsLawfulOwn own = HasLawfulRegions (map opened own.bases)

-- a file that holds the copies reads the copied bytes together with the forwarded bytes
abbrev pub OwnReads : Type 0
OwnReads = (own : OwnCopies) → IsLawfulOwn own → (file : File) → HoldsOwn file own → (p : Place) (enables : List Bool)
    → read file p enables ≡ read (own_file own) p enables + read file p (forwarded_byte_enables p enables)

-- a write changes the copies directly, and all other cells through the forwarded bytes
abbrev pub OwnWrites : Type 0
OwnWrites = (own : OwnCopies) → (file : File) → HoldsOwn file own → (p q : Place) (enables : List Bool) (x : ℕ)
    → cell_at (write enables x p file) q
    ≡ (if is_own q then cell_at (write enables x p (own_file own)) q
    else cell_at (write (forwarded_byte_enables p enables) x p file) q)

-- a device can't raise bits in the copies
abbrev pub OwnStay : Type 0
OwnStay = (own : OwnCopies) (file : File) → HoldsOwn file own → (p q : Place) (m : ℕ) → is_own p ≡ true
    → cell_at (raise m p file) q ≡ cell_at file q

-- the copies alone decide what is decoded
abbrev pub bare : Region → Region
bare r = record r { cells = [] }

abbrev pub OwnHits : Type 0
OwnHits = (own : OwnCopies) → IsLawfulOwn own → (file : File) → HoldsOwn file own → (rs : List Region)
    → map bare rs ≡ map opened own.bases → (space : Space) (a : ℕ)
    → first_hit file rs space a ≡ first_hit (own_file own) (map opened own.bases) space a

-- at reset, Command and all bases are 0, whatever the device-specific registers hold
abbrev pub ResetHoldsOwn : Type 0
ResetHoldsOwn = (d : Endpoint) → Each (λ b. 0x34 ≤ b.offset) d.blocks
    → HoldsOwn (endpoint_reset d false) (record { command = 0; bases = map closed d.regions })
