-- Which addresses a function decodes: by its Command and its bases alone.
use Rattle.std.proofs.{Common.{◌≡◌, ℕ, ◌+◌, ◌-◌, ◌*◌, ◌/◌, ◌%◌, ◌^◌, ◌<◌, ◌≤◌, true, false, List, [], ◌∷◌, ◌++◌, map, refl, sym, ap, ap₂, ◌∙◌, arith, append_assoc, lit<, lit≤}, lemmas.Nat.{shr_split, shr_high}, Math.Nat.mod-eq_of_lt}
use Rattle.lists.specs.Elements.{Each, EachPair, first_of_two, first_some}
use Rattle.model_registers.{specs.{Registers.{config, File, number, all_bytes}, Declarations.{Kind, io_kind, mem32, mem64, Region, least_size, registers_of}, EndpointTable.{base_register, type_bits, base_width, BaseAddress, register_cells, base_file, command_cells, opened, IsLawfulBase, HasLawfulBases, command_mask}, Decoding.{Space, base, base_address, hit_at, hit_of, first_hit}, BaseLaws.shown}, proofs.{RegisterFiles.field_reads, Parts.{IsBelow, read_above, field_below, below_append}, Bases.{base_room, base_multiple, size_limits, whole_bound}}}

pub hits_by_bases : (file : File) (rs : List Region) (space : Space) (a : ℕ) → first_hit file rs space a ≡ first_some (hit_at (number file (config 4) 2) space a) (map (base_address file) rs)
hits_by_bases file [] space a = refl
hits_by_bases file (r ∷ rs) space a = ap (first_of_two (hit_of file space a r)) (hits_by_bases file rs space a)

-- ---- a base reads back

down : (n t i : ℕ) → n % 2 ^ i ≡ 0 → t < 2 ^ i → (n + t) / 2 ^ i * 2 ^ i ≡ n
down n t i aligned h = grind (arith, shr_split, shr_high)

-- the base is what the register shows without its type bits
kind_shown : (kind : Kind) (n v : ℕ) (file : File) → ((i : ℕ) → 2 ^ i ≤ least_size kind → v % 2 ^ i ≡ 0) → number file (base_register n) (4 * registers_of kind) ≡ v + type_bits kind → base file n kind ≡ v
kind_shown io_kind n v file aligned h = ap (λ m. m / 4 * 4) h ∙ down v 1 2 (aligned 2 (lit≤ tt)) (lit< tt)
kind_shown (mem32 true) n v file aligned h = ap (λ m. m / 16 * 16) h ∙ down v 8 4 (aligned 4 (lit≤ tt)) (lit< tt)
kind_shown (mem32 false) n v file aligned h = ap (λ m. m / 16 * 16) h ∙ down v 0 4 (aligned 4 (lit≤ tt)) (lit< tt)
kind_shown (mem64 true) n v file aligned h = ap (λ m. m / 16 * 16) h ∙ down v 12 4 (aligned 4 (lit≤ tt)) (lit< tt)
kind_shown (mem64 false) n v file aligned h = ap (λ m. m / 16 * 16) h ∙ down v 4 4 (aligned 4 (lit≤ tt)) (lit< tt)

-- the base of cells that stand first in what is left of a file
base_reads : (b : BaseAddress) → IsLawfulBase b → (pre rest : File) (lo : ℕ) → IsBelow pre lo → lo ≤ 0x10 + 4 * b.index → base (pre ++ (register_cells b ++ rest)) b.index b.kind ≡ b.base
base_reads b lawful pre rest lo below h =
    let limits : (b.size < 2 ^ base_width b.kind) × (type_bits b.kind < b.size) = size_limits b.kind b.size lawful.size_is_lawful in
    let small : shown b < 256 ^ (4 * registers_of b.kind) = omega (arith, whole_bound b.kind, base_room b lawful) in
    kind_shown b.kind b.index b.base (pre ++ (register_cells b ++ rest)) (λ i le. base_multiple b lawful i (omega arith))
    (read_above pre lo below (all_bytes (4 * registers_of b.kind)) (register_cells b ++ rest) (0x10 + 4 * b.index) h
    ∙ field_reads (4 * registers_of b.kind) (0x10 + 4 * b.index) (shown b) (2 ^ base_width b.kind - b.size) 0 rest
    ∙ mod-eq_of_lt small)

-- ---- a file of Command and bases

later : (b : BaseAddress) (rs : List Region) → Each (λ (s : Region). b.index + registers_of b.kind ≤ s.index) rs → Each (λ (r : Region). 0x10 + 4 * b.index + 4 * registers_of b.kind ≤ 0x10 + 4 * r.index) rs
later b [] h = tt
later b (r ∷ rs) h = (omega (arith, h.0), later b rs h.1)

bases_stand : (bs : List BaseAddress) → Each IsLawfulBase bs → EachPair (λ (r s : Region). r.index + registers_of r.kind ≤ s.index) (map opened bs)
    → (file pre : File) (lo : ℕ) → file ≡ pre ++ base_file bs → IsBelow pre lo → Each (λ (r : Region). lo ≤ 0x10 + 4 * r.index) (map opened bs) → map (base_address file) (map opened bs) ≡ bs
bases_stand [] lawful order file pre lo e below above = refl
bases_stand (b ∷ bs) lawful order file pre lo e below above =
    let here : base file b.index b.kind ≡ b.base = ap (λ (f : File). base f b.index b.kind) e ∙ base_reads b lawful.0 pre (base_file bs) lo below above.0 in
    let next : ℕ = 0x10 + 4 * b.index + 4 * registers_of b.kind in
    let cells : IsBelow (register_cells b) next = field_below (4 * registers_of b.kind) (0x10 + 4 * b.index) (shown b) (2 ^ base_width b.kind - b.size) 0 next (omega arith) in
    ap₂ (λ n (more : List BaseAddress). record b { base = n } ∷ more) here
    (bases_stand bs lawful.1 order.1 file (pre ++ register_cells b) next (e ∙ sym (append_assoc pre (register_cells b) (base_file bs)))
    (below_append pre (register_cells b) lo next (omega (arith, above.0)) below cells) (later b (map opened bs) order.0))

every : (rs : List Region) → Each (λ (r : Region). 6 ≤ 0x10 + 4 * r.index) rs
every [] = tt
every (r ∷ rs) = (omega arith, every rs)

-- registers that hold these bases hold them
pub bases_of_registers : (bs : List BaseAddress) → HasLawfulBases bs → (command : ℕ) → map (base_address (command_cells command ++ base_file bs)) (map opened bs) ≡ bs
bases_of_registers bs lawful command =
    bases_stand bs lawful.each lawful.regions.in_order
    (command_cells command ++ base_file bs) (command_cells command) 6 refl (field_below 2 4 command command_mask 0 6 (omega arith)) (every (map opened bs))

pub hits_of_registers : (bs : List BaseAddress) → HasLawfulBases bs → (command : ℕ) → command < 2 ^ 16 → (space : Space) (a : ℕ)
    → first_hit (command_cells command ++ base_file bs) (map opened bs) space a ≡ first_some (hit_at command space a) bs
hits_of_registers bs lawful command small space a = grind (arith, field_reads, mod-eq_of_lt, bases_of_registers, hits_by_bases)
