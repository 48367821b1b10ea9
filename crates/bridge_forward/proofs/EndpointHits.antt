-- What an endpoint decodes is told by its Command and its base address registers.
use Rattle.std.proofs.{Common.{◌≡◌, ℕ, zero, suc, ◌+◌, ◌*◌, ◌/◌, ◌^◌, ◌<◌, ◌≤◌, inl, inr, List, [], ◌∷◌, ◌++◌, map, refl, ap, sym, ◌∙◌, arith, rules}, Math.Nat.mod-eq_of_lt}
use Rattle.lists.specs.Elements.{Each}
use Rattle.model_registers.{specs.{Registers.{config, File, number, all_bytes}, Declarations.{Region, Kind, io_kind, mem32, mem64, registers_of, IsLawfulRegion, Endpoint}, EndpointTable.{BaseAddress, base_file, command_cells, opened, HasLawfulBases, command_mask}, Decoding.{Space, base, base_address, first_hit}, OwnCopies.bare}, proofs.{Hits.{hits_by_bases, bases_of_registers}, RegisterFiles.field_reads, Parts.read_apart}}
use Rattle.bridge_forward.{specs.EndpointParts.{region_parts, AreParts}, proofs.EndpointAccess.{lawful_bars, read_base, read_config}}

standing_bare : (file : File) (rs : List Region) → map (base_address file) (map bare rs) ≡ map (base_address file) rs
standing_bare file [] = refl
standing_bare file (r ∷ rs) = ap (λ (bs : List BaseAddress). base_address file r ∷ bs) (standing_bare file rs)

module _ (d : Endpoint) (cells : File) (bars : List BaseAddress) (g : ℕ → File) (parts : AreParts d cells bars g) (command : ℕ) where
  abbrev whole : File
  whole = cells ++ region_parts bars g

  abbrev own : File
  own = command_cells command ++ base_file bars

  same_read : (off w : ℕ) → 0x10 ≤ off → off + w ≤ 0x28 → number own (config off) w ≡ number whole (config off) w
  same_read off w low high =
      let long = length-bytes w in
      read_apart (all_bytes w) off 2 4 command command_mask 0 (base_file bars) (inr (omega arith))
      ∙ sym (read_base d cells bars g parts off (all_bytes w) low (omega (arith, long)))
    where
      length-bytes : (w : ℕ) → Rattle.std.proofs.Common.length (all_bytes w) ≡ w
      length-bytes zero = refl
      length-bytes (suc w) = ap suc (length-bytes w)

  same_base : (n : ℕ) (k : Kind) → n + registers_of k ≤ 6 → base own n k ≡ base whole n k
  same_base n io_kind h = ap (λ m. m / 4 * 4) (same_read (0x10 + 4 * n) 4 (omega arith) (omega arith))
  same_base n (mem32 p) h = ap (λ m. m / 16 * 16) (same_read (0x10 + 4 * n) 4 (omega arith) (omega arith))
  same_base n (mem64 p) h = ap (λ m. m / 16 * 16) (same_read (0x10 + 4 * n) 8 (omega arith) (omega arith))

  same_standing : (bs : List BaseAddress) → Each IsLawfulRegion (map opened bs) → map (base_address own) (map opened bs) ≡ map (base_address whole) (map opened bs)
  same_standing [] h = refl
  same_standing (b ∷ bs) h = grind (arith, same_base, same_standing bs)

  stand_same : map (base_address own) (map opened bars) ≡ map (base_address whole) d.regions
  stand_same = same_standing bars (lawful_bars d cells bars g parts).each ∙ ap (map (base_address whole)) parts.registers ∙ standing_bare whole d.regions

  -- the regions as the registers of the endpoint have them
  pub regions_now : HasLawfulBases bars → bars ≡ map (base_address whole) d.regions
  regions_now lawful = sym (bases_of_registers bars lawful command) ∙ stand_same

  module _ (is : command ≡ number cells (config 4) 2) (small : command < 2 ^ 16) where
    word_same : number own (config 4) 2 ≡ number whole (config 4) 2
    word_same = field_reads 2 4 command command_mask 0 (base_file bars) ∙ mod-eq_of_lt small ∙ is ∙ sym (read_config d cells bars g parts 4 (all_bytes 2) (inl (omega arith)))

    -- Command as its register has it
    pub command_now : command ≡ number whole (config 4) 2
    command_now = is ∙ sym (read_config d cells bars g parts 4 (all_bytes 2) (inl (omega arith)))

    pub hits_same : (space : Space) (a : ℕ) → first_hit own (map opened bars) space a ≡ first_hit whole d.regions space a
    hits_same space a = search (rules, hits_by_bases, word_same, stand_same)
