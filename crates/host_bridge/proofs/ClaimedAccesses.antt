-- An access at the claim of an address: the claimed region takes it in the word and the byte lanes in which its offset lies.
use Rattle.std.proofs.Common.{◌≡◌, ℕ, ◌+◌, ◌*◌, ◌/◌, ◌%◌, ◌^◌, ◌≤◌, List, Some, sym, ap, ap₂, subst, ◌∙◌}
use Rattle.model_registers.{specs.{Registers.{block, read, write, number, all_bytes}, ByteEnables.{lanes, IsWidth, LiesInWord, enables_of, to_lanes}, Decoding.{Space, Function}}, proofs.ByteAccesses.{aligned_lies_in_word, number_by_lanes, write_by_lanes}}
use Rattle.model_board.{specs.{State.BoardFunction, Claims.{Claim, first_claim}, Ports.{claim_reply, after_claim_write}}, proofs.ClaimLanes.claims_keep_lanes}
use Rattle.bridge_forward.specs.Lending.{endpoint_at, with_endpoint}
use Rattle.host_bridge.proofs.Lent.{HasDistinctPaths, file_at-endpoint, changed_endpoint}

-- an address has this claim
pub record IsClaimed (fs : List BoardFunction) (space : Space) (a : ℕ) (c : Claim) : Type 0 where
  pub first : first_claim fs space a ≡ Some c

module _ (fs : List BoardFunction) (space : Space) (a w : ℕ) (c : Claim) (is : IsClaimed fs space a c) where
  pub lies_in_word : IsWidth w → a % w ≡ 0 → LiesInWord c.offset w
  lies_in_word width aligned = subst (λ l. l + w ≤ 4) (sym (claims_keep_lanes fs space a c is.first)) (aligned_lies_in_word a w width aligned)

  pub number_read : (e : Function) (enables word out : ℕ) → LiesInWord c.offset w → endpoint_at fs c.path ≡ Some e → enables ≡ enables_of c.offset w
      → word ≡ read e.file (block c.index (c.offset / 4 * 4)) (lanes enables) → out ≡ word / 256 ^ (c.offset % 4) → out ≡ claim_reply fs w (first_claim fs space a)
  number_read e enables word out within there on reads lowered =
      lowered
      ∙ ap (λ n. n / 256 ^ (c.offset % 4)) (reads ∙ ap (λ enables. read e.file (block c.index (c.offset / 4 * 4)) (lanes enables)) on)
      ∙ sym (number_by_lanes e.file (block c.index c.offset) w within)
      ∙ ap (λ file. number file (block c.index c.offset) w) (sym (file_at-endpoint fs c.path e there))
      ∙ ap (claim_reply fs w) (sym is.first)

  pub number_written : (e left : Function) (enables v word : ℕ) → HasDistinctPaths fs → LiesInWord c.offset w → endpoint_at fs c.path ≡ Some e → enables ≡ enables_of c.offset w
      → word ≡ to_lanes c.offset v → left ≡ record e { file = write (lanes enables) word (block c.index (c.offset / 4 * 4)) e.file } → with_endpoint c.path left fs ≡ after_claim_write fs w v (first_claim fs space a)
  number_written e left enables v word distinct within there on moved writes =
      let p = block c.index c.offset in
      let bytes : write (lanes enables) word (block c.index (c.offset / 4 * 4)) e.file ≡ write (all_bytes w) v p e.file =
      ap₂ (λ enables x. write (lanes enables) x (block c.index (c.offset / 4 * 4)) e.file) on moved ∙ sym (write_by_lanes e.file p w v within) in
      ap (λ l. with_endpoint c.path l fs) (writes ∙ ap (λ file. let l : Function = record e { file = file } in l) bytes)
      ∙ changed_endpoint (write (all_bytes w) v p) c.path e fs distinct there
      ∙ ap (after_claim_write fs w v) (sym is.first)
