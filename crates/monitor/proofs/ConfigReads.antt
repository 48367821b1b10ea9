-- A number in configuration space, read in two parts: the guest's own copies, and what the host shows.
use Rattle.std.proofs.Common.{◌≡◌, ℕ, ◌+◌, ◌*◌, ◌/◌, ◌%◌, ◌<◌, ◌^◌, sym, ap, ◌∙◌, rules}
use Rattle.model_registers.{specs.{Registers.{config, File, read, number}, ByteEnables.{lanes, enables_of, IsWidth}, OwnCopies.{own_file, HoldsOwn, forwarded_byte_enables}}, proofs.ByteAccesses.{aligned_lies_in_word, number_by_lanes}}
use Rattle.host_bridge.specs.{ByIndex.file_nth, HostState.HostState}
use Rattle.monitor.{specs.{declared.guest.AssignedFunction.AssignedFunction, Configs.IsSeen}, proofs.WordSums.sum_fits}

-- what a guest's copies give of a word: a number, and the enables of the other bytes
pub record IsOwnPart (held : AssignedFunction) (word enables n others : ℕ) : Type 0 where
  pub own : n ≡ read (own_file held.own) (config word) (lanes enables)
  pub others_are : lanes others ≡ forwarded_byte_enables (config word) (lanes enables)
  pub together : (file : File) → HoldsOwn file held.own → read file (config word) (lanes enables) ≡ n + read file (config word) (lanes others)

module _ (h : HostState) (held : AssignedFunction) (seen : IsSeen h held) (word enables n others rest : ℕ) (part : IsOwnPart held word enables n others) (reads : rest ≡ read (file_nth h.state.functions held.index) (config word) (lanes others)) where
  rest_is : rest ≡ read seen.file (config word) (forwarded_byte_enables (config word) (lanes enables))
  rest_is = reads ∙ ap (read (file_nth h.state.functions held.index) (config word)) part.others_are ∙ seen.shows word (lanes enables)

  pub sum_in_word : word % 4 ≡ 0 → rest < 2 ^ 32 → n + rest < 2 ^ 32
  sum_in_word whole theirs = search (rules, rest_is, sum_fits)

  pub word_is : n + rest ≡ read seen.file (config word) (lanes enables)
  word_is = ap (λ x. n + x) (rest_is ∙ ap (read seen.file (config word)) (sym part.others_are)) ∙ sym (part.together seen.file seen.holds)

  pub number_is : (off width from out : ℕ) → word ≡ off / 4 * 4 → from ≡ off → enables ≡ enables_of from width → IsWidth width → off % width ≡ 0 → out ≡ (n + rest) / 256 ^ (from % 4)
      → out ≡ number seen.file (config off) width
  number_is off width from out at is on wide aligned lowered = search (rules, aligned_lies_in_word, number_by_lanes, word_is)
