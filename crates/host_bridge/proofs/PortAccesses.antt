-- An access at CONFIG_DATA: the selected word takes it in the byte lanes in which the port lies.
use Rattle.std.proofs.{Common.{◌≡◌, ℕ, ◌+◌, ◌-◌, ◌*◌, ◌/◌, ◌%◌, ◌^◌, ◌≤◌, sym, ap, ap₂, subst, ◌∙◌, arith}, lemmas.Bool.Decides.nat_tests}
use Rattle.lists.proofs.Tests.{left_true, right_true}
use Rattle.model_registers.specs.ByteEnables.{IsWidth, lanes, enables_of, to_lanes}
use Rattle.model_board.{specs.{State.State, Ports.{selected, selected_register, config_reply, after_config_write, config_data, port_target, target_reply, port_reply, after_target_write, after_port_write}}, proofs.ConfigAccesses.{config_read_by_lanes, config_write_by_lanes}}

-- the latch selects a function and a word, and the port a byte of it
abbrev IsDataTarget : ℕ → ℕ → ℕ → Type 0
IsDataTarget latch port w = config_data (selected latch) (selected_register latch + (port - 0xcfc)) ≡ port_target latch port w

record IsDataPort (port : ℕ) : Type 0 where
  from : 0xcfc ≤ port
  to : port ≤ 0xcff

data_port : (latch port w : ℕ) → IsDataTarget latch port w → IsDataPort port
data_port latch port w = grind (arith, right_true, nat_tests, left_true)

-- a byte of the word at `reg`, by a port
record IsByteOf (reg port off : ℕ) : Type 0 where
  word : off / 4 * 4 ≡ reg
  lane : off % 4 ≡ port % 4
  halves : port % 2 ≡ 0 → off % 2 ≡ 0

byte_of : (latch port : ℕ) → IsDataPort port → IsByteOf (selected_register latch) port (selected_register latch + (port - 0xcfc))
byte_of latch port h = record { word = omega (arith, h.from, h.to); lane = omega (arith, h.from, h.to); halves = λ k. omega (arith, h.from, h.to) }

aligned_byte : (reg port off w : ℕ) → IsByteOf reg port off → IsWidth w → port % w ≡ 0 → off % w ≡ 0
aligned_byte reg port off w h e k = grind arith

-- an access at CONFIG_DATA in code: the latch and the address are known by equations
module _ (s : State) (latch port a w : ℕ) (width : IsWidth w) (aligned : port % w ≡ 0) (latch_is : latch ≡ s.latch) (a_is : a ≡ port) (target : IsDataTarget latch port w) where
  here : IsDataTarget s.latch port w
  here = subst (λ l. IsDataTarget l port w) latch_is target

  byte : IsByteOf (selected_register s.latch) port (selected_register s.latch + (port - 0xcfc))
  byte = byte_of s.latch port (data_port s.latch port w here)

  aligned_offset : (selected_register s.latch + (port - 0xcfc)) % w ≡ 0
  aligned_offset = aligned_byte (selected_register s.latch) port (selected_register s.latch + (port - 0xcfc)) w byte width aligned

  -- the lanes of the port are those of the byte
  in_lanes : (l : ℕ) → l ≡ enables_of a w → l ≡ enables_of (selected_register s.latch + (port - 0xcfc)) w
  in_lanes l on = on ∙ ap (λ n. enables_of n w) a_is ∙ ap (λ k. (2 ^ w - 1) * 2 ^ k) (sym byte.lane)

  pub port_read : (enables got out : ℕ) → enables ≡ enables_of a w → got ≡ config_reply s.functions (selected s.latch) (selected_register s.latch) (lanes enables)
      → out ≡ got / 256 ^ (a % 4) → out ≡ port_reply s port w
  port_read enables got out on reads lowered =
      let at = selected s.latch in
      lowered
      ∙ ap₂ (λ n l. n / 256 ^ l) (reads ∙ ap₂ (λ p enables. config_reply s.functions at p (lanes enables)) (sym byte.word) (in_lanes enables on)) (ap (λ n. n % 4) a_is ∙ sym byte.lane)
      ∙ sym (config_read_by_lanes s.functions at (selected_register s.latch + (port - 0xcfc)) w width aligned_offset)
      ∙ ap (target_reply s port w) here

  pub port_written : (enables v moved : ℕ) → enables ≡ enables_of a w → moved ≡ to_lanes a v
      → record s { functions = after_config_write s.functions (selected s.latch) (selected_register s.latch) (lanes enables) moved } ≡ after_port_write s port w v
  port_written enables v moved on is =
      let at = selected s.latch in
      let bytes : moved ≡ to_lanes (selected_register s.latch + (port - 0xcfc)) v = is ∙ ap (λ n. to_lanes n v) a_is ∙ ap (λ l. v * 256 ^ l % 2 ^ 32) (sym byte.lane) in
      ap (λ fs. let t : State = record s { functions = fs } in t)
      (ap (λ p. after_config_write s.functions at p (lanes enables) moved) (sym byte.word)
      ∙ ap₂ (λ enables x. after_config_write s.functions at ((selected_register s.latch + (port - 0xcfc)) / 4 * 4) (lanes enables) x) (in_lanes enables on) bytes
      ∙ sym (config_write_by_lanes s.functions at (selected_register s.latch + (port - 0xcfc)) w v width aligned_offset))
      ∙ ap (after_target_write s port w v) here
