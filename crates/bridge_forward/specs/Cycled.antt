-- The effect of a configuration cycle on bus 0.
--     reached_by fs c      the function that the cycle reaches
--     reply_to, after_access      a function's reply to the cycle, and its cells afterwards
--     cycle_reply, after_cycle      the board's reply, and its functions afterwards
use Rattle.std.specs.{Prelude.{List, ℕ, Option, option_map}, Option.option_map_or}
use Rattle.model_registers.specs.{Registers.{config, File, read, write}, ByteEnables.lanes}
use Rattle.model_board.specs.{Paths.Part, State.{BoardFunction, with_file}, Cycles.{reached_type0, reached_type1}}
use Rattle.config_bytes.specs.declared.op.Op.{Op, TheVariants.{Read, Write}}
use Rattle.bridge_forward.specs.declared.cycle.{CycleType.{CycleType, TheVariants.{Type0, Type1}}, Cycle.Cycle}

abbrev pub reached_part : List BoardFunction → CycleType → Part → Option BoardFunction
reached_part fs Type0 t = reached_type0 fs t
reached_part fs (Type1 bus) t = reached_type1 fs bus t

-- a cycle can name every device, 0 to 31
abbrev pub reached_by : List BoardFunction → Cycle → Option BoardFunction
reached_by fs c = reached_part fs c.kind (record { device = c.device; function = c.function })

-- a read returns the enabled bytes at the offset, and a write returns 0
abbrev pub reply_to : Op → ℕ → ℕ → File → ℕ
reply_to Read off enables file = read file (config off) (lanes enables)
reply_to (Write n) off enables file = 0

abbrev pub after_access : Op → ℕ → ℕ → File → File
after_access Read off enables file = file
after_access (Write n) off enables file = write (lanes enables) n (config off) file

abbrev pub cycle_reply : List BoardFunction → Cycle → Option ℕ
cycle_reply fs c = option_map (λ (f : BoardFunction). reply_to c.op c.offset c.enables f.file) (reached_by fs c)

-- functions that aren't reached don't change
abbrev pub after_cycle : List BoardFunction → Cycle → List BoardFunction
after_cycle fs c =
    option_map_or (λ (f : BoardFunction). with_file (after_access c.op c.offset c.enables) f.path fs)
    (reached_by fs c) fs
